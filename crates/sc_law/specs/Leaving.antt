-- How states are exited (SCXML 3.9 and 6.4.3; Appendix D, exitStates).
use Rattle.std.specs.Prelude.{Bool, List, [], filter, not, reverse, ℕ, ◌==◌, ◌∷◌}
use Rattle.sc_base.specs.Ascending.{without}
use Rattle.sc_base.specs.Folds.{each}
use Rattle.sc_types.specs.declared.chart.Chart.{Chart}
use Rattle.sc_types.specs.declared.chart.Node.{Node}
use Rattle.sc_types.specs.declared.chart.Tag.{Tag}
use Rattle.sc_types.specs.declared.chart.Tag.TheVariants as tag
use Rattle.sc_types.specs.declared.effect.Effect.TheVariants.{CancelChild}
use Rattle.sc_types.specs.declared.session.Invoked.{Invoked}
use Rattle.sc_law.specs.Tree.{kids_of}
use Rattle.sc_law.specs.Records.{record_all}
use Rattle.sc_law.specs.Runs.{RunState, Running, with_configuration, with_effect}
use Rattle.sc_law.specs.Data.{with_tag}
use Rattle.sc_law.specs.Content.{run_blocks}

-- the child elements of a state that have this tag
abbrev pub blocks_of : Tag → Chart → ℕ → List Node
blocks_of t c s = with_tag t (kids_of c s)

abbrev pub is_of : ℕ → Invoked → Bool
is_of s i = i.state == s

-- 6.4.3: the invokes of a state are cancelled in the order in which they were started, and leave the list
abbrev pub cancelled : ℕ → Running → Running
cancelled s r = record (each (λ (i : Invoked). with_effect (CancelChild i.child)) (filter (is_of s) r.invokes) r) {
  invokes = filter (λ i. not (is_of s i)) r.invokes;
}

abbrev pub removed : ℕ → Running → Running
removed s r = with_configuration (without (s ∷ []) r.env.configuration) r

-- one state: its `<onexit>` blocks, for which it is still active, its invokes, and only then its removal
unfoldable pub leave : Chart → ℕ → Running → Running
leave c s r = removed s (cancelled s (run_blocks (blocks_of tag.OnExit c s) r))

-- exit order is the reverse of document order
abbrev pub leave_all : Chart → List ℕ → Running → Running
leave_all c ss r = each (leave c) (reverse ss) r

-- the states leave those whose invokes are still to be started, and the histories record, before the first is exited
unfoldable pub exit_states : Chart → List ℕ → RunState → RunState
exit_states c gone x = record {
  running = leave_all c gone (record x.running { todo = without gone x.running.todo });
  histories = record_all c x.running.env.configuration gone x.histories;
}
