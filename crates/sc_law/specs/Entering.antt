-- How states are entered (SCXML 3.7, 3.8 and 3.10; Appendix D, enterStates), and the events that tell of final states.
use Rattle.std.specs.Prelude.{Bool, List, [], codes, false, filter, flat_map, if◌then◌else◌, not, suc, true, unwrap_or, zero, ℕ, ◌&&◌, ◌++◌, ◌==◌}
use Rattle.std.specs.List.{list_all, list_any}
use Rattle.sc_base.specs.Ascending.{contains, with_number}
use Rattle.sc_base.specs.Folds.{each}
use Rattle.sc_types.specs.declared.chart.Chart.{Chart}
use Rattle.sc_types.specs.declared.chart.Node.{Node}
use Rattle.sc_types.specs.declared.chart.Tag.TheVariants as tag
use Rattle.sc_types.specs.declared.event.Data.{Data}
use Rattle.sc_types.specs.declared.event.Data.TheVariants.{Absent}
use Rattle.sc_types.specs.declared.event.Event.{Event}
use Rattle.sc_law.specs.Nodes.{kids}
use Rattle.sc_law.specs.Tree.{kids_of, state_count, root, state_element}
use Rattle.sc_law.specs.Configurations.{children, parent_of}
use Rattle.sc_law.specs.Entry.{EntryTriple}
use Rattle.sc_law.specs.Runs.{Running, enqueue, platform_event, state_id, with_configuration}
use Rattle.sc_law.specs.Data.{data_of, initialise, is_late}
use Rattle.sc_law.specs.Sending.{children_of, payload_from}
use Rattle.sc_law.specs.Content.{run_blocks}
use Rattle.sc_law.specs.Leaving.{blocks_of}
use Rattle.sc_law.specs.Kinds.{is_compound, is_parallel, is_final}

-- a state joins the configuration, and the states whose invokes are to be started
abbrev pub join : ℕ → Running → Running
join s r = record (with_configuration (with_number s r.env.configuration) r) {
  entered = with_number s r.entered;
  todo = with_number s r.todo;
}

-- 5.2: under late binding a state's data are initialised when it is entered first, whatever was assigned to them before
abbrev pub late_data : Chart → ℕ → Bool → Running → Running
late_data c s was_entered r =
    (if is_late c && not was_entered then each (initialise []) (data_of (state_element c s)) else (λ same. same)) r

-- 3.10: the transitions of the noted histories of a state, whose content is to run
abbrev pub noted_of : Chart → EntryTriple → ℕ → List Node
noted_of c e s = flat_map (kids_of c) (filter (λ h. parent_of c h == s) e.noted)

-- 3.6: the transition of its `<initial>`, where the state is entered by default
abbrev pub initial_of : Chart → EntryTriple → ℕ → List Node
initial_of c e s = if contains e.defaults s then flat_map kids (blocks_of tag.Initial c s) else []

-- Appendix D, isInFinalState: a compound state with an active final, a parallel whose child states are all in a final
-- state; so also a parallel without child states
unfoldable pub is_in_final : Chart → List ℕ → ℕ → ℕ → Bool
is_in_final c configuration zero s = false
is_in_final c configuration (suc n) s =
    (if is_compound c s then list_any (λ a. contains configuration a && is_final c a)
    else if is_parallel c s then list_all (is_in_final c configuration n)
    else (λ others. false)) (children c s)

-- 5.5: the data of a final state
abbrev pub done_data : Chart → ℕ → Running → Data × Running
done_data c s r =
    unwrap_or (payload_from [] (flat_map children_of (blocks_of tag.DoneData c s)) r) (Absent, r)

-- 3.7 and 5.10.1: `done.state.ID`
abbrev pub done_event : Chart → ℕ → Data → Event
done_event c s payload = platform_event (codes "done.state." ++ state_id c s) [] payload

abbrev pub tell_parallel : Chart → ℕ → Running → Running
tell_parallel c s r =
    (if is_parallel c s && is_in_final c r.env.configuration (state_count c) s then enqueue (done_event c s Absent)
    else (λ same. same)) r

-- 3.7: the parent, and then a parallel above it that this completes. The data are evaluated first, so that their errors
-- stand before the event.
abbrev pub told_parent : Chart → ℕ → Data × Running → Running
told_parent c s got = tell_parallel c (parent_of c s) (enqueue (done_event c s got.0) got.1)

abbrev pub tell_parent : Chart → ℕ → Running → Running
tell_parent c s r = told_parent c (parent_of c s) (done_data c s r)

abbrev pub stop : Running → Running
stop r = record r { stopped = true }

-- 3.7: a final under the root stops the session
abbrev pub tell_done : Chart → ℕ → Running → Running
tell_done c s r = (if parent_of c s == root c then stop else tell_parent c s) r

abbrev pub told : Chart → ℕ → Running → Running
told c s r = (if is_final c s then tell_done c s else (λ same. same)) r

-- One state: it joins the configuration, then its data, its `<onentry>` blocks, its `<initial>`, the defaults of its
-- histories, and what a final state tells. Whether it is entered first goes by the states entered before.
unfoldable pub enter_state : Chart → EntryTriple → ℕ → Running → Running
enter_state c e s r = told c s
    (run_blocks (noted_of c e s)
    (run_blocks (initial_of c e s)
    (run_blocks (blocks_of tag.OnEntry c s)
    (late_data c s (contains r.entered s) (join s r)))))

-- the states of the triple in document order
abbrev pub enter : Chart → EntryTriple → Running → Running
enter c e r = each (enter_state c e) e.states r
