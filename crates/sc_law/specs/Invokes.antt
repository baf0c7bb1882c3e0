-- Invocations (SCXML 6.4 and 6.5; Appendix D, mainEventLoop). The order of the checks is this host's own rule.
use Rattle.std.specs.Prelude.{Bool, List, [], codes, decimal, filter, if◌then◌else◌, nat_lt, true, unwrap_or, ℕ, ◌&&◌, ◌++◌, ◌+◌, ◌-◌, ◌==◌, ◌^◌, ◌||◌, ◌∷◌}
use Rattle.std.specs.List.{enumerate_from}
use Rattle.std.specs.Option.{option_map_or}
use Rattle.std.specs.Str.{bytes_eq}
use Rattle.sc_base.specs.Folds.{each}
use Rattle.sc_types.specs.declared.attribute.Attribute.TheVariants as attribute
use Rattle.sc_types.specs.declared.chart.Chart.{Chart}
use Rattle.sc_types.specs.declared.chart.Node.{Node}
use Rattle.sc_types.specs.declared.chart.Tag.TheVariants as tag
use Rattle.sc_types.specs.declared.effect.Effect.TheVariants.{Forward, Invoke}
use Rattle.sc_types.specs.declared.event.Event.{Event}
use Rattle.sc_types.specs.declared.session.Invoked.{Invoked}
use Rattle.sc_types.specs.declared.value.Value.TheVariants.{Text}
use Rattle.sc_types.specs.Attributes.{is_text_at, text_at, words_at}
use Rattle.sc_law.specs.Nodes.{kids, tag_of, is_tag}
use Rattle.sc_law.specs.Tree.{kids_of}
use Rattle.sc_law.specs.Runs.{RunState, Running, failed, state_id, with_effect, with_env, with_running}
use Rattle.sc_law.specs.Data.{set, with_tag}
use Rattle.sc_law.specs.Sending.{PairsOf, children_of, names_of, params_of}
use Rattle.sc_law.specs.Content.{run_blocks}

-- 6.4.1: the types that there are
abbrev pub invoke_type : List ℕ
invoke_type = codes "http://www.w3.org/TR/scxml/"

abbrev pub is_invoke_type : List ℕ → Bool
is_invoke_type text =
    bytes_eq text invoke_type || bytes_eq text (codes "http://www.w3.org/TR/scxml") || bytes_eq text (codes "scxml")

-- the child session `S/n` of session S (this host's own rule)
abbrev pub child_name : ℕ → Running → List ℕ
child_name number r = r.env.session ++ codes "/" ++ decimal number

-- 6.4.1: the id, which is made from the state's where none is given
abbrev pub invoke_id : Chart → ℕ → Node → ℕ → List ℕ
invoke_id c s n number = unwrap_or (text_at attribute.Id n) (state_id c s ++ codes "." ++ decimal number)

-- the effect is made, the invoke joins the list, and it is counted
abbrev pub started : ℕ → ℕ → Node → List ℕ → PairsOf → Running → Running
started s place n id pairs r = let child = child_name (r.born + 1) r in
    record (with_effect (Invoke id child (unwrap_or (text_at attribute.Src n) []) pairs) r) {
      born = r.born + 1;
      invokes = r.invokes ++ record { state = s; place = place; invokeid = id; child = child } ∷ [];
    }

-- `idlocation` gets the id before the session is started
abbrev pub start_written : ℕ → ℕ → Node → List ℕ → PairsOf → Running → Running
start_written s place n id pairs r = option_map_or (λ name.
    option_map_or (λ env. started s place n id pairs (with_env env r)) (set name (Text id) r.env) (failed [] r))
    (text_at attribute.IdLocation n) (started s place n id pairs r)

abbrev pub start_with : Chart → ℕ → ℕ → Node → PairsOf → PairsOf × Running → Running
start_with c s place n pairs got =
    start_written s place n (invoke_id c s n (got.1.born + 1)) (pairs ++ got.0) got.1

-- 6.4: the type, the count, `namelist`, the params and the write to `idlocation`, in this order; a fault starts
-- nothing, and only what is started is counted
abbrev pub start_invoke : Chart → ℕ → ℕ → Node → Running → Running
start_invoke c s place n r =
    if option_map_or is_invoke_type (text_at attribute.Type n) true && nat_lt r.born (2 ^ 64 - 1)
    then option_map_or (λ pairs. start_with c s place n pairs (params_of (children_of n) r))
    (names_of (words_at attribute.NameList n) r.env) (failed [] r)
    else failed [] r

-- the invoke elements of a state with their places among its child elements
abbrev pub invokes_of : Chart → ℕ → List (ℕ × Node)
invokes_of c s = filter (λ (p : ℕ × Node). is_tag tag.Invoke (tag_of p.1)) (enumerate_from 0 (kids_of c s))

abbrev pub start_of : Chart → ℕ → Running → Running
start_of c s r = each (λ (p : ℕ × Node). start_invoke c s p.0 p.1) (invokes_of c s) r

-- 6.4.3: the invokes of the states that were entered and not exited, in document order
unfoldable pub start_invokes : Chart → RunState → RunState
start_invokes c x = with_running (record (each (start_of c) x.running.todo x.running) { todo = [] }) x

-- 6.5, `<finalize>`: before an event of an invoked session is looked at
abbrev pub finalized : Node → Event → Invoked → Running → Running
finalized n e i r =
    (if bytes_eq i.invokeid e.invokeid then run_blocks (with_tag tag.Finalize (kids n)) else (λ same. same)) r

-- 6.4.1, `autoforward`: the event is handed on as it was received, its number included
abbrev pub forwarded : Node → Event → Invoked → Running → Running
forwarded n e i r = if is_text_at attribute.AutoForward (codes "true") n then with_effect (Forward i.child e) r else r

-- the invokes that run of this element
abbrev pub running_of : ℕ → ℕ → List Invoked → List Invoked
running_of s place invokes = filter (λ (i : Invoked). i.state == s && i.place == place) invokes

-- for each invoke its `<finalize>`, and then the event is handed on
abbrev pub finalize_at : ℕ → Event → ℕ × Node → Running → Running
finalize_at s e p r =
    each (λ i q. forwarded p.1 e i (finalized p.1 e i q)) (running_of s p.0 r.invokes) r

abbrev pub finalize_in : Chart → Event → ℕ → Running → Running
finalize_in c e s r = each (finalize_at s e) (invokes_of c s) r

-- what an external event does to the invokes of the active states, in document order (this host's own rule)
unfoldable pub finalize : Chart → Event → Running → Running
finalize c e r = each (finalize_in c e) r.env.configuration r
