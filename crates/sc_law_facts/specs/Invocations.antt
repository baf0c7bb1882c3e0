-- Sessions that a state invokes: stories of SCXML 6.4 and 6.5, and of Appendix D, mainEventLoop.
use Rattle.std.specs.Prelude.{List, [], ◌∷◌, codes}
use Rattle.sc_types.specs.declared.attribute.Attribute.TheVariants as attribute
use Rattle.sc_types.specs.declared.chart.Chart.{Chart}
use Rattle.sc_types.specs.declared.event.Data.TheVariants.{Pairs}
use Rattle.sc_types.specs.declared.event.Event.{Event}
use Rattle.sc_types.specs.declared.expr.EventField.TheVariants as field
use Rattle.sc_types.specs.declared.host.To.TheVariants as to
use Rattle.sc_law_facts.specs.ChartWords.{◌&◌, assign, atomic, chart, cond, datamodel, event, event_name, finalize, id, invoke, log, of_type, on, on_do, parallel, param, plain, send, send_to, src, state, target, transition, var}
use Rattle.sc_law_facts.specs.Stories.{Story, story}
use Rattle.sc_law_facts.specs.TurnWords.{◌also◌, ◌then◌, begins, cancels_child, forwards, invokes, is_cancelled, logs, outer, pair, passes, platform, receives, rests, sees, sends, sent, sets, takes, with_data, with_invokeid}
use Rattle.sc_law_facts.specs.ValueWords.{◌eq◌, ◌ne◌, ◌plus◌, datum, event_data_of, event_field, int, number, string, text}

abbrev asking : Chart
asking =
    let ask = plain attribute.AutoForward "true" & id "i" & src "k" in
    let take = finalize (assign "v" (event_data_of "q")) in
    let got = transition (cond (datum "v" eq int 7) & event "got" & target "z") [] in
    chart (datamodel (var "v" (int 0)) & state "w" (invoke ask take & got) & atomic "z")

abbrev answer : Event
answer = with_invokeid "i" (with_data (Pairs (pair "q" (number 7))) (outer "got"))

-- 6.4 and 6.5: the state's invoke starts when the session rests in it. An event from there is finalized and forwarded
-- before the selection, so the condition sees what `<finalize>` assigned. The state is left, and the child cancelled.
abbrev pub finalized_before_selection : Story
finalized_before_selection = story asking (
    begins (rests "w" also sets "v" (number 0) also invokes "w" 0 "i" "s/1" "k" [])
    then takes answer (rests "z" also sets "v" (number 7) also forwards "s/1" answer also cancels_child "s/1"))

-- 6.4.1: each other external event is forwarded too, and no `<finalize>` runs.
abbrev pub other_event_forwarded : Story
other_event_forwarded = story asking (
    begins (rests "w" also sets "v" (number 0) also invokes "w" 0 "i" "s/1" "k" [])
    then receives "other" (forwards "s/1" (outer "other"))
    then is_cancelled (cancels_child "s/1"))

-- Appendix D, mainEventLoop: the second invoke is of no known type, and its error makes a round after the invokes.
-- Eventless transitions come first in it, and see the id that the first invoke has put into `t`.
abbrev pub eventless_after_invokes : Story
eventless_after_invokes =
    let first = invoke (plain attribute.IdLocation "t" & src "x") [] in
    let second = invoke (src "x" & of_type "bad") [] in
    let eventless = transition (cond (datum "t" ne text "") & target "b") [] in
    let a = state "a" (first & second & eventless & on "error.execution" "c") in
    story (chart (datamodel (var "t" (text "")) & a & atomic "b" & atomic "c")) (
    begins (rests "b" also passes "a" also sets "t" (string "a.1") also sees (platform "error.execution")
    also invokes "a" 0 "a.1" "s/1" "x" [] also cancels_child "s/1"))

-- 6.4: invokes start in document order of their states; an id that is made has the state's id and the number of the
-- child, also where the author gave the same to another. `#_ID` names the child of an invoke. A transition within the
-- parallel exits all of it: the children are cancelled in reverse order of their states, and new ones started. A param
-- is evaluated before the new id is put into its place.
abbrev pub four_children : Story
four_children =
    let s1 = state "s1" (invoke (id "s0.2" & src "c1") [] & on "a" "s1") in
    let located = invoke (plain attribute.IdLocation "t" & src "c0") (param "t" (datum "t")) in
    let who = log (event_field field.InvokeId plus event_field field.SendId) in
    let s2 = state "s2" (located & invoke (id "j" & src "gone") [] & on_do "error.communication" who) in
    let talk = send (event_name "e" & send_to "#_s0.2") [] & send (event_name "f" & send_to "#_j") [] in
    let s0 = parallel "s0" (s1 & s2 & invoke (src "c1") [] & on_do "g" talk) in
    story (chart (s0 & datamodel (var "t" (text "")))) (
    begins (rests "s0 s1 s2" also sets "t" (string "s2.3")
    also invokes "s0" 2 "s0.1" "s/1" "c1" [] also invokes "s1" 0 "s0.2" "s/2" "c1" []
    also invokes "s2" 0 "s2.3" "s/3" "c0" (pair "t" (string "")) also invokes "s2" 1 "j" "s/4" "gone" [])
    then receives "g" (sends (sent "e") (to.Child (codes "s/2")) 0 also sends (sent "f") (to.Child (codes "s/4")) 0)
    then receives "a.b" (sets "t" (string "s2.7") also cancels_child "s/3" also cancels_child "s/4"
    also cancels_child "s/2" also cancels_child "s/1"
    also invokes "s0" 2 "s0.5" "s/5" "c1" [] also invokes "s1" 0 "s0.2" "s/6" "c1" []
    also invokes "s2" 0 "s2.7" "s/7" "c0" (pair "t" (string "s2.3")) also invokes "s2" 1 "j" "s/8" "gone" [])
    then takes (with_invokeid "s0.2" (platform "error.communication")) (logs "s0.2"))

-- all of these
abbrev pub invocations : List Story
invocations = finalized_before_selection ∷ other_event_forwarded ∷ eventless_after_invokes ∷ four_children ∷ []
