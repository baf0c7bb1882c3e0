-- What is entered and exited, in which order, and what a final state tells: stories of SCXML 3.2 to 3.9, and of
-- Appendix D, enterStates, exitStates and exitInterpreter.
use Rattle.std.specs.Prelude.{List, [], ◌∷◌, false}
use Rattle.sc_types.specs.declared.event.Data.TheVariants.{Absent, One, Pairs}
use Rattle.sc_law_facts.specs.ChartWords.{◌&◌, atomic, chart, chart_with, content, donedata, event, event_name, final, history, id, initial, initially, log_as, mark, on, on_do, onentry, onexit, parallel, param, send, send_to, state, state_from, target, transition}
use Rattle.sc_law_facts.specs.Stories.{Story, story}
use Rattle.sc_law_facts.specs.TurnWords.{◌also◌, ◌then◌, begins, ends, is_cancelled, keeps, logs_as, marks, pair, passes, platform, receives, records, rests, sees, with_sendid}
use Rattle.sc_law_facts.specs.ValueWords.{active, boolean, event_data, int, number}

-- 3.8 and 3.9: `<onentry>` runs as the state is entered, and `<onexit>` as it is exited, also where the session is
-- cancelled.
abbrev pub greeting : Story
greeting = story (chart (state "a" (onentry (mark "+a") & onexit (mark "-a")))) (
    begins (rests "a" also marks "+a")
    then is_cancelled (marks "-a"))

-- 3.7: a final under the root ends the session, in its first turn where `initial` names it. A `<donedata>` without
-- children gives no data.
abbrev pub final_at_once : Story
final_at_once = story (chart_with (initially "f") (atomic "a" & final "f" (donedata []))) (
    begins (passes "f" also ends Absent))

-- 3.7: the session ends in the turn that enters the final.
abbrev pub top_final : Story
top_final = story (chart (state "a" (on "sent" "f") & final "f" [])) (
    begins (rests "a")
    then receives "sent" (passes "f" also ends Absent))

-- 3.2 and 3.6: `initial` of the document names a state in one region and a history in the other; parents are entered
-- before their children, in document order, and the default content of the history runs after `<onentry>` of its
-- parent. Later two regions move in one microstep; and once the history has a record, the parallel is entered by
-- default: by the `initial` of one region, and by the `<initial>` of the other, whose content runs.
abbrev pub entered_by_several_targets : Story
entered_by_several_targets =
    let r1 = state_from "r1" "a2" (atomic "a1" & state "a2" (onentry (mark "+a2") & on "e" "a1")) in
    let b1 = state "b1" (onentry (mark "+b1") & on "e" "b2") in
    let h2 = history "h2" "b1" (mark "default") in
    let r2 = state "r2" (onentry (mark "+r2") & initial "b2" (mark "initial") & h2 & b1 & state "b2" (on "g" "out")) in
    let p = parallel "p" (onentry (mark "+p") & r1 & r2) in
    story (chart_with (initially "a2 h2") (p & state "out" (on "a" "p"))) (
    begins (rests "p r1 a2 r2 b1" also marks "+p +a2 +r2 default +b1")
    then receives "e" (rests "p r1 a1 r2 b2")
    then receives "g" (rests "out" also records "h2" "b2")
    then receives "a" (rests "p r1 a2 r2 b2" also marks "+p +a2 +r2 initial"))

-- 3.7 and 5.5: a final tells `done.state` of its parent, with its data, and then of the grandparent, if that is a
-- parallel of which all regions are done; the first is handled before the parallel is left by the second. Data of a
-- final under the root are evaluated when all states are exited: `In('end')` is false.
abbrev pub done_events : Story
done_events =
    let r1 = state "r1" (state "a" (on "e" "f1") & final "f1" (donedata (content (int 7)))) in
    let r2 = state "r2" (state "b" (on "f" "f2" & on "e" "f2") & final "f2" (onentry (mark "+f2"))) in
    let p = parallel "p" (onexit (mark "-p") & on_do "done.state.r1" (log_as "done-r1" event_data) & r1 & r2) in
    let left = transition (event "done.state.p" & target "n") (mark "done-p") in
    let end = final "end" (donedata (param "q" (active "end"))) in
    story (chart (state "o" (left & p & state "n" (on "go" "end")) & end)) (
    begins (rests "o p r1 a r2 b")
    then receives "f" (rests "o p r1 a r2 f2" also sees (platform "done.state.r2") also marks "+f2")
    then receives "e" (rests "o n" also passes "f1" also sees (platform "done.state.p")
    also logs_as "done-r1" (number 7) also marks "-p done-p")
    then receives "go" (passes "end" also ends (Pairs (pair "q" (boolean false)))))

-- Appendix D, isInFinalState: a parallel is done when its child states are, and `q2`, which has none, is. So `fa` tells
-- of `q`, and `fb` of `p`, whose region `q` is a parallel itself.
abbrev pub done_within_done : Story
done_within_done =
    let q = parallel "q" (state "q1" (state "a" (on "e" "fa") & final "fa" []) & parallel "q2" []) in
    let r = state "r" (state "b" (on "f" "fb") & final "fb" [] & on_do "done.state.q" (mark "q")) in
    story (chart (state "o" (parallel "p" (on "done.state.p" "z" & q & r) & atomic "z"))) (
    begins (rests "o p q q1 a q2 r b")
    then receives "e" (rests "o p q q1 fa q2 r b" also sees (platform "done.state.q") also marks "q")
    then receives "f" (rests "o z" also passes "fb" also sees (platform "done.state.p")))

-- Appendix D, exitInterpreter: at the end `<onexit>` runs, and its error, of a send to no target there is, stays in the
-- internal queue with the send's id: no transition is taken any more.
abbrev pub fault_at_the_end : Story
fault_at_the_end =
    let to_nobody = send (event_name "f" & id "k1" & send_to "foo") [] in
    story (chart (final "x" (onexit to_nobody & donedata (content (int 4))))) (
    begins (passes "x" also keeps (with_sendid "k1" (platform "error.execution")) also ends (One (number 4))))

-- all of these
abbrev pub entry_and_exit : List Story
entry_and_exit = greeting ∷ final_at_once ∷ top_final ∷ entered_by_several_targets ∷ done_events ∷ done_within_done
    ∷ fault_at_the_end ∷ []
