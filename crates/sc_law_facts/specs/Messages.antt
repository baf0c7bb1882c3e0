-- What a session sends to others and to itself: stories of SCXML 6.2, 6.3 and C.1.
use Rattle.std.specs.Prelude.{List, [], ◌∷◌, codes}
use Rattle.sc_types.specs.declared.attribute.Attribute.TheVariants as attribute
use Rattle.sc_types.specs.declared.chart.Chart.{Chart}
use Rattle.sc_types.specs.declared.event.Data.TheVariants.{Absent, Pairs}
use Rattle.sc_types.specs.declared.host.To.TheVariants as to
use Rattle.sc_law_facts.specs.ChartWords.{◌&◌, cancel, chart, chart_with, deep_history, event_name, final, id, invoke, mark, on, on_do, onentry, onexit, parallel, param, plain, raise, send, send_to, src, state}
use Rattle.sc_law_facts.specs.Stories.{Story, story, story_from}
use Rattle.sc_law_facts.specs.TurnWords.{◌also◌, ◌then◌, begins, cancels_child, cancels_send, empties_queue, ends, invokes, is_cancelled, marks, pair, passes, platform, raised, receives, records, rests, resumes, sees, sends, sent, stays, with_data, with_sendid, keeps}
use Rattle.sc_law_facts.specs.ValueWords.{int, number}

-- 6.2 and 6.3: sends with a delay, and the cancel of one: the host is asked for each, in this order. The end of the
-- session asks for nothing.
abbrev pub delayed_sends : Story
delayed_sends =
    let soon = plain attribute.Delay "10ms" in
    let block = send (soon & event_name "x") [] & send (soon & event_name "z" & id "k") [] & cancel "k" in
    story (chart (state "a" (onentry block))) (
    begins (rests "a" also sends (sent "x") to.Own 10 also sends (with_sendid "k" (sent "z")) to.Own 10
    also cancels_send "k")
    then is_cancelled stays)

-- C.1: an event for the session that invoked this one, with data, also at the end.
abbrev pub sends_to_parent : Story
sends_to_parent =
    let got = send (event_name "got" & send_to "#_parent") (param "q" (int 7)) in
    let late = send (event_name "late" & send_to "#_parent") [] in
    story (chart (state "c" (onentry got & onexit late))) (
    begins (rests "c" also sends (with_data (Pairs (pair "q" (number 7))) (sent "got")) to.Parent 0)
    then is_cancelled (sends (sent "late") to.Parent 0))

abbrev speaking : Chart
speaking =
    let block = send (event_name "x" & send_to "#_scxml_nobody") [] & send (event_name "y") [] in
    chart (state "a" (onentry block & on_do "error.communication" (mark "error") & on_do "y" (mark "y")))

-- C.1: an event for a session by its name, and one without a target for the session itself, which comes back from
-- outside.
abbrev pub sends_to_sessions : Story
sends_to_sessions = story speaking (
    begins (rests "a" also sends (sent "x") (to.Session (codes "nobody")) 0 also sends (sent "y") to.Own 0)
    then receives "y" (marks "y"))

-- The host found nobody of that name, and put the error into the internal queue: the session is resumed with it.
abbrev pub resumed_by_an_error : Story
resumed_by_an_error = story_from (rests "a" also keeps (platform "error.communication")) speaking (
    resumes (empties_queue also sees (platform "error.communication") also marks "error"))

-- 5.10.1: an event of `<raise>` and one that is sent to `#_internal` are handled in the same turn, in this order.
abbrev pub internal_events : Story
internal_events =
    let block = raise "a" & send (event_name "b" & send_to "#_internal") [] in
    story (chart (state "s" (onentry block & on_do "a" (mark "a") & on_do "b" (mark "b")))) (
    begins (rests "s" also sees (raised "b") also marks "a b"))

abbrev order : Chart
order =
    let ask = onentry (send (plain attribute.Delay "1800s" & event_name "timeout" & id "to") []) in
    let unpaid = state "unpaid" (ask & onexit (cancel "to") & on "paid" "payok") in
    let payment = state "payment" (unpaid & final "payok" []) in
    let stock = state "stock" (state "check" (on "stocked" "stockok") & final "stockok" []) in
    let leave = on "timeout" "hold" & on "done.state.both" "ship" in
    let opened = state "open" (deep_history "hd" "both" & leave & parallel "both" (payment & stock)) in
    let ship = state "ship" (invoke (id "sh" & src "shipping") [] & on "done.invoke.sh" "done") in
    chart_with (plain attribute.Name "order") (opened & state "hold" (on "retry" "hd") & ship & final "done" [])

-- An order that times out after it was paid: `<onexit>` has cancelled the send, but a client may post `timeout` too. It
-- goes on from where it stood: the deep history enters `payok` again, which tells `done.state.payment` again. The
-- shipping is invoked when both regions are done, and the order ends with it.
abbrev pub order_kept_on_hold : Story
order_kept_on_hold = story order (
    begins (rests "open both payment unpaid stock check"
    also sends (with_sendid "to" (sent "timeout")) to.Own 1800000)
    then receives "paid" (rests "open both payment payok stock check" also sees (platform "done.state.payment")
    also cancels_send "to")
    then receives "timeout" (rests "hold" also records "hd" "payok check")
    then receives "retry" (rests "open both payment payok stock check" also sees (platform "done.state.payment"))
    then receives "stocked" (rests "ship" also passes "stockok" also records "hd" "payok stockok"
    also sees (platform "done.state.both") also invokes "ship" 0 "sh" "s/1" "shipping" [])
    then receives "done.invoke.sh" (passes "done" also cancels_child "s/1" also ends Absent))

-- The same order, cancelled while it waits: `<onexit>` cancels the send.
abbrev pub order_cancelled : Story
order_cancelled = story order (
    begins (rests "open both payment unpaid stock check"
    also sends (with_sendid "to" (sent "timeout")) to.Own 1800000)
    then is_cancelled (cancels_send "to"))

-- all of these
abbrev pub messages : List Story
messages = delayed_sends ∷ sends_to_parent ∷ sends_to_sessions ∷ resumed_by_an_error ∷ internal_events
    ∷ order_kept_on_hold ∷ order_cancelled ∷ []
