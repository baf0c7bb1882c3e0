-- The host machine: what it answers to a command, and the host after it. This host's own rule.
use Rattle.std.specs.Prelude.{ℕ, ◌+◌, ◌==◌, Bool, false, true, not, if◌then◌else◌, nat_lt, is_some, Option, Some, None, Result, Ok, Err, List, [], ◌∷◌, ◌++◌, length, filter, sum_by}
use Rattle.std.specs.List.{list_any}
use Rattle.sc_types.specs.Values.{weight}
use Rattle.sc_types.specs.declared.chart.Chart.{Chart}
use Rattle.sc_types.specs.declared.chart.ChartFault.{ChartFault}
use Rattle.sc_types.specs.declared.command.Command.{Command}
use Rattle.sc_types.specs.declared.command.Command.TheVariants.{Install, Start, Post, Tick, Cancel, Step}
use Rattle.sc_types.specs.declared.command.Refusal.{Refusal}
use Rattle.sc_types.specs.declared.command.Refusal.TheVariants as refusal
use Rattle.sc_types.specs.declared.command.Reply.{Reply}
use Rattle.sc_types.specs.declared.command.Reply.TheVariants.{Installed, Started, Posted, Ticked, Cancelled, Stepped, Refused}
use Rattle.sc_types.specs.declared.event.Event.{Event}
use Rattle.sc_types.specs.declared.event.Kind.TheVariants as kind
use Rattle.sc_types.specs.declared.history.Delivery.{Delivery}
use Rattle.sc_types.specs.declared.history.LogLine.{LogLine}
use Rattle.sc_types.specs.declared.host.HostImage.{HostImage}
use Rattle.sc_types.specs.declared.host.SessionImage.{SessionImage}
use Rattle.sc_types.specs.declared.limits.TheConstants.{CLOCK_LIMIT, EVENT_NAME_LIMIT, NAME_LIMIT, PAIR_LIMIT, POST_WEIGHT_LIMIT}
use Rattle.sc_types.specs.declared.session.Cue.{Cue}
use Rattle.sc_types.specs.declared.session.Phase.{Phase}
use Rattle.sc_types.specs.declared.session.Phase.TheVariants as phase
use Rattle.sc_types.specs.declared.value.Value.{Value}
use Rattle.sc_law.specs.LegalCharts.{legal_chart_of}
use Rattle.sc_law.specs.Runs.{fresh_state, pairs_data}
use Rattle.sc_law.specs.Turn.{TurnResult, turn}
use Rattle.sc_machine.specs.Cues.{cue_of, name_of, queue_left}
use Rattle.sc_machine.specs.Deliveries.{deliver_all, fire_all, is_due, queue}
use Rattle.sc_machine.specs.Endings.{end_at}
use Rattle.sc_machine.specs.Hosts.{chart_named, has_chart, session_named, session_place, with_session}

-- what the host answers: itself after the command, the reply, what was logged, and what became of each delivery
pub record Answer : Type 0 where
  pub host : HostImage
  pub reply : Reply
  pub logs : List LogLine
  pub sent : List Delivery

-- a refused command changes nothing
abbrev pub refused : HostImage → Refusal → Answer
refused g why = record { host = g; reply = Refused why; logs = []; sent = [] }

-- an accepted command is counted
abbrev pub accepted : HostImage → Reply → List LogLine → List Delivery → Answer
accepted g reply logs sent =
    record { host = record g { commands = g.commands + 1 }; reply = reply; logs = logs; sent = sent }

abbrev pub is_too_long : ℕ → List ℕ → Bool
is_too_long limit name = nat_lt limit (length name)

-- install

abbrev pub install_read : HostImage → List ℕ → List ℕ → Result Chart ChartFault → Answer
install_read g name text (Err fault) = refused g (refusal.BadChart fault)
install_read g name text (Ok chart) =
    accepted (record g { charts = g.charts ++ record { name = name; text = text } ∷ [] }) Installed [] []

abbrev pub install : HostImage → List ℕ → List ℕ → Answer
install g name text =
    if is_too_long NAME_LIMIT name then refused g (refusal.TooLong 2)
    else (if has_chart g name then refused g refusal.NameTaken
    else install_read g name text (legal_chart_of text))

-- start

abbrev pub fresh_session : List ℕ → List ℕ → SessionImage
fresh_session session chart =
    record { state = fresh_state session chart []; queued = []; flagged = false; invoker = None; depth = 1 }

-- 47 is `/`, which only the names of invoked sessions have
abbrev pub has_slash : List ℕ → Bool
has_slash name = list_any (λ b. b == 47) name

abbrev pub start : HostImage → List ℕ → List ℕ → Answer
start g session chart =
    if is_too_long NAME_LIMIT session then refused g (refusal.TooLong 1)
    else (if is_too_long NAME_LIMIT chart then refused g (refusal.TooLong 2)
    else (if has_slash session then refused g refusal.BadName
    else (if not (has_chart g chart) then refused g refusal.NoChart
    else (if is_some (session_place g session) then refused g refusal.NameTaken
    else accepted (record g { sessions = g.sessions ++ fresh_session session chart ∷ [] }) Started [] []))))

-- post

-- what a pair weighs: its name, 4, and its value
abbrev pub pair_weight : List ℕ × Value → ℕ
pair_weight p = length p.0 + 4 + weight p.1

abbrev pub weight_of : List (List ℕ × Value) → ℕ
weight_of pairs = sum_by pair_weight pairs

-- the event that a post makes, without its number
abbrev pub posted_event : List ℕ → List (List ℕ × Value) → Event
posted_event name pairs = record {
  number = 0;
  name = name;
  kind = kind.External;
  sendid = [];
  origin = [];
  origintype = [];
  invokeid = [];
  payload = pairs_data pairs;
}

abbrev pub post_to : HostImage → ℕ → SessionImage → Phase → Event → Answer
post_to g place s (phase.Ended how) e = refused g (refusal.Ended how)
post_to g place s p e = accepted (queue g place s e) (Posted (g.events + 1)) [] []

abbrev pub post_found : HostImage → Option (ℕ × SessionImage) → Event → Answer
post_found g None e = refused g refusal.NoSession
post_found g (Some found) e = post_to g found.0 found.1 found.1.state.phase e

abbrev pub post : HostImage → List ℕ → List ℕ → List (List ℕ × Value) → Answer
post g session name pairs =
    if is_too_long EVENT_NAME_LIMIT name then refused g (refusal.TooLong 3)
    else (if nat_lt PAIR_LIMIT (length pairs) then refused g (refusal.TooLong 4)
    else (if nat_lt POST_WEIGHT_LIMIT (weight_of pairs) then refused g (refusal.TooLong 5)
    else post_found g (session_named g session) (posted_event name pairs)))

-- tick

-- the sends that come due leave the pending ones, and are sent
abbrev pub advance : HostImage → ℕ → Answer
advance g now =
    let due = filter (is_due now) g.timers in
    let fired = fire_all (record g { clock = now; timers = filter (λ t. not (is_due now t)) g.timers }) due in
    accepted fired.host (Ticked (length due)) [] fired.sent

abbrev pub tick : HostImage → ℕ → Answer
tick g ticks =
    if nat_lt CLOCK_LIMIT (g.clock + ticks) then refused g refusal.ClockFull else advance g (g.clock + ticks)

-- cancel

abbrev pub cancel_to : HostImage → ℕ → SessionImage → Phase → Answer
cancel_to g place s (phase.Ended how) = refused g (refusal.Ended how)
cancel_to g place s p = accepted (with_session g place (record s { flagged = true })) Cancelled [] []

abbrev pub cancel : HostImage → Option (ℕ × SessionImage) → Answer
cancel g None = refused g refusal.NoSession
cancel g (Some found) = cancel_to g found.0 found.1 found.1.state.phase

-- step

-- the state after the turn; an external event has left the queue
abbrev pub put_in : SessionImage → Cue → TurnResult → SessionImage
put_in s cue t = record s { state = t.after; queued = queue_left cue s.queued }

-- the state after the turn is put in, then the turn's effects are carried out, and then what goes with the session's
-- end
abbrev pub step_turn : HostImage → ℕ → SessionImage → Cue → TurnResult → Answer
step_turn g place s cue t =
    let delivered = deliver_all (with_session g place (put_in s cue t)) place t.effects in
    let ended = end_at delivered.host place in
    accepted ended.host (Stepped (name_of cue)) t.logs (delivered.sent ++ ended.sent)

abbrev pub step_cue : HostImage → ℕ → SessionImage → Option Cue → Answer
step_cue g place s None = refused g refusal.Idle
step_cue g place s (Some cue) = step_turn g place s cue (turn (chart_named g s.state.chart) s.state cue)

abbrev pub step_in : HostImage → ℕ → SessionImage → Phase → Answer
step_in g place s (phase.Ended how) = refused g (refusal.Ended how)
step_in g place s p = step_cue g place s (cue_of s)

abbrev pub step : HostImage → Option (ℕ × SessionImage) → Answer
step g None = refused g refusal.NoSession
step g (Some found) = step_in g found.0 found.1 found.1.state.phase

unfoldable pub answer : HostImage → Command → Answer
answer g (Install name text) = install g name text
answer g (Start session chart) = start g session chart
answer g (Post session name pairs) = post g session name pairs
answer g (Tick ticks) = tick g ticks
answer g (Cancel session) = cancel g (session_named g session)
answer g (Step session) = step g (session_named g session)
