-- How the host carries out what a turn asks for (SCXML 6.2, 6.3, 6.4 and C.1). The order of the tests, and which of
-- them tells the sender, is this host's own rule.
use Rattle.std.specs.Prelude.{ℕ, ◌+◌, ◌-◌, ◌^◌, ◌==◌, ◌&&◌, Bool, false, true, not, if◌then◌else◌, min, nat_le, nat_lt, Option, Some, None, is_some, option_map, List, [], ◌∷◌, ◌++◌, codes, count_by, filter, length, slice_get}
use Rattle.std.specs.Option.{option_map_or}
use Rattle.std.specs.Str.{bytes_eq}
use Rattle.sc_types.specs.Sends.{is_send, with_send}
use Rattle.sc_types.specs.declared.effect.Effect.{Effect}
use Rattle.sc_types.specs.declared.effect.Effect.TheVariants.{CancelChild, CancelSend, Forward, Invoke, Send}
use Rattle.sc_types.specs.declared.event.Data.TheVariants.{Absent}
use Rattle.sc_types.specs.declared.event.Event.{Event}
use Rattle.sc_types.specs.declared.history.Delivery.{Delivery}
use Rattle.sc_types.specs.declared.history.Delivery.TheVariants.{Born, Dropped, Flagged, Nothing, Queued, Timed, Unborn, Undone, Unreachable}
use Rattle.sc_types.specs.declared.host.HostImage.{HostImage}
use Rattle.sc_types.specs.declared.host.InvokerImage.{InvokerImage}
use Rattle.sc_types.specs.declared.host.SessionImage.{SessionImage}
use Rattle.sc_types.specs.declared.host.TimerImage.{TimerImage}
use Rattle.sc_types.specs.declared.host.To.{To}
use Rattle.sc_types.specs.declared.host.To.TheVariants as to
use Rattle.sc_types.specs.declared.limits.TheConstants.{INVOKE_DEPTH_LIMIT}
use Rattle.sc_types.specs.declared.session.Invoked.{Invoked}
use Rattle.sc_types.specs.declared.value.Value.{Value}
use Rattle.sc_law.specs.Runs.{fresh_state, platform_event}
use Rattle.sc_machine.specs.declared.limits.TheConstants.{CHILD_NAME_LIMIT}
use Rattle.sc_machine.specs.Hosts.{has_chart, is_live, is_running, session_named, session_place, with_session}

-- the host after one delivery, and what became of it
pub record Delivered : Type 0 where
  pub host : HostImage
  pub what : Delivery

-- the same of several in a row
pub record DeliveredAll : Type 0 where
  pub host : HostImage
  pub sent : List Delivery

-- nothing is changed
abbrev pub left_as : HostImage → Delivery → Delivered
left_as g what = record { host = g; what = what }

-- an event joins a session's external queue, under the next number
abbrev pub queue : HostImage → ℕ → SessionImage → Event → HostImage
queue g place s e =
    record (with_session g place
    (record s { queued = s.queued ++ record e { number = g.events + 1 } ∷ [] })) { events = g.events + 1 }

-- C.1: the name of the receiver, where there is one
abbrev pub receiver_name : SessionImage → To → Option (List ℕ)
receiver_name s to.Own = Some s.state.session
receiver_name s to.Parent = option_map (λ (i : InvokerImage). i.session) s.invoker
receiver_name s (to.Child name) = Some name
receiver_name s (to.Session name) = Some name
receiver_name s to.Nowhere = None

-- the receiver invoked the sender, and the two are cut off from one another
abbrev pub is_cut_from : SessionImage → List ℕ → Bool
is_cut_from s name = option_map_or (λ (i : InvokerImage). i.cut && bytes_eq i.session name) s.invoker false

-- 6.4: what a session sends to the one that invoked it bears the id of the invocation
abbrev pub arriving : SessionImage → List ℕ → Event → Event
arriving s name e =
    option_map_or (λ (i : InvokerImage). if bytes_eq i.session name then record e { invokeid = i.invokeid } else e)
    s.invoker e

-- C.1: the sender hears of an event that reaches nobody while it runs; whoever sent one has been stepped
abbrev pub hears : SessionImage → List ℕ → SessionImage
hears s sendid = record s {
  state = record s.state {
    internal = s.state.internal ++ platform_event (codes "error.communication") sendid Absent ∷ [];
  };
}

abbrev pub unreachable : HostImage → ℕ → SessionImage → Event → Delivered
unreachable g place s e = record {
  host = if is_running s.state.phase then with_session g place (hears s e.sendid) else g;
  what = Unreachable;
}

-- a session takes events while it lives
abbrev pub while_live : Option (ℕ × SessionImage) → Option (ℕ × SessionImage)
while_live None = None
while_live (Some found) = if is_live found.1.state.phase then Some found else None

-- the receiver gets the event, where there is one
abbrev pub send_found : HostImage → ℕ → SessionImage → List ℕ → Event → Option (ℕ × SessionImage) → Delivered
send_found g place s name e None = unreachable g place s e
send_found g place s name e (Some found) =
    record { host = queue g found.0 found.1 (arriving s name e); what = Queued (g.events + 1) name }

abbrev pub send_named : HostImage → ℕ → SessionImage → Event → Option (List ℕ) → Delivered
send_named g place s e None = unreachable g place s e
send_named g place s e (Some name) =
    if is_cut_from s name then left_as g Dropped
    else send_found g place s name e (while_live (session_named g name))

-- C.1: an event is sent by the session at a place
abbrev pub send_now : HostImage → ℕ → SessionImage → To → Event → Delivered
send_now g place s who e = send_named g place s e (receiver_name s who)

-- 6.2.4: when a delayed send comes due; no clock reaches the last moment that can be named
abbrev pub due_time : ℕ → ℕ → ℕ
due_time clock delay = min (clock + delay) (2 ^ 64 - 1)

-- the next pending send
abbrev pub next_send : HostImage → SessionImage → To → Event → ℕ → TimerImage
next_send g s who e delay = record {
  session = s.state.session;
  number = g.delayed + 1;
  due = due_time g.clock delay;
  event = e;
  to = who;
}

-- an ended session delays nothing, and past the last number of a send none is made
abbrev pub delay_send : HostImage → SessionImage → To → Event → ℕ → Delivered
delay_send g s who e delay =
    if is_live s.state.phase && nat_lt g.delayed (2 ^ 64 - 1)
    then record {
      host = record g { delayed = g.delayed + 1; timers = with_send (next_send g s who e delay) g.timers };
      what = Timed (g.delayed + 1) (due_time g.clock delay);
    }
    else left_as g Dropped

-- 6.3: the session's pending sends of an id go; no send has the empty one
abbrev pub undo : HostImage → SessionImage → List ℕ → Delivered
undo g s [] = left_as g (Undone 0)
undo g s (b ∷ id) = record {
  host = record g { timers = filter (λ t. not (is_send s.state.session (b ∷ id) t)) g.timers };
  what = Undone (count_by (is_send s.state.session (b ∷ id)) g.timers);
}

-- 6.4: the session that an invocation starts, one level below the session that invoked it
abbrev pub child_session : SessionImage → List ℕ → List ℕ → List ℕ → List (List ℕ × Value) → SessionImage
child_session s id child chart pairs = record {
  state = fresh_state child chart pairs;
  queued = [];
  flagged = false;
  invoker = Some (record { session = s.state.session; invokeid = id; cut = false });
  depth = s.depth + 1;
}

-- what a session hears of an invocation that starts nothing
abbrev pub unborn_event : List ℕ → Event
unborn_event id = record (platform_event (codes "error.communication") [] Absent) { invokeid = id }

-- the invocation leaves the list of those that run
abbrev pub without_invoke : List ℕ → SessionImage → SessionImage
without_invoke child s = record s {
  state = record s.state { invokes = filter (λ (i : Invoked). not (bytes_eq i.child child)) s.state.invokes };
}

-- the session hears of an event that the host tells while it runs
abbrev pub told : Event → SessionImage → SessionImage
told e s =
    if is_running s.state.phase then record s { state = record s.state { internal = s.state.internal ++ e ∷ [] } }
    else s

-- 6.4: the chart is installed, the child is not too deep, and its name is short and new. A session counts its children,
-- and no client starts a session of such a name, so that a name which is too long or taken never comes.
abbrev pub may_bear : HostImage → SessionImage → List ℕ → List ℕ → Bool
may_bear g s child chart =
    has_chart g chart && nat_lt s.depth INVOKE_DEPTH_LIMIT && nat_le (length child) CHILD_NAME_LIMIT
    && not (is_some (session_place g child))

abbrev pub born : HostImage → SessionImage → List ℕ → List ℕ → List ℕ → List (List ℕ × Value) → Delivered
born g s id child chart pairs = record {
  host = record g { sessions = g.sessions ++ child_session s id child chart pairs ∷ [] };
  what = Born child;
}

abbrev pub unborn : HostImage → ℕ → SessionImage → List ℕ → List ℕ → Delivered
unborn g place s id child = record {
  host = with_session g place (told (unborn_event id) (without_invoke child s));
  what = Unborn;
}

-- 6.4: a session of an installed chart is started, or the invoking session hears that none is
abbrev pub invoke : HostImage → ℕ → SessionImage → List ℕ → List ℕ → List ℕ → List (List ℕ × Value) → Delivered
invoke g place s id child chart pairs =
    if may_bear g s child chart then born g s id child chart pairs else unborn g place s id child

-- its next turn ends it, and it and its invoker hear no more of one another
abbrev pub cut_off : SessionImage → SessionImage
cut_off s = record s { flagged = true; invoker = option_map (λ (i : InvokerImage). record i { cut = true }) s.invoker }

-- the session of a name, while it lives; a session is no child of its own
abbrev pub live_child : HostImage → SessionImage → List ℕ → Option (ℕ × SessionImage)
live_child g s name = if bytes_eq name s.state.session then None else while_live (session_named g name)

-- 6.4.3: a child session that lives is cancelled
abbrev pub cancel_child : HostImage → List ℕ → Option (ℕ × SessionImage) → Delivered
cancel_child g child None = left_as g Nothing
cancel_child g child (Some found) =
    record { host = with_session g found.0 (cut_off found.1); what = Flagged child }

-- an event joins the external queue of the session of a name, where that lives
abbrev pub hand_to : HostImage → List ℕ → Event → Option (ℕ × SessionImage) → Delivered
hand_to g child e None = left_as g Dropped
hand_to g child e (Some found) = record { host = queue g found.0 found.1 e; what = Queued (g.events + 1) child }

-- an effect of the session at a place; a delay of 0 is none
abbrev pub deliver_of : HostImage → ℕ → SessionImage → Effect → Delivered
deliver_of g place s (Send e who delay) = if delay == 0 then send_now g place s who e else delay_send g s who e delay
deliver_of g place s (CancelSend id) = undo g s id
deliver_of g place s (Invoke id child chart pairs) = invoke g place s id child chart pairs
deliver_of g place s (CancelChild child) = cancel_child g child (live_child g s child)
deliver_of g place s (Forward child e) = hand_to g child e (while_live (session_named g child))

unfoldable pub deliver : HostImage → ℕ → Effect → Delivered
deliver g place effect =
    option_map_or (λ (s : SessionImage). deliver_of g place s effect) (slice_get g.sessions place) (left_as g Nothing)

-- one delivery, and then the others
abbrev pub and_then : Delivered → DeliveredAll → DeliveredAll
and_then first rest = record { host = rest.host; sent = first.what ∷ rest.sent }

-- effects are carried out in the order in which the turn made them, each on the host that the ones before it leave
abbrev pub deliver_all : HostImage → ℕ → List Effect → DeliveredAll
deliver_all g place [] = record { host = g; sent = [] }
deliver_all g place (effect ∷ effects) =
    and_then (deliver g place effect) (deliver_all (deliver g place effect).host place effects)

-- sends that come due

-- due by this moment
abbrev pub is_due : ℕ → TimerImage → Bool
is_due now t = nat_le t.due now

-- a send that came due is sent as if it were made now; the session of a pending send is always there
unfoldable pub fire : HostImage → TimerImage → Delivered
fire g t = option_map_or (λ (found : ℕ × SessionImage). send_now g found.0 found.1 t.to t.event)
    (session_named g t.session) (left_as g Dropped)

-- in the order in which they come due
abbrev pub fire_all : HostImage → List TimerImage → DeliveredAll
fire_all g [] = record { host = g; sent = [] }
fire_all g (t ∷ ts) = and_then (fire g t) (fire_all (fire g t).host ts)
