-- The elementary changes of the host machine, of which `installed` makes a list. This host's own rule.
use Rattle.std.specs.Prelude.{ℕ, ◌≤◌, ◌++◌, List, [], ◌∷◌, Option, Some, None, not, filter, slice_get, true, drop}
use Rattle.std.specs.Option.{option_map_or}
use Rattle.sc_types.specs.Sends.{is_send, with_send}
use Rattle.sc_types.specs.declared.event.Event.{Event}
use Rattle.sc_types.specs.declared.host.HostImage.{HostImage}
use Rattle.sc_types.specs.declared.host.SessionImage.{SessionImage}
use Rattle.sc_types.specs.declared.host.TimerImage.{TimerImage}
use Rattle.sc_types.specs.declared.session.Phase.{Phase}
use Rattle.sc_types.specs.declared.session.Phase.TheVariants as phase
use Rattle.sc_types.specs.declared.session.SessionState.{SessionState}
use Rattle.sc_types.specs.declared.host.ChartImage.{ChartImage}
use Rattle.sc_core.specs.Bodies.{session_image}
use Rattle.sc_core.specs.declared.session.Session.{Session}
use Rattle.sc_machine.specs.Deliveries.{cut_off, queue, without_invoke}
use Rattle.sc_machine.specs.Endings.{cleared}
use Rattle.sc_machine.specs.Hosts.{with_session}

-- the session at a place is changed
abbrev pub at_session : HostImage → ℕ → (SessionImage → SessionImage) → HostImage
at_session g place f = option_map_or (λ (s : SessionImage). with_session g place (f s)) (slice_get g.sessions place) g

abbrev pub put_state : HostImage → ℕ → SessionState → HostImage
put_state g place state = at_session g place (λ s. record s { state = state })

abbrev pub take_front : HostImage → ℕ → HostImage
take_front g place = at_session g place (λ s. record s { queued = drop 1 s.queued })

abbrev pub flag : HostImage → ℕ → HostImage
flag g place = at_session g place (λ s. record s { flagged = true })

abbrev pub cut_off_at : HostImage → ℕ → HostImage
cut_off_at g place = at_session g place cut_off

abbrev pub drop_invoke : HostImage → ℕ → List ℕ → HostImage
drop_invoke g place child = at_session g place (without_invoke child)

-- a session that has ended is cleared
abbrev pub clear_in : HostImage → ℕ → SessionImage → Phase → HostImage
clear_in g place s (phase.Ended how) = cleared g place s
clear_in g place s p = g

unfoldable pub clear_at : HostImage → ℕ → HostImage
clear_at g place = option_map_or (λ (s : SessionImage). clear_in g place s s.state.phase) (slice_get g.sessions place) g

abbrev pub tell : HostImage → ℕ → Event → HostImage
tell g place e = at_session g place (λ s. record s { state = record s.state { internal = s.state.internal ++ e ∷ [] } })

-- an event joins an external queue under the next number
abbrev pub queue_at : HostImage → ℕ → Event → HostImage
queue_at g place e = option_map_or (λ (s : SessionImage). queue g place s e) (slice_get g.sessions place) g

abbrev pub with_chart : HostImage → ChartImage → HostImage
with_chart g chart = record g { charts = g.charts ++ chart ∷ [] }

abbrev pub with_started : HostImage → Session → HostImage
with_started g s = record g { sessions = g.sessions ++ session_image s ∷ [] }

abbrev pub with_send_pending : HostImage → TimerImage → HostImage
with_send_pending g t = record g { delayed = t.number; timers = with_send t g.timers }

-- the pending sends of a session and an id go
abbrev pub without_sends : HostImage → List ℕ → List ℕ → HostImage
without_sends g session id = record g { timers = filter (λ t. not (is_send session id t)) g.timers }

-- an event under a number
abbrev pub numbered : ℕ → Event → Event
numbered n e = record e { number = n }

-- the event of a send that came due, with the id of the receiver's invocation of the sender, where there is one
abbrev pub with_invokeid : Event → Option (List ℕ) → Event
with_invokeid e None = e
with_invokeid e (Some id) = record e { invokeid = id }

-- the first pending send leaves
abbrev pub lose : HostImage → HostImage
lose g = record g { timers = drop 1 g.timers }

-- the first pending send, where there is one, is due
abbrev pub IsFirstDue : ℕ → List TimerImage → Type 0
IsFirstDue clock [] = Unit {0}
IsFirstDue clock (t ∷ ts) = t.due ≤ clock
