-- Where an event goes that a session sends, told before anything changes. This host's own rule; only private clauses
-- cite these definitions.
use Rattle.std.specs.Prelude.{ℕ, ◌+◌, ◌<◌, if◌then◌else◌, Option, Some, None, List, map, slice_get}
use Rattle.std.specs.Option.{option_map_or}
use Rattle.std.specs.Str.{bytes_eq}
use Rattle.sc_types.specs.declared.event.Event.{Event}
use Rattle.sc_types.specs.declared.history.Delivery.TheVariants.{Dropped, Nothing, Queued}
use Rattle.sc_types.specs.declared.host.HostImage.{HostImage}
use Rattle.sc_types.specs.declared.host.InvokerImage.{InvokerImage}
use Rattle.sc_types.specs.declared.host.SessionImage.{SessionImage}
use Rattle.sc_types.specs.declared.host.To.{To}
use Rattle.sc_types.specs.declared.session.Phase.{Phase}
use Rattle.sc_machine.specs.Deliveries.{Delivered, arriving, is_cut_from, left_as, queue, receiver_name, unreachable, while_live}
use Rattle.sc_machine.specs.Hosts.{session_named}
use Rattle.sc_core.specs.declared.aims.Aim.{Aim}
use Rattle.sc_core.specs.declared.aims.Aim.TheVariants.{Reaches, Fails, Drops}

-- the receiver takes the event, where there is one
abbrev pub aim_found : Option (ℕ × SessionImage) → Aim
aim_found None = Fails
aim_found (Some found) = Reaches found.0

abbrev pub aim_named : HostImage → SessionImage → Option (List ℕ) → Aim
aim_named g s None = Fails
aim_named g s (Some name) = if is_cut_from s name then Drops else aim_found (while_live (session_named g name))

-- where an event goes that this session sends
abbrev pub aim : HostImage → SessionImage → To → Aim
aim g s who = aim_named g s (receiver_name s who)

-- the place that is reached is one of so many
abbrev pub AimsWithin : ℕ → Aim → Type 0
AimsWithin sessions (Reaches place) = place < sessions
AimsWithin sessions Fails = Unit {0}
AimsWithin sessions Drops = Unit {0}

-- the receiver at a place gets the event
abbrev pub received : HostImage → ℕ → SessionImage → Event → SessionImage → Delivered
received g to s e r = record {
  host = queue g to r (arriving s r.state.session e);
  what = Queued (g.events + 1) r.state.session;
}

-- an event is sent at an aim by the session s, which stands at a place
abbrev pub carried : HostImage → ℕ → SessionImage → Event → Aim → Delivered
carried g place s e (Reaches to) = option_map_or (received g to s e) (slice_get g.sessions to) (left_as g Nothing)
carried g place s e Fails = unreachable g place s e
carried g place s e Drops = left_as g Dropped

-- the id that an event bears which is sent to the session of this name: that of the invocation, where that session
-- invoked the sender
abbrev pub invokeid_for : Option InvokerImage → List ℕ → Option (List ℕ)
invokeid_for None name = None
invokeid_for (Some i) name = if bytes_eq i.session name then Some i.invokeid else None

-- what deliveries do not change of a session
pub record Outline : Type 0 where
  pub name : List ℕ
  pub phase : Phase
  pub invoker : Option InvokerImage

abbrev pub outline : SessionImage → Outline
outline s = record { name = s.state.session; phase = s.state.phase; invoker = s.invoker }

abbrev pub outlines : HostImage → List Outline
outlines g = map outline g.sessions
