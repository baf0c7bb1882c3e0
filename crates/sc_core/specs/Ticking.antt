-- What is drafted of a send that comes due, before anything changes. This host's own rule; only private clauses cite
-- these definitions.
use Rattle.std.specs.Prelude.{ℕ, ◌≡◌, ◌+◌, if◌then◌else◌, Option, Some, None, List, [], ◌∷◌, ◌++◌, codes, slice_get}
use Rattle.sc_types.specs.declared.event.Data.TheVariants.{Absent}
use Rattle.sc_types.specs.declared.event.Event.{Event}
use Rattle.sc_types.specs.declared.history.Delivery.{Delivery}
use Rattle.sc_types.specs.declared.history.Delivery.TheVariants.{Dropped, Nothing, Queued, Unreachable}
use Rattle.sc_types.specs.declared.host.HostImage.{HostImage}
use Rattle.sc_types.specs.declared.host.InvokerImage.{InvokerImage}
use Rattle.sc_types.specs.declared.host.SessionImage.{SessionImage}
use Rattle.sc_types.specs.declared.host.TimerImage.{TimerImage}
use Rattle.sc_types.specs.declared.session.Phase.{Phase}
use Rattle.sc_law.specs.Runs.{platform_event}
use Rattle.sc_core.specs.Aims.{aim, invokeid_for}
use Rattle.sc_core.specs.Changes.{numbered, with_invokeid}
use Rattle.sc_machine.specs.Hosts.{is_running, session_named}
use Rattle.sc_core.specs.declared.aims.Aim.{Aim}
use Rattle.sc_core.specs.declared.aims.Aim.TheVariants.{Reaches, Fails, Drops}
use Rattle.sc_core.specs.declared.change.Change.{Change}
use Rattle.sc_core.specs.declared.change.Change.TheVariants.{Lose, Queue, Tell}
use Rattle.sc_core.specs.declared.ticks.TickDraft.{TickDraft}

-- the changes that a send makes, what becomes of it, and the number of the last event after it
pub record Fired (P : Type 0) : Type 0 where
  pub changes : List (Change P)
  pub what : Delivery
  pub events : ℕ

-- the send goes to nobody
abbrev pub fired_lost : {P : Type 0} → ℕ → Delivery → Fired P
fired_lost n what = record { changes = Lose ∷ []; what = what; events = n }

-- what a sender hears of an event that reaches nobody, by the id of the send
abbrev pub failure_of : List ℕ → Event
failure_of sendid = platform_event (codes "error.communication") sendid Absent

-- it reaches nobody, and the sender, which stands at a place, hears of it while it runs
abbrev pub fired_failed : {P : Type 0} → ℕ → ℕ → Phase → List ℕ → Fired P
fired_failed n place phase sendid = record {
  changes = Lose ∷ (if is_running phase then Tell place (failure_of sendid) ∷ [] else []);
  what = Unreachable;
  events = n;
}

-- its event joins the external queue of the session at a place, which has this name
abbrev pub fired_at : {P : Type 0} → ℕ → ℕ → Option InvokerImage → Event → List ℕ → Fired P
fired_at n place invoker e name = record {
  changes = Lose ∷ Queue place (numbered (n + 1) (with_invokeid e (invokeid_for invoker name))) ∷ [];
  what = Queued (n + 1) name;
  events = n + 1;
}

abbrev pub fired_to : {P : Type 0} → ℕ → ℕ → Option InvokerImage → Event → Option SessionImage → Fired P
fired_to n place invoker e None = fired_lost n Nothing
fired_to n place invoker e (Some receiver) = fired_at n place invoker e receiver.state.session

-- the sender is this session, which stands at a place
abbrev pub fired_by : {P : Type 0} → HostImage → ℕ → TimerImage → ℕ → SessionImage → Aim → Fired P
fired_by g n t place s (Reaches to) = fired_to n to s.invoker t.event (slice_get g.sessions to)
fired_by g n t place s Fails = fired_failed n place s.state.phase t.event.sendid
fired_by g n t place s Drops = fired_lost n Dropped

abbrev pub fired_from : {P : Type 0} → HostImage → ℕ → TimerImage → Option (ℕ × SessionImage) → Fired P
fired_from g n t None = fired_lost n Dropped
fired_from g n t (Some found) = fired_by g n t found.0 found.1 (aim g found.1 t.to)

-- a send that comes due, when so many events have numbers
abbrev pub fired : {P : Type 0} → HostImage → ℕ → TimerImage → Fired P
fired g n t = fired_from g n t (session_named g t.session)

-- what a send makes is added to a draft
pub record Adds {P : Type 0} (f : Fired P) (old new : TickDraft P) : Type 0 where
  pub changes : new.changes ≡ old.changes ++ f.changes
  pub sent : new.sent ≡ old.sent ++ f.what ∷ []
  pub events : new.events ≡ f.events
