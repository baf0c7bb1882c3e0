-- What is prepared of the effects of a turn. This host's own rule; only private clauses cite these definitions.
use Rattle.std.specs.Prelude.{ℕ, ◌≡◌, ◌≤◌, ◌++◌, All, Option, false, List, [], ◌∷◌, Some, length, map, option_map, slice_get}
use Rattle.std.specs.List.{AllByRecursion}
use Rattle.sc_types.specs.declared.history.Delivery.{Delivery}
use Rattle.sc_types.specs.declared.host.HostImage.{HostImage}
use Rattle.sc_types.specs.declared.host.InvokerImage.{InvokerImage}
use Rattle.sc_types.specs.declared.host.SessionImage.{SessionImage}
use Rattle.sc_types.specs.declared.host.TimerImage.{TimerImage}
use Rattle.sc_types.specs.declared.session.Phase.TheVariants.{Fresh}
use Rattle.sc_types.specs.declared.session.SessionState.{SessionState}
use Rattle.sc_core.specs.Births.{IsGrown, sights}
use Rattle.sc_core.specs.Changes.{put_state}
use Rattle.sc_machine.specs.Deliveries.{Delivered, DeliveredAll}
use Rattle.sc_core.specs.Installing.{CanApplyAll, HaveTargets, installed}
use Rattle.sc_core.specs.declared.change.Change.{Change}
use Rattle.sc_core.specs.declared.change.Change.TheVariants.{Bear, CutOff, Delay, DropInvoke, Queue, Tell, Undo}
use Rattle.sc_core.specs.declared.draft.Draft.{Draft}
use Rattle.sc_core.specs.declared.draft.Placed.{Placed}
use Rattle.sc_core.specs.declared.session.Session.{Session}

-- the host machine that the changes so far leave
abbrev pub so_far : {P : Type 0} → HostImage → Draft P → HostImage
so_far g d = installed d.changes g

-- the session whose step is prepared, by its name and its place
pub record Stepper : Type 0 where
  pub name : List ℕ
  pub place : ℕ

abbrev pub stepper : List ℕ → ℕ → Stepper
stepper name place = record { name = name; place = place }

-- a session that the one of a name has just invoked
pub record IsBorn (name : List ℕ) (s : Session) : Type 0 where
  pub phase : s.state.phase ≡ Fresh
  pub id : List ℕ
  pub invoker : s.invoker ≡ Some (record { session = name; invokeid = id; cut = false })

-- a change that an effect of the session makes
abbrev pub IsOfStep : {P : Type 0} → Stepper → Change P → Type 0
IsOfStep who (Queue place e) = Unit {0}
IsOfStep who (Tell place e) = Unit {0}
IsOfStep who (Delay send) = Unit {0}
IsOfStep who (Undo session id) = session ≡ who.name
IsOfStep who (Bear invoker name session) = IsBorn who.name session
IsOfStep who (CutOff place) = place ≡ who.place → ⊥
IsOfStep who (DropInvoke place child) = Unit {0}
IsOfStep who c = ⊥

-- each pending send has a number that was given out
abbrev pub AreNumbered : HostImage → Type 0
AreNumbered g = All (λ (t : TimerImage). t.number ≤ g.delayed) g.timers

-- what a step does not change of its own session
pub record Own : Type 0 where
  pub invoker : Option InvokerImage
  pub depth : ℕ

abbrev pub own : SessionImage → Own
own s = record { invoker = s.invoker; depth = s.depth }

abbrev pub own_at : HostImage → ℕ → Option Own
own_at g place = option_map own (slice_get g.sessions place)

-- what effects leave as it was, but for the sessions that are born
pub record Follows (who : Stepper) (births : List Placed) (g h : HostImage) : Type 0 where
  pub grown : IsGrown g births h
  pub own : own_at h who.place ≡ own_at g who.place
  pub charts : h.charts ≡ g.charts
  pub clock : h.clock ≡ g.clock
  pub commands : h.commands ≡ g.commands
  pub sends : AreNumbered h

-- the changes can be made in turn, and the counts are those of the host machine that they leave
pub record IsDraft {P : Type 0} (who : Stepper) (g : HostImage) (d : Draft P) : Type 0 where
  pub can : CanApplyAll g d.changes
  pub targets : HaveTargets (length g.sessions) d.changes
  pub of_step : AllByRecursion (IsOfStep who) d.changes
  pub events : d.events ≡ (so_far g d).events
  pub delayed : d.delayed ≡ (so_far g d).delayed
  pub follows : Follows who d.births g (so_far g d)

-- g is the host with the state after the turn put in, of which the first effect is drafted
pub record IsBase (before : HostImage) (place : ℕ) (after : SessionState) (g : HostImage) : Type 0 where
  pub sights : sights g ≡ sights (put_state before place after)
  pub links : map (λ (s : SessionImage). s.invoker) g.sessions ≡ map (λ (s : SessionImage). s.invoker) before.sessions
  pub own : own_at g place ≡ own_at before place
  pub charts : g.charts ≡ before.charts
  pub clock : g.clock ≡ before.clock
  pub timers : g.timers ≡ before.timers
  pub events : g.events ≡ before.events
  pub delayed : g.delayed ≡ before.delayed
  pub sends : AreNumbered g

-- g is such a host, and t the session at the place, as the effects so far leave it
pub record IsSender {P : Type 0} (before : HostImage) (place : ℕ) (after : SessionState) (g : HostImage) (d : Draft P)
    (t : SessionImage) : Type 0 where
  pub base : IsBase before place after g
  pub draft : IsDraft (stepper after.session place) g d
  pub there : slice_get (so_far g d).sessions place ≡ Some t

-- a delivery was drafted, and is told as the host machine does
pub record Drafts {P : Type 0} (who : Stepper) (g : HostImage) (old new : Draft P) (d : Delivered)
    (said : Delivery) : Type 0 where
  pub draft : IsDraft who g new
  pub host : so_far g new ≡ d.host
  pub told : said ≡ d.what
  pub sent : new.sent ≡ old.sent

-- and what becomes of it is noted
pub record Notes {P : Type 0} (who : Stepper) (g : HostImage) (old new : Draft P) (d : Delivered) : Type 0 where
  pub draft : IsDraft who g new
  pub host : so_far g new ≡ d.host
  pub sent : new.sent ≡ old.sent ++ d.what ∷ []

-- all effects were drafted
pub record DraftsAll {P : Type 0} (who : Stepper) (g : HostImage) (d : Draft P) (all : DeliveredAll) : Type 0 where
  pub draft : IsDraft who g d
  pub host : so_far g d ≡ all.host
  pub sent : d.sent ≡ all.sent
