-- Sessions that workers took to step, each until its ticket is spent. This host's own rule.
use Rattle.std.specs.Prelude.{ℕ, ◌+◌, ◌<◌, ◌≤◌, ◌≡◌, ◌⊎◌, ◌==◌, not, Option, Some, None, List, filter, find, length, slice_get}
use Rattle.sc_base.specs.Ascending.{contains, with_number}
use Rattle.sc_book.specs.Books.{BookOf}
use Rattle.sc_machine.specs.Accepted.{accepted_steps}
use Rattle.sc_core.specs.Bodies.{cued}
use Rattle.sc_machine.specs.Cues.{cue_of}
use Rattle.sc_machine.specs.Hosts.{chart_named}
use Rattle.sc_machine.specs.Waiting.{name_at}
use Rattle.sc_law.specs.Fitting.{Fits, HasCue}
use Rattle.sc_law.specs.Legality.{legal_fault}
use Rattle.sc_types.specs.declared.chart.Chart.{Chart}
use Rattle.sc_types.specs.declared.command.Command.{Command}
use Rattle.sc_types.specs.declared.command.Command.TheVariants.{Step}
use Rattle.sc_types.specs.declared.host.HostImage.{HostImage}
use Rattle.sc_types.specs.declared.host.SessionImage.{SessionImage}
use Rattle.sc_types.specs.declared.session.Cue.{Cue}
use Rattle.sc_types.specs.declared.session.SessionState.{SessionState}

-- What was taken: the session at a place in order of start, its chart, its state then, and what its turn begins with.
pub record TicketOf : Type 0 where
  pub place : ℕ
  pub chart : Chart
  pub before : SessionState
  pub cue : Cue

-- an engine can compute the turn
pub record HasTurn (t : TicketOf) : Type 0 where
  pub legal : legal_fault t.chart ≡ None
  pub fits : Fits t.chart t.before
  pub cue : HasCue t.before t.cue

-- the session at that place, as it stands in a host
pub record IsPresent (g : HostImage) (t : TicketOf) : Type 0 where
  pub session : SessionImage
  pub there : slice_get g.sessions t.place ≡ Some session
  pub chart : t.chart ≡ chart_named g session.state.chart
  pub before : t.before ≡ session.state
  pub cue : cue_of session ≡ Some t.cue

-- the place of the ready session that was started first, of those whose claim is not open
abbrev pub unclaimed : {D : Type 0} → BookOf D → Option ℕ
unclaimed b = find (λ place. not (contains b.claims place)) (cued 0 b.host.sessions)

-- how many steps were accepted since the opening or are under way
abbrev pub steps_begun : {D : Type 0} → BookOf D → ℕ
steps_begun b = accepted_steps b.history + length b.claims

-- the claim of a place ends, where there is one
abbrev pub without_claim : ℕ → List ℕ → List ℕ
without_claim place claims = filter (λ claim. not (claim == place)) claims

-- a session was claimed
pub record Takes {D : Type 0} (budget : ℕ) (old new : BookOf D) (t : TicketOf) : Type 0 where
  pub first : unclaimed old ≡ Some t.place
  pub within : steps_begun old < budget
  pub present : IsPresent old.host t
  pub claims : new.claims ≡ with_number t.place old.claims

-- no session was claimed: each that is ready is claimed already, or the budget is reached
pub record TakesNone {D : Type 0} (budget : ℕ) (old new : BookOf D) : Type 0 where
  pub why : (unclaimed old ≡ None) ⊎ (budget ≤ steps_begun old)
  pub same : new ≡ old

-- what a claim did
abbrev pub Claims : {D : Type 0} → ℕ → BookOf D → BookOf D → Option TicketOf → Type 0
Claims budget old new (Some t) = Takes budget old new t
Claims budget old new None = TakesNone budget old new

-- the step of the session at a place
abbrev pub step_at : HostImage → ℕ → Command
step_at g place = Step (name_at g place)
