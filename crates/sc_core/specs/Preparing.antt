-- What is prepared for a command. This host's own rule. Public contracts cite `Prepares` alone; the rest is for private
-- clauses.
use Rattle.std.specs.Prelude.{ℕ, ◌≡◌, List, Result, Ok, Err, Some, length}
use Rattle.sc_types.specs.declared.chart.Chart.{Chart}
use Rattle.sc_types.specs.declared.command.Command.{Command}
use Rattle.sc_types.specs.declared.command.Command.TheVariants.{Step}
use Rattle.sc_types.specs.declared.command.Refusal.{Refusal}
use Rattle.sc_types.specs.declared.host.HostImage.{HostImage}
use Rattle.sc_types.specs.declared.host.SessionImage.{SessionImage}
use Rattle.sc_types.specs.declared.session.Cue.{Cue}
use Rattle.sc_types.specs.declared.session.Phase.TheVariants.{Running}
use Rattle.sc_law.specs.Fitting.{Fits}
use Rattle.sc_law.specs.Turn.{turn}
use Rattle.sc_machine.specs.Commands.{Answer, refused, step}
use Rattle.sc_machine.specs.Cues.{cue_of}
use Rattle.sc_machine.specs.Hosts.{chart_named, session_named}
use Rattle.sc_core.specs.HostStates.{ArePlanned}
use Rattle.sc_core.specs.Installing.{AreRoomy, CanApplyAll, HaveTargets, installed}
use Rattle.sc_core.specs.declared.change.Change.{Change}
use Rattle.sc_core.specs.declared.prepared.Prepared.{Prepared}

-- what is prepared is the answer, and its changes can be made in turn
pub record Prepares {P : Type 0} (a : Answer) (g : HostImage) (p : Prepared P) : Type 0 where
  pub host : installed p.changes g ≡ a.host
  pub reply : p.reply ≡ a.reply
  pub logs : p.logs ≡ a.logs
  pub sent : p.sent ≡ a.sent
  pub can : CanApplyAll g p.changes
  pub targets : HaveTargets (length g.sessions) p.changes
  pub roomy : AreRoomy (length g.sessions) p.changes

-- no change installs a chart
abbrev pub InstallNone : {P : Type 0} → List (Change P) → Type 0
InstallNone {P = P} changes = (chart_of : P → Chart) → ArePlanned chart_of changes

-- the place and the cue of the session that is to step, or why it takes no step
abbrev pub IsNext : HostImage → List ℕ → Result (ℕ × Cue) Refusal → Type 0
IsNext g name (Ok next) = (s : SessionImage) × (session_named g name ≡ Some (next.0, s)) × (cue_of s ≡ Some next.1)
IsNext g name (Err why) = step g (session_named g name) ≡ refused g why

-- a session that goes on after its turn fits its chart, as an engine tells
pub record FitsOn (g : HostImage) (s : SessionImage) (cue : Cue) : Type 0 where
  pub fits : (turn (chart_named g s.state.chart) s.state cue).after.phase ≡ Running
      → Fits (chart_named g s.state.chart) (turn (chart_named g s.state.chart) s.state cue).after

-- the same of the session that a command lets step
abbrev pub StepFits : HostImage → Command → Type 0
StepFits g c = (session : List ℕ) (place : ℕ) (s : SessionImage) (cue : Cue) → c ≡ Step session
    → session_named g session ≡ Some (place, s) → cue_of s ≡ Some cue → FitsOn g s cue
