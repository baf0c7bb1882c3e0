-- The step of the session that is next.
use Rattle.std.proofs.Common.{◌≡◌, ◌≤◌, ◌-◌, ◌^◌, ℕ, List, Some, None, length, option_map, slice_get, refl, arith, sym, ap, subst, ◌∙◌}
use Rattle.std.proofs.lemmas.Option.{same_Some, some_pair_parts}
use Rattle.sc_types.specs.declared.chart.Chart.{Chart}
use Rattle.sc_types.specs.declared.command.Command.{Command}
use Rattle.sc_types.specs.declared.command.Command.TheVariants.{Cancel, Install, Post, Start, Step, Tick}
use Rattle.sc_types.specs.declared.host.HostImage.{HostImage}
use Rattle.sc_types.specs.declared.host.SessionImage.{SessionImage}
use Rattle.sc_types.specs.declared.session.Cue.{Cue}
use Rattle.sc_types.specs.declared.session.Phase.{Phase}
use Rattle.sc_types.specs.declared.session.Phase.TheVariants as phase
use Rattle.sc_types.specs.declared.value.Value.{Value}
use Rattle.sc_law.specs.Turn.{TurnResult, turn}
use Rattle.sc_machine.specs.Commands.{Answer, answer, cancel, install, post, start, step, step_cue, step_in, step_turn, tick}
use Rattle.sc_machine.specs.Cues.{cue_in, cue_of}
use Rattle.sc_machine.specs.Hosts.{chart_named, session_named}
use Rattle.sc_core.specs.HostStates.{ArePlanned, CanMake, IsSound}
use Rattle.sc_core.specs.Preparing.{FitsOn, Prepares, StepFits}
use Rattle.sc_core.specs.declared.prepared.Prepared.{Prepared}
use Rattle.sc_core.proofs.SoundLemmas.{sound_answer}
use Rattle.sc_machine.proofs.TurnLemmas.{turn-of}

-- what an engine gave is the turn of the definition
pub step_given : {P : Type 0} (g : HostImage) (place : ℕ) (s : SessionImage) (cue : Cue) (given : TurnResult) (p : Prepared P)
    → given ≡ turn (chart_named g s.state.chart) s.state cue
    → Prepares (step_turn g place s cue given) g p
    → Prepares (step_turn g place s cue (turn (chart_named g s.state.chart) s.state cue)) g p
step_given g place s cue given p is prepared = subst (λ (r : TurnResult). Prepares (step_turn g place s cue r) g p) is prepared

-- a session with a cue takes its turn
pub step_is : (g : HostImage) (place : ℕ) (s : SessionImage) (cue : Cue) → cue_of s ≡ Some cue
    → step g (Some (place, s)) ≡ step_turn g place s cue (turn (chart_named g s.state.chart) s.state cue)
step_is g place s cue cued = by s.state.phase refl
  where
    by : (p : Phase) → s.state.phase ≡ p
        → step_in g place s p ≡ step_turn g place s cue (turn (chart_named g s.state.chart) s.state cue)
    by (phase.Ended how) is =
        absurd (let none : cue_of s ≡ None = ap (λ q. cue_in q s.state.internal s.flagged s.queued) is in
        let never = sym none ∙ cued in cc)
    by phase.Fresh is = ap (step_cue g place s) cued
    by phase.Running is = ap (step_cue g place s) cued

-- the step of the session that is next
pub step_found : {P : Type 0} (g : HostImage) (name : List ℕ) (place : ℕ) (s : SessionImage) (cue : Cue) (p : Prepared P)
    → session_named g name ≡ Some (place, s) → cue_of s ≡ Some cue
    → Prepares (step_turn g place s cue (turn (chart_named g s.state.chart) s.state cue)) g p
    → Prepares (step g (session_named g name)) g p
step_found g name place s cue p found cued prepared =
    subst (λ (a : Answer). Prepares a g p) (sym (ap (step g) found ∙ step_is g place s cue cued)) prepared

-- the session that a step names is the one that was found
pub found_fits : (g : HostImage) (name : List ℕ) (place : ℕ) (s : SessionImage) (cue : Cue) → session_named g name ≡ Some (place, s)
    → cue_of s ≡ Some cue → FitsOn g s cue → StepFits g (Step name)
found_fits g name place s cue found cued fits session p t other is named waits =
    let same : Some (place, s) ≡ Some (p, t) = cc in
    let parts = some_pair_parts place p s t same in
    let cues : Some cue ≡ Some other = sym cued ∙ ap cue_of parts.1 ∙ waits in
    subst (λ (c : Cue). FitsOn g t c) (same_Some cue other cues) (subst (λ (x : SessionImage). FitsOn g x cue) parts.1 fits)

-- a turn keeps the session's name
pub turn_named : (g : HostImage) (place : ℕ) (s : SessionImage) (cue : Cue) (given : TurnResult)
    → slice_get g.sessions place ≡ Some s → given ≡ turn (chart_named g s.state.chart) s.state cue
    → option_map (λ (x : SessionImage). x.state.session) (slice_get g.sessions place) ≡ Some given.after.session
turn_named g place s cue given there is =
    let kept : given.after.session ≡ s.state.session =
    ap (λ (r : TurnResult). r.after.session) is ∙ (turn-of (chart_named g s.state.chart) s.state cue).session in
    ap (λ o. option_map (λ (x : SessionImage). x.state.session) o) there ∙ ap Some (sym kept)

-- what is prepared of an equal answer
pub prepares_as : {P : Type 0} (g : HostImage) (a b : Answer) (p : Prepared P) → b ≡ a → Prepares a g p → Prepares b g p
prepares_as g a b p is prepared = subst (λ (x : Answer). Prepares x g p) (sym is) prepared

-- the host machine's answer by the kind of command

pub answer_install : (g : HostImage) (name text : List ℕ) → answer g (Install name text) ≡ install g name text
unfolding answer
answer_install g name text = refl

pub answer_start : (g : HostImage) (session chart : List ℕ) → answer g (Start session chart) ≡ start g session chart
unfolding answer
answer_start g session chart = refl

pub answer_post : (g : HostImage) (session name : List ℕ) (pairs : List (List ℕ × Value))
    → answer g (Post session name pairs) ≡ post g session name pairs
unfolding answer
answer_post g session name pairs = refl

pub answer_tick : (g : HostImage) (ticks : ℕ) → answer g (Tick ticks) ≡ tick g ticks
unfolding answer
answer_tick g ticks = refl

pub answer_cancel : (g : HostImage) (session : List ℕ) → answer g (Cancel session) ≡ cancel g (session_named g session)
unfolding answer
answer_cancel g session = refl

pub answer_step : (g : HostImage) (session : List ℕ) → answer g (Step session) ≡ step g (session_named g session)
unfolding answer
answer_step g session = refl

-- ---- what is prepared can be made

-- the host machine stays sound
pub prepared_makes : {P : Type 0} (chart_of : P → Chart) (g : HostImage) (c : Command) (p : Prepared P) → IsSound g
    → Prepares (answer g c) g p → ArePlanned chart_of p.changes → StepFits g c → length p.sent ≤ 2 ^ 64 - 1
    → CanMake chart_of g p.changes
prepared_makes chart_of g c p sound prepared plans fits few = record {
  can = prepared.can;
  targets = prepared.targets;
  roomy = prepared.roomy;
  plans = plans;
  sound = subst IsSound (sym prepared.host)
      (sound_answer g c sound fits (omega (arith, few, ap length prepared.sent)));
}
