-- What fits a chart goes on fitting it.
use Rattle.std.proofs.Common.{◌≡◌, None, List, ℕ}
use Rattle.sc_types.specs.declared.chart.Chart.{Chart}
use Rattle.sc_types.specs.declared.session.Cue.{Cue}
use Rattle.sc_types.specs.declared.session.Phase.TheVariants as phase
use Rattle.sc_types.specs.declared.session.SessionState.{SessionState}
use Rattle.sc_law.specs.Fitting.{Fits, FitsRun, HasCue}
use Rattle.sc_law.specs.Legality.{legal_fault}
use Rattle.sc_law.specs.Microstep.{microstep}
use Rattle.sc_law.specs.Runs.{RunState}
use Rattle.sc_law.specs.Turn.{turn}
use Rattle.sc_sets.specs.Union.{AreKept}
use Rattle.sc_law_theorems.proofs.Legal.Law.{entered-new, entered-states, first-states, kept-after, legal-after, legal-first, recorded-after}
use Rattle.sc_law_theorems.proofs.Turns.Laws.{Laws}
use Rattle.sc_law_theorems.proofs.Turns.Law.{turn-fits}
use Rattle.sc_law_theorems.proofs.Turns.Micro.{microstep-fits}

laws : (c : Chart) → legal_fault c ≡ None → Laws c
laws c legal = record {
  legal_after = legal-after c;
  legal_first = λ after is. legal-first c after legal is;
  entered_new = entered-new c;
  entered_states = entered-states c;
  first_states = first-states c legal;
  recorded_after = recorded-after c;
  order_after = λ h configuration ts kept rising order states.
      (kept-after c h configuration ts kept rising (record { in_order = order; kept = states })).in_order;
  kept_after = λ h configuration ts kept rising order states.
      (kept-after c h configuration ts kept rising (record { in_order = order; kept = states })).kept;
}

-- a microstep of kept transitions leaves a run that fits its chart
pub microstep-leaves : (c : Chart) (ts : List ℕ) (x : RunState) → legal_fault c ≡ None → FitsRun c x
    → AreKept c x.histories x.running.env.configuration ts → FitsRun c (microstep c ts x)
microstep-leaves c ts x legal fits kept = microstep-fits c ts x (laws c legal) fits kept

-- a turn that leaves its session running leaves one that fits its chart
pub turn-leaves : (c : Chart) (before : SessionState) (cue : Cue) → legal_fault c ≡ None → Fits c before → HasCue before cue
    → (turn c before cue).after.phase ≡ phase.Running → Fits c (turn c before cue).after
turn-leaves c before cue legal fits waits running = turn-fits c before cue legal (laws c legal) fits waits running
