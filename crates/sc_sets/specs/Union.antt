-- What the transitions of a microstep enter together, against what each enters alone. SCXML Appendix D,
-- computeEntrySet.
use Rattle.std.specs.Prelude.{All, List, None, [], false, true, ℕ, ◌∷◌, ◌≡◌}
use Rattle.std.specs.List.{AllPairs}
use Rattle.sc_base.specs.Ascending.{contains, joined}
use Rattle.sc_base.specs.Folds.{each}
use Rattle.sc_types.specs.declared.chart.Chart.{Chart}
use Rattle.sc_law.specs.Legality.{legal_fault}
use Rattle.sc_law.specs.Configurations.{IsConfiguration}
use Rattle.sc_law.specs.Transitions.{source}
use Rattle.sc_law.specs.Sets.{Histories, exit_set}
use Rattle.sc_law.specs.Records.{record_all}
use Rattle.sc_law.specs.Selection.{conflicts}
use Rattle.sc_law.specs.Entry.{entry}
use Rattle.sc_law.specs.Fitting.{IsRecorded}

-- the numbers that any of these sets has
abbrev pub united : List (List ℕ) → List ℕ
united sets = each (λ set all. joined all set) sets []

-- the states that a transition enters alone
abbrev pub alone : Chart → Histories → Histories → ℕ → List ℕ
alone c before h t = (entry c before h (t ∷ [])).states

-- the histories once what these transitions exit was recorded
abbrev pub recorded_by : Chart → Histories → List ℕ → List ℕ → Histories
recorded_by c h ts configuration = record_all c configuration (exit_set c h ts configuration) h

-- Transitions that selection keeps in a legal configuration of a legal chart: their sources are active, and no two of
-- them exit a state in common.
pub record AreKept (c : Chart) (h : Histories) (configuration ts : List ℕ) : Type 0 where
  pub legal : legal_fault c ≡ None
  pub configured : IsConfiguration c configuration
  pub recorded : All (IsRecorded c) h
  pub active : All (λ t. contains configuration (source c t) ≡ true) ts
  pub no_conflict : AllPairs (λ t u. conflicts c h configuration t u ≡ false) ts
