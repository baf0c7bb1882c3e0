-- What the union of entries stands on: domains apart, above what the targets stand for.
use Rattle.std.proofs.Common.{All, Bool, List, None, Some, not, true, ℕ, ◌&&◌, ◌==◌, ◌≡◌}
use Rattle.std.specs.List.{AllPairs}
use Rattle.sc_types.specs.declared.chart.Chart.{Chart}
use Rattle.sc_law.specs.Tree.{is_below}
use Rattle.sc_law.specs.Legality.{legal_fault}
use Rattle.sc_law.specs.Transitions.{targets}
use Rattle.sc_law.specs.Sets.{Histories, domain, effective_targets}
use Rattle.sc_law.specs.Fitting.{IsRecorded}

-- two states of which none is the other, or above it
abbrev pub are_apart : Chart → ℕ → ℕ → Bool
are_apart c d e = not (d == e) && not (is_below c d e) && not (is_below c e d)

-- the domains of two transitions are apart, where both have one
abbrev pub HaveApart : Chart → Histories → ℕ → ℕ → Type 0
HaveApart c before t u = (d e : ℕ) → domain c before t ≡ Some d → domain c before u ≡ Some e → are_apart c d e ≡ true

-- what a transition's targets stand for after the exit is below its domain
abbrev pub IsAboveTargets : Chart → Histories → Histories → ℕ → Type 0
IsAboveTargets c before h t =
    (d : ℕ) → domain c before t ≡ Some d → All (λ u. is_below c u d ≡ true) (effective_targets c h (targets c t))

-- the transitions of a microstep
pub record AreTaken (c : Chart) (before h : Histories) (ts : List ℕ) : Type 0 where
  pub legal : legal_fault c ≡ None
  pub recorded : All (IsRecorded c) h
  pub apart : AllPairs (HaveApart c before) ts
  pub above : All (IsAboveTargets c before h) ts
