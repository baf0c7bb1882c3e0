-- A legal chart, with what histories recorded.
use Rattle.std.proofs.Common.{◌≡◌, None}
use Rattle.std.specs.List.{AllByRecursion as AllOf}
use Rattle.sc_types.specs.declared.chart.Chart.{Chart}
use Rattle.sc_law.specs.Legality.{legal_fault}
use Rattle.sc_law.specs.Sets.{Histories}
use Rattle.sc_law.specs.Fitting.{IsRecorded}

-- a legal chart, with what histories recorded
pub record IsLawful (c : Chart) (h : Histories) : Type 0 where
  pub legal : legal_fault c ≡ None
  pub recorded : AllOf (IsRecorded c) h
