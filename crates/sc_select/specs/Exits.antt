-- The rows in which selection compares exits. Only contracts of private functions cite this.
use Rattle.std.specs.Prelude.{ℕ, ◌≡◌, List}
use Rattle.sc_types.specs.declared.chart.Chart.{Chart}
use Rattle.sc_law.specs.Tree.{state_count}
use Rattle.sc_law.specs.Sets.{Histories, exit_set}
use Rattle.sc_select.specs.declared.kept.Exits.{Exits}

-- the rows have the width of the chart, and one holds what the kept transitions exit
pub record AreExits (c : Chart) (h : Histories) (configuration kept : List ℕ) (e : Exits) : Type 0 where
  pub own : e.own.width ≡ state_count c
  pub other : e.other.width ≡ state_count c
  pub width : e.all.width ≡ state_count c
  pub all : e.all.members ≡ exit_set c h kept configuration
