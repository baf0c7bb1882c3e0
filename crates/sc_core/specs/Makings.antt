-- How a list of changes is made, one after another. This host's own rule; only private clauses cite these definitions.
use Rattle.std.specs.Prelude.{◌≡◌, ◌≤◌, List, Option, Some, None, length}
use Rattle.sc_core.specs.Bodies.{Agrees, image}
use Rattle.sc_core.specs.Installing.{CanApply, CanApplyAll, HasRoom, HaveRoom, charts_after, installed, queue_rooms}
use Rattle.sc_core.specs.declared.body.Body.{Body}
use Rattle.sc_core.specs.declared.change.Change.{Change}

-- k is the body h with the changes made that stand in whole before rest, and the rest can be made
pub record Installs {P : Type 0} (whole rest : List (Change P)) (h k : Body P) : Type 0 where
  pub reaches : installed rest (image k) ≡ installed whole (image h)
  pub charts : charts_after rest k.charts.items ≡ charts_after whole h.charts.items
  pub can : CanApplyAll (image k) rest
  pub ready : length rest ≤ k.ready.spare
  pub room : HaveRoom (length rest) k rest
  pub agrees : Agrees k

-- what one change needs
pub record CanChange {P : Type 0} (c : Change P) (k : Body P) : Type 0 where
  pub can : CanApply (image k) c
  pub ready : 1 ≤ k.ready.spare
  pub room : HasRoom 1 k (queue_rooms k) c

-- the same of a change that there may be
abbrev pub CanMakeFirst : {P : Type 0} → Option (Change P) → Body P → Type 0
CanMakeFirst None k = Unit {0}
CanMakeFirst (Some c) k = CanChange c k
