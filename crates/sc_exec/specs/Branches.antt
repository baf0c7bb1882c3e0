-- The branches of an `if`. Only contracts of private functions cite this.
use Rattle.std.specs.Prelude.{List, Option, [], ◌∷◌, if◌then◌else◌, map, suc, ℕ}
use Rattle.sc_types.specs.Attributes.{code_in, members_of}
use Rattle.sc_types.specs.declared.attribute.Attribute.TheVariants as attribute
use Rattle.sc_types.specs.declared.chart.Node.{Node}
use Rattle.sc_types.specs.declared.expr.Expr.{Expr}
use Rattle.sc_law.specs.Content.{Branch, cut, first_branch, is_else, part}
use Rattle.sc_law.specs.Nodes.{tag_of}
use Rattle.sc_law.specs.Outcomes.{Outcome}
use Rattle.sc_law.specs.Runs.{Running}

-- how many elements stand before the first `elseif` or `else`
abbrev pub branch_len : List Node → ℕ
branch_len [] = 0
branch_len (n ∷ ns) = if is_else (tag_of n) then 0 else suc (branch_len ns)

-- the branches from an `elseif` or `else` on
abbrev pub later_branches : List Node → List Branch
later_branches [] = []
later_branches (n ∷ ns) =
    (code_in attribute.Cond (members_of n), (cut (map part ns)).0) ∷ (cut (map part ns)).1

-- what a branch with this condition, and those behind it, do
abbrev pub chosen : Option Expr → List Node → Running → Outcome
chosen condition ns r = first_branch ((condition, (cut (map part ns)).0) ∷ (cut (map part ns)).1) r
