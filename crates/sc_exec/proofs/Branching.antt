-- The branches of an `if`, one after another.
use Rattle.std.proofs.Common.{◌≡◌, ℕ, ◌+◌, ◌-◌, ◌<◌, ◌≤◌, cond, Bool, true, false, List, ◌∷◌, map, take, drop, length, get_or, slice_range, Option, ap, ap₂, sym, ◌∙◌, arith, add-one, drop-cons, drop-drop, drop_of_length-le}
use Rattle.sc_types.specs.Attributes.{code_in, members_of}
use Rattle.sc_types.specs.declared.attribute.Attribute.TheVariants as attribute
use Rattle.sc_types.specs.declared.chart.Node.{Node}
use Rattle.sc_types.specs.declared.expr.Expr.{Expr}
use Rattle.sc_law.specs.Content.{Branch, Part, cut, first_branch, part, run_parts}
use Rattle.sc_law.specs.Outcomes.{done, holds}
use Rattle.sc_law.specs.Runs.{Running}
use Rattle.sc_exec.specs.Branches.{branch_len, chosen, later_branches}
use Rattle.sc_exec.proofs.Parts.{cut_parts}

first_of : (condition : Option Expr) (cuts : List Part × List Branch) (r : Running) (h : Bool × Running) → holds condition r ≡ h
    → first_branch ((condition, cuts.0) ∷ cuts.1) r ≡ (cond h.0 (run_parts cuts.0) (first_branch cuts.1)) h.1
first_of condition cuts r h e = ap (λ (x : Bool × Running). (cond x.0 (run_parts cuts.0) (first_branch cuts.1)) x.1) e

-- a branch whose condition holds is run
pub chosen_true : (condition : Option Expr) (ns : List Node) (r new : Running) → holds condition r ≡ (true, new)
    → chosen condition ns r ≡ run_parts (map part (take (branch_len ns) ns)) new
chosen_true condition ns r new e =
    first_of condition (cut (map part ns)) r (true, new) e
    ∙ ap (λ (x : List Part × List Branch). run_parts x.0 new) (cut_parts ns)

-- where it does not hold, those behind it are asked
pub chosen_false : (condition : Option Expr) (ns : List Node) (r new : Running) → holds condition r ≡ (false, new)
    → chosen condition ns r ≡ first_branch (later_branches (drop (branch_len ns) ns)) new
chosen_false condition ns r new e =
    first_of condition (cut (map part ns)) r (false, new) e
    ∙ ap (λ (x : List Part × List Branch). first_branch x.1 new) (cut_parts ns)

front_of : (kids : List Node) (start stop : ℕ) → stop ≡ start + branch_len (drop start kids)
    → take (branch_len (drop start kids)) (drop start kids) ≡ slice_range kids start stop
front_of kids start stop e =
    let count : branch_len (drop start kids) ≡ stop - start = omega arith in
    ap (λ n. take n (drop start kids)) count

-- a branch from one place up to another whose condition holds
pub branch_runs : (condition : Option Expr) (kids : List Node) (start stop : ℕ) (r new : Running) (b : Bool)
    → stop ≡ start + branch_len (drop start kids) → holds condition r ≡ (b, new) → b ≡ true
    → chosen condition (drop start kids) r ≡ run_parts (map part (slice_range kids start stop)) new
branch_runs condition kids start stop r new b e h t =
    chosen_true condition (drop start kids) r new (h ∙ ap (λ x. (x, new)) t)
    ∙ ap (λ (ns : List Node). run_parts (map part ns) new) (front_of kids start stop e)

rest_of : (kids : List Node) (start stop : ℕ) → stop ≡ start + branch_len (drop start kids)
    → drop (branch_len (drop start kids)) (drop start kids) ≡ drop stop kids
rest_of kids start stop e =
    drop-drop (branch_len (drop start kids)) start kids ∙ ap (λ n. drop n kids) (sym e)

-- the last branch, whose condition does not hold
pub branch_none : (condition : Option Expr) (kids : List Node) (start stop : ℕ) (r new : Running) (b : Bool)
    → stop ≡ start + branch_len (drop start kids) → holds condition r ≡ (b, new) → b ≡ false → stop ≡ length kids
    → chosen condition (drop start kids) r ≡ done new
branch_none condition kids start stop r new b e h t last =
    let past : length kids ≤ stop = omega arith in
    chosen_false condition (drop start kids) r new (h ∙ ap (λ x. (x, new)) t)
    ∙ ap (λ (ns : List Node). first_branch (later_branches ns) new) (rest_of kids start stop e ∙ drop_of_length-le kids past)

-- a branch whose condition does not hold, with another behind it
pub branch_next : (condition : Option Expr) (kids : List Node) (start stop : ℕ) (r new : Running) (b : Bool) (n : Node)
    → stop ≡ start + branch_len (drop start kids) → holds condition r ≡ (b, new) → b ≡ false → stop < length kids
    → n ≡ get_or kids stop n
    → chosen condition (drop start kids) r ≡ chosen (code_in attribute.Cond (members_of n)) (drop (stop + 1) kids) new
branch_next condition kids start stop r new b n e h t within is =
    chosen_false condition (drop start kids) r new (h ∙ ap (λ x. (x, new)) t)
    ∙ ap (λ (ns : List Node). first_branch (later_branches ns) new)
    (rest_of kids start stop e ∙ drop-cons kids stop n within ∙ ap₂ (λ (x : Node) m. x ∷ drop m kids) (sym is) (sym (add-one stop)))
