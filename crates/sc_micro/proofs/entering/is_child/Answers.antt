use Rattle.std.proofs.Common.{◌≡◌, ◌==◌, ◌<◌, ◌≤◌, false, List, ℕ, ap, arith, sym, ◌∙◌}
use Rattle.std.proofs.lemmas.Bool.Decides.{nat_tests}
use Rattle.sc_law.specs.Configurations.{first_or}
use Rattle.sc_law.specs.Tree.{root, state_count}
use Rattle.sc_sets.proofs.BelowSets.{past_ancestors}
use Rattle.sc_micro.proofs.entering.is_child.Goals as goal

pub returns-then-child-count-clause-value : goal.returns-then-child-count-clause-value
returns-then-child-count-clause-value c =
    let k = c.args.t.now in
    let within : c.args.s < state_count k = c.requires in
    let past : state_count k ≤ c.args.child = omega (arith, c.count.ensures, c.if-child-count.true) in
    let other : (state_count k == c.args.s) ≡ false = grind (arith, nat_tests) in
    sym (ap (λ (ss : List ℕ). first_or (root k) ss == c.args.s) (past_ancestors k c.args.child past) ∙ other)
