use Rattle.std.proofs.Common.{◌≡◌, ◌+◌, ◌*◌, ◌++◌, Ok, drop, map, max}
use Rattle.sc_types.specs.declared.expr.Expr.{size-Expr}
use Rattle.sc_law.specs.Evaluation.{all_of, on_found, value}
use Rattle.sc_eval.specs.Envs.{env_of}
use Rattle.sc_eval.proofs.evaluation.+eval.Given as goal

abbrev pub invariant-values-loop-item : goal.invariant-values-loop-item
invariant-values-loop-item l =
    on_found (λ rest. Ok (l.values ++ rest)) (all_of (env_of l.env) (map value (drop l.item-index l.items)))
    ≡ all_of (env_of l.env) (map value l.items)

abbrev pub decreases-eval : goal.decreases-eval
decreases-eval l = 3 * size-Expr l.e.now

abbrev pub decreases-values : goal.decreases-values
decreases-values l = 3 * goal.size-values l + 1

abbrev pub decreases-two_of : goal.decreases-two_of
decreases-two_of l = 3 * max (size-Expr l.a.now) (size-Expr l.b.now) + 2

abbrev pub decreases-either : goal.decreases-either
decreases-either l = 3 * max (size-Expr l.a.now) (size-Expr l.b.now) + 1

abbrev pub decreases-each : goal.decreases-each
decreases-each l = 3 * max (size-Expr l.a.now) (size-Expr l.b.now) + 1

abbrev pub decreases-item : goal.decreases-item
decreases-item l = 3 * max (size-Expr l.a.now) (size-Expr l.b.now) + 1
