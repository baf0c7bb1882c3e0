-- What an element does with a value that it needs.
use Rattle.std.proofs.Common.{◌≡◌, Option, None, Some, Ok, Err, refl}
use Rattle.std.specs.Option.{option_map_or}
use Rattle.std.specs.Prelude.{option_and_then}
use Rattle.std.specs.Result.{result_ok}
use Rattle.sc_types.specs.Attributes.{Members, code_in}
use Rattle.sc_types.specs.declared.attribute.Attribute.{Attribute}
use Rattle.sc_types.specs.declared.expr.Expr.{Expr}
use Rattle.sc_types.specs.declared.value.Value.{Value}
use Rattle.sc_law.specs.Evaluation.{Evaluated, value}
use Rattle.sc_law.specs.Outcomes.{Outcome, faulty, needs, needs_code}
use Rattle.sc_law.specs.Runs.{Running}
use Rattle.sc_exec.specs.Values.{value_at}

needs_ok : (f : Value → Running → Outcome) (r : Running) (v : Evaluated)
    → needs f v r ≡ option_map_or (λ v. f v r) (result_ok v) (faulty r)
needs_ok f r (Ok v) = refl
needs_ok f r (Err fault) = refl

-- a value that an attribute gives is taken, and where there is none the element fails
pub needs_code_at : (a : Attribute) (m : Members) (f : Value → Running → Outcome) (r : Running)
    → needs_code a m f r ≡ option_map_or (λ v. f v r) (value_at a m r.env) (faulty r)
needs_code_at a m f r = by (code_in a m) where
  by : (o : Option Expr) → option_map_or (λ e. needs f (value e r.env) r) o (faulty r)
      ≡ option_map_or (λ v. f v r) (option_and_then (λ e. result_ok (value e r.env)) o) (faulty r)
  by None = refl
  by (Some e) = needs_ok f r (value e r.env)
