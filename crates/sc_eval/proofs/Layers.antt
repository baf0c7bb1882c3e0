-- The value of an expression, by one level.
use Rattle.std.proofs.Common.{◌≡◌, ℕ, ℤ, Bool, List, ◌∷◌, map, ap, refl, rules, Ok, not}
use Rattle.std.specs.Prelude.{neg_ℤ, option_and_then}
use Rattle.sc_types.specs.declared.expr.Expr.{Expr, Row_of-Expr, end_of-Expr, more_of-Expr, items-the_row-Expr, the_lemmas}
use Rattle.sc_types.specs.declared.expr.Expr.TheVariants as expr
use Rattle.sc_types.specs.declared.expr.EventField.{EventField}
use Rattle.sc_types.specs.declared.expr.Op.{Op}
use Rattle.sc_types.specs.declared.value.Value.{out-Value}
use Rattle.sc_types.specs.declared.value.Value.TheVariants.{Bool as Truth, Int, Text}
use Rattle.sc_law.specs.Evaluation.{Evaluated, all_of, as_text, datum, field_value, in_range, int_of, is_active, item_at, length_of, listed, of_kind, on_both, on_found, on_truth, or_unknown, two_of, value, values}
use Rattle.sc_law.specs.Runs.{Env}
use Rattle.sc_eval.proofs.Opened.{opened}

pub value-Bool : (b : Bool) (env : Env) → value (expr.Bool b) env ≡ Ok (Truth b)
unfolding opened
value-Bool b env = refl

pub value-Int : (n : ℤ) (env : Env) → value (expr.Int n) env ≡ Ok (Int n)
unfolding opened
value-Int n env = refl

pub value-Text : (text : List ℕ) (env : Env) → value (expr.Text text) env ≡ Ok (Text text)
unfolding opened
value-Text text env = refl

row_values : {m : _} (row : Row_of-Expr m) → values row ≡ map value (items-the_row-Expr m row)
unfolding value
row_values end_of-Expr = refl
row_values (more_of-Expr e rest) = ap (λ (vs : List (Env → Evaluated)). value e ∷ vs) (row_values rest)

pub value-List : (es : List Expr) (env : Env) → value (expr.List es) env ≡ on_found (listed env.profile) (all_of env (map value es))
unfolding value
value-List es env = search (rules, the_lemmas, row_values)

pub value-Datum : (name : List ℕ) (env : Env) → value (expr.Datum name) env ≡ datum name env
unfolding opened
value-Datum name env = refl

pub value-Field : (f : EventField) (env : Env)
    → value (expr.Field f) env ≡ or_unknown (option_and_then (field_value f) env.bound)
unfolding opened
value-Field f env = refl

pub value-Active : (id : List ℕ) (env : Env) → value (expr.Active id) env ≡ Ok (Truth (is_active id env))
unfolding opened
value-Active id env = refl

pub value-Not : (a : Expr) (env : Env) → value (expr.Not a) env ≡ on_truth (λ t. Ok (Truth (not t))) (value a env)
unfolding opened
value-Not a env = refl

pub value-Neg : (a : Expr) (env : Env)
    → value (expr.Neg a) env ≡ on_found (λ v. of_kind (λ n. in_range (neg_ℤ n)) (int_of v)) (value a env)
unfolding opened
value-Neg a env = refl

pub value-Two : (op : Op) (a b : Expr) (env : Env) → value (expr.Two op a b) env ≡ two_of op (value a) (value b) env
unfolding opened
value-Two op a b env = refl

pub value-Item : (a b : Expr) (env : Env)
    → value (expr.Item a b) env ≡ on_both item_at (value a env) (value b env)
unfolding opened
value-Item a b env = refl

pub value-Len : (a : Expr) (env : Env) → value (expr.Len a) env ≡ on_found (λ v. length_of (out-Value v)) (value a env)
unfolding opened
value-Len a env = refl

pub value-AsText : (a : Expr) (env : Env) → value (expr.AsText a) env ≡ on_found (λ v. as_text (out-Value v)) (value a env)
unfolding opened
value-AsText a env = refl

-- the value of each kind of expression
pub ruleset value_layers = (value-Bool, value-Int, value-Text, value-List, value-Datum, value-Field, value-Active, value-Not, value-Neg, value-Two, value-Item, value-Len, value-AsText)
