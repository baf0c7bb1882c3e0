-- The depths of compound expressions, and what `within` lets through.
use Rattle.std.proofs.Common.{◌≡◌, ℕ, suc, ◌≤◌, max, Bool, true, false, if◌then◌else◌, nat_le, Option, Some, None, ℤ, List, map, option_and_then, refl, sym, ap, ◌∙◌}
use Rattle.std.proofs.lemmas.Bool.{leb-true, le-leb}
use Rattle.sc_types.specs.Expressions.{depth, depth_step, deepest}
use Rattle.sc_types.specs.declared.expr.Expr.{Expr}
use Rattle.sc_types.specs.declared.expr.Expr.TheFolds.{fold-roll-Expr}
use Rattle.sc_types.specs.declared.expr.Expr.TheOpen.{Expr-F}
use Rattle.sc_types.specs.declared.expr.EventField.{EventField}
use Rattle.sc_types.specs.declared.expr.Expr.TheVariants.{Bool as Truth, Int, Text, List as Listed, Datum, Field, Active, Not, Neg, Two, Item, Len, AsText, rolls-Bool, rolls-Int, rolls-Text, rolls-List, rolls-Datum, rolls-Field, rolls-Active, rolls-Not, rolls-Neg, rolls-Two, rolls-Item, rolls-Len, rolls-AsText}
use Rattle.sc_types.specs.declared.expr.Op.{Op}
use Rattle.sc_expr.specs.Descent.{within}

-- two operands stand one level below their operator
pub depth-Two : (op : Op) (a b : Expr) → depth (Two op a b) ≡ suc (max (depth a) (depth b))
unfolding depth
depth-Two op a b = ap depth (sym (rolls-Two op a b)) ∙ fold-roll-Expr ℕ depth_step (Expr-F.Two op a b)

-- a list and the place in it stand one level below
pub depth-Item : (a b : Expr) → depth (Item a b) ≡ suc (max (depth a) (depth b))
unfolding depth
depth-Item a b = ap depth (sym (rolls-Item a b)) ∙ fold-roll-Expr ℕ depth_step (Expr-F.Item a b)

-- an operand stands one level below `!`
pub depth-Not : (a : Expr) → depth (Not a) ≡ suc (depth a)
unfolding depth
depth-Not a = ap depth (sym (rolls-Not a)) ∙ fold-roll-Expr ℕ depth_step (Expr-F.Not a)

-- an operand stands one level below `-`
pub depth-Neg : (a : Expr) → depth (Neg a) ≡ suc (depth a)
unfolding depth
depth-Neg a = ap depth (sym (rolls-Neg a)) ∙ fold-roll-Expr ℕ depth_step (Expr-F.Neg a)

-- what `len` takes stands one level below it
pub depth-Len : (a : Expr) → depth (Len a) ≡ suc (depth a)
unfolding depth
depth-Len a = ap depth (sym (rolls-Len a)) ∙ fold-roll-Expr ℕ depth_step (Expr-F.Len a)

-- what `text` takes stands one level below it
pub depth-AsText : (a : Expr) → depth (AsText a) ≡ suc (depth a)
unfolding depth
depth-AsText a = ap depth (sym (rolls-AsText a)) ∙ fold-roll-Expr ℕ depth_step (Expr-F.AsText a)

-- the items of a list stand one level below it
pub depth-List : (es : List Expr) → depth (Listed es) ≡ suc (deepest (map depth es))
unfolding depth
depth-List es = ap depth (sym (rolls-List es)) ∙ fold-roll-Expr ℕ depth_step (Expr-F.List es)

-- what is not too deep passes
pub passes : (e : Expr) → depth e ≤ 256 → within e ≡ Some e
passes e h = ap (λ b. if b then Some e else None) (le-leb (depth e) 256 h)

-- two ways to go on agree, where they agree on what passes
then_alike : {A : Type 0} (f g : Expr → Option A) (e : Expr) (b : Bool) → nat_le (depth e) 256 ≡ b → (depth e ≤ 256 → f e ≡ g e)
    → option_and_then f (if b then Some e else None) ≡ option_and_then g (if b then Some e else None)
then_alike f g e false is same = refl
then_alike f g e true is same = same (leb-true (depth e) 256 is)

-- two ways to go on with an expression agree, where they agree if it is not too deep
pub alike : {A : Type 0} (f g : Expr → Option A) (e : Expr) → (depth e ≤ 256 → f e ≡ g e) → option_and_then f (within e) ≡ option_and_then g (within e)
alike f g e same = then_alike f g e (nat_le (depth e) 256) refl same

-- a truth value has one level
pub depth-Bool : (b : Bool) → depth (Truth b) ≡ 1
unfolding depth
depth-Bool b = ap depth (sym (rolls-Bool b)) ∙ fold-roll-Expr ℕ depth_step (Expr-F.Bool b)

-- a number has one level
pub depth-Int : (n : ℤ) → depth (Int n) ≡ 1
unfolding depth
depth-Int n = ap depth (sym (rolls-Int n)) ∙ fold-roll-Expr ℕ depth_step (Expr-F.Int n)

-- a text has one level
pub depth-Text : (text : List ℕ) → depth (Text text) ≡ 1
unfolding depth
depth-Text text = ap depth (sym (rolls-Text text)) ∙ fold-roll-Expr ℕ depth_step (Expr-F.Text text)

-- a datum has one level
pub depth-Datum : (name : List ℕ) → depth (Datum name) ≡ 1
unfolding depth
depth-Datum name = ap depth (sym (rolls-Datum name)) ∙ fold-roll-Expr ℕ depth_step (Expr-F.Datum name)

-- a field of the event has one level
pub depth-Field : (f : EventField) → depth (Field f) ≡ 1
unfolding depth
depth-Field f = ap depth (sym (rolls-Field f)) ∙ fold-roll-Expr ℕ depth_step (Expr-F.Field f)

-- a question for a state has one level
pub depth-Active : (id : List ℕ) → depth (Active id) ≡ 1
unfolding depth
depth-Active id = ap depth (sym (rolls-Active id)) ∙ fold-roll-Expr ℕ depth_step (Expr-F.Active id)
