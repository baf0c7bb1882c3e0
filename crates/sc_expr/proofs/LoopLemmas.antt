-- The two loops of the descent, step by step: the fuel that they start with is enough.
use mathlib.Core.Path.{fun_ext}
use Rattle.std.proofs.Common.{◌≡◌, ℕ, zero, suc, ◌+◌, ◌-◌, ◌<◌, ◌≤◌, ◌==◌, if◌then◌else◌, Bool, true, false, Some, List, [], ◌∷◌, option_and_then, refl, ap, ◌∙◌, arith}
use Rattle.sc_types.specs.Expressions.{depth, looseness, repeats}
use Rattle.sc_types.specs.declared.expr.Expr.{Expr}
use Rattle.sc_types.specs.declared.expr.Expr.TheVariants.{Two, Item}
use Rattle.sc_types.specs.declared.expr.Op.{Op}
use Rattle.sc_types.specs.declared.expr.Op.TheVariants.{Or}
use Rattle.sc_types.specs.declared.token.Mark.TheVariants.{OpenSquare}
use Rattle.sc_types.specs.declared.token.Token.{Token}
use Rattle.sc_types.specs.declared.token.Token.TheVariants.{Operator, Mark as Sign}
use Rattle.sc_expr.specs.Descent.{Parse, within, chained, chained_from, indexed, indexed_from, after_close_square}
use Rattle.sc_expr.proofs.DepthLemmas.{depth-Two, depth-Item, alike}

-- an operator is looser than a prefix
pub two-le-looseness : (op : Op) → 2 ≤ looseness op
two-le-looseness Or = omega arith
two-le-looseness op = omega arith

-- what `chained` does at an operator, where it goes on by `again`
abbrev pub at_operator : Parse Expr → ℕ → (Expr → Parse Expr) → Expr → Op → Parse Expr
at_operator operand bound again a op ts =
    if looseness op == bound
    then option_and_then (λ (r : Expr × List Token). option_and_then (λ e. if repeats op then again e r.1 else Some (e, r.1)) (within (Two op a r.0))) (operand ts)
    else Some (a, Operator op ∷ ts)

-- it goes on with a deeper expression alone
at_operator_alike : (operand : Parse Expr) (bound : ℕ) (again later : Expr → Parse Expr) (a : Expr) (op : Op) (ts : List Token)
    → ((e : Expr) (us : List Token) → depth a < depth e → depth e ≤ 256 → again e us ≡ later e us)
    → at_operator operand bound again a op ts ≡ at_operator operand bound later a op ts
at_operator_alike operand bound again later a op ts same =
    ap (λ f. if looseness op == bound then option_and_then {T = Expr × List Token} f (operand ts) else Some (a, Operator op ∷ ts))
    (fun_ext (λ (r : Expr × List Token). alike _ _ (Two op a r.0) (λ h.
    ap (λ x. if repeats op then x else Some (Two op a r.0, r.1)) (same (Two op a r.0) r.1 (omega (arith, depth-Two op a r.0)) h))))

-- any fuel that is enough gives the same
chained_fuel : (operand : Parse Expr) (bound n m : ℕ) (a : Expr) (ts : List Token) → depth a ≤ 256 → 257 ≤ n + depth a → 257 ≤ m + depth a
    → chained operand bound n a ts ≡ chained operand bound m a ts
unfolding chained
chained_fuel operand bound zero m a ts shallow p q = absurd (omega arith)
chained_fuel operand bound (suc n) zero a ts shallow p q = absurd (omega arith)
chained_fuel operand bound (suc n) (suc m) a [] shallow p q = refl
chained_fuel operand bound (suc n) (suc m) a (Operator op ∷ ts) shallow p q =
    at_operator_alike operand bound (λ e us. chained operand bound n e us) (λ e us. chained operand bound m e us) a op ts
    (λ e us deeper h. chained_fuel operand bound n m e us h (omega arith) (omega arith))
chained_fuel operand bound (suc n) (suc m) a (t ∷ ts) shallow p q = refl

-- at an operator: where it is of this looseness, its operand is read
pub chained_from_op : (operand : Parse Expr) (bound : ℕ) (a : Expr) (op : Op) (ts : List Token) → depth a ≤ 256
    → chained_from operand bound a (Operator op ∷ ts) ≡ at_operator operand bound (λ e us. chained_from operand bound e us) a op ts
unfolding chained
chained_from_op operand bound a op ts shallow =
    chained_fuel operand bound (257 - depth a) 257 a (Operator op ∷ ts) shallow (omega arith) (omega arith)
    ∙ at_operator_alike operand bound (λ e us. chained operand bound 256 e us) (λ e us. chained_from operand bound e us) a op ts
    (λ e us deeper h. chained_fuel operand bound 256 (257 - depth e) e us h (omega arith) (omega arith))

-- an operator comes next
abbrev pub begins_operator : List Token → Bool
begins_operator (Operator op ∷ ts) = true
begins_operator ts = false

-- elsewhere it stops
pub chained_from_other : (operand : Parse Expr) (bound : ℕ) (a : Expr) (ts : List Token) → depth a ≤ 256 → begins_operator ts ≡ false
    → chained_from operand bound a ts ≡ Some (a, ts)
unfolding chained
chained_from_other operand bound a [] shallow other = chained_fuel operand bound (257 - depth a) 257 a [] shallow (omega arith) (omega arith)
chained_from_other operand bound a (Operator op ∷ ts) shallow other = absurd (cc)
chained_from_other operand bound a (t ∷ ts) shallow other = chained_fuel operand bound (257 - depth a) 257 a (t ∷ ts) shallow (omega arith) (omega arith)

-- what `indexed` does behind `[`, where it goes on by `again`
abbrev pub at_square : Parse Expr → (Expr → Parse Expr) → Expr → Parse Expr
at_square inner again a ts =
    option_and_then (λ (r : Expr × List Token). option_and_then (λ rest. option_and_then (λ e. again e rest) (within (Item a r.0))) (after_close_square r.1)) (inner ts)

-- it goes on with a deeper expression alone
at_square_alike : (inner : Parse Expr) (again later : Expr → Parse Expr) (a : Expr) (ts : List Token)
    → ((e : Expr) (us : List Token) → depth a < depth e → depth e ≤ 256 → again e us ≡ later e us)
    → at_square inner again a ts ≡ at_square inner later a ts
at_square_alike inner again later a ts same =
    ap (λ f. option_and_then {T = Expr × List Token} f (inner ts)) (fun_ext (λ (r : Expr × List Token).
    ap (λ g. option_and_then {T = List Token} g (after_close_square r.1)) (fun_ext (λ rest.
    alike (λ e. again e rest) (λ e. later e rest) (Item a r.0) (λ h. same (Item a r.0) rest (omega (arith, depth-Item a r.0)) h)))))

-- any fuel that is enough gives the same
indexed_fuel : (inner : Parse Expr) (n m : ℕ) (a : Expr) (ts : List Token) → depth a ≤ 256 → 257 ≤ n + depth a → 257 ≤ m + depth a
    → indexed inner n a ts ≡ indexed inner m a ts
unfolding indexed
indexed_fuel inner zero m a ts shallow p q = absurd (omega arith)
indexed_fuel inner (suc n) zero a ts shallow p q = absurd (omega arith)
indexed_fuel inner (suc n) (suc m) a [] shallow p q = refl
indexed_fuel inner (suc n) (suc m) a (Sign OpenSquare ∷ ts) shallow p q =
    at_square_alike inner (λ e us. indexed inner n e us) (λ e us. indexed inner m e us) a ts
    (λ e us deeper h. indexed_fuel inner n m e us h (omega arith) (omega arith))
indexed_fuel inner (suc n) (suc m) a (t ∷ ts) shallow p q = refl

-- at `[`: the place is read
pub indexed_from_square : (inner : Parse Expr) (a : Expr) (ts : List Token) → depth a ≤ 256
    → indexed_from inner a (Sign OpenSquare ∷ ts) ≡ at_square inner (λ e us. indexed_from inner e us) a ts
unfolding indexed
indexed_from_square inner a ts shallow =
    indexed_fuel inner (257 - depth a) 257 a (Sign OpenSquare ∷ ts) shallow (omega arith) (omega arith)
    ∙ at_square_alike inner (λ e us. indexed inner 256 e us) (λ e us. indexed_from inner e us) a ts
    (λ e us deeper h. indexed_fuel inner 256 (257 - depth e) e us h (omega arith) (omega arith))

-- a `[` comes next
abbrev pub begins_square : List Token → Bool
begins_square (Sign OpenSquare ∷ ts) = true
begins_square ts = false

-- elsewhere it stops
pub indexed_from_other : (inner : Parse Expr) (a : Expr) (ts : List Token) → depth a ≤ 256 → begins_square ts ≡ false
    → indexed_from inner a ts ≡ Some (a, ts)
unfolding indexed
indexed_from_other inner a [] shallow other = indexed_fuel inner (257 - depth a) 257 a [] shallow (omega arith) (omega arith)
indexed_from_other inner a (Sign OpenSquare ∷ ts) shallow other = absurd (cc)
indexed_from_other inner a (t ∷ ts) shallow other = indexed_fuel inner (257 - depth a) 257 a (t ∷ ts) shallow (omega arith) (omega arith)
