-- What leads on from a path, among paths in document order.
use Rattle.std.proofs.Common.{◌≡◌, ℕ, ◌-◌, ◌<◌, ◌&&◌, nat_eq, nat_lt, zero, suc, Bool, true, false, [], ◌∷◌, length, length-take, take, refl, arith, ap, ap₂, sym, ◌∙◌}
use Rattle.std.proofs.lemmas.Bool.Decides.{nat_tests}
use Rattle.sc_law.specs.Nodes.{Path, leads_on, parent}
use Rattle.sc_tables.specs.Preorder.{comes_before}
use Rattle.sc_tables.proofs.Order.{begins, begins_is, begins-trans, between, behind, longer}

pub leads-begins : (a b : Path) → leads_on a b ≡ (nat_lt (length a) (length b) && begins a b)
leads-begins a b = ap (λ v. nat_lt (length a) (length b) && v) (begins_is a b)

both-true : (v w : Bool) → (v && w) ≡ true → (v ≡ true) × (w ≡ true)
both-true true w h = (refl, h)
both-true false w h = absurd (cc)

pub leads-begin : (a b : Path) → leads_on a b ≡ true → begins a b ≡ true
leads-begin a b h = (both-true _ _ (sym (leads-begins a b) ∙ h)).1

pub leads-shorter : (a b : Path) → leads_on a b ≡ true → length a < length b
leads-shorter a b h =
    let t : nat_lt (length a) (length b) ≡ true = (both-true _ _ (sym (leads-begins a b) ∙ h)).0 in grind (arith, nat_tests)

pub leads-from : (a b : Path) → begins a b ≡ true → length a < length b → leads_on a b ≡ true
leads-from a b h l =
    let t : nat_lt (length a) (length b) ≡ true = grind (arith, nat_tests) in
    leads-begins a b ∙ ap₂ (λ v w. v && w) t h

-- no path leads on to itself, nor to one before it
pub leads-not-same : (a : Path) → leads_on a a ≡ false
leads-not-same a = by (leads_on a a) refl where
  by : (v : Bool) → leads_on a a ≡ v → v ≡ false
  by true h = absurd (let l = leads-shorter a a h in omega arith)
  by false h = refl

pub leads-not-back : (a b : Path) → comes_before a b ≡ true → leads_on b a ≡ false
leads-not-back a b h = by (leads_on b a) refl where
  by : (v : Bool) → leads_on b a ≡ v → v ≡ false
  by true k = absurd (let t = leads-begin b a k in let f = behind a b h in cc)
  by false k = refl

-- what comes between a path and one that it leads on to, it leads on to too
pub leads-between : (a b c : Path) → comes_before a b ≡ true → comes_before b c ≡ true → leads_on a c ≡ true → leads_on a b ≡ true
leads-between a b c p q h =
    let t = between a b c p q (leads-begin a c h) in leads-from a b t (longer a b p t)

-- ---- parents

begins-take : (n : ℕ) (p : Path) → begins (take n p) p ≡ true
begins-take zero p = refl
begins-take (suc n) [] = refl
begins-take (suc n) (x ∷ p) = let e : nat_eq x x ≡ true = grind (arith, nat_tests) in rw e (begins-take n p)

pub parent-begins : (p : Path) → begins (parent p) p ≡ true
parent-begins p = begins-take (length p - 1) p

pub parent-length : (p : Path) → length (parent p) ≡ length p - 1
parent-length p = length-take (length p - 1) p ∙ omega arith

pub parent-leads : (p : Path) → 0 < length p → leads_on (parent p) p ≡ true
parent-leads p l = let e = parent-length p in leads-from (parent p) p (parent-begins p) (omega (arith, e))

pub leads-on : (a b c : Path) → leads_on a b ≡ true → leads_on b c ≡ true → leads_on a c ≡ true
leads-on a b c h i =
    let l = leads-shorter a b h in
    let m = leads-shorter b c i in
    leads-from a c (begins-trans a b c (leads-begin a b h) (leads-begin b c i)) (omega arith)
