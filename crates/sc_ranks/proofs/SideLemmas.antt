-- Lists that are made of a left side, an entry and a right side.
use Rattle.std.proofs.Common.{◌≡◌, ℕ, ◌+◌, ◌<◌, zero, suc, true, false, not, cond, Some, List, [], ◌∷◌, ◌++◌, length, insert, remove, slice_get, refl, arith, ap}
use Rattle.std.proofs.lemmas.Bool.Decides.{nat_tests}
use Rattle.sc_ranks.specs.declared.entry.Entry.{Entry}
use Rattle.sc_ranks.specs.Ranks.{precedes, RanksBefore, IsRising, place_of}

-- ---- places

-- a place past the entry is one of the right side
pub insert-right : (l : List Entry) (x : Entry) (r : List Entry) (p d : ℕ) (e : Entry) → p ≡ length l + d + 1
    → insert (l ++ x ∷ r) p e ≡ l ++ x ∷ insert r d e
insert-right [] x r zero d e h = absurd (omega (arith, h))
insert-right [] x r (suc p) d e h = let same : p ≡ d = omega (arith, h) in ap (λ k. x ∷ insert r k e) same
insert-right (y ∷ l) x r zero d e h = absurd (omega (arith, h))
insert-right (y ∷ l) x r (suc p) d e h = ap (λ es. y ∷ es) (insert-right l x r p d e (omega (arith, h)))

pub remove-left : (l : List Entry) (x : Entry) (r : List Entry) (p : ℕ) → p < length l
    → remove (l ++ x ∷ r) p ≡ remove l p ++ x ∷ r
remove-left [] x r p h = absurd (omega arith)
remove-left (y ∷ l) x r zero h = refl
remove-left (y ∷ l) x r (suc p) h = ap (λ es. y ∷ es) (remove-left l x r p (omega arith))

pub remove-right : (l : List Entry) (x : Entry) (r : List Entry) (p d : ℕ) → p ≡ length l + d + 1
    → remove (l ++ x ∷ r) p ≡ l ++ x ∷ remove r d
remove-right [] x r zero d h = absurd (omega (arith, h))
remove-right [] x r (suc p) d h = let same : p ≡ d = omega (arith, h) in ap (λ k. x ∷ remove r k) same
remove-right (y ∷ l) x r zero d h = absurd (omega (arith, h))
remove-right (y ∷ l) x r (suc p) d h = ap (λ es. y ∷ es) (remove-right l x r p d (omega (arith, h)))

pub remove-here : (l : List Entry) (x : Entry) (r : List Entry) (p : ℕ) → p ≡ length l → remove (l ++ x ∷ r) p ≡ l ++ r
remove-here [] x r zero h = refl
remove-here [] x r (suc p) h = absurd (omega (arith, h))
remove-here (y ∷ l) x r zero h = absurd (omega (arith, h))
remove-here (y ∷ l) x r (suc p) h = ap (λ es. y ∷ es) (remove-here l x r p (omega (arith, h)))

pub get-left : (l : List Entry) (x : Entry) (r : List Entry) (p : ℕ) → p < length l
    → slice_get (l ++ x ∷ r) p ≡ slice_get l p
get-left [] x r p h = absurd (omega arith)
get-left (y ∷ l) x r zero h = refl
get-left (y ∷ l) x r (suc p) h = get-left l x r p (omega arith)

pub get-right : (l : List Entry) (x : Entry) (r : List Entry) (p d : ℕ) → p ≡ length l + d + 1
    → slice_get (l ++ x ∷ r) p ≡ slice_get r d
get-right [] x r zero d h = absurd (omega (arith, h))
get-right [] x r (suc p) d h = let same : p ≡ d = omega (arith, h) in ap (slice_get r) same
get-right (y ∷ l) x r zero d h = absurd (omega (arith, h))
get-right (y ∷ l) x r (suc p) d h = get-right l x r p d (omega (arith, h))

pub get-here : (l : List Entry) (x : Entry) (r : List Entry) (p : ℕ) → p ≡ length l
    → slice_get (l ++ x ∷ r) p ≡ Some x
get-here [] x r zero h = refl
get-here [] x r (suc p) h = absurd (omega (arith, h))
get-here (y ∷ l) x r zero h = absurd (omega (arith, h))
get-here (y ∷ l) x r (suc p) h = get-here l x r p (omega (arith, h))

-- ---- ranks

precedes-trans : (f n : ℕ) (x y : Entry) → precedes x.first x.number y ≡ true → precedes f n x ≡ true
    → precedes f n y ≡ true
precedes-trans f n x y a b = grind (arith, nat_tests)

before-middle : (y : Entry) (l : List Entry) (x : Entry) (r : List Entry) → RanksBefore y (l ++ x ∷ r)
    → precedes x.first x.number y ≡ true
before-middle y [] x r h = h.0
before-middle y (z ∷ l) x r h = before-middle y l x r h.1

-- where the entry ranks before, so does all of the left side
pub place-right : (f n : ℕ) (l : List Entry) (x : Entry) (r : List Entry) → IsRising (l ++ x ∷ r)
    → precedes f n x ≡ true
    → place_of f n (l ++ x ∷ r) ≡ length l + 1 + place_of f n r
place-right f n [] x r h e = rw e (omega arith)
place-right f n (y ∷ l) x r h e =
    let first : precedes f n y ≡ true = precedes-trans f n x y (before-middle y l x r h.0) e in
    rw first (omega (arith, place-right f n l x r h.1 e))

-- where it does not, none of the right side counts
pub place-left : (f n : ℕ) (l : List Entry) (x : Entry) (r : List Entry) → precedes f n x ≡ false
    → place_of f n (l ++ x ∷ r) ≡ place_of f n l
place-left f n [] x r e = rw e refl
place-left f n (y ∷ l) x r e = ap (λ k. cond (not (not (precedes f n y))) (1 + k) 0) (place-left f n l x r e)

-- both sides rise
pub rising-left : (l : List Entry) (x : Entry) (r : List Entry) → IsRising (l ++ x ∷ r) → IsRising l
rising-left [] x r h = tt
rising-left (y ∷ l) x r h = (before-left y l x r h.0, rising-left l x r h.1)
  where
    before-left : (y : Entry) (l : List Entry) (x : Entry) (r : List Entry) → RanksBefore y (l ++ x ∷ r)
        → RanksBefore y l
    before-left y [] x r h = tt
    before-left y (z ∷ l) x r h = (h.0, before-left y l x r h.1)

pub rising-right : (l : List Entry) (x : Entry) (r : List Entry) → IsRising (l ++ x ∷ r) → IsRising r
rising-right [] x r h = h.1
rising-right (y ∷ l) x r h = rising-right l x r h.1
