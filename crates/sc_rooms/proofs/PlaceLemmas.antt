-- Ascending places: where one stands among them, and what putting it in and taking it out make of them.
use Rattle.std.proofs.Common.{◌≡◌, ℕ, ◌+◌, ◌<◌, ◌≤◌, ◌==◌, ◌||◌, nat_le, nat_lt, inl, inr, zero, suc, Bool, true, false, not, find, filter, None, Some, List, [], ◌∷◌, length, get_or, insert, remove, refl, arith, ap, sym, ◌∙◌}
use Rattle.std.proofs.lemmas.Bool.{cases_order, cases_lt}
use Rattle.std.proofs.lemmas.Bool.Decides.{nat_tests}
use Rattle.std.proofs.lemmas.List.Sorted.{IsPartitionedBy-ltb, IsNonDecreasingBy-from_default}
use Rattle.std.proofs.lemmas.List.Sums.{position_or_len_is}
use Rattle.std.specs.List.{position_or_len}
use Rattle.std.specs.List.Sorted.{IsPartitionedBy, IsPartitionPoint}
use Rattle.sc_base.specs.Ascending.{contains, with_number}
use Rattle.sc_rooms.specs.Rooms.{IsAscending}

-- how many places are below n
abbrev rank_of : ℕ → List ℕ → ℕ
rank_of n xs = position_or_len (λ m. nat_le n m) xs

-- ---- the search

rises-head : (from : ℕ) (xs : List ℕ) → IsAscending from xs → (j : ℕ) → j < length xs → from ≤ get_or xs j 0
rises-head from [] h j l = absurd (omega arith)
rises-head from (x ∷ xs) h zero l = h.0
rises-head from (x ∷ xs) h (suc j) l = omega (arith, h.0, rises-head (x + 1) xs h.1 j (omega arith))

rises : (from : ℕ) (xs : List ℕ) → IsAscending from xs → (i j : ℕ) → i ≤ j → j < length xs
    → get_or xs i 0 ≤ get_or xs j 0
rises from [] h i j a b = absurd (omega arith)
rises from (x ∷ xs) h zero zero a b = omega arith
rises from (x ∷ xs) h zero (suc j) a b = omega (arith, rises-head (x + 1) xs h.1 j (omega arith))
rises from (x ∷ xs) h (suc i) zero a b = absurd (omega arith)
rises from (x ∷ xs) h (suc i) (suc j) a b = rises (x + 1) xs h.1 i j (omega arith) (omega arith)

-- the places below n stand before the others
pub parted : (xs : List ℕ) (n : ℕ) → IsAscending 0 xs → IsPartitionedBy (λ m. nat_lt m n) xs
parted xs n h = IsPartitionedBy-ltb (λ x. x) xs n (IsNonDecreasingBy-from_default (λ x. x) xs 0 (rises 0 xs h))

below-fails : (n m : ℕ) → nat_lt m n ≡ true → nat_le n m ≡ false
below-fails n m e = grind (arith, nat_tests)

above-passes : (n m : ℕ) → nat_lt m n ≡ false → nat_le n m ≡ true
above-passes n m e = grind (arith, nat_tests)

-- where the places below n end, the first that is no less stands
pub rank-is : (n : ℕ) (xs : List ℕ) (i : ℕ) → i ≤ length xs
    → IsPartitionPoint (λ m. nat_lt m n ≡ true) (λ m. nat_lt m n ≡ false) xs i → i ≡ rank_of n xs
rank-is n xs i w p = sym (position_or_len_is (λ m. nat_le n m) xs i 0 w
    (λ k l. below-fails n (get_or xs k 0) (p.0 k 0 (omega arith) l))
    (λ l. above-passes n (get_or xs i 0) (p.1 i 0 (omega arith) l)))

-- ---- one step of each definition

rank-here : (n x : ℕ) (xs : List ℕ) → n ≤ x → rank_of n (x ∷ xs) ≡ 0
rank-here n x xs h = let e : nat_le n x ≡ true = grind (arith, nat_tests) in rw e refl

rank-later : (n x : ℕ) (xs : List ℕ) → x < n → rank_of n (x ∷ xs) ≡ suc (rank_of n xs)
rank-later n x xs h = let e : nat_le n x ≡ false = grind (arith, nat_tests) in rw e (omega arith)

with-here : (n x : ℕ) (xs : List ℕ) → n < x → with_number n (x ∷ xs) ≡ n ∷ x ∷ xs
with-here n x xs h =
    let e : (n == x) ≡ false = grind (arith, nat_tests) in
    let f : nat_lt n x ≡ true = grind (arith, nat_tests) in
    rw (e, f) refl

with-later : (n x : ℕ) (xs : List ℕ) → x < n → with_number n (x ∷ xs) ≡ x ∷ with_number n xs
with-later n x xs h =
    let e : (n == x) ≡ false = grind (arith, nat_tests) in
    let f : nat_lt n x ≡ false = grind (arith, nat_tests) in
    rw (e, f) refl

with-same : (n x : ℕ) (xs : List ℕ) → n ≡ x → with_number n (x ∷ xs) ≡ x ∷ xs
with-same n x xs h = let e : (n == x) ≡ true = grind (arith, nat_tests) in rw e refl

find-here : (n x : ℕ) (xs : List ℕ) → n ≤ x → find (λ m. nat_le n m) (x ∷ xs) ≡ Some x
find-here n x xs h = let e : nat_le n x ≡ true = grind (arith, nat_tests) in rw e refl

find-later : (n x : ℕ) (xs : List ℕ) → x < n → find (λ m. nat_le n m) (x ∷ xs) ≡ find (λ m. nat_le n m) xs
find-later n x xs h = let e : nat_le n x ≡ false = grind (arith, nat_tests) in rw e refl

has-here : (n x : ℕ) (xs : List ℕ) → n ≡ x → contains (x ∷ xs) n ≡ true
has-here n x xs h = let e : (x == n) ≡ true = grind (arith, nat_tests) in rw e refl

has-later : (n x : ℕ) (xs : List ℕ) (v : Bool) → (n ≡ x → ⊥) → contains (x ∷ xs) n ≡ v → contains xs n ≡ v
has-later n x xs v h e = let f : (x == n) ≡ false = grind (arith, nat_tests) in rw f at e

without-other : (n x : ℕ) (xs : List ℕ) → (n ≡ x → ⊥)
    → filter (λ m. not (m == n)) (x ∷ xs) ≡ x ∷ filter (λ m. not (m == n)) xs
without-other n x xs h = let e : (x == n) ≡ false = grind (arith, nat_tests) in rw e refl

without-same : (n x : ℕ) (xs : List ℕ) → n ≡ x → filter (λ m. not (m == n)) (x ∷ xs) ≡ filter (λ m. not (m == n)) xs
without-same n x xs h = let e : (x == n) ≡ true = grind (arith, nat_tests) in rw e refl

-- ---- a place above or below all

has-none : (n from : ℕ) (xs : List ℕ) → n < from → IsAscending from xs → contains xs n ≡ false
has-none n from [] h a = refl
has-none n from (x ∷ xs) h a =
    let f : (x == n) ≡ false = grind (arith, nat_tests, a.0) in
    rw f (has-none n (x + 1) xs (omega (arith, a.0)) a.1)

-- without a number that is none of them, the numbers are the same
pub without-none : (n : ℕ) (xs : List ℕ) → contains xs n ≡ false → filter (λ m. not (m == n)) xs ≡ xs
without-none n [] e = refl
without-none n (x ∷ xs) e = by (x == n) refl (λ g. without-none n xs g)
  where
    by : (v : Bool) → (x == n) ≡ v → (contains xs n ≡ false → filter (λ m. not (m == n)) xs ≡ xs)
        → filter (λ m. not (m == n)) (x ∷ xs) ≡ x ∷ xs
    by true f rest = let g : (true || contains xs n) ≡ false = rw f at e in cc
    by false f rest = let g : contains xs n ≡ false = rw f at e in rw f (ap (λ ms. x ∷ ms) (rest g))

-- ---- what the calls of a set make of its members

-- the first member from a number on is that number exactly where it is a member
pub has-found : (n from : ℕ) (xs : List ℕ) (m : ℕ) → IsAscending from xs → find (λ k. nat_le n k) xs ≡ Some m
    → (m == n) ≡ contains xs n
has-found n from [] m a e = cc
has-found n from (x ∷ xs) m a e = elim (cases_order n x) [
  | inl s ↦ grind (arith, nat_tests, s, has-here n x xs s, sym (find-here n x xs (omega (arith, s))) ∙ e)
  | inr o ↦ elim o [
    | inl l ↦
        (let none = has-none n x (x ∷ xs) l (omega arith, a.1) in
        grind (arith, nat_tests, l, none, sym (find-here n x xs (omega (arith, l))) ∙ e))
    | inr l ↦
        (let other : (x == n) ≡ false = grind (arith, nat_tests) in
        rw other (has-found n (x + 1) xs m a.1 (sym (find-later n x xs l) ∙ e)))
  ]
]

-- where no member is as large, it is none
pub has-unfound : (n : ℕ) (xs : List ℕ) → find (λ k. nat_le n k) xs ≡ None → contains xs n ≡ false
has-unfound n [] e = refl
has-unfound n (x ∷ xs) e = elim (cases_lt x n) [
  | inl l ↦
      (let other : (x == n) ≡ false = grind (arith, nat_tests) in
      rw other (has-unfound n xs (sym (find-later n x xs l) ∙ e)))
  | inr g ↦ (let f = sym (find-here n x xs g) ∙ e in cc)
]

-- a member is put in no second time
pub with-member : (n from : ℕ) (xs : List ℕ) → IsAscending from xs → contains xs n ≡ true → with_number n xs ≡ xs
with-member n from [] a e = cc
with-member n from (x ∷ xs) a e = elim (cases_order n x) [
  | inl s ↦ with-same n x xs s
  | inr o ↦ elim o [
    | inl l ↦ (let none = has-none n x (x ∷ xs) l (omega arith, a.1) in cc)
    | inr l ↦
        (let member = has-later n x xs true (λ s. omega (arith, s, l)) e in
        with-later n x xs l ∙ ap (λ ms. x ∷ ms) (with-member n (x + 1) xs a.1 member))
  ]
]

-- a place that is put in at its rank is in its place
pub insert-rank : (n : ℕ) (xs : List ℕ) → contains xs n ≡ false → insert xs (rank_of n xs) n ≡ with_number n xs
insert-rank n [] e = refl
insert-rank n (x ∷ xs) e = elim (cases_order n x) [
  | inl s ↦ (let here = has-here n x xs s in cc)
  | inr o ↦ elim o [
    | inl l ↦ ap (λ i. insert (x ∷ xs) i n) (rank-here n x xs (omega (arith, l))) ∙ sym (with-here n x xs l)
    | inr l ↦
        ap (λ i. insert (x ∷ xs) i n) (rank-later n x xs l)
        ∙ ap (λ ms. x ∷ ms) (insert-rank n xs (has-later n x xs false (λ s. omega (arith, s, l)) e))
        ∙ sym (with-later n x xs l)
  ]
]

-- the member at the rank of a member is that member
pub remove-rank : (n from : ℕ) (xs : List ℕ) → IsAscending from xs → contains xs n ≡ true
    → remove xs (rank_of n xs) ≡ filter (λ m. not (m == n)) xs
remove-rank n from [] a e = cc
remove-rank n from (x ∷ xs) a e = elim (cases_order n x) [
  | inl s ↦
      ap (λ i. remove (x ∷ xs) i) (rank-here n x xs (omega (arith, s)))
      ∙ sym (without-none n xs (has-none n (x + 1) xs (omega (arith, s)) a.1))
      ∙ sym (without-same n x xs s)
  | inr o ↦ elim o [
    | inl l ↦ (let none = has-none n x (x ∷ xs) l (omega arith, a.1) in cc)
    | inr l ↦
        ap (λ i. remove (x ∷ xs) i) (rank-later n x xs l)
        ∙ ap (λ ms. x ∷ ms) (remove-rank n (x + 1) xs a.1 (has-later n x xs true (λ s. omega (arith, s, l)) e))
        ∙ sym (without-other n x xs (λ s. omega (arith, s, l)))
  ]
]

-- the rank of a member is a place of the list
pub rank-within : (n : ℕ) (xs : List ℕ) → contains xs n ≡ true → rank_of n xs < length xs
rank-within n [] e = cc
rank-within n (x ∷ xs) e = elim (cases_lt x n) [
  | inl l ↦ omega (arith, rank-later n x xs l, rank-within n xs (has-later n x xs true (λ s. omega (arith, s, l)) e))
  | inr g ↦ omega (arith, rank-here n x xs g)
]

-- ---- they stay ascending

lower : (from low : ℕ) (xs : List ℕ) → low ≤ from → IsAscending from xs → IsAscending low xs
lower from low [] h a = tt
lower from low (x ∷ xs) h a = (omega (arith, a.0), a.1)

pub ascending-with : (n from : ℕ) (xs : List ℕ) → from ≤ n → IsAscending from xs → IsAscending from (with_number n xs)
ascending-with n from [] h a = (h, tt)
ascending-with n from (x ∷ xs) h a = elim (cases_order n x) [
  | inl s ↦ rw (with-same n x xs s) a
  | inr o ↦ elim o [
    | inl l ↦ rw (with-here n x xs l) (h, (omega arith, a.1))
    | inr l ↦ rw (with-later n x xs l) (a.0, ascending-with n (x + 1) xs (omega arith) a.1)
  ]
]

pub ascending-filter : (test : ℕ → Bool) (from : ℕ) (xs : List ℕ) → IsAscending from xs
    → IsAscending from (filter test xs)
ascending-filter test from [] a = tt
ascending-filter test from (x ∷ xs) a = by (test x) refl (ascending-filter test (x + 1) xs a.1)
  where
    by : (v : Bool) → test x ≡ v → IsAscending (x + 1) (filter test xs) → IsAscending from (filter test (x ∷ xs))
    by true e rest = rw e (a.0, rest)
    by false e rest = rw e (lower (x + 1) from (filter test xs) (omega (arith, a.0)) rest)
