-- Numbers put into sets: in any order, and once or more.
use Rattle.std.proofs.Common.{◌≡◌, inl, inr, ℕ, ◌<◌, ◌==◌, ◌||◌, nat_lt, Bool, true, false, List, [], ◌∷◌, refl, arith, ap, sym, ◌∙◌}
use Rattle.std.proofs.lemmas.Bool.{cases_order}
use Rattle.std.proofs.lemmas.Bool.Decides.{nat_tests}
use Rattle.std.specs.List.{list_any}
use Rattle.sc_base.specs.Ascending.{joined, with_number}

-- where a number goes, against the first of the set

pub with-same : (n m : ℕ) (ms : List ℕ) → n ≡ m → with_number n (m ∷ ms) ≡ m ∷ ms
with-same n m ms e = let t : (n == m) ≡ true = grind (arith, nat_tests) in rw t refl

pub with-less : (n m : ℕ) (ms : List ℕ) → n < m → with_number n (m ∷ ms) ≡ n ∷ m ∷ ms
with-less n m ms l =
    let t : (n == m) ≡ false = grind (arith, nat_tests) in
    let u : nat_lt n m ≡ true = grind (arith, nat_tests) in rw t (rw u refl)

pub with-more : (n m : ℕ) (ms : List ℕ) → m < n → with_number n (m ∷ ms) ≡ m ∷ with_number n ms
with-more n m ms l =
    let t : (n == m) ≡ false = grind (arith, nat_tests) in
    let u : nat_lt n m ≡ false = grind (arith, nat_tests) in rw t (rw u refl)

-- a number that is there already is not added
pub with-again : (n : ℕ) (xs : List ℕ) → with_number n (with_number n xs) ≡ with_number n xs
with-again n [] = with-same n n [] refl
with-again n (x ∷ xs) = elim (cases_order n x) [
  | inl e ↦ ap (with_number n) (with-same n x xs e)
  | inr o ↦ elim o [
    | inl below ↦ ap (with_number n) (with-less n x xs below) ∙ with-same n n (x ∷ xs) refl ∙ sym (with-less n x xs below)
    | inr above ↦ ap (with_number n) (with-more n x xs above) ∙ with-more n x (with_number n xs) above
        ∙ ap (λ ys. x ∷ ys) (with-again n xs) ∙ sym (with-more n x xs above)
  ]
]

swap-less : (m n : ℕ) (xs : List ℕ) → m < n → with_number m (with_number n xs) ≡ with_number n (with_number m xs)
swap-less m n [] l = with-less m n [] l ∙ sym (with-more n m [] l)
swap-less m n (x ∷ xs) l = elim (cases_order n x) [
  | inl e ↦ ap (with_number m) (with-same n x xs e) ∙ with-less m x xs (omega arith)
      ∙ sym (ap (with_number n) (with-less m x xs (omega arith)) ∙ with-more n m (x ∷ xs) l ∙ ap (λ ys. m ∷ ys) (with-same n x xs e))
  | inr o ↦ elim o [
    | inl below ↦ ap (with_number m) (with-less n x xs below) ∙ with-less m n (x ∷ xs) l
        ∙ sym (ap (with_number n) (with-less m x xs (omega arith)) ∙ with-more n m (x ∷ xs) l ∙ ap (λ ys. m ∷ ys) (with-less n x xs below))
    | inr above ↦ ap (with_number m) (with-more n x xs above) ∙ elim (cases_order m x) [
      | inl e ↦ with-same m x (with_number n xs) e
          ∙ sym (ap (with_number n) (with-same m x xs e) ∙ with-more n x xs above)
      | inr p ↦ elim p [
        | inl less ↦ with-less m x (with_number n xs) less
            ∙ sym (ap (with_number n) (with-less m x xs less) ∙ with-more n m (x ∷ xs) l ∙ ap (λ ys. m ∷ ys) (with-more n x xs above))
        | inr more ↦ with-more m x (with_number n xs) more ∙ ap (λ ys. x ∷ ys) (swap-less m n xs l)
            ∙ sym (ap (with_number n) (with-more m x xs more) ∙ with-more n x (with_number m xs) above)
      ]
    ]
  ]
]

-- two numbers may be added in either order
pub with-swap : (m n : ℕ) (xs : List ℕ) → with_number m (with_number n xs) ≡ with_number n (with_number m xs)
with-swap m n xs = elim (cases_order m n) [
  | inl e ↦ ap (λ k. with_number k (with_number n xs)) e ∙ ap (λ k. with_number n (with_number k xs)) (sym e)
  | inr o ↦ elim o [ inl below ↦ swap-less m n xs below | inr above ↦ sym (swap-less n m xs above) ]
]

-- a number may be added before or after the sets are joined
pub joined-with : (s : ℕ) (xs ys : List ℕ) → joined xs (with_number s ys) ≡ with_number s (joined xs ys)
joined-with s xs [] = refl
joined-with s xs (y ∷ ys) = elim (cases_order s y) [
  | inl e ↦ ap (joined xs) (with-same s y ys e)
      ∙ sym (ap (λ k. with_number k (with_number y (joined xs ys))) e ∙ with-again y (joined xs ys))
  | inr o ↦ elim o [
    | inl below ↦ ap (joined xs) (with-less s y ys below)
    | inr above ↦ ap (joined xs) (with-more s y ys above) ∙ ap (with_number y) (joined-with s xs ys) ∙ with-swap y s (joined xs ys)
  ]
]

or-again : (v w : Bool) → (v || (v || w)) ≡ (v || w)
or-again true w = refl
or-again false w = refl

or-swap : (u v w : Bool) → (u || (v || w)) ≡ (v || (u || w))
or-swap true true w = refl
or-swap true false w = refl
or-swap false true w = refl
or-swap false false w = refl

-- what a set with one number more has
pub any-with : (p : ℕ → Bool) (n : ℕ) (xs : List ℕ) → list_any p (with_number n xs) ≡ (p n || list_any p xs)
any-with p n [] = refl
any-with p n (x ∷ xs) = elim (cases_order n x) [
  | inl e ↦ ap (list_any p) (with-same n x xs e) ∙ sym (ap (λ k. p k || (p x || list_any p xs)) e ∙ or-again (p x) (list_any p xs))
  | inr o ↦ elim o [
    | inl below ↦ ap (list_any p) (with-less n x xs below)
    | inr above ↦ ap (list_any p) (with-more n x xs above) ∙ ap (λ v. p x || v) (any-with p n xs) ∙ or-swap (p x) (p n) (list_any p xs)
  ]
]

-- where none of one set is such, the joined sets have what the other has
pub any-joined : (p : ℕ → Bool) (xs ys : List ℕ) → list_any p xs ≡ false → list_any p (joined xs ys) ≡ list_any p ys
any-joined p xs [] none = none
any-joined p xs (y ∷ ys) none = any-with p y (joined xs ys) ∙ ap (λ v. p y || v) (any-joined p xs ys none)
