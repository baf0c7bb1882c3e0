-- What the definitions on rows make of the numbers that pass a test.
use Rattle.std.proofs.Common.{◌≡◌, ℕ, ◌+◌, ◌<◌, ◌≤◌, ◌≢◌, ◌==◌, ◌&&◌, ◌||◌, inl, inr, nat_le, nat_lt, zero, suc, Bool, true, false, cond, filter, find, None, Some, List, [], ◌∷◌, refl, arith, ap, ap₂, sym, ◌∙◌}
use Rattle.std.proofs.lemmas.Bool.{cases_order}
use Rattle.std.proofs.lemmas.Bool.Decides.{nat_tests}
use Rattle.std.specs.List.{list_any}
use Rattle.sc_base.specs.Ascending.{contains, with_number, joined}
use Rattle.sc_bits.specs.Rows.{IsAscending}
use Rattle.sc_bits.specs.Words.{numbers}

put : Bool → ℕ → List ℕ → List ℕ
put v i ms = cond v (i ∷ ms) ms

-- tests that agree on a range pass the same numbers of it
pub numbers-same : (f g : ℕ → Bool) (i c : ℕ) → ((k : ℕ) → i ≤ k → k < i + c → f k ≡ g k) → numbers f i c ≡ numbers g i c
unfolding put
numbers-same f g i zero h = refl
numbers-same f g i (suc c) h =
    let here : f i ≡ g i = h i (omega arith) (omega arith) in
    let later : numbers f (i + 1) c ≡ numbers g (i + 1) c = numbers-same f g (i + 1) c (λ k p q. h k (omega arith) (omega arith)) in
    ap₂ (λ v ms. put v i ms) here later

-- a test that fails on the whole range passes no number
pub numbers-none : (f : ℕ → Bool) (i c : ℕ) → ((k : ℕ) → i ≤ k → k < i + c → f k ≡ false) → numbers f i c ≡ []
unfolding put
numbers-none f i zero h = refl
numbers-none f i (suc c) h =
    let here : f i ≡ false = h i (omega arith) (omega arith) in
    let later : numbers f (i + 1) c ≡ [] = numbers-none f (i + 1) c (λ k p q. h k (omega arith) (omega arith)) in
    ap₂ (λ v ms. put v i ms) here later

-- the numbers that pass are ascending and within the range
pub numbers-ascending : (f : ℕ → Bool) (j i c w : ℕ) → j ≤ i → i + c ≤ w → IsAscending j w (numbers f i c)
numbers-ascending f j i zero w a b = tt
numbers-ascending f j i (suc c) w a b =
    by (f i) (numbers-ascending f (i + 1) (i + 1) c w (omega arith) (omega arith)) (numbers-ascending f j (i + 1) c w (omega arith) (omega arith))
  where
    by : (v : Bool) → IsAscending (i + 1) w (numbers f (i + 1) c) → IsAscending j w (numbers f (i + 1) c)
        → IsAscending j w (cond v (i ∷ numbers f (i + 1) c) (numbers f (i + 1) c))
    by true above also = (a, omega arith, above)
    by false above also = also

filter-put : (p : ℕ → Bool) (v : Bool) (i : ℕ) (ms : List ℕ) → filter p (put v i ms) ≡ put (v && p i) i (filter p ms)
unfolding put
filter-put p true i ms = refl
filter-put p false i ms = refl

-- filtering the numbers that pass one test gives those that pass both
pub filter-numbers : (p f : ℕ → Bool) (i c : ℕ) → filter p (numbers f i c) ≡ numbers (λ k. f k && p k) i c
unfolding put
filter-numbers p f i zero = refl
filter-numbers p f i (suc c) =
    filter-put p (f i) i (numbers f (i + 1) c) ∙ ap (λ ms. put (f i && p i) i ms) (filter-numbers p f (i + 1) c)

any-put : (p : ℕ → Bool) (v : Bool) (i : ℕ) (ms : List ℕ) → list_any p (put v i ms) ≡ (v && p i) || list_any p ms
unfolding put
any-put p true i ms = refl
any-put p false i ms = refl

-- where no number of the range passes both tests, none of those that pass the first passes the second
pub any-none : (p f : ℕ → Bool) (i c : ℕ) → ((k : ℕ) → i ≤ k → k < i + c → (f k && p k) ≡ false) → list_any p (numbers f i c) ≡ false
unfolding put
any-none p f i zero h = refl
any-none p f i (suc c) h =
    let here : (f i && p i) ≡ false = h i (omega arith) (omega arith) in
    let later : list_any p (numbers f (i + 1) c) ≡ false = any-none p f (i + 1) c (λ k r q. h k (omega arith) (omega arith)) in
    any-put p (f i) i (numbers f (i + 1) c) ∙ ap₂ (λ v w. v || w) here later

or-true : (v w : Bool) → w ≡ true → (v || w) ≡ true
or-true true w h = refl
or-true false w h = h

-- where a number of the range passes both tests, one of those that pass the first passes the second
pub any-found : (p f : ℕ → Bool) (i c k : ℕ) → i ≤ k → k < i + c → (f k && p k) ≡ true → list_any p (numbers f i c) ≡ true
unfolding put
any-found p f i zero k r q h = absurd (omega arith)
any-found p f i (suc c) k r q h = any-put p (f i) i (numbers f (i + 1) c) ∙ elim (cases_order i k) [
  | inl e ↦ ap (λ n. (f n && p n) || list_any p (numbers f (i + 1) c)) e ∙ ap (λ v. v || list_any p (numbers f (i + 1) c)) h
  | inr o ↦ elim o [
    | inl l ↦ or-true (f i && p i) _ (any-found p f (i + 1) c k (omega arith) (omega arith) h)
    | inr g ↦ absurd (omega arith)
  ]
]

-- ---- contains

has-here : (v : Bool) (n : ℕ) → (v && n == n) ≡ v
has-here true n = grind (arith, nat_tests)
has-here false n = refl

has-other : (v : Bool) (k n : ℕ) → k ≢ n → (v && k == n) ≡ false
has-other true k n h = grind (arith, nat_tests)
has-other false k n h = refl

-- a number of the range is among those that pass exactly where it passes
pub has-numbers : (f : ℕ → Bool) (i c n : ℕ) → i ≤ n → n < i + c → contains (numbers f i c) n ≡ f n
has-numbers f i c n r q = by (f n) refl
  where
    by : (v : Bool) → f n ≡ v → contains (numbers f i c) n ≡ v
    by true h = any-found (λ m. m == n) f i c n r q (has-here (f n) n ∙ h)
    by false h = any-none (λ m. m == n) f i c (λ k a b. elim (cases_order k n) [
      | inl e ↦ ap (λ j. f j && j == n) e ∙ has-here (f n) n ∙ h
      | inr o ↦ elim o [ inl l ↦ has-other (f k) k n (omega arith) | inr g ↦ has-other (f k) k n (omega arith) ]
    ])

-- ---- with_number

front-put : (v : Bool) (i n : ℕ) (ms : List ℕ) → n < i → with_number n ms ≡ n ∷ ms → with_number n (put v i ms) ≡ n ∷ put v i ms
unfolding put
front-put true i n ms l h =
    let a : (n == i) ≡ false = grind (arith, nat_tests) in
    let b : nat_lt n i ≡ true = grind (arith, nat_tests) in
    rw (a, b)
front-put false i n ms l h = h

with_number-front : (f : ℕ → Bool) (i c n : ℕ) → n < i → with_number n (numbers f i c) ≡ n ∷ numbers f i c
unfolding put
with_number-front f i zero n h = refl
with_number-front f i (suc c) n h = front-put (f i) i n (numbers f (i + 1) c) h (with_number-front f (i + 1) c n (omega arith))

here-put : (v w : Bool) (n : ℕ) (ms : List ℕ) → w ≡ (v || n == n) → with_number n ms ≡ n ∷ ms → with_number n (put v n ms) ≡ put w n ms
unfolding put
here-put true w n ms e h =
    let a : (n == n) ≡ true = grind (arith, nat_tests) in
    rw (e, a)
here-put false w n ms e h =
    let a : (n == n) ≡ true = grind (arith, nat_tests) in
    rw (e, a, h)

later-put : (v w : Bool) (i n : ℕ) (ms : List ℕ) → i < n → w ≡ (v || i == n) → with_number n (put v i ms) ≡ put w i (with_number n ms)
unfolding put
later-put true w i n ms l e =
    let a : (n == i) ≡ false = grind (arith, nat_tests) in
    let b : nat_lt n i ≡ false = grind (arith, nat_tests) in
    rw (e, a, b)
later-put false w i n ms l e =
    let a : (i == n) ≡ false = grind (arith, nat_tests) in
    rw (e, a)

or-none : (v : Bool) (k n : ℕ) → k ≢ n → (v || k == n) ≡ v
or-none true k n h = refl
or-none false k n h = grind (arith, nat_tests)

-- adding a number of the range gives the numbers of a test that passes it too
pub with_number-numbers : (f : ℕ → Bool) (i c n : ℕ) → i ≤ n → n < i + c
    → with_number n (numbers f i c) ≡ numbers (λ k. f k || k == n) i c
unfolding put
with_number-numbers f i zero n r q = absurd (omega arith)
with_number-numbers f i (suc c) n r q = elim (cases_order i n) [
  | inl e ↦ ap (λ j. with_number j (put (f i) i (numbers f (i + 1) c))) (sym e)
      ∙ here-put (f i) (f i || i == i) i (numbers f (i + 1) c) refl (with_number-front f (i + 1) c i (omega arith))
      ∙ ap (λ ms. put (f i || i == i) i ms) (numbers-same f (λ k. f k || k == i) (i + 1) c (λ k a b. sym (or-none (f k) k i (omega arith))))
      ∙ ap (λ j. put (f i || i == j) i (numbers (λ k. f k || k == j) (i + 1) c)) e
  | inr o ↦ elim o [
    | inl l ↦ later-put (f i) (f i || i == n) i n (numbers f (i + 1) c) l refl
        ∙ ap (λ ms. put (f i || i == n) i ms) (with_number-numbers f (i + 1) c n (omega arith) (omega arith))
    | inr g ↦ absurd (omega arith)
  ]
]

-- ---- joined

joined-put : (xs : List ℕ) (v : Bool) (i : ℕ) (ms : List ℕ) → joined xs (put v i ms) ≡ cond v (with_number i (joined xs ms)) (joined xs ms)
unfolding put
joined-put xs true i ms = refl
joined-put xs false i ms = refl

-- what of g is at least i
from : (ℕ → Bool) → (ℕ → Bool) → ℕ → ℕ → Bool
from f g i k = f k || (g k && nat_le i k)

from-step : (v u : Bool) (i k : ℕ) → k ≢ i → (v || (u && nat_le (i + 1) k)) ≡ (v || (u && nat_le i k))
from-step true u i k h = refl
from-step false true i k h = grind (arith, nat_tests)
from-step false false i k h = refl

from-end : (v u : Bool) (i k : ℕ) → k < i → v ≡ (v || (u && nat_le i k))
from-end true u i k h = refl
from-end false true i k h = grind (arith, nat_tests)
from-end false false i k h = refl

from-here : (v u : Bool) (i : ℕ) → u ≡ true → ((v || (u && nat_le (i + 1) i)) || i == i) ≡ (v || (u && nat_le i i))
from-here true u i h = refl
from-here false true i h = grind (arith, nat_tests)
from-here false false i h = cc

from-missing : (v u : Bool) (i : ℕ) → u ≡ false → (v || (u && nat_le (i + 1) i)) ≡ (v || (u && nat_le i i))
from-missing true u i h = refl
from-missing false true i h = cc
from-missing false false i h = refl

step-member : (f g : ℕ → Bool) (i k : ℕ) → g i ≡ true → (from f g (i + 1) k || k == i) ≡ from f g i k
unfolding from
step-member f g i k h = elim (cases_order k i) [
  | inl e ↦ ap (λ j. (f j || (g j && nat_le (i + 1) j)) || j == i) e ∙ from-here (f i) (g i) i h
      ∙ ap (λ j. f j || (g j && nat_le i j)) (sym e)
  | inr o ↦ elim o [
    | inl l ↦ or-none (f k || (g k && nat_le (i + 1) k)) k i (omega arith) ∙ from-step (f k) (g k) i k (omega arith)
    | inr l ↦ or-none (f k || (g k && nat_le (i + 1) k)) k i (omega arith) ∙ from-step (f k) (g k) i k (omega arith)
  ]
]

step-other : (f g : ℕ → Bool) (i k : ℕ) → g i ≡ false → from f g (i + 1) k ≡ from f g i k
unfolding from
step-other f g i k h = elim (cases_order k i) [
  | inl e ↦ ap (λ j. f j || (g j && nat_le (i + 1) j)) e ∙ from-missing (f i) (g i) i h
      ∙ ap (λ j. f j || (g j && nat_le i j)) (sym e)
  | inr o ↦ elim o [
    | inl l ↦ from-step (f k) (g k) i k (omega arith)
    | inr l ↦ from-step (f k) (g k) i k (omega arith)
  ]
]

joined-from : (f g : ℕ → Bool) (w i c : ℕ) → i + c ≡ w
    → joined (numbers f 0 w) (numbers g i c) ≡ numbers (from f g i) 0 w
unfolding put from
joined-from f g w i zero e = numbers-same f (from f g i) 0 w (λ k a b. from-end (f k) (g k) i k (omega arith))
joined-from f g w i (suc c) e =
    joined-put (numbers f 0 w) (g i) i (numbers g (i + 1) c)
    ∙ ap (λ ms. cond (g i) (with_number i ms) ms) (joined-from f g w (i + 1) c (omega arith))
    ∙ by (g i) refl
  where
    by : (v : Bool) → g i ≡ v → cond v (with_number i (numbers (from f g (i + 1)) 0 w)) (numbers (from f g (i + 1)) 0 w) ≡ numbers (from f g i) 0 w
    by true h = with_number-numbers (from f g (i + 1)) 0 w i (omega arith) (omega arith)
        ∙ numbers-same (λ k. from f g (i + 1) k || k == i) (from f g i) 0 w (λ k a b. step-member f g i k h)
    by false h = numbers-same (from f g (i + 1)) (from f g i) 0 w (λ k a b. step-other f g i k h)

from-zero : (v u : Bool) (k : ℕ) → (v || (u && nat_le 0 k)) ≡ (v || u)
from-zero true u k = refl
from-zero false true k = grind (arith, nat_tests)
from-zero false false k = refl

-- joining the numbers of two tests gives those of their disjunction
pub joined-numbers : (f g : ℕ → Bool) (w : ℕ) → joined (numbers f 0 w) (numbers g 0 w) ≡ numbers (λ k. f k || g k) 0 w
unfolding from
joined-numbers f g w = joined-from f g w 0 w (omega arith) ∙ numbers-same (from f g 0) (λ k. f k || g k) 0 w (λ k a b. from-zero (f k) (g k) k)

-- ---- find

find-put : (p : ℕ → Bool) (v : Bool) (i : ℕ) (ms : List ℕ) → find p (put v i ms) ≡ cond (v && p i) (Some i) (find p ms)
unfolding put
find-put p true i ms = refl
find-put p false i ms = refl

-- where no number of the range passes both tests, none is found
pub find-none : (p f : ℕ → Bool) (i c : ℕ) → ((k : ℕ) → i ≤ k → k < i + c → (f k && p k) ≡ false) → find p (numbers f i c) ≡ None
unfolding put
find-none p f i zero h = refl
find-none p f i (suc c) h =
    let here : (f i && p i) ≡ false = h i (omega arith) (omega arith) in
    find-put p (f i) i (numbers f (i + 1) c) ∙ ap (λ v. cond v (Some i) (find p (numbers f (i + 1) c))) here
    ∙ find-none p f (i + 1) c (λ k a b. h k (omega arith) (omega arith))

-- the first number of the range that passes both tests is the one that is found
pub find-found : (p f : ℕ → Bool) (i c n : ℕ) → i ≤ n → n < i + c → (f n && p n) ≡ true
    → ((k : ℕ) → i ≤ k → k < n → (f k && p k) ≡ false) → find p (numbers f i c) ≡ Some n
unfolding put
find-found p f i zero n r q h b = absurd (omega arith)
find-found p f i (suc c) n r q h b = find-put p (f i) i (numbers f (i + 1) c) ∙ elim (cases_order i n) [
  | inl e ↦ ap (λ k. cond (f k && p k) (Some k) (find p (numbers f (i + 1) c))) e ∙ ap (λ v. cond v (Some n) (find p (numbers f (i + 1) c))) h
  | inr o ↦ elim o [
    | inl l ↦ ap (λ v. cond v (Some i) (find p (numbers f (i + 1) c))) (b i (omega arith) l)
        ∙ find-found p f (i + 1) c n (omega arith) (omega arith) h (λ k x y. b k (omega arith) y)
    | inr g ↦ absurd (omega arith)
  ]
]
