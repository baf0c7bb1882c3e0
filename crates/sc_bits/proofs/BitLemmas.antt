-- What writing a word, or all words, makes of the bits.
use Rattle.std.proofs.Common.{◌≡◌, ◌≢◌, ℕ, ◌+◌, ◌-◌, ◌*◌, ◌/◌, ◌%◌, ◌^◌, ◌<◌, ◌≤◌, ◌==◌, ◌&&◌, ◌||◌, ◌⊎◌, inl, inr, min, max, zero, suc, Bool, true, false, not, List, length, get_or, get_or-set_same, get_or-set_other, bit_and, bit_or, refl, arith, ap, ap₂, sym, ◌∙◌}
use Rattle.std.proofs.Math.ListN.{set, replicate, length-replicate}
use Rattle.std.proofs.lemmas.Bool.{cases_order, cases_lt}
use Rattle.std.proofs.lemmas.Bool.Decides.{nat_tests}
use Rattle.std.proofs.lemmas.List.{get_or_past, get_or-replicate}
use Rattle.std.proofs.lemmas.Nat.Bits.{bit_at-zero, bit_at-lt, bit_at_and, bit_at_or, bit_at_not, bit_at_set_same, bit_at_set_other, bit_at_clear_same, bit_at_clear_other, bit_at-trailing_zeros}
use Rattle.std.specs.Int.{bit_at, bit_not, w64, trailing_zeros}
use Rattle.sc_bits.specs.Words.{bit_of}

-- ---- one bit as a test

abbrev pub is_one : ℕ → Bool
is_one x = x == 1

-- zero is not one
pub is_one-zero : (x : ℕ) → x ≡ 0 → is_one x ≡ false
is_one-zero x e = ap (λ y. y == 1) e

-- one is one
pub is_one-one : (x : ℕ) → x ≡ 1 → is_one x ≡ true
is_one-one x e = ap (λ y. y == 1) e

is_one-max : (x y : ℕ) → x < 2 → y < 2 → is_one (max x y) ≡ (is_one x || is_one y)
is_one-max zero zero a b = refl
is_one-max zero (suc zero) a b = refl
is_one-max (suc zero) zero a b = refl
is_one-max (suc zero) (suc zero) a b = refl
is_one-max (suc (suc x)) y a b = absurd (omega arith)
is_one-max x (suc (suc y)) a b = absurd (omega arith)

is_one-min : (x y : ℕ) → x < 2 → y < 2 → is_one (min x y) ≡ (is_one x && is_one y)
is_one-min zero zero a b = refl
is_one-min zero (suc zero) a b = refl
is_one-min (suc zero) zero a b = refl
is_one-min (suc zero) (suc zero) a b = refl
is_one-min (suc (suc x)) y a b = absurd (omega arith)
is_one-min x (suc (suc y)) a b = absurd (omega arith)

is_one-not : (x : ℕ) → x < 2 → is_one (1 - x) ≡ not (is_one x)
is_one-not zero a = refl
is_one-not (suc zero) a = refl
is_one-not (suc (suc x)) a = absurd (omega arith)

-- ---- a bit past the words

bit_of-past : (a : List ℕ) (k : ℕ) → length a ≤ k / 64 → bit_of a k ≡ false
bit_of-past a k h = ap (λ x. bit_at x (k % 64) == 1) (get_or_past a (k / 64) 0 h) ∙ ap (λ x. x == 1) (bit_at-zero (k % 64))

-- ---- all words at once

-- words that are the bitwise or of two lists of words have the bits of either
pub bit_of-or : (a b c : List ℕ) → length a ≡ length b → length c ≡ length a
    → ((i : ℕ) → i < length a → get_or c i 0 ≡ bit_or (get_or a i 0) (get_or b i 0))
    → (k : ℕ) → bit_of c k ≡ (bit_of a k || bit_of b k)
bit_of-or a b c e f h k = elim (cases_lt (k / 64) (length a)) [
  | inl l ↦ ap (λ x. is_one (bit_at x (k % 64))) (h (k / 64) l)
      ∙ ap is_one (bit_at_or (get_or a (k / 64) 0) (get_or b (k / 64) 0) (k % 64))
      ∙ is_one-max _ _ (bit_at-lt (get_or a (k / 64) 0) (k % 64)) (bit_at-lt (get_or b (k / 64) 0) (k % 64))
  | inr g ↦ bit_of-past c k (omega arith) ∙ ap₂ (λ v w. v || w) (sym (bit_of-past a k g)) (sym (bit_of-past b k (omega arith)))
]

-- words that are the bitwise and of two lists of words have the bits that both have
pub bit_of-and : (a b c : List ℕ) → length a ≡ length b → length c ≡ length a
    → ((i : ℕ) → i < length a → get_or c i 0 ≡ bit_and (get_or a i 0) (get_or b i 0))
    → (k : ℕ) → bit_of c k ≡ (bit_of a k && bit_of b k)
bit_of-and a b c e f h k = elim (cases_lt (k / 64) (length a)) [
  | inl l ↦ ap (λ x. is_one (bit_at x (k % 64))) (h (k / 64) l)
      ∙ ap is_one (bit_at_and (get_or a (k / 64) 0) (get_or b (k / 64) 0) (k % 64))
      ∙ is_one-min _ _ (bit_at-lt (get_or a (k / 64) 0) (k % 64)) (bit_at-lt (get_or b (k / 64) 0) (k % 64))
  | inr g ↦ bit_of-past c k (omega arith) ∙ ap₂ (λ v w. v && w) (sym (bit_of-past a k g)) (sym (bit_of-past b k (omega arith)))
]

-- words that are the bitwise and of the first list and the complement of the second have the bits of the first alone
pub bit_of-and_not : (a b c : List ℕ) → length a ≡ length b → length c ≡ length a
    → ((i : ℕ) → i < length b → get_or b i 0 < 2 ^ 64)
    → ((i : ℕ) → i < length a → get_or c i 0 ≡ bit_and (get_or a i 0) (bit_not w64 (get_or b i 0)))
    → (k : ℕ) → bit_of c k ≡ (bit_of a k && not (bit_of b k))
bit_of-and_not a b c e f fits h k = elim (cases_lt (k / 64) (length a)) [
  | inl l ↦ ap (λ x. is_one (bit_at x (k % 64))) (h (k / 64) l)
      ∙ ap is_one (bit_at_and (get_or a (k / 64) 0) (bit_not w64 (get_or b (k / 64) 0)) (k % 64)
      ∙ ap (λ y. min (bit_at (get_or a (k / 64) 0) (k % 64)) y) (bit_at_not w64 (get_or b (k / 64) 0) (k % 64) (fits (k / 64) (omega arith)) (omega arith)))
      ∙ is_one-min _ _ (bit_at-lt (get_or a (k / 64) 0) (k % 64)) (omega arith)
      ∙ ap (λ v. bit_of a k && v) (is_one-not _ (bit_at-lt (get_or b (k / 64) 0) (k % 64)))
  | inr g ↦ bit_of-past c k (omega arith) ∙ ap₂ (λ v w. v && w) (sym (bit_of-past a k g)) (sym (ap not (bit_of-past b k (omega arith))))
]

-- ---- one word

bit_of-set_word : (words : List ℕ) (i x k : ℕ) → i < length words → k / 64 ≡ i → bit_of (set words i x) k ≡ is_one (bit_at x (k % 64))
bit_of-set_word words i x k h e = ap (λ j. is_one (bit_at (get_or (set words i x) j 0) (k % 64))) e
    ∙ ap (λ w. is_one (bit_at w (k % 64))) (get_or-set_same words i x 0 h)

bit_of-other_word : (words : List ℕ) (i x k : ℕ) → k / 64 ≢ i → bit_of (set words i x) k ≡ bit_of words k
bit_of-other_word words i x k n = ap (λ w. is_one (bit_at w (k % 64))) (get_or-set_other words i (k / 64) x 0 n)

same_or_not : (a b : ℕ) → (a ≡ b) ⊎ (a ≢ b)
same_or_not a b = elim (cases_order a b) [ inl e ↦ inl e | inr o ↦ elim o [ inl l ↦ inr (omega arith) | inr g ↦ inr (omega arith) ] ]

same_number : (k n : ℕ) → k / 64 ≡ n / 64 → k % 64 ≡ n % 64 → k ≡ n
same_number k n d m = omega arith

or-same : (v : Bool) (k n : ℕ) → k ≡ n → true ≡ (v || k == n)
or-same true k n e = refl
or-same false k n e = grind (arith, nat_tests)

or-other : (v : Bool) (k n : ℕ) → k ≢ n → v ≡ (v || k == n)
or-other true k n e = refl
or-other false k n e = grind (arith, nat_tests)

and-same : (v : Bool) (k n : ℕ) → k ≡ n → false ≡ (v && not (k == n))
and-same true k n e = grind (arith, nat_tests)
and-same false k n e = refl

and-other : (v : Bool) (k n : ℕ) → k ≢ n → v ≡ (v && not (k == n))
and-other true k n e = grind (arith, nat_tests)
and-other false k n e = refl

other_number : (k n : ℕ) → (k / 64 ≢ n / 64) ⊎ (k % 64 ≢ n % 64) → k ≢ n
other_number k n (inl h) = λ e. h (ap (λ j. j / 64) e)
other_number k n (inr h) = λ e. h (ap (λ j. j % 64) e)

-- after a word was written with a bit set, that bit is there and all others are as before
pub bit_of-set_bit : (words : List ℕ) (n x : ℕ) → n / 64 < length words → get_or words (n / 64) 0 ≡ x
    → (k : ℕ) → bit_of (set words (n / 64) (bit_or x (1 * 2 ^ (n % 64) % 2 ^ 64))) k ≡ (bit_of words k || k == n)
bit_of-set_bit words n x h e k = elim (same_or_not (k / 64) (n / 64)) [
  | inl d ↦ bit_of-set_word words (n / 64) _ k h d ∙ elim (same_or_not (k % 64) (n % 64)) [
    | inl m ↦ ap (λ j. is_one (bit_at (bit_or x (1 * 2 ^ (n % 64) % 2 ^ 64)) j)) m
        ∙ ap is_one (bit_at_set_same w64 x (n % 64) (omega arith)) ∙ or-same (bit_of words k) k n (same_number k n d m)
    | inr o ↦ ap is_one (bit_at_set_other w64 x (n % 64) (omega arith) (k % 64) o)
        ∙ ap (λ w. is_one (bit_at w (k % 64))) (sym e ∙ ap (λ i. get_or words i 0) (sym d)) ∙ or-other (bit_of words k) k n (other_number k n (inr o))
  ]
  | inr o ↦ bit_of-other_word words (n / 64) _ k o ∙ or-other (bit_of words k) k n (other_number k n (inl o))
]

-- after a word was written with a bit cleared, that bit is gone and all others are as before
pub bit_of-clear_bit : (words : List ℕ) (n x : ℕ) → n / 64 < length words → get_or words (n / 64) 0 ≡ x
    → (k : ℕ) → bit_of (set words (n / 64) (bit_and x (bit_not w64 (1 * 2 ^ (n % 64) % 2 ^ 64)))) k ≡ (bit_of words k && not (k == n))
bit_of-clear_bit words n x h e k = elim (same_or_not (k / 64) (n / 64)) [
  | inl d ↦ bit_of-set_word words (n / 64) _ k h d ∙ elim (same_or_not (k % 64) (n % 64)) [
    | inl m ↦ ap (λ j. is_one (bit_at (bit_and x (bit_not w64 (1 * 2 ^ (n % 64) % 2 ^ 64))) j)) m
        ∙ ap is_one (bit_at_clear_same w64 x (n % 64) (omega arith)) ∙ and-same (bit_of words k) k n (same_number k n d m)
    | inr o ↦ ap is_one (bit_at_clear_other w64 x (n % 64) (omega arith) (k % 64) (omega arith) o)
        ∙ ap (λ w. is_one (bit_at w (k % 64))) (sym e ∙ ap (λ i. get_or words i 0) (sym d)) ∙ and-other (bit_of words k) k n (other_number k n (inr o))
  ]
  | inr o ↦ bit_of-other_word words (n / 64) _ k o ∙ and-other (bit_of words k) k n (other_number k n (inl o))
]

-- ---- words that have a bit, or none, in common

-- where no two words at one place have a common bit, the lists have none
pub bits-none : (a b : List ℕ) → length a ≡ length b → ((i : ℕ) → i < length a → bit_and (get_or a i 0) (get_or b i 0) ≡ 0)
    → (k : ℕ) → (bit_of a k && bit_of b k) ≡ false
bits-none a b e h k = elim (cases_lt (k / 64) (length a)) [
  | inl l ↦ sym (is_one-min _ _ (bit_at-lt (get_or a (k / 64) 0) (k % 64)) (bit_at-lt (get_or b (k / 64) 0) (k % 64)))
      ∙ ap is_one (sym (bit_at_and (get_or a (k / 64) 0) (get_or b (k / 64) 0) (k % 64)))
      ∙ ap (λ w. is_one (bit_at w (k % 64))) (h (k / 64) l) ∙ ap is_one (bit_at-zero (k % 64))
  | inr g ↦ ap₂ (λ v w. v && w) (bit_of-past a k g) (bit_of-past b k (omega arith))
]

place_of : (i t : ℕ) → t < 64 → ((i * 64 + t) / 64 ≡ i) × ((i * 64 + t) % 64 ≡ t)
place_of i t h = (omega arith, omega arith)

-- the bit of the list at word `i`, place `t`, is bit `t` of that word
pub bit_of-at : (words : List ℕ) (i t : ℕ) → t < 64 → bit_of words (i * 64 + t) ≡ is_one (bit_at (get_or words i 0) t)
bit_of-at words i t h = ap₂ (λ j s. is_one (bit_at (get_or words j 0) s)) ((place_of i t h).0) ((place_of i t h).1)

and-true : (v w : Bool) → (v && w) ≡ true → (v ≡ true) × (w ≡ true)
and-true true true h = (refl, refl)
and-true true false h = cc
and-true false w h = cc

-- where two words at one place have a common bit, the lists have one
pub bits-common : (a b : List ℕ) (i : ℕ) → bit_and (get_or a i 0) (get_or b i 0) ≢ 0 → bit_and (get_or a i 0) (get_or b i 0) < 2 ^ 64
    → (k : ℕ) × ((bit_of a k && bit_of b k) ≡ true)
bits-common a b i h f =
    let x = bit_and (get_or a i 0) (get_or b i 0) in
    let low = bit_at-trailing_zeros w64 x (omega arith) f in
    let t = trailing_zeros w64 x in (
      i * 64 + t,
      ap₂ (λ v w. v && w) (bit_of-at a i t low.0) (bit_of-at b i t low.0)
          ∙ sym (is_one-min _ _ (bit_at-lt (get_or a i 0) t) (bit_at-lt (get_or b i 0) t))
          ∙ ap is_one (sym (bit_at_and (get_or a i 0) (get_or b i 0) t) ∙ low.1),
    )

-- words that are all zero have no bits
pub bit_of-zeros : (a : List ℕ) (n : ℕ) → a ≡ replicate n 0 → (k : ℕ) → bit_of a k ≡ false
bit_of-zeros a n e k = ap (λ ws. bit_of ws k) e ∙ elim (cases_lt (k / 64) n) [
  | inl l ↦ ap (λ x. is_one (bit_at x (k % 64))) (get_or-replicate n (k / 64) 0 0 l) ∙ ap is_one (bit_at-zero (k % 64))
  | inr g ↦ bit_of-past (replicate n 0) k (omega (arith, length-replicate {A = ℕ}))
]
