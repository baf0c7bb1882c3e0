-- The first bit from a place on.
use Rattle.std.proofs.Common.{◌≡◌, ◌≢◌, ℕ, ◌+◌, ◌-◌, ◌*◌, ◌/◌, ◌%◌, ◌^◌, ◌<◌, ◌≤◌, inl, inr, min, false, List, get_or, bit_and, arith, ap, sym, ◌∙◌}
use Rattle.std.proofs.lemmas.Bool.{cases_lt}
use Rattle.std.proofs.lemmas.Nat.Bits.{bit_at-zero, bit_at-lt, bit_at_and, bit_at-trailing_zeros, bit_at_mask_inside, bit_at_mask_below, ones_shl}
use Rattle.std.specs.Int.{bit_at, w64, trailing_zeros}
use Rattle.sc_bits.specs.Words.{bit_of, IsNextBit}
use Rattle.sc_bits.proofs.BitLemmas.{is_one-zero, is_one-one, bit_of-at}

-- no bit is set from `from` up to `to`
abbrev pub NoneBetween : List ℕ → ℕ → ℕ → Type 0
NoneBetween words from to = (k : ℕ) → from ≤ k → k < to → bit_of words k ≡ false

-- the same by the word and the place in it
none_in_word : (words : List ℕ) (place k : ℕ) → place * 64 ≤ k → k < (place + 1) * 64
    → bit_at (get_or words place 0) (k - place * 64) ≡ 0 → bit_of words k ≡ false
none_in_word words place k l h e =
    ap (bit_of words) (let same : k ≡ place * 64 + (k - place * 64) = omega arith in same)
    ∙ bit_of-at words place (k - place * 64) (omega arith) ∙ is_one-zero _ e

-- the first bit from a place on is the lowest one of the first word that is not zero
pub word-next : (words : List ℕ) (from place : ℕ) → NoneBetween words from (place * 64) → from ≤ place * 64
    → get_or words place 0 ≢ 0 → get_or words place 0 < 2 ^ 64
    → IsNextBit words from (place * 64 + trailing_zeros w64 (get_or words place 0))
word-next words from place none l n f =
    let x = get_or words place 0 in
    let low = bit_at-trailing_zeros w64 x (omega arith) f in
    let small : trailing_zeros w64 x < 64 = low.0 in
    record {
      later = omega arith;
      set = bit_of-at words place (trailing_zeros w64 x) small ∙ is_one-one _ low.1;
      first = λ k a b. elim (cases_lt k (place * 64)) [
        | inl c ↦ none k a c
        | inr c ↦ none_in_word words place k c (omega arith) (low.2 (k - place * 64) (omega arith))
      ];
    }

-- the bits of a word from s on
high : ℕ → ℕ → ℕ
high x s = bit_and x ((2 ^ 64 - 1) * 2 ^ s % 2 ^ 64)

high-from : (x s i : ℕ) → s ≤ i → i < 64 → bit_at (high x s) i ≡ bit_at x i
unfolding high
high-from x s i l h =
    let small : bit_at x i < 2 = bit_at-lt x i in
    let within : s ≤ 64 = omega arith in
    bit_at_and x ((2 ^ 64 - 1) * 2 ^ s % 2 ^ 64) i
    ∙ ap (λ m. min (bit_at x i) (bit_at m i)) (ones_shl 64 s within)
    ∙ ap (λ b. min (bit_at x i) b) (bit_at_mask_inside s 64 i l h) ∙ omega arith

high-below : (x s i : ℕ) → i < s → s < 64 → bit_at (high x s) i ≡ 0
unfolding high
high-below x s i l h =
    let within : s ≤ 64 = omega arith in
    bit_at_and x ((2 ^ 64 - 1) * 2 ^ s % 2 ^ 64) i
    ∙ ap (λ m. min (bit_at x i) (bit_at m i)) (ones_shl 64 s within)
    ∙ ap (λ b. min (bit_at x i) b) (bit_at_mask_below s 64 i l) ∙ omega arith

-- where the rest of the first word is zero, there is no bit up to the word's end
pub rest-zero : (words : List ℕ) (from : ℕ) → bit_and (get_or words (from / 64) 0) ((2 ^ 64 - 1) * 2 ^ (from % 64) % 2 ^ 64) ≡ 0
    → NoneBetween words from ((from / 64 + 1) * 64)
unfolding high
rest-zero words from e k l h =
    let j = k - from / 64 * 64 in
    none_in_word words (from / 64) k (omega arith) h
    (sym (high-from (get_or words (from / 64) 0) (from % 64) j (omega arith) (omega arith)) ∙ ap (λ x. bit_at x j) e ∙ bit_at-zero j)

-- where the rest of the first word is not zero, its lowest bit is the first one
pub rest-next : (words : List ℕ) (from x : ℕ) → bit_and (get_or words (from / 64) 0) ((2 ^ 64 - 1) * 2 ^ (from % 64) % 2 ^ 64) ≡ x
    → x ≢ 0 → x < 2 ^ 64 → IsNextBit words from (from / 64 * 64 + trailing_zeros w64 x)
unfolding high
rest-next words from x e n f =
    let w = get_or words (from / 64) 0 in
    let low = bit_at-trailing_zeros w64 x (omega arith) f in
    let t = trailing_zeros w64 x in
    let small : trailing_zeros w64 x < 64 = low.0 in
    let high_bit : bit_at (high w (from % 64)) t ≡ 1 = ap (λ y. bit_at y t) e ∙ low.1 in
    let above : from % 64 ≤ t = elim (cases_lt t (from % 64)) [
      | inl b ↦ (let no : bit_at (high w (from % 64)) t ≡ 0 = high-below w (from % 64) t b (omega arith) in absurd (omega arith))
      | inr b ↦ b
    ] in
    record {
      later = omega arith;
      set = bit_of-at words (from / 64) t small ∙ is_one-one _ (sym (high-from w (from % 64) t above small) ∙ high_bit);
      first = λ k a b. let j = k - from / 64 * 64 in
          none_in_word words (from / 64) k (omega arith) (omega arith)
          (sym (high-from w (from % 64) j (omega arith) (omega arith)) ∙ ap (λ y. bit_at y j) e ∙ low.2 j (omega arith));
    }
