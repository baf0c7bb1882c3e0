-- The numbers that words of 64 bits stand for: bit k % 64 of word k / 64 says whether k is one. This host's own rule.
use Rattle.std.specs.Prelude.{◌≡◌, ℕ, ◌+◌, ◌/◌, ◌%◌, ◌^◌, ◌≤◌, ◌<◌, ◌==◌, Bool, true, false, if◌then◌else◌, zero, suc, List, [], ◌∷◌, length, slice_index}
use Rattle.std.specs.Int.{bit_at}

-- whether the words have bit k
abbrev pub bit_of : List ℕ → ℕ → Bool
bit_of words k = bit_at (slice_index words (k / 64)) (k % 64) == 1

-- the numbers from `from` on, so many of them, that pass the test
abbrev pub numbers : (ℕ → Bool) → ℕ → ℕ → List ℕ
numbers test from zero = []
numbers test from (suc count) =
    if test from then from ∷ numbers test (from + 1) count else numbers test (from + 1) count

-- there are as many words as the width needs, and they have no bit past it
pub record Holds (width : ℕ) (words : List ℕ) : Type 0 where
  pub small : width < 2 ^ 32
  pub enough : length words ≡ (width + 63) / 64
  pub within : (k : ℕ) → width ≤ k → bit_of words k ≡ false

-- n is the first bit that is set from `from` on
pub record IsNextBit (words : List ℕ) (from n : ℕ) : Type 0 where
  pub later : from ≤ n
  pub set : bit_of words n ≡ true
  pub first : (k : ℕ) → from ≤ k → k < n → bit_of words k ≡ false
