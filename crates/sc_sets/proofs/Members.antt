-- Going through the members of a row.
use Rattle.std.proofs.Common.{◌≡◌, ℕ, ◌+◌, ◌<◌, ◌≤◌, ◌==◌, ◌||◌, nat_le, Bool, true, false, cond, All, Some, None, List, [], ◌∷◌, filter, find, refl, arith, ap, sym, ◌∙◌}
use Rattle.std.proofs.lemmas.Bool.Decides.{nat_tests}
use Rattle.std.proofs.lemmas.List.Elements.{All-cons, All-nil}
use Rattle.sc_base.specs.Ascending.{contains}
use Rattle.sc_bits.specs.Rows.{IsAscending}

-- the members from one number on
abbrev pub from_on : ℕ → List ℕ → List ℕ
from_on k ms = filter (λ m. nat_le k m) ms

all_on : (lo w k : ℕ) (ms : List ℕ) → IsAscending lo w ms → k ≤ lo → from_on k ms ≡ ms
all_on lo w k [] h l = refl
all_on lo w k (m ∷ ms) h l =
    let t : nat_le k m ≡ true = (let g : lo ≤ m = h.0 in grind (arith, nat_tests)) in
    rw t (ap (λ ns. m ∷ ns) (all_on (m + 1) w k ms h.2 (omega (arith, h.0))))

-- from 0 on these are all
pub all_from : (ms : List ℕ) → from_on 0 ms ≡ ms
all_from [] = refl
all_from (m ∷ ms) = let t : nat_le 0 m ≡ true = grind (arith, nat_tests) in rw t (ap (λ ns. m ∷ ns) (all_from ms))

-- the next member, and those behind it
pub next_some : (lo w k a : ℕ) (ms : List ℕ) → IsAscending lo w ms → Some a ≡ find (λ m. nat_le k m) ms → k ≤ a
    → from_on k ms ≡ a ∷ from_on (a + 1) ms
next_some lo w k a [] h e l = absurd (cc)
next_some lo w k a (m ∷ ms) h e l = by (nat_le k m) refl e (next_some (m + 1) w k a ms h.2) where
  by : (v : Bool) → nat_le k m ≡ v → Some a ≡ cond v (Some m) (find (λ m. nat_le k m) ms)
      → (Some a ≡ find (λ m. nat_le k m) ms → k ≤ a → from_on k ms ≡ a ∷ from_on (a + 1) ms)
      → cond v (m ∷ from_on k ms) (from_on k ms) ≡ a ∷ cond (nat_le (a + 1) m) (m ∷ from_on (a + 1) ms) (from_on (a + 1) ms)
  by true t e so =
      let same : a ≡ m = cc in
      let less : k ≤ m = grind (arith, nat_tests) in
      let past : nat_le (a + 1) m ≡ false = grind (arith, nat_tests) in
      rw past (ap (λ ns. m ∷ ns) (all_on (m + 1) w k ms h.2 (omega arith))
      ∙ ap (λ n. n ∷ ms) (sym same) ∙ ap (λ ns. a ∷ ns) (sym (all_on (m + 1) w (a + 1) ms h.2 (omega arith))))
  by false t e so =
      let more : m < k = grind (arith, nat_tests) in
      let past : nat_le (a + 1) m ≡ false = grind (arith, nat_tests) in
      rw past (so e l)

-- without a next member nothing is left
pub next_none : (k : ℕ) (ms : List ℕ) → None ≡ find (λ m. nat_le k m) ms → from_on k ms ≡ []
next_none k [] e = refl
next_none k (m ∷ ms) e = by (nat_le k m) e (next_none k ms) where
  by : (v : Bool) → None ≡ cond v (Some m) (find (λ m. nat_le k m) ms) → (None ≡ find (λ m. nat_le k m) ms → from_on k ms ≡ [])
      → cond v (m ∷ from_on k ms) (from_on k ms) ≡ []
  by true e so = absurd (cc)
  by false e so = so e

-- the members are below the width
pub ascending_within : (lo w : ℕ) (ms : List ℕ) → IsAscending lo w ms → All (λ m. m < w) ms
ascending_within lo w [] h = All-nil (λ (m : ℕ). m < w)
ascending_within lo w (m ∷ ms) h = All-cons (λ (n : ℕ). n < w) m ms h.1 (ascending_within (m + 1) w ms h.2)

pub row_within : (w : ℕ) (ms : List ℕ) → IsAscending 0 w ms → All (λ m. m < w) ms
row_within w ms h = ascending_within 0 w ms h

-- a number that is not below the width is no member
pub past_row : (lo w n : ℕ) (ms : List ℕ) → IsAscending lo w ms → w ≤ n → contains ms n ≡ false
past_row lo w n [] h l = refl
past_row lo w n (m ∷ ms) h l =
    let less : m < w = h.1 in
    let other : (m == n) ≡ false = grind (arith, nat_tests) in
    ap (λ v. v || contains ms n) other ∙ past_row (m + 1) w n ms h.2 l
