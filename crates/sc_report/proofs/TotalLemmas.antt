-- Sums of what the sessions of a drawn script count.
use Rattle.std.proofs.Common.{◌≡◌, ℕ, zero, suc, ◌+◌, ◌*◌, ◌<◌, List, [], ◌∷◌, Some, drop, length, slice_get, sym, ap, subst, refl, arith, ℤ, pos, ◌+ℤ◌, ◌≤ℤ◌, FitsSigned, w64}
use Rattle.std.specs.Prelude.{if◌then◌else◌, neg_ℤ}
use Rattle.std.proofs.lemmas.Int.{ints}
use Rattle.sc_types.specs.declared.host.SessionImage.{SessionImage}
use Rattle.sc_report.specs.Summary.{counted_of, total}

next_at : (ss : List SessionImage) (i : ℕ) (n : ℤ) → i < length ss
    → ((s : SessionImage) → slice_get ss i ≡ Some s → n ≡ counted_of s)
    → total (drop i ss) ≡ (n +ℤ total (drop (suc i) ss))
next_at [] i n less is = absurd (omega (arith, less))
next_at (s ∷ ss) zero n less is = ap (λ x. x +ℤ total ss) (sym (is s refl))
next_at (s ∷ ss) (suc i) n less is = next_at ss i n (omega (arith, less)) is

-- what is left to sum begins with the next session
pub next_counts : (ss : List SessionImage) (i : ℕ) (n : ℤ) → i < length ss
    → ((s : SessionImage) → slice_get ss i ≡ Some s → n ≡ counted_of s)
    → total (drop i ss) ≡ (n +ℤ total (drop (i + 1) ss))
next_counts ss i n less is =
    let more : suc i ≡ i + 1 = omega arith in
    subst (λ k. total (drop i ss) ≡ (n +ℤ total (drop k ss))) more (next_at ss i n less is)

pub next_total : (a n b c d : ℤ) → (a +ℤ b) ≡ c → b ≡ (n +ℤ d) → ((a +ℤ n) +ℤ d) ≡ c
next_total a n b c d e f = omega (arith, ints, e, f)

pub stays_low : (k : ℕ) (a n : ℤ) → (neg_ℤ (pos (k * 9223372036854775808)) ≤ℤ a) → FitsSigned w64 n
    → neg_ℤ (pos ((k + 1) * 9223372036854775808)) ≤ℤ (a +ℤ n)
stays_low k a n low fits = omega (arith, ints, low, fits)

pub stays_high : (k : ℕ) (a n : ℤ) → (a ≤ℤ pos (k * 9223372036854775808)) → FitsSigned w64 n
    → (a +ℤ n) ≤ℤ pos ((k + 1) * 9223372036854775808)
stays_high k a n high fits = omega (arith, ints, high, fits)
