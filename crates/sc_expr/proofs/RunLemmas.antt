-- The length of a text, and of what passes a test at its front.
use Rattle.std.proofs.Common.{◌≡◌, ℕ, ◌<◌, ◌==◌, true, false, arith}
use Rattle.std.proofs.lemmas.Bool.Decides.{nat_tests}
use Rattle.std.proofs.lemmas.List.{take_rest}
use Rattle.std.proofs.lemmas.List.Folds.{length-prefix_len}
use Rattle.std.proofs.lemmas.List.Sums.{prefix_len-le-length}

pub ruleset front = (length-prefix_len, prefix_len-le-length, take_rest)

-- a number that equals 0 by the test is 0
pub is_zero : (n : ℕ) → n == 0 ≡ true → n ≡ 0
is_zero n h = grind (arith, nat_tests)

-- a number that does not is above 0
pub is_above : (n : ℕ) → n == 0 ≡ false → 0 < n
is_above n h = grind (arith, nat_tests)
