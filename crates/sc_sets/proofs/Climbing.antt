-- Going up from a state to its parent.
use Rattle.std.proofs.Common.{ℕ, ◌+◌, Option, Some, None}

-- how many numbers are left to be met
abbrev pub left : Option ℕ → ℕ
left None = 0
left (Some s) = s + 1
