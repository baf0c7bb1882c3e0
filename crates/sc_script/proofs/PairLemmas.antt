-- The pairs of a text, one after the other.
use Rattle.std.proofs.Common.{◌≡◌, ℕ, ◌<◌, ◌≤◌, Option, Some, List, [], ◌∷◌, ◌++◌, length, ap, append-nil, arith}
use Rattle.std.specs.Prelude.{option_map}
use Rattle.sc_script.specs.Pairs.{Pair, pieces, pairs_of}

-- the pairs so far, before those that are still to be read
abbrev pub onto : List Pair → Option (List Pair) → Option (List Pair)
onto pairs more = option_map (λ ps. pairs ++ ps) more

-- nothing is left to be read
pub all_read : (pairs : List Pair) (rest : List ℕ) → length rest ≡ 0 → onto pairs (pairs_of rest) ≡ Some pairs
unfolding pieces
all_read pairs [] h = ap (λ all. Some all) (append-nil pairs)
all_read pairs (b ∷ rest) h = absurd (omega arith)
