-- The pairs of a post: what is read is spelled so, and what is spelled so is read.
use Rattle.std.proofs.Common.{◌≡◌, ℕ, true, List, [], ◌∷◌, ◌++◌, Some, refl}
use Rattle.std.specs.List.{list_all, AllByRecursion}
use Rattle.std.proofs.lemmas.Bool.{and_parts, and_from}
use Rattle.sc_base.specs.Text.{IsPlainName}
use Rattle.sc_codec.specs.Bodies.{Pair, name_field, value_field, pair_field, pairs_field, HasFittingPairs}
use Rattle.sc_codec.specs.Reading.{plain_name_from, value_from, pair_from, pairs_from}
use Rattle.sc_codec.proofs.Fields.{IsBytes, Taken, Takes, Again}
use Rattle.sc_codec.proofs.Names.{takes_plain, again_plain}
use Rattle.sc_codec.proofs.Steps.{takes_both, again_both, takes_counted, again_counted}
use Rattle.sc_codec.proofs.ValuesAgain.{again_value}
use Rattle.sc_codec.proofs.ValuesTaken.{takes_value}
use Rattle.sc_types.specs.Values.{fits_flat}

-- a pair with a plain name and a value within the limits
abbrev pub Named : Pair → Type 0
Named p = IsPlainName p.0 × (fits_flat p.1 ≡ true)

all_fit : (pairs : List Pair) → AllByRecursion Named pairs → list_all (λ p. fits_flat p.1) pairs ≡ true
all_fit [] a = refl
all_fit (p ∷ ps) a = and_from _ _ a.0.1 (all_fit ps a.1)

all_named : (pairs : List Pair) → AllByRecursion Named pairs → AllByRecursion (λ p. IsPlainName p.0) pairs
all_named [] a = tt
all_named (p ∷ ps) a = (a.0.0, all_named ps a.1)

all_both : (pairs : List Pair) → list_all (λ p. fits_flat p.1) pairs ≡ true → AllByRecursion (λ p. IsPlainName p.0) pairs
    → AllByRecursion Named pairs
all_both [] e a = tt
all_both (p ∷ ps) e a = let f = and_parts (fits_flat p.1) (list_all (λ q. fits_flat q.1) ps) e in
    ((a.0, f.0), all_both ps f.1 a.1)

pair_takes : (bytes : List ℕ) (p : Pair) (rest : List ℕ) → IsBytes bytes → pair_from bytes ≡ Some (p, rest)
    → Taken bytes (pair_field p) rest × Named p
unfolding pair_from
pair_takes bytes p rest h e = (takes_both plain_name_from value_from name_field value_field takes_plain takes_value).of
    bytes p rest h e

pair_again : (p : Pair) (rest : List ℕ) → Named p → pair_from (pair_field p ++ rest) ≡ Some (p, rest)
unfolding pair_from
pair_again p rest f = (again_both plain_name_from value_from name_field value_field again_plain again_value).of p rest f

-- pairs that a post may have
abbrev pub ArePairs : List Pair → Type 0
ArePairs pairs = HasFittingPairs pairs × AllByRecursion (λ p. IsPlainName p.0) pairs

pairs_takes : (bytes : List ℕ) (pairs : List Pair) (rest : List ℕ) → IsBytes bytes
    → pairs_from bytes ≡ Some (pairs, rest) → Taken bytes (pairs_field pairs) rest × ArePairs pairs
unfolding pairs_from
pairs_takes bytes pairs rest h e =
    let each : Takes pair_from pair_field Named = record { of = pair_takes } in
    let t = (takes_counted pair_from pair_field each).of bytes pairs rest h e in
    (t.0, (record { count = t.1.0; values = all_fit pairs t.1.1 }, all_named pairs t.1.1))

pairs_again : (pairs : List Pair) (rest : List ℕ) → ArePairs pairs → pairs_from (pairs_field pairs ++ rest)
    ≡ Some (pairs, rest)
unfolding pairs_from
pairs_again pairs rest f =
    let each : Again pair_from pair_field Named = record { of = pair_again } in
    (again_counted pair_from pair_field each).of pairs rest (f.0.count, all_both pairs f.0.values f.1)

-- what is taken as the pairs of a post
pub takes_pairs : Takes pairs_from pairs_field ArePairs
takes_pairs = record { of = pairs_takes }

-- the pairs of a post are read again
pub again_pairs : Again pairs_from pairs_field ArePairs
again_pairs = record { of = pairs_again }
