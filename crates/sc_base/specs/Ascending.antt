-- Sets of numbers as ascending lists. SCXML Appendix D, OrderedSet; that a set of states is the ascending list of its
-- states' numbers, which is document order, is this host's own rule.
use Rattle.std.specs.Prelude.{ℕ, ◌==◌, nat_lt, Bool, not, if◌then◌else◌, List, [], ◌∷◌, filter}
use Rattle.std.specs.List.{list_any}

abbrev pub contains : List ℕ → ℕ → Bool
contains set n = list_any (λ m. m == n) set

-- n in its place; what is there already is not added
abbrev pub with_number : ℕ → List ℕ → List ℕ
with_number n [] = n ∷ []
with_number n (m ∷ ms) = if n == m then m ∷ ms else (if nat_lt n m then n ∷ m ∷ ms else m ∷ with_number n ms)

-- the numbers of either set
abbrev pub joined : List ℕ → List ℕ → List ℕ
joined xs [] = xs
joined xs (y ∷ ys) = with_number y (joined xs ys)

-- the numbers of a set that are none of those gone
abbrev pub without : List ℕ → List ℕ → List ℕ
without gone set = filter (λ n. not (contains gone n)) set
