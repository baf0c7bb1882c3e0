-- The pieces of a text: the first of them, and those behind it.
use Rattle.std.proofs.Common.{◌≡◌, ◌&&◌, ℕ, ◌+◌, ◌<◌, ◌≤◌, zero, suc, Bool, true, false, cond, nat_lt, filter, Some, None, List, [], ◌∷◌, ◌++◌, length, take, drop, get_or, refl, arith, ap, ◌∙◌}
use Rattle.std.proofs.lemmas.List.Quantifiers.{position-Some}
use Rattle.std.proofs.lemmas.List.Folds.{list_all-append}
use Rattle.std.proofs.lemmas.List.Sums.{fails_before_first}
use Rattle.std.proofs.lemmas.Grind.{common_steps}
use Rattle.std.specs.List.{list_all, position, position_or_len}
use Rattle.sc_types.specs.Descriptors.{is_white_space, grow_first, split_at, pieces}
use Rattle.sc_chart_json.specs.Pieces.{kept}

step : Bool → ℕ → List (List ℕ) → List (List ℕ)
step v x rest = cond v ([] ∷ rest) (grow_first x rest)

split_at-first : (xs : List ℕ) (i : ℕ) → i < length xs → is_white_space (get_or xs i 0) ≡ true
    → ((k : ℕ) → k < i → is_white_space (get_or xs k 0) ≡ false)
    → split_at is_white_space xs ≡ take i xs ∷ split_at is_white_space (drop (suc i) xs)
unfolding step
split_at-first [] i h e before = absurd (omega arith)
split_at-first (x ∷ xs) zero h e before = ap (λ v. step v x (split_at is_white_space xs)) e
split_at-first (x ∷ xs) (suc i) h e before =
    ap (λ v. step v x (split_at is_white_space xs)) (before 0 (omega arith))
    ∙ ap (grow_first x) (split_at-first xs i (omega arith) e (λ k b. before (suc k) (omega arith)))

split_at-only : (xs : List ℕ) → ((k : ℕ) → k < length xs → is_white_space (get_or xs k 0) ≡ false) → split_at is_white_space xs ≡ xs ∷ []
unfolding step
split_at-only [] none = refl
split_at-only (x ∷ xs) none =
    ap (λ v. step v x (split_at is_white_space xs)) (none 0 (omega arith))
    ∙ ap (grow_first x) (split_at-only xs (λ k b. none (suc k) (omega arith)))

filter-first : (x : List ℕ) (xs : List (List ℕ)) → filter (λ piece. nat_lt 0 (length piece)) (x ∷ xs) ≡ kept x ++ filter (λ piece. nat_lt 0 (length piece)) xs
filter-first x xs = by (nat_lt 0 (length x))
  where
    by : (v : Bool) → cond v (x ∷ filter (λ piece. nat_lt 0 (length piece)) xs) (filter (λ piece. nat_lt 0 (length piece)) xs)
        ≡ cond v (x ∷ []) [] ++ filter (λ piece. nat_lt 0 (length piece)) xs
    by true = refl
    by false = refl

-- the pieces of a text are the one before its first white space and those behind it
pub pieces-first : (xs : List ℕ) (i : ℕ) → position is_white_space xs ≡ Some i → pieces xs ≡ kept (take i xs) ++ pieces (drop (i + 1) xs)
pieces-first xs i found =
    let first = position-Some is_white_space xs i 0 found in
    let next : suc i ≡ i + 1 = omega arith in
    ap (filter (λ piece. nat_lt 0 (length piece))) (split_at-first xs i first.0 first.1 first.2)
    ∙ filter-first (take i xs) (split_at is_white_space (drop (suc i) xs))
    ∙ ap (λ n. kept (take i xs) ++ pieces (drop n xs)) next

-- a text without white space is its only piece, if it has something in it
pub pieces-only : (xs : List ℕ) → position is_white_space xs ≡ None → pieces xs ≡ kept xs
pieces-only xs found =
    let whole : length xs ≤ position_or_len is_white_space xs = grind (arith, common_steps) in
    ap (filter (λ piece. nat_lt 0 (length piece))) (split_at-only xs (λ k b. fails_before_first is_white_space xs k 0 (omega arith)))

-- the pieces of a text pass a test where the first one and those behind it do
pub all_pieces-first : (test : List ℕ → Bool) (xs : List ℕ) (i : ℕ) → position is_white_space xs ≡ Some i
    → list_all test (pieces xs) ≡ list_all test (kept (take i xs)) && list_all test (pieces (drop (i + 1) xs))
all_pieces-first test xs i found = ap (list_all test) (pieces-first xs i found) ∙ list_all-append test (kept (take i xs)) (pieces (drop (i + 1) xs))
