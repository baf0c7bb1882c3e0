-- What the active atomic states choose, one after another.
use Rattle.std.proofs.Common.{◌≡◌, ℕ, ◌+◌, ◌≤◌, Bool, true, false, cond, nat_le, Option, Some, None, List, [], ◌∷◌, find, filter, ap, sym, ◌∙◌}
use Rattle.sc_bits.specs.Rows.{IsAscending}
use Rattle.sc_types.specs.declared.chart.Chart.{Chart}
use Rattle.sc_law.specs.Kinds.{is_atomic}
use Rattle.sc_law.specs.Runs.{Running}
use Rattle.sc_law.specs.Selection.{chosen_from}
use Rattle.sc_sets.proofs.Members.{from_on, next_none, next_some}

-- a state, where it is atomic, and then the others
choice-step : (c : Chart) (event : Option (List ℕ)) (chosen new rest : List ℕ) (s : ℕ) (v : Bool) (r q : Running)
    → chosen_from c event chosen (cond v (s ∷ []) []) r ≡ (new, q)
    → chosen_from c event new rest q ≡ chosen_from c event chosen (cond v (s ∷ rest) rest) r
choice-step c event chosen new rest s true r q h =
    ap (λ (p : List ℕ × Running). chosen_from c event p.0 rest p.1) (sym h)
choice-step c event chosen new rest s false r q h =
    ap (λ (p : List ℕ × Running). chosen_from c event p.0 rest p.1) (sym h)

-- the next active state of a row, and then those behind it
pub choice-next : (c : Chart) (event : Option (List ℕ)) (chosen new ms : List ℕ) (w from s : ℕ) (r q : Running)
    → IsAscending 0 w ms
    → Some s ≡ find (λ m. nat_le from m) ms → from ≤ s
    → chosen_from c event chosen (cond (is_atomic c s) (s ∷ []) []) r ≡ (new, q)
    → chosen_from c event new (filter (is_atomic c) (from_on (s + 1) ms)) q
    ≡ chosen_from c event chosen (filter (is_atomic c) (from_on from ms)) r
choice-next c event chosen new ms w from s r q form e l h =
    choice-step c event chosen new (filter (is_atomic c) (from_on (s + 1) ms)) s (is_atomic c s) r q h
    ∙ ap (λ xs. chosen_from c event chosen (filter (is_atomic c) xs) r) (sym (next_some 0 w from s ms form e l))

-- no active state is left
pub choice-end : (c : Chart) (event : Option (List ℕ)) (chosen ms : List ℕ) (from : ℕ) (r : Running)
    → None ≡ find (λ m. nat_le from m) ms
    → chosen_from c event chosen (filter (is_atomic c) (from_on from ms)) r ≡ (chosen, r)
choice-end c event chosen ms from r e = ap (λ xs. chosen_from c event chosen (filter (is_atomic c) xs) r)
    (next_none from ms e)
