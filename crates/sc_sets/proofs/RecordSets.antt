-- What a history records.
use Rattle.std.proofs.Common.{◌≡◌, ℕ, ◌&&◌, ◌==◌, ◌++◌, ◌∷◌, [], Bool, true, false, cond, List, filter, append-nil, append_assoc, ap, ◌∙◌}
use Rattle.sc_types.specs.declared.chart.Chart.{Chart}
use Rattle.sc_law.specs.Configurations.{parent_of}
use Rattle.sc_law.specs.Kinds.{is_atomic, is_deep}
use Rattle.sc_law.specs.Records.{records}
use Rattle.sc_law.specs.Tree.{is_below}

-- a deep or a shallow history of this parent records the state
abbrev pub is_recorded : Chart → Bool → ℕ → ℕ → Bool
is_recorded c deep parent a = cond deep (is_below c a parent && is_atomic c a) (parent_of c a == parent)

pub records_are : (c : Chart) (conf : List ℕ) (s parent : ℕ) (deep : Bool) → deep ≡ is_deep c s → parent ≡ parent_of c s
    → filter (is_recorded c deep parent) conf ≡ records c conf s
records_are c conf s parent deep d p =
    ap (λ n. filter (is_recorded c deep n) conf) p ∙ by deep d where
      by : (v : Bool) → v ≡ is_deep c s → filter (is_recorded c v (parent_of c s)) conf
          ≡ cond (is_deep c s) (filter (λ a. is_below c a (parent_of c s) && is_atomic c a) conf) (filter (λ a. parent_of c a == parent_of c s) conf)
      by true e = ap (λ w. cond w (filter (λ a. is_below c a (parent_of c s) && is_atomic c a) conf) (filter (λ a. parent_of c a == parent_of c s) conf)) e
      by false e = ap (λ w. cond w (filter (λ a. is_below c a (parent_of c s) && is_atomic c a) conf) (filter (λ a. parent_of c a == parent_of c s) conf)) e

joined : (old : List ℕ) (a : ℕ) (rest : List ℕ) → (old ++ a ∷ []) ++ rest ≡ old ++ a ∷ rest
joined old a rest = simp append_assoc

-- one state more
pub record_more : (test : ℕ → Bool) (v : Bool) (a : ℕ) (old new rest : List ℕ) → v ≡ test a → new ≡ old ++ cond v (a ∷ []) []
    → new ++ filter test rest ≡ old ++ filter test (a ∷ rest)
record_more test true a old new rest t e =
    ap (λ xs. xs ++ filter test rest) e ∙ joined old a (filter test rest)
    ∙ ap (λ w. old ++ cond w (a ∷ filter test rest) (filter test rest)) t
record_more test false a old new rest t e =
    ap (λ xs. xs ++ filter test rest) (e ∙ append-nil old) ∙ ap (λ w. old ++ cond w (a ∷ filter test rest) (filter test rest)) t
