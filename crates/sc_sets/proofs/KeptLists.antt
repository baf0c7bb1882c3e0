-- What histories keep.
use Rattle.std.proofs.Common.{◌≡◌, ℕ, ◌<◌, ◌==◌, ◌&&◌, ◌∷◌, [], suc, Bool, true, false, not, cond, Option, Some, None, Result, Ok, Err, IfOk, All, List, filter, nat_lt, filter_map, find, refl, arith, ap, sym, ◌∙◌}
use Rattle.std.proofs.lemmas.List.Elements.{All-filter}
use Rattle.std.proofs.lemmas.Bool.Decides.{nat_tests}
use Rattle.std.specs.List.{cons_option, list_all, range_with_len}
use Rattle.sc_base.specs.Ascending.{contains}
use Rattle.sc_types.specs.declared.chart.Chart.{Chart}
use Rattle.sc_law.specs.Configurations.{parent_of}
use Rattle.sc_law.specs.Kinds.{is_atomic, is_deep, is_history}
use Rattle.sc_law.specs.Records.{kept_by, records}
use Rattle.sc_law.specs.Sets.{Histories}
use Rattle.sc_law.specs.Tree.{is_below, state_count}
use Rattle.sc_sets.specs.Conditions.{KeepsStates}

-- a history keeps what it has, where its parent is not exited
pub kept_before : (c : Chart) (conf gone : List ℕ) (h : Histories) (s : ℕ) → is_history c s ≡ true → contains gone (parent_of c s) ≡ false
    → find (λ (kept : ℕ × List ℕ). kept.0 == s) h ≡ kept_by c conf gone h s
kept_before c conf gone h s is other =
    sym (ap (λ v. cond (not v) None (cond (contains gone (parent_of c s)) (Some (s, records c conf s)) (find (λ (kept : ℕ × List ℕ). kept.0 == s) h))) is
    ∙ ap (λ v. cond v (Some (s, records c conf s)) (find (λ (kept : ℕ × List ℕ). kept.0 == s) h)) other)

-- what follows of a value that a call gave
pub if_gives : {X E : Type 0} (r : Result X E) (x y : X) → IfOk r (λ v. v ≡ x) → x ≡ y → IfOk r (λ v. v ≡ y)
if_gives (Ok v) x y h e = h ∙ e
if_gives (Err f) x y h e = tt

-- a state that is no history keeps nothing, so that the histories alone are enough
pub of-histories : (c : Chart) (conf gone : List ℕ) (h : Histories) (ns : List ℕ)
    → filter_map (kept_by c conf gone h) (filter (is_history c) ns) ≡ filter_map (kept_by c conf gone h) ns
of-histories c conf gone h [] = refl
of-histories c conf gone h (n ∷ ns) = by (is_history c n) refl (of-histories c conf gone h ns) where
  by : (v : Bool) → is_history c n ≡ v
      → filter_map (kept_by c conf gone h) (filter (is_history c) ns) ≡ filter_map (kept_by c conf gone h) ns
      → filter_map (kept_by c conf gone h) (cond v (n ∷ filter (is_history c) ns) (filter (is_history c) ns))
      ≡ cons_option (kept_by c conf gone h n) (filter_map (kept_by c conf gone h) ns)
  by true e so = ap (cons_option (kept_by c conf gone h n)) so
  by false e so = rw e so

-- ---- what is kept are states

abbrev pub are_numbers : Chart → List ℕ → Bool
are_numbers c ss = list_all (λ s. nat_lt s (state_count c)) ss

numbers_of : (c : Chart) (ss : List ℕ) → All (λ s. s < state_count c) ss → are_numbers c ss ≡ true
numbers_of c [] h = refl
numbers_of c (s ∷ ss) h =
    let less : s < state_count c = h 0 0 (omega arith) in
    let t : nat_lt s (state_count c) ≡ true = grind (arith, nat_tests) in
    rw t (numbers_of c ss (λ k d l. h (suc k) d (omega arith)))

records_within : (c : Chart) (conf : List ℕ) (s : ℕ) → All (λ a. a < state_count c) conf → All (λ a. a < state_count c) (records c conf s)
records_within c conf s h = by (is_deep c s) where
  by : (v : Bool) → All (λ a. a < state_count c)
      (cond v (filter (λ a. is_below c a (parent_of c s) && is_atomic c a) conf) (filter (λ a. parent_of c a == parent_of c s) conf))
  by true = All-filter (λ a. is_below c a (parent_of c s) && is_atomic c a) (λ (a : ℕ). a < state_count c) conf h
  by false = All-filter (λ a. parent_of c a == parent_of c s) (λ (a : ℕ). a < state_count c) conf h

abbrev pub keeps : Chart → ℕ × List ℕ → Bool
keeps c kept = are_numbers c kept.1

found_keeps : (c : Chart) (h : Histories) (s : ℕ) (k : ℕ × List ℕ) → list_all (keeps c) h ≡ true
    → find (λ (kept : ℕ × List ℕ). kept.0 == s) h ≡ Some k → keeps c k ≡ true
found_keeps c [] s k a e = absurd (cc)
found_keeps c (x ∷ h) s k a e = by (x.0 == s) (keeps c x) refl a e (found_keeps c h s k) where
  by : (v w : Bool) → keeps c x ≡ w → (w && list_all (keeps c) h) ≡ true → cond v (Some x) (find (λ (kept : ℕ × List ℕ). kept.0 == s) h) ≡ Some k
      → (list_all (keeps c) h ≡ true → find (λ (kept : ℕ × List ℕ). kept.0 == s) h ≡ Some k → keeps c k ≡ true) → keeps c k ≡ true
  by v false i a e so = absurd (cc)
  by true true i a e so = let same : x ≡ k = cc in rw (sym same) i
  by false true i a e so = so a e

kept_keeps : (c : Chart) (conf gone : List ℕ) (h : Histories) (s : ℕ) (k : ℕ × List ℕ) → All (λ a. a < state_count c) conf → list_all (keeps c) h ≡ true
    → kept_by c conf gone h s ≡ Some k → keeps c k ≡ true
kept_keeps c conf gone h s k w a e = by (is_history c s) (contains gone (parent_of c s)) e where
  by : (v u : Bool) → cond (not v) None (cond u (Some (s, records c conf s)) (find (λ (kept : ℕ × List ℕ). kept.0 == s) h)) ≡ Some k → keeps c k ≡ true
  by false u e = absurd (cc)
  by true true e = let same : (s, records c conf s) ≡ k = cc in
      rw (sym same) (numbers_of c (records c conf s) (records_within c conf s w))
  by true false e = found_keeps c h s k a e

all_keep : (c : Chart) (f : ℕ → Option (ℕ × List ℕ)) (ns : List ℕ) → ((s : ℕ) (k : ℕ × List ℕ) → f s ≡ Some k → keeps c k ≡ true)
    → list_all (keeps c) (filter_map f ns) ≡ true
all_keep c f [] h = refl
all_keep c f (n ∷ ns) h = by (f n) refl (all_keep c f ns h) where
  by : (o : Option (ℕ × List ℕ)) → f n ≡ o → list_all (keeps c) (filter_map f ns) ≡ true → list_all (keeps c) (cons_option o (filter_map f ns)) ≡ true
  by None e so = so
  by (Some k) e so = rw (h n k e) so

-- the new table keeps states where the old one did
pub records_keep : (c : Chart) (conf gone : List ℕ) (h : Histories) → All (λ a. a < state_count c) conf → KeepsStates c h
    → KeepsStates c (filter_map (kept_by c conf gone h) (range_with_len 0 (state_count c)))
records_keep c conf gone h w k =
    all_keep c (kept_by c conf gone h) (range_with_len 0 (state_count c)) (λ s x e. kept_keeps c conf gone h s x w k e)
