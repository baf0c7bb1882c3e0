-- The records of a microstep are those of a legal configuration, and an effective target stays below its domain.
use Rattle.std.proofs.Common.{◌≡◌, inl, inr, ℕ, ◌+◌, ◌<◌, ◌≤◌, ◌==◌, ◌||◌, not, zero, suc, Bool, true, false, cond, Option, Some, None, option_and_then, List, [], ◌∷◌, filter, filter_map, find, refl, arith, ap, sym, subst, ◌∙◌}
use Rattle.std.proofs.lemmas.Bool.{cases_lt}
use Rattle.std.proofs.lemmas.Bool.Decides.{nat_tests}
use Rattle.std.specs.List.{cons_option, list_any, range_with_len}
use Rattle.sc_base.specs.Ascending.{contains}
use Rattle.sc_types.specs.declared.chart.Chart.{Chart}
use Rattle.sc_law.specs.Tree.{state_count}
use Rattle.sc_law.specs.Kinds.{is_history}
use Rattle.sc_law.specs.Configurations.{IsConfiguration, parent_of}
use Rattle.sc_law.specs.Sets.{Histories, exit_set, leaves, some_states, value_of_history}
use Rattle.sc_law.specs.Records.{kept_by, record_all, records}
use Rattle.sc_law.specs.Fitting.{IsRecorded}
use Rattle.std.specs.List.{AllByRecursion as AllOf}

-- ---- lists

pub find-has : (P : ℕ × List ℕ → Type 0) (s : ℕ) (h : Histories) (k : ℕ × List ℕ) → AllOf P h
    → find (λ (kept : ℕ × List ℕ). kept.0 == s) h ≡ Some k → P k
find-has P s [] k all e = absurd (cc)
find-has P s (kept ∷ h) k all e = by (kept.0 == s) e (find-has P s h k all.1) where
  by : (v : Bool) → cond v (Some kept) (find (λ (kept : ℕ × List ℕ). kept.0 == s) h) ≡ Some k
      → (find (λ (kept : ℕ × List ℕ). kept.0 == s) h ≡ Some k → P k) → P k
  by true e so = (let same : kept ≡ k = cc in subst P same all.0)
  by false e so = so e

pub contains-filter : (test : ℕ → Bool) (s : ℕ) (ss : List ℕ) → contains (filter test ss) s ≡ true → (contains ss s ≡ true) × (test s ≡ true)
contains-filter test s [] h = absurd (cc)
contains-filter test s (t ∷ ss) h = by (test t) refl h (contains-filter test s ss) where
  on : (v : Bool) → (t == s) ≡ v → test t ≡ true → (v || contains (filter test ss) s) ≡ true
      → (contains (filter test ss) s ≡ true → (contains ss s ≡ true) × (test s ≡ true)) → ((v || contains ss s) ≡ true) × (test s ≡ true)
  on true e f h so = (refl, (let same : t ≡ s = grind (arith, nat_tests) in subst (λ k. test k ≡ true) same f))
  on false e f h so = so h

  later : (v : Bool) → (contains ss s ≡ true) × (test s ≡ true) → ((v || contains ss s) ≡ true) × (test s ≡ true)
  later true r = (refl, r.1)
  later false r = r

  by : (v : Bool) → test t ≡ v → contains (cond v (t ∷ filter test ss) (filter test ss)) s ≡ true
      → (contains (filter test ss) s ≡ true → (contains ss s ≡ true) × (test s ≡ true)) → (((t == s) || contains ss s) ≡ true) × (test s ≡ true)
  by true e h so = on (t == s) refl e h so
  by false e h so = later (t == s) (so h)

-- ---- records

-- a kept record is one of a legal configuration
kept-recorded : (c : Chart) (configuration gone : List ℕ) (h : Histories) (s : ℕ) (k : ℕ × List ℕ) → IsConfiguration c configuration
    → ((p : ℕ) → contains gone p ≡ true → contains configuration p ≡ true) → AllOf (IsRecorded c) h
    → kept_by c configuration gone h s ≡ Some k → IsRecorded c k
kept-recorded c configuration gone h s k is within all e = by (is_history c s) (contains gone (parent_of c s)) refl refl e where
  by : (v w : Bool) → is_history c s ≡ v → contains gone (parent_of c s) ≡ w
      → cond (not v) None (cond w (Some (s, records c configuration s)) (find (λ (kept : ℕ × List ℕ). kept.0 == s) h)) ≡ Some k → IsRecorded c k
  by false w f g e = absurd (cc)
  by true true f g e = (let same : (s, records c configuration s) ≡ k = cc in
      subst (IsRecorded c) same (f, (configuration, is, within (parent_of c s) g, refl)))
  by true false f g e = find-has (IsRecorded c) s h k all e

all-recorded : (c : Chart) (configuration gone : List ℕ) (h : Histories) (ss : List ℕ) → IsConfiguration c configuration
    → ((p : ℕ) → contains gone p ≡ true → contains configuration p ≡ true) → AllOf (IsRecorded c) h
    → AllOf (IsRecorded c) (filter_map (kept_by c configuration gone h) ss)
all-recorded c configuration gone h [] is within all = tt
all-recorded c configuration gone h (s ∷ ss) is within all =
    by (kept_by c configuration gone h s) refl (all-recorded c configuration gone h ss is within all) where
      by : (o : Option (ℕ × List ℕ)) → kept_by c configuration gone h s ≡ o → AllOf (IsRecorded c) (filter_map (kept_by c configuration gone h) ss)
          → AllOf (IsRecorded c) (cons_option o (filter_map (kept_by c configuration gone h) ss))
      by None e rest = rest
      by (Some k) e rest = (kept-recorded c configuration gone h s k is within all e, rest)

-- what is recorded as states are exited is recorded from the configuration, or was recorded before
pub record-recorded : (c : Chart) (configuration gone : List ℕ) (h : Histories) → IsConfiguration c configuration
    → ((p : ℕ) → contains gone p ≡ true → contains configuration p ≡ true) → AllOf (IsRecorded c) h
    → AllOf (IsRecorded c) (record_all c configuration gone h)
unfolding record_all
record-recorded c configuration gone h is within all = all-recorded c configuration gone h (range_with_len 0 (state_count c)) is within all

-- what is exited was active
pub exited-active : (c : Chart) (h : Histories) (ts configuration : List ℕ) (p : ℕ) → contains (exit_set c h ts configuration) p ≡ true
    → (contains configuration p ≡ true) × (list_any (λ t. leaves c h t p) ts ≡ true)
unfolding exit_set
exited-active c h ts configuration p e = contains-filter (λ s. list_any (λ t. leaves c h t s) ts) p configuration e

-- ---- what a history keeps

pub key-of : (c : Chart) (configuration gone : List ℕ) (h : Histories) (s : ℕ) (k : ℕ × List ℕ) → kept_by c configuration gone h s ≡ Some k → k.0 ≡ s
key-of c configuration gone h s k e = by (is_history c s) (contains gone (parent_of c s)) e where
  found : (g : Histories) → find (λ (kept : ℕ × List ℕ). kept.0 == s) g ≡ Some k → k.0 ≡ s
  found [] f = absurd (cc)
  found (kept ∷ g) f = on (kept.0 == s) refl f (found g) where
    on : (v : Bool) → (kept.0 == s) ≡ v → cond v (Some kept) (find (λ (kept : ℕ × List ℕ). kept.0 == s) g) ≡ Some k
        → (find (λ (kept : ℕ × List ℕ). kept.0 == s) g ≡ Some k → k.0 ≡ s) → k.0 ≡ s
    on true is f so = (let same : kept ≡ k = cc in let at : kept.0 ≡ s = grind (arith, nat_tests) in subst (λ (x : ℕ × List ℕ). x.0 ≡ s) same at)
    on false is f so = so f

  by : (v w : Bool) → cond (not v) None (cond w (Some (s, records c configuration s)) (find (λ (kept : ℕ × List ℕ). kept.0 == s) h)) ≡ Some k → k.0 ≡ s
  by false w e = absurd (cc)
  by true true e = (let same : (s, records c configuration s) ≡ k = cc in ap (λ (x : ℕ × List ℕ). x.0) (sym same))
  by true false e = found h e

-- a look-up by key in a table that is made of its keys
find-kept : (f : ℕ → Option (ℕ × List ℕ)) (t : ℕ) (ss : List ℕ) → ((s : ℕ) (k : ℕ × List ℕ) → f s ≡ Some k → k.0 ≡ s)
    → find (λ (kept : ℕ × List ℕ). kept.0 == t) (filter_map f ss) ≡ cond (contains ss t) (f t) None
find-kept f t [] key = refl
find-kept f t (s ∷ ss) key = by (f s) refl (s == t) refl (find-kept f t ss key) where
  none-either : (v : Bool) (o : Option (ℕ × List ℕ)) → o ≡ None → cond v o None ≡ o
  none-either true o e = refl
  none-either false o e = sym e

  by : (o : Option (ℕ × List ℕ)) → f s ≡ o → (v : Bool) → (s == t) ≡ v
      → find (λ (kept : ℕ × List ℕ). kept.0 == t) (filter_map f ss) ≡ cond (contains ss t) (f t) None
      → find (λ (kept : ℕ × List ℕ). kept.0 == t) (cons_option o (filter_map f ss)) ≡ cond (v || contains ss t) (f t) None
  by None e true is rest = (let same : s ≡ t = grind (arith, nat_tests) in
      let at : f t ≡ None = ap f (sym same) ∙ e in rest ∙ none-either (contains ss t) (f t) at)
  by None e false is rest = rest
  by (Some k) e true is rest =
      (let same : s ≡ t = grind (arith, nat_tests) in
      let at : k.0 ≡ t = key s k e ∙ same in
      let hit : (k.0 == t) ≡ true = grind (arith, nat_tests) in
      ap (λ v. cond v (Some k) (find (λ (kept : ℕ × List ℕ). kept.0 == t) (filter_map f ss))) hit ∙ sym e ∙ ap f same)
  by (Some k) e false is rest =
      (let at : k.0 ≡ s = key s k e in
      let miss : (k.0 == t) ≡ false = ap (λ n. n == t) at ∙ is in
      ap (λ v. cond v (Some k) (find (λ (kept : ℕ × List ℕ). kept.0 == t) (filter_map f ss))) miss ∙ rest)

contains-range : (from n s : ℕ) → from ≤ s → s < from + n → contains (range_with_len from n) s ≡ true
contains-range from zero s l m = absurd (omega arith)
contains-range from (suc n) s l m = elim (cases_lt from s) [
  | inl below ↦ later (from == s) (contains-range (from + 1) n s (omega arith) (omega arith))
  | inr past ↦ (let same : from ≡ s = omega arith in
      let hit : (from == s) ≡ true = grind (arith, nat_tests) in ap (λ v. v || contains (range_with_len (from + 1) n) s) hit)
] where
  later : (v : Bool) → contains (range_with_len (from + 1) n) s ≡ true → (v || contains (range_with_len (from + 1) n) s) ≡ true
  later true h = refl
  later false h = h

-- a history whose parent is not exited keeps what it has
pub value-stays : (c : Chart) (configuration gone : List ℕ) (h : Histories) (t : ℕ) → t < state_count c → is_history c t ≡ true
    → contains gone (parent_of c t) ≡ false → value_of_history (record_all c configuration gone h) t ≡ value_of_history h t
unfolding record_all
value-stays c configuration gone h t l is stays =
    ap (λ (o : Option (ℕ × List ℕ)). option_and_then (λ (kept : ℕ × List ℕ). some_states kept.1) o)
    (find-kept (kept_by c configuration gone h) t (range_with_len 0 (state_count c)) (key-of c configuration gone h)
    ∙ ap (λ v. cond v (kept_by c configuration gone h t) None) (contains-range 0 (state_count c) t (omega arith) (omega arith))
    ∙ ap (λ v. cond (not v) None (cond (contains gone (parent_of c t)) (Some (t, records c configuration t)) (find (λ (kept : ℕ × List ℕ). kept.0 == t) h))) is
    ∙ ap (λ v. cond v (Some (t, records c configuration t)) (find (λ (kept : ℕ × List ℕ). kept.0 == t) h)) stays)
