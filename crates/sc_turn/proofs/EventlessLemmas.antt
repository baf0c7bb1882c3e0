-- Where a chart has no transition without an event, selection without one takes nothing.
use Rattle.std.proofs.Common.{◌≡◌, ℕ, ◌+◌, ◌<◌, ◌≤◌, ◌==◌, ◌||◌, zero, suc, Bool, true, false, cond, Option, None, List, [], ◌∷◌, ◌++◌, filter, flat_map, length, refl, arith, ap, ◌∙◌}
use Rattle.std.proofs.lemmas.Bool.Decides.{nat_tests}
use Rattle.std.specs.List.{list_any, range_with_len, AllByRecursion as AllOf}
use Rattle.sc_types.specs.declared.chart.Chart.{Chart}
use Rattle.sc_law.specs.Kinds.{is_atomic}
use Rattle.sc_law.specs.Runs.{RunState, Running}
use Rattle.sc_law.specs.Selection.{candidates, choose, chosen_from, first_enabled, found_or, select, selected}
use Rattle.sc_law.specs.Transitions.{is_match, transition_paths, transitions_of}
use Rattle.sc_law.specs.Tree.{ancestors}
use Rattle.sc_tables.proofs.Numbers.{AreBelow, numbers-below}
use Rattle.sc_turn.specs.Eventless.{has_eventless}

or-false : (x y : Bool) → (x || y) ≡ false → (x ≡ false) × (y ≡ false)
or-false true y h = absurd (cc)
or-false false y h = (refl, h)

-- no number of a range passes a test that none of it passes
none-passes : (p : ℕ → Bool) (a n : ℕ) → list_any p (range_with_len a n) ≡ false → (m : ℕ) → a ≤ m → m < a + n → p m ≡ false
none-passes p a zero h m l u = absurd (omega (arith, l, u))
none-passes p a (suc n) h m l u =
    let parts = or-false (p a) (list_any p (range_with_len (a + 1) n)) h in
    by (m == a) refl parts.0 (λ more. none-passes p (a + 1) n parts.1 m more (omega (arith, u)))
  where
    by : (v : Bool) → (m == a) ≡ v → p a ≡ false → (a + 1 ≤ m → p m ≡ false) → p m ≡ false
    by true e here later = let same : m ≡ a = grind (arith, nat_tests) in ap p same ∙ here
    by false e here later = let more : a + 1 ≤ m = grind (arith, nat_tests) in later more

-- a test that no number of a range passes finds none in it
pub none-in-range : (p : ℕ → Bool) (a n : ℕ) → ((m : ℕ) → a ≤ m → m < a + n → p m ≡ false) → list_any p (range_with_len a n) ≡ false
none-in-range p a zero h = refl
none-in-range p a (suc n) h =
    ap (λ v. v || list_any p (range_with_len (a + 1) n)) (h a (omega arith) (omega arith))
    ∙ none-in-range p (a + 1) n (λ m l u. h m (omega (arith, l)) (omega (arith, u)))

or-true : (v : Bool) → (v || true) ≡ true
or-true true = refl
or-true false = refl

-- a number of a range that passes a test is found in it
pub one-in-range : (p : ℕ → Bool) (a n m : ℕ) → a ≤ m → m < a + n → p m ≡ true → list_any p (range_with_len a n) ≡ true
one-in-range p a zero m l u h = absurd (omega (arith, l, u))
one-in-range p a (suc n) m l u h =
    by (m == a) refl (λ more. one-in-range p (a + 1) n m more (omega (arith, u)) h)
  where
    by : (v : Bool) → (m == a) ≡ v → (a + 1 ≤ m → list_any p (range_with_len (a + 1) n) ≡ true)
        → list_any p (range_with_len a (suc n)) ≡ true
    by true e later =
        let same : a ≡ m = grind (arith, nat_tests) in
        ap (λ v. v || list_any p (range_with_len (a + 1) n)) (ap p same ∙ h)
    by false e later =
        let more : a + 1 ≤ m = grind (arith, nat_tests) in
        ap (λ v. p a || v) (later more) ∙ or-true (p a)

-- one number more
pub one-more : (p : ℕ → Bool) (n : ℕ) → list_any p (range_with_len 0 n) ≡ false → p n ≡ false
    → list_any p (range_with_len 0 (n + 1)) ≡ false
one-more p n h e = none-in-range p 0 (n + 1) (λ m l u. by m l u (m == n) refl) where
  by : (m : ℕ) → 0 ≤ m → m < 0 + (n + 1) → (v : Bool) → (m == n) ≡ v → p m ≡ false
  by m l u true t = let same : m ≡ n = grind (arith, nat_tests) in ap p same ∙ e
  by m l u false t = let less : m < 0 + n = grind (arith, nat_tests) in none-passes p 0 n h m l less

-- none of these transitions is taken without an event
abbrev AreForEvents : Chart → List ℕ → Type 0
AreForEvents c ts = AllOf (λ t. is_match c None t ≡ false) ts

for-events : (c : Chart) (n : ℕ) (ts : List ℕ) → ((m : ℕ) → m < n → is_match c None m ≡ false) → AreBelow n ts
    → AreForEvents c ts
for-events c n [] h l = tt
for-events c n (t ∷ ts) h l = (h t l.0, for-events c n ts h l.1)

both-for-events : (c : Chart) (ts us : List ℕ) → AreForEvents c ts → AreForEvents c us → AreForEvents c (ts ++ us)
both-for-events c [] us h k = k
both-for-events c (t ∷ ts) us h k = (h.0, both-for-events c ts us h.1 k)

own-for-events : (c : Chart) (s : ℕ) → has_eventless c ≡ false → AreForEvents c (transitions_of c s)
own-for-events c s h =
    for-events c (length (transition_paths c)) (transitions_of c s)
    (λ m l. none-passes (is_match c None) 0 (length (transition_paths c)) h m (omega arith) (omega (arith, l)))
    (numbers-below _ 0 (length (transition_paths c)) (transition_paths c) (omega arith))

all-for-events : (c : Chart) (ss : List ℕ) → has_eventless c ≡ false → AreForEvents c (flat_map (transitions_of c) ss)
all-for-events c [] h = tt
all-for-events c (s ∷ ss) h =
    both-for-events c (transitions_of c s) (flat_map (transitions_of c) ss) (own-for-events c s h) (all-for-events c ss h)

first-none : (c : Chart) (ts : List ℕ) (r : Running) → AreForEvents c ts → first_enabled c None ts r ≡ (None, r)
first-none c [] r h = refl
first-none c (t ∷ ts) r h =
    ap (λ v. (cond v (found_or c t (first_enabled c None ts)) (first_enabled c None ts)) r) h.0
    ∙ first-none c ts r h.1

chosen-none : (c : Chart) (ss : List ℕ) (r : Running) → has_eventless c ≡ false → chosen_from c None [] ss r ≡ ([], r)
chosen-none c [] r h = refl
chosen-none c (s ∷ ss) r h =
    ap (λ (f : Option ℕ × Running). chosen_from c None (choose [] f.0) ss f.1)
    (first-none c (candidates c s) r (all-for-events c (s ∷ ancestors c s) h))
    ∙ chosen-none c ss r h

-- without transitions of that kind nothing is selected, and no condition is evaluated
pub none-selected : (c : Chart) (x : RunState) → has_eventless c ≡ false → select c None x ≡ record { transitions = []; run = x }
unfolding select
none-selected c x h =
    ap (selected c x) (chosen-none c (filter (is_atomic c) x.running.env.configuration) x.running h)
