-- Which transitions conflict, by the states that each exits.
use Rattle.std.proofs.Common.{◌≡◌, ℕ, ◌==◌, ◌&&◌, ◌||◌, Bool, true, false, cond, List, [], ◌∷◌, filter, refl, arith, ap, ap₂, sym, ◌∙◌}
use Rattle.std.proofs.lemmas.Bool.Decides.{nat_tests}
use Rattle.std.specs.List.{list_any, AllByRecursion as AllOf}
use Rattle.sc_base.specs.Ascending.{contains}
use Rattle.sc_types.specs.declared.chart.Chart.{Chart}
use Rattle.sc_law.specs.Selection.{conflicts}
use Rattle.sc_law.specs.Sets.{Histories, exit_set, leaves}
use Rattle.sc_sets.proofs.BelowSets.{any_same}
use Rattle.sc_sets.proofs.Union.Below.{any-fewer}

and-false : (v : Bool) → (v && false) ≡ false
and-false true = refl
and-false false = refl

or-true : (v : Bool) → (v || true) ≡ true
or-true true = refl
or-true false = refl

one : (v : Bool) → (v || false) ≡ v
one true = refl
one false = refl

-- a number is among those that pass a test
contains-filter : (p : ℕ → Bool) (n : ℕ) (ms : List ℕ) → contains (filter p ms) n ≡ (contains ms n && p n)
contains-filter p n [] = refl
contains-filter p n (m ∷ ms) = by (m == n) (p m) refl refl (contains-filter p n ms) where
  by : (v u : Bool) → (m == n) ≡ v → p m ≡ u → contains (filter p ms) n ≡ (contains ms n && p n)
      → contains (cond u (m ∷ filter p ms) (filter p ms)) n ≡ ((v || contains ms n) && p n)
  by true true e f so =
      let same : m ≡ n = grind (arith, nat_tests) in
      let passes : p n ≡ true = ap p (sym same) ∙ f in
      ap (λ x. x || contains (filter p ms) n) e ∙ sym passes
  by true false e f so =
      let same : m ≡ n = grind (arith, nat_tests) in
      let fails : p n ≡ false = ap p (sym same) ∙ f in
      so ∙ ap (λ x. contains ms n && x) fails ∙ and-false (contains ms n) ∙ sym fails
  by false true e f so = ap (λ x. x || contains (filter p ms) n) e ∙ so
  by false false e f so = so

-- each of these is in a set
abbrev AreIn : List ℕ → List ℕ → Type 0
AreIn set [] = Unit
AreIn set (m ∷ ms) = (contains set m ≡ true) × AreIn set ms

in-more : (n : ℕ) (set ms : List ℕ) → AreIn set ms → AreIn (n ∷ set) ms
in-more n set [] h = tt
in-more n set (m ∷ ms) h = (ap (λ v. (n == m) || v) h.0 ∙ or-true (n == m), in-more n set ms h.1)

in-itself : (ms : List ℕ) → AreIn ms ms
in-itself [] = tt
in-itself (m ∷ ms) =
    let same : (m == m) ≡ true = grind (arith, nat_tests) in
    (ap (λ v. v || contains ms m) same, in-more m ms ms (in-itself ms))

-- two parts of a set meet where a number passes both tests
parts-meet : (p q : ℕ → Bool) (set ms : List ℕ) → AreIn set ms
    → list_any (λ m. contains (filter p set) m) (filter q ms) ≡ list_any (λ s. q s && p s) ms
parts-meet p q set [] h = refl
parts-meet p q set (m ∷ ms) h = by (q m) (parts-meet p q set ms h.1) where
  by : (v : Bool) → list_any (λ m. contains (filter p set) m) (filter q ms) ≡ list_any (λ s. q s && p s) ms
      → list_any (λ m. contains (filter p set) m) (cond v (m ∷ filter q ms) (filter q ms))
      ≡ ((v && p m) || list_any (λ s. q s && p s) ms)
  by true e = ap₂ (λ (x y : Bool). x || y) (contains-filter p m set ∙ ap (λ x. x && p m) h.0) e
  by false e = e

-- the exits of two transitions meet where they conflict
pub exits-meet : (c : Chart) (h : Histories) (t u : ℕ) (conf : List ℕ)
    → list_any (λ m. contains (exit_set c h (u ∷ []) conf) m) (exit_set c h (t ∷ []) conf) ≡ conflicts c h conf t u
unfolding exit_set
exits-meet c h t u conf =
    parts-meet (λ s. list_any (λ t. leaves c h t s) (u ∷ [])) (λ s. list_any (λ t. leaves c h t s) (t ∷ [])) conf conf
    (in-itself conf)
    ∙ any_same _ (λ s. leaves c h t s && leaves c h u s)
    (λ s. ap₂ (λ (x y : Bool). x && y) (one (leaves c h t s)) (one (leaves c h u s))) conf

-- what one exits meets what all of these exit
meets-all : (c : Chart) (h : Histories) (t : ℕ) (kept conf : List ℕ)
    → list_any (λ m. contains (exit_set c h kept conf) m) (exit_set c h (t ∷ []) conf)
    ≡ list_any (λ s. leaves c h t s && list_any (λ u. leaves c h u s) kept) conf
unfolding exit_set
meets-all c h t kept conf =
    parts-meet (λ s. list_any (λ u. leaves c h u s) kept) (λ s. list_any (λ t. leaves c h t s) (t ∷ [])) conf conf
    (in-itself conf)
    ∙ any_same _ (λ s. leaves c h t s && list_any (λ u. leaves c h u s) kept)
    (λ s. ap (λ (x : Bool). x && list_any (λ u. leaves c h u s) kept) (one (leaves c h t s))) conf

first-of : (x y z : Bool) → (x && y) ≡ true → (x && (y || z)) ≡ true
first-of true true z h = refl
first-of true false z h = absurd (cc)
first-of false y z h = absurd (cc)

later-of : (x y z : Bool) → (x && z) ≡ true → (x && (y || z)) ≡ true
later-of true y true h = or-true y
later-of true y false h = absurd (cc)
later-of false y z h = absurd (cc)

apart-each : (c : Chart) (h : Histories) (t : ℕ) (kept conf : List ℕ)
    → list_any (λ s. leaves c h t s && list_any (λ u. leaves c h u s) kept) conf ≡ false
    → AllOf (λ u. conflicts c h conf t u ≡ false) kept
apart-each c h t [] conf none = tt
apart-each c h t (u ∷ us) conf none = (
  any-fewer (λ s. leaves c h t s && leaves c h u s)
      (λ s. leaves c h t s && (leaves c h u s || list_any (λ u. leaves c h u s) us)) conf
      (λ s. first-of (leaves c h t s) (leaves c h u s) (list_any (λ u. leaves c h u s) us)) none,
  apart-each c h t us conf (any-fewer (λ s. leaves c h t s && list_any (λ u. leaves c h u s) us)
      (λ s. leaves c h t s && (leaves c h u s || list_any (λ u. leaves c h u s) us)) conf
      (λ s. later-of (leaves c h t s) (leaves c h u s) (list_any (λ u. leaves c h u s) us)) none),
)

-- a transition whose exits meet none of those of the others conflicts with none of them
pub none-conflict : (c : Chart) (h : Histories) (t : ℕ) (kept conf own all : List ℕ) → own ≡ exit_set c h (t ∷ []) conf
    → all ≡ exit_set c h kept conf → list_any (λ m. contains all m) own ≡ false
    → AllOf (λ u. conflicts c h conf t u ≡ false) kept
none-conflict c h t kept conf own all o a none =
    apart-each c h t kept conf (sym (meets-all c h t kept conf)
    ∙ ap₂ (λ (xs ys : List ℕ). list_any (λ m. contains xs m) ys) (sym a) (sym o) ∙ none)
