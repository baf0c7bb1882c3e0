-- The state that a transition stands in.
use Rattle.std.proofs.Common.{◌≡◌, inl, inr, ℕ, ◌+◌, ◌<◌, ◌≤◌, ◌==◌, zero, suc, Bool, true, false, cond, Option, Some, None, All, List, [], ◌∷◌, ◌++◌, length, position, get_or, refl, arith, ap, ap₂, sym, ◌∙◌}
use Rattle.std.proofs.lemmas.Bool.{cases_lt, cases_order}
use Rattle.std.proofs.lemmas.Bool.Decides.{nat_tests}
use Rattle.std.proofs.lemmas.Slice.Eq.{bytes_eq-Decides}
use Rattle.std.proofs.lemmas.Iterator.Adapters.{position_from-zero}
use Rattle.std.proofs.lemmas.List.Elements.{All-cons, All-nil}
use Rattle.std.specs.List.{position_from}
use Rattle.sc_law.specs.Nodes.{Path, leads_on, parent, is_same}
use Rattle.sc_law.specs.Tree.{numbers_where}
use Rattle.sc_tables.specs.Built.{AreSources, IsSource, IsWithin, StandsBehind, is_number, places_of}
use Rattle.sc_tables.specs.Nearest.{IsNearest, path_at}
use Rattle.sc_tables.proofs.Leads.{leads-begin, leads-shorter, parent-begins, parent-leads, parent-length}
use Rattle.sc_tables.proofs.Order.{begins, begins-fork, begins-same, behind}

not-true : (v : Bool) → (v ≡ true → ⊥) → v ≡ false
not-true true h = absurd (h refl)
not-true false h = refl

absurd-false : (v : Bool) → v ≡ true → v ≡ false → ⊥
absurd-false v t f = cc

is-same : (p q : Path) → is_same p q ≡ true → p ≡ q
is-same p q h = (bytes_eq-Decides p q).0 h

-- no later path is that of the parent
not-later : (paths : List Path) (count : ℕ) (path : Path) (s : ℕ) → StandsBehind paths count path → count ≤ s → s < length paths
    → is_same (parent path) (path_at paths s) ≡ true → ⊥
not-later paths count path s placed l u h =
    let e : parent path ≡ path_at paths s = is-same _ _ h in
    let fails : begins (path_at paths s) path ≡ false = behind path (path_at paths s) (placed.later s l u) in
    let is : begins (parent path) path ≡ true = parent-begins path in
    cc

-- none leads on, so none is the parent
pub source-none : (paths : List Path) (count : ℕ) (path : Path) → StandsBehind paths count path → IsNearest paths count path None
    → IsSource paths path None
source-none paths count path placed none = record { within = tt; same = λ s u. not-true _ (λ h. by s u h) } where
  by : (s : ℕ) → s < length paths → is_same (parent path) (path_at paths s) ≡ true → ⊥
  by s u h = elim (cases_lt s count) [
    | inl l ↦ absurd-false (leads_on (path_at paths s) path) (ap (λ p. leads_on p path) (sym (is-same _ _ h)) ∙ parent-leads path placed.some) (none s (omega arith) l)
    | inr g ↦ not-later paths count path s placed g u h
  ]

-- the last that leads on is another than the parent, so none is the parent
pub source-other : (paths : List Path) (count a : ℕ) (path : Path) → StandsBehind paths count path → IsNearest paths count path (Some a)
    → (parent path ≡ path_at paths a → ⊥) → IsSource paths path None
source-other paths count a path placed near other = record { within = tt; same = λ s u. not-true _ (λ h. by s u h) } where
  earlier : (s : ℕ) → s < a → parent path ≡ path_at paths s → ⊥
  earlier s l e =
      let short = leads-shorter (path_at paths a) path near.1 in
      let long = parent-length path in
      let size : length (path_at paths s) ≡ length (parent path) = ap length (sym e) in
      let is : begins (path_at paths a) (path_at paths s) ≡ true =
      begins-fork (path_at paths a) (path_at paths s) path (leads-begin (path_at paths a) path near.1)
      (ap (λ p. begins p path) (sym e) ∙ parent-begins path) (omega arith) in
      let fails = behind (path_at paths s) (path_at paths a) (placed.order.pairs s a [] l (omega (arith, near.0, placed.within))) in
      cc

  by : (s : ℕ) → s < length paths → is_same (parent path) (path_at paths s) ≡ true → ⊥
  by s u h = elim (cases_lt s count) [
    | inl l ↦ elim (cases_order s a) [
      | inl e ↦ other (is-same _ _ h ∙ ap (path_at paths) e)
      | inr o ↦ elim o [
        | inl below ↦ earlier s below (is-same _ _ h)
        | inr above ↦ absurd-false (leads_on (path_at paths s) path) (ap (λ p. leads_on p path) (sym (is-same _ _ h)) ∙ parent-leads path placed.some) (near.2 s (omega arith) l)
      ]
    ]
    | inr g ↦ not-later paths count path s placed g u h
  ]

-- the parent, and no other
pub source-found : (paths : List Path) (count a : ℕ) (path : Path) → StandsBehind paths count path → a < count
    → parent path ≡ path_at paths a → IsSource paths path (Some a)
source-found paths count a path placed l e = record { within = omega (arith, placed.within); same = by } where
  differ : (s t : ℕ) → s < t → t < length paths → path_at paths s ≡ path_at paths t → ⊥
  differ s t m u h =
      let fails = behind (path_at paths s) (path_at paths t) (placed.order.pairs s t [] m u) in
      let is = begins-same (path_at paths s) in cc

  here : (s : ℕ) → a ≡ s → is_same (parent path) (path_at paths s) ≡ true
  here s f = (bytes_eq-Decides (parent path) (path_at paths s)).1 (e ∙ ap (path_at paths) f)

  by : (s : ℕ) → s < length paths → is_same (parent path) (path_at paths s) ≡ (a == s)
  by s u = elim (cases_order a s) [
    | inl f ↦ here s f ∙ (let t : (a == s) ≡ true = grind (arith, nat_tests) in sym t)
    | inr o ↦ elim o [
      | inl below ↦ not-true _ (λ h. differ a s below u (sym e ∙ is-same _ _ h)) ∙ (let t : (a == s) ≡ false = grind (arith, nat_tests) in sym t)
      | inr above ↦ not-true _ (λ h. differ s a above (omega (arith, placed.within)) (sym (is-same _ _ h) ∙ e)) ∙ (let t : (a == s) ≡ false = grind (arith, nat_tests) in sym t)
    ]
  ]

-- ---- lists of sources

pub sources-more : (paths ts : List Path) (os : List (Option ℕ)) (t : Path) (o : Option ℕ) → AreSources paths ts os → IsSource paths t o
    → AreSources paths (ts ++ t ∷ []) (os ++ o ∷ [])
sources-more paths [] [] t o h i = (i, tt)
sources-more paths [] (p ∷ os) t o h i = absurd h
sources-more paths (u ∷ ts) [] t o h i = absurd h
sources-more paths (u ∷ ts) (p ∷ os) t o h i = (h.0, sources-more paths ts os t o h.1 i)

pub sources-length : (paths ts : List Path) (os : List (Option ℕ)) → AreSources paths ts os → length os ≡ length ts
sources-length paths [] [] h = refl
sources-length paths [] (p ∷ os) h = absurd h
sources-length paths (u ∷ ts) [] h = absurd h
sources-length paths (u ∷ ts) (p ∷ os) h = ap suc (sources-length paths ts os h.1)

-- the transitions that stand in a state are those of which it is the source
pub places-are : (paths ts : List Path) (os : List (Option ℕ)) (s place : ℕ) → AreSources paths ts os → s < length paths
    → places_of s place os ≡ numbers_where (λ t. is_same (parent t) (path_at paths s)) place ts
places-are paths [] [] s place h l = refl
places-are paths [] (p ∷ os) s place h l = absurd h
places-are paths (u ∷ ts) [] s place h l = absurd h
places-are paths (u ∷ ts) (p ∷ os) s place h l =
    ap₂ (λ (v : Bool) (ns : List ℕ). cond v (place ∷ ns) ns) (sym (h.0.same s l)) (places-are paths ts os s (place + 1) h.1 l)

pub source-at : (paths ts : List Path) (os : List (Option ℕ)) (t : ℕ) → AreSources paths ts os → t < length ts
    → IsSource paths (get_or ts t []) (get_or os t None)
source-at paths [] [] t h l = absurd (omega arith)
source-at paths [] (p ∷ os) t h l = absurd h
source-at paths (u ∷ ts) [] t h l = absurd h
source-at paths (u ∷ ts) (p ∷ os) zero h l = h.0
source-at paths (u ∷ ts) (p ∷ os) (suc t) h l = source-at paths ts os t h.1 (omega arith)

-- the place from one number on
shifted : ℕ → Option ℕ → Option ℕ
shifted n None = None
shifted n (Some s) = Some (n + s)

from-only : (test : Path → Bool) (n : ℕ) (paths : List Path) (o : Option ℕ) → IsWithin (length paths) o
    → ((s : ℕ) → s < length paths → test (get_or paths s []) ≡ is_number o s) → position_from test n paths ≡ shifted n o
unfolding shifted
from-only test n [] None w h = refl
from-only test n [] (Some a) w h = absurd (omega (arith, w))
from-only test n (p ∷ paths) None w h =
    ap (λ v. cond v (Some n) (position_from test (n + 1) paths)) (h 0 (omega arith))
    ∙ from-only test (n + 1) paths None tt (λ s l. h (suc s) (omega arith))
from-only test n (p ∷ paths) (Some zero) w h =
    ap (λ v. cond v (Some n) (position_from test (n + 1) paths)) (h 0 (omega arith)) ∙ ap (λ k. Some k) (omega arith)
from-only test n (p ∷ paths) (Some (suc a)) w h =
    ap (λ v. cond v (Some n) (position_from test (n + 1) paths)) (h 0 (omega arith) ∙ other a)
    ∙ from-only test (n + 1) paths (Some a) (omega (arith, w)) (λ s l. h (suc s) (omega arith) ∙ same a s)
    ∙ ap (λ k. Some k) (omega arith)
  where
    other : (a : ℕ) → (suc a == 0) ≡ false
    other a = grind (arith, nat_tests)

    same : (a s : ℕ) → (suc a == suc s) ≡ (a == s)
    same a s = by (a == s) refl where
      by : (v : Bool) → (a == s) ≡ v → (suc a == suc s) ≡ v
      by true e = grind (arith, nat_tests)
      by false e = grind (arith, nat_tests)

shifted-zero : (o : Option ℕ) → shifted 0 o ≡ o
unfolding shifted
shifted-zero None = refl
shifted-zero (Some s) = ap (λ k. Some k) (omega arith)

-- the first path that passes a test which only one passes
pub position-only : (test : Path → Bool) (paths : List Path) (o : Option ℕ) → IsWithin (length paths) o
    → ((s : ℕ) → s < length paths → test (get_or paths s []) ≡ is_number o s) → position test paths ≡ o
position-only test paths o w h = position_from-zero test paths ∙ from-only test 0 paths o w h ∙ shifted-zero o

-- each source is a state
pub sources-within : (paths ts : List Path) (os : List (Option ℕ)) → AreSources paths ts os → All (IsWithin (length paths)) os
sources-within paths [] [] h = All-nil (IsWithin (length paths))
sources-within paths [] (p ∷ os) h = absurd h
sources-within paths (u ∷ ts) [] h = absurd h
sources-within paths (u ∷ ts) (p ∷ os) h = All-cons (IsWithin (length paths)) p os h.0.within (sources-within paths ts os h.1)
