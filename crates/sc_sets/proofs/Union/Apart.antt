-- Domains that have nothing below both.
use Rattle.std.proofs.Common.{◌≡◌, ◌⊎◌, inl, inr, ℕ, ◌<◌, ◌≤◌, ◌==◌, ◌&&◌, not, Bool, true, false, cond, Option, Some, None, unwrap_or, List, [], ◌∷◌, ◌++◌, find, length, reverse, refl, arith, ap, sym, subst, ◌∙◌}
use Rattle.std.proofs.lemmas.Bool.{cases_lt, cases_order}
use Rattle.std.proofs.lemmas.Bool.Decides.{nat_tests}
use Rattle.std.proofs.lemmas.List.{reverse-append}
use Rattle.std.proofs.lemmas.List.Quantifiers.{position-Some}
use Rattle.sc_types.specs.declared.chart.Chart.{Chart}
use Rattle.sc_law.specs.Nodes.{Path, is_same, leads_on, parent}
use Rattle.sc_law.specs.Tree.{ancestors, is_below, numbers_where, path_of, root, state_count, state_paths}
use Rattle.sc_law.specs.Kinds.{is_compound}
use Rattle.sc_law.specs.Legality.{legal_fault}
use Rattle.sc_law.specs.Transitions.{path_of_transition, source, targets}
use Rattle.sc_law.specs.Sets.{Histories, domain, domain_over, effective_targets, is_above_all, is_own_domain, nearest_above}
use Rattle.sc_tables.specs.Nearest.{path_at}
use Rattle.sc_tables.specs.Preorder.{IsPreorder}
use Rattle.sc_tables.proofs.LegalRoots.{root_not_numbered}
use Rattle.sc_tables.proofs.LookUps.{below_root, path-is}
use Rattle.sc_tables.proofs.Numbers.{AreBelow, numbers-below}
use Rattle.sc_tables.proofs.Order.{begins, begins-same, behind}
use Rattle.sc_tables.proofs.Placed.{states_ordered}
use Rattle.std.specs.List.{AllByRecursion as AllOf}
use Rattle.sc_sets.proofs.Union.Forks.{fork}
use Rattle.sc_sets.proofs.Union.Parents.{past-root}
use Rattle.sc_sets.proofs.Union.Conditions.{HaveApart, are_apart}
use Rattle.sc_sets.proofs.Union.Alone.{ApartFrom, AreApart}

-- ---- a number for each path

differ : (paths : List Path) (s t : ℕ) → IsPreorder paths → s < t → t < length paths → path_at paths s ≡ path_at paths t → ⊥
differ paths s t order l m e =
    let no = behind (path_at paths s) (path_at paths t) (order.pairs s t [] l m) in
    let yes : begins (path_at paths t) (path_at paths s) ≡ true = ap (begins (path_at paths t)) e ∙ begins-same (path_at paths t) in cc

states-differ : (c : Chart) (s t : ℕ) → legal_fault c ≡ None → s < t → t ≤ state_count c → path_of c s ≡ path_of c t → ⊥
states-differ c s t legal l m e = elim (cases_lt t (state_count c)) [
  | inl within ↦ differ (state_paths c) s t (states_ordered c) l within (sym (path-is c s) ∙ e ∙ path-is c t)
  | inr past ↦
      let some = below_root c (root_not_numbered c legal) s (omega arith) in
      let none : path_at (state_paths c) s ≡ [] = sym (path-is c s) ∙ e ∙ past-root c t past in
      let short : length (path_at (state_paths c) s) ≡ 0 = ap length none in omega (arith, some, short)
]

-- no two states of a legal chart, with its root, have the same path
pub same-number : (c : Chart) (s t : ℕ) → legal_fault c ≡ None → s ≤ state_count c → t ≤ state_count c → path_of c s ≡ path_of c t → s ≡ t
same-number c s t legal l m e = elim (cases_order s t) [
  | inl same ↦ same
  | inr o ↦ elim o [
    | inl below ↦ absurd (states-differ c s t legal below m e)
    | inr above ↦ absurd (states-differ c t s legal above l (sym e))
  ]
]

-- ---- domains

found-below : (test : ℕ → Bool) (n m : ℕ) (ss : List ℕ) → AllOf (λ s. s < n) ss → find test ss ≡ Some m → m < n
found-below test n m [] h e = absurd (cc)
found-below test n m (s ∷ ss) h e = by (test s) e (found-below test n m ss h.1) where
  by : (v : Bool) → cond v (Some s) (find test ss) ≡ Some m → (find test ss ≡ Some m → m < n) → m < n
  by true e so = (let same : s ≡ m = cc in omega (arith, h.0))
  by false e so = so e

all-append : (P : ℕ → Type 0) (xs ys : List ℕ) → AllOf P xs → AllOf P ys → AllOf P (xs ++ ys)
all-append P [] ys h i = i
all-append P (x ∷ xs) ys h i = (h.0, all-append P xs ys h.1 i)

pub all-reverse : (P : ℕ → Type 0) (xs : List ℕ) → AllOf P xs → AllOf P (reverse xs)
all-reverse P [] h = tt
all-reverse P (x ∷ xs) h = subst (AllOf P) (sym (reverse-append (x ∷ []) xs)) (all-append P (reverse xs) (x ∷ []) (all-reverse P xs h.1) (h.0, tt))

from-below : (n : ℕ) (ms : List ℕ) → AreBelow n ms → AllOf (λ s. s < n) ms
from-below n [] h = tt
from-below n (m ∷ ms) h = (h.0, from-below n ms h.1)

pub ancestors-within : (c : Chart) (s : ℕ) → AllOf (λ a. a < state_count c) (ancestors c s)
ancestors-within c s =
    all-reverse _ (numbers_where (λ path. leads_on path (path_of c s)) 0 (state_paths c))
    (from-below (state_count c) _ (numbers-below (λ path. leads_on path (path_of c s)) 0 (state_count c) (state_paths c) (omega arith)))

or-root : (c : Chart) (o : Option ℕ) → ((m : ℕ) → o ≡ Some m → m < state_count c) → unwrap_or o (root c) ≤ state_count c
or-root c None h = omega arith
or-root c (Some m) h = let l = h m refl in omega arith

source-within : (c : Chart) (t : ℕ) → source c t ≤ state_count c
source-within c t = or-root c _ (λ m e. (position-Some (is_same (parent (path_of_transition c t))) (state_paths c) m [] e).0)

nearest-within : (c : Chart) (s : ℕ) (ss : List ℕ) → nearest_above c s ss ≤ state_count c
nearest-within c s ss =
    or-root c (find (λ a. is_compound c a && is_above_all c ss a) (ancestors c s))
    (λ m e. found-below _ (state_count c) m (ancestors c s) (ancestors-within c s) e)

over-within : (c : Chart) (t d : ℕ) (ss : List ℕ) → domain_over c t ss ≡ Some d → d ≤ state_count c
over-within c t d [] h = absurd (cc)
over-within c t d (s ∷ ss) h = by (is_own_domain c t (s ∷ ss)) h where
  by : (v : Bool) → Some (cond v (source c t) (nearest_above c (source c t) (s ∷ ss))) ≡ Some d → d ≤ state_count c
  by true e = (let same : source c t ≡ d = cc in let l = source-within c t in omega arith)
  by false e = (let same : nearest_above c (source c t) (s ∷ ss) ≡ d = cc in let l = nearest-within c (source c t) (s ∷ ss) in omega arith)

-- a domain is a state, or the root
pub domain-within : (c : Chart) (h : Histories) (t d : ℕ) → domain c h t ≡ Some d → d ≤ state_count c
unfolding domain
domain-within c h t d e = over-within c t d (effective_targets c h (targets c t)) e

not-true : (v : Bool) → not v ≡ true → v ≡ false
not-true true h = absurd (cc)
not-true false h = refl

both : (v w : Bool) → (v && w) ≡ true → (v ≡ true) × (w ≡ true)
both true w h = (refl, h)
both false w h = absurd (cc)

pub false-by : (v : Bool) → (v ≡ true → ⊥) → v ≡ false
false-by true h = absurd (h refl)
false-by false h = refl

apart-parts : (u v w : Bool) → (u && v && w) ≡ true → (u ≡ true) × ((v ≡ true) × (w ≡ true))
apart-parts true true true h = (refl, (refl, refl))
apart-parts true true false h = absurd (cc)
apart-parts true false w h = absurd (cc)
apart-parts false v w h = absurd (cc)

-- nothing is below both
pub apart-below : (c : Chart) (d e s : ℕ) → legal_fault c ≡ None → d ≤ state_count c → e ≤ state_count c → are_apart c d e ≡ true
    → is_below c s d ≡ true → is_below c s e ≡ false
apart-below c d e s legal l m apart below = false-by (is_below c s e) (λ other. by (fork c s d e below other)) where
  parts : (not (d == e) ≡ true) × ((not (is_below c d e) ≡ true) × (not (is_below c e d) ≡ true))
  parts = apart-parts (not (d == e)) (not (is_below c d e)) (not (is_below c e d)) apart

  by : (is_below c d e ≡ true) ⊎ ((is_below c e d ≡ true) ⊎ (path_of c d ≡ path_of c e)) → ⊥
  by (inl within) = let no = not-true (is_below c d e) parts.1.0 in cc
  by (inr (inl above)) = let no = not-true (is_below c e d) parts.1.1 in cc
  by (inr (inr same)) =
      let no : (d == e) ≡ false = not-true (d == e) parts.0 in
      let yes : d ≡ e = same-number c d e legal l m same in
      let is : (d == e) ≡ true = grind (arith, nat_tests) in cc

-- ---- transitions

-- the domains of any two of these transitions are apart
abbrev pub AllApart : Chart → Histories → List ℕ → Type 0
AllApart c before [] = Unit
AllApart c before (t ∷ ts) = AllOf (HaveApart c before t) ts × AllApart c before ts

pub apart-from : (c : Chart) (before : Histories) (t u : ℕ) → legal_fault c ≡ None → HaveApart c before t u → ApartFrom c before t u
apart-from c before t u legal apart = λ d e s is also below.
    apart-below c d e s legal (domain-within c before t d is) (domain-within c before u e also) (apart d e is also) below

apart-each : (c : Chart) (before : Histories) (t : ℕ) (us : List ℕ) → legal_fault c ≡ None → AllOf (HaveApart c before t) us → AllOf (ApartFrom c before t) us
apart-each c before t [] legal h = tt
apart-each c before t (u ∷ us) legal h = (apart-from c before t u legal h.0, apart-each c before t us legal h.1)

pub are-apart : (c : Chart) (before : Histories) (ts : List ℕ) → legal_fault c ≡ None → AllApart c before ts → AreApart c before ts
are-apart c before [] legal h = tt
are-apart c before (t ∷ ts) legal h = (apart-each c before t ts legal h.0, are-apart c before ts legal h.1)
