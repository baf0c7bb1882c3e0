-- What stands below what, in the tree of a chart.
use Rattle.std.proofs.Common.{◌≡◌, ◌⊎◌, inl, inr, ℕ, ◌+◌, ◌<◌, ◌&&◌, nat_eq, not, suc, Bool, true, false, cond, List, [], ◌∷◌, length, filter, get_or, refl, arith, ap, ap₂, subst, ◌∙◌}
use Rattle.std.proofs.lemmas.Bool.{cases_order}
use Rattle.std.proofs.lemmas.Bool.Decides.{nat_tests}
use Rattle.std.proofs.lemmas.Slice.Eq.{bytes_eq-Decides}
use Rattle.sc_types.specs.declared.chart.Chart.{Chart}
use Rattle.sc_law.specs.Nodes.{Path, is_root, is_same, leads_on, parent}
use Rattle.sc_law.specs.Tree.{is_below, numbers_where, path_of, state_paths}
use Rattle.sc_law.specs.Kinds.{is_history}
use Rattle.sc_law.specs.Configurations.{children}
use Rattle.sc_tables.proofs.Leads.{leads-begin, leads-from, leads-on, parent-leads}
use Rattle.sc_tables.proofs.LookUps.{path-is}
use Rattle.sc_tables.proofs.Order.{begins, begins-fork}
use Rattle.std.specs.List.{AllByRecursion as AllOf}
use Rattle.sc_sets.proofs.Union.Below.{IsTree, all-of-map}

pub both : (v w : Bool) → (v && w) ≡ true → (v ≡ true) × (w ≡ true)
both true w h = (refl, h)
both false w h = absurd (cc)

pub not-true : (v : Bool) → not v ≡ true → v ≡ false
not-true true h = absurd (cc)
not-true false h = refl

-- ---- numbers of paths

-- what holds of each number whose path passes
pub numbers-hold : (P : ℕ → Type 0) (test : Path → Bool) (s : ℕ) (ps : List Path)
    → ((k : ℕ) → k < length ps → test (get_or ps k []) ≡ true → P (s + k)) → AllOf P (numbers_where test s ps)
numbers-hold P test s [] h = tt
numbers-hold P test s (p ∷ ps) h =
    by (test p) refl (numbers-hold P test (s + 1) ps (λ k l t. subst P (omega arith) (h (suc k) (omega arith) t))) where
      by : (v : Bool) → test p ≡ v → AllOf P (numbers_where test (s + 1) ps) → AllOf P (cond v (s ∷ numbers_where test (s + 1) ps) (numbers_where test (s + 1) ps))
      by true e rest = (subst P (omega arith) (h 0 (omega arith) e), rest)
      by false e rest = rest

-- what is kept of a list passes, and has what each item has
pub filter-hold : {A : Type 0} (P : A → Type 0) (test : A → Bool) (xs : List A) → AllOf P xs → AllOf (λ x. (test x ≡ true) × P x) (filter test xs)
filter-hold P test [] h = tt
filter-hold P test (x ∷ xs) h = by (test x) refl (filter-hold P test xs h.1) where
  by : (v : Bool) → test x ≡ v → AllOf (λ y. (test y ≡ true) × P y) (filter test xs)
      → AllOf (λ y. (test y ≡ true) × P y) (cond v (x ∷ filter test xs) (filter test xs))
  by true e rest = ((e, h.0), rest)
  by false e rest = rest

-- ---- paths

root-length : (p : Path) → not (is_root p) ≡ true → 0 < length p
root-length [] h = absurd (cc)
root-length (x ∷ p) h = omega arith

-- a child's path leads on from its parent's
pub child-leads : (p q : Path) → (not (is_root p) && is_same (parent p) q) ≡ true → leads_on q p ≡ true
child-leads p q h =
    let t = both (not (is_root p)) (is_same (parent p) q) h in
    let e : parent p ≡ q = (bytes_eq-Decides (parent p) q).0 t.1 in
    subst (λ r. leads_on r p ≡ true) e (parent-leads p (root-length p t.0))

-- the child states of a state are below it, and histories are none
children-below : (c : Chart) (s : ℕ) → AllOf (λ kid. (is_history c kid ≡ false) × (is_below c kid s ≡ true)) (children c s)
children-below c s =
    all-of-map (λ kid. (not (is_history c kid) ≡ true) × (is_below c kid s ≡ true)) _ (children c s)
    (λ kid t. (not-true (is_history c kid) t.0, t.1))
    (filter-hold (λ kid. is_below c kid s ≡ true) (λ kid. not (is_history c kid)) _
    (numbers-hold (λ kid. is_below c kid s ≡ true) (λ path. not (is_root path) && is_same (parent path) (path_of c s)) 0 (state_paths c) by))
  where
    by : (k : ℕ) → k < length (state_paths c)
        → (not (is_root (get_or (state_paths c) k [])) && is_same (parent (get_or (state_paths c) k [])) (path_of c s)) ≡ true
        → is_below c (0 + k) s ≡ true
    by k l h = subst (λ n. is_below c n s ≡ true) (omega arith)
        (ap (leads_on (path_of c s)) (path-is c k) ∙ child-leads (get_or (state_paths c) k []) (path_of c s) h)

-- what stands below what, in any chart
pub is-tree : (c : Chart) → IsTree c
is-tree c = record {
  on = λ a b d h i. leads-on (path_of c d) (path_of c b) (path_of c a) i h;
  kids = children-below c;
}

pub begins-equal : (p q : Path) → begins p q ≡ true → length p ≡ length q → p ≡ q
begins-equal [] [] h e = refl
begins-equal [] (y ∷ q) h e = absurd (omega arith)
begins-equal (x ∷ p) [] h e = absurd (omega arith)
begins-equal (x ∷ p) (y ∷ q) h e =
    let t = both (nat_eq x y) (begins p q) h in
    let same : x ≡ y = let u = t.0 in grind (arith, nat_tests) in
    ap₂ (λ z r. z ∷ r) same (begins-equal p q t.1 (omega (arith, e)))

-- of two states that a third is below, one is below the other, or they are the same
pub fork : (c : Chart) (s a b : ℕ) → is_below c s a ≡ true → is_below c s b ≡ true
    → (is_below c a b ≡ true) ⊎ ((is_below c b a ≡ true) ⊎ (path_of c a ≡ path_of c b))
fork c s a b h i =
    let begin_a = leads-begin (path_of c a) (path_of c s) h in
    let begin_b = leads-begin (path_of c b) (path_of c s) i in
    elim (cases_order (length (path_of c a)) (length (path_of c b))) [
      | inl e ↦ inr (inr (begins-equal (path_of c a) (path_of c b) (begins-fork (path_of c a) (path_of c b) (path_of c s) begin_a begin_b (omega arith)) e))
      | inr o ↦ elim o [
        | inl short ↦ inr (inl (leads-from (path_of c a) (path_of c b) (begins-fork (path_of c a) (path_of c b) (path_of c s) begin_a begin_b (omega arith)) short))
        | inr long ↦ inl (leads-from (path_of c b) (path_of c a) (begins-fork (path_of c b) (path_of c a) (path_of c s) begin_b begin_a (omega arith)) long)
      ]
    ]
