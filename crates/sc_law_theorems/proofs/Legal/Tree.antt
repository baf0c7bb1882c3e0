-- Parents, children and ancestors in the tree of a legal chart, by their numbers.
use Rattle.std.proofs.Common.{◌≡◌, ◌⊎◌, inl, inr, ℕ, ◌+◌, ◌-◌, ◌<◌, ◌≤◌, ◌==◌, ◌&&◌, not, zero, suc, Bool, true, false, cond, Option, Some, None, unwrap_or, List, [], ◌∷◌, length, get_or, reverse, refl, arith, ap, ap₂, sym, subst, ◌∙◌}
use Rattle.std.proofs.lemmas.Bool.Decides.{nat_tests}
use Rattle.std.proofs.lemmas.List.{reverse-append}
use Rattle.std.proofs.lemmas.Slice.Eq.{bytes_eq-Decides}
use Rattle.std.specs.Option.{option_map_or}
use Rattle.sc_base.specs.Ascending.{contains}
use Rattle.sc_types.specs.Elements.{is_numbered, is_state}
use Rattle.sc_types.specs.declared.chart.Chart.{Chart}
use Rattle.sc_types.specs.declared.chart.Node.{Node}
use Rattle.sc_types.specs.declared.chart.Tag.{Tag}
use Rattle.sc_types.specs.declared.chart.Tag.TheVariants as tag
use Rattle.sc_types.specs.declared.state_kind.StateKind.TheVariants.{Atomic, Compound, Deep, Parallel, Shallow}
use Rattle.sc_law.specs.Nodes.{Path, element, is_root, is_same, is_tag, leads_on, node_at, parent, tag_of}
use Rattle.sc_law.specs.Tree.{ancestors, has_states, is_below, numbers_where, path_of, root, state_count, state_element, state_paths}
use Rattle.sc_law.specs.Kinds.{is_compound, is_history, is_history_kind, is_kind, is_parallel, kind_at}
use Rattle.sc_law.specs.Legality.{legal_fault}
use Rattle.sc_law.specs.Configurations.{children, parent_of}
use Rattle.sc_tables.proofs.Leads.{leads-not-same, leads-shorter, parent-leads, parent-length}
use Rattle.sc_tables.proofs.LegalRoots.{root_not_numbered}
use Rattle.sc_tables.proofs.LookUps.{below_root, numbered-at, path-is}
use Rattle.sc_sets.proofs.Union.Above.{below-number}
use Rattle.sc_sets.proofs.Union.Apart.{ancestors-within, same-number}
use Rattle.sc_sets.proofs.Union.Below.{all-of-map}
use Rattle.sc_sets.proofs.Union.FineTargets.{all-pairs, below-parent}
use Rattle.sc_sets.proofs.Union.Forks.{both, child-leads, filter-hold, fork, is-tree, not-true, numbers-hold}
use Rattle.sc_sets.proofs.Union.Kept.{ancestors-above, each-has}
use Rattle.sc_sets.proofs.Union.LegalDefaults.{no-history}
use Rattle.sc_sets.proofs.Union.LegalElements.{state-node}
use Rattle.sc_sets.proofs.Union.Parents.{HasParent, at-parent, parent-near, past-root}
use Rattle.sc_law_theorems.proofs.Legal.Faultless.{IsHolder, StandsIn, number-at, stands-in}
use Rattle.sc_law_theorems.proofs.Legal.Lists.{Ascends, ascends-filter, filter-has, has-back, has-cases, has-first, has-front, numbers-ascend, numbers-have}

-- a state is another, or below it
abbrev pub Under : Chart → ℕ → ℕ → Type 0
Under c x a = (x ≡ a) ⊎ (is_below c x a ≡ true)

-- what is below a state is below all that is above that
pub above-on : (c : Chart) (a b d : ℕ) → is_below c a b ≡ true → is_below c b d ≡ true → is_below c a d ≡ true
above-on c a b d h i = (is-tree c).on a b d h i

-- no state is below itself
pub not-own : (c : Chart) (s : ℕ) → is_below c s s ≡ true → ⊥
not-own c s h = let no = leads-not-same (path_of c s) in cc

-- of two states only one is below the other
pub not-back : (c : Chart) (a b : ℕ) → is_below c a b ≡ true → is_below c b a ≡ true → ⊥
not-back c a b h i = not-own c a (above-on c a b a h i)

-- what is in the subtree of a state that is below another is below that
pub under-below : (c : Chart) (x a b : ℕ) → Under c x a → is_below c a b ≡ true → is_below c x b ≡ true
under-below c x a b (inl e) h = subst (λ k. is_below c k b ≡ true) (sym e) h
under-below c x a b (inr low) h = above-on c x a b low h

-- what is below a state in the subtree of another is below that
pub below-under : (c : Chart) (x a b : ℕ) → is_below c x a ≡ true → Under c a b → is_below c x b ≡ true
below-under c x a b h (inl e) = subst (λ k. is_below c x k ≡ true) e h
below-under c x a b h (inr low) = above-on c x a b h low

-- a subtree has the subtrees of its states
pub under-on : (c : Chart) (x a b : ℕ) → Under c x a → Under c a b → Under c x b
under-on c x a b (inl e) h = subst (λ k. Under c k b) (sym e) h
under-on c x a b (inr low) h = inr (below-under c x a b low h)

-- of two states or roots above a third, one is below the other, or they are the same
pub forks : (c : Chart) (s a b : ℕ) → legal_fault c ≡ None → a ≤ state_count c → b ≤ state_count c
    → is_below c s a ≡ true → is_below c s b ≡ true
    → (is_below c a b ≡ true) ⊎ ((is_below c b a ≡ true) ⊎ (a ≡ b))
forks c s a b legal l m h i = elim (fork c s a b h i) [
  | inl low ↦ inl low
  | inr o ↦ elim o [ inl high ↦ inr (inl high) | inr same ↦ inr (inr (same-number c a b legal l m same)) ]
]

-- of two states whose subtrees have a third, one is in the subtree of the other
pub forks-under : (c : Chart) (s a b : ℕ) → legal_fault c ≡ None → a ≤ state_count c → b ≤ state_count c → Under c s a
    → Under c s b
    → (Under c a b) ⊎ (is_below c b a ≡ true)
forks-under c s a b legal l m (inl e) h = inl (subst (λ k. Under c k b) e h)
forks-under c s a b legal l m (inr h) (inl e) = inr (subst (λ k. is_below c k a ≡ true) e h)
forks-under c s a b legal l m (inr h) (inr i) = elim (forks c s a b legal l m h i) [
  | inl low ↦ inl (inr low)
  | inr o ↦ elim o [ inl high ↦ inr high | inr same ↦ inl (inl same) ]
]

-- what is below another is no number past the states
pub number-below : (c : Chart) (u p : ℕ) → is_below c u p ≡ true → u ≤ state_count c
number-below c u p h = let l = below-number c u p h in omega arith

-- ---- parents

-- what the parent of a state or history is
pub record HasHolder (c : Chart) (s : ℕ) : Type 0 where
  pub within : parent_of c s ≤ state_count c
  pub below : is_below c s (parent_of c s) ≡ true
  pub path : path_of c (parent_of c s) ≡ parent (path_of c s)
  pub state : is_history c (parent_of c s) ≡ false
  pub kind : is_history c s ≡ false
      → (parent_of c s ≡ root c) ⊎ ((is_compound c (parent_of c s) ≡ true) ⊎ (is_parallel c (parent_of c s) ≡ true))

parent-within : (c : Chart) (s : ℕ) → s < state_count c → parent_of c s ≤ state_count c
parent-within c s l = by has.0 has.1 where
  has : (o : Option ℕ) × HasParent c s o
  has = parent-near c s l

  by : (o : Option ℕ) → HasParent c s o → parent_of c s ≤ state_count c
  by None is = omega (arith, is.same)
  by (Some p) is = let near = is.near.0 in omega (arith, is.same)

empty-short : (p : Path) → length p ≡ 0 → p ≡ []
empty-short [] h = refl
empty-short (x ∷ p) h = absurd (omega (arith, h))

holder-numbered : (t : Tag) → IsHolder t → (t ≡ tag.Scxml) ⊎ (is_numbered t ≡ true)
holder-numbered t (inl e) = inl e
holder-numbered t (inr (inl e)) = inr (ap is_numbered e)
holder-numbered t (inr (inr e)) = inr (ap is_numbered e)

holder-no-history : (t : Tag) → IsHolder t → is_tag tag.History t ≡ false
holder-no-history t (inl e) = ap (is_tag tag.History) e
holder-no-history t (inr (inl e)) = ap (is_tag tag.History) e
holder-no-history t (inr (inr e)) = ap (is_tag tag.History) e

-- the path of the parent is the path of the element that a state stands in
parent-path : (c : Chart) (s : ℕ) (n a : Node) → legal_fault c ≡ None → s < state_count c → StandsIn c (path_of c s) n a
    → path_of c (parent_of c s) ≡ parent (path_of c s)
parent-path c s n a legal l is = elim (holder-numbered (tag_of a) is.holder) [
  | inl top ↦ root-case (is.root top)
  | inr numbered ↦ other (number-at c (parent (path_of c s)) a is.above numbered)
] where
  low : is_below c s (parent_of c s) ≡ true
  low = below-parent c s legal l

  short : length (path_of c (parent_of c s)) < length (path_of c s)
  short = leads-shorter (path_of c (parent_of c s)) (path_of c s) low

  long : length (parent (path_of c s)) ≡ length (path_of c s) - 1
  long = parent-length (path_of c s)

  root-case : parent (path_of c s) ≡ [] → path_of c (parent_of c s) ≡ parent (path_of c s)
  root-case e =
      let none : length (parent (path_of c s)) ≡ 0 = ap length e in
      empty-short (path_of c (parent_of c s)) (omega (arith, short, long, none)) ∙ sym e

  other : (j : ℕ) × ((j < state_count c) × (path_of c j ≡ parent (path_of c s)))
      → path_of c (parent_of c s) ≡ parent (path_of c s)
  other j = elim (at-parent c j.0 s l under) [
    | inl below ↦ absurd (
        let deep = leads-shorter (path_of c j.0) (path_of c (parent_of c s)) below in
        let same : length (path_of c j.0) ≡ length (parent (path_of c s)) = ap length j.1.1 in
        omega (arith, short, long, deep, same)
        )
    | inr same ↦ same ∙ j.1.1
  ] where
    under : is_below c s j.0 ≡ true
    under = ap (λ p. leads_on p (path_of c s)) j.1.1 ∙ parent-leads (path_of c s) (omega (arith, short))

state-tag : (n : Node) (t : Tag) → is_numbered t ≡ true → option_map_or is_history_kind (kind_at n t) false ≡ false
    → is_state t ≡ true
state-tag n tag.State h i = refl
state-tag n tag.Parallel h i = refl
state-tag n tag.Final h i = refl
state-tag n tag.History h i = absurd (by _ i) where
  by : (v : Bool) → is_history_kind (cond v Deep Shallow) ≡ false → ⊥
  by true e = cc
  by false e = cc
state-tag n t h i = absurd (cc)

kind-compound : (n : Node) (t : Tag) → t ≡ tag.State → has_states n ≡ true
    → option_map_or (is_kind Compound) (kind_at n t) false ≡ true
kind-compound n t e has =
    ap (λ (g : Tag). option_map_or (is_kind Compound) (kind_at n g) false) e
    ∙ ap (λ v. is_kind Compound (cond v Compound Atomic)) has

kind-parallel : (n : Node) (t : Tag) → t ≡ tag.Parallel → option_map_or (is_kind Parallel) (kind_at n t) false ≡ true
kind-parallel n t e = ap (λ (g : Tag). option_map_or (is_kind Parallel) (kind_at n g) false) e

-- each state or history of a legal chart has one
pub has-holder : (c : Chart) (s : ℕ) → legal_fault c ≡ None → s < state_count c → HasHolder c s
has-holder c s legal l = record {
  within = parent-within c s l;
  below = below-parent c s legal l;
  path = path;
  state = subst (λ (x : Node). option_map_or is_history_kind (kind_at x (tag_of x)) false ≡ false) (sym over)
      (no-history above.0 (tag_of above.0) (holder-no-history (tag_of above.0) above.1.holder));
  kind = λ state. by above.1.holder (above.1.states (is-state state));
} where
  node : (n : Node) × ((node_at c.root (path_of c s) ≡ Some n) × (element c (path_of c s) ≡ n))
  node = state-node c s legal l

  numbered : is_numbered (tag_of node.0) ≡ true
  numbered =
      sym (ap (λ (x : Node). is_numbered (tag_of x)) node.1.1)
      ∙ ap (λ p. is_numbered (tag_of (element c p))) (path-is c s) ∙ numbered-at c s l

  long : 0 < length (path_of c s)
  long = subst (λ p. 0 < length p) (sym (path-is c s)) (below_root c (root_not_numbered c legal) s l)

  above : (a : Node) × StandsIn c (path_of c s) node.0 a
  above = stands-in c (path_of c s) node.0 legal long node.1.0 numbered

  path : path_of c (parent_of c s) ≡ parent (path_of c s)
  path = parent-path c s node.0 above.0 legal l above.1

  over : state_element c (parent_of c s) ≡ above.0
  over = ap (element c) path ∙ ap (λ (o : Option Node). unwrap_or o c.root) above.1.above

  is-state : is_history c s ≡ false → is_state (tag_of node.0) ≡ true
  is-state state =
      state-tag node.0 (tag_of node.0) numbered
      (subst (λ (x : Node). option_map_or is_history_kind (kind_at x (tag_of x)) false ≡ false) node.1.1 state)

  by : IsHolder (tag_of above.0) → has_states above.0 ≡ true
      → (parent_of c s ≡ root c) ⊎ ((is_compound c (parent_of c s) ≡ true) ⊎ (is_parallel c (parent_of c s) ≡ true))
  by (inl top) has = inl (same-number c (parent_of c s) (root c) legal (parent-within c s l) (omega arith)
      (path ∙ above.1.root top ∙ sym (past-root c (root c) (omega arith))))
  by (inr (inl state)) has =
      inr (inl (subst (λ (x : Node). option_map_or (is_kind Compound) (kind_at x (tag_of x)) false ≡ true) (sym over)
      (kind-compound above.0 (tag_of above.0) state has)))
  by (inr (inr parallel)) has =
      inr (inr (subst (λ (x : Node). option_map_or (is_kind Parallel) (kind_at x (tag_of x)) false ≡ true) (sym over)
      (kind-parallel above.0 (tag_of above.0) parallel)))

-- what is above a state is its parent, or above its parent
pub between : (c : Chart) (s a : ℕ) → legal_fault c ≡ None → s < state_count c → a ≤ state_count c
    → is_below c s a ≡ true → Under c (parent_of c s) a
between c s a legal l m h = elim (at-parent c a s l h) [
  | inl low ↦ inr low
  | inr same ↦ inl (same-number c (parent_of c s) a legal (parent-within c s l) m same)
]

-- ---- children

-- a child state
pub record IsKid (c : Chart) (a k : ℕ) : Type 0 where
  pub number : k < state_count c
  pub state : is_history c k ≡ false
  pub parent : parent_of c k ≡ a
  pub below : is_below c k a ≡ true

-- what is among the children of a state is a child of it
pub kid-is : (c : Chart) (a k : ℕ) → legal_fault c ≡ None → a ≤ state_count c → contains (children c a) k ≡ true
    → IsKid c a k
kid-is c a k legal m h = record {
  number = number;
  state = own.0;
  parent =
      same-number c (parent_of c k) a legal (parent-within c k number) m ((has-holder c k legal number).path ∙ own.1.1);
  below = own.1.0;
} where
  own : (is_history c k ≡ false) × ((is_below c k a ≡ true) × (parent (path_of c k) ≡ path_of c a))
  own =
      each-has (λ x. (is_history c x ≡ false) × ((is_below c x a ≡ true) × (parent (path_of c x) ≡ path_of c a))) k
      (children c a)
      (all-of-map _ _ (children c a) (λ x r. (not-true (is_history c x) r.0, r.1))
      (filter-hold (λ x. (is_below c x a ≡ true) × (parent (path_of c x) ≡ path_of c a)) (λ x. not (is_history c x)) _
      (numbers-hold (λ x. (is_below c x a ≡ true) × (parent (path_of c x) ≡ path_of c a))
      (λ path. not (is_root path) && is_same (parent path) (path_of c a)) 0 (state_paths c) by))) h where
        by : (j : ℕ) → j < length (state_paths c)
            → (not (is_root (get_or (state_paths c) j [])) && is_same (parent (get_or (state_paths c) j []))
            (path_of c a)) ≡ true
            → (is_below c (0 + j) a ≡ true) × (parent (path_of c (0 + j)) ≡ path_of c a)
        by j l t = subst (λ n. (is_below c n a ≡ true) × (parent (path_of c n) ≡ path_of c a)) (omega arith) (
          ap (leads_on (path_of c a)) (path-is c j) ∙ child-leads (get_or (state_paths c) j []) (path_of c a) t,
          ap parent (path-is c j) ∙ (bytes_eq-Decides (parent (get_or (state_paths c) j [])) (path_of c a)).0
              (both (not (is_root (get_or (state_paths c) j [])))
              (is_same (parent (get_or (state_paths c) j [])) (path_of c a)) t).1,
        )

  number : k < state_count c
  number = below-number c k a own.1.0

some-root : (p : Path) → 0 < length p → not (is_root p) ≡ true
some-root [] h = absurd (omega arith)
some-root (x ∷ p) h = let t : (suc (length p) == 0) ≡ false = grind (arith, nat_tests) in ap not t

-- a state is among the children of its parent
pub is-kid : (c : Chart) (s : ℕ) → legal_fault c ≡ None → s < state_count c → is_history c s ≡ false
    → contains (children c (parent_of c s)) s ≡ true
is-kid c s legal l state =
    filter-has (λ kid. not (is_history c kid)) s _
    (subst (λ n. contains
    (numbers_where (λ path. not (is_root path) && is_same (parent path) (path_of c (parent_of c s))) 0
    (state_paths c)) n ≡ true) (omega arith)
    (numbers-have (λ path. not (is_root path) && is_same (parent path) (path_of c (parent_of c s))) 0 s
    (state_paths c) l
    (subst (λ p. (not (is_root p) && is_same (parent p) (path_of c (parent_of c s))) ≡ true) (path-is c s)
    (ap₂ (λ v w. v && w) (some-root (path_of c s) long)
    ((bytes_eq-Decides (parent (path_of c s)) (path_of c (parent_of c s))).1
    (sym (has-holder c s legal l).path))))))
    (ap not state)
  where
    long : 0 < length (path_of c s)
    long = subst (λ p. 0 < length p) (sym (path-is c s)) (below_root c (root_not_numbered c legal) s l)

-- children are in document order
pub kids-ascend : (c : Chart) (a : ℕ) → Ascends 0 (children c a)
kids-ascend c a =
    ascends-filter (λ kid. not (is_history c kid)) 0 _
    (numbers-ascend (λ path. not (is_root path) && is_same (parent path) (path_of c a)) 0 (state_paths c))

-- no child is below another
pub no-kid-below : (c : Chart) (a j k : ℕ) → legal_fault c ≡ None → a ≤ state_count c → IsKid c a j → IsKid c a k
    → is_below c j k ≡ true → ⊥
no-kid-below c a j k legal m is also low =
    by (between c j k legal is.number (let l = also.number in omega arith) low) where
      by : Under c (parent_of c j) k → ⊥
      by (inl e) = not-own c k (subst (λ x. is_below c k x ≡ true) (sym is.parent ∙ e) also.below)
      by (inr h) = not-back c a k (subst (λ x. is_below c x k ≡ true) is.parent h) also.below

-- what is in the subtree of two children is in that of one
pub same-kid : (c : Chart) (a j k y : ℕ) → legal_fault c ≡ None → a ≤ state_count c → IsKid c a j → IsKid c a k
    → Under c y j → Under c y k → j ≡ k
same-kid c a j k y legal m is also h i =
    by (forks-under c y j k legal (let l = is.number in omega arith) (let l = also.number in omega arith) h i) where
      by : (Under c j k) ⊎ (is_below c k j ≡ true) → j ≡ k
      by (inl (inl e)) = e
      by (inl (inr low)) = absurd (no-kid-below c a j k legal m is also low)
      by (inr low) = absurd (no-kid-below c a k j legal m also is low)

-- the child on the way to a state
abbrev pub HasKidTo : Chart → ℕ → ℕ → Type 0
HasKidTo c a t = (k : ℕ) × ((contains (children c a) k ≡ true) × Under c t k)

kid-from : (c : Chart) (n a t : ℕ) → legal_fault c ≡ None → a ≤ state_count c → length (path_of c t) < n
    → t < state_count c → is_history c t ≡ false
    → is_below c t a ≡ true → HasKidTo c a t
kid-from c zero a t legal m short l state h = absurd (omega arith)
kid-from c (suc n) a t legal m short l state h =
    by (between c t a legal l m h)
    (λ less deeper. kid-from c n a (parent_of c t) legal m less (below-number c (parent_of c t) a deeper) has.state
    deeper) where
      has : HasHolder c t
      has = has-holder c t legal l

      less : length (path_of c (parent_of c t)) < n
      less = let s = leads-shorter (path_of c (parent_of c t)) (path_of c t) has.below in omega arith

      by : Under c (parent_of c t) a
          → (length (path_of c (parent_of c t)) < n → is_below c (parent_of c t) a ≡ true
          → HasKidTo c a (parent_of c t))
          → HasKidTo c a t
      by (inl e) so = (t, (subst (λ x. contains (children c x) t ≡ true) e (is-kid c t legal l state), inl refl))
      by (inr low) so = let r = so less low in (r.0, (r.1.0, inr (below-under c t (parent_of c t) r.0 has.below r.1.1)))

-- each state below another is in the subtree of one of its children
pub kid-to : (c : Chart) (a t : ℕ) → legal_fault c ≡ None → a ≤ state_count c → is_history c t ≡ false
    → is_below c t a ≡ true → HasKidTo c a t
kid-to c a t legal m state h =
    kid-from c (length (path_of c t) + 1) a t legal m (omega arith) (below-number c t a h) state h

above-from : (c : Chart) (n a t : ℕ) → legal_fault c ≡ None → a ≤ state_count c → length (path_of c t) < n
    → t < state_count c
    → is_below c t a ≡ true → is_history c a ≡ false
above-from c zero a t legal m short l h = absurd (omega arith)
above-from c (suc n) a t legal m short l h =
    by (between c t a legal l m h)
    (λ less deeper. above-from c n a (parent_of c t) legal m less (below-number c (parent_of c t) a deeper) deeper)
  where
    has : HasHolder c t
    has = has-holder c t legal l

    less : length (path_of c (parent_of c t)) < n
    less = let s = leads-shorter (path_of c (parent_of c t)) (path_of c t) has.below in omega arith

    by : Under c (parent_of c t) a
        → (length (path_of c (parent_of c t)) < n → is_below c (parent_of c t) a ≡ true → is_history c a ≡ false)
        → is_history c a ≡ false
    by (inl e) so = subst (λ x. is_history c x ≡ false) e has.state
    by (inr low) so = so less low

-- what is above something is no history
pub above-state : (c : Chart) (a t : ℕ) → legal_fault c ≡ None → a ≤ state_count c → is_below c t a ≡ true
    → is_history c a ≡ false
above-state c a t legal m h = above-from c (length (path_of c t) + 1) a t legal m (omega arith) (below-number c t a h) h

-- ---- ancestors

reverse-has : (x : ℕ) (xs : List ℕ) → contains xs x ≡ true → contains (reverse xs) x ≡ true
reverse-has x [] h = h
reverse-has x (y ∷ xs) h =
    subst (λ ys. contains ys x ≡ true) (sym (reverse-append (y ∷ []) xs)) (elim (has-cases y x xs h) [
      | inl e ↦ has-back x (reverse xs) (y ∷ []) (subst (λ k. contains (y ∷ []) k ≡ true) e (has-first y []))
      | inr later ↦ has-front x (reverse xs) (y ∷ []) (reverse-has x xs later)
    ])

-- an ancestor is above
pub ancestor-is : (c : Chart) (s a : ℕ) → contains (ancestors c s) a ≡ true
    → (a < state_count c) × (is_below c s a ≡ true)
ancestor-is c s a h = each-has (λ x. (x < state_count c) × (is_below c s x ≡ true)) a (ancestors c s)
    (all-pairs _ _ (ancestors c s) (ancestors-within c s) (ancestors-above c s)) h

-- and each state above is an ancestor
pub is-ancestor : (c : Chart) (s a : ℕ) → a < state_count c → is_below c s a ≡ true → contains (ancestors c s) a ≡ true
is-ancestor c s a l h =
    reverse-has a (numbers_where (λ path. leads_on path (path_of c s)) 0 (state_paths c))
    (subst (λ n. contains (numbers_where (λ path. leads_on path (path_of c s)) 0 (state_paths c)) n ≡ true)
    (omega arith)
    (numbers-have (λ path. leads_on path (path_of c s)) 0 a (state_paths c) l
    (sym (ap (λ p. leads_on p (path_of c s)) (path-is c a)) ∙ h)))
