-- The targets of a list that a chart names, and the states of a record, can be entered together.
use Rattle.std.proofs.Common.{◌≡◌, ◌⊎◌, inl, inr, ℕ, ◌<◌, ◌≤◌, ◌==◌, ◌&&◌, ◌||◌, not, nat_eq, nat_lt, Bool, true, false, cond, Option, Some, None, option_and_then, unwrap_or, List, [], ◌∷◌, filter, find, length, map, take, refl, arith, ap, sym, subst, ◌∙◌}
use Rattle.std.proofs.lemmas.Bool.{cases_lt, cases_order}
use Rattle.std.proofs.lemmas.Bool.Decides.{nat_tests}
use Rattle.std.specs.List.{AllByRecursion as AllOf, cons_option, list_all}
use Rattle.std.specs.Option.{option_map_or}
use Rattle.sc_base.specs.Ascending.{contains}
use Rattle.sc_types.specs.Attributes.{has, words_at}
use Rattle.sc_types.specs.declared.attribute.Attribute.TheVariants as attribute
use Rattle.sc_types.specs.declared.chart.Chart.{Chart}
use Rattle.sc_types.specs.declared.chart.Node.{Node}
use Rattle.sc_types.specs.declared.chart.Tag.{Tag}
use Rattle.sc_types.specs.declared.chart.Tag.TheVariants as tag
use Rattle.sc_types.specs.declared.state_kind.StateKind.{StateKind}
use Rattle.sc_types.specs.declared.state_kind.StateKind.TheVariants.{Atomic, Final, Compound, Parallel, Shallow, Deep}
use Rattle.sc_law.specs.Nodes.{Path, is_tag, kids, tag_of}
use Rattle.sc_law.specs.Tree.{ancestors, has_states, is_below, path_of, root, state_count, state_element, state_named}
use Rattle.sc_law.specs.Kinds.{is_atomic, is_atomic_kind, is_compound, is_deep, is_history, is_kind, is_parallel, kind_of}
use Rattle.sc_law.specs.Legality.{all_orthogonal, are_bad_recorded, default_ids, legal_fault, path_named, targets}
use Rattle.sc_law.specs.Configurations.{IsConfiguration, active_children, children, defaults, defaults_at, has_initial, initial_ids, named, parent_of, state_defaults}
use Rattle.sc_law.specs.Sets.{Histories, some_states, stands_for, value_of_history}
use Rattle.sc_law.specs.Records.{records}
use Rattle.sc_law.specs.Fitting.{IsRecorded}
use Rattle.sc_tables.proofs.Within.{named_within}
use Rattle.sc_sets.proofs.BelowSets.{past_compound}
use Rattle.sc_sets.proofs.Union.FineTargets.{from-all}
use Rattle.sc_sets.proofs.Union.Forks.{both, not-true}
use Rattle.sc_sets.proofs.Union.Kept.{active-within}
use Rattle.sc_sets.proofs.Union.LegalDefaults.{history-tag, neither, not-false}
use Rattle.sc_sets.proofs.Union.LegalElements.{legal-state}
use Rattle.sc_sets.proofs.Union.NamedStates.{path-named, state-named}
use Rattle.sc_sets.proofs.Union.Recorded.{contains-filter, find-has}
use Rattle.sc_sets.proofs.Union.SomeDefaults.{given}
use Rattle.sc_law_theorems.proofs.Legal.Lawful.{IsLawful}
use Rattle.sc_law_theorems.proofs.Legal.Lists.{has-first, has-later, list-all-has, one-same, or-right-of}
use Rattle.sc_law_theorems.proofs.Legal.Meets.{Agree, HasOne, IsApart, Pairs, SeatBy, Together, seat}
use Rattle.sc_law_theorems.proofs.Legal.Orthogonal.{together-all}
use Rattle.sc_law_theorems.proofs.Legal.SomeTargets.{IsElement, compound-element, initial-attribute, initial-element, root-element}
use Rattle.sc_law_theorems.proofs.Legal.Tree.{HasHolder, IsKid, Under, below-under, between, has-holder, is-ancestor, is-kid, kid-is, kid-to, not-own, under-below}

-- ---- targets by their ids

-- the paths of the numbers of some ids are the paths of the ids
named-paths : (c : Chart) (ids : List (List ℕ)) → map (path_of c) (named c ids) ≡ targets c ids
named-paths c [] = refl
named-paths c (id ∷ ids) = by (state_named c id) (path_named c id) refl refl (named-paths c ids) where
  by : (o : Option ℕ) (p : Option Path) → state_named c id ≡ o → path_named c id ≡ p
      → map (path_of c) (named c ids) ≡ targets c ids
      → map (path_of c) (cons_option o (named c ids)) ≡ cons_option p (targets c ids)
  by None None e f rest = rest
  by None (Some p) e f rest = absurd (let r = state-named c id p f in let no = sym e ∙ r.1 in cc)
  by (Some u) None e f rest = absurd (let r = path-named c id u e in let no = sym f ∙ r.1 in cc)
  by (Some u) (Some p) e f rest =
      let r = path-named c id u e in
      let both-some : Some p ≡ Some (path_of c u) = sym f ∙ r.1 in
      let same : p ≡ path_of c u = cc in
      ap (λ q. path_of c u ∷ q) rest ∙ ap (λ q. q ∷ targets c ids) (sym same)

-- orthogonal ids name states that can be entered together
pub named-together : (c : Chart) (ids : List (List ℕ)) → legal_fault c ≡ None → all_orthogonal c (targets c ids) ≡ true
    → Pairs (Together c) (named c ids)
named-together c ids legal h =
    together-all c (named c ids) legal (from-all (λ s. s < state_count c) (named c ids) (named_within c ids))
    (ap (all_orthogonal c) (named-paths c ids) ∙ h)

first-pair : (R : ℕ → ℕ → Type 0) (ss : List ℕ) → Pairs R (take 1 ss)
first-pair R [] = tt
first-pair R (s ∷ ss) = (tt, tt)

element-together : (c : Chart) (s : ℕ) (n : Node) → legal_fault c ≡ None → IsElement c s n
    → Pairs (Together c) (state_defaults c s n)
element-together c s n legal el = by (has attribute.Initial n) (has_initial n) refl refl where
  by : (v w : Bool) → has attribute.Initial n ≡ v → has_initial n ≡ w
      → Pairs (Together c) (cond v (named c (words_at attribute.Initial n))
      (cond w (named c (initial_ids (kids n))) (take 1 (children c s))))
  by true w e f = named-together c (words_at attribute.Initial n) legal (initial-attribute c s n legal el e).orthogonal
  by false true e f = named-together c (initial_ids (kids n)) legal (initial-element c s n legal el f).orthogonal
  by false false e f = first-pair (Together c) (children c s)

-- the default targets of a compound state, or of the root
pub defaults-together : (c : Chart) (s : ℕ) → legal_fault c ≡ None → HasOne c s → Pairs (Together c) (defaults c s)
defaults-together c s legal (inl compound) =
    let el = compound-element c s legal compound in
    let state : tag_of (state_element c s) ≡ tag.State = ap tag_of el.1.1.0 ∙ el.1.1.1 in
    let has : has_states (state_element c s) ≡ true = ap has_states el.1.1.0 ∙ el.1.0.states in
    let all : Pairs (Together c) (state_defaults c s (state_element c s)) =
    subst (λ (n : Node). Pairs (Together c) (state_defaults c s n)) (sym el.1.1.0)
    (element-together c s el.0 legal el.1.0) in
    subst (λ (g : Tag). Pairs (Together c) (defaults_at c s (state_element c s) g)) (sym state)
    (subst (λ v. Pairs (Together c) (cond v (state_defaults c s (state_element c s)) [])) (sym has) all)
defaults-together c s legal (inr is) =
    let el = root-element c legal in
    let top : tag_of (state_element c (root c)) ≡ tag.Scxml = ap tag_of el.0.is ∙ el.1 in
    subst (λ k. Pairs (Together c) (defaults c k)) (sym is)
    (subst (λ (g : Tag). Pairs (Together c) (defaults_at c (root c) (state_element c (root c)) g)) (sym top)
    (subst (λ (n : Node). Pairs (Together c) (state_defaults c (root c) n)) (sym el.0.is)
    (element-together c (root c) c.root legal el.0)))

-- the default targets of a history
history-together : (c : Chart) (t : ℕ) → legal_fault c ≡ None → t < state_count c → is_history c t ≡ true
    → Pairs (Together c) (defaults c t)
history-together c t legal l history =
    let here = history-tag (state_element c t) (tag_of (state_element c t)) history in
    let sound : option_map_or (λ ids. are_bad_recorded c (path_of c t) (targets c ids))
    (default_ids (state_element c t)) true ≡ false =
    subst (λ (g : Tag). (is_tag tag.History g && option_map_or (λ ids. are_bad_recorded c (path_of c t) (targets c ids))
    (default_ids (state_element c t)) true) ≡ false)
    here (legal-state c t legal l).history in
    let ids = given (default_ids (state_element c t)) _ sound in
    let good : are_bad_recorded c (path_of c t) (targets c ids.0) ≡ false =
    sym (ap (λ (o : Option (List (List ℕ))). option_map_or (λ is. are_bad_recorded c (path_of c t) (targets c is)) o
    true) ids.1) ∙ sound in
    subst (λ (g : Tag). Pairs (Together c) (defaults_at c t (state_element c t) g)) (sym here)
    (subst (λ (o : Option (List (List ℕ))). Pairs (Together c) (named c (unwrap_or o []))) (sym ids.1)
    (named-together c ids.0 legal (not-false _ (neither _ _ good).1)))

-- ---- records

-- a state that is active
abbrev pub IsActive : List ℕ → ℕ → Type 0
IsActive configuration s = contains configuration s ≡ true

-- an active state is no history
pub active-state : (c : Chart) (configuration : List ℕ) (s : ℕ) → IsConfiguration c configuration
    → IsActive configuration s → is_history c s ≡ false
active-state c configuration s is h =
    not-true (is_history c s) (both (nat_lt s (state_count c)) (not (is_history c s))
    (list-all-has (λ s. nat_lt s (state_count c) && not (is_history c s)) configuration s is.states h)).1

-- each state above an active one is active
pub active-above : (c : Chart) (configuration : List ℕ) (s a : ℕ) → IsConfiguration c configuration
    → IsActive configuration s → a < state_count c
    → is_below c s a ≡ true → IsActive configuration a
active-above c configuration s a is h l low =
    list-all-has (contains configuration) (ancestors c s) a
    (list-all-has (λ s. list_all (contains configuration) (ancestors c s)) configuration s is.upward h)
    (is-ancestor c s a l low)

-- one child of an active compound state, and of the root, is active
pub active-one : (c : Chart) (configuration : List ℕ) (x : ℕ) → IsConfiguration c configuration → HasOne c x
    → (is_compound c x ≡ true → IsActive configuration x)
    → length (active_children c configuration x) ≡ 1
active-one c configuration x is (inl compound) active =
    let n = or-right-of (is_compound c x) (nat_eq (length (active_children c configuration x)) 1)
    (list-all-has (λ s. not (is_compound c s) || nat_eq (length (active_children c configuration s)) 1) configuration x
    is.one (active compound)) compound in
    grind (arith, nat_tests)
active-one c configuration x is (inr top) active =
    subst (λ k. length (active_children c configuration k) ≡ 1) (sym top) is.root

-- active states can be active together
pub active-agree : (c : Chart) (configuration : List ℕ) (y z : ℕ) → legal_fault c ≡ None
    → IsConfiguration c configuration → IsActive configuration y
    → IsActive configuration z → Agree c y z
active-agree c configuration y z legal is h i = record { same = same } where
  child-active : (w k : ℕ) → IsActive configuration w → k < state_count c → Under c w k → IsActive configuration k
  child-active w k on l (inl e) = subst (IsActive configuration) e on
  child-active w k on l (inr low) = active-above c configuration w k is on l low

  own : (x k : ℕ) → IsKid c x k → contains (children c x) k ≡ true
  own x k kid = subst (λ p. contains (children c p) k ≡ true) kid.parent (is-kid c k legal kid.number kid.state)

  same : (x j k : ℕ) → HasOne c x → x ≤ state_count c → IsKid c x j → IsKid c x k → Under c y j → Under c z k → j ≡ k
  same x j k one m r s a b =
      one-same (contains configuration) (children c x) j k
      (active-one c configuration x is one
      (λ compound. active-above c configuration y x is h (below-count x compound) (under-below c y j x a r.below)))
      (own x j r) (child-active y j h r.number a) (own x k s) (child-active z k i s.number b)
    where
      below-count : (w : ℕ) → is_compound c w ≡ true → w < state_count c
      below-count w compound = elim (cases_lt w (state_count c)) [
        | inl l ↦ l
        | inr past ↦ absurd (let no = past_compound c w legal (omega arith) in cc)
      ]

kind-atomic : (o : Option StateKind) → option_map_or is_atomic_kind o false ≡ true
    → (option_map_or (is_kind Compound) o false ≡ false) × (option_map_or (is_kind Parallel) o false ≡ false)
kind-atomic None h = absurd (cc)
kind-atomic (Some Atomic) h = (refl, refl)
kind-atomic (Some Final) h = (refl, refl)
kind-atomic (Some Compound) h = absurd (cc)
kind-atomic (Some Parallel) h = absurd (cc)
kind-atomic (Some Shallow) h = absurd (cc)
kind-atomic (Some Deep) h = absurd (cc)

-- nothing is below an atomic state
atomic-none : (c : Chart) (y z : ℕ) → legal_fault c ≡ None → z < state_count c → is_history c y ≡ false
    → is_atomic c z ≡ true → is_below c y z ≡ true → ⊥
atomic-none c y z legal l state atomic low = by (kid.kind is.state) where
  to : (k : ℕ) × ((contains (children c z) k ≡ true) × Under c y k)
  to = kid-to c z y legal (omega arith) state low

  is : IsKid c z to.0
  is = kid-is c z to.0 legal (omega arith) to.1.0

  kid : HasHolder c to.0
  kid = has-holder c to.0 legal is.number

  none : (is_compound c z ≡ false) × (is_parallel c z ≡ false)
  none = kind-atomic (kind_of c z) atomic

  by : (parent_of c to.0 ≡ root c)
      ⊎ ((is_compound c (parent_of c to.0) ≡ true) ⊎ (is_parallel c (parent_of c to.0) ≡ true)) → ⊥
  by (inl top) = let same = sym is.parent ∙ top in omega (arith, same)
  by (inr (inl compound)) =
      let no = none.0 in let yes : is_compound c z ≡ true = subst (λ p. is_compound c p ≡ true) is.parent compound in cc
  by (inr (inr parallel)) =
      let no = none.1 in let yes : is_parallel c z ≡ true = subst (λ p. is_parallel c p ≡ true) is.parent parallel in cc

pairs-by : (R : ℕ → ℕ → Type 0) (ss : List ℕ) → ((y z : ℕ) → contains ss y ≡ true → contains ss z ≡ true → R y z)
    → Pairs R ss
pairs-by R [] f = tt
pairs-by R (s ∷ ss) f = (
  each ss (λ z i. has-later s z ss i),
  pairs-by R ss (λ y z i j. f y z (has-later s y ss i) (has-later s z ss j)),
) where
  each : (us : List ℕ) → ((z : ℕ) → contains us z ≡ true → contains (s ∷ ss) z ≡ true) → AllOf (R s) us
  each [] in-it = tt
  each (u ∷ us) in-it =
      (f s u (has-first s ss) (in-it u (has-first u us)), each us (λ z i. in-it z (has-later u z us i)))

-- active states of which none is above another can be entered together
active-together : (c : Chart) (configuration : List ℕ) (y z : ℕ) → legal_fault c ≡ None
    → IsConfiguration c configuration → IsActive configuration y
    → IsActive configuration z → (is_below c y z ≡ true → ⊥) → (is_below c z y ≡ true → ⊥) → Together c y z
active-together c configuration y z legal is h i left right = elim (cases_order y z) [
  | inl e ↦ inr e
  | inr o ↦ elim o [ inl less ↦ inl (apart (omega arith)) | inr more ↦ inl (apart (omega arith)) ]
] where
  seats : (s : ℕ) → IsActive configuration s → s ≡ seat c s
  seats s on = sym (ap (λ v. SeatBy v c s) (active-state c configuration s is on))

  plain : (y ≡ z → ⊥) → IsApart c y z
  plain other = record {
    agree = active-agree c configuration y z legal is h i;
    left = λ low. elim low [ inl e ↦ other e | inr deep ↦ left deep ];
    right = λ low. elim low [ inl e ↦ other (sym e) | inr deep ↦ right deep ];
    first = let l = active-within c configuration y is h in omega arith;
    second = let l = active-within c configuration z is i in omega arith;
  }

  apart : (y ≡ z → ⊥) → IsApart c (seat c y) (seat c z)
  apart other = subst (λ s. IsApart c s (seat c z)) (seats y h) (subst (λ s. IsApart c y s) (seats z i) (plain other))

records-together : (c : Chart) (configuration : List ℕ) (s : ℕ) → legal_fault c ≡ None → IsConfiguration c configuration
    → Pairs (Together c) (records c configuration s)
records-together c configuration s legal is = by (is_deep c s) where
  deep-test : ℕ → Bool
  deep-test a = is_below c a (parent_of c s) && is_atomic c a

  shallow-test : ℕ → Bool
  shallow-test a = parent_of c a == parent_of c s

  deep : (y z : ℕ) → contains (filter deep-test configuration) y ≡ true
      → contains (filter deep-test configuration) z ≡ true → Together c y z
  deep y z h i =
      let a = contains-filter deep-test y configuration h in
      let b = contains-filter deep-test z configuration i in
      active-together c configuration y z legal is a.0 b.0
      (λ low. atomic-none c y z legal (active-within c configuration z is b.0) (active-state c configuration y is a.0)
      (both (is_below c z (parent_of c s)) (is_atomic c z) b.1).1 low)
      (λ low. atomic-none c z y legal (active-within c configuration y is a.0) (active-state c configuration z is b.0)
      (both (is_below c y (parent_of c s)) (is_atomic c y) a.1).1 low)

  siblings : (y z : ℕ) → IsActive configuration y → IsActive configuration z → parent_of c y ≡ parent_of c s
      → parent_of c z ≡ parent_of c s → is_below c y z ≡ true → ⊥
  siblings y z h i e f low =
      let l = active-within c configuration y is h in
      let m = active-within c configuration z is i in
      let up = between c y z legal l (omega arith) low in
      let own : is_below c z (parent_of c y) ≡ true = subst (λ p. is_below c z p ≡ true) (f ∙ sym e)
      (has-holder c z legal m).below in
      not-own c z (below-under c z (parent_of c y) z own up)

  shallow : (y z : ℕ) → contains (filter shallow-test configuration) y ≡ true
      → contains (filter shallow-test configuration) z ≡ true → Together c y z
  shallow y z h i =
      let a = contains-filter shallow-test y configuration h in
      let b = contains-filter shallow-test z configuration i in
      let at : (parent_of c y == parent_of c s) ≡ true = a.1 in
      let bt : (parent_of c z == parent_of c s) ≡ true = b.1 in
      let e : parent_of c y ≡ parent_of c s = grind (arith, nat_tests) in
      let f : parent_of c z ≡ parent_of c s = grind (arith, nat_tests) in
      active-together c configuration y z legal is a.0 b.0 (siblings y z a.0 b.0 e f) (siblings z y b.0 a.0 f e)

  by : (v : Bool) → Pairs (Together c) (cond v (filter deep-test configuration) (filter shallow-test configuration))
  by true = pairs-by (Together c) (filter deep-test configuration) deep
  by false = pairs-by (Together c) (filter shallow-test configuration) shallow

value-together : (c : Chart) (h : Histories) (s : ℕ) (ss : List ℕ) → IsLawful c h → value_of_history h s ≡ Some ss
    → Pairs (Together c) ss
value-together c h s ss lawful e = by (find (λ (kept : ℕ × List ℕ). kept.0 == s) h) refl e where
  on : (ts : List ℕ) → Pairs (Together c) ts → some_states ts ≡ Some ss → Pairs (Together c) ss
  on [] all e = absurd (cc)
  on (t ∷ ts) all e = (let same : (t ∷ ts) ≡ ss = cc in subst (Pairs (Together c)) same all)

  by : (o : Option (ℕ × List ℕ)) → find (λ (kept : ℕ × List ℕ). kept.0 == s) h ≡ o
      → option_and_then (λ (kept : ℕ × List ℕ). some_states kept.1) o ≡ Some ss → Pairs (Together c) ss
  by None f e = absurd (cc)
  by (Some kept) f e =
      let is = find-has (IsRecorded c) s h kept lawful.recorded f in
      let of = is.1 in
      on kept.1 (subst (Pairs (Together c)) (sym of.3) (records-together c of.0 kept.0 lawful.legal of.1)) e

-- what a history stands for
pub stands-together : (c : Chart) (h : Histories) (t : ℕ) → IsLawful c h → t < state_count c → is_history c t ≡ true
    → Pairs (Together c) (stands_for c h t)
stands-together c h t lawful l history = rw history (by (value_of_history h t) refl) where
  by : (o : Option (List ℕ)) → value_of_history h t ≡ o → Pairs (Together c) (unwrap_or o (defaults c t))
  by None e = history-together c t lawful.legal l history
  by (Some ss) e = value-together c h t ss lawful e
