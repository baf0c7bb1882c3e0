-- Each compound state, and the root, has some default target.
use Rattle.std.proofs.Common.{◌≡◌, ◌⊎◌, inl, inr, ℕ, ◌<◌, ◌≤◌, ◌&&◌, ◌||◌, not, suc, Bool, true, false, cond, Option, Some, None, is_none, unwrap_or, List, [], ◌∷◌, ◌++◌, slice_get, take, refl, arith, ap, sym, subst, ◌∙◌}
use Rattle.std.proofs.lemmas.Bool.{cases_lt}
use Rattle.std.specs.List.{list_any}
use Rattle.std.specs.Option.{option_map_or}
use Rattle.sc_base.specs.Ascending.{contains}
use Rattle.sc_types.specs.Attributes.{has, words_at}
use Rattle.sc_types.specs.Elements.{is_numbered, is_state}
use Rattle.sc_types.specs.declared.attribute.Attribute.TheVariants as attribute
use Rattle.sc_types.specs.declared.chart.Chart.{Chart}
use Rattle.sc_types.specs.declared.chart.Node.{Node}
use Rattle.sc_types.specs.declared.chart.Tag.{Tag}
use Rattle.sc_types.specs.declared.chart.Tag.TheVariants as tag
use Rattle.sc_types.specs.declared.state_kind.StateKind.TheVariants.{Atomic, Compound}
use Rattle.sc_law.specs.Nodes.{Path, element, is_root, is_tag, kids, node_at, parent, tag_of}
use Rattle.sc_law.specs.Tree.{has_states, path_of, root, state_count, state_element}
use Rattle.sc_law.specs.Kinds.{is_compound, is_history, is_history_kind, kind_at}
use Rattle.sc_law.specs.Legality.{all_orthogonal, are_bad_defaults, default_ids, has_unknown_target, is_bad_element, is_bad_initial, is_bad_member, legal_fault, names_none, path_named, target_ids, targets}
use Rattle.sc_law.specs.Configurations.{children, defaults, defaults_at, has_initial, initial_ids, named, parent_of, state_defaults}
use Rattle.sc_sets.proofs.BelowSets.{past_compound}
use Rattle.sc_sets.proofs.Union.Apart.{same-number}
use Rattle.sc_sets.proofs.Union.LegalDefaults.{and-true, both-initial, compound-tag, initial-kid, kid-at, last-initial, neither, not-false, parent-of-kid}
use Rattle.sc_sets.proofs.Union.LegalElements.{legal-path, state-node}
use Rattle.sc_sets.proofs.Union.Parents.{past-root}
use Rattle.sc_sets.proofs.Union.SomeDefaults.{HasSome, given, known-ids, named-some}
use Rattle.sc_law_theorems.proofs.Legal.Faultless.{number-at, placed-path}
use Rattle.sc_law_theorems.proofs.Legal.Lists.{first-of-five}
use Rattle.sc_law_theorems.proofs.Legal.Tree.{has-holder, is-kid}

-- a state or the root, as the element that it is
pub record IsElement (c : Chart) (s : ℕ) (n : Node) : Type 0 where
  pub within : s ≤ state_count c
  pub at : node_at c.root (path_of c s) ≡ Some n
  pub is : element c (path_of c s) ≡ n
  pub tag : (tag_of n ≡ tag.State) ⊎ (tag_of n ≡ tag.Scxml)
  pub states : has_states n ≡ true

-- ---- its targets

first-of-three : (u v w : Bool) → (u || v || w) ≡ false → u ≡ false
first-of-three true v w h = absurd (cc)
first-of-three false v w h = refl

last-of-five : (u v w x y : Bool) → (u || v || w || x || y) ≡ false → y ≡ false
last-of-five u v w x true h = by u v w x h where
  by : (u v w x : Bool) → (u || v || w || x || true) ≡ false → true ≡ false
  by true v w x h = absurd (cc)
  by false true w x h = absurd (cc)
  by false false true x h = absurd (cc)
  by false false false true h = absurd (cc)
  by false false false false h = absurd (cc)
last-of-five u v w x false h = refl

-- what an `initial` attribute of a legal chart is
pub record IsInitial (c : Chart) (n : Node) : Type 0 where
  pub some : names_none attribute.Initial n ≡ false
  pub orthogonal : all_orthogonal c (targets c (words_at attribute.Initial n)) ≡ true

-- an `initial` attribute names some orthogonal targets
pub initial-attribute : (c : Chart) (s : ℕ) (n : Node) → legal_fault c ≡ None → IsElement c s n
    → has attribute.Initial n ≡ true → IsInitial c n
initial-attribute c s n legal el given = by el.tag where
  sound : is_bad_initial c (path_of c s) ≡ false
  sound = (legal-path c (path_of c s) n legal el.at).initial

  member : is_bad_member c (path_of c s) n (tag_of n) ≡ false
  member = sym (ap (λ (m : Node). is_bad_member c (path_of c s) m (tag_of m)) el.is)
      ∙ both-initial (is_root (path_of c s) && not (has_states (element c (path_of c s))))
      (has attribute.Initial (element c (path_of c s)))
      (is_bad_member c (path_of c s) (element c (path_of c s)) (tag_of (element c (path_of c s)))) _ sound
      (ap (has attribute.Initial) el.is ∙ given)

  by : ((tag_of n ≡ tag.State) ⊎ (tag_of n ≡ tag.Scxml)) → IsInitial c n
  by (inl e) =
      let bad : is_bad_member c (path_of c s) n tag.State ≡ false = sym (ap (is_bad_member c (path_of c s) n) e)
      ∙ member in
      record {
        some = first-of-five (names_none attribute.Initial n) _ _ _ _ bad;
        orthogonal = not-false _
            (last-of-five (names_none attribute.Initial n) _ _ _ _ bad);
      }
  by (inr e) =
      let bad : is_bad_member c (path_of c s) n tag.Scxml ≡ false = sym (ap (is_bad_member c (path_of c s) n) e)
      ∙ member in
      let parts = neither (names_none attribute.Initial n) _ bad in
      record { some = parts.0; orthogonal = not-false _ parts.1 }

-- what an `initial` element of a legal chart names
pub record IsNamed (c : Chart) (ids : List (List ℕ)) : Type 0 where
  pub some : HasSome (named c ids)
  pub orthogonal : all_orthogonal c (targets c ids) ≡ true

-- so does an `initial` element
pub initial-element : (c : Chart) (s : ℕ) (n : Node) → legal_fault c ≡ None → IsElement c s n → has_initial n ≡ true
    → IsNamed c (initial_ids (kids n))
initial-element c s n legal el some =
    let found = initial-kid (kids n) some in
    let k = found.0 in
    let kid = found.1.0 in
    let q = path_of c s ++ k ∷ [] in
    let at_kid = kid-at c.root n kid (path_of c s) k el.at found.1.1.0 in
    let is_kid : element c q ≡ kid = ap (λ (o : Option Node). unwrap_or o c.root) at_kid in
    let bad = last-initial (is_root q && not (has_states (element c q))) (misplaced q) _
    (legal-path c q kid legal at_kid).initial in
    let fine = and-true (is_tag tag.Initial (tag_of (element c q))) (is_bad_element c q) bad
    (ap (λ (m : Node). is_tag tag.Initial (tag_of m)) is_kid ∙ found.1.1.1.0) in
    let ids = given (default_ids (element c q)) _ fine in
    let own : default_ids kid ≡ Some ids.0 = sym (ap default_ids is_kid) ∙ ids.1 in
    let same : initial_ids (kids n) ≡ ids.0 = found.1.1.1.1 ∙ ap (λ (o : Option (List (List ℕ))). unwrap_or o []) own in
    let good : are_bad_defaults c q (targets c ids.0) ≡ false = sym
    (ap (λ (o : Option (List (List ℕ))). option_map_or (λ is. are_bad_defaults c q (targets c is)) o true) ids.1)
    ∙ fine in
    subst (IsNamed c) (sym same) (record {
      some = known-ids c q kid ids.0 legal at_kid own;
      orthogonal = not-false _ (neither _ _ good).1;
    })
  where
    misplaced : Path → Bool
    misplaced r = has attribute.Initial (element c r) && is_bad_member c r (element c r) (tag_of (element c r))

-- ---- its children

place-step : {A : Type 0} (test : A → Bool) (y : A) (xs : List A) (v : Bool) → test y ≡ v
    → (v || list_any test xs) ≡ true
    → (list_any test xs ≡ true → (k : ℕ) × ((x : A) × ((slice_get xs k ≡ Some x) × (test x ≡ true))))
    → (k : ℕ) × ((x : A) × ((slice_get (y ∷ xs) k ≡ Some x) × (test x ≡ true)))
place-step test y xs true e h so = (0, (y, (refl, e)))
place-step test y xs false e h so = let r = so h in (suc r.0, (r.1.0, (r.1.1.0, r.1.1.1)))

some-place : {A : Type 0} (test : A → Bool) (xs : List A) → list_any test xs ≡ true
    → (k : ℕ) × ((x : A) × ((slice_get xs k ≡ Some x) × (test x ≡ true)))
some-place test [] h = absurd (cc)
some-place test (y ∷ xs) h = place-step test y xs (test y) refl h (some-place test xs)

state-numbered : (t : Tag) → is_state t ≡ true → is_numbered t ≡ true
state-numbered tag.State h = refl
state-numbered tag.Parallel h = refl
state-numbered tag.Final h = refl
state-numbered t h = absurd (cc)

state-no-history : (n : Node) (t : Tag) → is_state t ≡ true → option_map_or is_history_kind (kind_at n t) false ≡ false
state-no-history n tag.State h = by (has_states n) where
  by : (v : Bool) → is_history_kind (cond v Compound Atomic) ≡ false
  by true = refl
  by false = refl
state-no-history n tag.Parallel h = refl
state-no-history n tag.Final h = refl
state-no-history n t h = absurd (cc)

-- an element that has states has a child state
pub some-child : (c : Chart) (s : ℕ) (n : Node) → legal_fault c ≡ None → IsElement c s n
    → (k : ℕ) × (contains (children c s) k ≡ true)
some-child c s n legal el =
    let found = some-place (λ kid. is_state (tag_of kid)) (kids n) el.states in
    let kid = found.1.0 in
    let q = path_of c s ++ found.0 ∷ [] in
    let at_kid = kid-at c.root n kid (path_of c s) found.0 el.at found.1.1.0 in
    let is_kid : element c q ≡ kid = ap (λ (o : Option Node). unwrap_or o c.root) at_kid in
    let j = number-at c q kid at_kid (state-numbered (tag_of kid) found.1.1.1) in
    let here : state_element c j.0 ≡ kid = ap (element c) j.1.1 ∙ is_kid in
    let state : is_history c j.0 ≡ false = subst
    (λ (m : Node). option_map_or is_history_kind (kind_at m (tag_of m)) false ≡ false) (sym here)
    (state-no-history kid (tag_of kid) found.1.1.1) in
    let up = has-holder c j.0 legal j.1.0 in
    let own : parent_of c j.0 ≡ s = same-number c (parent_of c j.0) s legal up.within el.within
    (up.path ∙ ap parent j.1.1 ∙ parent-of-kid (path_of c s) found.0) in
    (j.0, subst (λ p. contains (children c p) j.0 ≡ true) own (is-kid c j.0 legal j.1.0 state))

-- ---- some default

first-some : (ss : List ℕ) (k : ℕ) → contains ss k ≡ true → HasSome (take 1 ss)
first-some [] k h = absurd (cc)
first-some (s ∷ ss) k h = (s, ([], refl))

-- it has some default target
pub element-defaults-some : (c : Chart) (s : ℕ) (n : Node) → legal_fault c ≡ None → IsElement c s n
    → HasSome (state_defaults c s n)
element-defaults-some c s n legal el = by (has attribute.Initial n) (has_initial n) refl refl where
  known : has_unknown_target c (path_of c s) ≡ false
  known = (legal-path c (path_of c s) n legal el.at).known

  ids-are : ((tag_of n ≡ tag.State) ⊎ (tag_of n ≡ tag.Scxml)) → target_ids n (tag_of n) ≡ words_at attribute.Initial n
  ids-are (inl e) = ap (target_ids n) e
  ids-are (inr e) = ap (target_ids n) e

  all : target_ids (element c (path_of c s)) (tag_of (element c (path_of c s))) ≡ words_at attribute.Initial n
  all = ap (λ (m : Node). target_ids m (tag_of m)) el.is ∙ ids-are el.tag

  by : (v w : Bool) → has attribute.Initial n ≡ v → has_initial n ≡ w
      → HasSome (cond v (named c (words_at attribute.Initial n))
      (cond w (named c (initial_ids (kids n))) (take 1 (children c s))))
  by true w e f = named-some c (words_at attribute.Initial n) (initial-attribute c s n legal el e).some
      (sym (ap (λ ids. list_any (λ id. is_none (path_named c id)) ids) all) ∙ known)
  by false true e f = (initial-element c s n legal el f).some
  by false false e f = let k = some-child c s n legal el in first-some (children c s) k.0 k.1

-- a compound state as an element
pub compound-element : (c : Chart) (s : ℕ) → legal_fault c ≡ None → is_compound c s ≡ true
    → (n : Node) × ((IsElement c s n) × ((state_element c s ≡ n) × (tag_of n ≡ tag.State)))
compound-element c s legal compound =
    let within : s < state_count c = elim (cases_lt s (state_count c)) [
      | inl l ↦ l
      | inr past ↦ absurd (let no = past_compound c s legal (omega arith) in cc)
    ] in
    let has = state-node c s legal within in
    let tagged = compound-tag (state_element c s) (tag_of (state_element c s)) compound in
    let state : tag_of has.0 ≡ tag.State = sym (ap tag_of has.1.1) ∙ tagged.0 in (
      has.0,
      (
        record {
          within = omega arith;
          at = has.1.0;
          is = has.1.1;
          tag = inl state;
          states = sym (ap has_states has.1.1) ∙ tagged.1;
        },
        (has.1.1, state),
      ),
    )

-- the root as an element
pub root-element : (c : Chart) → legal_fault c ≡ None → (IsElement c (root c) c.root) × (tag_of c.root ≡ tag.Scxml)
root-element c legal = (
  record {
    within = omega arith;
    at = at;
    is = is;
    tag = inr top;
    states = some;
  },
  top,
) where
  path : path_of c (root c) ≡ []
  path = past-root c (root c) (omega arith)

  at : node_at c.root (path_of c (root c)) ≡ Some c.root
  at = ap (node_at c.root) path

  is : element c (path_of c (root c)) ≡ c.root
  is = ap (element c) path

  scxml : (t : Tag) → not (is_tag tag.Scxml t) ≡ false → t ≡ tag.Scxml
  scxml tag.Scxml h = refl
  scxml t h = absurd (cc)

  top : tag_of c.root ≡ tag.Scxml
  top = scxml (tag_of c.root) (placed-path c [] c.root legal refl).child

  some : has_states c.root ≡ true
  some =
      not-false (has_states c.root)
      (first-of-three (not (has_states c.root)) _ _ (legal-path c [] c.root legal refl).initial)

-- a compound state has some default target
pub compound-some : (c : Chart) (s : ℕ) → legal_fault c ≡ None → is_compound c s ≡ true → HasSome (defaults c s)
compound-some c s legal compound =
    let el = compound-element c s legal compound in
    let state : tag_of (state_element c s) ≡ tag.State = ap tag_of el.1.1.0 ∙ el.1.1.1 in
    let has : has_states (state_element c s) ≡ true = ap has_states el.1.1.0 ∙ el.1.0.states in
    let all : HasSome (state_defaults c s (state_element c s)) = subst (λ (n : Node). HasSome (state_defaults c s n))
    (sym el.1.1.0) (element-defaults-some c s el.0 legal el.1.0) in
    subst (λ (g : Tag). HasSome (defaults_at c s (state_element c s) g)) (sym state)
    (subst (λ v. HasSome (cond v (state_defaults c s (state_element c s)) [])) (sym has) all)

-- so has the root
pub root-some : (c : Chart) → legal_fault c ≡ None → HasSome (defaults c (root c))
root-some c legal =
    let el = root-element c legal in
    let top : tag_of (state_element c (root c)) ≡ tag.Scxml = ap tag_of el.0.is ∙ el.1 in
    subst (λ (g : Tag). HasSome (defaults_at c (root c) (state_element c (root c)) g)) (sym top)
    (subst (λ (n : Node). HasSome (state_defaults c (root c) n)) (sym el.0.is)
    (element-defaults-some c (root c) c.root legal el.0))
