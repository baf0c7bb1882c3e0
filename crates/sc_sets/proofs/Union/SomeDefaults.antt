-- A history of a legal chart stands for some state.
use Rattle.std.proofs.Common.{◌≡◌, ℕ, ◌<◌, ◌==◌, ◌&&◌, ◌||◌, not, suc, Bool, true, false, cond, Option, Some, None, is_none, option_and_then, unwrap_or, List, [], ◌∷◌, ◌++◌, filter, find, length, slice_get, refl, ap, sym, subst, ◌∙◌}
use Rattle.std.specs.List.{cons_option, list_any}
use Rattle.std.specs.Option.{option_map_or}
use Rattle.sc_types.specs.Attributes.{has, words_at}
use Rattle.sc_types.specs.declared.attribute.Attribute.TheVariants as attribute
use Rattle.sc_types.specs.declared.chart.Chart.{Chart}
use Rattle.sc_types.specs.declared.chart.Node.{Node}
use Rattle.sc_types.specs.declared.chart.Tag.{Tag}
use Rattle.sc_types.specs.declared.chart.Tag.TheVariants as tag
use Rattle.sc_law.specs.Nodes.{Path, element, is_tag, kids, node_at, tag_of}
use Rattle.sc_law.specs.Tree.{path_of, state_count, state_element}
use Rattle.sc_law.specs.Kinds.{is_history}
use Rattle.sc_law.specs.Legality.{are_bad_recorded, default_ids, has_unknown_target, is_default, legal_fault, names_none, only_default, path_named, target_ids, targets}
use Rattle.sc_law.specs.Configurations.{defaults, defaults_at, named}
use Rattle.sc_law.specs.Sets.{Histories, some_states, stands_for, value_of_history}
use Rattle.sc_sets.proofs.Union.LegalDefaults.{history-tag, kid-at}
use Rattle.sc_sets.proofs.Union.LegalElements.{legal-path, legal-state, state-node}
use Rattle.sc_sets.proofs.Union.NamedStates.{state-named}

and-parts : (u v w : Bool) → (u && v && w) ≡ true → w ≡ true
and-parts true true true h = refl
and-parts true true false h = absurd (cc)
and-parts true false w h = absurd (cc)
and-parts false v w h = absurd (cc)

not-true : (v : Bool) → not v ≡ true → v ≡ false
not-true true h = absurd (cc)
not-true false h = refl

-- some item of a list
abbrev pub HasSome : List ℕ → Type 0
HasSome ss = (u : ℕ) × ((us : List ℕ) × (ss ≡ u ∷ us))

-- an item that is kept has a place
place-of : {A : Type 0} (test : A → Bool) (xs rest : List A) (x : A) → filter test xs ≡ x ∷ rest
    → (k : ℕ) × ((slice_get xs k ≡ Some x) × (test x ≡ true))
place-of test [] rest x h = absurd (cc)
place-of test (y ∷ xs) rest x h = by (test y) refl h (place-of test xs rest x) where
  by : (v : Bool) → test y ≡ v → cond v (y ∷ filter test xs) (filter test xs) ≡ x ∷ rest
      → (filter test xs ≡ x ∷ rest → (k : ℕ) × ((slice_get xs k ≡ Some x) × (test x ≡ true)))
      → (k : ℕ) × ((slice_get (y ∷ xs) k ≡ Some x) × (test x ≡ true))
  by true e at so = (let same : y ≡ x = cc in (0, (ap (λ z. Some z) same, subst (λ z. test z ≡ true) same e)))
  by false e at so = let r = so at in (suc r.0, (r.1.0, r.1.1))

-- the only transition of an element, where it only names targets
only-one : (ts : List Node) (ids : List (List ℕ)) → only_default ts ≡ Some ids
    → (t : Node) × ((ts ≡ t ∷ []) × ((is_default t ≡ true) × (words_at attribute.Target t ≡ ids)))
only-one [] ids h = absurd (cc)
only-one (t ∷ []) ids h = by (is_default t) refl h where
  by : (v : Bool) → is_default t ≡ v → cond v (Some (words_at attribute.Target t)) None ≡ Some ids
      → (x : Node) × ((t ∷ [] ≡ x ∷ []) × ((is_default x ≡ true) × (words_at attribute.Target x ≡ ids)))
  by true e at = (t, (refl, (e, (let same : words_at attribute.Target t ≡ ids = cc in same))))
  by false e at = absurd (cc)
only-one (t ∷ s ∷ ts) ids h = absurd (cc)

some-path : (o : Option Path) → is_none o ≡ false → (p : Path) × (o ≡ Some p)
some-path None h = absurd (cc)
some-path (Some p) h = (p, refl)

-- known ids name some state
pub named-some : (c : Chart) (ids : List (List ℕ)) → (length ids == 0) ≡ false → list_any (λ id. is_none (path_named c id)) ids ≡ false → HasSome (named c ids)
named-some c [] some known = absurd (cc)
named-some c (id ∷ ids) some known =
    let first : is_none (path_named c id) ≡ false = neither (is_none (path_named c id)) _ known in
    let p = some-path (path_named c id) first in
    let s = state-named c id p.0 p.1 in
    (s.0, (named c ids, ap (λ (o : Option ℕ). cons_option o (named c ids)) s.1))
  where
    neither : (v w : Bool) → (v || w) ≡ false → v ≡ false
    neither true w h = absurd (cc)
    neither false w h = refl

tag-is : (t : Tag) → is_tag tag.Transition t ≡ true → t ≡ tag.Transition
tag-is tag.Transition h = refl
tag-is t h = absurd (cc)

-- the ids of a default are known
pub known-ids : (c : Chart) (p : Path) (n : Node) (ids : List (List ℕ)) → legal_fault c ≡ None → node_at c.root p ≡ Some n
    → default_ids n ≡ Some ids → HasSome (named c ids)
known-ids c p n ids legal at is =
    let one = only-one (filter (λ kid. is_tag tag.Transition (tag_of kid)) (kids n)) ids is in
    let t = one.0 in
    let found = place-of (λ kid. is_tag tag.Transition (tag_of kid)) (kids n) [] t one.1.0 in
    let at_t = kid-at c.root n t p found.0 at found.1.0 in
    let q = p ++ found.0 ∷ [] in
    let is_t : element c q ≡ t = ap (λ (o : Option Node). unwrap_or o c.root) at_t in
    let known : has_unknown_target c q ≡ false = (legal-path c q t legal at_t).known in
    let tagged : tag_of t ≡ tag.Transition = tag-is (tag_of t) found.1.1 in
    let ids_are : target_ids (element c q) (tag_of (element c q)) ≡ ids =
    ap (λ (m : Node). target_ids m (tag_of m)) is_t ∙ ap (target_ids t) tagged ∙ one.1.1.1 in
    let some : (length ids == 0) ≡ false = sym (ap (λ (xs : List (List ℕ)). length xs == 0) one.1.1.1)
    ∙ not-true (names_none attribute.Target t) (and-parts (not (has attribute.Event t)) (not (has attribute.Cond t)) _ one.1.1.0) in
    named-some c ids some (sym (ap (λ xs. list_any (λ id. is_none (path_named c id)) xs) ids_are) ∙ known)

pub given : (o : Option (List (List ℕ))) (f : List (List ℕ) → Bool) → option_map_or f o true ≡ false → (ids : List (List ℕ)) × (o ≡ Some ids)
given None f h = absurd (cc)
given (Some ids) f h = (ids, refl)

-- a history of a legal chart has some default target
pub some-default : (c : Chart) (t : ℕ) → legal_fault c ≡ None → t < state_count c → is_history c t ≡ true → HasSome (defaults c t)
some-default c t legal l is =
    let here = history-tag (state_element c t) (tag_of (state_element c t)) is in
    let sound : option_map_or (λ ids. are_bad_recorded c (path_of c t) (targets c ids)) (default_ids (state_element c t)) true ≡ false =
    subst (λ (g : Tag). (is_tag tag.History g && option_map_or (λ ids. are_bad_recorded c (path_of c t) (targets c ids)) (default_ids (state_element c t)) true) ≡ false)
    here (legal-state c t legal l).history in
    let ids = given (default_ids (state_element c t)) _ sound in
    let node = state-node c t legal l in
    let own : default_ids node.0 ≡ Some ids.0 = sym (ap default_ids node.1.1) ∙ ids.1 in
    let all = known-ids c (path_of c t) node.0 ids.0 legal node.1.0 own in
    subst (λ (g : Tag). HasSome (defaults_at c t (state_element c t) g)) (sym here)
    (subst (λ (o : Option (List (List ℕ))). HasSome (named c (unwrap_or o []))) (sym ids.1) all)

value-some : (h : Histories) (s : ℕ) (ss : List ℕ) → value_of_history h s ≡ Some ss → HasSome ss
value-some h s ss e = by (find (λ (kept : ℕ × List ℕ). kept.0 == s) h) e where
  on : (ts : List ℕ) → some_states ts ≡ Some ss → HasSome ss
  on [] e = absurd (cc)
  on (t ∷ ts) e = (t, (ts, (let same : (t ∷ ts) ≡ ss = cc in sym same)))

  by : (o : Option (ℕ × List ℕ)) → option_and_then (λ (kept : ℕ × List ℕ). some_states kept.1) o ≡ Some ss → HasSome ss
  by None e = absurd (cc)
  by (Some kept) e = on kept.1 e

-- a history stands for some state
pub some-stands : (c : Chart) (h : Histories) (t : ℕ) → legal_fault c ≡ None → t < state_count c → is_history c t ≡ true → HasSome (stands_for c h t)
some-stands c h t legal l is = rw is (by (value_of_history h t) refl) where
  by : (o : Option (List ℕ)) → value_of_history h t ≡ o → HasSome (unwrap_or o (defaults c t))
  by None e = some-default c t legal l is
  by (Some ss) e = value-some h t ss e
