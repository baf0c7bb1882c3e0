-- The default targets of a legal chart stand below what they are the defaults of.
use Rattle.std.proofs.Common.{◌≡◌, inl, inr, ℕ, ◌<◌, ◌&&◌, ◌||◌, not, suc, Bool, true, false, cond, Option, Some, None, option_and_then, unwrap_or, List, [], ◌∷◌, ◌++◌, ◌-◌, ◌==◌, codes, length, length-append, slice_get, take, refl, arith, rules, ap, sym, subst, ◌∙◌}
use Rattle.std.proofs.lemmas.Bool.{cases_lt}
use Rattle.std.proofs.lemmas.Bool.Decides.{nat_tests}
use Rattle.std.proofs.lemmas.List.{get_or_past}
use Rattle.std.specs.List.{list_any}
use Rattle.std.specs.Option.{option_map_or}
use Rattle.sc_types.specs.Attributes.{has, is_text_at, words_at}
use Rattle.sc_types.specs.Elements.{is_numbered}
use Rattle.sc_types.specs.declared.attribute.Attribute.TheVariants as attribute
use Rattle.sc_types.specs.declared.chart.Chart.{Chart}
use Rattle.sc_types.specs.declared.chart.Node.{Node}
use Rattle.sc_types.specs.declared.chart.Tag.{Tag}
use Rattle.sc_types.specs.declared.chart.Tag.TheVariants as tag
use Rattle.sc_types.specs.declared.state_kind.StateKind.TheVariants.{Atomic, Compound, Deep, Shallow}
use Rattle.sc_law.specs.Nodes.{Path, element, is_root, is_tag, kids, leads_on, node_at, parent, tag_of}
use Rattle.sc_law.specs.Tree.{has_states, is_below, path_of, state_count, state_element, state_paths}
use Rattle.sc_law.specs.Kinds.{is_compound, is_history, is_history_kind, is_kind, kind_at}
use Rattle.sc_law.specs.Legality.{are_bad_defaults, are_bad_recorded, are_below, default_ids, is_bad_element, is_bad_initial, is_bad_member, is_bad_recorded, is_state_or_parallel, legal_fault, targets}
use Rattle.sc_law.specs.Configurations.{children, defaults, defaults_at, has_initial, initial_ids, named, state_defaults}
use Rattle.sc_tables.proofs.LegalRoots.{root_not_numbered}
use Rattle.sc_tables.proofs.LookUps.{path-is}
use Rattle.std.specs.List.{AllByRecursion as AllOf}
use Rattle.sc_sets.proofs.Union.Below.{all-of-map, all-of-true}
use Rattle.sc_sets.proofs.Union.Forks.{is-tree}
use Rattle.sc_sets.proofs.Union.LegalElements.{legal-path, legal-state, state-node}
use Rattle.sc_sets.proofs.Union.NamedStates.{named-targets}

pub neither : (v w : Bool) → (v || w) ≡ false → (v ≡ false) × (w ≡ false)
neither true w h = absurd (cc)
neither false w h = (refl, h)

pub not-false : (v : Bool) → not v ≡ false → v ≡ true
not-false true h = refl
not-false false h = absurd (cc)

none-of : {A : Type 0} (test : A → Bool) (xs : List A) → list_any test xs ≡ false → AllOf (λ x. test x ≡ false) xs
none-of test [] h = tt
none-of test (x ∷ xs) h = let t = neither (test x) (list_any test xs) h in (t.0, none-of test xs t.1)

-- ---- tags

-- the tag of a history
pub history-tag : (n : Node) (t : Tag) → option_map_or is_history_kind (kind_at n t) false ≡ true → t ≡ tag.History
history-tag n tag.History h = refl
history-tag n tag.State h = by (has_states n) h where
  by : (v : Bool) → is_history_kind (cond v Compound Atomic) ≡ true → tag.State ≡ tag.History
  by true h = absurd (cc)
  by false h = absurd (cc)
history-tag n t h = absurd (search rules)

pub no-history : (n : Node) (t : Tag) → is_tag tag.History t ≡ false → option_map_or is_history_kind (kind_at n t) false ≡ false
no-history n tag.History h = absurd (cc)
no-history n tag.State h = by (has_states n) where
  by : (v : Bool) → is_history_kind (cond v Compound Atomic) ≡ false
  by true = refl
  by false = refl
no-history n t h = search rules

pub compound-tag : (n : Node) (t : Tag) → option_map_or (is_kind Compound) (kind_at n t) false ≡ true → (t ≡ tag.State) × (has_states n ≡ true)
compound-tag n tag.State h = by (has_states n) refl h where
  by : (v : Bool) → has_states n ≡ v → is_kind Compound (cond v Compound Atomic) ≡ true → (tag.State ≡ tag.State) × (has_states n ≡ true)
  by true e h = (refl, e)
  by false e h = absurd (cc)
compound-tag n tag.History h = by (is_text_at attribute.Type (codes "deep") n) h where
  by : (v : Bool) → is_kind Compound (cond v Deep Shallow) ≡ true → (tag.History ≡ tag.State) × (has_states n ≡ true)
  by true h = absurd (cc)
  by false h = absurd (cc)
compound-tag n t h = absurd (cc)

-- ---- defaults of histories

-- what a default target of a history is: no history, and below what the history stands in
abbrev pub IsRecall : Chart → Path → Path → Type 0
IsRecall c p q = (is_tag tag.History (tag_of (element c q)) ≡ false) × (leads_on (parent p) q ≡ true)

recall-is : (c : Chart) (p q : Path) → is_bad_recorded c p q ≡ false → IsRecall c p q
recall-is c p q h =
    let a = neither _ _ h in
    let b = neither _ _ a.0 in
    let d = neither _ _ b.0 in (d.0, not-false (leads_on (parent p) q) b.1)

recalls : (c : Chart) (p : Path) (o : Option (List (List ℕ))) → option_map_or (λ ids. are_bad_recorded c p (targets c ids)) o true ≡ false
    → AllOf (IsRecall c p) (targets c (unwrap_or o []))
recalls c p None h = absurd (cc)
recalls c p (Some ids) h =
    all-of-map (λ q. is_bad_recorded c p q ≡ false) (IsRecall c p) (targets c ids) (recall-is c p)
    (none-of (is_bad_recorded c p) (targets c ids) (neither _ _ h).0)

-- the default targets of a history
pub history-defaults : (c : Chart) (t : ℕ) → legal_fault c ≡ None → t < state_count c → is_history c t ≡ true
    → AllOf (λ u. (u < state_count c) × ((is_history c u ≡ false) × (leads_on (parent (path_of c t)) (path_of c u) ≡ true))) (defaults c t)
history-defaults c t legal l is =
    subst (λ (g : Tag). AllOf (λ u. (u < state_count c) × ((is_history c u ≡ false) × (leads_on (parent (path_of c t)) (path_of c u) ≡ true))) (defaults_at c t (state_element c t) g))
    (sym here)
    (all-of-map _ _ (named c (unwrap_or (default_ids (state_element c t)) []))
    (λ u r. (r.0, (no-history (state_element c u) (tag_of (state_element c u)) r.1.0, r.1.1)))
    (named-targets c (IsRecall c (path_of c t)) (unwrap_or (default_ids (state_element c t)) []) (recalls c (path_of c t) (default_ids (state_element c t)) sound)))
  where
    here : tag_of (state_element c t) ≡ tag.History
    here = history-tag (state_element c t) (tag_of (state_element c t)) is

    sound : option_map_or (λ ids. are_bad_recorded c (path_of c t) (targets c ids)) (default_ids (state_element c t)) true ≡ false
    sound = subst (λ (g : Tag). (is_tag tag.History g && option_map_or (λ ids. are_bad_recorded c (path_of c t) (targets c ids)) (default_ids (state_element c t)) true) ≡ false)
        here (legal-state c t legal l).history

-- ---- defaults of compound states

pub both-initial : (v w x y : Bool) → (v || (w && x) || y) ≡ false → w ≡ true → x ≡ false
both-initial true w x y h t = absurd (cc)
both-initial false true true y h t = absurd (cc)
both-initial false true false y h t = refl
both-initial false false x y h t = absurd (cc)

pub last-initial : (v w x : Bool) → (v || w || x) ≡ false → x ≡ false
last-initial true w x h = absurd (cc)
last-initial false true x h = absurd (cc)
last-initial false false x h = h

pub and-true : (v w : Bool) → (v && w) ≡ false → v ≡ true → w ≡ false
and-true true w h t = h
and-true false w h t = absurd (cc)

-- the targets of an `initial` attribute
member-below : (c : Chart) (p : Path) (n : Node) → is_bad_member c p n tag.State ≡ false
    → AllOf (λ q. leads_on p q ≡ true) (targets c (words_at attribute.Initial n))
member-below c p n h =
    let a = neither _ _ h in
    let b = neither _ _ a.0 in
    all-of-true (leads_on p) (targets c (words_at attribute.Initial n)) (not-false _ b.1)

-- the targets of an `initial` element of a state
element-below : (c : Chart) (q : Path) (o : Option (List (List ℕ))) → is_root q ≡ false → tag_of (element c (parent q)) ≡ tag.State
    → option_map_or (λ ids. are_bad_defaults c q (targets c ids)) o true ≡ false
    → AllOf (λ r. leads_on (parent q) r ≡ true) (targets c (unwrap_or o []))
element-below c q None some state h = absurd (cc)
element-below c q (Some ids) some state h =
    let inner = and-true (not (is_root q)) _ (neither _ _ h).0 (ap not some) in
    let below : (is_state_or_parallel (tag_of (element c (parent q))) && not (are_below (parent q) (targets c ids))) ≡ false = (neither _ _ inner).1 in
    all-of-true (leads_on (parent q)) (targets c ids)
    (not-false _ (and-true (is_state_or_parallel (tag_of (element c (parent q)))) _ below (ap is_state_or_parallel state)))

-- ---- child elements

pub kid-at : (m n kid : Node) (p : Path) (k : ℕ) → node_at m p ≡ Some n → slice_get (kids n) k ≡ Some kid
    → node_at m (p ++ k ∷ []) ≡ Some kid
kid-at m n kid [] k at is =
    let e : m ≡ n = cc in
    subst (λ (x : Node). option_and_then (λ (j : Node). Some j) (slice_get (kids x) k) ≡ Some kid) (sym e) (ap (option_and_then (λ (j : Node). Some j)) is)
kid-at m n kid (x ∷ q) k at is = by (slice_get (kids m) x) at (λ j e. kid-at j n kid q k e is) where
  by : (o : Option Node) → option_and_then (λ (j : Node). node_at j q) o ≡ Some n
      → ((j : Node) → node_at j q ≡ Some n → node_at j (q ++ k ∷ []) ≡ Some kid)
      → option_and_then (λ (j : Node). node_at j (q ++ k ∷ [])) o ≡ Some kid
  by None e go = absurd (cc)
  by (Some j) e go = go j e

-- an `initial` among child elements that names these ids
abbrev pub HasInitial : List Node → List (List ℕ) → Type 0
HasInitial ns ids = (k : ℕ) × ((kid : Node) × ((slice_get ns k ≡ Some kid) × ((is_tag tag.Initial (tag_of kid) ≡ true) × (ids ≡ unwrap_or (default_ids kid) []))))

-- the first of them
pub initial-kid : (ns : List Node) → list_any (λ kid. is_tag tag.Initial (tag_of kid)) ns ≡ true → HasInitial ns (initial_ids ns)
initial-kid [] h = absurd (cc)
initial-kid (n ∷ ns) h = by (is_tag tag.Initial (tag_of n)) refl h (initial-kid ns) where
  by : (v : Bool) → is_tag tag.Initial (tag_of n) ≡ v → (v || list_any (λ kid. is_tag tag.Initial (tag_of kid)) ns) ≡ true
      → (list_any (λ kid. is_tag tag.Initial (tag_of kid)) ns ≡ true → HasInitial ns (initial_ids ns))
      → HasInitial (n ∷ ns) (cond v (unwrap_or (default_ids n) []) (initial_ids ns))
  by true e h so = (0, (n, (refl, (e, refl))))
  by false e h so = let r = so h in (suc r.0, (r.1.0, r.1.1))

take-front : (p q : Path) → take (length p) (p ++ q) ≡ p
take-front [] q = refl
take-front (x ∷ p) q = ap (λ r. x ∷ r) (take-front p q)

pub parent-of-kid : (p : Path) (k : ℕ) → parent (p ++ k ∷ []) ≡ p
parent-of-kid p k =
    let long = length-append p (k ∷ []) in
    let short : length (p ++ k ∷ []) - 1 ≡ length p = omega (arith, long) in
    ap (λ i. take i (p ++ k ∷ [])) short ∙ take-front p (k ∷ [])

pub kid-no-root : (p : Path) (k : ℕ) → is_root (p ++ k ∷ []) ≡ false
kid-no-root [] k = refl
kid-no-root (x ∷ p) k = let t : (suc (length (p ++ k ∷ [])) == 0) ≡ false = grind (arith, nat_tests) in t

-- the targets of the `initial` element of a state
initial-below : (c : Chart) (p : Path) (n : Node) → legal_fault c ≡ None → node_at c.root p ≡ Some n → element c p ≡ n → tag_of n ≡ tag.State
    → HasInitial (kids n) (initial_ids (kids n)) → AllOf (λ r. leads_on p r ≡ true) (targets c (initial_ids (kids n)))
initial-below c p n legal at is state found =
    let k = found.0 in
    let kid = found.1.0 in
    let at_kid = kid-at c.root n kid p k at found.1.1.0 in
    let is_kid : element c (p ++ k ∷ []) ≡ kid = ap (λ (o : Option Node). unwrap_or o c.root) at_kid in
    let q = p ++ k ∷ [] in
    let bad = last-initial (is_root q && not (has_states (element c q))) (has attribute.Initial (element c q) && is_bad_member c q (element c q) (tag_of (element c q))) _
    (legal-path c (p ++ k ∷ []) kid legal at_kid).initial in
    let fine = and-true (is_tag tag.Initial (tag_of (element c (p ++ k ∷ [])))) (is_bad_element c (p ++ k ∷ [])) bad
    (ap (λ (m : Node). is_tag tag.Initial (tag_of m)) is_kid ∙ found.1.1.1.0) in
    let above : tag_of (element c (parent (p ++ k ∷ []))) ≡ tag.State = ap (λ q. tag_of (element c q)) (parent-of-kid p k) ∙ ap tag_of is ∙ state in
    let all = element-below c (p ++ k ∷ []) (default_ids (element c (p ++ k ∷ []))) (kid-no-root p k) above fine in
    subst (λ q. AllOf (λ r. leads_on q r ≡ true) (targets c (initial_ids (kids n)))) (parent-of-kid p k)
    (subst (λ ids. AllOf (λ r. leads_on (parent (p ++ k ∷ [])) r ≡ true) (targets c ids))
    (ap (λ (m : Node). unwrap_or (default_ids m) []) is_kid ∙ sym found.1.1.1.1) all)

-- ---- all defaults

first-of : (P : ℕ → Type 0) (ss : List ℕ) → AllOf P ss → AllOf P (take 1 ss)
first-of P [] h = tt
first-of P (s ∷ ss) h = (h.0, tt)

-- a compound state of a legal chart is among the states
compound-within : (c : Chart) (s : ℕ) → legal_fault c ≡ None → tag_of (state_element c s) ≡ tag.State → s < state_count c
compound-within c s legal state = elim (cases_lt s (state_count c)) [
  | inl l ↦ l
  | inr past ↦
      let root : path_of c s ≡ [] = path-is c s ∙ get_or_past (state_paths c) s [] (omega arith) in
      let tagged : tag_of c.root ≡ tag.State = sym (ap (λ p. tag_of (element c p)) root) ∙ state in
      let no = root_not_numbered c legal in
      absurd (let yes : is_numbered (tag_of c.root) ≡ true = ap is_numbered tagged in cc)
]

state-defaults : (c : Chart) (s : ℕ) (n : Node) → legal_fault c ≡ None → node_at c.root (path_of c s) ≡ Some n → element c (path_of c s) ≡ n
    → tag_of n ≡ tag.State → is_bad_initial c (path_of c s) ≡ false → AllOf (λ u. is_below c u s ≡ true) (state_defaults c s n)
state-defaults c s n legal at is state sound = by (has attribute.Initial n) (has_initial n) refl refl where
  on : (ids : List (List ℕ)) → AllOf (λ q. leads_on (path_of c s) q ≡ true) (targets c ids) → AllOf (λ u. is_below c u s ≡ true) (named c ids)
  on ids h = all-of-map _ _ (named c ids) (λ u t. t.1) (named-targets c (λ q. leads_on (path_of c s) q ≡ true) ids h)

  bad : has attribute.Initial n ≡ true → is_bad_member c (path_of c s) n tag.State ≡ false
  bad t =
      let p = path_of c s in
      let it = both-initial (is_root p && not (has_states (element c p))) (has attribute.Initial (element c p))
      (is_bad_member c p (element c p) (tag_of (element c p))) _ sound (ap (has attribute.Initial) is ∙ t) in
      sym (ap (λ (m : Node). is_bad_member c p m (tag_of m)) is ∙ ap (is_bad_member c p n) state) ∙ it

  by : (v w : Bool) → has attribute.Initial n ≡ v → has_initial n ≡ w
      → AllOf (λ u. is_below c u s ≡ true) (cond v (named c (words_at attribute.Initial n)) (cond w (named c (initial_ids (kids n))) (take 1 (children c s))))
  by true w e f = on (words_at attribute.Initial n) (member-below c (path_of c s) n (bad e))
  by false true e f = on (initial_ids (kids n)) (initial-below c (path_of c s) n legal at is state (initial-kid (kids n) f))
  by false false e f = first-of _ (children c s) (all-of-map _ _ (children c s) (λ kid t. t.1) ((is-tree c).kids s))

-- the default targets of a compound state are below it
pub compound-defaults : (c : Chart) (s : ℕ) → legal_fault c ≡ None → is_compound c s ≡ true → AllOf (λ u. is_below c u s ≡ true) (defaults c s)
compound-defaults c s legal is =
    let tagged = compound-tag (state_element c s) (tag_of (state_element c s)) is in
    let within = compound-within c s legal tagged.0 in
    let has = state-node c s legal within in
    let all = state-defaults c s has.0 legal has.1.0 has.1.1 (sym (ap tag_of has.1.1) ∙ tagged.0) (legal-state c s legal within).initial in
    subst (λ (g : Tag). AllOf (λ u. is_below c u s ≡ true) (defaults_at c s (state_element c s) g)) (sym tagged.0)
    (rw tagged.1 (subst (λ (n : Node). AllOf (λ u. is_below c u s ≡ true) (state_defaults c s n)) (sym has.1.1) all))
