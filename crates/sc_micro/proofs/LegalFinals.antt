-- A final of a legal chart has one `<donedata>` at most.
use Rattle.std.proofs.Common.{◌≡◌, ℕ, ◌-◌, ◌<◌, ◌==◌, ◌&&◌, ◌||◌, not, suc, Bool, true, false, cond, Option, Some, None, option_map, unwrap_or, codes, List, [], ◌∷◌, ◌++◌, length, take, find, get_or, slice_get, length-append, refl, arith, ap, subst, sym, ◌∙◌}
use Rattle.std.proofs.Math.Seq.{get_or-append_seam}
use Rattle.std.proofs.lemmas.Bool.Decides.{nat_tests}
use Rattle.std.specs.List.{list_any, AllByRecursion as AllOf}
use Rattle.std.specs.Option.{option_map_or}
use Rattle.sc_types.specs.ChartTexts.{fault}
use Rattle.sc_types.specs.declared.attribute.Attribute.TheVariants as attribute
use Rattle.sc_types.specs.declared.chart.Chart.{Chart}
use Rattle.sc_types.specs.declared.chart.ChartFault.{ChartFault}
use Rattle.sc_types.specs.declared.chart.Node.{Node}
use Rattle.sc_types.specs.declared.chart.Tag.{Tag}
use Rattle.sc_types.specs.declared.chart.Tag.TheVariants as tag
use Rattle.sc_types.specs.declared.state_kind.StateKind.TheVariants as kind
use Rattle.sc_types.specs.Attributes.{is_text_at}
use Rattle.sc_law.specs.Kinds.{is_final, is_kind, kind_at}
use Rattle.sc_law.specs.Legality.{fault_at, first_fault, has_earlier, has_kid, is_among, is_in_finalize, may_hold, is_bad_child, is_bad_kid, legal_fault, number_at, own_place, tests}
use Rattle.sc_law.specs.Nodes.{Path, element, elements, is_root, is_tag, kids, node_at, parent, tag_of}
use Rattle.sc_law.specs.Tree.{has_states, path_of, state_count, state_element}
use Rattle.sc_sets.proofs.Union.LegalDefaults.{kid-at}
use Rattle.sc_sets.proofs.Union.LegalElements.{element-has, state-node}

-- ---- each element of a legal chart may stand where it stands

abbrev FailEach : {A : Type 0} → (A → Bool) → List A → Type 0
FailEach test [] = Unit
FailEach test (x ∷ xs) = (test x ≡ false) × FailEach test xs

none-found : {A : Type 0} (test : A → Bool) (xs : List A) → find test xs ≡ None → FailEach test xs
none-found test [] h = tt
none-found test (x ∷ xs) h = by (test x) refl h (none-found test xs) where
  by : (v : Bool) → test x ≡ v → cond v (Some x) (find test xs) ≡ None → (find test xs ≡ None → FailEach test xs)
      → (test x ≡ false) × FailEach test xs
  by true e h so = absurd (cc)
  by false e h so = (e, so h)

no-number : (o : Option ℕ) (path : Path) → option_map (λ n. fault n path []) o ≡ None → o ≡ None
no-number None path h = refl
no-number (Some n) path h = absurd (cc)

no-test : (o : Option (ℕ × (Chart → Path → Bool))) → option_map (λ (t : ℕ × (Chart → Path → Bool)). t.0) o ≡ None
    → o ≡ None
no-test None h = refl
no-test (Some t) h = absurd (cc)

child-at : (c : Chart) (p : Path) → fault_at c p ≡ None → is_bad_child c p ≡ false
child-at c p h =
    let number = no-number (number_at c p) p h in
    let each = none-found (λ (t : ℕ × (Chart → Path → Bool)). t.1 c p) tests (no-test _ number) in
    each.1.1.1.1.1.1.0

none-first : (o later : Option ChartFault) → option_map_or Some o later ≡ None → (o ≡ None) × (later ≡ None)
none-first None later h = (refl, h)
none-first (Some f) later h = absurd (cc)

child-all : (c : Chart) (ps : List Path) → first_fault c ps ≡ None → AllOf (λ p. is_bad_child c p ≡ false) ps
child-all c [] h = tt
child-all c (p ∷ ps) h =
    let both = none-first (fault_at c p) (first_fault c ps) h in (child-at c p both.0, child-all c ps both.1)

legal-children : (c : Chart) → legal_fault c ≡ None → AllOf (λ p. is_bad_child c p ≡ false) (elements c)
unfolding legal_fault
legal-children c legal = child-all c (elements c) legal

-- ---- paths of child elements

take-front : (p q : Path) → take (length p) (p ++ q) ≡ p
take-front [] q = refl
take-front (x ∷ p) q = ap (λ r. x ∷ r) (take-front p q)

short : (p : Path) (k : ℕ) → length (p ++ k ∷ []) - 1 ≡ length p
short p k = let long = length-append p (k ∷ []) in omega (arith, long)

parent-of-kid : (p : Path) (k : ℕ) → parent (p ++ k ∷ []) ≡ p
parent-of-kid p k = ap (λ i. take i (p ++ k ∷ [])) (short p k) ∙ take-front p (k ∷ [])

place-of-kid : (p : Path) (k : ℕ) → own_place (p ++ k ∷ []) ≡ k
place-of-kid p k = ap (λ i. get_or (p ++ k ∷ []) i 0) (short p k) ∙ get_or-append_seam p k [] 0

kid-no-root : (p : Path) (k : ℕ) → is_root (p ++ k ∷ []) ≡ false
kid-no-root [] k = refl
kid-no-root (x ∷ p) k = let t : (suc (length (p ++ k ∷ [])) == 0) ≡ false = grind (arith, nat_tests) in t

-- ---- finals

final-tag : (n : Node) (t : Tag) → option_map_or (is_kind kind.Final) (kind_at n t) false ≡ true → t ≡ tag.Final
final-tag n tag.Final h = refl
final-tag n tag.State h = by (has_states n) h where
  by : (v : Bool) → is_kind kind.Final (cond v kind.Compound kind.Atomic) ≡ true → tag.State ≡ tag.Final
  by true h = absurd (cc)
  by false h = absurd (cc)
final-tag n tag.History h = by (is_text_at attribute.Type (codes "deep") n) h where
  by : (v : Bool) → is_kind kind.Final (cond v kind.Deep kind.Shallow) ≡ true → tag.History ≡ tag.Final
  by true h = absurd (cc)
  by false h = absurd (cc)
final-tag n t h = absurd (cc)

tag-is : (t : Tag) → is_tag tag.DoneData t ≡ true → t ≡ tag.DoneData
tag-is tag.DoneData h = refl
tag-is t h = absurd (cc)

second : (u v w x y : Bool) → (u || v || w || x || y) ≡ false → v ≡ false
second true v w x y h = absurd (cc)
second false true w x y h = absurd (cc)
second false false w x y h = refl

-- no other donedata before it
abbrev pub IsOnly : List Node → Type 0
IsOnly ns = (k : ℕ) (kid : Node) → slice_get ns k ≡ Some kid → is_tag tag.DoneData (tag_of kid) ≡ true
    → list_any (λ n. is_tag tag.DoneData (tag_of n)) (take k ns) ≡ false

no-earlier : (c : Chart) (q : Path) → is_bad_kid c q tag.Final tag.DoneData ≡ false
    → has_earlier tag.DoneData c q ≡ false
no-earlier c q h =
    second (not (may_hold tag.Final tag.DoneData)) (has_earlier tag.DoneData c q)
    (is_tag tag.DoneData tag.Final && is_tag tag.Param tag.DoneData && has_kid tag.Content (element c (parent q)))
    (is_among (tag.Raise ∷ tag.Send ∷ []) tag.DoneData && is_in_finalize c (length q) q)
    (is_tag tag.If tag.Final && is_among (tag.ElseIf ∷ tag.Else ∷ []) tag.DoneData && has_earlier tag.Else c q) h

only-of : (c : Chart) (p : Path) (n : Node) → legal_fault c ≡ None → node_at c.root p ≡ Some n → element c p ≡ n
    → tag_of n ≡ tag.Final
    → IsOnly (kids n)
only-of c p n legal at is final k kid found done =
    let q = p ++ k ∷ [] in
    let at_kid = kid-at c.root n kid p k at found in
    let is_kid : element c q ≡ kid = ap (λ (o : Option Node). unwrap_or o c.root) at_kid in
    let fine : is_bad_child c q ≡ false = element-has (λ q. is_bad_child c q ≡ false) c.root kid [] q at_kid
    (legal-children c legal) in
    let inside : is_bad_kid c q (tag_of (element c (parent q))) (tag_of (element c q))
    ≡ false = rw (kid-no-root p k) at fine in
    let above : tag_of (element c (parent q)) ≡ tag.Final = ap (λ q. tag_of (element c q)) (parent-of-kid p k)
    ∙ ap tag_of is ∙ final in
    let own : tag_of (element c q) ≡ tag.DoneData = ap tag_of is_kid ∙ tag-is (tag_of kid) done in
    let none : has_earlier tag.DoneData c q ≡ false = no-earlier c q (rw own at (rw above at inside)) in
    sym (ap (λ i. list_any (λ m. is_tag tag.DoneData (tag_of m)) (take i (kids (element c (parent q)))))
    (place-of-kid p k)
    ∙ ap (λ r. list_any (λ m. is_tag tag.DoneData (tag_of m)) (take k (kids (element c r)))) (parent-of-kid p k)
    ∙ ap (λ (m : Node). list_any (λ m. is_tag tag.DoneData (tag_of m)) (take k (kids m))) is) ∙ none

pub final-only : (c : Chart) (s : ℕ) → legal_fault c ≡ None → s < state_count c → is_final c s ≡ true
    → IsOnly (kids (state_element c s))
final-only c s legal l final =
    let has = state-node c s legal l in
    let tagged : tag_of has.0 ≡ tag.Final = sym (ap tag_of has.1.1)
    ∙ final-tag (state_element c s) (tag_of (state_element c s)) final in
    subst (λ (n : Node). IsOnly (kids n)) (sym has.1.1) (only-of c (path_of c s) has.0 legal has.1.0 has.1.1 tagged)
