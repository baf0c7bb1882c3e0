-- The root of a legal chart.
use Rattle.std.proofs.Common.{◌≡◌, ℕ, Bool, true, false, not, cond, Option, Some, None, option_map, List, [], ◌∷◌, find, refl, rules, ap, sym, ◌∙◌}
use Rattle.std.specs.Option.{option_map_or}
use Rattle.sc_types.specs.ChartTexts.{fault}
use Rattle.sc_types.specs.Elements.{is_numbered}
use Rattle.sc_types.specs.declared.chart.Chart.{Chart}
use Rattle.sc_types.specs.declared.chart.ChartFault.{ChartFault}
use Rattle.sc_types.specs.declared.chart.Node.{Node, Node'}
use Rattle.sc_types.specs.declared.chart.Tag.{Tag}
use Rattle.sc_types.specs.declared.chart.Tag.TheVariants as tag
use Rattle.sc_law.specs.Nodes.{Path, elements_from, is_tag, tag_of}
use Rattle.sc_law.specs.Legality.{fault_at, first_fault, is_bad_child, legal_fault, number_at, tests}

-- each fails the test
abbrev pub FailEach : {X : Type 0} → (X → Bool) → List X → Type 0
FailEach p [] = Unit {0}
FailEach p (x ∷ xs) = (p x ≡ false) × FailEach p xs

module _ {X : Type 0} (p : X → Bool) where
  none_found : (xs : List X) → find p xs ≡ None → FailEach p xs
  none_found [] h = tt
  none_found (x ∷ xs) h = by (p x) refl h (none_found xs) where
    by : (v : Bool) → p x ≡ v → cond v (Some x) (find p xs) ≡ None → (find p xs ≡ None → FailEach p xs) → (p x ≡ false) × FailEach p xs
    by true e h so = absurd (cc)
    by false e h so = (e, so h)

no_first : (o later : Option ChartFault) → option_map_or Some o later ≡ None → o ≡ None
no_first None later h = refl
no_first (Some f) later h = absurd (cc)

no_number : (o : Option ℕ) (path : Path) → option_map (λ n. fault n path []) o ≡ None → o ≡ None
no_number None path h = refl
no_number (Some n) path h = absurd (cc)

no_test : (o : Option (ℕ × (Chart → Path → Bool))) → option_map (λ (t : ℕ × (Chart → Path → Bool)). t.0) o ≡ None → o ≡ None
no_test None h = refl
no_test (Some t) h = absurd (cc)

elements_begin : (n : Node) (path : Path) → (rest : List Path) × (elements_from n path ≡ path ∷ rest)
unfolding elements_from
elements_begin (Node' t members shape row) path = (_, refl)

not_true : (v : Bool) → not v ≡ false → v ≡ true
not_true true h = refl
not_true false h = absurd (cc)

root_tag : (t : Tag) → is_tag tag.Scxml t ≡ true → is_numbered t ≡ false
root_tag tag.Scxml h = refl
root_tag t h = search rules

-- it is no state
pub root_not_numbered : (c : Chart) → legal_fault c ≡ None → is_numbered (tag_of c.root) ≡ false
unfolding legal_fault
root_not_numbered c legal =
    let parts = elements_begin c.root [] in
    let first : option_map_or Some (fault_at c []) (first_fault c parts.0) ≡ None = ap (first_fault c) (sym parts.1) ∙ legal in
    let number = no_number (number_at c []) [] (no_first (fault_at c []) (first_fault c parts.0) first) in
    let each = none_found (λ (t : ℕ × (Chart → Path → Bool)). t.1 c []) tests (no_test _ number) in
    let child : is_bad_child c [] ≡ false = each.1.1.1.1.1.1.0 in
    root_tag (tag_of c.root) (not_true (is_tag tag.Scxml (tag_of c.root)) child)
