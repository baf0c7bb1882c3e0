-- A tree that is printed is read again: without a fault, and as the same tree.
use Rattle.std.proofs.Common.{◌≡◌, ℕ, zero, suc, ◌+◌, false, if◌then◌else◌, Option, Some, None, unwrap_or, option_and_then, List, [], ◌∷◌, ◌++◌, map, refl, sym, ap, ◌∙◌, subst, arith}
use Rattle.std.specs.Option.{option_map_or}
use Rattle.serde_json.specs.Data.{Data, Items, no_items, item}
use Rattle.serde_json.specs.View.{items_of}
use Rattle.sc_types.specs.ChartTexts.{Reading, tag_at, kids_at, Place, kid_places, places, own_fault, states_at, or_else, first_fault, node, members_at, kid_trees, tagged_tree, tree, profile_at}
use Rattle.sc_types.specs.Elements.{is_numbered}
use Rattle.sc_types.specs.Profiles.{profile_named}
use Rattle.sc_types.specs.PrintedCharts.{data_step, data_of}
use Rattle.sc_types.specs.declared.chart.ChartFault.{ChartFault}
use Rattle.sc_types.specs.declared.chart.Member.{Member}
use Rattle.sc_types.specs.declared.chart.Node.{Node}
use Rattle.sc_types.specs.declared.chart.Node.TheFolds.{fold-roll-Node}
use Rattle.sc_types.specs.declared.chart.Tag.{Tag}
use Rattle.sc_types.specs.declared.chart.Tag.TheVariants.{Scxml}
use Rattle.sc_types.specs.declared.profile.Profile.TheVariants.{Flat}
use Rattle.sc_chart_json.proofs.Printed.Elements.{printed, profile_again, known_without_fault, kids_again, tag_printed, some_tag, tagged_again, tag_without_fault, no_own_fault}
use Rattle.sc_chart_json.proofs.Printed.Forms.{ReadsPrinted}

-- ---- faults in order

states : List Place → ℕ
states [] = 0
states (p ∷ ps) = states_at p + states ps

states-append : (ps qs : List Place) → states (ps ++ qs) ≡ states ps + states qs
unfolding states
states-append [] qs = omega arith
states-append (p ∷ ps) qs =
    let later = states-append ps qs in
    omega arith

or_else_assoc : (a b c : Option ChartFault) → or_else a (or_else b c) ≡ or_else (or_else a b) c
or_else_assoc None b c = refl
or_else_assoc (Some f) b c = refl

or_else_parts : (a b : Option ChartFault) → or_else a b ≡ None → (a ≡ None) × (b ≡ None)
or_else_parts None b none = (refl, none)
or_else_parts (Some f) b none = absurd (cc)

or_else_none : (a b : Option ChartFault) → a ≡ None → b ≡ None → or_else a b ≡ None
or_else_none a b none also = ap (λ o. or_else o b) none ∙ also

first_fault-append : (code_of : Reading) (before : ℕ) (ps qs : List Place)
    → first_fault code_of before (ps ++ qs) ≡ or_else (first_fault code_of before ps) (first_fault code_of (before + states ps) qs)
unfolding states
first_fault-append code_of before [] qs = let same : before ≡ before + 0 = omega arith in ap (λ n. first_fault code_of n qs) same
first_fault-append code_of before (p ∷ ps) qs =
    let same : before + states_at p + states ps ≡ before + (states_at p + states ps) = omega arith in
    ap (or_else (own_fault code_of before p))
    (first_fault-append code_of (before + states_at p) ps qs
    ∙ ap (λ n. or_else (first_fault code_of (before + states_at p) ps) (first_fault code_of n qs)) same)
    ∙ or_else_assoc (own_fault code_of before p) (first_fault code_of (before + states_at p) ps) (first_fault code_of (before + (states_at p + states ps)) qs)

-- ---- what is printed of a tree

-- an element as JSON, from its child elements as JSON
pub node_data : (tag : Tag) (members : List (List ℕ × Member)) (kids : List Node)
    → data_of (node tag members kids) ≡ data_step record { tag = tag; members = members; kids = map data_of kids }
unfolding data_of
node_data tag members kids = fold-roll-Node Data data_step record { tag = tag; members = members; kids = kids }

-- the items, each changed in the same way
abbrev pub mapped : (Data → Data) → Items → Items
mapped f no_items = no_items
mapped f (item d ds) = item (f d) (mapped f ds)

kids_data : (below : Data → Node) (ds : Items) → items_of (map data_of (kid_trees below ds)) ≡ mapped (λ d. data_of (below d)) ds
kids_data below no_items = refl
kids_data below (item d ds) = ap (item (data_of (below d))) (kids_data below ds)

-- a value that was read as a tree, and is printed again
abbrev pub reprint : Reading → ℕ → Data → Data
reprint code_of levels d = data_of (tree code_of levels d)

-- what is printed of a tree is its root with what is printed of the trees below it
pub tree_data : (code_of : Reading) (levels : ℕ) (d : Data) (tag : Tag) → unwrap_or (tag_at d) Scxml ≡ tag
    → reprint code_of (suc levels) d ≡ printed code_of tag d (mapped (reprint code_of levels) (kids_at d))
tree_data code_of levels d tag is =
    ap (λ t. data_of (tagged_tree code_of (tree code_of levels) d t)) is
    ∙ node_data tag (members_at code_of tag d) (kid_trees (tree code_of levels) (kids_at d))
    ∙ ap (printed code_of tag d) (kids_data (tree code_of levels) (kids_at d))

-- ---- level by level

-- that another value has no fault, as many states and the same tree
record IsAgain (code_of : Reading) (levels before : ℕ) (path : List ℕ) (d e : Data) : Type 0 where
  none : first_fault code_of before (places levels path e) ≡ None
  count : states (places levels path e) ≡ states (places levels path d)
  same : tree code_of levels e ≡ tree code_of levels d

record AreAgain (code_of : Reading) (levels before : ℕ) (path : List ℕ) (k : ℕ) (ds es : Items) : Type 0 where
  none : first_fault code_of before (kid_places (places levels) path k es) ≡ None
  count : states (kid_places (places levels) path k es) ≡ states (kid_places (places levels) path k ds)
  same : kid_trees (tree code_of levels) es ≡ kid_trees (tree code_of levels) ds

abbrev GoesAgain : Reading → ℕ → Type 0
GoesAgain code_of levels = (before : ℕ) (path : List ℕ) (d : Data) → first_fault code_of before (places levels path d) ≡ None
    → IsAgain code_of levels before path d (reprint code_of levels d)

items_again : (code_of : Reading) (levels : ℕ) → GoesAgain code_of levels → (before : ℕ) (path : List ℕ) (k : ℕ) (ds : Items)
    → first_fault code_of before (kid_places (places levels) path k ds) ≡ None
    → AreAgain code_of levels before path k ds (mapped (reprint code_of levels) ds)
items_again code_of levels goes before path k no_items none = record { none = refl; count = refl; same = refl }
items_again code_of levels goes before path k (item d ds) none =
    let first = places levels (path ++ k ∷ []) d in
    let others = kid_places (places levels) path (suc k) ds in
    let first' = places levels (path ++ k ∷ []) (reprint code_of levels d) in
    let others' = kid_places (places levels) path (suc k) (mapped (reprint code_of levels) ds) in
    let both = or_else_parts _ _ (sym (first_fault-append code_of before first others) ∙ none) in
    let here = goes before (path ++ k ∷ []) d both.0 in
    let later = items_again code_of levels goes (before + states first) path (suc k) ds both.1 in
    record {
      none = first_fault-append code_of before first' others'
          ∙ or_else_none (first_fault code_of before first') (first_fault code_of (before + states first') others') here.none
          (ap (λ n. first_fault code_of (before + n) others') here.count ∙ later.none);
      count = states-append first' others' ∙ ap (λ n. n + states others') here.count
          ∙ ap (λ n. states first + n) later.count ∙ sym (states-append first others);
      same = ap (λ t. t ∷ kid_trees (tree code_of levels) (mapped (reprint code_of levels) ds)) here.same
          ∙ ap (λ ts. tree code_of levels d ∷ ts) later.same;
    }

abbrev state_of : Option Tag → ℕ
state_of o = if option_map_or is_numbered o false then 1 else 0

element_again : (code_of : Reading) → ReadsPrinted code_of → (levels : ℕ) → GoesAgain code_of levels → (before : ℕ) (path : List ℕ) (d : Data)
    → (own : own_fault code_of before record { path = path; value = d } ≡ None)
    → first_fault code_of (before + state_of (tag_at d)) (kid_places (places levels) path 0 (kids_at d)) ≡ None
    → IsAgain code_of (suc levels) before path d (printed code_of (tag_without_fault code_of before path d own).tag d (mapped (reprint code_of levels) (kids_at d)))
unfolding states
element_again code_of again levels goes before path d own none =
    let is = tag_without_fault code_of before path d own in
    let kids = mapped (reprint code_of levels) (kids_at d) in
    let e = printed code_of is.tag d kids in
    let good = tagged_again code_of again before path is.tag d kids is.none in
    let there : tag_at e ≡ Some is.tag = tag_printed code_of is.tag d kids in
    let alike : tag_at e ≡ tag_at d = there ∙ sym is.there in
    let kids_there : kids_at e ≡ kids = kids_again code_of is.tag d kids in
    let below = items_again code_of levels goes (before + state_of (tag_at d)) path 0 (kids_at d) none in
    record {
      none = or_else_none _ _
          (no_own_fault code_of before path is.tag e (some_tag code_of is.tag d kids) is.shallow there good.none)
          (ap (λ o. first_fault code_of (before + state_of o) (kid_places (places levels) path 0 (kids_at e))) alike
          ∙ ap (λ ks. first_fault code_of (before + state_of (tag_at d)) (kid_places (places levels) path 0 ks)) kids_there ∙ below.none);
      count = ap (λ o. state_of o + states (kid_places (places levels) path 0 (kids_at e))) alike
          ∙ ap (λ ks. state_of (tag_at d) + states (kid_places (places levels) path 0 ks)) kids_there
          ∙ ap (λ n. state_of (tag_at d) + n) below.count;
      same = ap (λ o. tagged_tree code_of (tree code_of levels) e (unwrap_or o Scxml)) there
          ∙ ap (λ ms. node is.tag ms (kid_trees (tree code_of levels) (kids_at e))) good.members
          ∙ ap (λ ks. node is.tag (members_at code_of is.tag d) (kid_trees (tree code_of levels) ks)) kids_there
          ∙ ap (node is.tag (members_at code_of is.tag d)) below.same
          ∙ sym (ap (λ o. tagged_tree code_of (tree code_of levels) d (unwrap_or o Scxml)) is.there);
    }

level_again : (code_of : Reading) → ReadsPrinted code_of → (levels : ℕ) → GoesAgain code_of levels → GoesAgain code_of (suc levels)
level_again code_of again levels goes before path d none =
    let both = or_else_parts (own_fault code_of before record { path = path; value = d }) _ none in
    let is = tag_without_fault code_of before path d both.0 in
    subst (IsAgain code_of (suc levels) before path d) (sym (tree_data code_of levels d is.tag (ap (λ o. unwrap_or o Scxml) is.there)))
    (element_again code_of again levels goes before path d both.0 both.1)

goes_again : (code_of : Reading) → ReadsPrinted code_of → (levels : ℕ) → GoesAgain code_of levels
goes_again code_of again zero before path d none = record { none = refl; count = refl; same = refl }
goes_again code_of again (suc levels) before path d none = level_again code_of again levels (goes_again code_of again levels) before path d none

-- ---- the whole tree

-- a value without a fault is printed without one
pub no_fault_again : (code_of : Reading) → ReadsPrinted code_of → (levels : ℕ) (d : Data) → first_fault code_of 0 (places levels [] d) ≡ None
    → first_fault code_of 0 (places levels [] (reprint code_of levels d)) ≡ None
no_fault_again code_of again levels d none = (goes_again code_of again levels 0 [] d none).none

-- what is printed of a value without a fault is read as the same tree
pub tree_again : (code_of : Reading) → ReadsPrinted code_of → (levels : ℕ) (d : Data) → first_fault code_of 0 (places levels [] d) ≡ None
    → tree code_of levels (reprint code_of levels d) ≡ tree code_of levels d
tree_again code_of again levels d none = (goes_again code_of again levels 0 [] d none).same

-- what is printed of a value without a fault asks for the same profile
pub profile_printed : (code_of : Reading) (levels : ℕ) (d : Data) → first_fault code_of 0 (places (suc levels) [] d) ≡ None
    → profile_at (reprint code_of (suc levels) d) ≡ profile_at d
profile_printed code_of levels d none =
    let both = or_else_parts (own_fault code_of 0 record { path = []; value = d }) _ none in
    let is = tag_without_fault code_of 0 [] d both.0 in
    let known = known_without_fault code_of 0 [] is.tag d is.none in
    ap profile_at (tree_data code_of levels d is.tag (ap (λ o. unwrap_or o Scxml) is.there))
    ∙ ap (λ text. unwrap_or (option_and_then profile_named text) Flat)
    (profile_again code_of is.tag d (mapped (reprint code_of levels) (kids_at d)) known)
