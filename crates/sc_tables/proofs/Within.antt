-- Which numbers are those of states.
use Rattle.std.proofs.Common.{◌≡◌, ℕ, ◌+◌, ◌<◌, ◌==◌, ◌||◌, zero, suc, Bool, true, false, not, cond, Option, Some, None, All, List, [], ◌∷◌, length, get_or, take, unwrap_or, reverse, refl, arith, ap, sym, ◌∙◌}
use Rattle.std.proofs.lemmas.Bool.Decides.{nat_tests}
use Rattle.std.proofs.lemmas.List.{get_or_past, reverse-append}
use Rattle.std.proofs.lemmas.List.Elements.{All-cons, All-nil}
use Rattle.std.proofs.lemmas.List.Quantifiers.{position-Some}
use Rattle.std.specs.List.{cons_option}
use Rattle.std.specs.Option.{option_map_or}
use Rattle.sc_base.specs.Ascending.{contains}
use Rattle.sc_types.specs.declared.chart.Chart.{Chart}
use Rattle.sc_types.specs.declared.chart.Node.{Node}
use Rattle.sc_types.specs.declared.chart.Tag.{Tag}
use Rattle.sc_types.specs.declared.chart.Tag.TheVariants as tag
use Rattle.sc_types.specs.declared.attribute.Attribute.TheVariants as attribute
use Rattle.sc_types.specs.Attributes.{has, is_text_at, words_at}
use Rattle.sc_law.specs.Nodes.{Path, element, kids, leads_on, tag_of}
use Rattle.sc_law.specs.Tree.{ancestors, has_states, is_below, numbers_where, path_of, root, state_count, state_element, state_named, state_paths}
use Rattle.sc_law.specs.Configurations.{children, defaults, defaults_at, has_initial, initial_ids, named, state_defaults}
use Rattle.sc_law.specs.Legality.{default_ids, legal_fault}
use Rattle.sc_law.specs.Kinds.{is_history}
use Rattle.sc_tables.specs.Built.{AreStates}
use Rattle.sc_tables.specs.Nearest.{IsNearest, path_at}
use Rattle.sc_tables.specs.Preorder.{IsPreorder}
use Rattle.sc_tables.specs.Rows.{below}
use Rattle.sc_tables.specs.declared.states.States.{States}
use Rattle.sc_tables.proofs.Above.{above_numbers, none-above, parent-above}
use Rattle.sc_tables.proofs.Leads.{leads-from}
use Rattle.sc_tables.proofs.LegalRoots.{root_not_numbered}
use Rattle.sc_tables.proofs.LookUps.{below_root, path-is}
use Rattle.sc_tables.proofs.Numbers.{AreBelow, filter-below, numbers-below}

-- the same as a fact of each
pub all_below : (n : ℕ) (ms : List ℕ) → AreBelow n ms → All (λ m. m < n) ms
all_below n [] h = All-nil (λ (m : ℕ). m < n)
all_below n (m ∷ ms) h = All-cons (λ (k : ℕ). k < n) m ms h.0 (all_below n ms h.1)

named_below : (c : Chart) (ids : List (List ℕ)) → AreBelow (state_count c) (named c ids)
named_below c [] = tt
named_below c (id ∷ ids) = by (state_named c id) refl (named_below c ids) where
  by : (o : Option ℕ) → state_named c id ≡ o → AreBelow (state_count c) (named c ids)
      → AreBelow (state_count c) (cons_option o (named c ids))
  by None e h = h
  by (Some s) e h = ((position-Some (λ (path : Path). is_text_at attribute.Id id (element c path)) (state_paths c) s [] e).0, h)

children_below : (c : Chart) (s : ℕ) → AreBelow (state_count c) (children c s)
children_below c s = filter-below (λ kid. not (is_history c kid)) (state_count c) _ (numbers-below _ 0 (state_count c) (state_paths c) (omega arith))

first_below : (n : ℕ) (ms : List ℕ) → AreBelow n ms → AreBelow n (take 1 ms)
first_below n [] h = tt
first_below n (m ∷ ms) h = (h.0, tt)

state_defaults_below : (c : Chart) (s : ℕ) (n : Node) → AreBelow (state_count c) (state_defaults c s n)
state_defaults_below c s n = by (has attribute.Initial n) (has_initial n) where
  by : (v w : Bool) → AreBelow (state_count c) (cond v (named c (words_at attribute.Initial n)) (cond w (named c (initial_ids (kids n))) (take 1 (children c s))))
  by true w = named_below c (words_at attribute.Initial n)
  by false true = named_below c (initial_ids (kids n))
  by false false = first_below (state_count c) (children c s) (children_below c s)

defaults_at_below : (c : Chart) (s : ℕ) (n : Node) (t : Tag) → AreBelow (state_count c) (defaults_at c s n t)
defaults_at_below c s n tag.History = named_below c (unwrap_or (default_ids n) [])
defaults_at_below c s n tag.Scxml = state_defaults_below c s n
defaults_at_below c s n tag.State = by (has_states n) where
  by : (v : Bool) → AreBelow (state_count c) (cond v (state_defaults c s n) [])
  by true = state_defaults_below c s n
  by false = tt
defaults_at_below c s n t = tt

pub named_within : (c : Chart) (ids : List (List ℕ)) → All (λ s. s < state_count c) (named c ids)
named_within c ids = all_below (state_count c) (named c ids) (named_below c ids)

pub defaults_within : (c : Chart) (s : ℕ) → All (λ t. t < state_count c) (defaults c s)
defaults_within c s = all_below (state_count c) (defaults c s) (defaults_at_below c s (state_element c s) (tag_of (state_element c s)))

-- the ancestors of a state are its parent and those of the parent
pub ancestors_are : (c : Chart) (t : States) (s : ℕ) → AreStates c t → s < state_count c
    → ancestors c s ≡ option_map_or (λ p. p ∷ ancestors c p) (get_or t.parents s None) []
ancestors_are c t s are l =
    ap (λ p. reverse (above_numbers (state_paths c) p)) (path-is c s)
    ∙ by (get_or t.parents s None) (rw are.paths at (are.parents.each s (omega (arith, are.all_parents, long))))
  where
    long : length t.paths ≡ state_count c
    long = ap length are.paths

    order : IsPreorder (state_paths c)
    order = rw are.paths at are.order

    by : (o : Option ℕ) → IsNearest (state_paths c) s (path_at (state_paths c) s) o
        → reverse (above_numbers (state_paths c) (path_at (state_paths c) s)) ≡ option_map_or (λ p. p ∷ ancestors c p) o []
    by None h = ap (λ (ns : List ℕ). reverse ns) (none-above (state_paths c) s order l h)
    by (Some p) h =
        ap (λ (ns : List ℕ). reverse ns) (parent-above (state_paths c) s p order l h)
        ∙ reverse-append (above_numbers (state_paths c) (path_at (state_paths c) p)) (p ∷ [])
        ∙ ap (λ q. p ∷ reverse (above_numbers (state_paths c) q)) (sym (path-is c p))

-- ---- below

contains-before : (test : Path → Bool) (s n : ℕ) (ps : List Path) → n < s → contains (numbers_where test s ps) n ≡ false
contains-before test s n [] l = refl
contains-before test s n (p ∷ ps) l = by (test p) (contains-before test (s + 1) n ps (omega arith)) where
  by : (v : Bool) → contains (numbers_where test (s + 1) ps) n ≡ false → contains (cond v (s ∷ numbers_where test (s + 1) ps) (numbers_where test (s + 1) ps)) n ≡ false
  by true h = let e : (s == n) ≡ false = grind (arith, nat_tests) in rw (e, h) refl
  by false h = h

-- a number is among those that pass exactly where its path passes
contains-numbers : (test : Path → Bool) (s k : ℕ) (ps : List Path) → k < length ps → contains (numbers_where test s ps) (s + k) ≡ test (get_or ps k [])
contains-numbers test s k [] l = absurd (omega arith)
contains-numbers test s zero (p ∷ ps) l =
    by (test p) (ap (contains (numbers_where test (s + 1) ps)) (omega arith) ∙ contains-before test (s + 1) s ps (omega arith)) where
      same : (s == s + 0) ≡ true
      same = grind (arith, nat_tests)

      by : (v : Bool) → contains (numbers_where test (s + 1) ps) (s + 0) ≡ false
          → contains (cond v (s ∷ numbers_where test (s + 1) ps) (numbers_where test (s + 1) ps)) (s + 0) ≡ v
      by true h = ap (λ v. v || contains (numbers_where test (s + 1) ps) (s + 0)) same
      by false h = h
contains-numbers test s (suc k) (p ∷ ps) l =
    by (test p) (ap (contains (numbers_where test (s + 1) ps)) (omega arith) ∙ contains-numbers test (s + 1) k ps (omega arith)) where
      other : (s == s + suc k) ≡ false
      other = grind (arith, nat_tests)

      by : (v : Bool) → contains (numbers_where test (s + 1) ps) (s + suc k) ≡ test (get_or ps k [])
          → contains (cond v (s ∷ numbers_where test (s + 1) ps) (numbers_where test (s + 1) ps)) (s + suc k) ≡ test (get_or ps k [])
      by true h = ap (λ v. v || contains (numbers_where test (s + 1) ps) (s + suc k)) other ∙ h
      by false h = h

-- a state is in the row of what is below another exactly where it is below it
pub below_has : (c : Chart) (s a : ℕ) → s < state_count c → contains (below c a) s ≡ is_below c s a
below_has c s a l =
    ap (contains (below c a)) (omega arith) ∙ contains-numbers (leads_on (path_of c a)) 0 s (state_paths c) l
    ∙ ap (leads_on (path_of c a)) (sym (path-is c s))

-- each state is below the root of a legal chart
pub below_root_is : (c : Chart) (s : ℕ) → legal_fault c ≡ None → s < state_count c → is_below c s (root c) ≡ true
below_root_is c s legal l =
    ap (λ p. leads_on p (path_of c s)) (path-is c (root c) ∙ get_or_past (state_paths c) (root c) [] (omega arith))
    ∙ ap (leads_on []) (path-is c s)
    ∙ leads-from [] (path_at (state_paths c) s) refl (below_root c (root_not_numbered c legal) s l)
