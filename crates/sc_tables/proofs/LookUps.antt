-- What the tables hold, in the words of the chart's definitions.
use Rattle.std.proofs.Common.{◌≡◌, ℕ, ◌<◌, true, false, not, Option, None, List, [], ◌∷◌, length, filter, get_or, reverse, unwrap_or, arith, ap, sym, ◌∙◌}
use Rattle.std.proofs.lemmas.List.Elements.{All-get_or, filter_passes}
use Rattle.std.proofs.lemmas.Option.{unwrap_or-slice_get}
use Rattle.sc_types.specs.Elements.{is_numbered}
use Rattle.sc_types.specs.declared.chart.Chart.{Chart}
use Rattle.sc_types.specs.declared.state_kind.StateKind.{StateKind}
use Rattle.sc_law.specs.Nodes.{Path, element, elements, is_same, leads_on, parent, tag_of}
use Rattle.sc_law.specs.Tree.{numbers_where, path_of, root, state_count, state_paths}
use Rattle.sc_law.specs.Configurations.{children, first_or, parent_of}
use Rattle.sc_law.specs.Transitions.{path_of_transition, source, transition_paths, transitions_of}
use Rattle.sc_tables.specs.Blocks.{AreBelowRoot, is_child_path, is_history_in}
use Rattle.sc_tables.specs.Built.{AreSources, AreStates, AreTransitions, HasKinds, HasOwn, below_of, children_of}
use Rattle.sc_tables.specs.Rows.{below, row_of}
use Rattle.sc_tables.specs.Nearest.{path_at}
use Rattle.sc_tables.specs.declared.states.States.{States}
use Rattle.sc_tables.specs.declared.transitions.Transitions.{Transitions}
use Rattle.sc_tables.proofs.Above.{above_numbers, nearest-first}
use Rattle.sc_tables.proofs.KindLists.{kept-same}
use Rattle.sc_tables.proofs.Numbers.{numbers-below}
use Rattle.sc_tables.proofs.Sources.{places-are, position-only, source-at}

pub path-is : (c : Chart) (s : ℕ) → path_of c s ≡ path_at (state_paths c) s
path-is c s = unwrap_or-slice_get (state_paths c) s []

-- each state is numbered
pub numbered-at : (c : Chart) (i : ℕ) → i < state_count c → is_numbered (tag_of (element c (path_at (state_paths c) i))) ≡ true
numbered-at c i l =
    All-get_or (λ (p : Path). is_numbered (tag_of (element c p)) ≡ true) (state_paths c) i [] l
    (filter_passes (λ (p : Path). is_numbered (tag_of (element c p))) (elements c))

-- the parent
pub parent-is : (c : Chart) (t : States) (s : ℕ) → AreStates c t → s < state_count c → unwrap_or (get_or t.parents s None) (root c) ≡ parent_of c s
parent-is c t s are l =
    let long : length t.paths ≡ state_count c = ap length are.paths in
    let first = nearest-first t.paths s (root c) (get_or t.parents s None) are.order (omega arith)
    (are.parents.each s (omega (arith, are.all_parents))) in
    sym first ∙ ap (λ ps. first_or (root c) (reverse (above_numbers ps (path_at ps s)))) are.paths
    ∙ ap (λ p. first_or (root c) (reverse (above_numbers (state_paths c) p))) (sym (path-is c s))

-- the source
pub source-is : (c : Chart) (t : Transitions) (tr : ℕ) → AreTransitions c t → tr < length (transition_paths c)
    → source c tr ≡ unwrap_or (get_or t.sources tr None) (root c)
source-is c t tr are l =
    let is = source-at (state_paths c) (transition_paths c) t.sources tr are.sources l in
    ap (λ o. unwrap_or o (root c)) (position-only (is_same (parent (path_of_transition c tr))) (state_paths c) (get_or t.sources tr None) is.within is.same)

-- the transitions of a state
pub own-is : (c : Chart) (sources : List (Option ℕ)) (lists : List (List ℕ)) → AreSources (state_paths c) (transition_paths c) sources
    → HasOwn sources (state_count c) lists → (s : ℕ) → s < state_count c → get_or lists s [] ≡ transitions_of c s
own-is c sources lists are own s l =
    own.each s l ∙ places-are (state_paths c) (transition_paths c) sources s 0 are l
    ∙ ap (λ (p : Path). numbers_where (λ t. is_same (parent t) p) 0 (transition_paths c)) (sym (path-is c s))

-- the rows
pub below-is : (c : Chart) (paths : List Path) (s : ℕ) → paths ≡ state_paths c → below_of paths s ≡ row_of c (below c s)
below-is c paths s e =
    ap (λ ps. below_of ps s) e ∙ ap (λ (p : Path). record { width = state_count c; members = numbers_where (leads_on p) 0 (state_paths c) }) (sym (path-is c s))

pub children-is : (c : Chart) (kinds : List StateKind) (paths : List Path) (s : ℕ) → paths ≡ state_paths c → HasKinds c kinds
    → children_of kinds paths s ≡ row_of c (children c s)
children-is c kinds paths s e has =
    ap (λ ps. children_of kinds ps s) e
    ∙ ap (λ (p : Path). record { width = state_count c; members = filter (λ kid. not (is_history_in kinds kid)) (numbers_where (is_child_path p) 0 (state_paths c)) }) (sym (path-is c s))
    ∙ ap (λ (ms : List ℕ). record { width = state_count c; members = ms })
    (kept-same c kinds _ has (numbers-below (is_child_path (path_of c s)) 0 (state_count c) (state_paths c) (omega arith)))

-- no state is the root's element, where that is none
pub below_root : (c : Chart) → is_numbered (tag_of c.root) ≡ false → AreBelowRoot (state_paths c)
below_root c none k l = by (path_at (state_paths c) k) (numbered-at c k l) where
  by : (p : Path) → is_numbered (tag_of (element c p)) ≡ true → 0 < length p
  by [] h = absurd (cc)
  by (x ∷ p) h = omega arith
