-- Which states are below another, or below the root.
use Rattle.std.proofs.Common.{◌≡◌, inl, inr, ℕ, ◌<◌, ◌≤◌, ◌==◌, ◌||◌, Bool, true, false, cond, suc, None, All, List, [], ◌∷◌, length, filter, get_or, reverse, refl, arith, ap, ap₂, sym, ◌∙◌}
use Rattle.std.proofs.lemmas.Bool.{cases_lt}
use Rattle.std.proofs.lemmas.Bool.Decides.{nat_tests}
use Rattle.std.proofs.lemmas.List.{get_or_past}
use Rattle.std.proofs.lemmas.List.Elements.{All-get_or}
use Rattle.std.specs.List.{list_any}
use Rattle.sc_base.specs.Ascending.{contains}
use Rattle.sc_types.specs.declared.chart.Chart.{Chart}
use Rattle.sc_law.specs.Legality.{legal_fault}
use Rattle.std.specs.Option.{option_map_or}
use Rattle.sc_types.specs.Elements.{is_numbered}
use Rattle.sc_types.specs.declared.chart.Node.{Node}
use Rattle.sc_types.specs.declared.chart.Tag.{Tag}
use Rattle.sc_types.specs.declared.chart.Tag.TheVariants as tag
use Rattle.sc_types.specs.declared.state_kind.StateKind.TheVariants as kind
use Rattle.sc_law.specs.Kinds.{is_compound, is_kind, kind_at}
use Rattle.sc_law.specs.Nodes.{Path, element, leads_on, tag_of}
use Rattle.sc_law.specs.Tree.{ancestors, is_below, path_of, root, state_count, state_element, state_paths}
use Rattle.sc_tables.specs.Rows.{below}
use Rattle.sc_tables.proofs.Leads.{leads-shorter}
use Rattle.sc_tables.proofs.LegalRoots.{root_not_numbered}
use Rattle.sc_tables.proofs.LookUps.{path-is}
use Rattle.sc_tables.proofs.Numbers.{AreBelow, numbers-below, numbers-none}
use Rattle.sc_tables.proofs.Within.{below_has, below_root_is}

not_true : (v : Bool) → (v ≡ true → ⊥) → v ≡ false
not_true true h = absurd (h refl)
not_true false h = refl

past_path : (c : Chart) (s : ℕ) → state_count c ≤ s → path_of c s ≡ []
past_path c s l = path-is c s ∙ get_or_past (state_paths c) s [] l

leads_none : (p : Path) → leads_on p [] ≡ false
leads_none p = not_true (leads_on p []) (λ h. (let l = leads-shorter p [] h in absurd (omega arith)))

-- a number past the states is above nothing and below nothing
pub past_below : (c : Chart) (s a : ℕ) → state_count c ≤ s → is_below c s a ≡ false
past_below c s a l = ap (leads_on (path_of c a)) (past_path c s l) ∙ leads_none (path_of c a)

pub past_ancestors : (c : Chart) (s : ℕ) → state_count c ≤ s → ancestors c s ≡ []
past_ancestors c s l =
    ap (λ (ns : List ℕ). reverse ns) (numbers-none (λ (p : Path). leads_on p (path_of c s)) 0 (state_paths c) (record {
      each = λ k u. ap (leads_on (get_or (state_paths c) k [])) (past_path c s l) ∙ leads_none (get_or (state_paths c) k []);
    }))

past_contains : (n s : ℕ) (ms : List ℕ) → AreBelow n ms → n ≤ s → contains ms s ≡ false
past_contains n s [] h l = refl
past_contains n s (m ∷ ms) h l =
    let less : m < n = h.0 in
    let other : (m == s) ≡ false = grind (arith, nat_tests) in
    ap (λ v. v || contains ms s) other ∙ past_contains n s ms h.1 l

-- the row of what is below a state says of each number whether it is below it
pub row_says : (c : Chart) (s a : ℕ) → contains (below c a) s ≡ is_below c s a
row_says c s a = elim (cases_lt s (state_count c)) [
  | inl l ↦ below_has c s a l
  | inr g ↦ past_contains (state_count c) s (below c a) (numbers-below _ 0 (state_count c) (state_paths c) (omega arith)) g ∙ sym (past_below c s a g)
]

-- tests that agree keep the same
pub filter_same : (f g : ℕ → Bool) → ((n : ℕ) → f n ≡ g n) → (ns : List ℕ) → filter f ns ≡ filter g ns
filter_same f g h [] = refl
filter_same f g h (n ∷ ns) = ap₂ (λ (v : Bool) (ms : List ℕ). cond v (n ∷ ms) ms) (h n) (filter_same f g h ns)

pub any_same : (f g : ℕ → Bool) → ((n : ℕ) → f n ≡ g n) → (ns : List ℕ) → list_any f ns ≡ list_any g ns
any_same f g h [] = refl
any_same f g h (n ∷ ns) = ap₂ (λ (v w : Bool). v || w) (h n) (any_same f g h ns)

pub filter_all : (f : ℕ → Bool) (ns : List ℕ) → ((k : ℕ) → k < length ns → f (get_or ns k 0) ≡ true) → filter f ns ≡ ns
filter_all f [] h = refl
filter_all f (n ∷ ns) h =
    ap₂ (λ (v : Bool) (ms : List ℕ). cond v (n ∷ ms) ms) (h 0 (omega arith)) (filter_all f ns (λ k l. h (suc k) (omega arith)))

-- all states are below the root
pub root_keeps : (c : Chart) (ns : List ℕ) → legal_fault c ≡ None → All (λ s. s < state_count c) ns → filter (λ s. is_below c s (root c)) ns ≡ ns
root_keeps c ns legal within =
    filter_all (λ s. is_below c s (root c)) ns (λ k l. below_root_is c (get_or ns k 0) legal (All-get_or (λ (s : ℕ). s < state_count c) ns k 0 l within))

no_kind : (n : Node) (t : Tag) → is_numbered t ≡ false → kind_at n t ≡ None
no_kind n tag.State h = absurd (cc)
no_kind n tag.Parallel h = absurd (cc)
no_kind n tag.Final h = absurd (cc)
no_kind n tag.History h = absurd (cc)
no_kind n t h = refl

-- a number past the states is that of no compound state
pub past_compound : (c : Chart) (s : ℕ) → legal_fault c ≡ None → state_count c ≤ s → is_compound c s ≡ false
past_compound c s legal l =
    let root_element : state_element c s ≡ c.root = ap (element c) (past_path c s l) in
    ap (λ (n : Node). option_map_or (is_kind kind.Compound) (kind_at n (tag_of n)) false) root_element
    ∙ ap (λ o. option_map_or (is_kind kind.Compound) o false) (no_kind c.root (tag_of c.root) (root_not_numbered c legal))
