-- The child elements of a state of a legal chart.
use Rattle.std.proofs.Common.{◌≡◌, ℕ, ◌<◌, ◌≤◌, true, Option, Some, None, [], unwrap_or, refl, arith, ap, sym, subst, ◌∙◌}
use Rattle.std.proofs.lemmas.Option.{slice_get_past}
use Rattle.std.specs.Option.{option_map_or}
use Rattle.sc_types.specs.Elements.{is_numbered}
use Rattle.sc_types.specs.declared.chart.Chart.{Chart}
use Rattle.sc_types.specs.declared.chart.Node.{Node}
use Rattle.sc_law.specs.Legality.{legal_fault}
use Rattle.sc_law.specs.Nodes.{Path, element, kids, node_at, tag_of}
use Rattle.sc_law.specs.Tree.{kids_of, node_of, path_of, state_count, state_paths, state_element}
use Rattle.sc_tables.proofs.LegalRoots.{root_not_numbered}
use Rattle.sc_tables.proofs.LookUps.{numbered-at, path-is}

-- a state has an element, which isn't the root
pub node-is : (c : Chart) (s : ℕ) → legal_fault c ≡ None → s < state_count c → node_of c s ≡ Some (state_element c s)
node-is c s legal l = by (node_at c.root (path_of c s)) numbered where
  numbered : is_numbered (tag_of (element c (path_of c s))) ≡ true
  numbered = subst (λ (p : Path). is_numbered (tag_of (element c p)) ≡ true) (sym (path-is c s)) (numbered-at c s l)

  by : (o : Option Node) → is_numbered (tag_of (unwrap_or o c.root)) ≡ true → o ≡ Some (unwrap_or o c.root)
  by (Some n) h = refl
  by None h = let none = root_not_numbered c legal in absurd (cc)

pub kids-are : (c : Chart) (s : ℕ) → legal_fault c ≡ None → s < state_count c → kids_of c s ≡ kids (state_element c s)
kids-are c s legal l = ap (λ (o : Option Node). option_map_or kids o []) (node-is c s legal l)

path-past : (c : Chart) (s : ℕ) → state_count c ≤ s → path_of c s ≡ []
path-past c s l = ap (λ (o : Option Path). unwrap_or o []) (slice_get_past (state_paths c) s l)

-- a number past the states names the root
pub node-past : (c : Chart) (s n : ℕ) → state_count c ≤ s → n ≡ state_count c → node_of c s ≡ Some (state_element c n)
node-past c s n l e =
    ap (node_at c.root) (path-past c s l)
    ∙ sym (ap (λ (p : Path). Some (element c p)) (path-past c n (omega arith)))
