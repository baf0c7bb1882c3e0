-- The root and numbers past it are of no kind; the child elements of a state.
use Rattle.std.proofs.Common.{◌≡◌, ℕ, ◌≤◌, ◌<◌, ◌&&◌, cond, false, Option, None, [], refl, ap, sym, ◌∙◌}
use Rattle.std.specs.Option.{option_map_or}
use Rattle.sc_types.specs.Elements.{is_numbered}
use Rattle.sc_types.specs.declared.chart.Chart.{Chart}
use Rattle.sc_types.specs.declared.chart.Node.{Node}
use Rattle.sc_types.specs.declared.chart.Tag.{Tag}
use Rattle.sc_types.specs.declared.chart.Tag.TheVariants as tag
use Rattle.sc_types.specs.declared.state_kind.StateKind.{StateKind}
use Rattle.sc_types.specs.declared.state_kind.StateKind.TheVariants as kind
use Rattle.sc_types.specs.declared.event.Data.TheVariants.{Absent}
use Rattle.sc_law.specs.Entering.{done_event, is_in_final, tell_parallel}
use Rattle.sc_law.specs.Kinds.{is_kind, is_parallel, kind_at, kind_of}
use Rattle.sc_law.specs.Legality.{legal_fault}
use Rattle.sc_law.specs.Nodes.{element, kids, tag_of}
use Rattle.sc_law.specs.Runs.{Running, enqueue}
use Rattle.sc_law.specs.Tree.{kids_of, state_count, state_element}
use Rattle.sc_tables.proofs.LegalRoots.{root_not_numbered}
use Rattle.sc_sets.proofs.Union.LegalElements.{state-node}
use Rattle.sc_sets.proofs.Union.Parents.{past-root}

no_kind : (n : Node) (t : Tag) → is_numbered t ≡ false → kind_at n t ≡ None
no_kind n tag.State h = absurd (cc)
no_kind n tag.Parallel h = absurd (cc)
no_kind n tag.Final h = absurd (cc)
no_kind n tag.History h = absurd (cc)
no_kind n t h = refl

past_kind : (c : Chart) (s : ℕ) → legal_fault c ≡ None → state_count c ≤ s → kind_of c s ≡ None
past_kind c s legal l =
    ap (λ (n : Node). kind_at n (tag_of n)) (ap (element c) (past-root c s l))
    ∙ no_kind c.root (tag_of c.root) (root_not_numbered c legal)

-- a number past the states is that of no parallel
pub past_parallel : (c : Chart) (s : ℕ) → legal_fault c ≡ None → state_count c ≤ s → is_parallel c s ≡ false
past_parallel c s legal l = ap (λ (o : Option StateKind). option_map_or (is_kind kind.Parallel) o false)
    (past_kind c s legal l)

-- a number that is no parallel's is told of nothing
pub untold : (c : Chart) (s : ℕ) (r : Running) → is_parallel c s ≡ false → r ≡ tell_parallel c s r
untold c s r e =
    sym (ap (λ v. (cond (v && is_in_final c r.env.configuration (state_count c) s) (enqueue (done_event c s Absent))
    (λ same. same)) r) e)

-- the child elements of a state are those of its element
pub kids_are : (c : Chart) (s : ℕ) → legal_fault c ≡ None → s < state_count c → kids_of c s ≡ kids (state_element c s)
kids_are c s legal l =
    let has = state-node c s legal l in
    ap (λ (o : Option Node). option_map_or kids o []) has.1.0 ∙ ap kids (sym has.1.1)
