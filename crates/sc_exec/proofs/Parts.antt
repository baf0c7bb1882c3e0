-- Elements as their parts, by one level.
use Rattle.std.proofs.Common.{◌≡◌, ◌≢◌, suc, cond, Bool, true, false, List, ◌∷◌, [], map, take, drop, refl, ap, ap₂, rules, sym, ◌∙◌}
use Rattle.sc_types.specs.Attributes.{Members, members_of, code_in}
use Rattle.sc_types.specs.declared.attribute.Attribute.TheVariants as attribute
use Rattle.sc_types.specs.declared.chart.Node.{Node, Node', Row_of-Node, end_of-Node, more_of-Node, items-the_row-Node, out-Node, the_lemmas as node_lemmas}
use Rattle.sc_types.specs.declared.chart.Tag.{Tag}
use Rattle.sc_types.specs.declared.chart.Tag.TheVariants as tag
use Rattle.sc_law.specs.Content.{Branch, Part, cut, cut_at, is_else, part, parts, run_element, shown}
use Rattle.sc_law.specs.Nodes.{kids, tag_of}
use Rattle.sc_law.specs.Outcomes.{done}
use Rattle.sc_law.specs.Runs.{Running}
use Rattle.sc_law.specs.Sending.{child_of, children_of, send}
use Rattle.sc_exec.specs.Branches.{branch_len, later_branches}

row_parts : {m : _} (row : Row_of-Node m) → parts row ≡ map part (items-the_row-Node m row)
unfolding part
row_parts end_of-Node = refl
row_parts (more_of-Node n rest) = ap (λ (ps : List Part). part n ∷ ps) (row_parts rest)

-- an element as its part
pub part_out : (n : Node) → part n ≡ record {
  tag = (out-Node n).tag;
  members = (out-Node n).members;
  runs = run_element (out-Node n).tag (out-Node n).members (map part (out-Node n).kids);
}
unfolding part
part_out (Node' tag members shape row) = search (rules, node_lemmas, row_parts)

-- what an element does, by its tag
pub part_runs : (n : Node) (r : Running) → (part n).runs r ≡ run_element (tag_of n) (members_of n) (map part (kids n)) r
part_runs n r = ap (λ (p : Part). p.runs r) (part_out n)

-- the parts show the child elements
pub shown_parts : (ns : List Node) → map shown (map part ns) ≡ map child_of ns
shown_parts [] = refl
shown_parts (n ∷ ns) = ap₂ (λ p ps. shown p ∷ ps) (part_out n) (shown_parts ns)

run_other : (t : Tag) (m : Members) (ps : List Part) (r : Running) → t ≢ tag.Raise → t ≢ tag.If → t ≢ tag.ForEach
    → t ≢ tag.Log → t ≢ tag.Assign → t ≢ tag.Send → t ≢ tag.Cancel → run_element t m ps r ≡ done r
run_other tag.Raise m ps r a b c d e f g = absurd (a refl)
run_other tag.If m ps r a b c d e f g = absurd (b refl)
run_other tag.ForEach m ps r a b c d e f g = absurd (c refl)
run_other tag.Log m ps r a b c d e f g = absurd (d refl)
run_other tag.Assign m ps r a b c d e f g = absurd (e refl)
run_other tag.Send m ps r a b c d e f g = absurd (f refl)
run_other tag.Cancel m ps r a b c d e f g = absurd (g refl)
run_other tag.Scxml m ps r a b c d e f g = refl
run_other tag.State m ps r a b c d e f g = refl
run_other tag.Parallel m ps r a b c d e f g = refl
run_other tag.Final m ps r a b c d e f g = refl
run_other tag.History m ps r a b c d e f g = refl
run_other tag.Initial m ps r a b c d e f g = refl
run_other tag.Transition m ps r a b c d e f g = refl
run_other tag.OnEntry m ps r a b c d e f g = refl
run_other tag.OnExit m ps r a b c d e f g = refl
run_other tag.Finalize m ps r a b c d e f g = refl
run_other tag.DataModel m ps r a b c d e f g = refl
run_other tag.DataItem m ps r a b c d e f g = refl
run_other tag.DoneData m ps r a b c d e f g = refl
run_other tag.Content m ps r a b c d e f g = refl
run_other tag.Param m ps r a b c d e f g = refl
run_other tag.Invoke m ps r a b c d e f g = refl
run_other tag.ElseIf m ps r a b c d e f g = refl
run_other tag.Else m ps r a b c d e f g = refl

-- what an element of this tag does
pub runs_as : (n : Node) (t : Tag) (r : Running) → tag_of n ≡ t
    → (part n).runs r ≡ run_element t (members_of n) (map part (kids n)) r
runs_as n t r e = part_runs n r ∙ ap (λ (x : Tag). run_element x (members_of n) (map part (kids n)) r) e

-- what a send does
pub runs_send : (n : Node) (r : Running) → tag_of n ≡ tag.Send → (part n).runs r ≡ send (members_of n) (children_of n) r
runs_send n r e = runs_as n tag.Send r e ∙ ap (λ ks. send (members_of n) ks r) (shown_parts (kids n))

-- elements that are no content do nothing
pub runs_other : (n : Node) (r : Running) → tag_of n ≢ tag.Raise → tag_of n ≢ tag.If → tag_of n ≢ tag.ForEach
    → tag_of n ≢ tag.Log → tag_of n ≢ tag.Assign → tag_of n ≢ tag.Send → tag_of n ≢ tag.Cancel → (part n).runs r ≡ done r
runs_other n r a b c d e f g = part_runs n r ∙ run_other (tag_of n) (members_of n) (map part (kids n)) r a b c d e f g

abbrev Cut : Type 0
Cut = List Part × List Branch

abbrev Front : Node → List Node → Bool → Cut
Front n ns b = (map part (take (cond b 0 (suc (branch_len ns))) (n ∷ ns)), later_branches (drop (cond b 0 (suc (branch_len ns))) (n ∷ ns)))

cut_by : (n : Node) (ns : List Node) (p : Part) → part n ≡ p → (b : Bool) (rest : Cut) → rest ≡ cut (map part ns)
    → cut (map part ns) ≡ (map part (take (branch_len ns) ns), later_branches (drop (branch_len ns) ns))
    → cond {A = Cut} b ([], (code_in attribute.Cond (members_of n), rest.0) ∷ rest.1) (p ∷ rest.0, rest.1) ≡ Front n ns b
cut_by n ns p is true rest e h = ap (λ (x : Cut). ([], (code_in attribute.Cond (members_of n), x.0) ∷ x.1)) e
cut_by n ns p is false rest e h =
    ap (λ (x : Cut). (p ∷ x.0, x.1)) (e ∙ h)
    ∙ ap (λ (q : Part). (q ∷ map part (take (branch_len ns) ns), later_branches (drop (branch_len ns) ns))) (sym is)

-- the first branch, and those behind it
pub cut_parts : (ns : List Node)
    → cut (map part ns) ≡ (map part (take (branch_len ns) ns), later_branches (drop (branch_len ns) ns))
cut_parts [] = refl
cut_parts (n ∷ ns) =
    ap (λ (p : Part). cut_at p (cut (map part ns))) (part_out n)
    ∙ cut_by n ns (record { tag = tag_of n; members = members_of n; runs = run_element (tag_of n) (members_of n) (map part (kids n)) })
    (part_out n) (is_else (tag_of n)) (cut (map part ns)) refl (cut_parts ns)
