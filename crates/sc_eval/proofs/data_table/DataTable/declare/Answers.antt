use Rattle.std.proofs.Common.{◌≡◌, ◌∷◌, ◌++◌, [], List, None, Option, ℕ, subst}
use Rattle.sc_types.specs.declared.value.Value.{Value}
use Rattle.sc_eval.specs.Places.{IsIndexed}
use Rattle.sc_eval.proofs.Rows.{distinct-push}
use Rattle.sc_eval.proofs.data_table.DataTable.declare.Goals as goal

pub invariant_of-self-2 : goal.invariant_of-self-2
invariant_of-self-2 c =
    let rows = c.self.inside.rows.items in
    let same : rows ≡ c.args.self.now = c.self.view_is in
    let kept : c.reserve.new.self.items ≡ rows = c.in_ok-reserve.ensures.items in
    let noted = subst (λ (ns : List ℕ). IsIndexed c.note_place.new.places (c.as_slice.result.now ++ (ns, None) ∷ []))
    c.bytes.ensures.value (c.in_ok-note_place.ensures.ok None) in
    rw c.push_reserved.ensures (
      subst (λ (rs : List (List ℕ × Option Value)). IsIndexed c.note_place.new.places (rs ++ (c.args.name, None) ∷ []))
          c.as_slice.ensures.value noted,
      rw kept (distinct-push rows (c.args.name, None) c.self.invariant.1 (rw same c.requires)),
    )
