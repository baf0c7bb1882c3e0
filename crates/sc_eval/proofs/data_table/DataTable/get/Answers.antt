use Rattle.std.proofs.Common.{◌≡◌, ◌<◌, None, Some, length, refl, sym, ◌∙◌, arith}
use Rattle.sc_eval.specs.Places.{first_place}
use Rattle.sc_eval.proofs.Rows.{find_at, find_none, place_within}
use Rattle.sc_eval.proofs.data_table.DataTable.get.Goals as goal

pub returns-in_err-place : goal.returns-in_err-place
returns-in_err-place c =
    let none : first_place c.args.name.now c.args.self.now ≡ None = sym c.find.ensures ∙ c.in_err-place.was in
    rw (c.from_residual.ensures, find_none c.args.name.now c.args.self.now none) refl

pub index-requires : goal.index-requires
index-requires c =
    let same : c.self.inside.rows.items ≡ c.args.self.now = c.self.view_is in
    let some : first_place c.args.name.now c.self.inside.rows.items ≡ Some c.in_ok-place.place =
    rw same (sym c.find.ensures ∙ c.in_ok-place.was) in
    let below : c.in_ok-place.place < length c.self.inside.rows.items =
    place_within c.args.name.now c.self.inside.rows.items c.in_ok-place.place some in
    omega arith

pub returns : goal.returns
returns c =
    let same : c.self.inside.rows.items ≡ c.args.self.now = c.self.view_is in
    let some : first_place c.args.name.now c.self.inside.rows.items ≡ Some c.in_ok-place.place =
    rw same (sym c.find.ensures ∙ c.in_ok-place.was) in
    rw (c.as_ref.ensures.value, ← same, find_at c.args.name.now c.self.inside.rows.items c.in_ok-place.place c.index.result.now some c.index.ensures) refl
