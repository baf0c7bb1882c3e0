use Rattle.std.proofs.Common.{◌≡◌, ◌<◌, None, Some, length, map, slice_set, sym, ◌∙◌, arith}
use Rattle.sc_law.specs.Data.{put_pair}
use Rattle.sc_eval.specs.Places.{first_place}
use Rattle.sc_eval.proofs.Rows.{names-put, place_within, put_at, put_none}
use Rattle.sc_eval.proofs.Tables.{indexed-put}
use Rattle.sc_eval.proofs.data_table.DataTable.put.Goals as goal

pub returns-in_default : goal.returns-in_default
returns-in_default c =
    let same : c.self.inside.rows.items ≡ c.args.self.now = c.self.view_is in
    let none : first_place c.args.name.now c.self.inside.rows.items ≡ None =
    rw same (sym c.find.ensures ∙ c.in_default.is) in
    rw (← same) (sym (put_none c.args.name.now c.args.value c.self.inside.rows.items none))

pub index_mut-requires : goal.index_mut-requires
index_mut-requires c =
    let some : first_place c.args.name.now c.self.inside.rows.items ≡ Some c.in-Some.place =
    rw c.self.view_is (sym c.find.ensures ∙ c.in-Some.is) in
    let below : c.in-Some.place < length c.self.inside.rows.items =
    place_within c.args.name.now c.self.inside.rows.items c.in-Some.place some in
    omega arith

pub invariant_of-self : goal.invariant_of-self
invariant_of-self c =
    let some : first_place c.args.name.now c.self.inside.rows.items ≡ Some c.in-Some.place =
    rw c.self.view_is (sym c.find.ensures ∙ c.in-Some.is) in
    let whole : slice_set c.self.inside.rows.items c.in-Some.place c.put_value.new.row
    ≡ map (put_pair c.args.name.now c.args.value) c.self.inside.rows.items =
    rw c.put_value.ensures (put_at c.args.name.now c.args.value c.self.inside.rows.items c.in-Some.place c.index_mut.result.now c.self.invariant.1 some c.index_mut.ensures.value) in
    rw whole (
      indexed-put c.self.inside.places c.args.name.now c.args.value c.self.inside.rows.items c.self.invariant.0,
      rw (names-put c.args.name.now c.args.value c.self.inside.rows.items) c.self.invariant.1,
    )

pub returns : goal.returns
returns c =
    let same : c.self.inside.rows.items ≡ c.args.self.now = c.self.view_is in
    let some : first_place c.args.name.now c.self.inside.rows.items ≡ Some c.in-Some.place =
    rw c.self.view_is (sym c.find.ensures ∙ c.in-Some.is) in
    rw (← same, c.put_value.ensures) (put_at c.args.name.now c.args.value c.self.inside.rows.items c.in-Some.place c.index_mut.result.now c.self.invariant.1 some c.index_mut.ensures.value)
