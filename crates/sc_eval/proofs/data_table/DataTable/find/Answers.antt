use Rattle.std.proofs.Common.{◌∙◌, ap}
use Rattle.sc_eval.specs.Places.{first_place}
use Rattle.sc_eval.proofs.Rows.{place_found}
use Rattle.sc_eval.proofs.data_table.DataTable.find.Goals as goal

pub returns-then-len-le-FEW_ROWS : goal.returns-then-len-le-FEW_ROWS
returns-then-len-le-FEW_ROWS c =
    c.place_in.ensures ∙ place_found c.args.name.now c.as_slice.result.now
    ∙ ap (first_place c.args.name.now) (c.as_slice.ensures.value ∙ c.self.view_is)
