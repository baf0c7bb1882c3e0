use Rattle.std.proofs.Common.{ap, is_some, ◌∙◌}
use Rattle.sc_eval.proofs.Rows.{is_some-first_place}
use Rattle.sc_eval.proofs.data_table.DataTable.is_declared.Goals as goal

pub returns : goal.returns
returns c = c.is_some.ensures ∙ ap is_some c.find.ensures ∙ is_some-first_place c.args.name.now c.args.self.now
