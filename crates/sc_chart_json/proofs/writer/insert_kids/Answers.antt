use Rattle.std.proofs.Common.{◌<◌, length, arith}
use Rattle.std.proofs.lemmas.Bool.Decides.{nat_tests}
use Rattle.serde_json.specs.View.{members_view}
use Rattle.serde_json.proofs.Views.{view-Array}
use Rattle.sc_chart_json.proofs.Printed.Writing.{some_kids}
use Rattle.sc_chart_json.proofs.writer.insert_kids.Goals as goal

pub returns : goal.returns
returns c =
    let some : 0 < length c.args.kids.items = grind (arith, nat_tests, c.is_empty.ensures, c.if-is_empty.false) in
    rw (view-Array c.args.kids, some_kids c.args.kids.items (members_view c.args.object.now.entries) some) at c.insert.ensures
