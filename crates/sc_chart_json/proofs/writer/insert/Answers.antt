use Rattle.sc_chart_json.proofs.Printed.Writing.{inserted}
use Rattle.sc_chart_json.proofs.writer.insert.Goals as goal

pub returns : goal.returns
returns c =
    inserted c.args.object.now.entries c.insert.new.self.entries c.in_ok-from_str.field-0 c.args.name.now c.args.value
    c.in_ok-insert.ensures.entries c.in_ok-from_str.ensures.ok
