use Rattle.sc_chart_json.proofs.Printed.ReadBack.{printed_back}
use Rattle.sc_chart_json.proofs.writer.print_chart.Goals as goal

pub returns-clause-read_back : goal.returns-clause-read_back
returns-clause-read_back c = λ text is.
    printed_back text c.in_ok-text.text.items c.from_vec.result c.args.chart.now c.from_vec.ensures is
    c.in_ok-text.ensures.utf8 (rw c.in_ok-node_value.ensures at c.in_ok-text.ensures.reads_back)
