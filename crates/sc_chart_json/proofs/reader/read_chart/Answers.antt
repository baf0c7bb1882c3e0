use Rattle.std.proofs.Common.{rules}
use Rattle.sc_chart_json.proofs.WholeLemmas.{faulty}
use Rattle.sc_chart_json.proofs.reader.read_chart.Goals as goal

pub returns-in-Ok-clause-fault : goal.returns-in-Ok-clause-fault
returns-in-Ok-clause-fault c f e = faulty _ _ f (search rules) (search rules) c.in-Ok.ensures.ok.1 (c.read_root.ensures.fault f (search rules))
