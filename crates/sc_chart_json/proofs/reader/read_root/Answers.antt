use Rattle.std.proofs.Common.{rules}
use Rattle.sc_chart_json.proofs.WalkLemmas.{root_stops, root_read}
use Rattle.sc_chart_json.proofs.reader.read_root.Goals as goal

pub returns-in_err-read_element-clause-fault : goal.returns-in_err-read_element-clause-fault
returns-in_err-read_element-clause-fault c f e = root_stops c.profile_at.result c.new.result _ f c.profile_at.ensures c.new.ensures (c.in_err-read_element.ensures.fault f (search rules))

pub returns-clause-chart : goal.returns-clause-chart
returns-clause-chart c = root_read c.profile_at.result c.new.result _ _ _ c.profile_at.ensures c.new.ensures c.in_ok-read_element.ensures.ok
