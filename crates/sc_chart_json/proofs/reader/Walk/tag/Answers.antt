use Rattle.std.proofs.Common.{rules}
use Rattle.sc_chart_json.proofs.FaultLemmas.{too_deep}
use Rattle.sc_chart_json.proofs.reader.Walk.tag.Goals as goal

pub returns-then-len-ge-LEVEL_LIMIT-clause-fault : goal.returns-then-len-ge-LEVEL_LIMIT-clause-fault
returns-then-len-ge-LEVEL_LIMIT-clause-fault c f e profile before = too_deep profile before _ _ c.in-Some.name.now f (search rules) (search rules) (search rules)
