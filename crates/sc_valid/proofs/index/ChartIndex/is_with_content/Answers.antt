use Rattle.std.proofs.Common.{rules}
use Rattle.sc_valid.proofs.FirstKidLemmas.{position_any}
use Rattle.sc_valid.proofs.index.ChartIndex.is_with_content.Goals as goal

pub returns : goal.returns
returns c = search (rules, position_any)
