use Rattle.sc_valid.proofs.FirstKidLemmas.{earlier_else}
use Rattle.sc_valid.proofs.index.ChartIndex.has_earlier_else.Goals as goal

pub returns : goal.returns
returns c =
    earlier_else c.args.self.now c.args.path.now _ _ _ _ c.is_before.ensures c.first_else.ensures c.parent.ensures c.own_place.ensures
