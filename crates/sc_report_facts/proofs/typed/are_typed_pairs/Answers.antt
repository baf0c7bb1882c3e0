use Rattle.sc_report_facts.specs.Histories.{IsTypedPair}
use Rattle.sc_report_facts.proofs.Each.{one_more}
use Rattle.sc_report_facts.proofs.typed.are_typed_pairs.Goals as goal

pub loop-pair-preserved : goal.loop-pair-preserved
loop-pair-preserved c =
    one_more IsTypedPair _ _ _ c.pair-item.is c.loop-pair-test.true c.loop-pair.invariant c.is_typed_pair.ensures
