use Rattle.std.proofs.Common.{rules}
use Rattle.sc_types.specs.declared.chart.Tag.TheVariants as tag_name
use Rattle.sc_valid.proofs.FirstKidLemmas.{still_right}
use Rattle.sc_valid.proofs.TableLemmas.{one_more}
use Rattle.sc_valid.proofs.index.ChartIndex.new.Goals as goal

pub loop-path-preserved : goal.loop-path-preserved
loop-path-preserved c = record {
  states = one_more _ _ _ _ _ _ _ _ _ c.loop-path-test.true c.path-item.is (search rules) (search rules) c.loop-path.invariant.states c.in_ok-add.ensures;
  invokes = one_more _ _ _ _ _ _ _ _ _ c.loop-path-test.true c.path-item.is (search rules) (search rules) c.loop-path.invariant.invokes c.in_ok-add-2.ensures;
  data_items = one_more _ _ _ _ _ _ _ _ _ c.loop-path-test.true c.path-item.is (search rules) (search rules) c.loop-path.invariant.data_items c.in_ok-add-3.ensures;
  elses = still_right _ _ tag_name.Else _ _ _ _ (search rules) c.loop-path.invariant.elses c.in_ok-add-4.ensures;
  contents = still_right _ _ tag_name.Content _ _ _ _ (search rules) c.loop-path.invariant.contents c.in_ok-add-5.ensures;
}
