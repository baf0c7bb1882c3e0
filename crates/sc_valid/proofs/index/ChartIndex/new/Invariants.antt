use Rattle.std.proofs.Common.{take}
use Rattle.sc_types.specs.Elements.{is_numbered}
use Rattle.sc_types.specs.declared.chart.Tag.TheVariants as tag_name
use Rattle.sc_law.specs.Nodes.{is_tag}
use Rattle.sc_valid.specs.FirstKids.{AreRight}
use Rattle.sc_valid.specs.Firsts.{AreFirsts}
use Rattle.sc_valid.proofs.index.ChartIndex.new.Given as goal

abbrev pub invariant-loop-path : goal.invariant-loop-path
invariant-loop-path l = record {
  states : AreFirsts l.states is_numbered l.chart (take l.path-index l.paths);
  invokes : AreFirsts l.invokes (is_tag tag_name.Invoke) l.chart (take l.path-index l.paths);
  data_items : AreFirsts l.data_items (is_tag tag_name.DataItem) l.chart (take l.path-index l.paths);
  elses : AreRight l.elses tag_name.Else l.chart;
  contents : AreRight l.contents tag_name.Content l.chart;
}
