use Rattle.std.proofs.Common.{◌≡◌, map, take}
use Rattle.serde_json.specs.View.{view}
use Rattle.sc_types.specs.PrintedCharts.{data_of}
use Rattle.sc_chart_json.proofs.writer.+print.Given as goal

abbrev pub invariant-node_values-loop-node : goal.invariant-node_values-loop-node
invariant-node_values-loop-node l = map view l.values.items ≡ map data_of (take l.node-index l.nodes)
