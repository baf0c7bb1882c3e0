use Rattle.std.proofs.Common.{◌≡◌, ◌≤◌, filter, length, take}
use Rattle.sc_types.specs.Elements.{is_numbered}
use Rattle.sc_law.specs.Legality.{is_transition}
use Rattle.sc_law.specs.Nodes.{element, tag_of}
use Rattle.sc_tables.specs.Built.{AreSources}
use Rattle.sc_tables.proofs.transitions.sources.Given as goal

abbrev pub invariant-loop-path : goal.invariant-loop-path
invariant-loop-path l = record {
  within : l.before ≤ l.path-index;
  states : l.before ≡ length (filter (λ path. is_numbered (tag_of (element l.chart path))) (take l.path-index l.all));
  sources : AreSources l.states.paths (filter (is_transition l.chart) (take l.path-index l.all)) l.sources;
}
