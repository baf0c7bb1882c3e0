use Rattle.std.proofs.Common.{◌≡◌, filter, take}
use Rattle.sc_law.specs.Legality.{is_transition}
use Rattle.sc_tables.proofs.transitions.transition_paths.Given as goal

abbrev pub invariant-loop-path : goal.invariant-loop-path
invariant-loop-path l = l.paths ≡ filter (is_transition l.chart) (take l.path-index l.all)
