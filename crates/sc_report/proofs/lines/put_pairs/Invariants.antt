use Rattle.std.proofs.Common.{take}
use Rattle.std.specs.List.{flat_map}
use Rattle.sc_report.specs.Lines.{pair_text}
use Rattle.sc_report.specs.Outlets.{Writes}
use Rattle.sc_report.proofs.lines.put_pairs.Given as goal

abbrev pub invariant-loop-pair : goal.invariant-loop-pair
invariant-loop-pair g l = Writes g.K.Sink.taken g.K.Sink.faults l.initial.out l.out (flat_map pair_text (take l.pair-index l.pairs))
