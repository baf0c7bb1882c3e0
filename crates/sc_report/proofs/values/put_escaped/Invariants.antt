use Rattle.std.proofs.Common.{take}
use Rattle.std.specs.List.{flat_map}
use Rattle.sc_types.specs.Values.{escaped}
use Rattle.sc_report.specs.Outlets.{Writes}
use Rattle.sc_report.proofs.values.put_escaped.Given as goal

abbrev pub invariant-loop-byte : goal.invariant-loop-byte
invariant-loop-byte g l = Writes g.K.Sink.taken g.K.Sink.faults l.initial.out l.out (flat_map escaped (take l.byte-index l.text))
