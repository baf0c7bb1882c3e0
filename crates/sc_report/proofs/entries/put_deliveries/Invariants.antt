use Rattle.std.proofs.Common.{take}
use Rattle.std.specs.List.{flat_map}
use Rattle.sc_report.specs.Entries.{delivery_text}
use Rattle.sc_report.specs.Outlets.{Writes}
use Rattle.sc_report.proofs.entries.put_deliveries.Given as goal

abbrev pub invariant-loop-delivery : goal.invariant-loop-delivery
invariant-loop-delivery g l = Writes g.K.Sink.taken g.K.Sink.faults l.initial.out l.out (flat_map delivery_text (take l.delivery-index l.sent))
