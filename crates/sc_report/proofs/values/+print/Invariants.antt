use Rattle.std.proofs.Common.{◌++◌, codes, map, take}
use Rattle.sc_types.specs.Values.{joined, value_text}
use Rattle.sc_report.specs.Outlets.{Writes}
use Rattle.sc_report.proofs.values.+print.Given as goal

abbrev pub invariant-put_values-loop-i : goal.invariant-put_values-loop-i
invariant-put_values-loop-i g l =
    Writes g.K.Sink.taken g.K.Sink.faults l.fn.out l.out (codes "[" ++ joined (map value_text (take l.i l.items)))
