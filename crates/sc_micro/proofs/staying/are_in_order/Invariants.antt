use Rattle.std.proofs.Common.{◌≡◌, drop}
use Rattle.sc_micro.specs.Staying.{are_in_order}
use Rattle.sc_micro.proofs.staying.are_in_order.Given as goal

abbrev pub invariant-loop-kept : goal.invariant-loop-kept
invariant-loop-kept l = are_in_order l.t l.from (drop l.kept-index l.h) ≡ are_in_order l.t 0 l.h
