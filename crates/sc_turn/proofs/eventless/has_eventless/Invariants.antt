use Rattle.std.proofs.Common.{◌≡◌, None, false}
use Rattle.std.specs.List.{list_any, range_with_len}
use Rattle.sc_law.specs.Transitions.{is_match}
use Rattle.sc_turn.proofs.eventless.has_eventless.Given as goal

abbrev pub invariant-loop-tr : goal.invariant-loop-tr
invariant-loop-tr l = list_any (is_match l.t None) (range_with_len 0 l.tr) ≡ false
