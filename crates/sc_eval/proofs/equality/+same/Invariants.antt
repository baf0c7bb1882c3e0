use Rattle.std.proofs.Common.{◌≡◌, drop}
use Rattle.sc_eval.specs.Lists.{same_lists}
use Rattle.sc_eval.proofs.equality.+same.Given as goal

abbrev pub invariant-same_lists-loop-i : goal.invariant-same_lists-loop-i
invariant-same_lists-loop-i l = same_lists (drop l.i l.a) (drop l.i l.b) ≡ same_lists l.a l.b
