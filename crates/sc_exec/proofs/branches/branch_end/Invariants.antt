use Rattle.std.proofs.Common.{◌≡◌, ◌+◌, drop}
use Rattle.sc_exec.specs.Branches.{branch_len}
use Rattle.sc_exec.proofs.branches.branch_end.Given as goal

abbrev pub invariant-loop-place : goal.invariant-loop-place
invariant-loop-place l = l.place + branch_len (drop l.place l.kids) ≡ l.start + branch_len (drop l.start l.kids)
