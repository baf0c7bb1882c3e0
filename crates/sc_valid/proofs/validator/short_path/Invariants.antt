use Rattle.std.proofs.Common.{◌≡◌, take}
use Rattle.sc_valid.proofs.validator.short_path.Given as goal

abbrev pub invariant-loop-place : goal.invariant-loop-place
invariant-loop-place l = l.short ≡ take l.place-index l.path
