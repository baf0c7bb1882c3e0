use Rattle.std.proofs.Common.{rules}
use Rattle.std.proofs.lemmas.List.{take_rest}
use Rattle.std.proofs.Math.Seq.{take-add}
use Rattle.std.proofs.KnownBytes.{Appends-trans}
use Rattle.sc_dev.proofs.transfer.write_all.Goals as goal

pub loop-at-preserved : goal.loop-at-preserved
loop-at-preserved g c = record {
  within = search rules;
  later = search rules;
  taken = rw take-add (Appends-trans _ _ _ _ _ c.loop-at.invariant.taken (simp take_rest at c.in_ok-at.ensures.bytes));
}
