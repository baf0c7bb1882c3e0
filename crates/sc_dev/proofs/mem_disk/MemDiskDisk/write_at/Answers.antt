use Rattle.std.proofs.Common.{subst, sym, length}
use Rattle.sc_dev.specs.Disks.{Follows, Torn}
use Rattle.sc_dev.specs.MemDisks.{MemDiskOf, PartsLeave, parts_read}
use Rattle.sc_dev.proofs.StepLemmas.{wrote-leaves, wrote-read, lost-leaves}
use Rattle.sc_dev.proofs.mem_disk.MemDiskDisk.write_at.Goals as goal

pub returns-then-is_named-clause-images : goal.returns-then-is_named-clause-images
returns-then-is_named-clause-images c =
    subst (λ (d : MemDiskOf). Follows (Torn c.args.part c.args.at (length c.args.piece.now)) (PartsLeave c.args.self.now.parts) (PartsLeave d.parts)) (sym c.lose.ensures.after)
    (lost-leaves c.args.part c.args.at (length c.args.piece.now) c.args.self.now.parts)

pub returns-clause-outside : goal.returns-clause-outside
returns-clause-outside c = λ _.
    subst (λ (d : MemDiskOf). Torn c.args.part c.args.at (length c.args.piece.now) (parts_read c.args.self.now.parts) (parts_read d.parts)) (sym c.write.ensures.after)
    (wrote-read c.args.part c.args.at c.args.piece.now c.args.self.now.parts)

pub returns-clause-images : goal.returns-clause-images
returns-clause-images c =
    subst (λ (d : MemDiskOf). Follows (Torn c.args.part c.args.at (length c.args.piece.now)) (PartsLeave c.args.self.now.parts) (PartsLeave d.parts)) (sym c.write.ensures.after)
    (wrote-leaves c.args.part c.args.at c.args.piece.now c.args.self.now.parts)
