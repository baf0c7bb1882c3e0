use Rattle.std.proofs.Common.{refl}
use Rattle.sc_dev.specs.Histories.{wrote}
use Rattle.sc_dev.specs.DiskInside.{disk_inside}
use Rattle.sc_dev.proofs.DiskSteps.{made-steps}
use Rattle.sc_dev.proofs.mem_disk.MemDisk.write.Goals as goal

pub returns-clause-steps : goal.returns-clause-steps
returns-clause-steps c = made-steps (disk_inside c.self.inside) c.args.self.now _ c.args.part (wrote c.args.at c.args.piece.now) c.self.view_is c.requires.calls c.self.invariant.full c.write.ensures.after refl c.write.ensures.fit
