use Rattle.std.proofs.Common.{refl}
use Rattle.sc_dev.specs.Histories.{lost}
use Rattle.sc_dev.specs.DiskInside.{disk_inside}
use Rattle.sc_dev.proofs.DiskSteps.{made-steps}
use Rattle.sc_dev.proofs.mem_disk.MemDisk.lose.Goals as goal

pub returns-clause-steps : goal.returns-clause-steps
returns-clause-steps c = made-steps (disk_inside c.self.inside) c.args.self.now _ c.args.part (lost c.args.at c.args.size) c.self.view_is c.requires.calls c.self.invariant.full c.lose.ensures.after refl c.lose.ensures.fit
