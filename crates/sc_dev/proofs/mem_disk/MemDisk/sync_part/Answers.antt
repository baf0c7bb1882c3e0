use Rattle.std.proofs.Common.{refl}
use Rattle.sc_dev.specs.Histories.{synced}
use Rattle.sc_dev.specs.DiskInside.{disk_inside}
use Rattle.sc_dev.proofs.DiskSteps.{made-steps}
use Rattle.sc_dev.proofs.mem_disk.MemDisk.sync_part.Goals as goal

pub returns-clause-steps : goal.returns-clause-steps
returns-clause-steps c = made-steps (disk_inside c.self.inside) c.args.self.now _ c.args.part synced c.self.view_is c.requires c.self.invariant.full c.sync.ensures.after refl c.sync.ensures.fit
