use Rattle.std.proofs.Common.{refl}
use Rattle.sc_dev.specs.DiskInside.{disk_inside}
use Rattle.sc_dev.proofs.DiskSteps.{past-steps}
use Rattle.sc_dev.proofs.mem_disk.MemDisk.count_past.Goals as goal

pub returns-clause-steps : goal.returns-clause-steps
returns-clause-steps c = past-steps (disk_inside c.self.inside) c.args.self.now _ c.self.view_is refl c.saturating_add-self-inside.ensures c.rooms-fit.ensures.fit
