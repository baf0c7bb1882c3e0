use Rattle.std.proofs.Common.{refl}
use Rattle.sc_dev.specs.declared.disk.Part.TheVariants.{Journal}
use Rattle.sc_dev.specs.Histories.{passed}
use Rattle.sc_dev.specs.DiskInside.{disk_inside}
use Rattle.sc_dev.proofs.DiskSteps.{made-steps}
use Rattle.sc_dev.proofs.mem_disk.MemDisk.fail.Goals as goal

pub returns-clause-steps : goal.returns-clause-steps
returns-clause-steps c = made-steps (disk_inside c.self.inside) c.args.self.now _ Journal passed c.self.view_is c.requires c.self.invariant.full c.pass.ensures.after refl c.pass.ensures.fit
