use Rattle.std.proofs.Common.{rules}
use Rattle.sc_dev.proofs.DiskSteps.{filled-image}
use Rattle.sc_dev.proofs.mem_disk.MemDisk.crash.Goals as goal

pub returns-clause-image : goal.returns-clause-image
returns-clause-image c = let image = filled-image c.args.fill.now c.args.self.now.parts in search rules
