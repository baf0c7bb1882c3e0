use Rattle.std.proofs.Common.{subst, sym}
use Rattle.sc_dev.specs.Disks.{Within}
use Rattle.sc_dev.specs.MemDisks.{MemDiskOf, PartsLeave}
use Rattle.sc_dev.proofs.StepLemmas.{synced-leaves}
use Rattle.sc_dev.proofs.mem_disk.MemDiskDisk.sync.Goals as goal

pub returns-clause-images : goal.returns-clause-images
returns-clause-images c = subst (λ (d : MemDiskOf). Within (PartsLeave c.args.self.now.parts) (PartsLeave d.parts)) (sym c.sync_part.ensures.after)
    (synced-leaves c.args.part c.args.self.now.parts)
