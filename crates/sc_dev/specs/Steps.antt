-- What every call of a disk in memory keeps: the clock goes on, and each image fits. Private clauses cite it.
use Rattle.sc_dev.specs.Disks.{DiskOf, Elapsed, Fits}
use Rattle.sc_dev.specs.MemDisks.{MemDiskOf, PartsLeave, MightHaveLeft, moment_of}

pub record Steps (old new : MemDiskOf) : Type 0 where
  pub time : Elapsed (moment_of old) (moment_of new) (MightHaveLeft old) (MightHaveLeft new) (PartsLeave new.parts)
  pub fits : (c : DiskOf) → PartsLeave new.parts c → Fits c
