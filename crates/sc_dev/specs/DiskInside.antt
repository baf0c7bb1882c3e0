-- How a disk in memory counts its calls and the bytes written. This host's own rule, for private clauses.
use Rattle.std.specs.Prelude.{◌≡◌, ◌<◌, ◌≤◌}
use Rattle.sc_dev.specs.declared.mem_disk.MemDisk.TheInside.{Inside}
use Rattle.sc_dev.specs.MemDisks.{MemDiskOf, calls_made, all_written}

abbrev pub disk_inside : Inside → MemDiskOf
disk_inside d = record { parts = d.parts; past = d.past; failing = d.failing; faults = d.faults }

pub record IsOrderly (d : Inside) : Type 0 where
  pub written : d.written ≡ all_written d.parts
  -- a call is past the room in calls only once that is full
  pub full : 0 < d.past → d.parts.rooms.calls ≤ calls_made d.parts
