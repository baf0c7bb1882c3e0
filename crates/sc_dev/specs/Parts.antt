-- One part of a disk in memory. This host's own rule.
use Rattle.sc_dev.specs.declared.mem_part.Rooms.{Rooms}
use Rattle.sc_dev.specs.Histories.{History}

-- what was done to it, and the rooms that it was made with
pub record PartOf : Type 0 where
  pub history : History
  pub rooms : Rooms
