-- How a disk in memory keeps its three parts: every call is one in each part. This host's own rule, for private
-- clauses.
use Rattle.std.specs.Prelude.{◌≡◌, length}
use Rattle.sc_dev.specs.declared.mem_parts.MemParts.TheInside.{Inside}
use Rattle.sc_dev.specs.MemDisks.{PartsOf, PartsFit}

abbrev pub parts_inside : Inside → PartsOf
parts_inside p = record {
  journal = p.journal.history;
  slot_a = p.slot_a.history;
  slot_b = p.slot_b.history;
  rooms = p.rooms;
}

pub record AreWhole (p : Inside) : Type 0 where
  pub journal : p.journal.rooms ≡ p.rooms
  pub slot_a : p.slot_a.rooms ≡ p.rooms
  pub slot_b : p.slot_b.rooms ≡ p.rooms
  pub calls_a : length p.slot_a.history.calls ≡ length p.journal.history.calls
  pub calls_b : length p.slot_b.history.calls ≡ length p.journal.history.calls
  pub fit : PartsFit (parts_inside p)
