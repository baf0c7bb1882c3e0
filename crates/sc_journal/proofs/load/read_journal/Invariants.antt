use Rattle.std.proofs.Common.{◌≡◌, ◌-◌, ◌^◌, ◌≤◌, length, take}
use Rattle.sc_dev.specs.Disks.{Within}
use Rattle.sc_journal.specs.Stops.{Passes}
use Rattle.sc_journal.proofs.load.read_journal.Given as goal

abbrev pub invariant-loop-buffer : goal.invariant-loop-buffer
invariant-loop-buffer g l = record {
  short : length l.text.items ≤ 2 ^ 40;
  stays : g.D.Disk.law.reads l.disk ≡ g.D.Disk.law.reads l.initial.disk;
  text : g.D.Disk.law.tells → l.text.items ≡ take (length l.text.items) (g.D.Disk.law.reads l.initial.disk).journal;
  images : Within (g.D.Disk.law.may_leave l.initial.disk) (g.D.Disk.law.may_leave l.disk);
  passes : Passes g.D.Disk.law l.initial.disk l.disk (g.D.Disk.law.may_leave l.initial.disk);
  later : g.D.Disk.law.faults l.initial.disk ≤ g.D.Disk.law.faults l.disk;
  fine : g.D.Disk.law.faults l.disk ≡ g.D.Disk.law.faults l.initial.disk;
  same : g.D.Disk.law.identity l.disk ≡ g.D.Disk.law.identity l.initial.disk;
}

abbrev pub decreases-loop-buffer : goal.decreases-loop-buffer
decreases-loop-buffer g l = 2 ^ 40 - length l.text.items
