-- The numbers that the program ends with. This host's own rule.
use Rattle.std.specs.Prelude.{ℕ}
use Rattle.sc_report.specs.declared.end.End.{End}
use Rattle.sc_report.specs.declared.end.End.TheVariants as end
use Rattle.sc_top.specs.declared.status.Status.{Status}
use Rattle.sc_top.specs.declared.status.Status.TheVariants.{Done, OtherWords, BadScript, Faulty, ReadFault, WriteFault, DiskFault, OutOfMemory, Budget, BadJournal, Full, Exists}

abbrev pub code : Status → ℕ
code Done = 0
code OtherWords = 1
code BadScript = 2
code Faulty = 3
code ReadFault = 4
code WriteFault = 5
code DiskFault = 6
code OutOfMemory = 7
code Budget = 8
code BadJournal = 9
code Full = 10
code Exists = 11

-- the status of a report that ends so
abbrev pub end_status : End → Status
end_status end.Quiet = Done
end_status end.Budget = Budget
end_status end.Disk = DiskFault
end_status end.Full = Full
end_status end.Shown = Done
