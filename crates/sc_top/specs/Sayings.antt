-- What is said of what was read, and of a journal. Only contracts of private functions cite this.
use Rattle.std.specs.Prelude.{ℕ, ◌≡◌, Bool, false, true, is_some, List, ◌++◌, Option, None, Some, Result, Ok, Err, decimal, codes}
use Rattle.sc_types.specs.ChartTexts.{count_states}
use Rattle.sc_types.specs.declared.chart.Chart.{Chart}
use Rattle.sc_types.specs.declared.chart.ChartFault.{ChartFault}
use Rattle.sc_types.specs.declared.history.Entry.{Entry}
use Rattle.sc_types.specs.declared.host.HostImage.{HostImage}
use Rattle.sc_book.specs.declared.fault.CallFault.{CallFault}
use Rattle.sc_book.specs.declared.fault.CallFault.TheVariants as call
use Rattle.sc_book.specs.declared.fault.OpenFault.{OpenFault}
use Rattle.sc_book.specs.declared.fault.OpenFault.TheVariants as unopened
use Rattle.sc_machine.specs.Cues.{ready}
use Rattle.sc_report.specs.Lines.{line}
use Rattle.sc_report.specs.Entries.{fault_text}
use Rattle.sc_report.specs.Report.{report}
use Rattle.sc_report.specs.Summary.{summary}
use Rattle.sc_top.specs.Promise.{Account}
use Rattle.sc_top.specs.Statuses.{end_status}
use Rattle.sc_report.specs.declared.end.End.{End}
use Rattle.sc_report.specs.declared.end.End.TheVariants as end
use Rattle.sc_top.specs.declared.saying.Form.{Form}
use Rattle.sc_top.specs.declared.saying.Form.TheVariants as form
use Rattle.sc_top.specs.declared.saying.Saying.{Saying}
use Rattle.sc_top.specs.declared.saying.Saying.TheVariants as saying
use Rattle.sc_top.specs.declared.status.Status.{Status}
use Rattle.sc_top.specs.declared.status.Status.TheVariants as status

-- the status that goes with a saying
abbrev pub status_of : Saying → Status
status_of saying.OtherWords = status.OtherWords
status_of saying.ReadFault = status.ReadFault
status_of saying.DiskFault = status.DiskFault
status_of saying.Created = status.Done
status_of saying.Exists = status.Exists
status_of (saying.BadScript text) = status.BadScript
status_of (saying.BadJournal text) = status.BadJournal
status_of (saying.Legal text) = status.Done
status_of (saying.Faulty fault) = status.Faulty
status_of (saying.Run form end closed) = end_status end

-- what is written of a run
abbrev pub account : Form → Account
account form.Report = report
account (form.Summary number size) = λ opened. summary number size

-- the bytes that go with a saying
abbrev pub text_of : Saying → List ℕ
text_of saying.OtherWords = codes "words\n"
text_of saying.ReadFault = codes "read\n"
text_of saying.DiskFault = codes "disk\n"
text_of saying.Created = codes "created\n"
text_of saying.Exists = codes "exists\n"
text_of (saying.BadScript text) = text
text_of (saying.BadJournal text) = text
text_of (saying.Legal text) = text
text_of (saying.Faulty fault) = line (codes "chart " ++ fault_text fault)
text_of (saying.Run form end closed) = account form closed.opened closed.host.image closed.history.entries end

-- of a text that should spell a chart

-- the status of a check
abbrev pub check_status : Result Chart ChartFault → Status
check_status (Ok chart) = status.Done
check_status (Err fault) = status.Faulty

-- what a check writes
abbrev pub check_text : Result Chart ChartFault → List ℕ
check_text (Ok chart) = line (codes "ok " ++ decimal (count_states chart))
check_text (Err fault) = line (codes "chart " ++ fault_text fault)

-- of a run

-- how it ended, by its fault and whether a session is ready; none where memory was wanting
abbrev pub end_by : Option CallFault → Bool → Option End
end_by None false = Some end.Quiet
end_by None true = Some end.Budget
end_by (Some call.Disk) is_ready = Some end.Disk
end_by (Some call.Full) is_ready = Some end.Full
end_by (Some call.NoMemory) is_ready = None

-- these are the status and the bytes of its account
pub record IsTold (tells : Account) (fault : Option CallFault) (opened : ℕ) (host : HostImage) (history : List Entry)
    (status : Status) (bytes : List ℕ) : Type 0 where
  pub end : End
  pub ends : end_by fault (is_some (ready host)) ≡ Some end
  pub is_status : status ≡ end_status end
  pub is_bytes : bytes ≡ tells opened host history end

-- of a journal that was not opened
pub data SaysFault : OpenFault → Status → List ℕ → Type 0 where
  disk : SaysFault unopened.Disk status.DiskFault (codes "disk\n")
  damaged : (at : ℕ) → SaysFault (unopened.Damaged at) status.BadJournal (line (codes "damaged " ++ decimal at))
  bad : (n : ℕ) → SaysFault (unopened.BadEntry n) status.BadJournal (line (codes "entry " ++ decimal n))
