-- What the program promises: the line or the report that goes with each status. This host's own rule.
use Rattle.std.specs.Prelude.{ℕ, ◌≡◌, ◌≢◌, Option, Some, None, IfSome, List, [], ◌++◌, length, take, decimal, codes, Ok, Err}
use Rattle.sc_types.specs.ChartTexts.{count_states}
use Rattle.sc_types.specs.declared.chart.Chart.{Chart}
use Rattle.sc_types.specs.declared.chart.ChartFault.{ChartFault}
use Rattle.sc_types.specs.declared.command.Command.{Command}
use Rattle.sc_types.specs.declared.history.Entry.{Entry}
use Rattle.sc_types.specs.declared.host.HostImage.{HostImage}
use Rattle.sc_law.specs.LegalCharts.{legal_chart_of}
use Rattle.sc_script.specs.Generated.{generated}
use Rattle.sc_script.specs.Scripts.{Spelled, script_of}
use Rattle.sc_script.specs.declared.fault.ScriptFault.{ScriptFault}
use Rattle.sc_script.specs.declared.script.Script.{Script}
use Rattle.sc_book.specs.Books.{opening}
use Rattle.sc_machine.specs.Cues.{ready}
use Rattle.sc_top.specs.Devices.{most_read}
use Rattle.sc_top.specs.Journals.{Creates, DiskKnown, FailsToOpen, HasNoRoomFor, IsDoubtful, IsStored, IsTight, IsUnwritten, Opening, count_after, host_after}
use Rattle.sc_report.specs.Lines.{line}
use Rattle.sc_report.specs.Entries.{fault_text}
use Rattle.sc_report.specs.Report.{report}
use Rattle.sc_report.specs.Summary.{summary}
use Rattle.sc_top.specs.ScriptFaults.{script_fault_text}
use Rattle.sc_top.specs.Run.{ComesNext, IsHistoryOf, IsWholeHistoryOf}
use Rattle.sc_top.specs.Statuses.{end_status}
use Rattle.sc_report.specs.declared.end.End.{End}
use Rattle.sc_report.specs.declared.end.End.TheVariants as end
use Rattle.sc_top.specs.declared.status.Status.{Status}
use Rattle.sc_top.specs.declared.status.Status.TheVariants as status
use Rattle.sc_words.specs.declared.asked.Asked.{Asked}
use Rattle.sc_words.specs.declared.asked.Asked.TheVariants.{Init, Run, Show, Check, Gen}
use Rattle.sc_words.specs.declared.asked.TheConstants.{RUN_BUDGET}

-- How a run ended, and what the disk holds then. It came to its end, and no session is ready, or one is and the steps
-- are used up; or the disk failed, and may have left the next command in doubt; or there is no room for the next
-- command, or with workers for some command. It ends otherwise than by the disk only where no call of the disk failed.
pub data Ends (k : DiskKnown) (past : List Command) (s : Script) (workers budget : ℕ)
    (history : List Entry) : End → Type 0 where
  quiet : IsWholeHistoryOf past s workers budget history → ready (host_after past history) ≡ None → k.fine
      → (k.told → IsStored k (count_after past history) (host_after past history))
      → Ends k past s workers budget history end.Quiet
  spent : IsWholeHistoryOf past s workers budget history → ready (host_after past history) ≢ None → k.fine
      → (k.told → IsStored k (count_after past history) (host_after past history))
      → Ends k past s workers budget history end.Budget
  failed : IsHistoryOf past s workers budget history → k.failed → (k.told → IsDoubtful k past s workers budget history)
      → Ends k past s workers budget history end.Disk
  full : (e : Entry) → IsHistoryOf past s workers budget history → ComesNext past s workers budget history e
      → HasNoRoomFor k past history e → k.fine
      → (k.told → IsStored k (count_after past history) (host_after past history))
      → Ends k past s workers budget history end.Full
  tight : workers ≢ 0 → IsHistoryOf past s workers budget history → IsTight k past history → k.fine
      → (k.told → IsStored k (count_after past history) (host_after past history))
      → Ends k past s workers budget history end.Full

-- what is written of a run, by how many commands the journal held at its opening, the host at the end, the history, and
-- how it ended
abbrev pub Account : Type 0
Account = ℕ → HostImage → List Entry → End → List ℕ

-- The bytes of a script's run are those of one history from the host that the journal held, with all that is promised
-- of it.
pub record Reports (k : DiskKnown) (account : Account) (script : Script) (workers budget : ℕ) (end : End)
    (bytes : List ℕ) :
    Type 0 where
  pub opened : Opening k
  pub history : List Entry
  pub ends : Ends k opened.past script workers budget history end
  pub is : bytes ≡ account (length opened.past) (host_after opened.past history) history end

-- of a script: it was run on the journal's host, or there is none, and nothing was written
pub data Runs (k : DiskKnown) (account : Account) (script : Script)
    (workers budget : ℕ) : Status → List ℕ → Type 0 where
  not_run : (status : Status) (bytes : List ℕ) → IsUnwritten k → FailsToOpen k status bytes
      → Runs k account script workers budget status bytes
  ran : (end : End) (bytes : List ℕ) → Reports k account script workers budget end bytes
      → Runs k account script workers budget (end_status end) bytes

-- of `show`: the journal's host, or why there is none; nothing was written
pub data Shows (k : DiskKnown) : Status → List ℕ → Type 0 where
  not_shown : (status : Status) (bytes : List ℕ) → IsUnwritten k → FailsToOpen k status bytes → Shows k status bytes
  shown : (o : Opening k) → IsUnwritten k → (k.told → IsStored k (length o.past) (opening o.past))
      → Shows k status.Done (report (length o.past) (opening o.past) [] end.Shown)

-- what is known of the devices before and after a call: what the source had, where that is told; whether its count of
-- faults rose; and the disk
pub record Known : Type 1 where
  pub source : Option (List ℕ)
  pub read_failed : Type 0
  pub disk : DiskKnown

abbrev pub known : Option (List ℕ) → Type 0 → DiskKnown → Known
known source read_failed disk = record { source = source; read_failed = read_failed; disk = disk }

-- what was read of a source for what is asked, where the source tells what it has
abbrev pub IsRead : Option Asked → Option (List ℕ) → List ℕ → Type 0
IsRead asked source text = IfSome source (λ all. text ≡ take (most_read asked) all)

-- of a text that should spell a script; where it spells none, nothing was written
pub data SaysOfScript (k : DiskKnown) (workers budget : ℕ) : Spelled → Status → List ℕ → Type 0 where
  no_script : (fault : ScriptFault) → IsUnwritten k
      → SaysOfScript k workers budget (Err fault) status.BadScript (line (codes "script " ++ script_fault_text fault))
  spelled : (script : Script) (status : Status) (bytes : List ℕ) → Runs k report script workers budget status bytes
      → SaysOfScript k workers budget (Ok script) status bytes

-- of `check`: the text is a chart, or has this fault
pub data Checks (source : Option (List ℕ)) (read_failed : Type 0) : Status → List ℕ → Type 0 where
  read_fault : read_failed → Checks source read_failed status.ReadFault (codes "read\n")
  legal : (text : List ℕ) (chart : Chart) → IsRead (Some Check) source text → legal_chart_of text ≡ Ok chart
      → Checks source read_failed status.Done (line (codes "ok " ++ decimal (count_states chart)))
  faulty : (text : List ℕ) (fault : ChartFault) → IsRead (Some Check) source text → legal_chart_of text ≡ Err fault
      → Checks source read_failed status.Faulty (line (codes "chart " ++ fault_text fault))

-- the bytes that go with a status, for what is asked and what is known of the devices
pub data Says (asked : Option Asked) (k : Known) : Status → List ℕ → Type 0 where
  other_words : asked ≡ None → Says asked k status.OtherWords (codes "words\n")
  initialised : (status : Status) (bytes : List ℕ) → asked ≡ Some Init → Creates k.disk status bytes
      → Says asked k status bytes
  unread_script : (workers budget : ℕ) → asked ≡ Some (Run workers budget) → k.read_failed → IsUnwritten k.disk
      → Says asked k status.ReadFault (codes "read\n")
  run : (workers budget : ℕ) (text : List ℕ) (status : Status) (bytes : List ℕ) → asked ≡ Some (Run workers budget)
      → IsRead asked k.source text → SaysOfScript k.disk workers budget (script_of text) status bytes
      → Says asked k status bytes
  tells : (status : Status) (bytes : List ℕ) → asked ≡ Some Show → Shows k.disk status bytes → Says asked k status bytes
  checked : (status : Status) (bytes : List ℕ) → asked ≡ Some Check → Checks k.source k.read_failed status bytes
      → Says asked k status bytes
  drawn : (number size : ℕ) (status : Status) (bytes : List ℕ) → asked ≡ Some (Gen number size)
      → Runs k.disk (λ opened. summary number size) (generated number size) 0 RUN_BUDGET status bytes
      → Says asked k status bytes

-- these bytes are those of some status other than the two that say nothing of their own
pub record Output (asked : Option Asked) (k : Known) (text : List ℕ) : Type 0 where
  pub status : Status
  pub says : Says asked k status text

-- Where memory was wanting in a script's run: the journal was not opened, or the disk holds what the run came to.
pub data LeftBy (k : DiskKnown) (script : Script) (workers budget : ℕ) : Type 0 where
  unopened : IsUnwritten k → LeftBy k script workers budget
  left_by : (o : Opening k) (history : List Entry) → IsHistoryOf o.past script workers budget history
      → (k.told → IsDoubtful k o.past script workers budget history) → LeftBy k script workers budget

pub data LeavesScript (k : DiskKnown) (workers budget : ℕ) : Spelled → Type 0 where
  unread : (spelled : Spelled) → IsUnwritten k → LeavesScript k workers budget spelled
  left_run : (script : Script) → LeftBy k script workers budget → LeavesScript k workers budget (Ok script)

-- where memory was wanting
pub data Leaves (asked : Option Asked) (k : Known) : Type 0 where
  unwritten : IsUnwritten k.disk → Leaves asked k
  left_script : (workers budget : ℕ) (text : List ℕ) → asked ≡ Some (Run workers budget) → IsRead asked k.source text
      → LeavesScript k.disk workers budget (script_of text) → Leaves asked k
  left_drawn : (number size : ℕ) → asked ≡ Some (Gen number size)
      → LeftBy k.disk (generated number size) 0 RUN_BUDGET → Leaves asked k
