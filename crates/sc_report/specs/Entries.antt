-- The lines of a report that tell the entries of a history. This host's own rule.
use Rattle.std.specs.Prelude.{ℕ, ◌+◌, ◌==◌, if◌then◌else◌, List, [], ◌∷◌, ◌++◌, decimal, codes}
use Rattle.std.specs.List.{flat_map}
use Rattle.sc_types.specs.declared.chart.ChartFault.{ChartFault}
use Rattle.sc_types.specs.declared.command.Refusal.{Refusal}
use Rattle.sc_types.specs.declared.command.Refusal.TheVariants.{BadChart, NameTaken, NoChart, NoSession, Ended, TooLong, ClockFull, Idle, BadName}
use Rattle.sc_types.specs.declared.command.Reply.{Reply}
use Rattle.sc_types.specs.declared.command.Reply.TheVariants.{Installed, Started, Posted, Ticked, Cancelled, Stepped, Refused}
use Rattle.sc_types.specs.declared.history.Delivery.{Delivery}
use Rattle.sc_types.specs.declared.history.Delivery.TheVariants as delivery
use Rattle.sc_types.specs.declared.history.Entry.{Entry}
use Rattle.sc_types.specs.declared.history.LogLine.{LogLine}
use Rattle.sc_types.specs.declared.history.Who.{Who}
use Rattle.sc_types.specs.declared.history.Who.TheVariants.{Client, Worker}
use Rattle.sc_types.specs.declared.session.CueName.{CueName}
use Rattle.sc_types.specs.declared.session.CueName.TheVariants.{Fresh, Resume, Cancel, External}
use Rattle.sc_types.specs.declared.session.How.{How}
use Rattle.sc_types.specs.declared.session.How.TheVariants as how
use Rattle.sc_types.specs.Values.{text_literal, value_text}
use Rattle.sc_report.specs.Lines.{command_text, line}

abbrev pub who_text : Who → List ℕ
who_text (Client n) = codes "c" ++ decimal n
who_text Worker = codes "w"

-- places with dots between; the root's path is `-`
abbrev pub path_rest : List ℕ → List ℕ
path_rest places = flat_map (λ place. codes "." ++ decimal place) places

abbrev pub path_text : List ℕ → List ℕ
path_text [] = codes "-"
path_text (place ∷ places) = decimal place ++ path_rest places

-- the attribute is told of a faulty expression, which is fault 6
abbrev pub member_text : ChartFault → List ℕ
member_text f = if f.number == 6 then codes " " ++ f.member else []

abbrev pub fault_text : ChartFault → List ℕ
fault_text f =
    decimal f.number ++ codes " " ++ path_text f.path ++ member_text f

abbrev pub how_text : How → List ℕ
how_text (how.Final payload) = codes "final"
how_text how.Cancelled = codes "cancelled"
how_text how.Runaway = codes "runaway"

abbrev pub refusal_text : Refusal → List ℕ
refusal_text (BadChart fault) = codes "1 bad-chart " ++ fault_text fault
refusal_text NameTaken = codes "2 name-taken"
refusal_text NoChart = codes "3 no-chart"
refusal_text NoSession = codes "4 no-session"
refusal_text (Ended how) = codes "5 ended " ++ how_text how
refusal_text (TooLong which) = codes "6 too-long " ++ decimal which
refusal_text ClockFull = codes "7 clock-full"
refusal_text Idle = codes "8 idle"
refusal_text BadName = codes "9 bad-name"

abbrev pub cue_text : CueName → List ℕ
cue_text Fresh = codes "fresh"
cue_text Resume = codes "resume"
cue_text Cancel = codes "cancel"
cue_text (External n) = codes "external " ++ decimal n

abbrev pub reply_text : Reply → List ℕ
reply_text Installed = codes "installed"
reply_text Started = codes "started"
reply_text (Posted n) = codes "posted " ++ decimal n
reply_text (Ticked count) = codes "ticked " ++ decimal count
reply_text Cancelled = codes "cancelled"
reply_text (Stepped cue) = codes "stepped " ++ cue_text cue
reply_text (Refused why) = codes "refused " ++ refusal_text why

abbrev pub log_text : LogLine → List ℕ
log_text l = line (codes "> " ++ text_literal l.label ++ codes " " ++ value_text l.value)

abbrev pub what_text : Delivery → List ℕ
what_text (delivery.Queued n session) = codes "queued " ++ decimal n ++ codes " " ++ session
what_text (delivery.Timed n due) = codes "timed " ++ decimal n ++ codes " " ++ decimal due
what_text delivery.Unreachable = codes "unreachable"
what_text delivery.Dropped = codes "dropped"
what_text (delivery.Undone count) = codes "undone " ++ decimal count
what_text (delivery.Born session) = codes "born " ++ session
what_text delivery.Unborn = codes "unborn"
what_text (delivery.Flagged session) = codes "flagged " ++ session
what_text delivery.Nothing = codes "nothing"

abbrev pub delivery_text : Delivery → List ℕ
delivery_text d = line (codes "* " ++ what_text d)

-- an entry of a history, with its number: its command, the reply, the log lines and the deliveries
abbrev pub entry_text : ℕ → Entry → List ℕ
entry_text number e =
    line (decimal number ++ codes " " ++ who_text e.who ++ codes " " ++ command_text e.command)
    ++ line (codes "= " ++ reply_text e.reply) ++ flat_map log_text e.logs ++ flat_map delivery_text e.sent

abbrev pub entries_text : ℕ → List Entry → List ℕ
entries_text number [] = []
entries_text number (e ∷ es) = entry_text number e ++ entries_text (number + 1) es
