-- The report of a run. This host's own rule.
use Rattle.std.specs.Prelude.{ℕ, Option, Some, None, option_and_then, unwrap_or, List, [], ◌++◌, length, decimal, codes}
use Rattle.std.specs.List.{flat_map}
use Rattle.sc_types.specs.declared.chart.Chart.{Chart}
use Rattle.sc_types.specs.declared.history.Entry.{Entry}
use Rattle.sc_types.specs.declared.host.HostImage.{HostImage}
use Rattle.sc_types.specs.declared.host.SessionImage.{SessionImage}
use Rattle.sc_types.specs.declared.session.Phase.{Phase}
use Rattle.sc_types.specs.declared.session.Phase.TheVariants as phase
use Rattle.sc_types.specs.declared.session.SessionState.{SessionState}
use Rattle.sc_types.specs.declared.value.Value.{Value}
use Rattle.sc_types.specs.Values.{value_text}
use Rattle.sc_machine.specs.Hosts.{chart_named}
use Rattle.sc_report.specs.declared.end.End.{End}
use Rattle.sc_report.specs.declared.end.End.TheVariants as end
use Rattle.sc_report.specs.Lines.{line}
use Rattle.sc_law.specs.Tree.{node_of, id_of}
use Rattle.sc_report.specs.Entries.{entries_text, how_text}

-- the id of a state, else `#` and its number
abbrev pub state_text : Chart → ℕ → List ℕ
state_text c s = codes " " ++ unwrap_or (option_and_then id_of (node_of c s)) (codes "#" ++ decimal s)

-- the value of a datum that is set
abbrev pub setting_text : Option Value → List ℕ
setting_text None = []
setting_text (Some v) = codes "=" ++ value_text v

abbrev pub datum_text : List ℕ × Option Value → List ℕ
datum_text d = line (codes ". " ++ d.0 ++ setting_text d.1)

-- a session of this chart and state, with so many events in its external queue

abbrev pub live_text : Chart → SessionState → ℕ → List ℕ
live_text c s queued = line (codes "live in" ++ flat_map (state_text c) s.configuration)
    ++ flat_map datum_text s.values ++ line (codes "# " ++ decimal queued)

-- a session that has ended is one line; a live one has its active states, its data and the length of its queue
abbrev pub phase_text : Chart → SessionState → ℕ → Phase → List ℕ
phase_text c s queued (phase.Ended how) = line (how_text how)
phase_text c s queued phase.Fresh = live_text c s queued
phase_text c s queued phase.Running = live_text c s queued

abbrev pub state_line : Chart → SessionState → ℕ → List ℕ
state_line c s queued = s.session ++ codes " " ++ s.chart ++ codes " " ++ phase_text c s queued s.phase

abbrev pub session_text : HostImage → SessionImage → List ℕ
session_text g s = state_line (chart_named g s.state.chart) s.state (length s.queued)

-- the word for how a run ended
abbrev pub end_word : End → List ℕ
end_word end.Quiet = codes "quiet"
end_word end.Budget = codes "budget"
end_word end.Disk = codes "disk"
end_word end.Full = codes "full"
end_word end.Shown = codes "shown"

-- the report of a history: how many commands were journaled at the opening, the entries, the host at the end, and
-- the word for how the run ended
abbrev pub report : ℕ → HostImage → List Entry → End → List ℕ
report opened g history end =
    line (codes "open " ++ decimal opened) ++ entries_text 1 history
    ++ line (codes "sessions " ++ decimal (length g.sessions))
    ++ flat_map (session_text g) g.sessions
    ++ line (codes "clock " ++ decimal g.clock ++ codes " timers " ++ decimal (length g.timers))
    ++ line (codes "end " ++ end_word end)
