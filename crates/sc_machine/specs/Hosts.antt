-- The host's charts and sessions by name, and the host with one session changed. This host's own rule.
use Rattle.std.specs.Prelude.{ℕ, Bool, false, true, Option, option_map, option_and_then, unwrap_or, List, [], position, slice_get, slice_set}
use Rattle.std.specs.List.{list_any}
use Rattle.std.specs.Result.{result_ok}
use Rattle.std.specs.Str.{bytes_eq}
use Rattle.sc_types.specs.ChartTexts.{node}
use Rattle.sc_types.specs.declared.chart.Chart.{Chart}
use Rattle.sc_types.specs.declared.chart.Tag.TheVariants as tag
use Rattle.sc_types.specs.declared.host.ChartImage.{ChartImage}
use Rattle.sc_types.specs.declared.host.HostImage.{HostImage}
use Rattle.sc_types.specs.declared.host.SessionImage.{SessionImage}
use Rattle.sc_types.specs.declared.session.Phase.{Phase}
use Rattle.sc_types.specs.declared.session.Phase.TheVariants as phase
use Rattle.sc_law.specs.LegalCharts.{legal_chart_of}

-- before the first command
abbrev pub empty_host : HostImage
empty_host = record { clock = 0; commands = 0; events = 0; delayed = 0; charts = []; sessions = []; timers = [] }

-- charts and sessions by name; the charts' names are distinct, and so are the sessions'

abbrev pub is_chart_named : List ℕ → ChartImage → Bool
is_chart_named name chart = bytes_eq chart.name name

abbrev pub has_chart : HostImage → List ℕ → Bool
has_chart g name = list_any (is_chart_named name) g.charts

-- a root and nothing else
abbrev pub bare_chart : Chart
bare_chart = record { root = node tag.Scxml [] [] }

abbrev pub chart_place : HostImage → List ℕ → Option ℕ
chart_place g name = position (is_chart_named name) g.charts

abbrev pub chart_at : HostImage → ℕ → Option Chart
chart_at g place =
    option_and_then (λ (chart : ChartImage). result_ok (legal_chart_of chart.text)) (slice_get g.charts place)

-- the chart of a session, which is always among the charts; a name of none would mean the bare one
abbrev pub chart_named : HostImage → List ℕ → Chart
chart_named g name = unwrap_or (option_and_then (chart_at g) (chart_place g name)) bare_chart

abbrev pub is_session_named : List ℕ → SessionImage → Bool
is_session_named name s = bytes_eq s.state.session name

abbrev pub session_place : HostImage → List ℕ → Option ℕ
session_place g name = position (is_session_named name) g.sessions

-- the session of that name, with its place
abbrev pub session_named : HostImage → List ℕ → Option (ℕ × SessionImage)
session_named g name =
    option_and_then (λ place. option_map (λ s. (place, s)) (slice_get g.sessions place)) (session_place g name)

-- the session at a place is now this one
abbrev pub with_session : HostImage → ℕ → SessionImage → HostImage
with_session g place s = record g { sessions = slice_set g.sessions place s }

-- a session takes events until it has ended
abbrev pub is_live : Phase → Bool
is_live (phase.Ended how) = false
is_live p = true

-- a session that has been stepped and has not ended
abbrev pub is_running : Phase → Bool
is_running phase.Running = true
is_running p = false
