-- The sessions of a host fit their charts. This host's own rule.
use Rattle.std.specs.Prelude.{IsTrue, ◌≡◌, true}
use Rattle.sc_types.specs.declared.host.HostImage.{HostImage}
use Rattle.sc_types.specs.declared.host.SessionImage.{SessionImage}
use Rattle.sc_law.specs.Fitting.{Fits}
use Rattle.sc_machine.specs.Hosts.{chart_named, has_chart, is_live}

-- the chart of a session is installed, and the session fits it while it lives
pub record FitsChart (g : HostImage) (s : SessionImage) : Type 0 where
  pub chart : IsTrue (has_chart g s.state.chart)
  pub fits : is_live s.state.phase ≡ true → Fits (chart_named g s.state.chart) s.state
