-- What is always true of the host's body. This host's own rule; only private clauses cite these definitions.
use Rattle.std.specs.Prelude.{All, map}
use Rattle.sc_types.specs.declared.chart.Chart.{Chart}
use Rattle.sc_core.specs.Bodies.{Agrees, image}
use Rattle.sc_core.specs.HostStates.{HostOf, IsPlanned, IsSound, Rooms}
use Rattle.sc_core.specs.declared.body.Body.{Body}
use Rattle.sc_core.specs.declared.session.Session.{Session}

abbrev pub rooms_of : {P : Type 0} → Body P → Rooms
rooms_of {P = P} h = record {
  charts = h.charts.spare;
  sessions = h.sessions.spare;
  timers = h.timers.spare;
  ready = h.ready.spare;
  queued = map (λ (s : Session). s.queued.spare) h.sessions.items;
  failures = map (λ (s : Session). s.failures.spare) h.sessions.items;
  children = map (λ (s : Session). s.children.spare) h.sessions.items;
}

abbrev pub host_of : {P : Type 0} → Body P → HostOf
host_of {P = P} h = record { image = image h; room = rooms_of h }

pub record IsHeld {P : Type 0} (chart_of : P → Chart) (h : Body P) : Type 0 where
  pub agrees : Agrees h
  pub plans : All (IsPlanned chart_of) h.charts.items
  pub sound : IsSound (image h)
