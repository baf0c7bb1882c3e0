-- The host's body as contracts see it, and when a list of changes can be installed. This host's own rule.
use Rattle.std.specs.Prelude.{ℕ, ◌*◌, ◌^◌, ◌≡◌, ◌≤◌, ◌++◌, All, List, [], ◌∷◌, Ok, length}
use Rattle.std.specs.Arc.{arc_value}
use Rattle.sc_types.specs.declared.chart.Chart.{Chart}
use Rattle.sc_types.specs.declared.host.HostImage.{HostImage}
use Rattle.sc_types.specs.declared.host.TimerImage.{TimerImage}
use Rattle.sc_types.specs.declared.limits.TheConstants.{CLOCK_LIMIT}
use Rattle.sc_law.specs.LegalCharts.{legal_chart_of}
use Rattle.sc_machine.specs.FittingHosts.{FitsChart}
use Rattle.sc_core.specs.Installing.{AreRoomy, CanApplyAll, HaveTargets, installed, new_rooms, room_at}
use Rattle.sc_core.specs.declared.body.InstalledChart.{InstalledChart}
use Rattle.sc_core.specs.declared.change.Change.{Change}
use Rattle.sc_core.specs.declared.change.Change.TheVariants.{Install, Start, Bear, Queue, Tell, Delay}

-- for how much more there is room; in the queues, and for children, by the sessions' places
pub record Rooms : Type 0 where
  pub charts : ℕ
  pub sessions : ℕ
  pub timers : ℕ
  pub ready : ℕ
  pub queued : List ℕ
  pub failures : List ℕ
  pub children : List ℕ

-- the host machine, and the rooms beside it
pub record HostOf : Type 0 where
  pub image : HostImage
  pub room : Rooms

-- what is always true of the host machine: sessions fit their charts, sends have numbers that were given out, no
-- command gave out as many numbers of events as a list may have items, and the clock is within its limit
pub record IsSound (g : HostImage) : Type 0 where
  pub sessions : All (FitsChart g) g.sessions
  pub sends : All (λ (t : TimerImage). t.number ≤ g.delayed) g.timers
  pub events : g.events ≤ g.commands * 2 ^ 64
  pub clock : g.clock ≤ CLOCK_LIMIT

-- the chart is the legal one which the text spells, and the plan is that chart's
pub record IsPlanned {P : Type 0} (chart_of : P → Chart) (c : InstalledChart P) : Type 0 where
  pub chart : legal_chart_of c.image.text ≡ Ok (arc_value c.chart)
  pub plan : chart_of (arc_value c.plan) ≡ arc_value c.chart

abbrev pub ArePlanned : {P : Type 0} → (P → Chart) → List (Change P) → Type 0
ArePlanned chart_of [] = Unit {0}
ArePlanned chart_of (Install name chart ∷ cs) = IsPlanned chart_of chart × ArePlanned chart_of cs
ArePlanned chart_of (c ∷ cs) = ArePlanned chart_of cs

-- there is room for so many changes where a change puts something; the queues have these rooms
abbrev pub HasRoomIn : {P : Type 0} → ℕ → Rooms → List ℕ → Change P → Type 0
HasRoomIn n r rooms (Install name chart) = n ≤ r.charts
HasRoomIn n r rooms (Start name session) = n ≤ r.sessions
HasRoomIn n r rooms (Bear invoker name session) = (n ≤ r.sessions) × (n ≤ room_at r.children invoker)
HasRoomIn n r rooms (Queue place e) = n ≤ room_at rooms place
HasRoomIn n r rooms (Tell place e) = n ≤ room_at r.failures place
HasRoomIn n r rooms (Delay send) = n ≤ r.timers
HasRoomIn n r rooms c = Unit {0}

abbrev pub HaveRoomOfIn : {P : Type 0} → ℕ → Rooms → List ℕ → List (Change P) → Type 0
HaveRoomOfIn n r rooms [] = Unit {0}
HaveRoomOfIn n r rooms (c ∷ cs) = HasRoomIn n r rooms c × HaveRoomOfIn n r rooms cs

-- the sessions that are started have queues with room too
abbrev pub HaveRoomIn : {P : Type 0} → ℕ → Rooms → List (Change P) → Type 0
HaveRoomIn n r cs = HaveRoomOfIn n r (r.queued ++ new_rooms cs) cs

-- each change can be made of the host machine that the ones before it leave, within the room that there is
pub record CanInstall {P : Type 0} (chart_of : P → Chart) (h : HostOf) (changes : List (Change P)) : Type 0 where
  pub can : CanApplyAll h.image changes
  pub ready : length changes ≤ h.room.ready
  pub room : HaveRoomIn (length changes) h.room changes
  pub plans : ArePlanned chart_of changes
  pub sound : IsSound (installed changes h.image)

-- for private clauses: the same but for the room
pub record CanMake {P : Type 0} (chart_of : P → Chart) (g : HostImage) (changes : List (Change P)) : Type 0 where
  pub can : CanApplyAll g changes
  pub targets : HaveTargets (length g.sessions) changes
  pub roomy : AreRoomy (length g.sessions) changes
  pub plans : ArePlanned chart_of changes
  pub sound : IsSound (installed changes g)
