-- The host's body as the host machine that it stands for. This host's own rule. Public contracts cite `cued` alone, by
-- which a ready session is found; the rest is for private clauses.
use Rattle.std.specs.Prelude.{ℕ, ◌+◌, ◌≡◌, ◌≤◌, ◌==◌, not, filter, Bool, false, if◌then◌else◌, Option, option_map, List, [], ◌∷◌, ◌++◌, map, slice_get}
use Rattle.std.specs.Option.{option_map_or}
use Rattle.std.specs.Str.{bytes_eq}
use Rattle.sc_types.specs.declared.host.HostImage.{HostImage}
use Rattle.sc_types.specs.declared.host.InvokerImage.{InvokerImage}
use Rattle.sc_types.specs.declared.host.SessionImage.{SessionImage}
use Rattle.sc_base.specs.Ascending.{with_number}
use Rattle.std.specs.List.{list_any}
use Rattle.sc_machine.specs.Cues.{is_ready}
use Rattle.sc_core.specs.declared.body.Body.{Body}
use Rattle.sc_core.specs.declared.body.InstalledChart.{InstalledChart}
use Rattle.sc_core.specs.declared.session.Session.{Session}

-- the internal queue is in two parts
abbrev pub session_image : Session → SessionImage
session_image s = record {
  state = record s.state { internal = s.state.internal ++ s.failures.items };
  queued = s.queued.items;
  flagged = s.flagged;
  invoker = s.invoker;
  depth = s.depth;
}

abbrev pub image : {P : Type 0} → Body P → HostImage
image {P = P} h = record {
  clock = h.clock;
  commands = h.commands;
  events = h.events;
  delayed = h.delayed;
  charts = map (λ (c : InstalledChart P). c.image) h.charts.items;
  sessions = map session_image h.sessions.items;
  timers = h.timers.sends;
}

-- the places, from a first one on, of the sessions that have a cue
abbrev pub cued : ℕ → List SessionImage → List ℕ
cued from [] = []
cued from (s ∷ ss) = if is_ready s then from ∷ cued (from + 1) ss else cued (from + 1) ss

-- a place among them, where its session has a cue, and otherwise not
abbrev pub marked : Bool → ℕ → List ℕ → List ℕ
marked ready place places = if ready then with_number place places else filter (λ member. not (member == place)) places

-- the name of the session that invoked a session
abbrev pub inviter : Session → Option (List ℕ)
inviter s = option_map (λ (i : InvokerImage). i.session) s.invoker

abbrev pub is_invited : List ℕ → Option (List ℕ) → Bool
is_invited name by = option_map_or (λ other. bytes_eq other name) by false

-- the places, from a first one on, of the sessions that the one of a name invoked
abbrev pub children_of : List ℕ → ℕ → List (Option (List ℕ)) → List ℕ
children_of name from [] = []
children_of name from (by ∷ more) =
    if is_invited name by then from ∷ children_of name (from + 1) more else children_of name (from + 1) more

-- of each name the list of its children; a name of no session invoked none
pub record IsFamily (names : List (List ℕ)) (inviters : List (Option (List ℕ))) (lists : List (List ℕ)) : Type 0 where
  pub each : lists ≡ map (λ name. children_of name 0 inviters) names
  pub strangers : (name : List ℕ) → list_any (λ other. bytes_eq other name) names ≡ false
      → children_of name 0 inviters ≡ []

-- what the body holds beside its data agrees with them
pub record Agrees {P : Type 0} (h : Body P) : Type 0 where
  pub charts : h.charts.names ≡ map (λ (c : InstalledChart P). c.image.name) h.charts.items
  pub sessions : h.sessions.names ≡ map (λ (s : Session). s.state.session) h.sessions.items
  pub ready : h.ready.places ≡ cued 0 (map session_image h.sessions.items)
  pub family : IsFamily h.sessions.names (map inviter h.sessions.items)
      (map (λ (s : Session). s.children.items) h.sessions.items)

-- for how many events a session's queue has room, how many failures, and how many children

abbrev pub queue_room : {P : Type 0} → Body P → ℕ → ℕ
queue_room {P = P} h place = option_map_or (λ (s : Session). s.queued.spare) (slice_get h.sessions.items place) 0

abbrev pub failure_room : {P : Type 0} → Body P → ℕ → ℕ
failure_room {P = P} h place = option_map_or (λ (s : Session). s.failures.spare) (slice_get h.sessions.items place) 0

abbrev pub children_room : {P : Type 0} → Body P → ℕ → ℕ
children_room {P = P} h place = option_map_or (λ (s : Session). s.children.spare) (slice_get h.sessions.items place) 0

-- each room is less by one at most
pub record Lowers {P : Type 0} (h k : Body P) : Type 0 where
  pub charts : h.charts.spare ≤ k.charts.spare + 1
  pub sessions : h.sessions.spare ≤ k.sessions.spare + 1
  pub timers : h.timers.spare ≤ k.timers.spare + 1
  pub ready : h.ready.spare ≤ k.ready.spare + 1
  pub queued : (place : ℕ) → queue_room h place ≤ queue_room k place + 1
  pub failures : (place : ℕ) → failure_room h place ≤ failure_room k place + 1
  pub children : (place : ℕ) → children_room h place ≤ children_room k place + 1

-- a change makes this host machine of the body
pub record Makes {P : Type 0} (g : HostImage) (h k : Body P) : Type 0 where
  pub image : image k ≡ g
  pub agrees : Agrees k
  pub room : Lowers h k

-- only rooms are changed, and none is less
pub record Keeps {P : Type 0} (h k : Body P) : Type 0 where
  pub charts : h.charts.spare ≤ k.charts.spare
  pub sessions : h.sessions.spare ≤ k.sessions.spare
  pub timers : h.timers.spare ≤ k.timers.spare
  pub ready : h.ready.spare ≤ k.ready.spare
  pub queued : (place : ℕ) → queue_room h place ≤ queue_room k place
  pub failures : (place : ℕ) → failure_room h place ≤ failure_room k place
  pub children : (place : ℕ) → children_room h place ≤ children_room k place
  pub agrees : Agrees k
  pub image : image k ≡ image h
