-- The changes that a command makes of the host machine, in order: the host after them, when they can be made, and the
-- room that they need. This host's own rule. `install` and `CanInstall` stand on it.
use Rattle.std.specs.Prelude.{ℕ, ◌++◌, ◌+◌, ◌-◌, ◌^◌, ◌<◌, ◌≤◌, ◌≡◌, All, List, [], ◌∷◌, Some, None, length, map, option_map, slice_get, unwrap_or}
use Rattle.std.specs.List.{AllByRecursion}
use Rattle.sc_types.specs.declared.host.HostImage.{HostImage}
use Rattle.sc_types.specs.declared.host.SessionImage.{SessionImage}
use Rattle.sc_types.specs.declared.host.TimerImage.{TimerImage}
use Rattle.sc_core.specs.Bodies.{children_room, failure_room, inviter, queue_room}
use Rattle.sc_core.specs.Changes.{IsFirstDue, clear_at, cut_off_at, drop_invoke, flag, lose, put_state, queue_at, take_front, tell, with_chart, with_send_pending, with_started, without_sends}
use Rattle.sc_machine.specs.Hosts.{chart_place, session_place}
use Rattle.sc_core.specs.declared.body.Body.{Body}
use Rattle.sc_core.specs.declared.body.InstalledChart.{InstalledChart}
use Rattle.sc_core.specs.declared.change.Change.{Change}
use Rattle.sc_core.specs.declared.change.Change.TheVariants.{Count, Advance, Install, Start, Bear, PutState, TakeFront, Queue, Tell, Flag, CutOff, DropInvoke, End, Delay, Undo, Lose}
use Rattle.sc_core.specs.declared.session.Session.{Session}

abbrev pub apply : {P : Type 0} → Change P → HostImage → HostImage
apply Count g = record g { commands = g.commands + 1 }
apply (Advance clock) g = record g { clock = clock }
apply (Install name chart) g = with_chart g chart.image
apply (Start name session) g = with_started g session
apply (Bear invoker name session) g = with_started g session
apply (PutState place state) g = put_state g place state
apply (TakeFront place) g = take_front g place
apply (Queue place e) g = queue_at g place e
apply (Tell place e) g = tell g place e
apply (Flag place) g = flag g place
apply (CutOff place) g = cut_off_at g place
apply (DropInvoke place child) g = drop_invoke g place child
apply (End place) g = clear_at g place
apply (Delay send) g = with_send_pending g send
apply (Undo session id) g = without_sends g session id
apply Lose g = lose g

-- each change is made of the host machine that the ones before it leave
abbrev pub installed : {P : Type 0} → List (Change P) → HostImage → HostImage
installed [] g = g
installed (c ∷ cs) g = installed cs (apply c g)

abbrev pub IsPlace : HostImage → ℕ → Type 0
IsPlace g place = place < length g.sessions

-- the session was invoked by the one at a place
abbrev pub IsChildAt : HostImage → ℕ → Session → Type 0
IsChildAt g invoker session = (name : List ℕ) × (inviter session ≡ Some name)
    × (option_map (λ (s : SessionImage). s.state.session) (slice_get g.sessions invoker) ≡ Some name)

-- what a change needs of the host machine
abbrev pub CanApply : {P : Type 0} → HostImage → Change P → Type 0
CanApply g Count = g.commands + 1 < 2 ^ 64
CanApply g (Advance clock) = Unit {0}
CanApply g (Install name chart) = (chart.image.name ≡ name) × (chart_place g name ≡ None)
CanApply g (Start name session) = (session.state.session ≡ name) × (session_place g name ≡ None)
    × (session.invoker ≡ None)
    × (session.children.items ≡ [])
CanApply g (Bear invoker name session) = (session.state.session ≡ name) × (session_place g name ≡ None)
    × IsChildAt g invoker session × (session.children.items ≡ [])
CanApply g (PutState place state) = IsPlace g place
    × (option_map (λ (s : SessionImage). s.state.session) (slice_get g.sessions place) ≡ Some state.session)
CanApply g (TakeFront place) = IsPlace g place
CanApply g (Queue place e) = IsPlace g place × (g.events + 1 < 2 ^ 128) × (e.number ≡ g.events + 1)
CanApply g (Tell place e) = IsPlace g place
CanApply g (Flag place) = IsPlace g place
CanApply g (CutOff place) = IsPlace g place
CanApply g (DropInvoke place child) = IsPlace g place
CanApply g (End place) = IsPlace g place
CanApply g (Delay send) = All (λ (t : TimerImage). t.number < send.number) g.timers
CanApply g (Undo session id) = Unit {0}
CanApply g Lose = IsFirstDue g.clock g.timers

abbrev pub CanApplyAll : {P : Type 0} → HostImage → List (Change P) → Type 0
CanApplyAll g [] = Unit {0}
CanApplyAll g (c ∷ cs) = CanApply g c × CanApplyAll (apply c g) cs

-- for how many events the queues of the sessions have room that are started, in order
abbrev pub new_rooms : {P : Type 0} → List (Change P) → List ℕ
new_rooms [] = []
new_rooms (Start name session ∷ cs) = session.queued.spare ∷ new_rooms cs
new_rooms (Bear invoker name session ∷ cs) = session.queued.spare ∷ new_rooms cs
new_rooms (c ∷ cs) = new_rooms cs

abbrev pub room_at : List ℕ → ℕ → ℕ
room_at rooms place = unwrap_or (slice_get rooms place) 0

-- the same of the sessions that are there
abbrev pub queue_rooms : {P : Type 0} → Body P → List ℕ
queue_rooms {P = P} h = map (λ (s : Session). s.queued.spare) h.sessions.items

-- and of both
abbrev pub rooms_ahead : {P : Type 0} → Body P → List (Change P) → List ℕ
rooms_ahead h cs = queue_rooms h ++ new_rooms cs

-- a session that is started is the last
abbrev pub IsNewest : {P : Type 0} → Body P → Body P → Change P → Type 0
IsNewest h k (Start name session) = slice_get k.sessions.items (length h.sessions.items) ≡ Some session
IsNewest h k (Bear invoker name session) = slice_get k.sessions.items (length h.sessions.items) ≡ Some session
IsNewest h k c = Unit {0}

-- there is room for so many changes where a change puts something; the rooms of the queues are these
abbrev pub HasRoom : {P : Type 0} → ℕ → Body P → List ℕ → Change P → Type 0
HasRoom n h rooms (Install name chart) = n ≤ h.charts.spare
HasRoom n h rooms (Start name session) = n ≤ h.sessions.spare
HasRoom n h rooms (Bear invoker name session) = (n ≤ h.sessions.spare) × (n ≤ children_room h invoker)
HasRoom n h rooms (Queue place e) = n ≤ room_at rooms place
HasRoom n h rooms (Tell place e) = n ≤ failure_room h place
HasRoom n h rooms (Delay send) = n ≤ h.timers.spare
HasRoom n h rooms c = Unit {0}

abbrev pub HaveRoomOf : {P : Type 0} → ℕ → Body P → List ℕ → List (Change P) → Type 0
HaveRoomOf n h rooms [] = Unit {0}
HaveRoomOf n h rooms (c ∷ cs) = HasRoom n h rooms c × HaveRoomOf n h rooms cs

abbrev pub HaveRoom : {P : Type 0} → ℕ → Body P → List (Change P) → Type 0
HaveRoom n h cs = HaveRoomOf n h (rooms_ahead h cs) cs

-- the body has room for so many changes where a change puts something
abbrev pub IsMadeFor : {P : Type 0} → ℕ → Body P → Change P → Type 0
IsMadeFor n h (Queue place e) = place < length h.sessions.items → n ≤ queue_room h place
IsMadeFor n h c = HasRoom n h [] c

abbrev pub AreMadeFor : {P : Type 0} → ℕ → Body P → List (Change P) → Type 0
AreMadeFor n h [] = Unit {0}
AreMadeFor n h (c ∷ cs) = IsMadeFor n h c × AreMadeFor n h cs

-- what a change puts something into is there
abbrev pub HasTarget : {P : Type 0} → ℕ → Change P → Type 0
HasTarget sessions (Bear invoker name session) = invoker < sessions
HasTarget sessions (Tell place e) = place < sessions
HasTarget sessions c = Unit {0}

abbrev pub HaveTargets : {P : Type 0} → ℕ → List (Change P) → Type 0
HaveTargets sessions [] = Unit {0}
HaveTargets sessions (c ∷ cs) = HasTarget sessions c × HaveTargets sessions cs

-- a queue that gets an event is there, or it is one of those that are started, and has room for so many
abbrev pub IsRoomy : {P : Type 0} → ℕ → ℕ → List ℕ → Change P → Type 0
IsRoomy sessions count rooms (Queue place e) = sessions ≤ place → count ≤ room_at rooms (place - sessions)
IsRoomy sessions count rooms c = Unit {0}

abbrev pub AreRoomy : {P : Type 0} → ℕ → List (Change P) → Type 0
AreRoomy {P = P} sessions cs = AllByRecursion (IsRoomy {P = P} sessions (length cs) (new_rooms cs)) cs

-- the installed charts with their plans, after a change and after all

abbrev pub charts_with : {P : Type 0} → Change P → List (InstalledChart P) → List (InstalledChart P)
charts_with (Install name chart) charts = charts ++ chart ∷ []
charts_with c charts = charts

abbrev pub charts_after : {P : Type 0} → List (Change P) → List (InstalledChart P) → List (InstalledChart P)
charts_after [] charts = charts
charts_after (c ∷ cs) charts = charts_after cs (charts_with c charts)
