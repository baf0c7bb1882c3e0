-- What is always true of the host's body.
use Rattle.std.proofs.Common.{◌≡◌, ℕ, ◌≤◌, All, List, [], ◌∷◌, ◌++◌, length, arith, ap, subst, sym}
use Rattle.sc_types.specs.declared.chart.Chart.{Chart}
use Rattle.sc_types.specs.declared.host.HostImage.{HostImage}
use Rattle.sc_types.specs.declared.host.TimerImage.{TimerImage}
use Rattle.sc_core.specs.Bodies.{Agrees, Keeps, image}
use Rattle.sc_machine.specs.FittingHosts.{FitsChart}
use Rattle.std.proofs.lemmas.List.Elements.{All-push}
use Rattle.sc_core.specs.Holding.{IsHeld, host_of, rooms_of}
use Rattle.sc_core.specs.HostStates.{ArePlanned, CanInstall, CanMake, HasRoomIn, HaveRoomIn, HaveRoomOfIn, IsPlanned, IsSound}
use Rattle.sc_core.specs.Installing.{CanApplyAll, HasRoom, HaveRoom, HaveRoomOf, charts_after, installed, rooms_ahead}
use Rattle.sc_core.specs.declared.change.Change.{Change}
use Rattle.sc_core.specs.declared.change.Change.TheVariants.{Count, Advance, Install, Start, Bear, PutState, TakeFront, Queue, Tell, Flag, CutOff, DropInvoke, End, Delay, Undo, Lose}
use Rattle.sc_core.proofs.RoomLemmas.{room_is}
use Rattle.sc_core.specs.declared.session.Session.{Session}
use Rattle.sc_machine.specs.Hosts.{empty_host}
use Rattle.sc_core.specs.declared.body.Body.{Body}
use Rattle.sc_core.specs.declared.body.InstalledChart.{InstalledChart}

all_none : {X : Type 0} (P : X → Type 0) (xs : List X) → xs ≡ [] → All P xs
all_none P xs none = subst (All P) (sym none) (λ i d l. absurd (omega (arith, l)))

-- the body before the first command
pub held_empty : {P : Type 0} (chart_of : P → Chart) (h : Body P) → image h ≡ empty_host → Agrees h → h.charts.items ≡ []
    → IsHeld chart_of h
held_empty chart_of h is agrees charts =
    let events = ap (λ (g : HostImage). g.events) is in
    let clock = ap (λ (g : HostImage). g.clock) is in
    record {
      agrees = agrees;
      plans = all_none (IsPlanned chart_of) h.charts.items charts;
      sound = record {
        sessions = all_none (FitsChart (image h)) (image h).sessions (ap (λ (g : HostImage). g.sessions) is);
        sends = all_none (λ (t : TimerImage). t.number ≤ h.delayed) h.timers.sends (ap (λ (g : HostImage). g.timers) is);
        events = omega (arith, events);
        clock = omega (arith, clock);
      };
    }

has_room : {P : Type 0} (n : ℕ) (h : Body P) (rooms : List ℕ) (c : Change P) → HasRoomIn n (rooms_of h) rooms c
    → HasRoom n h rooms c
has_room n h rooms Count r = tt
has_room n h rooms (Advance clock) r = tt
has_room n h rooms (Install name chart) r = r
has_room n h rooms (Start name session) r = r
has_room n h rooms (Bear invoker name session) r = (r.0, subst (λ m. n ≤ m) (room_is (λ (s : Session). s.children.spare) h.sessions.items invoker) r.1)
has_room n h rooms (PutState place state) r = tt
has_room n h rooms (TakeFront place) r = tt
has_room n h rooms (Queue place e) r = r
has_room n h rooms (Tell place e) r = subst (λ m. n ≤ m) (room_is (λ (s : Session). s.failures.spare) h.sessions.items place) r
has_room n h rooms (Flag place) r = tt
has_room n h rooms (CutOff place) r = tt
has_room n h rooms (DropInvoke place child) r = tt
has_room n h rooms (End place) r = tt
has_room n h rooms (Delay send) r = r
has_room n h rooms (Undo session id) r = tt
has_room n h rooms Lose r = tt

have_room_of : {P : Type 0} (n : ℕ) (h : Body P) (rooms : List ℕ) (cs : List (Change P))
    → HaveRoomOfIn n (rooms_of h) rooms cs → HaveRoomOf n h rooms cs
have_room_of n h rooms [] r = tt
have_room_of n h rooms (c ∷ cs) r = (has_room n h rooms c r.0, have_room_of n h rooms cs r.1)

-- the room that contracts speak of is that of the body
pub have_room : {P : Type 0} (n : ℕ) (h : Body P) (cs : List (Change P)) → HaveRoomIn n (rooms_of h) cs → HaveRoom n h cs
have_room n h cs r = have_room_of n h (rooms_ahead h cs) cs r

-- the charts that changes install have their plans
pub planned_after : {P : Type 0} (chart_of : P → Chart) (cs : List (Change P)) (charts : List (InstalledChart P))
    → All (IsPlanned chart_of) charts → ArePlanned chart_of cs → All (IsPlanned chart_of) (charts_after cs charts)
planned_after chart_of [] charts all are = all
planned_after chart_of (Install name chart ∷ cs) charts all are =
    planned_after chart_of cs (charts ++ chart ∷ []) (All-push (IsPlanned chart_of) charts chart all are.0) are.1
planned_after chart_of (Count ∷ cs) charts all are = planned_after chart_of cs charts all are
planned_after chart_of (Advance clock ∷ cs) charts all are = planned_after chart_of cs charts all are
planned_after chart_of (Start name session ∷ cs) charts all are = planned_after chart_of cs charts all are
planned_after chart_of (Bear invoker name session ∷ cs) charts all are = planned_after chart_of cs charts all are
planned_after chart_of (PutState place state ∷ cs) charts all are = planned_after chart_of cs charts all are
planned_after chart_of (TakeFront place ∷ cs) charts all are = planned_after chart_of cs charts all are
planned_after chart_of (Queue place e ∷ cs) charts all are = planned_after chart_of cs charts all are
planned_after chart_of (Tell place e ∷ cs) charts all are = planned_after chart_of cs charts all are
planned_after chart_of (Flag place ∷ cs) charts all are = planned_after chart_of cs charts all are
planned_after chart_of (CutOff place ∷ cs) charts all are = planned_after chart_of cs charts all are
planned_after chart_of (DropInvoke place child ∷ cs) charts all are = planned_after chart_of cs charts all are
planned_after chart_of (End place ∷ cs) charts all are = planned_after chart_of cs charts all are
planned_after chart_of (Delay send ∷ cs) charts all are = planned_after chart_of cs charts all are
planned_after chart_of (Undo session id ∷ cs) charts all are = planned_after chart_of cs charts all are
planned_after chart_of (Lose ∷ cs) charts all are = planned_after chart_of cs charts all are

-- the body is held after the changes
pub held_after : {P : Type 0} (chart_of : P → Chart) (h k : Body P) (cs : List (Change P)) → IsHeld chart_of h
    → CanInstall chart_of (host_of h) cs → Agrees k → image k ≡ installed cs (image h)
    → k.charts.items ≡ charts_after cs h.charts.items → IsHeld chart_of k
held_after chart_of h k cs held can agrees is charts = record {
  agrees = agrees;
  plans = subst (All (IsPlanned chart_of)) (sym charts) (planned_after chart_of cs h.charts.items held.plans can.plans);
  sound = subst IsSound (sym is) can.sound;
}

room_of : {P : Type 0} (n : ℕ) (h : Body P) (rooms : List ℕ) (c : Change P) → HasRoom n h rooms c
    → HasRoomIn n (rooms_of h) rooms c
room_of n h rooms Count r = tt
room_of n h rooms (Advance clock) r = tt
room_of n h rooms (Install name chart) r = r
room_of n h rooms (Start name session) r = r
room_of n h rooms (Bear invoker name session) r = (r.0, subst (λ m. n ≤ m) (sym (room_is (λ (s : Session). s.children.spare) h.sessions.items invoker)) r.1)
room_of n h rooms (PutState place state) r = tt
room_of n h rooms (TakeFront place) r = tt
room_of n h rooms (Queue place e) r = r
room_of n h rooms (Tell place e) r = subst (λ m. n ≤ m) (sym (room_is (λ (s : Session). s.failures.spare) h.sessions.items place)) r
room_of n h rooms (Flag place) r = tt
room_of n h rooms (CutOff place) r = tt
room_of n h rooms (DropInvoke place child) r = tt
room_of n h rooms (End place) r = tt
room_of n h rooms (Delay send) r = r
room_of n h rooms (Undo session id) r = tt
room_of n h rooms Lose r = tt

rooms_of_in : {P : Type 0} (n : ℕ) (h : Body P) (rooms : List ℕ) (cs : List (Change P)) → HaveRoomOf n h rooms cs
    → HaveRoomOfIn n (rooms_of h) rooms cs
rooms_of_in n h rooms [] r = tt
rooms_of_in n h rooms (c ∷ cs) r = (room_of n h rooms c r.0, rooms_of_in n h rooms cs r.1)

rooms_in : {P : Type 0} (n : ℕ) (h : Body P) (cs : List (Change P)) → HaveRoom n h cs → HaveRoomIn n (rooms_of h) cs
rooms_in n h cs r = rooms_of_in n h (rooms_ahead h cs) cs r

-- changes for which room was made can be installed
pub can_install : {P : Type 0} (chart_of : P → Chart) (h k : Body P) (cs : List (Change P)) → Keeps h k
    → CanMake chart_of (image h) cs → length cs ≤ k.ready.spare → HaveRoom (length cs) k cs
    → CanInstall chart_of (host_of k) cs
can_install chart_of h k cs keeps can ready room = record {
  can = subst (λ g. CanApplyAll g cs) (sym keeps.image) can.can;
  ready = ready;
  room = rooms_in (length cs) k cs room;
  plans = can.plans;
  sound = subst (λ g. IsSound (installed cs g)) (sym keeps.image) can.sound;
}
