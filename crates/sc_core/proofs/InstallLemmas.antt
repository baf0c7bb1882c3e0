-- The changes of a list are made one after another, within the room that was made for all.
use Rattle.std.proofs.Common.{◌≡◌, ℕ, ◌+◌, ◌-◌, ◌<◌, ◌≤◌, ◌==◌, ◌++◌, nat_lt, zero, suc, Bool, true, false, Option, Some, None, List, [], ◌∷◌, IfSome, length, length-append, slice_get, refl, arith, ap, subst, sym, ◌∙◌}
use Rattle.std.proofs.lemmas.Bool.Decides.{nat_tests}
use Rattle.std.proofs.lemmas.List.{length-set}
use Rattle.std.specs.Option.{option_map_or}
use Rattle.sc_types.specs.declared.event.Event.{Event}
use Rattle.sc_types.specs.declared.host.HostImage.{HostImage}
use Rattle.sc_types.specs.declared.host.SessionImage.{SessionImage}
use Rattle.sc_types.specs.declared.session.Phase.{Phase}
use Rattle.sc_types.specs.declared.session.Phase.TheVariants as phase
use Rattle.sc_core.specs.Bodies.{Agrees, Lowers, Makes, image, session_image}
use Rattle.sc_core.specs.ChangeLists.{first_of, taken_of}
use Rattle.sc_core.specs.Changes.{at_session, clear_at, clear_in, queue_at}
use Rattle.sc_machine.specs.Deliveries.{queue}
use Rattle.sc_machine.specs.Hosts.{with_session}
use Rattle.sc_core.specs.Installing.{CanApply, CanApplyAll, HasRoom, HaveRoom, HaveRoomOf, IsNewest, apply, charts_after, charts_with, installed, new_rooms, queue_rooms, room_at, rooms_ahead}
use Rattle.sc_core.specs.Makings.{CanChange, CanMakeFirst, Installs}
use Rattle.sc_core.specs.declared.body.Body.{Body}
use Rattle.sc_core.specs.declared.change.Change.{Change}
use Rattle.sc_core.specs.declared.change.Change.TheVariants.{Count, Advance, Install, Start, Bear, PutState, TakeFront, Queue, Tell, Flag, CutOff, DropInvoke, End, Delay, Undo, Lose}
use Rattle.sc_core.specs.declared.session.Session.{Session}
use Rattle.sc_core.proofs.RoomLemmas.{room_first, room_is, room_second}
use Rattle.sc_core.proofs.SetLemmas.{map_long}

-- each queue's room is less by one at most
abbrev FewLess : List ℕ → List ℕ → Type 0
FewLess rooms others = (place : ℕ) → room_at rooms place ≤ room_at others place + 1

room_left : {P : Type 0} (n : ℕ) (h k : Body P) (rooms others : List ℕ) (c : Change P) → Lowers h k → FewLess rooms others
    → HasRoom (suc n) h rooms c → HasRoom n k others c
room_left n h k rooms others Count l few r = tt
room_left n h k rooms others (Advance clock) l few r = tt
room_left n h k rooms others (Install name chart) l few r = omega (arith, l.charts, r)
room_left n h k rooms others (Start name session) l few r = omega (arith, l.sessions, r)
room_left n h k rooms others (Bear invoker name session) l few r = let at = l.children invoker in (omega (arith, l.sessions, r.0), omega (arith, at, r.1))
room_left n h k rooms others (PutState place state) l few r = tt
room_left n h k rooms others (TakeFront place) l few r = tt
room_left n h k rooms others (Queue place e) l few r = let at = few place in omega (arith, at, r)
room_left n h k rooms others (Tell place e) l few r = let at = l.failures place in omega (arith, at, r)
room_left n h k rooms others (Flag place) l few r = tt
room_left n h k rooms others (CutOff place) l few r = tt
room_left n h k rooms others (DropInvoke place child) l few r = tt
room_left n h k rooms others (End place) l few r = tt
room_left n h k rooms others (Delay send) l few r = omega (arith, l.timers, r)
room_left n h k rooms others (Undo session id) l few r = tt
room_left n h k rooms others Lose l few r = tt

rooms_left : {P : Type 0} (n : ℕ) (h k : Body P) (rooms others : List ℕ) (cs : List (Change P)) → Lowers h k
    → FewLess rooms others → HaveRoomOf (suc n) h rooms cs → HaveRoomOf n k others cs
rooms_left n h k rooms others [] l few r = tt
rooms_left n h k rooms others (c ∷ cs) l few r =
    (room_left n h k rooms others c l few r.0, rooms_left n h k rooms others cs l few r.1)

queue_one : {P : Type 0} (n : ℕ) (h : Body P) (rooms : List ℕ) (place : ℕ) → place < length (image h).sessions
    → suc n ≤ room_at (queue_rooms h ++ rooms) place → 1 ≤ room_at (queue_rooms h) place
queue_one n h rooms place within r =
    let long = map_long session_image h.sessions.items in
    let own = map_long (λ (s : Session). s.queued.spare) h.sessions.items in
    let first = room_first (queue_rooms h) rooms place (omega (arith, within, long, own)) in
    omega (arith, first, r)

room_one : {P : Type 0} (n : ℕ) (h : Body P) (rooms : List ℕ) (c : Change P) → CanApply (image h) c
    → HasRoom (suc n) h (queue_rooms h ++ rooms) c → HasRoom 1 h (queue_rooms h) c
room_one n h rooms Count can r = tt
room_one n h rooms (Advance clock) can r = tt
room_one n h rooms (Install name chart) can r = omega (arith, r)
room_one n h rooms (Start name session) can r = omega (arith, r)
room_one n h rooms (Bear invoker name session) can r = (omega (arith, r.0), omega (arith, r.1))
room_one n h rooms (PutState place state) can r = tt
room_one n h rooms (TakeFront place) can r = tt
room_one n h rooms (Queue place e) can r = queue_one n h rooms place can.0 r
room_one n h rooms (Tell place e) can r = omega (arith, r)
room_one n h rooms (Flag place) can r = tt
room_one n h rooms (CutOff place) can r = tt
room_one n h rooms (DropInvoke place child) can r = tt
room_one n h rooms (End place) can r = tt
room_one n h rooms (Delay send) can r = omega (arith, r)
room_one n h rooms (Undo session id) can r = tt
room_one n h rooms Lose can r = tt

-- ---- the rooms ahead

-- one session at a place is changed
at_long : (g : HostImage) (place : ℕ) (f : SessionImage → SessionImage)
    → length (at_session g place f).sessions ≡ length g.sessions
at_long g place f = by (slice_get g.sessions place)
  where
    by : (o : Option SessionImage)
        → length (option_map_or (λ (s : SessionImage). with_session g place (f s)) o g).sessions ≡ length g.sessions
    by None = refl
    by (Some s) = length-set g.sessions place (f s)

queue_long : (g : HostImage) (place : ℕ) (e : Event) → length (queue_at g place e).sessions ≡ length g.sessions
queue_long g place e = by (slice_get g.sessions place)
  where
    by : (o : Option SessionImage)
        → length (option_map_or (λ (s : SessionImage). queue g place s e) o g).sessions ≡ length g.sessions
    by None = refl
    by (Some s) = length-set g.sessions place _

clear_long : (g : HostImage) (place : ℕ) → length (clear_at g place).sessions ≡ length g.sessions
unfolding clear_at
clear_long g place = by (slice_get g.sessions place)
  where
    in_phase : (s : SessionImage) (p : Phase) → length (clear_in g place s p).sessions ≡ length g.sessions
    in_phase s (phase.Ended how) = length-set g.sessions place (record s { queued = [] })
    in_phase s phase.Fresh = refl
    in_phase s phase.Running = refl

    by : (o : Option SessionImage)
        → length (option_map_or (λ (s : SessionImage). clear_in g place s s.state.phase) o g).sessions ≡ length g.sessions
    by None = refl
    by (Some s) = in_phase s s.state.phase

-- no session is started
abbrev IsNoStart : {P : Type 0} → Change P → Type 0
IsNoStart (Start name session) = ⊥
IsNoStart (Bear invoker name session) = ⊥
IsNoStart c = Unit {0}

-- what starts none leaves as many sessions as there were
pub apply_long : {P : Type 0} (c : Change P) (g : HostImage) → IsNoStart c → length (apply c g).sessions ≡ length g.sessions
apply_long Count g quiet = refl
apply_long (Advance clock) g quiet = refl
apply_long (Install name chart) g quiet = refl
apply_long (Start name session) g quiet = absurd quiet
apply_long (Bear invoker name session) g quiet = absurd quiet
apply_long (PutState place state) g quiet = at_long g place _
apply_long (TakeFront place) g quiet = at_long g place _
apply_long (Queue place e) g quiet = queue_long g place e
apply_long (Tell place e) g quiet = at_long g place _
apply_long (Flag place) g quiet = at_long g place _
apply_long (CutOff place) g quiet = at_long g place _
apply_long (DropInvoke place child) g quiet = at_long g place _
apply_long (End place) g quiet = clear_long g place
apply_long (Delay send) g quiet = refl
apply_long (Undo session id) g quiet = refl
apply_long Lose g quiet = refl

same_ahead : {P : Type 0} (h k : Body P) (rooms : List ℕ) → length k.sessions.items ≡ length h.sessions.items → Lowers h k
    → FewLess (queue_rooms h ++ rooms) (queue_rooms k ++ rooms)
same_ahead {P = P} h k rooms long lowers = λ place. by place (nat_lt place (length h.sessions.items)) refl
  where
    spare : Session → ℕ
    spare s = s.queued.spare

    by : (place : ℕ) (b : Bool) → nat_lt place (length h.sessions.items) ≡ b
        → room_at (queue_rooms h ++ rooms) place ≤ room_at (queue_rooms k ++ rooms) place + 1
    by place true at =
        let within : place < length h.sessions.items = grind (arith, nat_tests, at) in
        let one = room_first (queue_rooms h) rooms place (omega (arith, within, map_long spare h.sessions.items)) in
        let two = room_first (queue_rooms k) rooms place (omega (arith, within, long, map_long spare k.sessions.items)) in
        let less = lowers.queued place in
        omega (arith, one, two, less, room_is spare h.sessions.items place, room_is spare k.sessions.items place)
    by place false at =
        let past : length h.sessions.items ≤ place = grind (arith, nat_tests, at) in
        let one = room_second (queue_rooms h) rooms place (omega (arith, past, map_long spare h.sessions.items)) in
        let two = room_second (queue_rooms k) rooms place (omega (arith, past, long, map_long spare k.sessions.items)) in
        let same : length (queue_rooms h) ≡ length (queue_rooms k) =
        map_long spare h.sessions.items ∙ sym long ∙ sym (map_long spare k.sessions.items) in
        let alike = ap (λ n. room_at rooms (place - n)) same in
        omega (arith, one, two, alike)

new_ahead : {P : Type 0} (h k : Body P) (s : Session) (rooms : List ℕ)
    → length k.sessions.items ≡ length h.sessions.items + 1
    → slice_get k.sessions.items (length h.sessions.items) ≡ Some s → Lowers h k
    → FewLess (queue_rooms h ++ s.queued.spare ∷ rooms) (queue_rooms k ++ rooms)
new_ahead {P = P} h k s rooms long newest lowers =
    λ place. by place (nat_lt place (length h.sessions.items)) refl (place == length h.sessions.items) refl
  where
    spare : Session → ℕ
    spare x = x.queued.spare

    later : ℕ → List ℕ → ℕ → ℕ
    later x xs n = room_at (x ∷ xs) n

    step : (x : ℕ) (xs : List ℕ) (n : ℕ) → 0 < n → room_at (x ∷ xs) n ≡ room_at xs (n - 1)
    step x xs zero l = absurd (omega (arith, l))
    step x xs (suc n) l = ap (room_at xs) (omega arith)

    by : (place : ℕ) (b : Bool) → nat_lt place (length h.sessions.items) ≡ b → (c : Bool)
        → (place == length h.sessions.items) ≡ c
        → room_at (queue_rooms h ++ s.queued.spare ∷ rooms) place ≤ room_at (queue_rooms k ++ rooms) place + 1
    by place true at c here =
        let within : place < length h.sessions.items = grind (arith, nat_tests, at) in
        let one = room_first (queue_rooms h) (s.queued.spare ∷ rooms) place (omega (arith, within, map_long spare h.sessions.items)) in
        let two = room_first (queue_rooms k) rooms place (omega (arith, within, long, map_long spare k.sessions.items)) in
        let less = lowers.queued place in
        omega (arith, one, two, less, room_is spare h.sessions.items place, room_is spare k.sessions.items place)
    by place false at true here =
        let is : place ≡ length h.sessions.items = grind (arith, nat_tests, here) in
        let own = map_long spare h.sessions.items in
        let one = room_second (queue_rooms h) (s.queued.spare ∷ rooms) place (omega (arith, is, own)) in
        let none : place - length (queue_rooms h) ≡ 0 = omega (arith, is, own) in
        let first = ap (λ n. room_at (s.queued.spare ∷ rooms) n) none in
        let two = room_first (queue_rooms k) rooms place (omega (arith, is, long, map_long spare k.sessions.items)) in
        let there : room_at (queue_rooms k) place ≡ s.queued.spare =
        room_is spare k.sessions.items place ∙ ap (λ n. option_map_or spare (slice_get k.sessions.items n) 0) is
        ∙ ap (λ o. option_map_or spare o 0) newest in
        omega (arith, one, first, two, there)
    by place false at false here =
        let past : length h.sessions.items < place = grind (arith, nat_tests, at, here) in
        let own = map_long spare h.sessions.items in
        let new = map_long spare k.sessions.items in
        let one = room_second (queue_rooms h) (s.queued.spare ∷ rooms) place (omega (arith, past, own)) in
        let two = room_second (queue_rooms k) rooms place (omega (arith, past, long, new)) in
        let next = step s.queued.spare rooms (place - length (queue_rooms h)) (omega (arith, past, own)) in
        let same : place - length (queue_rooms h) - 1 ≡ place - length (queue_rooms k) = omega (arith, past, own, new, long) in
        let alike = ap (room_at rooms) same in
        omega (arith, one, two, next, alike)

items_long : {P : Type 0} (h k : Body P) (c : Change P) (n : ℕ) → image k ≡ apply c (image h)
    → length (apply c (image h)).sessions ≡ length (image h).sessions + n
    → length k.sessions.items ≡ length h.sessions.items + n
items_long h k c n is long =
    let all = ap (λ (g : HostImage). length g.sessions) is in
    omega (arith, all, long, map_long session_image h.sessions.items, map_long session_image k.sessions.items)

none_ahead : {P : Type 0} (h k : Body P) (c : Change P) (cs : List (Change P)) → IsNoStart c → Makes (apply c (image h)) h k
    → FewLess (queue_rooms h ++ new_rooms cs) (queue_rooms k ++ new_rooms cs)
none_ahead h k c cs quiet made =
    let long = items_long h k c 0 made.image (apply_long c (image h) quiet ∙ omega arith) in
    same_ahead h k (new_rooms cs) (omega (arith, long)) made.room

-- a change leaves the rooms ahead, but for one
rooms_lowered : {P : Type 0} (h k : Body P) (c : Change P) (cs : List (Change P)) → Makes (apply c (image h)) h k
    → IsNewest h k c → FewLess (rooms_ahead h (c ∷ cs)) (rooms_ahead k cs)
rooms_lowered h k Count cs made newest = none_ahead h k Count cs tt made
rooms_lowered h k (Advance clock) cs made newest = none_ahead h k (Advance clock) cs tt made
rooms_lowered h k (Install name chart) cs made newest = none_ahead h k (Install name chart) cs tt made
rooms_lowered h k (Start name session) cs made newest =
    new_ahead h k session (new_rooms cs) (items_long h k (Start name session) 1 made.image
    (length-append (image h).sessions (session_image session ∷ []))) newest made.room
rooms_lowered h k (Bear invoker name session) cs made newest =
    new_ahead h k session (new_rooms cs) (items_long h k (Bear invoker name session) 1 made.image
    (length-append (image h).sessions (session_image session ∷ []))) newest made.room
rooms_lowered h k (PutState place state) cs made newest = none_ahead h k (PutState place state) cs tt made
rooms_lowered h k (TakeFront place) cs made newest = none_ahead h k (TakeFront place) cs tt made
rooms_lowered h k (Queue place e) cs made newest = none_ahead h k (Queue place e) cs tt made
rooms_lowered h k (Tell place e) cs made newest = none_ahead h k (Tell place e) cs tt made
rooms_lowered h k (Flag place) cs made newest = none_ahead h k (Flag place) cs tt made
rooms_lowered h k (CutOff place) cs made newest = none_ahead h k (CutOff place) cs tt made
rooms_lowered h k (DropInvoke place child) cs made newest = none_ahead h k (DropInvoke place child) cs tt made
rooms_lowered h k (End place) cs made newest = none_ahead h k (End place) cs tt made
rooms_lowered h k (Delay send) cs made newest = none_ahead h k (Delay send) cs tt made
rooms_lowered h k (Undo session id) cs made newest = none_ahead h k (Undo session id) cs tt made
rooms_lowered h k Lose cs made newest = none_ahead h k Lose cs tt made

pub next_change : {P : Type 0} (whole rest : List (Change P)) (c : Change P) (cs : List (Change P)) (h k : Body P)
    → rest ≡ c ∷ cs → Installs whole rest h k → CanChange c k
next_change {P = P} whole rest c cs h k is l =
    let now = subst (λ (xs : List (Change P)). Installs whole xs h k) is l in
    record { can = now.can.0; ready = omega (arith, now.ready); room = room_one (length cs) k (new_rooms (c ∷ cs)) c now.can.0 now.room.0 }

pub one_installed : {P : Type 0} (whole rest : List (Change P)) (c : Change P) (cs : List (Change P)) (h k m : Body P)
    → rest ≡ c ∷ cs → Installs whole rest h k → Makes (apply c (image k)) k m → IsNewest k m c
    → m.charts.items ≡ charts_with c k.charts.items → Installs whole cs h m
one_installed {P = P} whole rest c cs h k m is l made newest charts =
    let now = subst (λ (xs : List (Change P)). Installs whole xs h k) is l in
    record {
      agrees = made.agrees;
      reaches = ap (installed cs) made.image ∙ now.reaches;
      charts = ap (charts_after cs) charts ∙ now.charts;
      can = subst (λ g. CanApplyAll g cs) (sym made.image) now.can.1;
      ready = omega (arith, now.ready, made.room.ready);
      room = rooms_left (length cs) k m (rooms_ahead k (c ∷ cs)) (rooms_ahead m cs) cs made.room
          (rooms_lowered k m c cs made newest) now.room.1;
    }

-- the changes that are left after the first, where there is one
pub first_installed : {P : Type 0} (whole rest : List (Change P)) (first : Option (Change P)) (h k : Body P)
    → Installs whole (first_of first ++ rest) h k → CanMakeFirst first k
first_installed whole rest None h k l = tt
first_installed whole rest (Some c) h k l = next_change whole (c ∷ rest) c rest h k refl l

pub taken_installed : {P : Type 0} (whole rest : List (Change P)) (taken : Option ℕ) (h k : Body P)
    → Installs whole (taken_of taken ++ rest) h k → IfSome taken (λ place. CanChange {P = P} (TakeFront place) k)
taken_installed whole rest None h k l = tt
taken_installed whole rest (Some place) h k l = next_change whole (TakeFront place ∷ rest) (TakeFront place) rest h k refl l

-- before the first change
pub none_installed : {P : Type 0} (whole rest : List (Change P)) (h : Body P) → rest ≡ whole → Agrees h
    → CanApplyAll (image h) whole → length whole ≤ h.ready.spare → HaveRoom (length whole) h whole
    → Installs whole rest h h
none_installed {P = P} whole rest h is agrees can ready room =
    subst (λ (xs : List (Change P)). Installs whole xs h h) (sym is)
    (record { reaches = refl; charts = refl; can = can; ready = ready; room = room; agrees = agrees })

-- after the first change and the front that was taken, both of which were taken out of the list
pub both_installed : {P : Type 0} (whole back : List (Change P)) (out first : Option (Change P)) (lost taken : Option ℕ) (h k m : Body P)
    → out ≡ first → lost ≡ taken → first_of first ++ (taken_of taken ++ back) ≡ whole → Installs whole whole h h
    → ((w r : List (Change P)) (b : Body P) → Installs w (first_of out ++ r) b h → Installs w r b k)
    → ((w r : List (Change P)) (b : Body P) → Installs w (taken_of lost ++ r) b k → Installs w r b m) → Installs whole back h m
both_installed {P = P} whole back out first lost taken h k m same alike is l makes takes =
    let begun : Installs whole (first_of out ++ (taken_of taken ++ back)) h h =
    subst (λ (xs : List (Change P)). Installs whole xs h h) (sym (ap (λ o. first_of o ++ (taken_of taken ++ back)) same ∙ is)) l in
    takes whole back h (subst (λ o. Installs whole (taken_of o ++ back) h k) (sym alike) (makes whole (taken_of taken ++ back) h begun))
