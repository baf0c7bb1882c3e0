-- Sessions that are born with room for events.
use Rattle.std.proofs.Common.{◌≡◌, ℕ, ◌+◌, ◌-◌, ◌<◌, ◌≤◌, ◌++◌, ◌||◌, nat_le, zero, suc, Bool, true, false, List, [], ◌∷◌, append-nil, length, length-append, refl, arith, sym, ap, subst, ◌∙◌}
use Rattle.std.specs.List.{AllByRecursion}
use Rattle.std.proofs.lemmas.Bool.Decides.{nat_tests}
use Rattle.sc_rooms.specs.Rooms.{RoomyOf}
use Rattle.sc_types.specs.declared.chart.Chart.{Chart}
use Rattle.sc_types.specs.declared.event.Event.{Event}
use Rattle.sc_types.specs.declared.host.HostImage.{HostImage}
use Rattle.sc_core.specs.Bodies.{inviter, session_image}
use Rattle.sc_core.specs.HostStates.{ArePlanned}
use Rattle.sc_core.specs.Installing.{CanApply, CanApplyAll, HasTarget, HaveTargets, IsChildAt, IsRoomy, apply, installed, new_rooms, room_at}
use Rattle.sc_core.specs.Newborns.{AreAlike, HasNewRoom, IsAlike, IsRoomier, has_past, is_past, born, same, started}
use Rattle.sc_core.specs.declared.change.Change.{Change}
use Rattle.sc_core.specs.declared.change.Change.TheVariants.{Count, Advance, Install, Start, Bear, PutState, TakeFront, Queue, Tell, Flag, CutOff, DropInvoke, End, Delay, Undo, Lose}
use Rattle.sc_core.specs.declared.session.Session.{Session}
use Rattle.sc_core.proofs.InstallLemmas.{apply_long}

-- ---- changes that are alike do the same

roomier_image : (s w : Session) → IsRoomier s w → session_image w ≡ session_image s
roomier_image s w r = ap session_image r.is

-- what is alike is made alike
pub record MadeAlike {P : Type 0} (g : HostImage) (c d : Change P) : Type 0 where
  pub makes : apply d g ≡ apply c g
  pub can : CanApply g c → CanApply g d
  pub target : (n : ℕ) → HasTarget n c → HasTarget n d

child_alike : (g : HostImage) (invoker : ℕ) (s w : Session) → IsRoomier s w → IsChildAt g invoker s → IsChildAt g invoker w
child_alike g invoker s w r by = (by.0, ap inviter r.is ∙ by.1, by.2)

made_alike : {P : Type 0} (g : HostImage) (c d : Change P) → IsAlike c d → MadeAlike g c d
made_alike {P = P} g c d (same is) =
    subst (MadeAlike g c) (sym is) (record { makes = refl; can = λ can. can; target = λ n t. t })
made_alike {P = P} g c d (born invoker name s w one two r) =
    subst (λ x. MadeAlike g x d) (sym one) (subst (MadeAlike g (Bear invoker name s)) (sym two) (record {
      makes = ap (λ x. record g { sessions = g.sessions ++ x ∷ [] }) (roomier_image s w r);
      can = λ can. (
        ap (λ (x : Session). x.state.session) r.is ∙ can.0,
        can.1,
        child_alike g invoker s w r can.2,
        ap (λ (x : Session). x.children.items) r.is ∙ can.3,
      );
      target = λ n t. t;
    }))
made_alike {P = P} g c d (started name s w one two r) =
    subst (λ x. MadeAlike g x d) (sym one) (subst (MadeAlike g (Start name s)) (sym two) (record {
      makes = ap (λ x. record g { sessions = g.sessions ++ x ∷ [] }) (roomier_image s w r);
      can = λ can. (
        ap (λ (x : Session). x.state.session) r.is ∙ can.0,
        can.1,
        ap (λ (x : Session). x.invoker) r.is ∙ can.2,
        ap (λ (x : Session). x.children.items) r.is ∙ can.3,
      );
      target = λ n t. t;
    }))

-- and so are several
pub record AllAlike {P : Type 0} (g : HostImage) (cs ds : List (Change P)) : Type 0 where
  pub host : installed ds g ≡ installed cs g
  pub can : CanApplyAll g cs → CanApplyAll g ds
  pub targets : (n : ℕ) → HaveTargets n cs → HaveTargets n ds

pub all_alike : {P : Type 0} (cs ds : List (Change P)) (g : HostImage) → AreAlike cs ds → AllAlike g cs ds
all_alike [] [] g alike = record { host = refl; can = λ can. can; targets = λ n t. t }
all_alike [] (d ∷ ds) g alike = absurd alike
all_alike (c ∷ cs) [] g alike = absurd alike
all_alike {P = P} (c ∷ cs) (d ∷ ds) g alike =
    let one = made_alike g c d alike.0 in
    let rest = all_alike cs ds (apply c g) alike.1 in
    record {
      host = ap (installed ds) one.makes ∙ rest.host;
      can = λ can. (one.can can.0, subst (λ k. CanApplyAll k ds) (sym one.makes) (rest.can can.1));
      targets = λ n t. (one.target n t.0, rest.targets n t.1);
    }

-- they are as many
pub alike_count : {P : Type 0} (cs ds : List (Change P)) → AreAlike cs ds → length ds ≡ length cs
alike_count [] [] alike = refl
alike_count [] (d ∷ ds) alike = absurd alike
alike_count (c ∷ cs) [] alike = absurd alike
alike_count (c ∷ cs) (d ∷ ds) alike = ap suc (alike_count cs ds alike.1)

-- ---- they install the same charts

planned_one : {P : Type 0} (chart_of : P → Chart) (c d : Change P) (cs ds : List (Change P)) → IsAlike c d
    → (ArePlanned chart_of cs → ArePlanned chart_of ds) → ArePlanned chart_of (c ∷ cs) → ArePlanned chart_of (d ∷ ds)
planned_one {P = P} f c d cs ds (same is) rest are =
    subst (λ x. ArePlanned f (x ∷ ds)) (sym is) (by c are)
  where
    by : (x : Change P) → ArePlanned f (x ∷ cs) → ArePlanned f (x ∷ ds)
    by Count a = rest a
    by (Advance clock) a = rest a
    by (Install name chart) a = (a.0, rest a.1)
    by (Start name session) a = rest a
    by (Bear invoker name session) a = rest a
    by (PutState place state) a = rest a
    by (TakeFront place) a = rest a
    by (Queue place e) a = rest a
    by (Tell place e) a = rest a
    by (Flag place) a = rest a
    by (CutOff place) a = rest a
    by (DropInvoke place child) a = rest a
    by (End place) a = rest a
    by (Delay send) a = rest a
    by (Undo session id) a = rest a
    by Lose a = rest a
planned_one f c d cs ds (born invoker name s w one two r) rest are =
    subst (λ x. ArePlanned f (x ∷ ds)) (sym two) (rest (subst (λ x. ArePlanned f (x ∷ cs)) one are))
planned_one f c d cs ds (started name s w one two r) rest are =
    subst (λ x. ArePlanned f (x ∷ ds)) (sym two) (rest (subst (λ x. ArePlanned f (x ∷ cs)) one are))

pub planned_alike : {P : Type 0} (chart_of : P → Chart) (cs ds : List (Change P)) → AreAlike cs ds → ArePlanned chart_of cs
    → ArePlanned chart_of ds
planned_alike f [] [] alike are = are
planned_alike f [] (d ∷ ds) alike are = absurd alike
planned_alike f (c ∷ cs) [] alike are = absurd alike
planned_alike f (c ∷ cs) (d ∷ ds) alike are =
    planned_one f c d cs ds alike.0 (planned_alike f cs ds alike.1) are

-- ---- their rooms

pub room_all : (n : ℕ) (rooms : List ℕ) (place : ℕ) → AllByRecursion (λ r. n ≤ r) rooms → place < length rooms
    → n ≤ room_at rooms place
room_all n [] place all l = absurd (omega (arith, l))
room_all n (r ∷ rs) zero all l = all.0
room_all n (r ∷ rs) (suc place) all l = room_all n rs place all.1 (omega (arith, l))

long_on : {P : Type 0} (c : Change P) (cs : List (Change P)) (g : HostImage)
    → length (apply c g).sessions + length (new_rooms cs) ≡ length g.sessions + length (new_rooms (c ∷ cs))
long_on {P = P} Count cs g = ap (λ n. n + length (new_rooms cs)) (apply_long {P = P} Count g tt)
long_on {P = P} (Advance clock) cs g = ap (λ n. n + length (new_rooms cs)) (apply_long {P = P} (Advance clock) g tt)
long_on {P = P} (Install name chart) cs g = ap (λ n. n + length (new_rooms cs)) (apply_long {P = P} (Install name chart) g tt)
long_on {P = P} (Start name session) cs g = let long = length-append g.sessions (session_image session ∷ []) in omega (arith, long)
long_on {P = P} (Bear invoker name session) cs g = let long = length-append g.sessions (session_image session ∷ []) in omega (arith, long)
long_on {P = P} (PutState place state) cs g = ap (λ n. n + length (new_rooms cs)) (apply_long {P = P} (PutState place state) g tt)
long_on {P = P} (TakeFront place) cs g = ap (λ n. n + length (new_rooms cs)) (apply_long {P = P} (TakeFront place) g tt)
long_on {P = P} (Queue place e) cs g = ap (λ n. n + length (new_rooms cs)) (apply_long {P = P} (Queue place e) g tt)
long_on {P = P} (Tell place e) cs g = ap (λ n. n + length (new_rooms cs)) (apply_long {P = P} (Tell place e) g tt)
long_on {P = P} (Flag place) cs g = ap (λ n. n + length (new_rooms cs)) (apply_long {P = P} (Flag place) g tt)
long_on {P = P} (CutOff place) cs g = ap (λ n. n + length (new_rooms cs)) (apply_long {P = P} (CutOff place) g tt)
long_on {P = P} (DropInvoke place child) cs g = ap (λ n. n + length (new_rooms cs)) (apply_long {P = P} (DropInvoke place child) g tt)
long_on {P = P} (End place) cs g = ap (λ n. n + length (new_rooms cs)) (apply_long {P = P} (End place) g tt)
long_on {P = P} (Delay send) cs g = ap (λ n. n + length (new_rooms cs)) (apply_long {P = P} (Delay send) g tt)
long_on {P = P} (Undo session id) cs g = ap (λ n. n + length (new_rooms cs)) (apply_long {P = P} (Undo session id) g tt)
long_on {P = P} Lose cs g = ap (λ n. n + length (new_rooms cs)) (apply_long {P = P} Lose g tt)

either : (a b : Bool) → a ≡ true → (a || b) ≡ true
either true b is = refl
either false b is = absurd cc

later_past : (a b : Bool) → b ≡ true → (a || b) ≡ true
later_past true b is = refl
later_past false b is = is

queue_roomy : (first count place : ℕ) (g : HostImage) (rooms : List ℕ) (more : Bool) (n : ℕ) → place < length g.sessions
    → length g.sessions + n ≡ first + length rooms
    → ((nat_le first place || more) ≡ true → AllByRecursion (λ r. count ≤ r) rooms)
    → first ≤ place → count ≤ room_at rooms (place - first)
queue_roomy first count place g rooms more n within long all past =
    let yes : nat_le first place ≡ true = grind (arith, nat_tests, past) in
    room_all count rooms (place - first) (all (either (nat_le first place) more yes)) (omega (arith, within, long, past))

roomy_one : {P : Type 0} (first count : ℕ) (g : HostImage) (rooms : List ℕ) (c d : Change P) (cs : List (Change P))
    → IsAlike c d → CanApply g c → length g.sessions + length (new_rooms (c ∷ cs)) ≡ first + length rooms
    → (has_past first (c ∷ cs) ≡ true → AllByRecursion (λ r. count ≤ r) rooms) → IsRoomy first count rooms d
roomy_one {P = P} first count g rooms c d cs (same is) can long all =
    subst (IsRoomy first count rooms) (sym is) (by c can long all)
  where
    by : (x : Change P) → CanApply g x → length g.sessions + length (new_rooms (x ∷ cs)) ≡ first + length rooms
        → (has_past first (x ∷ cs) ≡ true → AllByRecursion (λ r. count ≤ r) rooms) → IsRoomy first count rooms x
    by Count k l a = tt
    by (Advance clock) k l a = tt
    by (Install name chart) k l a = tt
    by (Start name session) k l a = tt
    by (Bear invoker name session) k l a = tt
    by (PutState place state) k l a = tt
    by (TakeFront place) k l a = tt
    by (Queue place e) k l a = queue_roomy first count place g rooms (has_past first cs) (length (new_rooms cs)) k.0 l a
    by (Tell place e) k l a = tt
    by (Flag place) k l a = tt
    by (CutOff place) k l a = tt
    by (DropInvoke place child) k l a = tt
    by (End place) k l a = tt
    by (Delay send) k l a = tt
    by (Undo session id) k l a = tt
    by Lose k l a = tt
roomy_one first count g rooms c d cs (born invoker name s w one two r) can long all =
    subst (IsRoomy first count rooms) (sym two) tt
roomy_one first count g rooms c d cs (started name s w one two r) can long all =
    subst (IsRoomy first count rooms) (sym two) tt

roomy_on : {P : Type 0} (first count : ℕ) (rooms : List ℕ) (cs ds : List (Change P)) (g : HostImage) → AreAlike cs ds
    → CanApplyAll g cs → length g.sessions + length (new_rooms cs) ≡ first + length rooms
    → (has_past first cs ≡ true → AllByRecursion (λ r. count ≤ r) rooms) → AllByRecursion (IsRoomy first count rooms) ds
roomy_on first count rooms [] [] g alike can long all = tt
roomy_on first count rooms [] (d ∷ ds) g alike can long all = absurd alike
roomy_on first count rooms (c ∷ cs) [] g alike can long all = absurd alike
roomy_on first count rooms (c ∷ cs) (d ∷ ds) g alike can long all = (
  roomy_one first count g rooms c d cs alike.0 can.0 long all,
  roomy_on first count rooms cs ds (apply c g) alike.1 can.1 (long_on c cs g ∙ long)
      (λ past. all (later_past (is_past first c) (has_past first cs) past)),
)

alike_long : {P : Type 0} (cs ds : List (Change P)) → AreAlike cs ds → length (new_rooms cs) ≡ length (new_rooms ds)
alike_long [] [] alike = refl
alike_long [] (d ∷ ds) alike = absurd alike
alike_long (c ∷ cs) [] alike = absurd alike
alike_long {P = P} (c ∷ cs) (d ∷ ds) alike = one c d alike.0 (alike_long cs ds alike.1)
  where
    keeps : (x : Change P) → length (new_rooms cs) ≡ length (new_rooms ds)
        → length (new_rooms (x ∷ cs)) ≡ length (new_rooms (x ∷ ds))
    keeps Count rest = rest
    keeps (Advance clock) rest = rest
    keeps (Install name chart) rest = rest
    keeps (Start name session) rest = ap suc rest
    keeps (Bear invoker name session) rest = ap suc rest
    keeps (PutState place state) rest = rest
    keeps (TakeFront place) rest = rest
    keeps (Queue place e) rest = rest
    keeps (Tell place e) rest = rest
    keeps (Flag place) rest = rest
    keeps (CutOff place) rest = rest
    keeps (DropInvoke place child) rest = rest
    keeps (End place) rest = rest
    keeps (Delay send) rest = rest
    keeps (Undo session id) rest = rest
    keeps Lose rest = rest

    one : (x y : Change P) → IsAlike x y → length (new_rooms cs) ≡ length (new_rooms ds)
        → length (new_rooms (x ∷ cs)) ≡ length (new_rooms (y ∷ ds))
    one x y (same is) rest = keeps x rest ∙ ap (λ z. length (new_rooms (z ∷ ds))) (sym is)
    one x y (born invoker name s w is two r) rest =
        ap (λ z. length (new_rooms (z ∷ cs))) is ∙ ap suc rest ∙ ap (λ z. length (new_rooms (z ∷ ds))) (sym two)
    one x y (started name s w is two r) rest =
        ap (λ z. length (new_rooms (z ∷ cs))) is ∙ ap suc rest ∙ ap (λ z. length (new_rooms (z ∷ ds))) (sym two)

-- the queues that get an event have room
pub roomy_alike : {P : Type 0} (first count : ℕ) (cs ds : List (Change P)) (g : HostImage) → AreAlike cs ds
    → length g.sessions ≡ first → CanApplyAll g cs
    → (has_past first cs ≡ true → AllByRecursion (λ r. count ≤ r) (new_rooms ds))
    → AllByRecursion (IsRoomy first count (new_rooms ds)) ds
roomy_alike first count cs ds g alike long can all =
    roomy_on first count (new_rooms ds) cs ds g alike can (omega (arith, long, alike_long cs ds alike)) all

-- ---- the loop

-- what it keeps
pub record GoesOn {P : Type 0} (gets : Bool) (count : ℕ) (whole rest roomy : List (Change P)) : Type 0 where
  pub alike : (more : List (Change P)) → AreAlike rest more → AreAlike whole (roomy ++ more)
  pub rooms : gets ≡ true → AllByRecursion (λ r. count ≤ r) (new_rooms roomy)

append_one : {X : Type 0} (xs : List X) (y : X) (zs : List X) → (xs ++ y ∷ []) ++ zs ≡ xs ++ y ∷ zs
append_one [] y zs = refl
append_one (x ∷ xs) y zs = ap (λ all. x ∷ all) (append_one xs y zs)

rooms_push : {P : Type 0} (count : ℕ) (cs : List (Change P)) (c : Change P) → AllByRecursion (λ r. count ≤ r) (new_rooms cs)
    → HasNewRoom count c → AllByRecursion (λ r. count ≤ r) (new_rooms (cs ++ c ∷ []))
rooms_push count [] Count all room = tt
rooms_push count [] (Advance clock) all room = tt
rooms_push count [] (Install name chart) all room = tt
rooms_push count [] (Start name session) all room = (room, tt)
rooms_push count [] (Bear invoker name session) all room = (room, tt)
rooms_push count [] (PutState place state) all room = tt
rooms_push count [] (TakeFront place) all room = tt
rooms_push count [] (Queue place e) all room = tt
rooms_push count [] (Tell place e) all room = tt
rooms_push count [] (Flag place) all room = tt
rooms_push count [] (CutOff place) all room = tt
rooms_push count [] (DropInvoke place child) all room = tt
rooms_push count [] (End place) all room = tt
rooms_push count [] (Delay send) all room = tt
rooms_push count [] (Undo session id) all room = tt
rooms_push count [] Lose all room = tt
rooms_push count (Count ∷ cs) c all room = rooms_push count cs c all room
rooms_push count (Advance clock ∷ cs) c all room = rooms_push count cs c all room
rooms_push count (Install name chart ∷ cs) c all room = rooms_push count cs c all room
rooms_push count (Start name session ∷ cs) c all room = (all.0, rooms_push count cs c all.1 room)
rooms_push count (Bear invoker name session ∷ cs) c all room = (all.0, rooms_push count cs c all.1 room)
rooms_push count (PutState place state ∷ cs) c all room = rooms_push count cs c all room
rooms_push count (TakeFront place ∷ cs) c all room = rooms_push count cs c all room
rooms_push count (Queue place e ∷ cs) c all room = rooms_push count cs c all room
rooms_push count (Tell place e ∷ cs) c all room = rooms_push count cs c all room
rooms_push count (Flag place ∷ cs) c all room = rooms_push count cs c all room
rooms_push count (CutOff place ∷ cs) c all room = rooms_push count cs c all room
rooms_push count (DropInvoke place child ∷ cs) c all room = rooms_push count cs c all room
rooms_push count (End place ∷ cs) c all room = rooms_push count cs c all room
rooms_push count (Delay send ∷ cs) c all room = rooms_push count cs c all room
rooms_push count (Undo session id ∷ cs) c all room = rooms_push count cs c all room
rooms_push count (Lose ∷ cs) c all room = rooms_push count cs c all room

pub goes_next : {P : Type 0} (gets : Bool) (count : ℕ) (whole rest roomy left new : List (Change P)) (c d : Change P)
    → rest ≡ c ∷ left → IsAlike c d → (gets ≡ true → HasNewRoom count d) → new ≡ roomy ++ d ∷ []
    → GoesOn gets count whole rest roomy → GoesOn gets count whole left new
goes_next {P = P} gets count whole rest roomy left new c d is alike room made so = record {
  alike = λ more others.
      subst (AreAlike whole) (sym (ap (λ cs. cs ++ more) made ∙ append_one roomy d more))
      (so.alike (d ∷ more) (subst (λ cs. AreAlike cs (d ∷ more)) (sym is) (alike, others)));
  rooms = λ yes. subst (λ cs. AllByRecursion (λ r. count ≤ r) (new_rooms cs)) (sym made)
      (rooms_push count roomy d (so.rooms yes) (room yes));
}

pub goes_alike : {P : Type 0} (gets : Bool) (count : ℕ) (whole rest roomy : List (Change P)) → rest ≡ []
    → GoesOn gets count whole rest roomy → AreAlike whole roomy
goes_alike {P = P} gets count whole rest roomy none so =
    subst (AreAlike whole) (append-nil roomy) (so.alike [] (subst (λ cs. AreAlike cs []) (sym none) tt))

-- ---- one session, and one change

pub roomier : (s : Session) (queue : RoomyOf Event) → queue.items ≡ s.queued.items
    → IsRoomier s (record s { queued = queue })
roomier s queue kept =
    record { spare = queue.spare; is = ap (λ items. record s { queued = record queue { items = items } }) kept }

pub roomier_same : (s : Session) → IsRoomier s s
roomier_same s = record { spare = s.queued.spare; is = refl }

pub alike_born : {P : Type 0} (c : Change P) (invoker : ℕ) (name : List ℕ) (s w : Session) → c ≡ Bear invoker name s
    → IsRoomier s w → IsAlike c (Bear invoker name w)
alike_born c invoker name s w is roomy = born invoker name s w is refl roomy

pub alike_started : {P : Type 0} (c : Change P) (name : List ℕ) (s w : Session) → c ≡ Start name s → IsRoomier s w
    → IsAlike c (Start name w)
alike_started c name s w is roomy = started name s w is refl roomy
