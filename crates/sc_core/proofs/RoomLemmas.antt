-- Room is made in the body.
use Rattle.std.proofs.Common.{OnOk, Result, Ok, Err, None, ◌≡◌, ℕ, ◌+◌, ◌≤◌, zero, suc, Some, List, [], ◌∷◌, length, drop, map, get_or, slice_get, slice_set, refl, arith, ap, subst, sym, ◌∙◌, ◌-◌, ◌<◌, ◌++◌, nat_lt, Bool, true, false, unwrap_or, option_map, Option}
use Rattle.std.proofs.Math.Seq.{map-set_same}
use Rattle.std.proofs.lemmas.Option.{get_or_from_slice_get, slice_get-map}
use Rattle.std.specs.List.{AllByRecursion}
use Rattle.std.specs.Option.{option_map_or}
use Rattle.std.proofs.lemmas.Bool.Decides.{nat_tests}
use Rattle.sc_rooms.specs.Rooms.{PlacesOf}
use Rattle.sc_types.specs.declared.event.Event.{Event}
use Rattle.sc_types.specs.declared.host.HostImage.{HostImage}
use Rattle.sc_types.specs.declared.host.InvokerImage.{InvokerImage}
use Rattle.sc_core.proofs.FamilyLemmas.{family_same}
use Rattle.sc_core.proofs.SetLemmas.{map_long}
use Rattle.sc_types.specs.declared.host.SessionImage.{SessionImage}
use Rattle.sc_core.specs.Bodies.{Agrees, Keeps, cued, image, inviter, queue_room, session_image}
use Rattle.sc_core.specs.ChangeLists.{counted_of, first_of, listed, taken_of}
use Rattle.sc_core.specs.Installing.{AreMadeFor, AreRoomy, HasRoom, HasTarget, HaveRoom, HaveRoomOf, HaveTargets, IsMadeFor, IsRoomy, new_rooms, queue_rooms, room_at, rooms_ahead}
use Rattle.sc_core.specs.declared.body.Body.{Body}
use Rattle.sc_core.specs.declared.change.Change.{Change}
use Rattle.sc_core.specs.declared.change.Change.TheVariants.{Count, Advance, Install, Start, Bear, PutState, TakeFront, Queue, Tell, Flag, CutOff, DropInvoke, End, Delay, Undo, Lose}
use Rattle.sc_core.specs.declared.session.Session.{Session}

more_set : (f : Session → ℕ) (items : List Session) (place : ℕ) (s w : Session) → slice_get items place ≡ Some s
    → f s ≤ f w → (i : ℕ)
    → option_map_or f (slice_get items i) 0 ≤ option_map_or f (slice_get (slice_set items place w) i) 0
more_set f [] place s w at less i = omega arith
more_set f (x ∷ xs) zero s w at less zero = let is : x ≡ s = cc in subst (λ y. f y ≤ f w) (sym is) less
more_set f (x ∷ xs) zero s w at less (suc i) = omega arith
more_set f (x ∷ xs) (suc place) s w at less zero = omega arith
more_set f (x ∷ xs) (suc place) s w at less (suc i) = more_set f xs place s w at less i

-- the room that was made is there
pub made_there : (f : Session → ℕ) (items : List Session) (place count : ℕ) (s w : Session) → slice_get items place ≡ Some s
    → count ≤ f w → count ≤ option_map_or f (slice_get (slice_set items place w) place) 0
made_there f [] place count s w at less = absurd cc
made_there f (x ∷ xs) zero count s w at less = less
made_there f (x ∷ xs) (suc place) count s w at less = made_there f xs place count s w at less

-- a session with more room is the same session
pub keeps_set : {P : Type 0} (h : Body P) (place : ℕ) (s w : Session) → Agrees h → slice_get h.sessions.items place ≡ Some s
    → session_image w ≡ session_image s → s.queued.spare ≤ w.queued.spare → s.failures.spare ≤ w.failures.spare
    → w.children.items ≡ s.children.items → s.children.spare ≤ w.children.spare
    → Keeps h (record h { sessions = record h.sessions { items = slice_set h.sessions.items place w } })
keeps_set h place s w agrees at is queued failures listed children =
    let items = h.sessions.items in
    let there : session_image w ≡ session_image (get_or items place s)
    = is ∙ ap session_image (sym (get_or_from_slice_get items place s s at)) in
    let images : map session_image (slice_set items place w) ≡ map session_image items
    = map-set_same session_image items place w s there in
    record {
      charts = omega arith;
      sessions = omega arith;
      timers = omega arith;
      ready = omega arith;
      queued = more_set (λ (x : Session). x.queued.spare) items place s w at queued;
      failures = more_set (λ (x : Session). x.failures.spare) items place s w at failures;
      children = more_set (λ (x : Session). x.children.spare) items place s w at children;
      agrees = record {
        charts = agrees.charts;
        sessions = agrees.sessions ∙ sym (map-set_same (λ (x : Session). x.state.session) items place w s
            (ap (λ (x : SessionImage). x.state.session) there));
        ready = agrees.ready ∙ ap (cued 0) (sym images);
        family = family_same h.sessions.names (map inviter items) _ (map (λ (x : Session). x.children.items) items) _
            (map-set_same inviter items place w s
            (ap (λ (x : SessionImage). option_map (λ (i : InvokerImage). i.session) x.invoker) there))
            (map-set_same (λ (x : Session). x.children.items) items place w s (listed
            ∙ ap (λ (x : Session). x.children.items) (sym (get_or_from_slice_get items place s s at)))) agrees.family;
      };
      image = ap (λ ss. record (image h) { sessions = ss }) images;
    }

pub keeps_same : {P : Type 0} (h : Body P) → Agrees h → Keeps h h
keeps_same h agrees = record {
  charts = omega arith;
  sessions = omega arith;
  timers = omega arith;
  ready = omega arith;
  queued = λ place. omega arith;
  failures = λ place. omega arith;
  children = λ place. omega arith;
  agrees = agrees;
  image = refl;
}

pub keeps_on : {P : Type 0} (h k m : Body P) → Keeps h k → Keeps k m → Keeps h m
keeps_on h k m first second = record {
  charts = omega (arith, first.charts, second.charts);
  sessions = omega (arith, first.sessions, second.sessions);
  timers = omega (arith, first.timers, second.timers);
  ready = omega (arith, first.ready, second.ready);
  queued = λ place. let a = first.queued place in let b = second.queued place in omega (arith, a, b);
  failures = λ place. let a = first.failures place in let b = second.failures place in omega (arith, a, b);
  children = λ place. let a = first.children place in let b = second.children place in omega (arith, a, b);
  agrees = second.agrees;
  image = second.image ∙ first.image;
}

pub same_length : {P : Type 0} (h k : Body P) → Keeps h k → length k.sessions.items ≡ length h.sessions.items
same_length h k keeps =
    let long = ap (λ (g : HostImage). length g.sessions) keeps.image in
    omega (arith, long, map_long session_image h.sessions.items, map_long session_image k.sessions.items)

-- what room was made of the body's own stays
made_kept : {P : Type 0} (n : ℕ) (h k : Body P) (c : Change P) → Keeps h k → IsMadeFor n h c → IsMadeFor n k c
made_kept n h k Count l r = tt
made_kept n h k (Advance clock) l r = tt
made_kept n h k (Install name chart) l r = omega (arith, l.charts, r)
made_kept n h k (Start name session) l r = omega (arith, l.sessions, r)
made_kept n h k (Bear invoker name session) l r = let at = l.children invoker in (omega (arith, l.sessions, r.0), omega (arith, at, r.1))
made_kept n h k (PutState place state) l r = tt
made_kept n h k (TakeFront place) l r = tt
made_kept n h k (Queue place e) l r = λ within.
    let at = l.queued place in let made = r (omega (arith, within, same_length h k l)) in omega (arith, at, made)
made_kept n h k (Tell place e) l r = let at = l.failures place in omega (arith, at, r)
made_kept n h k (Flag place) l r = tt
made_kept n h k (CutOff place) l r = tt
made_kept n h k (DropInvoke place child) l r = tt
made_kept n h k (End place) l r = tt
made_kept n h k (Delay send) l r = omega (arith, l.timers, r)
made_kept n h k (Undo session id) l r = tt
made_kept n h k Lose l r = tt

all_kept : {P : Type 0} (n : ℕ) (h k : Body P) (cs : List (Change P)) → Keeps h k → AreMadeFor n h cs → AreMadeFor n k cs
all_kept n h k [] l made = tt
all_kept n h k (c ∷ cs) l made = (made_kept n h k c l made.0, all_kept n h k cs l made.1)

pub on_ok : {T E : Type 0} (r : Result T E) (A B : Type 0) → OnOk r A → (A → B) → OnOk r B
on_ok (Ok x) A B a f = f a
on_ok (Err e) A B a f = tt

-- what the loop over the changes keeps
pub record MakesRoom {P : Type 0} (whole : List (Change P)) (n place : ℕ) (h k : Body P) : Type 0 where
  pub keeps : Keeps h k
  pub charts : k.charts.items ≡ h.charts.items
  pub rest : (m : Body P) → Keeps k m → AreMadeFor n m (drop place whole) → AreMadeFor n m whole
  pub targets : HaveTargets (length h.sessions.items) (drop place whole)

pub drop_at : {X : Type 0} (xs : List X) (i : ℕ) (x : X) → slice_get xs i ≡ Some x → drop i xs ≡ x ∷ drop (i + 1) xs
drop_at [] i x at = absurd cc
drop_at (y ∷ ys) zero x at = let is : y ≡ x = cc in ap (λ z. z ∷ ys) is
drop_at (y ∷ ys) (suc i) x at =
    let next : suc (i + 1) ≡ suc i + 1 = omega arith in
    drop_at ys i x at ∙ ap (λ n. x ∷ drop n (y ∷ ys)) next

pub drop_past : {X : Type 0} (xs : List X) (i : ℕ) → slice_get xs i ≡ None → drop i xs ≡ []
drop_past [] zero at = refl
drop_past [] (suc i) at = refl
drop_past (y ∷ ys) zero at = absurd cc
drop_past (y ∷ ys) (suc i) at = drop_past ys i at

pub target_there : {P : Type 0} (whole : List (Change P)) (n place : ℕ) (h k : Body P) (c : Change P)
    → slice_get whole place ≡ Some c → MakesRoom whole n place h k → HasTarget (length k.sessions.items) c
target_there whole n place h k c at l =
    let now = subst (HaveTargets (length h.sessions.items)) (drop_at whole place c at) l.targets in
    subst (λ m. HasTarget m c) (sym (same_length h k l.keeps)) now.0

pub more_room : {P : Type 0} (whole : List (Change P)) (n place : ℕ) (h k m : Body P) (c : Change P)
    → slice_get whole place ≡ Some c → MakesRoom whole n place h k → Keeps k m
    → m.charts.items ≡ k.charts.items → IsMadeFor n m c → MakesRoom whole n (place + 1) h m
more_room {P = P} whole n place h k m c at l keeps charts room =
    let is = drop_at whole place c at in
    record {
      keeps = keeps_on h k m l.keeps keeps;
      charts = charts ∙ l.charts;
      rest = λ b kept have. l.rest b (keeps_on k m b keeps kept)
          (subst (AreMadeFor n b) (sym is) (made_kept n m b c kept room, have));
      targets = (subst (HaveTargets (length h.sessions.items)) is l.targets).1;
    }

-- a room of the first list, and one of the second
pub room_first : (xs ys : List ℕ) (i : ℕ) → i < length xs → room_at (xs ++ ys) i ≡ room_at xs i
room_first [] ys i l = absurd (omega (arith, l))
room_first (x ∷ xs) ys zero l = refl
room_first (x ∷ xs) ys (suc i) l = room_first xs ys i (omega (arith, l))

pub room_second : (xs ys : List ℕ) (i : ℕ) → length xs ≤ i → room_at (xs ++ ys) i ≡ room_at ys (i - length xs)
room_second [] ys i l = ap (room_at ys) (omega arith)
room_second (x ∷ xs) ys zero l = absurd (omega (arith, l))
room_second (x ∷ xs) ys (suc i) l =
    room_second xs ys i (omega (arith, l)) ∙ ap (room_at ys) (omega (arith, l))

-- the room of a queue is that of its session
pub room_is : (f : Session → ℕ) (items : List Session) (place : ℕ)
    → room_at (map f items) place ≡ option_map_or f (slice_get items place) 0
room_is f items place = ap (λ o. unwrap_or o 0) (slice_get-map f items place) ∙ by (slice_get items place)
  where
    by : (o : Option Session) → unwrap_or (option_map f o) 0 ≡ option_map_or f o 0
    by None = refl
    by (Some s) = refl

queue_made : {P : Type 0} (n count : ℕ) (h : Body P) (rooms : List ℕ) (place : ℕ) (e : Event) → n ≤ count
    → (place < length h.sessions.items → n ≤ queue_room h place)
    → (length h.sessions.items ≤ place → count ≤ room_at rooms (place - length h.sessions.items))
    → n ≤ room_at (queue_rooms h ++ rooms) place
queue_made {P = P} n count h rooms place e less made roomy = by (nat_lt place (length h.sessions.items)) refl
  where
    own : List ℕ
    own = queue_rooms h

    long : length own ≡ length h.sessions.items
    long = map_long (λ (s : Session). s.queued.spare) h.sessions.items

    by : (b : Bool) → nat_lt place (length h.sessions.items) ≡ b → n ≤ room_at (own ++ rooms) place
    by true at =
        let within : place < length h.sessions.items = grind (arith, nat_tests, at) in
        let first = room_first own rooms place (omega (arith, within, long)) in
        let enough = made within in
        omega (arith, enough, first, room_is (λ (s : Session). s.queued.spare) h.sessions.items place)
    by false at =
        let past : length h.sessions.items ≤ place = grind (arith, nat_tests, at) in
        let second = room_second own rooms place (omega (arith, past, long)) in
        let same : room_at rooms (place - length own) ≡ room_at rooms (place - length h.sessions.items) =
        ap (λ m. room_at rooms (place - m)) long in
        let enough = roomy past in
        omega (arith, less, enough, second, same)

one_room : {P : Type 0} (n count : ℕ) (h : Body P) (rooms : List ℕ) (c : Change P) → n ≤ count → IsMadeFor n h c
    → IsRoomy (length h.sessions.items) count rooms c → HasRoom n h (queue_rooms h ++ rooms) c
one_room n count h rooms Count less made roomy = tt
one_room n count h rooms (Advance clock) less made roomy = tt
one_room n count h rooms (Install name chart) less made roomy = made
one_room n count h rooms (Start name session) less made roomy = made
one_room n count h rooms (Bear invoker name session) less made roomy = made
one_room n count h rooms (PutState place state) less made roomy = tt
one_room n count h rooms (TakeFront place) less made roomy = tt
one_room n count h rooms (Queue place e) less made roomy = queue_made n count h rooms place e less made roomy
one_room n count h rooms (Tell place e) less made roomy = made
one_room n count h rooms (Flag place) less made roomy = tt
one_room n count h rooms (CutOff place) less made roomy = tt
one_room n count h rooms (DropInvoke place child) less made roomy = tt
one_room n count h rooms (End place) less made roomy = tt
one_room n count h rooms (Delay send) less made roomy = made
one_room n count h rooms (Undo session id) less made roomy = tt
one_room n count h rooms Lose less made roomy = tt

rooms_of_all : {P : Type 0} (n count : ℕ) (h : Body P) (rooms : List ℕ) (cs : List (Change P)) → n ≤ count
    → AreMadeFor n h cs → AllByRecursion (IsRoomy (length h.sessions.items) count rooms) cs
    → HaveRoomOf n h (queue_rooms h ++ rooms) cs
rooms_of_all n count h rooms [] less made roomy = tt
rooms_of_all n count h rooms (c ∷ cs) less made roomy =
    (one_room n count h rooms c less made.0 roomy.0, rooms_of_all n count h rooms cs less made.1 roomy.1)

-- room was made for each
pub all_made : {P : Type 0} (whole : List (Change P)) (n place : ℕ) (h k : Body P) → slice_get whole place ≡ None
    → MakesRoom whole n place h k → AreMadeFor n k whole
all_made whole n place h k none l =
    l.rest k (keeps_same k l.keeps.agrees) (subst (AreMadeFor n k) (sym (drop_past whole place none)) tt)

made_more : {P : Type 0} (n : ℕ) (k : Body P) (cs more : List (Change P)) → AreMadeFor n k cs → AreMadeFor n k more
    → AreMadeFor n k (cs ++ more)
made_more n k [] more made rest = rest
made_more n k (c ∷ cs) more made rest = (made.0, made_more n k cs more made.1 rest)

made_listed : {P : Type 0} (n : ℕ) (k : Body P) (first : Option (Change P)) (taken : Option ℕ) (more : List (Change P))
    (counted : Bool) → AreMadeFor n k (first_of first) → AreMadeFor n k more
    → AreMadeFor n k (listed first taken more counted)
made_listed {P = P} n k first taken more counted one made =
    made_more n k (first_of first) (taken_of taken ++ (more ++ counted_of counted)) one
    (made_more n k (taken_of taken) (more ++ counted_of counted) (front taken)
    (made_more n k more (counted_of counted) made (end counted)))
  where
    front : (t : Option ℕ) → AreMadeFor n k (taken_of {P = P} t)
    front None = tt
    front (Some place) = (tt, tt)

    end : (b : Bool) → AreMadeFor n k (counted_of {P = P} b)
    end false = tt
    end true = (tt, tt)

-- room was made for all
pub all_room : {P : Type 0} (whole : List (Change P)) (first : Option (Change P)) (taken : Option ℕ)
    (more : List (Change P)) (counted : Bool) (n : ℕ) (h k m : Body P) → listed first taken more counted ≡ whole
    → n ≡ length whole → Keeps h k → Keeps k m → AreMadeFor n k (first_of first) → AreMadeFor n m more
    → AreRoomy (length h.sessions.items) whole → HaveRoom (length whole) m whole
all_room {P = P} whole first taken more counted n h k m is count keeps kept one rest roomy =
    let made : AreMadeFor n m whole =
    subst (AreMadeFor n m) is (made_listed n m first taken more counted (all_kept n k m (first_of first) kept one) rest) in
    let there : AreRoomy (length m.sessions.items) whole =
    subst (λ i. AreRoomy i whole) (sym (same_length h m (keeps_on h k m keeps kept))) roomy in
    subst (λ i. HaveRoomOf i m (rooms_ahead m whole) whole) count
    (rooms_of_all n (length whole) m (new_rooms whole) whole (omega (arith, count)) made there)

pub keeps_ready : {P : Type 0} (h : Body P) (ready : PlacesOf) → Agrees h → ready.places ≡ h.ready.places
    → h.ready.spare ≤ ready.spare → Keeps h (record h { ready = ready })
keeps_ready h ready agrees places spare = record {
  charts = omega arith;
  sessions = omega arith;
  timers = omega arith;
  ready = spare;
  queued = λ place. omega arith;
  failures = λ place. omega arith;
  children = λ place. omega arith;
  agrees = record {
    charts = agrees.charts;
    sessions = agrees.sessions;
    ready = places ∙ agrees.ready;
    family = agrees.family;
  };
  image = refl;
}

-- what is listed has a target where the whole has
pub first_targets : {P : Type 0} (n : ℕ) (whole : List (Change P)) (first : Option (Change P)) (rest : List (Change P))
    → first_of first ++ rest ≡ whole → HaveTargets n whole → HaveTargets n (first_of first)
first_targets {P = P} n whole first rest is all = by first (subst (HaveTargets n) (sym is) all)
  where
    by : (o : Option (Change P)) → HaveTargets n (first_of o ++ rest) → HaveTargets n (first_of o)
    by None all = tt
    by (Some c) all = (all.0, tt)

back_targets : {P : Type 0} (n : ℕ) (cs rest : List (Change P)) → HaveTargets n (cs ++ rest) → HaveTargets n rest
back_targets n [] rest all = all
back_targets n (c ∷ cs) rest all = back_targets n cs rest all.1

front_targets : {P : Type 0} (n : ℕ) (cs rest : List (Change P)) → HaveTargets n (cs ++ rest) → HaveTargets n cs
front_targets n [] rest all = tt
front_targets n (c ∷ cs) rest all = (all.0, front_targets n cs rest all.1)

pub more_targets : {P : Type 0} (n : ℕ) (whole : List (Change P)) (first : Option (Change P)) (taken : Option ℕ)
    (more : List (Change P)) (counted : Bool) → listed first taken more counted ≡ whole → HaveTargets n whole
    → HaveTargets n more
more_targets n whole first taken more counted is all =
    front_targets n more (counted_of counted)
    (back_targets n (taken_of taken) (more ++ counted_of counted)
    (back_targets n (first_of first) (taken_of taken ++ (more ++ counted_of counted)) (subst (HaveTargets n) (sym is) all)))
