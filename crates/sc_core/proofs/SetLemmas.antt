-- One session of the body is changed.
use Rattle.std.proofs.Common.{All, IfNone, IfSome, Bool, true, false, not, drop, ◌++◌, MatchOption, ◌≡◌, ℕ, ◌+◌, ◌<◌, ◌≤◌, zero, suc, Option, None, Some, List, [], ◌∷◌, length, map, get_or, slice_get, slice_set, option_map, refl, arith, ap, subst, sym, ◌∙◌, ◌-◌, ◌||◌, cond, nat_lt}
use Rattle.std.proofs.Math.Seq.{map-set_same}
use Rattle.std.proofs.lemmas.List.{map-set}
use Rattle.std.proofs.lemmas.Option.{get_or_from_slice_get, slice_get-map, slice_get_within}
use Rattle.std.specs.List.{list_any, position_or_len}
use Rattle.std.specs.Option.{option_map_or}
use Rattle.std.proofs.lemmas.Bool.Decides.{nat_tests}
use Rattle.sc_rooms.specs.Rooms.{AreDistinct, NamedOf, PlacesOf, RoomyOf}
use Rattle.sc_timers.specs.Timers.{TimersOf}
use Rattle.sc_types.specs.declared.host.HostImage.{HostImage}
use Rattle.sc_types.specs.declared.host.TimerImage.{TimerImage}
use Rattle.sc_types.specs.declared.host.InvokerImage.{InvokerImage}
use Rattle.sc_types.specs.declared.host.SessionImage.{SessionImage}
use Rattle.sc_core.specs.Bodies.{Agrees, IsFamily, Makes, children_room, cued, failure_room, image, inviter, marked, queue_room, session_image}
use Rattle.sc_core.specs.Changes.{IsFirstDue, clear_at, clear_in, with_started}
use Rattle.sc_machine.specs.Cues.{is_ready}
use Rattle.sc_machine.specs.Endings.{cleared}
use Rattle.sc_rooms.specs.Rooms.{place_of}
use Rattle.std.specs.Str.{bytes_eq}
use Rattle.sc_core.specs.declared.body.InstalledChart.{InstalledChart}
use Rattle.sc_machine.specs.Hosts.{chart_place, is_chart_named, is_live, is_session_named, session_place, with_session}
use Rattle.sc_types.specs.declared.session.Phase.{Phase}
use Rattle.sc_types.specs.declared.session.Phase.TheVariants as phase
use Rattle.sc_core.specs.declared.body.Body.{Body}
use Rattle.sc_core.specs.declared.session.Session.{Session}
use Rattle.sc_core.proofs.BodyLemmas.{cued_push, cued_set, position_map}
use Rattle.sc_core.proofs.FamilyLemmas.{family_born, family_more, family_same}

-- the host machine's session at a place is that of the body
pub image_at : (items : List Session) (place : ℕ) (s : Session) → slice_get items place ≡ Some s
    → slice_get (map session_image items) place ≡ Some (session_image s)
image_at items place s at = slice_get-map session_image items place ∙ ap (λ o. option_map session_image o) at

-- a room is less by one at most, as it is so at the place
room_set : (f : Session → ℕ) (items : List Session) (place : ℕ) (s w : Session) → slice_get items place ≡ Some s
    → f s ≤ f w + 1 → (i : ℕ)
    → option_map_or f (slice_get items i) 0 ≤ option_map_or f (slice_get (slice_set items place w) i) 0 + 1
room_set f [] place s w at less i = omega arith
room_set f (x ∷ xs) zero s w at less zero = let is : x ≡ s = cc in subst (λ y. f y ≤ f w + 1) (sym is) less
room_set f (x ∷ xs) zero s w at less (suc i) = omega arith
room_set f (x ∷ xs) (suc place) s w at less zero = omega arith
room_set f (x ∷ xs) (suc place) s w at less (suc i) = room_set f xs place s w at less i

-- what changes one session changes that of the host machine
pub set_session : {P : Type 0} (h : Body P) (place : ℕ) (s w : Session) (ready : PlacesOf) (events : ℕ) (timers : TimersOf)
    (op : SessionImage → HostImage) → Agrees h → slice_get h.sessions.items place ≡ Some s
    → w.state.session ≡ s.state.session → s.queued.spare ≤ w.queued.spare + 1
    → s.failures.spare ≤ w.failures.spare + 1
    → ready.places ≡ marked (is_ready (session_image w)) place h.ready.places → h.ready.spare ≤ ready.spare + 1
    → h.timers.spare ≤ timers.spare + 1 → inviter w ≡ inviter s → w.children ≡ s.children
    → op (session_image s) ≡ record (with_session (image h) place (session_image w)) { events = events; timers = timers.sends }
    → Makes (option_map_or op (slice_get (image h).sessions place) (image h)) h
    (record h {
      sessions = record h.sessions { items = slice_set h.sessions.items place w };
      ready = ready;
      events = events;
      timers = timers;
    })
set_session h place s w ready events timers op agrees at name queued failures places spare timed invited listed is =
    let items = h.sessions.items in
    let within = slice_get_within items place s at in
    let found = image_at items place s at in
    let first : place ≡ 0 + place = omega arith in
    let name_at : w.state.session ≡ (get_or items place s).state.session
    = name ∙ ap (λ (x : Session). x.state.session) (sym (get_or_from_slice_get items place s s at)) in
    record {
      image = ap (λ ss. record (image h) { sessions = ss; events = events; timers = timers.sends }) (map-set session_image items place w)
          ∙ sym is ∙ sym (ap (λ o. option_map_or op o (image h)) found);
      agrees = record {
        charts = agrees.charts;
        sessions = agrees.sessions ∙ sym (map-set_same (λ (x : Session). x.state.session) items place w s name_at);
        ready = places ∙ ap (λ ps. marked (is_ready (session_image w)) place ps) agrees.ready
            ∙ ap (λ n. marked (is_ready (session_image w)) n (cued 0 (map session_image items))) first
            ∙ sym (cued_set 0 place (map session_image items) (session_image w) (slice_get_within _ _ _ found))
            ∙ ap (λ ss. cued 0 ss) (sym (map-set session_image items place w));
        family = family_same h.sessions.names (map inviter items) _ (map (λ (x : Session). x.children.items) items) _
            (map-set_same inviter items place w s (invited ∙ ap inviter (sym (get_or_from_slice_get items place s s at))))
            (map-set_same (λ (x : Session). x.children.items) items place w s (ap (λ (q : RoomyOf ℕ). q.items) listed
            ∙ ap (λ (x : Session). x.children.items) (sym (get_or_from_slice_get items place s s at)))) agrees.family;
      };
      room = record {
        charts = omega arith;
        sessions = omega arith;
        timers = timed;
        ready = spare;
        queued = room_set (λ (x : Session). x.queued.spare) items place s w at queued;
        failures = room_set (λ (x : Session). x.failures.spare) items place s w at failures;
        children = room_set (λ (x : Session). x.children.spare) items place s w at
            (omega (arith, ap (λ (q : RoomyOf ℕ). q.spare) listed));
      };
    }

-- a place stays as it was marked, where the session at it has a cue as before
pub stays_marked : {P : Type 0} (h : Body P) (place : ℕ) (s : Session) (was b : Bool) → Agrees h
    → slice_get h.sessions.items place ≡ Some s → was ≡ is_ready (session_image s) → was ≡ b
    → marked b place h.ready.places ≡ h.ready.places
stays_marked h place s was b agrees at cue same =
    let items = h.sessions.items in
    let images = map session_image items in
    let first : place ≡ 0 + place = omega arith in
    let kept : slice_set images place (session_image s) ≡ images =
    sym (map-set session_image items place s)
    ∙ map-set_same session_image items place s s (ap session_image (sym (get_or_from_slice_get items place s s at))) in
    let cues : marked (is_ready (session_image s)) place (cued 0 images) ≡ cued 0 images =
    ap (λ n. marked (is_ready (session_image s)) n (cued 0 images)) first
    ∙ sym (cued_set 0 place images (session_image s) (slice_get_within _ _ _ (image_at items place s at)))
    ∙ ap (λ ss. cued 0 ss) kept in
    subst (λ r. marked r place h.ready.places ≡ h.ready.places) (sym cue ∙ same)
    (subst (λ ps. marked (is_ready (session_image s)) place ps ≡ ps) (sym agrees.ready) cues)

-- a session that is cut off was invoked by the same
pub cut_invited : (o : Option InvokerImage)
    → option_map (λ (i : InvokerImage). i.session) (option_map (λ (i : InvokerImage). record i { cut = true }) o)
    ≡ option_map (λ (i : InvokerImage). i.session) o
cut_invited None = refl
cut_invited (Some i) = refl

-- ---- what changes a session makes

pub append_more : {X : Type 0} (xs ys zs : List X) → (xs ++ ys) ++ zs ≡ xs ++ (ys ++ zs)
append_more [] ys zs = refl
append_more (x ∷ xs) ys zs = ap (λ rest. x ∷ rest) (append_more xs ys zs)

pub name_at : {P : Type 0} (h : Body P) (place : ℕ) (s : Session) (name : List ℕ) → Agrees h
    → slice_get h.sessions.items place ≡ Some s → slice_get h.sessions.names place ≡ Some name → name ≡ s.state.session
name_at h place s name agrees at named =
    let same : slice_get h.sessions.names place ≡ Some s.state.session
    = ap (λ ns. slice_get ns place) agrees.sessions
    ∙ slice_get-map (λ (x : Session). x.state.session) h.sessions.items place
    ∙ ap (λ o. option_map (λ (x : Session). x.state.session) o) at in
    cc

pub rest_is : {X : Type 0} (r : Option X) (xs ys : List X)
    → MatchOption r ((xs ≡ []) × (ys ≡ [])) (λ x. xs ≡ x ∷ ys) → drop 1 xs ≡ ys
rest_is None xs ys h = rw (h.0, h.1) refl
rest_is (Some x) xs ys h = rw h refl

pub makes_same : {P : Type 0} (h : Body P) (g : HostImage) → Agrees h → image h ≡ g → Makes g h h
makes_same h g agrees is = record {
  image = is;
  agrees = agrees;
  room = record {
    charts = omega arith;
    sessions = omega arith;
    timers = omega arith;
    ready = omega arith;
    queued = λ place. omega arith;
    failures = λ place. omega arith;
    children = λ place. omega arith;
  };
}

-- a session that lives is left
pub clear_live : {P : Type 0} (h : Body P) (place : ℕ)
    → option_map_or (λ (s : Session). not (is_live s.state.phase)) (slice_get h.sessions.items place) false ≡ false
    → image h ≡ clear_at (image h) place
unfolding clear_at
clear_live h place live = by (slice_get h.sessions.items place) refl live
  where
    in_phase : (s : SessionImage) (p : Phase) → not (is_live p) ≡ false → image h ≡ clear_in (image h) place s p
    in_phase s (phase.Ended how) l = absurd cc
    in_phase s phase.Fresh l = refl
    in_phase s phase.Running l = refl

    ends : Option SessionImage → HostImage
    ends o = option_map_or (λ (x : SessionImage). clear_in (image h) place x x.state.phase) o (image h)

    by : (o : Option Session) → slice_get h.sessions.items place ≡ o
        → option_map_or (λ (s : Session). not (is_live s.state.phase)) o false ≡ false → image h ≡ clear_at (image h) place
    by None at l = sym (ap ends (slice_get-map session_image h.sessions.items place ∙ ap (λ o. option_map session_image o) at))
    by (Some s) at l = in_phase (session_image s) s.state.phase l ∙ sym (ap ends (image_at h.sessions.items place s at))

pub ended_at : (items : List Session) (place : ℕ) (s : Session) → slice_get items place ≡ Some s
    → option_map_or (λ (x : Session). not (is_live x.state.phase)) (slice_get items place) false ≡ true
    → is_live s.state.phase ≡ false
ended_at items place s at over = by (is_live s.state.phase)
    (sym (ap (λ o. option_map_or (λ (x : Session). not (is_live x.state.phase)) o false) at) ∙ over)
  where
    by : (b : Bool) → not b ≡ true → b ≡ false
    by true e = absurd cc
    by false e = refl

pub clear_over : (g : HostImage) (place : ℕ) (s : SessionImage) → is_live s.state.phase ≡ false
    → clear_in g place s s.state.phase ≡ cleared g place s
clear_over g place s over = by s.state.phase over
  where
    by : (p : Phase) → is_live p ≡ false → clear_in g place s p ≡ cleared g place s
    by (phase.Ended how) l = refl
    by phase.Fresh l = absurd cc
    by phase.Running l = absurd cc

pub clear_is : (g : HostImage) (place : ℕ) → clear_at g place
    ≡ option_map_or (λ (s : SessionImage). clear_in g place s s.state.phase) (slice_get g.sessions place) g
unfolding clear_at
clear_is g place = refl

-- ---- a session is started

-- a name that has no place is none of the names
none_placed : (name : List ℕ) (names : List (List ℕ)) → place_of name names ≡ None
    → list_any (λ other. bytes_eq other name) names ≡ false
none_placed name names new = by (list_any (λ other. bytes_eq other name) names) refl
  where
    at : (xs : List (List ℕ)) → list_any (λ other. bytes_eq other name) xs ≡ true
        → position_or_len (λ other. bytes_eq other name) xs < length xs
    at [] h = absurd cc
    at (x ∷ xs) h = here (bytes_eq x name) h (at xs)
      where
        here : (b : Bool) → (b || list_any (λ other. bytes_eq other name) xs) ≡ true
            → (list_any (λ other. bytes_eq other name) xs ≡ true
            → position_or_len (λ other. bytes_eq other name) xs < length xs)
            → cond (not b) (1 + position_or_len (λ other. bytes_eq other name) xs) 0 < suc (length xs)
        here true e rest = omega arith
        here false e rest = let less = rest e in omega (arith, less)

    by : (b : Bool) → list_any (λ other. bytes_eq other name) names ≡ b → b ≡ false
    by false e = refl
    by true e =
        let less = at names e in
        let yes : nat_lt (position_or_len (λ other. bytes_eq other name) names) (length names) ≡ true
        = grind (arith, nat_tests, less) in
        absurd (let never : Some (position_or_len (λ other. bytes_eq other name) names) ≡ None
        = sym (ap (λ b. cond b (Some (position_or_len (λ other. bytes_eq other name) names)) None) yes) ∙ new in cc)

family_in : (names : List (List ℕ)) (name : List ℕ) (more : List (List ℕ)) (inviters others : List (Option (List ℕ)))
    (lists listed : List (List ℕ)) → more ≡ names ++ name ∷ [] → others ≡ inviters → listed ≡ lists
    → IsFamily (names ++ name ∷ []) inviters lists → IsFamily more others listed
family_in names name more inviters others lists listed is same alike family =
    subst (λ ns. IsFamily ns others listed) (sym is) (family_same (names ++ name ∷ []) inviters others lists listed same alike family)

map_more : {X Y : Type 0} (f : X → Y) (xs : List X) (y : X) → map f (xs ++ y ∷ []) ≡ map f xs ++ f y ∷ []
map_more f [] y = refl
map_more f (x ∷ xs) y = ap (λ rest. f x ∷ rest) (map_more f xs y)

pub map_long : {X Y : Type 0} (f : X → Y) (xs : List X) → length (map f xs) ≡ length xs
map_long f [] = refl
map_long f (x ∷ xs) = ap suc (map_long f xs)

-- what is added to the body
pub record AddsOne {P : Type 0} (h : Body P) (s : Session) (front : List Session) (sessions : NamedOf Session)
    (ready : PlacesOf) : Type 0 where
  pub names : sessions.names ≡ h.sessions.names ++ s.state.session ∷ []
  pub items : sessions.items ≡ front ++ s ∷ []
  pub spare : h.sessions.spare ≤ sessions.spare + 1
  pub places : ready.places ≡ marked (is_ready (session_image s)) (length front) h.ready.places
  pub ready_spare : h.ready.spare ≤ ready.spare + 1

-- the sessions that were there stay, but for their lists of children
pub record StaysIn {P : Type 0} (h : Body P) (items : List Session) : Type 0 where
  pub images : map session_image items ≡ map session_image h.sessions.items
  pub queued : (i : ℕ) → queue_room h i ≤ option_map_or (λ (x : Session). x.queued.spare) (slice_get items i) 0 + 1
  pub failures : (i : ℕ) → failure_room h i ≤ option_map_or (λ (x : Session). x.failures.spare) (slice_get items i) 0 + 1
  pub children : (i : ℕ) → children_room h i ≤ option_map_or (λ (x : Session). x.children.spare) (slice_get items i) 0 + 1

room_later : (f : Session → ℕ) (n : ℕ) (items : List Session) (w : Session) (i : ℕ)
    → n ≤ option_map_or f (slice_get items i) 0 + 1 → n ≤ option_map_or f (slice_get (items ++ w ∷ []) i) 0 + 1
room_later f n items w i less = by items i less
  where
    by : (xs : List Session) (k : ℕ) → n ≤ option_map_or f (slice_get xs k) 0 + 1
        → n ≤ option_map_or f (slice_get (xs ++ w ∷ []) k) 0 + 1
    by [] k l = omega (arith, l)
    by (x ∷ xs) zero l = l
    by (x ∷ xs) (suc k) l = by xs k l

-- a session is added
pub one_makes : {P : Type 0} (h : Body P) (s : Session) (items : List Session) (sessions : NamedOf Session) (ready : PlacesOf)
    → Agrees h → StaysIn h items → AddsOne h s items sessions ready
    → IsFamily sessions.names (map inviter sessions.items) (map (λ (x : Session). x.children.items) sessions.items)
    → Makes (with_started (image h) s) h (record h { sessions = sessions; ready = ready })
one_makes h s items sessions ready agrees stays adds family =
    let old = h.sessions.items in
    let images : map session_image sessions.items ≡ map session_image old ++ session_image s ∷ []
    = ap (λ ss. map session_image ss) adds.items ∙ map_more session_image items s
    ∙ ap (λ ss. ss ++ session_image s ∷ []) stays.images in
    let long : length (map session_image items) ≡ length (map session_image old) = ap length stays.images in
    let at : length items ≡ 0 + length (map session_image old) = omega (arith, map_long session_image items, long) in
    let names : map (λ (x : Session). x.state.session) items ≡ map (λ (x : Session). x.state.session) old =
    sym (names_in items) ∙ ap (map (λ (x : SessionImage). x.state.session)) stays.images ∙ names_in old in
    record {
      image = ap (λ ss. record (image h) { sessions = ss }) images;
      agrees = record {
        charts = agrees.charts;
        sessions = adds.names ∙ ap (λ ns. ns ++ s.state.session ∷ []) (agrees.sessions ∙ sym names)
            ∙ sym (ap (λ ss. map (λ (x : Session). x.state.session) ss) adds.items ∙ map_more (λ (x : Session). x.state.session) items s);
        ready = adds.places ∙ ap (λ ps. marked (is_ready (session_image s)) (length items) ps) agrees.ready
            ∙ ap (λ n. marked (is_ready (session_image s)) n (cued 0 (map session_image old))) at
            ∙ sym (cued_push 0 (map session_image old) (session_image s)) ∙ ap (λ ss. cued 0 ss) (sym images);
        family = family;
      };
      room = record {
        charts = omega arith;
        sessions = adds.spare;
        timers = omega arith;
        ready = adds.ready_spare;
        queued = λ i. subst (λ ss. queue_room h i ≤ option_map_or (λ (x : Session). x.queued.spare) (slice_get ss i) 0 + 1)
            (sym adds.items) (room_later (λ (x : Session). x.queued.spare) (queue_room h i) items s i (stays.queued i));
        failures = λ i. subst (λ ss. failure_room h i ≤ option_map_or (λ (x : Session). x.failures.spare) (slice_get ss i) 0 + 1)
            (sym adds.items) (room_later (λ (x : Session). x.failures.spare) (failure_room h i) items s i (stays.failures i));
        children = λ i. subst (λ ss. children_room h i ≤ option_map_or (λ (x : Session). x.children.spare) (slice_get ss i) 0 + 1)
            (sym adds.items) (room_later (λ (x : Session). x.children.spare) (children_room h i) items s i (stays.children i));
      };
    }
  where
    names_in : (ss : List Session)
        → map (λ (x : SessionImage). x.state.session) (map session_image ss) ≡ map (λ (x : Session). x.state.session) ss
    names_in [] = refl
    names_in (x ∷ xs) = ap (λ ns. x.state.session ∷ ns) (names_in xs)

-- what is added is the last
pub newest_at : (all items : List Session) (s : Session) → all ≡ items ++ s ∷ [] → slice_get all (length items) ≡ Some s
newest_at all items s is = ap (λ ss. slice_get ss (length items)) is ∙ last items
  where
    last : (xs : List Session) → slice_get (xs ++ s ∷ []) (length xs) ≡ Some s
    last [] = refl
    last (x ∷ xs) = last xs

-- a session is started that nobody invoked
pub start_makes : {P : Type 0} (h : Body P) (s : Session) (sessions : NamedOf Session) (ready : PlacesOf) → Agrees h
    → AddsOne h s h.sessions.items sessions ready → place_of s.state.session h.sessions.names ≡ None → s.invoker ≡ None
    → s.children.items ≡ [] → Makes (with_started (image h) s) h (record h { sessions = sessions; ready = ready })
start_makes h s sessions ready agrees adds new nobody none =
    let items = h.sessions.items in
    let lists = λ (x : Session). x.children.items in
    let family = family_more h.sessions.names (map inviter items) (map lists items) s.state.session
    (none_placed s.state.session h.sessions.names new) agrees.family in
    let invited : map inviter sessions.items ≡ map inviter items ++ None ∷ [] =
    ap (map inviter) adds.items ∙ map_more inviter items s
    ∙ ap (λ o. map inviter items ++ option_map (λ (i : InvokerImage). i.session) o ∷ []) nobody in
    let listed : map lists sessions.items ≡ map lists items ++ [] ∷ [] =
    ap (map lists) adds.items ∙ map_more lists items s ∙ ap (λ cs. map lists items ++ cs ∷ []) none in
    one_makes h s items sessions ready agrees (record {
      images = refl;
      queued = λ i. omega arith;
      failures = λ i. omega arith;
      children = λ i. omega arith;
    }) adds (family_in h.sessions.names s.state.session sessions.names (map inviter items ++ None ∷ [])
    (map inviter sessions.items) (map lists items ++ [] ∷ []) (map lists sessions.items) adds.names invited listed family)

-- a session is born of the one at a place, which has one child more
pub bear_makes : {P : Type 0} (h : Body P) (s invoker grown : Session) (place : ℕ) (own : List ℕ) (sessions : NamedOf Session)
    (ready : PlacesOf) → Agrees h → AreDistinct h.sessions.names → slice_get h.sessions.items place ≡ Some invoker
    → grown ≡ record invoker {
      children = record {
        items = invoker.children.items ++ length h.sessions.items ∷ [];
        spare = invoker.children.spare - 1;
      };
    }
    → AddsOne h s (slice_set h.sessions.items place grown) sessions ready → place_of s.state.session h.sessions.names ≡ None
    → inviter s ≡ Some own → own ≡ invoker.state.session → s.children.items ≡ []
    → Makes (with_started (image h) s) h (record h { sessions = sessions; ready = ready })
bear_makes h s invoker grown place own sessions ready agrees distinct at is adds new by named none =
    let old = h.sessions.items in
    let items = slice_set old place grown in
    let lists = λ (x : Session). x.children.items in
    let there : get_or old place invoker ≡ invoker = get_or_from_slice_get old place invoker invoker at in
    let own_at : slice_get h.sessions.names place ≡ Some own =
    ap (λ ns. slice_get ns place) agrees.sessions ∙ slice_get-map (λ (x : Session). x.state.session) old place
    ∙ ap (λ o. option_map (λ (x : Session). x.state.session) o) at ∙ ap Some (sym named) in
    let listed_at : slice_get (map lists old) place ≡ Some invoker.children.items =
    slice_get-map lists old place ∙ ap (λ o. option_map lists o) at in
    let long : length (map inviter old) ≡ length old = map_long inviter old in
    let family = family_born h.sessions.names (map inviter old) (map lists old) s.state.session own place
    invoker.children.items (none_placed s.state.session h.sessions.names new) distinct own_at listed_at agrees.family in
    let invited : map inviter sessions.items ≡ map inviter old ++ Some own ∷ [] =
    ap (map inviter) adds.items ∙ map_more inviter items s ∙ ap (λ o. map inviter items ++ o ∷ []) by
    ∙ ap (λ os. os ++ Some own ∷ [])
    (map-set_same inviter old place grown invoker (ap inviter is ∙ ap inviter (sym there))) in
    let listed : map lists sessions.items
    ≡ slice_set (map lists old) place (invoker.children.items ++ length (map inviter old) ∷ []) ++ [] ∷ [] =
    ap (map lists) adds.items ∙ map_more lists items s ∙ ap (λ cs. map lists items ++ cs ∷ []) none
    ∙ ap (λ ls. ls ++ [] ∷ []) (map-set lists old place grown ∙ ap (λ w. slice_set (map lists old) place (lists w)) is
    ∙ ap (λ n. slice_set (map lists old) place (invoker.children.items ++ n ∷ [])) (sym long)) in
    one_makes h s items sessions ready agrees (record {
      images = map-set_same session_image old place grown invoker (ap session_image is ∙ ap session_image (sym there));
      queued = room_set (λ (x : Session). x.queued.spare) old place invoker grown at
          (omega (arith, ap (λ (x : Session). x.queued.spare) is));
      failures = room_set (λ (x : Session). x.failures.spare) old place invoker grown at
          (omega (arith, ap (λ (x : Session). x.failures.spare) is));
      children = room_set (λ (x : Session). x.children.spare) old place invoker grown at
          (omega (arith, ap (λ (x : Session). x.children.spare) is));
    }) adds (family_in h.sessions.names s.state.session sessions.names (map inviter old ++ Some own ∷ [])
    (map inviter sessions.items)
    (slice_set (map lists old) place (invoker.children.items ++ length (map inviter old) ∷ []) ++ [] ∷ [])
    (map lists sessions.items) adds.names invited listed family)

-- ---- the first pending send leaves

-- what was taken of the sends, the first of which is due
pub record Takes (r : Option TimerImage) (old new : TimersOf) : Type 0 where
  pub left : new ≡ record old { sends = drop 1 old.sends }
  pub send : MatchOption r (old.sends ≡ []) (λ t. old.sends ≡ t ∷ drop 1 old.sends)

none_due : (now : ℕ) (sends : List TimerImage) → IsFirstDue now sends → All (λ (s : TimerImage). now < s.due) sends
    → sends ≡ []
none_due now [] first all = refl
none_due now (t ∷ ts) first all = absurd (let later : now < t.due = all 0 t (omega arith) in omega (arith, later, first))

pub takes : (r : Option TimerImage) (old new : TimersOf) (now : ℕ) → IsFirstDue now old.sends
    → IfNone r (All (λ (s : TimerImage). now < s.due) old.sends × (new ≡ old))
    → IfSome r (λ t. (old.sends ≡ t ∷ new.sends) × (t.due ≤ now)) → new.spare ≡ old.spare → Takes r old new
takes None old new now first none some spare =
    let is = none_due now old.sends first none.0 in
    record { left = none.1 ∙ ap (λ ss. record old { sends = ss }) (is ∙ sym (ap (drop 1) is)); send = is }
takes (Some t) old new now first none some spare =
    let rest : new.sends ≡ drop 1 old.sends = sym (ap (drop 1) some.0) in
    record {
      left = ap (λ ss. record { sends = ss; spare = new.spare }) rest ∙ ap (λ n. record old { sends = drop 1 old.sends; spare = n }) spare;
      send = some.0 ∙ ap (λ ss. t ∷ ss) rest;
    }

-- ---- names

pub free_name : {P : Type 0} (h : Body P) (name : List ℕ) → Agrees h → session_place (image h) name ≡ None
    → place_of name h.sessions.names ≡ None
free_name h name agrees free =
    ap (λ ns. place_of name ns) agrees.sessions
    ∙ position_map (λ other. bytes_eq other name) (λ (s : Session). s.state.session) h.sessions.items
    ∙ sym (position_map (is_session_named name) session_image h.sessions.items) ∙ free

pub free_chart : {P : Type 0} (h : Body P) (name : List ℕ) → Agrees h → chart_place (image h) name ≡ None
    → place_of name h.charts.names ≡ None
free_chart {P = P} h name agrees free =
    ap (λ ns. place_of name ns) agrees.charts
    ∙ position_map (λ other. bytes_eq other name) (λ (c : InstalledChart P). c.image.name) h.charts.items
    ∙ sym (position_map (is_chart_named name) (λ (c : InstalledChart P). c.image) h.charts.items) ∙ free

pub name_there : {P : Type 0} (h : Body P) (place : ℕ) (name : List ℕ) → Agrees h
    → option_map (λ (s : SessionImage). s.state.session) (slice_get (image h).sessions place) ≡ Some name
    → slice_get h.sessions.names place ≡ Some name
name_there h place name agrees there =
    ap (λ ns. slice_get ns place) agrees.sessions
    ∙ slice_get-map (λ (s : Session). s.state.session) h.sessions.items place
    ∙ by (slice_get h.sessions.items place)
    ∙ sym (ap (λ o. option_map (λ (s : SessionImage). s.state.session) o) (slice_get-map session_image h.sessions.items place)) ∙ there
  where
    by : (o : Option Session) → option_map (λ (s : Session). s.state.session) o
        ≡ option_map (λ (s : SessionImage). s.state.session) (option_map session_image o)
    by None = refl
    by (Some s) = refl
