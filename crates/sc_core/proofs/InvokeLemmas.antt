-- What is prepared of an invocation is what the host machine does.
use Rattle.std.proofs.Common.{◌≡◌, ℕ, ◌+◌, ◌<◌, ◌++◌, true, false, if◌then◌else◌, Option, Some, None, option_map, List, [], ◌∷◌, length, map, slice_get, slice_set, refl, arith, sym, ap, subst, ◌∙◌, suc, zero}
use Rattle.std.specs.Option.{option_map_or}
use Rattle.std.specs.Str.{bytes_eq}
use Rattle.std.proofs.lemmas.Option.{same_Some, slice_get_within}
use Rattle.std.proofs.lemmas.Slice.Eq.{bytes_eq-Decides}
use Rattle.sc_types.specs.declared.event.Event.{Event}
use Rattle.sc_types.specs.declared.history.Delivery.TheVariants.{Born, Flagged, Unborn}
use Rattle.sc_types.specs.declared.host.HostImage.{HostImage}
use Rattle.sc_types.specs.declared.host.SessionImage.{SessionImage}
use Rattle.sc_types.specs.declared.session.SessionState.{SessionState}
use Rattle.sc_types.specs.declared.value.Value.{Value}
use Rattle.sc_law.specs.Runs.{fresh_state}
use Rattle.sc_core.specs.Births.{born_sight, sight, sights}
use Rattle.sc_core.specs.Bodies.{session_image}
use Rattle.sc_core.specs.Changes.{drop_invoke, tell, with_started}
use Rattle.sc_machine.specs.Deliveries.{born, cancel_child, child_session, cut_off, invoke, live_child, may_bear, unborn, unborn_event, while_live, without_invoke}
use Rattle.sc_core.specs.Drafts.{Drafts, Follows, IsDraft, IsSender, Stepper, own, so_far}
use Rattle.sc_machine.specs.Hosts.{is_running, session_named, session_place, with_session}
use Rattle.sc_core.specs.Installing.{IsChildAt}
use Rattle.sc_core.specs.declared.change.Change.{Change}
use Rattle.sc_core.specs.declared.change.Change.TheVariants.{Bear, CutOff, DropInvoke, Tell}
use Rattle.sc_core.specs.declared.draft.Draft.{Draft}
use Rattle.sc_core.specs.declared.draft.Placed.{Placed}
use Rattle.sc_core.specs.declared.session.Session.{Session}
use Rattle.sc_core.proofs.AimLemmas.{set_here, set_other}
use Rattle.sc_core.proofs.BirthLemmas.{grown_long, grown_more, sights_set}
use Rattle.sc_core.proofs.DraftLemmas.{Stays, get_first, one_drafted, one_more, sender_there, set_stays, then_follows}

map_push : {X Y : Type 0} (f : X → Y) (xs : List X) (y : X) → map f (xs ++ y ∷ []) ≡ map f xs ++ f y ∷ []
map_push f [] y = refl
map_push f (x ∷ xs) y = ap (λ rest. f x ∷ rest) (map_push f xs y)

-- ---- a session is born

-- what is put into the draft
pub born_put : {P : Type 0} (old : Draft P) (cs : List (Change P)) (bs : List Placed) (place : ℕ) (s : Session)
    (n m child : List ℕ) (at long : ℕ) → cs ≡ old.changes ++ Bear place n s ∷ []
    → bs ≡ old.births ++ record { name = m; place = at } ∷ [] → n ≡ child → m ≡ child → at ≡ long
    → record old { changes = cs; births = bs } ≡ record old {
      changes = old.changes ++ Bear place child s ∷ [];
      births = old.births ++ record { name = child; place = long } ∷ [];
    }
born_put {P = P} old cs bs place s n m child at long changes births named called found =
    let c : List ℕ → Change P = λ x. Bear place x s in
    let b : List ℕ → ℕ → Placed = λ x y. record { name = x; place = y } in
    let made : cs ≡ old.changes ++ c child ∷ [] = changes ∙ ap (λ x. old.changes ++ c x ∷ []) named in
    let put : bs ≡ old.births ++ b child long ∷ [] =
    births ∙ ap (λ x. old.births ++ b x at ∷ []) called ∙ ap (λ y. old.births ++ b child y ∷ []) found in
    let f : List (Change P) → List Placed → Draft P = λ x y. record old { changes = x; births = y } in
    ap (λ x. f x bs) made ∙ ap (f (old.changes ++ c child ∷ [])) put

pub born_drafted : {P : Type 0} (who : Stepper) (g : HostImage) (old new : Draft P) (t : SessionImage) (s : Session)
    (id child chart : List ℕ) (pairs : List (List ℕ × Value)) → IsDraft who g old
    → slice_get (so_far g old).sessions who.place ≡ Some t → t.state.session ≡ who.name → who.place < length g.sessions
    → session_place (so_far g old) child ≡ None → session_image s ≡ child_session t id child chart pairs
    → s.children.items ≡ []
    → new ≡ record old {
      changes = old.changes ++ Bear who.place child s ∷ [];
      births = old.births ++ record { name = child; place = length g.sessions + length old.births } ∷ [];
    }
    → Drafts who g old new (born (so_far g old) t id child chart pairs) (Born child)
born_drafted {P = P} who g old new t s id child chart pairs draft there named within free is none made =
    let h = so_far g old in
    let k = (born h t id child chart pairs).host in
    let b : Placed = record { name = child; place = length g.sessions + length old.births } in
    let own_name : s.state.session ≡ child = ap (λ (x : SessionImage). x.state.session) is in
    let link = ap (λ (x : SessionImage). x.invoker) is in
    let makes : with_started h s ≡ k = ap (λ x. record h { sessions = h.sessions ++ x ∷ [] }) is in
    let by : IsChildAt h who.place s = (
      t.state.session,
      ap (λ o. option_map (λ i. i.session) o) link,
      ap (λ o. option_map (λ (x : SessionImage). x.state.session) o) there,
    ) in
    let at : b.place ≡ length h.sessions = sym (grown_long g h old.births draft.follows.grown) in
    let seen : sights k ≡ sights h ++ born_sight b ∷ [] = map_push sight h.sessions (child_session t id child chart pairs) in
    let stays = slice_get_within h.sessions who.place t there in
    let follows : Follows who (old.births ++ b ∷ []) g k = record {
      grown = grown_more g h k old.births b draft.follows.grown seen at;
      own = ap (λ o. option_map own o) (get_first h.sessions (child_session t id child chart pairs ∷ []) who.place stays)
          ∙ draft.follows.own;
      charts = draft.follows.charts;
      clock = draft.follows.clock;
      commands = draft.follows.commands;
      sends = draft.follows.sends;
    } in
    let more = one_more who g old new (Bear who.place child s) k draft (ap (λ (x : Draft P). x.changes) made)
    (ap (λ (x : Draft P). x.events) made ∙ draft.events) (ap (λ (x : Draft P). x.delayed) made ∙ draft.delayed)
    (own_name, free, by, none) within (record {
      phase = ap (λ (x : SessionImage). x.state.phase) is;
      id = id;
      invoker = link ∙ ap (λ n. Some (record { session = n; invokeid = id; cut = false })) named;
    }) makes (subst (λ bs. Follows who bs g k) (sym (ap (λ (x : Draft P). x.births) made)) follows) in
    record { draft = more.0; host = more.1; told = refl; sent = ap (λ (x : Draft P). x.sent) made }

-- the session that is started, by its parts
pub born_image : (t : SessionImage) (s : Session) (name id child chart : List ℕ) (pairs : List (List ℕ × Value)) (depth : ℕ)
    → t.state.session ≡ name → depth ≡ t.depth + 1
    → session_image s ≡ record {
      state = fresh_state child chart pairs;
      queued = [];
      flagged = false;
      invoker = Some (record { session = name; invokeid = id; cut = false });
      depth = depth;
    }
    → session_image s ≡ child_session t id child chart pairs
born_image t s name id child chart pairs depth named deep is =
    is ∙ ap (λ n. made n depth) (sym named) ∙ ap (made t.state.session) deep
  where
    made : List ℕ → ℕ → SessionImage
    made n d = record {
      state = fresh_state child chart pairs;
      queued = [];
      flagged = false;
      invoker = Some (record { session = n; invokeid = id; cut = false });
      depth = d;
    }

pub depth_at : (g : HostImage) (place : ℕ) (s t : SessionImage) (depth : ℕ) → slice_get g.sessions place ≡ Some s
    → t.depth ≡ s.depth → option_map (λ (x : SessionImage). x.depth) (slice_get g.sessions place) ≡ Some depth
    → t.depth ≡ depth
depth_at g place s t depth there same deep =
    same ∙ same_Some s.depth depth (sym (ap (λ o. option_map (λ (x : SessionImage). x.depth) o) there) ∙ deep)

pub next_of : (o : Option SessionImage) (depth : ℕ) → option_map (λ (x : SessionImage). x.depth) o ≡ Some depth
    → option_map (λ (x : SessionImage). x.depth + 1) o ≡ Some (depth + 1)
next_of None depth is = absurd cc
next_of (Some s) depth is = ap (λ n. Some (n + 1)) (same_Some s.depth depth is)

pub depth_of : (g : HostImage) (place : ℕ) (s t : SessionImage) (depth : ℕ) → slice_get g.sessions place ≡ Some s
    → t.depth ≡ s.depth → option_map (λ (x : SessionImage). x.depth + 1) (slice_get g.sessions place) ≡ Some depth
    → depth ≡ t.depth + 1
depth_of g place s t depth there same deep =
    let is : s.depth + 1 ≡ depth =
    same_Some (s.depth + 1) depth (sym (ap (λ o. option_map (λ (x : SessionImage). x.depth + 1) o) there) ∙ deep) in
    omega (arith, is, same)

-- ---- none is

drop_is : (h : HostImage) (place : ℕ) (t : SessionImage) (child : List ℕ) → slice_get h.sessions place ≡ Some t
    → drop_invoke h place child ≡ with_session h place (without_invoke child t)
drop_is h place t child there =
    ap (λ o. option_map_or (λ (s : SessionImage). with_session h place (without_invoke child s)) o h) there

set_twice : {X : Type 0} (xs : List X) (i : ℕ) (x y : X) → slice_set (slice_set xs i x) i y ≡ slice_set xs i y
set_twice [] i x y = refl
set_twice (z ∷ zs) zero x y = refl
set_twice (z ∷ zs) (suc i) x y = ap (λ rest. z ∷ rest) (set_twice zs i x y)

-- the session is told of nothing, since it has ended
pub quiet_drafted : {P : Type 0} (who : Stepper) (g : HostImage) (old new : Draft P) (t : SessionImage) (id child : List ℕ)
    → IsDraft who g old → slice_get (so_far g old).sessions who.place ≡ Some t → is_running t.state.phase ≡ false
    → new ≡ record old { changes = old.changes ++ DropInvoke who.place child ∷ [] }
    → Drafts who g old new (unborn (so_far g old) who.place t id child) Unborn
quiet_drafted {P = P} who g old new t id child draft there running made =
    let h = so_far g old in
    let w = without_invoke child t in
    let d = unborn h who.place t id child in
    let is : with_session h who.place w ≡ d.host =
    ap (λ b. with_session h who.place
    (if b then record w { state = record w.state { internal = w.state.internal ++ unborn_event id ∷ [] } } else w))
    (sym running) in
    let stays = set_stays who h who.place t w there refl refl draft.follows.sends in
    one_drafted who g old new (DropInvoke who.place child) d Unborn draft (ap (λ (x : Draft P). x.changes) made)
    (ap (λ (x : Draft P). x.sent) made) (ap (λ (x : Draft P). x.births) made)
    (ap (λ (x : Draft P). x.events) made ∙ draft.events) (ap (λ (x : Draft P). x.delayed) made ∙ draft.delayed) refl
    (record {
      can = slice_get_within h.sessions who.place t there;
      target = tt;
      of_step = tt;
      makes = drop_is h who.place t child there ∙ is;
      stays = subst (λ k. Stays who h k) is stays;
    })

-- it is told while it runs
pub unborn_drafted : {P : Type 0} (who : Stepper) (g : HostImage) (old new : Draft P) (t : SessionImage) (id child : List ℕ)
    (e : Event) → IsDraft who g old → slice_get (so_far g old).sessions who.place ≡ Some t → who.place < length g.sessions
    → is_running t.state.phase ≡ true → e ≡ unborn_event id
    → new ≡ record old { changes = (old.changes ++ DropInvoke who.place child ∷ []) ++ Tell who.place e ∷ [] }
    → Drafts who g old new (unborn (so_far g old) who.place t id child) Unborn
unborn_drafted {P = P} who g old new t id child e draft there within running is made =
    let h = so_far g old in
    let w = without_invoke child t in
    let k = with_session h who.place w in
    let mid : Draft P = record old { changes = old.changes ++ DropInvoke who.place child ∷ [] } in
    let first = one_more who g old mid (DropInvoke who.place child) k draft refl draft.events draft.delayed
    (slice_get_within h.sessions who.place t there) tt tt (drop_is h who.place t child there)
    (then_follows who old.births g h k draft.follows
    (set_stays who h who.place t w there refl refl draft.follows.sends)) in
    let here : slice_get (so_far g mid).sessions who.place ≡ Some w =
    ap (λ (x : HostImage). slice_get x.sessions who.place) first.1 ∙ set_here h.sessions who.place t w there in
    let heard = record w { state = record w.state { internal = w.state.internal ++ unborn_event id ∷ [] } } in
    let d = unborn h who.place t id child in
    let put : with_session k who.place heard ≡ d.host =
    ap (λ ss. record h { sessions = ss }) (set_twice h.sessions who.place w heard)
    ∙ ap (λ b. with_session h who.place (if b then heard else w)) (sym running) in
    let tells : tell (so_far g mid) who.place e ≡ d.host =
    ap (λ x. tell x who.place e) first.1
    ∙ ap (λ o. option_map_or (λ (s : SessionImage). with_session k who.place
    (record s { state = record s.state { internal = s.state.internal ++ e ∷ [] } })) o k)
    (set_here h.sessions who.place t w there)
    ∙ ap (λ x. with_session k who.place (record w { state = record w.state { internal = w.state.internal ++ x ∷ [] } })) is
    ∙ put in
    let stays = set_stays who k who.place w heard (set_here h.sessions who.place t w there) refl refl draft.follows.sends in
    let more = one_more who g mid new (Tell who.place e) d.host first.0 (ap (λ (x : Draft P). x.changes) made)
    (ap (λ (x : Draft P). x.events) made ∙ draft.events) (ap (λ (x : Draft P). x.delayed) made ∙ draft.delayed)
    (slice_get_within (so_far g mid).sessions who.place w here) within tt tells
    (subst (λ bs. Follows who bs g d.host) (sym (ap (λ (x : Draft P). x.births) made))
    (subst (λ x. Follows who old.births g x) put
    (then_follows who old.births g k (with_session k who.place heard)
    (then_follows who old.births g h k draft.follows
    (set_stays who h who.place t w there refl refl draft.follows.sends)) stays))) in
    record { draft = more.0; host = more.1; told = refl; sent = ap (λ (x : Draft P). x.sent) made }

-- which of the two it is
pub invoke_born : (h : HostImage) (place : ℕ) (t : SessionImage) (id child chart : List ℕ) (pairs : List (List ℕ × Value))
    → may_bear h t child chart ≡ true → invoke h place t id child chart pairs ≡ born h t id child chart pairs
invoke_born h place t id child chart pairs may =
    ap (λ b. if b then born h t id child chart pairs else unborn h place t id child) may

pub invoke_unborn : (h : HostImage) (place : ℕ) (t : SessionImage) (id child chart : List ℕ) (pairs : List (List ℕ × Value))
    → may_bear h t child chart ≡ false → invoke h place t id child chart pairs ≡ unborn h place t id child
invoke_unborn h place t id child chart pairs may =
    ap (λ b. if b then born h t id child chart pairs else unborn h place t id child) may

-- ---- a session is no child of its own

pub no_own_child : {P : Type 0} (before : HostImage) (place : ℕ) (after : SessionState) (g : HostImage) (d : Draft P)
    (t : SessionImage) (child : List ℕ) → IsSender before place after g d t → bytes_eq child after.session ≡ true
    → live_child (so_far g d) t child ≡ None
no_own_child before place after g d t child sender own =
    let h = so_far g d in
    let named = (sender_there before place after g d t sender).is.session in
    ap (λ b. if b then None else while_live (session_named h child)) (ap (bytes_eq child) named ∙ own)

pub other_child : {P : Type 0} (before : HostImage) (place : ℕ) (after : SessionState) (g : HostImage) (d : Draft P)
    (t : SessionImage) (child : List ℕ) → IsSender before place after g d t → bytes_eq child after.session ≡ false
    → live_child (so_far g d) t child ≡ while_live (session_named (so_far g d) child)
other_child before place after g d t child sender other =
    let h = so_far g d in
    let named = (sender_there before place after g d t sender).is.session in
    ap (λ b. if b then None else while_live (session_named h child)) (ap (bytes_eq child) named ∙ other)

-- a session of another name stands at another place
pub other_place : {P : Type 0} (before : HostImage) (place : ℕ) (after : SessionState) (g : HostImage) (d : Draft P)
    (t : SessionImage) (child : List ℕ) (found : ℕ) (r : SessionImage) → IsSender before place after g d t
    → bytes_eq child after.session ≡ false → slice_get (so_far g d).sessions found ≡ Some r → r.state.session ≡ child
    → found ≡ place → ⊥
other_place before place after g d t child found r sender other there is same =
    let named = (sender_there before place after g d t sender).is.session in
    let one : t ≡ r =
    same_Some t r (sym sender.there ∙ ap (slice_get (so_far g d).sessions) (sym same) ∙ there) in
    let names : child ≡ after.session = sym is ∙ ap (λ (s : SessionImage). s.state.session) (sym one) ∙ named in
    let both : true ≡ false = sym ((bytes_eq-Decides child after.session).1 names) ∙ other in
    absurd cc

-- ---- a child is cancelled

pub cut_drafted : {P : Type 0} (who : Stepper) (g : HostImage) (old new : Draft P) (child : List ℕ) (found : ℕ)
    (r : SessionImage) → IsDraft who g old → slice_get (so_far g old).sessions found ≡ Some r → (found ≡ who.place → ⊥)
    → new ≡ record old { changes = old.changes ++ CutOff found ∷ [] }
    → Drafts who g old new (cancel_child (so_far g old) child (Some (found, r))) (Flagged child)
cut_drafted {P = P} who g old new child found r draft there other made =
    let h = so_far g old in
    let d = cancel_child h child (Some (found, r)) in
    one_drafted who g old new (CutOff found) d (Flagged child) draft (ap (λ (x : Draft P). x.changes) made)
    (ap (λ (x : Draft P). x.sent) made) (ap (λ (x : Draft P). x.births) made)
    (ap (λ (x : Draft P). x.events) made ∙ draft.events) (ap (λ (x : Draft P). x.delayed) made ∙ draft.delayed) refl
    (record {
      can = slice_get_within h.sessions found r there;
      target = tt;
      of_step = other;
      makes = ap (λ o. option_map_or (λ (s : SessionImage). with_session h found (cut_off s)) o h) there;
      stays = record {
        sights = sights_set h found r (cut_off r) there refl;
        own = ap (λ o. option_map own o) (set_other h.sessions found who.place (cut_off r) (λ same. other (sym same)));
        charts = refl;
        clock = refl;
        commands = refl;
        sends = draft.follows.sends;
      };
    })
