-- What is prepared of an effect is what the host machine does.
use Rattle.std.proofs.Common.{codes, count_by, Result, Ok, Err, IfOk, ◌≡◌, ℕ, ◌+◌, ◌-◌, ◌^◌, ◌<◌, ◌≤◌, ◌++◌, ◌&&◌, ◌==◌, true, false, nat_lt, not, filter, if◌then◌else◌, Option, Some, None, List, [], ◌∷◌, length, map, option_map, slice_get, refl, sym, ap, subst, ◌∙◌, arith, suc, zero}
use Rattle.std.specs.List.{AllByRecursion}
use Rattle.std.specs.Option.{option_map_or}
use Rattle.std.proofs.lemmas.List.Elements.{All-filter}
use Rattle.std.proofs.Math.Seq.{map-set_same}
use Rattle.std.proofs.lemmas.Bool.Decides.{nat_tests}
use Rattle.std.proofs.lemmas.List.{length-set}
use Rattle.std.proofs.lemmas.Option.{get_or_from_slice_get, same_Some, slice_get-map, slice_get_within}
use Rattle.sc_types.specs.Sends.{is_send, with_send}
use Rattle.sc_law.specs.Runs.{platform_event}
use Rattle.sc_types.specs.declared.effect.Effect.{Effect}
use Rattle.sc_types.specs.declared.effect.Effect.TheVariants.{Send}
use Rattle.sc_types.specs.declared.event.Data.TheVariants.{Absent}
use Rattle.sc_types.specs.declared.event.Event.{Event}
use Rattle.sc_types.specs.declared.history.Delivery.{Delivery}
use Rattle.sc_types.specs.declared.history.Delivery.TheVariants.{Dropped, Nothing, Queued, Timed, Undone, Unreachable}
use Rattle.sc_types.specs.declared.host.HostImage.{HostImage}
use Rattle.sc_types.specs.declared.host.InvokerImage.{InvokerImage}
use Rattle.sc_types.specs.declared.host.SessionImage.{SessionImage}
use Rattle.sc_types.specs.declared.host.TimerImage.{TimerImage}
use Rattle.sc_types.specs.declared.host.To.{To}
use Rattle.sc_types.specs.declared.session.SessionState.{SessionState}
use Rattle.sc_core.specs.Births.{IsGrown, Sight, born_sight, sight, sights}
use Rattle.sc_core.specs.Changes.{numbered, put_state, queue_at, tell}
use Rattle.sc_machine.specs.Deliveries.{Delivered, arriving, delay_send, deliver, deliver_of, due_time, hand_to, hears, is_cut_from, left_as, next_send, queue, send_found, send_named, send_now, undo, unreachable, while_live}
use Rattle.sc_core.specs.Drafts.{AreNumbered, Drafts, Follows, IsDraft, IsOfStep, IsSender, Notes, Own, Stepper, own, own_at, so_far}
use Rattle.sc_machine.specs.Hosts.{is_live, is_running, session_named, with_session}
use Rattle.sc_core.specs.Installing.{CanApply, CanApplyAll, HasTarget, HaveTargets, apply, installed}
use Rattle.sc_core.specs.declared.change.Change.{Change}
use Rattle.sc_core.specs.declared.change.Change.TheVariants.{Delay, Queue, Tell, Undo}
use Rattle.sc_core.specs.declared.draft.Draft.{Draft}
use Rattle.sc_core.specs.declared.draft.Placed.{Placed}
use Rattle.sc_core.proofs.AimLemmas.{set_here}
use Rattle.sc_core.proofs.AppendLemmas.{can_more, installed_more, targets_more}
use Rattle.sc_core.proofs.BirthLemmas.{grown_from, grown_on, place_of_found, sights_set}
use Rattle.sc_machine.proofs.FoundLemmas.{is_at}
use Rattle.sc_machine.proofs.GivenLemmas.{all_push}
use Rattle.sc_machine.proofs.MoveLemmas.{live_found}
use Rattle.sc_core.proofs.SetLemmas.{map_long}
use Rattle.sc_core.proofs.SoundLemmas.{next_numbered}

-- ---- what a step leaves of its own session

abbrev owns : HostImage → List Own
owns g = map own g.sessions

own_alike : (g h : HostImage) (place : ℕ) → owns h ≡ owns g → own_at h place ≡ own_at g place
own_alike g h place same =
    sym (slice_get-map own h.sessions place) ∙ ap (λ os. slice_get os place) same ∙ slice_get-map own g.sessions place

owns_set : (g : HostImage) (place : ℕ) (s t : SessionImage) → slice_get g.sessions place ≡ Some s → own t ≡ own s
    → owns (with_session g place t) ≡ owns g
owns_set g place s t there same =
    map-set_same own g.sessions place t s (same ∙ ap own (sym (get_or_from_slice_get g.sessions place s s there)))

-- what a change leaves as it was
pub record Stays (who : Stepper) (h k : HostImage) : Type 0 where
  pub sights : sights k ≡ sights h
  pub own : own_at k who.place ≡ own_at h who.place
  pub charts : k.charts ≡ h.charts
  pub clock : k.clock ≡ h.clock
  pub commands : k.commands ≡ h.commands
  pub sends : AreNumbered k

-- one session is replaced
pub set_stays : (who : Stepper) (g : HostImage) (place : ℕ) (s t : SessionImage) → slice_get g.sessions place ≡ Some s
    → sight t ≡ sight s → own t ≡ own s → AreNumbered g → Stays who g (with_session g place t)
set_stays who g place s t there seen owned sends = record {
  sights = sights_set g place s t there seen;
  own = own_alike g (with_session g place t) who.place (owns_set g place s t there owned);
  charts = refl;
  clock = refl;
  commands = refl;
  sends = sends;
}

-- ---- one change more

-- what a change is to be so that it drafts a delivery
pub record DoesOne {P : Type 0} (who : Stepper) (g h : HostImage) (c : Change P) (d : Delivered) : Type 0 where
  pub can : CanApply h c
  pub target : HasTarget (length g.sessions) c
  pub of_step : IsOfStep who c
  pub makes : apply c h ≡ d.host
  pub stays : Stays who h d.host

pub then_follows : (who : Stepper) (births : List Placed) (g h k : HostImage) → Follows who births g h → Stays who h k
    → Follows who births g k
then_follows who births g h k first more = record {
  grown = grown_on g h k births first.grown more.sights;
  own = more.own ∙ first.own;
  charts = more.charts ∙ first.charts;
  clock = more.clock ∙ first.clock;
  commands = more.commands ∙ first.commands;
  sends = more.sends;
}

-- a delivery that changes nothing
pub none_drafted : {P : Type 0} (who : Stepper) (g : HostImage) (old : Draft P) (d : Delivered) (told : Delivery)
    → IsDraft who g old → d.host ≡ so_far g old → told ≡ d.what → Drafts who g old old d told
none_drafted who g old d told draft host is = record { draft = draft; host = sym host; told = is; sent = refl }

-- one change behind others
pub one_more : {P : Type 0} (who : Stepper) (g : HostImage) (old new : Draft P) (c : Change P) (k : HostImage)
    → IsDraft who g old → new.changes ≡ old.changes ++ c ∷ [] → new.events ≡ k.events → new.delayed ≡ k.delayed
    → CanApply (so_far g old) c → HasTarget (length g.sessions) c → IsOfStep who c → apply c (so_far g old) ≡ k
    → Follows who new.births g k → IsDraft who g new × (so_far g new ≡ k)
one_more {P = P} who g old new c k draft changes events delayed can target of makes follows =
    let reaches : so_far g new ≡ k =
    ap (λ (cs : List (Change P)). installed cs g) changes ∙ installed_more old.changes (c ∷ []) g ∙ makes in (
      record {
        can = subst (CanApplyAll g) (sym changes) (can_more old.changes (c ∷ []) g draft.can (can, tt));
        targets = subst (HaveTargets (length g.sessions)) (sym changes)
            (targets_more old.changes (c ∷ []) (length g.sessions) draft.targets (target, tt));
        of_step = subst (AllByRecursion (IsOfStep who)) (sym changes)
            (all_push (IsOfStep who) old.changes c draft.of_step of);
        events = events ∙ ap (λ (x : HostImage). x.events) (sym reaches);
        delayed = delayed ∙ ap (λ (x : HostImage). x.delayed) (sym reaches);
        follows = subst (Follows who new.births g) (sym reaches) follows;
      },
      reaches,
    )

-- a delivery that makes one change, and lets nobody be born
pub one_drafted : {P : Type 0} (who : Stepper) (g : HostImage) (old new : Draft P) (c : Change P) (d : Delivered)
    (told : Delivery) → IsDraft who g old → new.changes ≡ old.changes ++ c ∷ [] → new.sent ≡ old.sent
    → new.births ≡ old.births → new.events ≡ d.host.events → new.delayed ≡ d.host.delayed → told ≡ d.what
    → DoesOne who g (so_far g old) c d → Drafts who g old new d told
one_drafted {P = P} who g old new c d told draft changes sent births events delayed is does =
    let more = one_more who g old new c d.host draft changes events delayed does.can does.target does.of_step does.makes
    (subst (λ bs. Follows who bs g d.host) (sym births)
    (then_follows who old.births g (so_far g old) d.host draft.follows does.stays)) in
    record { draft = more.0; host = more.1; told = is; sent = sent }

-- equal deliveries are drafted alike
pub drafts_same : {P : Type 0} (who : Stepper) (g : HostImage) (old new : Draft P) (d e : Delivered) (told : Delivery)
    → e ≡ d → Drafts who g old new d told → Drafts who g old new e told
drafts_same who g old new d e told is h = subst (λ (x : Delivered). Drafts who g old new x told) (sym is) h

-- ---- the sender

-- what deliveries leave of a sender
pub record IsSent (before : HostImage) (place : ℕ) (after : SessionState) (s t : SessionImage) : Type 0 where
  pub session : t.state.session ≡ after.session
  pub phase : t.state.phase ≡ after.phase
  pub invoker : t.invoker ≡ s.invoker
  pub depth : t.depth ≡ s.depth

-- a session is put in, and none is added
pub put_long : (g : HostImage) (place : ℕ) (after : SessionState) → length (put_state g place after).sessions ≡ length g.sessions
put_long g place after = by (slice_get g.sessions place)
  where
    put : SessionImage → HostImage
    put s = with_session g place (record s { state = after })

    by : (o : Option SessionImage) → length (option_map_or put o g).sessions ≡ length g.sessions
    by None = refl
    by (Some s) = length-set g.sessions place (record s { state = after })

-- the sender stands in the host, with what its turn and deliveries leave of it
pub record IsThere (before : HostImage) (place : ℕ) (after : SessionState) (t : SessionImage) : Type 0 where
  pub session : SessionImage
  pub there : slice_get before.sessions place ≡ Some session
  pub is : IsSent before place after session t

some_own : (o : Option SessionImage) (w : Own) → option_map own o ≡ Some w → (s : SessionImage) × (o ≡ Some s) × (own s ≡ w)
some_own None w h = absurd cc
some_own (Some s) w h = (s, refl, same_Some (own s) w h)

pub get_first : {X : Type 0} (xs ys : List X) (i : ℕ) → i < length xs → slice_get (xs ++ ys) i ≡ slice_get xs i
get_first [] ys i l = absurd (omega (arith, l))
get_first (x ∷ xs) ys zero l = refl
get_first (x ∷ xs) ys (suc i) l = get_first xs ys i (omega (arith, l))

-- the host machine so far has the sessions of the one before, and those that are born
pub sender_grown : {P : Type 0} (before : HostImage) (place : ℕ) (after : SessionState) (g : HostImage) (d : Draft P)
    (t : SessionImage) → IsSender before place after g d t → IsGrown (put_state before place after) d.births (so_far g d)
sender_grown before place after g d t sender =
    grown_from g (put_state before place after) (so_far g d) d.births sender.base.sights sender.draft.follows.grown

pub sender_there : {P : Type 0} (before : HostImage) (place : ℕ) (after : SessionState) (g : HostImage) (d : Draft P)
    (t : SessionImage) → IsSender before place after g d t → IsThere before place after t
sender_there {P = P} before place after g d t sender =
    let h = so_far g d in
    let owned : own_at before place ≡ Some (own t) =
    sym sender.base.own ∙ sym sender.draft.follows.own ∙ ap (λ o. option_map own o) sender.there in
    let found = some_own (slice_get before.sessions place) (own t) owned in
    let s = found.0 in
    let put = with_session before place (record s { state = after }) in
    let is_put : put_state before place after ≡ put =
    ap (λ o. option_map_or (λ (x : SessionImage). with_session before place (record x { state = after })) o before) found.1 in
    let grown = sender_grown before place after g d t sender in
    let within : place < length (sights (put_state before place after)) =
    let less = slice_get_within before.sessions place s found.1 in
    omega (arith, less, put_long before place after, map_long sight (put_state before place after).sessions) in
    let seen : Some (sight t) ≡ Some (sight (record s { state = after })) =
    sym (slice_get-map sight h.sessions place ∙ ap (λ o. option_map sight o) sender.there)
    ∙ ap (λ os. slice_get os place) grown.sights
    ∙ get_first (sights (put_state before place after)) (map born_sight d.births) place within
    ∙ ap (λ (k : HostImage). slice_get (sights k) place) is_put
    ∙ slice_get-map sight put.sessions place
    ∙ ap (λ o. option_map sight o) (set_here before.sessions place s (record s { state = after }) found.1) in
    let same = same_Some (sight t) (sight (record s { state = after })) seen in
    record {
      session = s;
      there = found.1;
      is = record {
        session = ap (λ (o : Sight). o.name) same;
        phase = ap (λ (o : Sight). o.phase) same;
        invoker = sym (ap (λ (o : Own). o.invoker) found.2);
        depth = sym (ap (λ (o : Own). o.depth) found.2);
      };
    }

-- it stands in the host of which the first effect is drafted
pub sender_within : {P : Type 0} (before : HostImage) (place : ℕ) (after : SessionState) (g : HostImage) (d : Draft P)
    (t : SessionImage) → IsSender before place after g d t → place < length g.sessions
sender_within before place after g d t sender =
    let found = some_own (slice_get g.sessions place) (own t)
    (sym sender.draft.follows.own ∙ ap (λ o. option_map own o) sender.there) in
    slice_get_within g.sessions place found.0 found.1

-- who invoked the sender
pub invoker_of : {P : Type 0} (before : HostImage) (place : ℕ) (after : SessionState) (g : HostImage) (d : Draft P)
    (t : SessionImage) (by : Option InvokerImage) → IsSender before place after g d t
    → option_map (λ (s : SessionImage). s.invoker) (slice_get before.sessions place) ≡ Some by → t.invoker ≡ by
invoker_of before place after g d t by sender invoked =
    let found = sender_there before place after g d t sender in
    found.is.invoker ∙ same_Some found.session.invoker by
    (sym (ap (λ o. option_map (λ (s : SessionImage). s.invoker) o) found.there) ∙ invoked)

abbrev name_of : SessionImage → List ℕ
name_of s = s.state.session

-- a session that has this name
pub some_map : (o : Option SessionImage) (n : List ℕ) → option_map name_of o ≡ Some n
    → (r : SessionImage) × (o ≡ Some r) × (r.state.session ≡ n)
some_map None n h = absurd cc
some_map (Some r) n h = (r, refl, same_Some r.state.session n h)

-- ---- the receiver

-- where a session was found that lives, it is there
pub found_there : (h : HostImage) (name : List ℕ) (place : ℕ)
    → Some place ≡ place_of_found (while_live (session_named h name))
    → (r : SessionImage) × (while_live (session_named h name) ≡ Some (place, r)) × (slice_get h.sessions place ≡ Some r)
    × (r.state.session ≡ name)
found_there h name place is = by (while_live (session_named h name)) refl is
  where
    by : (o : Option (ℕ × SessionImage)) → while_live (session_named h name) ≡ o → Some place ≡ place_of_found o
        → (r : SessionImage) × (while_live (session_named h name) ≡ Some (place, r)) × (slice_get h.sessions place ≡ Some r)
        × (r.state.session ≡ name)
    by None at e = absurd cc
    by (Some (p, r)) at e =
        let same : p ≡ place = cc in
        let found : while_live (session_named h name) ≡ Some (place, r) = at ∙ ap (λ q. Some (q, r)) same in
        let there = is_at h name place r (live_found (session_named h name) (place, r) found) in
        (r, found, there.there, there.named)

-- where none was found, there is none
pub none_there : (o : Option (ℕ × SessionImage)) → None ≡ place_of_found o → o ≡ None
none_there None is = refl
none_there (Some found) is = absurd cc

-- a session that is cut off from the receiver sends it nothing
pub cut_is_dropped : (h : HostImage) (place : ℕ) (t : SessionImage) (e : Event) (name : List ℕ) → is_cut_from t name ≡ true
    → send_named h place t e (Some name) ≡ left_as h Dropped
cut_is_dropped h place t e name cut =
    ap (λ b. if b then left_as h Dropped else send_found h place t name e (while_live (session_named h name))) cut

pub lost_is_unreachable : (h : HostImage) (place : ℕ) (t : SessionImage) (e : Event) (name : List ℕ)
    → is_cut_from t name ≡ false → while_live (session_named h name) ≡ None
    → send_named h place t e (Some name) ≡ unreachable h place t e
lost_is_unreachable h place t e name cut none =
    ap (λ b. if b then left_as h Dropped else send_found h place t name e (while_live (session_named h name))) cut
    ∙ ap (send_found h place t name e) none

pub sent_is_handed : (h : HostImage) (place receiver : ℕ) (t r : SessionImage) (e : Event) (name : List ℕ)
    → is_cut_from t name ≡ false → while_live (session_named h name) ≡ Some (receiver, r)
    → send_named h place t e (Some name) ≡ hand_to h name (arriving t name e) (Some (receiver, r))
sent_is_handed h place receiver t r e name cut found =
    ap (λ b. if b then left_as h Dropped else send_found h place t name e (while_live (session_named h name))) cut
    ∙ ap (send_found h place t name e) found

-- what is said of each value of one result is said of it
pub each_ok : {A E : Type 0} {P Q : A → Type 0} → ((a : A) → P a → Q a) → (r : Result A E) → IfOk r P → IfOk r Q
each_ok f (Ok a) h = f a h
each_ok f (Err e) h = tt

-- a send with a delay
pub is_later : (g : HostImage) (place : ℕ) (s : SessionImage) (e : Event) (who : To) (delay : ℕ) → (delay ≡ 0 → ⊥)
    → deliver_of g place s (Send e who delay) ≡ delay_send g s who e delay
is_later g place s e who delay some =
    let no : (delay == 0) ≡ false = grind (arith, nat_tests, some) in
    ap (λ b. if b then send_now g place s who e else delay_send g s who e delay) no

-- an effect of the session at a place
pub deliver_is : (g : HostImage) (place : ℕ) (s : SessionImage) (effect : Effect) → slice_get g.sessions place ≡ Some s
    → deliver g place effect ≡ deliver_of g place s effect
unfolding deliver
deliver_is g place s effect there =
    ap (λ o. option_map_or (λ (x : SessionImage). deliver_of g place x effect) o (left_as g Nothing)) there

-- what becomes of an effect is noted behind what became of the others
pub noted : {P : Type 0} (who : Stepper) (g : HostImage) (old mid new : Draft P) (d e : Delivered) (told : Delivery) → e ≡ d
    → Drafts who g old mid d told → new ≡ record mid { sent = mid.sent ++ told ∷ [] } → Notes who g old new e
noted {P = P} who g old mid new d e told is h made =
    let sent : new.sent ≡ old.sent ++ e.what ∷ [] =
    ap (λ (x : Draft P). x.sent) made ∙ ap (λ s. s ++ told ∷ []) h.sent
    ∙ ap (λ w. old.sent ++ w ∷ []) (h.told ∙ sym (ap (λ (x : Delivered). x.what) is)) in
    record {
      draft = subst (IsDraft who g) (sym made) (record {
        can = h.draft.can;
        targets = h.draft.targets;
        of_step = h.draft.of_step;
        events = h.draft.events;
        delayed = h.draft.delayed;
        follows = h.draft.follows;
      });
      host = ap (so_far g) made ∙ h.host ∙ sym (ap (λ (x : Delivered). x.host) is);
      sent = sent;
    }

-- ---- a send that reaches nobody

told_is : (h : HostImage) (place : ℕ) (t : SessionImage) (e : Event) → slice_get h.sessions place ≡ Some t
    → tell h place e ≡ with_session h place (record t { state = record t.state { internal = t.state.internal ++ e ∷ [] } })
told_is h place t e there = ap (λ o. option_map_or (λ (s : SessionImage). with_session h place
    (record s { state = record s.state { internal = s.state.internal ++ e ∷ [] } })) o h) there

pub hears_drafted : {P : Type 0} (who : Stepper) (g : HostImage) (old new : Draft P) (place : ℕ) (t : SessionImage)
    (e heard : Event) → IsDraft who g old → slice_get (so_far g old).sessions place ≡ Some t
    → place < length g.sessions → is_running t.state.phase ≡ true → heard ≡ platform_event (codes "error.communication") e.sendid Absent
    → new ≡ record old { changes = old.changes ++ Tell place heard ∷ [] }
    → Drafts who g old new (unreachable (so_far g old) place t e) Unreachable
hears_drafted {P = P} who g old new place t e heard draft there within running is made =
    let h = so_far g old in
    let k = with_session h place (hears t e.sendid) in
    let told : tell h place heard ≡ k = told_is h place t heard there
    ∙ ap (λ (x : Event). with_session h place (record t { state = record t.state { internal = t.state.internal ++ x ∷ [] } })) is in
    let d : Delivered = record { host = k; what = Unreachable } in
    drafts_same who g old new d (unreachable h place t e) Unreachable
    (ap (λ b. left_as (if b then k else h) Unreachable) running)
    (one_drafted who g old new (Tell place heard) d Unreachable draft (ap (λ (x : Draft P). x.changes) made)
    (ap (λ (x : Draft P). x.sent) made) (ap (λ (x : Draft P). x.births) made)
    (ap (λ (x : Draft P). x.events) made ∙ draft.events)
    (ap (λ (x : Draft P). x.delayed) made ∙ draft.delayed) refl
    (record {
      can = slice_get_within h.sessions place t there;
      target = within;
      of_step = tt;
      makes = told;
      stays = set_stays who h place t (hears t e.sendid) there refl refl draft.follows.sends;
    }))

pub unheard_drafted : {P : Type 0} (who : Stepper) (g : HostImage) (old : Draft P) (place : ℕ) (t : SessionImage) (e : Event)
    → IsDraft who g old → is_running t.state.phase ≡ false
    → Drafts who g old old (unreachable (so_far g old) place t e) Unreachable
unheard_drafted who g old place t e draft running =
    let h = so_far g old in
    none_drafted who g old (unreachable h place t e) Unreachable draft
    (ap (λ b. if b then with_session h place (hears t e.sendid) else h) running) refl

-- ---- an event that reaches a session

pub hand_drafted : {P : Type 0} (who : Stepper) (g : HostImage) (old new : Draft P) (receiver : ℕ) (r : SessionImage)
    (name : List ℕ) (e : Event) (told : Delivery) → IsDraft who g old → slice_get (so_far g old).sessions receiver ≡ Some r
    → old.events + 1 < 2 ^ 128
    → new ≡ record old { changes = old.changes ++ Queue receiver (numbered (old.events + 1) e) ∷ []; events = old.events + 1 }
    → told ≡ Queued (old.events + 1) name
    → Drafts who g old new (hand_to (so_far g old) name e (Some (receiver, r))) told
hand_drafted {P = P} who g old new receiver r name e told draft there number made what =
    let h = so_far g old in
    let d = hand_to h name e (Some (receiver, r)) in
    let within = slice_get_within h.sessions receiver r there in
    let reached : queue_at h receiver e ≡ d.host =
    ap (λ o. option_map_or (λ (s : SessionImage). queue h receiver s e) o h) there in
    let events : old.events + 1 ≡ h.events + 1 = ap (λ n. n + 1) draft.events in
    let put = record r { queued = r.queued ++ record e { number = h.events + 1 } ∷ [] } in
    let stays = set_stays who h receiver r put there refl refl draft.follows.sends in
    one_drafted who g old new (Queue receiver (numbered (old.events + 1) e)) d told draft (ap (λ (x : Draft P). x.changes) made)
    (ap (λ (x : Draft P). x.sent) made) (ap (λ (x : Draft P). x.births) made)
    (ap (λ (x : Draft P). x.events) made ∙ events)
    (ap (λ (x : Draft P). x.delayed) made ∙ draft.delayed) (what ∙ ap (λ n. Queued n name) events)
    (record {
      can = (within, omega (arith, number, events), events);
      target = tt;
      of_step = tt;
      makes = reached;
      stays = record {
        sights = stays.sights;
        own = stays.own;
        charts = refl;
        clock = refl;
        commands = refl;
        sends = draft.follows.sends;
      };
    })

-- ---- a delayed send

pub delay_drafted : {P : Type 0} (who : Stepper) (g : HostImage) (old new : Draft P) (t : SessionImage) (to : To) (e : Event)
    (delay : ℕ) (send : TimerImage) (told : Delivery) → IsDraft who g old
    → (is_live t.state.phase && nat_lt old.delayed (2 ^ 64 - 1)) ≡ true
    → send ≡ next_send (so_far g old) t to e delay
    → new ≡ record old { changes = old.changes ++ Delay send ∷ []; delayed = old.delayed + 1 }
    → told ≡ Timed (old.delayed + 1) (due_time (so_far g old).clock delay)
    → Drafts who g old new (delay_send (so_far g old) t to e delay) told
delay_drafted {P = P} who g old new t to e delay send told draft may is made what =
    let h = so_far g old in
    let next = next_send h t to e delay in
    let d : Delivered = record {
      host = record h { delayed = h.delayed + 1; timers = with_send next h.timers };
      what = Timed (h.delayed + 1) (due_time h.clock delay);
    } in
    let count : old.delayed + 1 ≡ h.delayed + 1 = ap (λ n. n + 1) draft.delayed in
    let can : (is_live t.state.phase && nat_lt h.delayed (2 ^ 64 - 1)) ≡ true =
    ap (λ n. is_live t.state.phase && nat_lt n (2 ^ 64 - 1)) (sym draft.delayed) ∙ may in
    drafts_same who g old new d (delay_send h t to e delay) told (ap (λ b. if b then d else left_as h Dropped) can)
    (one_drafted who g old new (Delay send) d told draft (ap (λ (x : Draft P). x.changes) made)
    (ap (λ (x : Draft P). x.sent) made) (ap (λ (x : Draft P). x.births) made) (ap (λ (x : Draft P). x.events) made ∙ draft.events)
    (ap (λ (x : Draft P). x.delayed) made ∙ count) (what ∙ ap (λ n. Timed n (due_time h.clock delay)) count)
    (record {
      can = λ i x l. omega (arith, draft.follows.sends i x l, ap (λ (s : TimerImage). s.number) is);
      target = tt;
      of_step = tt;
      makes = ap (λ (s : TimerImage). record h { delayed = s.number; timers = with_send s h.timers }) is;
      stays = record {
        sights = refl;
        own = refl;
        charts = refl;
        clock = refl;
        commands = refl;
        sends = next_numbered h next (omega arith) draft.follows.sends;
      };
    }))

-- a pending send by its parts
pub next_is : (g : HostImage) (t : SessionImage) (who : To) (e : Event) (delay : ℕ) (session : List ℕ) (number due : ℕ)
    → session ≡ t.state.session → number ≡ g.delayed + 1 → due ≡ due_time g.clock delay
    → record { session = session; number = number; due = due; event = e; to = who } ≡ next_send g t who e delay
next_is g t who e delay session number due named numbered is =
    ap (send session number) is ∙ ap (λ n. send session n (due_time g.clock delay)) numbered
    ∙ ap (λ s. send s (g.delayed + 1) (due_time g.clock delay)) named
  where
    send : List ℕ → ℕ → ℕ → TimerImage
    send s n d = record { session = s; number = n; due = d; event = e; to = who }

pub dropped_drafted : {P : Type 0} (who : Stepper) (g : HostImage) (old : Draft P) (t : SessionImage) (to : To) (e : Event)
    (delay : ℕ) → IsDraft who g old → (is_live t.state.phase && nat_lt old.delayed (2 ^ 64 - 1)) ≡ false
    → Drafts who g old old (delay_send (so_far g old) t to e delay) Dropped
dropped_drafted who g old t to e delay draft may =
    let h = so_far g old in
    let next = next_send h t to e delay in
    let d : Delivered = record {
      host = record h { delayed = h.delayed + 1; timers = with_send next h.timers };
      what = Timed (h.delayed + 1) (due_time h.clock delay);
    } in
    let no : (is_live t.state.phase && nat_lt h.delayed (2 ^ 64 - 1)) ≡ false =
    ap (λ n. is_live t.state.phase && nat_lt n (2 ^ 64 - 1)) (sym draft.delayed) ∙ may in
    drafts_same who g old old (left_as h Dropped) (delay_send h t to e delay) Dropped
    (ap (λ b. if b then d else left_as h Dropped) no) (none_drafted who g old (left_as h Dropped) Dropped draft refl refl)

-- ---- pending sends that go

abbrev undone : HostImage → List ℕ → List ℕ → Delivered
undone h session id = record {
  host = record h { timers = filter (λ t. not (is_send session id t)) h.timers };
  what = Undone (count_by (is_send session id) h.timers);
}

undo_some : (h : HostImage) (t : SessionImage) (id : List ℕ) → (id ≡ [] → ⊥) → undo h t id ≡ undone h t.state.session id
undo_some h t [] some = absurd (some refl)
undo_some h t (b ∷ id) some = refl

pub undo_drafted : {P : Type 0} (who : Stepper) (g : HostImage) (old new : Draft P) (t : SessionImage) (id : List ℕ) (n : ℕ)
    → IsDraft who g old → t.state.session ≡ who.name → (id ≡ [] → ⊥)
    → n ≡ count_by (is_send who.name id) (so_far g old).timers
    → new ≡ record old { changes = old.changes ++ Undo who.name id ∷ [] }
    → Drafts who g old new (undo (so_far g old) t id) (Undone n)
undo_drafted {P = P} who g old new t id n draft named some count made =
    let h = so_far g old in
    let d = undone h who.name id in
    drafts_same who g old new d (undo h t id) (Undone n) (undo_some h t id some ∙ ap (λ s. undone h s id) named)
    (one_drafted who g old new (Undo who.name id) d (Undone n) draft (ap (λ (x : Draft P). x.changes) made)
    (ap (λ (x : Draft P). x.sent) made) (ap (λ (x : Draft P). x.births) made) (ap (λ (x : Draft P). x.events) made ∙ draft.events)
    (ap (λ (x : Draft P). x.delayed) made ∙ draft.delayed) (ap Undone count)
    (record {
      can = tt;
      target = tt;
      of_step = refl;
      makes = refl;
      stays = record {
        sights = refl;
        own = refl;
        charts = refl;
        clock = refl;
        commands = refl;
        sends = All-filter (λ (t : TimerImage). not (is_send who.name id t)) (λ (t : TimerImage). t.number ≤ h.delayed) h.timers
            draft.follows.sends;
      };
    }))
