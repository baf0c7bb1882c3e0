-- What waits for a session stays, whatever the host does but a step of that session.
use Rattle.std.proofs.Common.{inl, inr, ◌⊎◌, map, ◌≡◌, ◌≢◌, ℕ, zero, suc, ◌+◌, ◌==◌, ◌&&◌, Bool, true, false, is_some, Option, Some, None, if◌then◌else◌, List, [], ◌∷◌, ◌++◌, append_assoc, append-nil, slice_get, slice_set, refl, sym, ap, subst, ◌∙◌, nat_lt, ◌-◌, ◌^◌}
use Rattle.std.specs.Option.{option_map_or}
use Rattle.std.specs.Str.{bytes_eq}
use Rattle.std.proofs.lemmas.Option.{same_Some}
use Rattle.sc_types.specs.Sends.{with_send}
use Rattle.sc_types.specs.declared.effect.Effect.{Effect}
use Rattle.sc_types.specs.declared.effect.Effect.TheVariants.{Send, CancelSend, Invoke, CancelChild, Forward}
use Rattle.sc_types.specs.declared.event.Event.{Event}
use Rattle.sc_types.specs.declared.history.Delivery.TheVariants.{Dropped, Nothing, Timed}
use Rattle.sc_types.specs.declared.host.HostImage.{HostImage}
use Rattle.sc_types.specs.declared.host.InvokerImage.{InvokerImage}
use Rattle.sc_types.specs.declared.host.SessionImage.{SessionImage}
use Rattle.sc_types.specs.declared.host.TimerImage.{TimerImage}
use Rattle.sc_types.specs.declared.host.To.{To}
use Rattle.sc_types.specs.declared.session.How.{How}
use Rattle.sc_types.specs.declared.session.Phase.{Phase}
use Rattle.sc_types.specs.declared.session.Phase.TheVariants as phase
use Rattle.sc_types.specs.declared.value.Value.{Value}
use Rattle.sc_machine.specs.Cues.{cue_in, is_ready}
use Rattle.sc_machine.specs.Deliveries.{arriving, born, cancel_child, cut_off, deliver, deliver_all, deliver_of, delay_send, due_time, fire, fire_all, hand_to, hears, invoke, is_cut_from, left_as, may_bear, next_send, queue, receiver_name, send_found, send_named, send_now, told, unborn, unborn_event, undo, unreachable, while_live, without_invoke}
use Rattle.sc_machine.specs.Endings.{cleared, end_at, end_event, end_in, end_with, is_left_by, one_delivery, tell_end, tell_invoker, with_children_left}
use Rattle.sc_machine.specs.Hosts.{is_live, is_running, session_named, with_session}
use Rattle.sc_machine.proofs.FoundLemmas.{is_at}
use Rattle.sc_machine.proofs.MoveLemmas.{live_found}

-- a session with the same phase, from whose queues nothing was taken, and whose flag was not taken down
pub record Waits (s t : SessionImage) : Type 0 where
  pub phase : t.state.phase ≡ s.state.phase
  pub heard : List Event
  pub internal : t.state.internal ≡ s.state.internal ++ heard
  pub got : List Event
  pub queued : t.queued ≡ s.queued ++ got
  pub flagged : s.flagged ≡ true → t.flagged ≡ true

pub waits_still : (s : SessionImage) → Waits s s
waits_still s = record {
  phase = refl;
  heard = [];
  internal = sym (append-nil s.state.internal);
  got = [];
  queued = sym (append-nil s.queued);
  flagged = λ up. up;
}

waits_both : (r s t : SessionImage) → Waits r s → Waits s t → Waits r t
waits_both r s t one two = record {
  phase = two.phase ∙ one.phase;
  heard = one.heard ++ two.heard;
  internal = two.internal ∙ ap (λ es. es ++ two.heard) one.internal ∙ append_assoc r.state.internal one.heard two.heard;
  got = one.got ++ two.got;
  queued = two.queued ∙ ap (λ es. es ++ two.got) one.queued ∙ append_assoc r.queued one.got two.got;
  flagged = λ up. two.flagged (one.flagged up);
}

-- ---- such a session is ready still

ready_more : (p : Phase) (is more qs given : List Event) (f h : Bool) → (f ≡ true → h ≡ true)
    → is_some (cue_in p is f qs) ≡ true → is_some (cue_in p (is ++ more) h (qs ++ given)) ≡ true
ready_more phase.Fresh is more qs given f h up ready = refl
ready_more (phase.Ended how) is more qs given f h up ready = absurd (cc)
ready_more phase.Running (i ∷ is) more qs given f h up ready = refl
ready_more phase.Running [] (m ∷ more) qs given f h up ready = refl
ready_more phase.Running [] [] qs given f true up ready = refl
ready_more phase.Running [] [] qs given true false up ready = absurd (let no : false ≡ true = up refl in cc)
ready_more phase.Running [] [] (q ∷ qs) given false false up ready = refl
ready_more phase.Running [] [] [] given false false up ready = absurd (cc)

pub ready_still : (s t : SessionImage) → Waits s t → is_ready s ≡ true → is_ready t ≡ true
ready_still s t w ready =
    ap (λ p. is_some (cue_in p t.state.internal t.flagged t.queued)) w.phase
    ∙ ap (λ es. is_some (cue_in s.state.phase es t.flagged t.queued)) w.internal
    ∙ ap (λ es. is_some (cue_in s.state.phase (s.state.internal ++ w.heard) t.flagged es)) w.queued
    ∙ ready_more s.state.phase s.state.internal w.heard s.queued w.got s.flagged t.flagged w.flagged ready

-- ---- the session at a place, as the host goes on

abbrev pub Goes : ℕ → HostImage → HostImage → Type 0
Goes place g h = (s : SessionImage) → slice_get g.sessions place ≡ Some s
    → (t : SessionImage) × (slice_get h.sessions place ≡ Some t) × Waits s t

pub goes_still : (place : ℕ) (g h : HostImage) → h.sessions ≡ g.sessions → Goes place g h
goes_still place g h same s there = (s, ap (λ ss. slice_get ss place) same ∙ there, waits_still s)

pub goes_both : (place : ℕ) (g m h : HostImage) → Goes place g m → Goes place m h → Goes place g h
goes_both place g m h one two s there =
    let first = one s there in
    let next = two first.0 first.1 in
    (next.0, next.1, waits_both s first.0 next.0 first.2 next.2)

-- one of several is replaced
set_get : (ss : List SessionImage) (p q : ℕ) (s put : SessionImage) → slice_get ss p ≡ Some s
    → ((p ≡ q) × (slice_get (slice_set ss q put) p ≡ Some put)) ⊎ (slice_get (slice_set ss q put) p ≡ Some s)
set_get [] p q s put at = absurd (cc)
set_get (x ∷ xs) zero zero s put at = inl (refl, refl)
set_get (x ∷ xs) zero (suc q) s put at = inr at
set_get (x ∷ xs) (suc p) zero s put at = inr at
set_get (x ∷ xs) (suc p) (suc q) s put at = by (set_get xs p q s put at)
  where
    by : ((p ≡ q) × (slice_get (slice_set xs q put) p ≡ Some put)) ⊎ (slice_get (slice_set xs q put) p ≡ Some s)
        → ((suc p ≡ suc q) × (slice_get (slice_set xs q put) p ≡ Some put)) ⊎ (slice_get (slice_set xs q put) p ≡ Some s)
    by (inl here) = inl (ap (λ n. suc n) here.0, here.1)
    by (inr other) = inr other

pub goes_set : (place q : ℕ) (g h : HostImage) (put : SessionImage) → h.sessions ≡ slice_set g.sessions q put
    → (place ≡ q → (s : SessionImage) → slice_get g.sessions q ≡ Some s → Waits s put) → Goes place g h
goes_set place q g h put same kept s there = by (set_get g.sessions place q s put there)
  where
    by : ((place ≡ q) × (slice_get (slice_set g.sessions q put) place ≡ Some put))
        ⊎ (slice_get (slice_set g.sessions q put) place ≡ Some s)
        → (t : SessionImage) × (slice_get h.sessions place ≡ Some t) × Waits s t
    by (inl here) = (
      put,
      ap (λ ss. slice_get ss place) same ∙ here.1,
      kept here.0 s (ap (slice_get g.sessions) (sym here.0) ∙ there),
    )
    by (inr other) = (s, ap (λ ss. slice_get ss place) same ∙ other, waits_still s)

-- the one that is replaced waits on
pub goes_put : (place q : ℕ) (g h : HostImage) (r put : SessionImage) → slice_get g.sessions q ≡ Some r → Waits r put
    → h.sessions ≡ slice_set g.sessions q put → Goes place g h
goes_put place q g h r put at waits same =
    goes_set place q g h put same
    (λ is s there. subst (λ (x : SessionImage). Waits x put) (same_Some r s (sym at ∙ there)) waits)

pub goes_push : (place : ℕ) (g h : HostImage) (x : SessionImage) → h.sessions ≡ g.sessions ++ x ∷ [] → Goes place g h
goes_push place g h x same s there =
    (s, ap (λ ss. slice_get ss place) same ∙ pushed g.sessions place there, waits_still s)
  where
    pushed : (ss : List SessionImage) (p : ℕ) → slice_get ss p ≡ Some s → slice_get (ss ++ x ∷ []) p ≡ Some s
    pushed [] p at = absurd (cc)
    pushed (y ∷ ys) zero at = at
    pushed (y ∷ ys) (suc p) at = pushed ys p at

pub goes_map : (place : ℕ) (g h : HostImage) (f : SessionImage → SessionImage) → ((s : SessionImage) → Waits s (f s))
    → h.sessions ≡ map f g.sessions → Goes place g h
goes_map place g h f each same s there =
    (f s, ap (λ ss. slice_get ss place) same ∙ mapped g.sessions place there, each s)
  where
    mapped : (ss : List SessionImage) (p : ℕ) → slice_get ss p ≡ Some s → slice_get (map f ss) p ≡ Some (f s)
    mapped [] p at = absurd (cc)
    mapped (y ∷ ys) zero at = ap (λ (z : SessionImage). Some (f z)) (same_Some y s at)
    mapped (y ∷ ys) (suc p) at = mapped ys p at

-- ---- what changes one session leaves what waits for it

waits_queue : (g : HostImage) (s : SessionImage) (e : Event)
    → Waits s (record s { queued = s.queued ++ record e { number = g.events + 1 } ∷ [] })
waits_queue g s e = record {
  phase = refl;
  heard = [];
  internal = sym (append-nil s.state.internal);
  got = record e { number = g.events + 1 } ∷ [];
  queued = refl;
  flagged = λ up. up;
}

pub waits_flag : (s : SessionImage) → Waits s (record s { flagged = true })
waits_flag s = record {
  phase = refl;
  heard = [];
  internal = sym (append-nil s.state.internal);
  got = [];
  queued = sym (append-nil s.queued);
  flagged = λ up. refl;
}

waits_cut : (s : SessionImage) → Waits s (cut_off s)
waits_cut s = record {
  phase = refl;
  heard = [];
  internal = sym (append-nil s.state.internal);
  got = [];
  queued = sym (append-nil s.queued);
  flagged = λ up. refl;
}

waits_tell : (s : SessionImage) (e : Event)
    → Waits s (record s { state = record s.state { internal = s.state.internal ++ e ∷ [] } })
waits_tell s e = record {
  phase = refl;
  heard = e ∷ [];
  internal = refl;
  got = [];
  queued = sym (append-nil s.queued);
  flagged = λ up. up;
}

waits_without : (child : List ℕ) (s : SessionImage) → Waits s (without_invoke child s)
waits_without child s = record {
  phase = refl;
  heard = [];
  internal = sym (append-nil s.state.internal);
  got = [];
  queued = sym (append-nil s.queued);
  flagged = λ up. up;
}

waits_told : (e : Event) (s : SessionImage) → Waits s (told e s)
waits_told e s = by (is_running s.state.phase)
  where
    by : (runs : Bool)
        → Waits s (if runs then record s { state = record s.state { internal = s.state.internal ++ e ∷ [] } } else s)
    by true = waits_tell s e
    by false = waits_still s

-- ---- deliveries

pub queue_goes : (place : ℕ) (g : HostImage) (q : ℕ) (r : SessionImage) (e : Event) → slice_get g.sessions q ≡ Some r
    → Goes place g (queue g q r e)
queue_goes place g q r e at =
    goes_put place q g (queue g q r e) r (record r { queued = r.queued ++ record e { number = g.events + 1 } ∷ [] }) at
    (waits_queue g r e) refl

unreachable_goes : (place : ℕ) (g : HostImage) (q : ℕ) (s : SessionImage) (e : Event) → slice_get g.sessions q ≡ Some s
    → Goes place g (unreachable g q s e).host
unreachable_goes place g q s e there = by (is_running s.state.phase)
  where
    by : (runs : Bool) → Goes place g (if runs then with_session g q (hears s e.sendid) else g)
    by true = goes_put place q g (with_session g q (hears s e.sendid)) s (hears s e.sendid) there (waits_tell s _) refl
    by false = goes_still place g g refl

found_goes : (place : ℕ) (g : HostImage) (q : ℕ) (s : SessionImage) (name : List ℕ) (e : Event)
    (o : Option (ℕ × SessionImage)) → slice_get g.sessions q ≡ Some s → while_live (session_named g name) ≡ o
    → Goes place g (send_found g q s name e o).host
found_goes place g q s name e None there found = unreachable_goes place g q s e there
found_goes place g q s name e (Some (p, r)) there found =
    queue_goes place g p r (arriving s name e) (is_at g name p r (live_found (session_named g name) (p, r) found)).there

named_goes : (place : ℕ) (g : HostImage) (q : ℕ) (s : SessionImage) (e : Event) (o : Option (List ℕ))
    → slice_get g.sessions q ≡ Some s → Goes place g (send_named g q s e o).host
named_goes place g q s e None there = unreachable_goes place g q s e there
named_goes place g q s e (Some name) there = by (is_cut_from s name)
  where
    by : (cut : Bool) → Goes place g (if cut then left_as g Dropped
        else send_found g q s name e (while_live (session_named g name))).host
    by true = goes_still place g g refl
    by false = found_goes place g q s name e (while_live (session_named g name)) there refl

send_goes : (place : ℕ) (g : HostImage) (q : ℕ) (s : SessionImage) (who : To) (e : Event) → slice_get g.sessions q ≡ Some s
    → Goes place g (send_now g q s who e).host
send_goes place g q s who e there = named_goes place g q s e (receiver_name s who) there

delay_keeps : (g : HostImage) (s : SessionImage) (who : To) (e : Event) (delay : ℕ)
    → (delay_send g s who e delay).host.sessions ≡ g.sessions
delay_keeps g s who e delay = by (is_live s.state.phase && nat_lt g.delayed (2 ^ 64 - 1))
  where
    by : (b : Bool) → (if b
        then record {
          host = record g { delayed = g.delayed + 1; timers = with_send (next_send g s who e delay) g.timers };
          what = Timed (g.delayed + 1) (due_time g.clock delay);
        }
        else left_as g Dropped).host.sessions ≡ g.sessions
    by true = refl
    by false = refl

undo_keeps : (g : HostImage) (s : SessionImage) (id : List ℕ) → (undo g s id).host.sessions ≡ g.sessions
undo_keeps g s [] = refl
undo_keeps g s (b ∷ id) = refl

unborn_goes : (place : ℕ) (g : HostImage) (q : ℕ) (s : SessionImage) (id child : List ℕ) → slice_get g.sessions q ≡ Some s
    → Goes place g (unborn g q s id child).host
unborn_goes place g q s id child there =
    let w = without_invoke child s in
    let e = unborn_event id in
    goes_put place q g (unborn g q s id child).host s (told e w) there
    (waits_both s w (told e w) (waits_without child s) (waits_told e w)) refl

invoke_goes : (place : ℕ) (g : HostImage) (q : ℕ) (s : SessionImage) (id child chart : List ℕ)
    (pairs : List (List ℕ × Value)) → slice_get g.sessions q ≡ Some s → Goes place g (invoke g q s id child chart pairs).host
invoke_goes place g q s id child chart pairs there = by (may_bear g s child chart)
  where
    by : (may : Bool) → Goes place g (if may then born g s id child chart pairs else unborn g q s id child).host
    by true = goes_push place g (born g s id child chart pairs).host _ refl
    by false = unborn_goes place g q s id child there

cancel_goes : (place : ℕ) (g : HostImage) (child : List ℕ) (o : Option (ℕ × SessionImage))
    → while_live (session_named g child) ≡ o → Goes place g (cancel_child g child o).host
cancel_goes place g child None found = goes_still place g g refl
cancel_goes place g child (Some (p, r)) found =
    goes_put place p g (with_session g p (cut_off r)) r (cut_off r)
    (is_at g child p r (live_found (session_named g child) (p, r) found)).there (waits_cut r) refl

hand_goes : (place : ℕ) (g : HostImage) (name : List ℕ) (e : Event) (o : Option (ℕ × SessionImage))
    → while_live (session_named g name) ≡ o → Goes place g (hand_to g name e o).host
hand_goes place g name e None found = goes_still place g g refl
hand_goes place g name e (Some (p, r)) found =
    queue_goes place g p r e (is_at g name p r (live_found (session_named g name) (p, r) found)).there

effect_goes : (place : ℕ) (g : HostImage) (q : ℕ) (s : SessionImage) (effect : Effect) → slice_get g.sessions q ≡ Some s
    → Goes place g (deliver_of g q s effect).host
effect_goes place g q s (Send e who delay) there = by (delay == 0)
  where
    by : (now : Bool) → Goes place g (if now then send_now g q s who e else delay_send g s who e delay).host
    by true = send_goes place g q s who e there
    by false = goes_still place g (delay_send g s who e delay).host (delay_keeps g s who e delay)
effect_goes place g q s (CancelSend id) there = goes_still place g (undo g s id).host (undo_keeps g s id)
effect_goes place g q s (Invoke id child chart pairs) there = invoke_goes place g q s id child chart pairs there
effect_goes place g q s (CancelChild child) there = by (bytes_eq child s.state.session)
  where
    by : (own : Bool) → Goes place g (cancel_child g child (if own then None else while_live (session_named g child))).host
    by true = goes_still place g g refl
    by false = cancel_goes place g child (while_live (session_named g child)) refl
effect_goes place g q s (Forward child e) there = hand_goes place g child e (while_live (session_named g child)) refl

deliver_goes : (place : ℕ) (g : HostImage) (q : ℕ) (effect : Effect) → Goes place g (deliver g q effect).host
unfolding deliver
deliver_goes place g q effect = by (slice_get g.sessions q) refl
  where
    by : (o : Option SessionImage) → slice_get g.sessions q ≡ o
        → Goes place g (option_map_or (λ (s : SessionImage). deliver_of g q s effect) o (left_as g Nothing)).host
    by None e = goes_still place g g refl
    by (Some s) e = effect_goes place g q s effect e

pub all_go : (place : ℕ) (g : HostImage) (q : ℕ) (effects : List Effect) → Goes place g (deliver_all g q effects).host
all_go place g q [] = goes_still place g g refl
all_go place g q (effect ∷ effects) =
    let first = (deliver g q effect).host in
    goes_both place g first (deliver_all first q effects).host (deliver_goes place g q effect) (all_go place first q effects)

fire_goes : (place : ℕ) (g : HostImage) (t : TimerImage) → Goes place g (fire g t).host
unfolding fire
fire_goes place g t = by (session_named g t.session) refl
  where
    by : (o : Option (ℕ × SessionImage)) → session_named g t.session ≡ o
        → Goes place g
        (option_map_or (λ (found : ℕ × SessionImage). send_now g found.0 found.1 t.to t.event) o (left_as g Dropped)).host
    by None e = goes_still place g g refl
    by (Some (q, s)) e = send_goes place g q s t.to t.event (is_at g t.session q s e).there

pub all_fire_go : (place : ℕ) (g : HostImage) (ts : List TimerImage) → Goes place g (fire_all g ts).host
all_fire_go place g [] = goes_still place g g refl
all_fire_go place g (t ∷ ts) =
    let first = (fire g t).host in
    goes_both place g first (fire_all first ts).host (fire_goes place g t) (all_fire_go place first ts)

-- ---- the end of another session

told_goes : (place : ℕ) (g : HostImage) (o : Option InvokerImage) (how : How) → Goes place g (tell_end g o how).host
told_goes place g None how = goes_still place g g refl
told_goes place g (Some i) how = by (end_event i.invokeid how)
  where
    cut : (e : Event) (b : Bool)
        → Goes place g (if b then left_as g Dropped else hand_to g i.session e (while_live (session_named g i.session))).host
    cut e true = goes_still place g g refl
    cut e false = hand_goes place g i.session e (while_live (session_named g i.session)) refl

    by : (o : Option Event) → Goes place g
        (option_map_or (λ (e : Event). one_delivery (tell_invoker g i e)) o (record { host = g; sent = [] })).host
    by None = goes_still place g g refl
    by (Some e) = cut e i.cut

left_waits : (name : List ℕ) (s : SessionImage) → Waits s (if is_left_by name s then cut_off s else s)
left_waits name s = by (is_left_by name s)
  where
    by : (left : Bool) → Waits s (if left then cut_off s else s)
    by true = waits_cut s
    by false = waits_still s

over_goes : (place : ℕ) (g : HostImage) (q : ℕ) (s : SessionImage) (how : How) → place ≢ q
    → Goes place g (end_with (cleared g q s) s how).host
over_goes place g q s how other =
    let c = cleared g q s in
    let name = s.state.session in
    let k = with_children_left c name in
    goes_both place g c (end_with c s how).host
    (goes_set place q g c (record s { queued = [] }) refl (λ is. absurd (other is)))
    (goes_both place c k (tell_end k s.invoker how).host
    (goes_map place c k (λ x. if is_left_by name x then cut_off x else x) (left_waits name) refl)
    (told_goes place k s.invoker how))

pub end_goes : (place : ℕ) (g : HostImage) (q : ℕ) → place ≢ q → Goes place g (end_at g q).host
unfolding end_at
end_goes place g q other = by (slice_get g.sessions q)
  where
    in_phase : (s : SessionImage) (p : Phase) → Goes place g (end_in g q s p).host
    in_phase s (phase.Ended how) = over_goes place g q s how other
    in_phase s phase.Fresh = goes_still place g g refl
    in_phase s phase.Running = goes_still place g g refl

    by : (o : Option SessionImage) → Goes place g
        (option_map_or (λ (s : SessionImage). end_in g q s s.state.phase) o (record { host = g; sent = [] })).host
    by None = goes_still place g g refl
    by (Some s) = in_phase s s.state.phase
