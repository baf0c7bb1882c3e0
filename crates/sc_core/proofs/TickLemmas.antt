-- What is drafted of the sends that come due is what they do.
use Rattle.std.proofs.Common.{IfOk, Result, Ok, Err, append-nil, ◌≡◌, ℕ, ◌+◌, ◌^◌, ◌<◌, ◌≤◌, nat_le, zero, suc, Bool, true, false, not, filter, cond, Option, Some, None, option_map, option_and_then, if◌then◌else◌, List, [], ◌∷◌, ◌++◌, drop, length, position, slice_get, refl, arith, sym, ap, subst, ◌∙◌}
use Rattle.std.proofs.lemmas.Bool.Decides.{nat_tests}
use Rattle.std.proofs.lemmas.List.{length-append, length-map, append_assoc}
use Rattle.std.proofs.lemmas.Option.{slice_get-map, slice_get_within}
use Rattle.std.specs.List.{AllByRecursion}
use Rattle.std.specs.Option.{option_map_or}
use Rattle.std.specs.Str.{bytes_eq}
use Rattle.sc_base.specs.declared.memory.NoMemory.{NoMemory}
use Rattle.sc_types.specs.Sends.{IsBeforeAll, IsInDueOrder, is_before}
use Rattle.sc_types.specs.declared.command.Reply.TheVariants.{Ticked}
use Rattle.sc_types.specs.declared.event.Event.{Event}
use Rattle.sc_types.specs.declared.history.Delivery.{Delivery}
use Rattle.sc_types.specs.declared.history.Delivery.TheVariants.{Dropped, Nothing, Unreachable}
use Rattle.sc_types.specs.declared.host.HostImage.{HostImage}
use Rattle.sc_types.specs.declared.host.InvokerImage.{InvokerImage}
use Rattle.sc_types.specs.declared.host.SessionImage.{SessionImage}
use Rattle.sc_types.specs.declared.host.TimerImage.{TimerImage}
use Rattle.sc_types.specs.declared.session.SessionState.{SessionState}
use Rattle.sc_core.specs.Aims.{Outline, aim, carried, invokeid_for, outline, outlines, received}
use Rattle.sc_core.specs.Bodies.{image, session_image}
use Rattle.sc_core.specs.Changes.{IsFirstDue, lose, numbered, put_state, queue_at, tell, with_invokeid}
use Rattle.sc_machine.specs.Commands.{advance}
use Rattle.sc_machine.specs.Deliveries.{Delivered, fire, fire_all, hears, is_cut_from, is_due, left_as, queue, receiver_name, send_found, send_named, send_now, unreachable, while_live}
use Rattle.sc_machine.specs.Hosts.{is_running, session_named, session_place, with_session}
use Rattle.sc_core.specs.HostStates.{ArePlanned}
use Rattle.sc_core.specs.Installing.{AreRoomy, CanApplyAll, HaveTargets, IsRoomy, installed, new_rooms}
use Rattle.sc_core.specs.Preparing.{InstallNone, Prepares}
use Rattle.sc_core.specs.Ticking.{Adds, Fired, fired, fired_at, fired_by, fired_failed, fired_from, fired_lost, fired_to, failure_of}
use Rattle.sc_core.specs.declared.aims.Aim.{Aim}
use Rattle.sc_core.specs.declared.aims.Aim.TheVariants.{Reaches, Fails, Drops}
use Rattle.sc_core.specs.declared.body.Body.{Body}
use Rattle.sc_core.specs.declared.change.Change.TheVariants.{Count, Lose, Tell}
use Rattle.sc_core.specs.declared.prepared.Prepared.{Prepared}
use Rattle.sc_core.specs.declared.session.Session.{Session}
use Rattle.sc_core.specs.declared.ticks.TickDraft.{TickDraft}
use Rattle.sc_core.proofs.AimLemmas.{aim_in, arrives, carried_is_sent, named_in, outlined_aim, outlines_fire, outlines_put, same_aim}
use Rattle.sc_core.proofs.AppendLemmas.{can_more, installed_more, planned_more, targets_more}
use Rattle.sc_core.proofs.BodyLemmas.{position_map}
use Rattle.sc_machine.proofs.FoundLemmas.{is_at}
use Rattle.sc_machine.proofs.GivenLemmas.{all_both}
use Rattle.sc_machine.proofs.MoveLemmas.{due_in, events_moved, fire_moves, given_in, ticked}
use Rattle.sc_core.proofs.SetLemmas.{image_at}

-- ---- what a send makes is what it does

-- the changes do what a delivery does, and can be made
pub record IsFired {P : Type 0} (h : HostImage) (f : Fired P) (d : Delivered) : Type 0 where
  pub host : installed f.changes h ≡ d.host
  pub what : f.what ≡ d.what
  pub events : f.events ≡ d.host.events
  pub can : IsFirstDue h.clock h.timers → h.events + 1 < 2 ^ 128 → CanApplyAll h f.changes
  pub targets : HaveTargets (length h.sessions) f.changes
  pub roomy : (count : ℕ) (rooms : List ℕ) → AllByRecursion (IsRoomy {P = P} (length h.sessions) count rooms) f.changes
  pub plain : InstallNone f.changes

-- without the first pending send
abbrev with_left : HostImage → List TimerImage → HostImage
with_left h ts = record h { timers = ts }

-- it is sent by the session that was found, where there is one
abbrev sent_from : HostImage → TimerImage → Option (ℕ × SessionImage) → Delivered
sent_from h t o =
    option_map_or (λ (found : ℕ × SessionImage). send_now h found.0 found.1 t.to t.event) o (left_as h Dropped)

lost_is : (h : HostImage) (t : TimerImage) (ts : List TimerImage) → h.timers ≡ t ∷ ts → lose h ≡ with_left h ts
lost_is h t ts first = ap (λ xs. with_left h (drop 1 xs)) first

lost_fired : {P : Type 0} (h : HostImage) (t : TimerImage) (ts : List TimerImage) (what : Delivery) → h.timers ≡ t ∷ ts
    → IsFired {P = P} h (fired_lost h.events what) (left_as (with_left h ts) what)
lost_fired h t ts what first = record {
  host = lost_is h t ts first;
  what = refl;
  events = refl;
  can = λ due less. (due, tt);
  targets = (tt, tt);
  roomy = λ count rooms. (tt, tt);
  plain = λ chart_of. tt;
}

failed_fired : {P : Type 0} (h : HostImage) (t : TimerImage) (ts : List TimerImage) (place : ℕ) (s : SessionImage)
    → h.timers ≡ t ∷ ts → slice_get h.sessions place ≡ Some s
    → IsFired {P = P} h (fired_failed h.events place s.state.phase t.event.sendid)
    (unreachable (with_left h ts) place s t.event)
failed_fired {P = P} h t ts place s first there = by (is_running s.state.phase)
  where
    id : List ℕ
    id = t.event.sendid

    made : Bool → Fired P
    made b = record {
      changes = Lose ∷ (if b then Tell place (failure_of id) ∷ [] else []);
      what = Unreachable;
      events = h.events;
    }

    told : Bool → Delivered
    told b = record {
      host = if b then with_session (with_left h ts) place (hears s id) else with_left h ts;
      what = Unreachable;
    }

    heard : SessionImage → HostImage
    heard x = with_session (with_left h ts) place (hears x id)

    within : place < length h.sessions
    within = slice_get_within h.sessions place s there

    by : (b : Bool) → IsFired h (made b) (told b)
    by false = record {
      host = lost_is h t ts first;
      what = refl;
      events = refl;
      can = λ due less. (due, tt);
      targets = (tt, tt);
      roomy = λ count rooms. (tt, tt);
      plain = λ chart_of. tt;
    }
    by true = record {
      host = ap (λ (g : HostImage). tell g place (failure_of id)) (lost_is h t ts first)
          ∙ ap (λ o. option_map_or heard o (with_left h ts)) there;
      what = refl;
      events = refl;
      can = λ due less. (due, (within, tt));
      targets = (tt, (within, tt));
      roomy = λ count rooms. (tt, (tt, tt));
      plain = λ chart_of. tt;
    }

reached_fired : {P : Type 0} (h : HostImage) (t : TimerImage) (ts : List TimerImage) (s : SessionImage) (to : ℕ)
    (r : SessionImage) → h.timers ≡ t ∷ ts → slice_get h.sessions to ≡ Some r
    → IsFired {P = P} h (fired_at h.events to s.invoker t.event r.state.session) (received (with_left h ts) to s t.event r)
reached_fired h t ts s to r first there =
    let name = r.state.session in
    let id = invokeid_for s.invoker name in
    let left = with_left h ts in
    let e = numbered (h.events + 1) (with_invokeid t.event id) in
    let within = slice_get_within h.sessions to r there in
    record {
      host = ap (λ (g : HostImage). queue_at g to e) (lost_is h t ts first)
          ∙ ap (λ o. option_map_or (λ (x : SessionImage). queue left to x e) o left) there
          ∙ ap (λ e. queue left to r e) (arrives s name t.event);
      what = refl;
      events = refl;
      can = λ due less. (due, ((within, less, refl), tt));
      targets = (tt, (tt, tt));
      roomy = λ count rooms. (tt, ((λ past. absurd (omega (arith, within, past))), tt));
      plain = λ chart_of. tt;
    }

-- a send of the session at a place, by its aim
aimed_fired : {P : Type 0} (h : HostImage) (t : TimerImage) (ts : List TimerImage) (place : ℕ) (s : SessionImage)
    (a : Aim) → h.timers ≡ t ∷ ts → slice_get h.sessions place ≡ Some s
    → IsFired {P = P} h (fired_by h h.events t place s a) (carried (with_left h ts) place s t.event a)
aimed_fired h t ts place s Fails first there = failed_fired h t ts place s first there
aimed_fired h t ts place s Drops first there = lost_fired h t ts Dropped first
aimed_fired {P = P} h t ts place s (Reaches to) first there = by (slice_get h.sessions to) refl
  where
    by : (o : Option SessionImage) → slice_get h.sessions to ≡ o
        → IsFired {P = P} h
        (fired_to h.events to s.invoker t.event o)
        (option_map_or (received (with_left h ts) to s t.event) o (left_as (with_left h ts) Nothing))
    by None at = lost_fired h t ts Nothing first
    by (Some r) at = reached_fired h t ts s to r first at

sent_fired : {P : Type 0} (h : HostImage) (t : TimerImage) (ts : List TimerImage) (place : ℕ) (s : SessionImage)
    → h.timers ≡ t ∷ ts → slice_get h.sessions place ≡ Some s
    → IsFired {P = P} h (fired_by h h.events t place s (aim h s t.to)) (send_now (with_left h ts) place s t.to t.event)
sent_fired {P = P} h t ts place s first there =
    let left = with_left h ts in
    let same : aim left s t.to ≡ aim h s t.to = same_aim left h s s t.to refl refl in
    let is : carried left place s t.event (aim h s t.to) ≡ send_now left place s t.to t.event
    = sym (carried_is_sent left place s t.to t.event ∙ ap (carried left place s t.event) same) in
    let made : Fired P = fired_by h h.events t place s (aim h s t.to) in
    subst (λ (d : Delivered). IsFired h made d) is (aimed_fired h t ts place s (aim h s t.to) first there)

-- the first pending send does what is drafted of it
pub is_fired : {P : Type 0} (h : HostImage) (t : TimerImage) (ts : List TimerImage) → h.timers ≡ t ∷ ts
    → IsFired {P = P} h (fired h h.events t) (fire (record h { timers = ts }) t)
unfolding fire
is_fired {P = P} h t ts first = by (session_named h t.session) refl
  where
    by : (o : Option (ℕ × SessionImage)) → session_named h t.session ≡ o
        → IsFired {P = P} h
        (fired_from h h.events t o) (sent_from (with_left h ts) t o)
    by None at = lost_fired h t ts Dropped first
    by (Some (place, s)) at = sent_fired h t ts place s first (is_at h t.session place s at).there

-- ---- what a send makes depends on the outlines alone

abbrev outline_named : List Outline → List ℕ → Option (ℕ × Outline)
outline_named os name =
    option_and_then {U = ℕ × Outline} (λ p. option_map {U = ℕ × Outline} (λ (o : Outline). (p, o)) (slice_get os p))
    (position (λ (o : Outline). bytes_eq o.name name) os)

abbrev outlined_pair : ℕ × SessionImage → ℕ × Outline
outlined_pair found = (found.0, outline found.1)

found_outlined : (g : HostImage) (name : List ℕ)
    → outline_named (outlines g) name ≡ option_map outlined_pair (session_named g name)
found_outlined g name =
    ap (λ o. option_and_then {U = ℕ × Outline} placed o)
    (position_map (λ (o : Outline). bytes_eq o.name name) outline g.sessions)
    ∙ by (session_place g name)
  where
    found : ℕ → Option (ℕ × SessionImage)
    found p = option_map {U = ℕ × SessionImage} (λ (s : SessionImage). (p, s)) (slice_get g.sessions p)

    placed : ℕ → Option (ℕ × Outline)
    placed p = option_map {U = ℕ × Outline} (λ (o : Outline). (p, o)) (slice_get (outlines g) p)

    at : (p : ℕ) (o : Option SessionImage)
        → option_map {U = ℕ × Outline} (λ (x : Outline). (p, x)) (option_map outline o)
        ≡ option_map outlined_pair (option_map {U = ℕ × SessionImage} (λ (s : SessionImage). (p, s)) o)
    at p None = refl
    at p (Some s) = refl

    by : (o : Option ℕ) → option_and_then {U = ℕ × Outline} placed o
        ≡ option_map outlined_pair (option_and_then {U = ℕ × SessionImage} found o)
    by None = refl
    by (Some p) =
        ap (λ o. option_map {U = ℕ × Outline} (λ (x : Outline). (p, x)) o) (slice_get-map outline g.sessions p)
        ∙ at p (slice_get g.sessions p)

abbrev outlined_to : {P : Type 0} → ℕ → ℕ → Option InvokerImage → Event → Option Outline → Fired P
outlined_to n place invoker e None = fired_lost n Nothing
outlined_to n place invoker e (Some receiver) = fired_at n place invoker e receiver.name

abbrev outlined_by : {P : Type 0} → List Outline → ℕ → TimerImage → ℕ → Outline → Aim → Fired P
outlined_by os n t place o (Reaches to) = outlined_to n to o.invoker t.event (slice_get os to)
outlined_by os n t place o Fails = fired_failed n place o.phase t.event.sendid
outlined_by os n t place o Drops = fired_lost n Dropped

abbrev outlined_fired : {P : Type 0} → List Outline → ℕ → TimerImage → Option (ℕ × Outline) → Fired P
outlined_fired os n t None = fired_lost n Dropped
outlined_fired os n t (Some found) = outlined_by os n t found.0 found.1 (aim_in os found.1 (named_in found.1 t.to))

by_outlined : {P : Type 0} (g : HostImage) (n : ℕ) (t : TimerImage) (place : ℕ) (s : SessionImage) (a : Aim)
    → fired_by {P = P} g n t place s a ≡ outlined_by (outlines g) n t place (outline s) a
by_outlined g n t place s Fails = refl
by_outlined g n t place s Drops = refl
by_outlined {P = P} g n t place s (Reaches to) =
    by (slice_get g.sessions to) ∙ sym (ap (outlined_to {P = P} n to s.invoker t.event) (slice_get-map outline g.sessions to))
  where
    by : (o : Option SessionImage)
        → fired_to {P = P} n to s.invoker t.event o ≡ outlined_to n to s.invoker t.event (option_map outline o)
    by None = refl
    by (Some r) = refl

fired_outlined : {P : Type 0} (g : HostImage) (n : ℕ) (t : TimerImage)
    → fired {P = P} g n t ≡ outlined_fired (outlines g) n t (outline_named (outlines g) t.session)
fired_outlined {P = P} g n t =
    by (session_named g t.session) ∙ sym (ap (outlined_fired {P = P} (outlines g) n t) (found_outlined g t.session))
  where
    by : (o : Option (ℕ × SessionImage))
        → fired_from {P = P} g n t o ≡ outlined_fired (outlines g) n t (option_map outlined_pair o)
    by None = refl
    by (Some (place, s)) =
        by_outlined g n t place s (aim g s t.to)
        ∙ ap (outlined_by (outlines g) n t place (outline s)) (outlined_aim g s t.to)

-- where the outlines are the same, so is what a send makes
pub same_fired : {P : Type 0} (h g : HostImage) (n : ℕ) (t : TimerImage) → outlines h ≡ outlines g
    → fired {P = P} h n t ≡ fired g n t
same_fired h g n t same =
    fired_outlined h n t ∙ ap (λ os. outlined_fired os n t (outline_named os t.session)) same
    ∙ sym (fired_outlined g n t)

-- ---- a send that comes due looks at no clock, no count of commands and no pending sends

-- with these of another host machine
abbrev beside : HostImage → HostImage → HostImage
beside x h = record h { clock = x.clock; commands = x.commands; timers = x.timers }

abbrev done_beside : HostImage → Delivered → Delivered
done_beside x d = record { host = beside x d.host; what = d.what }

unreachable_beside : (x g : HostImage) (place : ℕ) (s : SessionImage) (e : Event)
    → unreachable (beside x g) place s e ≡ done_beside x (unreachable g place s e)
unreachable_beside x g place s e = by (is_running s.state.phase)
  where
    told : HostImage → Bool → Delivered
    told h b = record { host = if b then with_session h place (hears s e.sendid) else h; what = Unreachable }

    by : (b : Bool) → told (beside x g) b ≡ done_beside x (told g b)
    by true = refl
    by false = refl

named_beside : (x g : HostImage) (place : ℕ) (s : SessionImage) (e : Event) (o : Option (List ℕ))
    → send_named (beside x g) place s e o ≡ done_beside x (send_named g place s e o)
named_beside x g place s e None = unreachable_beside x g place s e
named_beside x g place s e (Some name) = by (is_cut_from s name)
  where
    receiver : Option (ℕ × SessionImage)
    receiver = while_live (session_named g name)

    found : (o : Option (ℕ × SessionImage))
        → send_found (beside x g) place s name e o ≡ done_beside x (send_found g place s name e o)
    found None = unreachable_beside x g place s e
    found (Some f) = refl

    by : (cut : Bool)
        → (if cut then left_as (beside x g) Dropped else send_found (beside x g) place s name e receiver)
        ≡ done_beside x (if cut then left_as g Dropped else send_found g place s name e receiver)
    by true = refl
    by false = found receiver

fire_beside : (x g : HostImage) (t : TimerImage) → fire (beside x g) t ≡ done_beside x (fire g t)
unfolding fire
fire_beside x g t = by (session_named g t.session)
  where
    by : (o : Option (ℕ × SessionImage))
        → sent_from (beside x g) t o ≡ done_beside x (sent_from g t o)
    by None = refl
    by (Some (place, s)) = named_beside x g place s t.event (receiver_name s t.to)

-- ---- the sends that are due are the first ones

none_later : (now : ℕ) (t : TimerImage) (ts : List TimerImage) → IsBeforeAll t ts → now < t.due
    → filter (is_due now) ts ≡ []
none_later now t [] before late = refl
none_later now t (s ∷ ss) before late =
    let not_due : nat_le s.due now ≡ false = later s before.0 in
    rw not_due (none_later now t ss before.1 late)
  where
    later : (s : TimerImage) → is_before t s ≡ true → nat_le s.due now ≡ false
    later s first = grind (arith, nat_tests, first, late)

-- past a send that is not due, none is
pub none_due : (now place : ℕ) (t : TimerImage) (ts : List TimerImage) → IsInDueOrder ts → slice_get ts place ≡ Some t
    → now < t.due → filter (is_due now) (drop place ts) ≡ []
none_due now place t [] order there late = absurd cc
none_due now zero t (s ∷ ss) order there late =
    let is : s ≡ t = cc in
    let after : now < s.due = subst (λ (x : TimerImage). now < x.due) (sym is) late in
    let not_due : nat_le s.due now ≡ false = grind (arith, nat_tests, after) in
    rw not_due (none_later now s ss order.0 after)
none_due now (suc place) t (s ∷ ss) order there late = none_due now place t ss order.1 there late

-- there is none past the last
pub none_past : (now place : ℕ) (ts : List TimerImage) → slice_get ts place ≡ None
    → filter (is_due now) (drop place ts) ≡ []
none_past now zero [] past = refl
none_past now (suc place) [] past = refl
none_past now zero (t ∷ ts) past = absurd cc
none_past now (suc place) (t ∷ ts) past = none_past now place ts past

all_left : (now : ℕ) (ts : List TimerImage) → filter (is_due now) ts ≡ [] → filter (λ t. not (is_due now t)) ts ≡ ts
all_left now [] none = refl
all_left now (t ∷ ts) none = by (is_due now t) none (all_left now ts)
  where
    by : (b : Bool) → cond b (t ∷ filter (is_due now) ts) (filter (is_due now) ts) ≡ []
        → (filter (is_due now) ts ≡ [] → filter (λ x. not (is_due now x)) ts ≡ ts)
        → cond (not b) (t ∷ filter (λ x. not (is_due now x)) ts) (filter (λ x. not (is_due now x)) ts) ≡ t ∷ ts
    by true is rest = absurd cc
    by false is rest = ap (λ xs. t ∷ xs) (rest is)

-- the rest of a list, from an item on
rest_from : {X : Type 0} (xs : List X) (i : ℕ) (x : X) → slice_get xs i ≡ Some x → drop i xs ≡ x ∷ drop (suc i) xs
rest_from [] i x there = absurd cc
rest_from (y ∷ ys) zero x there = let is : y ≡ x = cc in ap (λ z. z ∷ ys) is
rest_from (y ∷ ys) (suc i) x there = rest_from ys i x there

-- ---- what the body finds of a send

-- the aim of the session that was found, told by its own state
fired_aimed : {P : Type 0} (h : Body P) (n : ℕ) (t : TimerImage) (place : ℕ) (s : Session) (a : Aim)
    → Some (place, session_image s) ≡ session_named (image h) t.session → slice_get h.sessions.items place ≡ Some s
    → a ≡ aim (put_state (image h) place s.state) (session_image s) t.to
    → fired {P = P} (image h) n t ≡ fired_by (image h) n t place (session_image s) a
fired_aimed {P = P} h n t place s a found at aims =
    let g = image h in
    let o = session_image s in
    let kept = outlines_put g place o s.state (image_at h.sessions.items place s at) refl in
    let same : aim g o t.to ≡ a = sym (aims ∙ same_aim (put_state g place s.state) g o o t.to kept refl) in
    ap (fired_from {P = P} g n t) (sym found)
    ∙ ap (fired_by {P = P} g n t place o) same

-- a send that reaches a session
pub fired_reaches : {P : Type 0} (h : Body P) (n : ℕ) (t : TimerImage) (place : ℕ) (s : Session) (a : Aim) (to : ℕ)
    (name : List ℕ) → Some (place, session_image s) ≡ session_named (image h) t.session
    → slice_get h.sessions.items place ≡ Some s
    → a ≡ aim (put_state (image h) place s.state) (session_image s) t.to → a ≡ Reaches to
    → option_map (λ (x : Session). x.state.session) (slice_get h.sessions.items to) ≡ Some name
    → fired {P = P} (image h) n t ≡ fired_at n to s.invoker t.event name
fired_reaches {P = P} h n t place s a to name found at aims is named =
    fired_aimed h n t place s a found at aims ∙ ap (fired_by {P = P} (image h) n t place (session_image s)) is
    ∙ ap (fired_to {P = P} n to s.invoker t.event) (slice_get-map session_image h.sessions.items to)
    ∙ by (slice_get h.sessions.items to) named
  where
    by : (o : Option Session) → option_map (λ (x : Session). x.state.session) o ≡ Some name
        → fired_to {P = P} n to s.invoker t.event (option_map session_image o) ≡ fired_at n to s.invoker t.event name
    by None is = absurd cc
    by (Some r) is =
        let same : r.state.session ≡ name = cc in
        ap (fired_at {P = P} n to s.invoker t.event) same

-- where a send goes is told of the state that was looked at, and so of the one that the session holds
pub aim_held : {P : Type 0} (h : Body P) (t : TimerImage) (place : ℕ) (s : Session) (seen : SessionState) (a : Aim)
    → seen ≡ s.state
    → (s.state.session ≡ seen.session → a ≡ aim (put_state (image h) place seen) (session_image s) t.to)
    → a ≡ aim (put_state (image h) place s.state) (session_image s) t.to
aim_held h t place s seen a is aims =
    aims (sym (ap (λ (x : SessionState). x.session) is))
    ∙ ap (λ x. aim (put_state (image h) place x) (session_image s) t.to) is

-- a send that reaches nobody
pub fired_fails : {P : Type 0} (h : Body P) (n : ℕ) (t : TimerImage) (place : ℕ) (s : Session) (a : Aim)
    → Some (place, session_image s) ≡ session_named (image h) t.session → slice_get h.sessions.items place ≡ Some s
    → a ≡ aim (put_state (image h) place s.state) (session_image s) t.to → a ≡ Fails
    → fired {P = P} (image h) n t ≡ fired_failed n place s.state.phase t.event.sendid
fired_fails {P = P} h n t place s a found at aims is =
    fired_aimed h n t place s a found at aims ∙ ap (fired_by {P = P} (image h) n t place (session_image s)) is

-- equal sends are added alike
pub adds_same : {P : Type 0} (f made : Fired P) (old new : TickDraft P) → f ≡ made → Adds made old new → Adds f old new
adds_same f made old new is h = subst (λ x. Adds x old new) (sym is) h

-- ---- the sends that come due, one after another

-- the host machine that the draft makes
abbrev drafted : {P : Type 0} → HostImage → TickDraft P → HostImage
drafted g d = installed d.changes g

-- it, with the sends that will be left
abbrev drafted_left : {P : Type 0} → HostImage → ℕ → TickDraft P → HostImage
drafted_left g now d = with_left (drafted g d) (ticked g now).timers

-- the sends that are not due
abbrev undue : ℕ → List TimerImage → List TimerImage
undue now ts = filter (λ t. not (is_due now t)) ts

-- the sends that are still to be drafted
abbrev pub due_later : {P : Type 0} → HostImage → ℕ → TickDraft P → List TimerImage
due_later g now d = filter (is_due now) (drop (length d.sent) g.timers)

-- what is drafted, and then what is still due, makes the whole
pub record Ticks {P : Type 0} (g : HostImage) (now : ℕ) (d : TickDraft P) : Type 0 where
  pub host : (fire_all (drafted_left g now d) (due_later g now d)).host ≡ (fire_all (ticked g now) (due_in g now)).host
  pub sent : d.sent ++ (fire_all (drafted_left g now d) (due_later g now d)).sent
      ≡ (fire_all (ticked g now) (due_in g now)).sent
  pub count : length d.sent + length (due_later g now d) ≡ length (due_in g now)
  pub clock : (drafted g d).clock ≡ now
  pub commands : (drafted g d).commands ≡ g.commands
  pub timers : (drafted g d).timers ≡ drop (length d.sent) g.timers
  pub events : (drafted g d).events ≡ d.events
  pub numbers : d.events ≤ g.events + length d.sent
  pub outlines : outlines (drafted g d) ≡ outlines g
  pub left : undue now (drop (length d.sent) g.timers) ≡ (ticked g now).timers
  pub can : CanApplyAll g d.changes
  pub targets : HaveTargets (length g.sessions) d.changes
  pub roomy : (count : ℕ) (rooms : List ℕ) → AllByRecursion (IsRoomy {P = P} (length g.sessions) count rooms) d.changes
  pub plain : InstallNone d.changes

-- the next send that is due
record IsNext {P : Type 0} (g : HostImage) (now : ℕ) (d e : TickDraft P) (t : TimerImage) : Type 0 where
  pub rest : drop (length d.sent) g.timers ≡ t ∷ drop (length e.sent) g.timers
  pub due : due_later g now d ≡ t ∷ due_later g now e
  pub left : undue now (drop (length d.sent) g.timers) ≡ undue now (drop (length e.sent) g.timers)

next_due : {P : Type 0} (g : HostImage) (now : ℕ) (d e : TickDraft P) (t : TimerImage)
    → slice_get g.timers (length d.sent) ≡ Some t → t.due ≤ now → length e.sent ≡ length d.sent + 1
    → IsNext g now d e t
next_due g now d e t there due more =
    let next : suc (length d.sent) ≡ length e.sent = omega (arith, more) in
    let rest : drop (length d.sent) g.timers ≡ t ∷ drop (length e.sent) g.timers
    = rest_from g.timers (length d.sent) t there ∙ ap (λ n. t ∷ drop n g.timers) next in
    let is : nat_le t.due now ≡ true = grind (arith, nat_tests, due) in
    let others = drop (length e.sent) g.timers in
    record {
      rest = rest;
      due = ap (filter (is_due now)) rest
          ∙ ap (λ b. cond b (t ∷ due_later g now e) (due_later g now e)) is;
      left = ap (undue now) rest ∙ ap (λ b. cond (not b) (t ∷ undue now others) (undue now others)) is;
    }

-- one more send is drafted
pub tick_more : {P : Type 0} (g : HostImage) (now : ℕ) (d e : TickDraft P) (t : TimerImage)
    → slice_get g.timers (length d.sent) ≡ Some t → t.due ≤ now → d.events + 1 < 2 ^ 128
    → Adds (fired g d.events t) d e → Ticks g now d → Ticks g now e
tick_more {P = P} g now d e t there due less added so =
    record {
      host = ap (λ x. (fire_all x (due_later g now e)).host) stepped
          ∙ sym (ap (λ xs. (fire_all (drafted_left g now d) xs).host) next.due)
          ∙ so.host;
      sent = ap (λ xs. xs ++ (fire_all (drafted_left g now e) (due_later g now e)).sent) added.sent
          ∙ append_assoc d.sent (f.what ∷ []) (fire_all (drafted_left g now e) (due_later g now e)).sent
          ∙ ap (λ w. d.sent ++ (w ∷ (fire_all (drafted_left g now e) (due_later g now e)).sent)) told
          ∙ ap (λ x. d.sent ++ (whole.what ∷ (fire_all x (due_later g now e)).sent)) stepped
          ∙ sym (ap (λ xs. d.sent ++ (fire_all (drafted_left g now d) xs).sent) next.due)
          ∙ so.sent;
      count = omega (arith, more, ap length next.due, so.count);
      clock = ap (λ (x : HostImage). x.clock) (goes ∙ kept) ∙ so.clock;
      commands = ap (λ (x : HostImage). x.commands) (goes ∙ kept) ∙ so.commands;
      timers = ap (λ (x : HostImage). x.timers) (goes ∙ kept);
      events = ap (λ (x : HostImage). x.events) goes ∙ sym made.events ∙ sym added.events;
      numbers = omega (arith, so.numbers, so.events, added.events, made.events, more, moved);
      outlines = ap outlines goes ∙ outlines_fire (with_left h ts) t ∙ so.outlines;
      left = sym next.left ∙ so.left;
      can = subst (CanApplyAll g) (sym added.changes)
          (can_more d.changes f.changes g so.can (made.can first (omega (arith, so.events, less))));
      targets = subst (HaveTargets (length g.sessions)) (sym added.changes)
          (targets_more d.changes f.changes (length g.sessions) so.targets
          (subst (λ n. HaveTargets n f.changes) long made.targets));
      roomy = λ count rooms. subst (AllByRecursion (IsRoomy {P = P} (length g.sessions) count rooms)) (sym added.changes)
          (all_both (IsRoomy {P = P} (length g.sessions) count rooms) d.changes f.changes (so.roomy count rooms)
          (subst (λ n. AllByRecursion (IsRoomy {P = P} n count rooms) f.changes) long (made.roomy count rooms)));
      plain = λ chart_of. subst (ArePlanned chart_of) (sym added.changes)
          (planned_more chart_of d.changes f.changes (so.plain chart_of) (made.plain chart_of));
    }
  where
    f : Fired P
    f = fired g d.events t

    h : HostImage
    h = drafted g d

    ts : List TimerImage
    ts = drop (length e.sent) g.timers

    left : List TimerImage
    left = (ticked g now).timers

    more : length e.sent ≡ length d.sent + 1
    more = ap length added.sent ∙ length-append d.sent (f.what ∷ [])

    next : IsNext g now d e t
    next = next_due g now d e t there due more

    after : Delivered
    after = fire (with_left h ts) t

    whole : Delivered
    whole = fire (with_left h left) t

    made : IsFired h f after
    made = subst (λ (x : Fired P). IsFired h x after)
        (ap (λ n. fired h n t) so.events ∙ same_fired h g d.events t so.outlines)
        (is_fired h t ts (so.timers ∙ next.rest))

    goes : drafted g e ≡ after.host
    goes = ap (λ cs. installed cs g) added.changes ∙ installed_more d.changes f.changes g ∙ made.host

    kept : after.host ≡ beside (with_left h ts) (fire h t).host
    kept = ap (λ (x : Delivered). x.host) (fire_beside (with_left h ts) h t)

    stepped : drafted_left g now e ≡ whole.host
    stepped =
        ap (λ x. with_left x left) (goes ∙ kept)
        ∙ sym (ap (λ (x : Delivered). x.host) (fire_beside (with_left h left) h t))

    told : f.what ≡ whole.what
    told =
        made.what ∙ ap (λ (x : Delivered). x.what) (fire_beside (with_left h ts) h t)
        ∙ sym (ap (λ (x : Delivered). x.what) (fire_beside (with_left h left) h t))

    moved : after.host.events ≤ h.events + 1
    moved = events_moved (with_left h ts) after.host (given_in after.what) (fire_moves (with_left h ts) t)

    long : length h.sessions ≡ length g.sessions
    long = sym (length-map h.sessions outline) ∙ ap length so.outlines ∙ length-map g.sessions outline

    first : IsFirstDue h.clock h.timers
    first =
        let on_time : t.due ≤ h.clock = omega (arith, so.clock, due) in
        subst (IsFirstDue h.clock) (sym (so.timers ∙ next.rest)) on_time

-- once none is due, the draft is the answer
pub tick_done : {P : Type 0} (g : HostImage) (now : ℕ) (d : TickDraft P) (p : Prepared P) → g.commands + 1 < 2 ^ 64
    → Ticks g now d → due_later g now d ≡ [] → p.changes ≡ d.changes ++ Count ∷ [] → p.reply ≡ Ticked (length d.sent)
    → p.logs ≡ [] → p.sent ≡ d.sent → Prepares (advance g now) g p
tick_done {P = P} g now d p less so none changes replied logs sent =
    record {
      host = ap (λ cs. installed cs g) changes ∙ installed_more d.changes (Count ∷ []) g
          ∙ ap (λ (h : HostImage). record h { commands = h.commands + 1 }) all;
      reply = replied ∙ ap (λ n. Ticked n) count;
      logs = logs;
      sent = sent ∙ sym (append-nil d.sent)
          ∙ sym (ap (λ ts. d.sent ++ (fire_all (drafted_left g now d) ts).sent) none) ∙ so.sent;
      can = subst (CanApplyAll g) (sym changes)
          (can_more d.changes (Count ∷ []) g so.can (omega (arith, less, so.commands), tt));
      targets = subst (HaveTargets (length g.sessions)) (sym changes)
          (targets_more d.changes (Count ∷ []) (length g.sessions) so.targets (tt, tt));
      roomy = subst (AreRoomy (length g.sessions)) (sym changes)
          (all_both (IsRoomy {P = P} (length g.sessions) (length (d.changes ++ Count ∷ [])) (new_rooms (d.changes ++ Count ∷ [])))
          d.changes (Count ∷ []) (so.roomy _ _) (tt, tt));
    }
  where
    all : drafted g d ≡ (fire_all (ticked g now) (due_in g now)).host
    all =
        ap (λ ts. with_left (drafted g d) ts)
        (so.timers ∙ sym (all_left now (drop (length d.sent) g.timers) none) ∙ so.left)
        ∙ sym (ap (λ ts. (fire_all (drafted_left g now d) ts).host) none)
        ∙ so.host

    count : length d.sent ≡ length (due_in g now)
    count = omega (arith, so.count, ap length none)

-- and it installs no chart
pub tick_plain : {P : Type 0} (g : HostImage) (now : ℕ) (d : TickDraft P) (p : Prepared P) → Ticks g now d
    → p.changes ≡ d.changes ++ Count ∷ [] → InstallNone p.changes
tick_plain g now d p so changes =
    λ chart_of. subst (ArePlanned chart_of) (sym changes)
    (planned_more chart_of d.changes (Count ∷ []) (so.plain chart_of) tt)

-- the same where there was memory for it
pub tick_ok : {P : Type 0} (g : HostImage) (now : ℕ) (d : TickDraft P) (r : Result (Prepared P) NoMemory)
    → g.commands + 1 < 2 ^ 64 → Ticks g now d → due_later g now d ≡ []
    → IfOk r (λ p. p.changes ≡ d.changes ++ Count ∷ []) → IfOk r (λ p. p.reply ≡ Ticked (length d.sent))
    → IfOk r (λ p. p.logs ≡ []) → IfOk r (λ p. p.sent ≡ d.sent) → IfOk r (Prepares (advance g now) g)
tick_ok g now d (Ok p) less so none changes replied logs sent =
    tick_done g now d p less so none changes replied logs sent
tick_ok g now d (Err e) less so none changes replied logs sent = tt

pub plain_ok : {P : Type 0} (g : HostImage) (now : ℕ) (d : TickDraft P) (r : Result (Prepared P) NoMemory) → Ticks g now d
    → IfOk r (λ p. p.changes ≡ d.changes ++ Count ∷ []) → IfOk r (λ p. InstallNone p.changes)
plain_ok g now d (Ok p) so changes = tick_plain g now d p so changes
plain_ok g now d (Err e) so changes = tt
