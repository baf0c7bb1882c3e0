-- How many sends of a session have an id after the changes of a step.
use Rattle.std.proofs.Common.{◌≡◌, ℕ, ◌+◌, ◌++◌, ◌&&◌, Bool, true, false, cond, not, filter, count_by, if◌then◌else◌, Option, Some, None, List, [], ◌∷◌, slice_get, refl, sym, ap, ◌∙◌, arith}
use Rattle.std.specs.List.{AllByRecursion}
use Rattle.std.specs.Option.{option_map_or}
use Rattle.std.specs.Str.{bytes_eq}
use Rattle.std.proofs.lemmas.List.Sums.{sum_by-cons}
use Rattle.std.proofs.lemmas.Slice.Eq.{bytes_eq-Decides}
use Rattle.sc_types.specs.Sends.{is_before, is_of, is_send, with_send}
use Rattle.sc_types.specs.declared.event.Event.{Event}
use Rattle.sc_types.specs.declared.host.HostImage.{HostImage}
use Rattle.sc_types.specs.declared.host.SessionImage.{SessionImage}
use Rattle.sc_types.specs.declared.host.TimerImage.{TimerImage}
use Rattle.sc_core.specs.Changes.{at_session, queue_at, tell}
use Rattle.sc_core.specs.Counting.{count_after}
use Rattle.sc_machine.specs.Deliveries.{cut_off, queue, without_invoke}
use Rattle.sc_core.specs.Drafts.{IsOfStep, Stepper}
use Rattle.sc_machine.specs.Hosts.{with_session}
use Rattle.sc_core.specs.Installing.{apply, installed}
use Rattle.sc_core.specs.declared.change.Change.{Change}
use Rattle.sc_core.specs.declared.change.Change.TheVariants.{Advance, Bear, Count, CutOff, Delay, DropInvoke, End, Flag, Install, Lose, PutState, Queue, Start, TakeFront, Tell, Undo}

count_one : (p : TimerImage → Bool) (t : TimerImage) (ts : List TimerImage)
    → count_by p (t ∷ ts) ≡ cond (p t) 1 0 + count_by p ts
count_one p t ts = sum_by-cons (λ (x : TimerImage). cond (p x) 1 0) t ts

-- a pending send more
with_count : (p : TimerImage → Bool) (t : TimerImage) (ts : List TimerImage)
    → count_by p (with_send t ts) ≡ cond (p t) 1 0 + count_by p ts
with_count p t [] = count_one p t []
with_count p t (s ∷ ss) = by (is_before t s) (with_count p t ss)
  where
    by : (b : Bool) → count_by p (with_send t ss) ≡ cond (p t) 1 0 + count_by p ss
        → count_by p (if b then t ∷ s ∷ ss else s ∷ with_send t ss) ≡ cond (p t) 1 0 + count_by p (s ∷ ss)
    by true rest = count_one p t (s ∷ ss)
    by false rest = omega (arith, count_one p s (with_send t ss), rest, count_one p s ss)

-- none is left of those that go
none_left : (q : TimerImage → Bool) (ts : List TimerImage) → count_by q (filter (λ t. not (q t)) ts) ≡ 0
none_left q [] = refl
none_left q (t ∷ ts) = by (q t) refl (none_left q ts)
  where
    rest : List TimerImage
    rest = filter (λ t. not (q t)) ts

    by : (b : Bool) → q t ≡ b → count_by q rest ≡ 0 → count_by q (cond (not b) (t ∷ rest) rest) ≡ 0
    by true is none = none
    by false is none = count_one q t rest ∙ ap (λ b. cond b 1 0 + count_by q rest) is ∙ omega (arith, none)

-- all others are left
others_left : (p q : TimerImage → Bool) → ((t : TimerImage) → q t ≡ true → p t ≡ false) → (ts : List TimerImage)
    → count_by p (filter (λ t. not (q t)) ts) ≡ count_by p ts
others_left p q apart [] = refl
others_left p q apart (t ∷ ts) = by (q t) refl (others_left p q apart ts)
  where
    rest : List TimerImage
    rest = filter (λ t. not (q t)) ts

    by : (b : Bool) → q t ≡ b → count_by p rest ≡ count_by p ts
        → count_by p (cond (not b) (t ∷ rest) rest) ≡ count_by p (t ∷ ts)
    by true is same =
        let first : count_by p (t ∷ ts) ≡ 0 + count_by p ts =
        count_one p t ts ∙ ap (λ b. cond b 1 0 + count_by p ts) (apart t is) in
        omega (arith, same, first)
    by false is same = omega (arith, same, count_one p t rest, count_one p t ts)

both_true : (a b : Bool) → (a && b) ≡ true → b ≡ true
both_true true b h = h
both_true false b h = absurd cc

-- a send has one id
one_id : (session id other : List ℕ) (t : TimerImage) → bytes_eq other id ≡ false → is_send session other t ≡ true
    → is_send session id t ≡ false
one_id session id other t differ is = by (bytes_eq t.event.sendid id) refl (is_of session t)
  where
    by : (b : Bool) → bytes_eq t.event.sendid id ≡ b → (a : Bool) → (a && b) ≡ false
    by false none true = refl
    by false none false = refl
    by true same a =
        let first : t.event.sendid ≡ other
        = (bytes_eq-Decides t.event.sendid other).0 (both_true (is_of session t) (bytes_eq t.event.sendid other) is) in
        let second : t.event.sendid ≡ id = (bytes_eq-Decides t.event.sendid id).0 same in
        let equal : bytes_eq other id ≡ true = (bytes_eq-Decides other id).1 (sym first ∙ second) in
        absurd (let no : true ≡ false = sym equal ∙ differ in cc)

undo_count : (session id other : List ℕ) (g : HostImage) (same : Bool) → bytes_eq other id ≡ same
    → (if same then 0 else count_by (is_send session id) g.timers)
    ≡ count_by (is_send session id) (filter (λ t. not (is_send session other t)) g.timers)
undo_count session id other g true same =
    let is : other ≡ id = (bytes_eq-Decides other id).0 same in
    sym (ap (λ x. count_by (is_send session id) (filter (λ t. not (is_send session x t)) g.timers)) is
    ∙ none_left (is_send session id) g.timers)
undo_count session id other g false differ =
    sym (others_left (is_send session id) (is_send session other) (λ t is. one_id session id other t differ is) g.timers)

own_name : (session : List ℕ) (b : Bool) (n : ℕ) → (if bytes_eq session session && b then 0 else n) ≡ (if b then 0 else n)
own_name session b n = ap (λ a. if a && b then 0 else n) ((bytes_eq-Decides session session).1 refl)

delay_count : (own : Bool) (n : ℕ) → (if own then n + 1 else n) ≡ cond own 1 0 + n
delay_count true n = omega arith
delay_count false n = omega arith

queue_timers : (g : HostImage) (place : ℕ) (e : Event) → (queue_at g place e).timers ≡ g.timers
queue_timers g place e = by (slice_get g.sessions place)
  where
    by : (o : Option SessionImage) → (option_map_or (λ (s : SessionImage). queue g place s e) o g).timers ≡ g.timers
    by None = refl
    by (Some s) = refl

tell_timers : (g : HostImage) (place : ℕ) (e : Event) → (tell g place e).timers ≡ g.timers
tell_timers g place e = by (slice_get g.sessions place)
  where
    heard : SessionImage → HostImage
    heard s = with_session g place (record s { state = record s.state { internal = s.state.internal ++ e ∷ [] } })

    by : (o : Option SessionImage) → (option_map_or heard o g).timers ≡ g.timers
    by None = refl
    by (Some s) = refl

at_timers : (g : HostImage) (place : ℕ) (f : SessionImage → SessionImage) → (at_session g place f).timers ≡ g.timers
at_timers g place f = by (slice_get g.sessions place)
  where
    by : (o : Option SessionImage)
        → (option_map_or (λ (s : SessionImage). with_session g place (f s)) o g).timers ≡ g.timers
    by None = refl
    by (Some s) = refl

-- a change of a step changes the count so
count_is : {P : Type 0} (who : Stepper) (id : List ℕ) (c : Change P) (g : HostImage) → IsOfStep who c
    → count_after who.name id c (count_by (is_send who.name id) g.timers)
    ≡ count_by (is_send who.name id) (apply c g).timers
count_is who id (Queue place e) g of = ap (count_by (is_send who.name id)) (sym (queue_timers g place e))
count_is who id (Tell place e) g of = ap (count_by (is_send who.name id)) (sym (tell_timers g place e))
count_is who id (Delay send) g of =
    delay_count (is_send who.name id send) (count_by (is_send who.name id) g.timers)
    ∙ sym (with_count (is_send who.name id) send g.timers)
count_is who id (Undo of undone) g is =
    ap (λ s. if bytes_eq s who.name && bytes_eq undone id then 0 else count_by (is_send who.name id) g.timers) is
    ∙ own_name who.name (bytes_eq undone id) (count_by (is_send who.name id) g.timers)
    ∙ undo_count who.name id undone g (bytes_eq undone id) refl
    ∙ ap (λ s. count_by (is_send who.name id) (filter (λ t. not (is_send s undone t)) g.timers)) (sym is)
count_is who id (Bear invoker name s) g of = refl
count_is who id (CutOff place) g of = ap (count_by (is_send who.name id)) (sym (at_timers g place cut_off))
count_is who id (DropInvoke place child) g of =
    ap (count_by (is_send who.name id)) (sym (at_timers g place (without_invoke child)))
count_is who id Count g of = absurd of
count_is who id (Advance clock) g of = absurd of
count_is who id (Install name chart) g of = absurd of
count_is who id (Start name s) g of = absurd of
count_is who id (PutState place state) g of = absurd of
count_is who id (TakeFront place) g of = absurd of
count_is who id (Flag place) g of = absurd of
count_is who id (End place) g of = absurd of
count_is who id Lose g of = absurd of

-- after several
abbrev pub counted : {P : Type 0} → List ℕ → List ℕ → List (Change P) → ℕ → ℕ
counted session id [] n = n
counted session id (c ∷ cs) n = counted session id cs (count_after session id c n)

-- the count after the changes of a step is that of the sends which are pending then
pub counted_is : {P : Type 0} (who : Stepper) (id : List ℕ) (cs : List (Change P)) (g : HostImage)
    → AllByRecursion (IsOfStep who) cs
    → counted who.name id cs (count_by (is_send who.name id) g.timers)
    ≡ count_by (is_send who.name id) (installed cs g).timers
counted_is who id [] g all = refl
counted_is who id (c ∷ cs) g all =
    ap (counted who.name id cs) (count_is who id c g all.0) ∙ counted_is who id cs (apply c g) all.1
