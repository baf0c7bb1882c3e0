-- Each event is consumed at most once: what waits and what was consumed of one number is at most one.
use Rattle.std.proofs.Common.{map, ◌≡◌, ℕ, ◌+◌, ◌==◌, ◌<◌, ◌≤◌, cond, Bool, true, false, Some, None, List, [], ◌∷◌, ◌++◌, drop, sum_by, count_by, slice_get, slice_set, refl, sym, ap, subst, ◌∙◌, arith}
use Rattle.std.proofs.lemmas.Bool.Decides.{nat_tests}
use Rattle.std.proofs.lemmas.List.Sums.{sum_by-set, sum_by-cons, sum_by_push}
use Rattle.std.proofs.lemmas.Option.{slice_get_within, get_or_from_slice_get}
use Rattle.sc_types.specs.declared.command.Command.{Command}
use Rattle.sc_types.specs.declared.command.Command.TheVariants.{Install, Start, Post, Tick, Cancel, Step}
use Rattle.sc_types.specs.declared.command.Refusal.{Refusal}
use Rattle.sc_types.specs.declared.command.Reply.TheVariants.{Stepped, Refused}
use Rattle.sc_types.specs.declared.event.Event.{Event}
use Rattle.sc_types.specs.declared.history.Entry.{Entry}
use Rattle.sc_types.specs.declared.host.HostImage.{HostImage}
use Rattle.sc_types.specs.declared.host.SessionImage.{SessionImage}
use Rattle.sc_types.specs.declared.session.Cue.{Cue}
use Rattle.sc_types.specs.declared.session.Cue.TheVariants as cue
use Rattle.sc_types.specs.declared.session.Phase.{Phase}
use Rattle.sc_types.specs.declared.session.Phase.TheVariants as phase
use Rattle.sc_law.specs.Turn.{TurnResult, turn}
use Rattle.sc_machine.specs.Commands.{Answer, answer, posted_event, put_in}
use Rattle.sc_machine.specs.Cues.{cue_in, cue_of, name_of, outer_cue, queue_left, queued_cue}
use Rattle.sc_machine.specs.Deliveries.{deliver_all, queue}
use Rattle.sc_machine.specs.Endings.{end_at}
use Rattle.sc_machine.specs.Histories.{Tells, IsLegal, consumed_in, consumed, is_number, consumes}
use Rattle.sc_machine.specs.Hosts.{chart_named, empty_host, with_session}
use Rattle.sc_machine.proofs.ChangeLemmas.{Change, cancels, change_of, installs, posts, refuses, starts, ticks, turns, with_chart, with_fresh}
use Rattle.sc_machine.proofs.FoundLemmas.{is_at}
use Rattle.sc_machine.proofs.MoveLemmas.{Gift, IsParted, Keeps, Move, Moves, all_fire, all_move, bears, due_in, emptied, end_moves, ends, goes, parts, puts, queues, same, still, ticked}

-- a sum over a list of which one item was replaced
pub sum_replaced : {X : Type 0} (f : X → ℕ) (xs : List X) (i : ℕ) (x y : X) → slice_get xs i ≡ Some x → sum_by f (slice_set xs i y) + f x ≡ sum_by f xs + f y
sum_replaced f xs i x y there =
    subst (λ z. sum_by f (slice_set xs i y) + f z ≡ sum_by f xs + f y) (get_or_from_slice_get xs i x x there)
    (sum_by-set f xs i y x (slice_get_within xs i x there))

-- how often a number stands in a queue, and in all queues
abbrev pub in_queue : ℕ → List Event → ℕ
in_queue n queued = count_by (λ (e : Event). e.number == n) queued

-- how often an event of this number waits in the queues of the sessions
abbrev pub waiting : ℕ → HostImage → ℕ
waiting n g = sum_by (λ (s : SessionImage). in_queue n s.queued) g.sessions

-- a number was given at most once, and one that is yet to come not at all
pub record IsFew (n done : ℕ) (g : HostImage) : Type 0 where
  pub once : done + waiting n g ≤ 1
  pub none : g.events < n → done + waiting n g ≡ 0

-- one, where an entry consumed this number
abbrev pub taken : ℕ → Entry → ℕ
taken n e = cond (consumes n e) 1 0

-- fewer stay few
fewer : (n done more : ℕ) (g h : HostImage) → h.events ≡ g.events → done + more + waiting n h ≤ done + waiting n g → IsFew n done g → IsFew n (done + more) h
fewer n done more g h events less few = record {
  once = omega (arith, few.once);
  none = λ below. omega (arith, few.none (omega arith));
}

-- what waits in a queue that keeps its events, or loses them
kept_fewer : (n : ℕ) (old new : List Event) → Keeps old new → in_queue n new ≤ in_queue n old
kept_fewer n old new (same is) = omega (arith, ap (in_queue n) is)
kept_fewer n old new (emptied is) = omega (arith, ap (in_queue n) is)

-- a new number joins a queue
queue_few : (n done : ℕ) (g : HostImage) (place : ℕ) (s : SessionImage) (e : Event) → slice_get g.sessions place ≡ Some s
    → IsFew n done g → IsFew n done (queue g place s e)
queue_few n done g place s e there few =
    let f = λ (x : SessionImage). in_queue n x.queued in
    let new = record e { number = g.events + 1 } in
    let queued = record s { queued = s.queued ++ new ∷ [] } in
    let total = sum_replaced f g.sessions place s queued there in
    let grown : f queued ≡ f s + cond (g.events + 1 == n) 1 0 =
    sum_by_push (λ (e : Event). cond (e.number == n) 1 0) s.queued new in
    record {
      once = grind (arith, nat_tests, few.once, few.none, total, grown);
      none = λ below. grind (arith, nat_tests, few.none, total, grown);
    }

-- another session in a place, with no event more
put_few : (n done more : ℕ) (g h : HostImage) (place : ℕ) (s put : SessionImage) → slice_get g.sessions place ≡ Some s
    → in_queue n put.queued + more ≤ in_queue n s.queued → h.sessions ≡ slice_set g.sessions place put
    → h.events ≡ g.events → IsFew n done g → IsFew n (done + more) h
put_few n done more g h place s put there fewer_queued sessions events few =
    let f = λ (x : SessionImage). in_queue n x.queued in
    let total = sum_replaced f g.sessions place s put there in
    let waits : waiting n h ≡ sum_by f (slice_set g.sessions place put) = ap (sum_by f) sessions in
    fewer n done more g h events (omega (arith, total, waits, fewer_queued)) few

waits_parted : (n : ℕ) (g : HostImage) (f : SessionImage → SessionImage) → ((s : SessionImage) → IsParted g s (f s))
    → (xs : List SessionImage) → sum_by (λ (x : SessionImage). in_queue n x.queued) (map f xs)
    ≡ sum_by (λ (x : SessionImage). in_queue n x.queued) xs
waits_parted n g f part [] = refl
waits_parted n g f part (x ∷ xs) =
    let q = λ (s : SessionImage). in_queue n s.queued in
    sum_by-cons q (f x) (map f xs) ∙ ap (λ k. in_queue n k + sum_by q (map f xs)) (part x).queued
    ∙ ap (λ k. in_queue n x.queued + k) (waits_parted n g f part xs) ∙ sym (sum_by-cons q x xs)

-- a move keeps each number few
pub few_moved : (n done : ℕ) (g h : HostImage) (given : List Gift) → Move g h given → IsFew n done g → IsFew n done h
few_moved n done g h given (still sessions events charts commands is) few =
    let waits : waiting n h ≡ waiting n g = ap (sum_by (λ (x : SessionImage). in_queue n x.queued)) sessions in
    record { once = omega (arith, few.once, waits); none = λ below. omega (arith, few.none (omega (arith, events)), waits) }
few_moved n done g h given (puts place s put there named kept fits sessions events charts commands is) few =
    let moved = put_few n done 0 g h place s put there (omega (arith, kept_fewer n s.queued put.queued kept)) sessions events few in
    record { once = omega (arith, moved.once); none = λ below. omega (arith, moved.none below) }
few_moved n done g h given (bears s queued new short fits sessions events charts commands is) few =
    let f = λ (x : SessionImage). in_queue n x.queued in
    let total = sum_by_push f g.sessions s in
    let none : in_queue n s.queued ≡ 0 = ap (in_queue n) queued in
    let waits : waiting n h ≡ sum_by f (g.sessions ++ s ∷ []) = ap (sum_by f) sessions in
    record {
      once = omega (arith, few.once, waits, total, none);
      none = λ below. omega (arith, few.none (omega (arith, events, below)), waits, total, none);
    }
few_moved n done g h given (parts f part sessions events charts commands is) few =
    let waits : waiting n h ≡ waiting n g = ap (sum_by (λ (x : SessionImage). in_queue n x.queued)) sessions
    ∙ waits_parted n g f part g.sessions in
    record { once = omega (arith, few.once, waits); none = λ below. omega (arith, few.none (omega (arith, events, below)), waits) }
few_moved n done g h given (queues place s e there is gift) few =
    subst (IsFew n done) (sym is) (queue_few n done g place s e there few)

-- several moves do as well
pub few_moves : (n done : ℕ) (g h : HostImage) (given : List Gift) → Moves g h given → IsFew n done g → IsFew n done h
few_moves n done g h given (ends unmoved is) few = subst (IsFew n done) (sym unmoved) few
few_moves n done g h given (goes m first rest one others is) few =
    few_moves n done m h rest others (few_moved n done g m first one few)

-- what a command of another kind, or a refusal, consumes
refused_none : (c : Command) (why : Refusal) → consumed_in c (Refused why) ≡ None
refused_none (Install name text) why = refl
refused_none (Start session chart) why = refl
refused_none (Post session name pairs) why = refl
refused_none (Tick n) why = refl
refused_none (Cancel session) why = refl
refused_none (Step session) why = refl

taken_none : (n : ℕ) (e : Entry) → consumed e ≡ None → taken n e ≡ 0
taken_none n e h = ap (λ o. cond (is_number n o) 1 0) h

-- an entry that consumes nothing leaves the numbers as few as its host has them
none_taken : (n done : ℕ) (g : HostImage) (e : Entry) → consumed e ≡ None → IsFew n done g → IsFew n (done + taken n e) g
none_taken n done g e none few = let zero = taken_none n e none in
    record { once = omega (arith, zero, few.once); none = λ below. omega (arith, zero, few.none below) }

-- the cue leaves the queue as it is consumed

cue_number : ℕ → Cue → ℕ
cue_number n cue.Fresh = 0
cue_number n cue.Resume = 0
cue_number n cue.Cancel = 0
cue_number n (cue.External e) = cond (e.number == n) 1 0

queued_front : (queued : List Event) (e : Event) → queued_cue queued ≡ Some (cue.External e)
    → (rest : List Event) × (queued ≡ e ∷ rest)
queued_front [] e h = absurd (cc)
queued_front (q ∷ qs) e h = (qs, cc)

outer_front : (flagged : Bool) (queued : List Event) (e : Event) → outer_cue flagged queued ≡ Some (cue.External e)
    → (rest : List Event) × (queued ≡ e ∷ rest)
outer_front true queued e h = absurd (cc)
outer_front false queued e h = queued_front queued e h

-- an external cue is the front of the queue
pub external_front : (p : Phase) (internal : List Event) (flagged : Bool) (queued : List Event) (e : Event)
    → cue_in p internal flagged queued ≡ Some (cue.External e) → (rest : List Event) × (queued ≡ e ∷ rest)
external_front phase.Fresh internal flagged queued e h = absurd (cc)
external_front (phase.Ended how) internal flagged queued e h = absurd (cc)
external_front phase.Running (i ∷ is) flagged queued e h = absurd (cc)
external_front phase.Running [] flagged queued e h = outer_front flagged queued e h

left_fewer : (n : ℕ) (s : SessionImage) (c : Cue) → cue_of s ≡ Some c
    → in_queue n (queue_left c s.queued) + cue_number n c ≤ in_queue n s.queued
unfolding cue_number
left_fewer n s cue.Fresh h = omega arith
left_fewer n s cue.Resume h = omega arith
left_fewer n s cue.Cancel h = omega arith
left_fewer n s (cue.External e) h =
    let front = external_front s.state.phase s.state.internal s.flagged s.queued e h in
    let first : in_queue n (e ∷ front.0) ≡ cond (e.number == n) 1 0 + in_queue n front.0 =
    sum_by-cons (λ (x : Event). cond (x.number == n) 1 0) e front.0 in
    subst (λ q. in_queue n (drop 1 q) + cond (e.number == n) 1 0 ≤ in_queue n q) (sym front.1) (omega (arith, first))

taken_cue : (n : ℕ) (session : List ℕ) (c : Cue)
    → cond (is_number n (consumed_in (Step session) (Stepped (name_of c)))) 1 0 ≡ cue_number n c
unfolding cue_number
taken_cue n session cue.Fresh = refl
taken_cue n session cue.Resume = refl
taken_cue n session cue.Cancel = refl
taken_cue n session (cue.External e) = refl

-- the host that a turn leaves has the numbers few, with the cue's as taken
step_few : (n done : ℕ) (g : HostImage) (place : ℕ) (s : SessionImage) (c : Cue) (t : TurnResult)
    → slice_get g.sessions place ≡ Some s → cue_of s ≡ Some c → IsFew n done g
    → IsFew n (done + cue_number n c) (end_at (deliver_all (with_session g place (put_in s c t)) place t.effects).host place).host
step_few n done g place s c t there has few =
    let put = with_session g place (put_in s c t) in
    let delivered = deliver_all put place t.effects in
    let started = put_few n done (cue_number n c) g put place s (put_in s c t) there (left_fewer n s c has) refl refl few in
    let all = few_moves n (done + cue_number n c) put delivered.host _ (all_move put place t.effects) started in
    few_moves n (done + cue_number n c) delivered.host (end_at delivered.host place).host _ (end_moves delivered.host place) all

-- the same host with another count of commands has the numbers as few
counted_few : (n done : ℕ) (g : HostImage) (count : ℕ) → IsFew n done g → IsFew n done (record g { commands = count })
counted_few n done g count few = record { once = few.once; none = few.none }

-- one chart more
charted_few : (n done : ℕ) (g : HostImage) (name text : List ℕ) → IsFew n done g → IsFew n done (with_chart g name text)
charted_few n done g name text few = record { once = few.once; none = few.none }

-- an answer that the entry tells keeps every number few
few_kept : (n done : ℕ) (g : HostImage) (e : Entry) (a : Answer) → Change g e.command a → Tells e a → IsFew n done g
    → IsFew n (done + taken n e) a.host
few_kept n done g e a (refuses why is) told few =
    let none = ap (consumed_in e.command) (told.reply ∙ ap (λ (x : Answer). x.reply) is) ∙ refused_none e.command why in
    subst (λ (x : Answer). IsFew n (done + taken n e) x.host) (sym is) (none_taken n done g e none few)
few_kept n done g e a (installs name text chart command legal is) told few =
    subst (λ (x : Answer). IsFew n (done + taken n e) x.host) (sym is)
    (counted_few n _ (with_chart g name text) (g.commands + 1)
    (charted_few n _ g name text (none_taken n done g e (ap (λ c. consumed_in c e.reply) command) few)))
few_kept n done g e a (starts session chart command has new is) told few =
    let f = λ (x : SessionImage). in_queue n x.queued in
    let grown : waiting n (with_fresh g session chart) ≡ waiting n g = sum_by_push f g.sessions _ ∙ omega arith in
    let before = none_taken n done g e (ap (λ c. consumed_in c e.reply) command) few in
    subst (λ (x : Answer). IsFew n (done + taken n e) x.host) (sym is) (record {
      once = omega (arith, grown, before.once);
      none = λ below. omega (arith, grown, before.none below);
    })
few_kept n done g e a (posts session name pairs place s command found is) told few =
    let before = none_taken n done g e (ap (λ c. consumed_in c e.reply) command) few in
    subst (λ (x : Answer). IsFew n (done + taken n e) x.host) (sym is)
    (counted_few n _ _ _ (queue_few n _ g place s (posted_event name pairs) (is_at g session place s found).there before))
few_kept n done g e a (ticks k now command within is) told few =
    let before = none_taken n done g e (ap (λ c. consumed_in c e.reply) command) few in
    let later = few_moved n _ g (ticked g now) [] (still refl refl refl refl refl) before in
    subst (λ (x : Answer). IsFew n (done + taken n e) x.host) (sym is)
    (counted_few n _ _ _ (few_moves n _ (ticked g now) _ _ (all_fire (ticked g now) (due_in g now)) later))
few_kept n done g e a (cancels session place s command found is) told few =
    let before = none_taken n done g e (ap (λ c. consumed_in c e.reply) command) few in
    subst (λ (x : Answer). IsFew n (done + taken n e) x.host) (sym is)
    (counted_few n _ _ _ (few_moved n _ g (with_session g place (record s { flagged = true })) []
    (puts place s (record s { flagged = true })
    (is_at g session place s found).there refl (same refl) (λ f. record { chart = f.chart; fits = f.fits }) refl refl refl refl refl) before))
few_kept n done g e a (turns session place s c command found has is) told few =
    let there = (is_at g session place s found).there in
    let t = turn (chart_named g s.state.chart) s.state c in
    let stepped = step_few n done g place s c t there has few in
    let reply = told.reply ∙ ap (λ (x : Answer). x.reply) is in
    let told_taken : taken n e ≡ cue_number n c =
    ap (λ c. cond (is_number n (consumed_in c e.reply)) 1 0) command
    ∙ ap (λ r. cond (is_number n (consumed_in (Step session) r)) 1 0) reply ∙ taken_cue n session c in
    subst (λ (x : Answer). IsFew n (done + taken n e) x.host) (sym is) (record {
      once = omega (arith, told_taken, stepped.once);
      none = λ below. omega (arith, told_taken, stepped.none below);
    })

-- a number is consumed at most once in a legal history
pub once_from : (n done : ℕ) (g : HostImage) (history : List Entry) → IsLegal g history → IsFew n done g → done + count_by (consumes n) history ≤ 1
once_from n done g [] legal few = omega (arith, few.once)
once_from n done g (e ∷ es) legal few =
    let after = few_kept n done g e (answer g e.command) (change_of g e.command) legal.0 few in
    let first : count_by (consumes n) (e ∷ es) ≡ taken n e + count_by (consumes n) es = sum_by-cons (λ (x : Entry). cond (consumes n x) 1 0) e es in
    omega (arith, first, once_from n (done + taken n e) (answer g e.command).host es legal.1 after)

-- in a legal history from the empty host no number is consumed twice
pub consumed_once : (history : List Entry) → IsLegal empty_host history → (n : ℕ) → count_by (consumes n) history ≤ 1
consumed_once history legal n =
    let h = once_from n 0 empty_host history legal (record { once = omega arith; none = λ below. refl }) in
    omega (arith, h)
