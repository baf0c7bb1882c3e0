-- What a step consumes was given before, to that very session.
use Rattle.std.proofs.Common.{◌≡◌, ℕ, zero, suc, ◌+◌, ◌==◌, ◌||◌, ◌&&◌, true, false, Option, Some, IfSome, IsTrue, List, [], ◌∷◌, ◌++◌, drop, slice_get, slice_set, refl, sym, ap, subst, ◌∙◌, rules, map, append_assoc}
use Rattle.std.specs.List.{list_any, AllByRecursion}
use Rattle.std.proofs.lemmas.Bool.Decides.{nat_tests}
use Rattle.std.proofs.lemmas.List.Folds.{list_any-append}
use Rattle.std.specs.Str.{bytes_eq}
use Rattle.std.proofs.lemmas.Option.{same_Some}
use Rattle.std.proofs.Math.Bool.{or-true}
use Rattle.std.proofs.lemmas.Slice.Eq.{bytes_eq-Decides}
use Rattle.sc_types.specs.declared.command.Command.{Command}
use Rattle.sc_types.specs.declared.command.Command.TheVariants.{Install, Start, Post, Tick, Cancel, Step}
use Rattle.sc_types.specs.declared.command.Refusal.{Refusal}
use Rattle.sc_types.specs.declared.command.Reply.TheVariants.{Posted, Stepped, Refused}
use Rattle.sc_types.specs.declared.event.Event.{Event}
use Rattle.sc_types.specs.declared.history.Delivery.{Delivery}
use Rattle.sc_types.specs.declared.history.Delivery.TheVariants as delivery
use Rattle.sc_types.specs.declared.history.Entry.{Entry}
use Rattle.sc_types.specs.declared.host.HostImage.{HostImage}
use Rattle.sc_types.specs.declared.host.SessionImage.{SessionImage}
use Rattle.sc_types.specs.declared.session.Cue.{Cue}
use Rattle.sc_types.specs.declared.session.Cue.TheVariants as cue
use Rattle.sc_types.specs.declared.value.Value.{Value}
use Rattle.sc_law.specs.Turn.{turn}
use Rattle.sc_machine.specs.Commands.{Answer, answer, posted_event, put_in}
use Rattle.sc_machine.specs.Cues.{cue_of, name_of, queue_left}
use Rattle.sc_machine.specs.Deliveries.{deliver_all, fire_all, queue}
use Rattle.sc_machine.specs.Endings.{end_at}
use Rattle.sc_machine.specs.Histories.{Tells, IsLegal, consumed_in, consumed, is_posted, is_queued, gives, GivenBefore}
use Rattle.sc_machine.specs.Hosts.{chart_named, with_session}
use Rattle.sc_machine.proofs.ChangeLemmas.{Change, cancels, change_of, installs, posts, refuses, starts, ticks, turns}
use Rattle.sc_machine.proofs.FoundLemmas.{is_at}
use Rattle.sc_machine.proofs.MoveLemmas.{Gift, IsParted, Keeps, Move, Moves, all_fire, all_move, bears, due_in, emptied, end_moves, ends, gifts, given_in, goes, parts, puts, queues, same, still, ticked}
use Rattle.sc_machine.proofs.Once.{external_front}
use Rattle.sc_machine.proofs.TurnLemmas.{turn-of}

-- a fact of each item

-- what all items have, they have in a weaker form
pub all_weaken : {X : Type 0} {P Q : X → Type 0} → ((x : X) → P x → Q x) → (xs : List X) → AllByRecursion P xs → AllByRecursion Q xs
all_weaken f [] h = tt
all_weaken f (x ∷ xs) h = (f x h.0, all_weaken f xs h.1)

-- what all items and one more have, the longer list has
pub all_push : {X : Type 0} (P : X → Type 0) (xs : List X) (y : X) → AllByRecursion P xs → P y → AllByRecursion P (xs ++ y ∷ [])
all_push P [] y h p = (p, tt)
all_push P (x ∷ xs) y h p = (h.0, all_push P xs y h.1 p)

-- what all items have, they have where one of them is replaced by an item that has it
pub all_set : {X : Type 0} (P : X → Type 0) (xs : List X) (i : ℕ) (y : X) → AllByRecursion P xs → P y → AllByRecursion P (slice_set xs i y)
all_set P [] i y h p = tt
all_set P (x ∷ xs) zero y h p = (p, h.1)
all_set P (x ∷ xs) (suc i) y h p = (h.0, all_set P xs i y h.1 p)

-- what all items have, the one at a place has
pub all_at : {X : Type 0} (P : X → Type 0) (xs : List X) (i : ℕ) (x : X) → slice_get xs i ≡ Some x → AllByRecursion P xs → P x
all_at P [] i x there h = absurd (cc)
all_at P (y ∷ ys) zero x there h = subst P (same_Some y x there) h.0
all_at P (y ∷ ys) (suc i) x there h = all_at P ys i x there h.1

-- what all items have, all but the first have
pub all_rest : {X : Type 0} (P : X → Type 0) (xs : List X) → AllByRecursion P xs → AllByRecursion P (drop 1 xs)
all_rest P [] h = tt
all_rest P (x ∷ xs) h = h.1

-- an event of this number was given to this session
abbrev WasGiven : List Entry → List ℕ → Event → Type 0
WasGiven done session e = IsTrue (list_any (gives (e.number, session)) done)

abbrev QueueWasGiven : List Entry → SessionImage → Type 0
QueueWasGiven done s = AllByRecursion (WasGiven done s.state.session) s.queued

-- whatever waits in a queue was given to its session
abbrev pub AllWereGiven : List Entry → HostImage → Type 0
AllWereGiven done g = AllByRecursion (QueueWasGiven done) g.sessions

given_later : (done : List Entry) (e : Entry) (session : List ℕ) (x : Event) → WasGiven done session x → WasGiven (done ++ e ∷ []) session x
given_later done e session x h =
    let more = list_any-append (gives (x.number, session)) done (e ∷ []) in
    let yes : list_any (gives (x.number, session)) done ≡ true = search rules in
    let both : list_any (gives (x.number, session)) (done ++ e ∷ []) ≡ true = more ∙ ap (λ b. b || list_any (gives (x.number, session)) (e ∷ [])) yes in
    search rules

all_given_later : (done : List Entry) (e : Entry) (g : HostImage) → AllWereGiven done g → AllWereGiven (done ++ e ∷ []) g
all_given_later done e g h = all_weaken (λ s given. all_weaken (λ x. given_later done e s.state.session x) s.queued given) g.sessions h

-- a post gives its event to the session that it names
posted_gives : (n : ℕ) (session name : List ℕ) (pairs : List (List ℕ × Value)) (e : Entry)
    → e.command ≡ Post session name pairs → e.reply ≡ Posted n → gives (n, session) e ≡ true
posted_gives n session name pairs e command reply =
    let same : bytes_eq session session ≡ true = (bytes_eq-Decides session session).1 refl in
    let number : (n == n) ≡ true = search (nat_tests, rules) in
    let posted : is_posted (n, session) (Post session name pairs) (Posted n) ≡ true = ap (λ b. b && bytes_eq session session) number ∙ same in
    ap (λ b. b || list_any (is_queued (n, session)) e.sent) (ap (λ c. is_posted (n, session) c e.reply) command ∙ ap (λ r. is_posted (n, session) (Post session name pairs) r) reply ∙ posted)

left_given : (P : Event → Type 0) (c : Cue) (queued : List Event) → AllByRecursion P queued → AllByRecursion P (queue_left c queued)
left_given P cue.Fresh queued h = h
left_given P cue.Resume queued h = h
left_given P cue.Cancel queued h = h
left_given P (cue.External e) queued h = all_rest P queued h

-- what moves leave waiting

-- the event of this number was given to this session
abbrev pub IsGift : List Entry → Gift → Type 0
IsGift done c = IsTrue (list_any (gives c) done)

kept_given : (P : Event → Type 0) (old new : List Event) → Keeps old new → AllByRecursion P old → AllByRecursion P new
kept_given P old new (same is) h = subst (AllByRecursion P) (sym is) h
kept_given P old new (emptied is) h = subst (AllByRecursion P) (sym is) tt

put_given : (done : List Entry) (g h : HostImage) (place : ℕ) (s put : SessionImage) → slice_get g.sessions place ≡ Some s
    → put.state.session ≡ s.state.session
    → ((P : Event → Type 0) → AllByRecursion P s.queued → AllByRecursion P put.queued)
    → h.sessions ≡ slice_set g.sessions place put → AllWereGiven done g → AllWereGiven done h
put_given done g h place s put there named kept sessions given =
    let own = all_at (QueueWasGiven done) g.sessions place s there given in
    let mine : QueueWasGiven done put =
    subst (λ n. AllByRecursion (WasGiven done n) put.queued) (sym named) (kept (WasGiven done s.state.session) own) in
    subst (AllByRecursion (QueueWasGiven done)) (sym sessions) (all_set (QueueWasGiven done) g.sessions place put given mine)

queue_given : (done : List Entry) (g : HostImage) (place : ℕ) (s : SessionImage) (e : Event) → slice_get g.sessions place ≡ Some s
    → IsGift done (g.events + 1, s.state.session) → AllWereGiven done g → AllWereGiven done (queue g place s e)
queue_given done g place s e there gift given =
    let own = all_at (QueueWasGiven done) g.sessions place s there given in
    all_set (QueueWasGiven done) g.sessions place _ given
    (all_push (WasGiven done s.state.session) s.queued (record e { number = g.events + 1 }) own gift)

parted_given : (done : List Entry) (g : HostImage) (f : SessionImage → SessionImage) → ((s : SessionImage) → IsParted g s (f s))
    → (xs : List SessionImage) → AllByRecursion (QueueWasGiven done) xs → AllByRecursion (QueueWasGiven done) (map f xs)
parted_given done g f part [] h = tt
parted_given done g f part (x ∷ xs) h = (
  subst (λ n. AllByRecursion (WasGiven done n) (f x).queued) (sym (part x).named)
      (subst (AllByRecursion (WasGiven done x.state.session)) (sym (part x).queued) h.0),
  parted_given done g f part xs h.1,
)

-- a move leaves waiting what was given
move_given : (done : List Entry) (g h : HostImage) (given : List Gift) → Move g h given
    → AllByRecursion (IsGift done) given → AllWereGiven done g → AllWereGiven done h
move_given done g h given (still sessions events charts commands is) gift all = subst (AllByRecursion (QueueWasGiven done)) (sym sessions) all
move_given done g h given (puts place s put there named kept fits sessions events charts commands is) gift all =
    put_given done g h place s put there named (λ P. kept_given P s.queued put.queued kept) sessions all
move_given done g h given (bears s queued new short fits sessions events charts commands is) gift all =
    subst (AllByRecursion (QueueWasGiven done)) (sym sessions)
    (all_push (QueueWasGiven done) g.sessions s all
    (subst (AllByRecursion (WasGiven done s.state.session)) (sym queued) tt))
move_given done g h given (parts f part sessions events charts commands is) gift all =
    subst (AllByRecursion (QueueWasGiven done)) (sym sessions) (parted_given done g f part g.sessions all)
move_given done g h given (queues place s e there is new) gift all =
    let one : AllByRecursion (IsGift done) ((g.events + 1, s.state.session) ∷ []) = subst (AllByRecursion (IsGift done)) new gift in
    subst (AllWereGiven done) (sym is) (queue_given done g place s e there one.0 all)

all_first : {X : Type 0} (P : X → Type 0) (xs ys : List X) → AllByRecursion P (xs ++ ys) → AllByRecursion P xs
all_first P [] ys h = tt
all_first P (x ∷ xs) ys h = (h.0, all_first P xs ys h.1)

all_second : {X : Type 0} (P : X → Type 0) (xs ys : List X) → AllByRecursion P (xs ++ ys) → AllByRecursion P ys
all_second P [] ys h = h
all_second P (x ∷ xs) ys h = all_second P xs ys h.1

-- what all items of two lists have, all of both have
pub all_both : {X : Type 0} (P : X → Type 0) (xs ys : List X) → AllByRecursion P xs → AllByRecursion P ys → AllByRecursion P (xs ++ ys)
all_both P [] ys h k = k
all_both P (x ∷ xs) ys h k = (h.0, all_both P xs ys h.1 k)

moves_given : (done : List Entry) (g h : HostImage) (given : List Gift) → Moves g h given
    → AllByRecursion (IsGift done) given → AllWereGiven done g → AllWereGiven done h
moves_given done g h given (ends unmoved is) gift all = subst (AllWereGiven done) (sym unmoved) all
moves_given done g h given (goes m first rest one others is) gift all =
    let both : AllByRecursion (IsGift done) (first ++ rest) = subst (AllByRecursion (IsGift done)) is gift in
    moves_given done m h rest others (all_second (IsGift done) first rest both)
    (move_given done g m first one (all_first (IsGift done) first rest both) all)

-- what deliveries gave is told by the entry that tells them

told_first : (d : Delivery) (ds : List Delivery)
    → AllByRecursion (λ (c : Gift). list_any (is_queued c) (d ∷ ds) ≡ true) (given_in d)
told_first (delivery.Queued n session) ds =
    let number : (n == n) ≡ true = search (nat_tests, rules) in
    let name : bytes_eq session session ≡ true = (bytes_eq-Decides session session).1 refl in (
      ap (λ b. b && bytes_eq session session || list_any (is_queued (n, session)) ds) number
          ∙ ap (λ b. b || list_any (is_queued (n, session)) ds) name,
      tt,
    )
told_first (delivery.Timed n due) ds = tt
told_first delivery.Unreachable ds = tt
told_first delivery.Dropped ds = tt
told_first (delivery.Undone count) ds = tt
told_first (delivery.Born child) ds = tt
told_first delivery.Unborn ds = tt
told_first (delivery.Flagged child) ds = tt
told_first delivery.Nothing ds = tt

told_all : (sent : List Delivery) → AllByRecursion (λ (c : Gift). list_any (is_queued c) sent ≡ true) (gifts sent)
told_all [] = tt
told_all (d ∷ ds) =
    all_both (λ (c : Gift). list_any (is_queued c) (d ∷ ds) ≡ true) (given_in d) (gifts ds) (told_first d ds)
    (all_weaken (λ c h. ap (λ b. is_queued c d || b) h ∙ or-true (is_queued c d)) (gifts ds) (told_all ds))

gift_last : (done : List Entry) (e : Entry) (c : Gift) → gives c e ≡ true → IsGift (done ++ e ∷ []) c
gift_last done e c h =
    let last : list_any (gives c) (e ∷ []) ≡ true = ap (λ b. b || false) h in
    let both : list_any (gives c) (done ++ e ∷ []) ≡ true =
    list_any-append (gives c) done (e ∷ []) ∙ ap (λ b. list_any (gives c) done || b) last ∙ or-true (list_any (gives c) done) in
    search rules

-- what an entry's deliveries gave, the history with it tells
told_gifts : (done : List Entry) (e : Entry) (sent : List Delivery) → e.sent ≡ sent
    → AllByRecursion (IsGift (done ++ e ∷ [])) (gifts sent)
told_gifts done e sent is =
    all_weaken (λ c h. gift_last done e c
    (ap (λ b. is_posted c e.command e.reply || b) (ap (list_any (is_queued c)) is ∙ h) ∙ or-true (is_posted c e.command e.reply)))
    (gifts sent) (told_all sent)

-- what two rows of deliveries gave
gifts_both : (xs ys : List Delivery) → gifts (xs ++ ys) ≡ gifts xs ++ gifts ys
gifts_both [] ys = refl
gifts_both (x ∷ xs) ys = ap (λ more. given_in x ++ more) (gifts_both xs ys) ∙ sym (append_assoc (given_in x) (gifts xs) (gifts ys))

-- what an entry leaves waiting was given before it, or by it
given_kept : (done : List Entry) (g : HostImage) (e : Entry) (a : Answer) → Change g e.command a → Tells e a
    → AllWereGiven done g → AllWereGiven (done ++ e ∷ []) a.host
given_kept done g e a (refuses why is) told h =
    subst (λ (x : Answer). AllWereGiven (done ++ e ∷ []) x.host) (sym is) (all_given_later done e g h)
given_kept done g e a (installs name text chart command legal is) told h =
    subst (λ (x : Answer). AllWereGiven (done ++ e ∷ []) x.host) (sym is) (all_given_later done e g h)
given_kept done g e a (starts session chart command has new is) told h =
    subst (λ (x : Answer). AllWereGiven (done ++ e ∷ []) x.host) (sym is)
    (all_push (QueueWasGiven (done ++ e ∷ [])) g.sessions _ (all_given_later done e g h) tt)
given_kept done g e a (posts session name pairs place s command found is) told h =
    let at = is_at g session place s found in
    let reply = told.reply ∙ ap (λ (x : Answer). x.reply) is in
    let gift : IsGift (done ++ e ∷ []) (g.events + 1, session) =
    gift_last done e (g.events + 1, session) (posted_gives (g.events + 1) session name pairs e command reply) in
    subst (λ (x : Answer). AllWereGiven (done ++ e ∷ []) x.host) (sym is)
    (queue_given (done ++ e ∷ []) g place s (posted_event name pairs) at.there
    (subst (λ n. IsGift (done ++ e ∷ []) (g.events + 1, n)) (sym at.named) gift) (all_given_later done e g h))
given_kept done g e a (ticks n now command within is) told h =
    let sent = (fire_all (ticked g now) (due_in g now)).sent in
    let tells = told_gifts done e sent (told.sent ∙ ap (λ (x : Answer). x.sent) is) in
    subst (λ (x : Answer). AllWereGiven (done ++ e ∷ []) x.host) (sym is)
    (moves_given (done ++ e ∷ []) (ticked g now) _ _ (all_fire (ticked g now) (due_in g now)) tells
    (all_given_later done e g h))
given_kept done g e a (cancels session place s command found is) told h =
    let there = (is_at g session place s found).there in
    subst (λ (x : Answer). AllWereGiven (done ++ e ∷ []) x.host) (sym is)
    (put_given (done ++ e ∷ []) g (with_session g place (record s { flagged = true })) place s (record s { flagged = true }) there refl (λ P k. k) refl
    (all_given_later done e g h))
given_kept done g e a (turns session place s c command found has is) told h =
    let at = is_at g session place s found in
    let t = turn (chart_named g s.state.chart) s.state c in
    let put = with_session g place (put_in s c t) in
    let delivered = deliver_all put place t.effects in
    let ended = end_at delivered.host place in
    let tells : AllByRecursion (IsGift (done ++ e ∷ [])) (gifts delivered.sent ++ gifts ended.sent) =
    subst (AllByRecursion (IsGift (done ++ e ∷ []))) (gifts_both delivered.sent ended.sent)
    (told_gifts done e (delivered.sent ++ ended.sent) (told.sent ∙ ap (λ (x : Answer). x.sent) is)) in
    let started : AllWereGiven (done ++ e ∷ []) put =
    put_given (done ++ e ∷ []) g put place s (put_in s c t) at.there
    (turn-of (chart_named g s.state.chart) s.state c).session (λ P. left_given P c s.queued) refl (all_given_later done e g h) in
    let all = moves_given (done ++ e ∷ []) put delivered.host _ (all_move put place t.effects)
    (all_first (IsGift (done ++ e ∷ [])) (gifts delivered.sent) (gifts ended.sent) tells) started in
    subst (λ (x : Answer). AllWereGiven (done ++ e ∷ []) x.host) (sym is)
    (moves_given (done ++ e ∷ []) delivered.host ended.host _ (end_moves delivered.host place)
    (all_second (IsGift (done ++ e ∷ [])) (gifts delivered.sent) (gifts ended.sent) tells) all)

-- what an entry consumes waited in the queue of its session

IsGivenIn : List Entry → Option (ℕ × List ℕ) → Type 0
IsGivenIn done o = IfSome o (λ c. IsTrue (list_any (gives c) done))

refused_given : (done : List Entry) (c : Command) (why : Refusal) → IsGivenIn done (consumed_in c (Refused why))
unfolding IsGivenIn
refused_given done (Install name text) why = tt
refused_given done (Start session chart) why = tt
refused_given done (Post session name pairs) why = tt
refused_given done (Tick n) why = tt
refused_given done (Cancel session) why = tt
refused_given done (Step session) why = tt

cue_given : (done : List Entry) (session : List ℕ) (s : SessionImage) (c : Cue) → s.state.session ≡ session
    → cue_of s ≡ Some c → QueueWasGiven done s → IsGivenIn done (consumed_in (Step session) (Stepped (name_of c)))
unfolding IsGivenIn
cue_given done session s cue.Fresh named has h = tt
cue_given done session s cue.Resume named has h = tt
cue_given done session s cue.Cancel named has h = tt
cue_given done session s (cue.External e) named has h =
    let front = external_front s.state.phase s.state.internal s.flagged s.queued e has in
    let first = (subst (λ q. AllByRecursion (WasGiven done s.state.session) q) front.1 h).0 in
    subst (λ n. IsTrue (list_any (gives (e.number, n)) done)) named first

none_given : (done : List Entry) (e : Entry) (c : Command) → e.command ≡ c → IsGivenIn done (consumed_in c e.reply)
    → IsGivenIn done (consumed e)
none_given done e c command h = subst (λ c. IsGivenIn done (consumed_in c e.reply)) (sym command) h

consumed_given : (done : List Entry) (g : HostImage) (e : Entry) (a : Answer) → Change g e.command a → Tells e a
    → AllWereGiven done g → IsGivenIn done (consumed e)
unfolding IsGivenIn
consumed_given done g e a (refuses why is) told h =
    subst (λ r. IsGivenIn done (consumed_in e.command r)) (sym (told.reply ∙ ap (λ (x : Answer). x.reply) is))
    (refused_given done e.command why)
consumed_given done g e a (installs name text chart command legal is) told h = none_given done e _ command tt
consumed_given done g e a (starts session chart command has new is) told h = none_given done e _ command tt
consumed_given done g e a (posts session name pairs place s command found is) told h = none_given done e _ command tt
consumed_given done g e a (ticks n now command within is) told h = none_given done e _ command tt
consumed_given done g e a (cancels session place s command found is) told h = none_given done e _ command tt
consumed_given done g e a (turns session place s c command found has is) told h =
    let at = is_at g session place s found in
    let own = all_at (QueueWasGiven done) g.sessions place s at.there h in
    let reply = told.reply ∙ ap (λ (x : Answer). x.reply) is in
    none_given done e _ command
    (subst (λ r. IsGivenIn done (consumed_in (Step session) r)) (sym reply) (cue_given done session s c at.named has own))

-- what each step of a legal history consumed was given before
pub given_from : (done : List Entry) (g : HostImage) (history : List Entry) → IsLegal g history → AllWereGiven done g → GivenBefore done history
unfolding IsGivenIn
given_from done g [] legal h = tt
given_from done g (e ∷ es) legal h =
    let change = change_of g e.command in (
      consumed_given done g e (answer g e.command) change legal.0 h,
      given_from (done ++ e ∷ []) (answer g e.command).host es legal.1 (given_kept done g e (answer g e.command) change legal.0 h),
    )
