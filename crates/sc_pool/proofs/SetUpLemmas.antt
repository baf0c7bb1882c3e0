-- The set-up of a script, and that it is served with what its clients and the workers make then.
use Rattle.std.proofs.Common.{◌≡◌, ◌≢◌, inl, inr, ℕ, zero, suc, ◌≤◌, ◌==◌, ◌&&◌, ◌||◌, Bool, true, false, not, IsTrue, Option, None, Some, List, [], ◌∷◌, ◌++◌, length, append_assoc, append-nil, length-append, refl, sym, ap, ◌∙◌, subst, arith}
use Rattle.std.specs.List.{list_all, list_any, AllByRecursion}
use Rattle.std.proofs.lemmas.Bool.Decides.{nat_tests}
use Rattle.sc_book.specs.Books.{opening}
use Rattle.sc_book.specs.declared.doubt.Doubt.{Doubt}
use Rattle.sc_book.specs.declared.fault.CallFault.{CallFault}
use Rattle.sc_book.specs.declared.fault.CallFault.TheVariants.{Disk, Full, NoMemory}
use Rattle.sc_types.specs.declared.command.Command.{Command}
use Rattle.sc_types.specs.declared.command.Command.TheVariants as command
use Rattle.sc_types.specs.declared.command.Reply.{Reply}
use Rattle.sc_types.specs.declared.history.Entry.{Entry}
use Rattle.sc_types.specs.declared.history.Who.{Who}
use Rattle.sc_types.specs.declared.history.Who.TheVariants.{Client, Worker}
use Rattle.sc_script.specs.Steps.{HasNoStep, IsNoStep}
use Rattle.sc_script.specs.declared.script.Script.{Script}
use Rattle.sc_machine.specs.Accepted.{accepted_steps, is_accepted}
use Rattle.sc_machine.specs.Commands.{answer}
use Rattle.sc_machine.specs.Histories.{replay}
use Rattle.sc_pool.specs.Plans.{ComesNext, Finished, IsPlaced, planned, script_of}
use Rattle.sc_pool.specs.Pools.{CameNext, IsNext, IsNextOf, IsShown, Ran, rank_of}
use Rattle.sc_pool.specs.Serving.{IsPrefix, Serves, ServesInPart, commands_of, is_later, is_of, is_of_later, is_served, is_setup, is_setup_first, list_of, served_by}
use Rattle.sc_pool.specs.SetUps.{FailsIn, IsSetUpBy, MakesPart, commands_in, with_entries}
use Rattle.sc_pool.specs.Sharing.{IsCalm, Adds, Fails, GoesOn, IsDoubted, IsWhy, Seen}
use Rattle.sc_pool.proofs.PoolLemmas.{goes_first, goes_then, is_true, rose_sooner, some_not_none, true_is}
use Rattle.sc_pool.proofs.ServingLemmas.{all_served-append, commands_of-append, no_step, steps-append, steps-none, with_first}

-- ---- entries of client 0

pub and_parts : (a b : Bool) → (a && b) ≡ true → (a ≡ true) × (b ≡ true)
and_parts true b e = (refl, e)
and_parts false b e = absurd (cc)

and_both : (a b : Bool) → a ≡ true → b ≡ true → (a && b) ≡ true
and_both a b is too = ap (λ x. x && b) is ∙ too

or_parts : (a b : Bool) → (a || b) ≡ false → (a ≡ false) × (b ≡ false)
or_parts false b e = (refl, e)
or_parts true b e = absurd (cc)

and_false : (a : Bool) → (a && false) ≡ false
and_false true = refl
and_false false = refl

other_of : (n : ℕ) (who : Who) → is_of (Client 0) who ≡ true → is_of (Client (suc n)) who ≡ false
other_of n Worker is = absurd (cc)
other_of n (Client m) is = grind (arith, nat_tests, is)

not_later : (who : Who) → is_of (Client 0) who ≡ true → is_later who ≡ false
not_later Worker is = absurd (cc)
not_later (Client n) is =
    let same : (n == 0) ≡ true = grind (arith, nat_tests, is) in
    ap (λ b. not b) same

served_too : (who : Who) (c : Command) (reply : Reply) → is_of (Client 0) who ≡ true → served_by who c reply ≡ true
served_too Worker c reply is = absurd (cc)
served_too (Client n) c reply is = refl

-- their commands are those of client 0, and of no other
pub own_commands : (es : List Entry) → list_all is_setup es ≡ true → commands_of (Client 0) es ≡ commands_in es
own_commands [] all = refl
own_commands (e ∷ es) all =
    let parts = and_parts (is_setup e) (list_all is_setup es) all in
    ap (with_first (Client 0) e es) parts.0 ∙ ap (λ cs. e.command ∷ cs) (own_commands es parts.1)

pub no_others : (n : ℕ) (es : List Entry) → list_all is_setup es ≡ true → commands_of (Client (suc n)) es ≡ []
no_others n [] all = refl
no_others n (e ∷ es) all =
    let parts = and_parts (is_setup e) (list_all is_setup es) all in
    ap (with_first (Client (suc n)) e es) (other_of n e.who parts.0) ∙ no_others n es parts.1

all_served : (es : List Entry) → list_all is_setup es ≡ true → list_all is_served es ≡ true
all_served [] all = refl
all_served (e ∷ es) all =
    let parts = and_parts (is_setup e) (list_all is_setup es) all in
    and_both (is_served e) (list_all is_served es) (served_too e.who e.command e.reply parts.0) (all_served es parts.1)

none_later : (es : List Entry) → list_all is_setup es ≡ true → list_any is_of_later es ≡ false
none_later [] all = refl
none_later (e ∷ es) all =
    let parts = and_parts (is_setup e) (list_all is_setup es) all in
    ap (λ b. b || list_any is_of_later es) (not_later e.who parts.0) ∙ none_later es parts.1

-- none of them is an accepted step
no_accepted : (es : List Entry) → AllByRecursion IsNoStep (commands_in es) → accepted_steps es ≡ 0
no_accepted [] all = refl
no_accepted (e ∷ es) all =
    let none = steps-none [] e (no_step e.command e.reply all.0) in
    omega (arith, steps-append (e ∷ []) es, none, no_accepted es all.1)

-- ---- entries without any of client 0

none_setup : (es : List Entry) → commands_of (Client 0) es ≡ [] → list_any is_setup es ≡ false
none_setup [] none = refl
none_setup (e ∷ es) none = by (is_setup e) none (none_setup es)
  where
    by : (b : Bool) → with_first (Client 0) e es b ≡ [] → (commands_of (Client 0) es ≡ [] → list_any is_setup es ≡ false)
        → (b || list_any is_setup es) ≡ false
    by true is rest = absurd (cc)
    by false is rest = rest is

first_without : (es : List Entry) → list_any is_setup es ≡ false → is_setup_first es ≡ true
first_without [] none = refl
first_without (e ∷ es) none =
    let parts = or_parts (is_setup e) (list_any is_setup es) none in
    and_both (not (is_of_later e && list_any is_setup es)) (is_setup_first es)
    (ap (λ b. not (is_of_later e && b)) parts.1 ∙ ap (λ b. not b) (and_false (is_of_later e)))
    (first_without es parts.1)

-- the set-up comes first
setup_first : (es fresh : List Entry) → list_all is_setup es ≡ true → is_setup_first fresh ≡ true → is_setup_first (es ++ fresh) ≡ true
setup_first [] fresh all first = first
setup_first (e ∷ es) fresh all first =
    let parts = and_parts (is_setup e) (list_all is_setup es) all in
    and_both (not (is_of_later e && list_any is_setup (es ++ fresh))) (is_setup_first (es ++ fresh))
    (ap (λ b. not (b && list_any is_setup (es ++ fresh))) (not_later e.who parts.0))
    (setup_first es fresh parts.1 first)

-- ---- the script is served

-- What the entries behind a set-up have: no command of client 0, and all are served.
pub record FollowsSetUp (fresh : List Entry) : Type 0 where
  pub setup : commands_of (Client 0) fresh ≡ []
  pub served : IsTrue (list_all is_served fresh)

-- the commands of client 0 are those of the set-up
setup_of : (es fresh : List Entry) → list_all is_setup es ≡ true → commands_of (Client 0) fresh ≡ []
    → commands_of (Client 0) (es ++ fresh) ≡ commands_in es
setup_of es fresh all none =
    commands_of-append (Client 0) es fresh ∙ ap (λ cs. commands_of (Client 0) es ++ cs) none
    ∙ append-nil (commands_of (Client 0) es) ∙ own_commands es all

-- and those of the others are theirs behind it
behind : (n : ℕ) (es fresh : List Entry) → list_all is_setup es ≡ true
    → commands_of (Client (suc n)) (es ++ fresh) ≡ commands_of (Client (suc n)) fresh
behind n es fresh all =
    commands_of-append (Client (suc n)) es fresh ∙ ap (λ cs. cs ++ commands_of (Client (suc n)) fresh) (no_others n es all)

set_first : (es fresh : List Entry) → list_all is_setup es ≡ true → FollowsSetUp fresh → IsTrue (is_setup_first (es ++ fresh))
set_first es fresh all follows =
    true_is (setup_first es fresh all (first_without fresh (none_setup fresh follows.setup)))

all_are_served : (es fresh : List Entry) → list_all is_setup es ≡ true → FollowsSetUp fresh → IsTrue (list_all is_served (es ++ fresh))
all_are_served es fresh all follows =
    true_is (all_served-append es fresh
    ∙ and_both (list_all is_served es) (list_all is_served fresh) (all_served es all) (is_true follows.served))

pub serves : (s : Script) (es fresh : List Entry) → list_all is_setup es ≡ true → s.setup ≡ commands_in es → FollowsSetUp fresh
    → ((n : ℕ) → commands_of (Client (suc n)) fresh ≡ script_of s.clients n) → Serves s (es ++ fresh)
serves s es fresh all whole follows lists = record {
  lists = by;
  setup = set_first es fresh all follows;
  others = all_are_served es fresh all follows;
}
  where
    by : (n : ℕ) → commands_of (Client n) (es ++ fresh) ≡ list_of s n
    by zero = setup_of es fresh all follows.setup ∙ sym whole
    by (suc n) = behind n es fresh all ∙ lists n

pub serves_in_part : (s : Script) (es fresh : List Entry) → list_all is_setup es ≡ true → s.setup ≡ commands_in es
    → FollowsSetUp fresh → ((n : ℕ) → IsPrefix (commands_of (Client (suc n)) fresh) (script_of s.clients n))
    → ServesInPart s (es ++ fresh)
serves_in_part s es fresh all whole follows lists = record {
  lists = by;
  setup_whole = λ _. setup_of es fresh all follows.setup ∙ sym whole;
  setup = set_first es fresh all follows;
  others = all_are_served es fresh all follows;
}
  where
    by : (n : ℕ) → IsPrefix (commands_of (Client n) (es ++ fresh)) (list_of s n)
    by zero =
        let is = setup_of es fresh all follows.setup ∙ sym whole in
        record { rest = []; whole = sym (append-nil (commands_of (Client 0) (es ++ fresh)) ∙ is) }
    by (suc n) = subst (λ cs. IsPrefix cs (script_of s.clients n)) (sym (behind n es fresh all)) (lists n)

-- a set-up that was cut
pub serves_cut : (s : Script) (es : List Entry) (left : List Command) → list_all is_setup es ≡ true
    → s.setup ≡ commands_in es ++ left → ServesInPart s es
serves_cut s es left all whole = record {
  lists = by;
  setup_whole = λ later. absurd (never (is_true later) (none_later es all));
  setup = subst (λ xs. IsTrue (is_setup_first xs)) (append-nil es) (set_first es [] all (record { setup = refl; served = true_is refl }));
  others = true_is (all_served es all);
}
  where
    never : list_any is_of_later es ≡ true → list_any is_of_later es ≡ false → ⊥
    never is not_is = (let clash : true ≡ false = sym is ∙ not_is in absurd (cc))

    by : (n : ℕ) → IsPrefix (commands_of (Client n) es) (list_of s n)
    by zero = record { rest = left; whole = whole ∙ ap (λ cs. cs ++ left) (sym (own_commands es all)) }
    by (suc n) = record { rest = script_of s.clients n; whole = ap (λ cs. cs ++ script_of s.clients n) (sym (no_others n es all)) }

-- ---- a set-up that was made, command by command

pub nothing_set_up : (commands : List Command) (seen : Seen) → MakesPart commands commands seen seen
nothing_set_up commands seen = record {
  fresh = [];
  whole = refl;
  makes = record {
    entries = sym (append-nil seen.entries);
    by = true_is refl;
    calm = record { doubts = refl; faults = refl };
    goes_on = goes_first seen;
  };
}

commands_in-append : (xs ys : List Entry) → commands_in (xs ++ ys) ≡ commands_in xs ++ commands_in ys
commands_in-append [] ys = refl
commands_in-append (x ∷ xs) ys = ap (λ cs. x.command ∷ cs) (commands_in-append xs ys)

all_setup-more : (xs : List Entry) (e : Entry) → list_all is_setup xs ≡ true → is_setup e ≡ true → list_all is_setup (xs ++ e ∷ []) ≡ true
all_setup-more [] e all one = and_both (is_setup e) true one refl
all_setup-more (x ∷ xs) e all one =
    let parts = and_parts (is_setup x) (list_all is_setup xs) all in
    and_both (is_setup x) (list_all is_setup (xs ++ e ∷ [])) parts.0 (all_setup-more xs e parts.1 one)

-- one command more
pub more_set_up : (commands : List Command) (c : Command) (rest : List Command) (old between new : Seen)
    → MakesPart commands (c ∷ rest) old between → Adds (Client 0) c between new → GoesOn between new
    → MakesPart commands rest old new
more_set_up commands c rest old between new p a goes =
    let e = a.entry in record {
      fresh = p.fresh ++ e ∷ [];
      whole = p.whole ∙ sym (append_assoc (commands_in p.fresh) (c ∷ []) rest)
          ∙ ap (λ x. (commands_in p.fresh ++ x ∷ []) ++ rest) (sym a.command)
          ∙ ap (λ cs. cs ++ rest) (sym (commands_in-append p.fresh (e ∷ [])));
      makes = record {
        entries = a.entries ∙ ap (λ (es : List Entry). es ++ e ∷ []) p.makes.entries ∙ append_assoc old.entries p.fresh (e ∷ []);
        by = true_is (all_setup-more p.fresh e (is_true p.makes.by) (ap (is_of (Client 0)) a.by));
        calm = record { doubts = a.calm.doubts ∙ p.makes.calm.doubts; faults = a.calm.faults ∙ p.makes.calm.faults };
        goes_on = goes_then old between new p.makes.goes_on goes;
      };
    }

why_after : (by : Who) (c : Command) (fault : CallFault) (old between new : Seen) (fresh : List Entry) → IsSetUpBy fresh old between
    → IsWhy by c fault between new → IsWhy by c fault (with_entries old fresh) new
why_after by c Disk old between new fresh p why = (
  rose_sooner old.faults between.faults new.faults p.goes_on.later why.0,
  elim why.1 [
    | inl same ↦ inl (same ∙ p.calm.doubts)
    | inr d ↦ inr (record {
      doubt = d.doubt;
      doubts = d.doubts ∙ ap (λ (ds : List Doubt). ds ++ d.doubt ∷ []) p.calm.doubts;
      by = d.by;
      command = d.command;
      before = d.before ∙ ap (λ (es : List Entry). length es) p.entries;
      accepted = λ past stands. ap (λ (es : List Entry). is_accepted (answer (replay (opening past) es) c).reply) (sym p.entries)
          ∙ d.accepted past (p.goes_on.kept past stands);
    })
  ],
)
why_after by c Full old between new fresh p why = (why.0, why.1 ∙ p.calm.doubts)
why_after by c NoMemory old between new fresh p why = why ∙ p.calm.doubts

-- the next command met a fault
pub cut_set_up : (commands : List Command) (c : Command) (rest : List Command) (fault : CallFault) (old between new : Seen)
    → MakesPart commands (c ∷ rest) old between → Fails (Client 0) c fault between new → GoesOn between new
    → FailsIn commands fault old new
cut_set_up commands c rest fault old between new p f goes = record {
  fresh = p.fresh;
  next = c;
  rest = rest;
  whole = p.whole;
  by = p.makes.by;
  fails = record {
    entries = f.entries ∙ p.makes.entries;
    why = why_after (Client 0) c fault old between new p.fresh p.makes f.why;
    faults = λ other. f.faults other ∙ p.makes.calm.faults;
  };
  goes_on = goes_then old between new p.makes.goes_on goes;
}

-- ---- what the jobs leave

no_step_part : (xs ys : List Command) → AllByRecursion IsNoStep (xs ++ ys) → AllByRecursion IsNoStep xs
no_step_part [] ys all = tt
no_step_part (x ∷ xs) ys all = (all.0, no_step_part xs ys all.1)

-- the set-up makes no accepted step
pub steps_after : (commands left : List Command) (old new : Seen) (fresh : List Entry) → AllByRecursion IsNoStep commands
    → commands ≡ commands_in fresh ++ left → new.entries ≡ old.entries ++ fresh
    → accepted_steps new.entries ≡ accepted_steps old.entries
steps_after commands left old new fresh all whole entries =
    let none = no_accepted fresh (no_step_part (commands_in fresh) left (subst (AllByRecursion IsNoStep) whole all)) in
    omega (arith, ap accepted_steps entries, steps-append old.entries fresh, none)

-- What came next of the clients and workers came next in the script.
came_next : (s : Script) (budget : ℕ) (old between : Seen) (es fresh : List Entry) (d : Doubt) → s.setup ≡ commands_in es
    → commands_of (Client 0) fresh ≡ [] → IsSetUpBy es old between → IsPlaced (planned s.clients budget between) fresh d
    → CameNext s old (es ++ fresh) d
came_next s budget old between es fresh d whole none p placed =
    record {
      front = es ++ placed.front;
      rest = placed.rest;
      whole = ap (λ (xs : List Entry). es ++ xs) placed.whole ∙ sym (append_assoc es placed.front placed.rest);
      before =
          omega (arith, placed.before, ap (λ (xs : List Entry). length xs) p.entries, length-append old.entries es, length-append es placed.front);
      next = next_of d.who d.command placed.next;
      accepted = λ past stands.
          ap (λ (xs : List Entry). is_accepted (answer (replay (opening past) xs) d.command).reply)
          (sym (append_assoc old.entries es placed.front) ∙ ap (λ (xs : List Entry). xs ++ placed.front) (sym p.entries))
          ∙ placed.accepted past (p.goes_on.kept past stands);
    }
  where
    all : list_all is_setup es ≡ true
    all = is_true p.by

    front_none : commands_of (Client 0) placed.front ≡ []
    front_none = front_of (commands_of (Client 0) placed.front) (commands_of (Client 0) placed.rest)
        (sym (commands_of-append (Client 0) placed.front placed.rest) ∙ ap (commands_of (Client 0)) (sym placed.whole) ∙ none)
      where
        front_of : (xs ys : List Command) → xs ++ ys ≡ [] → xs ≡ []
        front_of [] ys is = refl
        front_of (x ∷ xs) ys is = absurd (cc)

    next_of : (who : Who) (c : Command) → ComesNext s.clients placed.front who c → IsNext s (es ++ placed.front) who c
    next_of Worker (command.Step session) next = tt
    next_of Worker (command.Install name text) next = absurd next
    next_of Worker (command.Start session chart) next = absurd next
    next_of Worker (command.Post session event pairs) next = absurd next
    next_of Worker (command.Tick ticks) next = absurd next
    next_of Worker (command.Cancel session) next = absurd next
    next_of (Client n) c next =
        let place = next.0 in
        let P : ℕ → Type 0 = λ m. IsNextOf s (es ++ placed.front) m c in
        let Q : ℕ → Type 0 = λ m. IsPrefix (commands_of (Client m) placed.front ++ c ∷ []) (script_of s.clients place) in
        let own : IsPrefix (commands_of (Client (suc place)) placed.front ++ c ∷ []) (script_of s.clients place) =
        subst Q (omega (arith, next.1)) next.2 in
        subst P (omega (arith, next.1)) (record {
          list = subst (λ cs. IsPrefix (cs ++ c ∷ []) (script_of s.clients place)) (sym (behind place es placed.front all)) own;
          setup_whole = λ _. setup_of es placed.front all front_none ∙ sym whole;
        })

all_came_next : (s : Script) (budget : ℕ) (old between : Seen) (es fresh : List Entry) (ds : List Doubt) → s.setup ≡ commands_in es
    → commands_of (Client 0) fresh ≡ [] → IsSetUpBy es old between
    → AllByRecursion (IsPlaced (planned s.clients budget between) fresh) ds → AllByRecursion (CameNext s old (es ++ fresh)) ds
all_came_next s budget old between es fresh [] whole none p all = tt
all_came_next s budget old between es fresh (d ∷ ds) whole none p all =
    (came_next s budget old between es fresh d whole none p all.0, all_came_next s budget old between es fresh ds whole none p all.1)

shown_too : (a b c : Seen) (worst : Option CallFault) → GoesOn a b → IsShown b c worst → IsShown a c worst
shown_too a b c None goes shown = tt
shown_too a b c (Some Disk) goes shown = rose_sooner a.faults b.faults c.faults goes.later shown
shown_too a b c (Some Full) goes shown = shown
shown_too a b c (Some NoMemory) goes shown = tt

-- the set-up was made, and then the jobs ran
pub ran_script : (s : Script) (budget : ℕ) (old between now : Seen) (worst : Option CallFault)
    → MakesPart s.setup [] old between → Finished (planned s.clients budget between) now worst → Ran s budget old now worst
ran_script s budget old between now worst m f =
    let p = m.makes in
    let es = m.fresh in
    let whole : s.setup ≡ commands_in es = m.whole ∙ append-nil (commands_in es) in
    let follows : FollowsSetUp f.fresh = record { setup = f.setup; served = f.served } in
    let part : (n : ℕ) → IsPrefix (commands_of (Client (suc n)) f.fresh) (script_of s.clients n) =
    λ n. subst (λ k. IsPrefix (commands_of (Client k) f.fresh) (script_of s.clients n)) (omega arith) (f.lists n) in
    record {
      fresh = es ++ f.fresh;
      begins = f.begins ∙ ap (λ (xs : List Entry). xs ++ f.fresh) p.entries ∙ append_assoc old.entries es f.fresh;
      served = serves_in_part s es f.fresh (is_true p.by) whole follows part;
      within = f.within;
      doubtful = f.doubtful;
      doubts = f.doubts ∙ ap (λ (ds : List Doubt). ds ++ f.doubtful) p.calm.doubts;
      came_next = all_came_next s budget old between es f.fresh f.doubtful whole f.setup p f.placed;
      goes_on = goes_then old between now p.goes_on f.goes_on;
      shown = shown_too old between now worst p.goes_on f.shown;
      whole = λ none. serves s es f.fresh (is_true p.by) whole follows
          (λ n. subst (λ k. commands_of (Client k) f.fresh ≡ script_of s.clients n) (omega arith) (f.whole none n));
      spent = f.spent;
      sure = λ low. record { doubts = (f.sure low).doubts ∙ p.calm.doubts; faults = (f.sure low).faults ∙ p.calm.faults };
    }

-- What a fault in the set-up leaves in doubt.
record LeftInDoubt (s : Script) (old now : Seen) (fresh : List Entry) : Type 0 where
  doubtful : List Doubt
  doubts : now.doubts ≡ old.doubts ++ doubtful
  came_next : AllByRecursion (CameNext s old fresh) doubtful

doubted_first : (s : Script) (old now : Seen) (fresh : List Entry) (c : Command) (rest : List Command) → list_all is_setup fresh ≡ true
    → s.setup ≡ commands_in fresh ++ c ∷ rest → (d : IsDoubted (Client 0) c (with_entries old fresh) now)
    → CameNext s old fresh d.doubt
doubted_first s old now fresh c rest all whole d = record {
  front = fresh;
  rest = [];
  whole = sym (append-nil fresh);
  before = d.before ∙ length-append old.entries fresh;
  next = (let P : Who → Type 0 = λ w. IsNext s fresh w d.doubt.command in
      let Q : Command → Type 0 = λ x. IsNextOf s fresh 0 x in
      subst P (sym d.by) (subst Q (sym d.command) (record {
        list = record {
          rest = rest;
          whole = whole ∙ sym (append_assoc (commands_in fresh) (c ∷ []) rest)
              ∙ ap (λ cs. (cs ++ c ∷ []) ++ rest) (sym (own_commands fresh all));
        };
        setup_whole = λ other. absurd (other refl);
      })));
  accepted = λ past stands.
      ap (λ x. is_accepted (answer (replay (opening past) (old.entries ++ fresh)) x).reply) d.command ∙ d.accepted past stands;
}

left_in_doubt : (s : Script) (old now : Seen) (fresh : List Entry) (c : Command) (rest : List Command) (fault : CallFault)
    → list_all is_setup fresh ≡ true → s.setup ≡ commands_in fresh ++ c ∷ rest
    → IsWhy (Client 0) c fault (with_entries old fresh) now → LeftInDoubt s old now fresh
left_in_doubt s old now fresh c rest fault all whole why = by fault why
  where
    none : now.doubts ≡ old.doubts → LeftInDoubt s old now fresh
    none same = record { doubtful = []; doubts = same ∙ sym (append-nil old.doubts); came_next = tt }

    by : (f : CallFault) → IsWhy (Client 0) c f (with_entries old fresh) now → LeftInDoubt s old now fresh
    by Disk w = elim w.1 [
      | inl same ↦ none same
      | inr d ↦ record {
        doubtful = d.doubt ∷ [];
        doubts = d.doubts;
        came_next = (doubted_first s old now fresh c rest all whole d, tt);
      }
    ]
    by Full w = none w.1
    by NoMemory w = none w

shown_first : (old now : Seen) (c : Command) (fresh : List Entry) (fault : CallFault)
    → IsWhy (Client 0) c fault (with_entries old fresh) now → IsShown old now (Some fault)
shown_first old now c fresh Disk why = why.0
shown_first old now c fresh Full why = why.0
shown_first old now c fresh NoMemory why = tt

sure_first : (old now : Seen) (c : Command) (fresh : List Entry) (fault : CallFault)
    → IsWhy (Client 0) c fault (with_entries old fresh) now → (fault ≢ Disk → now.faults ≡ old.faults) → rank_of (Some fault) ≤ 1
    → IsCalm old now
sure_first old now c fresh Disk why fine low = absurd (omega (arith, low))
sure_first old now c fresh Full why fine low = record { doubts = why.1; faults = fine (λ e. absurd (cc)) }
sure_first old now c fresh NoMemory why fine low = absurd (omega (arith, low))

-- the set-up met a fault
pub ran_cut : (s : Script) (budget : ℕ) (old now : Seen) (fault : CallFault) → HasNoStep s → accepted_steps old.entries ≤ budget
    → FailsIn s.setup fault old now → Ran s budget old now (Some fault)
ran_cut s budget old now fault without within f =
    let all = is_true f.by in
    let left = left_in_doubt s old now f.fresh f.next f.rest fault all f.whole f.fails.why in
    record {
      fresh = f.fresh;
      begins = f.fails.entries;
      served = serves_cut s f.fresh (f.next ∷ f.rest) all f.whole;
      within = omega (arith, within, steps_after s.setup (f.next ∷ f.rest) old now f.fresh without.setup f.whole f.fails.entries);
      doubtful = left.doubtful;
      doubts = left.doubts;
      came_next = left.came_next;
      goes_on = f.goes_on;
      shown = shown_first old now f.next f.fresh fault f.fails.why;
      whole = λ none. absurd (some_not_none fault none);
      spent = λ none. absurd (some_not_none fault none);
      sure = sure_first old now f.next f.fresh fault f.fails.why f.fails.faults;
    }

-- nothing was made, for want of memory
pub ran_nothing : (s : Script) (budget : ℕ) (old : Seen) → accepted_steps old.entries ≤ budget → Ran s budget old old (Some NoMemory)
ran_nothing s budget old within = record {
  fresh = [];
  begins = sym (append-nil old.entries);
  served = serves_cut s [] s.setup refl refl;
  within = within;
  doubtful = [];
  doubts = sym (append-nil old.doubts);
  came_next = tt;
  goes_on = goes_first old;
  shown = tt;
  whole = λ none. absurd (some_not_none NoMemory none);
  spent = λ none. absurd (some_not_none NoMemory none);
  sure = λ low. absurd (omega (arith, low));
}
