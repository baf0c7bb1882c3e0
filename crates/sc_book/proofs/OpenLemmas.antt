-- How the bodies of a journal become a host, one after another.
use Rattle.std.proofs.Common.{◌≡◌, ◌≢◌, ◌∙◌, ℕ, ◌+◌, ◌-◌, ◌^◌, ◌<◌, ◌≤◌, true, false, Option, None, Result, Ok, Err, IfOk, IfErr, List, [], ◌∷◌, ◌++◌, length, drop, refl, sym, ap, subst, arith, append_assoc, length-append}
use Rattle.std.proofs.lemmas.List.{append-nil}
use Rattle.std.specs.Result.{MatchResult}
use Rattle.sc_book.specs.Images.{Spell, StandsFor}
use Rattle.sc_book.specs.Openings.{HasOtherFirst, IsBadAt, IsFirstBad, IsOpened, IsRedone, IsReplayed, NamesNoPlace}
use Rattle.sc_book.proofs.BookLemmas.{begun, length_spell, spell_push, stands}
use Rattle.sc_book.specs.Books.{IsBook}
use Rattle.sc_book.specs.Keeping.{book_of}
use Rattle.sc_book.specs.declared.fault.OpenFault.{OpenFault}
use Rattle.sc_book.specs.declared.fault.OpenFault.TheVariants.{Disk, Damaged, BadEntry, NoMemory}
use Rattle.sc_book.specs.declared.log.Log.{Log}
use Rattle.sc_book.proofs.AnswerLemmas.{same_book}
use Rattle.sc_codec.proofs.Commands.{one_command}
use Rattle.sc_machine.specs.Accepted.{AreAccepted, after, is_accepted}
use Rattle.sc_machine.specs.Commands.{answer}
use Rattle.sc_machine.specs.Hosts.{empty_host}
use Rattle.sc_core.specs.HostStates.{HostOf}
use Rattle.sc_dev.specs.Disks.{DiskLaw, DiskOf}
use Rattle.sc_journal.specs.Journals.{JournalOf, Keeps, StandsAt}
use Rattle.sc_journal.specs.Texts.{HeadOf, Holds}
use Rattle.sc_machine.proofs.AcceptedLemmas.{accepted_more, after_append, after_counts}
use Rattle.sc_rooms.specs.Rooms.{PlacesOf}
use Rattle.sc_types.specs.declared.command.Command.{Command}
use Rattle.sc_types.specs.declared.host.HostImage.{HostImage}

-- what holds of either answer holds of the result
pub both_ways : {A E : Type 0} (r : Result A E) (P : A → Type 0) (Q : E → Type 0) → IfOk r P → IfErr r Q → MatchResult r P Q
both_ways (Ok a) P Q ok err = ok
both_ways (Err e) P Q ok err = err

pub ok_more : {A E : Type 0} (r : Result A E) (P Q : A → Type 0) → ((a : A) → P a → Q a) → IfOk r P → IfOk r Q
ok_more (Ok a) P Q more ok = more a ok
ok_more (Err e) P Q more ok = tt

pub ok_both : {A E : Type 0} (r : Result A E) (P Q R : A → Type 0) → ((a : A) → P a → Q a → R a) → IfOk r P → IfOk r Q
    → IfOk r R
ok_both (Ok a) P Q R more one two = more a one two
ok_both (Err e) P Q R more one two = tt

pub err_more : {A E : Type 0} (r : Result A E) (P Q : E → Type 0) → ((e : E) → P e → Q e) → IfErr r P → IfErr r Q
err_more (Ok a) P Q more err = tt
err_more (Err e) P Q more err = more e err

pub err_both : {A E : Type 0} (r : Result A E) (P Q R : E → Type 0) → ((e : E) → P e → Q e → R e) → IfErr r P → IfErr r Q
    → IfErr r R
err_both (Ok a) P Q R more one two = tt
err_both (Err e) P Q R more one two = more e one two

-- the host counts the commands that were made
pub replayed_counts : (bodies : List (List ℕ)) (h : HostImage) → IsReplayed bodies h → h.commands ≡ length bodies
replayed_counts bodies h r =
    let same : h.commands ≡ (after empty_host r.commands).commands = ap (λ (g : HostImage). g.commands) r.host in
    omega (arith, same, after_counts empty_host r.commands r.accepted, length_spell bodies r.commands r.spell)

-- Of some bodies these are left, and this is the host after those before them; the next has this number.
pub record IsReplaying (bodies left : List (List ℕ)) (number : ℕ) (h : HostImage) : Type 0 where
  pub made : List (List ℕ)
  pub whole : bodies ≡ made ++ left
  pub replayed : IsReplayed made h
  pub counted : number ≡ length made + 1

-- none yet
pub replaying_none : (bodies : List (List ℕ)) (h : HostImage) → h ≡ empty_host → IsReplaying bodies bodies 1 h
replaying_none bodies h empty = record {
  made = [];
  whole = refl;
  replayed = record { commands = []; spell = tt; accepted = tt; host = empty };
  counted = refl;
}

-- the next body
pub replaying_more : (bodies left : List (List ℕ)) (number : ℕ) (g h : HostImage) (body : List ℕ)
    → IsReplaying bodies left number g → left ≡ body ∷ drop 1 left → IsRedone g body h
    → IsReplaying bodies (drop 1 left) (number + 1) h
replaying_more bodies left number g h body r at x = record {
  made = r.made ++ body ∷ [];
  whole = r.whole ∙ ap (λ (bs : List (List ℕ)). r.made ++ bs) at ∙ sym (append_assoc r.made (body ∷ []) (drop 1 left));
  replayed = record {
    commands = r.replayed.commands ++ x.command ∷ [];
    spell = spell_push r.made r.replayed.commands body x.command r.replayed.spell x.spells;
    accepted = accepted_more empty_host r.replayed.commands (x.command ∷ []) r.replayed.accepted
        (sym (ap (λ (k : HostImage). is_accepted (answer k x.command).reply) r.replayed.host) ∙ x.made.accepted, tt);
    host = x.made.host ∙ ap (λ (k : HostImage). (answer k x.command).host) r.replayed.host
        ∙ sym (after_append empty_host r.replayed.commands (x.command ∷ []));
  };
  counted = omega (arith, r.counted, length-append r.made (body ∷ []));
}

-- the last was made
pub replaying_all : (bodies left : List (List ℕ)) (number : ℕ) (h : HostImage) → IsReplaying bodies left number h → left ≡ []
    → IsReplayed bodies h
replaying_all bodies left number h r none =
    let all : r.made ≡ bodies =
    sym (append-nil r.made) ∙ ap (λ (bs : List (List ℕ)). r.made ++ bs) (sym none) ∙ sym r.whole in
    subst (λ (bs : List (List ℕ)). IsReplayed bs h) all r.replayed

-- how many were made so far
pub replaying_few : (bodies left : List (List ℕ)) (number : ℕ) (h : HostImage) → IsReplaying bodies left number h
    → (h.commands ≤ length bodies) × (number ≤ length bodies + 1)
replaying_few bodies left number h r =
    let count = replayed_counts r.made h r.replayed in
    let all = ap length r.whole in
    let both = length-append r.made left in
    (omega (arith, count, all, both), omega (arith, r.counted, all, both))

-- a body that spells no command which the host accepts, behind those that do
pub first_bad : (bodies left : List (List ℕ)) (number n : ℕ) (g : HostImage) (body : List ℕ)
    → IsReplaying bodies left number g → left ≡ body ∷ drop 1 left → IsBadAt g body → n ≡ number → IsFirstBad bodies n
first_bad bodies left number n g body r at bad is = record {
  good = r.made;
  commands = r.replayed.commands;
  bad = body;
  rest = drop 1 left;
  whole = r.whole ∙ ap (λ (bs : List (List ℕ)). r.made ++ bs) at;
  spell = r.replayed.spell;
  accepted = r.replayed.accepted;
  is_bad = subst (λ (k : HostImage). IsBadAt k body) r.replayed.host bad;
  number = is ∙ r.counted;
}

-- bodies spell no other commands
pub same_commands : (bodies : List (List ℕ)) (cs ds : List Command) → Spell bodies cs → Spell bodies ds → ds ≡ cs
same_commands [] [] [] one other = refl
same_commands [] [] (d ∷ ds) one other = absurd other
same_commands [] (c ∷ cs) ds one other = absurd one
same_commands (b ∷ bs) [] ds one other = absurd one
same_commands (b ∷ bs) (c ∷ cs) [] one other = absurd other
same_commands (b ∷ bs) (c ∷ cs) (d ∷ ds) one other =
    λ k. one_command b c d one.0 other.0 k ∷ same_commands bs cs ds one.1 other.1 k

-- where each body spells a command that the host accepts, none is bad
never_bad : (good : List (List ℕ)) (ms : List Command) (bad : List ℕ) (rest : List (List ℕ)) (g : HostImage)
    (cs : List Command) → Spell (good ++ bad ∷ rest) cs → AreAccepted g cs → Spell good ms → IsBadAt (after g ms) bad → ⊥
never_bad [] [] bad rest g [] spell are some is = absurd spell
never_bad [] [] bad rest g (c ∷ cs) spell are some is =
    let both : true ≡ false = sym are.0 ∙ is c spell.0 in absurd (cc)
never_bad [] (m ∷ ms) bad rest g cs spell are some is = absurd some
never_bad (b ∷ bs) [] bad rest g cs spell are some is = absurd some
never_bad (b ∷ bs) (m ∷ ms) bad rest g [] spell are some is = absurd spell
never_bad (b ∷ bs) (m ∷ ms) bad rest g (c ∷ cs) spell are some is =
    let same : c ≡ m = one_command b m c some.0 spell.0 in
    never_bad bs ms bad rest (answer g c).host cs spell.1 are.1 some.1
    (subst (λ (x : Command). IsBadAt (after (answer g x).host ms) bad) (sym same) is)

pub none_bad : (bodies : List (List ℕ)) (cs : List Command) (n : ℕ) → Spell bodies cs → AreAccepted empty_host cs
    → IsFirstBad bodies n → ⊥
none_bad bodies cs n spell are bad = never_bad bad.good bad.commands bad.bad bad.rest empty_host cs
    (subst (λ (bs : List (List ℕ)). Spell bs cs) bad.whole spell) are bad.spell bad.is_bad

-- a fault that is neither of the two which name a place
pub no_place : (f : OpenFault) → ((at : ℕ) → f ≢ Damaged at) → ((n : ℕ) → f ≢ BadEntry n) → NamesNoPlace f
no_place Disk damaged bad = tt
no_place (Damaged at) damaged bad = absurd (damaged at refl)
no_place (BadEntry n) damaged bad = absurd (bad n refl)
no_place NoMemory damaged bad = tt

-- what an image stands for, by the commands from the empty host on
pub stands_accepted : (d : DiskOf) (n : ℕ) (g : HostImage) → (s : StandsFor d n g) → AreAccepted empty_host s.commands
stands_accepted d n g s = subst (λ (h : HostImage). AreAccepted h s.commands) s.is_base.empty s.accepted

pub stands_same : (d : DiskOf) (n opened : ℕ) (g h : HostImage) → (s : StandsFor d n g) → IsReplayed s.bodies h
    → opened ≡ length s.bodies → (opened ≡ n) × (h ≡ g)
stands_same d n opened g h s r long =
    let same : s.commands ≡ r.commands = same_commands s.bodies r.commands s.commands r.spell s.spell in
    let count = length_spell s.bodies s.commands s.spell in
    let first = s.is_base.first in (
      omega (arith, long, count, s.count, first),
      r.host ∙ ap (λ (cs : List Command). after empty_host cs) (sym same)
          ∙ ap (λ (k : HostImage). after k s.commands) (sym s.is_base.empty) ∙ sym s.host,
    )

module _ {D : Type 0} (law : DiskLaw D)
    (only_now : (disk : D) (d : DiskOf) → law.moment disk < 2 ^ 64 - 1 → law.may_have_left disk (law.moment disk) d → law.may_leave disk d) where
  -- a journal that was opened, and the host after its bodies
  pub begun_as : (bodies : List (List ℕ)) (h : HostOf) (n s first : ℕ) (log : Log) (q : PlacesOf) (j : JournalOf D)
      → IsReplayed bodies h.image → n ≡ length bodies → s ≡ law.moment j.disk → log.history.entries ≡ [] → log.moments.items ≡ []
      → log.doubts.items ≡ [] → q.places ≡ [] → j.doubt ≡ None → first ≡ 1 → j.next ≡ first + length bodies
      → (law.tells → Keeps law j (record { format = 1; first = first }) bodies)
      → IsOpened law (book_of h n s log q j)
  begun_as bodies h n s first log q j r long start history moments doubts claims none one next keeps =
      let count = length_spell bodies r.commands r.spell in
      let head : law.tells → Keeps law j (record { format = 1; first = 1 }) bodies =
      λ told. subst (λ k. Keeps law j (record { format = 1; first = k }) bodies) one (keeps told) in
      record {
        past = r.commands;
        book = subst (IsBook law r.commands) (same_book (record {
          host = after empty_host r.commands;
          opened = length r.commands;
          history = [];
          start = law.moment j.disk;
          moments = [];
          doubts = [];
          claims = [];
          journal = j;
        }) (book_of h n s log q j) r.host (long ∙ count) history start moments doubts claims refl)
            (begun law only_now r.commands bodies j r.accepted r.spell none
            (next ∙ ap (λ k. k + length bodies) one) head);
        history = history;
        doubts = doubts;
        claims = claims;
        start = start;
      }

  -- what is read of a journal whose first number is 1 stands for the host after its bodies
  pub reads_as : (j : JournalOf D) (reads : DiskOf) (first n : ℕ) (bodies : List (List ℕ)) (h : HostImage)
      → Keeps law j (record { format = 1; first = first }) bodies → j.doubt ≡ None → law.may_leave j.disk reads → first ≡ 1
      → IsReplayed bodies h → n ≡ length bodies → StandsFor reads n h
  reads_as j reads first n bodies h keeps none left one r long =
      let holds : Holds (record { format = 1; first = first }) bodies reads.journal =
      subst (λ (o : Option (List ℕ)). StandsAt o (record { format = 1; first = first }) bodies reads) none (keeps.images reads left) in
      stands reads bodies r.commands n h
      (subst (λ (k : ℕ). Holds (record { format = 1; first = k }) bodies reads.journal) one holds)
      r.spell r.accepted (long ∙ length_spell bodies r.commands r.spell) r.host

  -- the text of a journal whose first number is another than 1
  pub other_first : (j : JournalOf D) (reads : DiskOf) (head : HeadOf) (bodies : List (List ℕ)) → Keeps law j head bodies
      → j.doubt ≡ None → law.may_leave j.disk reads → head.first ≢ 1 → HasOtherFirst reads.journal
  other_first j reads head bodies keeps none stands other = record {
    head = head;
    bodies = bodies;
    holds = subst (λ (o : Option (List ℕ)). StandsAt o head bodies reads) none (keeps.images reads stands);
    other = other;
  }
