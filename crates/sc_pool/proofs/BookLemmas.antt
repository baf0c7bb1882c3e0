-- A book is a host that jobs may share.
use Rattle.std.proofs.Common.{◌≡◌, ◌≢◌, inl, inr, ℕ, zero, suc, ◌<◌, ◌≤◌, Bool, true, false, cond, ◌||◌, nat_le, Option, Some, List, [], ◌∷◌, length, find, slice_get, refl, sym, ap, ◌∙◌, subst, arith}
use Rattle.std.specs.List.{list_any, position_or_len}
use Rattle.std.specs.Option.{option_map_or}
use Rattle.std.specs.Str.{bytes_eq}
use Rattle.std.proofs.lemmas.Option.{same_Some}
use Rattle.std.proofs.lemmas.Slice.Eq.{bytes_eq-Decides}
use Rattle.sc_book.specs.Books.{BookOf, IsBook, IsSome, opening}
use Rattle.sc_book.specs.Claims.{step_at}
use Rattle.sc_book.specs.Receipts.{Acknowledges, Doubts, Grows, HasNoRoom, IsUnanswered, most_body}
use Rattle.sc_book.specs.declared.fault.CallFault.{CallFault}
use Rattle.sc_book.specs.declared.fault.CallFault.TheVariants.{Disk, Full, NoMemory}
use Rattle.sc_book.specs.declared.receipt.Receipt.{Receipt}
use Rattle.sc_book.proofs.ClaimLemmas.{found_at, found_ready, found_within}
use Rattle.sc_codec.specs.Bodies.{body_of}
use Rattle.sc_machine.specs.Accepted.{after, is_accepted, is_accepted_step}
use Rattle.sc_core.specs.Bodies.{cued}
use Rattle.sc_machine.specs.Commands.{Answer, answer}
use Rattle.sc_machine.specs.Cues.{cue_of, is_ready, name_of, ready}
use Rattle.sc_machine.specs.Histories.{replay}
use Rattle.sc_machine.specs.Hosts.{empty_host, is_session_named, session_named}
use Rattle.sc_machine.specs.Waiting.{name_at}
use Rattle.sc_machine.proofs.ChangeLemmas.{change_of}
use Rattle.sc_machine.proofs.NameLemmas.{AreDistinct, distinct_kept, has_cue, placed, ready_stepped, step_taken}
use Rattle.sc_dev.specs.Causes.{Rose}
use Rattle.sc_dev.specs.Disks.{DiskLaw, DiskOf}
use Rattle.sc_journal.specs.Journals.{IsFull}
use Rattle.sc_types.specs.declared.command.Command.{Command}
use Rattle.sc_types.specs.declared.command.Command.TheVariants.{Step}
use Rattle.sc_types.specs.declared.command.Reply.TheVariants.{Stepped}
use Rattle.sc_types.specs.declared.history.Entry.{Entry}
use Rattle.sc_types.specs.declared.history.Who.{Who}
use Rattle.sc_types.specs.declared.history.Who.TheVariants.{Worker}
use Rattle.sc_types.specs.declared.host.HostImage.{HostImage}
use Rattle.sc_types.specs.declared.host.SessionImage.{SessionImage}
use Rattle.sc_types.specs.declared.session.Cue.{Cue}
use Rattle.sc_types.specs.declared.session.CueName.{CueName}
use Rattle.sc_pool.specs.Books.{seen_of}
use Rattle.sc_pool.specs.Sharing.{Adds, AddsStep, Fails, FailsToStep, GoesOn, IsSame, IsWhy, Seen}

-- ---- each session has a name of its own

distinct_commands : (g : HostImage) (cs : List Command) → AreDistinct g.sessions → AreDistinct (after g cs).sessions
distinct_commands g [] distinct = distinct
distinct_commands g (c ∷ cs) distinct =
    distinct_commands (answer g c).host cs (distinct_kept g c (answer g c) (change_of g c) distinct)

distinct_history : (g : HostImage) (es : List Entry) → AreDistinct g.sessions → AreDistinct (replay g es).sessions
distinct_history g [] distinct = distinct
distinct_history g (e ∷ es) distinct =
    distinct_history (answer g e.command).host es (distinct_kept g e.command (answer g e.command) (change_of g e.command) distinct)

distinct_opening : (past : List Command) (es : List Entry) → AreDistinct (replay (opening past) es).sessions
distinct_opening past es = distinct_history (opening past) es (distinct_commands empty_host past tt)

other_name : (a b : List ℕ) → bytes_eq a b ≡ false → bytes_eq b a ≡ false
other_name a b h = by (bytes_eq b a) refl
  where
    by : (t : Bool) → bytes_eq b a ≡ t → t ≡ false
    by false e = refl
    by true e =
        let same = (bytes_eq-Decides b a).0 e in
        let yes = (bytes_eq-Decides a b).1 (sym same) in
        let clash : true ≡ false = sym yes ∙ h in
        absurd (cc)

-- a session that stands in a list without its name before is not the first of that name
not_first : (n : List ℕ) (xs : List SessionImage) (i : ℕ) (s : SessionImage) → list_any (is_session_named n) xs ≡ false
    → slice_get xs i ≡ Some s → bytes_eq s.state.session n ≡ false
not_first n [] i s none there = absurd (cc)
not_first n (x ∷ xs) zero s none there =
    ap (λ (y : SessionImage). bytes_eq y.state.session n) (sym (same_Some x s there))
    ∙ or_left (bytes_eq x.state.session n) (list_any (is_session_named n) xs) none
  where
    or_left : (a b : Bool) → (a || b) ≡ false → a ≡ false
    or_left false b e = refl
    or_left true b e = absurd (cc)
not_first n (x ∷ xs) (suc i) s none there =
    not_first n xs i s (or_right (bytes_eq x.state.session n) (list_any (is_session_named n) xs) none) there
  where
    or_right : (a b : Bool) → (a || b) ≡ false → b ≡ false
    or_right false b e = e
    or_right true b e = absurd (cc)

-- the session at a place is the one that its name finds
found_by_name : (xs : List SessionImage) (i : ℕ) (s : SessionImage) → AreDistinct xs → slice_get xs i ≡ Some s
    → find (is_session_named s.state.session) xs ≡ Some s
found_by_name [] i s distinct there = absurd (cc)
found_by_name (x ∷ xs) zero s distinct there =
    let same : x ≡ s = same_Some x s there in
    let named : bytes_eq x.state.session s.state.session ≡ true =
    (bytes_eq-Decides x.state.session s.state.session).1 (ap (λ (y : SessionImage). y.state.session) same) in
    ap (λ b. cond b (Some x) (find (is_session_named s.state.session) xs)) named ∙ ap (λ (y : SessionImage). Some y) same
found_by_name (x ∷ xs) (suc i) s distinct there =
    let other : bytes_eq x.state.session s.state.session ≡ false =
    other_name s.state.session x.state.session (not_first x.state.session xs i s distinct.0 there) in
    ap (λ b. cond b (Some x) (find (is_session_named s.state.session) xs)) other ∙ found_by_name xs i s distinct.1 there

-- ---- a ready session's step is accepted

-- the step of the session at a place is accepted
pub record IsStepped (g : HostImage) (c : Command) : Type 0 where
  pub name : List ℕ
  pub is : c ≡ Step name
  pub cue : CueName
  pub reply : (answer g (Step name)).reply ≡ Stepped cue

pub first_stepped : (g : HostImage) (name : List ℕ) (c : Command) → AreDistinct g.sessions → ready g ≡ Some name → c ≡ Step name → IsStepped g c
first_stepped g name c distinct is_ready is =
    let r = ready_stepped g name distinct is_ready in
    record { name = name; is = is; cue = name_of r.0; reply = r.1 }

stepped_reply : (g : HostImage) (name : List ℕ) (place : ℕ) (s : SessionImage) (cue : Cue) → session_named g name ≡ Some (place, s)
    → cue_of s ≡ Some cue → (answer g (Step name)).reply ≡ Stepped (name_of cue)
unfolding answer
stepped_reply g name place s cue found has = ap (λ (x : Answer). x.reply) (step_taken g name place s cue found has)

pub place_stepped : (g : HostImage) (place : ℕ) → AreDistinct g.sessions
    → Some place ≡ find (λ p. nat_le place p) (cued 0 g.sessions) → IsStepped g (step_at g place)
place_stepped g place distinct some =
    let found = found_ready (λ p. nat_le place p) 0 place g.sessions some in
    let s = found.session in
    let there = found_at (λ p. nat_le place p) place g.sessions found in
    let cue = has_cue (cue_of s) found.ready in
    let named = placed g s.state.session s (found_by_name g.sessions place s distinct there) in
    record {
      name = name_at g place;
      is = refl;
      cue = name_of cue.0;
      reply = ap (λ n. (answer g (Step n)).reply) (name_is there)
          ∙ stepped_reply g s.state.session (position_or_len (is_session_named s.state.session) g.sessions) s cue.0 named cue.1;
    }
  where
    name_is : {s : SessionImage} → slice_get g.sessions place ≡ Some s → name_at g place ≡ s.state.session
    name_is there = ap (λ (o : Option SessionImage). option_map_or (λ (s : SessionImage). s.state.session) o []) there

pub place_within : (g : HostImage) (place : ℕ) → Some place ≡ find (λ p. nat_le place p) (cued 0 g.sessions) → place < length g.sessions
place_within g place some = found_within (λ p. nat_le place p) place g.sessions some

-- what a look at the host of a book found, of that host
pub ready_place : (g h : HostImage) (place looked : ℕ) (found : Bool) → h ≡ g → looked ≡ place → found ≡ true
    → (found ≡ true → Some looked ≡ find (λ p. nat_le looked p) (cued 0 h.sessions))
    → Some place ≡ find (λ p. nat_le place p) (cued 0 g.sessions)
ready_place g h place looked found host same was told =
    subst (λ (i : ℕ). Some i ≡ find (λ p. nat_le i p) (cued 0 g.sessions)) same
    (subst (λ (x : HostImage). Some looked ≡ find (λ p. nat_le looked p) (cued 0 x.sessions)) host (told was))

-- ---- a journal without room

-- it has none for a longer body, and none later
pub full_still : (end next size later after : ℕ) → size ≤ most_body → end ≤ later → next ≤ after → IsFull end next size
    → IsFull later after most_body
full_still end next size later after fits grows more (inl long) = inl (omega (arith, fits, grows, long))
full_still end next size later after fits grows more (inr many) = inr (omega (arith, more, many))

-- ---- what the calls of a book do, as jobs see it

module _ {D : Type 0} (law : DiskLaw D) where
  abbrev seen : BookOf D → Seen
  seen = seen_of law

  -- the names in the host of a book are distinct
  pub distinct_in : (b : BookOf D) → IsSome law b → AreDistinct b.host.sessions
  distinct_in b some =
      subst (λ (g : HostImage). AreDistinct g.sessions) (sym some.is.host) (distinct_opening some.past b.history)

  pub went_on : (old new : BookOf D) → new.opened ≡ old.opened → law.faults old.journal.disk ≤ law.faults new.journal.disk
      → law.identity new.journal.disk ≡ law.identity old.journal.disk → Grows old new
      → ((past : List Command) → IsBook law past old → IsBook law past new)
      → GoesOn (seen old) (seen new)
  went_on old new opened later same grows kept = record {
    opened = opened;
    later = later;
    same = same;
    tight = full_still old.journal.end old.journal.next most_body new.journal.end new.journal.next (omega arith) grows.end grows.next;
    kept = kept;
  }

  -- only the claims changed
  pub claims_only : (old new : BookOf D) (claims : List ℕ) → new ≡ record old { claims = claims }
      → ((past : List Command) → IsBook law past old → IsBook law past new)
      → IsSame (seen old) (seen new) × GoesOn (seen old) (seen new)
  claims_only old new claims same kept = (
    record {
      entries = ap (λ (b : BookOf D). b.history) same;
      calm = record {
        doubts = ap (λ (b : BookOf D). b.doubts) same;
        faults = ap (λ (b : BookOf D). law.faults b.journal.disk) same;
      };
    },
    record {
      opened = ap (λ (b : BookOf D). b.opened) same;
      later = omega (arith, ap (λ (b : BookOf D). law.faults b.journal.disk) same);
      same = ap (λ (b : BookOf D). law.identity b.journal.disk) same;
      tight = subst (λ (b : BookOf D). IsFull b.journal.end b.journal.next most_body) (sym same);
      kept = kept;
    },
  )

  pub nothing_went_on : (b : BookOf D) → GoesOn (seen b) (seen b)
  nothing_went_on b = record { opened = refl; later = omega arith; same = refl; tight = λ t. t; kept = λ past h. h }

  pub added : (by : Who) (c : Command) (old new : BookOf D) (r : Receipt) → Acknowledges by c old new r
      → law.faults new.journal.disk ≡ law.faults old.journal.disk → Adds by c (seen old) (seen new)
  added by c old new r a fine = record {
    entry = a.entry;
    entries = a.history;
    by = a.who;
    command = a.command;
    calm = record { doubts = a.doubts; faults = fine };
  }

  pub step_added : (c : Command) (old new : BookOf D) (r : Receipt) → IsStepped old.host c → Acknowledges Worker c old new r
      → law.faults new.journal.disk ≡ law.faults old.journal.disk → AddsStep (seen old) (seen new)
  step_added c old new r s a fine = record {
    entry = a.entry;
    entries = a.history;
    by = a.who;
    accepted = ap (λ x. is_accepted_step x a.entry.reply) (a.command ∙ s.is)
        ∙ ap (is_accepted_step (Step s.name)) (a.told.reply ∙ ap (λ x. (answer old.host x).reply) s.is ∙ s.reply);
    calm = record { doubts = a.doubts; faults = fine };
  }

  -- why a call failed, by what it says of its faults
  why : (by : Who) (c : Command) (fault : CallFault) (old new : BookOf D) → IsUnanswered old new → Doubts by c old new fault
      → (fault ≡ Disk → Rose (law.faults old.journal.disk) (law.faults new.journal.disk)) → (fault ≡ Full → HasNoRoom c old)
      → (fault ≡ Full → length (body_of c) ≤ most_body) → Grows old new
      → IsWhy by c fault (seen old) (seen new)
  why by c Disk old new un doubts disk full fits grows = (
    disk refl,
    elim doubts [
      | inl same ↦ inl same
      | inr d ↦ inr (record {
        doubt = d.doubt;
        doubts = d.doubts;
        by = d.who;
        command = d.command;
        before = d.before;
        accepted = λ past is. ap (λ (g : HostImage). is_accepted (answer g c).reply) (sym is.host) ∙ d.accepted;
      })
    ],
  )
  why by c Full old new un doubts disk full fits grows = (
    full_still old.journal.end old.journal.next (length (body_of c)) new.journal.end new.journal.next (fits refl) grows.end grows.next
        (full refl).full,
    doubts,
  )
  why by c NoMemory old new un doubts disk full fits grows = doubts

  pub failed : (by : Who) (c : Command) (fault : CallFault) (old new : BookOf D) → IsUnanswered old new → Doubts by c old new fault
      → (fault ≡ Disk → Rose (law.faults old.journal.disk) (law.faults new.journal.disk)) → (fault ≡ Full → HasNoRoom c old)
      → (fault ≡ Full → length (body_of c) ≤ most_body) → Grows old new
      → (fault ≢ Disk → law.faults new.journal.disk ≡ law.faults old.journal.disk) → Fails by c fault (seen old) (seen new)
  failed by c fault old new un doubts disk full fits grows fine =
      record { entries = un.history; why = why by c fault old new un doubts disk full fits grows; faults = fine }

  pub step_failed : (c : Command) (fault : CallFault) (old new : BookOf D) → IsStepped old.host c → IsUnanswered old new
      → Doubts Worker c old new fault → (fault ≡ Disk → Rose (law.faults old.journal.disk) (law.faults new.journal.disk))
      → (fault ≡ Full → HasNoRoom c old) → (fault ≡ Full → length (body_of c) ≤ most_body) → Grows old new
      → (fault ≢ Disk → law.faults new.journal.disk ≡ law.faults old.journal.disk) → FailsToStep fault (seen old) (seen new)
  step_failed c fault old new s un doubts disk full fits grows fine = record {
    session = s.name;
    fails = subst (λ x. Fails Worker x fault (seen old) (seen new)) s.is (failed Worker c fault old new un doubts disk full fits grows fine);
  }

  -- there was no memory to begin with
  pub not_begun : (b : BookOf D) → FailsToStep NoMemory (seen b) (seen b)
  not_begun b = record { session = []; fails = record { entries = refl; why = refl; faults = λ other. refl } }
