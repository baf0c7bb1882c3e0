-- What a journal holds when it was opened, when a run ended, and when it was made.
use Rattle.std.proofs.Common.{◌≡◌, ◌≢◌, ◌∙◌, ◌⊎◌, inl, inr, ℕ, ◌+◌, ◌≤◌, true, Option, None, Some, Result, Ok, Err, IfOk, OnErr, List, [], ◌∷◌, ◌++◌, length, append-nil, length-append, refl, sym, ap, subst, arith}
use Rattle.std.specs.Prelude.{is_some}
use Rattle.std.specs.List.{Contains}
use Rattle.std.proofs.lemmas.List.Elements.{Contains-push_cases}
use Rattle.sc_book.specs.Books.{BookOf, HoldsAll, IsBook, first_head, opening}
use Rattle.sc_book.specs.Images.{Spell, StandsFor}
use Rattle.sc_book.specs.Openings.{IsOpened}
use Rattle.sc_book.specs.declared.doubt.Doubt.{Doubt}
use Rattle.sc_book.specs.declared.fault.CallFault.{CallFault}
use Rattle.sc_book.specs.declared.fault.CallFault.TheVariants as call
use Rattle.sc_book.proofs.BookLemmas.{all_accepted, from_empty, spell_push, stands}
use Rattle.sc_codec.specs.Bodies.{Spells, body_of}
use Rattle.sc_machine.specs.Accepted.{AreAccepted, accepted_commands, is_accepted}
use Rattle.sc_machine.specs.Commands.{answer}
use Rattle.sc_machine.specs.Cues.{ready}
use Rattle.sc_machine.specs.Histories.{IsLegal, replay}
use Rattle.sc_machine.specs.Hosts.{empty_host}
use Rattle.sc_machine.proofs.AcceptedLemmas.{accepted_more, after_append}
use Rattle.sc_dev.specs.Disks.{DiskLaw, DiskOf, Within}
use Rattle.sc_journal.specs.Journals.{IsFull, StandsAt}
use Rattle.sc_journal.specs.Texts.{Holds}
use Rattle.sc_journal.proofs.Gates.{with-either}
use Rattle.sc_script.specs.declared.script.Script.{Script}
use Rattle.sc_script.specs.Steps.{HasNoStep}
use Rattle.sc_types.specs.declared.command.Command.{Command}
use Rattle.sc_types.specs.declared.history.Entry.{Entry}
use Rattle.sc_types.specs.declared.host.HostImage.{HostImage}
use Rattle.sc_top.specs.Journals.{DiskKnown, HasNoRoomFor, IsDoubtful, IsEndOf, IsStored, IsWithNext, IsWithOrWithout, Opening, count_after, disk_known, host_after}
use Rattle.sc_top.specs.Journals as journals
use Rattle.sc_top.specs.Journals.{FailsToOpen}
use Rattle.sc_top.specs.Promise.{Ends, Shows, full, failed, quiet, shown, spent}
use Rattle.sc_report.specs.Report.{report}
use Rattle.sc_top.specs.Sayings.{SaysFault, bad, damaged, disk}
use Rattle.sc_top.specs.declared.status.Status.{Status}
use Rattle.sc_top.specs.declared.status.Status.TheVariants as done
use Rattle.sc_book.specs.Openings.{HasFirstBad, IsDamagedAt}
use Rattle.sc_book.specs.declared.fault.OpenFault.{OpenFault}
use Rattle.sc_book.specs.declared.fault.OpenFault.TheVariants as unopened
use Rattle.sc_top.specs.Run.{ComesNext, IsFront, IsHistoryOf, IsRun, IsWholeHistoryOf, in_turn}
use Rattle.sc_top.specs.Running.{Faces, Goes, GoesOn, HadNoRoom, HasStepped, HowEnded, IsDoubtOf, Reaches, RunOf, Stopped, Stops, no_memory, unanswered}
use Rattle.sc_top.specs.Sayings.{end_by}
use Rattle.sc_report.specs.declared.end.End.{End}
use Rattle.sc_report.specs.declared.end.End.TheVariants as end
use Rattle.sc_top.proofs.FrontLemmas.{front_of}
use Rattle.sc_top.proofs.Promise.{history_of_front, history_of_run}

pick : {A B C : Type 0} → (A → C) → (B → C) → A ⊎ B → C
pick f g (inl a) = f a
pick f g (inr b) = g b

-- the journal of these bodies stands for what they spell

stands_all : (past : List Command) (h : List Entry) (bodies : List (List ℕ)) (d : DiskOf) → AreAccepted empty_host past
    → IsLegal (opening past) h → Spell bodies (past ++ accepted_commands h)
    → Holds first_head bodies d.journal → StandsFor d (count_after past h) (host_after past h)
stands_all past h bodies d before legal spell holds =
    stands d bodies (past ++ accepted_commands h) _ _ holds spell (all_accepted past h before legal)
    (sym (length-append past (accepted_commands h))) (from_empty past h legal)

stands_more : (past : List Command) (h : List Entry) (bodies : List (List ℕ)) (body : List ℕ) (c : Command) (d : DiskOf)
    → AreAccepted empty_host past → IsLegal (opening past) h
    → Spell bodies (past ++ accepted_commands h) → Spells body c
    → is_accepted (answer (host_after past h) c).reply ≡ true → Holds first_head (bodies ++ body ∷ []) d.journal
    → StandsFor d (count_after past h + 1) (answer (host_after past h) c).host
stands_more past h bodies body c d before legal spell one taken holds =
    let all = past ++ accepted_commands h in
    let same = from_empty past h legal in
    stands d (bodies ++ body ∷ []) (all ++ c ∷ []) _ _ holds (spell_push bodies all body c spell one)
    (accepted_more empty_host all (c ∷ []) (all_accepted past h before legal)
    (sym (ap (λ (g : HostImage). is_accepted (answer g c).reply) same) ∙ taken, tt))
    (omega (arith, length-append past (accepted_commands h), length-append all (c ∷ [])))
    (ap (λ (g : HostImage). (answer g c).host) same ∙ sym (after_append empty_host all (c ∷ [])))

module _ {D : Type 0} (law : DiskLaw D) (standing : (d : D) → law.may_leave d (law.reads d)) where
  abbrev pub Is : List Command → BookOf D → Type 0
  Is past b = IsBook law past b

  abbrev pub Known : D → D → DiskKnown
  Known old new = disk_known law old new

  -- an image of a journal in which nothing is in doubt, or one body
  pub image_stands : (past : List Command) (b : BookOf D) → Is past b → law.tells → (doubt : Option (List ℕ))
      → b.journal.doubt ≡ doubt → (c : DiskOf) → law.may_leave b.journal.disk c
      → StandsFor c (count_after past b.history) (host_after past b.history)
      ⊎ ((body : List ℕ) × (doubt ≡ Some body) × ((x : Command) → Spells body x
      → is_accepted (answer (host_after past b.history) x).reply ≡ true
      → StandsFor c (count_after past b.history + 1) (answer (host_after past b.history) x).host))
  image_stands past b is told None none c may =
      let all = is.stored told in
      inl (stands_all past b.history all.bodies c is.past_accepted is.legal all.spell
      (subst (λ (d : Option (List ℕ)). StandsAt d first_head all.bodies c) none (all.keeps.images c may)))
  image_stands past b is told (Some body) some c may = by (with-either first_head all.bodies body c.journal
      (subst (λ (d : Option (List ℕ)). StandsAt d first_head all.bodies c) some (all.keeps.images c may))) where
        all : HoldsAll law b.journal (past ++ accepted_commands b.history)
        all = is.stored told

        by : Holds first_head all.bodies c.journal ⊎ Holds first_head (all.bodies ++ body ∷ []) c.journal
            → StandsFor c (count_after past b.history) (host_after past b.history)
            ⊎ ((x : List ℕ) × (Some body ≡ Some x) × ((y : Command) → Spells x y
            → is_accepted (answer (host_after past b.history) y).reply ≡ true
            → StandsFor c (count_after past b.history + 1) (answer (host_after past b.history) y).host))
        by (inl holds) = inl (stands_all past b.history all.bodies c is.past_accepted is.legal all.spell holds)
        by (inr holds) = inr (
          body,
          refl,
          λ y spells taken.
              stands_more past b.history all.bodies body y c is.past_accepted is.legal all.spell spells taken holds,
        )

  -- where no command is in doubt, the disk stands for all that was accepted
  pub stored_of : (old : D) (past : List Command) (b : BookOf D) → Is past b → b.doubts ≡ [] → law.tells
      → IsStored (Known old b.journal.disk) (count_after past b.history) (host_after past b.history)
  stored_of old past b is none told = record {
    reads = each (law.reads b.journal.disk) (standing b.journal.disk);
    stops = each;
  } where
    no_doubt : (body : List ℕ) → b.journal.doubt ≡ Some body → ⊥
    no_doubt body some =
        let last = is.doubt body some in
        let one : Contains [] last.doubt = subst (λ (ds : List Doubt). Contains ds last.doubt) none last.one in
        omega (arith, one.1)

    each : (c : DiskOf) → law.may_leave b.journal.disk c
        → StandsFor c (count_after past b.history) (host_after past b.history)
    each c may = pick (λ taken. taken) (λ more. absurd (no_doubt more.0 more.1))
        (image_stands past b is told b.journal.doubt refl c may)

  -- so it stands for that, with or without a command in doubt
  pub doubtful_stored : (old : D) (past : List Command) (b : BookOf D) (script : Script) (workers budget : ℕ) → Is past b
      → b.doubts ≡ [] → law.tells → IsDoubtful (Known old b.journal.disk) past script workers budget b.history
  doubtful_stored old past b script workers budget is none told =
      let all = stored_of old past b is none told in
      record { reads = inl all.reads; stops = λ c may. inl (all.stops c may) }

  -- where the next command of a run is in doubt, with or without that
  pub doubtful_of : (old : D) (past : List Command) (b : BookOf D) (script : Script) (workers budget : ℕ) (d : Doubt)
      (e : Entry) → Is past b → b.doubts ≡ d ∷ [] → d.command ≡ e.command → ComesNext past script workers budget b.history e
      → law.tells → IsDoubtful (Known old b.journal.disk) past script workers budget b.history
  doubtful_of old past b script workers budget d e is one same comes told = record {
    reads = each (law.reads b.journal.disk) (standing b.journal.disk);
    stops = each;
  } where
    spells : (body : List ℕ) → b.journal.doubt ≡ Some body → Spells body e.command
    spells body some =
        let last = is.doubt body some in
        let there : Contains ([] ++ d ∷ []) last.doubt = subst (λ (ds : List Doubt). Contains ds last.doubt) one last.one in
        let is_it : d ≡ last.doubt = pick (λ (no : Contains [] last.doubt). absurd (omega (arith, no.1))) (λ taken. taken)
        (Contains-push_cases [] d last.doubt there) in
        subst (Spells body) (sym (ap (λ (x : Doubt). x.command) is_it) ∙ same) last.spells

    each : (c : DiskOf) → law.may_leave b.journal.disk c → IsWithOrWithout past script workers budget b.history c
    each c may = pick (λ taken. inl taken)
        (λ more. inr (record {
          entry = e;
          next = comes;
          stands = more.2 e.command (spells more.0 more.1) comes.accepted;
        })) (image_stands past b is told b.journal.doubt refl c may)

  -- ---- the run of one thread that has ended

  module _ (start : D) (old : BookOf D) (o : IsOpened law old) (s : Script) (budget : ℕ)
      (steps : HasNoStep s) (run : RunOf D) (on : GoesOn law old run.book)
      (fine : law.faults old.journal.disk ≡ law.faults start) where
    abbrev pub first : RunOf D
    first = record { book = old; left = budget }

    abbrev pub K : DiskKnown
    K = Known start run.book.journal.disk

    is_last : Is o.past run.book
    is_last = on.kept o.past o.book

    pub first_host : old.host ≡ opening o.past
    first_host = o.book.host ∙ ap (replay (opening o.past)) o.history

    all_added : (added : List Entry) → run.book.history ≡ old.history ++ added → run.book.history ≡ added
    all_added added is = is ∙ ap (λ h. h ++ added) o.history

    -- what was reached is the first part of the run
    front_by : (added : List Entry) (g : HostImage) → Reaches first (in_turn s) added g
        → IsFront (opening o.past) (in_turn s) budget added
    front_by added g r =
        front_of (opening o.past) g (in_turn s) r.commands budget r.steps added
        (λ rest h. subst (λ x. IsRun x (in_turn s) budget (added ++ rest)) first_host (r.runs rest h))

    promise_by : (added : List Entry) (g : HostImage) → run.book.history ≡ old.history ++ added
        → Reaches first (in_turn s) added g → IsHistoryOf o.past s 0 budget run.book.history
    promise_by added g is r =
        history_of_front o.past s budget run.book.history steps
        (subst (IsFront (opening o.past) (in_turn s) budget) (sym (all_added added is)) (front_by added g r))

    accepted_by : (c : Command) → is_accepted (answer run.book.host c).reply ≡ true
        → is_accepted (answer (host_after o.past run.book.history) c).reply ≡ true
    accepted_by c taken = sym (ap (λ (g : HostImage). is_accepted (answer g c).reply) is_last.host) ∙ taken

    comes_by : (added : List Entry) → run.book.history ≡ old.history ++ added → (faced : Faces first run (in_turn s) added)
        → is_accepted (answer run.book.host faced.entry.command).reply ≡ true
        → ComesNext o.past s 0 budget run.book.history faced.entry
    comes_by added is faced taken = record {
      run = λ _. subst (λ (h : List Entry). IsFront (opening o.past) (in_turn s) budget (h ++ faced.entry ∷ []))
          (sym (all_added added is)) (front_by (added ++ faced.entry ∷ []) _ faced.reaches);
      next = λ some. absurd (some refl);
      accepted = accepted_by faced.entry.command taken;
    }

    stored_by : run.book.doubts ≡ old.doubts → law.tells
        → IsStored K (count_after o.past run.book.history) (host_after o.past run.book.history)
    stored_by same told = stored_of start o.past run.book is_last (same ∙ o.doubts) told

    doubtful_by : (added : List Entry) → run.book.history ≡ old.history ++ added → (faced : Faces first run (in_turn s) added)
        → (run.book.doubts ≡ old.doubts) ⊎ IsDoubtOf old run.book faced.entry.command → law.tells
        → IsDoubtful K o.past s 0 budget run.book.history
    doubtful_by added is faced (inl same) told =
        doubtful_stored start o.past run.book s 0 budget is_last (same ∙ o.doubts) told
    doubtful_by added is faced (inr one) told =
        doubtful_of start o.past run.book s 0 budget one.doubt faced.entry is_last
        (one.doubts ∙ ap (λ (ds : List Doubt). ds ++ one.doubt ∷ []) o.doubts) one.command
        (comes_by added is faced one.accepted) told

    -- the run came to its end
    whole_by : Goes law first run (in_turn s) [] → HasStepped run → IsWholeHistoryOf o.past s 0 budget run.book.history
    whole_by goes stepped =
        let ends : IsRun old.host (in_turn s) budget (goes.added ++ []) = goes.runs [] (stepped []) in
        let added = all_added goes.added goes.history in
        history_of_run o.past s budget run.book.history steps
        (subst (IsRun (opening o.past) (in_turn s) budget) (append-nil goes.added ∙ sym added)
        (subst (λ g. IsRun g (in_turn s) budget (goes.added ++ [])) first_host ends))

    ends_whole : Goes law first run (in_turn s) [] → HasStepped run → (r : Option (List ℕ)) → ready run.book.host ≡ r
        → (word : End) → end_by None (is_some r) ≡ Some word → Ends K o.past s 0 budget run.book.history word
    ends_whole goes stepped None none word is =
        let quiet_end : end.Quiet ≡ word = cc in
        subst (Ends K o.past s 0 budget run.book.history) quiet_end
        (quiet (whole_by goes stepped) (sym (ap ready is_last.host) ∙ none) (goes.faults ∙ fine) (stored_by goes.doubts))
    ends_whole goes stepped (Some name) some word is =
        let spent_end : end.Budget ≡ word = cc in
        subst (Ends K o.past s 0 budget run.book.history) spent_end
        (spent (whole_by goes stepped) (λ none. is_none (sym some ∙ ap ready is_last.host ∙ none)) (goes.faults ∙ fine)
        (stored_by goes.doubts)) where
          is_none : Some name ≡ None → ⊥
          is_none e = absurd (cc)

    no_room_by : (c : Entry) → HadNoRoom law old run.book c.command → HasNoRoomFor K o.past run.book.history c
    no_room_by c had =
        let at = had.kept o.past o.book in
        record {
          end = had.book.journal.end;
          is_end = λ told.
              let all = at.stored told in
              record {
                bodies = all.bodies;
                spell = subst (λ (h : List Entry). Spell all.bodies (o.past ++ accepted_commands h)) had.history all.spell;
                is = all.keeps.end;
              };
          full = subst (λ (n : ℕ). IsFull had.book.journal.end n (length (body_of c.command)))
              (at.next ∙ ap (λ (h : List Entry). count_after o.past h + 1) had.history) had.no_room.full;
        }

    ends_stopped : (fault : CallFault) → Stops law fault first run (in_turn s) → (word : End)
        → end_by (Some fault) (is_some (ready run.book.host)) ≡ Some word → Ends K o.past s 0 budget run.book.history word
    ends_stopped fault x word is = by fault x.why x.faults is where
      promise : IsHistoryOf o.past s 0 budget run.book.history
      promise = promise_by x.added run.book.host x.history x.reaches

      by : (f : CallFault) → Stopped law first run (in_turn s) x.added f
          → (f ≢ call.Disk → law.faults run.book.journal.disk ≡ law.faults old.journal.disk)
          → end_by (Some f) (is_some (ready run.book.host)) ≡ Some word → Ends K o.past s 0 budget run.book.history word
      by call.Disk (unanswered _ faced why) same e =
          let disk_end : end.Disk ≡ word = cc in
          subst (Ends K o.past s 0 budget run.book.history) disk_end
          (failed promise (omega (arith, fine, why.0)) (doubtful_by x.added x.history faced why.1))
      by call.Full (unanswered _ faced why) same e =
          let full_end : end.Full ≡ word = cc in
          subst (Ends K o.past s 0 budget run.book.history) full_end
          (full faced.entry promise (comes_by x.added x.history faced
          (sym (ap (λ (g : HostImage). is_accepted (answer g faced.entry.command).reply) why.1.host) ∙ why.1.no_room.accepted))
          (no_room_by faced.entry why.1) (same (λ f. absurd (cc)) ∙ fine) (stored_by why.0))
      by call.NoMemory y same e = absurd (cc)

    -- how it ended
    pub ends_of : (fault : Option CallFault) → HowEnded law first run (in_turn s) fault
        → (word : End) → end_by fault (is_some (ready run.book.host)) ≡ Some word → Ends K o.past s 0 budget run.book.history word
    ends_of None how word is = ends_whole how.0 how.1 (ready run.book.host) refl word is
    ends_of (Some fault) how word is = ends_stopped fault how word is

    -- what it came to in any case

    pub promise_of : (fault : Option CallFault) → HowEnded law first run (in_turn s) fault
        → IsHistoryOf o.past s 0 budget run.book.history
    promise_of None how = (whole_by how.0 how.1).part
    promise_of (Some fault) how = promise_by how.added run.book.host how.history how.reaches

    doubtful_stopped : (fault : CallFault) → Stops law fault first run (in_turn s) → law.tells
        → IsDoubtful K o.past s 0 budget run.book.history
    doubtful_stopped fault x told = by fault x.why where
      by : (f : CallFault) → Stopped law first run (in_turn s) x.added f
          → IsDoubtful K o.past s 0 budget run.book.history
      by call.Disk (unanswered _ faced why) = doubtful_by x.added x.history faced why.1 told
      by call.Full (unanswered _ faced why) = doubtful_by x.added x.history faced (inl why.0) told
      by call.NoMemory (unanswered _ faced why) = doubtful_by x.added x.history faced (inl why) told
      by call.NoMemory (no_memory same) = doubtful_stored start o.past run.book s 0 budget is_last (same ∙ o.doubts) told

    pub holds_of : (fault : Option CallFault) → HowEnded law first run (in_turn s) fault → law.tells
        → IsDoubtful K o.past s 0 budget run.book.history
    holds_of None how told = doubtful_stored start o.past run.book s 0 budget is_last (how.0.doubts ∙ o.doubts) told
    holds_of (Some fault) how told = doubtful_stopped fault how told

  -- ---- a journal that is shown

  pub shows_of : (start : D) (b : BookOf D) (o : IsOpened law b)
      → Within (law.may_leave start) (law.may_leave b.journal.disk)
      → (law.tells → (n : ℕ) (g : HostImage) → StandsFor (law.reads start) n g → (b.opened ≡ n) × (b.host ≡ g))
      → (law.tells → StandsFor (law.reads start) b.opened b.host)
      → (n : ℕ) (g : HostImage) (es : List Entry) → b.opened ≡ n → b.host ≡ g → b.history ≡ es
      → (status : Status) (bytes : List ℕ) → status ≡ done.Done → bytes ≡ report n g es end.Shown
      → Shows (Known start b.journal.disk) status bytes
  shows_of start b o within stood read n g es is_opened is_host is_history status bytes is_done is_report =
      let none = o.history in
      let none_more : length o.past + 0 ≡ length o.past = omega arith in
      let stored : law.tells → IsStored (Known start b.journal.disk) (length o.past) (opening o.past) =
      λ told. subst (λ (x : ℕ). IsStored (Known start b.journal.disk) x (opening o.past)) none_more
      (subst (λ (h : List Entry). IsStored (Known start b.journal.disk) (length o.past + length (accepted_commands h)) (replay (opening o.past) h)) none
      (stored_of start o.past b o.book o.doubts told)) in
      let host : b.host ≡ opening o.past = o.book.host ∙ ap (replay (opening o.past)) none in
      let text : bytes ≡ report (length o.past) (opening o.past) [] end.Shown =
      is_report ∙ ap (λ (x : ℕ). report x g es end.Shown) (sym is_opened ∙ o.book.opened)
      ∙ ap (λ (x : HostImage). report (length o.past) x es end.Shown) (sym is_host ∙ host)
      ∙ ap (λ (x : List Entry). report (length o.past) (opening o.past) x end.Shown) (sym is_history ∙ none) in
      subst (λ (x : Status). Shows (Known start b.journal.disk) x bytes) (sym is_done)
      (subst (λ (x : List ℕ). Shows (Known start b.journal.disk) done.Done x) (sym text)
      (shown (record {
        past = o.past;
        accepted = o.book.past_accepted;
        read = λ told. subst (λ (m : ℕ). StandsFor (law.reads start) m (opening o.past)) o.book.opened
            (subst (λ (x : HostImage). StandsFor (law.reads start) b.opened x) host (read told));
        stood = λ told m x is. (sym o.book.opened ∙ (stood told m x is).0, sym host ∙ (stood told m x is).1);
      }) (λ told. within) stored))

  -- a journal that was made
  pub made_of : (old new : D) → ((c : DiskOf) → law.may_leave new c → Holds first_head [] c.journal)
      → IsStored (Known old new) 0 empty_host
  made_of old new made = record { reads = each (law.reads new) (standing new); stops = each } where
    each : (c : DiskOf) → law.may_leave new c → StandsFor c 0 empty_host
    each c may = stands c [] [] 0 empty_host (made c may) tt tt refl refl

-- a journal that was not opened
pub fails_of : (k : DiskKnown) (f : OpenFault) (status : Status) (bytes : List ℕ) → (f ≡ unopened.Disk → k.failed)
    → (k.told → (at : ℕ) → f ≡ unopened.Damaged at → IsDamagedAt k.read.journal at)
    → (k.told → (n : ℕ) → f ≡ unopened.BadEntry n → HasFirstBad k.read.journal n) → SaysFault f status bytes
    → FailsToOpen k status bytes
fails_of k _ _ _ rose damaged_at first_bad disk = journals.disk_fault (rose refl)
fails_of k _ _ _ rose damaged_at first_bad (damaged at) = journals.damaged at (λ told. damaged_at told at refl)
fails_of k _ _ _ rose damaged_at first_bad (bad n) = journals.bad_entry n (λ told. first_bad told n refl)

-- what follows from what holds of a result
pub if_ok_map : {T E : Type 0} (r : Result T E) (P Q : T → Type 0) → ((t : T) → P t → Q t) → IfOk r P → IfOk r Q
if_ok_map (Ok t) P Q f x = f t x
if_ok_map (Err e) P Q f x = tt

pub on_err : {T E : Type 0} (r : Result T E) (X : Type 0) → X → OnErr r X
on_err (Ok t) X x = tt
on_err (Err e) X x = x
