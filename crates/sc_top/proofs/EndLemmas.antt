-- How a run ended, alone or with workers, and what is said of it.
use Rattle.std.proofs.Common.{◌≡◌, ◌≢◌, ◌∙◌, inl, inr, ℕ, zero, suc, ◌+◌, ◌<◌, ◌≤◌, true, is_some, Option, None, Some, List, [], ◌∷◌, ◌++◌, length, append-nil, length-append, refl, sym, ap, subst, arith}
use Rattle.std.specs.List.{AllByRecursion, Contains, slice_index_or}
use Rattle.sc_book.specs.Books.{BookOf, IsBook, IsLastDoubt, opening}
use Rattle.sc_book.specs.Images.{StandsFor}
use Rattle.sc_book.specs.Openings.{IsOpened}
use Rattle.sc_book.specs.Receipts.{most_body}
use Rattle.sc_book.specs.declared.doubt.Doubt.{Doubt}
use Rattle.sc_book.specs.declared.fault.CallFault.{CallFault}
use Rattle.sc_book.specs.declared.fault.CallFault.TheVariants as call
use Rattle.sc_codec.specs.Bodies.{Spells}
use Rattle.sc_machine.specs.Accepted.{is_accepted}
use Rattle.sc_machine.specs.Commands.{answer}
use Rattle.sc_machine.specs.Cues.{ready}
use Rattle.sc_machine.specs.Histories.{replay}
use Rattle.sc_dev.specs.Disks.{DiskLaw, DiskOf}
use Rattle.sc_journal.specs.Journals.{IsFull}
use Rattle.sc_pool.specs.Books.{seen_of}
use Rattle.sc_pool.specs.Pools.{CameNext, IsNext, Ran}
use Rattle.sc_pool.specs.Serving.{Serves, ServesInPart}
use Rattle.sc_pool.specs.Sharing.{Seen}
use Rattle.sc_report.specs.declared.end.End.{End}
use Rattle.sc_report.specs.declared.end.End.TheVariants as end
use Rattle.sc_script.specs.declared.script.Script.{Script}
use Rattle.sc_script.specs.Steps.{HasNoStep}
use Rattle.sc_types.specs.declared.command.Command.{Command}
use Rattle.sc_types.specs.declared.history.Entry.{Entry}
use Rattle.sc_types.specs.declared.host.HostImage.{HostImage}
use Rattle.sc_top.specs.Journals.{DiskKnown, IsDoubtful, IsStored, IsTight, IsWithOrWithout, Opening, count_after, disk_known, host_after}
use Rattle.sc_top.specs.Promise.{Account, Ends, LeftBy, Runs, failed, left_by, quiet, ran, spent, tight}
use Rattle.sc_top.specs.Run.{IsHistoryOf, IsWholeHistoryOf}
use Rattle.sc_top.specs.Running.{GoesOn, HowRan, run_of}
use Rattle.sc_top.specs.Sayings.{IsTold, end_by}
use Rattle.sc_top.specs.declared.status.Status.{Status}
use Rattle.sc_top.proofs.JournalLemmas.{ends_of, holds_of, image_stands, promise_of, stored_of}
use Rattle.sc_top.proofs.Promise.{once_of}
use Rattle.sc_top.proofs.RunLemmas.{entry_of}

-- what holds of all holds of each
each_at : (P : Doubt → Type 0) (ds : List Doubt) (d : Doubt) (k : ℕ) → AllByRecursion P ds → k < length ds
    → slice_index_or ds k d ≡ d → P d
each_at P [] d k all less is = absurd (omega (arith, less))
each_at P (x ∷ xs) d zero all less is = subst P is all.0
each_at P (x ∷ xs) d (suc k) all less is = each_at P xs d k all.1 (omega (arith, less)) is

never_none : {A : Type 0} (x : A) → Some x ≡ None → ⊥
never_none x e = cc

some_is : {A : Type 0} (o : Option A) → o ≢ None → is_some o ≡ true
some_is None none = absurd (none refl)
some_is (Some x) none = refl

-- the whole of a list is its first part where that is as long
whole_front : {A : Type 0} (all front rest : List A) → all ≡ front ++ rest → length all ≡ length front → front ≡ all
whole_front all front [] whole long = sym (append-nil front) ∙ sym whole
whole_front all front (x ∷ rest) whole long =
    absurd (omega (arith, long, ap (λ xs. length xs) whole, length-append front (x ∷ rest)))

module _ {D : Type 0} (law : DiskLaw D) (standing : (d : D) → law.may_leave d (law.reads d)) where
  abbrev Known : D → D → DiskKnown
  Known old new = disk_known law old new

  abbrev seen : BookOf D → Seen
  seen = seen_of law

  module _ (start : D) (old : BookOf D) (o : IsOpened law old) (s : Script) (budget : ℕ)
      (steps : HasNoStep s) (book : BookOf D) (on : GoesOn law old book)
      (fine : law.faults old.journal.disk ≡ law.faults start) where
    abbrev K : DiskKnown
    K = Known start book.journal.disk

    is_last : IsBook law o.past book
    is_last = on.kept o.past o.book

    -- ---- with workers

    module _ (more : ℕ) (fault : Option CallFault) (r : Ran s budget (seen old) (seen book) fault) where
      abbrev workers : ℕ
      workers = suc more

      all_fresh : book.history ≡ r.fresh
      all_fresh = r.begins ∙ ap (λ (h : List Entry). h ++ r.fresh) o.history

      some_workers : workers ≢ 0
      some_workers is = omega (arith, is)

      pooled_part : IsHistoryOf o.past s workers budget book.history
      pooled_part = record {
        legal = is_last.legal;
        once = once_of o.past book.history is_last.legal;
        served = subst (ServesInPart s) (sym all_fresh) r.served;
        within = r.within;
        run = λ none. absurd (some_workers none);
      }

      pooled_whole : fault ≡ None → IsWholeHistoryOf o.past s workers budget book.history
      pooled_whole none = record {
        part = pooled_part;
        served = subst (Serves s) (sym all_fresh) (r.whole none);
        spent = λ is_ready. r.spent none (ap (λ (g : HostImage). is_some (ready g)) is_last.host
            ∙ some_is (ready (host_after o.past book.history)) is_ready);
        run = λ none. absurd (some_workers none);
      }

      pooled_stored : book.doubts ≡ old.doubts → law.tells
          → IsStored K (count_after o.past book.history) (host_after o.past book.history)
      pooled_stored same told =
          stored_of law standing start o.past book is_last (same ∙ o.doubts) told

      -- the command that is in doubt in the journal came next
      came : (d : Doubt) → Contains book.doubts d → CameNext s (seen old) r.fresh d
      came d one =
          let all : book.doubts ≡ r.doubtful = r.doubts ∙ ap (λ (ds : List Doubt). ds ++ r.doubtful) o.doubts in
          let there = subst (λ (ds : List Doubt). Contains ds d) all one in
          each_at (CameNext s (seen old) r.fresh) r.doubtful d there.0 r.came_next there.1 there.2

      next_in_doubt : (d : Doubt) → Contains book.doubts d → d.before ≡ length book.history → IsNext s book.history d.who d.command
      next_in_doubt d one last =
          let c = came d one in
          let long : length r.fresh ≡ length c.front =
          omega (arith, last, c.before, ap (λ (h : List Entry). length h) all_fresh, ap (λ (h : List Entry). length h) o.history) in
          subst (λ (h : List Entry). IsNext s h d.who d.command)
          (whole_front r.fresh c.front c.rest c.whole long ∙ sym all_fresh) c.next

      pooled_doubtful : law.tells → IsDoubtful K o.past s workers budget book.history
      pooled_doubtful told = record { reads = each (law.reads book.journal.disk) (standing book.journal.disk); stops = each }
        where
          g : HostImage
          g = host_after o.past book.history

          more_of : (c : DiskOf) → ((body : List ℕ) × (book.journal.doubt ≡ Some body) × ((x : Command) → Spells body x
              → is_accepted (answer (host_after o.past book.history) x).reply ≡ true
              → StandsFor c (count_after o.past book.history + 1) (answer (host_after o.past book.history) x).host))
              → IsWithOrWithout o.past s workers budget book.history c
          more_of c m =
              let d : IsLastDoubt book m.0 = is_last.doubt m.0 m.1 in
              let accepted : is_accepted (answer g d.doubt.command).reply ≡ true =
              sym (ap (λ (x : HostImage). is_accepted (answer x d.doubt.command).reply) is_last.host) ∙ d.accepted in
              inr (record {
                entry = entry_of g d.doubt.who d.doubt.command;
                next = record {
                  run = λ none. absurd (some_workers none);
                  next = λ _. next_in_doubt d.doubt d.one d.last;
                  accepted = accepted;
                };
                stands = m.2 d.doubt.command d.spells accepted;
              })

          each : (c : DiskOf) → law.may_leave book.journal.disk c → IsWithOrWithout o.past s workers budget book.history c
          each c may = elim (image_stands law standing o.past book is_last told book.journal.doubt refl c may) [
            | inl all ↦ inl all
            | inr m ↦ more_of c m
          ]

      pooled_tight : IsFull book.journal.end book.journal.next most_body → IsTight K o.past book.history
      pooled_tight is_full = record {
        end = book.journal.end;
        is_end = λ told.
            let all = is_last.stored told in
            record { bodies = all.bodies; spell = all.spell; is = all.keeps.end };
        full = subst (λ (n : ℕ). IsFull book.journal.end n most_body) is_last.next is_full;
      }

    pooled_quiet : (more : ℕ) → Ran s budget (seen old) (seen book) None → (x : Option (List ℕ)) → ready book.host ≡ x
        → (word : End) → end_by None (is_some x) ≡ Some word → Ends K o.past s (suc more) budget book.history word
    pooled_quiet more r None none word is =
        let quiet_end : end.Quiet ≡ word = cc in
        subst (Ends K o.past s (suc more) budget book.history) quiet_end
        (quiet (pooled_whole more None r refl) (sym (ap ready is_last.host) ∙ none) ((r.sure (omega arith)).faults ∙ fine)
        (pooled_stored more None r (r.sure (omega arith)).doubts))
    pooled_quiet more r (Some name) some word is =
        let spent_end : end.Budget ≡ word = cc in
        subst (Ends K o.past s (suc more) budget book.history) spent_end
        (spent (pooled_whole more None r refl) (λ none. never_none name (sym some ∙ ap ready is_last.host ∙ none))
        ((r.sure (omega arith)).faults ∙ fine) (pooled_stored more None r (r.sure (omega arith)).doubts))

    pooled_ends : (more : ℕ) (fault : Option CallFault) → Ran s budget (seen old) (seen book) fault → (word : End)
        → end_by fault (is_some (ready book.host)) ≡ Some word → Ends K o.past s (suc more) budget book.history word
    pooled_ends more None r word is = pooled_quiet more r (ready book.host) refl word is
    pooled_ends more (Some call.Disk) r word is =
        let disk_end : end.Disk ≡ word = cc in
        let rose = r.shown in
        subst (Ends K o.past s (suc more) budget book.history) disk_end
        (failed (pooled_part more (Some call.Disk) r) (omega (arith, fine, rose)) (pooled_doubtful more (Some call.Disk) r))
    pooled_ends more (Some call.Full) r word is =
        let full_end : end.Full ≡ word = cc in
        subst (Ends K o.past s (suc more) budget book.history) full_end
        (tight (λ none. omega (arith, none)) (pooled_part more (Some call.Full) r)
        (pooled_tight more (Some call.Full) r r.shown) ((r.sure (omega arith)).faults ∙ fine)
        (pooled_stored more (Some call.Full) r (r.sure (omega arith)).doubts))
    pooled_ends more (Some call.NoMemory) r word is = absurd (cc)

    -- ---- alone or with workers

    abbrev How : ℕ → Option CallFault → Type 0
    How workers fault = HowRan law old book s workers budget fault

    ends_by : (workers : ℕ) (fault : Option CallFault) → How workers fault → (word : End)
        → end_by fault (is_some (ready book.host)) ≡ Some word → Ends K o.past s workers budget book.history word
    ends_by zero fault how word is =
        ends_of law standing start old o s budget steps (run_of book how.0) on fine
        fault how.1 word is
    ends_by (suc more) fault how word is = pooled_ends more fault how word is

    promise_by : (workers : ℕ) (fault : Option CallFault) → How workers fault → IsHistoryOf o.past s workers budget book.history
    promise_by zero fault how =
        promise_of law standing start old o s budget steps (run_of book how.0) on fine
        fault how.1
    promise_by (suc more) fault how = pooled_part more fault how

    holds_by : (workers : ℕ) (fault : Option CallFault) → How workers fault → law.tells
        → IsDoubtful K o.past s workers budget book.history
    holds_by zero fault how told =
        holds_of law standing start old o s budget steps (run_of book how.0) on fine
        fault how.1 told
    holds_by (suc more) fault how told = pooled_doubtful more fault how told

    opening_host : old.host ≡ opening o.past
    opening_host = o.book.host ∙ ap (replay (opening o.past)) o.history

    abbrev Stood : Type 0
    Stood = (law.tells → (n : ℕ) (g : HostImage) → StandsFor (law.reads start) n g → (old.opened ≡ n) × (old.host ≡ g))
        × (law.tells → StandsFor (law.reads start) old.opened old.host)

    abbrev opened_by : Stood → Opening K
    opened_by stood = record {
      past = o.past;
      accepted = o.book.past_accepted;
      read = λ told. subst (λ (n : ℕ). StandsFor (law.reads start) n (opening o.past)) o.book.opened
          (subst (λ (g : HostImage). StandsFor (law.reads start) old.opened g) opening_host (stood.1 told));
      stood = λ told n g is. (sym o.book.opened ∙ (stood.0 told n g is).0, sym opening_host ∙ (stood.0 told n g is).1);
    }

    -- what is said of it
    pub runs_of : (stood : Stood) (account : Account) (workers : ℕ) (fault : Option CallFault) → How workers fault
        → (n : ℕ) (g : HostImage) (es : List Entry) → book.opened ≡ n → book.host ≡ g → book.history ≡ es
        → (status : Status) (bytes : List ℕ) → IsTold account fault n g es status bytes
        → Runs K account s workers budget status bytes
    runs_of stood account workers fault how n g es is_opened is_host is_history status bytes t =
        subst (λ (x : Status). Runs K account s workers budget x bytes) (sym t.is_status) (ran t.end bytes (record {
          opened = opened_by stood;
          history = book.history;
          ends = ends_by workers fault how t.end (ap (λ (x : HostImage). end_by fault (is_some (ready x))) is_host ∙ t.ends);
          is = t.is_bytes ∙ ap (λ (x : ℕ). account x g es t.end) (sym is_opened ∙ is_last.opened)
              ∙ ap (λ (x : HostImage). account (length o.past) x es t.end) (sym is_host ∙ is_last.host)
              ∙ ap (λ (x : List Entry). account (length o.past) (host_after o.past book.history) x t.end) (sym is_history);
        }))

    pub left_of : Stood → (workers : ℕ) (fault : Option CallFault) → How workers fault → LeftBy K s workers budget
    left_of stood workers fault how =
        left_by (opened_by stood) book.history (promise_by workers fault how) (holds_by workers fault how)
