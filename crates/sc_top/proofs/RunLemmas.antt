-- How a run goes on: by nothing, by a step, by a command, and by one part after another; and how it stops.
use Rattle.std.proofs.Common.{◌≡◌, ◌≢◌, ◌⊎◌, inl, inr, ℕ, zero, suc, ◌≤◌, Some, List, [], ◌∷◌, ◌++◌, Option, Result, Ok, Err, OnOk, IfErr, append_assoc, append-nil, refl, sym, ap, subst, ◌∙◌, arith}
use Rattle.std.specs.Result.{result_err}
use Rattle.sc_types.specs.declared.command.Command.{Command}
use Rattle.sc_types.specs.declared.command.Command.TheVariants.{Step}
use Rattle.sc_types.specs.declared.history.Entry.{Entry}
use Rattle.sc_types.specs.declared.history.Who.{Who}
use Rattle.sc_types.specs.declared.history.Who.TheVariants.{Client, Worker}
use Rattle.sc_types.specs.declared.host.HostImage.{HostImage}
use Rattle.sc_book.specs.Books.{BookOf, IsBook}
use Rattle.sc_book.specs.Receipts.{Acknowledges, Doubts, HasNoRoom, IsDoubted, IsUnanswered}
use Rattle.sc_book.specs.declared.fault.CallFault.{CallFault}
use Rattle.sc_book.specs.declared.fault.CallFault.TheVariants.{Disk, Full, NoMemory}
use Rattle.sc_book.specs.declared.receipt.Receipt.{Receipt}
use Rattle.sc_machine.specs.Accepted.{accepted_steps, is_accepted}
use Rattle.sc_machine.specs.Commands.{answer}
use Rattle.sc_machine.specs.Cues.{ready}
use Rattle.sc_machine.specs.Histories.{Tells, replay}
use Rattle.sc_machine.proofs.AcceptedLemmas.{replay_append}
use Rattle.sc_dev.specs.Causes.{Rose}
use Rattle.sc_dev.specs.Disks.{DiskLaw, DiskOf}
use Rattle.sc_pool.specs.Books.{seen_of}
use Rattle.sc_pool.specs.Pools.{Ran}
use Rattle.sc_script.specs.declared.script.Script.{Script}
use Rattle.sc_top.specs.Run.{Made, makes, of_ready, next, Enters, Continues, IsRun}
use Rattle.sc_top.specs.Running.{Faces, Goes, GoesOn, HasStepped, HowEnded, HowRan, IsDoubtOf, IsUnmade, IsWhy, Makes, Reaches, RunOf, Stopped, Stops, no_memory, run_of, unanswered}

-- what follows from what holds of a result

pub on_ok_map : {T E : Type 0} (r : Result T E) (X Y : Type 0) → (X → Y) → OnOk r X → OnOk r Y
on_ok_map (Ok t) X Y f x = f x
on_ok_map (Err e) X Y f x = tt

pub if_err_map : {T E : Type 0} (r : Result T E) (P Q : E → Type 0) → ((e : E) → P e → Q e) → IfErr r P → IfErr r Q
if_err_map (Ok t) P Q f x = tt
if_err_map (Err e) P Q f x = f e x

-- a command was made where a book acknowledged it and its disk did not fail
pub makes_of : {D : Type 0} {law : DiskLaw D} (who : Who) (c : Command) (old new : BookOf D) (left : ℕ) (r : Receipt)
    → Acknowledges who c old new r → law.faults new.journal.disk ≡ law.faults old.journal.disk
    → Makes law (run_of old left) (run_of new left) who c
makes_of who c old new left r a fine = record {
  entry = a.entry;
  enters = record {
    who = a.who;
    command = a.command;
    told = subst (λ (x : Command). Tells a.entry (answer old.host x)) (sym a.command) a.told;
  };
  history = a.history;
  host = a.host ∙ ap (λ (x : Command). (answer old.host x).host) (sym a.command);
  doubts = a.doubts;
  faults = fine;
  left = refl;
}

-- a run stays where it is
pub goes_nowhere : {D : Type 0} {law : DiskLaw D} (r : RunOf D) (cs : List Made) → Goes law r r cs cs
goes_nowhere r cs =
    record { added = []; history = sym (append-nil r.book.history); host = refl; doubts = refl; faults = refl; runs = λ rest h. h }

-- a run goes on for two parts
pub goes_further : {D : Type 0} {law : DiskLaw D} (old mid new : RunOf D) (before between after : List Made)
    → Goes law old mid before between → Goes law mid new between after → Goes law old new before after
goes_further old mid new before between after a b = record {
  added = a.added ++ b.added;
  history = b.history ∙ ap (λ h. h ++ b.added) a.history ∙ append_assoc old.book.history a.added b.added;
  host = b.host ∙ ap (λ g. replay g b.added) a.host ∙ sym (replay_append old.book.host a.added b.added);
  doubts = b.doubts ∙ a.doubts;
  faults = b.faults ∙ a.faults;
  runs = λ rest h. subst (λ es. IsRun old.book.host before old.left es) (sym (append_assoc a.added b.added rest))
      (a.runs (b.added ++ rest) (b.runs rest h));
}

-- the session that is ready steps, and the run goes on
pub steps_on : (g : HostImage) (cs : List Made) (left : ℕ) (e : Entry) (rest : List Entry) (name : List ℕ) → ready g ≡ Some name
    → Enters g Worker (Step name) e → IsRun (answer g e.command).host cs left rest → IsRun g cs (suc left) (e ∷ rest)
steps_on g cs left e rest name is_ready enters h =
    subst (λ n. Continues n g cs (suc left) e (λ g' cs' left'. IsRun g' cs' left' rest))
    (sym (ap (λ o. of_ready o cs) is_ready)) (enters, h)

-- the next command is made, and the run goes on
pub makes_on : (g : HostImage) (c : Made) (cs : List Made) (left : ℕ) (e : Entry) (rest : List Entry) → next g (c ∷ cs) left ≡ makes c cs
    → Enters g (Client c.0) c.1 e → IsRun (answer g e.command).host cs left rest → IsRun g (c ∷ cs) left (e ∷ rest)
makes_on g c cs left e rest is_next enters h =
    subst (λ n. Continues n g (c ∷ cs) left e (λ g' cs' left'. IsRun g' cs' left' rest)) (sym is_next) (enters, h)

-- a run that went on by one entry

goes_by : {D : Type 0} {law : DiskLaw D} (old mid new : RunOf D) (who : Who) (c : Command) (before after : List Made) → mid.book ≡ old.book
    → (m : Makes law mid new who c)
    → ((e : Entry) (rest : List Entry) → Enters old.book.host who c e
    → IsRun (answer old.book.host e.command).host after mid.left rest → IsRun old.book.host before old.left (e ∷ rest))
    → Goes law old new before after
goes_by {law = law} old mid new who c before after book m on =
    let host = ap (λ b. b.host) book in
    let after_entry = m.host ∙ ap (λ g. (answer g m.entry.command).host) host in
    record {
      added = m.entry ∷ [];
      history = m.history ∙ ap (λ b. b.history ++ m.entry ∷ []) book;
      host = after_entry;
      doubts = m.doubts ∙ ap (λ b. b.doubts) book;
      faults = m.faults ∙ ap (λ b. law.faults b.journal.disk) book;
      runs = λ rest h. on m.entry rest (subst (λ g. Enters g who c m.entry) host m.enters)
          (subst (λ n. IsRun (answer old.book.host m.entry.command).host after n rest) m.left
          (subst (λ g. IsRun g after new.left rest) after_entry h));
    }

-- the session that is ready steps
pub goes_by_step : {D : Type 0} {law : DiskLaw D} (old mid new : RunOf D) (name : List ℕ) (cs : List Made) → mid.book ≡ old.book
    → old.left ≡ suc mid.left → ready old.book.host ≡ Some name → Makes law mid new Worker (Step name) → Goes law old new cs cs
goes_by_step old mid new name cs book left is_ready m =
    goes_by old mid new Worker (Step name) cs cs book m (λ e rest enters h.
    subst (λ n. IsRun old.book.host cs n (e ∷ rest)) (sym left)
    (steps_on old.book.host cs mid.left e rest name is_ready enters h))

-- the next command of the script is made
pub goes_by_command : {D : Type 0} {law : DiskLaw D} (old new : RunOf D) (n : ℕ) (c : Command) (cs : List Made) → HasStepped old
    → Makes law old new (Client n) c → Goes law old new ((n, c) ∷ cs) cs
goes_by_command old new n c cs stepped m =
    goes_by old old new (Client n) c ((n, c) ∷ cs) cs refl m (λ e rest enters h.
    makes_on old.book.host (n, c) cs old.left e rest (stepped ((n, c) ∷ cs)) enters h)

-- the entry that a command of this caller would be
abbrev pub entry_of : HostImage → Who → Command → Entry
entry_of g who c =
    record { who = who; command = c; reply = (answer g c).reply; logs = (answer g c).logs; sent = (answer g c).sent }

pub entry_enters : (g : HostImage) (who : Who) (c : Command) → Enters g who c (entry_of g who c)
entry_enters g who c = record { who = refl; command = refl; told = record { reply = refl; logs = refl; sent = refl } }

-- ---- what the calls keep, one after another

module _ {D : Type 0} (law : DiskLaw D) where
  pub goes_on_still : (b : BookOf D) → GoesOn law b b
  goes_on_still b = record { kept = λ past is. is; opened = refl; later = omega arith; same = refl }

  pub goes_on_further : (a b c : BookOf D) → GoesOn law a b → GoesOn law b c → GoesOn law a c
  goes_on_further a b c first second = record {
    kept = λ past is. second.kept past (first.kept past is);
    opened = second.opened ∙ first.opened;
    later = omega (arith, first.later, second.later);
    same = second.same ∙ first.same;
  }

  -- why a command was not answered, from an earlier book on that has the same commands in doubt
  why_later : (fault : CallFault) (old mid new : BookOf D) (c : Command)
      → ((past : List Command) → IsBook law past old → IsBook law past mid)
      → law.faults old.journal.disk ≤ law.faults mid.journal.disk → mid.doubts ≡ old.doubts
      → IsWhy law fault mid new c → IsWhy law fault old new c
  why_later Disk old mid new c kept later same why = (omega (arith, later, why.0), by why.1) where
    by : (new.doubts ≡ mid.doubts) ⊎ IsDoubtOf mid new c → (new.doubts ≡ old.doubts) ⊎ IsDoubtOf old new c
    by (inl none) = inl (none ∙ same)
    by (inr one) = inr (record {
      doubt = one.doubt;
      doubts = one.doubts ∙ ap (λ ds. ds ++ one.doubt ∷ []) same;
      command = one.command;
      accepted = one.accepted;
    })
  why_later Full old mid new c kept later same why = (
    why.0 ∙ same,
    record {
      book = why.1.book;
      kept = λ past is. why.1.kept past (kept past is);
      history = why.1.history;
      host = why.1.host;
      no_room = why.1.no_room;
    },
  )
  why_later NoMemory old mid new c kept later same why = why ∙ same

  -- ---- how a run stops

  why_of : (fault : CallFault) (who : Who) (c : Command) (old new : BookOf D) → IsUnanswered old new
      → Doubts who c old new fault → (fault ≡ Disk → Rose (law.faults old.journal.disk) (law.faults new.journal.disk))
      → (fault ≡ Full → HasNoRoom c old) → IsWhy law fault old new c
  why_of Disk who c old new un doubts rose full = (rose refl, by doubts) where
    by : (new.doubts ≡ old.doubts) ⊎ IsDoubted who c old new → (new.doubts ≡ old.doubts) ⊎ IsDoubtOf old new c
    by (inl same) = inl same
    by (inr one) = inr (record {
      doubt = one.doubt;
      doubts = one.doubts;
      command = one.command;
      accepted = ap (λ (g : HostImage). is_accepted (answer g c).reply) un.host ∙ one.accepted;
    })
  why_of Full who c old new un doubts rose full = (
    doubts,
    record {
      book = old;
      kept = λ past is. is;
      history = sym un.history;
      host = sym un.host;
      no_room = full refl;
    },
  )
  why_of NoMemory who c old new un doubts rose full = doubts

  -- a call that was not answered
  pub unmade_of : (fault : CallFault) (who : Who) (c : Command) (old new : RunOf D) → IsUnanswered old.book new.book
      → Doubts who c old.book new.book fault
      → (fault ≡ Disk → Rose (law.faults old.book.journal.disk) (law.faults new.book.journal.disk))
      → (fault ≡ Full → HasNoRoom c old.book)
      → (fault ≢ Disk → law.faults new.book.journal.disk ≡ law.faults old.book.journal.disk) → IsUnmade law fault old new c
  unmade_of fault who c old new un doubts rose full fine = record {
    history = un.history;
    host = un.host;
    why = why_of fault who c old.book new.book un doubts rose full;
    faults = fine;
  }

  -- memory is wanting before anything was done
  pub stops_at_once : (r : RunOf D) (cs : List Made) → Stops law NoMemory r r cs
  stops_at_once r cs = record {
    added = [];
    history = sym (append-nil r.book.history);
    host = refl;
    reaches = record { commands = cs; steps = r.left; runs = λ rest h. h };
    why = no_memory refl;
    faults = λ other. refl;
  }

  stops_at : (fault : CallFault) (old mid new : RunOf D) (who : Who) (c : Command) (before after : List Made) (steps : ℕ)
      → mid.book ≡ old.book → IsUnmade law fault mid new c
      → ((e : Entry) (rest : List Entry) → Enters old.book.host who c e
      → IsRun (answer old.book.host e.command).host after steps rest → IsRun old.book.host before old.left (e ∷ rest))
      → Stops law fault old new before
  stops_at fault old mid new who c before after steps book unmade on =
      let host : new.book.host ≡ old.book.host = unmade.host ∙ ap (λ (b : BookOf D). b.host) book in
      let e = entry_of old.book.host who c in
      record {
        added = [];
        history = unmade.history ∙ ap (λ (b : BookOf D). b.history) book ∙ sym (append-nil old.book.history);
        host = host;
        reaches = record {
          commands = before;
          steps = old.left;
          runs = λ rest h. subst (λ g. IsRun g before old.left rest) host h;
        };
        why = unanswered fault (record {
          entry = e;
          reaches = record {
            commands = after;
            steps = steps;
            runs = λ rest h. on e rest (entry_enters old.book.host who c)
                (subst (λ g. IsRun (answer g c).host after steps rest) host h);
          };
        }) (subst (λ b. IsWhy law fault b new.book c) book unmade.why);
        faults = λ other. unmade.faults other ∙ ap (λ (b : BookOf D). law.faults b.journal.disk) book;
      }

  -- the step of the ready session is not answered
  pub stops_by_step : (fault : CallFault) (old mid new : RunOf D) (name : List ℕ) (cs : List Made) → mid.book ≡ old.book
      → old.left ≡ suc mid.left → ready old.book.host ≡ Some name
      → IsUnmade law fault mid new (Step name)
      → Stops law fault old new cs
  stops_by_step fault old mid new name cs book less is_ready unmade =
      stops_at fault old mid new Worker (Step name) cs cs mid.left book unmade (λ e rest enters h.
      subst (λ n. IsRun old.book.host cs n (e ∷ rest)) (sym less)
      (steps_on old.book.host cs mid.left e rest name is_ready enters h))

  -- the next command of the script is not answered
  pub stops_by_command : (fault : CallFault) (old new : RunOf D) (n : ℕ) (c : Command) (cs : List Made) → HasStepped old
      → IsUnmade law fault old new c
      → Stops law fault old new ((n, c) ∷ cs)
  stops_by_command fault old new n c cs stepped unmade =
      stops_at fault old old new (Client n) c ((n, c) ∷ cs) cs old.left refl unmade (λ e rest enters h.
      makes_on old.book.host (n, c) cs old.left e rest (stepped ((n, c) ∷ cs)) enters h)

  -- a run that went on stops then
  pub stops_further : (fault : CallFault) (old mid new : RunOf D) (before between : List Made)
      → Goes law old mid before between → GoesOn law old.book mid.book
      → Stops law fault mid new between → Stops law fault old new before
  stops_further fault old mid new before between a on s = record {
    added = a.added ++ s.added;
    history = s.history ∙ ap (λ h. h ++ s.added) a.history ∙ append_assoc old.book.history a.added s.added;
    host = s.host ∙ ap (λ g. replay g s.added) a.host ∙ sym (replay_append old.book.host a.added s.added);
    reaches = behind s.added new.book.host s.reaches;
    why = by fault s.why;
    faults = λ other. s.faults other ∙ a.faults;
  } where
    behind : (es : List Entry) (g : HostImage) → Reaches mid between es g → Reaches old before (a.added ++ es) g
    behind es g r = record {
      commands = r.commands;
      steps = r.steps;
      runs = λ rest h. subst (λ xs. IsRun old.book.host before old.left xs) (sym (append_assoc a.added es rest))
          (a.runs (es ++ rest) (r.runs rest h));
    }

    faces : Faces mid new between s.added → Faces old new before (a.added ++ s.added)
    faces f = record {
      entry = f.entry;
      reaches = subst (λ xs. Reaches old before xs (answer new.book.host f.entry.command).host)
          (sym (append_assoc a.added s.added (f.entry ∷ []))) (behind (s.added ++ f.entry ∷ []) _ f.reaches);
    }

    by : (x : CallFault) → Stopped law mid new between s.added x → Stopped law old new before (a.added ++ s.added) x
    by _ (unanswered x next why) =
        unanswered x (faces next) (why_later x old.book mid.book new.book next.entry.command on.kept on.later a.doubts why)
    by _ (no_memory same) = no_memory (same ∙ a.doubts)

  -- how a run ended, by the fault of its result
  pub ended_by : {T : Type 0} (old new : RunOf D) (all : List Made) (r : Result T CallFault) (o : Option CallFault)
      → o ≡ result_err r → OnOk r (Goes law old new all []) → OnOk r (HasStepped new)
      → IfErr r (λ fault. Stops law fault old new all)
      → HowEnded law old new all o
  ended_by old new all (Ok t) o is goes stepped stops =
      subst (HowEnded law old new all) (sym is) (goes, stepped)
  ended_by old new all (Err e) o is goes stepped stops =
      subst (HowEnded law old new all) (sym is) stops

-- ---- a run with workers

module _ {D : Type 0} (law : DiskLaw D) (old new : BookOf D) (s : Script) (budget : ℕ) (fault : Option CallFault)
    (r : Ran s budget (seen_of law old)
    (seen_of law new) fault) where
  pub on_in_threads : GoesOn law old new
  on_in_threads =
      record { kept = r.goes_on.kept; opened = r.goes_on.opened; later = r.goes_on.later; same = r.goes_on.same }

  pub how_in_threads : (workers : ℕ) → workers ≢ 0 → HowRan law old new s workers budget fault
  how_in_threads zero some = absurd (some refl)
  how_in_threads (suc more) some = r

-- before the first step
pub within_nothing : (entries : List Entry) (budget : ℕ) → entries ≡ [] → accepted_steps entries ≤ budget
within_nothing entries budget none = omega (arith, ap accepted_steps none)
