-- What a book is after a command, by the parts that it keeps.
use Rattle.std.proofs.Common.{◌≡◌, ◌≢◌, ◌∙◌, ◌⊎◌, ℕ, ◌+◌, ◌^◌, ◌-◌, ◌<◌, ◌≤◌, true, false, None, Some, List, [], ◌∷◌, ◌++◌, length, refl, sym, ap, subst}
use Rattle.sc_book.specs.Books.{BookOf, IsBook, first_head}
use Rattle.sc_book.specs.Confirming.{IsBodyOf}
use Rattle.sc_book.specs.Keeping.{IsSameLog, StoreDoubts, book_of}
use Rattle.sc_book.specs.declared.doubt.Doubt.{Doubt}
use Rattle.sc_book.specs.declared.fault.CallFault.{CallFault}
use Rattle.sc_book.specs.declared.fault.CallFault.TheVariants.{Disk, Full, NoMemory}
use Rattle.sc_book.specs.declared.log.Log.{Log}
use Rattle.sc_book.proofs.BookLemmas.{entered, failed, refused}
use Rattle.sc_codec.specs.Bodies.{Spells}
use Rattle.sc_machine.specs.Accepted.{is_accepted}
use Rattle.sc_machine.specs.Commands.{answer}
use Rattle.sc_machine.specs.Histories.{Tells}
use Rattle.sc_core.specs.HostStates.{HostOf}
use Rattle.sc_machine.proofs.AcceptedLemmas.{refused_changes_nothing}
use Rattle.sc_dev.specs.Causes.{Rose}
use Rattle.sc_dev.specs.Disks.{DiskLaw, DiskOf}
use Rattle.sc_journal.specs.Journals.{IsWithOrWithout, JournalOf, Keeps}
use Rattle.sc_journal.specs.Stops.{LeavesOnly}
use Rattle.sc_rooms.specs.Rooms.{PlacesOf}
use Rattle.sc_types.specs.declared.command.Command.{Command}
use Rattle.sc_types.specs.declared.history.Entry.{Entry}
use Rattle.sc_types.specs.declared.history.Who.{Who}

-- a book is what its parts are
pub same_book : {D : Type 0} (b c : BookOf D) → c.host ≡ b.host → c.opened ≡ b.opened → c.history ≡ b.history
    → c.start ≡ b.start → c.moments ≡ b.moments → c.doubts ≡ b.doubts → c.claims ≡ b.claims → c.journal ≡ b.journal → b ≡ c
same_book b c host opened history start moments doubts claims journal = λ k. record {
  host = sym host k;
  opened = sym opened k;
  history = sym history k;
  start = sym start k;
  moments = sym moments k;
  doubts = sym doubts k;
  claims = sym claims k;
  journal = sym journal k;
}

-- logs that hold the same
pub same_on : (one two three : Log) → IsSameLog one two → IsSameLog two three → IsSameLog one three
same_on one two three first second = record {
  history = second.history ∙ first.history;
  moments = second.moments ∙ first.moments;
  doubts = second.doubts ∙ first.doubts;
}

module _ {D : Type 0} (law : DiskLaw D)
    (only_now : (disk : D) (d : DiskOf) → law.moment disk < 2 ^ 64 - 1 → law.may_have_left disk (law.moment disk) d → law.may_leave disk d) where
  abbrev Is : List Command → BookOf D → Type 0
  Is past b = IsBook law past b

  -- the journal took no command
  pub not_stored : (past : List Command) (q : PlacesOf) (g h : HostOf) (o s : ℕ) (first mid last : Log) (i j : JournalOf D) (by : Who)
      (c : Command) (body : List ℕ) (fault : CallFault) → Is past (book_of g o s first q i) → h.image ≡ g.image
      → IsSameLog first mid → last.history.entries ≡ mid.history.entries → last.moments.items ≡ mid.moments.items
      → StoreDoubts by c mid last fault → fault ≢ NoMemory → (fault ≡ Full → j ≡ i) → j.next ≡ i.next
      → (j.doubt ≡ None) ⊎ (j.doubt ≡ Some body) → law.moment i.disk ≤ law.moment j.disk
      → ((bodies : List (List ℕ)) → Keeps law i first_head bodies → Keeps law j first_head bodies)
      → ((bodies : List (List ℕ)) → Keeps law i first_head bodies
      → LeavesOnly law i.disk j.disk (IsWithOrWithout first_head bodies body))
      → IsBodyOf c body → is_accepted (answer g.image c).reply ≡ true → Is past (book_of h o s last q j)
  not_stored past q g h o s first mid last i j by c body Disk is image same history moments doubts some full next doubt later kept any of granted =
      let x = doubts.doubt in
      let b : BookOf D = book_of g o s first q i in
      let told : is_accepted (answer g.image x.command).reply ≡ true =
      subst (λ (y : Command). is_accepted (answer g.image y).reply ≡ true) (sym doubts.command) granted in
      let before : x.before ≡ length first.history.entries =
      doubts.before ∙ ap (λ (es : List Entry). length es) same.history in
      subst (Is past) (same_book (record b { doubts = b.doubts ++ x ∷ []; journal = j }) (book_of h o s last q j) image refl
      (history ∙ same.history) refl (moments ∙ same.moments)
      (doubts.doubts ∙ ap (λ (ds : List Doubt). ds ++ x ∷ []) same.doubts) refl refl)
      (failed law only_now past b j x body is next doubt later kept any before
      (subst (Spells body) (sym doubts.command) of.spells) told)
  not_stored past q g h o s first mid last i j by c body Full is image same history moments doubts some full next doubt later kept any of granted =
      subst (Is past) (same_book (book_of g o s first q i) (book_of h o s last q j) image refl (history ∙ same.history) refl
      (moments ∙ same.moments) (doubts ∙ same.doubts) refl (full refl)) is
  not_stored past q g h o s first mid last i j by c body NoMemory is image same history moments doubts some full next doubt later kept any of granted =
      absurd (some refl)

  -- the journal took the command, and its entry was added
  pub stored : (past : List Command) (q : PlacesOf) (g h : HostOf) (o s : ℕ) (first mid end last : Log) (i j : JournalOf D) (c : Command)
      (e : Entry) (n : ℕ) (body : List ℕ) → Is past (book_of g o s first q i) → IsSameLog first mid → IsSameLog mid end
      → h.image ≡ (answer g.image c).host → last.history.entries ≡ end.history.entries ++ e ∷ []
      → last.moments.items ≡ end.moments.items ++ n ∷ [] → n ≡ law.moment j.disk → last.doubts.items ≡ end.doubts.items
      → e.command ≡ c → Tells e (answer g.image c) → j.doubt ≡ None → j.next ≡ i.next + 1
      → law.moment i.disk ≤ law.moment j.disk → Rose (law.moment i.disk) (law.moment j.disk)
      → ((bodies : List (List ℕ)) → Keeps law i first_head bodies
      → Keeps law j first_head (bodies ++ body ∷ []))
      → ((bodies : List (List ℕ)) → Keeps law i first_head bodies
      → LeavesOnly law i.disk j.disk (IsWithOrWithout first_head bodies body))
      → IsBodyOf c body → is_accepted (answer g.image c).reply ≡ true → Is past (book_of h o s last q j)
  stored past q g h o s first mid end last i j c e n body is one two image history moments time doubts command told none next later rose kept any of granted =
      let b : BookOf D = book_of g o s first q i in
      let back : c ≡ e.command = sym command in
      let as_told : Tells e (answer g.image e.command) = subst (λ (x : Command). Tells e (answer g.image x)) back told in
      let as_granted : is_accepted (answer g.image e.command).reply ≡ true =
      subst (λ (x : Command). is_accepted (answer g.image x).reply ≡ true) back granted in
      subst (Is past) (same_book (record b {
        host = (answer g.image e.command).host;
        history = b.history ++ e ∷ [];
        moments = b.moments ++ law.moment j.disk ∷ [];
        journal = j;
      }) (book_of h o s last q j) (image ∙ ap (λ (x : Command). (answer g.image x).host) back) refl
      (history ∙ ap (λ (es : List Entry). es ++ e ∷ []) (two.history ∙ one.history)) refl
      (moments ∙ (λ k. (two.moments ∙ one.moments) k ++ time k ∷ []))
      (doubts ∙ two.doubts ∙ one.doubts) refl refl)
      (entered law only_now past b j e body is none next as_told as_granted
      (subst (Spells body) back of.spells) later rose kept any)

  -- the host refused the command, and its entry was added
  pub not_accepted : (past : List Command) (q : PlacesOf) (g h : HostOf) (o s : ℕ) (first mid last : Log) (i : JournalOf D) (c : Command)
      (e : Entry) (n : ℕ) → Is past (book_of g o s first q i) → IsSameLog first mid → h.image ≡ g.image
      → last.history.entries ≡ mid.history.entries ++ e ∷ [] → last.moments.items ≡ mid.moments.items ++ n ∷ []
      → n ≡ law.moment i.disk → last.doubts.items ≡ mid.doubts.items → e.command ≡ c → Tells e (answer g.image c)
      → i.doubt ≡ None → is_accepted (answer g.image c).reply ≡ false → Is past (book_of h o s last q i)
  not_accepted past q g h o s first mid last i c e n is one image history moments time doubts command told none denied =
      let b : BookOf D = book_of g o s first q i in
      let back : c ≡ e.command = sym command in
      let as_told : Tells e (answer g.image e.command) = subst (λ (x : Command). Tells e (answer g.image x)) back told in
      let as_denied : is_accepted (answer g.image e.command).reply ≡ false =
      subst (λ (x : Command). is_accepted (answer g.image x).reply ≡ false) back denied in
      let stays = refused_changes_nothing g.image e.command as_denied in
      subst (Is past) (same_book (record b {
        host = (answer g.image e.command).host;
        history = b.history ++ e ∷ [];
        moments = b.moments ++ law.moment i.disk ∷ [];
      }) (book_of h o s last q i) (image ∙ sym stays.host) refl
      (history ∙ ap (λ (es : List Entry). es ++ e ∷ []) one.history) refl
      (moments ∙ (λ k. one.moments k ++ time k ∷ [])) (doubts ∙ one.doubts) refl refl)
      (refused law only_now past b e is none as_told as_denied)
