-- What a book keeps from one call to the next.
use Rattle.std.proofs.Common.{◌≡◌, ◌∙◌, ◌⊎◌, inl, inr, ℕ, zero, suc, ◌+◌, ◌-◌, ◌^◌, ◌<◌, ◌≤◌, All, Bool, true, false, Option, None, Some, List, [], ◌∷◌, ◌++◌, append_assoc, if◌then◌else◌, length, slice_get, refl, sym, ap, subst, arith, length-append}
use Rattle.std.specs.List.{Contains}
use Rattle.std.proofs.Math.Seq.{take-length}
use Rattle.std.proofs.lemmas.List.{append-nil, take-append-le}
use Rattle.std.proofs.lemmas.List.Elements.{All-cons, All-head, All-push, All-tail, Contains-append_left, Contains-append_right}
use Rattle.std.proofs.lemmas.Option.{slice_get_within}
use Rattle.sc_book.specs.Books.{BookOf, HoldsAll, IsAt, IsBook, IsInDoubt, IsLastDoubt, IsSince, Rise, count_after, first_head, host_after, opening}
use Rattle.sc_book.specs.Images.{Spell, StandsFor}
use Rattle.sc_book.specs.Receipts.{IsAllOrDoubted, IsAllOrMore, IsDuring}
use Rattle.sc_book.specs.declared.doubt.Doubt.{Doubt}
use Rattle.sc_codec.specs.Bodies.{Spells}
use Rattle.sc_machine.specs.Accepted.{AreAccepted, accepted_commands, after, is_accepted}
use Rattle.sc_machine.specs.Commands.{answer}
use Rattle.sc_machine.specs.Histories.{IsLegal, Tells, replay}
use Rattle.sc_machine.specs.Hosts.{empty_host}
use Rattle.sc_machine.proofs.AcceptedLemmas.{accepted_append, accepted_more, after_append, after_counts, legal_accepted, legal_more, refused_changes_nothing, replay_append, replay_counts, replay_is_after}
use Rattle.sc_dev.specs.Causes.{Rose}
use Rattle.sc_dev.specs.Disks.{DiskLaw, DiskOf}
use Rattle.sc_journal.specs.Journals.{IsAsDoubted, IsWithOrWithout, JournalOf, Keeps, StandsAt}
use Rattle.sc_journal.specs.Stops.{LeavesOnly}
use Rattle.sc_journal.specs.Texts.{Holds}
use Rattle.sc_types.specs.declared.command.Command.{Command}
use Rattle.sc_types.specs.declared.history.Entry.{Entry}
use Rattle.sc_types.specs.declared.host.HostImage.{HostImage}

-- one more body spells one more command
pub spell_push : (bodies : List (List ℕ)) (cs : List Command) (body : List ℕ) (c : Command)
    → Spell bodies cs → Spells body c → Spell (bodies ++ body ∷ []) (cs ++ c ∷ [])
spell_push [] [] body c all one = (one, tt)
spell_push [] (x ∷ xs) body c all one = absurd all
spell_push (b ∷ bs) [] body c all one = absurd all
spell_push (b ∷ bs) (x ∷ xs) body c all one = (all.0, spell_push bs xs body c all.1 one)

pub length_spell : (bodies : List (List ℕ)) (cs : List Command) → Spell bodies cs → length bodies ≡ length cs
length_spell [] [] all = refl
length_spell [] (x ∷ xs) all = absurd all
length_spell (b ∷ bs) [] all = absurd all
length_spell (b ∷ bs) (x ∷ xs) all = ap suc (length_spell bs xs all.1)

-- a journal of these commands stands for their number and for the host after them
pub stands : (d : DiskOf) (bodies : List (List ℕ)) (cs : List Command) (n : ℕ) (g : HostImage)
    → Holds first_head bodies d.journal → Spell bodies cs → AreAccepted empty_host cs → n ≡ length cs
    → g ≡ after empty_host cs → StandsFor d n g
stands d bodies cs n g holds spell accepted count host = record {
  head = first_head;
  base = empty_host;
  is_base = record { first = refl; empty = refl };
  bodies = bodies;
  commands = cs;
  holds = holds;
  spell = spell;
  accepted = accepted;
  host = host;
  count = omega (arith, count);
}

-- ---- images

-- the host after all entries is what the history leaves
pub after_all : (past : List Command) (h : List Entry) → host_after past h (length h) ≡ replay (opening past) h
after_all past h = ap (replay (opening past)) (take-length h)

pub count_all : (past : List Command) (h : List Entry)
    → count_after past h (length h) ≡ length past + length (accepted_commands h)
count_all past h = ap (λ (es : List Entry). length past + length (accepted_commands es)) (take-length h)

-- what a legal history leaves, by the commands from the empty host on
pub from_empty : (past : List Command) (h : List Entry) → IsLegal (opening past) h
    → replay (opening past) h ≡ after empty_host (past ++ accepted_commands h)
from_empty past h legal =
    replay_is_after (opening past) h legal ∙ sym (after_append empty_host past (accepted_commands h))

pub all_accepted : (past : List Command) (h : List Entry) → AreAccepted empty_host past → IsLegal (opening past) h
    → AreAccepted empty_host (past ++ accepted_commands h)
all_accepted past h before legal =
    accepted_more empty_host past (accepted_commands h) before (legal_accepted (opening past) h legal)

-- a journal of what was accepted stands for all entries
pub stands_all : (past : List Command) (h : List Entry) (bodies : List (List ℕ)) (d : DiskOf)
    → AreAccepted empty_host past → IsLegal (opening past) h → Spell bodies (past ++ accepted_commands h)
    → Holds first_head bodies d.journal → StandsFor d (count_after past h (length h)) (host_after past h (length h))
stands_all past h bodies d before legal spell holds =
    stands d bodies (past ++ accepted_commands h) _ _ holds spell (all_accepted past h before legal)
    (count_all past h ∙ sym (length-append past (accepted_commands h))) (after_all past h ∙ from_empty past h legal)

-- and for a command more, where it holds its body too
pub stands_more : (past : List Command) (h : List Entry) (bodies : List (List ℕ)) (body : List ℕ) (c : Command) (d : DiskOf)
    → AreAccepted empty_host past → IsLegal (opening past) h → Spell bodies (past ++ accepted_commands h) → Spells body c
    → is_accepted (answer (replay (opening past) h) c).reply ≡ true → Holds first_head (bodies ++ body ∷ []) d.journal
    → StandsFor d (count_after past h (length h) + 1) (answer (replay (opening past) h) c).host
stands_more past h bodies body c d before legal spell one granted holds =
    let all = past ++ accepted_commands h in
    let same = from_empty past h legal in
    stands d (bodies ++ body ∷ []) (all ++ c ∷ []) _ _ holds (spell_push bodies all body c spell one)
    (accepted_more empty_host all (c ∷ []) (all_accepted past h before legal)
    (sym (ap (λ (g : HostImage). is_accepted (answer g c).reply) same) ∙ granted, tt))
    (omega (arith, count_all past h, length-append past (accepted_commands h), length-append all (c ∷ [])))
    (ap (λ (g : HostImage). (answer g c).host) same ∙ sym (after_append empty_host all (c ∷ [])))

-- an image stands for all entries, so for as many as are asked at least
pub is_at_all : (past : List Command) (h : List Entry) (k : ℕ) (d : DiskOf) → k ≤ length h
    → StandsFor d (count_after past h (length h)) (host_after past h (length h)) → IsAt past h k d
is_at_all past h k d few stands = record {
  entries = length h;
  least = few;
  most = omega arith;
  stands = stands;
}

-- the entries that an image stands for stay the first ones
pub is_at_more : (past : List Command) (h : List Entry) (e : Entry) (k : ℕ) (d : DiskOf) → IsAt past h k d
    → IsAt past (h ++ e ∷ []) k d
is_at_more past h e k d at = record {
  entries = at.entries;
  least = at.least;
  most = omega (arith, at.most, length-append h (e ∷ []));
  stands = subst (λ (es : List Entry). StandsFor d (length past + length (accepted_commands es)) (replay (opening past) es))
      (sym (take-append-le at.entries h (e ∷ []) at.most)) at.stands;
}

pub in_doubt_more : (past : List Command) (h : List Entry) (ds : List Doubt) (e : Entry) (k : ℕ) (d : DiskOf)
    → IsInDoubt past h ds k d → IsInDoubt past (h ++ e ∷ []) ds k d
in_doubt_more past h ds e k d at = record {
  doubt = at.doubt;
  one = at.one;
  least = at.least;
  most = omega (arith, at.most, length-append h (e ∷ []));
  stands = subst (λ (es : List Entry). StandsFor d (length past + length (accepted_commands es) + 1)
      (answer (replay (opening past) es) at.doubt.command).host) (sym (take-append-le at.doubt.before h (e ∷ []) at.most)) at.stands;
}

pub since_more : (past : List Command) (h : List Entry) (ds : List Doubt) (e : Entry) (k : ℕ) (d : DiskOf)
    → IsSince past h ds k d → IsSince past (h ++ e ∷ []) ds k d
since_more past h ds e k d (inl at) = inl (is_at_more past h e k d at)
since_more past h ds e k d (inr at) = inr (in_doubt_more past h ds e k d at)

-- one more command in doubt
pub since_doubt : (past : List Command) (h : List Entry) (ds : List Doubt) (x : Doubt) (k : ℕ) (d : DiskOf)
    → IsSince past h ds k d → IsSince past h (ds ++ x ∷ []) k d
since_doubt past h ds x k d (inl at) = inl at
since_doubt past h ds x k d (inr at) = inr (record {
  doubt = at.doubt;
  one = Contains-append_left ds (x ∷ []) at.doubt at.one;
  least = at.least;
  most = at.most;
  stands = at.stands;
})

-- the last of a list is in it
pub last_one : (ds : List Doubt) (x : Doubt) → Contains (ds ++ x ∷ []) x
last_one ds x = Contains-append_right ds (x ∷ []) x (0, omega arith, refl)

-- ---- moments

pub rise_length : (m : ℕ) (h : List Entry) (ms : List ℕ) → Rise m h ms → length ms ≡ length h
rise_length m [] [] rise = refl
rise_length m [] (n ∷ ns) rise = absurd rise
rise_length m (e ∷ es) [] rise = absurd rise
rise_length m (e ∷ es) (n ∷ ns) rise = ap suc (rise_length n es ns rise.1.1)

rose_later : (m t n : ℕ) → m ≤ t → Rose t n → Rose m n
rose_later m t n before rose = omega (arith, before, rose)

-- the moment of one more entry
pub rise_push : (m : ℕ) (h : List Entry) (ms : List ℕ) (e : Entry) (t n : ℕ) → Rise m h ms → All (λ x. x ≤ t) (m ∷ ms)
    → t ≤ n → (is_accepted e.reply ≡ true → Rose t n) → Rise m (h ++ e ∷ []) (ms ++ n ∷ [])
rise_push m [] [] e t n rise reached later rose =
    let first = All-head (λ x. x ≤ t) m [] reached in
    (omega (arith, first, later), (λ granted. rose_later m t n first (rose granted), tt))
rise_push m [] (x ∷ xs) e t n rise reached later rose = absurd rise
rise_push m (f ∷ fs) [] e t n rise reached later rose = absurd rise
rise_push m (f ∷ fs) (x ∷ xs) e t n rise reached later rose =
    (rise.0, (rise.1.0, rise_push x fs xs e t n rise.1.1 (All-tail (λ y. y ≤ t) m (x ∷ xs) reached) later rose))

-- what stands in a list with one more item
get_push : (xs : List ℕ) (x k m : ℕ) → slice_get (xs ++ x ∷ []) k ≡ Some m
    → (slice_get xs k ≡ Some m) ⊎ ((k ≡ length xs) × (m ≡ x))
get_push [] x zero m at = let same : x ≡ m = cc in inr (refl, sym same)
get_push [] x (suc k) m at = let none : ◌≡◌ {A = Option ℕ} None (Some m) = at in absurd (cc)
get_push (y ∷ ys) x zero m at = inl at
get_push (y ∷ ys) x (suc k) m at = further (get_push ys x k m at) where
  further : (slice_get ys k ≡ Some m) ⊎ ((k ≡ length ys) × (m ≡ x))
      → (slice_get (y ∷ ys) (suc k) ≡ Some m) ⊎ ((suc k ≡ length (y ∷ ys)) × (m ≡ x))
  further (inl there) = inl there
  further (inr last) = inr (ap suc last.0, last.1)

-- each item of a list, by its place
at_place : (P : ℕ → Type 0) (xs : List ℕ) (k m : ℕ) → All P xs → slice_get xs k ≡ Some m → P m
at_place P [] k m all at = let none : ◌≡◌ {A = Option ℕ} None (Some m) = at in absurd (cc)
at_place P (x ∷ xs) zero m all at = let same : x ≡ m = cc in subst P same (All-head P x xs all)
at_place P (x ∷ xs) (suc k) m all at = at_place P xs k m (All-tail P x xs all) at

later_all : (ms : List ℕ) (s t : ℕ) → s ≤ t → All (λ m. m ≤ s) ms → All (λ m. m ≤ t) ms
later_all ms s t later all = λ i d within. omega (arith, later, all i d within)

-- ---- calls of a disk

from_either : {A B C : Type 0} → (A → C) → (B → C) → A ⊎ B → C
from_either f g (inl a) = f a
from_either f g (inr b) = g b

accepted_one : (e : Entry) → is_accepted e.reply ≡ true → accepted_commands (e ∷ []) ≡ e.command ∷ []
accepted_one e granted = ap (λ (b : Bool). if b then e.command ∷ [] else []) granted

accepted_none : (e : Entry) → is_accepted e.reply ≡ false → accepted_commands (e ∷ []) ≡ []
accepted_none e denied = ap (λ (b : Bool). if b then e.command ∷ [] else []) denied

module _ {D : Type 0} (law : DiskLaw D)
    (only_now : (disk : D) (d : DiskOf) → law.moment disk < 2 ^ 64 - 1 → law.may_have_left disk (law.moment disk) d → law.may_leave disk d) where
  -- no call was made
  pub unmoved : (disk : D) (P : DiskOf → Type 0) → ((d : DiskOf) → law.may_leave disk d → P d) → LeavesOnly law disk disk P
  unmoved disk P all = record {
    later = omega arith;
    each = λ small d was. all d (only_now disk d small was);
    before = λ t d early was. inl was;
  }

  -- what holds of each image holds of more
  pub leaves_more : (old new : D) (P Q : DiskOf → Type 0) → LeavesOnly law old new P → ((d : DiskOf) → P d → Q d)
      → LeavesOnly law old new Q
  leaves_more old new P Q only wider = record {
    later = only.later;
    each = λ small d was. wider d (only.each small d was);
    before = λ t d early was. from_either (λ x. inl x) (λ p. inr (wider d p)) (only.before t d early was);
  }

  -- one call after another
  pub leaves_both : (old mid new : D) (P : DiskOf → Type 0) → LeavesOnly law old mid P
      → LeavesOnly law mid new P → LeavesOnly law old new P
  leaves_both old mid new P one two = record {
    later = omega (arith, one.later, two.later);
    each = λ small d was.
        from_either (λ before. one.each small d before) (λ p. p) (two.before (law.moment old) d one.later was);
    before = λ t d early was. from_either (λ x. one.before t d early x) (λ p. inr p)
        (two.before t d (omega (arith, early, one.later)) was);
  }

  -- ---- what a book keeps

  -- a book whose journal held these commands
  abbrev Is : List Command → BookOf D → Type 0
  Is past b = IsBook law past b

  -- since each of these moments a stop leaves entries of the history
  abbrev Since : List Command → List Entry → List Doubt → List ℕ → D → Type 0
  Since past h ds ms disk = (k m : ℕ) → slice_get ms k ≡ Some m → m < 2 ^ 64 - 1 → (d : DiskOf) → law.may_have_left disk m d
      → IsSince past h ds k d

  -- a call of which a stop leaves what the history allows
  since_later : (past : List Command) (h i : List Entry) (ds es : List Doubt) (ms : List ℕ) (old new : D)
      (P : DiskOf → Type 0) → All (λ m. m ≤ law.moment old) ms → LeavesOnly law old new P → length ms ≡ suc (length h)
      → ((k : ℕ) (d : DiskOf) → k ≤ length h → P d → IsSince past i es k d)
      → ((k : ℕ) (d : DiskOf) → IsSince past h ds k d → IsSince past i es k d)
      → Since past h ds ms old → Since past i es ms new
  since_later past h i ds es ms old new P reached only long during wider since = λ k m at small d was.
      let within = slice_get_within ms k m at in
      let few : k ≤ length h = omega (arith, within, long) in
      from_either (λ before. wider k d (since k m at small d before)) (λ now. during k d few now)
      (only.before m d (at_place (λ x. x ≤ law.moment old) ms k m reached at) was)

  -- the moment of the last entry
  since_push : (past : List Command) (h : List Entry) (ds : List Doubt) (ms : List ℕ) (disk : D)
      → length ms ≡ length h → ((d : DiskOf) → law.may_leave disk d → IsSince past h ds (length h) d)
      → Since past h ds ms disk → Since past h ds (ms ++ law.moment disk ∷ []) disk
  since_push past h ds ms disk long now since = λ k m at small d was. from_either
      (λ there. since k m there small d was)
      (λ last. let few : law.moment disk < 2 ^ 64 - 1 = omega (arith, small, last.1) in
      let here : law.may_have_left disk (law.moment disk) d = subst (λ n. law.may_have_left disk n d) last.1 was in
      subst (λ n. IsSince past h ds n d) (sym (last.0 ∙ long)) (now d (only_now disk d few here)))
      (get_push ms (law.moment disk) k m at)

  -- an image of a settled journal stands for all entries
  pub holds_all : (past : List Command) (b : BookOf D) → Is past b → (all : HoldsAll law b.journal (past ++ accepted_commands b.history))
      → (d : DiskOf) → Holds first_head all.bodies d.journal
      → StandsFor d (count_after past b.history (length b.history)) (host_after past b.history (length b.history))
  holds_all past b is all d holds = stands_all past b.history all.bodies d is.past_accepted is.legal all.spell holds

  -- and one with the body of another command for that too
  pub holds_more : (past : List Command) (b : BookOf D) → Is past b
      → (all : HoldsAll law b.journal (past ++ accepted_commands b.history)) → (body : List ℕ) (c : Command) → Spells body c
      → is_accepted (answer b.host c).reply ≡ true → (d : DiskOf) → Holds first_head (all.bodies ++ body ∷ []) d.journal
      → StandsFor d (count_after past b.history (length b.history) + 1) (answer b.host c).host
  holds_more past b is all body c spells granted d holds =
      let same : b.host ≡ replay (opening past) b.history = is.host in
      subst (λ (g : HostImage). StandsFor d (count_after past b.history (length b.history) + 1) (answer g c).host) (sym same)
      (stands_more past b.history all.bodies body c d is.past_accepted is.legal all.spell spells
      (ap (λ (g : HostImage). is_accepted (answer g c).reply) (sym same) ∙ granted) holds)

  -- an image that has the body of a command in doubt
  in_doubt : (past : List Command) (b : BookOf D) → Is past b → (x : Doubt) (ds : List Doubt) → Contains ds x
      → x.before ≡ length b.history → (d : DiskOf) (k : ℕ) → k ≤ length b.history
      → StandsFor d (count_after past b.history (length b.history) + 1) (answer b.host x.command).host
      → IsInDoubt past b.history ds k d
  in_doubt past b is x ds one last d k few stands =
      let h = b.history in
      let same : b.host ≡ host_after past h (length h) = is.host ∙ sym (after_all past h) in
      record {
        doubt = x;
        one = one;
        least = omega (arith, few, last);
        most = omega (arith, last);
        stands = subst (λ n. StandsFor d (count_after past h n + 1) (answer (host_after past h n) x.command).host) (sym last)
            (subst (λ (g : HostImage). StandsFor d (count_after past h (length h) + 1) (answer g x.command).host) same stands);
      }

  -- what a stop leaves while a doubt is taken back
  as_doubted : (past : List Command) (b : BookOf D) → Is past b
      → (all : HoldsAll law b.journal (past ++ accepted_commands b.history)) → (o : Option (List ℕ)) → b.journal.doubt ≡ o
      → (d : DiskOf) (k : ℕ) → k ≤ length b.history → IsAsDoubted o first_head all.bodies d
      → IsSince past b.history b.doubts k d
  as_doubted past b is all None none d k few holds =
      inl (is_at_all past b.history k d few (holds_all past b is all d holds))
  as_doubted past b is all (Some body) some d k few holds = from_either
      (λ without. inl (is_at_all past b.history k d few (holds_all past b is all d without)))
      (λ with_it. let last = is.doubt body some in
      inr (in_doubt past b is last.doubt b.doubts last.one last.last d k few
      (holds_more past b is all body last.doubt.command last.spells last.accepted d with_it)))
      holds

  moments_long : (past : List Command) (b : BookOf D) → Is past b → length (b.start ∷ b.moments) ≡ suc (length b.history)
  moments_long past b is = ap suc (rise_length b.start b.history b.moments is.rise)

  pub during_settle : (past : List Command) (b : BookOf D) → Is past b → law.tells → (disk : D)
      → ((bodies : List (List ℕ)) → Keeps law b.journal first_head bodies
      → LeavesOnly law b.journal.disk disk (IsAsDoubted b.journal.doubt first_head bodies))
      → LeavesOnly law b.journal.disk disk (IsAllOrDoubted past b)
  during_settle past b is told disk any =
      let all = is.stored told in
      leaves_more b.journal.disk disk _ _ (any all.bodies all.keeps)
      (λ d p. as_doubted past b is all b.journal.doubt refl d (length b.history) (omega arith) p)

  pub during_store : (past : List Command) (b : BookOf D) → Is past b → law.tells → (disk : D) (body : List ℕ) (c : Command)
      → Spells body c → is_accepted (answer b.host c).reply ≡ true
      → ((bodies : List (List ℕ)) → Keeps law b.journal first_head bodies
      → LeavesOnly law b.journal.disk disk (IsWithOrWithout first_head bodies body))
      → LeavesOnly law b.journal.disk disk (IsAllOrMore past b c)
  during_store past b is told disk body c spells granted any =
      let all = is.stored told in
      leaves_more b.journal.disk disk _ _ (any all.bodies all.keeps)
      (λ d p. from_either
      (λ without. inl (is_at_all past b.history (length b.history) d (omega arith) (holds_all past b is all d without)))
      (λ with_it. inr (holds_more past b is all body c spells granted d with_it)) p)

  -- the parts of a call, one after another
  pub during_first : (past : List Command) (b : BookOf D) (c : Command) (disk : D)
      → LeavesOnly law b.journal.disk disk (IsAllOrDoubted past b)
      → LeavesOnly law b.journal.disk disk (IsDuring past b c)
  during_first past b c disk only = leaves_more b.journal.disk disk _ _ only
      (λ d p. from_either (λ all. inl all) (λ doubted. inr (inl doubted)) p)

  pub during_both : (past : List Command) (b m : BookOf D) (c : Command) (disk : D) → m ≡ record b { journal = m.journal }
      → LeavesOnly law b.journal.disk m.journal.disk (IsAllOrDoubted past b)
      → LeavesOnly law m.journal.disk disk (IsAllOrMore past m c)
      → LeavesOnly law b.journal.disk disk (IsDuring past b c)
  during_both past b m c disk same one two =
      let as_before : LeavesOnly law m.journal.disk disk (IsAllOrMore past (record b { journal = m.journal }) c) =
      subst (λ (x : BookOf D). LeavesOnly law m.journal.disk disk (IsAllOrMore past x c)) same two in
      leaves_both b.journal.disk m.journal.disk disk _ (during_first past b c m.journal.disk one)
      (leaves_more m.journal.disk disk _ _ as_before
      (λ d p. from_either (λ all. inl all) (λ more. inr (inr more)) p))

  -- where no call is made and nothing is in doubt, a stop leaves what was accepted
  pub during_none : (past : List Command) (b : BookOf D) → Is past b → law.tells → b.journal.doubt ≡ None → (c : Command)
      → LeavesOnly law b.journal.disk b.journal.disk (IsAllOrMore past b c)
  during_none past b is told none c = unmoved b.journal.disk _ (λ d leaves_it.
      let all = is.stored told in
      let holds = subst (λ (o : Option (List ℕ)). StandsAt o first_head all.bodies d) none (all.keeps.images d leaves_it) in
      inl (is_at_all past b.history (length b.history) d (omega arith) (holds_all past b is all d holds)))

  -- the journal's next number is one above the commands that the host counts
  pub counted : (past : List Command) (b : BookOf D) → Is past b → b.host.commands + 1 ≡ b.journal.next
  counted past b is =
      let all = replay_counts (opening past) b.history is.legal in
      let first = after_counts empty_host past is.past_accepted in
      let same : b.host.commands ≡ (replay (opening past) b.history).commands = ap (λ (g : HostImage). g.commands) is.host in
      omega (arith, same, all, first, is.next)

  -- taking back a doubt, or failing to
  pub settled : (past : List Command) (b : BookOf D) (j : JournalOf D) → Is past b → j.next ≡ b.journal.next
      → (j.doubt ≡ None) ⊎ (j.doubt ≡ b.journal.doubt) → law.moment b.journal.disk ≤ law.moment j.disk
      → ((bodies : List (List ℕ)) → Keeps law b.journal first_head bodies → Keeps law j first_head bodies)
      → ((bodies : List (List ℕ)) → Keeps law b.journal first_head bodies
      → LeavesOnly law b.journal.disk j.disk (IsAsDoubted b.journal.doubt first_head bodies))
      → Is past (record b { journal = j })
  settled past b j is next doubt later kept any = record {
    opened = is.opened;
    past_accepted = is.past_accepted;
    legal = is.legal;
    host = is.host;
    next = next ∙ is.next;
    stored = λ told. let all = is.stored told in
        record { bodies = all.bodies; spell = all.spell; keeps = kept all.bodies all.keeps };
    doubt = λ body some. from_either
        (λ (none : j.doubt ≡ None). never body (sym none ∙ some))
        (λ (same : j.doubt ≡ b.journal.doubt). moved (is.doubt body (sym same ∙ some))) doubt;
    rise = is.rise;
    reached = later_all (b.start ∷ b.moments) _ _ later is.reached;
    images = λ told. let all = is.stored told in
        since_later past b.history b.history b.doubts b.doubts (b.start ∷ b.moments) b.journal.disk j.disk _ is.reached
        (any all.bodies all.keeps) (moments_long past b is)
        (λ k d few p. as_doubted past b is all b.journal.doubt refl d k few p) (λ k d x. x) (is.images told);
  }
    where
      never : {T : Type 0} (body : List ℕ) → ◌≡◌ {A = Option (List ℕ)} None (Some body) → T
      never body same = absurd (cc)

      moved : {body : List ℕ} → IsLastDoubt b body → IsLastDoubt (record b { journal = j }) body
      moved x = record { doubt = x.doubt; one = x.one; last = x.last; spells = x.spells; accepted = x.accepted }

  -- a fault that left a command in doubt
  pub failed : (past : List Command) (b : BookOf D) (j : JournalOf D) (x : Doubt) (body : List ℕ) → Is past b
      → j.next ≡ b.journal.next → (j.doubt ≡ None) ⊎ (j.doubt ≡ Some body) → law.moment b.journal.disk ≤ law.moment j.disk
      → ((bodies : List (List ℕ)) → Keeps law b.journal first_head bodies → Keeps law j first_head bodies)
      → ((bodies : List (List ℕ)) → Keeps law b.journal first_head bodies
      → LeavesOnly law b.journal.disk j.disk (IsWithOrWithout first_head bodies body))
      → x.before ≡ length b.history → Spells body x.command → is_accepted (answer b.host x.command).reply ≡ true
      → Is past (record b { doubts = b.doubts ++ x ∷ []; journal = j })
  failed past b j x body is next doubt later kept any last spells granted =
      let there : Contains (b.doubts ++ x ∷ []) x = last_one b.doubts x in
      record {
        opened = is.opened;
        past_accepted = is.past_accepted;
        legal = is.legal;
        host = is.host;
        next = next ∙ is.next;
        stored = λ told. let all = is.stored told in
            record { bodies = all.bodies; spell = all.spell; keeps = kept all.bodies all.keeps };
        doubt = λ other some. from_either
            (λ (none : j.doubt ≡ None). let denied : ◌≡◌ {A = Option (List ℕ)} None (Some other) = sym none ∙ some in absurd (cc))
            (λ (same : j.doubt ≡ Some body). let is_body : ◌≡◌ {A = Option (List ℕ)} (Some body) (Some other) = sym same ∙ some in
            let equal : body ≡ other = cc in
            record { doubt = x; one = there; last = last; spells = subst (λ (y : List ℕ). Spells y x.command) equal spells; accepted = granted })
            doubt;
        rise = is.rise;
        reached = later_all (b.start ∷ b.moments) _ _ later is.reached;
        images = λ told. let all = is.stored told in
            since_later past b.history b.history b.doubts (b.doubts ++ x ∷ []) (b.start ∷ b.moments) b.journal.disk j.disk _ is.reached
            (any all.bodies all.keeps) (moments_long past b is)
            (λ k d few p. from_either
            (λ without. inl (is_at_all past b.history k d few (holds_all past b is all d without)))
            (λ with_it. inr (in_doubt past b is x (b.doubts ++ x ∷ []) there last d k few
            (holds_more past b is all body x.command spells granted d with_it))) p)
            (λ k d y. since_doubt past b.history b.doubts x k d y) (is.images told);
      }

  -- an entry of an accepted command, whose body the journal holds
  pub entered : (past : List Command) (b : BookOf D) (j : JournalOf D) (e : Entry) (body : List ℕ) → Is past b
      → j.doubt ≡ None → j.next ≡ b.journal.next + 1 → Tells e (answer b.host e.command)
      → is_accepted (answer b.host e.command).reply ≡ true → Spells body e.command → law.moment b.journal.disk ≤ law.moment j.disk
      → Rose (law.moment b.journal.disk) (law.moment j.disk)
      → ((bodies : List (List ℕ)) → Keeps law b.journal first_head bodies
      → Keeps law j first_head (bodies ++ body ∷ []))
      → ((bodies : List (List ℕ)) → Keeps law b.journal first_head bodies
      → LeavesOnly law b.journal.disk j.disk (IsWithOrWithout first_head bodies body))
      → Is past (record b {
        host = (answer b.host e.command).host;
        history = b.history ++ e ∷ [];
        moments = b.moments ++ law.moment j.disk ∷ [];
        journal = j;
      })
  entered past b j e body is none next told granted spells later rose kept any =
      let h = b.history in
      let i = h ++ e ∷ [] in
      let g = opening past in
      let tells_now : Tells e (answer (replay g h) e.command) =
      subst (λ (x : HostImage). Tells e (answer x e.command)) is.host told in
      let legal : IsLegal g i = legal_more g h (e ∷ []) is.legal (tells_now, tt) in
      let granted_told : is_accepted e.reply ≡ true = ap is_accepted told.reply ∙ granted in
      let more : accepted_commands i ≡ accepted_commands h ++ e.command ∷ [] =
      accepted_append h (e ∷ []) ∙ ap (λ (cs : List Command). accepted_commands h ++ cs) (accepted_one e granted_told) in
      let joined : past ++ accepted_commands i ≡ (past ++ accepted_commands h) ++ e.command ∷ [] =
      ap (λ (cs : List Command). past ++ cs) more ∙ sym (append_assoc past (accepted_commands h) (e.command ∷ [])) in
      let spell : (bodies : List (List ℕ)) → Spell bodies (past ++ accepted_commands h)
      → Spell (bodies ++ body ∷ []) (past ++ accepted_commands i) =
      λ bodies all. subst (Spell (bodies ++ body ∷ [])) (sym joined)
      (spell_push bodies (past ++ accepted_commands h) body e.command all spells) in
      let stands_now : (bodies : List (List ℕ)) → Spell bodies (past ++ accepted_commands h) → (d : DiskOf)
      → Holds first_head (bodies ++ body ∷ []) d.journal → StandsFor d (count_after past i (length i)) (host_after past i (length i)) =
      λ bodies all d holds. stands_all past i (bodies ++ body ∷ []) d is.past_accepted legal (spell bodies all) holds in
      let long : length i ≡ suc (length h) = omega (arith, length-append h (e ∷ [])) in
      record {
        opened = is.opened;
        past_accepted = is.past_accepted;
        legal = legal;
        host = ap (λ (x : HostImage). (answer x e.command).host) is.host ∙ sym (replay_append g h (e ∷ []));
        next = omega (arith, next, is.next, ap length more, length-append (accepted_commands h) (e.command ∷ []));
        stored = λ told. let all = is.stored told in record {
          bodies = all.bodies ++ body ∷ [];
          spell = spell all.bodies all.spell;
          keeps = kept all.bodies all.keeps;
        };
        doubt = λ other some. let denied : ◌≡◌ {A = Option (List ℕ)} None (Some other) = sym none ∙ some in absurd (cc);
        rise = rise_push b.start h b.moments e (law.moment b.journal.disk) (law.moment j.disk) is.rise is.reached later (λ _. rose);
        reached = All-push (λ m. m ≤ law.moment j.disk) (b.start ∷ b.moments) (law.moment j.disk)
            (later_all (b.start ∷ b.moments) _ _ later is.reached) (omega arith);
        images = λ told. let all = is.stored told in
            since_push past i b.doubts (b.start ∷ b.moments) j.disk (moments_long past b is ∙ sym long)
            (λ d leaves_it. let holds = subst (λ (o : Option (List ℕ)). StandsAt o first_head (all.bodies ++ body ∷ []) d) none
            ((kept all.bodies all.keeps).images d leaves_it) in
            inl (is_at_all past i (length i) d (omega arith) (stands_now all.bodies all.spell d holds)))
            (since_later past h i b.doubts b.doubts (b.start ∷ b.moments) b.journal.disk j.disk _ is.reached
            (any all.bodies all.keeps) (moments_long past b is)
            (λ k d few p. from_either
            (λ without. inl (is_at_more past h e k d (is_at_all past h k d few (holds_all past b is all d without))))
            (λ with_it. inl (is_at_all past i k d (omega (arith, few, long)) (stands_now all.bodies all.spell d with_it))) p)
            (λ k d x. since_more past h b.doubts e k d x) (is.images told));
      }

  -- an entry of a refused command, which the journal does not hold
  pub refused : (past : List Command) (b : BookOf D) (e : Entry) → Is past b → b.journal.doubt ≡ None
      → Tells e (answer b.host e.command) → is_accepted (answer b.host e.command).reply ≡ false
      → Is past (record b {
        host = (answer b.host e.command).host;
        history = b.history ++ e ∷ [];
        moments = b.moments ++ law.moment b.journal.disk ∷ [];
      })
  refused past b e is none told denied =
      let h = b.history in
      let i = h ++ e ∷ [] in
      let g = opening past in
      let tells_now : Tells e (answer (replay g h) e.command) =
      subst (λ (x : HostImage). Tells e (answer x e.command)) is.host told in
      let legal : IsLegal g i = legal_more g h (e ∷ []) is.legal (tells_now, tt) in
      let denied_told : is_accepted e.reply ≡ false = ap is_accepted told.reply ∙ denied in
      let same : accepted_commands i ≡ accepted_commands h =
      accepted_append h (e ∷ []) ∙ ap (λ (cs : List Command). accepted_commands h ++ cs) (accepted_none e denied_told)
      ∙ append-nil (accepted_commands h) in
      let joined : past ++ accepted_commands i ≡ past ++ accepted_commands h = ap (λ (cs : List Command). past ++ cs) same in
      let long : length i ≡ suc (length h) = omega (arith, length-append h (e ∷ [])) in
      let stays = refused_changes_nothing b.host e.command denied in
      record {
        opened = is.opened;
        past_accepted = is.past_accepted;
        legal = legal;
        host = ap (λ (x : HostImage). (answer x e.command).host) is.host ∙ sym (replay_append g h (e ∷ []));
        next = is.next ∙ ap (λ (cs : List Command). length past + length cs + 1) (sym same);
        stored = λ told. let all = is.stored told in record {
          bodies = all.bodies;
          spell = subst (Spell all.bodies) (sym joined) all.spell;
          keeps = all.keeps;
        };
        doubt = λ other some. let denied : ◌≡◌ {A = Option (List ℕ)} None (Some other) = sym none ∙ some in absurd (cc);
        rise = rise_push b.start h b.moments e (law.moment b.journal.disk) (law.moment b.journal.disk) is.rise is.reached (omega arith)
            (λ granted. let both : true ≡ false = sym granted ∙ denied_told in absurd (cc));
        reached = All-push (λ m. m ≤ law.moment b.journal.disk) (b.start ∷ b.moments) (law.moment b.journal.disk) is.reached (omega arith);
        images = λ told. let all = is.stored told in
            since_push past i b.doubts (b.start ∷ b.moments) b.journal.disk (moments_long past b is ∙ sym long)
            (λ d leaves_it. let holds = subst (λ (o : Option (List ℕ)). StandsAt o first_head all.bodies d) none
            (all.keeps.images d leaves_it) in
            inl (is_at_all past i (length i) d (omega arith)
            (stands_all past i all.bodies d is.past_accepted legal (subst (Spell all.bodies) (sym joined) all.spell) holds)))
            (λ k m at small d was. since_more past h b.doubts e k d (is.images told k m at small d was));
      }

  -- a journal that was opened, whose bodies spell commands that the host accepts in turn
  pub begun : (past : List Command) (bodies : List (List ℕ)) (j : JournalOf D) → AreAccepted empty_host past
      → Spell bodies past → j.doubt ≡ None → j.next ≡ 1 + length bodies
      → (law.tells → Keeps law j first_head bodies)
      → Is past (record {
        host = after empty_host past;
        opened = length past;
        history = [];
        start = law.moment j.disk;
        moments = [];
        doubts = [];
        claims = [];
        journal = j;
      })
  begun past bodies j accepted spell none next keeps =
      let same : past ++ [] ≡ past = append-nil past in
      let spelled : Spell bodies (past ++ []) = subst (Spell bodies) (sym same) spell in
      record {
        opened = refl;
        past_accepted = accepted;
        legal = tt;
        host = refl;
        next = omega (arith, next, length_spell bodies past spell);
        stored = λ told. record { bodies = bodies; spell = spelled; keeps = keeps told };
        doubt = λ other some. let denied : ◌≡◌ {A = Option (List ℕ)} None (Some other) = sym none ∙ some in absurd (cc);
        rise = tt;
        reached = All-cons (λ m. m ≤ law.moment j.disk) (law.moment j.disk) [] (omega arith) (λ i d within. omega (arith, within));
        images = λ told. since_push past [] [] [] j.disk refl
            (λ d leaves_it. let holds = subst (λ (o : Option (List ℕ)). StandsAt o first_head bodies d) none
            ((keeps told).images d leaves_it) in
            inl (is_at_all past [] 0 d (omega arith) (stands_all past [] bodies d accepted tt spelled holds)))
            (λ k m at small d was. let denied : ◌≡◌ {A = Option ℕ} None (Some m) = at in absurd (cc));
      }
