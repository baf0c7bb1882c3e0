-- A pool keeps what it keeps, whatever a job does at the lock.
use Rattle.std.proofs.Common.{◌≡◌, ◌≢◌, inl, inr, ℕ, ◌+◌, ◌<◌, ◌≤◌, Bool, true, false, IsTrue, Option, None, Some, List, [], ◌∷◌, ◌++◌, length, append_assoc, append-nil, length-append, refl, sym, ap, ◌∙◌, subst, arith, rules}
use Rattle.std.specs.Prelude.{slice_get, slice_set}
use Rattle.std.specs.List.{list_all, AllByRecursion}
use Rattle.std.proofs.lemmas.Bool.{cases_eq, true≢false}
use Rattle.sc_dev.specs.Causes.{Rose}
use Rattle.sc_book.specs.declared.doubt.Doubt.{Doubt}
use Rattle.sc_book.specs.declared.fault.CallFault.{CallFault}
use Rattle.sc_book.specs.declared.fault.CallFault.TheVariants.{Disk, Full, NoMemory}
use Rattle.sc_types.specs.declared.command.Command.{Command}
use Rattle.sc_types.specs.declared.command.Command.TheVariants.{Step}
use Rattle.sc_types.specs.declared.history.Entry.{Entry}
use Rattle.sc_types.specs.declared.history.Who.{Who}
use Rattle.sc_types.specs.declared.history.Who.TheVariants as who
use Rattle.sc_pool.specs.Clients.{AllMade, IsMade, Marks, TakesNext}
use Rattle.sc_pool.specs.Keeping.{Follows, HasMade, IsFree, IsSpent, IsWorst, Keeps, Progress, StartsAt, clients_from}
use Rattle.sc_pool.specs.Plans.{ComesNext, Finished, HaveNoStep, IsPlaced, Planned, script_of}
use Rattle.sc_pool.specs.Pools.{IsShown, rank, rank_of}
use Rattle.sc_machine.specs.Accepted.{accepted_steps, is_accepted, is_accepted_step}
use Rattle.sc_machine.specs.Commands.{answer}
use Rattle.sc_machine.specs.Histories.{replay}
use Rattle.sc_book.specs.Books.{opening}
use Rattle.sc_pool.specs.Serving.{IsPrefix, commands_of, is_of, is_served, served_by}
use Rattle.sc_pool.specs.Sharing.{IsCalm, Adds, AddsStep, Fails, FailsToStep, GoesOn, IsDoubted, IsWhy, Seen}
use Rattle.sc_pool.specs.declared.client.Client.{Client}
use Rattle.sc_pool.proofs.ClientLemmas.{begun, free, get_set_other, get_set_same}
use Rattle.sc_pool.proofs.ServingLemmas.{all_served-more, commands_of-other, commands_of-own, no_client, no_step_next, other_client, same_client, steps-more, steps-none}

pub true_is : {b : Bool} → b ≡ true → IsTrue b
true_is e = search rules

pub is_true : {b : Bool} → IsTrue b → b ≡ true
is_true t = search rules

some_is : {A : Type 0} {x y : A} → Some x ≡ Some y → x ≡ y
some_is e = cc

-- what two calls keep

pub goes_first : (s : Seen) → GoesOn s s
goes_first s = record { opened = refl; later = omega arith; same = refl; tight = λ t. t; kept = λ past h. h }

pub goes_then : (a b c : Seen) → GoesOn a b → GoesOn b c → GoesOn a c
goes_then a b c h k = record {
  opened = k.opened ∙ h.opened;
  later = omega (arith, h.later, k.later);
  same = k.same ∙ h.same;
  tight = λ t. k.tight (h.tight t);
  kept = λ past s. k.kept past (h.kept past s);
}

rose_later : (a b c : ℕ) → Rose a b → b ≤ c → Rose a c
rose_later a b c r l = omega (arith, r, l)

pub rose_sooner : (a b c : ℕ) → a ≤ b → Rose b c → Rose a c
rose_sooner a b c l r = omega (arith, r, l)

-- the worst fault is shown still

pub shown_later : (a b c : Seen) (worst : Option CallFault) → IsShown a b worst → GoesOn b c → IsShown a c worst
shown_later a b c None shown goes = tt
shown_later a b c (Some Disk) shown goes = rose_later a.faults b.faults c.faults shown goes.later
shown_later a b c (Some Full) shown goes = goes.tight shown
shown_later a b c (Some NoMemory) shown goes = tt

-- a fault shows itself
pub shown_now : (a b c : Seen) (by : Who) (command : Command) (fault : CallFault) → GoesOn a b → IsWhy by command fault b c
    → IsShown a c (Some fault)
shown_now a b c by command Disk goes why = rose_sooner a.faults b.faults c.faults goes.later why.0
shown_now a b c by command Full goes why = why.0
shown_now a b c by command NoMemory goes why = tt

shown_worst : (a b c : Seen) (by : Who) (command : Command) (noted : Option CallFault) (fault worst : CallFault) → IsShown a b noted
    → GoesOn a b → GoesOn b c → IsWhy by command fault b c → IsWorst noted fault worst → IsShown a c (Some worst)
shown_worst a b c by command noted fault worst shown before goes why is = elim is.one [
  | inl same ↦ (let P : CallFault → Type 0 = λ f. IsShown a c (Some f) in
      subst P (sym same) (shown_now a b c by command fault before why))
  | inr old ↦ shown_later a b c (Some worst) (let P : Option CallFault → Type 0 = λ f. IsShown a b f in subst P old shown) goes
]

-- commands in doubt came next still, with more entries

more_placed : (p : Planned) (fresh more : List Entry) (d : Doubt) → IsPlaced p fresh d
    → IsPlaced p (fresh ++ more) d
more_placed p fresh more d is = record {
  front = is.front;
  rest = is.rest ++ more;
  whole = ap (λ (es : List Entry). es ++ more) is.whole ∙ append_assoc is.front is.rest more;
  before = is.before;
  next = is.next;
  accepted = is.accepted;
}

all_placed : (p : Planned) (fresh more : List Entry) (ds : List Doubt)
    → AllByRecursion (IsPlaced p fresh) ds → AllByRecursion (IsPlaced p (fresh ++ more)) ds
all_placed p fresh more [] all = tt
all_placed p fresh more (d ∷ ds) all =
    (more_placed p fresh more d all.0, all_placed p fresh more ds all.1)

one_placed : (p : Planned) (fresh : List Entry) (ds : List Doubt) (d : Doubt)
    → AllByRecursion (IsPlaced p fresh) ds → IsPlaced p fresh d
    → AllByRecursion (IsPlaced p fresh) (ds ++ d ∷ [])
one_placed p fresh [] d all one = (one, tt)
one_placed p fresh (x ∷ xs) d all one = (all.0, one_placed p fresh xs d all.1 one)

-- what a fault leaves in doubt
pub record Doubtful (p : Planned) (fresh : List Entry) (now : Seen) : Type 0 where
  pub doubtful : List Doubt
  pub doubts : now.doubts ≡ p.start.doubts ++ doubtful
  pub placed : AllByRecursion (IsPlaced p fresh) doubtful

same_doubts : (p : Planned) (fresh more : List Entry) (old new : Seen) (ds : List Doubt) → old.doubts ≡ p.start.doubts ++ ds
    → AllByRecursion (IsPlaced p fresh) ds → new.doubts ≡ old.doubts
    → Doubtful p (fresh ++ more) new
same_doubts p fresh more old new ds is all same = record {
  doubtful = ds;
  doubts = same ∙ is;
  placed = all_placed p fresh more ds all;
}

-- the client at a place, as it follows its list
at_place : (p : Planned) (made : List Command) (place : ℕ) (clients : List Client) (client : Client)
    → Follows (place + 1) (script_of p.scripts place) made (slice_get clients place) → slice_get clients place ≡ Some client
    → HasMade (place + 1) (script_of p.scripts place) made client
at_place p made place clients client follows there =
    let P : Option Client → Type 0 = λ o. Follows (place + 1) (script_of p.scripts place) made o in
    subst P there follows

-- What is next of the client at a place.
record IsNext (p : Planned) (fresh : List Entry) (place number : ℕ) (c : Command) (rest : List Command) : Type 0 where
  is : number ≡ place + 1
  whole : script_of p.scripts place ≡ commands_of (who.Client (place + 1)) fresh ++ c ∷ rest

next_of : (p : Planned) (old : Seen) (clients after : List Client) (worst : Option CallFault) (place number : ℕ) (c : Command)
    → (k : Keeps p old clients worst) → (t : TakesNext place number c clients after)
    → IsNext p k.fresh place number c t.rest
next_of p old clients after worst place number c k t =
    let h = at_place p (commands_of (who.Client (place + 1)) k.fresh) place clients t.client (k.follow place) t.there in
    record {
      is = sym t.numbered ∙ h.numbered;
      whole = h.whole ∙ ap (λ cs. commands_of (who.Client (place + 1)) k.fresh ++ cs) (sym (h.left t.free) ∙ t.left);
    }

-- a command more of the client at a place

made_own : (p : Planned) (fresh : List Entry) (place number : ℕ) (c : Command) (rest : List Command) (e : Entry) → IsNext p fresh place number c rest
    → e.who ≡ who.Client number → e.command ≡ c
    → commands_of (who.Client (place + 1)) (fresh ++ e ∷ []) ≡ commands_of (who.Client (place + 1)) fresh ++ c ∷ []
made_own p fresh place number c rest e n by is =
    commands_of-own (who.Client (place + 1)) fresh e (same_client (place + 1) e.who (by ∙ ap (λ m. who.Client m) n.is))
    ∙ ap (λ x. commands_of (who.Client (place + 1)) fresh ++ x ∷ []) is

client_follows : (p : Planned) (fresh : List Entry) (place number : ℕ) (c : Command) (rest : List Command) (e : Entry) (client : Client)
    → IsNext p fresh place number c rest → e.who ≡ who.Client number → e.command ≡ c → client.number ≡ number → client.left ≡ rest
    → Follows (place + 1) (script_of p.scripts place) (commands_of (who.Client (place + 1)) (fresh ++ e ∷ [])) (Some client)
client_follows p fresh place number c rest e client n by is same left = record {
  numbered = same ∙ n.is;
  rest = rest;
  whole = n.whole ∙ sym (append_assoc (commands_of (who.Client (place + 1)) fresh) (c ∷ []) rest)
      ∙ ap (λ cs. cs ++ rest) (sym (made_own p fresh place number c rest e n by is));
  left = λ _. left;
}

-- the lists of the others stand as they were
others_follow : (p : Planned) (fresh : List Entry) (e : Entry) (other : ℕ) (client : Option Client)
    → is_of (who.Client (other + 1)) e.who ≡ false
    → Follows (other + 1) (script_of p.scripts other) (commands_of (who.Client (other + 1)) fresh) client
    → Follows (other + 1) (script_of p.scripts other) (commands_of (who.Client (other + 1)) (fresh ++ e ∷ [])) client
others_follow p fresh e other client differs follows =
    let P : List Command → Type 0 = λ made. Follows (other + 1) (script_of p.scripts other) made client in
    subst P (sym (commands_of-other (who.Client (other + 1)) fresh e differs)) follows

all_follow : (p : Planned) (old : Seen) (clients after : List Client) (worst : Option CallFault) (place number : ℕ) (c : Command) (e : Entry)
    → (k : Keeps p old clients worst) → (t : TakesNext place number c clients after) → e.who ≡ who.Client number → e.command ≡ c
    → (other : ℕ) → Follows (other + 1) (script_of p.scripts other) (commands_of (who.Client (other + 1)) (k.fresh ++ e ∷ [])) (slice_get after other)
all_follow p old clients after worst place number c e k t by is other =
    let n = next_of p old clients after worst place number c k t in
    let client : Client = record t.client { left = t.rest } in
    let made = commands_of (who.Client (other + 1)) (k.fresh ++ e ∷ []) in
    let P : List Client → Type 0 = λ cs. Follows (other + 1) (script_of p.scripts other) made (slice_get cs other) in
    subst P (sym t.set) (elim (cases_eq place other) [
      | inl same ↦ (let Q : ℕ → Type 0 = λ x. Follows (x + 1) (script_of p.scripts x) (commands_of (who.Client (x + 1)) (k.fresh ++ e ∷ [])) (slice_get (slice_set clients place client) x) in
          let R : Option Client → Type 0 = λ o. Follows (place + 1) (script_of p.scripts place) (commands_of (who.Client (place + 1)) (k.fresh ++ e ∷ [])) o in
          subst Q same (subst R (sym (get_set_same clients place t.client client t.there))
          (client_follows p k.fresh place number c t.rest e client n by is t.numbered refl)))
      | inr differ ↦ (let R : Option Client → Type 0 = λ o. Follows (other + 1) (script_of p.scripts other) made o in
          let others : (other + 1 ≡ number → ⊥) = λ s. differ (omega (arith, s, n.is)) in
          subst R (sym (get_set_other clients place other client differ))
          (others_follow p k.fresh e other (slice_get clients other) (other_client (other + 1) number e.who by others) (k.follow other)))
    ])

-- a client that met no fault goes on so where only its list changes
free_after : (clients : List Client) (place : ℕ) (client changed : Client) → slice_get clients place ≡ Some client → changed.failed ≡ client.failed
    → (other : ℕ) → IsFree (slice_get clients other) → IsFree (slice_get (slice_set clients place changed) other)
free_after clients place client changed there same other is = elim (cases_eq place other) [
  | inl at ↦ (let P : Option Client → Type 0 = λ o. IsFree o in
      let Q : ℕ → Type 0 = λ x. IsFree (slice_get (slice_set clients place changed) x) in
      let here : IsFree (Some client) = subst P (ap (λ (x : ℕ). slice_get clients x) (sym at) ∙ there) is in
      subst Q at (subst P (sym (get_set_same clients place client changed there)) (same ∙ here)))
  | inr differ ↦ (let P : Option Client → Type 0 = λ o. IsFree o in
      subst P (sym (get_set_other clients place other changed differ)) is)
]

served_of_client : (e : Entry) (n : ℕ) → e.who ≡ who.Client n → is_served e ≡ true
served_of_client e n by = ap (λ w. served_by w e.command e.reply) by

more_served : (fresh : List Entry) (e : Entry) → IsTrue (list_all is_served fresh) → is_served e ≡ true
    → IsTrue (list_all is_served (fresh ++ e ∷ []))
more_served fresh e all one = true_is (all_served-more fresh e (is_true all) one)

-- no call of the disk failed since the start, and none in this call
calm_then : (a b c : Seen) → IsCalm a b → IsCalm b c → IsCalm a c
calm_then a b c first then =
    record { doubts = then.doubts ∙ first.doubts; faults = then.faults ∙ first.faults }

-- the next command of a client was made
pub client_made : (p : Planned) (old new : Seen) (clients after : List Client) (worst : Option CallFault) (place number : ℕ) (c : Command)
    → Keeps p old clients worst → TakesNext place number c clients after → Adds (who.Client number) c old new → GoesOn old new
    → Keeps p new after worst
client_made p old new clients after worst place number c k t a goes =
    let e = a.entry in
    let n = next_of p old clients after worst place number c k t in
    let more = same_doubts p k.fresh (e ∷ []) old new k.doubtful k.doubts k.placed a.calm.doubts in
    let none : is_accepted_step e.command e.reply ≡ false =
    ap (λ x. is_accepted_step x e.reply) a.command
    ∙ no_step_next p.scripts place (commands_of (who.Client (place + 1)) k.fresh) t.rest c e.reply k.no_step n.whole in
    record {
      no_step = k.no_step;
      fresh = k.fresh ++ e ∷ [];
      begins = a.entries ∙ ap (λ (es : List Entry). es ++ e ∷ []) k.begins ∙ append_assoc p.start.entries k.fresh (e ∷ []);
      follow = all_follow p old clients after worst place number c e k t a.by a.command;
      setup = commands_of-other (who.Client 0) k.fresh e (other_client 0 number e.who a.by (λ s. omega (arith, s, n.is))) ∙ k.setup;
      served = more_served k.fresh e k.served (served_of_client e number a.by);
      within = omega (arith, k.within, steps-none old.entries e none, ap accepted_steps a.entries);
      doubtful = more.doubtful;
      doubts = more.doubts;
      placed = more.placed;
      goes_on = goes_then p.start old new k.goes_on goes;
      shown = shown_later p.start old new worst k.shown goes;
      silent = λ none other. (let P : List Client → Type 0 = λ cs. IsFree (slice_get cs other) in
          subst P (sym t.set) (free_after clients place t.client (record t.client { left = t.rest }) t.there refl other (k.silent none other)));
      sure = λ low. calm_then p.start old new (k.sure low) a.calm;
    }

-- the marked client, and the others

marked_follows : (p : Planned) (made : List Command) (place number : ℕ) (c : Command) (client : Client) (rest : List Command)
    → client.number ≡ number → number ≡ place + 1 → script_of p.scripts place ≡ made ++ c ∷ rest → client.failed ≡ true
    → Follows (place + 1) (script_of p.scripts place) made (Some client)
marked_follows p made place number c client rest same is whole met = record {
  numbered = same ∙ is;
  rest = c ∷ rest;
  whole = whole;
  left = λ free. absurd (true≢false (sym met ∙ free));
}

failed_follow : (p : Planned) (old : Seen) (clients after marked : List Client) (worst : Option CallFault) (place number : ℕ) (c : Command)
    → (k : Keeps p old clients worst) → (t : TakesNext place number c clients after) → Marks place after marked
    → (other : ℕ) → Follows (other + 1) (script_of p.scripts other) (commands_of (who.Client (other + 1)) k.fresh) (slice_get marked other)
failed_follow p old clients after marked worst place number c k t m other =
    let n = next_of p old clients after worst place number c k t in
    let taken : Client = record t.client { left = t.rest } in
    let here : slice_get after place ≡ Some taken =
    ap (λ (cs : List Client). slice_get cs place) t.set ∙ get_set_same clients place t.client taken t.there in
    let is_taken : m.client ≡ taken = some_is (sym m.there ∙ here) in
    let last : Client = record m.client { failed = true } in
    let made = commands_of (who.Client (other + 1)) k.fresh in
    let P : List Client → Type 0 = λ cs. Follows (other + 1) (script_of p.scripts other) made (slice_get cs other) in
    subst P (sym m.set) (elim (cases_eq place other) [
      | inl same ↦ (let Q : ℕ → Type 0 = λ x. Follows (x + 1) (script_of p.scripts x) (commands_of (who.Client (x + 1)) k.fresh) (slice_get (slice_set after place last) x) in
          let R : Option Client → Type 0 = λ o. Follows (place + 1) (script_of p.scripts place) (commands_of (who.Client (place + 1)) k.fresh) o in
          subst Q same (subst R (sym (get_set_same after place m.client last m.there))
          (marked_follows p (commands_of (who.Client (place + 1)) k.fresh) place number c last t.rest
          (ap (λ (x : Client). x.number) is_taken ∙ t.numbered) n.is n.whole refl)))
      | inr differ ↦ (let R : Option Client → Type 0 = λ o. Follows (other + 1) (script_of p.scripts other) made o in
          subst R (sym (get_set_other after place other last differ
          )) (subst R (sym (ap (λ (cs : List Client). slice_get cs other) t.set ∙ get_set_other clients place other taken differ)) (k.follow other)))
    ])

-- what is in doubt after a command of a client that was not answered

-- the host accepted the command that is in doubt
accepted_there : (p : Planned) (fresh : List Entry) (by : Who) (c : Command) (old new : Seen) → old.entries ≡ p.start.entries ++ fresh
    → GoesOn p.start old → (d : IsDoubted by c old new) → (past : List Command) → p.start.stands past
    → is_accepted (answer (replay (opening past) (p.start.entries ++ fresh)) d.doubt.command).reply ≡ true
accepted_there p fresh by c old new begins goes d past stands =
    ap (λ x. is_accepted (answer (replay (opening past) (p.start.entries ++ fresh)) x).reply) d.command
    ∙ ap (λ (es : List Entry). is_accepted (answer (replay (opening past) es) c).reply) (sym begins)
    ∙ d.accepted past (goes.kept past stands)

doubt_placed : (p : Planned) (fresh : List Entry) (place number : ℕ) (c : Command) (rest : List Command) (old new : Seen)
    → old.entries ≡ p.start.entries ++ fresh → GoesOn p.start old → IsNext p fresh place number c rest
    → (d : IsDoubted (who.Client number) c old new) → IsPlaced p fresh d.doubt
doubt_placed p fresh place number c rest old new begins goes n d = record {
  front = fresh;
  rest = [];
  whole = sym (append-nil fresh);
  before = d.before ∙ ap (λ (es : List Entry). length es) begins ∙ length-append p.start.entries fresh;
  next = (let P : Who → Type 0 = λ w. ComesNext p.scripts fresh w d.doubt.command in
      subst P (sym d.by) (
        place,
        n.is,
        record {
          rest = rest;
          whole = n.whole ∙ sym (append_assoc (commands_of (who.Client (place + 1)) fresh) (c ∷ []) rest)
              ∙ ap (λ m. (commands_of (who.Client m) fresh ++ c ∷ []) ++ rest) (sym n.is)
              ∙ ap (λ x. (commands_of (who.Client number) fresh ++ x ∷ []) ++ rest) (sym d.command);
        },
      ));
  accepted = accepted_there p fresh (who.Client number) c old new begins goes d;
}

step_placed : (p : Planned) (fresh : List Entry) (session : List ℕ) (old new : Seen)
    → old.entries ≡ p.start.entries ++ fresh → GoesOn p.start old → (d : IsDoubted who.Worker (Step session) old new)
    → IsPlaced p fresh d.doubt
step_placed p fresh session old new begins goes d = record {
  front = fresh;
  rest = [];
  whole = sym (append-nil fresh);
  before = d.before ∙ ap (λ (es : List Entry). length es) begins ∙ length-append p.start.entries fresh;
  next = (let P : Who → Type 0 = λ w. ComesNext p.scripts fresh w d.doubt.command in
      let Q : Command → Type 0 = λ x. ComesNext p.scripts fresh who.Worker x in
      subst P (sym d.by) (subst Q (sym d.command) tt));
  accepted = accepted_there p fresh who.Worker (Step session) old new begins goes d;
}

no_more : (p : Planned) (fresh : List Entry) (old new : Seen) (ds : List Doubt) → old.doubts ≡ p.start.doubts ++ ds
    → AllByRecursion (IsPlaced p fresh) ds → new.doubts ≡ old.doubts → Doubtful p fresh new
no_more p fresh old new ds is all same = record { doubtful = ds; doubts = same ∙ is; placed = all }

one_more : (p : Planned) (fresh : List Entry) (old new : Seen) (ds : List Doubt) (by : Who) (c : Command)
    → old.doubts ≡ p.start.doubts ++ ds → AllByRecursion (IsPlaced p fresh) ds
    → (d : IsDoubted by c old new) → IsPlaced p fresh d.doubt → Doubtful p fresh new
one_more p fresh old new ds by c is all d placed = record {
  doubtful = ds ++ d.doubt ∷ [];
  doubts = d.doubts ∙ ap (λ (xs : List Doubt). xs ++ d.doubt ∷ []) is ∙ append_assoc p.start.doubts ds (d.doubt ∷ []);
  placed = one_placed p fresh ds d.doubt all placed;
}

doubtful_after : (p : Planned) (fresh : List Entry) (old new : Seen) (ds : List Doubt) (by : Who) (c : Command) (fault : CallFault)
    → old.doubts ≡ p.start.doubts ++ ds → AllByRecursion (IsPlaced p fresh) ds
    → ((d : IsDoubted by c old new) → IsPlaced p fresh d.doubt) → IsWhy by c fault old new
    → Doubtful p fresh new
doubtful_after p fresh old new ds by c Disk is all placed why = elim why.1 [
  | inl same ↦ no_more p fresh old new ds is all same
  | inr d ↦ one_more p fresh old new ds by c is all d (placed d)
]
doubtful_after p fresh old new ds by c Full is all placed why = no_more p fresh old new ds is all why.1
doubtful_after p fresh old new ds by c NoMemory is all placed why = no_more p fresh old new ds is all why

full_not_disk : Full ≡ Disk → ⊥
full_not_disk e = cc

-- a fault that is not the disk's, nor want of memory, leaves no doubt
sure_now : (p : Planned) (old new : Seen) (by : Who) (c : Command) (noted : Option CallFault) (fault worst : CallFault)
    → (rank_of noted ≤ 1 → IsCalm p.start old) → IsWhy by c fault old new → (fault ≢ Disk → new.faults ≡ old.faults)
    → IsWorst noted fault worst → rank_of (Some worst) ≤ 1 → IsCalm p.start new
sure_now p old new by c noted Disk worst sure why fine is low =
    let above : 2 ≤ rank worst = is.above in
    absurd (omega (arith, above, low))
sure_now p old new by c noted Full worst sure why fine is low =
    let above : rank_of noted ≤ rank worst = is.above_noted in
    calm_then p.start old new (sure (omega (arith, above, low))) (record { doubts = why.1; faults = fine full_not_disk })
sure_now p old new by c noted NoMemory worst sure why fine is low =
    let above : 3 ≤ rank worst = is.above in
    absurd (omega (arith, above, low))

pub some_not_none : (fault : CallFault) → Some fault ≡ None → ⊥
some_not_none fault e = cc

-- a command of a client met a fault
pub client_failed : (p : Planned) (old new : Seen) (clients after marked : List Client) (noted : Option CallFault) (place number : ℕ)
    (c : Command) (fault worst : CallFault) → Keeps p old clients noted → TakesNext place number c clients after → Marks place after marked
    → Fails (who.Client number) c fault old new → GoesOn old new → IsWorst noted fault worst
    → Keeps p new marked (Some worst)
client_failed p old new clients after marked noted place number c fault worst k t m f goes is =
    let n = next_of p old clients after noted place number c k t in
    let d = doubtful_after p k.fresh old new k.doubtful (who.Client number) c fault k.doubts k.placed
    (doubt_placed p k.fresh place number c t.rest old new k.begins k.goes_on n) f.why in
    record {
      no_step = k.no_step;
      fresh = k.fresh;
      begins = f.entries ∙ k.begins;
      follow = failed_follow p old clients after marked noted place number c k t m;
      setup = k.setup;
      served = k.served;
      within = omega (arith, k.within, ap accepted_steps f.entries);
      doubtful = d.doubtful;
      doubts = d.doubts;
      placed = d.placed;
      goes_on = goes_then p.start old new k.goes_on goes;
      shown = shown_worst p.start old new (who.Client number) c noted fault worst k.shown k.goes_on goes f.why is;
      silent = λ none. absurd (some_not_none worst none);
      sure = sure_now p old new (who.Client number) c noted fault worst k.sure f.why f.faults is;
    }

-- a worker made a step
pub worker_made : (p : Planned) (old new : Seen) (clients : List Client) (worst : Option CallFault) → Keeps p old clients worst
    → AddsStep old new → GoesOn old new → accepted_steps old.entries < p.budget → Keeps p new clients worst
worker_made p old new clients worst k a goes more_left =
    let e = a.entry in
    let more = same_doubts p k.fresh (e ∷ []) old new k.doubtful k.doubts k.placed a.calm.doubts in
    let served : is_served e ≡ true = ap (λ w. served_by w e.command e.reply) a.by ∙ a.accepted in
    record {
      no_step = k.no_step;
      fresh = k.fresh ++ e ∷ [];
      begins = a.entries ∙ ap (λ (es : List Entry). es ++ e ∷ []) k.begins ∙ append_assoc p.start.entries k.fresh (e ∷ []);
      follow = λ other. others_follow p k.fresh e other (slice_get clients other) (no_client (other + 1) e.who a.by) (k.follow other);
      setup = commands_of-other (who.Client 0) k.fresh e (no_client 0 e.who a.by) ∙ k.setup;
      served = more_served k.fresh e k.served served;
      within = omega (arith, more_left, steps-more old.entries e a.accepted, ap accepted_steps a.entries);
      doubtful = more.doubtful;
      doubts = more.doubts;
      placed = more.placed;
      goes_on = goes_then p.start old new k.goes_on goes;
      shown = shown_later p.start old new worst k.shown goes;
      silent = k.silent;
      sure = λ low. calm_then p.start old new (k.sure low) a.calm;
    }

-- a worker's step met a fault
pub worker_failed : (p : Planned) (old new : Seen) (clients : List Client) (noted : Option CallFault) (fault worst : CallFault)
    → Keeps p old clients noted → FailsToStep fault old new → GoesOn old new → IsWorst noted fault worst
    → Keeps p new clients (Some worst)
worker_failed p old new clients noted fault worst k f goes is =
    let d = doubtful_after p k.fresh old new k.doubtful who.Worker (Step f.session) fault k.doubts k.placed
    (step_placed p k.fresh f.session old new k.begins k.goes_on) f.fails.why in
    record {
      no_step = k.no_step;
      fresh = k.fresh;
      begins = f.fails.entries ∙ k.begins;
      follow = k.follow;
      setup = k.setup;
      served = k.served;
      within = omega (arith, k.within, ap accepted_steps f.fails.entries);
      doubtful = d.doubtful;
      doubts = d.doubts;
      placed = d.placed;
      goes_on = goes_then p.start old new k.goes_on goes;
      shown = shown_worst p.start old new who.Worker (Step f.session) noted fault worst k.shown k.goes_on goes f.fails.why is;
      silent = λ none. absurd (some_not_none worst none);
      sure = sure_now p old new who.Worker (Step f.session) noted fault worst k.sure f.fails.why f.fails.faults is;
    }

-- a pool begins
pub begins_with : (p : Planned) (seen : Seen) (clients : List Client) (budget : ℕ) → HaveNoStep p.scripts → StartsAt p.start seen
    → clients ≡ clients_from 1 p.scripts → budget ≡ p.budget → accepted_steps seen.entries ≤ budget → Keeps p seen clients None
begins_with p seen clients budget none starts all budgeted within =
    record {
      no_step = none;
      fresh = [];
      begins = starts.same.entries ∙ sym (append-nil p.start.entries);
      follow = λ place. (let Q : List Client → Type 0 = λ cs. Follows (place + 1) (script_of p.scripts place) [] (slice_get cs place) in
          subst Q (sym all) (begun 1 p.scripts place (place + 1) (omega arith)));
      setup = refl;
      served = search rules;
      within = omega (arith, within, budgeted);
      doubtful = [];
      doubts = starts.same.calm.doubts ∙ sym (append-nil p.start.doubts);
      placed = tt;
      goes_on = starts.goes_on;
      shown = tt;
      silent = λ none place. (let Q : List Client → Type 0 = λ cs. IsFree (slice_get cs place) in
          subst Q (sym all) (free 1 p.scripts place));
      sure = λ low. starts.same.calm;
    }

-- what is left of a list that a client follows

prefix_of : (number : ℕ) (script made : List Command) (client : Option Client) → Follows number script made client → IsPrefix made script
prefix_of number script made None follows = record { rest = []; whole = follows.0 ∙ sym (ap (λ cs. cs ++ []) follows.1) }
prefix_of number script made (Some client) follows = record { rest = follows.rest; whole = follows.whole }

whole_of : (number : ℕ) (script made : List Command) (client : Option Client) → Follows number script made client → IsFree client
    → IsMade client → made ≡ script
whole_of number script made None follows free is_made = follows.1 ∙ sym follows.0
whole_of number script made (Some client) follows free is_made =
    let rest : follows.rest ≡ [] = sym (follows.left free) ∙ is_made free in
    sym (follows.whole ∙ ap (λ cs. made ++ cs) rest ∙ append-nil made)

-- what is kept behind the lock at the end is what the pool leaves
pub ran : (p : Planned) (seen : Seen) (clients : List Client) (worst : Option CallFault) → Keeps p seen clients worst
    → AllMade clients → (worst ≡ None → seen.ready ≡ true → accepted_steps seen.entries ≡ p.budget) → Finished p seen worst
ran p seen clients worst k all spent = record {
  fresh = k.fresh;
  begins = k.begins;
  lists = λ place. prefix_of (place + 1) (script_of p.scripts place) (commands_of (who.Client (place + 1)) k.fresh) (slice_get clients place) (k.follow place);
  setup = k.setup;
  served = k.served;
  within = k.within;
  doubtful = k.doubtful;
  doubts = k.doubts;
  placed = k.placed;
  goes_on = k.goes_on;
  shown = k.shown;
  whole = λ none place. whole_of (place + 1) (script_of p.scripts place) (commands_of (who.Client (place + 1)) k.fresh) (slice_get clients place)
      (k.follow place) (k.silent none place) (all place);
  spent = spent;
  sure = k.sure;
}

-- the same of what contracts see of it
pub ran_of : (p : Planned) (seen : Seen) (at : Progress) (before : List Client) (worst : Option CallFault) → Keeps p seen at.clients at.worst
    → worst ≡ at.worst → seen.entries ≡ at.entries → seen.ready ≡ at.ready → AllMade before → at.clients ≡ before
    → (at.worst ≡ None → IsSpent p.budget at) → Finished p seen worst
ran_of p seen at before worst k same entries ready all clients spent =
    let P : Option CallFault → Type 0 = λ w. Finished p seen w in
    subst P (sym same) (ran p seen at.clients at.worst k (subst AllMade (sym clients) all)
    (λ none is_ready. ap accepted_steps entries ∙ spent none (sym ready ∙ is_ready)))

-- a pool that had no memory made nothing
pub nothing_ran : (p : Planned) (seen : Seen) → StartsAt p.start seen → accepted_steps seen.entries ≤ p.budget → Finished p seen (Some NoMemory)
nothing_ran p seen starts within =
    record {
      fresh = [];
      begins = starts.same.entries ∙ sym (append-nil p.start.entries);
      lists = λ place. record { rest = script_of p.scripts place; whole = refl };
      setup = refl;
      served = search rules;
      within = within;
      doubtful = [];
      doubts = starts.same.calm.doubts ∙ sym (append-nil p.start.doubts);
      placed = tt;
      goes_on = starts.goes_on;
      shown = tt;
      whole = λ none. absurd (some_not_none NoMemory none);
      spent = λ none. absurd (some_not_none NoMemory none);
      sure = λ low. absurd (omega (arith, low));
    }
