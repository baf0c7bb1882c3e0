-- The clients of a pool.
use Rattle.std.proofs.Common.{◌≡◌, ℕ, zero, suc, ◌+◌, ◌<◌, true, false, Option, Some, List, [], ◌∷◌, ◌++◌, length, inl, inr, length-set, append_assoc, refl, sym, ap, ◌∙◌, subst, arith}
use Rattle.std.specs.Prelude.{slice_get, slice_set}
use Rattle.sc_types.specs.declared.command.Command.{Command}
use Rattle.std.proofs.lemmas.Option.{slice_get_within}
use Rattle.std.proofs.lemmas.Bool.{cases_eq, true≢false}
use Rattle.sc_pool.specs.Clients.{HasFailed, HasNone, IsMade, KeepsMade, Marks, Takes, TakesNext}
use Rattle.sc_pool.specs.Keeping.{Follows, IsFree, clients_from}
use Rattle.sc_pool.specs.Plans.{script_of}
use Rattle.sc_pool.specs.declared.client.Client.{Client}
use Rattle.sc_pool.specs.declared.client.Taken.{Taken}
use Rattle.sc_pool.specs.declared.client.Taken.TheVariants.{Next, Over, Failed}

-- the item at a place that was written, and at another

pub get_set_same : {A : Type 0} (xs : List A) (place : ℕ) (x y : A) → slice_get xs place ≡ Some x
    → slice_get (slice_set xs place y) place ≡ Some y
get_set_same [] place x y there = absurd (cc)
get_set_same (z ∷ zs) zero x y there = refl
get_set_same (z ∷ zs) (suc place) x y there = get_set_same zs place x y there

pub get_set_other : {A : Type 0} (xs : List A) (place other : ℕ) (y : A) → (place ≡ other → ⊥)
    → slice_get (slice_set xs place y) other ≡ slice_get xs other
get_set_other [] place other y differ = refl
get_set_other (z ∷ zs) zero zero y differ = absurd (differ refl)
get_set_other (z ∷ zs) zero (suc other) y differ = refl
get_set_other (z ∷ zs) (suc place) zero y differ = refl
get_set_other (z ∷ zs) (suc place) (suc other) y differ =
    get_set_other zs place other y (λ e. differ (ap (λ (n : ℕ). suc n) e))

-- the clients that a pool begins with have all of their lists to make

pub begun : (n : ℕ) (scripts : List (List Command)) (place k : ℕ) → k ≡ n + place
    → Follows k (script_of scripts place) [] (slice_get (clients_from n scripts) place)
begun n [] place k is = (refl, refl)
begun n (s ∷ ss) zero k is =
    record { numbered = omega (arith, is); rest = s; whole = refl; left = λ _. refl }
begun n (s ∷ ss) (suc place) k is = begun (n + 1) ss place k (omega (arith, is))

pub free : (n : ℕ) (scripts : List (List Command)) (place : ℕ) → IsFree (slice_get (clients_from n scripts) place)
free n [] place = tt
free n (s ∷ ss) zero = refl
free n (s ∷ ss) (suc place) = free (n + 1) ss place

-- one client more of the lists that are left
pub one_more : (done : List Client) (n k : ℕ) (c : List Command) (rest : List (List Command)) → k ≡ n + 1
    → (done ++ record { number = n; left = c; failed = false } ∷ []) ++ clients_from k rest ≡ done ++ clients_from n (c ∷ rest)
one_more done n k c rest is =
    append_assoc done (record { number = n; left = c; failed = false } ∷ []) (clients_from k rest)
    ∙ ap (λ (m : ℕ). done ++ record { number = n; left = c; failed = false } ∷ clients_from m rest) is

cons_not_nil : (c : Command) (rest : List Command) → c ∷ rest ≡ [] → ⊥
cons_not_nil c rest e = cc

-- the next command of a client is taken

made_after : (clients : List Client) (place : ℕ) (client changed : Client) → slice_get clients place ≡ Some client
    → (IsMade (Some client) → IsMade (Some changed)) → KeepsMade clients (slice_set clients place changed)
made_after clients place client changed there goes = (
  length-set clients place changed,
  λ other is. elim (cases_eq place other) [
    | inl at ↦ (let P : Option Client → Type 0 = λ o. IsMade o in
        let Q : ℕ → Type 0 = λ x. IsMade (slice_get (slice_set clients place changed) x) in
        let here : IsMade (Some client) = subst P (ap (λ (x : ℕ). slice_get clients x) (sym at) ∙ there) is in
        subst Q at (subst P (sym (get_set_same clients place client changed there)) (goes here)))
    | inr differ ↦ (let P : Option Client → Type 0 = λ o. IsMade o in
        subst P (sym (get_set_other clients place other changed differ)) is)
  ],
)

pub took_keeps : (old new : List Client) (place number : ℕ) (c : Command) → TakesNext place number c old new → KeepsMade old new
took_keeps old new place number c t =
    let goes : IsMade (Some t.client) → IsMade (Some (record t.client { left = t.rest })) =
    λ is free. absurd (cons_not_nil c t.rest (sym t.left ∙ is t.free)) in
    subst (KeepsMade old) (sym t.set) (made_after old place t.client (record t.client { left = t.rest }) t.there goes)

-- a client is marked

pub marked_keeps : (old new : List Client) (place : ℕ) → Marks place old new → KeepsMade old new
marked_keeps old new place m =
    subst (KeepsMade old) (sym m.set)
    (made_after old place m.client (record m.client { failed = true }) m.there (λ is free. absurd (true≢false free)))

pub marked_made : (old new : List Client) (place : ℕ) → Marks place old new → IsMade (slice_get new place)
marked_made old new place m =
    let P : Option Client → Type 0 = λ o. IsMade o in
    let here = ap (λ (cs : List Client). slice_get cs place) m.set
    ∙ get_set_same old place m.client (record m.client { failed = true }) m.there in
    subst P (sym here) (λ free. absurd (true≢false free))

pub keeps_then : (a b c : List Client) → KeepsMade a b → KeepsMade b c → KeepsMade a c
keeps_then a b c h k = (k.0 ∙ h.0, λ place is. k.1 place (h.1 place is))

-- what is taken of one client is taken of all

set_same : {A : Type 0} (xs : List A) (place : ℕ) (x : A) → slice_get xs place ≡ Some x → slice_set xs place x ≡ xs
set_same [] place x there = refl
set_same (y ∷ ys) zero x there = (let same : y ≡ x = cc in ap (λ z. z ∷ ys) (sym same))
set_same (y ∷ ys) (suc place) x there = ap (λ zs. y ∷ zs) (set_same ys place x there)

head_is : {A : Type 0} (x y : A) → x ∷ [] ≡ y ∷ [] → x ≡ y
head_is x y e = cc

some_head : {A : Type 0} (x y : A) → Some x ≡ Some y → x ≡ y
some_head x y e = cc

unchanged : (clients : List Client) (place : ℕ) (old new : Client) → slice_get clients place ≡ Some old → new ∷ [] ≡ old ∷ []
    → slice_set clients place new ≡ clients
unchanged clients place old new there same =
    ap (λ (x : Client). slice_set clients place x) (head_is new old same) ∙ set_same clients place old there

pub taken_at : (clients : List Client) (place : ℕ) (old new : Client) (r : Taken) → slice_get clients place ≡ Some old
    → Takes 0 (old ∷ []) (new ∷ []) r → Takes place clients (slice_set clients place new) r
taken_at clients place old new (Next number c) there t =
    let same : t.client ≡ old = sym (some_head old t.client t.there) in
    record {
      client = t.client;
      there = there ∙ ap (λ (x : Client). Some x) (sym same);
      numbered = t.numbered;
      free = t.free;
      rest = t.rest;
      left = t.left;
      set = ap (λ (x : Client). slice_set clients place x) (head_is new (record t.client { left = t.rest }) t.set);
    }
taken_at clients place old new Over there t =
    (unchanged clients place old new there t.0, (let P : Option Client → Type 0 = λ o. HasNone o in subst P (sym there) t.1))
taken_at clients place old new Failed there t =
    (unchanged clients place old new there t.0, (let P : Option Client → Type 0 = λ o. HasFailed o in subst P (sym there) t.1))

pub took_within : (old new : List Client) (place number : ℕ) (c : Command) → TakesNext place number c old new → place < length new
took_within old new place number c t =
    let longer : length new ≡ length old =
    ap (λ (cs : List Client). length cs) t.set ∙ length-set old place (record t.client { left = t.rest }) in
    omega (arith, longer, slice_get_within old place t.client t.there)
