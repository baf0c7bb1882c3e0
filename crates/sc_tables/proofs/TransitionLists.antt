-- The lists of the transitions of states.
use Rattle.std.proofs.Common.{◌≡◌, ℕ, ◌+◌, ◌<◌, ◌==◌, inl, inr, zero, suc, Bool, true, false, cond, Option, Some, None, Result, Ok, Err, OnOk, List, [], ◌∷◌, ◌++◌, length, length-append, length-take, take, append-nil, get_or, ◌≢◌, refl, arith, ap, sym, ◌∙◌}
use Rattle.std.proofs.lemmas.Bool.{cases_order}
use Rattle.std.proofs.lemmas.Bool.Decides.{nat_tests}
use Rattle.std.proofs.lemmas.List.{take_more, length-set, get_or-set_other}
use Rattle.std.proofs.lemmas.Grind.{get_or-set_at}
use Rattle.std.proofs.Math.ListN.{set}
use Rattle.sc_tables.specs.Built.{HasOwn, IsAddedTo, is_number, places_of}

pub record AreEmpty (n : ℕ) (lists : List (List ℕ)) : Type 0 where
  pub size : length lists ≡ n
  pub each : (s : ℕ) → get_or lists s [] ≡ []

pub empty-more : (old new : List (List ℕ)) (n : ℕ) → length old ≡ n → ((s : ℕ) → get_or old s [] ≡ []) → new ≡ old ++ [] ∷ [] → AreEmpty (n + 1) new
empty-more old new n size each e = record {
  size = ap length e ∙ length-append old ([] ∷ []) ∙ omega (arith, size);
  each = λ s. ap (λ (xs : List (List ℕ)). get_or xs s []) e ∙ at old s each;
} where
  at : (xs : List (List ℕ)) (s : ℕ) → ((k : ℕ) → get_or xs k [] ≡ []) → get_or (xs ++ [] ∷ []) s [] ≡ []
  at [] zero h = refl
  at [] (suc s) h = refl
  at (x ∷ xs) zero h = h 0
  at (x ∷ xs) (suc s) h = at xs s (λ k. h (suc k))

places-append : (s place : ℕ) (os : List (Option ℕ)) (o : Option ℕ)
    → places_of s place (os ++ o ∷ []) ≡ places_of s place os ++ cond (is_number o s) ((place + length os) ∷ []) []
places-append s place [] o = ap (λ n. cond (is_number o s) (n ∷ []) []) (omega arith)
places-append s place (p ∷ os) o = by (is_number p s) (places-append s (place + 1) os o) where
  there : cond (is_number o s) ((place + 1 + length os) ∷ []) [] ≡ cond (is_number o s) ((place + length (p ∷ os)) ∷ []) []
  there = ap (λ n. cond (is_number o s) (n ∷ []) []) (omega arith)

  by : (v : Bool) → places_of s (place + 1) (os ++ o ∷ []) ≡ places_of s (place + 1) os ++ cond (is_number o s) ((place + 1 + length os) ∷ []) []
      → cond v (place ∷ places_of s (place + 1) (os ++ o ∷ [])) (places_of s (place + 1) (os ++ o ∷ []))
      ≡ cond v (place ∷ places_of s (place + 1) os) (places_of s (place + 1) os) ++ cond (is_number o s) ((place + length (p ∷ os)) ∷ []) []
  by true h = ap (λ ns. place ∷ ns) (h ∙ ap (λ ns. places_of s (place + 1) os ++ ns) there)
  by false h = h ∙ ap (λ ns. places_of s (place + 1) os ++ ns) there

-- one transition more
pub own-more : (sources : List (Option ℕ)) (count n : ℕ) (o : Option ℕ) (old new : List (List ℕ)) → n < length sources → o ≡ get_or sources n None
    → HasOwn (take n sources) count old → IsAddedTo old o n new → HasOwn (take (n + 1) sources) count new
own-more sources count n o old new l e has added = record { size = added.size ∙ has.size; each = each } where
  long : 0 + length (take n sources) ≡ n
  long = simp length-take (omega arith)

  each : (s : ℕ) → s < count → get_or new s [] ≡ places_of s 0 (take (n + 1) sources)
  each s u =
      added.each s (omega (arith, has.size)) ∙ ap (λ ns. ns ++ cond (is_number o s) (n ∷ []) []) (has.each s u)
      ∙ ap (λ k. places_of s 0 (take n sources) ++ cond (is_number o s) (k ∷ []) []) (sym long)
      ∙ ap (λ p. places_of s 0 (take n sources) ++ cond (is_number p s) ((0 + length (take n sources)) ∷ []) []) e
      ∙ sym (places-append s 0 (take n sources) (get_or sources n None)) ∙ ap (places_of s 0) (sym (take_more sources n None l))

pub added-none : (old : List (List ℕ)) (number : ℕ) → IsAddedTo old None number old
added-none old number = record { size = refl; each = λ s l. sym (append-nil (get_or old s [])) }

pub added-some : (old : List (List ℕ)) (a number : ℕ) → a < length old → IsAddedTo old (Some a) number (set old a (get_or old a [] ++ number ∷ []))
added-some old a number l = record { size = length-set old a _; each = each } where
  other : (s : ℕ) → s ≢ a → get_or (set old a (get_or old a [] ++ number ∷ [])) s [] ≡ get_or old s [] ++ cond (a == s) (number ∷ []) []
  other s ne =
      let t : (a == s) ≡ false = grind (arith, nat_tests) in
      rw t (get_or-set_other old a s (get_or old a [] ++ number ∷ []) [] ne ∙ sym (append-nil (get_or old s [])))

  each : (s : ℕ) → s < length old → get_or (set old a (get_or old a [] ++ number ∷ [])) s [] ≡ get_or old s [] ++ cond (a == s) (number ∷ []) []
  each s u = elim (cases_order a s) [
    | inl e ↦ (let t : (a == s) ≡ true = grind (arith, nat_tests) in
        rw t (get_or-set_at old a s (get_or old a [] ++ number ∷ []) [] (sym e) l ∙ ap (λ k. get_or old k [] ++ number ∷ []) e))
    | inr (inl below) ↦ other s (omega arith)
    | inr (inr above) ↦ other s (omega arith)
  ]

-- what follows of a call that went well
pub if_ok : {E : Type 0} (r : Result (Unit {0}) E) (P Q : Type 0) → OnOk r P → (P → Q) → OnOk r Q
if_ok (Ok u) P Q h f = f h
if_ok (Err e) P Q h f = tt
