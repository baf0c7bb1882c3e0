-- What targets stand for.
use Rattle.std.proofs.Common.{◌≡◌, ℕ, ◌<◌, ◌==◌, ◌&&◌, Bool, true, false, cond, Option, Some, None, IfSome, All, List, [], ◌∷◌, ◌++◌, length, find, nat_lt, option_and_then, option_map, refl, arith, sym}
use Rattle.std.proofs.lemmas.Bool.Decides.{nat_tests}
use Rattle.std.proofs.lemmas.List.Elements.{All-cons, All-nil}
use Rattle.std.specs.Borrow.{Bor}
use Rattle.std.specs.List.{list_all}
use Rattle.sc_types.specs.declared.chart.Chart.{Chart}
use Rattle.sc_law.specs.Sets.{Histories, some_states, value_of_history}
use Rattle.sc_law.specs.Tree.{state_count}
use Rattle.sc_sets.specs.Conditions.{KeepsStates}
use Rattle.sc_sets.specs.Targets.{is_empty}

both : (v w : Bool) → (v && w) ≡ true → (v ≡ true) × (w ≡ true)
both true w h = (refl, h)
both false w h = absurd (cc)

-- numbers of states
pub all_states : (c : Chart) (ss : List ℕ) → list_all (λ s. nat_lt s (state_count c)) ss ≡ true → All (λ s. s < state_count c) ss
all_states c [] h = All-nil (λ (s : ℕ). s < state_count c)
all_states c (s ∷ ss) h =
    let parts = both (nat_lt s (state_count c)) _ h in
    let first = parts.0 in
    let less : s < state_count c = grind (arith, nat_tests) in
    All-cons (λ (t : ℕ). t < state_count c) s ss less (all_states c ss parts.1)

some_within : (c : Chart) (ss ts : List ℕ) → list_all (λ s. nat_lt s (state_count c)) ss ≡ true → some_states ss ≡ Some ts → All (λ s. s < state_count c) ts
some_within c [] ts h e = absurd (cc)
some_within c (s ∷ ss) ts h e = let same : s ∷ ss ≡ ts = cc in rw (sym same) (all_states c (s ∷ ss) h)

found_within : (c : Chart) (h : Histories) (s : ℕ) (ts : List ℕ) → list_all (λ (kept : ℕ × List ℕ). list_all (λ s. nat_lt s (state_count c)) kept.1) h ≡ true
    → value_of_history h s ≡ Some ts → All (λ s. s < state_count c) ts
found_within c [] s ts k e = absurd (cc)
found_within c (kept ∷ h) s ts k e = by (kept.0 == s) (both (list_all (λ s. nat_lt s (state_count c)) kept.1) _ k) e (found_within c h s ts) where
  by : (v : Bool) → (list_all (λ s. nat_lt s (state_count c)) kept.1 ≡ true) × (list_all (λ (kept : ℕ × List ℕ). list_all (λ s. nat_lt s (state_count c)) kept.1) h ≡ true)
      → option_and_then (λ (kept : ℕ × List ℕ). some_states kept.1) (cond v (Some kept) (find (λ (kept : ℕ × List ℕ). kept.0 == s) h)) ≡ Some ts
      → (list_all (λ (kept : ℕ × List ℕ). list_all (λ s. nat_lt s (state_count c)) kept.1) h ≡ true → value_of_history h s ≡ Some ts → All (λ s. s < state_count c) ts)
      → All (λ s. s < state_count c) ts
  by true parts e so = some_within c kept.1 ts parts.0 e
  by false parts e so = so parts.1 e

-- what a history recorded are states
pub value_within : (c : Chart) (h : Histories) (s : ℕ) (ts : List ℕ) → KeepsStates c h → value_of_history h s ≡ Some ts → All (λ s. s < state_count c) ts
value_within c h s ts k e = found_within c h s ts k e

pub some_empty : (xs ys : List ℕ) → (length xs == 0) ≡ false → is_empty (xs ++ ys) ≡ false
some_empty [] ys h = absurd (cc)
some_empty (x ∷ xs) ys h = refl

-- what holds of the value behind a reference, where there is one
pub each_value : (o : Option (Bor (List ℕ))) (P : List ℕ → Type 0) → ((ss : List ℕ) → option_map (λ (v : Bor (List ℕ)). v.now) o ≡ Some ss → P ss)
    → IfSome o (λ v. P v.now)
each_value None P h = tt
each_value (Some v) P h = h v.now refl
