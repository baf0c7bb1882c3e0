-- Which states are done, one child state after another.
use Rattle.std.proofs.Common.{◌≡◌, ◌≢◌, ℕ, ◌+◌, ◌≤◌, ◌&&◌, ◌||◌, nat_le, suc, Bool, true, false, cond, Option, Some, None, List, find, refl, ap, sym, ◌∙◌}
use Rattle.std.specs.List.{list_all, list_any}
use Rattle.std.specs.Option.{option_map_or}
use Rattle.sc_base.specs.Ascending.{contains}
use Rattle.sc_bits.specs.Rows.{IsAscending}
use Rattle.sc_types.specs.declared.chart.Chart.{Chart}
use Rattle.sc_types.specs.declared.state_kind.StateKind.{StateKind}
use Rattle.sc_types.specs.declared.state_kind.StateKind.TheVariants as kind
use Rattle.sc_law.specs.Configurations.{children}
use Rattle.sc_law.specs.Entering.{is_in_final}
use Rattle.sc_law.specs.Kinds.{is_final, is_kind, kind_of}
use Rattle.sc_sets.proofs.Members.{from_on, next_none, next_some}

-- the next member fails the test, so that the others decide
pub any-next : (test : ℕ → Bool) (ms : List ℕ) (w from m : ℕ) → IsAscending 0 w ms
    → Some m ≡ find (λ m. nat_le from m) ms → from ≤ m
    → test m ≡ false → list_any test (from_on (m + 1) ms) ≡ list_any test (from_on from ms)
any-next test ms w from m form e l fails =
    sym (ap (list_any test) (next_some 0 w from m ms form e l)
    ∙ ap (λ v. v || list_any test (from_on (m + 1) ms)) fails)

pub any-here : (test : ℕ → Bool) (ms : List ℕ) (w from m : ℕ) → IsAscending 0 w ms
    → Some m ≡ find (λ m. nat_le from m) ms → from ≤ m
    → test m ≡ true → true ≡ list_any test (from_on from ms)
any-here test ms w from m form e l passes =
    sym (ap (list_any test) (next_some 0 w from m ms form e l)
    ∙ ap (λ v. v || list_any test (from_on (m + 1) ms)) passes)

pub any-end : (test : ℕ → Bool) (ms : List ℕ) (from : ℕ) → None ≡ find (λ m. nat_le from m) ms
    → false ≡ list_any test (from_on from ms)
any-end test ms from e = sym (ap (list_any test) (next_none from ms e))

-- the next member passes the test, so that the others decide
pub all-next : (test : ℕ → Bool) (ms : List ℕ) (w from m : ℕ) → IsAscending 0 w ms
    → Some m ≡ find (λ m. nat_le from m) ms → from ≤ m
    → test m ≡ true → list_all test (from_on (m + 1) ms) ≡ list_all test (from_on from ms)
all-next test ms w from m form e l passes =
    sym (ap (list_all test) (next_some 0 w from m ms form e l)
    ∙ ap (λ v. v && list_all test (from_on (m + 1) ms)) passes)

pub all-here : (test : ℕ → Bool) (ms : List ℕ) (w from m : ℕ) → IsAscending 0 w ms
    → Some m ≡ find (λ m. nat_le from m) ms → from ≤ m
    → test m ≡ false → false ≡ list_all test (from_on from ms)
all-here test ms w from m form e l fails =
    sym (ap (list_all test) (next_some 0 w from m ms form e l)
    ∙ ap (λ v. v && list_all test (from_on (m + 1) ms)) fails)

pub all-end : (test : ℕ → Bool) (ms : List ℕ) (from : ℕ) → None ≡ find (λ m. nat_le from m) ms
    → true ≡ list_all test (from_on from ms)
all-end test ms from e = sym (ap (list_all test) (next_none from ms e))

-- ---- by the kind of a state

pub no-compound : (k : StateKind) → k ≢ kind.Compound → is_kind kind.Compound k ≡ false
no-compound kind.Compound h = absurd (h refl)
no-compound k h = refl

pub no-parallel : (k : StateKind) → k ≢ kind.Parallel → is_kind kind.Parallel k ≡ false
no-parallel kind.Parallel h = absurd (h refl)
no-parallel k h = refl

module _ (c : Chart) (conf : List ℕ) where
  pub done-none : (m s : ℕ) → m ≡ 0 → false ≡ is_in_final c conf m s
  unfolding is_in_final
  done-none m s e = ap (λ k. is_in_final c conf k s) (sym e)

  by-kind : (n m s : ℕ) (k : StateKind) → m ≡ suc n → Some k ≡ kind_of c s
      → is_in_final c conf m s
      ≡ (cond (is_kind kind.Compound k) (list_any (λ a. contains conf a && is_final c a))
      (cond (is_kind kind.Parallel k) (list_all (is_in_final c conf n)) (λ others. false))) (children c s)
  unfolding is_in_final
  by-kind n m s k l e =
      ap (λ i. is_in_final c conf i s) l
      ∙ ap (λ (o : Option StateKind). (cond (option_map_or (is_kind kind.Compound) o false)
      (list_any (λ a. contains conf a && is_final c a))
      (cond (option_map_or (is_kind kind.Parallel) o false) (list_all (is_in_final c conf n)) (λ others. false)))
      (children c s)) (sym e)

  pub done-compound : (n m s : ℕ) → m ≡ suc n → Some kind.Compound ≡ kind_of c s
      → list_any (λ a. contains conf a && is_final c a) (children c s) ≡ is_in_final c conf m s
  done-compound n m s l e = sym (by-kind n m s kind.Compound l e)

  pub done-parallel : (n m s : ℕ) → m ≡ suc n → Some kind.Parallel ≡ kind_of c s
      → list_all (is_in_final c conf n) (children c s) ≡ is_in_final c conf m s
  done-parallel n m s l e = sym (by-kind n m s kind.Parallel l e)

  pub done-other : (n m s : ℕ) (k : StateKind) → m ≡ suc n → Some k ≡ kind_of c s → is_kind kind.Compound k ≡ false
      → is_kind kind.Parallel k ≡ false
      → false ≡ is_in_final c conf m s
  done-other n m s k l e f g =
      sym (by-kind n m s k l e
      ∙ ap (λ v. (cond v (list_any (λ a. contains conf a && is_final c a))
      (cond (is_kind kind.Parallel k) (list_all (is_in_final c conf n)) (λ others. false))) (children c s)) f
      ∙ ap (λ v. (cond v (list_all (is_in_final c conf n)) (λ others. false)) (children c s)) g)
