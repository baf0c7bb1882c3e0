-- A session that fits its chart has what a turn needs.
use Rattle.std.proofs.Common.{◌≡◌, ℕ, ◌&&◌, not, nat_lt, Bool, true, List, [], ◌∷◌, refl, ap₂, sym, subst}
use Rattle.std.specs.List.{IsDistinct, list_all}
use Rattle.std.specs.Str.{bytes_eq}
use Rattle.sc_types.specs.declared.chart.Chart.{Chart}
use Rattle.sc_types.specs.declared.session.SessionState.{SessionState}
use Rattle.sc_types.specs.declared.value.Value.{Value}
use Rattle.sc_law.specs.Fitting.{Fits, are_states, fresh, rises, runs}
use Rattle.sc_law.specs.Kinds.{is_history}
use Rattle.sc_law.specs.Runs.{fresh_state}
use Rattle.sc_law.specs.Tree.{state_count}
use Rattle.sc_turn.specs.States.{CanBegin}
use Rattle.sc_turn.proofs.Rising.{both}

all-weaker : {A : Type 0} (p q : A → Bool) (xs : List A) → ((x : A) → p x ≡ true → q x ≡ true) → list_all p xs ≡ true
    → list_all q xs ≡ true
all-weaker p q [] f h = refl
all-weaker p q (x ∷ xs) f h =
    let parts = both (p x) (list_all p xs) h in
    ap₂ (λ (u v : Bool). u && v) (f x parts.0) (all-weaker p q xs f parts.1)

are-numbers : (c : Chart) (ss : List ℕ) → are_states c ss ≡ true → list_all (λ s. nat_lt s (state_count c)) ss ≡ true
are-numbers c ss h =
    all-weaker (λ s. nat_lt s (state_count c) && not (is_history c s)) (λ s. nat_lt s (state_count c)) ss
    (λ s t. (both (nat_lt s (state_count c)) (not (is_history c s)) t).0)
    (both (rises ss) (list_all (λ s. nat_lt s (state_count c) && not (is_history c s)) ss) h).1

none-twice : IsDistinct bytes_eq []
unfolding IsDistinct
none-twice = tt

fresh-begins : (c : Chart) (session chart : List ℕ) (params : List (List ℕ × Value))
    → CanBegin c (fresh_state session chart params)
fresh-begins c session chart params = record { active = refl; entered = refl; kept = refl; distinct = none-twice }

pub can-begin : (c : Chart) (s : SessionState) → Fits c s → CanBegin c s
can-begin c s (fresh is) = subst (λ (t : SessionState). CanBegin c t) (sym is) (fresh-begins c s.session s.chart s.params)
can-begin c s (runs is) = record {
  active = is.fits.active;
  entered = is.fits.entered;
  kept = all-weaker (λ (kept : ℕ × List ℕ). are_states c kept.1)
      (λ (kept : ℕ × List ℕ). list_all (λ s. nat_lt s (state_count c)) kept.1) s.histories
      (λ kept h. are-numbers c kept.1 h) is.fits.kept;
  distinct = is.fits.no_name_twice;
}
