-- Transitions that selection kept enter, together, what each enters alone.
use Rattle.std.proofs.Common.{◌≡◌, inl, inr, ℕ, ◌<◌, ◌==◌, ◌||◌, zero, suc, Bool, true, false, List, [], ◌∷◌, length, refl, arith, ap, sym, subst, ◌∙◌}
use Rattle.std.proofs.lemmas.Bool.{cases_order}
use Rattle.std.proofs.lemmas.Bool.Decides.{nat_tests}
use Rattle.std.proofs.lemmas.List.Elements.{All-from_recursion}
use Rattle.std.specs.List.{AllPairs, slice_index_or}
use Rattle.sc_base.specs.Ascending.{contains}
use Rattle.sc_types.specs.declared.chart.Chart.{Chart}
use Rattle.sc_law.specs.Fitting.{IsRecorded}
use Rattle.sc_law.specs.Sets.{Histories, effective_targets}
use Rattle.sc_law.specs.Transitions.{targets}
use Rattle.sc_sets.specs.Union.{AreKept, recorded_by}
use Rattle.sc_sets.proofs.Union.Conditions.{AreTaken, HaveApart}
use Rattle.sc_sets.proofs.Union.Above.{AnyApart, IsLeft, above-after, recorded-after}
use Rattle.sc_sets.proofs.Union.FineTargets.{from-all}
use Rattle.sc_sets.proofs.Union.Kept.{kept-apart}

-- a member has a place
place-in : (t : ℕ) (ts : List ℕ) → contains ts t ≡ true → (k : ℕ) × ((k < length ts) × (slice_index_or ts k 0 ≡ t))
place-in t [] h = absurd (cc)
place-in t (u ∷ ts) h = by (u == t) refl h (place-in t ts) where
  by : (v : Bool) → (u == t) ≡ v → (v || contains ts t) ≡ true
      → (contains ts t ≡ true → (k : ℕ) × ((k < length ts) × (slice_index_or ts k 0 ≡ t)))
      → (k : ℕ) × ((k < length (u ∷ ts)) × (slice_index_or (u ∷ ts) k 0 ≡ t))
  by true e h so = (0, (omega arith, grind (arith, nat_tests)))
  by false e h so = let r = so h in (suc r.0, (omega (arith, r.1.0), r.1.1))

at-place : (ts : List ℕ) (k d : ℕ) → k < length ts → contains ts (slice_index_or ts k d) ≡ true
at-place [] k d l = absurd (omega arith)
at-place (t ∷ ts) zero d l = let hit : (t == t) ≡ true = grind (arith, nat_tests) in ap (λ v. v || contains ts t) hit
at-place (t ∷ ts) (suc k) d l = later (t == slice_index_or ts k d) (at-place ts k d (omega arith)) where
  later : (v : Bool) → contains ts (slice_index_or ts k d) ≡ true → (v || contains ts (slice_index_or ts k d)) ≡ true
  later true h = refl
  later false h = h

pub kept-pairs : (c : Chart) (h : Histories) (configuration ts : List ℕ) → AreKept c h configuration ts → AllPairs (HaveApart c h) ts
kept-pairs c h configuration ts is i j d l m =
    kept-apart c h configuration (slice_index_or ts i d) (slice_index_or ts j d) is.legal is.configured (is.active i d (omega arith)) (is.active j d m)
    (is.no_conflict i j d l m)

pub any-apart : (c : Chart) (h : Histories) (ts : List ℕ) → AllPairs (HaveApart c h) ts → AnyApart c h ts
any-apart c h ts pairs t u in_t in_u =
    let i = place-in t ts in_t in
    let j = place-in u ts in_u in
    elim (cases_order i.0 j.0) [
      | inl e ↦ inl (sym i.1.1 ∙ ap (λ k. slice_index_or ts k 0) e ∙ j.1.1)
      | inr o ↦ elim o [
        | inl below ↦ inr (inl (subst (λ x. HaveApart c h t x) j.1.1 (subst (λ x. HaveApart c h x (slice_index_or ts j.0 0)) i.1.1 (pairs i.0 j.0 0 below j.1.0))))
        | inr above ↦ inr (inr (subst (λ x. HaveApart c h u x) i.1.1 (subst (λ x. HaveApart c h x (slice_index_or ts i.0 0)) j.1.1 (pairs j.0 i.0 0 above i.1.0))))
      ]
    ]

-- so are transitions that selection kept, once what they exit was recorded
pub kept-taken : (c : Chart) (h : Histories) (configuration ts : List ℕ) → AreKept c h configuration ts
    → AreTaken c h (recorded_by c h ts configuration) ts
kept-taken c h configuration ts is = record {
  legal = is.legal;
  recorded = All-from_recursion (IsRecorded c) (recorded_by c h ts configuration) (recorded-after c h ts configuration left);
  apart = pairs;
  above = λ k d l e one.
      All-from_recursion _ (effective_targets c (recorded_by c h ts configuration) (targets c (slice_index_or ts k d)))
      (above-after c h ts configuration (slice_index_or ts k d) e left (at-place ts k d l) one);
} where
  pairs : AllPairs (HaveApart c h) ts
  pairs = kept-pairs c h configuration ts is

  left : IsLeft c h ts configuration
  left = record { legal = is.legal; configured = is.configured; recorded = from-all (IsRecorded c) h is.recorded; apart = any-apart c h ts pairs }
