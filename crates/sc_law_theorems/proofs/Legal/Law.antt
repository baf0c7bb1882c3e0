-- What a microstep leaves: a legal configuration, records of one, and a table of histories in their order.
use Rattle.std.proofs.Common.{◌≡◌, inl, inr, ℕ, ◌<◌, ◌&&◌, ◌||◌, not, nat_lt, Bool, true, false, None, All, List, [], refl, arith, ap, sym, subst, ◌∙◌}
use Rattle.std.proofs.lemmas.Bool.{cases_order}
use Rattle.std.proofs.lemmas.Bool.Decides.{nat_tests}
use Rattle.std.specs.List.{list_all}
use Rattle.sc_base.specs.Ascending.{contains}
use Rattle.sc_types.specs.declared.chart.Chart.{Chart}
use Rattle.sc_law.specs.Tree.{is_below, root, state_count}
use Rattle.sc_law.specs.Kinds.{is_history}
use Rattle.sc_law.specs.Legality.{legal_fault}
use Rattle.sc_law.specs.Configurations.{IsConfiguration, defaults}
use Rattle.sc_law.specs.Sets.{Histories, effective_targets, exit_set, stands_for}
use Rattle.sc_law.specs.Entry.{EntryTriple, entry, first_entry}
use Rattle.sc_law.specs.Fitting.{IsRecorded, rises}
use Rattle.sc_tables.proofs.Within.{below_root_is, defaults_within}
use Rattle.sc_sets.specs.Union.{AreKept, recorded_by}
use Rattle.sc_sets.proofs.Union.Above.{below-number, stands-within}
use Rattle.sc_sets.proofs.Union.FineTargets.{from-all}
use Rattle.sc_sets.proofs.Union.Kept.{each-has}
use Rattle.sc_sets.proofs.Union.SomeDefaults.{some-stands}
use Rattle.sc_sets.proofs.Union.Taken.{kept-taken}
use Rattle.sc_law_theorems.proofs.Legal.Fills.{stands-has}
use Rattle.sc_law_theorems.proofs.Legal.Filling.{IsFilling, flat-from, flat-has, targets-fill}
use Rattle.sc_law_theorems.proofs.Legal.Gains.{BelowOf, Has, IsFilled}
use Rattle.sc_law_theorems.proofs.Legal.Lists.{and-both, has-first, list-all-by}
use Rattle.sc_law_theorems.proofs.Legal.Microsteps.{entry-from, exit-has, kept-fills, microstep-plan, own}
use Rattle.sc_law_theorems.proofs.Legal.Plans.{Domains, IsPlan, plan-legal}
use Rattle.sc_law_theorems.proofs.Legal.SomeTargets.{root-some}
use Rattle.sc_law_theorems.proofs.Legal.Tables.{IsTable, record-table}
use Rattle.sc_law_theorems.proofs.Legal.Together.{defaults-together}
use Rattle.sc_law_theorems.proofs.Legal.Tree.{not-own}

-- the configuration after a microstep, told by its members, is legal
pub legal-after : (c : Chart) (h : Histories) (configuration ts after : List ℕ) → AreKept c h configuration ts
    → ((s : ℕ) → contains after s ≡ (contains configuration s && not (contains (exit_set c h ts configuration) s)
    || contains (entry c h (recorded_by c h ts configuration) ts).states s))
    → IsConfiguration c after
legal-after c h configuration ts after kept told =
    plan-legal c _ configuration after (microstep-plan c h configuration ts after (record { kept = kept; told = told }))

-- ---- the document's own entry

-- the root, with what the document's own entry enters below it
FirstDomain : Chart → Domains
FirstDomain c = λ d f. (d ≡ root c) × (f ≡ first_entry c)

some-stand : (c : Chart) (h : Histories) (t : ℕ) → legal_fault c ≡ None → t < state_count c
    → (u : ℕ) × (contains (stands_for c h t) u ≡ true)
some-stand c h t legal l = by (is_history c t) refl where
  by : (v : Bool) → is_history c t ≡ v → (u : ℕ) × (contains (stands_for c h t) u ≡ true)
  by true e =
      let r = some-stands c h t legal l e in
      (r.0, subst (λ us. contains us r.0 ≡ true) (sym r.1.1) (has-first r.0 r.1.0))
  by false e = (t, stands-has c h t e)

first-fills : (c : Chart) → legal_fault c ≡ None → IsFilling c (root c) (first_entry c)
unfolding first_entry
first-fills c legal = targets-fill c [] (root c) (defaults c (root c)) (record {
  lawful = record { legal = legal; recorded = tt };
  domain = omega arith;
  numbers = number;
  below = λ u i. (let from = flat-from (stands_for c []) (defaults c (root c)) u i in
      below_root_is c u legal
      (each-has (λ x. x < state_count c) u (stands_for c [] from.0)
      (stands-within c [] from.0 legal tt (number from.0 from.1.0)) from.1.1));
  together = defaults-together c (root c) legal (inr refl);
  some = some;
}) where
  number : (t : ℕ) → contains (defaults c (root c)) t ≡ true → t < state_count c
  number t i =
      each-has (λ x. x < state_count c) t (defaults c (root c))
      (from-all (λ x. x < state_count c) (defaults c (root c)) (defaults_within c (root c))) i

  some : (u : ℕ) × (contains (effective_targets c [] (defaults c (root c))) u ≡ true)
  some =
      let t = root-some c legal in
      let i : contains (defaults c (root c)) t.0 ≡ true = subst (λ us. contains us t.0 ≡ true) (sym t.1.1)
      (has-first t.0 t.1.0) in
      let u = some-stand c [] t.0 legal (number t.0 i) in
      (u.0, flat-has (stands_for c []) (defaults c (root c)) t.0 u.0 i u.1)

first-plan : (c : Chart) (after : List ℕ) → legal_fault c ≡ None
    → ((s : ℕ) → contains after s ≡ contains (first_entry c).states s)
    → IsPlan c (FirstDomain c) [] after
unfolding FirstDomain
first-plan c after legal told = record {
  legal = legal;
  states = λ s on. absurd (cc);
  upward = λ s a on l low. absurd (cc);
  one = λ s on compound. absurd (cc);
  each = λ s k on parallel i. absurd (cc);
  top = λ none. absurd (none (first_entry c) (refl, refl));
  within = λ d f is. (let e = is.0 in omega arith);
  has_one = λ d f is. inr is.0;
  filling =
      λ d f is. subst (λ k. IsFilling c k f) (sym is.0) (subst (IsFilling c (root c)) (sym is.1) (first-fills c legal));
  active = λ d f is l. absurd (let e = is.0 in omega arith);
  apart = λ d e f g is also low. not-own c d (subst (λ k. is_below c d k ≡ true) (also.0 ∙ sym is.0) low);
  same = λ d f g is also. is.1 ∙ sym also.1;
  decided = λ s. elim (cases_order s (root c)) [
    | inl e ↦ inl (first_entry c, (e, refl))
    | inr o ↦ elim o [
      | inl less ↦ inr (λ f is. (let e = is.0 in omega arith))
      | inr more ↦ inr
          (λ f is. (let e = is.0 in omega arith))
    ]
  ];
  old = λ s on out. absurd (cc);
  new = λ s d f is i. told s ∙ subst (λ (x : EntryTriple). Has x s) is.1 i;
  cases = λ s on. inr (root c, (first_entry c, ((refl, refl), sym (told s) ∙ on)));
}

-- the document's own entry gives a legal configuration
pub legal-first : (c : Chart) (after : List ℕ) → legal_fault c ≡ None
    → ((s : ℕ) → contains after s ≡ contains (first_entry c).states s) → IsConfiguration c after
legal-first c after legal told = plan-legal c (FirstDomain c) [] after (first-plan c after legal told)

-- ---- what is entered

not-stays : (v w : Bool) → (v ≡ true → w ≡ true) → (v && not w) ≡ false
not-stays true w h = ap not (h refl)
not-stays false w h = refl

-- what is entered was exited, or was not active
pub entered-new : (c : Chart) (h : Histories) (configuration ts : List ℕ) → AreKept c h configuration ts → (s : ℕ)
    → contains (entry c h (recorded_by c h ts configuration) ts).states s ≡ true
    → (contains configuration s && not (contains (exit_set c h ts configuration) s)) ≡ false
entered-new c h configuration ts kept s i =
    let from = entry-from c h configuration ts s kept i in
    let d = from.0 in
    let is = from.1.1.0 in
    let in-it : Has (own c (recorded_by c h ts configuration) is.0 d) s = subst
    (λ (x : EntryTriple). Has x s) is.1.1.1 from.1.1.1 in
    let low = ((kept-fills c h configuration ts is.0 d kept is.1.0 is.1.1.0).filled s in-it).inside in
    not-stays (contains configuration s) (contains (exit_set c h ts configuration) s)
    (λ active. exit-has c h configuration ts s is.0 d active is.1.0 is.1.1.0 low)

filled-state : (c : Chart) (d s : ℕ) (f : EntryTriple) → IsFilled c (BelowOf c d) s f
    → (nat_lt s (state_count c) && not (is_history c s)) ≡ true
filled-state c d s f is =
    let l = below-number c s d is.inside in
    let less : nat_lt s (state_count c) ≡ true = grind (arith, nat_tests) in
    and-both (nat_lt s (state_count c)) (not (is_history c s)) less (ap not is.done.state)

-- what is entered are states of the chart, and no histories
pub entered-states : (c : Chart) (h : Histories) (configuration ts : List ℕ) → AreKept c h configuration ts
    → list_all (λ s. nat_lt s (state_count c) && not (is_history c s))
    (entry c h (recorded_by c h ts configuration) ts).states ≡ true
entered-states c h configuration ts kept =
    list-all-by (λ s. nat_lt s (state_count c) && not (is_history c s))
    (entry c h (recorded_by c h ts configuration) ts).states
    (λ s i. (let from = entry-from c h configuration ts s kept i in
    let is = from.1.1.0 in
    let in-it : Has (own c (recorded_by c h ts configuration) is.0 from.0) s = subst
    (λ (x : EntryTriple). Has x s) is.1.1.1 from.1.1.1 in
    filled-state c from.0 s (own c (recorded_by c h ts configuration) is.0 from.0)
    ((kept-fills c h configuration ts is.0 from.0 kept is.1.0 is.1.1.0).filled s in-it)))

-- and so is what the document's own entry enters
pub first-states : (c : Chart) → legal_fault c ≡ None
    → list_all (λ s. nat_lt s (state_count c) && not (is_history c s)) (first_entry c).states ≡ true
first-states c legal =
    list-all-by (λ s. nat_lt s (state_count c) && not (is_history c s)) (first_entry c).states
    (λ s i. filled-state c (root c) s (first_entry c) ((first-fills c legal).filled s i))

-- ---- records

-- the records after the exit are those of a legal configuration
pub recorded-after : (c : Chart) (h : Histories) (configuration ts : List ℕ) → AreKept c h configuration ts
    → All (IsRecorded c) (recorded_by c h ts configuration)
recorded-after c h configuration ts kept = (kept-taken c h configuration ts kept).recorded

-- each record after the exit is an ascending list of states, and the table is in the order of the histories
pub kept-after : (c : Chart) (h : Histories) (configuration ts : List ℕ) → AreKept c h configuration ts
    → rises configuration ≡ true → IsTable c h
    → IsTable c (recorded_by c h ts configuration)
kept-after c h configuration ts kept up table =
    record-table c configuration (exit_set c h ts configuration) h kept.configured up table
