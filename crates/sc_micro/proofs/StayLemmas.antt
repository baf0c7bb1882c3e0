-- A microstep that exits and enters nothing.
use Rattle.std.proofs.Common.{◌≡◌, inl, inr, ℕ, ◌+◌, ◌<◌, ◌≤◌, ◌==◌, ◌&&◌, ◌||◌, nat_le, nat_lt, not, zero, suc, Bool, true, false, cond, Option, Some, None, List, [], ◌∷◌, filter, filter_map, find, length, refl, arith, ap, ap₂, sym, subst, ◌∙◌}
use Rattle.std.proofs.lemmas.Bool.{cases_order}
use Rattle.std.proofs.lemmas.Bool.Decides.{nat_tests}
use Rattle.std.specs.List.{cons_option, list_any, range_with_len}
use Rattle.std.specs.Option.{option_map_or}
use Rattle.sc_base.specs.Ascending.{without}
use Rattle.sc_base.specs.Folds.{each}
use Rattle.sc_types.specs.declared.chart.Chart.{Chart}
use Rattle.sc_law.specs.Entering.{enter}
use Rattle.sc_law.specs.Entry.{EntryTriple, enter_targets, entry, entry_of, no_entry}
use Rattle.sc_law.specs.Kinds.{is_history}
use Rattle.sc_law.specs.Leaving.{exit_states}
use Rattle.sc_law.specs.Microstep.{arrive, microstep, run_content}
use Rattle.sc_law.specs.Records.{kept_by, record_all}
use Rattle.sc_law.specs.Runs.{RunState}
use Rattle.sc_law.specs.Sets.{Histories, domain, domain_over, effective_targets, exit_set, leaves}
use Rattle.sc_law.specs.Transitions.{targets}
use Rattle.sc_law.specs.Tree.{is_below, state_count}
use Rattle.sc_sets.proofs.BelowSets.{filter_same}
use Rattle.sc_micro.specs.Staying.{are_in_order, are_targetless, is_history_number}

both : (v w : Bool) → (v && w) ≡ true → (v ≡ true) × (w ≡ true)
both true w h = (refl, h)
both false w h = absurd (cc)

-- ---- what histories recorded stays

abbrev Kept : Type 0
Kept = ℕ × List ℕ

module _ (c : Chart) (conf : List ℕ) where
  abbrev keeps : Histories → ℕ → Option Kept
  keeps h s = kept_by c conf [] h s

  record InOrder (from : ℕ) (kept : Kept) (h : Histories) : Type 0 where
    first : from ≤ kept.0
    within : kept.0 < state_count c
    history : is_history c kept.0 ≡ true
    later : are_in_order c (kept.0 + 1) h ≡ true

  in-order : (from : ℕ) (kept : Kept) (h : Histories) → are_in_order c from (kept ∷ h) ≡ true → InOrder from kept h
  in-order from kept h e =
      let a = both _ _ e in
      let b = both (nat_le from kept.0) (is_history_number c kept.0) a.0 in
      let d = both (nat_lt kept.0 (state_count c)) (is_history c kept.0) b.1 in
      let below = b.0 in
      let small = d.0 in
      record { first = grind (arith, nat_tests); within = grind (arith, nat_tests); history = d.1; later = a.1 }

  none-below : (from s : ℕ) (h : Histories) → are_in_order c from h ≡ true → s < from
      → find (λ (kept : Kept). kept.0 == s) h ≡ None
  none-below from s [] e l = refl
  none-below from s (kept ∷ h) e l =
      let is = in-order from kept h e in
      let more : s < kept.0 = omega (arith, is.first) in
      let other : (kept.0 == s) ≡ false = grind (arith, nat_tests) in
      ap (λ v. cond v (Some kept) (find (λ (kept : Kept). kept.0 == s) h)) other
      ∙ none-below (kept.0 + 1) s h is.later (omega arith)

  no-record : (s : ℕ) (o : Option Kept) → o ≡ None → cond (not (is_history c s)) None o ≡ None
  no-record s o e = by (is_history c s) where
    by : (v : Bool) → cond (not v) None o ≡ None
    by true = e
    by false = refl

  same-later : (a m : ℕ) (kept : Kept) (h : Histories) → kept.0 < a
      → filter_map (keeps (kept ∷ h)) (range_with_len a m) ≡ filter_map (keeps h) (range_with_len a m)
  same-later a zero kept h l = refl
  same-later a (suc m) kept h l =
      let other : (kept.0 == a) ≡ false = grind (arith, nat_tests) in
      ap₂ (λ (v : Bool) (hs : Histories). cons_option
      (cond (not (is_history c a)) None (cond v (Some kept) (find (λ (kept : Kept). kept.0 == a) h))) hs)
      other (same-later (a + 1) m kept h (omega arith))

  kept-here : (a : ℕ) (kept : Kept) (h : Histories) → kept.0 ≡ a → is_history c kept.0 ≡ true
      → keeps (kept ∷ h) a ≡ Some kept
  kept-here a kept h same history =
      let yes : (kept.0 == a) ≡ true = grind (arith, nat_tests) in
      ap₂ (λ (v w : Bool). cond (not v) None (cond w (Some kept) (find (λ (kept : Kept). kept.0 == a) h)))
      (ap (is_history c) (sym same) ∙ history) yes

  kept-later : (a : ℕ) (kept : Kept) (h : Histories) → a < kept.0 → are_in_order c (kept.0 + 1) h ≡ true
      → find (λ (k : Kept). k.0 == a) (kept ∷ h) ≡ None
  kept-later a kept h l later =
      let other : (kept.0 == a) ≡ false = grind (arith, nat_tests) in
      ap (λ v. cond v (Some kept) (find (λ (k : Kept). k.0 == a) h)) other
      ∙ none-below (kept.0 + 1) a h later (omega arith)

  order-later : (a : ℕ) (kept : Kept) (h : Histories) → a < kept.0 → are_in_order c a (kept ∷ h) ≡ true
      → are_in_order c (a + 1) (kept ∷ h) ≡ true
  order-later a kept h l e =
      let here : nat_le a kept.0 ≡ true = grind (arith, nat_tests) in
      let next : nat_le (a + 1) kept.0 ≡ true = grind (arith, nat_tests) in
      ap (λ v. v && is_history_number c kept.0 && are_in_order c (kept.0 + 1) h) (next ∙ sym here) ∙ e

  all-kept : (a m : ℕ) (h : Histories) → are_in_order c a h ≡ true → state_count c ≡ a + m
      → filter_map (keeps h) (range_with_len a m) ≡ h
  all-kept a zero [] e n = refl
  all-kept a zero (kept ∷ h) e n =
      let is = in-order a kept h e in absurd (omega (arith, is.first, is.within))
  all-kept a (suc m) [] e n =
      ap (λ o. cons_option o (filter_map (keeps []) (range_with_len (a + 1) m))) (no-record a None refl)
      ∙ all-kept (a + 1) m [] refl (omega arith)
  all-kept a (suc m) (kept ∷ h) e n =
      let is = in-order a kept h e in
      elim (cases_order kept.0 a) [
        | inl same ↦
            ap₂ (λ (o : Option Kept) (hs : Histories). cons_option o hs) (kept-here a kept h same is.history)
            (same-later (a + 1) m kept h (omega arith)
            ∙ all-kept (a + 1) m h (subst (λ k. are_in_order c (k + 1) h ≡ true) same is.later) (omega arith))
        | inr o ↦ elim o [
          | inl less ↦ absurd (omega (arith, is.first))
          | inr more ↦
              ap₂ (λ (o : Option Kept) (hs : Histories). cons_option o hs)
              (no-record a (find (λ (k : Kept). k.0 == a) (kept ∷ h)) (kept-later a kept h more is.later))
              (all-kept (a + 1) m (kept ∷ h) (order-later a kept h more e) (omega arith))
        ]
      ]

-- histories in order are as an exit of nothing leaves them
pub record-same : (c : Chart) (conf : List ℕ) (h : Histories) → are_in_order c 0 h ≡ true → record_all c conf [] h ≡ h
unfolding record_all
record-same c conf h e = all-kept c conf 0 (state_count c) h e (omega arith)

-- ---- nothing is exited and entered

none-over : (c : Chart) (h : Histories) (t : ℕ) (ss : List ℕ) → (length ss == 0) ≡ true
    → domain_over c t (effective_targets c h ss) ≡ None
none-over c h t [] e = refl
none-over c h t (s ∷ ss) e = absurd (let l : 0 < length (s ∷ ss) = omega arith in grind (arith, nat_tests))

no-domain : (c : Chart) (h : Histories) (t : ℕ) → (length (targets c t) == 0) ≡ true → domain c h t ≡ None
unfolding domain
no-domain c h t e = none-over c h t (targets c t) e

none-leave : (c : Chart) (h : Histories) (ts : List ℕ) (s : ℕ) → are_targetless c ts ≡ true
    → list_any (λ t. leaves c h t s) ts ≡ false
none-leave c h [] s e = refl
none-leave c h (t ∷ ts) s e =
    let parts = both (length (targets c t) == 0) (are_targetless c ts) e in
    ap₂ (λ (o : Option ℕ) (v : Bool). option_map_or (is_below c s) o false || v) (no-domain c h t parts.0)
    (none-leave c h ts s parts.1)

none-left : (ns : List ℕ) → filter (λ n. false) ns ≡ []
none-left [] = refl
none-left (n ∷ ns) = none-left ns

all-left : (ns : List ℕ) → without [] ns ≡ ns
all-left [] = refl
all-left (n ∷ ns) = ap (λ ms. n ∷ ms) (all-left ns)

no-exit : (c : Chart) (h : Histories) (ts conf : List ℕ) → are_targetless c ts ≡ true → exit_set c h ts conf ≡ []
unfolding exit_set
no-exit c h ts conf e = filter_same _ (λ s. false) (λ s. none-leave c h ts s e) conf ∙ none-left conf

each-nothing : (c : Chart) (before h : Histories) (ts : List ℕ) (e : EntryTriple) → are_targetless c ts ≡ true
    → each (entry_of c before h) ts e ≡ e
each-nothing c before h [] e l = refl
each-nothing c before h (t ∷ ts) e l =
    let parts = both (length (targets c t) == 0) (are_targetless c ts) l in
    ap (λ (o : Option ℕ). each (entry_of c before h) ts
    (option_map_or (λ d. enter_targets c h (targets c t) d e) o e)) (no-domain c before t parts.0)
    ∙ each-nothing c before h ts e parts.1

no-entries : (c : Chart) (before h : Histories) (ts : List ℕ) → are_targetless c ts ≡ true
    → entry c before h ts ≡ no_entry
unfolding entry
no-entries c before h ts e = each-nothing c before h ts no_entry e

nothing-exited : (c : Chart) (x : RunState) → are_in_order c 0 x.histories ≡ true → exit_states c [] x ≡ x
unfolding exit_states
nothing-exited c x e =
    ap₂ (λ (todo : List ℕ) (h : Histories). record { running = record x.running { todo = todo }; histories = h })
    (all-left x.running.todo) (record-same c x.running.env.configuration x.histories e)

-- only the content runs
pub stays-is : (c : Chart) (ts : List ℕ) (x : RunState) → are_targetless c ts ≡ true
    → are_in_order c 0 x.histories ≡ true
    → microstep c ts x ≡ record x { running = each (run_content c) ts x.running }
unfolding microstep
stays-is c [] x e o = refl
stays-is c (t ∷ ts) x e o =
    ap (λ gone. arrive c (t ∷ ts) x.histories (exit_states c gone x))
    (no-exit c x.histories (t ∷ ts) x.running.env.configuration e)
    ∙ ap (arrive c (t ∷ ts) x.histories) (nothing-exited c x o)
    ∙ ap (λ (n : EntryTriple). record x { running = enter c n (each (run_content c) (t ∷ ts) x.running) })
    (no-entries c x.histories x.histories (t ∷ ts) e)
