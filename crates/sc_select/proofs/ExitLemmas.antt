-- What several transitions exit, one after another.
use Rattle.std.proofs.Common.{◌≡◌, ℕ, ◌+◌, ◌<◌, ◌||◌, Bool, true, false, cond, List, [], ◌∷◌, ◌++◌, take, length, get_or, filter, refl, arith, ap, sym, ◌∙◌}
use Rattle.std.proofs.lemmas.List.{take_more}
use Rattle.std.proofs.lemmas.List.Folds.{list_any-append}
use Rattle.std.specs.List.{list_any}
use Rattle.sc_base.specs.Ascending.{joined, with_number}
use Rattle.sc_bits.specs.Rows.{IsAscending}
use Rattle.sc_types.specs.declared.chart.Chart.{Chart}
use Rattle.sc_law.specs.Sets.{Histories, exit_set, leaves}
use Rattle.sc_sets.proofs.BelowSets.{filter_same}
use Rattle.sc_sets.proofs.Union.Numbers.{with-less, with-more, with-same}

-- each of these is above a number
abbrev IsAbove : ℕ → List ℕ → Type 0
IsAbove m [] = Unit
IsAbove m (n ∷ ns) = (m < n) × IsAbove m ns

above-filter : (f : ℕ → Bool) (m : ℕ) (ns : List ℕ) → IsAbove m ns → IsAbove m (filter f ns)
above-filter f m [] h = tt
above-filter f m (n ∷ ns) h = by (f n) (above-filter f m ns h.1) where
  by : (v : Bool) → IsAbove m (filter f ns) → IsAbove m (cond v (n ∷ filter f ns) (filter f ns))
  by true a = (h.0, a)
  by false a = a

ascending-above : (lo w m : ℕ) (ns : List ℕ) → IsAscending lo w ns → m < lo → IsAbove m ns
ascending-above lo w m [] h l = tt
ascending-above lo w m (n ∷ ns) h l = (omega (arith, h.0), ascending-above (n + 1) w m ns h.2 (omega (arith, h.0)))

with-above : (m : ℕ) (ns : List ℕ) → IsAbove m ns → with_number m ns ≡ m ∷ ns
with-above m [] h = refl
with-above m (n ∷ ns) h = with-less m n ns h.0

joined-front : (m : ℕ) (xs ys : List ℕ) → IsAbove m ys → joined (m ∷ xs) ys ≡ m ∷ joined xs ys
joined-front m xs [] h = refl
joined-front m xs (y ∷ ys) h = ap (with_number y) (joined-front m xs ys h.1) ∙ with-more y m (joined xs ys) h.0

-- what passes either of two tests
joined-filters : (p q : ℕ → Bool) (lo w : ℕ) (ns : List ℕ) → IsAscending lo w ns
    → joined (filter p ns) (filter q ns) ≡ filter (λ s. p s || q s) ns
joined-filters p q lo w [] h = refl
joined-filters p q lo w (n ∷ ns) h = by (p n) (q n) (joined-filters p q (n + 1) w ns h.2) where
  above : (f : ℕ → Bool) → IsAbove n (filter f ns)
  above f = above-filter f n ns (ascending-above (n + 1) w n ns h.2 (omega arith))

  by : (v u : Bool) → joined (filter p ns) (filter q ns) ≡ filter (λ s. p s || q s) ns
      → joined (cond v (n ∷ filter p ns) (filter p ns)) (cond u (n ∷ filter q ns) (filter q ns))
      ≡ cond (v || u) (n ∷ filter (λ s. p s || q s) ns) (filter (λ s. p s || q s) ns)
  by false false e = e
  by true false e = joined-front n (filter p ns) (filter q ns) (above q) ∙ ap (λ ms. n ∷ ms) e
  by false true e = ap (with_number n) e ∙ with-above n (filter (λ s. p s || q s) ns) (above (λ s. p s || q s))
  by true true e =
      ap (with_number n) (joined-front n (filter p ns) (filter q ns) (above q) ∙ ap (λ ms. n ∷ ms) e)
      ∙ with-same n n (filter (λ s. p s || q s) ns) refl

none-left : (ns : List ℕ) → filter (λ n. false) ns ≡ []
none-left [] = refl
none-left (n ∷ ns) = none-left ns

-- no transitions exit nothing
pub exit-nothing : (c : Chart) (h : Histories) (conf : List ℕ) → [] ≡ exit_set c h [] conf
unfolding exit_set
exit-nothing c h conf = sym (none-left conf)

-- one transition more
pub exit-more : (c : Chart) (h : Histories) (trs : List ℕ) (tr : ℕ) (conf : List ℕ) (w : ℕ) → IsAscending 0 w conf
    → joined (exit_set c h trs conf) (exit_set c h (tr ∷ []) conf) ≡ exit_set c h (trs ++ tr ∷ []) conf
unfolding exit_set
exit-more c h trs tr conf w form =
    joined-filters (λ s. list_any (λ t. leaves c h t s) trs)
    (λ s. list_any (λ t. leaves c h t s) (tr ∷ [])) 0 w conf form
    ∙ filter_same _ _ (λ s. sym (list_any-append (λ t. leaves c h t s) trs (tr ∷ []))) conf

-- the transition at a place, after those before it
pub exit-step : (c : Chart) (h : Histories) (trs : List ℕ) (i : ℕ) (conf all own new : List ℕ) (w : ℕ)
    → IsAscending 0 w conf → i < length trs
    → all ≡ exit_set c h (take i trs) conf → own ≡ exit_set c h (get_or trs i 0 ∷ []) conf → new ≡ joined all own
    → new ≡ exit_set c h (take (i + 1) trs) conf
exit-step c h trs i conf all own new w form l a o n =
    n ∙ ap (λ xs. joined xs own) a ∙ ap (joined (exit_set c h (take i trs) conf)) o
    ∙ exit-more c h (take i trs) (get_or trs i 0) conf w form
    ∙ ap (λ ts. exit_set c h ts conf) (sym (take_more trs i 0 l))
