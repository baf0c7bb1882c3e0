-- States are exited one after another.
use Rattle.std.proofs.Common.{◌≡◌, ℕ, ◌+◌, ◌≤◌, ◌==◌, ◌||◌, nat_le, not, Bool, true, false, Some, None, List, [], ◌∷◌, ◌++◌, find, filter, append-nil, append_assoc, refl, arith, ap, sym, ◌∙◌}
use Rattle.std.proofs.lemmas.Bool.Decides.{nat_tests}
use Rattle.sc_base.specs.Ascending.{without}
use Rattle.sc_bits.specs.Rows.{IsAscending}
use Rattle.sc_types.specs.declared.chart.Chart.{Chart}
use Rattle.sc_types.specs.declared.chart.Tag.TheVariants as tag
use Rattle.sc_law.specs.Content.{run_blocks}
use Rattle.sc_law.specs.Data.{with_tag}
use Rattle.sc_law.specs.Leaving.{cancelled, leave, removed}
use Rattle.sc_law.specs.Runs.{Running, with_configuration}
use Rattle.sc_law.specs.Tree.{kids_of}
use Rattle.sc_sets.proofs.BelowSets.{filter_same}
use Rattle.sc_sets.proofs.Members.{from_on, next_none, next_some}

other : (m s : ℕ) → (m == s) ≡ ((s == m) || false)
other m s = by (m == s) (s == m) refl refl where
  by : (v w : Bool) → (m == s) ≡ v → (s == m) ≡ w → v ≡ (w || false)
  by true true e f = refl
  by false false e f = refl
  by true false e f = absurd (grind (arith, nat_tests))
  by false true e f = absurd (grind (arith, nat_tests))

-- one state is taken out of a set
pub without-one : (s : ℕ) (ms : List ℕ) → filter (λ m. not (m == s)) ms ≡ without (s ∷ []) ms
without-one s ms = filter_same (λ m. not (m == s)) _ (λ m. ap not (other m s)) ms

-- one state: its blocks, its invokes, and then its removal
pub left-is : (c : Chart) (s : ℕ) (r ran done : Running) (ms : List ℕ)
    → ran ≡ run_blocks (with_tag tag.OnExit (kids_of c s)) r → done ≡ cancelled s ran
    → ms ≡ filter (λ m. not (m == s)) done.env.configuration
    → with_configuration ms done ≡ leave c s r
unfolding leave
left-is c s r ran done ms a b e =
    ap (λ ns. with_configuration ns done) (e ∙ without-one s done.env.configuration)
    ∙ ap (removed s) (b ∙ ap (cancelled s) a)

-- one member more
pub member-next : (old new ms : List ℕ) (w from m : ℕ) → IsAscending 0 w ms → Some m ≡ find (λ m. nat_le from m) ms
    → from ≤ m
    → new ≡ old ++ m ∷ [] → new ++ from_on (m + 1) ms ≡ old ++ from_on from ms
member-next old new ms w from m form e l n =
    ap (λ xs. xs ++ from_on (m + 1) ms) n ∙ append_assoc old (m ∷ []) (from_on (m + 1) ms)
    ∙ ap (λ xs. old ++ xs) (sym (next_some 0 w from m ms form e l))

-- no member is left
pub member-end : (got ms : List ℕ) (from : ℕ) → None ≡ find (λ m. nat_le from m) ms → got ++ from_on from ms ≡ got
member-end got ms from e = ap (λ xs. got ++ xs) (next_none from ms e) ∙ append-nil got
