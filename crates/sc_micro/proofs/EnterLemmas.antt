-- States are entered one after another.
use Rattle.std.proofs.Common.{◌≡◌, ℕ, ◌+◌, ◌≤◌, nat_le, Bool, Some, None, List, find, ap, sym, ◌∙◌}
use Rattle.sc_base.specs.Ascending.{contains}
use Rattle.sc_base.specs.Folds.{each}
use Rattle.sc_bits.specs.Rows.{IsAscending}
use Rattle.sc_types.specs.declared.chart.Chart.{Chart}
use Rattle.sc_types.specs.declared.chart.Tag.TheVariants as tag
use Rattle.sc_law.specs.Content.{run_blocks}
use Rattle.sc_law.specs.Data.{with_tag}
use Rattle.sc_law.specs.Entering.{enter_state, initial_of, join, late_data, noted_of, told}
use Rattle.sc_law.specs.Entry.{EntryTriple}
use Rattle.sc_law.specs.Runs.{Running}
use Rattle.sc_law.specs.Tree.{kids_of}
use Rattle.sc_sets.proofs.Members.{from_on, next_none, next_some}

-- the next state of a row, and then those behind it
pub step-next : (step : ℕ → Running → Running) (ms : List ℕ) (w from s : ℕ) (r q : Running) → IsAscending 0 w ms
    → Some s ≡ find (λ m. nat_le from m) ms → from ≤ s → q ≡ step s r
    → each step (from_on (s + 1) ms) q ≡ each step (from_on from ms) r
step-next step ms w from s r q form e l h =
    ap (each step (from_on (s + 1) ms)) h ∙ ap (λ xs. each step xs r) (sym (next_some 0 w from s ms form e l))

-- none is left
pub step-end : (step : ℕ → Running → Running) (ms : List ℕ) (from : ℕ) (r : Running)
    → None ≡ find (λ m. nat_le from m) ms
    → r ≡ each step (from_on from ms) r
step-end step ms from r e = ap (λ xs. each step xs r) (sym (next_none from ms e))

-- one state, step by step
pub entered-is : (c : Chart) (e : EntryTriple) (s : ℕ) (r joined late begun initial noted new : Running) (was : Bool)
    → was ≡ contains r.entered s → joined ≡ join s r → late ≡ late_data c s was joined
    → begun ≡ run_blocks (with_tag tag.OnEntry (kids_of c s)) late → initial ≡ run_blocks (initial_of c e s) begun
    → noted ≡ run_blocks (noted_of c e s) initial → new ≡ told c s noted → new ≡ enter_state c e s r
unfolding enter_state
entered-is c e s r joined late begun initial noted new was w j d b i n t =
    t ∙ ap (told c s) (n ∙ ap (run_blocks (noted_of c e s)) (i ∙ ap (run_blocks (initial_of c e s))
    (b ∙ ap (run_blocks (with_tag tag.OnEntry (kids_of c s)))
    (d ∙ ap (λ v. late_data c s v joined) w ∙ ap (late_data c s (contains r.entered s)) j))))
