-- Entering what was entered before adds nothing.
use Rattle.std.proofs.Common.{◌≡◌, inl, inr, ℕ, zero, suc, Bool, true, false, cond, Option, Some, None, List, [], ◌∷◌, filter, refl, sym, subst}
use Rattle.sc_base.specs.Ascending.{contains, with_number}
use Rattle.sc_base.specs.Folds.{each}
use Rattle.sc_types.specs.declared.chart.Chart.{Chart}
use Rattle.sc_law.specs.Tree.{ancestors, is_below}
use Rattle.sc_law.specs.Kinds.{is_compound, is_history, is_parallel}
use Rattle.sc_law.specs.Configurations.{children, defaults}
use Rattle.sc_law.specs.Sets.{Histories, value_of_history}
use Rattle.sc_law.specs.Entry.{EntryTriple, Enters, added, bound_of, by_default, down, is_begun, noted, reach, recall, region, regions, settle_in, through, up}
use Rattle.sc_sets.proofs.Union.Alone.{noted-keeps}
use Rattle.sc_law_theorems.proofs.Legal.Gains.{Has, HasMore, begun-more}
use Rattle.sc_law_theorems.proofs.Legal.Lists.{has-added, has-more, with-cases}

-- a step that only adds, and nothing where what it adds is there
pub record Steady (step : EntryTriple → EntryTriple) : Type 0 where
  pub grows : (e : EntryTriple) → HasMore e (step e)
  pub again : (e f : EntryTriple) → HasMore (step e) f → HasMore (step f) f

steady-then : (f g : EntryTriple → EntryTriple) → Steady f → Steady g → Steady (λ e. g (f e))
steady-then f g h i = record {
  grows = λ e x t. i.grows (f e) x (h.grows e x t);
  again =
      λ e d more x t. h.again e d (λ y u. more y (i.grows (f e) y u)) x
      (i.again (f e) (f d) (λ y u. h.grows d y (more y u)) x t);
}

steady-same : Steady (λ e. e)
steady-same = record { grows = λ e x t. t; again = λ e d more x t. t }

steady-either : (v : Bool) (f g : EntryTriple → EntryTriple) → Steady f → Steady g → Steady (cond v f g)
steady-either true f g h i = h
steady-either false f g h i = i

-- a step that leaves the states
steady-states : (f : EntryTriple → EntryTriple) → ((e : EntryTriple) → (f e).states ≡ e.states) → Steady f
steady-states f same = record {
  grows = λ e x t. subst (λ ss. contains ss x ≡ true) (sym (same e)) t;
  again = λ e d more x t. subst (λ ss. contains ss x ≡ true) (same d) t;
}

steady-added : (s : ℕ) → Steady (added s)
steady-added s = record {
  grows = λ e x t. has-more s x e.states t;
  again = λ e d more x t. elim (with-cases s x d.states t) [
    | inl same ↦ subst (λ k. Has d k) (sym same) (more s (has-added s e.states))
    | inr old ↦ old
  ];
}

steady-each : (step : Enters) (xs : List ℕ) → ((s : ℕ) → Steady (step s)) → Steady (each step xs)
steady-each step [] all = steady-same
steady-each step (x ∷ xs) all = steady-then (step x) (each step xs) (all x) (steady-each step xs all)

steady-region : (c : Chart) (enters : Enters) (k : ℕ) → Steady (enters k) → Steady (region c enters k)
steady-region c enters k is = record {
  grows = λ e x t. grow (is_begun c e k) e x t;
  again = λ e d more x t. by (is_begun c e k) (is_begun c d k) e d refl refl more x t;
} where
  grow : (v : Bool) (e : EntryTriple) → HasMore e ((cond v (λ (x : EntryTriple). x) (enters k)) e)
  grow true e x t = t
  grow false e x t = is.grows e x t

  by : (v w : Bool) (e d : EntryTriple) → is_begun c e k ≡ v → is_begun c d k ≡ w
      → HasMore ((cond v (λ (x : EntryTriple). x) (enters k)) e) d
      → HasMore ((cond w (λ (x : EntryTriple). x) (enters k)) d) d
  by v true e d i j more x t = t
  by true false e d i j more x t = absurd (let yes = begun-more c e d k more i in cc)
  by false false e d i j more x t = is.again e d more x t

steady-regions : (c : Chart) (enters : Enters) (a : ℕ) → ((s : ℕ) → Steady (enters s)) → Steady (regions c enters a)
steady-regions c enters a all = steady-each (region c enters) (children c a) (λ s. steady-region c enters s (all s))

-- entering an ancestor is steady where what it enters is
pub steady-through : (c : Chart) (enters : Enters) (a : ℕ) → ((s : ℕ) → Steady (enters s)) → Steady (through c enters a)
steady-through c enters a all =
    steady-then (added a) (cond (is_parallel c a) (regions c enters a) (λ e. e)) (steady-added a)
    (steady-either (is_parallel c a) (regions c enters a) (λ e. e) (steady-regions c enters a all) steady-same)

-- so is the way up
pub steady-up : (c : Chart) (enters : Enters) (b s : ℕ) → ((s : ℕ) → Steady (enters s)) → Steady (up c enters b s)
steady-up c enters b s all =
    steady-each (through c enters) (filter (λ a. is_below c a b) (ancestors c s)) (λ a. steady-through c enters a all)

steady-reach : (c : Chart) (enters : Enters) (b : ℕ) (ss : List ℕ) → ((s : ℕ) → Steady (enters s))
    → Steady (reach c enters b ss)
steady-reach c enters b ss all =
    steady-then (each enters ss) (each (up c enters b) ss) (steady-each enters ss all)
    (steady-each (up c enters b) ss (λ s. steady-up c enters b s all))

steady-default : (c : Chart) (enters : Enters) (s : ℕ) → ((s : ℕ) → Steady (enters s)) → Steady (by_default c enters s)
steady-default c enters s all =
    steady-then (λ e. record e { defaults = with_number s e.defaults }) (reach c enters s (defaults c s))
    (steady-states (λ e. record e { defaults = with_number s e.defaults }) (λ e. refl))
    (steady-reach c enters s (defaults c s) all)

steady-settle : (c : Chart) (enters : Enters) (s : ℕ) → ((s : ℕ) → Steady (enters s)) → Steady (settle_in c enters s)
steady-settle c enters s all =
    steady-then (added s)
    (cond (is_compound c s) (by_default c enters s) (cond (is_parallel c s) (regions c enters s) (λ e. e)))
    (steady-added s)
    (steady-either (is_compound c s) (by_default c enters s) (cond (is_parallel c s) (regions c enters s) (λ e. e))
    (steady-default c enters s all)
    (steady-either (is_parallel c s) (regions c enters s) (λ e. e) (steady-regions c enters s all) steady-same))

steady-recall : (c : Chart) (d : ℕ) (enters : Enters) (s : ℕ) (o : Option (List ℕ)) → ((s : ℕ) → Steady (enters s))
    → Steady (recall c d enters s o)
steady-recall c d enters s None all =
    steady-then (noted s) (reach c enters (bound_of c d s) (defaults c s)) (steady-states (noted s) (noted-keeps s))
    (steady-reach c enters (bound_of c d s) (defaults c s) all)
steady-recall c d enters s (Some ss) all = steady-reach c enters (bound_of c d s) ss all

-- so is the recursion of an entry
pub steady-down : (c : Chart) (h : Histories) (d n : ℕ) (s : ℕ) → Steady (down c h d n s)
unfolding down
steady-down c h d zero s = steady-same
steady-down c h d (suc n) s =
    steady-either (is_history c s) (recall c d (down c h d n) s (value_of_history h s)) (settle_in c (down c h d n) s)
    (steady-recall c d (down c h d n) s (value_of_history h s) (steady-down c h d n))
    (steady-settle c (down c h d n) s (steady-down c h d n))
