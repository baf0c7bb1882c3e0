-- Steps over lists.
use Rattle.std.proofs.Common.{◌≡◌, ℕ, Bool, true, false, cond, List, [], ◌∷◌, ◌++◌, filter, refl}
use Rattle.sc_base.specs.Folds.{each}
use Rattle.sc_types.specs.declared.chart.Chart.{Chart}
use Rattle.sc_law.specs.Entry.{EntryTriple, Enters, through}
use Rattle.sc_law.specs.Tree.{is_below}
use Rattle.sc_sets.specs.Steps.{passed}

-- the ancestors below a limit
pub each_passed : (c : Chart) (enters : Enters) (limit : ℕ) (ss : List ℕ) (e : EntryTriple)
    → each (through c enters) (filter (λ a. is_below c a limit) ss) e ≡ each (passed c enters limit) ss e
each_passed c enters limit [] e = refl
each_passed c enters limit (s ∷ ss) e = by (is_below c s limit) (λ e. each_passed c enters limit ss e) where
  by : (v : Bool) → ((e : EntryTriple) → each (through c enters) (filter (λ a. is_below c a limit) ss) e ≡ each (passed c enters limit) ss e)
      → each (through c enters) (cond v (s ∷ filter (λ a. is_below c a limit) ss) (filter (λ a. is_below c a limit) ss)) e
      ≡ each (passed c enters limit) ss (cond v (through c enters s) (λ same. same) e)
  by true so = so (through c enters s e)
  by false so = so e

pub each_append : {S : Type 0} (f : ℕ → S → S) (xs ys : List ℕ) (e : S) → each f (xs ++ ys) e ≡ each f ys (each f xs e)
each_append f [] ys e = refl
each_append f (x ∷ xs) ys e = each_append f xs ys (f x e)
