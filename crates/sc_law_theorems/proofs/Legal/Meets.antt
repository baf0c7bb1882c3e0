-- States that can be active together: no compound state, and not the root, has them below two of its children.
use Rattle.std.proofs.Common.{◌≡◌, ◌⊎◌, inl, inr, ℕ, ◌≤◌, Bool, true, false, None, List, [], ◌∷◌, refl, arith, sym, subst}
use Rattle.std.specs.List.{AllByRecursion as AllOf}
use Rattle.sc_types.specs.declared.chart.Chart.{Chart}
use Rattle.sc_law.specs.Tree.{is_below, root, state_count}
use Rattle.sc_law.specs.Kinds.{is_compound, is_history}
use Rattle.sc_law.specs.Legality.{legal_fault}
use Rattle.sc_law.specs.Configurations.{parent_of}
use Rattle.sc_law_theorems.proofs.Legal.Tree.{IsKid, Under, between, forks-under, same-kid, under-below, under-on}

-- a state of whose children only one is active
abbrev pub HasOne : Chart → ℕ → Type 0
HasOne c x = (is_compound c x ≡ true) ⊎ (x ≡ root c)

-- two states that can be active together
pub record Agree (c : Chart) (y z : ℕ) : Type 0 where
  pub same : (x j k : ℕ) → HasOne c x → x ≤ state_count c → IsKid c x j → IsKid c x k → Under c y j → Under c z k
      → j ≡ k

-- in either order
pub agree-back : (c : Chart) (y z : ℕ) → Agree c y z → Agree c z y
agree-back c y z is = record { same = λ x j k one m a b h i. sym (is.same x k j one m b a i h) }

-- what is above one of them agrees too
pub agree-up : (c : Chart) (y z a : ℕ) → Under c y a → Agree c y z → Agree c a z
agree-up c y z a up is = record { same = λ x j k one m r s h i. is.same x j k one m r s (under-on c y a j up h) i }

-- a state agrees with what it is below
pub agree-under : (c : Chart) (y z : ℕ) → legal_fault c ≡ None → Under c y z → Agree c y z
agree-under c y z legal u =
    record { same = λ x j k one m r s h i. same-kid c x j k y legal m r s h (under-on c y z k u i) }

-- and with itself
pub agree-self : (c : Chart) (y : ℕ) → legal_fault c ≡ None → Agree c y y
agree-self c y legal = agree-under c y y legal (inl refl)

-- what is below one of them agrees with the other, where that is not below the first
pub agree-down : (c : Chart) (y z w : ℕ) → legal_fault c ≡ None → y ≤ state_count c → Under c w y
    → (is_below c z y ≡ true → ⊥) → Agree c y z → Agree c w z
agree-down c y z w legal l low out is = record {
  same =
      λ x j k one m r s h i. by x j k one m r s i (forks-under c w y j legal l (let n = r.number in omega arith) low h);
} where
  by : (x j k : ℕ) → HasOne c x → x ≤ state_count c → IsKid c x j → IsKid c x k → Under c z k
      → (Under c y j) ⊎ (is_below c j y ≡ true) → j ≡ k
  by x j k one m r s i (inl above) = is.same x j k one m r s above i
  by x j k one m r s i (inr deep) =
      absurd (out (inside (subst (λ p. Under c p y) r.parent (between c j y legal r.number l deep)))) where
        zx : is_below c z x ≡ true
        zx = under-below c z k x i s.below

        inside : Under c x y → is_below c z y ≡ true
        inside (inl e) = subst (λ p. is_below c z p ≡ true) e zx
        inside (inr d) = under-below c z x y (inr zx) d

-- ---- apart

-- two states that can be active together, of which none is the other or above it
pub record IsApart (c : Chart) (u v : ℕ) : Type 0 where
  pub agree : Agree c u v
  pub left : Under c u v → ⊥
  pub right : Under c v u → ⊥
  pub first : u ≤ state_count c
  pub second : v ≤ state_count c

-- nothing is in the subtrees of both
pub apart-none : (c : Chart) (u v x : ℕ) → legal_fault c ≡ None → IsApart c u v → Under c x u → Under c x v → ⊥
apart-none c u v x legal is h i = elim (forks-under c x u v legal is.first is.second h i) [
  | inl low ↦ is.left low
  | inr high ↦ is.right (inr high)
]

-- all in the subtree of one agrees with all in the subtree of the other
pub apart-agree : (c : Chart) (u v x y : ℕ) → legal_fault c ≡ None → IsApart c u v → Under c x u → Under c y v
    → Agree c x y
apart-agree c u v x y legal is h i =
    agree-back c y x (agree-down c v x y legal is.second i (λ low. apart-none c u v x legal is h (inr low))
    (agree-back c x v (agree-down c u v x legal is.first h (λ low. is.right (inr low)) is.agree)))

-- ---- the seats of targets

-- by whether the target is a history
abbrev pub SeatBy : Bool → Chart → ℕ → ℕ
SeatBy true c t = parent_of c t
SeatBy false c t = t

-- what the states of a target are in: a state itself, or the parent of a history
abbrev pub seat : Chart → ℕ → ℕ
seat c t = SeatBy (is_history c t) c t

-- each two items are related
abbrev pub Pairs : (ℕ → ℕ → Type 0) → List ℕ → Type 0
Pairs R [] = Unit
Pairs R (s ∷ ss) = AllOf (R s) ss × Pairs R ss

-- targets that can be entered together, or the same target
abbrev pub Together : Chart → ℕ → ℕ → Type 0
Together c s t = (IsApart c (seat c s) (seat c t)) ⊎ (s ≡ t)
