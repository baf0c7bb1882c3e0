-- The invokes of a state are cancelled, and those of others stay.
use Rattle.std.proofs.Common.{◌≡◌, ℕ, ◌||◌, not, Bool, true, false, cond, List, [], ◌∷◌, ◌++◌, filter, map, append-nil, append_assoc, refl, ap, ap₂, sym, ◌∙◌}
use Rattle.std.specs.List.{list_any}
use Rattle.sc_base.specs.Folds.{each}
use Rattle.sc_types.specs.declared.effect.Effect.{Effect}
use Rattle.sc_types.specs.declared.effect.Effect.TheVariants.{CancelChild}
use Rattle.sc_types.specs.declared.session.Invoked.{Invoked}
use Rattle.sc_law.specs.Leaving.{cancelled, is_of}
use Rattle.sc_law.specs.Runs.{Running, with_effect}

effects-each : (is : List Invoked) (r : Running)
    → each (λ (i : Invoked). with_effect (CancelChild i.child)) is r
    ≡ record r { effects = r.effects ++ map (λ (i : Invoked). CancelChild i.child) is }
effects-each [] r = ap (λ (es : List Effect). record r { effects = es }) (sym (append-nil r.effects))
effects-each (i ∷ is) r =
    effects-each is (with_effect (CancelChild i.child) r)
    ∙ ap (λ (es : List Effect). record r { effects = es })
    (append_assoc r.effects (CancelChild i.child ∷ []) (map (λ (i : Invoked). CancelChild i.child) is))

-- the effects, and the invokes that are left
pub cancelled-is : (s : ℕ) (r : Running) (effects : List Effect) (invokes : List Invoked)
    → effects ≡ r.effects ++ map (λ (i : Invoked). CancelChild i.child) (filter (is_of s) r.invokes)
    → invokes ≡ filter (λ i. not (is_of s i)) r.invokes
    → record r { effects = effects; invokes = invokes } ≡ cancelled s r
cancelled-is s r effects invokes e i =
    ap₂ (λ (es : List Effect) (is : List Invoked). record r { effects = es; invokes = is }) e i
    ∙ ap (λ (q : Running). record q { invokes = filter (λ i. not (is_of s i)) r.invokes })
    (sym (effects-each (filter (is_of s) r.invokes) r))

none-of : (s : ℕ) (is : List Invoked) → list_any (is_of s) is ≡ false
    → (filter (is_of s) is ≡ []) × (filter (λ i. not (is_of s i)) is ≡ is)
none-of s [] h = (refl, refl)
none-of s (i ∷ is) h = by (is_of s i) h (none-of s is) where
  by : (v : Bool) → (v || list_any (is_of s) is) ≡ false
      → (list_any (is_of s) is ≡ false → (filter (is_of s) is ≡ []) × (filter (λ i. not (is_of s i)) is ≡ is))
      → (cond v (i ∷ filter (is_of s) is) (filter (is_of s) is) ≡ [])
      × (cond (not v) (i ∷ filter (λ i. not (is_of s i)) is) (filter (λ i. not (is_of s i)) is) ≡ i ∷ is)
  by true h so = absurd (cc)
  by false h so = ((so h).0, ap (λ js. i ∷ js) (so h).1)

-- without invokes nothing changes
pub cancelled-none : (s : ℕ) (r : Running) → list_any (is_of s) r.invokes ≡ false → r ≡ cancelled s r
cancelled-none s r h =
    let none = none-of s r.invokes h in
    cancelled-is s r r.effects r.invokes
    (sym (ap (λ is. r.effects ++ map (λ (i : Invoked). CancelChild i.child) is) none.0 ∙ append-nil r.effects))
    (sym none.1)
