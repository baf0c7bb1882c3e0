-- Which transitions are kept.
use Rattle.std.proofs.Common.{◌≡◌, ℕ, ◌||◌, ◌&&◌, not, Bool, false, cond, All, List, [], ◌∷◌, ◌++◌, filter, refl, ap₂, sym}
use Rattle.std.proofs.lemmas.List.Elements.{All-filter, All-push, All-same}
use Rattle.std.specs.List.{list_any, AllByRecursion as AllOf}
use Rattle.sc_types.specs.declared.chart.Chart.{Chart}
use Rattle.sc_law.specs.Selection.{conflicts, gives_way, keep}
use Rattle.sc_law.specs.Sets.{Histories}
use Rattle.sc_law.specs.Transitions.{source}
use Rattle.sc_law.specs.Tree.{is_below}

none-before : (c : Chart) (h : Histories) (conf : List ℕ) (t : ℕ) (kept : List ℕ)
    → AllOf (λ u. conflicts c h conf t u ≡ false) kept
    → list_any (gives_way c h conf t) kept ≡ false
none-before c h conf t [] all = refl
none-before c h conf t (u ∷ us) all =
    ap₂ (λ (v w : Bool). (v && not (is_below c (source c t) (source c u))) || w) all.0 (none-before c h conf t us all.1)

all-stay : (c : Chart) (h : Histories) (conf : List ℕ) (t : ℕ) (kept : List ℕ)
    → AllOf (λ u. conflicts c h conf t u ≡ false) kept
    → filter (λ u. not (conflicts c h conf t u)) kept ≡ kept
all-stay c h conf t [] all = refl
all-stay c h conf t (u ∷ us) all = ap₂ (λ (v : Bool) (ns : List ℕ). cond (not v) (u ∷ ns) ns) all.0
    (all-stay c h conf t us all.1)

-- a transition that conflicts with none is kept behind the others
pub keep-apart : (c : Chart) (h : Histories) (conf : List ℕ) (t : ℕ) (kept : List ℕ)
    → AllOf (λ u. conflicts c h conf t u ≡ false) kept
    → kept ++ t ∷ [] ≡ keep c h conf t kept
keep-apart c h conf t kept all =
    sym (ap₂ (λ (v : Bool) (ns : List ℕ). cond v kept (ns ++ t ∷ [])) (none-before c h conf t kept all)
    (all-stay c h conf t kept all))

-- what all have that are kept, and one more, those have that stay, and the one
pub kept-within : (P : ℕ → Type 0) (test : ℕ → Bool) (kept rest new : List ℕ) (t : ℕ) → All P kept → P t
    → rest ≡ filter test kept
    → new ≡ rest ++ t ∷ [] → All P new
kept-within P test kept rest new t all p r n =
    All-same P new (rest ++ t ∷ []) n (All-push P rest t
    (All-same P rest (filter test kept) r (All-filter test P kept all)) p)
