-- What one transition exits.
use Rattle.std.proofs.Common.{◌≡◌, ℕ, ◌||◌, Bool, true, false, Option, Some, None, List, [], ◌∷◌, filter, refl, ap, ◌∙◌}
use Rattle.std.specs.List.{list_any}
use Rattle.std.specs.Option.{option_map_or}
use Rattle.sc_types.specs.declared.chart.Chart.{Chart}
use Rattle.sc_law.specs.Sets.{Histories, domain, exit_set, leaves}
use Rattle.sc_law.specs.Tree.{is_below}
use Rattle.sc_sets.proofs.BelowSets.{filter_same}

one : (v : Bool) → (v || false) ≡ v
one true = refl
one false = refl

leaves_is : (c : Chart) (h : Histories) (t s : ℕ) (o : Option ℕ) → domain c h t ≡ o
    → list_any (λ t. leaves c h t s) (t ∷ []) ≡ option_map_or (is_below c s) o false
leaves_is c h t s o e = one (leaves c h t s) ∙ ap (λ d. option_map_or (is_below c s) d false) e

none_kept : (ns : List ℕ) → filter (λ n. false) ns ≡ []
none_kept [] = refl
none_kept (n ∷ ns) = none_kept ns

-- without a domain it exits nothing
pub exit_none : (c : Chart) (h : Histories) (t : ℕ) (conf : List ℕ) → domain c h t ≡ None → exit_set c h (t ∷ []) conf ≡ []
unfolding exit_set
exit_none c h t conf e = filter_same _ (λ s. false) (λ s. leaves_is c h t s None e) conf ∙ none_kept conf

-- else what is below it
pub exit_some : (c : Chart) (h : Histories) (t d : ℕ) (conf : List ℕ) → domain c h t ≡ Some d
    → exit_set c h (t ∷ []) conf ≡ filter (λ s. is_below c s d) conf
unfolding exit_set
exit_some c h t d conf e = filter_same _ (λ s. is_below c s d) (λ s. leaves_is c h t s (Some d) e) conf
