-- Effective targets, domains and exit sets (SCXML Appendix D).
use Rattle.std.specs.Prelude.{Bool, List, None, Option, Some, [], false, filter, find, flat_map, if◌then◌else◌, option_and_then, unwrap_or, ℕ, ◌&&◌, ◌==◌, ◌∷◌}
use Rattle.std.specs.List.{list_all, list_any}
use Rattle.std.specs.Option.{option_map_or}
use Rattle.sc_types.specs.declared.chart.Chart.{Chart}
use Rattle.sc_law.specs.Tree.{ancestors, is_below, root}
use Rattle.sc_law.specs.Configurations.{defaults}
use Rattle.sc_law.specs.Transitions.{is_internal, source, targets}
use Rattle.sc_law.specs.Kinds.{is_compound, is_history}

-- the states that each history recorded, 3.10
abbrev pub Histories : Type 0
Histories = List (ℕ × List ℕ)

-- an empty record is no value: the history stands for its defaults then (this host's own rule)
abbrev pub some_states : List ℕ → Option (List ℕ)
some_states [] = None
some_states (s ∷ ss) = Some (s ∷ ss)

-- what a history recorded
abbrev pub value_of_history : Histories → ℕ → Option (List ℕ)
value_of_history h s =
    option_and_then (λ (kept : ℕ × List ℕ). some_states kept.1) (find (λ (kept : ℕ × List ℕ). kept.0 == s) h)

-- Appendix D, getEffectiveTargetStates: a history stands for what it recorded, else for its defaults
abbrev pub stands_for : Chart → Histories → ℕ → List ℕ
stands_for c h s = if is_history c s then unwrap_or (value_of_history h s) (defaults c s) else s ∷ []

abbrev pub effective_targets : Chart → Histories → List ℕ → List ℕ
effective_targets c h ss = flat_map (stands_for c h) ss

-- a state is above all of these
abbrev pub is_above_all : Chart → List ℕ → ℕ → Bool
is_above_all c ss above = list_all (λ s. is_below c s above) ss

-- 3.13: an internal transition of a compound state whose effective targets are all below it
abbrev pub is_own_domain : Chart → ℕ → List ℕ → Bool
is_own_domain c t ss = is_internal c t && is_compound c (source c t) && is_above_all c ss (source c t)

-- Appendix D, findLCCA: the nearest compound ancestor above all of these, else the root
abbrev pub nearest_above : Chart → ℕ → List ℕ → ℕ
nearest_above c s ss = unwrap_or (find (λ a. is_compound c a && is_above_all c ss a) (ancestors c s)) (root c)

-- Appendix D, getTransitionDomain: none without targets
abbrev pub domain_over : Chart → ℕ → List ℕ → Option ℕ
domain_over c t [] = None
domain_over c t (s ∷ ss) =
    Some (if is_own_domain c t (s ∷ ss) then source c t else nearest_above c (source c t) (s ∷ ss))

unfoldable pub domain : Chart → Histories → ℕ → Option ℕ
domain c h t = domain_over c t (effective_targets c h (targets c t))

-- a transition exits a state, where that is active
abbrev pub leaves : Chart → Histories → ℕ → ℕ → Bool
leaves c h t s = option_map_or (is_below c s) (domain c h t) false

-- Appendix D, computeExitSet: the active states below the domain of one of the transitions
unfoldable pub exit_set : Chart → Histories → List ℕ → List ℕ → List ℕ
exit_set c h ts configuration = filter (λ s. list_any (λ t. leaves c h t s) ts) configuration
