-- Which states a microstep enters (SCXML Appendix D, computeEntrySet, addDescendantStatesToEnter and
-- addAncestorStatesToEnter).
use Rattle.std.specs.Prelude.{Bool, List, None, Option, Some, [], filter, if◌then◌else◌, suc, zero, ℕ, ◌++◌, ◌∷◌}
use Rattle.std.specs.List.{list_any}
use Rattle.std.specs.Option.{option_map_or}
use Rattle.sc_base.specs.Ascending.{contains, with_number}
use Rattle.sc_base.specs.Folds.{each}
use Rattle.sc_types.specs.declared.chart.Chart.{Chart}
use Rattle.sc_law.specs.Tree.{ancestors, is_below, state_count, root}
use Rattle.sc_law.specs.Configurations.{children, defaults, parent_of}
use Rattle.sc_law.specs.Transitions.{targets}
use Rattle.sc_law.specs.Sets.{Histories, domain, effective_targets, value_of_history}
use Rattle.sc_law.specs.Kinds.{is_compound, is_parallel, is_history}

-- the states to enter, those entered by default, and the histories whose default content is to run
pub record EntryTriple : Type 0 where
  pub states : List ℕ
  pub defaults : List ℕ
  pub noted : List ℕ

abbrev pub no_entry : EntryTriple
no_entry = record { states = []; defaults = []; noted = [] }

-- what entering a state adds
abbrev pub Enters : Type 0
Enters = ℕ → EntryTriple → EntryTriple

abbrev pub added : ℕ → EntryTriple → EntryTriple
added s e = record e { states = with_number s e.states }

-- something below the state is in the set; the state itself does not count
abbrev pub is_begun : Chart → EntryTriple → ℕ → Bool
is_begun c e s = list_any (λ t. is_below c t s) e.states

-- 3.4: the child states of a parallel are entered, but for those of which something is in the set already
abbrev pub region : Chart → Enters → ℕ → EntryTriple → EntryTriple
region c enters s e = (if is_begun c e s then (λ same. same) else enters s) e

abbrev pub regions : Chart → Enters → ℕ → EntryTriple → EntryTriple
regions c enters s e = each (region c enters) (children c s) e

-- addAncestorStatesToEnter: the proper ancestors below the bound, from the nearest. An ancestor is not entered by its
-- default.
abbrev pub through : Chart → Enters → ℕ → EntryTriple → EntryTriple
through c enters a e = (if is_parallel c a then regions c enters a else (λ same. same)) (added a e)

abbrev pub up : Chart → Enters → ℕ → ℕ → EntryTriple → EntryTriple
up c enters bound s e = each (through c enters) (filter (λ a. is_below c a bound) (ancestors c s)) e

-- all of these states, and only then what stands between each of them and the bound
abbrev pub reach : Chart → Enters → ℕ → List ℕ → EntryTriple → EntryTriple
reach c enters bound ss e = each (up c enters bound) ss (each enters ss e)

-- The states of a history are entered below the domain of the transition where that is below the history's parent, else
-- below the parent. This host's own rule: Appendix D goes by the parent alone, and would enter states that were not
-- exited.
abbrev pub bound_of : Chart → ℕ → ℕ → ℕ
bound_of c bound s = if is_below c bound (parent_of c s) then bound else parent_of c s

-- 3.10: a history whose default content is to run
abbrev pub noted : ℕ → EntryTriple → EntryTriple
noted s e = if contains e.noted s then e else record e { noted = e.noted ++ s ∷ [] }

-- addDescendantStatesToEnter, of a history: what it recorded, or its defaults, which are noted
abbrev pub recall : Chart → ℕ → Enters → ℕ → Option (List ℕ) → EntryTriple → EntryTriple
recall c bound enters s None e = reach c enters (bound_of c bound s) (defaults c s) (noted s e)
recall c bound enters s (Some ss) e = reach c enters (bound_of c bound s) ss e

-- 3.3 and 3.6: a compound state is entered by its default targets
abbrev pub by_default : Chart → Enters → ℕ → EntryTriple → EntryTriple
by_default c enters s e = reach c enters s (defaults c s) (record e { defaults = with_number s e.defaults })

-- addDescendantStatesToEnter, of a state: alone, with its default, or with its regions. The choice is between
-- functions, so that only the one that is taken is computed.
abbrev pub settle_in : Chart → Enters → ℕ → EntryTriple → EntryTriple
settle_in c enters s e = (if is_compound c s then by_default c enters s
    else if is_parallel c s then regions c enters s
    else (λ same. same)) (added s e)

-- addDescendantStatesToEnter, so many times within one another at most
unfoldable pub down : Chart → Histories → ℕ → ℕ → Enters
down c h bound zero s e = e
down c h bound (suc n) s e = (if is_history c s then recall c bound (down c h bound n) s (value_of_history h s)
    else settle_in c (down c h bound n) s) e

-- a state or history is not met twice on the way down, so that their number is enough
abbrev pub enters : Chart → Histories → ℕ → Enters
enters c h bound = down c h bound (state_count c)

-- Appendix D, computeEntrySet: what targets enter below a domain, first downward for each target, and then upward for
-- each effective target
abbrev pub enter_targets : Chart → Histories → List ℕ → ℕ → EntryTriple → EntryTriple
enter_targets c h ss bound e =
    each (up c (enters c h bound) bound) (effective_targets c h ss) (each (enters c h bound) ss e)

-- A transition without targets enters nothing. The domain goes by the histories before the exit, and all else by those
-- after it. This host's own rule: Appendix D finds the domain anew, and could leave out states that were exited.
abbrev pub entry_of : Chart → Histories → Histories → ℕ → EntryTriple → EntryTriple
entry_of c before h t e = option_map_or (λ d. enter_targets c h (targets c t) d e) (domain c before t) e

-- Appendix D, computeEntrySet
unfoldable pub entry : Chart → Histories → Histories → List ℕ → EntryTriple
entry c before h ts = each (entry_of c before h) ts no_entry

-- 3.2: the document's own entry, with the root as the domain (this host's own rule)
unfoldable pub first_entry : Chart → EntryTriple
first_entry c = enter_targets c [] (defaults c (root c)) (root c) no_entry
