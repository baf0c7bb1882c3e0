-- Which transitions a microstep takes (SCXML 3.13, Appendix D selectEventlessTransitions, selectTransitions and
-- removeConflictingTransitions). Conditions may put errors into the internal queue, so that a run is handed on.
use Rattle.std.specs.Prelude.{Bool, List, None, Option, Some, [], filter, flat_map, if◌then◌else◌, not, ℕ, ◌&&◌, ◌++◌, ◌∷◌}
use Rattle.std.specs.List.{list_any}
use Rattle.sc_base.specs.Ascending.{contains}
use Rattle.sc_base.specs.Folds.{each}
use Rattle.sc_types.specs.declared.chart.Chart.{Chart}
use Rattle.sc_law.specs.Tree.{ancestors, is_below}
use Rattle.sc_law.specs.Transitions.{condition, is_match, source, transitions_of}
use Rattle.sc_law.specs.Sets.{Histories, leaves}
use Rattle.sc_law.specs.Runs.{RunState, Running, with_running}
use Rattle.sc_law.specs.Outcomes.{holds}
use Rattle.sc_law.specs.Kinds.{is_atomic}

-- the transitions that an atomic state looks at: its own, then those of its ancestors from the nearest
abbrev pub candidates : Chart → ℕ → List ℕ
candidates c s = flat_map (transitions_of c) (s ∷ ancestors c s)

abbrev pub found : ℕ → Running → Option ℕ × Running
found t r = (Some t, r)

-- the transition where its condition holds, else what comes later
abbrev pub tested : ℕ → (Running → Option ℕ × Running) → Bool × Running → Option ℕ × Running
tested t later h = (if h.0 then found t else later) h.1

abbrev pub found_or : Chart → ℕ → (Running → Option ℕ × Running) → Running → Option ℕ × Running
found_or c t later r = tested t later (holds (condition c t) r)

-- the first of these that matches and whose condition holds; no condition behind it, or of one that does not match, is
-- evaluated
abbrev pub first_enabled : Chart → Option (List ℕ) → List ℕ → Running → Option ℕ × Running
first_enabled c event [] r = (None, r)
first_enabled c event (t ∷ ts) r =
    (if is_match c event t then found_or c t (first_enabled c event ts) else first_enabled c event ts) r

-- a transition is chosen once
abbrev pub choose : List ℕ → Option ℕ → List ℕ
choose chosen None = chosen
choose chosen (Some t) = if contains chosen t then chosen else chosen ++ t ∷ []

-- what these atomic states choose, in document order; the condition of one ancestor's transition is evaluated for each
abbrev pub chosen_from : Chart → Option (List ℕ) → List ℕ → List ℕ → Running → List ℕ × Running
chosen_from c event chosen [] r = (chosen, r)
chosen_from c event chosen (s ∷ ss) r =
    let f = first_enabled c event (candidates c s) r in chosen_from c event (choose chosen f.0) ss f.1

-- two transitions conflict where their exit sets meet
abbrev pub conflicts : Chart → Histories → List ℕ → ℕ → ℕ → Bool
conflicts c h configuration t u = list_any (λ s. leaves c h t s && leaves c h u s) configuration

-- Appendix D, removeConflictingTransitions: a transition gives way to an earlier one that it conflicts with, unless
-- its own source lies below
abbrev pub gives_way : Chart → Histories → List ℕ → ℕ → ℕ → Bool
gives_way c h configuration t u = conflicts c h configuration t u && not (is_below c (source c t) (source c u))

-- a transition that does not give way takes the place of those that it conflicts with
abbrev pub keep : Chart → Histories → List ℕ → ℕ → List ℕ → List ℕ
keep c h configuration t kept =
    if list_any (gives_way c h configuration t) kept then kept
    else filter (λ u. not (conflicts c h configuration t u)) kept ++ t ∷ []

abbrev pub kept_of : Chart → Histories → List ℕ → List ℕ → List ℕ
kept_of c h configuration chosen = each (keep c h configuration) chosen []

-- what selection gives, and the run as it leaves it, with what the conditions put into the queue
pub record Selected : Type 0 where
  pub transitions : List ℕ
  pub run : RunState

abbrev pub selected : Chart → RunState → List ℕ × Running → Selected
selected c x chosen = record {
  transitions = kept_of c x.histories x.running.env.configuration chosen.0;
  run = with_running chosen.1 x;
}

-- the transitions that are taken, without an event or for one of this name; the configuration and the histories are
-- those before any of them
unfoldable pub select : Chart → Option (List ℕ) → RunState → Selected
select c event x = let ss = filter (is_atomic c) x.running.env.configuration in
    selected c x (chosen_from c event [] ss x.running)
