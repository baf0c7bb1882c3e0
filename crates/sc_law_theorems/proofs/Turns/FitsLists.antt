-- What a fitting run has besides its histories and a legal configuration, which stays so while states are exited and
-- entered.
use Rattle.std.proofs.Common.{◌≡◌, ℕ, ◌&&◌, nat_lt, not, All, Bool, true, IsTrue, List, map, sym, subst}
use Rattle.std.specs.List.{IsDistinct}
use Rattle.std.specs.List.{list_all, list_any}
use Rattle.std.specs.Str.{bytes_eq}
use Rattle.sc_base.specs.Ascending.{contains}
use Rattle.sc_types.specs.declared.chart.Chart.{Chart}
use Rattle.sc_types.specs.declared.chart.Node.{Node}
use Rattle.sc_types.specs.declared.session.Invoked.{Invoked}
use Rattle.sc_law.specs.Tree.{state_count}
use Rattle.sc_law.specs.Kinds.{is_history}
use Rattle.sc_law.specs.Configurations.{IsConfiguration}
use Rattle.sc_law.specs.Sets.{Histories}
use Rattle.sc_law.specs.Runs.{RunState, Running, with_running}
use Rattle.sc_law.specs.Evaluation.{is_pair_named}
use Rattle.sc_law.specs.Data.{own_id}
use Rattle.sc_law.specs.Fitting.{FitsRun, IsRecorded, are_states, data_elements, has_datum, is_own_invoke, is_same_element, rises}
use Rattle.sc_sets.proofs.Union.Below.{all-of-map, all-of-true}
use Rattle.sc_law_theorems.proofs.Turns.Keeps.{Keeps, Values, names_in}
use Rattle.sc_law_theorems.proofs.Turns.Lists.{is_set_of, true-of-all}

-- a state of the chart, and no history
abbrev pub is_state : Chart → ℕ → Bool
is_state c s = nat_lt s (state_count c) && not (is_history c s)

-- what FitsRun says of the sets of states, the invokes and the data
pub record FitsLists (c : Chart) (r : Running) : Type 0 where
  pub active : is_set_of (is_state c) r.env.configuration ≡ true
  pub entered : is_set_of (is_state c) r.entered ≡ true
  pub invokes : list_all (is_own_invoke c r.env.configuration) r.invokes ≡ true
  pub no_invoke_twice : IsDistinct is_same_element r.invokes
  pub to_start : is_set_of (contains r.env.configuration) r.todo ≡ true
  pub none_started : list_all (λ (i : Invoked). not (contains r.todo i.state)) r.invokes ≡ true
  pub no_name_twice : IsDistinct bytes_eq (names_in r.env.values)
  pub declared : list_all (has_datum r.env.values) (data_elements c) ≡ true

-- the records of histories
pub record FitsHistories (c : Chart) (h : Histories) : Type 0 where
  pub in_order : IsTrue (rises (map (λ (kept : ℕ × List ℕ). kept.0) h))
  pub kept : IsTrue (list_all (λ (kept : ℕ × List ℕ). are_states c kept.1) h)
  pub recorded : All (IsRecorded c) h

-- the lists of a run that fits
pub lists-of : (c : Chart) (x : RunState) → FitsRun c x → FitsLists c x.running
lists-of c x fits = record {
  active = fits.active;
  entered = fits.entered;
  invokes = fits.invokes;
  no_invoke_twice = fits.no_invoke_twice;
  to_start = fits.to_start;
  none_started = fits.none_started;
  no_name_twice = fits.no_name_twice;
  declared = fits.declared;
}

-- its histories
pub histories-of : (c : Chart) (x : RunState) → FitsRun c x → FitsHistories c x.histories
histories-of c x fits = record { in_order = fits.in_order; kept = fits.kept; recorded = fits.recorded }

-- a run fits by its lists, its histories and its configuration
pub fits-of : (c : Chart) (x : RunState) → FitsLists c x.running → FitsHistories c x.histories
    → IsConfiguration c x.running.env.configuration → FitsRun c x
fits-of c x lists histories legal = record {
  legal = legal;
  active = lists.active;
  entered = lists.entered;
  in_order = histories.in_order;
  kept = histories.kept;
  recorded = histories.recorded;
  invokes = lists.invokes;
  no_invoke_twice = lists.no_invoke_twice;
  to_start = lists.to_start;
  none_started = lists.none_started;
  no_name_twice = lists.no_name_twice;
  declared = lists.declared;
}

-- what is declared stays declared
pub declared-keeps : (c : Chart) (v w : Values)
    → ((name : List ℕ) → list_any (is_pair_named name) v ≡ true → list_any (is_pair_named name) w ≡ true)
    → list_all (has_datum v) (data_elements c) ≡ true → list_all (has_datum w) (data_elements c) ≡ true
declared-keeps c v w more h =
    true-of-all (has_datum w) (data_elements c)
    (all-of-map (λ (n : Node). has_datum v n ≡ true) (λ n. has_datum w n ≡ true) (data_elements c)
    (λ n i. more (own_id n) i)
    (all-of-true (has_datum v) (data_elements c) h))

-- content keeps them
pub lists-keep : (c : Chart) (r q : Running) → FitsLists c r → Keeps r q → FitsLists c q
lists-keep c r q lists keeps = record {
  active = subst (λ ss. is_set_of (is_state c) ss ≡ true) (sym keeps.env.configuration) lists.active;
  entered = subst (λ ss. is_set_of (is_state c) ss ≡ true) (sym keeps.entered) lists.entered;
  invokes = subst (λ ss. list_all (is_own_invoke c ss) q.invokes ≡ true) (sym keeps.env.configuration)
      (subst (λ is. list_all (is_own_invoke c r.env.configuration) is ≡ true) (sym keeps.invokes) lists.invokes);
  no_invoke_twice = subst (IsDistinct is_same_element) (sym keeps.invokes) lists.no_invoke_twice;
  to_start = subst (λ ss. is_set_of (contains ss) q.todo ≡ true) (sym keeps.env.configuration)
      (subst (λ ts. is_set_of (contains r.env.configuration) ts ≡ true) (sym keeps.todo) lists.to_start);
  none_started = subst (λ ts. list_all (λ (i : Invoked). not (contains ts i.state)) q.invokes ≡ true) (sym keeps.todo)
      (subst (λ is. list_all (λ (i : Invoked). not (contains r.todo i.state)) is ≡ true)
      (sym keeps.invokes) lists.none_started);
  no_name_twice = keeps.env.distinct lists.no_name_twice;
  declared = declared-keeps c r.env.values q.env.values keeps.env.declared lists.declared;
}

-- so does a whole run
pub fits-keep : (c : Chart) (x : RunState) (q : Running) → FitsRun c x → Keeps x.running q
    → FitsRun c (with_running q x)
fits-keep c x q fits keeps =
    fits-of c (with_running q x) (lists-keep c x.running q (lists-of c x fits) keeps) (histories-of c x fits)
    (subst (IsConfiguration c) (sym keeps.env.configuration) fits.legal)
