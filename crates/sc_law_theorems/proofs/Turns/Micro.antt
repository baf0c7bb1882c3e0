-- A microstep of a run that fits leaves one that fits.
use Rattle.std.proofs.Common.{◌≡◌, ℕ, ◌==◌, ◌&&◌, ◌||◌, not, true, false, List, [], ◌∷◌, refl, arith, ap, sym, subst, ◌∙◌}
use Rattle.std.specs.List.{AllByRecursion as AllOf, list_all, list_any}
use Rattle.std.proofs.lemmas.Bool.Decides.{nat_tests}
use Rattle.sc_base.specs.Ascending.{contains}
use Rattle.sc_base.specs.Folds.{each}
use Rattle.sc_types.specs.declared.chart.Chart.{Chart}
use Rattle.sc_types.specs.declared.chart.Node.{Node}
use Rattle.sc_types.specs.declared.session.Invoked.{Invoked}
use Rattle.sc_law.specs.Nodes.{kids}
use Rattle.sc_law.specs.Transitions.{transition}
use Rattle.sc_law.specs.Sets.{Histories, exit_set}
use Rattle.sc_law.specs.Entry.{EntryTriple, entry}
use Rattle.sc_law.specs.Runs.{RunState, Running}
use Rattle.sc_law.specs.Invokes.{invokes_of}
use Rattle.sc_law.specs.Leaving.{exit_states}
use Rattle.sc_law.specs.Entering.{enter}
use Rattle.sc_law.specs.Microstep.{microstep, run_content}
use Rattle.sc_law.specs.Fitting.{FitsRun, is_own_invoke, rises}
use Rattle.sc_sets.specs.Union.{AreKept, recorded_by}
use Rattle.sc_sets.proofs.Union.Below.{all-of-map, all-of-true}
use Rattle.sc_law_theorems.proofs.Turns.Content.{block-moves}
use Rattle.sc_law_theorems.proofs.Turns.Entering.{IsFree, each-enters, each-joined}
use Rattle.sc_law_theorems.proofs.Turns.FitsLists.{FitsHistories, FitsLists, fits-of, is_state, lists-keep, lists-of}
use Rattle.sc_law_theorems.proofs.Turns.Keeps.{Moves, each-moves}
use Rattle.sc_law_theorems.proofs.Turns.Laws.{IsAfter, Laws}
use Rattle.sc_law_theorems.proofs.Turns.Leaving.{exit-lists, exit-members, exit-records}
use Rattle.sc_law_theorems.proofs.Turns.Lists.{all-members, both, false-by}

content-moves : (c : Chart) (ts : List ℕ) → Moves (each (run_content c) ts)
content-moves c ts = each-moves (run_content c) ts (λ t. block-moves (kids (transition c t)))

-- no invoke of a state that is not active runs
free-of : (c : Chart) (r : Running) (s : ℕ) → FitsLists c r → contains r.env.configuration s ≡ false
    → IsFree r.invokes s
free-of c r s lists none =
    all-of-map (λ (i : Invoked). is_own_invoke c r.env.configuration i ≡ true) (λ i. (i.state == s) ≡ false) r.invokes
    (λ i own. false-by (i.state == s) (λ e. (let same : i.state ≡ s = grind (arith, nat_tests) in
    let active =
    (both (contains r.env.configuration i.state)
    (list_any (λ (p : ℕ × Node). p.0 == i.place) (invokes_of c i.state)) own).0 in
    let yes : contains r.env.configuration s ≡ true =
    subst (λ k. contains r.env.configuration k ≡ true) same active in cc)))
    (all-of-true (is_own_invoke c r.env.configuration) r.invokes lists.invokes)

-- the run once the states were exited and the transitions' content ran
abbrev between : Chart → List ℕ → RunState → Running
between c ts x =
    each (run_content c) ts (exit_states c (exit_set c x.histories ts x.running.env.configuration) x).running

between-members : (c : Chart) (ts : List ℕ) (x : RunState) (t : ℕ) → contains (between c ts x).env.configuration t
    ≡ (contains x.running.env.configuration t && not
    (contains (exit_set c x.histories ts x.running.env.configuration) t))
between-members c ts x t =
    ap (λ l. contains l t)
    (content-moves c ts
    (exit_states c (exit_set c x.histories ts x.running.env.configuration) x).running).env.configuration
    ∙ exit-members c (exit_set c x.histories ts x.running.env.configuration) x t

between-lists : (c : Chart) (ts : List ℕ) (x : RunState) → FitsLists c x.running → FitsLists c (between c ts x)
between-lists c ts x lists =
    lists-keep c (exit_states c (exit_set c x.histories ts x.running.env.configuration) x).running (between c ts x)
    (exit-lists c (exit_set c x.histories ts x.running.env.configuration) x lists)
    (content-moves c ts (exit_states c (exit_set c x.histories ts x.running.env.configuration) x).running)

-- what the transitions enter
abbrev entered_by : Chart → List ℕ → RunState → EntryTriple
entered_by c ts x = entry c x.histories (recorded_by c x.histories ts x.running.env.configuration) ts

-- the run after the entry, with these histories after the exit
abbrev taken_with : Chart → List ℕ → RunState → Histories → RunState
taken_with c ts x h = record { running = enter c (entry c x.histories h ts) (between c ts x); histories = h }

abbrev taken : Chart → List ℕ → RunState → RunState
taken c ts x = taken_with c ts x (recorded_by c x.histories ts x.running.env.configuration)

taken-fits : (c : Chart) (ts : List ℕ) (x : RunState) → Laws c → FitsRun c x
    → AreKept c x.histories x.running.env.configuration ts
    → FitsRun c (taken c ts x)
taken-fits c ts x laws fits kept =
    fits-of c (taken c ts x) entered records
    (laws.legal_after x.histories x.running.env.configuration ts (taken c ts x).running.env.configuration kept members)
  where
    lists : FitsLists c (between c ts x)
    lists = between-lists c ts x (lists-of c x fits)

    states : AllOf (λ s. is_state c s ≡ true) (entered_by c ts x).states
    states = all-of-true (is_state c) (entered_by c ts x).states
        (laws.entered_states x.histories x.running.env.configuration ts kept)

    free : AllOf (IsFree (between c ts x).invokes) (entered_by c ts x).states
    free = all-members (IsFree (between c ts x).invokes) (entered_by c ts x).states
        (λ s h. free-of c (between c ts x) s lists
        (between-members c ts x s ∙ laws.entered_new x.histories x.running.env.configuration ts kept s h))

    entered : FitsLists c (taken c ts x).running
    entered = each-enters c (entered_by c ts x) (entered_by c ts x).states (between c ts x) lists states free

    members : IsAfter c x.histories x.running.env.configuration ts (taken c ts x).running.env.configuration
    members s = each-joined c (entered_by c ts x) (entered_by c ts x).states (between c ts x) s
        ∙ ap (λ v. v || contains (entered_by c ts x).states s) (between-members c ts x s)

    order : rises x.running.env.configuration ≡ true
    order = (both (rises x.running.env.configuration) (list_all (is_state c) x.running.env.configuration) fits.active).0

    records : FitsHistories c (taken c ts x).histories
    records = record {
      in_order = laws.order_after x.histories x.running.env.configuration ts kept order fits.in_order fits.kept;
      kept = laws.kept_after x.histories x.running.env.configuration ts kept order fits.in_order fits.kept;
      recorded = laws.recorded_after x.histories x.running.env.configuration ts kept;
    }

-- a microstep is the exit, the content and the entry
arrive-is : (c : Chart) (t : ℕ) (ts : List ℕ) (x : RunState) → microstep c (t ∷ ts) x ≡ taken c (t ∷ ts) x
unfolding microstep
arrive-is c t ts x =
    ap (taken_with c (t ∷ ts) x) (exit-records c (exit_set c x.histories (t ∷ ts) x.running.env.configuration) x)

-- without transitions nothing changes
nothing-is : (c : Chart) (x : RunState) → microstep c [] x ≡ x
unfolding microstep
nothing-is c x = refl

-- a microstep of transitions that selection kept leaves a run that fits
pub microstep-fits : (c : Chart) (ts : List ℕ) (x : RunState) → Laws c → FitsRun c x
    → AreKept c x.histories x.running.env.configuration ts → FitsRun c (microstep c ts x)
microstep-fits c [] x laws fits kept = subst (FitsRun c) (sym (nothing-is c x)) fits
microstep-fits c (t ∷ ts) x laws fits kept =
    subst (FitsRun c) (sym (arrive-is c t ts x)) (taken-fits c (t ∷ ts) x laws fits kept)
