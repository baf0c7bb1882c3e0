-- Selection keeps transitions with active sources that exit no state in common, and only puts errors into the queue.
use Rattle.std.proofs.Common.{◌≡◌, ℕ, ◌&&◌, ◌||◌, not, AllPairs, Bool, true, false, cond, Option, Some, None, List, [], ◌∷◌, ◌++◌, filter, refl, arith, ap₂, sym, subst, ◌∙◌}
use Rattle.std.specs.List.{AllByRecursion as AllOf, list_any}
use Rattle.std.proofs.lemmas.List.Elements.{All-from_recursion}
use Rattle.std.proofs.lemmas.List.Kept.{AllPairs-cons}
use Rattle.sc_base.specs.Ascending.{contains}
use Rattle.sc_base.specs.Folds.{each}
use Rattle.sc_types.specs.declared.chart.Chart.{Chart}
use Rattle.sc_law.specs.Kinds.{is_atomic}
use Rattle.sc_law.specs.Legality.{legal_fault}
use Rattle.sc_law.specs.Transitions.{condition, is_match}
use Rattle.sc_law.specs.Sets.{Histories, leaves}
use Rattle.sc_law.specs.Runs.{RunState, Running}
use Rattle.sc_law.specs.Outcomes.{holds}
use Rattle.sc_law.specs.Selection.{candidates, choose, chosen_from, conflicts, first_enabled, found, found_or, gives_way, keep, kept_of, select, tested}
use Rattle.sc_law.specs.Fitting.{FitsRun}
use Rattle.sc_sets.specs.Union.{AreKept}
use Rattle.sc_sets.proofs.Union.Below.{all-of-filter, all-of-map}
use Rattle.sc_law_theorems.proofs.Turns.FitsLists.{fits-keep}
use Rattle.sc_law_theorems.proofs.Turns.Keeps.{Keeps, holds-keeps, keeps-same, keeps-then}
use Rattle.sc_law_theorems.proofs.Turns.Lists.{all-filter, all-members, all-push, not-true}
use Rattle.sc_law_theorems.proofs.Turns.Sources.{HasActiveSource, candidates-active}

-- ---- what is found and chosen

abbrev IfFound : (ℕ → Type 0) → Option ℕ → Type 0
IfFound P None = Unit
IfFound P (Some t) = P t

-- a search that keeps what content keeps, and finds what has P
abbrev IsSearch : (ℕ → Type 0) → Running → Option ℕ × Running → Type 0
IsSearch P r got = Keeps r got.1 × IfFound P got.0

searched-then : (P : ℕ → Type 0) (r q : Running) (got : Option ℕ × Running) → Keeps r q → IsSearch P q got
    → IsSearch P r got
searched-then P r q got h s = (keeps-then r q got.1 h s.0, s.1)

tested-is : (P : ℕ → Type 0) (t : ℕ) (later : Running → Option ℕ × Running) (h : Bool × Running) → P t
    → ((q : Running) → IsSearch P q (later q)) → IsSearch P h.1 (tested t later h)
tested-is P t later h has rest = by h.0 where
  by : (v : Bool) → IsSearch P h.1 ((cond v (found t) later) h.1)
  by true = (keeps-same h.1, has)
  by false = rest h.1

first-is : (P : ℕ → Type 0) (c : Chart) (event : Option (List ℕ)) (ts : List ℕ) (r : Running) → AllOf P ts
    → IsSearch P r (first_enabled c event ts r)
first-is P c event [] r all = (keeps-same r, tt)
first-is P c event (t ∷ ts) r all = by (is_match c event t) (λ q. first-is P c event ts q all.1) where
  by : (v : Bool) → ((q : Running) → IsSearch P q (first_enabled c event ts q))
      → IsSearch P r ((cond v (found_or c t (first_enabled c event ts)) (first_enabled c event ts)) r)
  by true rest =
      searched-then P r (holds (condition c t) r).1 (found_or c t (first_enabled c event ts) r)
      (holds-keeps (condition c t) r)
      (tested-is P t (first_enabled c event ts) (holds (condition c t) r) all.0 rest)
  by false rest = rest r

all-choose : (P : ℕ → Type 0) (chosen : List ℕ) (o : Option ℕ) → AllOf P chosen → IfFound P o
    → AllOf P (choose chosen o)
all-choose P chosen None all has = all
all-choose P chosen (Some t) all has = by (contains chosen t) where
  by : (v : Bool) → AllOf P (cond v chosen (chosen ++ t ∷ []))
  by true = all
  by false = all-push P chosen t all has

abbrev IsChoice : (ℕ → Type 0) → Running → List ℕ × Running → Type 0
IsChoice P r got = Keeps r got.1 × AllOf P got.0

chosen-is : (P : ℕ → Type 0) (c : Chart) (event : Option (List ℕ)) (chosen ss : List ℕ) (r : Running) → AllOf P chosen
    → AllOf (λ s. AllOf P (candidates c s)) ss → IsChoice P r (chosen_from c event chosen ss r)
chosen-is P c event chosen [] r all from = (keeps-same r, all)
chosen-is P c event chosen (s ∷ ss) r all from =
    let first = first-is P c event (candidates c s) r from.0 in
    let rest = chosen-is P c event (choose chosen (first_enabled c event (candidates c s) r).0) ss
    (first_enabled c event (candidates c s) r).1
    (all-choose P chosen (first_enabled c event (candidates c s) r).0 all first.1) from.1 in (
      keeps-then r (first_enabled c event (candidates c s) r).1
          (chosen_from c event chosen (s ∷ ss) r).1 first.0 rest.0,
      rest.1,
    )

-- ---- what is kept

-- two transitions that exit no state in common
abbrev Spares : Chart → Histories → List ℕ → ℕ → ℕ → Type 0
Spares c h configuration t u = conflicts c h configuration t u ≡ false

abbrev AreApart : Chart → Histories → List ℕ → List ℕ → Type 0
AreApart c h configuration [] = Unit
AreApart c h configuration (t ∷ ts) = AllOf (Spares c h configuration t) ts × AreApart c h configuration ts

and-flip : (v w : Bool) → (v && w) ≡ (w && v)
and-flip true true = refl
and-flip true false = refl
and-flip false true = refl
and-flip false false = refl

conflicts-flip : (c : Chart) (h : Histories) (configuration : List ℕ) (t u : ℕ)
    → conflicts c h configuration t u ≡ conflicts c h configuration u t
conflicts-flip c h [] t u = refl
conflicts-flip c h (s ∷ ss) t u =
    ap₂ (λ v w. v || w) (and-flip (leaves c h t s) (leaves c h u s)) (conflicts-flip c h ss t u)

apart-filter : (c : Chart) (h : Histories) (configuration : List ℕ) (test : ℕ → Bool) (ts : List ℕ)
    → AreApart c h configuration ts
    → AreApart c h configuration (filter test ts)
apart-filter c h configuration test [] apart = tt
apart-filter c h configuration test (t ∷ ts) apart = by (test t) (apart-filter c h configuration test ts apart.1) where
  by : (v : Bool) → AreApart c h configuration (filter test ts)
      → AreApart c h configuration (cond v (t ∷ filter test ts) (filter test ts))
  by true rest = (all-filter (Spares c h configuration t) test ts apart.0, rest)
  by false rest = rest

apart-push : (c : Chart) (h : Histories) (configuration ts : List ℕ) (t : ℕ) → AreApart c h configuration ts
    → AllOf (λ u. Spares c h configuration u t) ts → AreApart c h configuration (ts ++ t ∷ [])
apart-push c h configuration [] t apart none = (tt, tt)
apart-push c h configuration (u ∷ ts) t apart none =
    (all-push (Spares c h configuration u) ts t apart.0 none.0, apart-push c h configuration ts t apart.1 none.1)

abbrev IsKept : (ℕ → Type 0) → Chart → Histories → List ℕ → List ℕ → Type 0
IsKept P c h configuration ts = AllOf P ts × AreApart c h configuration ts

-- those that a transition leaves
abbrev clear_of : Chart → Histories → List ℕ → ℕ → List ℕ → List ℕ
clear_of c h configuration t ts = filter (λ u. not (conflicts c h configuration t u)) ts

keep-is : (P : ℕ → Type 0) (c : Chart) (h : Histories) (configuration : List ℕ) (t : ℕ) (ts : List ℕ) → P t
    → IsKept P c h configuration ts → IsKept P c h configuration (keep c h configuration t ts)
keep-is P c h configuration t ts has kept = by (list_any (gives_way c h configuration t) ts) where
  none : AllOf (λ u. Spares c h configuration u t) (clear_of c h configuration t ts)
  none = all-of-map (λ u. not (conflicts c h configuration t u) ≡ true) (λ u. Spares c h configuration u t)
      (clear_of c h configuration t ts)
      (λ u e. conflicts-flip c h configuration u t ∙ not-true (conflicts c h configuration t u) e)
      (all-of-filter (λ u. not (conflicts c h configuration t u)) ts)

  by : (v : Bool) → IsKept P c h configuration (cond v ts (clear_of c h configuration t ts ++ t ∷ []))
  by true = kept
  by false = (
    all-push P (clear_of c h configuration t ts) t
        (all-filter P (λ u. not (conflicts c h configuration t u)) ts kept.0) has,
    apart-push c h configuration (clear_of c h configuration t ts) t
        (apart-filter c h configuration (λ u. not (conflicts c h configuration t u)) ts kept.1) none,
  )

kept-is : (P : ℕ → Type 0) (c : Chart) (h : Histories) (configuration chosen ts : List ℕ) → AllOf P chosen
    → IsKept P c h configuration ts → IsKept P c h configuration (each (keep c h configuration) chosen ts)
kept-is P c h configuration [] ts all kept = kept
kept-is P c h configuration (t ∷ chosen) ts all kept =
    kept-is P c h configuration chosen (keep c h configuration t ts) all.1 (keep-is P c h configuration t ts all.0 kept)

pairs-of : (c : Chart) (h : Histories) (configuration ts : List ℕ) → AreApart c h configuration ts
    → AllPairs (Spares c h configuration) ts
pairs-of c h configuration [] apart = λ i j d l m. absurd (omega arith)
pairs-of c h configuration (t ∷ ts) apart =
    AllPairs-cons (Spares c h configuration) t ts (All-from_recursion (Spares c h configuration t) ts apart.0)
    (pairs-of c h configuration ts apart.1)

-- ---- selection

-- what the active atomic states choose
abbrev chosen_of : Chart → Option (List ℕ) → RunState → List ℕ × Running
chosen_of c event x = chosen_from c event [] (filter (is_atomic c) x.running.env.configuration) x.running

choice-of : (c : Chart) (event : Option (List ℕ)) (x : RunState) → legal_fault c ≡ None → FitsRun c x
    → IsChoice (HasActiveSource c x.running.env.configuration) x.running (chosen_of c event x)
choice-of c event x legal fits =
    chosen-is (HasActiveSource c x.running.env.configuration) c event []
    (filter (is_atomic c) x.running.env.configuration) x.running tt
    (all-filter (λ s. AllOf (HasActiveSource c x.running.env.configuration) (candidates c s))
    (is_atomic c) x.running.env.configuration
    (all-members
    (λ s. AllOf (HasActiveSource c x.running.env.configuration) (candidates c s)) x.running.env.configuration
    (λ s active. candidates-active c x.running.env.configuration s legal fits.legal active)))

are-kept : (c : Chart) (x : RunState) (ts : List ℕ) → legal_fault c ≡ None → FitsRun c x
    → IsKept (HasActiveSource c x.running.env.configuration) c x.histories x.running.env.configuration ts
    → AreKept c x.histories x.running.env.configuration ts
are-kept c x ts legal fits kept = record {
  legal = legal;
  configured = fits.legal;
  recorded = fits.recorded;
  active = All-from_recursion (HasActiveSource c x.running.env.configuration) ts kept.0;
  no_conflict = pairs-of c x.histories x.running.env.configuration ts kept.1;
}

-- selection keeps transitions of active states that exit no state in common
pub select-kept : (c : Chart) (event : Option (List ℕ)) (x : RunState) → legal_fault c ≡ None → FitsRun c x
    → AreKept c x.histories x.running.env.configuration (select c event x).transitions
unfolding select
select-kept c event x legal fits =
    are-kept c x (kept_of c x.histories x.running.env.configuration (chosen_of c event x).0) legal fits
    (kept-is (HasActiveSource c x.running.env.configuration) c x.histories x.running.env.configuration
    (chosen_of c event x).0 []
    (choice-of c event x legal fits).1 (tt, tt))

-- conditions keep what content keeps
pub select-keeps : (c : Chart) (event : Option (List ℕ)) (x : RunState) → legal_fault c ≡ None → FitsRun c x
    → Keeps x.running (select c event x).run.running
unfolding select
select-keeps c event x legal fits = (choice-of c event x legal fits).0

-- the run after selection fits
pub select-fits : (c : Chart) (event : Option (List ℕ)) (x : RunState) → legal_fault c ≡ None → FitsRun c x
    → FitsRun c (select c event x).run
unfolding select
select-fits c event x legal fits = fits-keep c x (chosen_of c event x).1 fits (choice-of c event x legal fits).0

select-same : (c : Chart) (event : Option (List ℕ)) (x : RunState) → (select c event x).run.histories ≡ x.histories
unfolding select
select-same c event x = refl

-- and the transitions are kept in it
pub select-next : (c : Chart) (event : Option (List ℕ)) (x : RunState) → legal_fault c ≡ None → FitsRun c x
    → AreKept c (select c event x).run.histories (select c event x).run.running.env.configuration
    (select c event x).transitions
select-next c event x legal fits =
    subst (λ h. AreKept c h (select c event x).run.running.env.configuration (select c event x).transitions)
    (sym (select-same c event x))
    (subst (λ ss. AreKept c x.histories ss (select c event x).transitions)
    (sym (select-keeps c event x legal fits).env.configuration)
    (select-kept c event x legal fits))
