-- The states that several transitions of a legal chart enter are those that each enters alone.
use Rattle.std.proofs.Common.{◌≡◌, ℕ, suc, List, [], ◌∷◌, map, refl, arith, ap, ◌∙◌}
use Rattle.std.specs.List.{AllPairs}
use Rattle.sc_base.specs.Ascending.{joined}
use Rattle.sc_base.specs.Folds.{each}
use Rattle.sc_types.specs.declared.chart.Chart.{Chart}
use Rattle.sc_law.specs.Sets.{Histories}
use Rattle.sc_law.specs.Entry.{entry}
use Rattle.sc_law.specs.Fitting.{IsRecorded}
use Rattle.sc_sets.specs.Union.{alone, united}
use Rattle.sc_sets.proofs.Union.Conditions.{AreTaken, HaveApart, IsAboveTargets}
use Rattle.sc_sets.proofs.Union.Alone.{FineTargets, alone as alone_entry, entry-union}
use Rattle.sc_sets.proofs.Union.Apart.{AllApart, are-apart}
use Rattle.sc_sets.proofs.Union.Below.{all-of-map}
use Rattle.sc_sets.proofs.Union.FineTargets.{fine-targets, from-all, has-defaults}
use Rattle.sc_sets.proofs.Union.Forks.{is-tree}

all-apart : (c : Chart) (before : Histories) (ts : List ℕ) → AllPairs (HaveApart c before) ts → AllApart c before ts
all-apart c before [] h = tt
all-apart c before (t ∷ ts) h = (
  from-all (HaveApart c before t) ts (λ k d l. h 0 (suc k) d (omega arith) (omega arith)),
  all-apart c before ts (λ i j d l m. h (suc i) (suc j) d (omega arith) (omega arith)),
)

alone-is : (c : Chart) (before h : Histories) (t : ℕ) → alone_entry c before h t ≡ alone c before h t
unfolding entry
alone-is c before h t = refl

each-alone : (c : Chart) (before h : Histories) (ts all : List ℕ)
    → each (λ t all. joined all (alone_entry c before h t)) ts all ≡ each (λ set all. joined all set) (map (alone c before h) ts) all
each-alone c before h [] all = refl
each-alone c before h (t ∷ ts) all =
    ap (λ set. each (λ t all. joined all (alone_entry c before h t)) ts (joined all set)) (alone-is c before h t)
    ∙ each-alone c before h ts (joined all (alone c before h t))

-- what they enter together is what each enters alone
pub union-law : (c : Chart) (before h : Histories) (ts : List ℕ) → AreTaken c before h ts
    → (entry c before h ts).states ≡ united (map (alone c before h) ts)
union-law c before h ts is =
    let recorded = from-all (IsRecorded c) h is.recorded in
    entry-union c before h (is-tree c) (has-defaults c h is.legal recorded) ts
    (all-of-map (IsAboveTargets c before h) (FineTargets c before h) ts (λ t a. fine-targets c before h t is.legal recorded a)
    (from-all (IsAboveTargets c before h) ts is.above))
    (are-apart c before ts is.legal (all-apart c before ts is.apart))
    ∙ each-alone c before h ts []
