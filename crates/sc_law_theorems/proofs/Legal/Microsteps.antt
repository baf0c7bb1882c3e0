-- The domains of kept transitions, with what each enters, are a plan of the configuration after the microstep.
use Rattle.std.proofs.Common.{◌≡◌, ◌⊎◌, inl, inr, ℕ, ◌<◌, ◌≤◌, ◌==◌, ◌&&◌, ◌||◌, not, Bool, true, false, cond, Option, Some, None, unwrap_or, List, [], ◌∷◌, filter, find, get_or, length, position, suc, zero, map, refl, arith, ap, sym, subst, ◌∙◌}
use Rattle.std.proofs.lemmas.Bool.{cases_lt, cases_order}
use Rattle.std.proofs.lemmas.Bool.Decides.{nat_tests}
use Rattle.std.proofs.lemmas.List.{get_or_past}
use Rattle.std.proofs.lemmas.List.Quantifiers.{position-Some}
use Rattle.std.proofs.lemmas.Slice.Eq.{bytes_eq-Decides}
use Rattle.std.specs.List.{AllByRecursion as AllOf, list_all, list_any}
use Rattle.std.specs.Option.{option_map_or}
use Rattle.sc_base.specs.Ascending.{contains, joined}
use Rattle.sc_base.specs.Folds.{each}
use Rattle.sc_types.specs.Attributes.{words_at}
use Rattle.sc_types.specs.declared.attribute.Attribute.TheVariants as attribute
use Rattle.sc_types.specs.declared.chart.Chart.{Chart}
use Rattle.sc_law.specs.Nodes.{elements, is_same, parent}
use Rattle.sc_law.specs.Tree.{ancestors, is_below, root, state_count, state_paths}
use Rattle.sc_law.specs.Kinds.{is_compound, is_history, is_parallel}
use Rattle.sc_law.specs.Legality.{has_bad_targets, is_transition, legal_fault}
use Rattle.sc_law.specs.Configurations.{IsConfiguration, children}
use Rattle.sc_law.specs.Transitions.{is_internal, path_of_transition, source, state_at, targets, transition, transition_paths}
use Rattle.sc_law.specs.Sets.{Histories, domain, domain_over, effective_targets, exit_set, is_above_all, is_own_domain, leaves, nearest_above, stands_for}
use Rattle.sc_law.specs.Entry.{EntryTriple, enter_targets, entry, no_entry}
use Rattle.sc_law.specs.Fitting.{IsRecorded}
use Rattle.sc_tables.proofs.LegalRoots.{root_not_numbered}
use Rattle.sc_tables.proofs.LookUps.{below_root}
use Rattle.sc_sets.specs.Union.{AreKept, alone, recorded_by}
use Rattle.sc_sets.proofs.Union.Above.{AnyApart, leaver, never-below, targets-within}
use Rattle.sc_sets.proofs.Union.Apart.{domain-within, false-by}
use Rattle.sc_sets.proofs.Union.Conditions.{AreTaken, HaveApart, IsAboveTargets}
use Rattle.sc_sets.proofs.Union.FineTargets.{from-all}
use Rattle.sc_sets.proofs.Union.Forks.{both, filter-hold}
use Rattle.sc_sets.proofs.Union.Kept.{active-within, domain-active, each-has, found-has}
use Rattle.sc_sets.proofs.Union.Law.{union-law}
use Rattle.sc_sets.proofs.Union.LegalDefaults.{and-true, not-false}
use Rattle.sc_sets.proofs.Union.Recorded.{exited-active}
use Rattle.sc_sets.proofs.Union.SomeDefaults.{some-stands}
use Rattle.sc_sets.proofs.Union.Taken.{any-apart, kept-pairs, kept-taken}
use Rattle.sc_law_theorems.proofs.Legal.Faultless.{IsPlaced, legal-placed}
use Rattle.sc_law_theorems.proofs.Legal.Fills.{stands-has}
use Rattle.sc_law_theorems.proofs.Legal.Filling.{IsFilling, flat-from, flat-has, targets-fill}
use Rattle.sc_law_theorems.proofs.Legal.Gains.{Has}
use Rattle.sc_law_theorems.proofs.Legal.Lawful.{IsLawful}
use Rattle.sc_law_theorems.proofs.Legal.Lists.{any-by, filter-has, has-cases, has-first, has-later, has-with, list-all-has, or-cases, or-right, or-right-of}
use Rattle.sc_law_theorems.proofs.Legal.Meets.{HasOne, Pairs, Together}
use Rattle.sc_law_theorems.proofs.Legal.Plans.{Domains, IsKept, IsPlan}
use Rattle.sc_law_theorems.proofs.Legal.Together.{active-above, active-one, active-state, named-together}

-- ---- sets that are united

joined-cases : (xs ys : List ℕ) (x : ℕ) → contains (joined xs ys) x ≡ true
    → (contains xs x ≡ true) ⊎ (contains ys x ≡ true)
joined-cases xs [] x h = inl h
joined-cases xs (y ∷ ys) x h =
    by (or-cases (y == x) (contains (joined xs ys) x) (sym (has-with y x (joined xs ys)) ∙ h))
    (joined-cases xs ys x) where
      by : (((y == x) ≡ true) ⊎ (contains (joined xs ys) x ≡ true))
          → (contains (joined xs ys) x ≡ true → (contains xs x ≡ true) ⊎ (contains ys x ≡ true))
          → (contains xs x ≡ true) ⊎ (contains (y ∷ ys) x ≡ true)
      by (inl e) so = inr (ap (λ v. v || contains ys x) e)
      by (inr later) so = elim (so later) [ inl first ↦ inl first | inr second ↦ inr (has-later y x ys second) ]

joined-left : (xs ys : List ℕ) (x : ℕ) → contains xs x ≡ true → contains (joined xs ys) x ≡ true
joined-left xs [] x h = h
joined-left xs (y ∷ ys) x h = has-with y x (joined xs ys) ∙ has-later y x (joined xs ys) (joined-left xs ys x h)

joined-right : (xs ys : List ℕ) (x : ℕ) → contains ys x ≡ true → contains (joined xs ys) x ≡ true
joined-right xs [] x h = absurd (cc)
joined-right xs (y ∷ ys) x h = has-with y x (joined xs ys) ∙ elim (or-cases (y == x) (contains ys x) h) [
  | inl e ↦ ap (λ v. v || contains (joined xs ys) x) e
  | inr later ↦ has-later y x (joined xs ys) (joined-right xs ys x later)
]

abbrev AllOver : (ℕ → List ℕ) → List ℕ → List ℕ → List ℕ
AllOver f ts all = each (λ set all. joined all set) (map f ts) all

over-cases : (f : ℕ → List ℕ) (ts all : List ℕ) (x : ℕ) → contains (AllOver f ts all) x ≡ true
    → (contains all x ≡ true) ⊎ ((t : ℕ) × ((contains ts t ≡ true) × (contains (f t) x ≡ true)))
over-cases f [] all x h = inl h
over-cases f (t ∷ ts) all x h = elim (over-cases f ts (joined all (f t)) x h) [
  | inl here ↦ elim (joined-cases all (f t) x here) [ inl old ↦ inl old | inr own ↦ inr (t, (has-first t ts, own)) ]
  | inr later ↦ inr (later.0, (has-later t later.0 ts later.1.0, later.1.1))
]

over-old : (f : ℕ → List ℕ) (ts all : List ℕ) (x : ℕ) → contains all x ≡ true → contains (AllOver f ts all) x ≡ true
over-old f [] all x h = h
over-old f (t ∷ ts) all x h = over-old f ts (joined all (f t)) x (joined-left all (f t) x h)

over-has : (f : ℕ → List ℕ) (ts all : List ℕ) (t x : ℕ) → contains ts t ≡ true → contains (f t) x ≡ true
    → contains (AllOver f ts all) x ≡ true
over-has f [] all t x h i = absurd (cc)
over-has f (s ∷ ts) all t x h i = elim (has-cases s t ts h) [
  | inl e ↦ over-old f ts (joined all (f s)) x
      (joined-right all (f s) x (subst (λ k. contains (f k) x ≡ true) (sym e) i))
  | inr later ↦ over-has f ts (joined all (f s)) t x later i
]

-- ---- domains

-- what a transition enters alone
abbrev pub own : Chart → Histories → ℕ → ℕ → EntryTriple
own c h t d = enter_targets c h (targets c t) d no_entry

-- the domains of some transitions, with what each enters
abbrev pub DomainsOf : Chart → Histories → Histories → List ℕ → Domains
DomainsOf c before h ts = λ d f. (t : ℕ) × ((contains ts t ≡ true) × ((domain c before t ≡ Some d) × (f ≡ own c h t d)))

all-three : (u v w : Bool) → (u && v && w) ≡ true → v ≡ true
all-three true true w h = refl
all-three true false w h = absurd (cc)
all-three false v w h = absurd (cc)

over-one : (c : Chart) (t d : ℕ) (ss : List ℕ) → domain_over c t ss ≡ Some d → HasOne c d
over-one c t d [] e = absurd (cc)
over-one c t d (s ∷ ss) e = by (is_own_domain c t (s ∷ ss)) refl e where
  near : (o : Option ℕ) → find (λ a. is_compound c a && is_above_all c (s ∷ ss) a) (ancestors c (source c t)) ≡ o
      → HasOne c (unwrap_or o (root c))
  near None f = inr refl
  near (Some a) f =
      let passes = (found-has (λ u. Unit) (λ a. is_compound c a && is_above_all c (s ∷ ss) a)
      (ancestors c (source c t)) a (trivial (ancestors c (source c t))) f).1 in
      inl (both (is_compound c a) (is_above_all c (s ∷ ss) a) passes).0
    where
      trivial : (xs : List ℕ) → AllOf (λ u. Unit) xs
      trivial [] = tt
      trivial (x ∷ xs) = (tt, trivial xs)

  by : (v : Bool) → is_own_domain c t (s ∷ ss) ≡ v
      → Some (cond v (source c t) (nearest_above c (source c t) (s ∷ ss))) ≡ Some d → HasOne c d
  by true o e = (let same : source c t ≡ d = cc in
      subst (HasOne c) same
      (inl (all-three (is_internal c t) (is_compound c (source c t)) (is_above_all c (s ∷ ss) (source c t)) o)))
  by false o e = (let same : nearest_above c (source c t) (s ∷ ss) ≡ d = cc in
      subst (HasOne c) same
      (near (find (λ a. is_compound c a && is_above_all c (s ∷ ss) a) (ancestors c (source c t))) refl))

-- a domain is a compound state, or the root
domain-one : (c : Chart) (h : Histories) (t d : ℕ) → domain c h t ≡ Some d → HasOne c d
unfolding domain
domain-one c h t d e = over-one c t d (effective_targets c h (targets c t)) e

-- a transition with a domain has targets
domain-some : (c : Chart) (h : Histories) (t d : ℕ) → domain c h t ≡ Some d
    → (u : ℕ) × (contains (effective_targets c h (targets c t)) u ≡ true)
unfolding domain
domain-some c h t d e = by (effective_targets c h (targets c t)) e where
  by : (ss : List ℕ) → domain_over c t ss ≡ Some d → (u : ℕ) × (contains ss u ≡ true)
  by [] e = absurd (cc)
  by (s ∷ ss) e = (s, has-first s ss)

-- ---- targets

at-all : {A : Type 0} (P : A → Type 0) (xs : List A) (k : ℕ) (d : A) → k < length xs → AllOf P xs → P (get_or xs k d)
at-all P [] k d l all = absurd (omega arith)
at-all P (x ∷ xs) zero d l all = all.0
at-all P (x ∷ xs) (suc k) d l all = at-all P xs k d (omega arith) all.1

-- an item that a test keeps has what each item has
filter-at : {A : Type 0} (P : A → Type 0) (test : A → Bool) (d : A) (xs : List A) (k : ℕ) → k < length (filter test xs)
    → AllOf P xs
    → (test (get_or (filter test xs) k d) ≡ true) × P (get_or (filter test xs) k d)
filter-at P test d xs k l all = at-all (λ x. (test x ≡ true) × P x) (filter test xs) k d l (filter-hold P test xs all)

-- the root's path is that of no state
position-past : (c : Chart) → legal_fault c ≡ None → state_count c ≤ state_at c []
position-past c legal = by (position (is_same []) (state_paths c)) refl where
  by : (o : Option ℕ) → position (is_same []) (state_paths c) ≡ o → state_count c ≤ unwrap_or o (root c)
  by None e = omega arith
  by (Some m) e =
      let is = position-Some (is_same []) (state_paths c) m [] e in
      let empty : [] ≡ get_or (state_paths c) m [] = (bytes_eq-Decides [] (get_or (state_paths c) m [])).0 is.1 in
      let long = below_root c (root_not_numbered c legal) m is.0 in
      let short : length (get_or (state_paths c) m []) ≡ 0 = ap length (sym empty) in
      absurd (omega (arith, long, short))

-- a transition whose source is a state is one of the chart's
path-in : (c : Chart) (t : ℕ) → legal_fault c ≡ None → source c t < state_count c
    → (k : ℕ) × ((k < length (transition_paths c)) × (path_of_transition c t ≡ get_or (transition_paths c) k []))
path-in c t legal l = elim (cases_lt t (length (transition_paths c))) [
  | inl m ↦ (t, (m, refl))
  | inr past ↦ absurd (none past)
] where
  none : length (transition_paths c) ≤ t → ⊥
  none past =
      let path : path_of_transition c t ≡ [] = get_or_past (transition_paths c) t [] past in
      let at : source c t ≡ state_at c [] = ap (λ p. state_at c (parent p)) path in
      let past-it : state_count c ≤ state_at c [] = position-past c legal in omega (arith, at, past-it)

transition-together : (c : Chart) (t : ℕ) → legal_fault c ≡ None → source c t < state_count c
    → Pairs (Together c) (targets c t)
transition-together c t legal l =
    let r = path-in c t legal l in
    let is = filter-at (IsPlaced c) (is_transition c) [] (elements c) r.0 r.1.0 (legal-placed c legal) in
    let bad : has_bad_targets c (path_of_transition c t) ≡ false = subst (λ p. has_bad_targets c p ≡ false)
    (sym r.1.1) is.1.targets in
    let one : is_transition c (path_of_transition c t) ≡ true = subst (λ p. is_transition c p ≡ true)
    (sym r.1.1) is.0 in
    named-together c (words_at attribute.Target (transition c t)) legal
    (not-false _ (and-true (is_transition c (path_of_transition c t)) _ bad one))

-- ---- the plan

-- a microstep, with what is active after it
pub record IsMicrostep (c : Chart) (h : Histories) (configuration ts after : List ℕ) : Type 0 where
  pub kept : AreKept c h configuration ts
  pub told : (s : ℕ) → contains after s ≡ (contains configuration s && not (contains (exit_set c h ts configuration) s)
      || contains (entry c h (recorded_by c h ts configuration) ts).states s)

-- what kept transitions enter alone is a filling of their domains
pub kept-fills : (c : Chart) (h : Histories) (configuration ts : List ℕ) (t d : ℕ) → AreKept c h configuration ts
    → contains ts t ≡ true → domain c h t ≡ Some d
    → IsFilling c d (own c (recorded_by c h ts configuration) t d)
kept-fills c h configuration ts t d kept i is =
    targets-fill c (recorded_by c h ts configuration) d (targets c t) (record {
      lawful = lawful;
      domain = domain-within c h t d is;
      numbers = λ u j. each-has (λ x. x < state_count c) u (targets c t) (targets-within c t) j;
      below =
          λ u j. each-has (λ x. is_below c x d ≡ true) u
          (effective_targets c (recorded_by c h ts configuration) (targets c t)) above j;
      together = transition-together c t kept.legal (active-within c configuration (source c t) kept.configured active);
      some = some;
    }) where
      taken : AreTaken c h (recorded_by c h ts configuration) ts
      taken = kept-taken c h configuration ts kept

      lawful : IsLawful c (recorded_by c h ts configuration)
      lawful =
          record {
            legal = kept.legal;
            recorded = from-all (IsRecorded c) (recorded_by c h ts configuration) taken.recorded;
          }

      active : contains configuration (source c t) ≡ true
      active =
          each-has (λ x. contains configuration (source c x) ≡ true) t ts
          (from-all (λ x. contains configuration (source c x) ≡ true) ts kept.active) i

      above : AllOf (λ u. is_below c u d ≡ true) (effective_targets c (recorded_by c h ts configuration) (targets c t))
      above = from-all (λ u. is_below c u d ≡ true)
          (effective_targets c (recorded_by c h ts configuration) (targets c t))
          (each-has (IsAboveTargets c h (recorded_by c h ts configuration)) t ts
          (from-all (IsAboveTargets c h (recorded_by c h ts configuration)) ts taken.above) i d is)

      some : (u : ℕ) × (contains (effective_targets c (recorded_by c h ts configuration) (targets c t)) u ≡ true)
      some =
          let before = domain-some c h t d is in
          let from = flat-from (stands_for c h) (targets c t) before.0 before.1 in
          let number = each-has (λ x. x < state_count c) from.0 (targets c t) (targets-within c t) from.1.0 in
          by from.0 from.1.0 number (is_history c from.0) refl
        where
          by : (x : ℕ) → contains (targets c t) x ≡ true → x < state_count c → (v : Bool) → is_history c x ≡ v
              → (u : ℕ) × (contains (effective_targets c (recorded_by c h ts configuration) (targets c t)) u ≡ true)
          by x j l true e =
              let r = some-stands c (recorded_by c h ts configuration) x kept.legal l e in
              let in-it : contains (stands_for c (recorded_by c h ts configuration) x) r.0 ≡ true = subst
              (λ us. contains us r.0 ≡ true) (sym r.1.1) (has-first r.0 r.1.0) in
              (r.0, flat-has (stands_for c (recorded_by c h ts configuration)) (targets c t) x r.0 j in-it)
          by x j l false e = (
            x,
            flat-has (stands_for c (recorded_by c h ts configuration)) (targets c t) x x j
                (stands-has c (recorded_by c h ts configuration) x e),
          )

-- a state that a transition enters alone
alone-from : (c : Chart) (before h : Histories) (t s : ℕ) → contains (alone c before h t) s ≡ true
    → (d : ℕ) × ((domain c before t ≡ Some d) × Has (own c h t d) s)
unfolding entry
alone-from c before h t s i = by (domain c before t) refl i where
  by : (o : Option ℕ) → domain c before t ≡ o
      → contains (option_map_or (λ d. enter_targets c h (targets c t) d no_entry) o no_entry).states s ≡ true
      → (d : ℕ) × ((domain c before t ≡ Some d) × Has (own c h t d) s)
  by None e i = absurd (cc)
  by (Some d) e i = (d, (e, i))

alone-has : (c : Chart) (before h : Histories) (t d s : ℕ) → domain c before t ≡ Some d → Has (own c h t d) s
    → contains (alone c before h t) s ≡ true
unfolding entry
alone-has c before h t d s is i =
    subst (λ (o : Option ℕ).
    contains (option_map_or (λ e. enter_targets c h (targets c t) e no_entry) o no_entry).states s ≡ true)
    (sym is) i

-- what kept transitions enter together
pub entry-from : (c : Chart) (h : Histories) (configuration ts : List ℕ) (s : ℕ) → AreKept c h configuration ts
    → contains (entry c h (recorded_by c h ts configuration) ts).states s ≡ true
    → (d : ℕ) × ((f : EntryTriple) × ((DomainsOf c h (recorded_by c h ts configuration) ts d f) × Has f s))
entry-from c h configuration ts s kept i =
    let law = union-law c h (recorded_by c h ts configuration) ts (kept-taken c h configuration ts kept) in
    by (over-cases (alone c h (recorded_by c h ts configuration)) ts [] s (subst (λ ss. contains ss s ≡ true) law i))
  where
    by : (contains [] s ≡ true)
        ⊎ ((t : ℕ) × ((contains ts t ≡ true) × (contains (alone c h (recorded_by c h ts configuration) t) s ≡ true)))
        → (d : ℕ) × ((f : EntryTriple) × ((DomainsOf c h (recorded_by c h ts configuration) ts d f) × Has f s))
    by (inl none) = absurd (cc)
    by (inr from) =
        let r = alone-from c h (recorded_by c h ts configuration) from.0 s from.1.1 in
        (r.0, (own c (recorded_by c h ts configuration) from.0 r.0, ((from.0, (from.1.0, (r.1.0, refl))), r.1.1)))

entry-has : (c : Chart) (h : Histories) (configuration ts : List ℕ) (s d : ℕ) (f : EntryTriple)
    → AreKept c h configuration ts
    → DomainsOf c h (recorded_by c h ts configuration) ts d f → Has f s
    → contains (entry c h (recorded_by c h ts configuration) ts).states s ≡ true
entry-has c h configuration ts s d f kept is i =
    let law = union-law c h (recorded_by c h ts configuration) ts (kept-taken c h configuration ts kept) in
    subst (λ ss. contains ss s ≡ true) (sym law)
    (over-has (alone c h (recorded_by c h ts configuration)) ts [] is.0 s is.1.0
    (alone-has c h (recorded_by c h ts configuration) is.0 d s is.1.1.0
    (subst (λ (x : EntryTriple). Has x s) is.1.1.1 i)))

-- ---- exits

-- an active state below a domain is exited
pub exit-has : (c : Chart) (h : Histories) (configuration ts : List ℕ) (s t d : ℕ) → contains configuration s ≡ true
    → contains ts t ≡ true → domain c h t ≡ Some d
    → is_below c s d ≡ true → contains (exit_set c h ts configuration) s ≡ true
unfolding exit_set
exit-has c h configuration ts s t d active i is low =
    filter-has (λ s. list_any (λ t. leaves c h t s) ts) s configuration active
    (any-by (λ t. leaves c h t s) ts t i (ap (λ (o : Option ℕ). option_map_or (is_below c s) o false) is ∙ low))

exit-from : (c : Chart) (h : Histories) (configuration ts : List ℕ) (s : ℕ)
    → contains (exit_set c h ts configuration) s ≡ true
    → (t : ℕ) × ((contains ts t ≡ true) × ((d : ℕ) × ((domain c h t ≡ Some d) × (is_below c s d ≡ true))))
exit-from c h configuration ts s i = leaver c h s ts (exited-active c h ts configuration s i).1

-- ---- the plan

stays : (v w x : Bool) → v ≡ true → w ≡ false → (v && not w || x) ≡ true
stays true false x e f = refl
stays true true x e f = absurd (cc)
stays false w x e f = absurd (cc)

comes : (v w x : Bool) → x ≡ true → (v && not w || x) ≡ true
comes v w x e = or-right (v && not w) x e

either : (v w x : Bool) → (v && not w || x) ≡ true → ((v ≡ true) × (w ≡ false)) ⊎ (x ≡ true)
either true false x h = inl (refl, refl)
either true true x h = inr h
either false w x h = inr h

-- whether a state is the domain of a transition
decide-domain : (c : Chart) (before h : Histories) (s : ℕ) (ts : List ℕ)
    → ((f : EntryTriple) × DomainsOf c before h ts s f) ⊎ ((f : EntryTriple) → DomainsOf c before h ts s f → ⊥)
decide-domain c before h s [] = inr (λ f is. none is.1.0) where
  none : false ≡ true → ⊥
  none h = cc
decide-domain c before h s (t ∷ ts) = by (domain c before t) refl (decide-domain c before h s ts) where
  here : (n : ℕ) → domain c before t ≡ Some n → n ≡ s → (f : EntryTriple) × DomainsOf c before h (t ∷ ts) s f
  here n e same = (own c h t s, (t, (has-first t ts, (subst (λ k. domain c before t ≡ Some k) same e, refl))))

  rest : ((domain c before t ≡ Some s) → ⊥)
      → ((f : EntryTriple) × DomainsOf c before h ts s f) ⊎ ((f : EntryTriple) → DomainsOf c before h ts s f → ⊥)
      → ((f : EntryTriple) × DomainsOf c before h (t ∷ ts) s f)
      ⊎ ((f : EntryTriple) → DomainsOf c before h (t ∷ ts) s f → ⊥)
  rest other (inl is) = inl (is.0, (is.1.0, (has-later t is.1.0 ts is.1.1.0, is.1.1.1)))
  rest other (inr none) = inr (λ f is. elim (has-cases t is.0 ts is.1.0) [
    | inl same ↦ other (subst (λ k. domain c before k ≡ Some s) (sym same) is.1.1.0)
    | inr later ↦ none f (is.0, (later, is.1.1))
  ])

  by : (o : Option ℕ) → domain c before t ≡ o
      → ((f : EntryTriple) × DomainsOf c before h ts s f) ⊎ ((f : EntryTriple) → DomainsOf c before h ts s f → ⊥)
      → ((f : EntryTriple) × DomainsOf c before h (t ∷ ts) s f)
      ⊎ ((f : EntryTriple) → DomainsOf c before h (t ∷ ts) s f → ⊥)
  by None e so = rest (λ is. let both-ways = sym e ∙ is in cc) so
  by (Some n) e so = elim (cases_order n s) [
    | inl same ↦ inl (here n e same)
    | inr o ↦ elim o [ inl less ↦ rest (other (omega arith)) so | inr more ↦ rest (other (omega arith)) so ]
  ] where
    other : (n ≡ s → ⊥) → domain c before t ≡ Some s → ⊥
    other differ is = let both-ways : Some n ≡ Some s = sym e ∙ is in let same : n ≡ s = cc in differ same

-- the states before and after a microstep are as the plan says
pub microstep-plan : (c : Chart) (h : Histories) (configuration ts after : List ℕ)
    → IsMicrostep c h configuration ts after
    → IsPlan c (DomainsOf c h (recorded_by c h ts configuration) ts) configuration after
microstep-plan c h configuration ts after step = record {
  legal = legal;
  states = λ s on. (active-within c configuration s conf on, active-state c configuration s conf on);
  upward = λ s a on l low. active-above c configuration s a conf on l low;
  one = λ s on compound. active-one c configuration s conf (inl compound) (λ o. on);
  each = λ s k on parallel i. list-all-has (contains configuration) (children c s) k
      (or-right-of (is_parallel c s) (list_all (contains configuration) (children c s))
      (list-all-has (λ x. not (is_parallel c x) || list_all (contains configuration) (children c x)) configuration s
      conf.each on) parallel) i;
  top = λ none. conf.root;
  within = λ d f is. domain-within c h is.0 d is.1.1.0;
  has_one = λ d f is. domain-one c h is.0 d is.1.1.0;
  filling =
      λ d f is. subst (IsFilling c d) (sym is.1.1.1) (kept-fills c h configuration ts is.0 d kept is.1.0 is.1.1.0);
  active =
      λ d f is l. (let a = domain-active c h configuration is.0 d legal conf (source-active is.0 is.1.0) is.1.1.0 in
      active-above c configuration a.0 d conf a.1.0 l a.1.1);
  apart = λ d e f g is also low. never-below c h ts is.0 also.0 d e apart is.1.0 also.1.0 is.1.1.0 also.1.1.0 low;
  same =
      λ d f g is also. is.1.1.1
      ∙ ap (λ t. own c (recorded_by c h ts configuration) t d)
      (same-transition d is.0 also.0 is.1.0 also.1.0 is.1.1.0 also.1.1.0) ∙ sym also.1.1.1;
  decided = λ s. decide-domain c h (recorded_by c h ts configuration) s ts;
  old =
      λ s on out. step.told s
      ∙ stays (contains configuration s) (contains (exit_set c h ts configuration) s) _ on (not-gone s out);
  new =
      λ s d f is i. step.told s
      ∙ comes (contains configuration s) (contains (exit_set c h ts configuration) s) _
      (entry-has c h configuration ts s d f kept is i);
  cases =
      λ s on. elim (either (contains configuration s) (contains (exit_set c h ts configuration) s) _
      (sym (step.told s) ∙ on)) [
        | inl stay ↦ inl (
          stay.0,
          λ d f is low.
              (let gone = exit-has c h configuration ts s is.0 d stay.0 is.1.0 is.1.1.0 low in let out = stay.1 in cc),
        )
        | inr come ↦ inr (entry-from c h configuration ts s kept come)
      ];
} where
  kept : AreKept c h configuration ts
  kept = step.kept

  legal : legal_fault c ≡ None
  legal = kept.legal

  conf : IsConfiguration c configuration
  conf = kept.configured

  apart : AnyApart c h ts
  apart = any-apart c h ts (kept-pairs c h configuration ts kept)

  source-active : (t : ℕ) → contains ts t ≡ true → contains configuration (source c t) ≡ true
  source-active t i =
      each-has (λ x. contains configuration (source c x) ≡ true) t ts
      (from-all (λ x. contains configuration (source c x) ≡ true) ts kept.active) i

  same-transition : (d t u : ℕ) → contains ts t ≡ true → contains ts u ≡ true → domain c h t ≡ Some d
      → domain c h u ≡ Some d → t ≡ u
  same-transition d t u i j is also = by (apart t u i j) where
    hit : (d == d) ≡ true
    hit = grind (arith, nat_tests)

    differ : (v w x : Bool) → v ≡ true → (not v && not w && not x) ≡ true → ⊥
    differ true w x e h = cc
    differ false w x e h = cc

    by : (t ≡ u) ⊎ (HaveApart c h t u ⊎ HaveApart c h u t) → t ≡ u
    by (inl same) = same
    by (inr (inl have)) = absurd (differ (d == d) (is_below c d d) (is_below c d d) hit (have d d is also))
    by (inr (inr have)) = absurd (differ (d == d) (is_below c d d) (is_below c d d) hit (have d d also is))

  not-gone : (s : ℕ) → IsKept c (DomainsOf c h (recorded_by c h ts configuration) ts) s
      → contains (exit_set c h ts configuration) s ≡ false
  not-gone s out =
      false-by (contains (exit_set c h ts configuration) s)
      (λ gone. (let from = exit-from c h configuration ts s gone in
      out from.1.1.0 (own c (recorded_by c h ts configuration) from.0 from.1.1.0)
      (from.0, (from.1.0, (from.1.1.1.0, refl))) from.1.1.1.1))
