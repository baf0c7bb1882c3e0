-- What entering below a domain keeps: a relation of two entries that each addition below the domain keeps.
use Rattle.std.proofs.Common.{◌≡◌, ◌⊎◌, inl, inr, ℕ, ◌&&◌, ◌||◌, zero, suc, Bool, true, false, cond, Option, Some, None, unwrap_or, List, [], ◌∷◌, filter, refl, ap, sym, subst, ◌∙◌}
use Rattle.std.specs.List.{AllByRecursion as AllOf, list_all, list_any}
use Rattle.sc_base.specs.Ascending.{with_number}
use Rattle.sc_base.specs.Folds.{each}
use Rattle.sc_types.specs.declared.chart.Chart.{Chart}
use Rattle.sc_law.specs.Tree.{ancestors, is_below, path_of}
use Rattle.sc_law.specs.Kinds.{is_compound, is_history, is_parallel}
use Rattle.sc_law.specs.Configurations.{children, defaults}
use Rattle.sc_law.specs.Sets.{Histories, stands_for, value_of_history}
use Rattle.sc_law.specs.Entry.{EntryTriple, Enters, added, bound_of, by_default, down, is_begun, noted, reach, recall, region, regions, settle_in, through, up}

-- a relation of two entries
abbrev pub Relation : Type 1
Relation = EntryTriple → EntryTriple → Type 0

-- a step that keeps a relation
abbrev pub Keeps : Relation → (EntryTriple → EntryTriple) → Type 0
Keeps T step = (e f : EntryTriple) → T e f → T (step e) (step f)

-- Related entries have begun the same regions below the domain, and stay related where a state below it is added, and
-- where a history or a default is noted.
pub record IsKept (c : Chart) (d : ℕ) (T : Relation) : Type 0 where
  pub added : (s : ℕ) → is_below c s d ≡ true → Keeps T (added s)
  pub noted : (s : ℕ) → Keeps T (noted s)
  pub defaulted : (s : ℕ) → Keeps T (λ e. record e { defaults = with_number s e.defaults })
  pub begun : (e f : EntryTriple) (s : ℕ) → is_below c s d ≡ true → T e f → is_begun c f s ≡ is_begun c e s

both : (v w : Bool) → (v && w) ≡ true → (v ≡ true) × (w ≡ true)
both true w h = (refl, h)
both false w h = absurd (cc)

-- ---- lists of steps

pub keeps-then : (T : Relation) (f g : EntryTriple → EntryTriple) → Keeps T f → Keeps T g → Keeps T (λ e. g (f e))
keeps-then T f g h i e d same = i (f e) (f d) (h e d same)

pub all-of-true : {A : Type 0} (test : A → Bool) (xs : List A) → list_all test xs ≡ true → AllOf (λ x. test x ≡ true) xs
all-of-true test [] h = tt
all-of-true test (x ∷ xs) h = let t = both (test x) (list_all test xs) h in (t.0, all-of-true test xs t.1)

pub all-of-map : {A : Type 0} (P Q : A → Type 0) (xs : List A) → ((x : A) → P x → Q x) → AllOf P xs → AllOf Q xs
all-of-map P Q [] f h = tt
all-of-map P Q (x ∷ xs) f h = (f x h.0, all-of-map P Q xs f h.1)

pub all-of-filter : {A : Type 0} (test : A → Bool) (xs : List A) → AllOf (λ x. test x ≡ true) (filter test xs)
all-of-filter test [] = tt
all-of-filter test (x ∷ xs) = by (test x) refl (all-of-filter test xs) where
  by : (v : Bool) → test x ≡ v → AllOf (λ y. test y ≡ true) (filter test xs)
      → AllOf (λ y. test y ≡ true) (cond v (x ∷ filter test xs) (filter test xs))
  by true e rest = (e, rest)
  by false e rest = rest

pub any-fewer : {A : Type 0} (p q : A → Bool) (xs : List A) → ((x : A) → p x ≡ true → q x ≡ true) → list_any q xs ≡ false
    → list_any p xs ≡ false
any-fewer p q [] f none = refl
any-fewer p q (x ∷ xs) f none = by (p x) (q x) refl refl none (any-fewer p q xs f) where
  by : (v w : Bool) → p x ≡ v → q x ≡ w → (w || list_any q xs) ≡ false → (list_any q xs ≡ false → list_any p xs ≡ false)
      → (v || list_any p xs) ≡ false
  by true true e g h rest = absurd (cc)
  by true false e g h rest = absurd (let t = f x e in cc)
  by false true e g h rest = absurd (cc)
  by false false e g h rest = rest h

pub keeps-each : (T : Relation) (step : Enters) (xs : List ℕ) → AllOf (λ s. Keeps T (step s)) xs → Keeps T (each step xs)
keeps-each T step [] all e f same = same
keeps-each T step (x ∷ xs) all e f same = keeps-each T step xs all.1 (step x e) (step x f) (all.0 e f same)

-- ---- the parts of an entry

pub keeps-region : (c : Chart) (d : ℕ) (T : Relation) (kept : IsKept c d T) (enters : Enters) (s : ℕ) → is_below c s d ≡ true
    → Keeps T (enters s) → Keeps T (region c enters s)
keeps-region c d T kept enters s below h e f same = by (is_begun c f s) (is_begun c e s) (kept.begun e f s below same) where
  by : (v w : Bool) → v ≡ w → T ((cond w (λ (x : EntryTriple). x) (enters s)) e) ((cond v (λ (x : EntryTriple). x) (enters s)) f)
  by true true eq = same
  by false false eq = h e f same
  by true false eq = absurd (cc)
  by false true eq = absurd (cc)

-- ---- below a domain

-- a state that is the domain, or below it
abbrev pub Within : Chart → ℕ → ℕ → Type 0
Within c d b = (is_below c b d ≡ true) ⊎ (path_of c b ≡ path_of c d)

-- what stands below what, in any chart
pub record IsTree (c : Chart) : Type 0 where
  pub on : (a b d : ℕ) → is_below c a b ≡ true → is_below c b d ≡ true → is_below c a d ≡ true
  pub kids : (s : ℕ) → AllOf (λ kid. (is_history c kid ≡ false) × (is_below c kid s ≡ true)) (children c s)

-- a target whose states are below the domain
pub record Fine (c : Chart) (h : Histories) (d s : ℕ) : Type 0 where
  pub each : AllOf (λ t. (is_history c t ≡ false) × (is_below c t d ≡ true)) (stands_for c h s)
  pub bound : (is_history c s ≡ true → Within c d (bound_of c d s)) ⊎ (stands_for c h s ≡ [])

pub below-within : (c : Chart) (tree : IsTree c) (d b t : ℕ) → Within c d b → is_below c t b ≡ true → is_below c t d ≡ true
below-within c tree d b t (inl below) h = tree.on t b d h below
below-within c tree d b t (inr same) h = rw (sym same) h

pub fine-state : (c : Chart) (h : Histories) (d s : ℕ) → is_history c s ≡ false → is_below c s d ≡ true → Fine c h d s
fine-state c h d s state below = record {
  each = rw state ((state, below), tt);
  bound = inl (λ is. absurd (cc));
}

-- a step that does the same at each state and history whose states are below the domain
abbrev pub Moving : Chart → Histories → ℕ → Relation → Enters → Type 0
Moving c h d T enters = (s : ℕ) → Fine c h d s → Keeps T (enters s)

pub keeps-regions : (c : Chart) (h : Histories) (tree : IsTree c) (d : ℕ) (T : Relation) (kept : IsKept c d T) (enters : Enters) (s : ℕ)
    → Moving c h d T enters → is_below c s d ≡ true → Keeps T (regions c enters s)
keeps-regions c h tree d T kept enters s moving below =
    keeps-each T (region c enters) (children c s) (all-of-map _ _ (children c s) by (tree.kids s)) where
      by : (kid : ℕ) → (is_history c kid ≡ false) × (is_below c kid s ≡ true) → Keeps T (region c enters kid)
      by kid is =
          let low : is_below c kid d ≡ true = tree.on kid s d is.1 below in
          keeps-region c d T kept enters kid low (moving kid (fine-state c h d kid is.0 low))

keeps-chosen : (T : Relation) (v : Bool) (f g : EntryTriple → EntryTriple) → Keeps T f → Keeps T g → Keeps T (cond v f g)
keeps-chosen T true f g h i = h
keeps-chosen T false f g h i = i

keeps-same : (T : Relation) → Keeps T (λ e. e)
keeps-same T e f same = same

pub keeps-through : (c : Chart) (h : Histories) (tree : IsTree c) (d : ℕ) (T : Relation) (kept : IsKept c d T) (enters : Enters) (a : ℕ)
    → Moving c h d T enters → is_below c a d ≡ true → Keeps T (through c enters a)
keeps-through c h tree d T kept enters a moving below =
    keeps-then T (added a) (cond (is_parallel c a) (regions c enters a) (λ e. e)) (kept.added a below)
    (keeps-chosen T (is_parallel c a) (regions c enters a) (λ e. e)
    (keeps-regions c h tree d T kept enters a moving below) (keeps-same T))

pub keeps-up : (c : Chart) (h : Histories) (tree : IsTree c) (d : ℕ) (T : Relation) (kept : IsKept c d T) (enters : Enters) (bound s : ℕ)
    → Moving c h d T enters → Within c d bound → Keeps T (up c enters bound s)
keeps-up c h tree d T kept enters bound s moving within =
    keeps-each T (through c enters) (filter (λ a. is_below c a bound) (ancestors c s))
    (all-of-map _ _ (filter (λ a. is_below c a bound) (ancestors c s))
    (λ a is. keeps-through c h tree d T kept enters a moving (below-within c tree d bound a within is))
    (all-of-filter (λ a. is_below c a bound) (ancestors c s)))

pub keeps-reach : (c : Chart) (h : Histories) (tree : IsTree c) (d : ℕ) (T : Relation) (kept : IsKept c d T) (enters : Enters) (bound : ℕ) (ss : List ℕ)
    → Moving c h d T enters → Within c d bound → AllOf (Fine c h d) ss → Keeps T (reach c enters bound ss)
keeps-reach c h tree d T kept enters bound ss moving within fine =
    keeps-then T (each enters ss) (each (up c enters bound) ss)
    (keeps-each T enters ss (all-of-map _ _ ss moving fine))
    (keeps-each T (up c enters bound) ss
    (all-of-map (Fine c h d) _ ss (λ s f. keeps-up c h tree d T kept enters bound s moving within) fine))

-- ---- down

-- the default targets of compound states stand below them, and so do the states of histories among them
pub record HasDefaults (c : Chart) (h : Histories) : Type 0 where
  pub fine : (d s : ℕ) → is_compound c s ≡ true → is_below c s d ≡ true → AllOf (Fine c h d) (defaults c s)

keeps-by_default : (c : Chart) (h : Histories) (tree : IsTree c) (has : HasDefaults c h) (d : ℕ) (T : Relation) (kept : IsKept c d T) (enters : Enters) (s : ℕ)
    → Moving c h d T enters → is_compound c s ≡ true → is_below c s d ≡ true → Keeps T (by_default c enters s)
keeps-by_default c h tree has d T kept enters s moving compound below =
    keeps-then T (λ e. record e { defaults = with_number s e.defaults }) (reach c enters s (defaults c s)) (kept.defaulted s)
    (keeps-reach c h tree d T kept enters s (defaults c s) moving (inl below) (has.fine d s compound below))

keeps-kind : (T : Relation) (v w : Bool) (f g : EntryTriple → EntryTriple) → (v ≡ true → Keeps T f) → Keeps T g
    → Keeps T (cond v f (cond w g (λ e. e)))
keeps-kind T true w f g h i = h refl
keeps-kind T false true f g h i = i
keeps-kind T false false f g h i = keeps-same T

keeps-settle_in : (c : Chart) (h : Histories) (tree : IsTree c) (has : HasDefaults c h) (d : ℕ) (T : Relation) (kept : IsKept c d T) (enters : Enters) (s : ℕ)
    → Moving c h d T enters → is_below c s d ≡ true → Keeps T (settle_in c enters s)
keeps-settle_in c h tree has d T kept enters s moving below =
    keeps-then T (added s) (cond (is_compound c s) (by_default c enters s) (cond (is_parallel c s) (regions c enters s) (λ e. e)))
    (kept.added s below)
    (keeps-kind T (is_compound c s) (is_parallel c s) (by_default c enters s) (regions c enters s)
    (λ compound. keeps-by_default c h tree has d T kept enters s moving compound below)
    (keeps-regions c h tree d T kept enters s moving below))

-- nothing is reached where there is nothing to reach
reach-nothing : (c : Chart) (enters : Enters) (bound : ℕ) (ss : List ℕ) (e : EntryTriple) → ss ≡ [] → reach c enters bound ss e ≡ e
reach-nothing c enters bound [] e h = refl
reach-nothing c enters bound (s ∷ ss) e h = absurd (cc)

fine-all : (c : Chart) (h : Histories) (d : ℕ) (ss : List ℕ) → AllOf (λ t. (is_history c t ≡ false) × (is_below c t d ≡ true)) ss
    → AllOf (Fine c h d) ss
fine-all c h d ss all = all-of-map _ (Fine c h d) ss (λ t is. fine-state c h d t is.0 is.1) all

keeps-recalled : (c : Chart) (h : Histories) (tree : IsTree c) (d : ℕ) (T : Relation) (kept : IsKept c d T) (enters : Enters) (s : ℕ) (ss : List ℕ)
    → Moving c h d T enters → is_history c s ≡ true → stands_for c h s ≡ ss → Fine c h d s
    → Keeps T (reach c enters (bound_of c d s) ss)
keeps-recalled c h tree d T kept enters s ss moving is same fine = by fine.bound where
  by : ((is_history c s ≡ true → Within c d (bound_of c d s)) ⊎ (stands_for c h s ≡ []))
      → Keeps T (reach c enters (bound_of c d s) ss)
  by (inl within) = λ e f eq. keeps-reach c h tree d T kept enters (bound_of c d s) ss moving (within is)
      (fine-all c h d ss (subst (λ ts. AllOf (λ t. (is_history c t ≡ false) × (is_below c t d ≡ true)) ts) same fine.each)) e f eq
  by (inr nothing) = λ e f eq.
      rw (
        reach-nothing c enters (bound_of c d s) ss e (sym same ∙ nothing),
        reach-nothing c enters (bound_of c d s) ss f (sym same ∙ nothing),
      ) eq

stands-for-history : (c : Chart) (h : Histories) (s : ℕ) (o : Option (List ℕ)) → is_history c s ≡ true → value_of_history h s ≡ o
    → stands_for c h s ≡ unwrap_or o (defaults c s)
stands-for-history c h s o is e = rw is (ap (λ p. unwrap_or p (defaults c s)) e)

keeps-recall : (c : Chart) (h : Histories) (tree : IsTree c) (d : ℕ) (T : Relation) (kept : IsKept c d T) (enters : Enters) (s : ℕ) (o : Option (List ℕ))
    → Moving c h d T enters → is_history c s ≡ true → value_of_history h s ≡ o → Fine c h d s
    → Keeps T (recall c d enters s o)
keeps-recall c h tree d T kept enters s None moving is e fine =
    keeps-then T (noted s) (reach c enters (bound_of c d s) (defaults c s)) (kept.noted s)
    (keeps-recalled c h tree d T kept enters s (defaults c s) moving is (stands-for-history c h s None is e) fine)
keeps-recall c h tree d T kept enters s (Some ss) moving is e fine =
    keeps-recalled c h tree d T kept enters s ss moving is (stands-for-history c h s (Some ss) is e) fine

below-state : (c : Chart) (h : Histories) (d s : ℕ) → is_history c s ≡ false → Fine c h d s → is_below c s d ≡ true
below-state c h d s state fine =
    let same : stands_for c h s ≡ s ∷ [] = rw state refl in
    (subst (λ ts. AllOf (λ t. (is_history c t ≡ false) × (is_below c t d ≡ true)) ts) same fine.each).0.1

keeps-either : (T : Relation) (v : Bool) (f g : EntryTriple → EntryTriple) → (v ≡ true → Keeps T f) → (v ≡ false → Keeps T g)
    → Keeps T (cond v f g)
keeps-either T true f g h i = h refl
keeps-either T false f g h i = i refl

-- entering below a domain does the same with these states besides, which are not below it
pub keeps-down : (c : Chart) (h : Histories) (tree : IsTree c) (has : HasDefaults c h) (d : ℕ) (T : Relation) (kept : IsKept c d T) (n : ℕ)
    → Moving c h d T (down c h d n)
unfolding down
keeps-down c h tree has d T kept zero s fine = keeps-same T
keeps-down c h tree has d T kept (suc n) s fine =
    keeps-either T (is_history c s) (recall c d (down c h d n) s (value_of_history h s)) (settle_in c (down c h d n) s)
    (λ is. keeps-recall c h tree d T kept (down c h d n) s (value_of_history h s) (keeps-down c h tree has d T kept n) is refl fine)
    (λ state. keeps-settle_in c h tree has d T kept (down c h d n) s (keeps-down c h tree has d T kept n)
    (below-state c h d s state fine))
