-- The states that several transitions enter are those that each enters alone.
use Rattle.std.proofs.Common.{◌≡◌, inl, inr, ℕ, ◌||◌, Bool, true, false, cond, Option, Some, None, List, [], ◌∷◌, ◌++◌, refl, ap, sym, subst, ◌∙◌}
use Rattle.std.specs.List.{list_any}
use Rattle.std.specs.Option.{option_map_or}
use Rattle.std.proofs.lemmas.Bool.{cases_order}
use Rattle.sc_base.specs.Ascending.{contains, joined, with_number}
use Rattle.sc_base.specs.Folds.{each}
use Rattle.sc_types.specs.declared.chart.Chart.{Chart}
use Rattle.sc_law.specs.Tree.{is_below, state_count}
use Rattle.sc_law.specs.Transitions.{targets}
use Rattle.sc_law.specs.Sets.{Histories, domain, effective_targets}
use Rattle.sc_law.specs.Entry.{EntryTriple, added, enter_targets, enters, entry, entry_of, is_begun, no_entry, noted, up}
use Rattle.sc_sets.proofs.Union.Numbers.{any-joined, joined-with, with-less, with-more, with-same}
use Rattle.std.specs.List.{AllByRecursion as AllOf}
use Rattle.sc_sets.proofs.Union.Below.{Fine, HasDefaults, IsKept, IsTree, Keeps, Relation, all-of-map, keeps-down, keeps-each, keeps-then, keeps-up}

pub noted-keeps : (s : ℕ) (e : EntryTriple) → (noted s e).states ≡ e.states
noted-keeps s e = by (contains e.noted s) where
  by : (v : Bool) → (cond v e (record e { noted = e.noted ++ s ∷ [] })).states ≡ e.states
  by true = refl
  by false = refl

-- ---- with these states besides

-- f is e with these states besides
abbrev pub HasMore : List ℕ → Relation
HasMore more e f = f.states ≡ joined more e.states

-- none of these states is below the domain
abbrev pub NoneBelow : Chart → List ℕ → ℕ → Type 0
NoneBelow c more d = AllOf (λ t. is_below c t d ≡ false) more

none-any : (p q : ℕ → Bool) (xs : List ℕ) → ((x : ℕ) → p x ≡ true → q x ≡ true) → AllOf (λ x. q x ≡ false) xs → list_any p xs ≡ false
none-any p q [] f none = refl
none-any p q (x ∷ xs) f none = by (p x) (q x) refl refl none.0 (none-any p q xs f none.1) where
  by : (v w : Bool) → p x ≡ v → q x ≡ w → w ≡ false → list_any p xs ≡ false → (v || list_any p xs) ≡ false
  by true true e g h rest = absurd (cc)
  by true false e g h rest = absurd (let t = f x e in cc)
  by false true e g h rest = rest
  by false false e g h rest = rest

pub more-kept : (c : Chart) (tree : IsTree c) (d : ℕ) (more : List ℕ) → NoneBelow c more d → IsKept c d (HasMore more)
more-kept c tree d more none = record {
  added = λ s below e f same. ap (with_number s) same ∙ sym (joined-with s more e.states);
  noted = λ s e f same. noted-keeps s f ∙ same ∙ ap (joined more) (sym (noted-keeps s e));
  defaulted = λ s e f same. same;
  begun = λ e f s below same. ap (list_any (λ t. is_below c t s)) same
      ∙ any-joined (λ t. is_below c t s) more e.states
      (none-any (λ t. is_below c t s) (λ t. is_below c t d) more (λ t h. tree.on t s d h below) none);
}

-- ---- below the domain

-- the same entry, all of whose states are below the domain
pub record IsBelow (c : Chart) (d : ℕ) (e f : EntryTriple) : Type 0 where
  pub same : f ≡ e
  pub below : AllOf (λ s. is_below c s d ≡ true) e.states

all-with : (P : ℕ → Type 0) (n : ℕ) (xs : List ℕ) → P n → AllOf P xs → AllOf P (with_number n xs)
all-with P n [] h all = (h, tt)
all-with P n (x ∷ xs) h all = elim (cases_order n x) [
  | inl e ↦ subst (AllOf P) (sym (with-same n x xs e)) all
  | inr o ↦ elim o [
    | inl below ↦ subst (AllOf P) (sym (with-less n x xs below)) (h, all)
    | inr above ↦ subst (AllOf P) (sym (with-more n x xs above)) (all.0, all-with P n xs h all.1)
  ]
]

pub below-kept : (c : Chart) (d : ℕ) → IsKept c d (IsBelow c d)
below-kept c d = record {
  added = λ s below e f is. record { same = ap (added s) is.same; below = all-with _ s e.states below is.below };
  noted = λ s e f is. record { same = ap (noted s) is.same; below = subst (AllOf (λ t. is_below c t d ≡ true)) (sym (noted-keeps s e)) is.below };
  defaulted = λ s e f is. record { same = ap (λ (x : EntryTriple). record x { defaults = with_number s x.defaults }) is.same; below = is.below };
  begun = λ e f s below is. ap (λ (x : EntryTriple). is_begun c x s) is.same;
}

-- ---- a transition

-- the targets of a transition enter states below the domain
pub keeps-targets : (c : Chart) (h : Histories) (tree : IsTree c) (has : HasDefaults c h) (d : ℕ) (T : Relation) (kept : IsKept c d T) (ss : List ℕ)
    → AllOf (Fine c h d) ss → Keeps T (enter_targets c h ss d)
keeps-targets c h tree has d T kept ss fine =
    keeps-then T (each (enters c h d) ss) (each (up c (enters c h d) d) (effective_targets c h ss))
    (keeps-each T (enters c h d) ss (all-of-map (Fine c h d) _ ss (keeps-down c h tree has d T kept (state_count c)) fine))
    (keeps-each T (up c (enters c h d) d) (effective_targets c h ss) (ups (effective_targets c h ss)))
  where
    ups : (ts : List ℕ) → AllOf (λ t. Keeps T (up c (enters c h d) d t)) ts
    ups [] = tt
    ups (t ∷ ts) = (keeps-up c h tree d T kept (enters c h d) d t (keeps-down c h tree has d T kept (state_count c)) (inr refl), ups ts)

-- the states that a transition enters alone
abbrev pub alone : Chart → Histories → Histories → ℕ → List ℕ
alone c before h t = (entry_of c before h t no_entry).states

-- each target is fine for the transition's domain
abbrev pub FineTargets : Chart → Histories → Histories → ℕ → Type 0
FineTargets c before h t = (d : ℕ) → domain c before t ≡ Some d → AllOf (Fine c h d) (targets c t)

-- no state is below the domains of both
abbrev pub ApartFrom : Chart → Histories → ℕ → ℕ → Type 0
ApartFrom c before t u = (d e s : ℕ) → domain c before t ≡ Some d → domain c before u ≡ Some e → is_below c s d ≡ true → is_below c s e ≡ false

abbrev pub AreApart : Chart → Histories → List ℕ → Type 0
AreApart c before [] = Unit
AreApart c before (t ∷ ts) = AllOf (ApartFrom c before t) ts × AreApart c before ts

-- none of the states is below the transition's domain
abbrev pub IsOutside : Chart → Histories → List ℕ → ℕ → Type 0
IsOutside c before ss t = (d : ℕ) → domain c before t ≡ Some d → NoneBelow c ss d

-- a transition adds what it enters alone
entry-adds : (c : Chart) (before h : Histories) (tree : IsTree c) (has : HasDefaults c h) (t : ℕ) (o : Option ℕ) (e : EntryTriple)
    → domain c before t ≡ o → FineTargets c before h t → IsOutside c before e.states t
    → (option_map_or (λ d. enter_targets c h (targets c t) d e) o e).states
    ≡ joined e.states (option_map_or (λ d. enter_targets c h (targets c t) d no_entry) o no_entry).states
entry-adds c before h tree has t None e is fine outside = refl
entry-adds c before h tree has t (Some d) e is fine outside =
    keeps-targets c h tree has d (HasMore e.states) (more-kept c tree d e.states (outside d is)) (targets c t) (fine d is) no_entry e refl

alone-is : (c : Chart) (before h : Histories) (t : ℕ) (o : Option ℕ) → domain c before t ≡ o
    → (option_map_or (λ d. enter_targets c h (targets c t) d no_entry) o no_entry).states ≡ alone c before h t
alone-is c before h t o is = ap (λ p. (option_map_or (λ d. enter_targets c h (targets c t) d no_entry) p no_entry).states) (sym is)

pub transition-adds : (c : Chart) (before h : Histories) (tree : IsTree c) (has : HasDefaults c h) (t : ℕ) (e : EntryTriple)
    → FineTargets c before h t → IsOutside c before e.states t → (entry_of c before h t e).states ≡ joined e.states (alone c before h t)
transition-adds c before h tree has t e fine outside = entry-adds c before h tree has t (domain c before t) e refl fine outside

-- what a transition enters is below its domain
pub alone-below : (c : Chart) (before h : Histories) (tree : IsTree c) (has : HasDefaults c h) (t d : ℕ) → domain c before t ≡ Some d
    → FineTargets c before h t → AllOf (λ s. is_below c s d ≡ true) (alone c before h t)
alone-below c before h tree has t d is fine =
    subst (AllOf (λ s. is_below c s d ≡ true)) (alone-is c before h t (Some d) is)
    (keeps-targets c h tree has d (IsBelow c d) (below-kept c d) (targets c t) (fine d is) no_entry no_entry (record { same = refl; below = tt })).below

all-joined : (P : ℕ → Type 0) (xs ys : List ℕ) → AllOf P xs → AllOf P ys → AllOf P (joined xs ys)
all-joined P xs [] h i = h
all-joined P xs (y ∷ ys) h i = all-with P y (joined xs ys) i.0 (all-joined P xs ys h i.1)

-- what stands outside a domain, and what a transition with another domain enters, stand outside it together
outside-more : (c : Chart) (before h : Histories) (tree : IsTree c) (has : HasDefaults c h) (t u : ℕ) (ss : List ℕ) (o : Option ℕ) → domain c before t ≡ o
    → FineTargets c before h t → ApartFrom c before t u → IsOutside c before ss u → IsOutside c before (joined ss (alone c before h t)) u
outside-more c before h tree has t u ss None is fine apart outside =
    λ d e. subst (λ ts. NoneBelow c (joined ss ts) d) (alone-is c before h t None is) (outside d e)
outside-more c before h tree has t u ss (Some a) is fine apart outside =
    λ d e. all-joined (λ s. is_below c s d ≡ false) ss (alone c before h t) (outside d e)
    (all-of-map _ _ (alone c before h t) (λ s below. apart a d s is e below) (alone-below c before h tree has t a is fine))

pub all-both : {A : Type 0} (P Q R : A → Type 0) (xs : List A) → ((x : A) → P x → Q x → R x) → AllOf P xs → AllOf Q xs → AllOf R xs
all-both P Q R [] f h i = tt
all-both P Q R (x ∷ xs) f h i = (f x h.0 i.0, all-both P Q R xs f h.1 i.1)

-- transitions with domains apart add, one after another, what each enters alone
pub union-from : (c : Chart) (before h : Histories) (tree : IsTree c) (has : HasDefaults c h) (ts : List ℕ) (e : EntryTriple)
    → AllOf (FineTargets c before h) ts → AreApart c before ts → AllOf (IsOutside c before e.states) ts
    → (each (entry_of c before h) ts e).states ≡ each (λ t all. joined all (alone c before h t)) ts e.states
union-from c before h tree has [] e fine apart outside = refl
union-from c before h tree has (t ∷ ts) e fine apart outside =
    let adds = transition-adds c before h tree has t e fine.0 outside.0 in
    let later : AllOf (IsOutside c before (entry_of c before h t e).states) ts =
    subst (λ ss. AllOf (IsOutside c before ss) ts) (sym adds)
    (all-both (ApartFrom c before t) (IsOutside c before e.states) (IsOutside c before (joined e.states (alone c before h t))) ts
    (λ u a o. outside-more c before h tree has t u e.states (domain c before t) refl fine.0 a o) apart.0 outside.1) in
    union-from c before h tree has ts (entry_of c before h t e) fine.1 apart.1 later
    ∙ ap (each (λ t all. joined all (alone c before h t)) ts) adds

all-always : {A : Type 0} (P : A → Type 0) (xs : List A) → ((x : A) → P x) → AllOf P xs
all-always P [] f = tt
all-always P (x ∷ xs) f = (f x, all-always P xs f)

-- the states that several transitions enter are those that each enters alone
pub entry-union : (c : Chart) (before h : Histories) (tree : IsTree c) (has : HasDefaults c h) (ts : List ℕ)
    → AllOf (FineTargets c before h) ts → AreApart c before ts
    → (entry c before h ts).states ≡ each (λ t all. joined all (alone c before h t)) ts []
unfolding entry
entry-union c before h tree has ts fine apart =
    union-from c before h tree has ts no_entry fine apart (all-always _ ts (λ t d e. tt))
