-- The recursion of an entry, with as many levels as a state or history needs.
use Rattle.std.proofs.Common.{◌≡◌, ◌⊎◌, inl, inr, ℕ, ◌<◌, ◌≤◌, zero, suc, Bool, true, false, cond, Option, Some, None, unwrap_or, List, [], ◌∷◌, refl, arith, ap, sym, subst}
use Rattle.std.specs.Option.{option_map_or}
use Rattle.sc_base.specs.Ascending.{contains, with_number}
use Rattle.sc_types.specs.declared.chart.Chart.{Chart}
use Rattle.sc_types.specs.declared.state_kind.StateKind.{StateKind}
use Rattle.sc_types.specs.declared.state_kind.StateKind.TheVariants.{Atomic, Final, Compound, Parallel, Shallow, Deep}
use Rattle.sc_law.specs.Tree.{is_below, state_count}
use Rattle.sc_law.specs.Kinds.{is_compound, is_history, is_kind, is_parallel, kind_of}
use Rattle.sc_law.specs.Legality.{legal_fault}
use Rattle.sc_law.specs.Configurations.{children, defaults, parent_of}
use Rattle.sc_law.specs.Sets.{Histories, stands_for, value_of_history}
use Rattle.sc_law.specs.Entry.{EntryTriple, Enters, added, bound_of, by_default, down, is_begun, noted, reach, recall, regions, settle_in}
use Rattle.sc_tables.proofs.Within.{defaults_within}
use Rattle.sc_sets.proofs.Union.Above.{below-number}
use Rattle.sc_sets.proofs.Union.Alone.{noted-keeps}
use Rattle.sc_sets.proofs.Union.Apart.{false-by}
use Rattle.sc_sets.proofs.Union.Below.{Fine, Within, below-within, fine-state}
use Rattle.sc_sets.proofs.Union.FineTargets.{from-all, has-defaults, history-states}
use Rattle.sc_sets.proofs.Union.Forks.{is-tree}
use Rattle.sc_sets.proofs.Union.Kept.{each-has}
use Rattle.sc_sets.proofs.Union.LegalDefaults.{compound-defaults}
use Rattle.sc_sets.proofs.Union.SomeDefaults.{some-stands}
use Rattle.sc_law_theorems.proofs.Legal.Fills.{AllIn, IsReached, Reaches, SinkKids, Sinks, ZoneBy, ZoneOf, reaches, regions-gain, stands-has, stands-own}
use Rattle.sc_law_theorems.proofs.Legal.Gains.{BelowOf, Gains, GainsEach, Has, IsFilled, Opens, Property, Touched, begun-by, gains-none, opens}
use Rattle.sc_law_theorems.proofs.Legal.Lawful.{IsLawful}
use Rattle.sc_law_theorems.proofs.Legal.Lists.{has-cases, has-first}
use Rattle.sc_law_theorems.proofs.Legal.SomeTargets.{compound-some}
use Rattle.sc_law_theorems.proofs.Legal.Tree.{Under, above-on, below-under, between, forks-under, has-holder, kid-is, not-back, number-below, under-below}
use Rattle.sc_law_theorems.proofs.Legal.Weights.{lighter-below, lighter-recalled, some-weight, weight}

-- a state or history that may be entered below the domain
pub record IsTarget (c : Chart) (h : Histories) (d t : ℕ) : Type 0 where
  pub number : t < state_count c
  pub fine : Fine c h d t

-- a step that enters what needs no more than so many levels
abbrev pub Ready : Chart → Histories → ℕ → ℕ → Enters → Type 0
Ready c h d n enters = (t : ℕ) → IsTarget c h d t → weight c t ≤ n → Sinks c h d enters t

-- a state below the domain is a target
pub state-target : (c : Chart) (h : Histories) (d t : ℕ) → is_history c t ≡ false → is_below c t d ≡ true
    → IsTarget c h d t
state-target c h d t state below = record { number = below-number c t d below; fine = fine-state c h d t state below }

-- ---- zones

-- a state fills its own subtree
pub state-zone : (c : Chart) (d t x : ℕ) → is_history c t ≡ false → ZoneOf c d t x → Under c x t
state-zone c d t x state z = subst (λ v. ZoneBy v c d t x) state z

-- and its subtree is its part of the tree
pub zone-state : (c : Chart) (d t x : ℕ) → is_history c t ≡ false → Under c x t → ZoneOf c d t x
zone-state c d t x state u = subst (λ v. ZoneBy v c d t x) (sym state) u

-- a history fills what is below its bound
pub history-zone : (c : Chart) (d t x p : ℕ) → is_history c t ≡ true → bound_of c d t ≡ p → ZoneOf c d t x
    → is_below c x p ≡ true
history-zone c d t x p history bound z =
    subst (λ b. is_below c x b ≡ true) bound (subst (λ v. ZoneBy v c d t x) history z)

-- and what is below its bound is its part of the tree
pub zone-history : (c : Chart) (d t x p : ℕ) → is_history c t ≡ true → bound_of c d t ≡ p → is_below c x p ≡ true
    → ZoneOf c d t x
zone-history c d t x p history bound h =
    subst (λ v. ZoneBy v c d t x) (sym history) (subst (λ b. is_below c x b ≡ true) (sym bound) h)

-- a history is entered below its parent
pub bound-parent : (c : Chart) (d t : ℕ) → is_below c d (parent_of c t) ≡ false → bound_of c d t ≡ parent_of c t
bound-parent c d t out = ap (λ v. cond v d (parent_of c t)) out

-- or below the domain, where that is below its parent
pub bound-domain : (c : Chart) (d t : ℕ) → is_below c d (parent_of c t) ≡ true → bound_of c d t ≡ d
bound-domain c d t deep = ap (λ v. cond v d (parent_of c t)) deep

-- ---- what targets stand for

-- a state that a history stands for is below its parent
pub recalled-is : (c : Chart) (h : Histories) (t u : ℕ) → IsLawful c h → t < state_count c → is_history c t ≡ true
    → contains (stands_for c h t) u ≡ true
    → (is_history c u ≡ false) × (is_below c u (parent_of c t) ≡ true)
recalled-is c h t u lawful l history is =
    each-has (λ x. (is_history c x ≡ false) × (is_below c x (parent_of c t) ≡ true)) u (stands_for c h t)
    (history-states c h t lawful.legal lawful.recorded l history) is

-- a state that a target stands for
abbrev pub StandsBelow : Chart → Histories → ℕ → ℕ → Type 0
StandsBelow c h t s = (u : ℕ) × ((contains (stands_for c h t) u ≡ true) × (is_below c u s ≡ true))

-- a history stands for some state below its parent
pub some-recalled : (c : Chart) (h : Histories) (t : ℕ) → IsLawful c h → t < state_count c → is_history c t ≡ true
    → StandsBelow c h t (parent_of c t)
some-recalled c h t lawful l history =
    let some = some-stands c h t lawful.legal l history in
    let in-it : contains (stands_for c h t) some.0 ≡ true = subst (λ us. contains us some.0 ≡ true) (sym some.1.1)
    (has-first some.0 some.1.0) in
    (some.0, (in-it, (recalled-is c h t some.0 lawful l history in-it).1))

-- a target below a state stands for some state below it
pub stands-below : (c : Chart) (h : Histories) (t s : ℕ) → IsLawful c h → s ≤ state_count c → t < state_count c
    → is_below c t s ≡ true → StandsBelow c h t s
stands-below c h t s lawful m l low = by (is_history c t) refl where
  by : (v : Bool) → is_history c t ≡ v → StandsBelow c h t s
  by true e =
      let r = some-recalled c h t lawful l e in
      (r.0, (r.1.0, below-under c r.0 (parent_of c t) s r.1.1 (between c t s lawful.legal l m low)))
  by false e = (t, (stands-has c h t e, low))

-- ---- reaching

-- states below a bound are reached from themselves
pub states-reached : (c : Chart) (h : Histories) (d b : ℕ) (ss : List ℕ) → legal_fault c ≡ None
    → ((t : ℕ) → contains ss t ≡ true → (is_history c t ≡ false) × (is_below c t b ≡ true)) → IsReached c h d b ss ss
states-reached c h d b ss legal all = record {
  zones = λ t i x z. let is = all t i in under-below c x t b (state-zone c d t x is.0 z) is.1;
  covers = λ t i x y z u low. (let is = all t i in
      elim (forks-under c x y t legal (number-below c y b low) (number-below c t b is.1) u
      (state-zone c d t x is.0 z)) [
        | inl under ↦ inl (zone-state c d t y is.0 under)
        | inr high ↦ inr (t, (i, high))
      ]);
  seen = λ u i a high low. (u, (u, (i, (stands-has c h u (all u i).0, high))));
}

-- what a history stands for below the parent of the history
pub history-covers : (c : Chart) (d b t x y : ℕ) → legal_fault c ≡ None → t < state_count c → is_history c t ≡ true
    → bound_of c d t ≡ parent_of c t
    → ZoneOf c d t x → Under c x y → is_below c y b ≡ true → (ZoneOf c d t y) ⊎ (Under c (parent_of c t) y)
history-covers c d b t x y legal l history bound z u low =
    by (forks-under c x y (parent_of c t) legal (number-below c y b low) (has-holder c t legal l).within u
    (inr (history-zone c d t x (parent_of c t) history bound z))) where
      by : (Under c y (parent_of c t)) ⊎ (is_below c (parent_of c t) y ≡ true)
          → (ZoneOf c d t y) ⊎ (Under c (parent_of c t) y)
      by (inl (inl e)) = inr (inl (sym e))
      by (inl (inr deep)) = inl (zone-history c d t y (parent_of c t) history bound deep)
      by (inr high) = inr (inr high)

-- the default targets of a compound state are reached from themselves
defaults-reached : (c : Chart) (h : Histories) (d s : ℕ) (ss : List ℕ) → IsLawful c h → s ≤ state_count c
    → is_below c s d ≡ true
    → ((t : ℕ) → contains ss t ≡ true → (t < state_count c) × (is_below c t s ≡ true)) → IsReached c h d s ss ss
defaults-reached c h d s ss lawful m below all = record {
  zones = λ t i x z. zones t i (is_history c t) refl x z;
  covers = λ t i x y z u low. covers t i (is_history c t) refl x y z u low;
  seen =
      λ u i a high low. (let r = stands-below c h u a lawful (number-below c a s low) (all u i).0 high in
      (u, (r.0, (i, (r.1.0, r.1.1)))));
} where
  on : (t : ℕ) → contains ss t ≡ true → Under c (parent_of c t) s
  on t i = between c t s lawful.legal (all t i).0 m (all t i).1

  bound : (t : ℕ) → contains ss t ≡ true → bound_of c d t ≡ parent_of c t
  bound t i =
      bound-parent c d t (false-by (is_below c d (parent_of c t))
      (λ high. not-back c s d below (below-under c d (parent_of c t) s high (on t i))))

  zones : (t : ℕ) → contains ss t ≡ true → (v : Bool) → is_history c t ≡ v → (x : ℕ) → ZoneOf c d t x
      → is_below c x s ≡ true
  zones t i true e x z =
      below-under c x (parent_of c t) s (history-zone c d t x (parent_of c t) e (bound t i) z) (on t i)
  zones t i false e x z = under-below c x t s (state-zone c d t x e z) (all t i).1

  covers : (t : ℕ) → contains ss t ≡ true → (v : Bool) → is_history c t ≡ v → (x y : ℕ) → ZoneOf c d t x → Under c x y
      → is_below c y s ≡ true
      → (ZoneOf c d t y) ⊎ ((u : ℕ) × ((contains ss u ≡ true) × (is_below c u y ≡ true)))
  covers t i true e x y z u low = elim (history-covers c d s t x y lawful.legal (all t i).0 e (bound t i) z u low) [
    | inl zone ↦ inl zone
    | inr high ↦ inr (t, (i, below-under c t (parent_of c t) y (has-holder c t lawful.legal (all t i).0).below high))
  ]
  covers t i false e x y z u low =
      elim (forks-under c x y t lawful.legal (number-below c y s low) (number-below c t s (all t i).1) u
      (state-zone c d t x e z)) [
        | inl under ↦ inl (zone-state c d t y e under)
        | inr high ↦ inr (t, (i, high))
      ]

-- ---- entering a state

gains-from : (P : Property) (e g f : EntryTriple) → g.states ≡ e.states → Gains P g f → Gains P e f
gains-from P e g f same is = record {
  more = λ x i. is.more x (subst (λ ss. contains ss x ≡ true) (sym same) i);
  new =
      λ x i. elim (is.new x i) [ inl old ↦ inl (subst (λ ss. contains ss x ≡ true) same old) | inr fresh ↦ inr fresh ];
}

kind-one : (o : Option StateKind) → option_map_or (is_kind Compound) o false ≡ true
    → option_map_or (is_kind Parallel) o false ≡ true → ⊥
kind-one None h i = cc
kind-one (Some Atomic) h i = cc
kind-one (Some Final) h i = cc
kind-one (Some Compound) h i = cc
kind-one (Some Parallel) h i = cc
kind-one (Some Shallow) h i = cc
kind-one (Some Deep) h i = cc

-- a compound state is not parallel
pub not-both : (c : Chart) (s : ℕ) → is_compound c s ≡ true → is_parallel c s ≡ true → ⊥
not-both c s h i = kind-one (kind_of c s) h i

-- the default targets of a compound state, by their numbers
pub default-is : (c : Chart) (s t : ℕ) → legal_fault c ≡ None → is_compound c s ≡ true
    → contains (defaults c s) t ≡ true
    → (t < state_count c) × (is_below c t s ≡ true)
default-is c s t legal compound i = (
  each-has (λ x. x < state_count c) t (defaults c s)
      (from-all (λ x. x < state_count c) (defaults c s) (defaults_within c s)) i,
  each-has (λ x. is_below c x s ≡ true) t (defaults c s) (compound-defaults c s legal compound) i,
)

-- a default target of a compound state is a target of the domain
pub default-target : (c : Chart) (h : Histories) (d s t : ℕ) → IsLawful c h → is_compound c s ≡ true
    → is_below c s d ≡ true → contains (defaults c s) t ≡ true
    → IsTarget c h d t
default-target c h d s t lawful compound below i = record {
  number = (default-is c s t lawful.legal compound i).0;
  fine =
      each-has (Fine c h d) t (defaults c s) ((has-defaults c h lawful.legal lawful.recorded).fine d s compound below)
      i;
}

-- the children of all states below a bound are entered as they should be
pub kids-sink : (c : Chart) (h : Histories) (d n b : ℕ) (enters : Enters) → legal_fault c ≡ None → Ready c h d n enters
    → ((k : ℕ) → is_history c k ≡ false → is_below c k b ≡ true → (is_below c k d ≡ true) × (weight c k ≤ n))
    → SinkKids c h d enters b
kids-sink c h d n b enters legal ready light a k low is =
    let kid = kid-is c a k legal (number-below c a b low) is in
    let l = light k kid.state (above-on c k a b kid.below low) in
    ready k (state-target c h d k kid.state l.0) l.1

-- entering a state fills its subtree
pub settle-opens : (c : Chart) (h : Histories) (d n s : ℕ) (enters : Enters) → IsLawful c h → Ready c h d n enters
    → is_history c s ≡ false
    → is_below c s d ≡ true → weight c s ≤ suc n → (e : EntryTriple) → Opens c s e (settle_in c enters s e)
settle-opens c h d n s enters lawful ready state below light e = by (is_compound c s) (is_parallel c s) refl refl where
  within : s ≤ state_count c
  within = number-below c s d below

  lighter : (t : ℕ) → is_below c t s ≡ true → weight c t ≤ n
  lighter t low = let l = lighter-below c t s lawful.legal within state low in omega arith

  kids : SinkKids c h d enters s
  kids = kids-sink c h d n s enters lawful.legal ready (λ k is low. (above-on c k s d low below, lighter k low))

  own-kids : (k : ℕ) → contains (children c s) k ≡ true → Sinks c h d enters k
  own-kids k i = (let kid = kid-is c s k lawful.legal within i in
      ready k (state-target c h d k kid.state (above-on c k s d kid.below below)) (lighter k kid.below))

  started : EntryTriple
  started = record (added s e) { defaults = with_number s (added s e).defaults }

  reached : is_compound c s ≡ true → Reaches c h s (defaults c s) started (by_default c enters s (added s e))
  reached compound =
      reaches c h d enters s (defaults c s) (defaults c s) lawful.legal
      (λ t i. ready t (default-target c h d s t lawful compound below i)
      (lighter t (default-is c s t lawful.legal compound i).1))
      kids (defaults-reached c h d s (defaults c s) lawful within below
      (λ t i. default-is c s t lawful.legal compound i)) started

  begun : is_compound c s ≡ true → is_begun c (by_default c enters s (added s e)) s ≡ true
  begun compound =
      let some = compound-some c s lawful.legal compound in
      let i : contains (defaults c s) some.0 ≡ true = subst (λ us. contains us some.0 ≡ true) (sym some.1.1)
      (has-first some.0 some.1.0) in
      let is = default-is c s some.0 lawful.legal compound i in
      let u = stands-below c h some.0 s lawful within is.0 is.1 in
      begun-by c (by_default c enters s (added s e)) u.0 s ((reached compound).entered some.0 i u.0 u.1.0) u.1.1

  all : GainsEach (IsFilled c (BelowOf c s)) (λ k f. Touched c f k) (children c s) (added s e)
      (regions c enters s (added s e))
  all = regions-gain c h d enters s lawful.legal within own-kids (added s e)

  by : (v w : Bool) → is_compound c s ≡ v → is_parallel c s ≡ w
      → Opens c s e ((cond v (by_default c enters s) (cond w (regions c enters s) (λ (x : EntryTriple). x)))
      (added s e))
  by true w i j = opens c s e (by_default c enters s (added s e))
      (gains-from (IsFilled c (BelowOf c s)) (added s e) started (by_default c enters s (added s e)) refl
      (reached i).gains)
      (record { state = state; compound = λ o. begun i; parallel = λ o. absurd (not-both c s i o) })
  by false true i j = opens c s e (regions c enters s (added s e)) all.gains
      (record { state = state; compound = λ o. absurd (cc); parallel = λ o. all.each })
  by false false i j = opens c s e (added s e) (gains-none (IsFilled c (BelowOf c s)) (added s e))
      (record { state = state; compound = λ o. absurd (cc); parallel = λ o. absurd (cc) })

-- ---- entering a history

-- where the states of a history are entered
pub record IsRecall (c : Chart) (h : Histories) (d t b : ℕ) : Type 0 where
  pub under : Under c b (parent_of c t)
  pub within : Within c d b
  pub states : (u : ℕ) → contains (stands_for c h t) u ≡ true → (is_history c u ≡ false) × (is_below c u b ≡ true)

-- the bound of a history is its parent, or is below it
pub is-recall : (c : Chart) (h : Histories) (d t : ℕ) → IsLawful c h → IsTarget c h d t → is_history c t ≡ true
    → IsRecall c h d t (bound_of c d t)
is-recall c h d t lawful target history = record {
  under = by (is_below c d (parent_of c t)) refl;
  within = within target.fine.bound;
  states = λ u i. ((recalled-is c h t u lawful target.number history i).0, low u i (is_below c d (parent_of c t)));
} where
  by : (v : Bool) → is_below c d (parent_of c t) ≡ v → Under c (cond v d (parent_of c t)) (parent_of c t)
  by true e = inr e
  by false e = inl refl

  within : ((is_history c t ≡ true → Within c d (bound_of c d t)) ⊎ (stands_for c h t ≡ []))
      → Within c d (bound_of c d t)
  within (inl on) = on history
  within (inr none) = absurd (
      let some = some-recalled c h t lawful target.number history in
      let no : contains [] some.0 ≡ true = subst (λ us. contains us some.0 ≡ true) none some.1.0 in cc
      )

  low : (u : ℕ) → contains (stands_for c h t) u ≡ true → (v : Bool) → is_below c u (cond v d (parent_of c t)) ≡ true
  low u i true =
      (each-has (λ x. (is_history c x ≡ false) × (is_below c x d ≡ true)) u (stands_for c h t) target.fine.each i).1
  low u i false = (recalled-is c h t u lawful target.number history i).1

recall-reaches : (c : Chart) (h : Histories) (d n t : ℕ) (enters : Enters) → IsLawful c h → Ready c h d n enters
    → IsTarget c h d t → is_history c t ≡ true
    → weight c t ≤ suc n → (e : EntryTriple)
    → Reaches c h (bound_of c d t) (stands_for c h t) e (reach c enters (bound_of c d t) (stands_for c h t) e)
recall-reaches c h d n t enters lawful ready target history light e =
    reaches c h d enters (bound_of c d t) (stands_for c h t) (stands_for c h t) lawful.legal
    (λ u i. let is = recall.states u i in let l = lights u is.0 is.1 in ready u (state-target c h d u is.0 l.0) l.1)
    (kids-sink c h d n (bound_of c d t) enters lawful.legal ready lights)
    (states-reached c h d (bound_of c d t) (stands_for c h t) lawful.legal recall.states) e
  where
    recall : IsRecall c h d t (bound_of c d t)
    recall = is-recall c h d t lawful target history

    lights : (k : ℕ) → is_history c k ≡ false → is_below c k (bound_of c d t) ≡ true
        → (is_below c k d ≡ true) × (weight c k ≤ n)
    lights k state low = (
      below-within c (is-tree c) d (bound_of c d t) k recall.within low,
      (let l = lighter-recalled c k t lawful.legal target.number history state
          (below-under c k (bound_of c d t) (parent_of c t) low recall.under) in omega arith),
    )

-- what a reach gains, as the recall of a history
recall-gains : (c : Chart) (h : Histories) (d t : ℕ) (enters : Enters) (o : Option (List ℕ)) → is_history c t ≡ true
    → value_of_history h t ≡ o
    → ((e : EntryTriple) → Reaches c h (bound_of c d t) (stands_for c h t) e
    (reach c enters (bound_of c d t) (stands_for c h t) e))
    → ((u : ℕ) → contains (stands_for c h t) u ≡ true → contains (stands_for c h u) u ≡ true) → (e : EntryTriple)
    → (Gains (IsFilled c (BelowOf c (bound_of c d t))) e (recall c d enters t o e))
    × AllIn c h t (recall c d enters t o e)
recall-gains c h d t enters o history value all own e = by o value where
  stands : (p : Option (List ℕ)) → value_of_history h t ≡ p → stands_for c h t ≡ unwrap_or p (defaults c t)
  stands p e = rw history (ap (λ q. unwrap_or q (defaults c t)) e)

  at : (ss : List ℕ) (g : EntryTriple) → stands_for c h t ≡ ss
      → (Gains (IsFilled c (BelowOf c (bound_of c d t))) g (reach c enters (bound_of c d t) ss g))
      × AllIn c h t (reach c enters (bound_of c d t) ss g)
  at ss g same =
      subst (λ us. (Gains (IsFilled c (BelowOf c (bound_of c d t))) g (reach c enters (bound_of c d t) us g))
      × AllIn c h t (reach c enters (bound_of c d t) us g))
      same ((all g).gains, (λ u i. (all g).entered u i u (own u i)))

  by : (p : Option (List ℕ)) → value_of_history h t ≡ p
      → (Gains (IsFilled c (BelowOf c (bound_of c d t))) e (recall c d enters t p e))
      × AllIn c h t (recall c d enters t p e)
  by None v = (let r = at (defaults c t) (noted t e) (stands None v) in (
    gains-from (IsFilled c (BelowOf c (bound_of c d t))) e (noted t e)
        (reach c enters (bound_of c d t) (defaults c t) (noted t e)) (noted-keeps t e) r.0,
    r.1,
  ))
  by (Some ss) v = at ss e (stands (Some ss) v)

-- ---- so many levels

down-gains : (c : Chart) (h : Histories) (d n t : ℕ) → IsLawful c h → Ready c h d n (down c h d n) → IsTarget c h d t
    → weight c t ≤ suc n → (e : EntryTriple)
    → (Gains (IsFilled c (ZoneOf c d t)) e (down c h d (suc n) t e)) × AllIn c h t (down c h d (suc n) t e)
unfolding down
down-gains c h d n t lawful ready target light e = by (is_history c t) refl where
  low : is_history c t ≡ false → is_below c t d ≡ true
  low state =
      (each-has (λ x. (is_history c x ≡ false) × (is_below c x d ≡ true)) t (stands_for c h t) target.fine.each
      (stands-has c h t state)).1

  opened : is_history c t ≡ false → Opens c t e (settle_in c (down c h d n) t e)
  opened state = settle-opens c h d n t (down c h d n) lawful ready state (low state) light e

  by : (v : Bool) → is_history c t ≡ v
      → (Gains (IsFilled c (ZoneBy v c d t)) e
      ((cond v (recall c d (down c h d n) t (value_of_history h t)) (settle_in c (down c h d n) t)) e))
      × AllIn c h t ((cond v (recall c d (down c h d n) t (value_of_history h t)) (settle_in c (down c h d n) t)) e)
  by true history = recall-gains c h d t (down c h d n) (value_of_history h t) history refl
      (recall-reaches c h d n t (down c h d n) lawful ready target history light)
      (λ u i. stands-has c h u (recalled-is c h t u lawful target.number history i).0) e
  by false state = (
    (opened state).gains,
    (λ u i. subst (λ k. Has (settle_in c (down c h d n) t e) k)
        (only u (subst (λ us. contains us u ≡ true) (stands-own c h t state) i)) (opened state).has),
  ) where
    only : (u : ℕ) → contains (t ∷ []) u ≡ true → t ≡ u
    only u i = elim (has-cases t u [] i) [ inl e ↦ e | inr none ↦ absurd (cc) ]

-- each level of the recursion enters what needs no more levels
pub down-sinks : (c : Chart) (h : Histories) (d n : ℕ) → IsLawful c h → Ready c h d n (down c h d n)
down-sinks c h d zero lawful t target light = absurd (let w = some-weight c t lawful.legal target.number in omega arith)
down-sinks c h d (suc n) lawful t target light = record {
  gains = λ e. (down-gains c h d n t lawful (down-sinks c h d n lawful) target light e).0;
  entered = λ e. (down-gains c h d n t lawful (down-sinks c h d n lawful) target light e).1;
}
