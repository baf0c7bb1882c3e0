-- What entering a state or history adds: all that is new is filled, and what was to be entered is.
use Rattle.std.proofs.Common.{◌≡◌, ◌⊎◌, inl, inr, ℕ, ◌≤◌, Bool, true, false, cond, None, List, [], ◌∷◌, filter, refl, arith, sym, subst}
use Rattle.sc_base.specs.Ascending.{contains}
use Rattle.sc_base.specs.Folds.{each}
use Rattle.sc_types.specs.declared.chart.Chart.{Chart}
use Rattle.sc_law.specs.Tree.{ancestors, is_below, state_count}
use Rattle.sc_law.specs.Kinds.{is_history, is_parallel}
use Rattle.sc_law.specs.Legality.{legal_fault}
use Rattle.sc_law.specs.Configurations.{children}
use Rattle.sc_law.specs.Sets.{Histories, stands_for}
use Rattle.sc_law.specs.Entry.{EntryTriple, Enters, added, bound_of, enters, is_begun, region, regions, through, up}
use Rattle.sc_sets.proofs.Union.Above.{below-number}
use Rattle.sc_sets.proofs.Union.Recorded.{contains-filter}
use Rattle.sc_law_theorems.proofs.Legal.Gains.{BelowOf, GainsEach, Gains, Has, HasMore, IsFilled, Opens, Property, Touched, UnderOf, Zone, begun-by, begun-more, each-gains, filled-more, gains-as, gains-none, opens, touched-more}
use Rattle.sc_law_theorems.proofs.Legal.Lists.{filter-has, has-first, has-more}
use Rattle.sc_law_theorems.proofs.Legal.Tree.{IsKid, Under, above-on, above-state, ancestor-is, between, forks-under, is-ancestor, kid-is, not-back, not-own, number-below, under-below}

-- the part of the tree that entering a state or history fills
abbrev pub ZoneBy : Bool → Chart → ℕ → ℕ → Zone
ZoneBy true c d t = BelowOf c (bound_of c d t)
ZoneBy false c d t = UnderOf c t

-- the part of the tree that a target fills
abbrev pub ZoneOf : Chart → ℕ → ℕ → Zone
ZoneOf c d t = ZoneBy (is_history c t) c d t

-- a step that enters a state or history as it should
pub record Sinks (c : Chart) (h : Histories) (d : ℕ) (enters : Enters) (t : ℕ) : Type 0 where
  pub gains : (e : EntryTriple) → Gains (IsFilled c (ZoneOf c d t)) e (enters t e)
  pub entered : (e : EntryTriple) (u : ℕ) → contains (stands_for c h t) u ≡ true → Has (enters t e) u

-- a state stands for itself
pub stands-own : (c : Chart) (h : Histories) (t : ℕ) → is_history c t ≡ false → stands_for c h t ≡ t ∷ []
stands-own c h t state = rw state refl

-- and is among what it stands for
pub stands-has : (c : Chart) (h : Histories) (t : ℕ) → is_history c t ≡ false → contains (stands_for c h t) t ≡ true
stands-has c h t state = subst (λ us. contains us t ≡ true) (sym (stands-own c h t state)) (has-first t [])

-- a state fills its subtree
pub state-gains : (c : Chart) (h : Histories) (d : ℕ) (enters : Enters) (t : ℕ) → is_history c t ≡ false
    → Sinks c h d enters t
    → (e : EntryTriple) → Gains (IsFilled c (UnderOf c t)) e (enters t e)
state-gains c h d enters t state is e =
    subst (λ v. Gains (IsFilled c (ZoneBy v c d t)) e (enters t e)) state (is.gains e)

-- and is entered
pub state-in : (c : Chart) (h : Histories) (d : ℕ) (enters : Enters) (t : ℕ) → is_history c t ≡ false
    → Sinks c h d enters t
    → (e : EntryTriple) → Has (enters t e) t
state-in c h d enters t state is e = is.entered e t (stands-has c h t state)

-- ---- regions

region-gains : (c : Chart) (h : Histories) (d : ℕ) (enters : Enters) (k : ℕ) → is_history c k ≡ false
    → Sinks c h d enters k → (e : EntryTriple)
    → (Gains (IsFilled c (UnderOf c k)) e (region c enters k e)) × Touched c (region c enters k e) k
region-gains c h d enters k state is e = by (is_begun c e k) refl where
  by : (v : Bool) → is_begun c e k ≡ v
      → (Gains (IsFilled c (UnderOf c k)) e ((cond v (λ (x : EntryTriple). x) (enters k)) e))
      × Touched c ((cond v (λ (x : EntryTriple). x) (enters k)) e) k
  by true t = (gains-none (IsFilled c (UnderOf c k)) e, inr t)
  by false t = (state-gains c h d enters k state is e, inl (state-in c h d enters k state is e))

-- the subtree of a child is below the parent
kid-zone : (c : Chart) (a k x : ℕ) (f : EntryTriple) → legal_fault c ≡ None → a ≤ state_count c → IsKid c a k
    → IsFilled c (UnderOf c k) x f
    → IsFilled c (BelowOf c a) x f
kid-zone c a k x f legal m kid is = record {
  inside = under-below c x k a is.inside kid.below;
  held =
      λ y u z. by y u z (forks-under c x y k legal (number-below c y a z)
      (let l = kid.number in omega arith) u is.inside);
  done = is.done;
} where
  over : (y : ℕ) → is_below c y a ≡ true → Under c a y → ⊥
  over y z (inl e) = not-own c a (subst (λ n. is_below c n a ≡ true) (sym e) z)
  over y z (inr high) = not-back c a y high z

  by : (y : ℕ) → Under c x y → is_below c y a ≡ true → (Under c y k) ⊎ (is_below c k y ≡ true) → Has f y
  by y u z (inl low) = is.held y u low
  by y u z (inr high) =
      absurd (over y z (subst (λ n. Under c n y) kid.parent
      (between c k y legal kid.number (number-below c y a z) high)))

-- the children of a state as regions
pub regions-gain : (c : Chart) (h : Histories) (d : ℕ) (enters : Enters) (a : ℕ) → legal_fault c ≡ None
    → a ≤ state_count c
    → ((k : ℕ) → contains (children c a) k ≡ true → Sinks c h d enters k) → (e : EntryTriple)
    → GainsEach (IsFilled c (BelowOf c a)) (λ k f. Touched c f k) (children c a) e (regions c enters a e)
regions-gain c h d enters a legal m sinks e =
    each-gains (IsFilled c (BelowOf c a)) (λ k f. Touched c f k) (λ f. Unit {0}) (filled-more c (BelowOf c a))
    (λ k f g more t. touched-more c f g k more t) (λ f g more t. tt)
    (region c enters) (children c a) one e tt
  where
    one : (k : ℕ) → contains (children c a) k ≡ true → (f : EntryTriple) → Unit {0}
        → (Gains (IsFilled c (BelowOf c a)) f (region c enters k f)) × Touched c (region c enters k f) k
    one k is f t =
        let kid = kid-is c a k legal m is in
        let r = region-gains c h d enters k kid.state (sinks k is) f in (
          gains-as (IsFilled c (UnderOf c k)) (IsFilled c (BelowOf c a)) f (region c enters k f) r.0
              (λ x o. kid-zone c a k x (region c enters k f) legal m kid o),
          r.1,
        )

-- ---- upward

-- an ancestor of what was entered is entered, with its other regions
pub through-opens : (c : Chart) (h : Histories) (d : ℕ) (enters : Enters) (a : ℕ) → legal_fault c ≡ None
    → a ≤ state_count c → is_history c a ≡ false
    → ((k : ℕ) → contains (children c a) k ≡ true → Sinks c h d enters k) → (e : EntryTriple) → is_begun c e a ≡ true
    → Opens c a e (through c enters a e)
through-opens c h d enters a legal m state sinks e begun = by (is_parallel c a) refl where
  first : HasMore e (added a e)
  first x t = has-more a x e.states t

  all : GainsEach (IsFilled c (BelowOf c a)) (λ k f. Touched c f k) (children c a) (added a e)
      (regions c enters a (added a e))
  all = regions-gain c h d enters a legal m sinks (added a e)

  by : (v : Bool) → is_parallel c a ≡ v
      → Opens c a e ((cond v (regions c enters a) (λ (x : EntryTriple). x)) (added a e))
  by true t = opens c a e (regions c enters a (added a e)) all.gains (record {
    state = state;
    compound = λ o. begun-more c e (regions c enters a (added a e)) a (λ x i. all.gains.more x (first x i)) begun;
    parallel = λ o. all.each;
  })
  by false t = opens c a e (added a e) (gains-none (IsFilled c (BelowOf c a)) (added a e)) (record {
    state = state;
    compound = λ o. begun-more c e (added a e) a first begun;
    parallel = λ o. absurd (cc);
  })

-- steps that enter all children of the states below a bound
abbrev pub SinkKids : Chart → Histories → ℕ → Enters → ℕ → Type 0
SinkKids c h d enters b = (a k : ℕ) → is_below c a b ≡ true → contains (children c a) k ≡ true → Sinks c h d enters k

-- something is entered below all that is above a state below the bound
abbrev pub Rises : Chart → ℕ → ℕ → EntryTriple → Type 0
Rises c b s e = (a : ℕ) → is_below c s a ≡ true → is_below c a b ≡ true → is_begun c e a ≡ true

-- all that is above a state below the bound is entered
abbrev pub Anchored : Chart → ℕ → ℕ → EntryTriple → Type 0
Anchored c b s f = (a : ℕ) → is_below c s a ≡ true → is_below c a b ≡ true → Has f a

-- what the way up from a state enters
pub record UpTo (c : Chart) (b s : ℕ) (e f : EntryTriple) : Type 0 where
  pub gains : Gains (IsFilled c (BelowOf c b)) e f
  pub anchored : Anchored c b s f

-- a state in the subtree of one that is above s
abbrev OnPath : Chart → ℕ → ℕ → Property
OnPath c b s = λ x f. (a : ℕ) × ((is_below c s a ≡ true) × ((is_below c a b ≡ true) × IsFilled c (UnderOf c a) x f))

path-zone : (c : Chart) (b s x : ℕ) (f : EntryTriple) → legal_fault c ≡ None → Anchored c b s f → OnPath c b s x f
    → IsFilled c (BelowOf c b) x f
path-zone c b s x f legal anchored on = record {
  inside = under-below c x on.0 b on.1.1.1.inside on.1.1.0;
  held =
      λ y u z. elim (forks-under c x y on.0 legal (number-below c y b z)
      (number-below c on.0 b on.1.1.0) u on.1.1.1.inside) [
        | inl low ↦ on.1.1.1.held y u low
        | inr high ↦ anchored y (above-on c s on.0 y on.1.0 high) z
      ];
  done = on.1.1.1.done;
}

-- the way up from a state below a bound
pub up-gains : (c : Chart) (h : Histories) (d : ℕ) (enters : Enters) (b s : ℕ) → legal_fault c ≡ None
    → SinkKids c h d enters b → (e : EntryTriple)
    → Rises c b s e → UpTo c b s e (up c enters b s e)
up-gains c h d enters b s legal kids e rises = record {
  gains =
      gains-as (OnPath c b s) (IsFilled c (BelowOf c b)) e (up c enters b s e) all.gains
      (λ x on. path-zone c b s x (up c enters b s e) legal anchored on);
  anchored = anchored;
} where
  one : (a : ℕ) → contains (filter (λ a. is_below c a b) (ancestors c s)) a ≡ true → (f : EntryTriple) → Rises c b s f
      → (Gains (OnPath c b s) f (through c enters a f)) × Has (through c enters a f) a
  one a is f rises =
      let parts = contains-filter (λ a. is_below c a b) a (ancestors c s) is in
      let above = ancestor-is c s a parts.0 in
      let o = through-opens c h d enters a legal (number-below c a b parts.1)
      (above-state c a s legal (number-below c a b parts.1) above.1)
      (λ k i. kids a k parts.1 i) f (rises a above.1 parts.1) in (
        gains-as (IsFilled c (UnderOf c a)) (OnPath c b s) f (through c enters a f) o.gains
            (λ x i. (a, (above.1, (parts.1, i)))),
        o.has,
      )

  all : GainsEach (OnPath c b s) (λ a f. Has f a) (filter (λ a. is_below c a b) (ancestors c s)) e (up c enters b s e)
  all = each-gains (OnPath c b s) (λ a f. Has f a) (Rises c b s)
      (λ x f g more on. (on.0, (on.1.0, (on.1.1.0, filled-more c (UnderOf c on.0) x f g more on.1.1.1))))
      (λ a f g more t. more a t) (λ f g more r a i j. begun-more c f g a more (r a i j))
      (through c enters) (filter (λ a. is_below c a b) (ancestors c s)) one e rises

  anchored : Anchored c b s (up c enters b s e)
  anchored a i j =
      all.each a (filter-has (λ a. is_below c a b) a (ancestors c s) (is-ancestor c s a (below-number c a b j) i) j)

-- the way up from several states
pub ups-gain : (c : Chart) (h : Histories) (d : ℕ) (enters : Enters) (b : ℕ) (us : List ℕ) → legal_fault c ≡ None
    → SinkKids c h d enters b → (e : EntryTriple)
    → ((u : ℕ) → contains us u ≡ true → Rises c b u e)
    → GainsEach (IsFilled c (BelowOf c b)) (Anchored c b) us e (each (up c enters b) us e)
ups-gain c h d enters b us legal kids e rises =
    each-gains (IsFilled c (BelowOf c b)) (Anchored c b) (λ f. (u : ℕ) → contains us u ≡ true → Rises c b u f)
    (filled-more c (BelowOf c b))
    (λ u f g more o a i j. more a (o a i j)) (λ f g more o u i a j k. begun-more c f g a more (o u i a j k))
    (up c enters b) us
    (λ u is f o. let r = up-gains c h d enters b u legal kids f (o u is) in (r.gains, r.anchored)) e rises

-- ---- targets

-- a state in the part of one of these targets
abbrev OfSome : Chart → ℕ → List ℕ → Property
OfSome c d ss = λ x f. (t : ℕ) × ((contains ss t ≡ true) × IsFilled c (ZoneOf c d t) x f)

-- the states that a target stands for are entered
abbrev pub AllIn : Chart → Histories → ℕ → EntryTriple → Type 0
AllIn c h t f = (u : ℕ) → contains (stands_for c h t) u ≡ true → Has f u

firsts-gain : (c : Chart) (h : Histories) (d : ℕ) (enters : Enters) (ss : List ℕ)
    → ((t : ℕ) → contains ss t ≡ true → Sinks c h d enters t)
    → (e : EntryTriple) → GainsEach (OfSome c d ss) (AllIn c h) ss e (each enters ss e)
firsts-gain c h d enters ss sinks e =
    each-gains (OfSome c d ss) (AllIn c h) (λ f. Unit {0})
    (λ x f g more on. (on.0, (on.1.0, filled-more c (ZoneOf c d on.0) x f g more on.1.1)))
    (λ t f g more o u i. more u (o u i)) (λ f g more t. tt)
    enters ss
    (λ t is f o. (
      gains-as (IsFilled c (ZoneOf c d t)) (OfSome c d ss) f (enters t f) ((sinks t is).gains f) (λ x i. (t, (is, i))),
      (sinks t is).entered f,
    )) e tt

-- what the way up from these states has to do with targets below a bound
pub record IsReached (c : Chart) (h : Histories) (d b : ℕ) (ss us : List ℕ) : Type 0 where
  pub zones : (t : ℕ) → contains ss t ≡ true → (x : ℕ) → ZoneOf c d t x → is_below c x b ≡ true
  pub covers : (t : ℕ) → contains ss t ≡ true → (x y : ℕ) → ZoneOf c d t x → Under c x y → is_below c y b ≡ true
      → (ZoneOf c d t y) ⊎ ((u : ℕ) × ((contains us u ≡ true) × (is_below c u y ≡ true)))
  pub seen : (u : ℕ) → contains us u ≡ true → (a : ℕ) → is_below c u a ≡ true → is_below c a b ≡ true
      → (t : ℕ) × ((w : ℕ) ×
      ((contains ss t ≡ true) × ((contains (stands_for c h t) w ≡ true) × (is_below c w a ≡ true))))

-- all that is entered below a bound by these targets
pub record Reaches (c : Chart) (h : Histories) (b : ℕ) (ss : List ℕ) (e f : EntryTriple) : Type 0 where
  pub gains : Gains (IsFilled c (BelowOf c b)) e f
  pub entered : (t : ℕ) → contains ss t ≡ true → AllIn c h t f

target-zone : (c : Chart) (h : Histories) (d b x : ℕ) (ss us : List ℕ) (f : EntryTriple) → IsReached c h d b ss us
    → ((u : ℕ) → contains us u ≡ true → Anchored c b u f) → OfSome c d ss x f → IsFilled c (BelowOf c b) x f
target-zone c h d b x ss us f is anchored of = record {
  inside = is.zones of.0 of.1.0 x of.1.1.inside;
  held = λ y u z. by y u z (is.covers of.0 of.1.0 x y of.1.1.inside u z);
  done = of.1.1.done;
} where
  by : (y : ℕ) → Under c x y → is_below c y b ≡ true
      → (ZoneOf c d of.0 y) ⊎ ((u : ℕ) × ((contains us u ≡ true) × (is_below c u y ≡ true))) → Has f y
  by y u z (inl low) = of.1.1.held y u low
  by y u z (inr from) = anchored from.0 from.1.0 y from.1.1 z

-- entering targets and then the way up fills what is below the bound
pub reaches : (c : Chart) (h : Histories) (d : ℕ) (enters : Enters) (b : ℕ) (ss us : List ℕ) → legal_fault c ≡ None
    → ((t : ℕ) → contains ss t ≡ true → Sinks c h d enters t) → SinkKids c h d enters b → IsReached c h d b ss us
    → (e : EntryTriple)
    → Reaches c h b ss e (each (up c enters b) us (each enters ss e))
reaches c h d enters b ss us legal sinks kids is e = record {
  gains = record {
    more = λ x i. ups.gains.more x (firsts.gains.more x i);
    new = λ x i. by x (ups.gains.new x i);
  };
  entered = λ t i u j. ups.gains.more u (firsts.each t i u j);
} where
  mid : EntryTriple
  mid = each enters ss e

  firsts : GainsEach (OfSome c d ss) (AllIn c h) ss e mid
  firsts = firsts-gain c h d enters ss sinks e

  rises : (u : ℕ) → contains us u ≡ true → Rises c b u mid
  rises u i a j k =
      let from = is.seen u i a j k in
      begun-by c mid from.1.0 a (firsts.each from.0 from.1.1.0 from.1.0 from.1.1.1.0) from.1.1.1.1

  ups : GainsEach (IsFilled c (BelowOf c b)) (Anchored c b) us mid (each (up c enters b) us mid)
  ups = ups-gain c h d enters b us legal kids mid rises

  by : (x : ℕ) → (Has mid x) ⊎ (IsFilled c (BelowOf c b) x (each (up c enters b) us mid))
      → (Has e x) ⊎ (IsFilled c (BelowOf c b) x (each (up c enters b) us mid))
  by x (inr fresh) = inr fresh
  by x (inl old) = elim (firsts.gains.new x old) [
    | inl first ↦ inl first
    | inr of ↦ inr (target-zone c h d b x ss us (each (up c enters b) us mid) is ups.each
        (of.0, (of.1.0, filled-more c (ZoneOf c d of.0) x mid (each (up c enters b) us mid) ups.gains.more of.1.1)))
  ]
