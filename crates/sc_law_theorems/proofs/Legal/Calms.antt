-- Entering a state or history adds only what can be active together with all that was entered.
use Rattle.std.proofs.Common.{◌≡◌, ◌⊎◌, inl, inr, ℕ, ◌<◌, ◌≤◌, zero, suc, Bool, true, false, cond, Option, Some, None, unwrap_or, List, [], ◌∷◌, filter, refl, arith, ap, sym, subst, ◌∙◌}
use Rattle.std.specs.List.{AllByRecursion as AllOf}
use Rattle.sc_base.specs.Ascending.{contains, with_number}
use Rattle.sc_base.specs.Folds.{each}
use Rattle.sc_types.specs.declared.chart.Chart.{Chart}
use Rattle.sc_law.specs.Tree.{ancestors, is_below, state_count}
use Rattle.sc_law.specs.Kinds.{is_compound, is_history, is_parallel}
use Rattle.sc_law.specs.Legality.{legal_fault}
use Rattle.sc_law.specs.Configurations.{children, defaults, parent_of}
use Rattle.sc_law.specs.Sets.{Histories, stands_for, value_of_history}
use Rattle.sc_law.specs.Entry.{EntryTriple, Enters, added, bound_of, by_default, down, is_begun, noted, reach, recall, region, regions, settle_in, through, up}
use Rattle.sc_sets.proofs.Union.Above.{below-number}
use Rattle.sc_sets.proofs.Union.Alone.{all-both, noted-keeps}
use Rattle.sc_sets.proofs.Union.Below.{below-within}
use Rattle.sc_sets.proofs.Union.Forks.{is-tree}
use Rattle.sc_sets.proofs.Union.Kept.{each-has}
use Rattle.sc_sets.proofs.Union.Recorded.{contains-filter}
use Rattle.sc_law_theorems.proofs.Legal.Again.{Steady, steady-down, steady-through, steady-up}
use Rattle.sc_law_theorems.proofs.Legal.Downs.{IsRecall, IsTarget, Ready, default-is, default-target, down-sinks, history-zone, is-recall, not-both, recalled-is, stands-below, state-target, state-zone}
use Rattle.sc_law_theorems.proofs.Legal.Fills.{Rises, Sinks, ZoneOf, stands-has}
use Rattle.sc_law_theorems.proofs.Legal.Gains.{Has, HasMore, IsFilled, begun-by, begun-more, begun-some}
use Rattle.sc_law_theorems.proofs.Legal.Lawful.{IsLawful}
use Rattle.sc_law_theorems.proofs.Legal.Lists.{has-added, has-cases, has-first, has-later, with-cases}
use Rattle.sc_law_theorems.proofs.Legal.Meets.{Agree, HasOne, Pairs, SeatBy, Together, agree-back, agree-down, agree-self, agree-under, agree-up, apart-agree, apart-none, seat}
use Rattle.sc_law_theorems.proofs.Legal.Together.{defaults-together, stands-together}
use Rattle.sc_law_theorems.proofs.Legal.Tree.{IsKid, Under, above-on, ancestor-is, below-under, between, has-holder, kid-is, not-back, not-own, number-below, same-kid}
use Rattle.sc_law_theorems.proofs.Legal.Weights.{lighter-below, lighter-recalled, weight}

-- any two entered states can be active together
abbrev pub IsCalm : Chart → EntryTriple → Type 0
IsCalm c e = (y z : ℕ) → Has e y → Has e z → Agree c y z

-- a state can be active together with all that was entered, and nothing below it was
abbrev pub IsClear : Chart → EntryTriple → ℕ → Type 0
IsClear c e w = (z : ℕ) → Has e z → (Agree c w z) × (is_below c z w ≡ true → ⊥)

-- a step that keeps an entry calm
abbrev pub Calms : Chart → Enters → ℕ → Type 0
Calms c enters t = (e : EntryTriple) → IsCalm c e → IsClear c e (seat c t) → IsCalm c (enters t e)

seat-state : (c : Chart) (t : ℕ) → is_history c t ≡ false → seat c t ≡ t
seat-state c t e = ap (λ v. SeatBy v c t) e

seat-history : (c : Chart) (t : ℕ) → is_history c t ≡ true → seat c t ≡ parent_of c t
seat-history c t e = ap (λ v. SeatBy v c t) e

-- what a target enters is in the subtree of its seat
zone-seat : (c : Chart) (d t x : ℕ) → ZoneOf c d t x → Under c x (seat c t)
zone-seat c d t x z = by (is_history c t) (is_below c d (parent_of c t)) refl refl where
  by : (v w : Bool) → is_history c t ≡ v → is_below c d (parent_of c t) ≡ w → Under c x (seat c t)
  by false w e f = subst (λ s. Under c x s) (sym (seat-state c t e)) (state-zone c d t x e z)
  by true true e f = subst (λ s. Under c x s) (sym (seat-history c t e))
      (inr (above-on c x d (parent_of c t) (history-zone c d t x d e (ap (λ v. cond v d (parent_of c t)) f) z) f))
  by true false e f = subst (λ s. Under c x s) (sym (seat-history c t e))
      (inr (history-zone c d t x (parent_of c t) e (ap (λ v. cond v d (parent_of c t)) f) z))

-- ---- clear states

-- what is in the subtree of a clear state is clear
pub clear-under : (c : Chart) (e : EntryTriple) (s w : ℕ) → legal_fault c ≡ None → s ≤ state_count c → Under c w s
    → IsClear c e s → IsClear c e w
clear-under c e s w legal m low clear z i =
    let is = clear z i in (agree-down c s z w legal m low is.1 is.0, (λ deep. is.1 (below-under c z w s deep low)))

-- once the state is entered too
clear-added : (c : Chart) (e : EntryTriple) (s w : ℕ) → legal_fault c ≡ None → s ≤ state_count c → Under c w s
    → IsClear c e s → IsClear c (added s e) w
clear-added c e s w legal m low clear z i = elim (with-cases s z e.states i) [
  | inl same ↦ subst (λ k. (Agree c w k) × (is_below c k w ≡ true → ⊥)) (sym same)
      (agree-under c w s legal low, over low)
  | inr old ↦ clear-under c e s w legal m low clear z old
] where
  over : Under c w s → is_below c s w ≡ true → ⊥
  over (inl e) h = not-own c s (subst (λ k. is_below c s k ≡ true) e h)
  over (inr h) i = not-back c w s h i

-- a state that agrees with all may be added
calm-added : (c : Chart) (e : EntryTriple) (s : ℕ) → legal_fault c ≡ None → IsCalm c e
    → ((z : ℕ) → Has e z → Agree c s z) → IsCalm c (added s e)
calm-added c e s legal calm all y z i j = by (with-cases s y e.states i) (with-cases s z e.states j) where
  by : ((y ≡ s) ⊎ Has e y) → ((z ≡ s) ⊎ Has e z) → Agree c y z
  by (inl p) (inl q) = subst (λ k. Agree c k z) (sym p) (subst (λ k. Agree c s k) (sym q) (agree-self c s legal))
  by (inl p) (inr q) = subst (λ k. Agree c k z) (sym p) (all z q)
  by (inr p) (inl q) = subst (λ k. Agree c y k) (sym q) (agree-back c s y (all y p))
  by (inr p) (inr q) = calm y z p q

-- ---- lists of steps

keeps-each : (before : EntryTriple → Type 0) (step : Enters) (xs : List ℕ)
    → ((s : ℕ) → contains xs s ≡ true → (e : EntryTriple) → before e → before (step s e)) → (e : EntryTriple) → before e
    → before (each step xs e)
keeps-each before step [] one e is = is
keeps-each before step (x ∷ xs) one e is =
    keeps-each before step xs (λ s i. one s (has-later x s xs i)) (step x e) (one x (has-first x xs) e is)

-- ---- regions

-- a region of an entered parallel in which nothing is begun is clear
region-clear : (c : Chart) (a k : ℕ) (e : EntryTriple) → legal_fault c ≡ None → a < state_count c
    → is_parallel c a ≡ true → IsKid c a k → IsCalm c e → Has e a
    → is_begun c e k ≡ false → IsClear c e k
region-clear c a k e legal m parallel kid calm has none z i = (by (is_below c z a) refl, out) where
  out : is_below c z k ≡ true → ⊥
  out low = let yes = begun-by c e z k i low in cc

  not-one : (x : ℕ) → HasOne c x → x ≡ a → ⊥
  not-one x (inl compound) e = not-both c a (subst (λ n. is_compound c n ≡ true) e compound) parallel
  not-one x (inr top) e = (let l : a ≡ state_count c = sym e ∙ top in omega arith)

  inner : is_below c z a ≡ true → (x j l : ℕ) → HasOne c x → x ≤ state_count c → IsKid c x j → IsKid c x l → Under c k j
      → Under c z l → j ≡ l
  inner low x j l one n r s (inl same) h =
      absurd (not-one x one (sym r.parent ∙ ap (parent_of c) (sym same) ∙ kid.parent))
  inner low x j l one n r s (inr deep) h =
      same-kid c x j l z legal n r s
      (inr (below-under c z a j low
      (subst (λ p. Under c p j) kid.parent
      (between c k j legal kid.number (let b = r.number in omega arith) deep)))) h

  by : (v : Bool) → is_below c z a ≡ v → Agree c k z
  by true low = record { same = inner low }
  by false high = agree-down c a z k legal (omega arith) (inr kid.below) (λ low. absurd (cc)) (calm a z has i)

calm-regions : (c : Chart) (a : ℕ) (enters : Enters) → legal_fault c ≡ None → a < state_count c → is_parallel c a ≡ true
    → ((s : ℕ) → Steady (enters s)) → ((k : ℕ) → contains (children c a) k ≡ true → Calms c enters k)
    → (e : EntryTriple) → IsCalm c e → Has e a
    → IsCalm c (regions c enters a e)
calm-regions c a enters legal m parallel steady calms e calm has =
    (keeps-each (λ f. (IsCalm c f) × Has f a) (region c enters) (children c a) one e (calm, has)).0 where
      one : (k : ℕ) → contains (children c a) k ≡ true → (f : EntryTriple) → (IsCalm c f) × Has f a
          → (IsCalm c (region c enters k f)) × Has (region c enters k f) a
      one k i f is = by (is_begun c f k) refl where
        kid : IsKid c a k
        kid = kid-is c a k legal (omega arith) i

        by : (v : Bool) → is_begun c f k ≡ v
            → (IsCalm c ((cond v (λ (x : EntryTriple). x) (enters k)) f))
            × Has ((cond v (λ (x : EntryTriple). x) (enters k)) f) a
        by true t = is
        by false t = (
          calms k i f is.0 (subst (λ s. IsClear c f s) (sym (seat-state c k kid.state))
              (region-clear c a k f legal m parallel kid is.0 is.1 t)),
          (steady k).grows f a is.1,
        )

-- ---- upward

calm-through : (c : Chart) (a : ℕ) (enters : Enters) → legal_fault c ≡ None → a < state_count c
    → ((s : ℕ) → Steady (enters s)) → ((k : ℕ) → contains (children c a) k ≡ true → Calms c enters k)
    → (e : EntryTriple) → IsCalm c e
    → is_begun c e a ≡ true → IsCalm c (through c enters a e)
calm-through c a enters legal m steady calms e calm begun = by (is_parallel c a) refl where
  some : (x : ℕ) × ((Has e x) × (is_below c x a ≡ true))
  some = begun-some c e a begun

  first : IsCalm c (added a e)
  first = calm-added c e a legal calm (λ z i. agree-up c some.0 z a (inr some.1.1) (calm some.0 z some.1.0 i))

  by : (v : Bool) → is_parallel c a ≡ v → IsCalm c ((cond v (regions c enters a) (λ (x : EntryTriple). x)) (added a e))
  by true t = calm-regions c a enters legal m t steady calms (added a e) first (has-added a e.states)
  by false t = first

-- steps that keep calm for all children of the states below a bound
abbrev pub CalmKids : Chart → Enters → ℕ → Type 0
CalmKids c enters b = (a k : ℕ) → is_below c a b ≡ true → contains (children c a) k ≡ true → Calms c enters k

calm-up : (c : Chart) (b s : ℕ) (enters : Enters) → legal_fault c ≡ None → ((s : ℕ) → Steady (enters s))
    → CalmKids c enters b
    → (e : EntryTriple) → IsCalm c e → Rises c b s e → IsCalm c (up c enters b s e)
calm-up c b s enters legal steady kids e calm rises =
    (keeps-each (λ f. (IsCalm c f) × Rises c b s f) (through c enters) (filter (λ a. is_below c a b) (ancestors c s))
    one e (calm, rises)).0 where
      one : (a : ℕ) → contains (filter (λ a. is_below c a b) (ancestors c s)) a ≡ true → (f : EntryTriple)
          → (IsCalm c f) × Rises c b s f
          → (IsCalm c (through c enters a f)) × Rises c b s (through c enters a f)
      one a i f is =
          let parts = contains-filter (λ a. is_below c a b) a (ancestors c s) i in
          let above = ancestor-is c s a parts.0 in (
            calm-through c a enters legal above.0 steady (λ k j. kids a k parts.1 j) f is.0 (is.1 a above.1 parts.1),
            λ x j k. begun-more c f (through c enters a f) x ((steady-through c enters a steady).grows f) (is.1 x j k),
          )

calm-ups : (c : Chart) (b : ℕ) (us : List ℕ) (enters : Enters) → legal_fault c ≡ None → ((s : ℕ) → Steady (enters s))
    → CalmKids c enters b
    → (e : EntryTriple) → IsCalm c e → ((u : ℕ) → contains us u ≡ true → Rises c b u e)
    → IsCalm c (each (up c enters b) us e)
calm-ups c b us enters legal steady kids e calm rises =
    (keeps-each (λ f. (IsCalm c f) × ((u : ℕ) → contains us u ≡ true → Rises c b u f)) (up c enters b) us
    (λ u i f is. (
      calm-up c b u enters legal steady kids f is.0 (is.1 u i),
      λ w j x k l. begun-more c f (up c enters b u f) x ((steady-up c enters b u steady).grows f) (is.1 w j x k l),
    )) e (calm, rises)).0

-- ---- targets

-- a target that was entered, or may be
abbrev IsOpen : Chart → Enters → EntryTriple → ℕ → Type 0
IsOpen c enters e t = (IsClear c e (seat c t)) ⊎ ((g : EntryTriple) × HasMore (enters t g) e)

-- a target stays open where another is entered that can be active together with it
open-more : (c : Chart) (h : Histories) (d s t : ℕ) (enters : Enters) (e : EntryTriple) → legal_fault c ≡ None
    → Sinks c h d enters s → Steady (enters s) → Together c s t
    → IsOpen c enters e t → IsOpen c enters (enters s e) t
open-more c h d s t enters e legal sinks steady (inl apart) (inl clear) =
    inl (λ z i. by z ((sinks.gains e).new z i)) where
      by : (z : ℕ) → (Has e z) ⊎ (IsFilled c (ZoneOf c d s) z (enters s e))
          → (Agree c (seat c t) z) × (is_below c z (seat c t) ≡ true → ⊥)
      by z (inl old) = clear z old
      by z (inr fresh) = (let low = zone-seat c d s z fresh.inside in (
        agree-back c z (seat c t) (apart-agree c (seat c s) (seat c t) z (seat c t) legal apart low (inl refl)),
        λ deep. apart-none c (seat c s) (seat c t) z legal apart low (inr deep),
      ))
open-more c h d s t enters e legal sinks steady (inr same) o =
    inr (e, subst (λ k. HasMore (enters k e) (enters s e)) same (λ x i. i))
open-more c h d s t enters e legal sinks steady (inl apart) (inr was) = inr (was.0, λ x i. steady.grows e x (was.1 x i))

calm-firsts : (c : Chart) (h : Histories) (d : ℕ) (ss : List ℕ) (enters : Enters) → legal_fault c ≡ None
    → ((t : ℕ) → contains ss t ≡ true → Sinks c h d enters t) → ((s : ℕ) → Steady (enters s))
    → ((t : ℕ) → contains ss t ≡ true → Calms c enters t)
    → Pairs (Together c) ss → (e : EntryTriple) → IsCalm c e → AllOf (IsOpen c enters e) ss
    → IsCalm c (each enters ss e)
calm-firsts c h d [] enters legal sinks steady calms pairs e calm all = calm
calm-firsts c h d (s ∷ ss) enters legal sinks steady calms pairs e calm all =
    calm-firsts c h d ss enters legal (λ t i. sinks t (has-later s t ss i)) steady
    (λ t i. calms t (has-later s t ss i)) pairs.1 (enters s e) (next all.0)
    (all-both (Together c s) (IsOpen c enters e) (IsOpen c enters (enters s e)) ss
    (λ t both may. open-more c h d s t enters e legal (sinks s (has-first s ss)) (steady s) both may) pairs.0 all.1)
  where
    next : IsOpen c enters e s → IsCalm c (enters s e)
    next (inl clear) = calms s (has-first s ss) e calm clear
    next (inr was) = λ y z i j. calm y z ((steady s).again was.0 e was.1 y i) ((steady s).again was.0 e was.1 z j)

all-clear : (c : Chart) (enters : Enters) (e : EntryTriple) (ss : List ℕ)
    → ((t : ℕ) → contains ss t ≡ true → IsClear c e (seat c t)) → AllOf (IsOpen c enters e) ss
all-clear c enters e [] clear = tt
all-clear c enters e (s ∷ ss) clear =
    (inl (clear s (has-first s ss)), all-clear c enters e ss (λ t i. clear t (has-later s t ss i)))

-- what some targets enter, with what is above these states, keeps calm
pub calm-targets : (c : Chart) (h : Histories) (d b : ℕ) (ss us : List ℕ) (enters : Enters) → legal_fault c ≡ None
    → ((t : ℕ) → contains ss t ≡ true → Sinks c h d enters t) → ((s : ℕ) → Steady (enters s))
    → ((t : ℕ) → contains ss t ≡ true → Calms c enters t)
    → CalmKids c enters b → Pairs (Together c) ss
    → ((u : ℕ) → contains us u ≡ true → (a : ℕ) → is_below c u a ≡ true → is_below c a b ≡ true
    → (t : ℕ) × ((w : ℕ) ×
    ((contains ss t ≡ true) × ((contains (stands_for c h t) w ≡ true) × (is_below c w a ≡ true)))))
    → (e : EntryTriple) → IsCalm c e → ((t : ℕ) → contains ss t ≡ true → IsClear c e (seat c t))
    → IsCalm c (each (up c enters b) us (each enters ss e))
calm-targets c h d b ss us enters legal sinks steady calms kids pairs seen e calm clear =
    calm-ups c b us enters legal steady kids (each enters ss e)
    (calm-firsts c h d ss enters legal sinks steady calms pairs e calm (all-clear c enters e ss clear))
    (λ u i a j k. (let from = seen u i a j k in
    begun-by c (each enters ss e) from.1.0 a
    (in-each from.0 from.1.0 ss e from.1.1.0 (λ f. (sinks from.0 from.1.1.0).entered f from.1.0 from.1.1.1.0))
    from.1.1.1.1))
  where
    grow : (xs : List ℕ) (f : EntryTriple) (x : ℕ) → Has f x → Has (each enters xs f) x
    grow [] f x i = i
    grow (s ∷ xs) f x i = grow xs (enters s f) x ((steady s).grows f x i)

    in-each : (t w : ℕ) (xs : List ℕ) (f : EntryTriple) → contains xs t ≡ true
        → ((g : EntryTriple) → Has (enters t g) w) → Has (each enters xs f) w
    in-each t w [] f i has = absurd (cc)
    in-each t w (s ∷ xs) f i has = elim (has-cases s t xs i) [
      | inl same ↦ grow xs (enters s f) w (subst (λ k. Has (enters k f) w) (sym same) (has f))
      | inr later ↦ in-each t w xs (enters s f) later has
    ]

-- ---- entering a state

-- a step that keeps calm for what needs no more than so many levels
abbrev pub Quiet : Chart → Histories → ℕ → ℕ → Enters → Type 0
Quiet c h d n enters = (t : ℕ) → IsTarget c h d t → weight c t ≤ n → Calms c enters t

calm-settle : (c : Chart) (h : Histories) (d n s : ℕ) (enters : Enters) → IsLawful c h → Ready c h d n enters
    → ((s : ℕ) → Steady (enters s)) → Quiet c h d n enters
    → is_history c s ≡ false → is_below c s d ≡ true → weight c s ≤ suc n → (e : EntryTriple) → IsCalm c e
    → IsClear c e s → IsCalm c (settle_in c enters s e)
calm-settle c h d n s enters lawful ready steady quiet state below light e calm clear =
    by (is_compound c s) (is_parallel c s) refl refl where
      number : s < state_count c
      number = below-number c s d below

      within : s ≤ state_count c
      within = number-below c s d below

      lighter : (t : ℕ) → is_below c t s ≡ true → weight c t ≤ n
      lighter t low = let l = lighter-below c t s lawful.legal within state low in omega arith

      calm-kid : (a k : ℕ) → Under c a s → contains (children c a) k ≡ true → Calms c enters k
      calm-kid a k low i =
          let kid = kid-is c a k lawful.legal (let m = under-number a low in omega arith) i in
          let deep = below-under c k a s kid.below low in
          quiet k (state-target c h d k kid.state (above-on c k s d deep below)) (lighter k deep)
        where
          under-number : (x : ℕ) → Under c x s → x ≤ state_count c
          under-number x (inl e) = let n = within in omega (arith, e)
          under-number x (inr j) = number-below c x s j

      started : EntryTriple
      started = record (added s e) { defaults = with_number s (added s e).defaults }

      first : IsCalm c (added s e)
      first = calm-added c e s lawful.legal calm (λ z i. (clear z i).0)

      seat-under : (t : ℕ) → t < state_count c → is_below c t s ≡ true → Under c (seat c t) s
      seat-under t l low = at (is_history c t) refl where
        at : (v : Bool) → is_history c t ≡ v → Under c (seat c t) s
        at true f = subst (λ k. Under c k s) (sym (seat-history c t f)) (between c t s lawful.legal l within low)
        at false f = subst (λ k. Under c k s) (sym (seat-state c t f)) (inr low)

      by : (v w : Bool) → is_compound c s ≡ v → is_parallel c s ≡ w
          → IsCalm c
          ((cond v (by_default c enters s) (cond w (regions c enters s) (λ (x : EntryTriple). x))) (added s e))
      by true w i j =
          calm-targets c h d s (defaults c s) (defaults c s) enters lawful.legal
          (λ t k. ready t (default-target c h d s t lawful i below k) (lighter t (default-is c s t lawful.legal i k).1))
          steady
          (λ t k. quiet t (default-target c h d s t lawful i below k) (lighter t (default-is c s t lawful.legal i k).1))
          (λ a k low m. calm-kid a k (inr low) m) (defaults-together c s lawful.legal (inl i))
          (λ u k a high low. (let r = stands-below c h u a lawful (number-below c a s low)
          (default-is c s u lawful.legal i k).0 high in (u, (r.0, (k, (r.1.0, r.1.1))))))
          started first
          (λ t k. (let is = default-is c s t lawful.legal i k in clear-added c e s (seat c t) lawful.legal within
          (seat-under t is.0 is.1) clear))
      by false true i j =
          calm-regions c s enters lawful.legal number j steady (λ k m. calm-kid s k (inl refl) m) (added s e) first
          (has-added s e.states)
      by false false i j = first

-- ---- entering a history

calm-recall : (c : Chart) (h : Histories) (d n t : ℕ) (enters : Enters) → IsLawful c h → Ready c h d n enters
    → ((s : ℕ) → Steady (enters s)) → Quiet c h d n enters
    → IsTarget c h d t → is_history c t ≡ true → weight c t ≤ suc n → (e : EntryTriple) → IsCalm c e
    → IsClear c e (parent_of c t)
    → IsCalm c (reach c enters (bound_of c d t) (stands_for c h t) e)
calm-recall c h d n t enters lawful ready steady quiet target history light e calm clear =
    calm-targets c h d (bound_of c d t) (stands_for c h t) (stands_for c h t) enters lawful.legal
    (λ u i. (let is = recall.states u i in let l = lights u is.0 is.1 in ready u (state-target c h d u is.0 l.0) l.1))
    steady
    (λ u i. (let is = recall.states u i in let l = lights u is.0 is.1 in quiet u (state-target c h d u is.0 l.0) l.1))
    (λ a k low i. (let kid = kid-is c a k lawful.legal (number-below c a (bound_of c d t) low) i in
    let l = lights k kid.state (above-on c k a (bound_of c d t) kid.below low) in
    quiet k (state-target c h d k kid.state l.0) l.1))
    (stands-together c h t lawful target.number history)
    (λ u i a high low. (u, (u, (i, (stands-has c h u (recall.states u i).0, high)))))
    e calm
    (λ u i. (let is = recalled-is c h t u lawful target.number history i in
    subst (λ k. IsClear c e k) (sym (seat-state c u is.0))
    (clear-under c e (parent_of c t) u lawful.legal (has-holder c t lawful.legal target.number).within
    (inr is.1) clear)))
  where
    recall : IsRecall c h d t (bound_of c d t)
    recall = is-recall c h d t lawful target history

    lights : (k : ℕ) → is_history c k ≡ false → is_below c k (bound_of c d t) ≡ true
        → (is_below c k d ≡ true) × (weight c k ≤ n)
    lights k state low = (
      below-within c (is-tree c) d (bound_of c d t) k recall.within low,
      (let l = lighter-recalled c k t lawful.legal target.number history state
          (below-under c k (bound_of c d t) (parent_of c t) low recall.under) in omega arith),
    )

calm-recalled : (c : Chart) (h : Histories) (d t : ℕ) (enters : Enters) (o : Option (List ℕ)) (p : EntryTriple → Type 0)
    → is_history c t ≡ true
    → ((e : EntryTriple) → p e → IsCalm c (reach c enters (bound_of c d t) (stands_for c h t) e))
    → ((e : EntryTriple) → p e → p (noted t e))
    → value_of_history h t ≡ o → (e : EntryTriple) → p e → IsCalm c (recall c d enters t o e)
calm-recalled c h d t enters None p history all keep value e is =
    let same : stands_for c h t ≡ defaults c t = rw history (ap (λ q. unwrap_or q (defaults c t)) value) in
    subst (λ us. IsCalm c (reach c enters (bound_of c d t) us (noted t e))) same (all (noted t e) (keep e is))
calm-recalled c h d t enters (Some ss) p history all keep value e is =
    let same : stands_for c h t ≡ ss = rw history (ap (λ q. unwrap_or q (defaults c t)) value) in
    subst (λ us. IsCalm c (reach c enters (bound_of c d t) us e)) same (all e is)

down-calm : (c : Chart) (h : Histories) (d n t : ℕ) → IsLawful c h → Quiet c h d n (down c h d n) → IsTarget c h d t
    → weight c t ≤ suc n → Calms c (down c h d (suc n)) t
unfolding down
down-calm c h d n t lawful quiet target light e calm clear = by (is_history c t) refl where
  low : is_history c t ≡ false → is_below c t d ≡ true
  low state =
      (each-has (λ x. (is_history c x ≡ false) × (is_below c x d ≡ true)) t (stands_for c h t) target.fine.each
      (stands-has c h t state)).1

  before : EntryTriple → Type 0
  before f = (IsCalm c f) × IsClear c f (parent_of c t)

  keep : (f : EntryTriple) → before f → before (noted t f)
  keep f is = (
    λ y z i j. is.0 y z (subst (λ ss. contains ss y ≡ true) (noted-keeps t f) i)
        (subst (λ ss. contains ss z ≡ true) (noted-keeps t f) j),
    λ z i. is.1 z (subst (λ ss. contains ss z ≡ true) (noted-keeps t f) i),
  )

  by : (v : Bool) → is_history c t ≡ v
      → IsCalm c ((cond v (recall c d (down c h d n) t (value_of_history h t)) (settle_in c (down c h d n) t)) e)
  by true history = calm-recalled c h d t (down c h d n) (value_of_history h t) before history
      (λ f is. calm-recall c h d n t (down c h d n) lawful (down-sinks c h d n lawful)
      (steady-down c h d n) quiet target history light f is.0 is.1)
      keep refl e (calm, subst (λ s. IsClear c e s) (seat-history c t history) clear)
  by false state =
      calm-settle c h d n t (down c h d n) lawful (down-sinks c h d n lawful) (steady-down c h d n) quiet state
      (low state) light e calm
      (subst (λ s. IsClear c e s) (seat-state c t state) clear)

-- each level of the recursion keeps calm
pub down-calms : (c : Chart) (h : Histories) (d n : ℕ) → IsLawful c h → Quiet c h d n (down c h d n)
unfolding down
down-calms c h d zero lawful t target light = λ e calm clear. calm
down-calms c h d (suc n) lawful t target light = down-calm c h d n t lawful (down-calms c h d n lawful) target light
