-- Orthogonal targets can be entered together.
use Rattle.std.proofs.Common.{◌≡◌, ◌⊎◌, inl, inr, ℕ, ◌+◌, ◌-◌, ◌<◌, ◌≤◌, ◌==◌, ◌&&◌, nat_eq, Bool, true, false, cond, None, List, [], ◌∷◌, length, map, refl, arith, ap, ap₂, sym, subst, ◌∙◌}
use Rattle.std.proofs.lemmas.Bool.{cases_order}
use Rattle.std.proofs.lemmas.Bool.Decides.{nat_tests}
use Rattle.std.proofs.lemmas.Slice.Eq.{bytes_eq-Decides}
use Rattle.std.specs.List.{AllByRecursion as AllOf, list_all}
use Rattle.std.specs.Option.{option_map_or}
use Rattle.sc_types.specs.Elements.{is_numbered}
use Rattle.sc_types.specs.declared.chart.Chart.{Chart}
use Rattle.sc_types.specs.declared.chart.Tag.{Tag}
use Rattle.sc_types.specs.declared.chart.Tag.TheVariants as tag
use Rattle.sc_types.specs.declared.state_kind.StateKind.TheVariants.{Compound}
use Rattle.sc_law.specs.Nodes.{Path, element, is_same, is_tag, leads_on, parent, tag_of}
use Rattle.sc_law.specs.Tree.{path_of, root, state_count, state_element}
use Rattle.sc_law.specs.Kinds.{is_compound, is_history, is_kind, kind_at}
use Rattle.sc_law.specs.Legality.{all_orthogonal, are_orthogonal, common, is_history_of, legal_fault}
use Rattle.sc_law.specs.Configurations.{parent_of}
use Rattle.sc_tables.proofs.Leads.{leads-begin, leads-from, leads-shorter, parent-begins, parent-length}
use Rattle.sc_tables.proofs.LegalRoots.{root_not_numbered}
use Rattle.sc_tables.proofs.Order.{begins, begins-fork, begins-same, begins-trans}
use Rattle.sc_sets.proofs.Union.Apart.{false-by, same-number}
use Rattle.sc_sets.proofs.Union.FineTargets.{begins-length}
use Rattle.sc_sets.proofs.Union.Forks.{begins-equal, both, not-true}
use Rattle.sc_sets.proofs.Union.LegalDefaults.{history-tag}
use Rattle.sc_sets.proofs.Union.Parents.{past-root}
use Rattle.sc_law_theorems.proofs.Legal.Meets.{HasOne, Pairs, SeatBy, Together, seat}
use Rattle.sc_law_theorems.proofs.Legal.Tree.{IsKid, Under, has-holder}

-- ---- paths

common-left : (p q : Path) → begins (common p q) p ≡ true
common-left [] q = refl
common-left (x ∷ p) [] = refl
common-left (x ∷ p) (y ∷ q) = by (x == y) (common-left p q) where
  by : (v : Bool) → begins (common p q) p ≡ true → begins (cond v (x ∷ common p q) []) (x ∷ p) ≡ true
  by true h = let e : nat_eq x x ≡ true = grind (arith, nat_tests) in ap₂ (λ v w. v && w) e h
  by false h = refl

common-right : (p q : Path) → begins (common p q) q ≡ true
common-right [] q = refl
common-right (x ∷ p) [] = refl
common-right (x ∷ p) (y ∷ q) = by (x == y) refl (common-right p q) where
  by : (v : Bool) → (x == y) ≡ v → begins (common p q) q ≡ true → begins (cond v (x ∷ common p q) []) (y ∷ q) ≡ true
  by true t h = let e : nat_eq x y ≡ true = grind (arith, nat_tests) in ap₂ (λ v w. v && w) e h
  by false t h = refl

-- what begins both begins what they have in common
common-most : (s p q : Path) → begins s p ≡ true → begins s q ≡ true → begins s (common p q) ≡ true
common-most [] p q h i = refl
common-most (x ∷ s) [] q h i = absurd (cc)
common-most (x ∷ s) (y ∷ p) [] h i = absurd (cc)
common-most (x ∷ s) (y ∷ p) (z ∷ q) h i =
    let a = both (nat_eq x y) (begins s p) h in
    let b = both (nat_eq x z) (begins s q) i in
    let e : nat_eq x y ≡ true = a.0 in
    let f : nat_eq x z ≡ true = b.0 in
    let same : (y == z) ≡ true = grind (arith, nat_tests) in
    subst (λ v. begins (x ∷ s) (cond v (y ∷ common p q) []) ≡ true) (sym same)
    (ap₂ (λ v w. v && w) e (common-most s p q a.1 b.1))

-- a path that begins another is that, or is shorter
begins-short : (m p : Path) → begins m p ≡ true → (m ≡ p) ⊎ (length m < length p)
begins-short m p h = elim (cases_order (length m) (length p)) [
  | inl e ↦ inl (begins-equal m p h e)
  | inr o ↦ elim o [
    | inl less ↦ inr less
    | inr more ↦ absurd (let l = begins-length m p h in omega arith)
  ]
]

under-begins : (c : Chart) (x a : ℕ) → Under c x a → begins (path_of c a) (path_of c x) ≡ true
under-begins c x a (inl e) = subst (λ k. begins (path_of c k) (path_of c x) ≡ true) e (begins-same (path_of c x))
under-begins c x a (inr low) = leads-begin (path_of c a) (path_of c x) low

-- ---- orthogonal paths

record HasMeet (c : Chart) (p q : Path) : Type 0 where
  pub same : is_same p q ≡ false
  pub first : leads_on p q ≡ false
  pub second : leads_on q p ≡ false
  pub parallel : is_tag tag.Parallel (tag_of (element c (common p q))) ≡ true
  pub left : is_history_of c (common p q) p ≡ false
  pub right : is_history_of c (common p q) q ≡ false

has-meet : (c : Chart) (p q : Path) → are_orthogonal c p q ≡ true → HasMeet c p q
has-meet c p q h =
    let a = both _ _ h in
    let b = both _ _ a.0 in
    let d = both _ _ b.0 in
    let e = both _ _ d.0 in
    let f = both _ _ e.0 in
    record {
      same = not-true (is_same p q) f.0;
      first = not-true (leads_on p q) f.1;
      second = not-true (leads_on q p) e.1;
      parallel = d.1;
      left = not-true (is_history_of c (common p q) p) b.1;
      right = not-true (is_history_of c (common p q) q) a.1;
    }

same-path : (p : Path) → is_same p p ≡ true
same-path p = (bytes_eq-Decides p p).1 refl

parallel-tag : (t : Tag) → is_tag tag.Parallel t ≡ true → t ≡ tag.Parallel
parallel-tag tag.Parallel h = refl
parallel-tag t h = absurd (cc)

seat-begins : (c : Chart) (u : ℕ) → legal_fault c ≡ None → u < state_count c
    → begins (path_of c (seat c u)) (path_of c u) ≡ true
seat-begins c u legal l = by (is_history c u) where
  by : (v : Bool) → begins (path_of c (SeatBy v c u)) (path_of c u) ≡ true
  by true = subst (λ p. begins p (path_of c u) ≡ true) (sym (has-holder c u legal l).path) (parent-begins (path_of c u))
  by false = begins-same (path_of c u)

-- where the paths of two targets meet is above their seats
meet-short : (c : Chart) (m : Path) (u : ℕ) → legal_fault c ≡ None → u < state_count c → begins m (path_of c u) ≡ true
    → (m ≡ path_of c u → ⊥)
    → is_history_of c m (path_of c u) ≡ false → length m < length (path_of c (seat c u))
meet-short c m u legal l begin other none = by (is_history c u) refl where
  less : length m < length (path_of c u)
  less = elim (begins-short m (path_of c u) begin) [ inl e ↦ absurd (other e) | inr short ↦ short ]

  own : path_of c (parent_of c u) ≡ parent (path_of c u)
  own = (has-holder c u legal l).path

  long : length (parent (path_of c u)) ≡ length (path_of c u) - 1
  long = parent-length (path_of c u)

  not-own : is_history c u ≡ true → m ≡ parent (path_of c u) → ⊥
  not-own history e =
      let here : is_tag tag.History (tag_of (element c (path_of c u))) ≡ true =
      ap (is_tag tag.History) (history-tag (state_element c u) (tag_of (state_element c u)) history) in
      let at : is_same (parent (path_of c u)) m ≡ true = subst (λ q. is_same (parent (path_of c u)) q ≡ true) (sym e)
      (same-path (parent (path_of c u))) in
      let yes : is_history_of c m (path_of c u) ≡ true = ap₂ (λ v w. v && w) here at in cc

  by : (v : Bool) → is_history c u ≡ v → length m < length (path_of c (SeatBy v c u))
  by true history = subst (λ p. length m < length p) (sym own)
      (elim (begins-short m (parent (path_of c u))
      (begins-fork m (parent (path_of c u)) (path_of c u) begin (parent-begins (path_of c u))
      (omega (arith, less, long)))) [
        | inl e ↦ absurd (not-own history e)
        | inr short ↦ short
      ])
  by false state = less

tagged-compound : (c : Chart) (x : ℕ) → tag_of (state_element c x) ≡ tag.Parallel → is_compound c x ≡ true → ⊥
tagged-compound c x e h =
    let no : is_compound c x ≡ false = ap
    (λ (t : Tag). option_map_or (is_kind Compound) (kind_at (state_element c x) t) false) e in cc

-- no state with one active child is where the targets meet
not-at : (c : Chart) (x : ℕ) (m : Path) → legal_fault c ≡ None → is_tag tag.Parallel (tag_of (element c m)) ≡ true
    → HasOne c x → m ≡ path_of c x → ⊥
not-at c x m legal parallel (inl compound) e =
    tagged-compound c x (sym (ap (λ p. tag_of (element c p)) e) ∙ parallel-tag (tag_of (element c m)) parallel) compound
not-at c x m legal parallel (inr top) e =
    let here : m ≡ [] = e ∙ ap (path_of c) top ∙ past-root c (root c) (omega arith) in
    let it : tag_of c.root ≡ tag.Parallel = sym (ap (λ p. tag_of (element c p)) here)
    ∙ parallel-tag (tag_of (element c m)) parallel in
    let no = root_not_numbered c legal in
    let yes : is_numbered (tag_of c.root) ≡ true = ap is_numbered it in cc

-- orthogonal targets can be entered together
pub orthogonal-together : (c : Chart) (u v : ℕ) → legal_fault c ≡ None → u < state_count c → v < state_count c
    → are_orthogonal c (path_of c u) (path_of c v) ≡ true → Together c u v
orthogonal-together c u v legal l m h = inl (record {
  agree = record { same = agree };
  left =
      λ low. (let i = begins-trans (path_of c (seat c v)) (path_of c (seat c u)) (path_of c u)
      (under-begins c (seat c u) (seat c v) low) left in
      crossed (seat c v) i right short-right);
  right =
      λ low. (let i = begins-trans (path_of c (seat c u)) (path_of c (seat c v)) (path_of c v)
      (under-begins c (seat c v) (seat c u) low) right in
      crossed (seat c u) left i short-left);
  first = within (is_history c u) u l;
  second = within (is_history c v) v m;
}) where
  meet : Path
  meet = common (path_of c u) (path_of c v)

  is : HasMeet c (path_of c u) (path_of c v)
  is = has-meet c (path_of c u) (path_of c v) h

  left : begins (path_of c (seat c u)) (path_of c u) ≡ true
  left = seat-begins c u legal l

  right : begins (path_of c (seat c v)) (path_of c v) ≡ true
  right = seat-begins c v legal m

  within : (w : Bool) (t : ℕ) → t < state_count c → SeatBy w c t ≤ state_count c
  within true t k = (has-holder c t legal k).within
  within false t k = omega arith

  -- a path that leads on to none, and is not the other, begins none
  no-begin : (p q : Path) → is_same p q ≡ false → leads_on p q ≡ false → begins p q ≡ true → ⊥
  no-begin p q other none begin = elim (begins-short p q begin) [
    | inl e ↦ (let yes : is_same p q ≡ true = (bytes_eq-Decides p q).1 e in cc)
    | inr short ↦ (let yes = leads-from p q begin short in cc)
  ]

  short-left : length meet < length (path_of c (seat c u))
  short-left = meet-short c meet u legal l (common-left (path_of c u) (path_of c v))
      (λ e. no-begin (path_of c u) (path_of c v) is.same is.first
      (subst (λ p. begins p (path_of c v) ≡ true) e (common-right (path_of c u) (path_of c v)))) is.left

  other-way : is_same (path_of c v) (path_of c u) ≡ true → ⊥
  other-way e =
      let yes : is_same (path_of c u) (path_of c v) ≡ true = (bytes_eq-Decides (path_of c u) (path_of c v)).1
      (sym ((bytes_eq-Decides (path_of c v) (path_of c u)).0 e)) in
      let no = is.same in cc

  short-right : length meet < length (path_of c (seat c v))
  short-right = meet-short c meet v legal m (common-right (path_of c u) (path_of c v))
      (λ e. no-begin (path_of c v) (path_of c u) (false-by (is_same (path_of c v) (path_of c u)) other-way) is.second
      (subst (λ p. begins p (path_of c u) ≡ true) e (common-left (path_of c u) (path_of c v)))) is.right

  crossed : (x : ℕ) → begins (path_of c x) (path_of c u) ≡ true → begins (path_of c x) (path_of c v) ≡ true
      → length meet < length (path_of c x) → ⊥
  crossed x i j short =
      let b = begins-length (path_of c x) meet (common-most (path_of c x) (path_of c u) (path_of c v) i j) in
      omega (arith, b, short)

  agree : (x j k : ℕ) → HasOne c x → x ≤ state_count c → IsKid c x j → IsKid c x k → Under c (seat c u) j
      → Under c (seat c v) k → j ≡ k
  agree x j k one n r s a b = by (begins-short (path_of c x) meet top) where
    on-left : begins (path_of c j) (path_of c u) ≡ true
    on-left = begins-trans (path_of c j) (path_of c (seat c u)) (path_of c u) (under-begins c (seat c u) j a) left

    on-right : begins (path_of c k) (path_of c v) ≡ true
    on-right = begins-trans (path_of c k) (path_of c (seat c v)) (path_of c v) (under-begins c (seat c v) k b) right

    top : begins (path_of c x) meet ≡ true
    top = common-most (path_of c x) (path_of c u) (path_of c v)
        (begins-trans (path_of c x) (path_of c j) (path_of c u) (leads-begin (path_of c x) (path_of c j) r.below)
        on-left)
        (begins-trans (path_of c x) (path_of c k) (path_of c v) (leads-begin (path_of c x) (path_of c k) s.below)
        on-right)

    kid-long : (y : ℕ) → IsKid c x y → length (path_of c y) ≡ length (path_of c x) + 1
    kid-long y kid =
        let up : path_of c x ≡ parent (path_of c y) = ap (path_of c) (sym kid.parent)
        ∙ (has-holder c y legal kid.number).path in
        let same : length (path_of c x) ≡ length (parent (path_of c y)) = ap length up in
        let less = parent-length (path_of c y) in
        let deep = leads-shorter (path_of c x) (path_of c y) kid.below in omega (arith, same, less, deep)

    by : (path_of c x ≡ meet) ⊎ (length (path_of c x) < length meet) → j ≡ k
    by (inl e) = absurd (not-at c x meet legal is.parallel one (sym e))
    by (inr short) =
        let long_j = kid-long j r in
        let long_k = kid-long k s in
        let in_j = begins-fork (path_of c j) meet (path_of c u) on-left (common-left (path_of c u) (path_of c v))
        (omega (arith, long_j, short)) in
        let in_k = begins-fork (path_of c k) meet (path_of c v) on-right (common-right (path_of c u) (path_of c v))
        (omega (arith, long_k, short)) in
        same-number c j k legal (let o = r.number in omega arith) (let o = s.number in omega arith)
        (begins-equal (path_of c j) (path_of c k)
        (begins-fork (path_of c j) (path_of c k) meet in_j in_k (omega (arith, long_j, long_k)))
        (omega (arith, long_j, long_k)))

-- ---- lists of targets

together-each : (c : Chart) (u : ℕ) (us : List ℕ) → legal_fault c ≡ None → u < state_count c
    → AllOf (λ t. t < state_count c) us
    → list_all (are_orthogonal c (path_of c u)) (map (path_of c) us) ≡ true → AllOf (Together c u) us
together-each c u [] legal l all h = tt
together-each c u (v ∷ us) legal l all h =
    let t = both (are_orthogonal c (path_of c u) (path_of c v)) _ h in
    (orthogonal-together c u v legal l all.0 t.0, together-each c u us legal l all.1 t.1)

-- all of several orthogonal targets can be entered together
pub together-all : (c : Chart) (us : List ℕ) → legal_fault c ≡ None → AllOf (λ t. t < state_count c) us
    → all_orthogonal c (map (path_of c) us) ≡ true
    → Pairs (Together c) us
together-all c [] legal all h = tt
together-all c (u ∷ us) legal all h =
    let t = both (list_all (are_orthogonal c (path_of c u)) (map (path_of c) us)) _ h in
    (together-each c u us legal all.0 all.1 t.0, together-all c us legal all.1 t.1)
