-- The last path before another that leads on to it.
use Rattle.std.proofs.Common.{◌≡◌, inl, inr, ℕ, ◌+◌, ◌<◌, ◌≤◌, Bool, true, false, Option, Some, None, List, [], ◌∷◌, ◌++◌, length, take, get_or, length-append, length-take, reverse, cond, unwrap_or, refl, arith, ap, sym, ◌∙◌}
use Rattle.std.proofs.lemmas.Bool.{cases_lt, cases_order}
use Rattle.std.proofs.Math.ListN.{get_or-append}
use Rattle.std.proofs.Math.Seq.{get_or-append_seam}
use Rattle.std.proofs.lemmas.List.{get_or-take, reverse-append}
use Rattle.sc_law.specs.Nodes.{Path, leads_on}
use Rattle.sc_law.specs.Tree.{numbers_where}
use Rattle.sc_law.specs.Configurations.{first_or}
use Rattle.sc_tables.specs.Nearest.{HasParents, IsNearest, IsPlaced, NoneLeads, path_at}
use Rattle.sc_tables.specs.Preorder.{IsPreorder}
use Rattle.sc_tables.proofs.Leads.{leads-between, leads-not-back, leads-not-same, leads-on}
use Rattle.sc_tables.proofs.Numbers.{numbers-more, numbers-none, numbers-same, numbers-until}

-- what is still to be looked at: the paths up to this number
abbrev pub IsNext : List Path → ℕ → Path → Option ℕ → Type 0
IsNext paths count path None = NoneLeads paths 0 count path
IsNext paths count path (Some s) = (s < count) × NoneLeads paths (s + 1) count path

abbrev pub left : Option ℕ → ℕ
left None = 0
left (Some s) = s + 1

not-true : (v : Bool) → (v ≡ true → ⊥) → v ≡ false
not-true true h = absurd (h refl)
not-true false h = refl

-- where a path does not lead on to another, none of those between it and the last that leads on to it does
pub none-between : (paths : List Path) (count s from : ℕ) (path : Path) → IsPlaced paths count path → s < count
    → leads_on (path_at paths s) path ≡ false → NoneLeads paths (s + 1) count path → NoneLeads paths from s (path_at paths s)
    → NoneLeads paths from count path
none-between paths count s from path placed l fails later earlier k f u = elim (cases_order k s) [
  | inl e ↦ ap (λ n. leads_on (path_at paths n) path) e ∙ fails
  | inr o ↦ elim o [
    | inl below ↦ not-true _ (λ h. by below h)
    | inr above ↦ later k (omega arith) u
  ]
] where
  by : k < s → leads_on (path_at paths k) path ≡ true → ⊥
  by below h =
      let is : leads_on (path_at paths k) (path_at paths s) ≡ true =
      leads-between (path_at paths k) (path_at paths s) path (placed.order.pairs k s [] below (omega arith)) (placed.earlier s l) h in
      let other : leads_on (path_at paths k) (path_at paths s) ≡ false = earlier k f below in
      cc

-- the parent of a path that does not lead on is looked at next
pub next-parent : (paths : List Path) (count s : ℕ) (path : Path) (o : Option ℕ) → IsPlaced paths count path → s < count
    → leads_on (path_at paths s) path ≡ false → NoneLeads paths (s + 1) count path → IsNearest paths s (path_at paths s) o → IsNext paths count path o
next-parent paths count s path None placed l fails later parent = none-between paths count s 0 path placed l fails later parent
next-parent paths count s path (Some p) placed l fails later parent =
    (omega (arith, parent.0), none-between paths count s (p + 1) path placed l fails later parent.2)

-- ---- ancestors

first-last : (d p : ℕ) (ns : List ℕ) → reverse (ns ++ p ∷ []) ≡ p ∷ reverse ns
first-last d p ns = reverse-append ns (p ∷ [])

none-after : (paths : List Path) (s k : ℕ) → IsPreorder paths → s ≤ k → k < length paths → leads_on (path_at paths k) (path_at paths s) ≡ false
none-after paths s k order l u = elim (cases_order k s) [
  | inl e ↦ ap (λ n. leads_on (path_at paths n) (path_at paths s)) e ∙ leads-not-same (path_at paths s)
  | inr o ↦ elim o [
    | inl below ↦ absurd (omega arith)
    | inr above ↦ leads-not-back (path_at paths s) (path_at paths k) (order.pairs s k [] above u)
  ]
]

-- the numbers of those that lead on to the path at a number
abbrev pub above_numbers : List Path → Path → List ℕ
above_numbers paths path = numbers_where (λ p. leads_on p path) 0 paths

-- without a parent there are none
pub none-above : (paths : List Path) (s : ℕ) → IsPreorder paths → s < length paths → IsNearest paths s (path_at paths s) None
    → above_numbers paths (path_at paths s) ≡ []
none-above paths s order l h = numbers-none _ 0 paths (record { each = by }) where
  by : (k : ℕ) → k < length paths → leads_on (path_at paths k) (path_at paths s) ≡ false
  by k u = elim (cases_order k s) [
    | inl e ↦ none-after paths s k order (omega arith) u
    | inr o ↦ elim o [ inl below ↦ h k (omega arith) below | inr above ↦ none-after paths s k order (omega arith) u ]
  ]

-- the parent is the last of them, and those before it are those of the parent
pub parent-above : (paths : List Path) (s p : ℕ) → IsPreorder paths → s < length paths → IsNearest paths s (path_at paths s) (Some p)
    → above_numbers paths (path_at paths s) ≡ above_numbers paths (path_at paths p) ++ p ∷ []
parent-above paths s p order l h =
    let f = λ (q : Path). leads_on q (path_at paths s) in
    let g = λ (q : Path). leads_on q (path_at paths p) in
    let within : p < length paths = omega (arith, h.0) in
    numbers-until f paths (p + 1) (omega arith) later
    ∙ numbers-more f paths p within
    ∙ ap (λ v. numbers_where f 0 (take p paths) ++ cond v (p ∷ []) []) h.1
    ∙ ap (λ ns. ns ++ p ∷ []) (numbers-same f g 0 (take p paths) same ∙ sym (numbers-until g paths p (omega arith) (λ k a u. none-after paths p k order a u)))
  where
    later : (k : ℕ) → p + 1 ≤ k → k < length paths → leads_on (path_at paths k) (path_at paths s) ≡ false
    later k a u = elim (cases_order k s) [
      | inl e ↦ none-after paths s k order (omega arith) u
      | inr o ↦ elim o [ inl below ↦ h.2 k a below | inr above ↦ none-after paths s k order (omega arith) u ]
    ]

    agree : (k : ℕ) → k < p → leads_on (path_at paths k) (path_at paths s) ≡ leads_on (path_at paths k) (path_at paths p)
    agree k u = by (leads_on (path_at paths k) (path_at paths s)) (leads_on (path_at paths k) (path_at paths p)) refl refl where
      by : (v w : Bool) → leads_on (path_at paths k) (path_at paths s) ≡ v → leads_on (path_at paths k) (path_at paths p) ≡ w → v ≡ w
      by true true a b = refl
      by false false a b = refl
      by true false a b =
          let is = leads-between (path_at paths k) (path_at paths p) (path_at paths s)
          (order.pairs k p [] u (omega (arith, h.0))) (order.pairs p s [] h.0 l) a in absurd (cc)
      by false true a b =
          let is = leads-on (path_at paths k) (path_at paths p) (path_at paths s) b h.1 in absurd (cc)

    same : (k : ℕ) → k < length (take p paths) → leads_on (get_or (take p paths) k []) (path_at paths s) ≡ leads_on (get_or (take p paths) k []) (path_at paths p)
    same k u =
        let long = length-take p paths in
        let short : k < p = omega (arith, long) in
        rw (get_or-take p paths k [] short) (agree k short)

-- the first of the ancestors
pub nearest-first : (paths : List Path) (s root : ℕ) (o : Option ℕ) → IsPreorder paths → s < length paths → IsNearest paths s (path_at paths s) o
    → first_or root (reverse (above_numbers paths (path_at paths s))) ≡ unwrap_or o root
nearest-first paths s root None order l h = ap (λ ns. first_or root (reverse ns)) (none-above paths s order l h)
nearest-first paths s root (Some p) order l h =
    ap (λ ns. first_or root (reverse ns)) (parent-above paths s p order l h)
    ∙ ap (first_or root) (first-last root p (above_numbers paths (path_at paths p)))

-- ---- lists of parents

pub record Parents (paths : List Path) (s : ℕ) (parents : List (Option ℕ)) : Type 0 where
  pub size : length parents ≡ s
  pub has : HasParents paths parents

-- one parent more
pub parents-more : (paths : List Path) (old new : List (Option ℕ)) (o : Option ℕ) (s : ℕ) → length old ≡ s → s < length paths
    → HasParents paths old → IsNearest paths s (path_at paths s) o → new ≡ old ++ o ∷ [] → Parents paths (s + 1) new
parents-more paths old new o s size l h found e = record { size = long; has = record { size = omega (arith, long); each = by } } where
  long : length new ≡ s + 1
  long = ap length e ∙ length-append old (o ∷ []) ∙ omega (arith, size)

  at : (k : ℕ) → k < s + 1 → IsNearest paths k (path_at paths k) (get_or (old ++ o ∷ []) k None)
  at k u = elim (cases_lt k s) [
    | inl below ↦ rw (get_or-append old (o ∷ []) None k (omega (arith, size))) (h.each k (omega (arith, size)))
    | inr g ↦ (let same : k ≡ length old = omega (arith, size) in let same_s : k ≡ s = omega arith in
        rw (same_s, sym size, get_or-append_seam old o [] None) (rw size found))
  ]

  by : (k : ℕ) → k < length new → IsNearest paths k (path_at paths k) (get_or new k None)
  by k u = rw e (at k (omega (arith, long)))
