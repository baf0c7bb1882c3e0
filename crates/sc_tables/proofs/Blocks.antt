-- What stands below a path stands together.
use Rattle.std.proofs.Common.{◌≡◌, inl, inr, ℕ, ◌+◌, ◌<◌, ◌≤◌, ◌&&◌, not, Bool, true, false, List, [], ◌∷◌, length, refl, arith, ap, ◌∙◌}
use Rattle.std.proofs.lemmas.Bool.{cases_order}
use Rattle.std.proofs.lemmas.Slice.Eq.{bytes_eq-Decides}
use Rattle.sc_law.specs.Nodes.{Path, leads_on, parent, is_root, is_same}
use Rattle.sc_tables.specs.Blocks.{IsBlock, is_child_path}
use Rattle.sc_tables.specs.Nearest.{path_at}
use Rattle.sc_tables.specs.Preorder.{IsPreorder}
use Rattle.sc_tables.proofs.Leads.{leads-between, leads-from, leads-not-back, leads-not-same, parent-leads}

not-true : (v : Bool) → (v ≡ true → ⊥) → v ≡ false
not-true true h = absurd (h refl)
not-true false h = refl

-- below a state stand those right behind it
pub block-of : (paths : List Path) (s : ℕ) → IsPreorder paths → s < length paths → IsBlock paths (s + 1) (path_at paths s)
block-of paths s order l = record { within = omega arith; before = before; behind = behind } where
  before : (k : ℕ) → k < s + 1 → leads_on (path_at paths s) (path_at paths k) ≡ false
  before k u = elim (cases_order k s) [
    | inl e ↦ ap (λ n. leads_on (path_at paths s) (path_at paths n)) e ∙ leads-not-same (path_at paths s)
    | inr o ↦ elim o [
      | inl below ↦ leads-not-back (path_at paths k) (path_at paths s) (order.pairs k s [] below l)
      | inr above ↦ absurd (omega arith)
    ]
  ]

  behind : (j k : ℕ) → s + 1 ≤ j → j < k → k < length paths → leads_on (path_at paths s) (path_at paths j) ≡ false
      → leads_on (path_at paths s) (path_at paths k) ≡ false
  behind j k a b u fails = not-true _ (λ h.
      let is = leads-between (path_at paths s) (path_at paths j) (path_at paths k)
      (order.pairs s j [] (omega arith) (omega arith)) (order.pairs j k [] b u) h in cc)

-- below the root stand all
pub block-of-root : (paths : List Path) → ((k : ℕ) → k < length paths → 0 < length (path_at paths k)) → IsBlock paths 0 []
block-of-root paths some = record {
  within = omega arith;
  before = λ k u. absurd (omega arith);
  behind = λ j k a b u fails. absurd (let is = leads-from [] (path_at paths j) refl (some j (omega arith)) in cc);
}

some_length : (p : Path) → is_root p ≡ false → 0 < length p
some_length [] e = absurd (cc)
some_length (x ∷ p) e = omega arith

-- a child's path leads on from that of its parent
pub child-leads : (above path : Path) → leads_on above path ≡ false → is_child_path above path ≡ false
child-leads above path fails = not-true _ (λ h. by (is_root path) (is_same (parent path) above) refl refl h) where
  by : (v w : Bool) → is_root path ≡ v → is_same (parent path) above ≡ w → (not v && w) ≡ true → ⊥
  by true w e f h = cc
  by false false e f h = cc
  by false true e f h =
      let same : parent path ≡ above = (bytes_eq-Decides (parent path) above).0 f in
      let some : 0 < length path = some_length path e in
      let is : leads_on (parent path) path ≡ true = parent-leads path some in
      cc
