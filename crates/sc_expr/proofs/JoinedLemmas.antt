-- Texts with commas between, written one after the other.
use Rattle.std.proofs.Common.{◌≡◌, ℕ, zero, suc, ◌+◌, ◌<◌, ◌≤◌, List, [], ◌∷◌, ◌++◌, length, take, get_or, map, append_assoc, sym, ap, ◌∙◌, arith}
use Rattle.std.proofs.lemmas.List.{map_more}
use Rattle.sc_types.specs.Values.{joined}

joined_push : (t : List ℕ) (ts : List (List ℕ)) (u : List ℕ) → joined (t ∷ ts ++ u ∷ []) ≡ joined (t ∷ ts) ++ 44 ∷ u
joined_push t [] u = append_assoc t (44 ∷ []) u
joined_push t (s ∷ ts) u = ap (λ text. t ++ 44 ∷ [] ++ text) (joined_push s ts u) ∙ sym (append_assoc (t ++ 44 ∷ []) (joined (s ∷ ts)) (44 ∷ u))

module _ {X : Type 0} (f : X → List ℕ) where
  -- the first item
  pub joined_first : (xs : List X) (i : ℕ) (x : X) → x ≡ get_or xs i x → i < length xs → i ≤ 0
      → joined (map f (take (i + 1) xs)) ≡ joined (map f (take i xs)) ++ f x
  joined_first [] i x is within low = absurd (omega arith)
  joined_first (y ∷ ys) zero x is within low = ap f (sym is)
  joined_first (y ∷ ys) (suc i) x is within low = absurd (omega arith)

  -- any other, behind a comma
  pub joined_next : (xs : List X) (i : ℕ) (x : X) → x ≡ get_or xs i x → i < length xs → 0 < i
      → joined (map f (take (i + 1) xs)) ≡ joined (map f (take i xs)) ++ 44 ∷ f x
  joined_next [] i x is within high = absurd (omega arith)
  joined_next (y ∷ ys) zero x is within high = absurd (omega arith)
  joined_next (y ∷ ys) (suc i) x is within high =
      ap joined (map_more f (y ∷ ys) (suc i) x within)
      ∙ joined_push (f y) (map f (take i ys)) (f (get_or ys i x))
      ∙ ap (λ z. joined (map f (take (suc i) (y ∷ ys))) ++ 44 ∷ f z) (sym is)
