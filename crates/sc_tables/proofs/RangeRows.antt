-- Lists that hold what a function gives at each number from 0 on.
use Rattle.std.proofs.Common.{◌≡◌, ℕ, ◌+◌, ◌<◌, List, [], ◌∷◌, ◌++◌, length, map, get_or, refl, arith, ap, sym, ◌∙◌}
use Rattle.std.specs.List.{range_with_len}
use Rattle.std.proofs.lemmas.List.FromFn.{get_or-map-range_with_len, length-map-range_with_len, map-range_with_len_more}

module _ {X : Type 0} where
  pub list-more : (f : ℕ → X) (old new : List X) (n : ℕ) (x : X) → old ≡ map f (range_with_len 0 n) → new ≡ old ++ x ∷ [] → x ≡ f n
      → new ≡ map f (range_with_len 0 (n + 1))
  list-more f old new n x e g h =
      g ∙ ap (λ xs. xs ++ x ∷ []) e ∙ ap (λ y. map f (range_with_len 0 n) ++ y ∷ []) h ∙ sym (map-range_with_len_more f 0 n n (omega arith))

  pub list-done : (f : ℕ → X) (xs : List X) (n m : ℕ) → xs ≡ map f (range_with_len 0 n) → n ≡ m → xs ≡ map f (range_with_len 0 m)
  list-done f xs n m e h = e ∙ ap (λ k. map f (range_with_len 0 k)) h

  pub list-length : (f : ℕ → X) (xs : List X) (n : ℕ) → xs ≡ map f (range_with_len 0 n) → length xs ≡ n
  list-length f xs n e = ap length e ∙ length-map-range_with_len f 0 n

  -- what stands at a number
  pub list-at : (f : ℕ → X) (xs : List X) (n s : ℕ) (x : X) → xs ≡ map f (range_with_len 0 n) → s < n → x ≡ get_or xs s x → x ≡ f s
  list-at f xs n s x e l h = h ∙ ap (λ ys. get_or ys s x) e ∙ get_or-map-range_with_len f 0 n s s x l (omega arith)

  -- functions that agree give the same list
  pub map-same : (f g : ℕ → X) → ((n : ℕ) → f n ≡ g n) → (ns : List ℕ) → map f ns ≡ map g ns
  map-same f g h [] = refl
  map-same f g h (n ∷ ns) = ap (λ x. x ∷ map f ns) (h n) ∙ ap (λ xs. g n ∷ xs) (map-same f g h ns)
