-- What holds of each item in front, and of the next one.
use Rattle.std.proofs.Common.{◌≡◌, ℕ, zero, suc, ◌+◌, ◌<◌, List, [], ◌∷◌, length, take, get_or, subst, arith, add-one}
use Rattle.std.specs.List.{AllByRecursion}

module _ {X : Type 0} (P : X → Type 0) where
  next : (xs : List X) (i : ℕ) (x : X) → x ≡ get_or xs i x → i < length xs → AllByRecursion P (take i xs) → P x
      → AllByRecursion P (take (suc i) xs)
  next [] i x is within all here = absurd (omega arith)
  next (y ∷ ys) zero x is within all here = (subst P is here, tt)
  next (y ∷ ys) (suc i) x is within all here = (all.0, next ys i x is (omega arith) all.1 here)

  -- one item more
  pub one_more : (xs : List X) (i : ℕ) (x : X) → x ≡ get_or xs i x → i < length xs → AllByRecursion P (take i xs) → P x
      → AllByRecursion P (take (i + 1) xs)
  one_more xs i x is within all here = rw add-one (next xs i x is within all here)
