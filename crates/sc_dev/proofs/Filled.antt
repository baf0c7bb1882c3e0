-- A part whose pending ranges are filled is one of the images that a stop may leave.
use Rattle.std.proofs.Common.{◌≡◌, ℕ, zero, suc, ◌%◌, List, [], ◌∷◌, ◌++◌, length, get_or, refl, sym, ◌∙◌, subst, arith, length-append}
use Rattle.sc_base.specs.Folds.{each}
use Rattle.sc_dev.specs.declared.mem_part.Range.{Range}
use Rattle.sc_dev.specs.Disks.{IsTorn}
use Rattle.sc_dev.specs.Histories.{Done, passed, wrote, lost, synced, put_over, bytes_after, LeavesAfter, pending, repeated, fill_range}
use Rattle.sc_dev.specs.Ranges.{Alike, alike-piece, alike-put_over, alike-same, torn-put_over}

-- steps over a list and one item more
pub each-push : {A S : Type 0} (step : A → S → S) (xs : List A) (x : A) (s : S) → each step (xs ++ x ∷ []) s ≡ step x (each step xs s)
each-push step [] x s = refl
each-push step (y ∷ xs) x s = each-push step xs x (step y s)

pub length-repeated : (fill : List ℕ) (n : ℕ) → length (repeated fill n) ≡ n
length-repeated fill zero = refl
length-repeated fill (suc n) = omega (arith, length-append (repeated fill n) (get_or fill (n % length fill) 0 ∷ []), length-repeated fill n)

module _ (fill : List ℕ) where
  alike-filled : (at n : ℕ) (ranges : List Range) (xs ys : List ℕ) → Alike at n xs ys → Alike at n (each (fill_range fill) ranges xs) (each (fill_range fill) ranges ys)
  alike-filled at n [] xs ys a = a
  alike-filled at n (r ∷ ranges) xs ys a =
      alike-filled at n ranges (fill_range fill r xs) (fill_range fill r ys) (alike-put_over at n r.at (repeated fill r.size) xs ys a)

  torn-filled : (at n : ℕ) (bytes : List ℕ) → IsTorn at n bytes (put_over at (repeated fill n) bytes)
  torn-filled at n bytes = subst (λ (m : ℕ). IsTorn at m bytes (put_over at (repeated fill n) bytes)) (length-repeated fill n) (torn-put_over at (repeated fill n) bytes)

  -- the image may be left
  pub filled-leaves : (first : List ℕ) (calls : List Done) → LeavesAfter first calls (each (fill_range fill) (pending calls) (bytes_after first calls))
  filled-leaves first [] = refl
  filled-leaves first (passed ∷ calls) = filled-leaves first calls
  filled-leaves first (wrote at piece ∷ calls) =
      let n = length piece in
      let r : Range = record { at = at; size = n } in
      let earlier = each (fill_range fill) (pending calls) (bytes_after first calls) in
      let outside : Alike at n (put_over at piece (bytes_after first calls)) (bytes_after first calls) = alike-piece at piece (bytes_after first calls) in
      let alike = alike-filled at n (pending calls) (put_over at piece (bytes_after first calls)) (bytes_after first calls) outside in
      let sized = subst (λ (m : ℕ). Alike at m (each (fill_range fill) (pending calls) (put_over at piece (bytes_after first calls))) earlier) (sym (length-repeated fill n)) alike in
      let same : each (fill_range fill) (pending calls ++ r ∷ []) (put_over at piece (bytes_after first calls)) ≡ put_over at (repeated fill n) earlier =
      each-push (fill_range fill) (pending calls) r (put_over at piece (bytes_after first calls)) ∙ alike-same at (repeated fill n) _ earlier sized in
      (earlier, filled-leaves first calls, subst (λ (c : List ℕ). IsTorn at n earlier c) (sym same) (torn-filled at n earlier))
  filled-leaves first (lost at n ∷ calls) =
      let r : Range = record { at = at; size = n } in
      let earlier = each (fill_range fill) (pending calls) (bytes_after first calls) in
      let same : each (fill_range fill) (pending calls ++ r ∷ []) (bytes_after first calls) ≡ put_over at (repeated fill n) earlier = each-push (fill_range fill) (pending calls) r (bytes_after first calls) in
      (earlier, filled-leaves first calls, subst (λ (c : List ℕ). IsTorn at n earlier c) (sym same) (torn-filled at n earlier))
  filled-leaves first (synced ∷ calls) = refl
