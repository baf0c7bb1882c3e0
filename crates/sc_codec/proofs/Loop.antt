-- Reading so many things one behind the other, as a loop does.
use Rattle.std.proofs.Common.{◌≡◌, ℕ, suc, ◌-◌, ◌+◌, ◌≤◌, ◌<◌, List, [], ◌∷◌, ◌++◌, Option, Some, None, refl, sym, ap, ◌∙◌, append_assoc, arith}
use Rattle.std.proofs.lemmas.List.{append-nil}
use Rattle.sc_codec.specs.declared.fault.CodecFault.{CodecFault}
use Rattle.sc_codec.specs.declared.fault.CodecFault.TheVariants as faults
use Rattle.sc_codec.specs.Reading.{Reader, ◌>>=◌, Fails, made, many_from}

-- what was read before, and what is still read
abbrev pub with_front : {A : Type 0} → List A → Option (List A × List ℕ) → Option (List A × List ℕ)
with_front front found = made (λ xs. front ++ xs) found

regroup : {A : Type 0} (front : List A) (x : A) (found : Option (List A × List ℕ))
    → with_front front (found >>= λ y. Some (x ∷ y.0, y.1)) ≡ with_front (front ++ x ∷ []) found
regroup front x (Some y) = ap (λ xs. Some (xs, y.1)) (sym (append_assoc front (x ∷ []) y.0))
regroup front x None = refl

-- one thing more was read
pub goes_on : {A : Type 0} (read : Reader A) (front : List A) (count i : ℕ) (bytes : List ℕ) (x : A) (behind : List ℕ)
    (whole : Option (List A × List ℕ))
    → i < count → read bytes ≡ Some (x, behind) → with_front front (many_from read (count - i) bytes) ≡ whole
    → with_front (front ++ x ∷ []) (many_from read (count - (i + 1)) behind) ≡ whole
unfolding many_from
goes_on read front count i bytes x behind whole lt h so_far =
    let k : count - i ≡ suc (count - (i + 1)) = omega arith in
    let one : with_front front (many_from read (count - i) bytes)
    ≡ with_front (front ++ x ∷ []) (many_from read (count - (i + 1)) behind) =
    rw (k, h) (regroup front x (many_from read (count - (i + 1)) behind)) in
    sym one ∙ so_far

-- nothing is read of all where one of them is not read
pub ends : {A : Type 0} (read : Reader A) (e : CodecFault) (front : List A) (count i : ℕ) (bytes : List ℕ)
    (whole : Option (List A × List ℕ))
    → i < count → Fails e (read bytes) → with_front front (many_from read (count - i) bytes) ≡ whole → Fails e whole
unfolding many_from
ends read faults.NoMemory front count i bytes whole lt h so_far = tt
ends read faults.NotCommand front count i bytes whole lt h so_far =
    let k : count - i ≡ suc (count - (i + 1)) = omega arith in
    let one : with_front front (many_from read (count - i) bytes) ≡ None = rw (k, h) refl in
    sym so_far ∙ one

-- all were read
pub is_done : {A : Type 0} (read : Reader A) (front : List A) (count i : ℕ) (bytes : List ℕ)
    (whole : Option (List A × List ℕ))
    → count ≤ i → with_front front (many_from read (count - i) bytes) ≡ whole → whole ≡ Some (front, bytes)
unfolding many_from
is_done read front count i bytes whole le so_far =
    let k : count - i ≡ 0 = omega arith in
    let one : with_front front (many_from read (count - i) bytes) ≡ Some (front, bytes) =
    rw k (ap (λ xs. Some (xs, bytes)) (append-nil front)) in
    sym so_far ∙ one
