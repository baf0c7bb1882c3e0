-- Where a text ends, before what stands behind it.
use Rattle.std.proofs.Common.{◌≡◌, ℕ, Bool, true, false, List, [], ◌∷◌, ◌++◌, get_or, refl, ap, ap₂, sym, ◌∙◌, ◌==◌}
use Rattle.std.specs.List.{list_all}
use Rattle.std.proofs.lemmas.Bool.{and_parts, true≢false, eq-eqb}

-- a text that does not begin with one of these bytes
abbrev pub Stops : (ℕ → Bool) → List ℕ → Type 0
Stops goes [] = Unit {0}
Stops goes (b ∷ rest) = goes b ≡ false

abbrev first_byte : List ℕ → ℕ
first_byte text = get_or text 0 0

-- texts are equal only where they begin alike
pub differ : {x y : List ℕ} → x ≡ y → first_byte x == first_byte y ≡ false → ⊥
differ {x} {y} e other = true≢false (sym (eq-eqb (first_byte x) (first_byte y) (ap first_byte e)) ∙ other)

-- what two texts write in front is the same, and so is what stands behind it
pub record SameCut {A : Type 0} (x y : A) (r s : List ℕ) : Type 0 where
  pub front : x ≡ y
  pub rest : r ≡ s

-- bytes of one kind end where they do not go on
pub cut : (goes : ℕ → Bool) (x y r s : List ℕ) → list_all goes x ≡ true → list_all goes y ≡ true → Stops goes r
    → Stops goes s → x ++ r ≡ y ++ s → SameCut x y r s
cut goes [] [] r s p q ends stops e = record { front = refl; rest = e }
cut goes [] (c ∷ y) [] s p q ends stops e = absurd cc
cut goes [] (c ∷ y) (d ∷ r) s p q ends stops e =
    let own = (and_parts (goes c) (list_all goes y) q).0 in
    let same : d ≡ c = cc in
    absurd (cc (own, ends, same))
cut goes (b ∷ x) [] r [] p q ends stops e = absurd cc
cut goes (b ∷ x) [] r (d ∷ s) p q ends stops e =
    let own = (and_parts (goes b) (list_all goes x) p).0 in
    let same : b ≡ d = cc in
    absurd (cc (own, stops, same))
cut goes (b ∷ x) (c ∷ y) r s p q ends stops e =
    let same : b ≡ c = cc in
    let later : x ++ r ≡ y ++ s = cc in
    let left = and_parts (goes b) (list_all goes x) p in
    let right = and_parts (goes c) (list_all goes y) q in
    let behind = cut goes x y r s left.1 right.1 ends stops later in
    record { front = ap₂ (λ n ns. n ∷ ns) same behind.front; rest = behind.rest }
