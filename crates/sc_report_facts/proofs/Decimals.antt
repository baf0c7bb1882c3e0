-- Where a number ends, and which number it is.
use Rattle.std.proofs.Common.{◌≡◌, ℕ, ℤ, pos, negsuc, zero, suc, ◌+◌, ◌/◌, ◌%◌, ◌<◌, ◌^◌, ◌==◌, Bool, true, false, cond, List, [], ◌∷◌, ◌++◌, nat_lt, nat_le, refl, ap, sym, arith, decimal}
use Rattle.std.specs.Fmt.{digit_glyph, digits_onto, digits, signed_decimal}
use Rattle.std.specs.List.{list_all}
use Rattle.std.proofs.lemmas.Bool.{and_from, le-leb, lt-ltb, ltb-true, cond-true}
use Rattle.std.proofs.lemmas.Fmt.{decimal_injective}
use Rattle.sc_base.specs.Text.{is_digit, is_int}
use Rattle.sc_report_facts.proofs.Cutting.{Stops, SameCut, cut}

digit_first : (d : ℕ) → d < 10 → is_digit (digit_glyph false d) ≡ true
digit_first d h =
    let glyph : digit_glyph false d ≡ 48 + d = cond-true (nat_lt d 10) _ _ (lt-ltb d 10 h) in
    rw glyph (and_from (nat_le 48 (48 + d)) (nat_le (48 + d) 57) (le-leb 48 (48 + d) (omega arith))
    (le-leb (48 + d) 57 (omega arith)))

either : (P : List ℕ → Type 0) (b : Bool) (x y : List ℕ) → P x → P y → P (cond b x y)
either P true x y p q = p
either P false x y p q = q

-- what each further digit keeps, a number has with its digits
onto_keeps : (P : List ℕ → Type 0) → ((d : ℕ) (ds : List ℕ) → d < 10 → P ds → P (digit_glyph false d ∷ ds))
    → (k n : ℕ) (ds : List ℕ) → P ds → P (digits_onto k 10 false n ds)
onto_keeps P keeps zero n ds p = p
onto_keeps P keeps (suc k) n ds p =
    let more = keeps (n % 10) ds (omega arith) p in
    either P (n / 10 == 0) _ _ more (onto_keeps P keeps k (n / 10) (digit_glyph false (n % 10) ∷ ds) more)

-- a text that begins with one of these bytes
abbrev pub Begins : (ℕ → Bool) → List ℕ → Type 0
Begins goes [] = ⊥
Begins goes (b ∷ rest) = goes b ≡ true

first_onto : (k n : ℕ) → Begins is_digit (digits_onto (suc k) 10 false n [])
first_onto k n =
    let first = digit_first (n % 10) (omega arith) in
    either (Begins is_digit) (n / 10 == 0) _ _ first
    (onto_keeps (Begins is_digit) (λ d ds low p. digit_first d low) k (n / 10) (digit_glyph false (n % 10) ∷ []) first)

-- a decimal number has digits alone
pub decimal_digits : (n : ℕ) → list_all is_digit (decimal n) ≡ true
unfolding digits
decimal_digits n =
    onto_keeps (λ ds. list_all is_digit ds ≡ true) (λ d ds low all. and_from _ _ (digit_first d low) all) 64 n [] refl

-- and one at least
pub decimal_begins : (n : ℕ) → Begins is_digit (decimal n)
unfolding digits
decimal_begins n = first_onto 63 n

-- a number ends where the digits end
pub decimal_cut : (m n : ℕ) (r s : List ℕ) → m < 2 ^ 64 → n < 2 ^ 64 → Stops is_digit r → Stops is_digit s
    → decimal m ++ r ≡ decimal n ++ s → SameCut m n r s
decimal_cut m n r s p q ends stops e =
    let same = cut is_digit (decimal m) (decimal n) r s (decimal_digits m) (decimal_digits n) ends stops e in
    record { front = decimal_injective m n p q same.front; rest = same.rest }

-- digits do not begin with `-`
no_minus : (n : ℕ) (r s : List ℕ) → decimal n ++ r ≡ 45 ∷ s → ⊥
no_minus n r s e = begins_not (decimal n) (decimal_begins n) e
  where
    begins_not : (ds : List ℕ) → Begins is_digit ds → ds ++ r ≡ 45 ∷ s → ⊥
    begins_not [] h e = h
    begins_not (d ∷ ds) h e =
        let same : d ≡ 45 = cc in
        let not_digit : is_digit 45 ≡ false = refl in
        cc (ap is_digit same, not_digit)

-- and so does a signed one
pub signed_cut : (y z : ℤ) (r s : List ℕ) → is_int y ≡ true → is_int z ≡ true → Stops is_digit r → Stops is_digit s
    → signed_decimal y ++ r ≡ signed_decimal z ++ s → SameCut y z r s
signed_cut (pos m) (pos n) r s p q ends stops e =
    let low = ltb-true m (2 ^ 63) p in
    let high = ltb-true n (2 ^ 63) q in
    let same = decimal_cut m n r s (omega arith) (omega arith) ends stops e in
    record { front = ap pos same.front; rest = same.rest }
signed_cut (pos m) (negsuc n) r s p q ends stops e = absurd (no_minus m r _ e)
signed_cut (negsuc m) (pos n) r s p q ends stops e = absurd (no_minus n s _ (sym e))
signed_cut (negsuc m) (negsuc n) r s p q ends stops e =
    let low = ltb-true m (2 ^ 63) p in
    let high = ltb-true n (2 ^ 63) q in
    let later : decimal (suc m) ++ r ≡ decimal (suc n) ++ s = cc in
    let same = decimal_cut (suc m) (suc n) r s (omega arith) (omega arith) ends stops later in
    record { front = ap negsuc (omega (arith, same.front)); rest = same.rest }
