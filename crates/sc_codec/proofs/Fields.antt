-- What a reader takes from the front is spelled so, and what is spelled so is read, whatever follows.
use Rattle.std.proofs.Common.{◌≡◌, ℕ, suc, ◌+◌, ◌^◌, ◌<◌, ◌≤◌, Bool, true, false, cond, nat_le, ℤ, pos, negsuc, List, [], ◌∷◌, ◌++◌, length, get_or, take, drop, Option, Some, None, refl, sym, ap, ap₂, subst, ◌∙◌, append_assoc, arith, option_map}
use Rattle.std.specs.Prelude.{FitsSigned}
use Rattle.std.specs.Int.{w64, cast_signed, cast_unsigned}
use Rattle.std.proofs.lemmas.Bool.{leb-true, le-leb}
use Rattle.std.proofs.lemmas.List.{take_at, drop_at, take-append-drop, length-append, length-take-le, get_or-drop}
use Rattle.std.proofs.lemmas.Option.{some_pair_parts, cond_some}
use Rattle.std.proofs.lemmas.Int.{to_z-of_z, of_z-to_z}
use Rattle.byteorder.specs.Numbers.{big_from-lt}
use Rattle.sc_codec.specs.Reading.{Reader, ◌>>=◌, from_front, number_from, part_from, sized_from, made}
use Rattle.sc_frame.proofs.FieldLemmas.{length-number_field, number_field-of_number, number_at-put}
use Rattle.sc_frame.specs.Fields.{number_field, field_number, int_field, StandsAt, number_at, int_at}

-- each number is a byte
abbrev pub IsBytes : List ℕ → Type 0
IsBytes bytes = (k : ℕ) → get_or bytes k 0 < 256

-- the bytes behind the first so many are bytes
pub IsBytes-drop : (n : ℕ) (bytes : List ℕ) → IsBytes bytes → IsBytes (drop n bytes)
IsBytes-drop n bytes h k = rw (get_or-drop n bytes k 0) (h (n + k))

-- the bytes are a field and the rest
pub record Taken (bytes field rest : List ℕ) : Type 0 where
  pub parts : bytes ≡ field ++ rest
  pub left : IsBytes rest

-- What the reader takes is spelled so, and is of these things.
pub record Takes {A : Type 0} (read : Reader A) (field : A → List ℕ) (Fits : A → Type 0) : Type 0 where
  pub of : (bytes : List ℕ) (x : A) (rest : List ℕ) → IsBytes bytes → read bytes ≡ Some (x, rest)
      → Taken bytes (field x) rest × Fits x

-- What is spelled so is read, whatever follows.
pub record Again {A : Type 0} (read : Reader A) (field : A → List ℕ) (Fits : A → Type 0) : Type 0 where
  pub of : (x : A) (rest : List ℕ) → Fits x → read (field x ++ rest) ≡ Some (x, rest)

-- ---- steps

-- the value of a step that was made
pub bind_some : {A B : Type 0} (o : Option A) (f : A → Option B) (y : B) → (o >>= f) ≡ Some y
    → (x : A) × (o ≡ Some x) × (f x ≡ Some y)
bind_some (Some x) f y e = (x, refl, e)
bind_some None f y e = absurd cc

-- what was read, and what is made of it
pub made_some : {A B : Type 0} (make : A → B) (o : Option (A × List ℕ)) (y : B) (rest : List ℕ)
    → made make o ≡ Some (y, rest)
    → (x : A) × (o ≡ Some (x, rest)) × (make x ≡ y)
made_some make (Some x) y rest e =
    let p = some_pair_parts (make x.0) y x.1 rest e in (x.0, ap (λ r. Some (x.0, r)) p.1, p.0)
made_some make None y rest e = absurd cc

-- a field behind a field
pub taken_then : (bytes first behind second rest : List ℕ) → Taken bytes first behind → Taken behind second rest
    → Taken bytes (first ++ second) rest
taken_then bytes first behind second rest p q = record {
  parts = p.parts ∙ ap (λ (xs : List ℕ). first ++ xs) q.parts ∙ sym (append_assoc first second rest);
  left = q.left;
}

-- a field behind the byte of a kind
pub taken_kind : (kind : ℕ) (bytes held rest whole : List ℕ) → Taken bytes held rest → whole ≡ kind ∷ held
    → Taken (kind ∷ bytes) whole rest
taken_kind kind bytes held rest whole t e = record {
  parts = ap (λ (xs : List ℕ). kind ∷ xs) t.parts ∙ ap (λ (w : List ℕ). w ++ rest) (sym e);
  left = t.left;
}

-- the bytes behind the first are bytes
pub IsBytes-behind : (b : ℕ) (bytes : List ℕ) → IsBytes (b ∷ bytes) → IsBytes bytes
IsBytes-behind b bytes h k = h (suc k)

-- ---- numbers

number_fits : (size : ℕ) (bytes : List ℕ) → IsBytes bytes → field_number size bytes < 256 ^ size
unfolding field_number
number_fits size bytes h = big_from-lt 0 size bytes h

number_parts : (size n place : ℕ) (bytes piece rest : List ℕ) (b : Bool)
    → from_front bytes (cond b (Some (field_number size piece, place)) None) ≡ Some (n, rest)
    → (b ≡ true) × (field_number size piece ≡ n) × (drop place bytes ≡ rest)
number_parts size n place bytes piece rest true e =
    let p = some_pair_parts (field_number size piece) n (drop place bytes) rest e in (refl, p.0, p.1)
number_parts size n place bytes piece rest false e = absurd cc

number_takes : (size : ℕ) (bytes : List ℕ) (n : ℕ) (rest : List ℕ) → IsBytes bytes
    → number_from size bytes ≡ Some (n, rest)
    → Taken bytes (number_field size n) rest × (n < 256 ^ size)
unfolding number_from
number_takes size bytes n rest h e =
    let p = number_parts size n (0 + size) bytes (drop 0 bytes) rest (nat_le (0 + size) (length bytes)) e in
    let long : 0 + size ≤ length bytes = leb-true _ _ p.0 in
    let room : size ≤ length bytes = omega arith in
    let none : 0 + size ≡ size = omega arith in
    let behind : drop size bytes ≡ rest = ap (λ k. drop k bytes) (sym none) ∙ p.2 in
    let front : number_field size n ≡ take size bytes = ap (number_field size) (sym p.1)
    ∙ number_field-of_number size bytes room h in (
      record {
        parts = sym (take-append-drop size bytes) ∙ ap₂ (λ (xs ys : List ℕ). xs ++ ys) (sym front) behind;
        left = subst IsBytes behind (IsBytes-drop size bytes h);
      },
      let P : ℕ → Type 0 = λ m. m < 256 ^ size in subst P p.1 (number_fits size bytes h),
    )

number_again : (size n : ℕ) (rest : List ℕ) → n < 256 ^ size → number_from size (number_field size n ++ rest)
    ≡ Some (n, rest)
unfolding number_from
number_again size n rest h =
    let piece = number_field size n ++ rest in
    let stands : StandsAt (number_field size n) (number_field size n ++ rest) 0 =
    record { before = []; after = rest; whole = refl; place = refl } in
    let none : 0 + size ≡ size = omega arith in
    let behind : drop (0 + size) (number_field size n ++ rest) ≡ rest =
    ap (λ k. drop k (number_field size n ++ rest)) none
    ∙ drop_at (number_field size n) rest size (length-number_field size n) in
    ap (from_front piece) (number_at-put size n 0 piece h stands) ∙ ap (λ r. Some (n, r)) behind

-- what is taken as a number of so many bytes
pub takes_number : (size : ℕ) → Takes (number_from size) (number_field size) (λ n. n < 256 ^ size)
takes_number size = record { of = number_takes size }

-- a number that fits so many bytes is read again
pub again_number : (size : ℕ) → Again (number_from size) (number_field size) (λ n. n < 256 ^ size)
again_number size = record { of = number_again size }

-- ---- signed numbers

-- the signed number in front
abbrev pub signed_from : Reader ℤ
signed_from bytes = from_front bytes (int_at bytes 0)

signed_parts : (z : ℤ) (bytes rest : List ℕ) (o : Option (ℕ × ℕ))
    → from_front bytes (option_map (λ f. (cast_signed w64 f.0, f.1)) o) ≡ Some (z, rest)
    → (n : ℕ) × (from_front bytes o ≡ Some (n, rest)) × (cast_signed w64 n ≡ z)
signed_parts z bytes rest (Some f) e =
    let p = some_pair_parts (cast_signed w64 f.0) z (drop f.1 bytes) rest e in (f.0, ap (λ r. Some (f.0, r)) p.1, p.0)
signed_parts z bytes rest None e = absurd cc

signed_takes : (bytes : List ℕ) (z : ℤ) (rest : List ℕ) → IsBytes bytes → signed_from bytes ≡ Some (z, rest)
    → Taken bytes (int_field z) rest × Unit {0}
unfolding number_from
signed_takes bytes z rest h e =
    let p = signed_parts z bytes rest (number_at 8 bytes 0) e in
    let t = number_takes 8 bytes p.0 rest h p.1 in
    let same : p.0 ≡ cast_unsigned w64 z = sym (of_z-to_z w64 p.0 t.1) ∙ ap (cast_unsigned w64) p.2 in
    (subst (λ n. Taken bytes (number_field 8 n) rest) same t.0, tt)

cast_fits : (z : ℤ) → FitsSigned w64 z → cast_unsigned w64 z < 2 ^ 64
cast_fits (pos n) h = omega (arith, h)
cast_fits (negsuc n) h = omega (arith, h)

signed_front : (z : ℤ) (bytes rest : List ℕ) (o : Option (ℕ × ℕ)) → FitsSigned w64 z
    → from_front bytes o ≡ Some (cast_unsigned w64 z, rest)
    → from_front bytes (option_map (λ f. (cast_signed w64 f.0, f.1)) o) ≡ Some (z, rest)
signed_front z bytes rest (Some f) h e =
    let p = some_pair_parts f.0 (cast_unsigned w64 z) (drop f.1 bytes) rest e in
    ap₂ (λ (x : ℤ) (r : List ℕ). Some (x, r)) (ap (cast_signed w64) p.0 ∙ to_z-of_z w64 z h) p.1
signed_front z bytes rest None h e = absurd cc

signed_again : (z : ℤ) (rest : List ℕ) → FitsSigned w64 z → signed_from (int_field z ++ rest) ≡ Some (z, rest)
unfolding number_from
signed_again z rest h =
    signed_front z (int_field z ++ rest) rest (number_at 8 (int_field z ++ rest) 0) h
    (number_again 8 (cast_unsigned w64 z) rest (cast_fits z h))

-- what is taken as a signed number
pub takes_signed : Takes signed_from int_field (λ z. Unit {0})
takes_signed = record { of = signed_takes }

-- a signed number of 64 bits is read again
pub again_signed : Again signed_from int_field (λ z. FitsSigned w64 z)
again_signed = record { of = signed_again }

-- ---- texts

part_takes : (size : ℕ) (bytes text rest : List ℕ) → IsBytes bytes → part_from size bytes ≡ Some (text, rest)
    → Taken bytes text rest × (length text ≡ size)
unfolding part_from
part_takes size bytes text rest h e =
    let g = cond_some (nat_le size (length bytes)) (take size bytes, drop size bytes) (text, rest) e in
    let room : size ≤ length bytes = leb-true _ _ g.0 in
    let whole : Taken bytes (take size bytes) (drop size bytes) =
    record { parts = sym (take-append-drop size bytes); left = IsBytes-drop size bytes h } in
    subst (λ (p : List ℕ × List ℕ). Taken bytes p.0 p.1 × (length p.0 ≡ size)) g.1
    (whole, length-take-le size bytes room)

part_again : (text rest : List ℕ) → part_from (length text) (text ++ rest) ≡ Some (text, rest)
unfolding part_from
part_again text rest =
    let room : nat_le (length text) (length (text ++ rest)) ≡ true =
    le-leb _ _ (omega (arith, length-append text rest)) in
    rw (room, take_at text rest (length text) refl, drop_at text rest (length text) refl) refl

-- bytes behind their length
abbrev pub sized_field : ℕ → List ℕ → List ℕ
sized_field width text = number_field width (length text) ++ text

sized_takes : (width : ℕ) (bytes text rest : List ℕ) → IsBytes bytes → sized_from width bytes ≡ Some (text, rest)
    → Taken bytes (sized_field width text) rest × (length text < 256 ^ width)
unfolding sized_from
sized_takes width bytes text rest h e =
    let a = bind_some (number_from width bytes) (λ size. part_from size.0 size.1) (text, rest) e in
    let number = number_takes width bytes a.0.0 a.0.1 h a.1 in
    let part = part_takes a.0.0 a.0.1 text rest number.0.left a.2 in
    let whole = taken_then bytes (number_field width a.0.0) a.0.1 text rest number.0 part.0 in (
      subst (λ n. Taken bytes (number_field width n ++ text) rest) (sym part.1) whole,
      let P : ℕ → Type 0 = λ n. n < 256 ^ width in subst P (sym part.1) number.1,
    )

sized_again : (width : ℕ) (text rest : List ℕ) → length text < 256 ^ width
    → sized_from width (sized_field width text ++ rest) ≡ Some (text, rest)
unfolding sized_from
sized_again width text rest h =
    ap (sized_from width) (append_assoc (number_field width (length text)) text rest)
    ∙ rw (number_again width (length text) (text ++ rest) h, part_again text rest) refl

-- what is taken as bytes behind their length
pub takes_sized : (width : ℕ) → Takes (sized_from width) (sized_field width) (λ text. length text < 256 ^ width)
takes_sized width = record { of = sized_takes width }

-- bytes behind their length are read again
pub again_sized : (width : ℕ) → Again (sized_from width) (sized_field width) (λ text. length text < 256 ^ width)
again_sized width = record { of = sized_again width }
