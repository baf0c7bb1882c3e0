-- A number is read from its own field, and what is read from bytes has them as its field.
use Rattle.std.proofs.Common.{◌≡◌, ℕ, zero, suc, ◌+◌, ◌-◌, ◌*◌, ◌/◌, ◌%◌, ◌^◌, ◌<◌, ◌≤◌, nat_le, List, [], ◌∷◌, ◌++◌, length, take, drop, get_or, refl, arith, ap, ap₂, sym, ◌∙◌}
use Rattle.std.proofs.Common.{Option, None, Some, IfSome, true, false, cond, unwrap_or, subst, inl, inr, add_comm, ℤ, length-append, take-append-drop, option_map, option_and_then, append_assoc, pos, negsuc, length-drop}
use Rattle.std.proofs.Math.Seq.{take-add, take-append_seam, drop-append_seam}
use Rattle.std.proofs.lemmas.Bool.Decides.{nat_tests}
use Rattle.std.proofs.lemmas.Bool.{cases_lt}
use Rattle.std.proofs.lemmas.List.{length-take-le, get_or-drop, drop-drop, take_rest}
use Rattle.std.proofs.lemmas.Int.{to_z-of_z, of_z-to_z}
use Rattle.std.specs.Prelude.{FitsSigned}
use Rattle.std.specs.Int.{w64, cast_signed, cast_unsigned}
use Rattle.std.proofs.Math.Nat.{div-one, mul_assoc, one-le-pow, pow-suc, mod-eq_of_lt, add-mul-div_right}
use Rattle.std.proofs.lemmas.Nat.{pow-add, div-mul-add}
use Rattle.std.specs.Int.{byte_at, bytes_high_first}
use Rattle.byteorder.specs.Endian.{big_from, big_number}
use Rattle.byteorder.specs.Numbers.{big_from-cons, big_from-lt, big_number-reads_back, length-bytes_high_first}
use Rattle.sc_frame.specs.Fields.{number_field, int_field, bytes_field, field_number, StandsAt, number_at, int_at, part_at, bytes_at}

-- the field of a number has as many bytes as its size says
pub length-number_field : (size n : ℕ) → length (number_field size n) ≡ size
unfolding number_field
length-number_field size n = length-bytes_high_first size n

-- a number that fits is read from its own field, whatever follows
pub field_number-of_field : (size n : ℕ) (rest : List ℕ) → n < 256 ^ size → field_number size (number_field size n ++ rest) ≡ n
unfolding number_field field_number
field_number-of_field size n rest h = big_number-reads_back size n rest h

-- ---- the field of a number that was read

byte_at-div : (k n : ℕ) → byte_at k n ≡ n / 256 ^ k % 256
byte_at-div zero n = ap (λ x. x % 256) (sym (div-one n))
byte_at-div (suc k) n = refl

power_above : (k e a : ℕ) → a * 256 ^ (suc k + e) ≡ (a * 256 ^ e * 256) * 256 ^ k
power_above k e a =
    let exponent : suc k + e ≡ suc e + k = omega arith in
    ap (λ x. a * 256 ^ x) exponent
    ∙ ap (λ x. a * x) (pow-add 256 (suc e) k ∙ ap (λ x. x * 256 ^ k) (pow-suc 256 e))
    ∙ sym (mul_assoc a (256 ^ e * 256) (256 ^ k)) ∙ ap (λ x. x * 256 ^ k) (sym (mul_assoc a (256 ^ e) 256))

-- a byte of a number does not see what is added far above it
byte_at-above : (k e a b : ℕ) → byte_at k (a * 256 ^ (suc k + e) + b) ≡ byte_at k b
byte_at-above k e a b =
    let q = a * 256 ^ e in
    let positive : 0 < 256 ^ k = (let h = one-le-pow k 256 (omega arith) in omega arith) in
    let sum : a * 256 ^ (suc k + e) + b ≡ b + (q * 256) * 256 ^ k = add_comm (a * 256 ^ (suc k + e)) b ∙ ap (λ x. b + x) (power_above k e a) in
    let quotient : (a * 256 ^ (suc k + e) + b) / 256 ^ k ≡ b / 256 ^ k + q * 256 = ap (λ x. x / 256 ^ k) sum ∙ add-mul-div_right b (q * 256) positive in
    let digit : (b / 256 ^ k + q * 256) % 256 ≡ b / 256 ^ k % 256 = omega arith in
    byte_at-div k (a * 256 ^ (suc k + e) + b) ∙ ap (λ x. x % 256) quotient ∙ digit ∙ sym (byte_at-div k b)

bytes-above : (k e a b : ℕ) → bytes_high_first k (a * 256 ^ (k + e) + b) ≡ bytes_high_first k b
bytes-above zero e a b = refl
bytes-above (suc k) e a b =
    let exponent : suc k + e ≡ k + suc e = omega arith in
    ap₂ (λ x xs. x ∷ xs) (byte_at-above k e a b)
    (ap (λ x. bytes_high_first k (a * 256 ^ x + b)) exponent ∙ bytes-above k (suc e) a b)

-- the bytes of the number that the first bytes of xs make
bytes-big_from : (n : ℕ) (xs : List ℕ) → n ≤ length xs → ((k : ℕ) → get_or xs k 0 < 256) → bytes_high_first n (big_from 0 n xs) ≡ take n xs
bytes-big_from zero xs h f = refl
bytes-big_from (suc n) [] h f = absurd (omega arith)
bytes-big_from (suc n) (x ∷ xs) h f =
    let low = big_from 0 n xs in
    let fits : big_from 0 n xs < 256 ^ n = big_from-lt 0 n xs (λ k. f (suc k)) in
    let byte : x < 256 = f 0 in
    let number : big_from 0 (suc n) (x ∷ xs) ≡ x * 256 ^ n + low = ap (λ y. x * 256 ^ n + y) (big_from-cons 0 n x xs) in
    let top : byte_at n (x * 256 ^ n + low) ≡ x = byte_at-div n (x * 256 ^ n + low) ∙ ap (λ y. y % 256) (div-mul-add x (256 ^ n) low fits) ∙ mod-eq_of_lt byte in
    let exponent : n ≡ n + 0 = omega arith in
    let rest : bytes_high_first n (x * 256 ^ n + low) ≡ take n xs =
    ap (λ y. bytes_high_first n (x * 256 ^ y + low)) exponent ∙ bytes-above n 0 x low ∙ bytes-big_from n xs (omega arith) (λ k. f (suc k)) in
    ap (bytes_high_first (suc n)) number ∙ ap₂ (λ y ys. y ∷ ys) top rest

-- the field of the number that bytes spell is these bytes
pub number_field-of_number : (size : ℕ) (bytes : List ℕ) → size ≤ length bytes → ((k : ℕ) → get_or bytes k 0 < 256)
    → number_field size (field_number size bytes) ≡ take size bytes
unfolding number_field field_number
number_field-of_number size bytes h f = bytes-big_from size bytes h f

-- ---- fields at a place

drop-stands : (field piece : List ℕ) (at : ℕ) (s : StandsAt field piece at) → drop at piece ≡ field ++ s.after
drop-stands field piece at s = ap (drop at) s.whole ∙ ap (λ n. drop n (s.before ++ (field ++ s.after))) (sym s.place) ∙ drop-append_seam s.before (field ++ s.after)

length-stands : (field piece : List ℕ) (at : ℕ) → StandsAt field piece at → at + length field ≤ length piece
length-stands field piece at s =
    let whole : length piece ≡ length s.before + (length field + length s.after) =
    ap length s.whole ∙ simp length-append in
    omega (arith, s.place)

stands_at : (field piece : List ℕ) (at size : ℕ) → at + size ≤ length piece → field ≡ take size (drop at piece) → StandsAt field piece at
stands_at field piece at size h e = record {
  before = take at piece;
  after = drop size (drop at piece);
  whole = sym (take-append-drop at piece) ∙ ap (λ xs. take at piece ++ xs) (sym (take-append-drop size (drop at piece)) ∙ ap (λ xs. xs ++ drop size (drop at piece)) (sym e));
  place = length-take-le at piece (omega arith);
}

test-true : (n m : ℕ) → n ≤ m → nat_le n m ≡ true
test-true n m h = grind (arith, nat_tests)

test-false : (n m : ℕ) → m < n → nat_le n m ≡ false
test-false n m h = grind (arith, nat_tests)

-- where the field of a number stands, that number is read
pub number_at-put : (size n at : ℕ) (piece : List ℕ) → n < 256 ^ size → StandsAt (number_field size n) piece at
    → number_at size piece at ≡ Some (n, at + size)
number_at-put size n at piece h s =
    let room : at + size ≤ length piece = omega (arith, length-stands (number_field size n) piece at s, length-number_field size n) in
    ap (λ b. cond b (Some (field_number size (drop at piece), at + size)) None) (test-true (at + size) (length piece) room)
    ∙ ap (λ xs. Some (field_number size xs, at + size)) (drop-stands (number_field size n) piece at s)
    ∙ ap (λ m. Some (m, at + size)) (field_number-of_field size n s.after h)

-- where a number is read at a place, its field stands there
number-stands : (size at : ℕ) (piece : List ℕ) → ((k : ℕ) → get_or piece k 0 < 256) → at + size ≤ length piece
    → StandsAt (number_field size (field_number size (drop at piece))) piece at
number-stands size at piece f h =
    let long : size ≤ length (drop at piece) = simp length-drop (omega arith) in
    stands_at (number_field size (field_number size (drop at piece))) piece at size h
    (number_field-of_number size (drop at piece) long (λ k. rw (get_or-drop at piece k 0) (f (at + k))))

-- the field of the number that is read stands where it was read
pub number_at-stands : (size at : ℕ) (piece : List ℕ) → ((k : ℕ) → get_or piece k 0 < 256)
    → IfSome (number_at size piece at) (λ f. StandsAt (number_field size f.0) piece at)
number_at-stands size at piece f = elim (cases_lt (length piece) (at + size)) [
  | inl l ↦ rw (test-false (at + size) (length piece) l) tt
  | inr g ↦ rw (test-true (at + size) (length piece) g) (number-stands size at piece f g)
]

-- ---- signed numbers

cast_unsigned-fits : (z : ℤ) → FitsSigned w64 z → cast_unsigned w64 z < 2 ^ 64
cast_unsigned-fits (pos n) h = omega (arith, h)
cast_unsigned-fits (negsuc n) h = omega (arith, h)

-- where the field of a signed number stands, that number is read
pub int_at-put : (z : ℤ) (at : ℕ) (piece : List ℕ) → FitsSigned w64 z → StandsAt (int_field z) piece at → int_at piece at ≡ Some (z, at + 8)
int_at-put z at piece h s =
    ap (option_map (λ f. (cast_signed w64 f.0, f.1))) (number_at-put 8 (cast_unsigned w64 z) at piece (cast_unsigned-fits z h) s)
    ∙ ap (λ y. Some (y, at + 8)) (to_z-of_z w64 z h)

field_number-fits : (size : ℕ) (bytes : List ℕ) → ((k : ℕ) → get_or bytes k 0 < 256) → field_number size bytes < 256 ^ size
unfolding field_number
field_number-fits size bytes f = big_from-lt 0 size bytes f

-- the field of the signed number that is read stands where it was read
pub int_at-stands : (at : ℕ) (piece : List ℕ) → ((k : ℕ) → get_or piece k 0 < 256)
    → IfSome (int_at piece at) (λ f. StandsAt (int_field f.0) piece at)
int_at-stands at piece f = elim (cases_lt (length piece) (at + 8)) [
  | inl l ↦ rw (test-false (at + 8) (length piece) l) tt
  | inr g ↦ rw (test-true (at + 8) (length piece) g)
      (let fits : field_number 8 (drop at piece) < 2 ^ 64 = field_number-fits 8 (drop at piece) (λ k. rw (get_or-drop at piece k 0) (f (at + k))) in
      let Stands : ℕ → Type 0 = λ n. StandsAt (number_field 8 n) piece at in
      subst Stands (sym (of_z-to_z w64 (field_number 8 (drop at piece)) fits)) (number-stands 8 at piece f g))
]

-- ---- texts

part_at-put : (b : List ℕ) (at : ℕ) (piece : List ℕ) → StandsAt b piece at → part_at piece (length b, at) ≡ Some (b, at + length b)
part_at-put b at piece s =
    ap (λ v. cond v (Some (take (length b) (drop at piece), at + length b)) None) (test-true (at + length b) (length piece) (length-stands b piece at s))
    ∙ ap (λ xs. Some (xs, at + length b)) (ap (take (length b)) (drop-stands b piece at s) ∙ take-append_seam b s.after)

-- where the field of a text stands, that text is read
pub bytes_at-put : (b : List ℕ) (at : ℕ) (piece : List ℕ) → length b < 2 ^ 32 → StandsAt (bytes_field b) piece at
    → bytes_at piece at ≡ Some (b, at + 4 + length b)
bytes_at-put b at piece h s =
    let size = number_field 4 (length b) in
    let size_stands : StandsAt (number_field 4 (length b)) piece at = record {
      before = s.before;
      after = b ++ s.after;
      whole = s.whole ∙ ap (λ xs. s.before ++ xs) (append_assoc size b s.after);
      place = s.place;
    } in
    let text_stands : StandsAt b piece (at + 4) = record {
      before = s.before ++ size;
      after = s.after;
      whole = s.whole ∙ simp append_assoc;
      place = length-append s.before size ∙ ap₂ (λ m n. m + n) s.place (length-number_field 4 (length b));
    } in
    ap (option_and_then (part_at piece)) (number_at-put 4 (length b) at piece h size_stands) ∙ part_at-put b (at + 4) piece text_stands

text-stands : (at : ℕ) (piece : List ℕ) → ((k : ℕ) → get_or piece k 0 < 256) → (n : ℕ) → n ≡ field_number 4 (drop at piece)
    → at + 4 + n ≤ length piece → StandsAt (bytes_field (take n (drop (at + 4) piece))) piece at
text-stands at piece f n e h =
    let b = take n (drop (at + 4) piece) in
    let long : 4 ≤ length (drop at piece) = simp length-drop (omega arith) in
    let rest : n ≤ length (drop (at + 4) piece) = simp length-drop (omega arith) in
    let size : number_field 4 (length b) ≡ take 4 (drop at piece) =
    ap (number_field 4) (length-take-le n (drop (at + 4) piece) rest ∙ e)
    ∙ number_field-of_number 4 (drop at piece) long (λ k. rw (get_or-drop at piece k 0) (f (at + k))) in
    stands_at (bytes_field b) piece at (4 + n) (omega arith)
    (ap (λ xs. xs ++ b) size ∙ ap (λ xs. take 4 (drop at piece) ++ take n xs) (sym (drop-drop 4 at piece)) ∙ sym (take-add 4 n (drop at piece)))

-- the field of the text that is read stands where it was read
pub bytes_at-stands : (at : ℕ) (piece : List ℕ) → ((k : ℕ) → get_or piece k 0 < 256)
    → IfSome (bytes_at piece at) (λ f. StandsAt (bytes_field f.0) piece at)
bytes_at-stands at piece f = elim (cases_lt (length piece) (at + 4)) [
  | inl l ↦ rw (test-false (at + 4) (length piece) l) tt
  | inr g ↦ rw (test-true (at + 4) (length piece) g) (part (field_number 4 (drop at piece)) refl)
]
  where
    part : (n : ℕ) → n ≡ field_number 4 (drop at piece) → IfSome (part_at piece (n, at + 4)) (λ f. StandsAt (bytes_field f.0) piece at)
    part n e = elim (cases_lt (length piece) (at + 4 + n)) [
      | inl l ↦ rw (test-false (at + 4 + n) (length piece) l) tt
      | inr g ↦ rw (test-true (at + 4 + n) (length piece) g) (text-stands at piece f n e g)
    ]

-- an absent answer is not a present one
pub none_some : (xs : List ℕ) (n : ℕ) → ◌≡◌ {A = Option (List ℕ × ℕ)} None (Some (xs, n)) → ⊥
none_some xs n e = cc

-- equal answers have equal parts
pub some_pair : (xs ys : List ℕ) (m n : ℕ) → ◌≡◌ {A = Option (List ℕ × ℕ)} (Some (xs, m)) (Some (ys, n)) → (xs ≡ ys) × (m ≡ n)
some_pair xs ys m n e =
    let first : Option (List ℕ × ℕ) → List ℕ = λ o. (unwrap_or o (xs, m)).0 in
    let second : Option (List ℕ × ℕ) → ℕ = λ o. (unwrap_or o (xs, m)).1 in
    (ap first e, ap second e)

-- ---- what the code reads

-- no number is read where the piece is too short
pub number_at-short : (size at : ℕ) (piece : List ℕ) → length piece < at + size → None ≡ number_at size piece at
number_at-short size at piece h = ap (λ v. cond v (Some (field_number size (drop at piece), at + size)) None) (sym (test-false (at + size) (length piece) h))

-- the number that the code makes of the bytes at a place is the one that is read there
pub number_at-read : (size at r : ℕ) (piece : List ℕ) → at + size ≤ length piece → r ≡ big_number size (take (length piece - at) (drop at piece))
    → Some (r, at + size) ≡ number_at size piece at
unfolding field_number
number_at-read size at r piece h e =
    ap (λ m. Some (m, at + size)) (e ∙ ap (big_number size) (take_rest piece at))
    ∙ ap (λ v. cond v (Some (big_number size (drop at piece), at + size)) None) (sym (test-true (at + size) (length piece) h))

-- the code casts what it read once more
pub int_at-read : (at : ℕ) (r : ℤ) (piece : List ℕ) → ((k : ℕ) → get_or piece k 0 < 256) → at + 8 ≤ length piece
    → r ≡ cast_signed w64 (big_number 8 (take (length piece - at) (drop at piece)))
    → Some (cast_signed w64 (cast_unsigned w64 r), at + 8) ≡ int_at piece at
int_at-read at r piece f h e =
    let n = big_number 8 (drop at piece) in
    let number : r ≡ cast_signed w64 n = e ∙ ap (λ xs. cast_signed w64 (big_number 8 xs)) (take_rest piece at) in
    let fits : n < 2 ^ 64 = big_from-lt 0 8 (drop at piece) (λ k. rw (get_or-drop at piece k 0) (f (at + k))) in
    ap (λ z. Some (cast_signed w64 (cast_unsigned w64 z), at + 8)) number
    ∙ ap (λ m. Some (cast_signed w64 m, at + 8)) (of_z-to_z w64 n fits)
    ∙ ap (option_map (λ x. (cast_signed w64 x.0, x.1))) (number_at-read 8 at n piece h (ap (big_number 8) (sym (take_rest piece at))))

-- no signed number is read where the piece is too short
pub int_at-short : (at : ℕ) (piece : List ℕ) → length piece < at + 8 → None ≡ int_at piece at
int_at-short at piece h = ap (option_map (λ f. (cast_signed w64 f.0, f.1))) (number_at-short 8 at piece h)

-- no part is cut out where the piece is too short
pub part_at-short : (size at : ℕ) (piece : List ℕ) → length piece < at + size → None ≡ part_at piece (size, at)
part_at-short size at piece h = ap (λ v. cond v (Some (take size (drop at piece), at + size)) None) (sym (test-false (at + size) (length piece) h))

-- the part that the code cuts out is the one that stands there
pub part_at-read : (size at : ℕ) (piece : List ℕ) → at + size ≤ length piece → Some (take (at + size - at) (drop at piece), at + size) ≡ part_at piece (size, at)
part_at-read size at piece h =
    let same : at + size - at ≡ size = omega arith in
    ap (λ n. Some (take n (drop at piece), at + size)) same
    ∙ ap (λ v. cond v (Some (take size (drop at piece), at + size)) None) (sym (test-true (at + size) (length piece) h))

-- what a call answers for a number that was put, and of the field that it read
pub number-told : (size at : ℕ) (piece : List ℕ) (result : Option (ℕ × ℕ)) → ((k : ℕ) → get_or piece k 0 < 256) → result ≡ number_at size piece at
    → IfSome result (λ f. StandsAt (number_field size f.0) piece at)
number-told size at piece result f e =
    let Stands : Option (ℕ × ℕ) → Type 0 = λ r. IfSome r (λ x. StandsAt (number_field size x.0) piece at) in
    subst Stands (sym e) (number_at-stands size at piece f)

-- the field of a signed number that was answered stands where it was read
pub int-told : (at : ℕ) (piece : List ℕ) (result : Option (ℤ × ℕ)) → ((k : ℕ) → get_or piece k 0 < 256) → result ≡ int_at piece at
    → IfSome result (λ f. StandsAt (int_field f.0) piece at)
int-told at piece result f e =
    let Stands : Option (ℤ × ℕ) → Type 0 = λ r. IfSome r (λ x. StandsAt (int_field x.0) piece at) in
    subst Stands (sym e) (int_at-stands at piece f)
