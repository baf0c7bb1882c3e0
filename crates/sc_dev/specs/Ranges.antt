-- What a piece over a range of bytes leaves of them: lemmas, for proofs.
use Rattle.std.proofs.Common.{◌≡◌, inl, inr, ⊎_elim, ◌⊎◌, ℕ, ◌+◌, ◌-◌, ◌<◌, ◌≤◌, min, max, List, ◌++◌, length, get_or, take, drop, replicate, refl, sym, ◌∙◌, ap, arith, length-append, length-take, length-drop}
use Rattle.std.proofs.lemmas.Bool.{cases_lt}
use Rattle.std.proofs.lemmas.List.{length-replicate, ext_get_or, get_or_past, get_or-take, get_or-drop, get_or-replicate, get_or_append_left, get_or-append_right, length-take-le}
use Rattle.sc_dev.specs.Disks.{IsTorn}
use Rattle.sc_dev.specs.Histories.{put_over}

length-padded : (at : ℕ) (bytes : List ℕ) → length (bytes ++ replicate (at - length bytes) 0) ≡ max at (length bytes)
length-padded at bytes = omega (
  arith,
  length-append bytes (replicate (at - length bytes) 0),
  length-replicate {A = ℕ} (at - length bytes) 0,
)

length-front : (at : ℕ) (bytes : List ℕ) → length (take at (bytes ++ replicate (at - length bytes) 0)) ≡ at
length-front at bytes = length-take-le at _ (omega (arith, length-padded at bytes))

-- a piece over a range reaches as far as the bytes or the range did
pub length-put_over : (at : ℕ) (piece bytes : List ℕ)
    → length (put_over at piece bytes) ≡ max (length bytes) (at + length piece)
length-put_over at piece bytes =
    let a = length-append (take at (bytes ++ replicate (at - length bytes) 0))
    (piece ++ drop (at + length piece) bytes) in
    let b = length-append piece (drop (at + length piece) bytes) in
    let c = length-drop (at + length piece) bytes in
    omega (arith, a, b, c, length-front at bytes)

get_or-padded : (at i : ℕ) (bytes : List ℕ) → get_or (bytes ++ replicate (at - length bytes) 0) i 0 ≡ get_or bytes i 0
get_or-padded at i bytes = elim (cases_lt i (length bytes)) [
  | inl l ↦ get_or_append_left bytes _ 0 i l
  | inr g ↦ get_or-append_right bytes (replicate (at - length bytes) 0) (length bytes) i 0 refl g
      ∙ zeros (at - length bytes) (i - length bytes) ∙ sym (get_or_past bytes i 0 g)
]
  where
    zeros : (n k : ℕ) → get_or {A = ℕ} (replicate n 0) k 0 ≡ 0
    zeros n k = elim (cases_lt k n) [
      | inl l ↦ get_or-replicate n k 0 0 l
      | inr g ↦ get_or_past (replicate n 0) k 0 (omega (arith, length-replicate {A = ℕ} n 0))
    ]

-- a byte in front of the range
pub put_over-before : (at i : ℕ) (piece bytes : List ℕ) → i < at
    → get_or (put_over at piece bytes) i 0 ≡ get_or bytes i 0
put_over-before at i piece bytes l =
    get_or_append_left (take at (bytes ++ replicate (at - length bytes) 0))
    (piece ++ drop (at + length piece) bytes) 0 i (omega (arith, length-front at bytes))
    ∙ get_or-take at (bytes ++ replicate (at - length bytes) 0) i 0 l ∙ get_or-padded at i bytes

behind : (at i : ℕ) (piece bytes : List ℕ) → at ≤ i
    → get_or (put_over at piece bytes) i 0 ≡ get_or (piece ++ drop (at + length piece) bytes) (i - at) 0
behind at i piece bytes g =
    get_or-append_right (take at (bytes ++ replicate (at - length bytes) 0))
    (piece ++ drop (at + length piece) bytes) at i 0 (length-front at bytes) g

-- a byte of the range
pub put_over-in : (at i : ℕ) (piece bytes : List ℕ) → at ≤ i → i < at + length piece
    → get_or (put_over at piece bytes) i 0 ≡ get_or piece (i - at) 0
put_over-in at i piece bytes g l = behind at i piece bytes g ∙ get_or_append_left piece _ 0 (i - at) (omega arith)

-- a byte behind the range
pub put_over-after : (at i : ℕ) (piece bytes : List ℕ) → at + length piece ≤ i
    → get_or (put_over at piece bytes) i 0 ≡ get_or bytes i 0
put_over-after at i piece bytes g =
    let place : at + length piece + (i - at - length piece) ≡ i = omega arith in
    behind at i piece bytes (omega arith)
    ∙ get_or-append_right piece (drop (at + length piece) bytes) (length piece) (i - at) 0 refl (omega arith)
    ∙ get_or-drop (at + length piece) bytes (i - at - length piece) 0
    ∙ ap (λ (k : ℕ). get_or bytes k 0) place

-- the piece stands in its range
pub put_over-stands : (at : ℕ) (piece bytes : List ℕ) → take (length piece) (drop at (put_over at piece bytes)) ≡ piece
put_over-stands at piece bytes =
    let long = length-put_over at piece bytes in
    let part = length-take (length piece) (drop at (put_over at piece bytes)) in
    let rest = length-drop at (put_over at piece bytes) in
    let same : length (take (length piece) (drop at (put_over at piece bytes))) ≡ length piece =
    omega (arith, long, part, rest) in
    ext_get_or 0 _ _ same (λ i l. byte i (omega (arith, same, l)))
  where
    byte : (i : ℕ) → i < length piece → get_or (take (length piece) (drop at (put_over at piece bytes))) i 0
        ≡ get_or piece i 0
    byte i l =
        let place : at + i - at ≡ i = omega arith in
        get_or-take (length piece) (drop at (put_over at piece bytes)) i 0 l
        ∙ get_or-drop at (put_over at piece bytes) i 0
        ∙ put_over-in at (at + i) piece bytes (omega arith) (omega arith)
        ∙ ap (λ (k : ℕ). get_or piece k 0) place

-- a piece over a range is one of the ways to tear it
pub torn-put_over : (at : ℕ) (piece bytes : List ℕ) → IsTorn at (length piece) bytes (put_over at piece bytes)
torn-put_over at piece bytes = record {
  before = ext_get_or 0 _ _ same_front (λ i l. in_front i (omega (arith, l, front_long)));
  after = ext_get_or 0 _ _ same_back (λ i l. at_back i);
  no_shorter = omega (arith, long);
  no_longer = omega (arith, long);
}
  where
    long : length (put_over at piece bytes) ≡ max (length bytes) (at + length piece)
    long = length-put_over at piece bytes

    front_long : length (take (min at (length bytes)) (put_over at piece bytes)) ≡ min at (length bytes)
    front_long = omega (arith, long, length-take (min at (length bytes)) (put_over at piece bytes))

    same_front : length (take (min at (length bytes)) (put_over at piece bytes)) ≡ length (take at bytes)
    same_front = omega (arith, front_long, length-take at bytes)

    in_front : (i : ℕ) → i < min at (length bytes)
        → get_or (take (min at (length bytes)) (put_over at piece bytes)) i 0 ≡ get_or (take at bytes) i 0
    in_front i l =
        get_or-take (min at (length bytes)) (put_over at piece bytes) i 0 l
        ∙ put_over-before at i piece bytes (omega arith)
        ∙ sym (get_or-take at bytes i 0 (omega arith))

    same_back : length (drop (at + length piece) (put_over at piece bytes)) ≡ length (drop (at + length piece) bytes)
    same_back = omega (
      arith,
      long,
      length-drop (at + length piece) (put_over at piece bytes),
      length-drop (at + length piece) bytes,
    )

    at_back : (i : ℕ) → get_or (drop (at + length piece) (put_over at piece bytes)) i 0
        ≡ get_or (drop (at + length piece) bytes) i 0
    at_back i =
        get_or-drop (at + length piece) (put_over at piece bytes) i 0
        ∙ put_over-after at (at + length piece + i) piece bytes (omega arith)
        ∙ sym (get_or-drop (at + length piece) bytes i 0)

-- two texts that differ at most in a range
pub record Alike (at n : ℕ) (xs ys : List ℕ) : Type 0 where
  pub long : max (length xs) (at + n) ≡ max (length ys) (at + n)
  pub outside : (i : ℕ) → (i < at) ⊎ (at + n ≤ i) → get_or xs i 0 ≡ get_or ys i 0

-- a piece changes nothing outside its range
pub alike-piece : (at : ℕ) (piece bytes : List ℕ) → Alike at (length piece) (put_over at piece bytes) bytes
alike-piece at piece bytes = record {
  long = omega (arith, length-put_over at piece bytes);
  outside = λ i. ⊎_elim (λ l. put_over-before at i piece bytes l) (λ g. put_over-after at i piece bytes g);
}

-- a piece over both keeps them alike
pub alike-put_over : (at n place : ℕ) (piece xs ys : List ℕ) → Alike at n xs ys
    → Alike at n (put_over place piece xs) (put_over place piece ys)
alike-put_over at n place piece xs ys a = record {
  long = omega (arith, a.long, length-put_over place piece xs, length-put_over place piece ys);
  outside = λ i out. elim (cases_lt i place) [
    | inl l ↦ put_over-before place i piece xs l ∙ a.outside i out ∙ sym (put_over-before place i piece ys l)
    | inr g ↦ elim (cases_lt i (place + length piece)) [
      | inl l ↦ put_over-in place i piece xs g l ∙ sym (put_over-in place i piece ys g l)
      | inr h ↦ put_over-after place i piece xs h ∙ a.outside i out ∙ sym (put_over-after place i piece ys h)
    ]
  ];
}

-- and one over that range makes them the same
pub alike-same : (at : ℕ) (piece xs ys : List ℕ) → Alike at (length piece) xs ys
    → put_over at piece xs ≡ put_over at piece ys
alike-same at piece xs ys a = ext_get_or 0 _ _
    (omega (arith, a.long, length-put_over at piece xs, length-put_over at piece ys)) (λ i _. elim (cases_lt i at) [
      | inl l ↦ put_over-before at i piece xs l ∙ a.outside i (inl l) ∙ sym (put_over-before at i piece ys l)
      | inr g ↦ elim (cases_lt i (at + length piece)) [
        | inl l ↦ put_over-in at i piece xs g l ∙ sym (put_over-in at i piece ys g l)
        | inr h ↦ put_over-after at i piece xs h ∙ a.outside i (inr h) ∙ sym (put_over-after at i piece ys h)
      ]
    ])
