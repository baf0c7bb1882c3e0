-- A write that is undone leaves the bytes that it found.
use Rattle.std.proofs.Common.{◌≡◌, inl, inr, ℕ, ◌+◌, ◌-◌, ◌<◌, ◌≤◌, min, max, List, ◌∷◌, ◌++◌, length, get_or, take, drop, refl, ◌∙◌, ap, arith, length-append, length-take, length-drop}
use Rattle.std.proofs.lemmas.Bool.{cases_lt}
use Rattle.std.proofs.lemmas.List.{ext_get_or, get_or-take, get_or-drop, get_or_append_left, get_or-append_right, length-take-le, take_at, drop_at}
use Rattle.sc_dev.specs.declared.mem_part.Change.{Change}
use Rattle.sc_dev.specs.declared.mem_part.Change.TheVariants.{Wrote}
use Rattle.sc_dev.specs.Histories.{wrote, after_call, put_over}
use Rattle.sc_dev.specs.PartInside.{count_replaced, undone, first_of, calls_of, history_of}
use Rattle.sc_dev.specs.Ranges.{length-put_over, put_over-before, put_over-after, put_over-stands}

module _ (at : ℕ) (piece bytes : List ℕ) where
  abbrev new : List ℕ
  new = put_over at piece bytes

  -- the bytes that the piece replaces
  abbrev kept : List ℕ
  kept = take (length piece) (drop at bytes)

  length-kept : length kept ≡ min (length piece) (length bytes - at)
  length-kept = omega (arith, length-take (length piece) (drop at bytes), length-drop at bytes)

  length-front : length (take at new) ≡ at
  length-front = length-take-le at new (omega (arith, length-put_over at piece bytes))

  abbrev whole : List ℕ
  whole = take at new ++ (kept ++ drop (at + length kept) new)

  length-whole : length whole ≡ max (length bytes) (at + length piece)
  length-whole =
      let a = length-append (take at new) (kept ++ drop (at + length kept) new) in
      let b = length-append kept (drop (at + length kept) new) in
      let c = length-drop (at + length kept) new in
      omega (arith, a, b, c, length-front, length-kept, length-put_over at piece bytes)

  behind : (i : ℕ) → at ≤ i → get_or whole i 0 ≡ get_or (kept ++ drop (at + length kept) new) (i - at) 0
  behind i g = get_or-append_right (take at new) (kept ++ drop (at + length kept) new) at i 0 length-front g

  byte : (i : ℕ) → i < length bytes → get_or whole i 0 ≡ get_or bytes i 0
  byte i short = elim (cases_lt i at) [
    | inl l ↦ get_or_append_left (take at new) _ 0 i (omega (arith, length-front)) ∙ get_or-take at new i 0 l ∙ put_over-before at i piece bytes l
    | inr g ↦ elim (cases_lt i (at + length kept)) [
      | inl l ↦
          let place : at + (i - at) ≡ i = omega arith in
          behind i g ∙ get_or_append_left kept _ 0 (i - at) (omega arith)
          ∙ get_or-take (length piece) (drop at bytes) (i - at) 0 (omega (arith, length-kept))
          ∙ get_or-drop at bytes (i - at) 0 ∙ ap (λ (k : ℕ). get_or bytes k 0) place
      | inr h ↦
          let place : at + length kept + (i - at - length kept) ≡ i = omega arith in
          behind i g ∙ get_or-append_right kept (drop (at + length kept) new) (length kept) (i - at) 0 refl (omega arith)
          ∙ get_or-drop (at + length kept) new (i - at - length kept) 0 ∙ ap (λ (k : ℕ). get_or new k 0) place
          ∙ put_over-after at i piece bytes (omega (arith, length-kept))
    ]
  ]

  -- the bytes are those from before it
  pub undone-put_over : undone at (length bytes) kept new ≡ bytes
  undone-put_over =
      let long : length (undone at (length bytes) kept new) ≡ length bytes = omega (arith, length-take (length bytes) whole, length-whole) in
      ext_get_or 0 _ _ long (λ i l. get_or-take (length bytes) whole i 0 (omega (arith, long, l)) ∙ byte i (omega (arith, long, l)))

  -- and the history has the write behind what it was
  pub history-written : (replaced : List ℕ) (changes : List Change)
      → history_of new (replaced ++ kept) (Wrote at (length piece) (length bytes) ∷ changes)
      ≡ after_call (wrote at piece) (history_of bytes replaced changes)
  history-written replaced changes =
      let rest : length (replaced ++ kept) - count_replaced at (length piece) (length bytes) ≡ length replaced =
      omega (arith, length-append replaced kept, length-kept) in
      let last : drop (length replaced) (replaced ++ kept) ≡ kept = drop_at replaced kept (length replaced) refl in
      let earlier : take (length replaced) (replaced ++ kept) ≡ replaced = take_at replaced kept (length replaced) refl in
      let back : undone at (length bytes) (drop (length replaced) (replaced ++ kept)) new ≡ bytes =
      ap (λ (r : List ℕ). undone at (length bytes) r new) last ∙ undone-put_over in
      let written : take (length piece) (drop at new) ≡ piece = put_over-stands at piece bytes in
      ap (λ (n : ℕ). record {
        first = first_of (undone at (length bytes) (drop n (replaced ++ kept)) new) (take n (replaced ++ kept)) changes;
        calls = wrote at (take (length piece) (drop at new)) ∷ calls_of (undone at (length bytes) (drop n (replaced ++ kept)) new) (take n (replaced ++ kept)) changes;
      }) rest
      ∙ (λ i. record {
        first = first_of (back i) (earlier i) changes;
        calls = wrote at (written i) ∷ calls_of (back i) (earlier i) changes;
      })
