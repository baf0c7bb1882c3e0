-- What stands between two quotes, read byte by byte.
use Rattle.std.proofs.Common.{◌≡◌, ℕ, ◌-◌, ◌<◌, ◌≤◌, ◌==◌, true, false, Option, Some, None, List, [], ◌∷◌, ◌++◌, length, take, drop, get_or, refl, arith, ap, sym, ◌∙◌, append_assoc, append-nil}
use Rattle.std.proofs.lemmas.Bool.Decides.{nat_tests}
use Rattle.std.proofs.lemmas.List.{take_rest}
use Rattle.std.specs.Prelude.{option_map, option_and_then}
use Rattle.sc_types.specs.Tokens.{escape, is_plain_byte, before, quoted}

same : (a b : ℕ) → a ≡ b → a == b ≡ true
same a b h = grind (arith, nat_tests)

other : (a b : ℕ) → (a ≡ b → ⊥) → a == b ≡ false
other a b h = grind (arith, nat_tests)

-- what is behind the first byte of a text
abbrev pub tail : List ℕ → List ℕ
tail text = take (length text - 1) (drop 1 text)

split : (text : List ℕ) → 1 ≤ length text → text ≡ get_or text 0 0 ∷ tail text
split [] h = absurd (omega arith)
split (b ∷ rest) h = ap (λ t. b ∷ t) (sym (take_rest (b ∷ rest) 1))

empty : (text : List ℕ) → length text < 1 → text ≡ []
empty [] h = refl
empty (b ∷ rest) h = absurd (omega arith)

-- ---- by the first byte

-- the quote closes the text
pub closes : (quote b : ℕ) (rest : List ℕ) → b == quote ≡ true → quoted quote (b ∷ rest) ≡ Some ([], rest)
unfolding quoted
closes quote b [] h = rw h
closes quote b (c ∷ rest) h = rw h

ends_in_escape : (quote b : ℕ) → b == quote ≡ false → quoted quote (b ∷ []) ≡ None
unfolding quoted
ends_in_escape quote b h = rw h

-- a backslash and the byte behind it stand for one byte
pub escapes : (quote b c : ℕ) (rest : List ℕ) → b == quote ≡ false → b == 92 ≡ true
    → quoted quote (b ∷ c ∷ rest) ≡ option_and_then (λ e. before e (quoted quote rest)) (escape c)
unfolding quoted
escapes quote b c rest h k = rw (h, k)

-- a plain byte stands for itself
pub goes_on : (quote b : ℕ) (rest : List ℕ) → b == quote ≡ false → b == 92 ≡ false → is_plain_byte b ≡ true → quoted quote (b ∷ rest) ≡ before b (quoted quote rest)
unfolding quoted
goes_on quote b [] h k l = rw h
goes_on quote b (c ∷ rest) h k l = rw (h, k, l)

stops : (quote b : ℕ) (rest : List ℕ) → b == quote ≡ false → b == 92 ≡ false → is_plain_byte b ≡ false → quoted quote (b ∷ rest) ≡ None
unfolding quoted
stops quote b [] h k l = rw h
stops quote b (c ∷ rest) h k l = rw (h, k, l)

-- ---- the bytes that were read, and those that are still to be read

-- what was read, before what is still to be read
abbrev pub after : List ℕ → Option (List ℕ × List ℕ) → Option (List ℕ × List ℕ)
after content q = option_map (λ (q : List ℕ × List ℕ). (content ++ q.0, q.1)) q

after-before : (content : List ℕ) (b : ℕ) (q : Option (List ℕ × List ℕ)) → after (content ++ b ∷ []) q ≡ after content (before b q)
after-before content b None = refl
after-before content b (Some q) = ap (λ text. Some (text, q.1)) (append_assoc content (b ∷ []) q.0)

-- at the closing quote all was read
pub at_quote : (quote : ℕ) (content rest text : List ℕ) → after content (quoted quote rest) ≡ quoted quote text
    → 1 ≤ length rest → get_or rest 0 0 ≡ quote → Some (content, tail rest) ≡ quoted quote text
at_quote quote content rest text h some q =
    ap (λ t. Some (t, tail rest)) (sym (append-nil content))
    ∙ ap (after content) (sym (closes quote (get_or rest 0 0) (tail rest) (same _ _ q)) ∙ ap (quoted quote) (sym (split rest some))) ∙ h

-- a backslash at the end of the text is refused
pub at_last_escape : (quote : ℕ) (content rest text : List ℕ) → after content (quoted quote rest) ≡ quoted quote text
    → 1 ≤ length rest → (get_or rest 0 0 ≡ quote → ⊥) → length (tail rest) < 1 → None ≡ quoted quote text
at_last_escape quote content rest text h some q none =
    ap (after content)
    (sym (ends_in_escape quote (get_or rest 0 0) (other _ _ q)) ∙ ap (λ t. quoted quote (get_or rest 0 0 ∷ t)) (sym (empty (tail rest) none)) ∙ ap (quoted quote) (sym (split rest some)))
    ∙ h

at_backslash : (quote : ℕ) (content rest text : List ℕ) → after content (quoted quote rest) ≡ quoted quote text
    → 1 ≤ length rest → (get_or rest 0 0 ≡ quote → ⊥) → get_or rest 0 0 ≡ 92 → 1 ≤ length (tail rest)
    → after content (option_and_then (λ e. before e (quoted quote (tail (tail rest)))) (escape (get_or (tail rest) 0 0))) ≡ quoted quote text
at_backslash quote content rest text h some q b more =
    ap (after content)
    (sym (escapes quote (get_or rest 0 0) (get_or (tail rest) 0 0) (tail (tail rest)) (other _ _ q) (same _ _ b))
    ∙ ap (λ t. quoted quote (get_or rest 0 0 ∷ t)) (sym (split (tail rest) more)) ∙ ap (quoted quote) (sym (split rest some)))
    ∙ h

-- a backslash before a byte that it may not escape is refused
pub at_no_escape : (quote : ℕ) (content rest text : List ℕ) → after content (quoted quote rest) ≡ quoted quote text
    → 1 ≤ length rest → (get_or rest 0 0 ≡ quote → ⊥) → get_or rest 0 0 ≡ 92 → 1 ≤ length (tail rest)
    → None ≡ escape (get_or (tail rest) 0 0) → None ≡ quoted quote text
at_no_escape quote content rest text h some q b more e =
    ap (λ (o : Option ℕ). after content (option_and_then (λ e. before e (quoted quote (tail (tail rest)))) o)) e ∙ at_backslash quote content rest text h some q b more

-- an escaped byte more was read
pub at_escape : (quote e : ℕ) (content new rest text : List ℕ) → after content (quoted quote rest) ≡ quoted quote text
    → 1 ≤ length rest → (get_or rest 0 0 ≡ quote → ⊥) → get_or rest 0 0 ≡ 92 → 1 ≤ length (tail rest)
    → Some e ≡ escape (get_or (tail rest) 0 0) → new ≡ content ++ e ∷ [] → after new (quoted quote (tail (tail rest))) ≡ quoted quote text
at_escape quote e content new rest text h some q b more m n =
    ap (λ t. after t (quoted quote (tail (tail rest)))) n ∙ after-before content e (quoted quote (tail (tail rest)))
    ∙ ap (λ (o : Option ℕ). after content (option_and_then (λ e. before e (quoted quote (tail (tail rest)))) o)) m ∙ at_backslash quote content rest text h some q b more

-- a plain byte more was read
pub at_plain : (quote : ℕ) (content new rest text : List ℕ) → after content (quoted quote rest) ≡ quoted quote text
    → 1 ≤ length rest → (get_or rest 0 0 ≡ quote → ⊥) → (get_or rest 0 0 ≡ 92 → ⊥) → is_plain_byte (get_or rest 0 0) ≡ true
    → new ≡ content ++ get_or rest 0 0 ∷ [] → after new (quoted quote (tail rest)) ≡ quoted quote text
at_plain quote content new rest text h some q b p n =
    ap (λ t. after t (quoted quote (tail rest))) n ∙ after-before content (get_or rest 0 0) (quoted quote (tail rest))
    ∙ ap (after content) (sym (goes_on quote (get_or rest 0 0) (tail rest) (other _ _ q) (other _ _ b) p) ∙ ap (quoted quote) (sym (split rest some))) ∙ h

-- a control byte is refused
pub at_control : (quote : ℕ) (content rest text : List ℕ) → after content (quoted quote rest) ≡ quoted quote text
    → 1 ≤ length rest → (get_or rest 0 0 ≡ quote → ⊥) → (get_or rest 0 0 ≡ 92 → ⊥) → is_plain_byte (get_or rest 0 0) ≡ false → None ≡ quoted quote text
at_control quote content rest text h some q b p =
    ap (after content) (sym (stops quote (get_or rest 0 0) (tail rest) (other _ _ q) (other _ _ b) p) ∙ ap (quoted quote) (sym (split rest some))) ∙ h

-- a text without its closing quote is refused
pub at_end : (quote : ℕ) (content rest text : List ℕ) → after content (quoted quote rest) ≡ quoted quote text → length rest < 1 → None ≡ quoted quote text
unfolding quoted
at_end quote content [] text h none = h
at_end quote content (b ∷ rest) text h none = absurd (omega arith)
