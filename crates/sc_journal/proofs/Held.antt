-- A text that holds bodies is read as holding them.
use Rattle.std.proofs.Common.{◌≡◌, ◌≢◌, ℕ, zero, suc, ◌+◌, ◌^◌, ◌<◌, ◌≤◌, ◌==◌, nat_lt, nat_le, Bool, true, not, ◌&&◌, ◌||◌, cond, All, Option, None, Some, Result, Ok, Err, List, [], ◌∷◌, ◌++◌, length, take, drop, flat_map, refl, sym, ◌∙◌, ap, arith, append_assoc, length-append}
use Rattle.std.proofs.lemmas.Bool.Decides.{nat_tests}
use Rattle.std.proofs.lemmas.List.{take_at, drop_at}
use Rattle.std.proofs.lemmas.List.Elements.{All-head, All-tail}
use Rattle.sc_frame.specs.Fields.{number_field, field_number}
use Rattle.sc_frame.proofs.FieldLemmas.{length-number_field, field_number-of_field}
use Rattle.sc_journal.specs.Texts.{HeadOf, header, entry, IsBody, Holds, is_size, body_at, joined, with_body, entries_from, first_number, held_from, held}

-- the body of an entry behind its gate
body-there : (number : ℕ) (body rest : List ℕ) → number ≤ 2 ^ 48 → IsBody body → 0 < length rest
    → body_at number (number_field 4 (length body) ++ (body ++ rest)) ≡ Some body
body-there number body rest n b some =
    let text = number_field 4 (length body) ++ (body ++ rest) in
    let field = length-number_field 4 (length body) in
    let size : field_number 4 text ≡ length body = field_number-of_field 4 (length body) (body ++ rest) (omega arith) in
    let long : length text ≡ 4 + (length body + length rest) =
    omega (arith, length-append (number_field 4 (length body)) (body ++ rest), length-append body rest, field) in
    let behind : drop 4 text ≡ body ++ rest = drop_at (number_field 4 (length body)) (body ++ rest) 4 field in
    chosen number (field_number 4 text) (length text) (length body) (length rest) size long n b.0 b.1 some (take (field_number 4 text) (drop 4 text))
    ∙ ap Some ((λ i. take (size i) (behind i)) ∙ take_at body rest (length body) refl)
  where
    chosen : (number size all n more : ℕ) → size ≡ n → all ≡ 4 + (n + more) → number ≤ 2 ^ 48 → 1 ≤ n → n ≤ 2097152 → 0 < more → (part : List ℕ)
        → cond (nat_le number (2 ^ 48) && (nat_le 4 all && is_size size all)) (Some part) None ≡ Some part
    chosen number size all n more is long a b c d part = grind (arith, nat_tests)

-- the entries of these bodies and a closed gate
entries-there : (bodies : List (List ℕ)) (steps number at gate : ℕ) (rest : List ℕ) → length bodies < steps → number + length bodies ≤ 2 ^ 48 + 1 → All IsBody bodies → gate ≢ 1
    → entries_from steps number at (flat_map entry bodies ++ gate ∷ rest) ≡ Ok bodies
entries-there [] zero number at gate rest enough last sizes shut = absurd (omega arith)
entries-there [] (suc steps) number at gate rest enough last sizes shut = closed gate _ _ shut
  where
    closed : (gate : ℕ) (a b : Result (List (List ℕ)) ℕ) → gate ≢ 1 → cond (gate == 1) a b ≡ b
    closed gate a b shut = grind (arith, nat_tests)
entries-there (body ∷ bodies) zero number at gate rest enough last sizes shut = absurd (omega arith)
entries-there (body ∷ bodies) (suc steps) number at gate rest enough last sizes shut =
    let more = flat_map entry bodies ++ gate ∷ rest in
    let size = All-head IsBody body bodies sizes in
    let whole : flat_map entry (body ∷ bodies) ++ gate ∷ rest ≡ 1 ∷ (number_field 4 (length body) ++ (body ++ more)) =
    append_assoc (entry body) (flat_map entry bodies) (gate ∷ rest) ∙ ap (λ (l : List ℕ). 1 ∷ l) (append_assoc (number_field 4 (length body)) body more) in
    let some : 0 < length more = omega (arith, length-append (flat_map entry bodies) (gate ∷ rest)) in
    let here = body-there number body more (omega (arith, last)) size some in
    let after : drop (4 + length body) (number_field 4 (length body) ++ (body ++ more)) ≡ more =
    ap (drop (4 + length body)) (sym (append_assoc (number_field 4 (length body)) body more))
    ∙ drop_at (number_field 4 (length body) ++ body) more (4 + length body) (length-append (number_field 4 (length body)) body ∙ ap (λ (n : ℕ). n + length body) (length-number_field 4 (length body))) in
    ap (entries_from (suc steps) number at) whole
    ∙ ap (λ (o : Option (List ℕ)). with_body o at (λ b. entries_from steps (number + 1) (at + 5 + length b) (drop (4 + length b) (number_field 4 (length body) ++ (body ++ more))))) here
    ∙ ap (λ (l : List ℕ). joined body (entries_from steps (number + 1) (at + 5 + length body) l)) after
    ∙ ap (joined body) (entries-there bodies steps (number + 1) (at + 5 + length body) gate rest (omega arith) (omega (arith, last)) (All-tail IsBody body bodies sizes) shut)

-- the header of a text
header-there : (head : HeadOf) (tail : List ℕ) → head.format ≡ 1 → 1 ≤ head.first → head.first ≤ 2 ^ 48 → 0 < length tail
    → first_number (header head ++ tail) ≡ Ok head.first
header-there head tail format some most more =
    let fields = number_field 4 head.format ++ number_field 8 head.first in
    let a = length-number_field 4 head.format in
    let b = length-number_field 8 head.first in
    let long : 21 ≤ length (header head ++ tail) = omega (arith, length-append (number_field 4 head.format) (number_field 8 head.first), length-append fields tail, a, b) in
    let behind : fields ++ tail ≡ number_field 4 head.format ++ (number_field 8 head.first ++ tail) = append_assoc (number_field 4 head.format) (number_field 8 head.first) tail in
    let kind : field_number 4 (fields ++ tail) ≡ 1 = ap (field_number 4) behind ∙ field_number-of_field 4 head.format (number_field 8 head.first ++ tail) (omega (arith, format)) ∙ format in
    let later : drop 4 (fields ++ tail) ≡ number_field 8 head.first ++ tail = ap (drop 4) behind ∙ drop_at (number_field 4 head.format) (number_field 8 head.first ++ tail) 4 a in
    let first : field_number 8 (drop 4 (fields ++ tail)) ≡ head.first = ap (field_number 8) later ∙ field_number-of_field 8 head.first tail (omega arith) in
    chosen (length (header head ++ tail)) true true _ _ long refl refl kind (omega (arith, first)) (omega (arith, first)) ∙ ap Ok first
  where
    chosen : (n : ℕ) (gate is_mark : Bool) (format first : ℕ) → 21 ≤ n → gate ≡ true → is_mark ≡ true → format ≡ 1 → 1 ≤ first → first ≤ 2 ^ 48
        → ◌≡◌ {A = Result ℕ ℕ} (cond (nat_lt n 21 || not gate) (Err 0) (cond (not is_mark) (Err 1) (cond (not (format == 1)) (Err 8) (cond (nat_lt first 1 || nat_lt (2 ^ 48) first) (Err 12) (Ok first))))) (Ok first)
    chosen n gate is_mark format first a b c d e f = grind (arith, nat_tests)

-- what a text holds is what is read from it
pub held-holds : (head : HeadOf) (bodies : List (List ℕ)) (text : List ℕ) → Holds head bodies text → (first_number text ≡ Ok head.first) × (held text ≡ Ok bodies)
held-holds head bodies text h =
    let tail = flat_map entry bodies ++ h.gate ∷ h.rest in
    let whole : text ≡ header head ++ tail = h.whole ∙ append_assoc (header head) (flat_map entry bodies) (h.gate ∷ h.rest) in
    let some : 0 < length tail = omega (arith, length-append (flat_map entry bodies) (h.gate ∷ h.rest)) in
    let first : first_number (header head ++ tail) ≡ Ok head.first = header-there head tail h.legal.format h.legal.some h.legal.first some in
    let behind : drop 20 (header head ++ tail) ≡ tail = drop_at (header head) tail 20 (long head) in
    let enough : length bodies < length (header head ++ tail) = omega (arith, length-append (header head) tail, length-append (flat_map entry bodies) (h.gate ∷ h.rest), few bodies) in (
      ap first_number whole ∙ first,
      ap held whole ∙ ap (held_from (header head ++ tail)) first ∙ ap (entries_from (length (header head ++ tail)) head.first 20) behind
          ∙ entries-there bodies (length (header head ++ tail)) head.first 20 h.gate h.rest enough h.legal.last h.legal.sizes h.closed,
    )
  where
    long : (head : HeadOf) → length (header head) ≡ 20
    long head = omega (arith, length-append (number_field 4 head.format) (number_field 8 head.first), length-number_field 4 head.format, length-number_field 8 head.first)

    few : (bodies : List (List ℕ)) → length bodies ≤ length (flat_map entry bodies)
    few [] = omega arith
    few (body ∷ bodies) = omega (arith, few bodies, length-append (entry body) (flat_map entry bodies))
