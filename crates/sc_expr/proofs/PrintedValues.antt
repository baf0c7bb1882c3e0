-- What is printed of a value is read as the value.
use Rattle.std.proofs.Common.{◌≡◌, ℕ, zero, suc, ◌+◌, ◌<◌, ◌≤◌, ◌-◌, ◌^◌, Bool, true, false, not, ◌&&◌, List, [], ◌∷◌, ◌++◌, map, length, ℤ, pos, negsuc, codes, refl, sym, ap, subst, ◌∙◌, arith, decimal, nat_lt, IsTrue, Some, None, slice_index, flat_map, append_assoc, append-nil}
use Rattle.std.specs.List.{list_all, AllByRecursion}
use Rattle.std.proofs.lemmas.Bool.{and_parts, and_from, not_from_false, ltb-true, lt-ltb, cond-true, leb-true}
use Rattle.std.proofs.lemmas.List.{get_or_push, length_push}
use Rattle.sc_types.specs.Descriptors.{is_white_space}
use Rattle.sc_types.specs.Tokens.{is_word_byte, tokens}
use Rattle.sc_types.specs.Values.{Open, behind, deepest_of, depth, due, escaped, fits, has_fit_parts, is_fit_item, is_trimmed, is_truth, joined, literal_value, truth_text, value_step, value_text}
use Rattle.sc_types.specs.declared.profile.Profile.TheVariants.{Nested}
use Rattle.sc_types.specs.declared.token.Mark.TheVariants.{OpenSquare, CloseSquare, Comma}
use Rattle.sc_types.specs.declared.token.Token.{Token}
use Rattle.sc_types.specs.declared.token.Token.TheVariants.{Word, Number, Text as Quoted, Mark as Sign}
use Rattle.sc_types.specs.declared.value.Value.{Value}
use Rattle.sc_types.specs.declared.value.Value.TheFolds.{fold-roll-Value, ind-Value, map-Value}
use Rattle.sc_types.specs.declared.value.Value.TheOpen.{Value-F}
use Rattle.sc_types.specs.declared.value.Value.TheVariants.{Bool as Truth, Int, Text, List as Listed, rolls-Bool, rolls-Int, rolls-Text, rolls-List}
use Rattle.sc_types.specs.declared.value.Value.TheViews.{roll-Value}
use Rattle.sc_types.proofs.ValueLemmas.{depth-List, parts-Int, parts-List, parts-Text}
use Rattle.sc_expr.proofs.LexingLemmas.{tokens_none}
use Rattle.sc_expr.proofs.LiteralLemmas.{literal_read}
use Rattle.sc_expr.proofs.PrintedTokens.{ReadsAs, reads_alone, mark_tokens, word_tokens, number_tokens, negative_tokens, text_tokens, decimal_digits, digits_are_words, word_is_not_white}

-- no white space stands round what is printed

abbrev dark : ℕ → Bool
dark b = not (is_white_space b)

dark_at : (text : List ℕ) (i : ℕ) → list_all dark text ≡ true → dark (slice_index text i) ≡ true
dark_at [] i all = refl
dark_at (b ∷ text) zero all = (and_parts (dark b) (list_all dark text) all).0
dark_at (b ∷ text) (suc i) all = dark_at text i (and_parts (dark b) (list_all dark text) all).1

dark_trimmed : (text : List ℕ) → list_all dark text ≡ true → is_trimmed text ≡ true
dark_trimmed text all = and_from _ _ (dark_at text 0 all) (dark_at text (length text - 1) all)

last_dark : (text : List ℕ) (b : ℕ) → dark b ≡ true → dark (slice_index (text ++ b ∷ []) (length (text ++ b ∷ []) - 1)) ≡ true
last_dark text b h = ap dark (get_or_push text b 0 _ (omega (arith, length_push text b))) ∙ h

words_are_dark : (w : List ℕ) → list_all is_word_byte w ≡ true → list_all dark w ≡ true
words_are_dark [] all = refl
words_are_dark (b ∷ w) all =
    let both = and_parts (is_word_byte b) (list_all is_word_byte w) all in
    and_from _ _ (not_from_false _ (word_is_not_white b both.0)) (words_are_dark w both.1)

decimal_dark : (n : ℕ) → n < 2 ^ 64 → list_all dark (decimal n) ≡ true
decimal_dark n small = words_are_dark (decimal n) (digits_are_words (decimal n) (decimal_digits n small).0)

-- values

-- what is printed of a value, read as tokens that write it
record Printed (v : Value) : Type 0 where
  tokens_of : List Token
  read : ReadsAs Nested true (value_text v) tokens_of
  is_due : (lists : Open) (ts : List Token) → length lists + depth v ≤ 8 → due lists (tokens_of ++ ts) ≡ behind v lists ts
  trimmed : is_trimmed (value_text v) ≡ true

text_at : (x : Value-F Value) → value_text (roll-Value x) ≡ value_step (map-Value Value (List ℕ) value_text x)
unfolding value_text
text_at x = fold-roll-Value (List ℕ) value_step x

-- a value from what is printed of it
printed_by : (x : Value-F Value) (v : Value) → roll-Value x ≡ v → (ts : List Token)
    → ReadsAs Nested true (value_step (map-Value Value (List ℕ) value_text x)) ts
    → ((lists : Open) (us : List Token) → length lists + depth v ≤ 8 → due lists (ts ++ us) ≡ behind v lists us)
    → is_trimmed (value_step (map-Value Value (List ℕ) value_text x)) ≡ true → Printed v
printed_by x v same ts read is_due trimmed =
    let text : value_step (map-Value Value (List ℕ) value_text x) ≡ value_text v = sym (text_at x) ∙ ap value_text same in
    record {
      tokens_of = ts;
      read = subst (λ t. ReadsAs Nested true t ts) text read;
      is_due = is_due;
      trimmed = ap is_trimmed (sym text) ∙ trimmed;
    }

abbrev IsPrinted : Value → Type 0
IsPrinted v = has_fit_parts v ≡ true → Printed v

printed_truth : (b : Bool) → Printed (Truth b)
unfolding due
printed_truth true = printed_by (Value-F.Bool true) (Truth true) (rolls-Bool true) (Word (codes "true") ∷ [])
    (record { before = λ rest ends go. word_tokens Nested true (codes "true") rest refl refl ends go })
    (λ lists us deep. refl) refl
printed_truth false = printed_by (Value-F.Bool false) (Truth false) (rolls-Bool false) (Word (codes "false") ∷ [])
    (record { before = λ rest ends go. word_tokens Nested true (codes "false") rest refl refl ends go })
    (λ lists us deep. refl) refl

printed_int : (n : ℤ) → IsPrinted (Int n)
unfolding due
printed_int (pos n) fine =
    let small = ltb-true n (2 ^ 63) (sym (parts-Int (pos n)) ∙ fine) in
    printed_by (Value-F.Int (pos n)) (Int (pos n)) (rolls-Int (pos n)) (Number (pos n) ∷ [])
    (record { before = λ rest ends go. number_tokens Nested true n rest small ends go })
    (λ lists us deep. refl) (dark_trimmed (decimal n) (decimal_dark n (omega arith)))
printed_int (negsuc n) fine =
    let small = ltb-true n (2 ^ 63) (sym (parts-Int (negsuc n)) ∙ fine) in
    printed_by (Value-F.Int (negsuc n)) (Int (negsuc n)) (rolls-Int (negsuc n)) (Number (negsuc n) ∷ [])
    (record { before = λ rest ends go. negative_tokens Nested n rest small ends go })
    (λ lists us deep. refl) (dark_trimmed (45 ∷ decimal (suc n)) (decimal_dark (suc n) (omega arith)))

printed_text : (text : List ℕ) → IsPrinted (Text text)
unfolding due
printed_text text fine = printed_by (Value-F.Text text) (Text text) (rolls-Text text) (Quoted text ∷ [])
    (record { before = λ rest ends go. simp append_assoc (text_tokens Nested true text rest (sym (parts-Text text) ∙ fine) go) })
    (λ lists us deep. refl) (last_dark (39 ∷ flat_map escaped text) 39 refl)

-- lists

abbrev Known : Type 0
Known = (v : Value) × IsPrinted v

each_printed : (items : List Known) → list_all is_fit_item (map (λ (v : Known). v.0) items) ≡ true
    → AllByRecursion Printed (map (λ (v : Known). v.0) items)
each_printed [] fine = tt
each_printed (v ∷ vs) fine =
    let both = and_parts (is_fit_item v.0) (list_all is_fit_item (map (λ (w : Known). w.0) vs)) fine in
    (v.1 (and_parts (not (is_truth v.0)) (has_fit_parts v.0) both.0).1, each_printed vs both.1)

-- the items of a list, up to the bracket that closes it
record PrintedItems (v : Value) (vs : List Value) : Type 0 where
  tokens_of : List Token
  read : ReadsAs Nested true (joined (map value_text (v ∷ vs))) tokens_of
  is_due : (items : List Value) (lists : Open) (ts : List Token) → suc (length lists) + deepest_of (v ∷ vs) ≤ 8
      → due (items ∷ lists) (tokens_of ++ Sign CloseSquare ∷ ts) ≡ behind (Listed (items ++ v ∷ vs)) lists ts

printed_items : (v : Value) (vs : List Value) → Printed v → AllByRecursion Printed vs → PrintedItems v vs
unfolding due
printed_items v [] p ps = record {
  tokens_of = p.tokens_of;
  read = p.read;
  is_due = λ items lists ts deep. p.is_due (items ∷ lists) (Sign CloseSquare ∷ ts) (omega arith);
}
printed_items v (w ∷ vs) p ps =
    let later = printed_items w vs ps.0 ps.1 in
    record {
      tokens_of = p.tokens_of ++ Sign Comma ∷ later.tokens_of;
      read = record { before = λ rest ends go. simp append_assoc (p.read.before _ refl (mark_tokens Nested true Comma _ refl (later.read.before rest ends go))) };
      is_due = λ items lists ts deep.
          ap (due (items ∷ lists)) (append_assoc p.tokens_of (Sign Comma ∷ later.tokens_of) (Sign CloseSquare ∷ ts))
          ∙ p.is_due (items ∷ lists) (Sign Comma ∷ (later.tokens_of ++ Sign CloseSquare ∷ ts)) (omega arith)
          ∙ later.is_due (items ++ v ∷ []) lists ts (omega arith)
          ∙ ap (λ vs. behind (Listed vs) lists ts) (append_assoc items (v ∷ []) (w ∷ vs));
    }

-- a bracket opens a list where one more may be open
opens : (lists : Open) (ts : List Token) → length lists < 8 → due lists (Sign OpenSquare ∷ ts) ≡ due ([] ∷ lists) ts
unfolding due
opens lists ts h = cond-true (nat_lt (length lists) 8) (due ([] ∷ lists) ts) None (lt-ltb (length lists) 8 h)

printed_list : (vs : List Value) → AllByRecursion Printed vs → Printed (Listed vs)
unfolding due
printed_list [] ps = printed_by (Value-F.List []) (Listed []) (rolls-List []) (Sign OpenSquare ∷ Sign CloseSquare ∷ [])
    (record { before = λ rest ends go. mark_tokens Nested true OpenSquare _ refl (mark_tokens Nested true CloseSquare rest refl go) })
    (λ lists us deep. opens lists (Sign CloseSquare ∷ us) (omega (arith, depth-List []))) refl
printed_list (v ∷ vs) ps =
    let items = printed_items v vs ps.0 ps.1 in
    let inside = joined (map value_text (v ∷ vs)) in
    printed_by (Value-F.List (v ∷ vs)) (Listed (v ∷ vs)) (rolls-List (v ∷ vs))
    (Sign OpenSquare ∷ items.tokens_of ++ Sign CloseSquare ∷ [])
    (record { before = λ rest ends go. simp append_assoc (mark_tokens Nested true OpenSquare _ refl (items.read.before _ refl (mark_tokens Nested true CloseSquare rest refl go))) })
    (λ lists us deep.
    opens lists ((items.tokens_of ++ Sign CloseSquare ∷ []) ++ us) (omega (arith, depth-List (v ∷ vs)))
    ∙ ap (due ([] ∷ lists)) (append_assoc items.tokens_of (Sign CloseSquare ∷ []) us)
    ∙ items.is_due [] lists us (omega (arith, depth-List (v ∷ vs))))
    (and_from _ _ refl (last_dark (91 ∷ inside) 93 refl))

-- every value

layer_printed : (x : Value-F Known) → IsPrinted (roll-Value (map-Value Known Value (λ v. v.0) x))
layer_printed (Value-F.Bool b) = subst IsPrinted (sym (rolls-Bool b)) (λ fine. printed_truth b)
layer_printed (Value-F.Int n) = subst IsPrinted (sym (rolls-Int n)) (printed_int n)
layer_printed (Value-F.Text text) = subst IsPrinted (sym (rolls-Text text)) (printed_text text)
layer_printed (Value-F.List items) =
    let vs = map (λ (v : Known). v.0) items in
    subst IsPrinted (sym (rolls-List vs))
    (λ fine. printed_list vs (each_printed items (and_parts _ _ (sym (parts-List vs) ∙ fine)).1))

every_printed : (v : Value) → IsPrinted v
every_printed = ind-Value IsPrinted (λ x y is. subst (λ z. IsPrinted (roll-Value z)) is (layer_printed y))

-- what is printed of a value is read as the value
pub printed_value : (v : Value) → IsTrue (fits v) → literal_value (value_text v) ≡ Some v
unfolding due
printed_value v fine =
    let p = every_printed v (and_parts _ _ (and_parts _ _ fine).0).0 in
    let shallow = leb-true (depth v) 8 (and_parts _ _ (and_parts _ _ fine).0).1 in
    literal_read (value_text v) v p.trimmed
    (ap (due []) (reads_alone Nested p.read ∙ sym (append-nil p.tokens_of)) ∙ p.is_due [] [] (omega (arith, shallow))) fine
