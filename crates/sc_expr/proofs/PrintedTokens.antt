-- The tokens of what is printed: of signs, words, numbers and quoted texts, with whatever stands behind them.
use Rattle.std.proofs.Common.{◌≡◌, ℕ, suc, ◌<◌, ◌+◌, ◌^◌, ◌%◌, one-add, ◌==◌, Bool, true, false, ◌&&◌, cond, Some, None, List, [], ◌∷◌, ◌++◌, length, drop, take, flat_map, pos, refl, sym, ap, subst, ap₂, ◌∙◌, inl, inr, arith, decimal, length-append, if◌then◌else◌, nat_lt, nat_le, negsuc, bytes_eq, take_at, drop_at, append_assoc, append-nil}
use Rattle.std.specs.List.{list_all, prefix_len, take_while}
use Rattle.std.proofs.lemmas.Bool.{true≢false, ne_eqb, lt-ltb, le-leb, cases_eq, and_parts, and_from, cond-true, cond-false, or_from, or_right}
use Rattle.std.proofs.lemmas.Bool.Decides.{nat_tests}
use Rattle.std.proofs.lemmas.Slice.Eq.{bytes_eq-Decides}
use Rattle.std.proofs.lemmas.Fmt.{decimal_is_IsNumeral, decimal_by_steps}
use Rattle.sc_types.specs.declared.profile.Profile.{Profile}
use Rattle.sc_types.specs.Profiles.{text_limit}
use Rattle.sc_types.specs.Descriptors.{is_white_space}
use Rattle.sc_base.specs.Text.{is_letter, is_digit, is_text_within, is_text_byte, starts_with_letter}
use Rattle.sc_types.specs.Tokens.{op_text, mark_text, Read, is_word_byte, is_quote, number_of, positive, negative, run_token, read_token, read_quoted, read_sign, bad, before, is_plain_byte, quoted, first_token, tokens, tokens_step}
use Rattle.sc_types.specs.Values.{escaped}
use Rattle.sc_types.specs.declared.expr.Op.{Op}
use Rattle.sc_types.specs.declared.expr.Op.TheVariants.{Or, And, Eq, Ne, Lt, Le, Gt, Ge, Add, Sub, Mul, Div, Rem}
use Rattle.sc_types.specs.declared.token.Mark.{Mark}
use Rattle.sc_types.specs.declared.token.Mark.TheVariants.{Not, Open, Close, OpenSquare, CloseSquare, Comma, Dot}
use Rattle.sc_types.specs.declared.token.Token.{Token}
use Rattle.sc_types.specs.declared.token.Token.TheVariants.{Word, Number, Text, Operator, Mark as Sign, Bad}
use Rattle.sc_expr.proofs.LexingLemmas.{tokens_next, tokens_none}

-- A lemma on what a text begins with takes the tokens of the rest, `tokens signed text ≡ ts`, and gives those of the whole.

-- a byte with which a token begins
first_is : (profile : Profile) (signed : Bool) (b : ℕ) (text : List ℕ) (t : Token) (rest : List ℕ) → is_white_space b ≡ false
    → first_token profile signed b text ≡ (t, rest) → tokens profile signed (b ∷ text) ≡ t ∷ tokens profile signed rest
first_is profile signed b text t rest dark e =
    tokens_next profile signed (b ∷ text)
    ∙ ap (λ (c : Bool). tokens_step profile signed (tokens profile signed) (drop (cond c (1 + prefix_len is_white_space text) 0) (b ∷ text))) dark
    ∙ ap (λ (r : Read). r.0 ∷ tokens profile signed r.1) e

space_tokens : (profile : Profile) (signed : Bool) (text : List ℕ) → tokens profile signed (32 ∷ text) ≡ tokens profile signed text
space_tokens profile signed text =
    tokens_next profile signed (32 ∷ text)
    ∙ ap (λ n. tokens_step profile signed (tokens profile signed) (drop n (32 ∷ text))) (one-add (prefix_len is_white_space text))
    ∙ sym (tokens_next profile signed text)

-- signs

-- `!` may begin `!=`
abbrev pub stands_alone : Mark → Bool
stands_alone Not = false
stands_alone m = true

mark_first : (profile : Profile) (signed : Bool) (m : Mark) (text : List ℕ) → stands_alone m ≡ true → tokens profile signed (mark_text m ++ text) ≡ Sign m ∷ tokens profile signed text
unfolding first_token
mark_first profile signed Not text alone = absurd (cc)
mark_first profile true Open text alone = first_is profile true _ _ _ _ refl refl
mark_first profile false Open text alone = first_is profile false _ _ _ _ refl refl
mark_first profile true Close text alone = first_is profile true _ _ _ _ refl refl
mark_first profile false Close text alone = first_is profile false _ _ _ _ refl refl
mark_first profile true OpenSquare text alone = first_is profile true _ _ _ _ refl refl
mark_first profile false OpenSquare text alone = first_is profile false _ _ _ _ refl refl
mark_first profile true CloseSquare text alone = first_is profile true _ _ _ _ refl refl
mark_first profile false CloseSquare text alone = first_is profile false _ _ _ _ refl refl
mark_first profile true Comma text alone = first_is profile true _ _ _ _ refl refl
mark_first profile false Comma text alone = first_is profile false _ _ _ _ refl refl
mark_first profile true Dot text alone = first_is profile true _ _ _ _ refl refl
mark_first profile false Dot text alone = first_is profile false _ _ _ _ refl refl

-- a sign
pub mark_tokens : (profile : Profile) (signed : Bool) (m : Mark) (text : List ℕ) {ts : List Token} → stands_alone m ≡ true
    → tokens profile signed text ≡ ts → tokens profile signed (mark_text m ++ text) ≡ Sign m ∷ ts
mark_tokens profile signed m text alone go = mark_first profile signed m text alone ∙ ap (λ us. Sign m ∷ us) go

-- a text that does not make `!=` of `!`
abbrev pub FollowsBang : List ℕ → Type 0
FollowsBang [] = ⊥
FollowsBang (b ∷ text) = (61 == b) ≡ false

bang_first : (profile : Profile) (text : List ℕ) → FollowsBang text → tokens profile false (33 ∷ text) ≡ Sign Not ∷ tokens profile false text
unfolding first_token
bang_first profile [] follows = absurd follows
bang_first profile (b ∷ text) follows =
    first_is profile false 33 (b ∷ text) (Sign Not) (b ∷ text) refl (ap (λ (c : Bool). read_sign (33 ∷ b ∷ text) (cond (c && true) (Some Ne) None)) follows)

-- `!`
pub bang_tokens : (profile : Profile) (text : List ℕ) {ts : List Token} → FollowsBang text → tokens profile false text ≡ ts → tokens profile false (33 ∷ text) ≡ Sign Not ∷ ts
bang_tokens profile text follows go = bang_first profile text follows ∙ ap (λ us. Sign Not ∷ us) go

minus_first : (profile : Profile) (text : List ℕ) → tokens profile false (45 ∷ text) ≡ Operator Sub ∷ tokens profile false text
unfolding first_token
minus_first profile text = first_is profile false 45 text (Operator Sub) text refl refl

-- `-`, where it is an operator
pub minus_tokens : (profile : Profile) (text : List ℕ) {ts : List Token} → tokens profile false text ≡ ts → tokens profile false (45 ∷ text) ≡ Operator Sub ∷ ts
minus_tokens profile text go = minus_first profile text ∙ ap (λ us. Operator Sub ∷ us) go

-- an operator before a space
operator_first : (profile : Profile) (op : Op) (text : List ℕ) → tokens profile false (op_text op ++ 32 ∷ text) ≡ Operator op ∷ tokens profile false (32 ∷ text)
unfolding first_token
operator_first profile Or text = first_is profile false _ _ _ _ refl refl
operator_first profile And text = first_is profile false _ _ _ _ refl refl
operator_first profile Eq text = first_is profile false _ _ _ _ refl refl
operator_first profile Ne text = first_is profile false _ _ _ _ refl refl
operator_first profile Lt text = first_is profile false _ _ _ _ refl refl
operator_first profile Le text = first_is profile false _ _ _ _ refl refl
operator_first profile Gt text = first_is profile false _ _ _ _ refl refl
operator_first profile Ge text = first_is profile false _ _ _ _ refl refl
operator_first profile Add text = first_is profile false _ _ _ _ refl refl
operator_first profile Sub text = first_is profile false _ _ _ _ refl refl
operator_first profile Mul text = first_is profile false _ _ _ _ refl refl
operator_first profile Div text = first_is profile false _ _ _ _ refl refl
operator_first profile Rem text = first_is profile false _ _ _ _ refl refl

-- an operator between spaces
pub operator_tokens : (profile : Profile) (op : Op) (text : List ℕ) {ts : List Token} → tokens profile false text ≡ ts → tokens profile false (32 ∷ op_text op ++ 32 ∷ text) ≡ Operator op ∷ ts
operator_tokens profile op text go =
    space_tokens profile false (op_text op ++ 32 ∷ text) ∙ operator_first profile op text ∙ ap (λ us. Operator op ∷ us) (space_tokens profile false text ∙ go)

-- words and numbers

-- a text that does not begin with a letter, a digit or `_`
abbrev pub EndsRun : List ℕ → Type 0
EndsRun [] = Unit {0}
EndsRun (b ∷ text) = is_word_byte b ≡ false

-- a text that is read as these tokens, unless its last run goes on
pub record ReadsAs (profile : Profile) (signed : Bool) (text : List ℕ) (ts : List Token) : Type 0 where
  pub before : (rest : List ℕ) → {us : List Token} → EndsRun rest → tokens profile signed rest ≡ us → tokens profile signed (text ++ rest) ≡ ts ++ us

-- a text of these tokens is read as them, where nothing stands behind it
pub reads_alone : (profile : Profile) {signed : Bool} {text : List ℕ} {ts : List Token} → ReadsAs profile signed text ts → tokens profile signed text ≡ ts
reads_alone profile {signed} r = simp append-nil at (r.before [] tt (tokens_none profile signed [] refl))

-- how long a run is
run_length : (w text : List ℕ) → list_all is_word_byte w ≡ true → EndsRun text → prefix_len is_word_byte (w ++ text) ≡ length w
run_length [] [] all ends = refl
run_length [] (b ∷ text) all ends = ap (λ (c : Bool). cond c (1 + prefix_len is_word_byte text) 0) ends
run_length (b ∷ w) text all ends =
    let both = and_parts (is_word_byte b) (list_all is_word_byte w) all in
    ap (λ (c : Bool). cond c (1 + prefix_len is_word_byte (w ++ text)) 0) both.0 ∙ one-add _ ∙ ap suc (run_length w text both.1 ends)

-- what is made of a run, with what stands behind it
run_read : (make : List ℕ → Token) (w text : List ℕ) → list_all is_word_byte w ≡ true → EndsRun text
    → read_token (make (take_while is_word_byte (w ++ text))) (drop (prefix_len is_word_byte (w ++ text)) (w ++ text)) ≡ read_token (make w) text
run_read make w text all ends =
    ap (λ n. read_token (make (take n (w ++ text))) (drop n (w ++ text))) (run_length w text all ends)
    ∙ ap₂ (λ v rest. read_token (make v) rest) (take_at w text (length w) refl) (drop_at w text (length w) refl)

-- a byte that passes a test is none that fails it
apart : (p : ℕ → Bool) (b c : ℕ) → p b ≡ true → p c ≡ false → (b == c) ≡ false
apart p b c pass fail = ne_eqb b c (λ e. true≢false (sym pass ∙ ap p e ∙ fail))

-- a word makes no `!=` of a `!` before it
pub FollowsBang-word : (w rest : List ℕ) → 0 < length w → list_all is_word_byte w ≡ true → FollowsBang (w ++ rest)
FollowsBang-word [] rest some all = absurd (omega arith)
FollowsBang-word (b ∷ w) rest some all = ne_eqb 61 b (λ e. true≢false (sym (and_parts (is_word_byte b) (list_all is_word_byte w) all).0 ∙ ap is_word_byte (sym e)))

-- a byte of a word begins no other token
word_is_no_quote : (b : ℕ) → is_word_byte b ≡ true → is_quote b ≡ false
word_is_no_quote b word = or_from _ _ (apart is_word_byte b 39 word refl) (apart is_word_byte b 34 word refl)

-- a byte of a word is no white space
pub word_is_not_white : (b : ℕ) → is_word_byte b ≡ true → is_white_space b ≡ false
word_is_not_white b word =
    or_from _ _ (or_from _ _ (or_from _ _ (apart is_word_byte b 32 word refl) (apart is_word_byte b 9 word refl)) (apart is_word_byte b 10 word refl)) (apart is_word_byte b 13 word refl)

-- a run whose token is no bad one
run_tokens : (profile : Profile) (signed : Bool) (b : ℕ) (w text : List ℕ) (t : Token) → list_all is_word_byte (b ∷ w) ≡ true → EndsRun text
    → read_token (run_token (b ∷ w)) text ≡ (t, text) → tokens profile signed (b ∷ w ++ text) ≡ t ∷ tokens profile signed text
unfolding first_token
run_tokens profile signed b w text t all ends good =
    let word = (and_parts (is_word_byte b) (list_all is_word_byte w) all).0 in
    first_is profile signed b (w ++ text) t text (word_is_not_white b word)
    (cond-false (is_quote b) _ _ (word_is_no_quote b word) ∙ cond-true (is_word_byte b) _ _ word ∙ run_read run_token (b ∷ w) text all ends ∙ good)

letter_is_no_digit : (b : ℕ) → is_letter b ≡ true → is_digit b ≡ false
letter_is_no_digit b letter = grind (arith, nat_tests)

-- a word
pub word_tokens : (profile : Profile) (signed : Bool) (w : List ℕ) (text : List ℕ) {ts : List Token} → starts_with_letter w ≡ true → list_all is_word_byte w ≡ true → EndsRun text
    → tokens profile signed text ≡ ts → tokens profile signed (w ++ text) ≡ Word w ∷ ts
word_tokens profile signed [] text letter all ends go = absurd (cc)
word_tokens profile signed (b ∷ w) text letter all ends go =
    run_tokens profile signed b w text (Word (b ∷ w)) all ends (rw (letter_is_no_digit b letter)) ∙ ap (λ us. Word (b ∷ w) ∷ us) go

-- numbers

-- digits, one or more
abbrev pub IsDigits : List ℕ → Type 0
IsDigits ds = (list_all is_digit ds ≡ true) × (0 < length ds)

all_push : (p : ℕ → Bool) (xs : List ℕ) (y : ℕ) → list_all p xs ≡ true → p y ≡ true → list_all p (xs ++ y ∷ []) ≡ true
all_push p [] y all last = and_from _ _ last refl
all_push p (x ∷ xs) y all last =
    let both = and_parts (p x) (list_all p xs) all in and_from _ _ both.0 (all_push p xs y both.1 last)

-- a number is printed as one digit or more
pub decimal_digits : (n : ℕ) → n < 2 ^ 64 → IsDigits (decimal n)
decimal_digits = decimal_by_steps (λ n ds. IsDigits ds)
    (λ n small. (and_from _ _ (grind (arith, nat_tests)) refl, omega arith))
    (λ n ds big front. (all_push is_digit ds _ front.0 (grind (arith, nat_tests)), omega (arith, length-append ds ((48 + n % 10) ∷ []))))

-- digits may stand in a word
pub digits_are_words : (ds : List ℕ) → list_all is_digit ds ≡ true → list_all is_word_byte ds ≡ true
digits_are_words [] all = refl
digits_are_words (d ∷ ds) all =
    let both = and_parts (is_digit d) (list_all is_digit ds) all in
    and_from _ _ (or_right (is_letter d) (is_digit d) both.0) (digits_are_words ds both.1)

-- the digits that are printed of a number are read as the number
number_of-decimal : (n : ℕ) → n < 2 ^ 64 → number_of (decimal n) ≡ Some n
number_of-decimal n small =
    let read = (decimal_is_IsNumeral n small).1 in
    ap (λ m. if bytes_eq (decimal m) (decimal n) then Some m else None) read
    ∙ cond-true (bytes_eq (decimal n) (decimal n)) _ _ ((bytes_eq-Decides (decimal n) (decimal n)).1 refl)

-- digits alone, and before a text
digits_token : (ds : List ℕ) (n : ℕ) → IsDigits ds → number_of ds ≡ Some n → n < 2 ^ 63 → run_token ds ≡ Number (pos n)
digits_token [] n digits e small = absurd (omega (arith, digits.1))
digits_token (d ∷ ds) n digits e small =
    cond-true (is_digit d) _ _ (and_parts (is_digit d) (list_all is_digit ds) digits.0).0
    ∙ ap positive e ∙ cond-true (nat_lt n (2 ^ 63)) _ _ (lt-ltb n (2 ^ 63) small)

digits_tokens : (profile : Profile) (signed : Bool) (ds text : List ℕ) (n : ℕ) → IsDigits ds → number_of ds ≡ Some n → n < 2 ^ 63 → EndsRun text
    → tokens profile signed (ds ++ text) ≡ Number (pos n) ∷ tokens profile signed text
digits_tokens profile signed [] text n digits e small ends = absurd (omega (arith, digits.1))
digits_tokens profile signed (d ∷ ds) text n digits e small ends =
    run_tokens profile signed d ds text (Number (pos n)) (digits_are_words (d ∷ ds) digits.0) ends
    (ap (λ t. read_token t text) (digits_token (d ∷ ds) n digits e small))

-- a natural number
pub number_tokens : (profile : Profile) (signed : Bool) (n : ℕ) (text : List ℕ) {ts : List Token} → n < 2 ^ 63 → EndsRun text
    → tokens profile signed text ≡ ts → tokens profile signed (decimal n ++ text) ≡ Number (pos n) ∷ ts
number_tokens profile signed n text small ends go =
    digits_tokens profile signed (decimal n) text n (decimal_digits n (omega arith)) (number_of-decimal n (omega arith)) small ends ∙ ap (λ us. Number (pos n) ∷ us) go

-- digits behind a `-`
negative_read : (profile : Profile) (ds text : List ℕ) (n : ℕ) → IsDigits ds → number_of ds ≡ Some (suc n) → n < 2 ^ 63 → EndsRun text
    → first_token profile true 45 (ds ++ text) ≡ (Number (negsuc n), text)
unfolding first_token
negative_read profile [] text n digits e small ends = absurd (omega (arith, digits.1))
negative_read profile (d ∷ ds) text n digits e small ends =
    cond-true (is_digit d) _ _ (and_parts (is_digit d) (list_all is_digit ds) digits.0).0
    ∙ run_read (λ w. negative (number_of w)) (d ∷ ds) text (digits_are_words (d ∷ ds) digits.0) ends
    ∙ ap (λ m. read_token (negative m) text) e
    ∙ ap (λ t. read_token t text) (cond-true (nat_lt 0 (suc n) && nat_le (suc n) (2 ^ 63)) (Number (negsuc n)) Bad in_range)
  where
    in_range : (nat_lt 0 (suc n) && nat_le (suc n) (2 ^ 63)) ≡ true
    in_range = and_from _ _ (lt-ltb 0 (suc n) (omega arith)) (le-leb (suc n) (2 ^ 63) small)

-- a negative number, where numbers may be signed
pub negative_tokens : (profile : Profile) (n : ℕ) (text : List ℕ) {ts : List Token} → n < 2 ^ 63 → EndsRun text
    → tokens profile true text ≡ ts → tokens profile true (45 ∷ decimal (suc n) ++ text) ≡ Number (negsuc n) ∷ ts
negative_tokens profile n text small ends go =
    first_is profile true 45 (decimal (suc n) ++ text) (Number (negsuc n)) text refl
    (negative_read profile (decimal (suc n)) text n (decimal_digits (suc n) (omega arith)) (number_of-decimal (suc n) (omega arith)) small ends)
    ∙ ap (λ us. Number (negsuc n) ∷ us) go

-- quoted texts

-- a byte that is escaped, or any other
byte_cases : (P : ℕ → Type 0) → P 92 → P 39 → P 10 → P 9 → ((b : ℕ) → (b == 92) ≡ false → (b == 39) ≡ false → (b == 10) ≡ false → (b == 9) ≡ false → P b) → (b : ℕ) → P b
byte_cases P p q r s rest b = elim (cases_eq b 92) as (λ x. P b) [
  | inl e ↦ subst P (sym e) p
  | inr n1 ↦ elim (cases_eq b 39) as (λ x. P b) [
    | inl e ↦ subst P (sym e) q
    | inr n2 ↦ elim (cases_eq b 10) as (λ x. P b) [
      | inl e ↦ subst P (sym e) r
      | inr n3 ↦ elim (cases_eq b 9) as (λ x. P b) [
        | inl e ↦ subst P (sym e) s
        | inr n4 ↦ rest b (ne_eqb b 92 n1) (ne_eqb b 39 n2) (ne_eqb b 10 n3) (ne_eqb b 9 n4)
      ]
    ]
  ]
]

-- a byte in quotes is read as itself
abbrev IsQuoted : List ℕ → List ℕ × List ℕ → ℕ → Type 0
IsQuoted text r b = is_text_byte b ≡ true → quoted 39 (escaped b ++ text) ≡ Some (b ∷ r.0, r.1)

quoted_byte : (text : List ℕ) (r : List ℕ × List ℕ) → quoted 39 text ≡ Some r → (b : ℕ) → IsQuoted text r b
unfolding quoted
quoted_byte [] r e = λ b fine. absurd (cc)
quoted_byte (c ∷ text) r e = byte_cases (IsQuoted (c ∷ text) r)
    (λ fine. ap (before 92) e) (λ fine. ap (before 39) e) (λ fine. ap (before 10) e) (λ fine. ap (before 9) e)
    (λ b n92 n39 n10 n9 fine.
    let as_is : escaped b ≡ b ∷ [] = cond-false _ _ _ n92 ∙ cond-false _ _ _ n39 ∙ cond-false _ _ _ n10 ∙ cond-false _ _ _ n9 in
    ap (λ w. quoted 39 (w ++ c ∷ text)) as_is
    ∙ cond-false (b == 39) _ _ n39 ∙ cond-false (b == 92) _ _ n92 ∙ cond-true (is_plain_byte b) _ _ (grind arith) ∙ ap (before b) e)

-- what is escaped is read as itself
quoted_text : (t text : List ℕ) → list_all is_text_byte t ≡ true → quoted 39 (flat_map escaped t ++ 39 ∷ text) ≡ Some (t, text)
unfolding quoted
quoted_text [] [] all = refl
quoted_text [] (b ∷ text) all = refl
quoted_text (b ∷ t) text all =
    let both = and_parts (is_text_byte b) (list_all is_text_byte t) all in
    ap (quoted 39) (append_assoc (escaped b) (flat_map escaped t) (39 ∷ text))
    ∙ quoted_byte (flat_map escaped t ++ 39 ∷ text) (t, text) (quoted_text t text both.1) b both.0

-- a quoted text
pub text_tokens : (profile : Profile) (signed : Bool) (t : List ℕ) (text : List ℕ) {ts : List Token} → is_text_within (text_limit profile) t ≡ true
    → tokens profile signed text ≡ ts → tokens profile signed (39 ∷ flat_map escaped t ++ 39 ∷ text) ≡ Text t ∷ ts
unfolding first_token
text_tokens profile signed t text fine go =
    let all = (and_parts _ (list_all is_text_byte t) fine).1 in
    first_is profile signed 39 (flat_map escaped t ++ 39 ∷ text) (Text t) text refl
    (ap (read_quoted profile) (quoted_text t text all) ∙ ap (λ (c : Bool). if c then (Text t, text) else bad) fine)
    ∙ ap (λ us. Text t ∷ us) go
