-- How literals are read and written.
use Rattle.std.proofs.Common.{◌≡◌, Bool, true, false, Option, Some, None, List, [], ◌∷◌, ◌++◌, ℕ, refl, ap, sym, ◌∙◌, append_assoc, ◌+◌, ◌<◌, ◌≤◌, length, take, get_or, arith}
use Rattle.std.proofs.lemmas.Bool.{cond-false, cond-true, lt-ltb}
use Rattle.std.proofs.lemmas.List.{take_more, map-append, length-map, length-take-le, take_all}
use Rattle.std.specs.Fmt.{signed_decimal}
use Rattle.std.specs.Prelude.{option_and_then, ℤ, codes, map}
use Rattle.sc_types.specs.declared.profile.Profile.TheVariants.{Nested}
use Rattle.sc_types.specs.Tokens.{tokens}
use Rattle.sc_types.specs.Values.{Open, behind, due, fit_value, fits, is_trimmed, joined, literal_value, text_literal, truth_text, value_step, value_text}
use Rattle.sc_types.specs.declared.token.Mark.TheVariants.{CloseSquare, Comma}
use Rattle.sc_types.specs.declared.token.Token.{Token}
use Rattle.sc_types.specs.declared.token.Token.TheVariants.{Mark as Sign}
use Rattle.sc_types.specs.declared.value.Value.{Value}
use Rattle.sc_types.specs.declared.value.Value.TheFolds.{fold-roll-Value}
use Rattle.sc_types.specs.declared.value.Value.TheOpen.{Value-F}
use Rattle.sc_types.specs.declared.value.Value.TheVariants.{Bool as Truth, Int, Text as Quoted, List as Listed, rolls-Bool, rolls-Int, rolls-Text, rolls-List}
use Rattle.sc_expr.specs.Literals.{after_items, comma}

-- ---- the value of a text

-- a value that was read and is within the limits is the text's
pub literal_read : (text : List ℕ) (v : Value) → is_trimmed text ≡ true → due [] (tokens Nested true text) ≡ Some v
    → fits v ≡ true → literal_value text ≡ Some v
unfolding literal_value
literal_read text v h read fine = cond-true (is_trimmed text) _ _ h ∙ ap (option_and_then fit_value) read ∙ cond-true (fits v) (Some v) None fine

-- a text with white space round it is no literal
pub literal_untrimmed : (text : List ℕ) → is_trimmed text ≡ false → literal_value text ≡ None
unfolding literal_value
literal_untrimmed text h = rw h

-- nor is one whose tokens are none
pub literal_unread : (text : List ℕ) → is_trimmed text ≡ true → due [] (tokens Nested true text) ≡ None
    → literal_value text ≡ None
unfolding literal_value
literal_unread text h read = cond-true (is_trimmed text) _ _ h ∙ ap (option_and_then fit_value) read

-- nor is one whose value is past the limits
pub literal_unfit : (text : List ℕ) (v : Value) → is_trimmed text ≡ true → due [] (tokens Nested true text) ≡ Some v
    → fits v ≡ false → literal_value text ≡ None
unfolding literal_value
literal_unfit text v h read bad = cond-true (is_trimmed text) _ _ h ∙ ap (option_and_then fit_value) read ∙ cond-false (fits v) (Some v) None bad

pub ruleset literals = (literal_read, literal_untrimmed, literal_unread, literal_unfit)

-- ---- the text of a value

-- the text of a truth value
pub truth-text : (b : Bool) → value_text (Truth b) ≡ truth_text b
unfolding value_text
truth-text b = ap value_text (sym (rolls-Bool b)) ∙ fold-roll-Value (List ℕ) value_step (Value-F.Bool b)

-- the text of a number
pub number-text : (n : ℤ) → value_text (Int n) ≡ signed_decimal n
unfolding value_text
number-text n = ap value_text (sym (rolls-Int n)) ∙ fold-roll-Value (List ℕ) value_step (Value-F.Int n)

-- the text of a text, in quotes
pub quoted-text : (text : List ℕ) → value_text (Quoted text) ≡ text_literal text
unfolding value_text
quoted-text text = ap value_text (sym (rolls-Text text)) ∙ fold-roll-Value (List ℕ) value_step (Value-F.Text text)

-- the text of a list, in brackets
pub list-text : (items : List Value) → value_text (Listed items) ≡ codes "[" ++ joined (map value_text items) ++ codes "]"
unfolding value_text
list-text items = ap value_text (sym (rolls-List items)) ∙ fold-roll-Value (List ℕ) value_step (Value-F.List items)

pub ruleset texts = (truth-text, number-text, quoted-text, list-text)

comma-some : (n : ℕ) → 0 < n → comma n ≡ codes ","
comma-some n h = rw (lt-ltb 0 n h)

joined-push : (ts : List (List ℕ)) (text : List ℕ) → joined (ts ++ text ∷ []) ≡ joined ts ++ comma (length ts) ++ text
joined-push [] text = refl
joined-push (a ∷ []) text = refl
joined-push (a ∷ b ∷ ts) text =
    let c = comma (length (b ∷ ts)) in
    let same : c ≡ comma (length (a ∷ b ∷ ts)) = comma-some (length (b ∷ ts)) (omega arith) ∙ sym (comma-some (length (a ∷ b ∷ ts)) (omega arith)) in
    ap (λ t. a ++ codes "," ++ t) (joined-push (b ∷ ts) text)
    ∙ sym (append_assoc (a ++ codes ",") (joined (b ∷ ts) ++ c) text)
    ∙ ap (λ t. t ++ text) (sym (append_assoc (a ++ codes ",") (joined (b ∷ ts)) c))
    ∙ ap (λ c. a ++ codes "," ++ joined (b ∷ ts) ++ c ++ text) same

-- one item more was written
pub next_text : (items : List Value) (i : ℕ) (v : Value) (head : List ℕ) → i < length items → v ≡ get_or items i v
    → head ++ joined (map value_text (take i items)) ++ comma i ++ value_text v ≡ head ++ joined (map value_text (take (i + 1) items))
next_text items i v head h e =
    let done = map value_text (take i items) in
    let more : take (i + 1) items ≡ take i items ++ v ∷ [] = take_more items i v h ∙ ap (λ w. take i items ++ w ∷ []) (sym e) in
    let size : length done ≡ i = simp length-map (length-take-le i items (omega arith)) in
    append_assoc (head ++ joined done) (comma i) (value_text v)
    ∙ append_assoc head (joined done) (comma i ++ value_text v)
    ∙ ap (λ t. head ++ t)
    (sym (append_assoc (joined done) (comma i) (value_text v)) ∙ ap (λ n. joined done ++ comma n ++ value_text v) (sym size) ∙ sym (joined-push done (value_text v))
    ∙ ap joined (sym (map-append value_text (take i items) (v ∷ []))) ∙ ap (λ (vs : List Value). joined (map value_text vs)) (sym more))

-- a list whose items were all written is closed by `]`
pub closed_text : (items : List Value) (i : ℕ) (old head out new : List ℕ) → head ≡ old ++ codes "[" → out ≡ head ++ joined (map value_text (take i items)) → length items ≤ i
    → new ≡ out ++ codes "]" → new ≡ old ++ value_text (Listed items)
closed_text items i old head out new h o all n =
    let texts = joined (map value_text items) in
    let whole : take i items ≡ items = take_all i items all in
    n ∙ ap (λ t. t ++ codes "]") (o ∙ ap (λ (vs : List Value). head ++ joined (map value_text vs)) whole ∙ ap (λ t. t ++ texts) h ∙ append_assoc old (codes "[") texts)
    ∙ append_assoc old (codes "[" ++ texts) (codes "]") ∙ ap (λ t. old ++ t) (sym (list-text items))
