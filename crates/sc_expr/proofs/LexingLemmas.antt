-- The tokens of a text, one after the other: each takes a byte or more, so that there are no more of them than bytes.
use Rattle.std.proofs.Common.{◌≡◌, ℕ, ◌+◌, ◌-◌, ◌<◌, ◌≤◌, ◌==◌, ◌&&◌, zero, suc, Bool, true, false, cond, if◌then◌else◌, Option, Some, None, List, [], ◌∷◌, length, drop, get_or, refl, arith, ap, sym, ◌∙◌, take, length-drop}
use Rattle.std.proofs.lemmas.List.{take_rest}
use Rattle.std.specs.Prelude.{option_and_then}
use Rattle.std.specs.List.{prefix_len, take_while}
use Rattle.sc_types.specs.declared.profile.Profile.{Profile}
use Rattle.sc_types.specs.Profiles.{text_limit}
use Rattle.sc_types.specs.Descriptors.{is_white_space}
use Rattle.sc_base.specs.Text.{is_digit, is_text_within}
use Rattle.sc_types.specs.Tokens.{Read, bad, op_text, mark_text, op_at, mark_at, read_mark, read_sign, is_word_byte, number_of, negative, run_token, read_token, read_run, read_negative, escape, is_quote, is_plain_byte, before, quoted, read_quoted, first_token, without_white, tokens_step, tokens_up_to, tokens}
use Rattle.sc_types.specs.declared.expr.Op.{Op}
use Rattle.sc_types.specs.declared.expr.Op.TheVariants.{Or}
use Rattle.sc_types.specs.declared.token.Mark.{Mark}
use Rattle.sc_types.specs.declared.token.Mark.TheVariants as mark
use Rattle.sc_types.specs.declared.token.Token.{Token}
use Rattle.sc_types.specs.declared.token.Token.TheVariants.{Text, Bad}
use Rattle.sc_expr.proofs.RunLemmas.{is_zero, is_above}

-- ---- what a token leaves

left : Option (List ℕ × List ℕ) → ℕ
left None = 0
left (Some q) = length q.1

left-before : (b n : ℕ) (r : Option (List ℕ × List ℕ)) → left r ≤ n → left (before b r) ≤ n
unfolding left
left-before b n None h = h
left-before b n (Some q) h = h

left-quote : (b c : ℕ) (rest : List ℕ) (here there : Option (List ℕ × List ℕ)) (e : Option ℕ) (v w x : Bool)
    → left there ≤ length rest → left here ≤ length (c ∷ rest)
    → left (if v then Some ([], c ∷ rest) else if w then option_and_then (λ e. before e there) e else if x then before b here else None) ≤ length (b ∷ c ∷ rest)
unfolding left
left-quote b c rest here there e true w x h k = omega arith
left-quote b c rest here there None false true x h k = omega arith
left-quote b c rest here there (Some e) false true x h k = let l = left-before e (length rest) there h in omega arith
left-quote b c rest here there e false false true h k = let l = left-before b (length (c ∷ rest)) here k in omega arith
left-quote b c rest here there e false false false h k = omega arith

left-quoted : (quote : ℕ) (text : List ℕ) → left (quoted quote text) ≤ length text
unfolding quoted left
left-quoted quote [] = omega arith
left-quoted quote (b ∷ []) = by (b == quote)
  where
    by : (v : Bool) → left (if v then Some ([], []) else None) ≤ length (b ∷ [])
    by true = omega arith
    by false = omega arith
left-quoted quote (b ∷ c ∷ rest) =
    left-quote b c rest (quoted quote (c ∷ rest)) (quoted quote rest) (escape c) (b == quote) (b == 92) (is_plain_byte b)
    (left-quoted quote rest) (left-quoted quote (c ∷ rest))

left-read_quoted : (profile : Profile) (q : Option (List ℕ × List ℕ)) → length (read_quoted profile q).1 ≤ left q
unfolding left
left-read_quoted profile None = omega arith
left-read_quoted profile (Some q) = by (is_text_within (text_limit profile) q.0)
  where
    by : (v : Bool) → length (if v then (Text q.0, q.1) else bad).1 ≤ length q.1
    by true = omega arith
    by false = omega arith

left-read_token : (t : Token) (rest : List ℕ) → length (read_token t rest).1 ≤ length rest
left-read_token Bad rest = omega arith
left-read_token t rest = omega arith

left-op : (op : Op) → 1 ≤ length (op_text op)
left-op Or = omega arith
left-op op = omega arith

left-mark : (m : Mark) → 1 ≤ length (mark_text m)
left-mark mark.Not = omega arith
left-mark m = omega arith

left-read_mark : (b : ℕ) (rest : List ℕ) (m : Option Mark) → length (read_mark (b ∷ rest) m).1 ≤ length rest
left-read_mark b rest None = omega arith
left-read_mark b rest (Some m) = omega (arith, left-mark m, length-drop (length (mark_text m)) (b ∷ rest))

left-read_sign : (b : ℕ) (rest : List ℕ) (op : Option Op) → length (read_sign (b ∷ rest) op).1 ≤ length rest
left-read_sign b rest None = left-read_mark b rest (mark_at (b ∷ rest))
left-read_sign b rest (Some op) = omega (arith, left-op op, length-drop (length (op_text op)) (b ∷ rest))

left-run : (b : ℕ) (rest : List ℕ) → is_word_byte b ≡ true → length (read_run (b ∷ rest)).1 ≤ length rest
left-run b rest h =
    let n : prefix_len is_word_byte (b ∷ rest) ≡ 1 + prefix_len is_word_byte rest = ap (λ v. cond v (1 + prefix_len is_word_byte rest) 0) h in
    omega (
      arith,
      n,
      length-drop (prefix_len is_word_byte (b ∷ rest)) (b ∷ rest),
      left-read_token (run_token (take_while is_word_byte (b ∷ rest))) (drop (prefix_len is_word_byte (b ∷ rest)) (b ∷ rest)),
    )

left-negative : (rest : List ℕ) → length (read_negative rest).1 ≤ length rest
left-negative rest =
    omega (
      arith,
      length-drop (prefix_len is_word_byte rest) rest,
      left-read_token (negative (number_of (take_while is_word_byte rest))) (drop (prefix_len is_word_byte rest) rest),
    )

left-choice : (k : ℕ) (q r n s : Read) (u v w : Bool) → length q.1 ≤ k → (v ≡ true → length r.1 ≤ k) → length n.1 ≤ k → length s.1 ≤ k
    → length (if u then q else if v then r else if w then n else s).1 ≤ k
left-choice k q r n s true v w a b c d = a
left-choice k q r n s false true w a b c d = b refl
left-choice k q r n s false false true a b c d = c
left-choice k q r n s false false false a b c d = d

-- a token takes a byte or more
pub first_token-takes : (profile : Profile) (signed : Bool) (b : ℕ) (rest : List ℕ) → length (first_token profile signed b rest).1 ≤ length rest
unfolding first_token
first_token-takes profile signed b rest =
    left-choice (length rest) (read_quoted profile (quoted b rest)) (read_run (b ∷ rest)) (read_negative rest) (read_sign (b ∷ rest) (op_at (b ∷ rest)))
    (is_quote b) (is_word_byte b) (signed && b == 45 && is_digit (get_or rest 0 0))
    (omega (arith, left-read_quoted profile (quoted b rest), left-quoted b rest))
    (left-run b rest) (left-negative rest) (left-read_sign b rest (op_at (b ∷ rest)))

-- ---- so a text has no more tokens than bytes

tokens_step-same : (profile : Profile) (signed : Bool) (later other : List ℕ → List Token) (text : List ℕ) → ((rest : List ℕ) → length rest < length text → later rest ≡ other rest)
    → tokens_step profile signed later text ≡ tokens_step profile signed other text
tokens_step-same profile signed later other [] same = refl
tokens_step-same profile signed later other (b ∷ rest) same =
    ap (λ ts. (first_token profile signed b rest).0 ∷ ts) (same (first_token profile signed b rest).1 (omega (arith, first_token-takes profile signed b rest)))

length-without_white : (text : List ℕ) → length (without_white text) ≤ length text
length-without_white text = omega (arith, length-drop (prefix_len is_white_space text) text)

tokens_up_to-enough : (profile : Profile) (n m : ℕ) (signed : Bool) (text : List ℕ) → length text ≤ n → length text ≤ m → tokens_up_to n profile signed text ≡ tokens_up_to m profile signed text
tokens_up_to-enough profile zero zero signed text h k = refl
tokens_up_to-enough profile zero (suc m) signed [] h k = refl
tokens_up_to-enough profile zero (suc m) signed (b ∷ rest) h k = absurd (omega arith)
tokens_up_to-enough profile (suc n) zero signed [] h k = refl
tokens_up_to-enough profile (suc n) zero signed (b ∷ rest) h k = absurd (omega arith)
tokens_up_to-enough profile (suc n) (suc m) signed text h k =
    tokens_step-same profile signed (tokens_up_to n profile signed) (tokens_up_to m profile signed) (without_white text)
    (λ rest l. tokens_up_to-enough profile n m signed rest (omega (arith, length-without_white text)) (omega (arith, length-without_white text)))

-- the first token, and then the tokens of what stands behind it
pub tokens_next : (profile : Profile) (signed : Bool) (text : List ℕ) → tokens profile signed text ≡ tokens_step profile signed (tokens profile signed) (without_white text)
unfolding tokens
tokens_next profile signed text =
    tokens_up_to-enough profile (length text) (suc (length text)) signed text (omega arith) (omega arith)
    ∙ tokens_step-same profile signed (tokens_up_to (length text) profile signed) (tokens profile signed) (without_white text)
    (λ rest l. tokens_up_to-enough profile (length text) (length rest) signed rest (omega (arith, length-without_white text)) (omega arith))

-- where nothing but white space is left
pub tokens_none : (profile : Profile) (signed : Bool) (text : List ℕ) → without_white text ≡ [] → tokens profile signed text ≡ []
tokens_none profile signed text h = tokens_next profile signed text ∙ ap (tokens_step profile signed (tokens profile signed)) h

-- where a byte stands behind the white space
pub tokens_some : (profile : Profile) (signed : Bool) (text : List ℕ) (b : ℕ) (rest : List ℕ) → without_white text ≡ b ∷ rest
    → tokens profile signed text ≡ (first_token profile signed b rest).0 ∷ tokens profile signed (first_token profile signed b rest).1
tokens_some profile signed text b rest h = tokens_next profile signed text ∙ ap (tokens_step profile signed (tokens profile signed)) h

-- ---- the first token of a text, by its first byte

whole : (text : List ℕ) → 0 < length text → text ≡ get_or text 0 0 ∷ drop 1 text
whole [] h = absurd (omega arith)
whole (b ∷ rest) h = refl

-- a quote begins a text in quotes
pub first_quoted : (profile : Profile) (signed : Bool) (text : List ℕ) → is_quote (get_or text 0 0) ≡ true
    → read_quoted profile (quoted (get_or text 0 0) (take (length text - 1) (drop 1 text))) ≡ first_token profile signed (get_or text 0 0) (drop 1 text)
unfolding first_token
first_quoted profile signed text h = rw (h, take_rest text 1)

-- a letter, a digit or `_` begins a run
pub first_run : (profile : Profile) (signed : Bool) (text : List ℕ) → 0 < length text → is_quote (get_or text 0 0) ≡ false → is_word_byte (get_or text 0 0) ≡ true
    → read_run text ≡ first_token profile signed (get_or text 0 0) (drop 1 text)
unfolding first_token
first_run profile signed text s h k = ap read_run (whole text s) ∙ rw (h, k) refl

third : (q r n s : Read) (u v w : Bool) → u ≡ false → v ≡ false → w ≡ true → n ≡ (if u then q else if v then r else if w then n else s)
third q r n s u v w h k l = rw (h, k, l)

last : (q r n s : Read) (u v w : Bool) → u ≡ false → v ≡ false → w ≡ false → s ≡ (if u then q else if v then r else if w then n else s)
last q r n s u v w h k l = rw (h, k, l)

begins_negative : Bool → ℕ → List ℕ → Bool
begins_negative signed b rest = signed && b == 45 && is_digit (get_or rest 0 0)

-- a `-` before a digit begins a negative number, where these are read
pub first_negative : (profile : Profile) (signed : Bool) (text : List ℕ) → is_quote (get_or text 0 0) ≡ false → is_word_byte (get_or text 0 0) ≡ false
    → signed && get_or text 0 0 == 45 && is_digit (get_or (take (length text - 1) (drop 1 text)) 0 0) ≡ true
    → read_negative (take (length text - 1) (drop 1 text)) ≡ first_token profile signed (get_or text 0 0) (drop 1 text)
unfolding first_token begins_negative
first_negative profile signed text h k l =
    let b = get_or text 0 0 in
    let rest = drop 1 text in
    ap read_negative (take_rest text 1)
    ∙ third (read_quoted profile (quoted b rest)) (read_run (b ∷ rest)) (read_negative rest) (read_sign (b ∷ rest) (op_at (b ∷ rest)))
    (is_quote b) (is_word_byte b) (begins_negative signed b rest) h k
    (ap (begins_negative signed b) (sym (take_rest text 1)) ∙ l)

-- any other byte begins an operator or a mark
pub first_sign : (profile : Profile) (signed : Bool) (text : List ℕ) → 0 < length text → is_quote (get_or text 0 0) ≡ false → is_word_byte (get_or text 0 0) ≡ false
    → signed && get_or text 0 0 == 45 && is_digit (get_or (take (length text - 1) (drop 1 text)) 0 0) ≡ false
    → read_sign text (op_at text) ≡ first_token profile signed (get_or text 0 0) (drop 1 text)
unfolding first_token begins_negative
first_sign profile signed text s h k l =
    let b = get_or text 0 0 in
    let rest = drop 1 text in
    ap (λ t. read_sign t (op_at t)) (whole text s)
    ∙ last (read_quoted profile (quoted b rest)) (read_run (b ∷ rest)) (read_negative rest) (read_sign (b ∷ rest) (op_at (b ∷ rest)))
    (is_quote b) (is_word_byte b) (begins_negative signed b rest) h k
    (ap (begins_negative signed b) (sym (take_rest text 1)) ∙ l)

-- ---- the lexer's step

empty_of : (text : List ℕ) → length text ≡ 0 → text ≡ []
empty_of [] h = refl
empty_of (b ∷ rest) h = absurd (omega arith)

-- nothing but white space has no token
pub at_end : (profile : Profile) (signed : Bool) (text behind : List ℕ) → behind ≡ without_white text → length behind == 0 ≡ true
    → (tokens profile signed text ≡ []) × (tokens profile signed behind ≡ [])
at_end profile signed text behind w h =
    let e : behind ≡ [] = empty_of behind (is_zero (length behind) h) in
    (tokens_none profile signed text (sym w ∙ e), ap (tokens profile signed) e ∙ tokens_none profile signed [] refl)

-- behind the white space stands the first token, and behind it the others
pub at_token : (profile : Profile) (signed : Bool) (text behind : List ℕ) (r : Read) → behind ≡ without_white text → length behind == 0 ≡ false
    → r ≡ first_token profile signed (get_or behind 0 0) (drop 1 behind) → tokens profile signed text ≡ r.0 ∷ tokens profile signed r.1
at_token profile signed text behind r w h e =
    tokens_some profile signed text (get_or behind 0 0) (drop 1 behind) (sym w ∙ whole behind (is_above (length behind) h))
    ∙ ap (λ (q : Read). q.0 ∷ tokens profile signed q.1) (sym e)
