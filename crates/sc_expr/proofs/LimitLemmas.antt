-- What a text spells is within the limits of expressions, since its tokens are.
use Rattle.std.proofs.Common.{◌≡◌, ℕ, zero, suc, ◌<◌, ◌≤◌, ◌^◌, Bool, true, false, if◌then◌else◌, nat_le, nat_lt, Option, Some, None, List, [], ◌∷◌, ◌++◌, map, length, drop, get_or, pos, refl, sym, ap, ◌∙◌, arith}
use Rattle.std.specs.List.{list_all, All, prefix_len, take_while}
use Rattle.std.proofs.lemmas.Bool.{leb-true, le-leb, and_parts, and_from}
use Rattle.std.proofs.lemmas.Bool.Decides.{nat_tests}
use Rattle.std.proofs.lemmas.List.Elements.{All-nil, All-cons}
use Rattle.std.proofs.lemmas.List.Folds.{list_all-append}
use Rattle.std.proofs.lemmas.Str.{IsUtf8-from_ascii, is_utf8-from_IsUtf8}
use Rattle.std.proofs.lemmas.Str.Ascii.{IsAscii-from_all}
use Rattle.sc_base.specs.Text.{is_digit, is_text_within, is_text_byte, is_plain_name}
use Rattle.sc_types.specs.declared.profile.Profile.{Profile}
use Rattle.sc_types.specs.declared.profile.Profile.TheVariants.{Flat, Nested}
use Rattle.sc_types.specs.Profiles.{text_limit}
use Rattle.sc_types.specs.Tokens.{Read, bad, op_at, mark_at, read_mark, read_sign, is_word_byte, number_of, positive, run_token, read_token, read_run, is_quote, quoted, read_quoted, first_token, without_white, tokens_step, tokens_up_to, tokens}
use Rattle.sc_types.specs.Expressions.{is_one_word, has_plain_names, is_natural, fits_step, has_fit_leaves, IsExpr, Spells, looser, two, negated, minus, item, brackets, no_items, listed, len, as_text, active, active_name, yes_word, no_word, number, literal, datum, one_word, payload_of, SpellsItems, last, more, IsExpression}
use Rattle.sc_types.specs.declared.expr.EventField.{EventField}
use Rattle.sc_types.specs.declared.expr.EventField.TheVariants as field
use Rattle.sc_types.specs.declared.expr.Expr.{Expr}
use Rattle.sc_types.specs.declared.expr.Expr.TheViews.{roll-Expr}
use Rattle.sc_types.specs.declared.expr.Expr.TheFolds.{fold-roll-Expr, map-Expr}
use Rattle.sc_types.specs.declared.expr.Expr.TheOpen.{Expr-F}
use Rattle.sc_types.specs.declared.expr.Expr.TheVariants.{rolls-Bool, rolls-Int, rolls-Text, rolls-List, rolls-Datum, rolls-Field, rolls-Active, rolls-Not, rolls-Neg, rolls-Two, rolls-Item, rolls-Len, rolls-AsText}
use Rattle.sc_types.specs.declared.expr.Op.{Op}
use Rattle.sc_types.specs.declared.token.Mark.{Mark}
use Rattle.sc_types.specs.declared.token.Mark.TheVariants.{Close, OpenSquare, CloseSquare, Comma}
use Rattle.sc_types.specs.declared.token.Token.{Token}
use Rattle.sc_types.specs.declared.token.Token.TheVariants.{Word, Number, Text as Quoted, Operator, Mark as Sign, Bad}

-- ---- the tokens of a text

-- whether what a token holds may be a leaf
abbrev is_fit : Profile → Token → Bool
is_fit profile (Number n) = is_natural n
is_fit profile (Quoted text) = is_text_within (text_limit profile) text
is_fit profile t = true

fit-positive : (profile : Profile) (o : Option ℕ) → is_fit profile (positive o) ≡ true
fit-positive profile None = refl
fit-positive profile (Some n) = by (nat_lt n (2 ^ 63)) refl
  where
    by : (v : Bool) → nat_lt n (2 ^ 63) ≡ v → is_fit profile (if v then Number (pos n) else Bad) ≡ true
    by true h = h
    by false h = refl

fit-run_token : (profile : Profile) (run : List ℕ) → is_fit profile (run_token run) ≡ true
fit-run_token profile run = by (is_digit (get_or run 0 0))
  where
    by : (v : Bool) → is_fit profile (if v then positive (number_of run) else Word run) ≡ true
    by true = fit-positive profile (number_of run)
    by false = refl

fit-read_token : (profile : Profile) (t : Token) (rest : List ℕ) → is_fit profile t ≡ true → is_fit profile (read_token t rest).0 ≡ true
fit-read_token profile Bad rest h = refl
fit-read_token profile t rest h = h

fit-run : (profile : Profile) (text : List ℕ) → is_fit profile (read_run text).0 ≡ true
fit-run profile text =
    fit-read_token profile (run_token (take_while is_word_byte text)) (drop (prefix_len is_word_byte text) text) (fit-run_token profile (take_while is_word_byte text))

fit-quoted : (profile : Profile) (q : Option (List ℕ × List ℕ)) → is_fit profile (read_quoted profile q).0 ≡ true
fit-quoted profile None = refl
fit-quoted profile (Some q) = by (is_text_within (text_limit profile) q.0) refl
  where
    by : (v : Bool) → is_text_within (text_limit profile) q.0 ≡ v → is_fit profile (if v then (Quoted q.0, q.1) else bad).0 ≡ true
    by true h = h
    by false h = refl

fit-mark : (profile : Profile) (text : List ℕ) (m : Option Mark) → is_fit profile (read_mark text m).0 ≡ true
fit-mark profile text None = refl
fit-mark profile text (Some m) = refl

fit-sign : (profile : Profile) (text : List ℕ) (op : Option Op) → is_fit profile (read_sign text op).0 ≡ true
fit-sign profile text None = fit-mark profile text (mark_at text)
fit-sign profile text (Some op) = refl

fit-choice : (profile : Profile) (q r s : Read) (u v : Bool) → is_fit profile q.0 ≡ true → is_fit profile r.0 ≡ true → is_fit profile s.0 ≡ true → is_fit profile (if u then q else if v then r else s).0 ≡ true
fit-choice profile q r s true v a b c = a
fit-choice profile q r s false true a b c = b
fit-choice profile q r s false false a b c = c

fit-first : (profile : Profile) (b : ℕ) (rest : List ℕ) → is_fit profile (first_token profile false b rest).0 ≡ true
unfolding first_token
fit-first profile b rest =
    fit-choice profile (read_quoted profile (quoted b rest)) (read_run (b ∷ rest)) (read_sign (b ∷ rest) (op_at (b ∷ rest))) (is_quote b) (is_word_byte b)
    (fit-quoted profile (quoted b rest)) (fit-run profile (b ∷ rest)) (fit-sign profile (b ∷ rest) (op_at (b ∷ rest)))

fit-step : (profile : Profile) (later : List ℕ → List Token) → ((text : List ℕ) → list_all (is_fit profile) (later text) ≡ true) → (text : List ℕ) → list_all (is_fit profile) (tokens_step profile false later text) ≡ true
fit-step profile later fit [] = refl
fit-step profile later fit (b ∷ rest) = and_from _ _ (fit-first profile b rest) (fit (first_token profile false b rest).1)

fit-up_to : (profile : Profile) (most : ℕ) (text : List ℕ) → list_all (is_fit profile) (tokens_up_to most profile false text) ≡ true
fit-up_to profile zero text = refl
fit-up_to profile (suc most) text = fit-step profile (tokens_up_to most profile false) (fit-up_to profile most) (without_white text)

fit-tokens : (profile : Profile) (text : List ℕ) → list_all (is_fit profile) (tokens profile false text) ≡ true
unfolding tokens
fit-tokens profile text = fit-up_to profile (length text) text

-- ---- a plain name is a text

word_ascii : (name : List ℕ) → list_all is_word_byte name ≡ true → All (λ b. b < 128) name
word_ascii [] all = All-nil (λ b. b < 128)
word_ascii (b ∷ name) all =
    let both = and_parts (is_word_byte b) (list_all is_word_byte name) all in
    All-cons (λ b. b < 128) b name (grind (arith, nat_tests)) (word_ascii name both.1)

word_text : (name : List ℕ) → list_all is_word_byte name ≡ true → list_all is_text_byte name ≡ true
word_text [] all = refl
word_text (b ∷ name) all =
    let both = and_parts (is_word_byte b) (list_all is_word_byte name) all in
    and_from (is_text_byte b) _ (grind (arith, nat_tests)) (word_text name both.1)

short_within : (profile : Profile) (n : ℕ) → n ≤ 128 → nat_le n (text_limit profile) ≡ true
short_within Flat n h = le-leb n 4096 (omega arith)
short_within Nested n h = le-leb n 65536 (omega arith)

plain_is_text : (profile : Profile) (name : List ℕ) → is_plain_name name ≡ true → is_text_within (text_limit profile) name ≡ true
plain_is_text profile name plain =
    let known = and_parts _ _ (and_parts _ _ plain).0 in
    let short = leb-true (length name) 128 (and_parts _ _ known.0).0 in
    and_from _ _
    (and_from _ _ (short_within profile (length name) short) (is_utf8-from_IsUtf8 name (IsUtf8-from_ascii name (IsAscii-from_all name (word_ascii name known.1)))))
    (word_text name known.1)

-- ---- so are the leaves of what they spell

-- by the leaves of the parts
fit_by : (profile : Profile) (x : Expr-F Expr) (e : Expr) → roll-Expr x ≡ e → fits_step profile (map-Expr Expr Bool (has_fit_leaves profile) x) ≡ true → has_fit_leaves profile e ≡ true
unfolding has_fit_leaves
fit_by profile x e same fit = ap (has_fit_leaves profile) (sym same) ∙ fold-roll-Expr Bool (fits_step profile) x ∙ fit

one_word_fits : (f : EventField) → is_one_word f ≡ true → has_plain_names f ≡ true
one_word_fits (field.PayloadOf name) one = absurd (cc)
one_word_fits f one = refl

both_fit : (profile : Profile) (ts us : List Token) → list_all (is_fit profile) (ts ++ us) ≡ true → (list_all (is_fit profile) ts ≡ true) × (list_all (is_fit profile) us ≡ true)
both_fit profile ts us fit = and_parts _ _ (sym (list_all-append (is_fit profile) ts us) ∙ fit)

mutual
  fit_leaves : (profile : Profile) {room bound : ℕ} {e : Expr} {us : List Token} → Spells room bound e us → list_all (is_fit profile) us ≡ true → has_fit_leaves profile e ≡ true
  fit_leaves profile (looser d) fit = fit_leaves profile d fit
  fit_leaves profile (two op {a = a} {b = b} {ts = ts} {us = us} d d') fit =
      let both = both_fit profile ts (Operator op ∷ us) fit in
      fit_by profile (Expr-F.Two op a b) _ (rolls-Two op a b) (and_from _ _ (fit_leaves profile d both.0) (fit_leaves profile d' both.1))
  fit_leaves profile (negated {a = a} d) fit = fit_by profile (Expr-F.Not a) _ (rolls-Not a) (fit_leaves profile d fit)
  fit_leaves profile (minus {a = a} d) fit = fit_by profile (Expr-F.Neg a) _ (rolls-Neg a) (fit_leaves profile d fit)
  fit_leaves profile (item {a = a} {b = b} {ts = ts} {us = us} d d') fit =
      let both = both_fit profile ts (Sign OpenSquare ∷ us) (both_fit profile (ts ++ Sign OpenSquare ∷ us) (Sign CloseSquare ∷ []) fit).0 in
      fit_by profile (Expr-F.Item a b) _ (rolls-Item a b) (and_from _ _ (fit_leaves profile d both.0) (fit_leaves profile d' both.1))
  fit_leaves profile (brackets {ts = ts} d) fit = fit_leaves profile d (both_fit profile ts (Sign Close ∷ []) fit).0
  fit_leaves profile no_items fit = fit_by profile (Expr-F.List []) _ (rolls-List []) refl
  fit_leaves profile (listed {es = es} {ts = ts} ds) fit = fit_by profile (Expr-F.List es) _ (rolls-List es) (fit_items profile ds (both_fit profile ts (Sign CloseSquare ∷ []) fit).0)
  fit_leaves profile (len {a = a} {ts = ts} d) fit = fit_by profile (Expr-F.Len a) _ (rolls-Len a) (fit_leaves profile d (both_fit profile ts (Sign Close ∷ []) fit).0)
  fit_leaves profile (as_text {a = a} {ts = ts} d) fit = fit_by profile (Expr-F.AsText a) _ (rolls-AsText a) (fit_leaves profile d (both_fit profile ts (Sign Close ∷ []) fit).0)
  fit_leaves profile (active {id = id}) fit = fit_by profile (Expr-F.Active id) _ (rolls-Active id) (and_parts (is_text_within (text_limit profile) id) true fit).0
  fit_leaves profile (active_name {id = id} plain) fit = fit_by profile (Expr-F.Active id) _ (rolls-Active id) (plain_is_text profile id plain)
  fit_leaves profile yes_word fit = fit_by profile (Expr-F.Bool true) _ (rolls-Bool true) refl
  fit_leaves profile no_word fit = fit_by profile (Expr-F.Bool false) _ (rolls-Bool false) refl
  fit_leaves profile (number {n = n}) fit = fit_by profile (Expr-F.Int n) _ (rolls-Int n) (and_parts (is_natural n) true fit).0
  fit_leaves profile (literal {text = text}) fit = fit_by profile (Expr-F.Text text) _ (rolls-Text text) (and_parts (is_text_within (text_limit profile) text) true fit).0
  fit_leaves profile (datum {name = name} is) fit = fit_by profile (Expr-F.Datum name) _ (rolls-Datum name) is
  fit_leaves profile (one_word f one) fit = fit_by profile (Expr-F.Field f) _ (rolls-Field f) (one_word_fits f one)
  fit_leaves profile (payload_of {name = name} plain) fit = fit_by profile (Expr-F.Field (field.PayloadOf name)) _ (rolls-Field (field.PayloadOf name)) plain

  fit_items : (profile : Profile) {room : ℕ} {es : List Expr} {us : List Token} → SpellsItems room es us → list_all (is_fit profile) us ≡ true
      → list_all (λ b. b) (map (has_fit_leaves profile) es) ≡ true
  fit_items profile (last d) fit = and_from _ _ (fit_leaves profile d fit) refl
  fit_items profile (more {ts = ts} {us = us} d ds) fit =
      let both = both_fit profile ts (Sign Comma ∷ us) fit in
      and_from _ _ (fit_leaves profile d both.0) (fit_items profile ds both.1)

-- what a text spells is within the limits
pub within_limits : (profile : Profile) (text : List ℕ) (e : Expr) → IsExpression profile text e → IsExpr profile e
within_limits profile text e is = record { shallow = is.shallow; leaves = fit_leaves profile is.spelled (fit-tokens profile text) }
