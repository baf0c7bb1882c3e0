-- What is printed of an expression spells it.
use Rattle.std.proofs.Common.{◌≡◌, ℕ, zero, suc, ◌+◌, ◌<◌, ◌≤◌, ◌^◌, ◌-◌, Bool, true, false, List, [], ◌∷◌, ◌++◌, map, length, ℤ, pos, negsuc, codes, refl, sym, subst, ◌∙◌, arith, decimal, max, append_assoc, zero-lt-suc}
use Rattle.std.specs.List.{list_all, AllByRecursion}
use Rattle.std.proofs.lemmas.Bool.{and_parts, ltb-true}
use Rattle.sc_base.specs.Text.{is_plain_name, is_text_within, starts_with_letter}
use Rattle.sc_types.specs.declared.profile.Profile.{Profile}
use Rattle.sc_types.specs.Profiles.{text_limit}
use Rattle.sc_types.specs.Tokens.{is_word_byte}
use Rattle.sc_types.specs.Values.{joined}
use Rattle.sc_types.specs.Expressions.{looseness, left_of, is_one_word, is_datum, has_plain_names, deepest, depth_step, depth, field_text, is_natural, fits_step, has_fit_leaves, IsExpr, expr_step, expr_text, Spells, looser, two, negated, minus, item, brackets, no_items, listed, len, as_text, active, yes_word, no_word, number, literal, datum, one_word, payload_of, SpellsItems, last, more, IsExpression}
use Rattle.sc_types.specs.declared.expr.EventField.{EventField}
use Rattle.sc_types.specs.declared.expr.EventField.TheVariants as field
use Rattle.sc_types.specs.declared.expr.Expr.{Expr}
use Rattle.sc_types.specs.declared.expr.Expr.TheViews.{roll-Expr}
use Rattle.sc_types.specs.declared.expr.Expr.TheFolds.{fold-roll-Expr, ind-Expr, map-Expr}
use Rattle.sc_types.specs.declared.expr.Expr.TheOpen.{Expr-F}
use Rattle.sc_types.specs.declared.expr.Expr.TheVariants.{Bool as Truth, Int, Text, List as Listed, Datum, Field, Active, Not, Neg, Two, Item, Len, AsText, rolls-Bool, rolls-Int, rolls-Text, rolls-List, rolls-Datum, rolls-Field, rolls-Active, rolls-Not, rolls-Neg, rolls-Two, rolls-Item, rolls-Len, rolls-AsText}
use Rattle.sc_types.specs.declared.expr.Op.{Op}
use Rattle.sc_types.specs.declared.expr.Op.TheVariants.{Or, Sub}
use Rattle.sc_types.specs.declared.token.Mark.TheVariants.{Not as Bang, Open, Close, OpenSquare, CloseSquare, Comma, Dot}
use Rattle.sc_types.specs.declared.token.Token.{Token}
use Rattle.sc_types.specs.declared.token.Token.TheVariants.{Word, Number, Text as Quoted, Operator, Mark as Sign}
use Rattle.sc_expr.proofs.PrintedTokens.{ReadsAs, reads_alone, FollowsBang, mark_tokens, bang_tokens, minus_tokens, operator_tokens, word_tokens, number_tokens, text_tokens, FollowsBang-word, decimal_digits, digits_are_words}

-- what is printed of an expression, read as tokens that spell it where an index may follow
record Printed (profile : Profile) (e : Expr) : Type 0 where
  tokens_of : List Token
  spelled : (room : ℕ) → depth e ≤ room → Spells room 0 e tokens_of
  read : ReadsAs profile false (expr_text e) tokens_of
  follows : (rest : List ℕ) → FollowsBang (expr_text e ++ rest)

-- each layer of an expression opens at most one bracket more than its parts
printed_by : (profile : Profile) (x : Expr-F Expr) (e : Expr) → roll-Expr x ≡ e → (d : ℕ) → depth_step (map-Expr Expr ℕ depth x) ≡ suc d → (ts : List Token)
    → ((room : ℕ) → d ≤ room → Spells (suc room) 0 e ts)
    → ReadsAs profile false (expr_step (map-Expr Expr (List ℕ) expr_text x)) ts
    → ((rest : List ℕ) → FollowsBang (expr_step (map-Expr Expr (List ℕ) expr_text x) ++ rest))
    → Printed profile (roll-Expr x)
unfolding depth expr_text
printed_by profile x e same d deep ts spelled read follows = record {
  tokens_of = ts;
  spelled = λ room h. subst (λ z. Spells room 0 z ts) (sym same) (in_room room (omega (arith, fold-roll-Expr ℕ depth_step x)));
  read = subst (λ text. ReadsAs profile false text ts) (sym (fold-roll-Expr (List ℕ) expr_step x)) read;
  follows = λ rest. subst (λ text. FollowsBang (text ++ rest)) (sym (fold-roll-Expr (List ℕ) expr_step x)) (follows rest);
}
  where
    in_room : (room : ℕ) → suc d ≤ room → Spells room 0 e ts
    in_room zero h = absurd (omega arith)
    in_room (suc room) h = spelled room (omega arith)

-- leaves

printed_truth : (profile : Profile) (b : Bool) → Printed profile (roll-Expr (Expr-F.Bool b))
printed_truth profile true = printed_by profile (Expr-F.Bool true) (Truth true) (rolls-Bool true) 0 refl (Word (codes "true") ∷ []) (λ room h. yes_word)
    (record { before = λ rest ends go. word_tokens profile false (codes "true") rest refl refl ends go }) (λ rest. refl)
printed_truth profile false = printed_by profile (Expr-F.Bool false) (Truth false) (rolls-Bool false) 0 refl (Word (codes "false") ∷ []) (λ room h. no_word)
    (record { before = λ rest ends go. word_tokens profile false (codes "false") rest refl refl ends go }) (λ rest. refl)

printed_int : (profile : Profile) (n : ℤ) → is_natural n ≡ true → Printed profile (roll-Expr (Expr-F.Int n))
printed_int profile (negsuc n) small = absurd (cc)
printed_int profile (pos n) small =
    let low = ltb-true n (2 ^ 63) small in
    let digits = decimal_digits n (omega arith) in
    printed_by profile (Expr-F.Int (pos n)) (Int (pos n)) (rolls-Int (pos n)) 0 refl (Number (pos n) ∷ []) (λ room h. number)
    (record { before = λ rest ends go. number_tokens profile false n rest low ends go })
    (λ rest. FollowsBang-word (decimal n) rest digits.1 (digits_are_words (decimal n) digits.0))

printed_text : (profile : Profile) (text : List ℕ) → is_text_within (text_limit profile) text ≡ true → Printed profile (roll-Expr (Expr-F.Text text))
printed_text profile text fine = printed_by profile (Expr-F.Text text) (Text text) (rolls-Text text) 0 refl (Quoted text ∷ []) (λ room h. literal)
    (record { before = λ rest ends go. simp append_assoc (text_tokens profile false text rest fine go) }) (λ rest. refl)

-- a plain name is a word
plain_name : (name : List ℕ) → is_plain_name name ≡ true → (0 < length name) × (starts_with_letter name ≡ true) × (list_all is_word_byte name ≡ true)
plain_name [] plain = absurd (cc)
plain_name (b ∷ name) plain =
    let known = and_parts _ _ (and_parts _ _ plain).0 in
    (zero-lt-suc _, (and_parts _ _ known.0).1, known.1)

printed_datum : (profile : Profile) (name : List ℕ) → is_datum name ≡ true → Printed profile (roll-Expr (Expr-F.Datum name))
printed_datum profile name fine =
    let word = plain_name name (and_parts _ _ fine).0 in
    printed_by profile (Expr-F.Datum name) (Datum name) (rolls-Datum name) 0 refl (Word name ∷ []) (λ room h. datum fine)
    (record { before = λ rest ends go. word_tokens profile false name rest word.1 word.2 ends go }) (λ rest. FollowsBang-word name rest word.0 word.2)

printed_word : (profile : Profile) (f : EventField) → is_one_word f ≡ true → starts_with_letter (field_text f) ≡ true → list_all is_word_byte (field_text f) ≡ true → Printed profile (roll-Expr (Expr-F.Field f))
printed_word profile f one letter all =
    printed_by profile (Expr-F.Field f) (Field f) (rolls-Field f) 0 refl (Word (codes "_event") ∷ Sign Dot ∷ Word (field_text f) ∷ []) (λ room h. one_word f one)
    (record { before = λ rest ends go. word_tokens profile false (codes "_event") _ refl refl refl (mark_tokens profile false Dot _ refl (word_tokens profile false (field_text f) rest letter all ends go)) })
    (λ rest. refl)

printed_field : (profile : Profile) (f : EventField) → has_plain_names f ≡ true → Printed profile (roll-Expr (Expr-F.Field f))
printed_field profile (field.PayloadOf name) fine =
    let word = plain_name name fine in
    printed_by profile (Expr-F.Field (field.PayloadOf name)) (Field (field.PayloadOf name)) (rolls-Field (field.PayloadOf name)) 0 refl
    (Word (codes "_event") ∷ Sign Dot ∷ Word (codes "data") ∷ Sign Dot ∷ Word name ∷ []) (λ room h. payload_of fine)
    (record {
      before = λ rest ends go. word_tokens profile false (codes "_event") _ refl refl refl (mark_tokens profile false Dot _ refl
          (word_tokens profile false (codes "data") _ refl refl refl (mark_tokens profile false Dot _ refl (word_tokens profile false name rest word.1 word.2 ends go))));
    })
    (λ rest. refl)
printed_field profile field.Name fine = printed_word profile field.Name refl refl refl
printed_field profile field.Kind fine = printed_word profile field.Kind refl refl refl
printed_field profile field.SendId fine = printed_word profile field.SendId refl refl refl
printed_field profile field.Origin fine = printed_word profile field.Origin refl refl refl
printed_field profile field.OriginType fine = printed_word profile field.OriginType refl refl refl
printed_field profile field.InvokeId fine = printed_word profile field.InvokeId refl refl refl
printed_field profile field.Payload fine = printed_word profile field.Payload refl refl refl

printed_active : (profile : Profile) (id : List ℕ) → is_text_within (text_limit profile) id ≡ true → Printed profile (roll-Expr (Expr-F.Active id))
printed_active profile id fine =
    printed_by profile (Expr-F.Active id) (Active id) (rolls-Active id) 0 refl (Word (codes "In") ∷ Sign Open ∷ Quoted id ∷ Sign Close ∷ []) (λ room h. active)
    (record { before = λ rest ends go. simp append_assoc (word_tokens profile false (codes "In") _ refl refl refl (mark_tokens profile false Open _ refl (text_tokens profile false id _ fine (mark_tokens profile false Close rest refl go)))) })
    (λ rest. refl)

-- what is bound more closely may be bound more loosely

raise : (n : ℕ) {room : ℕ} {e : Expr} {ts : List Token} → Spells room 0 e ts → Spells room n e ts
raise zero s = s
raise (suc n) s = looser (raise n s)

raise_to : (k n m : ℕ) {room : ℕ} {e : Expr} {ts : List Token} → n + k ≡ m → Spells room n e ts → Spells room m e ts
raise_to zero n m {room} {e} {ts} same s = subst (λ b. Spells room b e ts) (omega arith) s
raise_to (suc k) n m same s = raise_to k (suc n) m (omega arith) (looser s)

looseness-le : (op : Op) → looseness op ≤ 6
looseness-le Or = omega arith
looseness-le op = omega arith

-- operators, indices and functions

printed_not : (profile : Profile) (a : Expr) → Printed profile a → Printed profile (roll-Expr (Expr-F.Not a))
printed_not profile a p =
    printed_by profile (Expr-F.Not a) (Not a) (rolls-Not a) (depth a) refl (Sign Open ∷ (Sign Bang ∷ p.tokens_of) ++ Sign Close ∷ [])
    (λ room h. brackets (raise_to 5 1 6 refl (negated (raise 1 (p.spelled room h)))))
    (record { before = λ rest ends go. simp append_assoc (mark_tokens profile false Open _ refl (bang_tokens profile _ (p.follows _) (p.read.before _ refl (mark_tokens profile false Close rest refl go)))) })
    (λ rest. refl)

printed_neg : (profile : Profile) (a : Expr) → Printed profile a → Printed profile (roll-Expr (Expr-F.Neg a))
printed_neg profile a p =
    printed_by profile (Expr-F.Neg a) (Neg a) (rolls-Neg a) (depth a) refl (Sign Open ∷ (Operator Sub ∷ p.tokens_of) ++ Sign Close ∷ [])
    (λ room h. brackets (raise_to 5 1 6 refl (minus (raise 1 (p.spelled room h)))))
    (record { before = λ rest ends go. simp append_assoc (mark_tokens profile false Open _ refl (minus_tokens profile _ (p.read.before _ refl (mark_tokens profile false Close rest refl go)))) })
    (λ rest. refl)

printed_two : (profile : Profile) (op : Op) (a b : Expr) → Printed profile a → Printed profile b → Printed profile (roll-Expr (Expr-F.Two op a b))
printed_two profile op a b p q =
    printed_by profile (Expr-F.Two op a b) (Two op a b) (rolls-Two op a b) (max (depth a) (depth b)) refl
    (Sign Open ∷ (p.tokens_of ++ Operator op ∷ q.tokens_of) ++ Sign Close ∷ [])
    (λ room h. brackets (raise_to (6 - looseness op) (looseness op) 6 (omega (arith, looseness-le op))
    (two op (raise (left_of op) (p.spelled room (omega arith))) (raise (looseness op - 1) (q.spelled room (omega arith))))))
    (record { before = λ rest ends go. simp append_assoc (mark_tokens profile false Open _ refl (p.read.before _ refl (operator_tokens profile op _ (q.read.before _ refl (mark_tokens profile false Close rest refl go))))) })
    (λ rest. refl)

printed_item : (profile : Profile) (a b : Expr) → Printed profile a → Printed profile b → Printed profile (roll-Expr (Expr-F.Item a b))
printed_item profile a b p q =
    printed_by profile (Expr-F.Item a b) (Item a b) (rolls-Item a b) (max (depth a) (depth b)) refl
    (p.tokens_of ++ Sign OpenSquare ∷ q.tokens_of ++ Sign CloseSquare ∷ [])
    (λ room h. item (p.spelled (suc room) (omega arith)) (raise 6 (q.spelled room (omega arith))))
    (record { before = λ rest ends go. simp append_assoc (p.read.before _ refl (mark_tokens profile false OpenSquare _ refl (q.read.before _ refl (mark_tokens profile false CloseSquare rest refl go)))) })
    (λ rest. simp append_assoc (p.follows _))

printed_len : (profile : Profile) (a : Expr) → Printed profile a → Printed profile (roll-Expr (Expr-F.Len a))
printed_len profile a p =
    printed_by profile (Expr-F.Len a) (Len a) (rolls-Len a) (depth a) refl (Word (codes "len") ∷ Sign Open ∷ p.tokens_of ++ Sign Close ∷ [])
    (λ room h. len (raise 6 (p.spelled room h)))
    (record { before = λ rest ends go. simp append_assoc (word_tokens profile false (codes "len") _ refl refl refl (mark_tokens profile false Open _ refl (p.read.before _ refl (mark_tokens profile false Close rest refl go)))) })
    (λ rest. refl)

printed_as_text : (profile : Profile) (a : Expr) → Printed profile a → Printed profile (roll-Expr (Expr-F.AsText a))
printed_as_text profile a p =
    printed_by profile (Expr-F.AsText a) (AsText a) (rolls-AsText a) (depth a) refl (Word (codes "text") ∷ Sign Open ∷ p.tokens_of ++ Sign Close ∷ [])
    (λ room h. as_text (raise 6 (p.spelled room h)))
    (record { before = λ rest ends go. simp append_assoc (word_tokens profile false (codes "text") _ refl refl refl (mark_tokens profile false Open _ refl (p.read.before _ refl (mark_tokens profile false Close rest refl go)))) })
    (λ rest. refl)

-- lists

-- what is printed of one expression or more, with commas between
record PrintedItems (profile : Profile) (es : List Expr) : Type 0 where
  tokens_of : List Token
  spelled : (room : ℕ) → deepest (map depth es) ≤ room → SpellsItems room es tokens_of
  read : ReadsAs profile false (joined (map expr_text es)) tokens_of

printed_items : (profile : Profile) (e : Expr) (es : List Expr) → Printed profile e → AllByRecursion (Printed profile) es → PrintedItems profile (e ∷ es)
printed_items profile e [] p ps = record {
  tokens_of = p.tokens_of;
  spelled = λ room h. last (raise 6 (p.spelled room (omega arith)));
  read = p.read;
}
printed_items profile e (f ∷ es) p ps =
    let later = printed_items profile f es ps.0 ps.1 in
    record {
      tokens_of = p.tokens_of ++ Sign Comma ∷ later.tokens_of;
      spelled = λ room h. more (raise 6 (p.spelled room (omega arith))) (later.spelled room (omega arith));
      read = record { before = λ rest ends go. simp append_assoc (p.read.before _ refl (mark_tokens profile false Comma _ refl (later.read.before rest ends go))) };
    }

printed_list : (profile : Profile) (es : List Expr) → AllByRecursion (Printed profile) es → Printed profile (roll-Expr (Expr-F.List es))
printed_list profile [] ps =
    printed_by profile (Expr-F.List []) (Listed []) (rolls-List []) 0 refl (Sign OpenSquare ∷ Sign CloseSquare ∷ []) (λ room h. no_items)
    (record { before = λ rest ends go. mark_tokens profile false OpenSquare _ refl (mark_tokens profile false CloseSquare rest refl go) })
    (λ rest. refl)
printed_list profile (e ∷ es) ps =
    let items = printed_items profile e es ps.0 ps.1 in
    printed_by profile (Expr-F.List (e ∷ es)) (Listed (e ∷ es)) (rolls-List (e ∷ es)) (deepest (map depth (e ∷ es))) refl (Sign OpenSquare ∷ items.tokens_of ++ Sign CloseSquare ∷ [])
    (λ room h. listed (items.spelled room h))
    (record { before = λ rest ends go. simp append_assoc (mark_tokens profile false OpenSquare _ refl (items.read.before _ refl (mark_tokens profile false CloseSquare rest refl go))) })
    (λ rest. refl)

-- every expression

IsPrinted : (profile : Profile) → Expr → Type 0
IsPrinted profile e = has_fit_leaves profile e ≡ true → Printed profile e

abbrev Known : (profile : Profile) → Type 0
Known profile = (e : Expr) × IsPrinted profile e

each_printed : (profile : Profile) (es : List (Known profile)) → list_all (λ b. b) (map (has_fit_leaves profile) (map (λ (e : Known profile). e.0) es)) ≡ true → AllByRecursion (Printed profile) (map (λ (e : Known profile). e.0) es)
unfolding IsPrinted
each_printed profile [] fine = tt
each_printed profile (e ∷ es) fine = let both = and_parts _ _ fine in (e.1 both.0, each_printed profile es both.1)

layer_printed : (profile : Profile) (x : Expr-F (Known profile)) → fits_step profile (map-Expr Expr Bool (has_fit_leaves profile) (map-Expr (Known profile) Expr (λ e. e.0) x)) ≡ true → Printed profile (roll-Expr (map-Expr (Known profile) Expr (λ e. e.0) x))
unfolding IsPrinted
layer_printed profile (Expr-F.Bool b) fine = printed_truth profile b
layer_printed profile (Expr-F.Int n) fine = printed_int profile n fine
layer_printed profile (Expr-F.Text text) fine = printed_text profile text fine
layer_printed profile (Expr-F.List items) fine = printed_list profile (map (λ (e : Known profile). e.0) items) (each_printed profile items fine)
layer_printed profile (Expr-F.Datum name) fine = printed_datum profile name fine
layer_printed profile (Expr-F.Field f) fine = printed_field profile f fine
layer_printed profile (Expr-F.Active id) fine = printed_active profile id fine
layer_printed profile (Expr-F.Not a) fine = printed_not profile a.0 (a.1 fine)
layer_printed profile (Expr-F.Neg a) fine = printed_neg profile a.0 (a.1 fine)
layer_printed profile (Expr-F.Two op a b) fine = let both = and_parts _ _ fine in printed_two profile op a.0 b.0 (a.1 both.0) (b.1 both.1)
layer_printed profile (Expr-F.Item a b) fine = let both = and_parts _ _ fine in printed_item profile a.0 b.0 (a.1 both.0) (b.1 both.1)
layer_printed profile (Expr-F.Len a) fine = printed_len profile a.0 (a.1 fine)
layer_printed profile (Expr-F.AsText a) fine = printed_as_text profile a.0 (a.1 fine)

every_printed : (profile : Profile) (e : Expr) → IsPrinted profile e
unfolding IsPrinted has_fit_leaves
every_printed profile = ind-Expr (IsPrinted profile) (λ x y is.
    subst (λ z. IsPrinted profile (roll-Expr z)) is (λ fine. layer_printed profile y (sym (fold-roll-Expr Bool (fits_step profile) (map-Expr (Known profile) Expr (λ e. e.0) y)) ∙ fine)))

-- what is printed of an expression spells it
pub printed_is_expression : (profile : Profile) (e : Expr) → IsExpr profile e → IsExpression profile (expr_text e) e
unfolding IsPrinted
printed_is_expression profile e is =
    let p = every_printed profile e is.leaves in
    record {
      spelled = subst (λ ts. Spells 256 6 e ts) (sym (reads_alone profile p.read)) (raise 6 (p.spelled 256 is.shallow));
      shallow = is.shallow;
    }
