-- What is spelled, the descent reads.
use Rattle.std.proofs.Common.{◌≡◌, ℕ, zero, suc, ◌≤◌, ◌<◌, ◌-◌, ◌==◌, Bool, true, false, not, ◌||◌, if◌then◌else◌, nat_lt, Some, IsTrue, List, [], ◌∷◌, ◌++◌, length, map, codes, bytes_eq, option_map, option_and_then, refl, sym, ap, ◌∙◌, subst, append_assoc, length-append, lt-ltb, ltb-true, ltb-false, le-ltb, arith}
use Rattle.std.proofs.lemmas.Bool.{and_parts, or_parts, not-true, cond_both, cond-true, cond-false, ne_eqb, eq-eqb}
use Rattle.sc_types.specs.Expressions.{Spells, looser, two, negated, minus, item, brackets, no_items, listed, len, as_text, active, active_name, yes_word, no_word, number, literal, datum, one_word, payload_of, SpellsItems, last, more, depth, deepest, looseness, repeats, left_of, is_datum, is_one_word, field_text}
use Rattle.sc_base.specs.Text.{is_plain_name, is_keyword}
use Rattle.sc_types.specs.declared.expr.EventField.{EventField}
use Rattle.sc_types.specs.declared.expr.EventField.TheVariants as field
use Rattle.sc_types.specs.declared.expr.Expr.{Expr}
use Rattle.sc_types.specs.declared.expr.Expr.TheVariants.{Bool as Truth, Int, Text, List as Listed, Datum, Field, Active, Not, Neg, Two, Item, Len, AsText}
use Rattle.sc_types.specs.declared.expr.Op.{Op}
use Rattle.sc_types.specs.declared.expr.Op.TheVariants.{Sub}
use Rattle.sc_types.specs.declared.token.Mark.TheVariants.{Not as Bang, Open, Close, OpenSquare, CloseSquare, Comma, Dot}
use Rattle.sc_types.specs.declared.token.Token.{Token}
use Rattle.sc_types.specs.declared.token.Token.TheVariants.{Word, Number, Text as Quoted, Operator, Mark as Sign}
use Rattle.sc_expr.specs.Descent.{identified, Parse, within, with_rest, made, closed, chained_from, prefixed, indexed_from, payload, event_field, named, items, front, list_of, primary, postfix, loose, inside, loose_at}
use Rattle.sc_expr.proofs.DepthLemmas.{depth-Two, depth-Item, depth-Not, depth-Neg, depth-Len, depth-AsText, depth-List, passes}
use Rattle.sc_expr.proofs.LoopLemmas.{two-le-looseness, chained_from_op, chained_from_other, indexed_from_square, indexed_from_other}

-- whether the first token belongs to what stands before it, where that is bound less loosely than this
abbrev pub belongs : ℕ → List Token → Bool
belongs bound (Sign Dot ∷ ts) = true
belongs bound (Sign OpenSquare ∷ ts) = nat_lt 0 bound
belongs bound (Operator op ∷ ts) = nat_lt (looseness op) bound
belongs bound ts = false

belongs_less : (bound : ℕ) (ts : List Token) → belongs (suc bound) ts ≡ false → belongs bound ts ≡ false
belongs_less bound [] h = refl
belongs_less bound (Sign Dot ∷ ts) h = h
belongs_less bound (Sign OpenSquare ∷ ts) h = absurd (omega (arith, ltb-false 0 (suc bound) h))
belongs_less bound (Operator op ∷ ts) h = le-ltb (looseness op) bound (omega (arith, ltb-false (looseness op) (suc bound) h))
belongs_less bound (t ∷ ts) h = refl

-- no operator binds closer than 2
belongs_one : (ts : List Token) → belongs 1 ts ≡ false → belongs 2 ts ≡ false
belongs_one [] h = refl
belongs_one (Sign Dot ∷ ts) h = h
belongs_one (Sign OpenSquare ∷ ts) h = h
belongs_one (Operator op ∷ ts) h = le-ltb (looseness op) 2 (two-le-looseness op)
belongs_one (t ∷ ts) h = refl

-- how the descent goes on behind an expression so bound
abbrev goes_on : ℕ → ℕ → Expr → Parse Expr
goes_on room zero e rest = indexed_from (inside room) e rest
goes_on room (suc bound) e rest = chained_from (loose_at room bound) (suc bound) e rest

indexed_ends : (inner : Parse Expr) (e : Expr) (rest : List Token) → depth e ≤ 256 → belongs 1 rest ≡ false → indexed_from inner e rest ≡ Some (e, rest)
indexed_ends inner e (Sign OpenSquare ∷ rest) shallow h = absurd (cc)
indexed_ends inner e [] shallow h = indexed_from_other inner e [] shallow refl
indexed_ends inner e (t ∷ rest) shallow h = indexed_from_other inner e (t ∷ rest) shallow refl

chained_ends : (operand : Parse Expr) (bound : ℕ) (e : Expr) (rest : List Token) → depth e ≤ 256 → belongs (suc bound) rest ≡ false → chained_from operand bound e rest ≡ Some (e, rest)
chained_ends operand bound e [] shallow h = chained_from_other operand bound e [] shallow refl
chained_ends operand bound e (Operator op ∷ rest) shallow h =
    chained_from_op operand bound e op rest shallow
    ∙ cond-false (looseness op == bound) _ _ (ne_eqb (looseness op) bound (λ is. omega (arith, ltb-false (looseness op) (suc bound) h)))
chained_ends operand bound e (t ∷ rest) shallow h = chained_from_other operand bound e (t ∷ rest) shallow refl

-- it stops before what belongs to looser expressions alone
ends : (room bound : ℕ) (e : Expr) (rest : List Token) → depth e ≤ 256 → belongs (suc bound) rest ≡ false → goes_on room bound e rest ≡ Some (e, rest)
ends room zero e rest shallow h = indexed_ends (inside room) e rest shallow h
ends room (suc bound) e rest shallow h = chained_ends (loose_at room bound) (suc bound) e rest shallow h

-- these tokens are read as `e`, whatever stands behind them that does not belong to them; and before what may belong
-- to an expression so bound, the descent goes on, where operators of that looseness repeat
record IsTaken (room bound : ℕ) (e : Expr) (us : List Token) : Type 0 where
  alone : (rest : List Token) → belongs (suc bound) rest ≡ false → loose_at room bound (us ++ rest) ≡ Some (e, rest)
  first : not (bound == 4) ≡ true → (rest : List Token) → belongs bound rest ≡ false → loose_at room bound (us ++ rest) ≡ goes_on room bound e rest

-- it is enough to show that the descent goes on
taken : (room bound : ℕ) (e : Expr) (us : List Token) → depth e ≤ 256
    → ((rest : List Token) → belongs bound rest ≡ false → loose_at room bound (us ++ rest) ≡ goes_on room bound e rest) → IsTaken room bound e us
taken room bound e us shallow first = record {
  alone = λ rest h. first rest (belongs_less bound rest h) ∙ ends room bound e rest shallow h;
  first = λ _ rest h. first rest h;
}

-- nothing goes on behind `!` and `-`
taken_one : (room : ℕ) (e : Expr) (us : List Token) → depth e ≤ 256
    → ((rest : List Token) → belongs 1 rest ≡ false → loose_at room 1 (us ++ rest) ≡ Some (e, rest)) → IsTaken room 1 e us
taken_one room e us shallow all = taken room 1 e us shallow (λ rest h. all rest h ∙ sym (ends room 1 e rest shallow (belongs_one rest h)))

-- what an expression may begin with: `!` and `-` only where it may be bound so
abbrev begins : ℕ → List Token → Bool
begins bound (Word word ∷ ts) = true
begins bound (Number n ∷ ts) = true
begins bound (Quoted text ∷ ts) = true
begins bound (Sign Open ∷ ts) = true
begins bound (Sign OpenSquare ∷ ts) = true
begins bound (Sign Bang ∷ ts) = nat_lt 0 bound
begins bound (Operator Sub ∷ ts) = nat_lt 0 bound
begins bound ts = false

begins_looser : (low high : ℕ) (ts : List Token) → low ≤ high → begins low ts ≡ true → begins high ts ≡ true
begins_looser low high (Word word ∷ ts) le h = refl
begins_looser low high (Number n ∷ ts) le h = refl
begins_looser low high (Quoted text ∷ ts) le h = refl
begins_looser low high (Sign Open ∷ ts) le h = refl
begins_looser low high (Sign OpenSquare ∷ ts) le h = refl
begins_looser low high (Sign Bang ∷ ts) le h = lt-ltb 0 high (omega (arith, ltb-true 0 low h))
begins_looser low high (Operator Sub ∷ ts) le h = lt-ltb 0 high (omega (arith, ltb-true 0 low h))
begins_looser low high [] le h = absurd (cc)
begins_looser low high (t ∷ ts) le h = absurd (cc)

left_of-le : (op : Op) → left_of op ≤ looseness op
left_of-le op = cond_both (repeats op) (looseness op) (looseness op - 1) (λ b. b ≤ looseness op) (λ _. omega arith) (λ _. omega arith)

-- the first token of what spells an expression
begun : {room bound : ℕ} {e : Expr} {us : List Token} → Spells room bound e us → (rest : List Token) → begins bound (us ++ rest) ≡ true
begun (looser {bound = bound} {ts = ts} d) rest = begins_looser bound (suc bound) (ts ++ rest) (omega arith) (begun d rest)
begun (two op {ts = ts} {us = us} d d') rest =
    rw (append_assoc ts (Operator op ∷ us) rest) (begins_looser (left_of op) (looseness op) _ (left_of-le op) (begun d (Operator op ∷ us ++ rest)))
begun (negated d) rest = refl
begun (minus d) rest = refl
begun (item {ts = ts} {us = us} d d') rest =
    rw (append_assoc (ts ++ Sign OpenSquare ∷ us) (Sign CloseSquare ∷ []) rest, append_assoc ts (Sign OpenSquare ∷ us) (Sign CloseSquare ∷ rest))
    (begun d (Sign OpenSquare ∷ us ++ Sign CloseSquare ∷ rest))
begun (brackets d) rest = refl
begun no_items rest = refl
begun (listed d) rest = refl
begun (len d) rest = refl
begun (as_text d) rest = refl
begun active rest = refl
begun (active_name plain) rest = refl
begun yes_word rest = refl
begun no_word rest = refl
begun number rest = refl
begun literal rest = refl
begun (datum is) rest = refl
begun (one_word f one) rest = refl
begun (payload_of plain) rest = refl

-- operators

prefixed_passes : (operand : Parse Expr) (ts : List Token) → begins 0 ts ≡ true → prefixed operand ts ≡ operand ts
unfolding prefixed
prefixed_passes operand [] h = refl
prefixed_passes operand (Sign Bang ∷ ts) h = absurd (cc)
prefixed_passes operand (Operator Sub ∷ ts) h = absurd (cc)
prefixed_passes operand (t ∷ ts) h = refl

looser_taken : (room bound : ℕ) (e : Expr) (us : List Token) → ((rest : List Token) → begins bound (us ++ rest) ≡ true) → depth e ≤ 256
    → IsTaken room bound e us → IsTaken room (suc bound) e us
unfolding loose
looser_taken room zero e us begin shallow t =
    taken_one room e us shallow (λ rest h. prefixed_passes (postfix (nat_lt 0 room) (inside room)) (us ++ rest) (begin rest) ∙ t.alone rest h)
looser_taken room (suc bound) e us begin shallow t =
    taken room (suc (suc bound)) e us shallow (λ rest h. ap (option_and_then _) (t.alone rest h))

made_passes : (f : Expr → Expr) (e : Expr) (rest : List Token) → depth (f e) ≤ 256 → made f (e, rest) ≡ Some (f e, rest)
made_passes f e rest shallow = ap (option_map (with_rest rest)) (passes (f e) shallow)

negated_taken : (room : ℕ) (a : Expr) (us : List Token) → depth (Not a) ≤ 256 → IsTaken room 1 a us → IsTaken room 1 (Not a) (Sign Bang ∷ us)
unfolding loose prefixed
negated_taken room a us shallow t =
    taken_one room (Not a) (Sign Bang ∷ us) shallow
    (λ rest h. ap (option_and_then (made Not)) (t.alone rest (belongs_one rest h)) ∙ made_passes Not a rest shallow)

minus_taken : (room : ℕ) (a : Expr) (us : List Token) → depth (Neg a) ≤ 256 → IsTaken room 1 a us → IsTaken room 1 (Neg a) (Operator Sub ∷ us)
unfolding loose prefixed
minus_taken room a us shallow t =
    taken_one room (Neg a) (Operator Sub ∷ us) shallow
    (λ rest h. ap (option_and_then (made Neg)) (t.alone rest (belongs_one rest h)) ∙ made_passes Neg a rest shallow)

-- behind what stands left of an operator the descent goes on to the operator
left_goes_on : (op : Op) (room bound : ℕ) → looseness op ≡ suc (suc bound) → (a : Expr) (ts rest : List Token) → IsTaken room (left_of op) a ts
    → belongs (suc (suc bound)) rest ≡ false → loose_at room (suc (suc bound)) (ts ++ rest) ≡ goes_on room (suc (suc bound)) a rest
unfolding loose
left_goes_on op room bound is a ts rest t h =
    cond_both (repeats op) (looseness op) (looseness op - 1) (λ k. IsTaken room k a ts → loose_at room (suc (suc bound)) (ts ++ rest) ≡ goes_on room (suc (suc bound)) a rest)
    (λ again t. (subst (λ k. IsTaken room k a ts) is t).first (sym (ap (λ k. not (k == 4)) is) ∙ again) rest h)
    (λ _ t. ap (option_and_then _) ((subst (λ k. IsTaken room k a ts) (omega arith) t).alone rest h))
    t

-- the operator and the operand behind it are read
right_goes_on : (op : Op) (room bound : ℕ) → looseness op ≡ suc (suc bound) → (a b : Expr) (us rest : List Token) → depth (Two op a b) ≤ 256 → IsTaken room (suc bound) b us
    → belongs (suc (suc bound)) rest ≡ false
    → goes_on room (suc (suc bound)) a (Operator op ∷ us ++ rest) ≡ (if repeats op then goes_on room (suc (suc bound)) (Two op a b) rest else Some (Two op a b, rest))
right_goes_on op room bound is a b us rest shallow t h =
    let operand : Parse Expr = loose_at room (suc bound) in
    chained_from_op operand (suc (suc bound)) a op (us ++ rest) (omega (arith, depth-Two op a b))
    ∙ cond-true (looseness op == suc (suc bound)) _ _ (eq-eqb (looseness op) (suc (suc bound)) is)
    ∙ ap (option_and_then _) (t.alone rest h)
    ∙ ap (option_and_then _) (passes (Two op a b) shallow)

two_taken_at : (op : Op) (room bound : ℕ) → looseness op ≡ suc (suc bound) → (a b : Expr) (ts us : List Token) → depth (Two op a b) ≤ 256
    → IsTaken room (left_of op) a ts → IsTaken room (suc bound) b us → IsTaken room (suc (suc bound)) (Two op a b) (ts ++ Operator op ∷ us)
two_taken_at op room bound is a b ts us shallow t t' =
    record {
      alone = λ rest h. read rest (belongs_less (suc (suc bound)) rest h)
          ∙ cond_both (repeats op) _ (Some (Two op a b, rest)) (λ o. o ≡ Some (Two op a b, rest)) (λ _. ends room (suc (suc bound)) (Two op a b) rest shallow h) (λ _. refl);
      first = λ again rest h. read rest h ∙ cond-true (repeats op) _ _ (ap (λ k. not (k == 4)) is ∙ again);
    }
  where
    read : (rest : List Token) → belongs (suc (suc bound)) rest ≡ false
        → loose_at room (suc (suc bound)) (ts ++ Operator op ∷ us ++ rest) ≡ (if repeats op then goes_on room (suc (suc bound)) (Two op a b) rest else Some (Two op a b, rest))
    read rest h =
        ap (loose_at room (suc (suc bound))) (append_assoc ts (Operator op ∷ us) rest)
        ∙ left_goes_on op room bound is a ts (Operator op ∷ us ++ rest) t (le-ltb (looseness op) (suc (suc bound)) (omega arith))
        ∙ right_goes_on op room bound is a b us rest shallow t' h

two_taken : (op : Op) (room : ℕ) (a b : Expr) (ts us : List Token) → depth (Two op a b) ≤ 256 → IsTaken room (left_of op) a ts → IsTaken room (looseness op - 1) b us
    → IsTaken room (looseness op) (Two op a b) (ts ++ Operator op ∷ us)
two_taken op room a b ts us shallow t t' =
    let is : looseness op ≡ suc (suc (looseness op - 2)) = omega (arith, two-le-looseness op) in
    subst (λ k. IsTaken room k (Two op a b) (ts ++ Operator op ∷ us)) (sym is)
    (two_taken_at op room (looseness op - 2) is a b ts us shallow t (subst (λ k. IsTaken room k b us) (omega (arith, two-le-looseness op)) t'))

-- brackets

inside_passes : (room : ℕ) (e : Expr) (us rest : List Token) (t : Token) → belongs 7 (t ∷ rest) ≡ false → IsTaken room 6 e us
    → inside (suc room) (us ++ t ∷ [] ++ rest) ≡ Some (e, t ∷ rest)
unfolding inside
inside_passes room e us rest t h is = ap (loose_at room 6) (append_assoc us (t ∷ []) rest) ∙ is.alone (t ∷ rest) h

-- what is read before any index is
primary_taken : (room : ℕ) (e : Expr) (us : List Token) → depth e ≤ 256
    → ((rest : List Token) → belongs 0 rest ≡ false → primary (nat_lt 0 room) (inside room) (us ++ rest) ≡ Some (e, rest)) → IsTaken room 0 e us
unfolding loose
primary_taken room e us shallow all = taken room 0 e us shallow (λ rest h. ap (option_and_then _) (all rest h))

item_taken : (room : ℕ) (a b : Expr) (ts us : List Token) → depth (Item a b) ≤ 256 → IsTaken (suc room) 0 a ts → IsTaken room 6 b us
    → IsTaken (suc room) 0 (Item a b) (ts ++ Sign OpenSquare ∷ us ++ Sign CloseSquare ∷ [])
item_taken room a b ts us shallow t t' = taken (suc room) 0 (Item a b) (ts ++ Sign OpenSquare ∷ us ++ Sign CloseSquare ∷ []) shallow (λ rest h.
    let inner : Parse Expr = inside (suc room) in
    ap (loose_at (suc room) 0) (ap (λ vs. vs ++ rest) (append_assoc ts (Sign OpenSquare ∷ us) (Sign CloseSquare ∷ [])) ∙ append_assoc ts (Sign OpenSquare ∷ us ++ Sign CloseSquare ∷ []) rest)
    ∙ t.first refl (Sign OpenSquare ∷ us ++ Sign CloseSquare ∷ [] ++ rest) refl
    ∙ indexed_from_square inner a (us ++ Sign CloseSquare ∷ [] ++ rest) (omega (arith, depth-Item a b))
    ∙ ap (option_and_then _) (inside_passes room b us rest (Sign CloseSquare) refl t')
    ∙ ap (option_and_then _) (passes (Item a b) shallow))

-- what stands in round brackets
brackets_pass : (room : ℕ) (e : Expr) (us rest : List Token) → IsTaken room 6 e us → option_and_then closed (inside (suc room) (us ++ Sign Close ∷ [] ++ rest)) ≡ Some (e, rest)
brackets_pass room e us rest t = ap (option_and_then closed) (inside_passes room e us rest (Sign Close) refl t)

brackets_taken : (room : ℕ) (e : Expr) (us : List Token) → depth e ≤ 256 → IsTaken room 6 e us → IsTaken (suc room) 0 e (Sign Open ∷ us ++ Sign Close ∷ [])
brackets_taken room e us shallow t = primary_taken (suc room) e (Sign Open ∷ us ++ Sign Close ∷ []) shallow (λ rest h. brackets_pass room e us rest t)

len_taken : (room : ℕ) (a : Expr) (us : List Token) → depth (Len a) ≤ 256 → IsTaken room 6 a us
    → IsTaken (suc room) 0 (Len a) (Word (codes "len") ∷ Sign Open ∷ us ++ Sign Close ∷ [])
len_taken room a us shallow t = primary_taken (suc room) (Len a) (Word (codes "len") ∷ Sign Open ∷ us ++ Sign Close ∷ []) shallow
    (λ rest h. ap (option_and_then (made Len)) (brackets_pass room a us rest t) ∙ made_passes Len a rest shallow)

as_text_taken : (room : ℕ) (a : Expr) (us : List Token) → depth (AsText a) ≤ 256 → IsTaken room 6 a us
    → IsTaken (suc room) 0 (AsText a) (Word (codes "text") ∷ Sign Open ∷ us ++ Sign Close ∷ [])
as_text_taken room a us shallow t = primary_taken (suc room) (AsText a) (Word (codes "text") ∷ Sign Open ∷ us ++ Sign Close ∷ []) shallow
    (λ rest h. ap (option_and_then (made AsText)) (brackets_pass room a us rest t) ∙ made_passes AsText a rest shallow)

-- leaves

has_room : (room : ℕ) → nat_lt 0 (suc room) ≡ true
has_room room = lt-ltb 0 (suc room) (omega arith)

active_taken : (room : ℕ) (id : List ℕ) → depth (Active id) ≤ 256 → IsTaken (suc room) 0 (Active id) (Word (codes "In") ∷ Sign Open ∷ Quoted id ∷ Sign Close ∷ [])
active_taken room id shallow = primary_taken (suc room) (Active id) _ shallow (λ rest h. cond-true (nat_lt 0 (suc room)) _ _ (has_room room))

active_name_taken : (room : ℕ) (id : List ℕ) → depth (Active id) ≤ 256 → IsTrue (is_plain_name id)
    → IsTaken (suc room) 0 (Active id) (Word (codes "In") ∷ Sign Open ∷ Word id ∷ Sign Close ∷ [])
active_name_taken room id shallow plain =
    primary_taken (suc room) (Active id) _ shallow
    (λ rest h. cond-true (nat_lt 0 (suc room)) _ _ (has_room room) ∙ ap (option_and_then identified) (cond-true (is_plain_name id) _ _ plain))

payload_ends : (rest : List Token) → belongs 0 rest ≡ false → payload rest ≡ Some (Field field.Payload, rest)
payload_ends [] h = refl
payload_ends (Sign Dot ∷ rest) h = absurd (cc)
payload_ends (t ∷ rest) h = refl

one_word_passes : (f : EventField) (rest : List Token) → IsTrue (is_one_word f) → belongs 0 rest ≡ false → event_field (Sign Dot ∷ Word (field_text f) ∷ rest) ≡ Some (Field f, rest)
one_word_passes field.Name rest one h = refl
one_word_passes field.Kind rest one h = refl
one_word_passes field.SendId rest one h = refl
one_word_passes field.Origin rest one h = refl
one_word_passes field.OriginType rest one h = refl
one_word_passes field.InvokeId rest one h = refl
one_word_passes field.Payload rest one h = payload_ends rest h
one_word_passes (field.PayloadOf name) rest one h = absurd (cc)

-- a datum is none of the words of the language
datum_passes : (free : Bool) (inner : Parse Expr) (name : List ℕ) (rest : List Token) → IsTrue (is_datum name) → named free inner name rest ≡ Some (Datum name, rest)
datum_passes free inner name rest is =
    let is_word : List ℕ → Bool = λ w. bytes_eq name w in
    let parts = and_parts (is_plain_name name) (not (is_word (codes "_event"))) is in
    let none = not-true (is_keyword name) (and_parts _ (not (is_keyword name)) parts.0).1 in
    let four = or_parts (is_word (codes "true") || is_word (codes "false") || is_word (codes "In") || is_word (codes "len")) (is_word (codes "text")) none in
    let three = or_parts (is_word (codes "true") || is_word (codes "false") || is_word (codes "In")) (is_word (codes "len")) four.0 in
    let two = or_parts (is_word (codes "true") || is_word (codes "false")) (is_word (codes "In")) three.0 in
    let one = or_parts (is_word (codes "true")) (is_word (codes "false")) two.0 in
    cond-false (is_word (codes "true")) _ _ one.0 ∙ cond-false (is_word (codes "false")) _ _ one.1 ∙ cond-false (is_word (codes "In")) _ _ two.1 ∙ cond-false (is_word (codes "len")) _ _ three.1
    ∙ cond-false (is_word (codes "text")) _ _ four.1 ∙ cond-false (is_word (codes "_event")) _ _ (not-true (is_word (codes "_event")) parts.1) ∙ cond-true (is_plain_name name) _ _ parts.0

datum_taken : (room : ℕ) (name : List ℕ) → depth (Datum name) ≤ 256 → IsTrue (is_datum name) → IsTaken room 0 (Datum name) (Word name ∷ [])
datum_taken room name shallow is = primary_taken room (Datum name) (Word name ∷ []) shallow (λ rest h. datum_passes (nat_lt 0 room) (inside room) name rest is)

-- lists

-- these tokens are read as `es`, where a bracket closes behind them
abbrev AreTaken : ℕ → List Expr → List Token → Type 0
AreTaken room es us = (n : ℕ) (rest : List Token) → length us < n → items (inside (suc room)) n (us ++ Sign CloseSquare ∷ rest) ≡ Some (es, rest)

last_taken : (room : ℕ) (e : Expr) (us : List Token) → IsTaken room 6 e us → AreTaken room (e ∷ []) us
unfolding items inside
last_taken room e us t zero rest h = absurd (omega arith)
last_taken room e us t (suc n) rest h =
    ap (option_and_then _) (t.alone (Sign CloseSquare ∷ rest) refl)

more_taken : (room : ℕ) (e : Expr) (es : List Expr) (ts us : List Token) → IsTaken room 6 e ts → AreTaken room es us → AreTaken room (e ∷ es) (ts ++ Sign Comma ∷ us)
unfolding items inside
more_taken room e es ts us t are zero rest h = absurd (omega arith)
more_taken room e es ts us t are (suc n) rest h =
    ap (items (inside (suc room)) (suc n)) (append_assoc ts (Sign Comma ∷ us) (Sign CloseSquare ∷ rest))
    ∙ ap (option_and_then _) (t.alone (Sign Comma ∷ us ++ Sign CloseSquare ∷ rest) refl)
    ∙ ap (front e) (are n rest (omega (arith, length-append ts (Sign Comma ∷ us))))

begun_items : {room : ℕ} {es : List Expr} {us : List Token} → SpellsItems room es us → (rest : List Token) → begins 6 (us ++ rest) ≡ true
begun_items (last d) rest = begun d rest
begun_items (more {ts = ts} {us = us} d ds) rest = rw (append_assoc ts (Sign Comma ∷ us) rest) (begun d (Sign Comma ∷ us ++ rest))

-- a list with items
list_of_items : (inner : Parse Expr) (ts : List Token) → begins 6 ts ≡ true
    → list_of true inner ts ≡ option_and_then (λ (r : List Expr × List Token). option_map (with_rest r.1) (within (Listed r.0))) (items inner (length ts) ts)
list_of_items inner [] h = absurd (cc)
list_of_items inner (Sign CloseSquare ∷ ts) h = absurd (cc)
list_of_items inner (t ∷ ts) h = refl

no_items_taken : (room : ℕ) → depth (Listed []) ≤ 256 → IsTaken (suc room) 0 (Listed []) (Sign OpenSquare ∷ Sign CloseSquare ∷ [])
no_items_taken room shallow = primary_taken (suc room) (Listed []) _ shallow (λ rest h. cond-true (nat_lt 0 (suc room)) _ _ (has_room room))

listed_taken : (room : ℕ) (es : List Expr) (us : List Token) → depth (Listed es) ≤ 256 → ((rest : List Token) → begins 6 (us ++ rest) ≡ true) → AreTaken room es us
    → IsTaken (suc room) 0 (Listed es) (Sign OpenSquare ∷ us ++ Sign CloseSquare ∷ [])
listed_taken room es us shallow begin are = primary_taken (suc room) (Listed es) (Sign OpenSquare ∷ us ++ Sign CloseSquare ∷ []) shallow (λ rest h.
    let inner : Parse Expr = inside (suc room) in
    let ts : List Token = us ++ Sign CloseSquare ∷ rest in
    ap (list_of (nat_lt 0 (suc room)) inner) (append_assoc us (Sign CloseSquare ∷ []) rest)
    ∙ ap (λ b. list_of b inner ts) (has_room room)
    ∙ list_of_items inner ts (begin (Sign CloseSquare ∷ rest))
    ∙ ap (option_and_then _) (are (length ts) rest (omega (arith, length-append us (Sign CloseSquare ∷ rest))))
    ∙ ap (option_map (with_rest rest)) (passes (Listed es) shallow))

-- induction over what spells an expression

mutual
  taken_of : {room bound : ℕ} {e : Expr} {us : List Token} → Spells room bound e us → depth e ≤ 256 → IsTaken room bound e us
  taken_of (looser {room = room} {bound = bound} {e = e} {ts = ts} d) shallow = looser_taken room bound e ts (begun d) shallow (taken_of d shallow)
  taken_of (two op {room = room} {a = a} {b = b} {ts = ts} {us = us} d d') shallow =
      two_taken op room a b ts us shallow (taken_of d (omega (arith, depth-Two op a b))) (taken_of d' (omega (arith, depth-Two op a b)))
  taken_of (negated {room = room} {a = a} {ts = ts} d) shallow = negated_taken room a ts shallow (taken_of d (omega (arith, depth-Not a)))
  taken_of (minus {room = room} {a = a} {ts = ts} d) shallow = minus_taken room a ts shallow (taken_of d (omega (arith, depth-Neg a)))
  taken_of (item {room = room} {a = a} {b = b} {ts = ts} {us = us} d d') shallow =
      item_taken room a b ts us shallow (taken_of d (omega (arith, depth-Item a b))) (taken_of d' (omega (arith, depth-Item a b)))
  taken_of (brackets {room = room} {e = e} {ts = ts} d) shallow = brackets_taken room e ts shallow (taken_of d shallow)
  taken_of (no_items {room = room}) shallow = no_items_taken room shallow
  taken_of (listed {room = room} {es = es} {ts = ts} ds) shallow =
      listed_taken room es ts shallow (begun_items ds) (all_taken ds (omega (arith, depth-List es)))
  taken_of (len {room = room} {a = a} {ts = ts} d) shallow = len_taken room a ts shallow (taken_of d (omega (arith, depth-Len a)))
  taken_of (as_text {room = room} {a = a} {ts = ts} d) shallow = as_text_taken room a ts shallow (taken_of d (omega (arith, depth-AsText a)))
  taken_of (active {room = room} {id = id}) shallow = active_taken room id shallow
  taken_of (active_name {room = room} {id = id} plain) shallow = active_name_taken room id shallow plain
  taken_of (yes_word {room = room}) shallow = primary_taken room (Truth true) (Word (codes "true") ∷ []) shallow (λ rest h. refl)
  taken_of (no_word {room = room}) shallow = primary_taken room (Truth false) (Word (codes "false") ∷ []) shallow (λ rest h. refl)
  taken_of (number {room = room} {n = n}) shallow = primary_taken room (Int n) (Number n ∷ []) shallow (λ rest h. refl)
  taken_of (literal {room = room} {text = text}) shallow = primary_taken room (Text text) (Quoted text ∷ []) shallow (λ rest h. refl)
  taken_of (datum {room = room} {name = name} is) shallow = datum_taken room name shallow is
  taken_of (one_word {room = room} f one) shallow =
      primary_taken room (Field f) (Word (codes "_event") ∷ Sign Dot ∷ Word (field_text f) ∷ []) shallow (λ rest h. one_word_passes f rest one h)
  taken_of (payload_of {room = room} {name = name} plain) shallow =
      primary_taken room (Field (field.PayloadOf name)) (Word (codes "_event") ∷ Sign Dot ∷ Word (codes "data") ∷ Sign Dot ∷ Word name ∷ []) shallow
      (λ rest h. cond-true (is_plain_name name) _ _ plain)

  all_taken : {room : ℕ} {es : List Expr} {us : List Token} → SpellsItems room es us → deepest (map depth es) ≤ 255 → AreTaken room es us
  all_taken (last {room = room} {e = e} {ts = ts} d) shallow = last_taken room e ts (taken_of d (omega arith))
  all_taken (more {room = room} {e = e} {es = es} {ts = ts} {us = us} d ds) shallow =
      more_taken room e es ts us (taken_of d (omega arith)) (all_taken ds (omega arith))

-- what is spelled is read, where what stands behind it does not belong to it
pub complete : (room bound : ℕ) (e : Expr) (us rest : List Token) → Spells room bound e us → depth e ≤ 256 → belongs (suc bound) rest ≡ false
    → loose_at room bound (us ++ rest) ≡ Some (e, rest)
complete room bound e us rest d shallow h = (taken_of d shallow).alone rest h
