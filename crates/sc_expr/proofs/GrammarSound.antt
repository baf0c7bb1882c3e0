-- What the descent reads is spelled.
use Rattle.std.proofs.Common.{◌≡◌, ℕ, zero, suc, ◌≤◌, ◌-◌, ◌==◌, Bool, true, false, not, if◌then◌else◌, nat_lt, nat_le, Option, Some, None, IfSome, IsTrue, List, [], ◌∷◌, ◌++◌, length, codes, bytes_eq, option_map, option_and_then, refl, sym, ap, ◌∙◌, subst, append_assoc, arith}
use Rattle.std.proofs.lemmas.Bool.{and_from, cond_both, not_from_false, cond-true, eqb-true, leb-true}
use Rattle.std.proofs.lemmas.Option.{IfSome_then}
use Rattle.std.proofs.lemmas.Slice.Eq.{bytes_eq-Decides}
use Rattle.sc_types.specs.Expressions.{Spells, looser, two, negated, minus, item, brackets, no_items, listed, len, as_text, active, active_name, yes_word, no_word, number, literal, datum, one_word, payload_of, SpellsItems, last, more, depth, looseness, repeats, is_one_word, field_text}
use Rattle.sc_base.specs.Text.{is_plain_name}
use Rattle.sc_types.specs.declared.expr.EventField.{EventField}
use Rattle.sc_types.specs.declared.expr.EventField.TheVariants as field
use Rattle.sc_types.specs.declared.expr.Expr.{Expr}
use Rattle.sc_types.specs.declared.expr.Expr.TheVariants.{Bool as Truth, Int, Text, List as Listed, Datum, Field, Active, Not, Neg, Two, Item, Len, AsText}
use Rattle.sc_types.specs.declared.expr.Op.{Op}
use Rattle.sc_types.specs.declared.expr.Op.TheVariants.{Sub}
use Rattle.sc_types.specs.declared.token.Mark.TheVariants.{Not as Bang, Open, Close, OpenSquare, CloseSquare, Comma, Dot}
use Rattle.sc_types.specs.declared.token.Token.{Token}
use Rattle.sc_types.specs.declared.token.Token.TheVariants.{Word, Number, Text as Quoted, Operator, Mark as Sign}
use Rattle.sc_expr.specs.Descent as descent
use Rattle.sc_expr.specs.Descent.{identified, Parse, within, made, after_close_square, closed, bracketed, chained, prefixed, indexed, payload, event_field, field_of, named, items, item_end, with_rest, list_of, primary, postfix, loose, inside, loose_at}
use Rattle.sc_expr.proofs.DepthLemmas.{depth-Bool, depth-Int, depth-Text, depth-Datum, depth-Field, depth-Active, depth-List}

-- the front of `ts` spells the expression, and the rest stands behind it
pub record IsRead (room bound : ℕ) (ts : List Token) (r : Expr × List Token) : Type 0 where
  pub taken : List Token
  pub splits : ts ≡ taken ++ r.1
  pub spelled : Spells room bound r.0 taken
  pub shallow : depth r.0 ≤ 256

-- the same behind a bracket, which takes from the room
abbrev IsInside : ℕ → List Token → Expr × List Token → Type 0
IsInside zero ts r = ⊥
IsInside (suc room) ts r = IsRead room 6 ts r

-- whatever a parser reads is spelled
abbrev Reads : ℕ → ℕ → Parse Expr → Type 0
Reads room bound p = (ts : List Token) → IfSome (p ts) (IsRead room bound ts)

abbrev ReadsInside : ℕ → Parse Expr → Type 0
ReadsInside room p = (ts : List Token) → IfSome (p ts) (IsInside room ts)

-- how the combinators keep what holds of a value

then_holds : {A B : Type 0} (P : A → Type 0) (Q : B → Type 0) (f : A → Option B) (o : Option A)
    → IfSome o P → ((x : A) → P x → IfSome (f x) Q) → IfSome (option_and_then f o) Q
then_holds P Q f None h k = tt
then_holds P Q f (Some x) h k = k x h

map_holds : {A B : Type 0} (P : A → Type 0) (Q : B → Type 0) (f : A → B) (o : Option A)
    → IfSome o P → ((x : A) → P x → Q (f x)) → IfSome (option_map f o) Q
map_holds P Q f None h k = tt
map_holds P Q f (Some x) h k = k x h

if_holds : {A : Type 0} (Q : A → Type 0) (b : Bool) (o : Option A) → (b ≡ true → IfSome o Q) → IfSome (if b then o else None) Q
if_holds Q b o h = cond_both b o None (λ o. IfSome o Q) h (λ is. tt)

within_holds : (Q : Expr → Type 0) (e : Expr) → (depth e ≤ 256 → Q e) → IfSome (within e) Q
within_holds Q e h = if_holds Q (nat_le (depth e) 256) (Some e) (λ is. h (leb-true (depth e) 256 is))

passed_holds : {B : Type 0} (Q : B → Type 0) (f : Expr → Option B) (e : Expr) → (depth e ≤ 256 → IfSome (f e) Q) → IfSome (option_and_then f (within e)) Q
passed_holds Q f e h = then_holds (λ x. IfSome (f x) Q) Q f (within e) (within_holds _ e h) (λ x is. is)

made_holds : (Q : Expr × List Token → Type 0) (f : Expr → Expr) (e : Expr) (rest : List Token)
    → (depth (f e) ≤ 256 → Q (f e, rest)) → IfSome (made f (e, rest)) Q
made_holds Q f e rest h = map_holds _ Q (with_rest rest) (within (f e)) (within_holds (λ x. Q (x, rest)) (f e) h) (λ x is. is)

squared_holds : {B : Type 0} (Q : B → Type 0) (f : List Token → Option B) (ts : List Token)
    → ((rest : List Token) → ts ≡ Sign CloseSquare ∷ rest → IfSome (f rest) Q) → IfSome (option_and_then f (after_close_square ts)) Q
squared_holds Q f (Sign CloseSquare ∷ ts) h = h ts refl
squared_holds Q f ts h = tt

-- operators

looser_read : (room bound : ℕ) (ts : List Token) (r : Expr × List Token) → IsRead room bound ts r → IsRead room (suc bound) ts r
looser_read room bound ts r is = record { taken = is.taken; splits = is.splits; spelled = looser is.spelled; shallow = is.shallow }

-- what may stand left of an operator so loose
abbrev left_at : ℕ → ℕ
left_at bound = if not (bound == 4) then bound else bound - 1

-- the first operand may stand there
left_first : (room bound : ℕ) (ts : List Token) (r : Expr × List Token) → IsRead room bound ts r → IsRead room (left_at (suc bound)) ts r
left_first room bound ts r is =
    cond_both (not (suc bound == 4)) (suc bound) (suc bound - 1) (λ k. IsRead room k ts r)
    (λ _. looser_read room bound ts r is) (λ _. subst (λ k. IsRead room k ts r) (omega arith) is)

-- the chain ends with what stands there
left_last : (room bound : ℕ) (ts : List Token) (r : Expr × List Token) → IsRead room (left_at (suc bound)) ts r → IsRead room (suc bound) ts r
left_last room bound ts r is =
    cond_both (not (suc bound == 4)) (suc bound) (suc bound - 1) (λ k. IsRead room k ts r → IsRead room (suc bound) ts r)
    (λ _ is. is) (λ _ is. looser_read room bound ts r (subst (λ k. IsRead room k ts r) (omega arith) is)) is

-- an operator that repeats may stand right of its like
left_again : (op : Op) (room bound : ℕ) → looseness op ≡ suc bound → repeats op ≡ true → (ts : List Token) (r : Expr × List Token)
    → IsRead room (suc bound) ts r → IsRead room (left_at (suc bound)) ts r
left_again op room bound same again ts r is =
    subst (λ k. IsRead room k ts r) (sym (cond-true (not (suc bound == 4)) (suc bound) (suc bound - 1) (sym (ap (λ k. not (k == 4)) same) ∙ again))) is

two_read : (op : Op) (room bound : ℕ) → looseness op ≡ suc bound → (a b : Expr) (ts us rest : List Token)
    → IsRead room (left_at (suc bound)) ts (a, Operator op ∷ us) → IsRead room bound us (b, rest) → depth (Two op a b) ≤ 256
    → IsRead room (suc bound) ts (Two op a b, rest)
two_read op room bound is a b ts us rest r s shallow = record {
  taken = r.taken ++ Operator op ∷ s.taken;
  splits = r.splits ∙ ap (λ ts. r.taken ++ Operator op ∷ ts) s.splits ∙ sym (append_assoc r.taken (Operator op ∷ s.taken) rest);
  spelled = subst (λ k. Spells room k (Two op a b) (r.taken ++ Operator op ∷ s.taken)) is (two op
      (subst (λ k. Spells room (left_at k) a r.taken) (sym is) r.spelled)
      (subst (λ k. Spells room k b s.taken) (omega arith) s.spelled));
  shallow = shallow;
}

negated_read : {room : ℕ} {a : Expr} {ts rest : List Token} → IsRead room 1 ts (a, rest) → depth (Not a) ≤ 256 → IsRead room 1 (Sign Bang ∷ ts) (Not a, rest)
negated_read r shallow = record { taken = Sign Bang ∷ r.taken; splits = ap (λ ts. Sign Bang ∷ ts) r.splits; spelled = negated r.spelled; shallow = shallow }

minus_read : {room : ℕ} {a : Expr} {ts rest : List Token} → IsRead room 1 ts (a, rest) → depth (Neg a) ≤ 256 → IsRead room 1 (Operator Sub ∷ ts) (Neg a, rest)
minus_read r shallow = record { taken = Operator Sub ∷ r.taken; splits = ap (λ ts. Operator Sub ∷ ts) r.splits; spelled = minus r.spelled; shallow = shallow }

looser_reads : (room bound : ℕ) (operand : Parse Expr) → Reads room bound operand → Reads room (suc bound) operand
looser_reads room bound operand h ts = IfSome_then (operand ts) (h ts) (looser_read room bound ts)

prefixed_reads : (room : ℕ) (operand : Parse Expr) → Reads room 0 operand → Reads room 1 (prefixed operand)
unfolding prefixed
prefixed_reads room operand h [] = looser_reads room 0 operand h []
prefixed_reads room operand h (Sign Bang ∷ ts) =
    then_holds _ _ (made Not) (prefixed operand ts) (prefixed_reads room operand h ts)
    (λ r is. made_holds _ Not r.0 r.1 (λ shallow. negated_read is shallow))
prefixed_reads room operand h (Operator Sub ∷ ts) =
    then_holds _ _ (made Neg) (prefixed operand ts) (prefixed_reads room operand h ts)
    (λ r is. made_holds _ Neg r.0 r.1 (λ shallow. minus_read is shallow))
prefixed_reads room operand h (t ∷ ts) = looser_reads room 0 operand h (t ∷ ts)

chained_reads : (room bound : ℕ) (operand : Parse Expr) → Reads room bound operand → (n : ℕ) (a : Expr) (ts rest : List Token)
    → IsRead room (left_at (suc bound)) ts (a, rest) → IfSome (chained operand (suc bound) n a rest) (IsRead room (suc bound) ts)
unfolding chained
chained_reads room bound operand h zero a ts rest r = tt
chained_reads room bound operand h (suc n) a ts [] r = left_last room bound ts (a, []) r
chained_reads room bound operand h (suc n) a ts (Operator op ∷ us) r =
    let Q : Expr × List Token → Type 0 = IsRead room (suc bound) ts in
    cond_both (looseness op == suc bound) _ (Some (a, Operator op ∷ us)) (λ o. IfSome o Q) (λ is.
    let same : looseness op ≡ suc bound = eqb-true (looseness op) (suc bound) is in
    then_holds _ _ _ (operand us) (h us) (λ s read.
    passed_holds _ _ (Two op a s.0) (λ shallow.
    let e : Expr = Two op a s.0 in
    let joined : IsRead room (suc bound) ts (e, s.1) = two_read op room bound same a s.0 ts us s.1 r read shallow in
    cond_both (repeats op) (chained operand (suc bound) n e s.1) (Some (e, s.1)) (λ o. IfSome o Q)
    (λ again. chained_reads room bound operand h n e ts s.1 (left_again op room bound same again ts (e, s.1) joined)) (λ _. joined))))
    (λ _. left_last room bound ts (a, Operator op ∷ us) r)
chained_reads room bound operand h (suc n) a ts (t ∷ us) r = left_last room bound ts (a, t ∷ us) r

-- brackets

-- what stands up to a closing bracket, with it
closed_by : (t : Token) (ts taken rest : List Token) → ts ≡ taken ++ t ∷ rest → ts ≡ taken ++ t ∷ [] ++ rest
closed_by t ts taken rest splits = splits ∙ sym (append_assoc taken (t ∷ []) rest)

item_read : (room : ℕ) (a b : Expr) (ts us rest : List Token) → IsRead room 0 ts (a, Sign OpenSquare ∷ us) → IsInside room us (b, Sign CloseSquare ∷ rest)
    → depth (Item a b) ≤ 256 → IsRead room 0 ts (Item a b, rest)
item_read zero a b ts us rest r s shallow = absurd s
item_read (suc room) a b ts us rest r s shallow = record {
  taken = r.taken ++ Sign OpenSquare ∷ s.taken ++ Sign CloseSquare ∷ [];
  splits = closed_by (Sign CloseSquare) ts (r.taken ++ Sign OpenSquare ∷ s.taken) rest (r.splits ∙ ap (λ us. r.taken ++ Sign OpenSquare ∷ us) s.splits
      ∙ sym (append_assoc r.taken (Sign OpenSquare ∷ s.taken) (Sign CloseSquare ∷ rest)));
  spelled = item r.spelled s.spelled;
  shallow = shallow;
}

indexed_reads : (room : ℕ) (inner : Parse Expr) → ReadsInside room inner → (n : ℕ) (a : Expr) (ts rest : List Token) → IsRead room 0 ts (a, rest)
    → IfSome (indexed inner n a rest) (IsRead room 0 ts)
unfolding indexed
indexed_reads room inner h zero a ts rest r = tt
indexed_reads room inner h (suc n) a ts [] r = r
indexed_reads room inner h (suc n) a ts (Sign OpenSquare ∷ us) r =
    then_holds _ _ _ (inner us) (h us) (λ s is.
    squared_holds _ _ s.1 (λ rest closes.
    passed_holds _ _ (Item a s.0) (λ shallow.
    let inside : IsInside room us (s.0, Sign CloseSquare ∷ rest) = subst (λ vs. IsInside room us (s.0, vs)) closes is in
    indexed_reads room inner h n (Item a s.0) ts rest (item_read room a s.0 ts us rest r inside shallow))))
indexed_reads room inner h (suc n) a ts (t ∷ us) r = r

brackets_read : (room : ℕ) (e : Expr) (ts rest : List Token) → IsInside room ts (e, Sign Close ∷ rest) → IsRead room 0 (Sign Open ∷ ts) (e, rest)
brackets_read zero e ts rest r = absurd r
brackets_read (suc room) e ts rest r = record {
  taken = Sign Open ∷ r.taken ++ Sign Close ∷ [];
  splits = ap (λ ts. Sign Open ∷ ts) (closed_by (Sign Close) ts r.taken rest r.splits);
  spelled = brackets r.spelled;
  shallow = r.shallow;
}

len_read : (room : ℕ) (e : Expr) (ts rest : List Token) → IsInside room ts (e, Sign Close ∷ rest) → depth (Len e) ≤ 256
    → IsRead room 0 (Word (codes "len") ∷ Sign Open ∷ ts) (Len e, rest)
len_read zero e ts rest r shallow = absurd r
len_read (suc room) e ts rest r shallow = record {
  taken = Word (codes "len") ∷ Sign Open ∷ r.taken ++ Sign Close ∷ [];
  splits = ap (λ ts. Word (codes "len") ∷ Sign Open ∷ ts) (closed_by (Sign Close) ts r.taken rest r.splits);
  spelled = len r.spelled;
  shallow = shallow;
}

as_text_read : (room : ℕ) (e : Expr) (ts rest : List Token) → IsInside room ts (e, Sign Close ∷ rest) → depth (AsText e) ≤ 256
    → IsRead room 0 (Word (codes "text") ∷ Sign Open ∷ ts) (AsText e, rest)
as_text_read zero e ts rest r shallow = absurd r
as_text_read (suc room) e ts rest r shallow = record {
  taken = Word (codes "text") ∷ Sign Open ∷ r.taken ++ Sign Close ∷ [];
  splits = ap (λ ts. Word (codes "text") ∷ Sign Open ∷ ts) (closed_by (Sign Close) ts r.taken rest r.splits);
  spelled = as_text r.spelled;
  shallow = shallow;
}

-- what stands in round brackets
closed_reads : (room : ℕ) (e : Expr) (ts us : List Token) → IsInside room ts (e, us) → IfSome (closed (e, us)) (λ r. IsInside room ts (r.0, Sign Close ∷ r.1))
closed_reads room e ts (Sign Close ∷ us) r = r
closed_reads room e ts us r = tt

brackets_reads : (room : ℕ) (inner : Parse Expr) → ReadsInside room inner → (ts : List Token)
    → IfSome (option_and_then closed (inner ts)) (λ r. IsInside room ts (r.0, Sign Close ∷ r.1))
brackets_reads room inner h ts =
    then_holds _ _ closed (inner ts) (h ts) (λ r is. closed_reads room r.0 ts r.1 is)

-- a word and what stands in brackets behind it
called_reads : (room : ℕ) (inner : Parse Expr) → ReadsInside room inner → (f : Expr → Expr) (word : List ℕ)
    → ((e : Expr) (us rest : List Token) → IsInside room us (e, Sign Close ∷ rest) → depth (f e) ≤ 256 → IsRead room 0 (Word word ∷ Sign Open ∷ us) (f e, rest))
    → (ts : List Token) → IfSome (option_and_then (made f) (bracketed inner ts)) (IsRead room 0 (Word word ∷ ts))
called_reads room inner h f word spells (Sign Open ∷ ts) =
    then_holds _ _ (made f) _ (brackets_reads room inner h ts)
    (λ r is. made_holds _ f r.0 r.1 (spells r.0 ts r.1 is))
called_reads room inner h f word spells ts = tt

-- leaves

leaf_read : (room : ℕ) (e : Expr) (us rest : List Token) → Spells room 0 e us → depth e ≡ 1 → IsRead room 0 (us ++ rest) (e, rest)
leaf_read room e us rest spelled leaf = record { taken = us; splits = refl; spelled = spelled; shallow = omega arith }

active_read : (room : ℕ) (id : List ℕ) (rest : List Token) → nat_lt 0 room ≡ true → IsRead room 0 (Word (codes "In") ∷ Sign Open ∷ Quoted id ∷ Sign Close ∷ rest) (Active id, rest)
active_read zero id rest has_room = absurd (cc)
active_read (suc room) id rest has_room = leaf_read (suc room) (Active id) (Word (codes "In") ∷ Sign Open ∷ Quoted id ∷ Sign Close ∷ []) rest active (depth-Active id)

active_name_read : (room : ℕ) (id : List ℕ) (rest : List Token) → nat_lt 0 room ≡ true → is_plain_name id ≡ true
    → IsRead room 0 (Word (codes "In") ∷ Sign Open ∷ Word id ∷ Sign Close ∷ rest) (Active id, rest)
active_name_read zero id rest has_room plain = absurd (cc)
active_name_read (suc room) id rest has_room plain =
    leaf_read (suc room) (Active id) (Word (codes "In") ∷ Sign Open ∷ Word id ∷ Sign Close ∷ []) rest (active_name plain) (depth-Active id)

active_in_room : (room : ℕ) → nat_lt 0 room ≡ true → (ts : List Token) → IfSome (descent.active true ts) (IsRead room 0 (Word (codes "In") ∷ ts))
active_in_room room is (Sign Open ∷ Quoted id ∷ Sign Close ∷ ts) = active_read room id ts is
active_in_room room is (Sign Open ∷ Word id ∷ Sign Close ∷ ts) =
    cond_both (is_plain_name id) (Some (id, Sign Close ∷ ts)) None (λ o. IfSome (option_and_then identified o) (IsRead room 0 (Word (codes "In") ∷ Sign Open ∷ Word id ∷ Sign Close ∷ ts)))
    (λ plain. active_name_read room id ts is plain) (λ _. tt)
active_in_room room is (Sign Open ∷ Word id ∷ ts) =
    cond_both (is_plain_name id) (Some (id, ts)) None (λ o. IfSome (option_and_then identified o) (IsRead room 0 (Word (codes "In") ∷ Sign Open ∷ Word id ∷ ts))) (λ _. tt) (λ _. tt)
active_in_room room is ts = tt

active_reads : (room : ℕ) (ts : List Token) → IfSome (descent.active (nat_lt 0 room) ts) (IsRead room 0 (Word (codes "In") ∷ ts))
active_reads room ts =
    cond_both (nat_lt 0 room) (descent.active true ts) None (λ o. IfSome o (IsRead room 0 (Word (codes "In") ∷ ts))) (λ is. active_in_room room is ts) (λ _. tt)

payload_reads : (room : ℕ) (ts : List Token) → IfSome (payload ts) (IsRead room 0 (Word (codes "_event") ∷ Sign Dot ∷ Word (codes "data") ∷ ts))
payload_reads room (Sign Dot ∷ Word name ∷ ts) =
    if_holds _ (is_plain_name name) (Some (Field (field.PayloadOf name), ts))
    (λ plain. leaf_read room _ (Word (codes "_event") ∷ Sign Dot ∷ Word (codes "data") ∷ Sign Dot ∷ Word name ∷ []) ts (payload_of plain) (depth-Field _))
payload_reads room (Sign Dot ∷ ts) = tt
payload_reads room ts = leaf_read room _ (Word (codes "_event") ∷ Sign Dot ∷ Word (codes "data") ∷ []) ts (one_word field.Payload refl) (depth-Field _)

abbrev IsNamed : List ℕ → EventField → Type 0
IsNamed word f = IsTrue (is_one_word f) × (field_text f ≡ word)

field_or : (word : List ℕ) (f : EventField) (others : Option EventField) → IsTrue (is_one_word f) → IfSome others (IsNamed word)
    → IfSome (if bytes_eq (field_text f) word then Some f else others) (IsNamed word)
field_or word f others one h = cond_both (bytes_eq (field_text f) word) (Some f) others (λ o. IfSome o (IsNamed word))
    (λ is. (one, (bytes_eq-Decides (field_text f) word).0 is)) (λ is. h)

field_of_reads : (word : List ℕ) → IfSome (field_of word) (IsNamed word)
field_of_reads word =
    field_or word field.Name _ refl (field_or word field.Kind _ refl (field_or word field.SendId _ refl
    (field_or word field.Origin _ refl (field_or word field.OriginType _ refl (field_or word field.InvokeId None refl tt)))))

event_field_reads : (room : ℕ) (ts : List Token) → IfSome (event_field ts) (IsRead room 0 (Word (codes "_event") ∷ ts))
event_field_reads room (Sign Dot ∷ Word word ∷ ts) =
    let Q : List ℕ → Expr × List Token → Type 0 = λ word r. IsRead room 0 (Word (codes "_event") ∷ Sign Dot ∷ Word word ∷ ts) r in
    cond_both (bytes_eq word (codes "data")) (payload ts) _ (λ o. IfSome o (Q word))
    (λ is. subst (λ word. IfSome (payload ts) (Q word)) (sym ((bytes_eq-Decides word (codes "data")).0 is)) (payload_reads room ts))
    (λ is. map_holds _ _ (λ f. (Field f, ts)) (field_of word) (field_of_reads word) (λ f named.
    subst (λ word. Q word (Field f, ts)) named.1
    (leaf_read room (Field f) (Word (codes "_event") ∷ Sign Dot ∷ Word (field_text f) ∷ []) ts (one_word f named.0) (depth-Field f))))
event_field_reads room ts = tt

-- what is read where a word is another's equal
word_or : (word name : List ℕ) (o others : Option (Expr × List Token)) (Q : List ℕ → Expr × List Token → Type 0) → IfSome o (Q name)
    → (bytes_eq word name ≡ false → IfSome others (Q word)) → IfSome (if bytes_eq word name then o else others) (Q word)
word_or word name o others Q h k = cond_both (bytes_eq word name) o others (λ o. IfSome o (Q word))
    (λ is. subst (λ word. IfSome o (Q word)) (sym ((bytes_eq-Decides word name).0 is)) h) k

named_reads : (room : ℕ) (inner : Parse Expr) → ReadsInside room inner → (word : List ℕ) (ts : List Token)
    → IfSome (named (nat_lt 0 room) inner word ts) (IsRead room 0 (Word word ∷ ts))
named_reads room inner h word ts =
    let Q : List ℕ → Expr × List Token → Type 0 = λ word r. IsRead room 0 (Word word ∷ ts) r in
    word_or word (codes "true") (Some (Truth true, ts)) _ Q (leaf_read room (Truth true) (Word (codes "true") ∷ []) ts yes_word (depth-Bool true)) (λ _.
    word_or word (codes "false") (Some (Truth false, ts)) _ Q (leaf_read room (Truth false) (Word (codes "false") ∷ []) ts no_word (depth-Bool false)) (λ _.
    word_or word (codes "In") _ _ Q (active_reads room ts) (λ _.
    word_or word (codes "len") _ _ Q (called_reads room inner h Len (codes "len") (len_read room) ts) (λ _.
    word_or word (codes "text") _ _ Q (called_reads room inner h AsText (codes "text") (as_text_read room) ts) (λ _.
    word_or word (codes "_event") _ _ Q (event_field_reads room ts) (λ other.
    if_holds _ (is_plain_name word) (Some (Datum word, ts)) (λ plain.
    leaf_read room (Datum word) (Word word ∷ []) ts (datum (and_from _ _ plain (not_from_false _ other))) (depth-Datum word))))))))

-- lists

record AreRead (room : ℕ) (ts : List Token) (r : List Expr × List Token) : Type 0 where
  taken : List Token
  splits : ts ≡ taken ++ Sign CloseSquare ∷ r.1
  spelled : SpellsItems room r.0 taken

more_read : (room : ℕ) (e : Expr) (es : List Expr) (ts us rest : List Token) → IsRead room 6 ts (e, Sign Comma ∷ us) → AreRead room us (es, rest) → AreRead room ts (e ∷ es, rest)
more_read room e es ts us rest r s = record {
  taken = r.taken ++ Sign Comma ∷ s.taken;
  splits = r.splits ∙ ap (λ us. r.taken ++ Sign Comma ∷ us) s.splits ∙ sym (append_assoc r.taken (Sign Comma ∷ s.taken) (Sign CloseSquare ∷ rest));
  spelled = more r.spelled s.spelled;
}

item_end_reads : (room : ℕ) (later : Parse (List Expr)) → ((ts : List Token) → IfSome (later ts) (AreRead room ts)) → (e : Expr) (ts us : List Token)
    → IsRead room 6 ts (e, us) → IfSome (item_end later e us) (AreRead room ts)
item_end_reads room later h e ts (Sign Comma ∷ us) r =
    map_holds _ _ _ (later us) (h us) (λ s are. more_read room e s.0 ts us s.1 r are)
item_end_reads room later h e ts (Sign CloseSquare ∷ us) r = record { taken = r.taken; splits = r.splits; spelled = last r.spelled }
item_end_reads room later h e ts us r = tt

items_reads : (room : ℕ) (inner : Parse Expr) → Reads room 6 inner → (n : ℕ) (ts : List Token) → IfSome (items inner n ts) (AreRead room ts)
unfolding items
items_reads room inner h zero ts = tt
items_reads room inner h (suc n) ts =
    then_holds _ _ _ (inner ts) (h ts)
    (λ r is. item_end_reads room (items inner n) (items_reads room inner h n) r.0 ts r.1 is)

listed_read : (room : ℕ) (es : List Expr) (ts rest : List Token) → AreRead room ts (es, rest) → depth (Listed es) ≤ 256 → IsRead (suc room) 0 (Sign OpenSquare ∷ ts) (Listed es, rest)
listed_read room es ts rest r shallow = record {
  taken = Sign OpenSquare ∷ r.taken ++ Sign CloseSquare ∷ [];
  splits = ap (λ ts. Sign OpenSquare ∷ ts) (closed_by (Sign CloseSquare) ts r.taken rest r.splits);
  spelled = listed r.spelled;
  shallow = shallow;
}

listed_reads : (room : ℕ) (inner : Parse Expr) → Reads room 6 inner → (has_room : Bool) (ts : List Token)
    → IfSome (if has_room then option_and_then (λ (r : List Expr × List Token). option_map (with_rest r.1) (within (Listed r.0))) (items inner (length ts) ts) else None)
    (IsRead (suc room) 0 (Sign OpenSquare ∷ ts))
listed_reads room inner h has_room ts =
    if_holds _ has_room _ (λ _.
    then_holds _ _ _ (items inner (length ts) ts) (items_reads room inner h (length ts) ts) (λ r are.
    map_holds _ _ (with_rest r.1) (within (Listed r.0)) (within_holds _ (Listed r.0) (listed_read room r.0 ts r.1 are)) (λ e is. is)))

list_reads : (room : ℕ) (inner : Parse Expr) → ReadsInside room inner → (ts : List Token) → IfSome (list_of (nat_lt 0 room) inner ts) (IsRead room 0 (Sign OpenSquare ∷ ts))
list_reads zero inner h (Sign CloseSquare ∷ ts) = tt
list_reads zero inner h ts = tt
list_reads (suc room) inner h (Sign CloseSquare ∷ ts) =
    if_holds _ (nat_lt 0 (suc room)) (Some (Listed [], ts)) (λ _. leaf_read (suc room) (Listed []) (Sign OpenSquare ∷ Sign CloseSquare ∷ []) ts no_items (depth-List []))
list_reads (suc room) inner h ts = listed_reads room inner h (nat_lt 0 (suc room)) ts

primary_reads : (room : ℕ) (inner : Parse Expr) → ReadsInside room inner → Reads room 0 (primary (nat_lt 0 room) inner)
primary_reads room inner h [] = tt
primary_reads room inner h (Word word ∷ ts) = named_reads room inner h word ts
primary_reads room inner h (Number n ∷ ts) = leaf_read room (Int n) (Number n ∷ []) ts number (depth-Int n)
primary_reads room inner h (Quoted text ∷ ts) = leaf_read room (Text text) (Quoted text ∷ []) ts literal (depth-Text text)
primary_reads room inner h (Sign Open ∷ ts) =
    IfSome_then (option_and_then closed (inner ts)) (brackets_reads room inner h ts) (λ r is. brackets_read room r.0 ts r.1 is)
primary_reads room inner h (Sign OpenSquare ∷ ts) = list_reads room inner h ts
primary_reads room inner h ts = tt

postfix_reads : (room : ℕ) (inner : Parse Expr) → ReadsInside room inner → Reads room 0 (postfix (nat_lt 0 room) inner)
postfix_reads room inner h ts =
    then_holds _ _ _ (primary (nat_lt 0 room) inner ts) (primary_reads room inner h ts)
    (λ r is. indexed_reads room inner h (257 - depth r.0) r.0 ts r.1 is)

loose_reads : (room : ℕ) (inner : Parse Expr) → ReadsInside room inner → (bound : ℕ) → Reads room bound (loose (nat_lt 0 room) inner bound)
unfolding loose
loose_reads room inner h zero ts = postfix_reads room inner h ts
loose_reads room inner h (suc zero) ts = prefixed_reads room (postfix (nat_lt 0 room) inner) (postfix_reads room inner h) ts
loose_reads room inner h (suc (suc k)) ts =
    then_holds _ _ _ (loose (nat_lt 0 room) inner (suc k) ts) (loose_reads room inner h (suc k) ts)
    (λ r is. chained_reads room (suc k) (loose (nat_lt 0 room) inner (suc k)) (loose_reads room inner h (suc k)) (257 - depth r.0) r.0 ts r.1 (left_first room (suc k) ts r is))

inside_reads : (room : ℕ) → ReadsInside room (inside room)
unfolding inside
inside_reads zero ts = tt
inside_reads (suc room) ts = loose_reads room (inside room) (inside_reads room) 6 ts

loose_at_reads : (room bound : ℕ) → Reads room bound (loose_at room bound)
loose_at_reads room bound ts = loose_reads room (inside room) (inside_reads room) bound ts

-- whatever is read is spelled
pub sound : (room bound : ℕ) (ts rest : List Token) (e : Expr) → loose_at room bound ts ≡ Some (e, rest) → IsRead room bound ts (e, rest)
sound room bound ts rest e is = subst (λ o. IfSome o (IsRead room bound ts)) is (loose_at_reads room bound ts)
