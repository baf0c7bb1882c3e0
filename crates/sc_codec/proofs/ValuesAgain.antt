-- What is spelled as a value is read, whatever follows.
use Rattle.std.proofs.Common.{◌≡◌, ℕ, ℤ, ◌≤◌, Bool, true, false, cond, List, [], ◌∷◌, ◌++◌, length, Some, refl, sym, ap, subst, ◌∙◌, arith}
use Rattle.std.specs.List.{list_all, AllByRecursion}
use Rattle.std.proofs.lemmas.Bool.{and_parts, leb-true}
use Rattle.sc_base.specs.Text.{is_text, is_int}
use Rattle.sc_codec.specs.Bodies.{value_field}
use Rattle.sc_codec.specs.Reading.{made, truth_from, int_from, text_from, item_of_kind, item_from, list_from, shape_from, value_from}
use Rattle.sc_codec.proofs.Fields.{Again, again_signed, again_sized}
use Rattle.sc_codec.proofs.Steps.{again_tested, again_counted, counted_field}
use Rattle.sc_codec.proofs.ValueFields.{truth-field, int-field, text-field, list-field, int_fits, item_fits, value_fits}
use Rattle.sc_frame.specs.Fields.{int_field, bytes_field}
use Rattle.sc_types.specs.Values.{is_flat_item, fits_flat}
use Rattle.sc_types.specs.declared.value.Value.{Value, out-Value}
use Rattle.sc_types.specs.declared.value.Value.TheOpen.{Value-F}
use Rattle.sc_types.specs.declared.value.Value.TheVariants.{Bool as Truth, Int, Text, List as Listed, rolls-Bool, rolls-Int, rolls-Text, rolls-List}
use Rattle.sc_types.specs.declared.value.Value.TheViews.{roll-Value, roll-out-Value}

int_again : (n : ℤ) (rest : List ℕ) → is_int n ≡ true → item_of_kind 1 (int_field n ++ rest) ≡ Some (Int n, rest)
unfolding item_of_kind int_from
int_again n rest e = ap (made (λ z. Int z)) (again_signed.of n rest (int_fits n e))

text_again : (text rest : List ℕ) → is_text text ≡ true → item_of_kind 2 (bytes_field text ++ rest)
    ≡ Some (Text text, rest)
unfolding item_of_kind text_from
text_again text rest e =
    let short : length text ≤ 4096 = leb-true _ _ (and_parts _ _ (and_parts _ _ e).0).0 in
    ap (made (λ t. Text t)) ((again_sized 4).of text rest (omega arith))

-- items of a list

item_layer : (x : Value-F Value) (rest : List ℕ) → item_fits x ≡ true → item_from (value_field (roll-Value x) ++ rest)
    ≡ Some (roll-Value x, rest)
unfolding item_from
item_layer (Value-F.Bool b) rest e = absurd cc
item_layer (Value-F.Int n) rest e =
    let Back : Value → Type 0 = λ v. item_from (value_field v ++ rest) ≡ Some (v, rest) in
    subst Back (sym (rolls-Int n)) (ap (λ (w : List ℕ). item_from (w ++ rest)) (int-field n) ∙ int_again n rest e)
item_layer (Value-F.Text text) rest e =
    let Back : Value → Type 0 = λ v. item_from (value_field v ++ rest) ≡ Some (v, rest) in
    subst Back (sym (rolls-Text text)) (ap (λ (w : List ℕ). item_from (w ++ rest)) (text-field text)
    ∙ text_again text rest e)
item_layer (Value-F.List items) rest e = absurd cc

item_again : (v : Value) (rest : List ℕ) → is_flat_item v ≡ true → item_from (value_field v ++ rest) ≡ Some (v, rest)
item_again v rest e =
    let Back : Value → Type 0 = λ w. item_from (value_field w ++ rest) ≡ Some (w, rest) in
    subst Back (roll-out-Value v) (item_layer (out-Value v) rest e)

-- an item of a list is read again
pub again_item : Again item_from value_field (λ v. is_flat_item v ≡ true)
again_item = record { of = item_again }

-- values

each_item : (items : List Value) → list_all is_flat_item items ≡ true → AllByRecursion (λ v. is_flat_item v ≡ true) items
each_item [] e = tt
each_item (v ∷ vs) e = let p = and_parts (is_flat_item v) (list_all is_flat_item vs) e in (p.0, each_item vs p.1)

truth_again : (b : Bool) (rest : List ℕ) → shape_from (0 ∷ cond b 1 0 ∷ rest) ≡ Some (Truth b, rest)
unfolding shape_from truth_from
truth_again true rest = refl
truth_again false rest = refl

list_again : (items : List Value) (rest : List ℕ) → length items ≤ 256 → list_all is_flat_item items ≡ true
    → shape_from (3 ∷ (counted_field value_field items ++ rest)) ≡ Some (Listed items, rest)
unfolding shape_from list_from
list_again items rest short e =
    ap (made (λ vs. Listed vs)) ((again_counted item_from value_field again_item).of items rest
    (omega arith, each_item items e))

shape_layer : (x : Value-F Value) (rest : List ℕ) → value_fits x ≡ true
    → shape_from (value_field (roll-Value x) ++ rest) ≡ Some (roll-Value x, rest)
unfolding shape_from
shape_layer (Value-F.Bool b) rest e =
    let Back : Value → Type 0 = λ v. shape_from (value_field v ++ rest) ≡ Some (v, rest) in
    subst Back (sym (rolls-Bool b)) (ap (λ (w : List ℕ). shape_from (w ++ rest)) (truth-field b) ∙ truth_again b rest)
shape_layer (Value-F.Int n) rest e =
    let Back : Value → Type 0 = λ v. shape_from (value_field v ++ rest) ≡ Some (v, rest) in
    subst Back (sym (rolls-Int n)) (ap (λ (w : List ℕ). shape_from (w ++ rest)) (int-field n) ∙ int_again n rest e)
shape_layer (Value-F.Text text) rest e =
    let Back : Value → Type 0 = λ v. shape_from (value_field v ++ rest) ≡ Some (v, rest) in
    subst Back (sym (rolls-Text text)) (ap (λ (w : List ℕ). shape_from (w ++ rest)) (text-field text)
    ∙ text_again text rest e)
shape_layer (Value-F.List items) rest e =
    let p = and_parts _ _ e in
    let Back : Value → Type 0 = λ v. shape_from (value_field v ++ rest) ≡ Some (v, rest) in
    subst Back (sym (rolls-List items)) (ap (λ (w : List ℕ). shape_from (w ++ rest)) (list-field items)
    ∙ list_again items rest (leb-true _ _ p.0) p.1)

shape_again : (v : Value) (rest : List ℕ) → fits_flat v ≡ true → shape_from (value_field v ++ rest) ≡ Some (v, rest)
shape_again v rest e =
    let Back : Value → Type 0 = λ w. shape_from (value_field w ++ rest) ≡ Some (w, rest) in
    subst Back (roll-out-Value v) (shape_layer (out-Value v) rest e)

value_again : (v : Value) (rest : List ℕ) → fits_flat v ≡ true → value_from (value_field v ++ rest) ≡ Some (v, rest)
unfolding value_from
value_again v rest e =
    let shape : Again shape_from value_field (λ w. fits_flat w ≡ true) = record { of = shape_again } in
    (again_tested fits_flat shape_from value_field shape).of v rest (e, e)

-- a value is read again
pub again_value : Again value_from value_field (λ v. fits_flat v ≡ true)
again_value = record { of = value_again }
