-- The bytes of a value of each kind, and of one item more.
use Rattle.std.proofs.Common.{append_assoc, ◌≡◌, Bool, true, false, cond, List, [], ◌∷◌, ◌++◌, ℕ, ℤ, pos, negsuc, arith, ◌<◌, ◌^◌, ap, ap₂, sym, ◌∙◌, length, flat_map, map, nat_le, ◌&&◌}
use Rattle.std.specs.List.{list_all}
use Rattle.std.specs.Prelude.{FitsSigned}
use Rattle.std.specs.Int.{w64, cast_signed, cast_unsigned}
use Rattle.std.proofs.lemmas.Bool.{ltb-true}
use Rattle.std.proofs.lemmas.Int.{to_z-of_z}
use Rattle.std.proofs.lemmas.List.{length-map}
use Rattle.std.proofs.lemmas.List.Folds.{flat_map-map}
use Rattle.sc_base.specs.Text.{is_text, is_int}
use Rattle.sc_codec.specs.Bodies.{value_step, value_field}
use Rattle.sc_frame.specs.Fields.{number_field, int_field, bytes_field}
use Rattle.sc_types.specs.Values.{is_flat_item, fits_flat}
use Rattle.sc_types.specs.declared.value.Value.{Value}
use Rattle.sc_types.specs.declared.value.Value.TheFolds.{fold-roll-Value}
use Rattle.sc_types.specs.declared.value.Value.TheOpen.{Value-F}
use Rattle.sc_types.specs.declared.value.Value.TheVariants.{Bool as Truth, Int, Text, List as Listed, rolls-Bool, rolls-Int, rolls-Text, rolls-List, outs-Int}

-- the bytes of a truth value
pub truth-field : (b : Bool) → value_field (Truth b) ≡ 0 ∷ cond b 1 0 ∷ []
unfolding value_field
truth-field b = ap value_field (sym (rolls-Bool b)) ∙ fold-roll-Value (List ℕ) value_step (Value-F.Bool b)

-- the bytes of an integer
pub int-field : (n : ℤ) → value_field (Int n) ≡ 1 ∷ int_field n
unfolding value_field
int-field n = ap value_field (sym (rolls-Int n)) ∙ fold-roll-Value (List ℕ) value_step (Value-F.Int n)

-- the bytes of a text
pub text-field : (text : List ℕ) → value_field (Text text) ≡ 2 ∷ bytes_field text
unfolding value_field
text-field text = ap value_field (sym (rolls-Text text)) ∙ fold-roll-Value (List ℕ) value_step (Value-F.Text text)

-- the bytes of a list
pub list-field : (items : List Value) → value_field (Listed items)
    ≡ 3 ∷ (number_field 2 (length items) ++ flat_map value_field items)
unfolding value_field
list-field items =
    let count : length (map value_field items) ≡ length items = simp length-map in
    let texts : flat_map (λ (item : List ℕ). item) (map value_field items) ≡ flat_map value_field items =
    flat_map-map (λ (item : List ℕ). item) value_field items in
    ap value_field (sym (rolls-List items)) ∙ fold-roll-Value (List ℕ) value_step (Value-F.List items)
    ∙ ap₂ (λ n bytes. 3 ∷ (number_field 2 n ++ bytes)) count texts

pub ruleset fields = (truth-field, int-field, text-field, list-field)

-- `is_flat_item`, of a layer
abbrev pub item_fits : Value-F Value → Bool
item_fits (Value-F.Bool b) = false
item_fits (Value-F.Int n) = is_int n
item_fits (Value-F.Text text) = is_text text
item_fits (Value-F.List items) = false

-- `fits_flat`, of a layer
abbrev pub value_fits : Value-F Value → Bool
value_fits (Value-F.Bool b) = true
value_fits (Value-F.Int n) = is_int n
value_fits (Value-F.Text text) = is_text text
value_fits (Value-F.List items) = nat_le (length items) 256 && list_all is_flat_item items

-- an integer within the limits has 64 bits
pub int_fits : (n : ℤ) → is_int n ≡ true → FitsSigned w64 n
int_fits (pos n) e = let low : n < 2 ^ 63 = ltb-true n (2 ^ 63) e in omega arith
int_fits (negsuc n) e = let low : n < 2 ^ 63 = ltb-true n (2 ^ 63) e in omega arith

-- an integer within the limits is one as a value
pub is_int-of_fits : (n : ℤ) → fits_flat (Int n) ≡ true → is_int n ≡ true
is_int-of_fits n e = sym (ap value_fits (outs-Int n)) ∙ e

-- an integer within the limits is the one of its 64 bits
pub same_int : (n : ℤ) → is_int n ≡ true → cast_signed w64 (cast_unsigned w64 n) ≡ n
same_int n e = to_z-of_z w64 n (int_fits n e)

-- the byte of a kind was put, and then what the value holds
pub put_after : (old mid new : List ℕ) (kind : ℕ) (held whole : List ℕ) → mid ≡ old ++ kind ∷ [] → new ≡ mid ++ held
    → whole ≡ kind ∷ held
    → new ≡ old ++ whole
put_after old mid new kind held whole m n w =
    n ∙ ap (λ (xs : List ℕ). xs ++ held) m ∙ append_assoc old (kind ∷ []) held ∙ ap (λ (xs : List ℕ). old ++ xs) (sym w)
