use Rattle.std.proofs.Common.{◌≡◌, true, ◌∷◌, ◌++◌, length, flat_map, sym, subst, ◌∙◌, ap}
use Rattle.sc_codec.specs.Bodies.{value_field}
use Rattle.sc_codec.proofs.ValueFields.{int-field, text-field, list-field, is_int-of_fits, same_int, put_after}
use Rattle.sc_codec.proofs.value.+put.Goals as goal
use Rattle.sc_frame.specs.Fields.{number_field, int_field, bytes_field}
use Rattle.sc_types.specs.Values.{fits_flat}

pub put_value-returns-in_ok-put_i64-in-Int : goal.put_value-returns-in_ok-put_i64-in-Int
put_value-returns-in_ok-put_i64-in-Int t c =
    let n = c.in-Int.number in
    let small = is_int-of_fits n (subst (λ v. fits_flat v ≡ true) c.in-Int.is c.requires) in
    put_after _ _ _ 1 _ _ c.in_ok-push-in-Int.ensures.items c.in_ok-put_i64-in-Int.ensures.ok
    (ap value_field c.in-Int.is ∙ int-field n ∙ ap (λ z. 1 ∷ int_field z) (sym (same_int n small)))

pub put_value-returns-in_ok-put_bytes-in-Text : goal.put_value-returns-in_ok-put_bytes-in-Text
put_value-returns-in_ok-put_bytes-in-Text t c =
    put_after _ _ _ 2 _ _ c.in_ok-push-in-Text.ensures.items c.in_ok-put_bytes-in-Text.ensures.ok
    (ap value_field c.in-Text.is ∙ text-field c.in-Text.text ∙ ap (λ text. 2 ∷ bytes_field text) (sym c.slice.ensures))

pub put_value-returns-in_ok-put_items-in-List : goal.put_value-returns-in_ok-put_items-in-List
put_value-returns-in_ok-put_items-in-List t c =
    put_after _ _ _ 3 _ _ c.in_ok-push-in-List.ensures.items c.in_ok-put_items-in-List.ensures
    (ap value_field c.in-List.is ∙ list-field c.in-List.items
    ∙ ap (λ items. 3 ∷ (number_field 2 (length items) ++ flat_map value_field items)) (sym c.slice-in-List.ensures))
