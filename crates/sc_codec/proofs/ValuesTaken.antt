-- What is read as a value is spelled so.
use Rattle.std.proofs.Common.{◌≡◌, ℕ, ℤ, ◌==◌, Bool, true, false, cond, List, [], ◌∷◌, ◌++◌, Option, Some, None, refl, sym, ap, subst, ◌∙◌, ◌⊎◌, inl, inr}
use Rattle.std.proofs.lemmas.Bool.{eqb-true}
use Rattle.std.proofs.lemmas.Option.{cond_some, same_Some}
use Rattle.sc_codec.specs.Bodies.{value_field}
use Rattle.sc_codec.specs.Reading.{sized_from, counted_from, truth_from, int_from, text_from, item_of_kind, item_from, list_from, shape_from, value_from}
use Rattle.sc_codec.proofs.Fields.{IsBytes, IsBytes-behind, Taken, Takes, made_some, taken_kind, signed_from, takes_signed, takes_sized, sized_field}
use Rattle.sc_codec.proofs.Steps.{takes_tested, takes_counted, counted_field}
use Rattle.sc_codec.proofs.ValueFields.{truth-field, int-field, text-field, list-field}
use Rattle.sc_frame.specs.Fields.{int_field}
use Rattle.sc_types.specs.Values.{fits_flat}
use Rattle.sc_types.specs.declared.value.Value.{Value}
use Rattle.sc_types.specs.declared.value.Value.TheVariants.{Bool as Truth, Int, Text, List as Listed}

-- which way a test went
pub chosen : {A : Type 0} (b : Bool) (x y z : A) → cond b x y ≡ z → ((b ≡ true) × (x ≡ z)) ⊎ ((b ≡ false) × (y ≡ z))
chosen true x y z e = inl (refl, e)
chosen false x y z e = inr (refl, e)

truth_taken : (b : Bool) (byte : ℕ) (bytes rest : List ℕ) (v : Value) → IsBytes (byte ∷ bytes) → byte ≡ cond b 1 0
    → ◌≡◌ {A = Value × List ℕ} (Truth b, bytes) (v, rest) → Taken (0 ∷ byte ∷ bytes) (value_field v) rest
truth_taken b byte bytes rest v h k e =
    subst (λ (y : Value × List ℕ). Taken (0 ∷ byte ∷ bytes) (value_field y.0) y.1) e
    (record {
      parts = ap (λ (n : ℕ). 0 ∷ n ∷ bytes) k ∙ ap (λ (w : List ℕ). w ++ bytes) (sym (truth-field b));
      left = IsBytes-behind byte bytes h;
    })

truth_takes : (bytes : List ℕ) (v : Value) (rest : List ℕ) → IsBytes bytes → truth_from bytes ≡ Some (v, rest)
    → Taken (0 ∷ bytes) (value_field v) rest
unfolding truth_from
truth_takes [] v rest h e = absurd cc
truth_takes (b ∷ bytes) v rest h e =
    elim (chosen (b == 0) (Some (Truth false, bytes)) (cond (b == 1) (Some (Truth true, bytes)) None) (Some (v, rest))
    e) [
      | inl p ↦ truth_taken false b bytes rest v h (eqb-true b 0 p.0) (same_Some _ _ p.1)
      | inr q ↦
          let p = cond_some (b == 1) (Truth true, bytes) (v, rest) q.1 in truth_taken true b bytes rest v h
          (eqb-true b 1 p.0) p.1
    ]

retold : (kind k : ℕ) (bytes rest : List ℕ) (u v : Value) → kind ≡ k → u ≡ v → Taken (k ∷ bytes) (value_field u) rest
    → Taken (kind ∷ bytes) (value_field v) rest
retold kind k bytes rest u v e f t =
    subst (λ (w : Value). Taken (kind ∷ bytes) (value_field w) rest) f
    (subst (λ (n : ℕ). Taken (n ∷ bytes) (value_field u) rest) (sym e) t)

int_takes : (bytes : List ℕ) (v : Value) (rest : List ℕ) → IsBytes bytes → int_from bytes ≡ Some (v, rest)
    → (n : ℤ) × Taken (1 ∷ bytes) (value_field (Int n)) rest × (Int n ≡ v)
unfolding int_from
int_takes bytes v rest h e =
    let m = made_some (λ n. Int n) (signed_from bytes) v rest e in
    let t = takes_signed.of bytes m.0 rest h m.1 in
    (m.0, taken_kind 1 bytes (int_field m.0) rest (value_field (Int m.0)) t.0 (int-field m.0), m.2)

text_takes : (bytes : List ℕ) (v : Value) (rest : List ℕ) → IsBytes bytes → text_from bytes ≡ Some (v, rest)
    → (text : List ℕ) × Taken (2 ∷ bytes) (value_field (Text text)) rest × (Text text ≡ v)
unfolding text_from
text_takes bytes v rest h e =
    let m = made_some (λ text. Text text) (sized_from 4 bytes) v rest e in
    let t = (takes_sized 4).of bytes m.0 rest h m.1 in
    (m.0, taken_kind 2 bytes (sized_field 4 m.0) rest (value_field (Text m.0)) t.0 (text-field m.0), m.2)

kind_takes : (kind : ℕ) (bytes : List ℕ) (v : Value) (rest : List ℕ) → IsBytes bytes
    → item_of_kind kind bytes ≡ Some (v, rest) → Taken (kind ∷ bytes) (value_field v) rest
unfolding item_of_kind
kind_takes kind bytes v rest h e =
    elim (chosen (kind == 1) (int_from bytes) (cond (kind == 2) (text_from bytes) None) (Some (v, rest)) e) [
      | inl p ↦
          let t = int_takes bytes v rest h p.1 in retold kind 1 bytes rest (Int t.0) v (eqb-true kind 1 p.0) t.2 t.1
      | inr q ↦ elim (chosen (kind == 2) (text_from bytes) None (Some (v, rest)) q.1) [
        | inl p ↦
            let t = text_takes bytes v rest h p.1 in retold kind 2 bytes rest (Text t.0) v (eqb-true kind 2 p.0) t.2 t.1
        | inr n ↦ absurd (none_some v rest n.1)
      ]
    ]
  where
    none_some : (v : Value) (rest : List ℕ) → ◌≡◌ {A = Option (Value × List ℕ)} None (Some (v, rest)) → ⊥
    none_some v rest e = cc

item_takes : (bytes : List ℕ) (v : Value) (rest : List ℕ) → IsBytes bytes → item_from bytes ≡ Some (v, rest)
    → Taken bytes (value_field v) rest × Unit {0}
unfolding item_from
item_takes [] v rest h e = absurd cc
item_takes (kind ∷ bytes) v rest h e = (kind_takes kind bytes v rest (IsBytes-behind kind bytes h) e, tt)

-- what is taken as an item of a list
pub takes_item : Takes item_from value_field (λ v. Unit {0})
takes_item = record { of = item_takes }

list_takes : (bytes : List ℕ) (v : Value) (rest : List ℕ) → IsBytes bytes → list_from bytes ≡ Some (v, rest)
    → (items : List Value) × Taken (3 ∷ bytes) (value_field (Listed items)) rest × (Listed items ≡ v)
unfolding list_from
list_takes bytes v rest h e =
    let m = made_some (λ items. Listed items) (counted_from item_from bytes) v rest e in
    let t = (takes_counted item_from value_field takes_item).of bytes m.0 rest h m.1 in
    (m.0, taken_kind 3 bytes (counted_field value_field m.0) rest (value_field (Listed m.0)) t.0 (list-field m.0), m.2)

shape_takes : (bytes : List ℕ) (v : Value) (rest : List ℕ) → IsBytes bytes → shape_from bytes ≡ Some (v, rest)
    → Taken bytes (value_field v) rest × Unit {0}
unfolding shape_from
shape_takes [] v rest h e = absurd cc
shape_takes (kind ∷ bytes) v rest h e =
    let behind = IsBytes-behind kind bytes h in (
      elim (chosen (kind == 0) (truth_from bytes) (cond (kind == 3) (list_from bytes) (item_of_kind kind bytes))
          (Some (v, rest)) e) [
            | inl p ↦ retold kind 0 bytes rest v v (eqb-true kind 0 p.0) refl (truth_takes bytes v rest behind p.1)
            | inr q ↦ elim (chosen (kind == 3) (list_from bytes) (item_of_kind kind bytes) (Some (v, rest)) q.1) [
              | inl p ↦
                  let t = list_takes bytes v rest behind p.1 in retold kind 3 bytes rest (Listed t.0) v
                  (eqb-true kind 3 p.0) t.2 t.1
              | inr p ↦ kind_takes kind bytes v rest behind p.1
            ]
          ],
      tt,
    )

value_takes : (bytes : List ℕ) (v : Value) (rest : List ℕ) → IsBytes bytes → value_from bytes ≡ Some (v, rest)
    → Taken bytes (value_field v) rest × (fits_flat v ≡ true)
unfolding value_from
value_takes bytes v rest h e =
    let shape : Takes shape_from value_field (λ w. Unit {0}) = record { of = shape_takes } in
    let t = (takes_tested fits_flat shape_from value_field shape).of bytes v rest h e in (t.0, t.1.1)

-- what is taken as a value
pub takes_value : Takes value_from value_field (λ v. fits_flat v ≡ true)
takes_value = record { of = value_takes }
