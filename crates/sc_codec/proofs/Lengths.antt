-- How many bytes a body has.
use Rattle.std.proofs.Common.{◌≡◌, ◌≤◌, ◌+◌, ℕ, ℤ, Bool, List, [], ◌∷◌, ◌++◌, arith, flat_map, length, length-append, map, sum_by, ap, subst, sym}
use Rattle.std.specs.Int.{cast_unsigned, w64}
use Rattle.std.proofs.lemmas.List.Sums.{sum_by-cons}
use Rattle.sc_codec.specs.Bodies.{Pair, body_of, name_field, pair_field, pairs_field, value_field}
use Rattle.sc_frame.specs.Fields.{bytes_field, number_field}
use Rattle.sc_frame.proofs.FieldLemmas.{length-number_field}
use Rattle.sc_types.specs.declared.command.Command.TheVariants.{Cancel, Install, Post, Start, Step, Tick}
use Rattle.sc_types.specs.declared.value.Value.{Value}
use Rattle.sc_types.specs.declared.value.Value.TheFolds.{ind-Value, map-Value}
use Rattle.sc_types.specs.declared.value.Value.TheOpen.{Value-F}
use Rattle.sc_types.specs.declared.value.Value.TheVariants.{Bool as Truth, Int, Text, List as Listed, rolls-Bool, rolls-Int, rolls-Text, rolls-List}
use Rattle.sc_types.specs.declared.value.Value.TheViews.{roll-Value}
use Rattle.sc_codec.proofs.ValueFields.{int-field, list-field, text-field, truth-field}

-- Values, under a weight that gives each kind of value its bytes.
module _ (weight : Value → ℕ) (truth : (b : Bool) → 2 ≤ weight (Truth b)) (number : (n : ℤ) → 9 ≤ weight (Int n))
    (text : (bytes : List ℕ) → 5 + length bytes ≤ weight (Text bytes))
    (listed : (items : List Value) → 3 + sum_by weight items ≤ weight (Listed items)) where
  abbrev IsLight : Value → Type 0
  IsLight v = length (value_field v) ≤ weight v

  abbrev Light : Type 0
  Light = (v : Value) × IsLight v

  abbrev values : List Light → List Value
  values vs = map (λ (v : Light). v.0) vs

  abbrev bare : Value-F Light → Value-F Value
  bare x = map-Value Light Value (λ v. v.0) x

  items_light : (vs : List Light) → length (flat_map value_field (values vs)) ≤ sum_by weight (values vs)
  items_light [] = omega arith
  items_light (v ∷ vs) =
      omega (
        arith,
        v.1,
        items_light vs,
        length-append (value_field v.0) (flat_map value_field (values vs)),
        sum_by-cons weight v.0 (values vs),
      )

  list_light : (vs : List Light) → IsLight (Listed (values vs))
  list_light vs =
      let count = length (values vs) in
      omega (
        arith,
        ap length (list-field (values vs)),
        listed (values vs),
        items_light vs,
        length-append (number_field 2 count) (flat_map value_field (values vs)),
        length-number_field 2 count,
      )

  text_light : (bytes : List ℕ) → IsLight (Text bytes)
  text_light bytes =
      omega (
        arith,
        ap length (text-field bytes),
        text bytes,
        length-append (number_field 4 (length bytes)) bytes,
        length-number_field 4 (length bytes),
      )

  layer_light : (x : Value-F Light) → IsLight (roll-Value (bare x))
  layer_light (Value-F.Bool b) =
      subst IsLight (sym (rolls-Bool b)) (omega (arith, ap length (truth-field b), truth b))
  layer_light (Value-F.Int n) =
      subst IsLight (sym (rolls-Int n))
      (omega (arith, ap length (int-field n), number n, length-number_field 8 (cast_unsigned w64 n)))
  layer_light (Value-F.Text bytes) = subst IsLight (sym (rolls-Text bytes)) (text_light bytes)
  layer_light (Value-F.List vs) = subst IsLight (sym (rolls-List (values vs))) (list_light vs)

  -- a value has no more bytes than it weighs
  pub value_light : (v : Value) → length (value_field v) ≤ weight v
  value_light = ind-Value IsLight (λ x y is. subst (λ z. IsLight (roll-Value z)) is (layer_light y))

  -- a pair weighs 4 more than its name and its value
  abbrev pub pair_weight : Pair → ℕ
  pair_weight p = length p.0 + 4 + weight p.1

  all_light : (ps : List Pair) → length (flat_map pair_field ps) ≤ sum_by pair_weight ps
  all_light [] = omega arith
  all_light (p ∷ ps) =
      omega (
        arith,
        length-append (pair_field p) (flat_map pair_field ps),
        all_light ps,
        sum_by-cons pair_weight p ps,
        length-append (name_field p.0) (value_field p.1),
        length-append (number_field 2 (length p.0)) p.0,
        length-number_field 2 (length p.0),
        value_light p.1,
      )

  -- and pairs have no more than 2 and what they weigh
  pub pairs_light : (ps : List Pair) → length (pairs_field ps) ≤ 2 + sum_by pair_weight ps
  pairs_light ps =
      omega (
        arith,
        length-append (number_field 2 (length ps)) (flat_map pair_field ps),
        length-number_field 2 (length ps),
        all_light ps,
      )

-- the bytes of a name
pub length-name : (name : List ℕ) → length (name_field name) ≡ 2 + length name
length-name name =
    omega (arith, length-append (number_field 2 (length name)) name, length-number_field 2 (length name))

-- the bytes of the bodies of commands

pub length-install : (name chart : List ℕ) → length (body_of (Install name chart)) ≡ 7 + length name + length chart
length-install name chart =
    omega (
      arith,
      length-append (name_field name) (bytes_field chart),
      length-name name,
      length-append (number_field 4 (length chart)) chart,
      length-number_field 4 (length chart),
    )

pub length-start : (session chart : List ℕ)
    → length (body_of (Start session chart)) ≡ 5 + length session + length chart
length-start session chart =
    omega (arith, length-append (name_field session) (name_field chart), length-name session, length-name chart)

pub length-post : (session event : List ℕ) (pairs : List Pair)
    → length (body_of (Post session event pairs)) ≡ 5 + length session + length event + length (pairs_field pairs)
length-post session event pairs =
    omega (
      arith,
      length-append (name_field session) (name_field event ++ pairs_field pairs),
      length-append (name_field event) (pairs_field pairs),
      length-name session,
      length-name event,
    )

pub length-tick : (ticks : ℕ) → length (body_of (Tick ticks)) ≡ 9
length-tick ticks = omega (arith, length-number_field 8 ticks)

pub length-cancel : (session : List ℕ) → length (body_of (Cancel session)) ≡ 3 + length session
length-cancel session = omega (arith, length-name session)

pub length-step : (session : List ℕ) → length (body_of (Step session)) ≡ 3 + length session
length-step session = omega (arith, length-name session)
