-- Equality of values, by one level.
use Rattle.std.proofs.Common.{◌≡◌, ℕ, suc, ℤ, Bool, false, true, List, ◌∷◌, [], length, ap, refl, rules, ◌&&◌, ◌∙◌}
use mathlib.Core.Bool.{beq}
use Rattle.std.specs.Option.{option_map_or}
use Rattle.std.specs.Ordering.{int_eq}
use Rattle.std.specs.Str.{bytes_eq}
use Rattle.sc_types.specs.declared.value.Value.{Value, Row_of-Value, end_of-Value, more_of-Value, items-the_row-Value, the_lemmas}
use Rattle.sc_types.specs.declared.value.Value.TheVariants.{Bool as Truth, Int, Text, List as Listed, outs-List}
use Rattle.sc_law.specs.Evaluation.{int_of, items_in, items_of, same_items, same_truth, same_value, text_of, truth_of}
use Rattle.sc_eval.specs.Lists.{same_lists}
use Rattle.sc_eval.proofs.Opened.{opened}

pub same_value-Bool : (b : Bool) (v : Value) → same_value (Truth b) v ≡ option_map_or (same_truth b) (truth_of v) false
unfolding opened
same_value-Bool b v = refl

pub same_value-Int : (n : ℤ) (v : Value) → same_value (Int n) v ≡ option_map_or (int_eq n) (int_of v) false
unfolding opened
same_value-Int n v = refl

pub same_value-Text : (text : List ℕ) (v : Value) → same_value (Text text) v ≡ option_map_or (bytes_eq text) (text_of v) false
unfolding opened
same_value-Text text v = refl

row_same : {m : _} (row : Row_of-Value m) (ws : List Value) → same_items row ws ≡ same_lists (items-the_row-Value m row) ws
unfolding same_value
row_same end_of-Value [] = refl
row_same end_of-Value (w ∷ ws) = refl
row_same (more_of-Value v rest) [] = refl
row_same (more_of-Value v rest) (w ∷ ws) = ap (λ (b : Bool). same_value v w && b) (row_same rest ws)

pub same_value-List : (vs : List Value) (v : Value) → same_value (Listed vs) v ≡ option_map_or (same_lists vs) (items_of v) false
unfolding same_value
same_value-List vs v = search (rules, the_lemmas, row_same)

pub ruleset same_layers = (same_value-Bool, same_value-Int, same_value-Text, same_value-List)

pub same-Bool : (a b : Bool) → same_value (Truth a) (Truth b) ≡ beq a b
unfolding opened
same-Bool true true = refl
same-Bool true false = refl
same-Bool false true = refl
same-Bool false false = refl

pub same-Int : (a b : ℤ) → same_value (Int a) (Int b) ≡ int_eq a b
unfolding opened
same-Int a b = refl

pub same-Text : (a b : List ℕ) → same_value (Text a) (Text b) ≡ bytes_eq a b
unfolding opened
same-Text a b = refl

pub same-List : (vs ws : List Value) → same_value (Listed vs) (Listed ws) ≡ same_lists vs ws
same-List vs ws =
    same_value-List vs (Listed ws) ∙ ap (λ v. option_map_or (same_lists vs) (items_in v) false) (outs-List ws)

-- lists of two lengths are not the same
pub same_lists-lengths : (vs ws : List Value) → (length vs ≡ length ws → ⊥) → same_lists vs ws ≡ false
same_lists-lengths [] [] h = absurd (h refl)
same_lists-lengths [] (w ∷ ws) h = refl
same_lists-lengths (v ∷ vs) [] h = refl
same_lists-lengths (v ∷ vs) (w ∷ ws) h =
    ap (λ b. same_value v w && b) (same_lists-lengths vs ws (λ e. h (ap (λ n. suc n) e))) ∙ and_false (same_value v w) where
      and_false : (b : Bool) → (b && false) ≡ false
      and_false true = refl
      and_false false = refl
