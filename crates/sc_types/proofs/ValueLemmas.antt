-- What values weigh, how deep they are and whether their parts fit, by one level.
use Rattle.std.proofs.Common.{◌≡◌, ℕ, suc, ℤ, ◌+◌, Bool, false, true, not, ◌&&◌, List, [], ◌∷◌, length, max, nat_le, sum_by, refl, ap, ap₂, sym, ◌∙◌, rules}
use Rattle.std.specs.List.{list_all}
use Rattle.std.proofs.lemmas.Bool.{and_from}
use Rattle.std.proofs.lemmas.List.Sums.{sum_by-cons}
use Rattle.sc_base.specs.Text.{is_int, is_text_within}
use Rattle.sc_types.specs.Values.{are_fit_items, count, deepest, deepest_of, depth, fits, has_fit_parts, is_fit_item, weight, weights}
use Rattle.sc_types.specs.declared.value.Value.{Value, Row_of-Value, end_of-Value, more_of-Value, items-the_row-Value, the_lemmas}
use Rattle.sc_types.specs.declared.value.Value.TheVariants.{Bool as Truth, Int, Text, List as Listed}
use Rattle.sc_types.specs.declared.value.Value.TheViews.{out-Value, roll-Value}
use Rattle.sc_types.specs.declared.value.Value.TheBlock.{shown-the_row-Value-0}
use denote.Hole.Carrier as carrier

-- how a value computes by one level
unfoldable opened : ℕ
unfolding out-Value roll-Value shown-the_row-Value-0 carrier.out carrier.roll carrier.shown carrier.hidden weight depth has_fit_parts
opened = 0

-- weight

-- a truth value weighs 16
pub weight-Bool : (b : Bool) → weight (Truth b) ≡ 16
unfolding opened
weight-Bool b = refl

-- an integer weighs 16
pub weight-Int : (n : ℤ) → weight (Int n) ≡ 16
unfolding opened
weight-Int n = refl

-- a text weighs 16 and its bytes
pub weight-Text : (text : List ℕ) → weight (Text text) ≡ 16 + length text
unfolding opened
weight-Text text = refl

row_weights : {m : _} (row : Row_of-Value m) → weights row ≡ sum_by weight (items-the_row-Value m row)
unfolding weight
row_weights end_of-Value = refl
row_weights (more_of-Value v rest) =
    ap (λ n. weight v + n) (row_weights rest) ∙ sym (sum_by-cons weight v (items-the_row-Value _ rest))

-- a list weighs 16 and its items
pub weight-List : (items : List Value) → weight (Listed items) ≡ 16 + sum_by weight items
unfolding weight
weight-List items = search (rules, the_lemmas, row_weights)

pub ruleset weight_layers = (weight-Bool, weight-Int, weight-Text, weight-List)

-- depth

-- a truth value is no list
pub depth-Bool : (b : Bool) → depth (Truth b) ≡ 0
unfolding opened
depth-Bool b = refl

-- an integer is no list
pub depth-Int : (n : ℤ) → depth (Int n) ≡ 0
unfolding opened
depth-Int n = refl

-- a text is no list
pub depth-Text : (text : List ℕ) → depth (Text text) ≡ 0
unfolding opened
depth-Text text = refl

row_depths : {m : _} (row : Row_of-Value m) → deepest row ≡ deepest_of (items-the_row-Value m row)
unfolding depth
row_depths end_of-Value = refl
row_depths (more_of-Value v rest) = ap (λ n. max (depth v) n) (row_depths rest)

-- a list is one deeper than its deepest item
pub depth-List : (items : List Value) → depth (Listed items) ≡ suc (deepest_of items)
unfolding depth
depth-List items = search (rules, the_lemmas, row_depths)

pub ruleset depth_layers = (depth-Bool, depth-Int, depth-Text, depth-List)

-- parts

-- the parts of a truth value fit
pub parts-Bool : (b : Bool) → has_fit_parts (Truth b) ≡ true
unfolding opened
parts-Bool b = refl

-- the parts of an integer fit where it has 64 bits
pub parts-Int : (n : ℤ) → has_fit_parts (Int n) ≡ is_int n
unfolding opened
parts-Int n = refl

-- the parts of a text fit where it is one of at most 65,536 bytes
pub parts-Text : (text : List ℕ) → has_fit_parts (Text text) ≡ is_text_within 65536 text
unfolding opened
parts-Text text = refl

row_counts : {m : _} (row : Row_of-Value m) → count row ≡ length (items-the_row-Value m row)
unfolding has_fit_parts
row_counts end_of-Value = refl
row_counts (more_of-Value v rest) = ap suc (row_counts rest)

row_fits : {m : _} (row : Row_of-Value m) → are_fit_items row ≡ list_all is_fit_item (items-the_row-Value m row)
unfolding has_fit_parts
row_fits end_of-Value = refl
row_fits (more_of-Value v rest) = ap (λ (b : Bool). is_fit_item v && b) (row_fits rest)

-- the parts of a list fit where it is no longer than it may be and each item fits
pub parts-List : (items : List Value)
    → has_fit_parts (Listed items) ≡ nat_le (length items) 256 && list_all is_fit_item items
unfolding has_fit_parts
parts-List items = search (rules, the_lemmas, row_counts, row_fits)

pub ruleset fit_layers = (parts-Bool, parts-Int, parts-Text, parts-List)

-- an integer of 64 bits is within the limits
pub fits-Int : (n : ℤ) → is_int n ≡ true → fits (Int n) ≡ true
fits-Int n h =
    and_from _ _ (and_from _ _ (parts-Int n ∙ h) (ap (λ d. nat_le d 8) (depth-Int n)))
    (ap (λ w. nat_le w 2097152) (weight-Int n))
