-- Which numbers stand in a value of each kind.
use Rattle.std.proofs.Common.{◌≡◌, ℕ, ℤ, Bool, true, List, [], ◌∷◌, map, refl, ap, sym, ◌∙◌, ◌&&◌}
use Rattle.std.specs.List.{list_all}
use Rattle.sc_base.specs.Text.{is_int}
use Rattle.sc_types.specs.declared.value.Value.{Value}
use Rattle.sc_types.specs.declared.value.Value.TheFolds.{fold-roll-Value}
use Rattle.sc_types.specs.declared.value.Value.TheOpen.{Value-F}
use Rattle.sc_types.specs.declared.value.Value.TheVariants.{Bool as Truth, Int, Text, List as Listed, rolls-Bool, rolls-Int, rolls-Text, rolls-List}
use Rattle.sc_report_facts.specs.Histories.{ints_step, has_ints}

pub truth-ints : (b : Bool) → has_ints (Truth b) ≡ true
unfolding has_ints
truth-ints b = ap has_ints (sym (rolls-Bool b)) ∙ fold-roll-Value Bool ints_step (Value-F.Bool b)

pub int-ints : (n : ℤ) → has_ints (Int n) ≡ is_int n
unfolding has_ints
int-ints n = ap has_ints (sym (rolls-Int n)) ∙ fold-roll-Value Bool ints_step (Value-F.Int n)

pub text-ints : (text : List ℕ) → has_ints (Text text) ≡ true
unfolding has_ints
text-ints text = ap has_ints (sym (rolls-Text text)) ∙ fold-roll-Value Bool ints_step (Value-F.Text text)

each : (items : List Value) → list_all (λ b. b) (map has_ints items) ≡ list_all has_ints items
each [] = refl
each (v ∷ vs) = ap (λ b. has_ints v && b) (each vs)

pub list-ints : (items : List Value) → has_ints (Listed items) ≡ list_all has_ints items
unfolding has_ints
list-ints items =
    ap has_ints (sym (rolls-List items)) ∙ fold-roll-Value Bool ints_step (Value-F.List items) ∙ each items

pub ruleset ints = (truth-ints, int-ints, text-ints, list-ints)
