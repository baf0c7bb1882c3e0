-- What the words give, by the rows of `clap`'s matches.
use Rattle.std.proofs.Common.{◌≡◌, true, false, if◌then◌else◌, List, [], Option, None, map, sym, ap, ap₂, ◌∙◌}
use Rattle.std.specs.List.{list_any}
use Rattle.std.specs.Option.{option_and_then}
use Rattle.clap.specs.Words.{Row, Text}
use Rattle.clap.proofs.WalkLemmas.{first_value-rows, list_any-map}
use Rattle.sc_words.specs.Asked.{asked, command_of, is_barred, taken}
use Rattle.sc_words.specs.Table.{chosen, faults}

-- the value of an option or an operand is that of its row
pub ruleset value_rows = (first_value-rows)

module _ {X : Type 0} (f : X → Text) (xs : List X) where
  -- a barred word
  pub barred : list_any (λ x. is_barred (f x)) xs ≡ true → None ≡ asked (map f xs)
  barred h = ap (λ b. if b then None else taken (faults (map f xs)) (chosen (map f xs)))
      (sym (sym (list_any-map is_barred f xs) ∙ h))

  -- words that the table takes
  pub command : (o : Option (Text × List Row)) → list_any (λ x. is_barred (f x)) xs ≡ false → faults (map f xs) ≡ []
      → o ≡ chosen (map f xs) → option_and_then (λ p. command_of p.0 p.1) o ≡ asked (map f xs)
  command o h none e =
      ap₂ taken (sym none) e
      ∙ ap (λ b. if b then None else taken (faults (map f xs)) (chosen (map f xs)))
      (sym (sym (list_any-map is_barred f xs) ∙ h))
