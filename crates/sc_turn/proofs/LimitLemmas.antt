-- The limit of a legal chart on the rounds of a turn.
use Rattle.std.proofs.Common.{◌≡◌, ℕ, ◌≤◌, ◌&&◌, Bool, false, not, nat_le, Option, Some, None, List, [], ◌∷◌, refl, arith, subst}
use Rattle.std.proofs.lemmas.Bool.Decides.{nat_tests}
use Rattle.std.specs.List.{AllByRecursion as AllOf}
use Rattle.std.specs.Option.{option_map_or}
use Rattle.std.specs.Str.Parse.{digits_value}
use Rattle.sc_types.specs.declared.attribute.Attribute.TheVariants as attribute
use Rattle.sc_types.specs.declared.chart.Chart.{Chart}
use Rattle.sc_types.specs.Attributes.{text_at}
use Rattle.sc_law.specs.Legality.{fault_at, first_fault, is_bad_limit, legal_fault, number_at, tests}
use Rattle.sc_law.specs.Nodes.{Path, elements}
use Rattle.sc_sets.proofs.Union.LegalElements.{element-has, no-number, no-test, none-first, none-found}

-- an element without this fault
abbrev IsFine : Chart → Path → Type 0
IsFine c p = is_bad_limit c p ≡ false

fine-at : (c : Chart) (p : Path) → fault_at c p ≡ None → IsFine c p
fine-at c p h =
    let number = no-number (number_at c p) p h in
    let each = none-found (λ (t : ℕ × (Chart → Path → Bool)). t.1 c p) tests (no-test _ number) in
    each.1.1.1.1.1.1.1.0

fine-all : (c : Chart) (ps : List Path) → first_fault c ps ≡ None → AllOf (IsFine c) ps
fine-all c [] h = tt
fine-all c (p ∷ ps) h =
    let both = none-first (fault_at c p) (first_fault c ps) h in (fine-at c p both.0, fine-all c ps both.1)

fine-root : (c : Chart) → legal_fault c ≡ None → IsFine c []
unfolding legal_fault
fine-root c legal = element-has (IsFine c) c.root c.root [] [] refl (fine-all c (elements c) legal)

within : (n : ℕ) → not (nat_le 1 n && nat_le n 10000) ≡ false → n ≤ 10000
within n h = grind (arith, nat_tests)

-- the text of a limit writes at most 10,000
pub limit-within : (c : Chart) (text : List ℕ) → legal_fault c ≡ None → text_at attribute.Limit c.root ≡ Some text
    → digits_value 10 text ≤ 10000
limit-within c text legal is = within (digits_value 10 text)
    (subst (λ (o : Option (List ℕ)). option_map_or
    (λ t. not (nat_le 1 (digits_value 10 t) && nat_le (digits_value 10 t) 10000)) o false ≡ false) is (fine-root c legal))

pub ruleset limits = (limit-within)
