use Rattle.std.proofs.Common.{◌≡◌, ◌∙◌, ℕ, ◌+◌, List, drop, sym, ap, arith, length-drop}
use Rattle.std.proofs.lemmas.List.{take_rest, get_or-drop}
use Rattle.byteorder.specs.Endian.{big_number}
use Rattle.sc_frame.specs.Fields.{number_field, field_number}
use Rattle.sc_frame.proofs.FieldLemmas.{number_field-of_number}
use Rattle.sc_journal.proofs.text.format.Goals as goal

number : (c : goal.After-read_u32) → c.read_u32.result ≡ field_number 4 (drop 8 c.args.text.now)
unfolding field_number
number c = c.read_u32.ensures ∙ ap (λ (l : List ℕ). big_number 4 l) (take_rest c.args.text.now 8)

pub returns : goal.returns
returns c = record {
  number = number c;
  field = sym (ap (number_field 4) (number c) ∙ number_field-of_number 4 (drop 8 c.args.text.now) (omega (arith, c.requires, length-drop 8 c.args.text.now)) (λ k. rw (get_or-drop 8 c.args.text.now k 0) (omega (arith, c.type_inv.text (8 + k)))));
}
