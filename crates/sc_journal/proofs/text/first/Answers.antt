use Rattle.std.proofs.Common.{◌≡◌, ◌∙◌, ℕ, ◌+◌, List, drop, sym, ap, arith, length-drop}
use Rattle.std.proofs.lemmas.List.{take_rest, get_or-drop}
use Rattle.byteorder.specs.Endian.{big_number}
use Rattle.sc_frame.specs.Fields.{number_field, field_number}
use Rattle.sc_frame.proofs.FieldLemmas.{number_field-of_number}
use Rattle.sc_journal.proofs.text.first.Goals as goal

number : (c : goal.After-read_u64) → c.read_u64.result ≡ field_number 8 (drop 12 c.args.text.now)
unfolding field_number
number c = c.read_u64.ensures ∙ ap (λ (l : List ℕ). big_number 8 l) (take_rest c.args.text.now 12)

pub returns : goal.returns
returns c = record {
  number = number c;
  field = sym (ap (number_field 8) (number c) ∙ number_field-of_number 8 (drop 12 c.args.text.now) (omega (arith, c.requires, length-drop 12 c.args.text.now)) (λ k. rw (get_or-drop 12 c.args.text.now k 0) (omega (arith, c.type_inv.text (12 + k)))));
}
