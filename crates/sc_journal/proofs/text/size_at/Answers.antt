use Rattle.std.proofs.Common.{◌≡◌, ◌∙◌, sym, ap, arith}
use Rattle.sc_frame.specs.Fields.{number_field, field_number}
use Rattle.sc_frame.proofs.FieldLemmas.{number_field-of_number}
use Rattle.sc_journal.proofs.text.size_at.Goals as goal

number : (c : goal.After-read_u32) → c.read_u32.result ≡ field_number 4 c.args.rest.now
unfolding field_number
number c = c.read_u32.ensures

pub returns : goal.returns
returns c = record {
  number = number c;
  field = sym (ap (number_field 4) (number c) ∙ number_field-of_number 4 c.args.rest.now c.requires (λ k. omega (arith, c.type_inv.rest k)));
}
