use Rattle.std.proofs.Common.{◌≡◌, ◌∙◌, None, Some, ◌+◌, arith}
use Rattle.sc_frame.specs.Fields.{number_at}
use Rattle.sc_frame.proofs.FieldLemmas.{number_at-short, number_at-read, number_at-put, number-told}
use Rattle.sc_frame.proofs.get.get_u64.Goals as goal

pub returns-then-not-has_room : goal.returns-then-not-has_room
returns-then-not-has_room c =
    let value : None ≡ number_at 8 c.args.piece.now c.args.at = number_at-short 8 c.args.at c.args.piece.now c.if-not-has_room.ensures in record {
      value = value;
      put = λ n h s. value ∙ number_at-put 8 n c.args.at c.args.piece.now h s;
      stands = number-told 8 c.args.at c.args.piece.now None (λ k. omega (arith, c.type_inv.piece k)) value;
    }

pub returns : goal.returns
returns c =
    let value : Some (c.read_u64.result, c.args.at + 8) ≡ number_at 8 c.args.piece.now c.args.at =
    number_at-read 8 c.args.at c.read_u64.result c.args.piece.now c.if-not-has_room.ensures c.read_u64.ensures in record {
      value = value;
      put = λ n h s. value ∙ number_at-put 8 n c.args.at c.args.piece.now h s;
      stands = number-told 8 c.args.at c.args.piece.now (Some (c.read_u64.result, c.args.at + 8)) (λ k. omega (arith, c.type_inv.piece k)) value;
    }
