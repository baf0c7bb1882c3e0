use Rattle.std.proofs.Common.{◌≡◌, ◌∙◌, None, Some, ◌+◌, arith}
use Rattle.std.specs.Int.{w64, cast_signed, cast_unsigned}
use Rattle.sc_frame.specs.Fields.{int_at}
use Rattle.sc_frame.proofs.FieldLemmas.{int_at-short, int_at-read, int_at-put, int-told}
use Rattle.sc_frame.proofs.get.get_i64.Goals as goal

pub returns-then-not-has_room : goal.returns-then-not-has_room
returns-then-not-has_room c =
    let value : None ≡ int_at c.args.piece.now c.args.at = int_at-short c.args.at c.args.piece.now c.if-not-has_room.ensures in record {
      value = value;
      put = λ n h s. value ∙ int_at-put n c.args.at c.args.piece.now h s;
      stands = int-told c.args.at c.args.piece.now None (λ k. omega (arith, c.type_inv.piece k)) value;
    }

pub returns : goal.returns
returns c =
    let told = cast_signed w64 (cast_unsigned w64 c.read_i64.result) in
    let value : Some (told, c.args.at + 8) ≡ int_at c.args.piece.now c.args.at =
    int_at-read c.args.at c.read_i64.result c.args.piece.now (λ k. omega (arith, c.type_inv.piece k)) c.if-not-has_room.ensures c.read_i64.ensures in record {
      value = value;
      put = λ n h s. value ∙ int_at-put n c.args.at c.args.piece.now h s;
      stands = int-told c.args.at c.args.piece.now (Some (told, c.args.at + 8)) (λ k. omega (arith, c.type_inv.piece k)) value;
    }
