use Rattle.std.proofs.Common.{◌≡◌, ◌∙◌, ℕ, None, Option, option_and_then, IfSome, List, arith, ap, sym, subst}
use Rattle.sc_frame.specs.Fields.{StandsAt, bytes_field, part_at, bytes_at}
use Rattle.sc_frame.proofs.FieldLemmas.{part_at-short, part_at-read, bytes_at-put, bytes_at-stands, none_some, some_pair}
use Rattle.sc_frame.proofs.get.get_bytes.Goals as goal

pub returns-then-not-has_room-clause-put : goal.returns-then-not-has_room-clause-put
returns-then-not-has_room-clause-put c = λ b h s.
    let none : None ≡ bytes_at c.args.piece.now c.args.at =
    part_at-short c.in_ok-length.length c.in_ok-length.start c.args.piece.now c.if-not-has_room.ensures
    ∙ ap (option_and_then (part_at c.args.piece.now)) c.in_ok-length.ensures.value in
    absurd (none_some b _ (none ∙ bytes_at-put b c.args.at c.args.piece.now h s))

pub returns-clause-put : goal.returns-clause-put
returns-clause-put c = λ b h s. some_pair _ _ _ _
    (part_at-read c.in_ok-length.length c.in_ok-length.start c.args.piece.now c.if-not-has_room.ensures
    ∙ ap (option_and_then (part_at c.args.piece.now)) c.in_ok-length.ensures.value
    ∙ bytes_at-put b c.args.at c.args.piece.now h s)

pub returns-clause-stands : goal.returns-clause-stands
returns-clause-stands c =
    let Stands : Option (List ℕ × ℕ) → Type 0 = λ r. IfSome r (λ x. StandsAt (bytes_field x.0) c.args.piece.now c.args.at) in
    subst Stands (sym (part_at-read c.in_ok-length.length c.in_ok-length.start c.args.piece.now c.if-not-has_room.ensures
    ∙ ap (option_and_then (part_at c.args.piece.now)) c.in_ok-length.ensures.value))
    (bytes_at-stands c.args.at c.args.piece.now (λ k. omega (arith, c.type_inv.piece k)))
