use Rattle.std.proofs.Common.{◌∙◌, map, string_bytes, subst, sym}
use Rattle.sc_words.specs.Commands.{IsMatched}
use Rattle.sc_words.proofs.Taken.{barred, command}
use Rattle.sc_words.proofs.reader.read_words.Goals as goal

pub returns-then-has_barred : goal.returns-then-has_barred
returns-then-has_barred c = barred _ c.args.words.now (sym c.has_barred.ensures ∙ c.if-has_barred.true)

pub returns-in-Some : goal.returns-in-Some
returns-in-Some c =
    let e = subst (IsMatched (map string_bytes c.args.words.now)) c.in-Some.is c.in_ok-matches.ensures in
    c.chosen.ensures ∙ command _ c.args.words.now _ (sym c.has_barred.ensures ∙ c.if-has_barred.false) e.0 e.1
