use Rattle.std.proofs.Common.{rules, ◌≡◌, arith, refl}
use Rattle.std.proofs.lemmas.Slice.Eq.{text_from_reads}
use Rattle.std.specs.Prelude.{codes}
use Rattle.sc_script.proofs.meaning.form_of.Goals as goal

pub returns-in-cancel : goal.returns-in-cancel
returns-in-cancel c =
    let same : c.args.word.now ≡ codes "cancel" =
    text_from_reads c.args.word.now (codes "cancel") (omega arith) (search rules) in
    rw same refl

pub returns-in-client : goal.returns-in-client
returns-in-client c =
    let same : c.args.word.now ≡ codes "client" =
    text_from_reads c.args.word.now (codes "client") (omega arith) (search rules) in
    rw same refl
