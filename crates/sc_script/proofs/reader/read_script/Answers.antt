use Rattle.std.proofs.Common.{◌≡◌, suc, length, Ok, ap, sym, ◌∙◌, arith}
use Rattle.std.proofs.lemmas.Bool.Decides.{nat_tests}
use Rattle.sc_script.proofs.JoinedLemmas.{within_limit, whole}
use Rattle.sc_script.specs.declared.script.Script.{Script}
use Rattle.sc_script.proofs.reader.read_script.Goals as goal

pub returns-clause-script : goal.returns-clause-script
returns-clause-script c =
    let none : length c.loop-rest.rest.now ≡ 0 = grind (arith, nat_tests, c.loop-rest-test.ensures) in
    within_limit c.args.text.now c.if-text-gt-SCRIPT_TEXT_LIMIT.false
    ∙ sym c.loop-rest.invariant.script
    ∙ whole c.loop-rest.reading (suc c.loop-rest.number) c.loop-rest.rest.now none
    ∙ ap (λ (script : Script). Ok script) (sym c.in_ok-into_script.ensures)
