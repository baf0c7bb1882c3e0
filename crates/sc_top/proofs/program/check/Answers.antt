use Rattle.std.proofs.Common.{Some, sym, rules}
use Rattle.sc_dev.specs.Causes.{Rose}
use Rattle.sc_top.specs.Promise.{read_fault}
use Rattle.sc_words.specs.declared.asked.Asked.TheVariants.{Check}
use Rattle.sc_top.proofs.SayingLemmas.{text_says, told_text}
use Rattle.sc_top.proofs.program.check.Goals as goal

pub returns-in-Ok-clause-says : goal.returns-in-Ok-clause-says
returns-in-Ok-clause-says g c =
    let source = g.S.Source.left c.args.source.now in
    let text = c.as_slice.result.now in
    let told = told_text (Some Check) source c.in-Ok.text.items text (sym c.as_slice.ensures.value) c.in-Ok.ensures.bytes in
    text_says source _ text c.check_text.result told c.check_text.ensures.status c.check_text.ensures.text

pub returns-in-Err-Fault-clause-says : goal.returns-in-Err-Fault-clause-says
returns-in-Err-Fault-clause-says g c =
    let rose : Rose (g.S.Source.faults c.args.source.now) (g.S.Source.faults c.read_up_to.new.source) = search rules in
    read_fault rose
