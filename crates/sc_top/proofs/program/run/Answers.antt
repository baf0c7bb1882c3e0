use Rattle.std.proofs.Common.{Some, refl, sym, rules}
use Rattle.sc_dev.specs.Causes.{Rose}
use Rattle.sc_top.specs.Promise.{unread_script, unwritten}
use Rattle.sc_words.specs.declared.asked.Asked.TheVariants.{Run}
use Rattle.sc_top.proofs.SayingLemmas.{run_leaves, run_says, told_text}
use Rattle.sc_top.proofs.program.run.Goals as goal

pub returns-in-Ok-clause-says : goal.returns-in-Ok-clause-says
returns-in-Ok-clause-says g c =
    let workers = c.args.steps.workers in
    let budget = c.args.steps.budget in
    let source = g.S.Source.left c.args.source.now in
    let text = c.as_slice.result.now in
    let told = told_text (Some (Run workers budget)) source c.in-Ok.text.items text (sym c.as_slice.ensures.value) c.in-Ok.ensures.bytes in
    run_says workers budget _ text c.run_text.result told c.run_text.ensures.ok

pub returns-in-Ok-clause-left : goal.returns-in-Ok-clause-left
returns-in-Ok-clause-left g c =
    let workers = c.args.steps.workers in
    let budget = c.args.steps.budget in
    let source = g.S.Source.left c.args.source.now in
    let text = c.as_slice.result.now in
    let told = told_text (Some (Run workers budget)) source c.in-Ok.text.items text (sym c.as_slice.ensures.value) c.in-Ok.ensures.bytes in
    run_leaves workers budget _ text c.run_text.result told c.run_text.ensures.err

pub returns-in-Err-Fault-clause-says : goal.returns-in-Err-Fault-clause-says
returns-in-Err-Fault-clause-says g c =
    let rose : Rose (g.S.Source.faults c.args.source.now) (g.S.Source.faults c.read_up_to.new.source) = search rules in
    unread_script c.args.steps.workers c.args.steps.budget refl rose (λ told image may. may)

pub returns-in-Err-NoMemory-clause-left : goal.returns-in-Err-NoMemory-clause-left
returns-in-Err-NoMemory-clause-left g c = unwritten (λ told image may. may)
