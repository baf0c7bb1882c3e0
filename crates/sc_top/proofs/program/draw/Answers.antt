use Rattle.std.proofs.Common.{IfOk, OnErr, subst, sym}
use Rattle.sc_script.specs.Steps.{HasNoStep}
use Rattle.sc_script.specs.declared.script.Script.{Script}
use Rattle.sc_report.specs.Summary.{summary}
use Rattle.sc_top.specs.Journals.{disk_known}
use Rattle.sc_top.specs.Promise.{LeftBy, Runs, unopened}
use Rattle.sc_top.specs.Sayings.{status_of, text_of}
use Rattle.sc_words.specs.declared.asked.TheConstants.{RUN_BUDGET}
use Rattle.sc_top.proofs.DrawnLemmas.{no_step_drawn}
use Rattle.sc_top.proofs.program.draw.Goals as goal

pub run-requires-clause-steps : goal.run-requires-clause-steps
run-requires-clause-steps g c = λ κs within.
    subst HasNoStep (sym c.in-Ok.ensures) (no_step_drawn c.args.number c.args.size)

pub returns-in-Ok-clause-ok : goal.returns-in-Ok-clause-ok
returns-in-Ok-clause-ok g c =
    let k = disk_known g.D.Disk.law c.args.disk.now c.run.new.disk in
    subst (λ (x : Script). IfOk c.run.result (λ s. Runs k (λ opened. summary c.args.number c.args.size) x 0 RUN_BUDGET
    (status_of s) (text_of s))) c.in-Ok.ensures c.run.ensures.ok

pub returns-in-Ok-clause-err : goal.returns-in-Ok-clause-err
returns-in-Ok-clause-err g c =
    let k = disk_known g.D.Disk.law c.args.disk.now c.run.new.disk in
    subst (λ (x : Script). OnErr c.run.result (LeftBy k x 0 RUN_BUDGET)) c.in-Ok.ensures c.run.ensures.err

pub returns-in-Err-clause-err : goal.returns-in-Err-clause-err
returns-in-Err-clause-err g c = unopened (λ told image may. may)
