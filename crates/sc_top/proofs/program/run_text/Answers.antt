use Rattle.std.proofs.Common.{◌≡◌, ◌++◌, Err, codes, rules, sym, subst}
use Rattle.sc_script.specs.Scripts.{script_of}
use Rattle.sc_script.proofs.StepLemmas.{no_step_in}
use Rattle.sc_top.specs.Journals.{disk_known}
use Rattle.sc_report.specs.Lines.{line}
use Rattle.sc_top.specs.Promise.{SaysOfScript, no_script, unread}
use Rattle.sc_top.specs.ScriptFaults.{script_fault_text}
use Rattle.sc_top.specs.declared.status.Status.TheVariants.{BadScript}
use Rattle.sc_top.proofs.JournalLemmas.{on_err}
use Rattle.sc_top.proofs.SayingLemmas.{script_leaves, script_says}
use Rattle.sc_top.proofs.program.run_text.Goals as goal

pub run-requires-clause-steps : goal.run-requires-clause-steps
run-requires-clause-steps g c = λ κs within. no_step_in c.args.text.now c.in-Ok.script c.in-Ok.ensures.script

pub returns-in-Ok-clause-ok : goal.returns-in-Ok-clause-ok
returns-in-Ok-clause-ok g c = script_says _ c.args.steps.workers c.args.steps.budget _ c.in-Ok.script c.run.result c.in-Ok.ensures.script c.run.ensures.ok

pub returns-in-Ok-clause-err : goal.returns-in-Ok-clause-err
returns-in-Ok-clause-err g c =
    script_leaves _ c.args.steps.workers c.args.steps.budget _ c.in-Ok.script c.run.result c.in-Ok.ensures.script c.run.ensures.err

pub returns-in_err-script_fault_line-in-Err-Fault-clause-err :
    goal.returns-in_err-script_fault_line-in-Err-Fault-clause-err
returns-in_err-script_fault_line-in-Err-Fault-clause-err g c = on_err _ _ (unread _ (λ told image may. may))

pub returns-in-Err-NoMemory-clause-err : goal.returns-in-Err-NoMemory-clause-err
returns-in-Err-NoMemory-clause-err g c = unread _ (λ told image may. may)

pub returns-in_ok-script_fault_line-in-Err-Fault-clause-ok :
    goal.returns-in_ok-script_fault_line-in-Err-Fault-clause-ok
returns-in_ok-script_fault_line-in-Err-Fault-clause-ok g c =
    let fault = c.in-Err-Fault.fault in
    let workers = c.args.steps.workers in
    let budget = c.args.steps.budget in
    let text = c.args.text.now in
    let k = disk_known g.D.Disk.law c.args.disk.now c.args.disk.now in
    let said = line (codes "script " ++ script_fault_text fault) in
    let is_said : said ≡ c.in_ok-script_fault_line-in-Err-Fault.field-0 = search rules in
    let spelled : script_of text ≡ Err fault = c.in-Err-Fault.ensures.fault fault (cc) in
    subst (λ t. SaysOfScript k workers budget (script_of text) BadScript t) is_said
    (subst (λ s. SaysOfScript k workers budget s BadScript said) (sym spelled) (no_script fault (λ told image may. may)))
