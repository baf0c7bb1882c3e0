use Rattle.std.proofs.Common.{Ok, Err, suc, length, ap, ◌∙◌}
use Rattle.std.proofs.lemmas.Result.{IfOk-weaker}
use Rattle.sc_script.specs.Joined.{joins}
use Rattle.sc_script.specs.Scripts.{script_from}
use Rattle.sc_script.proofs.JoinedLemmas.{at_line, at_fault}
use Rattle.sc_script.proofs.reader.Reading.take_line.Goals as goal

pub returns-in-Ok-clause-ok : goal.returns-in-Ok-clause-ok
returns-in-Ok-clause-ok c =
    IfOk-weaker c.add.result _ _
    (λ _ e more. ap (joins c.args.self.now) (at_line c.args.number (length c.args.self.now.closed) c.args.line.now
    more (Ok c.in-Ok.meaning) c.in-Ok.ensures.ok)
    ∙ e (λ clients. script_from (suc c.args.number) clients more)) c.add.ensures.ok

pub returns-in-Ok-clause-fault : goal.returns-in-Ok-clause-fault
returns-in-Ok-clause-fault c =
    λ f e more. at_line c.args.number (length c.args.self.now.closed) c.args.line.now more (Ok c.in-Ok.meaning)
    c.in-Ok.ensures.ok
    ∙ c.add.ensures.fault f e (λ clients. script_from (suc c.args.number) clients more)

pub returns-in-Err-Fault-clause-fault : goal.returns-in-Err-Fault-clause-fault
returns-in-Err-Fault-clause-fault c =
    λ f e more.
    let says = c.in-Err-Fault.ensures.fault c.in-Err-Fault.cause (ap Err c.in-Err-Fault.field-0-is) in
    let line = at_fault c.args.number (length c.args.self.now.closed) c.args.line.now more c.in-Err-Fault.cause f
    says in
    line (cc (e, c.fault.ensures))
