use Rattle.std.proofs.Common.{Err, ap}
use Rattle.std.proofs.lemmas.Result.{err_from_is_err_and}
use Rattle.sc_top.specs.Running.{run_of}
use Rattle.sc_top.proofs.RunLemmas.{makes_of, unmade_of}
use Rattle.sc_top.proofs.run.Run.make.Goals as goal

pub returns-in_err-call-clause-err : goal.returns-in_err-call-clause-err
returns-in_err-call-clause-err g c =
    let p = err_from_is_err_and c.from_residual.result c.from_residual.ensures.1 in
    let why = c.in_err-call.ensures in
    rw (p.1, p.2) (unmade_of g.D.Disk.law
    c.in_err-call.field-0.0 c.args.who c.args.command (run_of c.args.self.now.book c.args.self.now.left)
    (run_of c.call.new.self c.args.self.now.left) why.err why.doubts (λ e. why.disk (ap Err e)) (λ e. why.full (ap Err e))
    (λ other. why.fine (λ e. other (cc))))

pub returns-clause-ok : goal.returns-clause-ok
returns-clause-ok g c =
    let does = c.in_ok-call.ensures in
    makes_of c.args.who c.args.command c.args.self.now.book c.call.new.self c.args.self.now.left _ does.ok (does.fine (λ e. cc))
