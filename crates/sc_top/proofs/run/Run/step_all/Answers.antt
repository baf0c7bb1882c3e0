use Rattle.std.proofs.Common.{◌≡◌, ◌∙◌, suc, ◌-◌, Some, refl, sym, ap, arith, rules}
use Rattle.std.proofs.lemmas.Result.{err_from_is_err_and}
use Rattle.sc_book.specs.declared.fault.CallFault.TheVariants.{NoMemory}
use Rattle.sc_machine.specs.Cues.{ready}
use Rattle.sc_top.specs.Running.{run_of}
use Rattle.sc_top.proofs.RunLemmas.{goes_by_step, goes_further, goes_nowhere, goes_on_further, goes_on_still, stops_at_once, stops_by_step, stops_further}
use Rattle.sc_top.proofs.run.Run.step_all.Goals as goal

pub loop-self-init : goal.loop-self-init
loop-self-init g c = record {
  goes = λ cs. goes_nowhere (run_of c.args.self.now.book c.args.self.now.left) cs;
  on = goes_on_still g.D.Disk.law c.args.self.now.book;
}

pub loop-self-preserved : goal.loop-self-preserved
loop-self-preserved g c =
    let old = run_of c.args.self.now.book c.args.self.now.left in
    let cur = run_of c.loop-self.self.book c.loop-self.self.left in
    let mid = run_of c.loop-self.self.book (c.loop-self.self.left - 1) in
    let new = run_of c.make.new.self.book c.make.new.self.left in
    let name = c.in_ok-session.session in
    let at : ready c.host.result.now.image ≡ Some name = search rules in
    let is_ready : ready c.loop-self.self.book.host ≡ Some name = ap ready (sym c.host.ensures.host) ∙ at in
    let one_less : c.loop-self.self.left ≡ suc (c.loop-self.self.left - 1) = omega arith in
    record {
      goes = λ cs. goes_further old cur new cs cs cs (c.loop-self.invariant.goes cs)
          (goes_by_step cur mid new name cs refl one_less is_ready c.in_ok-make.ensures.ok);
      on = goes_on_further g.D.Disk.law c.args.self.now.book c.loop-self.self.book c.make.new.self.book c.loop-self.invariant.on
          c.in_ok-make.ensures.goes_on;
    }

pub returns-in_err-session-clause-stops : goal.returns-in_err-session-clause-stops
returns-in_err-session-clause-stops g c =
    let p = err_from_is_err_and c.from_residual.result c.from_residual.ensures.1 in
    let old = run_of c.args.self.now.book c.args.self.now.left in
    let cur = run_of c.loop-self.self.book c.loop-self.self.left in
    rw (p.1, p.2) (λ cs. stops_further g.D.Disk.law NoMemory old cur cur cs cs (c.loop-self.invariant.goes cs) c.loop-self.invariant.on
    (stops_at_once g.D.Disk.law cur cs))

pub returns-in_err-make-clause-stops : goal.returns-in_err-make-clause-stops
returns-in_err-make-clause-stops g c =
    let p = err_from_is_err_and c.from_residual-in_err-make.result c.from_residual-in_err-make.ensures.1 in
    let old = run_of c.args.self.now.book c.args.self.now.left in
    let cur = run_of c.loop-self.self.book c.loop-self.self.left in
    let mid = run_of c.loop-self.self.book (c.loop-self.self.left - 1) in
    let new = run_of c.make.new.self.book c.make.new.self.left in
    let name = c.in_ok-session.session in
    let at : ready c.host.result.now.image ≡ Some name = search rules in
    let is_ready : ready c.loop-self.self.book.host ≡ Some name = ap ready (sym c.host.ensures.host) ∙ at in
    let one_less : c.loop-self.self.left ≡ suc (c.loop-self.self.left - 1) = omega arith in
    rw (p.1, p.2) (λ cs. stops_further g.D.Disk.law c.in_err-make.field-0.0 old cur new cs cs (c.loop-self.invariant.goes cs)
    c.loop-self.invariant.on
    (stops_by_step g.D.Disk.law
    c.in_err-make.field-0.0 cur mid new name cs refl one_less is_ready c.in_err-make.ensures.err))
