use Rattle.std.proofs.Common.{◌≡◌, List, ◌∷◌, ◌++◌, ap, subst, rules}
use Rattle.std.proofs.lemmas.Result.{err_from_is_err_and}
use Rattle.sc_types.specs.declared.command.Command.{Command}
use Rattle.sc_top.specs.Run.{Made, of_client}
use Rattle.sc_top.specs.Running.{Goes, run_of}
use Rattle.sc_top.proofs.RunLemmas.{goes_by_command, goes_further, goes_nowhere, goes_on_further, goes_on_still, stops_by_command, stops_further}
use Rattle.sc_top.proofs.run.Run.make_all.Goals as goal

pub loop-command-preserved : goal.loop-command-preserved
loop-command-preserved g c =
    let n = c.args.client in
    let old = run_of c.args.self.now.book c.args.self.now.left in
    let cur = run_of c.loop-command.self.book c.loop-command.self.left in
    let mid = run_of c.make.new.self.book c.make.new.self.left in
    let new = run_of c.step_all.new.self.book c.step_all.new.self.left in
    let at = c.loop-command.invariant in
    let first = c.in-Some.command in
    let rest = c.take_first.new.self in
    let stepped = c.in_ok-step_all.ensures in
    let all : List Made → List Made = λ cs. of_client n c.args.commands ++ cs in
    let left : List Made → List Made = λ cs. of_client n rest ++ cs in
    let here : (cs : List Made)
    → of_client n c.loop-command.left ++ cs ≡ (n, first) ∷ left cs =
    λ cs. ap (λ (xs : List Command). of_client n xs ++ cs) c.in-Some.ensures in
    let before : (cs : List Made) → Goes g.D.Disk.law old cur (all cs) ((n, first) ∷ left cs) =
    λ cs. subst (Goes g.D.Disk.law old cur (all cs)) (here cs) (at.goes cs) in
    let made : (cs : List Made) → Goes g.D.Disk.law old mid (all cs) (left cs) =
    λ cs. goes_further old cur mid (all cs) ((n, first) ∷ left cs) (left cs) (before cs)
    (goes_by_command cur mid n first (left cs) at.stepped c.in_ok-make.ensures.ok) in
    let law = g.D.Disk.law in
    record {
      goes = λ cs. goes_further old mid new (all cs) (left cs) (left cs) (made cs) (stepped.goes (left cs));
      stepped = stepped.stepped;
      on = goes_on_further law old.book mid.book new.book
          (goes_on_further law old.book cur.book mid.book at.on c.in_ok-make.ensures.goes_on) stepped.goes_on;
    }

pub returns-in_err-make-clause-stops : goal.returns-in_err-make-clause-stops
returns-in_err-make-clause-stops g c =
    let p = err_from_is_err_and c.from_residual.result c.from_residual.ensures.1 in
    let n = c.args.client in
    let old = run_of c.args.self.now.book c.args.self.now.left in
    let cur = run_of c.loop-command.self.book c.loop-command.self.left in
    let new = run_of c.make.new.self.book c.make.new.self.left in
    let at = c.loop-command.invariant in
    let first = c.in-Some.command in
    let rest = c.take_first.new.self in
    let all : List Made → List Made = λ cs. of_client n c.args.commands ++ cs in
    let left : List Made → List Made = λ cs. of_client n rest ++ cs in
    let here : (cs : List Made)
    → of_client n c.loop-command.left ++ cs ≡ (n, first) ∷ left cs =
    λ cs. ap (λ (xs : List Command). of_client n xs ++ cs) c.in-Some.ensures in
    let law = g.D.Disk.law in
    let fault = c.in_err-make.field-0.0 in
    rw (p.1, p.2) (λ cs. stops_further law fault old cur new (all cs) ((n, first) ∷ left cs)
    (subst (Goes g.D.Disk.law old cur (all cs)) (here cs) (at.goes cs)) at.on
    (stops_by_command law fault cur new n first (left cs) at.stepped c.in_err-make.ensures.err))

pub returns-in_err-step_all-clause-stops : goal.returns-in_err-step_all-clause-stops
returns-in_err-step_all-clause-stops g c =
    let p = err_from_is_err_and c.from_residual-in_err-step_all.result c.from_residual-in_err-step_all.ensures.1 in
    let n = c.args.client in
    let old = run_of c.args.self.now.book c.args.self.now.left in
    let cur = run_of c.loop-command.self.book c.loop-command.self.left in
    let mid = run_of c.make.new.self.book c.make.new.self.left in
    let new = run_of c.step_all.new.self.book c.step_all.new.self.left in
    let at = c.loop-command.invariant in
    let first = c.in-Some.command in
    let rest = c.take_first.new.self in
    let all : List Made → List Made = λ cs. of_client n c.args.commands ++ cs in
    let left : List Made → List Made = λ cs. of_client n rest ++ cs in
    let here : (cs : List Made)
    → of_client n c.loop-command.left ++ cs ≡ (n, first) ∷ left cs =
    λ cs. ap (λ (xs : List Command). of_client n xs ++ cs) c.in-Some.ensures in
    let made : (cs : List Made) → Goes g.D.Disk.law old mid (all cs) (left cs) =
    λ cs. goes_further old cur mid (all cs) ((n, first) ∷ left cs) (left cs)
    (subst (Goes g.D.Disk.law old cur (all cs)) (here cs) (at.goes cs))
    (goes_by_command cur mid n first (left cs) at.stepped c.in_ok-make.ensures.ok) in
    let law = g.D.Disk.law in
    rw (p.1, p.2) (λ cs. stops_further law c.in_err-step_all.field-0.0 old mid new (all cs) (left cs) (made cs)
    (goes_on_further law old.book cur.book mid.book at.on c.in_ok-make.ensures.goes_on)
    (c.in_err-step_all.ensures.stops (left cs)))

pub loop-command-init : goal.loop-command-init
loop-command-init g c =
    let old = run_of c.args.self.now.book c.args.self.now.left in
    let n = c.args.client in
    let all : c.args.commands ≡ c.new-left.result = search rules in
    record {
      goes = λ cs. subst (λ (xs : List Command). Goes g.D.Disk.law old old (of_client n c.args.commands ++ cs) (of_client n xs ++ cs)) all
          (goes_nowhere old (of_client n c.args.commands ++ cs));
      stepped = c.requires.stepped;
      on = goes_on_still g.D.Disk.law c.args.self.now.book;
    }
