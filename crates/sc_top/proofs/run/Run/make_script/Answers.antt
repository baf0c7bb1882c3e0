use Rattle.std.proofs.Common.{[], append-nil, subst}
use Rattle.std.proofs.lemmas.Result.{err_from_is_err_and}
use Rattle.sc_top.specs.Run.{in_turn, of_clients}
use Rattle.sc_top.specs.Running.{Goes, Stops, run_of}
use Rattle.sc_top.proofs.RunLemmas.{goes_further, goes_on_further, if_err_map, on_ok_map, stops_further}
use Rattle.sc_top.proofs.run.Run.make_script.Goals as goal

pub returns-in_err-make_all-clause-stops : goal.returns-in_err-make_all-clause-stops
returns-in_err-make_all-clause-stops g c =
    let p = err_from_is_err_and c.from_residual-in_err-make_all.result c.from_residual-in_err-make_all.ensures.1 in
    let all = in_turn c.args.script in
    let later = of_clients 1 c.args.script.clients in
    let old = run_of c.args.self.now.book c.args.self.now.left in
    let stepped = run_of c.step_all.new.self.book c.step_all.new.self.left in
    let new = run_of c.make_all.new.self.book c.make_all.new.self.left in
    rw (p.1, p.2) (stops_further g.D.Disk.law c.in_err-make_all.field-0.0 old stepped new all all (c.in_ok-step_all.ensures.goes all)
    c.in_ok-step_all.ensures.goes_on (c.in_err-make_all.ensures.stops later))

pub returns-clause-goes : goal.returns-clause-goes
returns-clause-goes g c =
    let all = in_turn c.args.script in
    let later = of_clients 1 c.args.script.clients in
    let old = run_of c.args.self.now.book c.args.self.now.left in
    let stepped = run_of c.step_all.new.self.book c.step_all.new.self.left in
    let set_up = run_of c.make_all.new.self.book c.make_all.new.self.left in
    let done = run_of c.make_clients.new.self.book c.make_clients.new.self.left in
    let so_far : Goes g.D.Disk.law old set_up all later =
    goes_further old stepped set_up all all later (c.in_ok-step_all.ensures.goes all) (c.in_ok-make_all.ensures.goes later) in
    on_ok_map c.make_clients.result _ _ (λ goes. goes_further old set_up done all later [] so_far
    (subst (λ cs. Goes g.D.Disk.law set_up done cs []) (append-nil later) (goes []))) c.make_clients.ensures.goes

pub returns-clause-stops : goal.returns-clause-stops
returns-clause-stops g c =
    let all = in_turn c.args.script in
    let later = of_clients 1 c.args.script.clients in
    let old = run_of c.args.self.now.book c.args.self.now.left in
    let stepped = run_of c.step_all.new.self.book c.step_all.new.self.left in
    let set_up = run_of c.make_all.new.self.book c.make_all.new.self.left in
    let done = run_of c.make_clients.new.self.book c.make_clients.new.self.left in
    let law = g.D.Disk.law in
    let so_far : Goes g.D.Disk.law old set_up all later =
    goes_further old stepped set_up all all later (c.in_ok-step_all.ensures.goes all) (c.in_ok-make_all.ensures.goes later) in
    let on = goes_on_further law old.book stepped.book set_up.book c.in_ok-step_all.ensures.goes_on
    c.in_ok-make_all.ensures.goes_on in
    if_err_map c.make_clients.result _ _ (λ fault stops. stops_further law fault old set_up done all later so_far on
    (subst (λ cs. Stops law fault set_up done cs) (append-nil later) (stops []))) c.make_clients.ensures.stops
