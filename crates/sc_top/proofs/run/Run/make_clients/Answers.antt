use Rattle.std.proofs.Common.{◌≡◌, ℕ, ◌+◌, List, ◌∷◌, ◌++◌, append_assoc, ap, sym, subst, ◌∙◌, rules}
use Rattle.std.specs.Vec.Iter.{into_iter_items}
use Rattle.std.proofs.lemmas.Result.{err_from_is_err_and}
use Rattle.sc_book.specs.declared.fault.CallFault.TheVariants.{NoMemory}
use Rattle.sc_types.specs.declared.command.Command.{Command}
use Rattle.sc_top.specs.Run.{Made, of_client, of_clients}
use Rattle.sc_top.specs.Running.{Goes, run_of}
use Rattle.sc_top.proofs.RunLemmas.{goes_further, goes_nowhere, goes_on_further, goes_on_still, stops_at_once, stops_further}
use Rattle.sc_top.proofs.run.Run.make_clients.Goals as goal

pub loop-commands-init : goal.loop-commands-init
loop-commands-init g c =
    let old = run_of c.args.self.now.book c.args.self.now.left in
    let all : c.args.clients ≡ into_iter_items c.into_iter-commands-iterator.result = search rules in
    record {
      goes = λ cs. subst (λ (xs : List (List Command)). Goes g.D.Disk.law old old (of_clients 1 c.args.clients ++ cs) (of_clients 1 xs ++ cs)) all
          (goes_nowhere old (of_clients 1 c.args.clients ++ cs));
      stepped = c.requires.stepped;
      on = goes_on_still g.D.Disk.law c.args.self.now.book;
    }

pub loop-commands-preserved : goal.loop-commands-preserved
loop-commands-preserved g c =
    let old = run_of c.args.self.now.book c.args.self.now.left in
    let cur = run_of c.loop-commands.self.book c.loop-commands.self.left in
    let new = run_of c.make_all.new.self.book c.make_all.new.self.left in
    let at = c.loop-commands.invariant in
    let number = c.loop-commands.client + 1 in
    let n = c.in_ok-client.client in
    let first = c.in-Some.commands in
    let rest = into_iter_items c.next.new.self in
    let made = c.in_ok-make_all.ensures in
    let one_more : n ≡ number = search rules in
    let all : List Made → List Made = λ cs. of_clients 1 c.args.clients ++ cs in
    let left : List Made → List Made = λ cs. of_clients (n + 1) rest ++ cs in
    let here : (cs : List Made)
    → of_clients number (into_iter_items c.loop-commands.commands-iterator) ++ cs ≡ of_client n first ++ left cs =
    λ cs. ap (λ (xs : List (List Command)). of_clients number xs ++ cs) c.in-Some.ensures.steps.0
    ∙ ap (λ (k : ℕ). of_clients k (first ∷ rest) ++ cs) (sym one_more)
    ∙ append_assoc (of_client n first) (of_clients (n + 1) rest) cs in
    record {
      goes = λ cs. goes_further old cur new (all cs) (of_client n first ++ left cs) (left cs)
          (subst (Goes g.D.Disk.law old cur (all cs)) (here cs) (at.goes cs)) (made.goes (left cs));
      stepped = made.stepped;
      on = goes_on_further g.D.Disk.law old.book cur.book new.book at.on made.goes_on;
    }

pub returns-in_err-client-clause-stops : goal.returns-in_err-client-clause-stops
returns-in_err-client-clause-stops g c =
    let p = err_from_is_err_and c.from_residual.result c.from_residual.ensures.1 in
    let old = run_of c.args.self.now.book c.args.self.now.left in
    let cur = run_of c.loop-commands.self.book c.loop-commands.self.left in
    let at = c.loop-commands.invariant in
    let left = of_clients (c.loop-commands.client + 1) (into_iter_items c.loop-commands.commands-iterator) in
    rw (p.1, p.2) (λ cs. stops_further g.D.Disk.law NoMemory old cur cur (of_clients 1 c.args.clients ++ cs) (left ++ cs) (at.goes cs) at.on
    (stops_at_once g.D.Disk.law cur (left ++ cs)))

pub returns-in_err-make_all-clause-stops : goal.returns-in_err-make_all-clause-stops
returns-in_err-make_all-clause-stops g c =
    let p = err_from_is_err_and c.from_residual-in_err-make_all.result c.from_residual-in_err-make_all.ensures.1 in
    let old = run_of c.args.self.now.book c.args.self.now.left in
    let cur = run_of c.loop-commands.self.book c.loop-commands.self.left in
    let new = run_of c.make_all.new.self.book c.make_all.new.self.left in
    let at = c.loop-commands.invariant in
    let number = c.loop-commands.client + 1 in
    let n = c.in_ok-client.client in
    let first = c.in-Some.commands in
    let rest = into_iter_items c.next.new.self in
    let one_more : n ≡ number = search rules in
    let all : List Made → List Made = λ cs. of_clients 1 c.args.clients ++ cs in
    let left : List Made → List Made = λ cs. of_clients (n + 1) rest ++ cs in
    let here : (cs : List Made)
    → of_clients number (into_iter_items c.loop-commands.commands-iterator) ++ cs ≡ of_client n first ++ left cs =
    λ cs. ap (λ (xs : List (List Command)). of_clients number xs ++ cs) c.in-Some.ensures.steps.0
    ∙ ap (λ (k : ℕ). of_clients k (first ∷ rest) ++ cs) (sym one_more)
    ∙ append_assoc (of_client n first) (of_clients (n + 1) rest) cs in
    rw (p.1, p.2) (λ cs. stops_further g.D.Disk.law c.in_err-make_all.field-0.0 old cur new (all cs) (of_client n first ++ left cs)
    (subst (Goes g.D.Disk.law old cur (all cs)) (here cs) (at.goes cs)) at.on (c.in_err-make_all.ensures.stops (left cs)))
