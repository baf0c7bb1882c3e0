use Rattle.std.proofs.Common.{[], arith}
use Rattle.sc_pool.specs.Books.{seen_of}
use Rattle.sc_pool.proofs.SetUpLemmas.{ran_cut, ran_nothing, ran_script, steps_after}
use Rattle.sc_pool.proofs.jobs.run_jobs.Goals as goal

pub returns-then-len-ge-MOST_CLIENTS : goal.returns-then-len-ge-MOST_CLIENTS
returns-then-len-ge-MOST_CLIENTS g c = ran_nothing _ _ _ c.requires.within

pub run-requires-clause-within : goal.run-requires-clause-within
run-requires-clause-within g c =
    let m = c.in-Ok.ensures in
    let same = steps_after c.args.script.setup [] ((seen_of g.D.Disk.law) c.args.book) ((seen_of g.D.Disk.law) c.set_up.new.book) m.fresh
    c.requires.no_step.setup m.whole m.makes.entries in
    omega (arith, c.requires.within, same)

pub returns-in-Ok : goal.returns-in-Ok
returns-in-Ok g c = ran_script c.args.script c.args.budget _ _ _ _ c.in-Ok.ensures c.run.ensures

pub returns : goal.returns
returns g c = ran_cut c.args.script c.args.budget _ _ c.in-Err.fault c.requires.no_step c.requires.within c.in-Err.ensures
