use Rattle.std.proofs.Common.{sym}
use Rattle.sc_top.proofs.RunLemmas.{how_in_threads, on_in_threads, within_nothing}
use Rattle.sc_top.proofs.run.run_in_threads.Goals as goal

pub run_jobs-book-requires-clause-within : goal.run_jobs-book-requires-clause-within
run_jobs-book-requires-clause-within g c = λ κs within. within_nothing _ _ c.requires.opened

pub returns : goal.returns
returns g c =
    let old = c.args.book in
    let new = c.run_jobs-book.result.0 in
    let fault = c.run_jobs-book.result.1 in
    let ran = c.run_jobs-book.ensures in
    record {
      book = new;
      goes_on = on_in_threads g.D.Disk.law old new c.args.script c.args.steps.budget fault ran;
      how = how_in_threads g.D.Disk.law old new c.args.script c.args.steps.budget fault ran c.args.steps.workers c.requires.some;
      host = sym c.finish.ensures.host;
      opened = sym c.finish.ensures.opened;
      history = sym c.finish.ensures.history;
      disk = sym c.finish.ensures.disk;
    }
