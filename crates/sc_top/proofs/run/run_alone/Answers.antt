use Rattle.std.proofs.Common.{sym}
use Rattle.sc_top.specs.Run.{in_turn}
use Rattle.sc_top.specs.Running.{run_of}
use Rattle.sc_top.proofs.RunLemmas.{ended_by}
use Rattle.sc_top.proofs.run.run_alone.Goals as goal

pub returns : goal.returns
returns g c =
    let new = run_of c.make_script.new.self.book c.make_script.new.self.left in
    record {
      book = c.make_script.new.self.book;
      goes_on = c.make_script.ensures.goes_on;
      how = (
        c.make_script.new.self.left,
        ended_by g.D.Disk.law
            (run_of c.args.book c.args.budget) new (in_turn c.args.script) c.make_script.result c.err-fault.result
            c.err-fault.ensures.value c.make_script.ensures.goes c.make_script.ensures.stepped c.make_script.ensures.stops,
      );
      host = sym c.finish.ensures.host;
      opened = sym c.finish.ensures.opened;
      history = sym c.finish.ensures.history;
      disk = sym c.finish.ensures.disk;
    }
