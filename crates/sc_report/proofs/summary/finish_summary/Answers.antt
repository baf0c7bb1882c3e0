use Rattle.std.proofs.lemmas.Result.{on_err_weaker, on_ok_weaker}
use Rattle.sc_report.specs.Summary.{summary}
use Rattle.sc_report.specs.Outlets.{HasPut, seen}
use Rattle.sc_report.proofs.OutletLemmas.{all_taken, closed_with, some_taken}
use Rattle.sc_report.proofs.summary.finish_summary.Goals as goal

pub returns-clause-whole : goal.returns-clause-whole
returns-clause-whole g c =
    let start = seen g.K.Sink.taken g.K.Sink.faults c.args.out.now in
    let now = seen g.K.Sink.taken g.K.Sink.faults c.close.new.self in
    let text = summary c.args.number c.args.size c.args.closed.now.host.image c.args.closed.now.history.entries c.args.end in
    let all : HasPut start text now = closed_with start _ now text c.requires.fresh.1 c.requires.fresh.0 c.put_summary.ensures c.close.ensures.puts in
    on_ok_weaker c.close.result (λ fine. all_taken start now text fine c.close.ensures.empty all) c.close.ensures.ok

pub returns-clause-part : goal.returns-clause-part
returns-clause-part g c =
    let start = seen g.K.Sink.taken g.K.Sink.faults c.args.out.now in
    let now = seen g.K.Sink.taken g.K.Sink.faults c.close.new.self in
    let text = summary c.args.number c.args.size c.args.closed.now.host.image c.args.closed.now.history.entries c.args.end in
    let all : HasPut start text now = closed_with start _ now text c.requires.fresh.1 c.requires.fresh.0 c.put_summary.ensures c.close.ensures.puts in
    on_err_weaker c.close.result (λ gone. (some_taken start now text gone all).taken) c.close.ensures.err

pub returns-clause-cause : goal.returns-clause-cause
returns-clause-cause g c =
    let start = seen g.K.Sink.taken g.K.Sink.faults c.args.out.now in
    let now = seen g.K.Sink.taken g.K.Sink.faults c.close.new.self in
    let text = summary c.args.number c.args.size c.args.closed.now.host.image c.args.closed.now.history.entries c.args.end in
    let all : HasPut start text now = closed_with start _ now text c.requires.fresh.1 c.requires.fresh.0 c.put_summary.ensures c.close.ensures.puts in
    record {
      later = all.later;
      failed = on_err_weaker c.close.result (λ gone. (some_taken start now text gone all).rose) c.close.ensures.err;
    }
