use Rattle.sc_exec.specs.Runs.{running_of}
use Rattle.sc_tables.proofs.TransitionLists.{if_ok}
use Rattle.sc_micro.proofs.DoneLemmas.{told-is}
use Rattle.sc_micro.proofs.done.tell_parent.Goals as goal

pub returns-clause-ok : goal.returns-clause-ok
returns-clause-ok c =
    if_ok c.tell_above.result _ _ c.tell_above.ensures.ok (λ e.
    told-is c.args.t.now c.args.s c.args.parent (running_of c.args.run.now) (running_of c.done_data.new.run)
    (running_of c.enqueue_done.new.run) (running_of c.tell_above.new.run) c.in_ok-payload.payload c.requires.parent
    c.in_ok-payload.ensures.ok c.in_ok-enqueue_done.ensures.ok e)
