use Rattle.std.proofs.Common.{find, ap, ◌∙◌}
use Rattle.sc_exec.specs.Runs.{running_of}
use Rattle.sc_micro.proofs.EndLemmas.{ended-none, ended-some, if_value, is_top_final}
use Rattle.sc_micro.proofs.ending.exit_all.Goals as goal

pub returns-in-Some-clause-ok : goal.returns-in-Some-clause-ok
returns-in-Some-clause-ok c =
    let all = ended-some c.args.t.now (running_of c.args.run.now)
    (running_of c.leave_all.new.run) c.in_ok-states.states c.in-Some.s
    c.in_ok-states.ensures.value c.in_ok-leave_all.ensures.ok
    (c.in-Some.ensures.value ∙ ap (find (is_top_final c.args.t.now)) c.slice.ensures) in
    if_value c.done_data.result _ _ c.done_data.ensures.ok (λ payload e. all ∙ e)

pub returns-in-None-clause-ok : goal.returns-in-None-clause-ok
returns-in-None-clause-ok c =
    ended-none c.args.t.now (running_of c.args.run.now) (running_of c.leave_all.new.run) c.in_ok-states.states
    c.in_ok-states.ensures.value c.in_ok-leave_all.ensures.ok
    (c.in-None.ensures.value ∙ ap (find (is_top_final c.args.t.now)) c.slice.ensures)
