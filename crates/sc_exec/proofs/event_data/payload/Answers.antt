use Rattle.std.proofs.Common.{sym, ◌∙◌}
use Rattle.sc_exec.specs.Runs.{running_of}
use Rattle.sc_exec.proofs.Payloads.{payload_content, payload_pairs}
use Rattle.sc_exec.proofs.event_data.payload.Goals as goal

pub returns-in_ok-content-in-Some-first_content-clause-ok :
    goal.returns-in_ok-content-in-Some-first_content-clause-ok
returns-in_ok-content-in-Some-first_content-clause-ok c =
    payload_content c.args.names.now c.args.kids.now (running_of c.args.run.now) (running_of c.params.new.run)
    (running_of c.content.new.run) c.in-Some.named c.in_ok-given.given c.in-Some-first_content.node.now
    c.in_ok-content-in-Some-first_content.field-0 (sym c.in_ok-named.ensures ∙ c.in-Some.is) c.in_ok-given.ensures.ok
    (sym c.in-Some-first_content.ensures) c.in_ok-content-in-Some-first_content.ensures.ok

pub returns-in_ok-pairs_data-in-None-clause-ok : goal.returns-in_ok-pairs_data-in-None-clause-ok
returns-in_ok-pairs_data-in-None-clause-ok c =
    payload_pairs c.args.names.now c.args.kids.now (running_of c.args.run.now) (running_of c.params.new.run)
    c.in-Some.named c.in_ok-given.given c.in_ok-pairs_data-in-None.field-0 (sym c.in_ok-named.ensures ∙ c.in-Some.is)
    c.in_ok-given.ensures.ok (sym c.in-None.ensures) c.in_ok-pairs_data-in-None.ensures
