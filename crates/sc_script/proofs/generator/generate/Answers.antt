use Rattle.std.proofs.Common.{◌∙◌}
use Rattle.sc_script.proofs.DrawnLemmas.{one_more}
use Rattle.sc_script.proofs.generator.generate.Goals as goal

pub loop-done-preserved : goal.loop-done-preserved
loop-done-preserved c =
    one_more c.loop-done.setup c.push.new.self c.in_ok-command_of.field-0 c.args.size c.loop-done._done
    c.loop-done.drawn c.next_number-drawn.result
    c.loop-done-test.true c.next_number-drawn.ensures c.in_ok-command_of.ensures c.in_ok-push.ensures.ok
    ∙ c.loop-done.invariant
