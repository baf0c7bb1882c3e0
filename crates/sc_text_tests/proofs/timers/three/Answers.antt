use Rattle.std.proofs.Common.{[], arith}
use Rattle.sc_types.specs.Sends.{with_send}
use Rattle.sc_timers.proofs.CallerLemmas.{below-none, below-with_send}
use Rattle.sc_text_tests.proofs.timers.three.Goals as goal

pub add-requires-3-clause-newest : goal.add-requires-3-clause-newest
add-requires-3-clause-newest c =
    let third = c.in_ok-send-3.field-0.number in
    rw (c.add-2.ensures, c.add.ensures, c.reserve.ensures.sends, c.new-timers.ensures)
    (below-with_send third c.in_ok-send-2.field-0 (with_send c.in_ok-send.field-0 []) (omega (arith, c.in_ok-send-2.ensures, c.in_ok-send-3.ensures))
    (below-with_send third c.in_ok-send.field-0 [] (omega (arith, c.in_ok-send.ensures, c.in_ok-send-3.ensures)) (below-none third)))
