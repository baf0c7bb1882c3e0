use Rattle.std.proofs.Common.{None, arith, length, sym, ◌∙◌}
use Rattle.sc_law.specs.Transitions.{is_match, transition_paths}
use Rattle.sc_turn.proofs.EventlessLemmas.{one-in-range, one-more}
use Rattle.sc_turn.proofs.eventless.has_eventless.Goals as goal

pub loop-tr-preserved : goal.loop-tr-preserved
loop-tr-preserved c =
    one-more (is_match c.args.t.now None) c.loop-tr.tr c.loop-tr.invariant
    (sym c.is_eventless.ensures ∙ c.if-is_eventless.false)

pub returns-then-is_eventless : goal.returns-then-is_eventless
returns-then-is_eventless c =
    sym (one-in-range (is_match c.args.t.now None) 0 (length (transition_paths c.args.t.now)) c.loop-tr.tr
    (omega arith) (omega arith) (sym c.is_eventless.ensures ∙ c.if-is_eventless.true))
