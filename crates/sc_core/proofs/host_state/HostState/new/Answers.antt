use Rattle.sc_core.proofs.HeldLemmas.{held_empty}
use Rattle.sc_core.proofs.host_state.HostState.new.Goals as goal

pub invariant_of-result : goal.invariant_of-result
invariant_of-result g c = held_empty g.E.Engine.chart_of c.new.result c.new.ensures.image c.new.ensures.agrees c.new.ensures.charts
