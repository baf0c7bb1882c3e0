use Rattle.sc_select.proofs.RunLemmas.{run_has_ids}
use Rattle.sc_turn.proofs.compiled.start.Goals as goal

pub first_data-requires : goal.first_data-requires
first_data-requires c = run_has_ids c.args.plan.now c.args.x.now.running c.requires.run
