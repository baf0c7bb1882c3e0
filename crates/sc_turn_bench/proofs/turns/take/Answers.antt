use Rattle.sc_turn_bench.proofs.turns.take.Goals as goal

pub next-requires-clause-cue : goal.next-requires-clause-cue
next-requires-clause-cue c =
    rw c.get.ensures (c.requires.cue c.args.state.now c.requires.waits.running c.requires.waits.empty)
