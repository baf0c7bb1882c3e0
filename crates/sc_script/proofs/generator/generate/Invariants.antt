use Rattle.std.proofs.Common.{◌≡◌, ◌++◌, ◌-◌}
use Rattle.sc_script.specs.Generated.{opening, drawn_commands}
use Rattle.sc_script.proofs.generator.generate.Given as goal

abbrev pub invariant-loop-done : goal.invariant-loop-done
invariant-loop-done l = l.setup ++ drawn_commands (l.size - l._done) l.drawn ≡ opening ++ drawn_commands l.size l.number
