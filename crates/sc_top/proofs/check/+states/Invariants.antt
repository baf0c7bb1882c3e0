use Rattle.std.proofs.Common.{◌≡◌, ◌+◌, drop, map, sum}
use Rattle.sc_types.specs.ChartTexts.{states_in}
use Rattle.sc_top.proofs.check.+states.Given as goal

abbrev pub invariant-loop-kid : goal.invariant-loop-kid
invariant-loop-kid l =
    l.count + sum (map states_in (drop l.kid-index l.kid-items))
    ≡ l.initial.count + sum (map states_in l.kid-items)
