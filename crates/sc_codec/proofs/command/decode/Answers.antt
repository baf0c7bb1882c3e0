use Rattle.std.proofs.Common.{arith}
use Rattle.sc_codec.proofs.Commands.{found_is_spelled, found_is_one, none_is_spelled}
use Rattle.sc_codec.proofs.command.decode.Goals as goal

pub returns-clause-spelled : goal.returns-clause-spelled
returns-clause-spelled c = found_is_spelled c.args.body.now c.whole.result (λ k. omega (arith, c.type_inv.body k))
    c.whole.ensures

pub returns-clause-one : goal.returns-clause-one
returns-clause-one c = found_is_one c.args.body.now c.whole.result (λ k. omega (arith, c.type_inv.body k))
    c.whole.ensures

pub returns-clause-refused : goal.returns-clause-refused
returns-clause-refused c = none_is_spelled c.args.body.now c.whole.result c.whole.ensures
