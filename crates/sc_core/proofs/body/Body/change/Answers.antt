use Rattle.std.proofs.Common.{subst}
use Rattle.sc_core.specs.Bodies.{image}
use Rattle.sc_core.specs.Installing.{CanApply}
use Rattle.sc_core.proofs.SetLemmas.{name_there}
use Rattle.sc_core.proofs.body.Body.change.Goals as goal

pub put_state-requires-clause-name : goal.put_state-requires-clause-name
put_state-requires-clause-name g c =
    let can = subst (CanApply (image c.args.self.now)) c.in-PutState.is c.requires.can in
    name_there c.args.self.now c.in-PutState.place c.in-PutState.state.session c.requires.agrees can.1
