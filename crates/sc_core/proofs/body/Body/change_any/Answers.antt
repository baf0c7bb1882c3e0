use Rattle.std.proofs.Common.{slice_get, arith, subst}
use Rattle.std.proofs.lemmas.Option.{slice_get_within}
use Rattle.sc_core.specs.Bodies.{image, session_image}
use Rattle.sc_core.specs.Installing.{CanApply}
use Rattle.sc_core.proofs.SetLemmas.{free_chart, free_name, map_long, name_there}
use Rattle.sc_core.proofs.DraftLemmas.{some_map}
use Rattle.sc_core.proofs.body.Body.change_any.Goals as goal

pub install_chart-requires-clause-new : goal.install_chart-requires-clause-new
install_chart-requires-clause-new g c =
    let can = subst (CanApply (image c.args.self.now)) c.in-Install.is c.requires.can in
    free_chart c.args.self.now c.in-Install.name c.requires.agrees can.1

pub start-requires-clause-new : goal.start-requires-clause-new
start-requires-clause-new g c =
    let can = subst (CanApply (image c.args.self.now)) c.in-Start.is c.requires.can in
    free_name c.args.self.now c.in-Start.name c.requires.agrees can.1

pub put_state-requires-clause-name : goal.put_state-requires-clause-name
put_state-requires-clause-name g c =
    let can = subst (CanApply (image c.args.self.now)) c.in-PutState.is c.requires.can in
    name_there c.args.self.now c.in-PutState.place c.in-PutState.state.session c.requires.agrees can.1

pub start-requires-clause-invoker : goal.start-requires-clause-invoker
start-requires-clause-invoker g c =
    let can = subst (CanApply (image c.args.self.now)) c.in-Start.is c.requires.can in
    rw c.into_inner-in-Start.ensures can.2

pub start-requires-clause-children : goal.start-requires-clause-children
start-requires-clause-children g c =
    let can = subst (CanApply (image c.args.self.now)) c.in-Start.is c.requires.can in
    rw c.into_inner-in-Start.ensures can.3

pub bear-requires-clause-new : goal.bear-requires-clause-new
bear-requires-clause-new g c =
    let can = subst (CanApply (image c.args.self.now)) c.in-Bear.is c.requires.can in
    free_name c.args.self.now c.in-Bear.name c.requires.agrees can.1

pub bear-requires-clause-invoker : goal.bear-requires-clause-invoker
bear-requires-clause-invoker g c =
    let can = subst (CanApply (image c.args.self.now)) c.in-Bear.is c.requires.can in
    rw c.into_inner-in-Bear.ensures can.2

pub bear-requires-clause-children : goal.bear-requires-clause-children
bear-requires-clause-children g c =
    let can = subst (CanApply (image c.args.self.now)) c.in-Bear.is c.requires.can in
    rw c.into_inner-in-Bear.ensures can.3

pub bear-requires-clause-within : goal.bear-requires-clause-within
bear-requires-clause-within g c =
    let can = subst (CanApply (image c.args.self.now)) c.in-Bear.is c.requires.can in
    let found = some_map (slice_get (image c.args.self.now).sessions c.in-Bear.invoker)
    can.2.0 can.2.2 in
    let within = slice_get_within (image c.args.self.now).sessions c.in-Bear.invoker found.0 found.1 in
    omega (arith, within, map_long session_image c.args.self.now.sessions.items)
