use Rattle.sc_core.proofs.NewbornLemmas.{alike_born, alike_started}
use Rattle.sc_core.proofs.newborns.with_room_in.Goals as goal

pub returns-in_ok-with_room-in-Bear-clause-alike : goal.returns-in_ok-with_room-in-Bear-clause-alike
returns-in_ok-with_room-in-Bear-clause-alike g c =
    alike_born c.args.change c.in-Bear.invoker c.in-Bear.name c.in-Bear.session c.in_ok-with_room-in-Bear.field-0 c.in-Bear.is
    c.in_ok-with_room-in-Bear.ensures.same

pub returns-in_ok-with_room-in-Start-clause-alike : goal.returns-in_ok-with_room-in-Start-clause-alike
returns-in_ok-with_room-in-Start-clause-alike g c =
    alike_started c.args.change c.in-Start.name c.in-Start.session c.in_ok-with_room-in-Start.field-0 c.in-Start.is
    c.in_ok-with_room-in-Start.ensures.same
