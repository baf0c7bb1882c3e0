use Rattle.std.proofs.Common.{◌<◌, length, rules}
use Rattle.sc_report.proofs.SessionLemmas.{puts_session}
use Rattle.sc_report.proofs.sessions.put_sessions.Goals as goal

pub loop-place-preserved : goal.loop-place-preserved
loop-place-preserved g c =
    let image = c.args.host.now.image in
    let less : c.loop-place.place < length image.sessions = search rules in
    puts_session image image.sessions c.loop-place.place less c.loop-place.invariant c.put_session.ensures
