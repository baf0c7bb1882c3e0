use Rattle.std.proofs.Common.{Err, ap}
use Rattle.sc_top.specs.Journals.{created, exists, not_created}
use Rattle.sc_top.proofs.JournalLemmas.{made_of}
use Rattle.sc_top.proofs.journal.init.Goals as goal

pub returns-in-Ok : goal.returns-in-Ok
returns-in-Ok g c =
    let laws = g.met.D.Disk g.world.𝓛 g.world.𝓜 g.world.𝓡 ((λ s x. x), (λ x. x), (λ x. x), λ x. x) in
    let done = c.in-Ok.ensures in
    created (λ told. done.free told) (λ told. made_of g.D.Disk.law laws.stands c.args.disk.now c.create.new.disk
    (done.made told))

pub returns-in-Err-Exists : goal.returns-in-Err-Exists
returns-in-Err-Exists g c =
    let why = c.in-Err-Exists.ensures in
    let is = ap Err c.in-Err-Exists.field-0-is in
    exists (λ told. why.exists told is) (λ told. why.untouched told (why.exists told is))

pub returns-in-Err-Failed : goal.returns-in-Err-Failed
returns-in-Err-Failed g c = not_created (c.in-Err-Failed.ensures.failed (ap Err c.in-Err-Failed.field-0-is))
