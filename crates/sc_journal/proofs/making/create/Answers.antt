use Rattle.std.proofs.Common.{subst, sym}
use Rattle.sc_journal.specs.Texts.{Holds}
use Rattle.sc_journal.proofs.NewTexts.{made-holds}
use Rattle.sc_journal.proofs.making.create.Goals as goal

pub returns-clause-made : goal.returns-clause-made
returns-clause-made g c = λ told image left.
    let first = c.in_ok-write_synced.ensures in
    let second = c.in_ok-write_synced-2.ensures in
    let made = made-holds (g.D.Disk.law.reads c.write_synced.new.disk).journal (g.D.Disk.law.reads c.write_synced-2.new.disk).journal (first.written told) (second.outside told).range (second.written told) in
    subst (Holds _ _) (sym (second.durable told image left)) made
