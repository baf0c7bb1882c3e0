use Rattle.std.proofs.Common.{◌<◌, length, rules}
use Rattle.sc_report.proofs.EntryLemmas.{puts_entry}
use Rattle.sc_report.proofs.entries.put_entries.Goals as goal

pub loop-place-preserved : goal.loop-place-preserved
loop-place-preserved g c =
    let entries = c.args.history.now.entries in
    let less : c.loop-place.place < length entries = search rules in
    puts_entry entries c.loop-place.place less c.loop-place.invariant c.put_entry_at.ensures
