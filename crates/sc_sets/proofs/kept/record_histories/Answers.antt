use Rattle.std.proofs.Common.{◌<◌, All}
use Rattle.sc_law.specs.Tree.{state_count}
use Rattle.sc_sets.proofs.KeptLists.{records_keep}
use Rattle.sc_sets.proofs.Members.{row_within}
use Rattle.sc_sets.proofs.kept.record_histories.Goals as goal

pub returns-clause-kept : goal.returns-clause-kept
returns-clause-kept c =
    let k = c.args.t.now in
    let conf = c.args.conf.now.members in
    let within : All (λ a. a < state_count k) conf = row_within (state_count k) conf (rw c.requires.width at c.next-first.ensures.form) in
    rw c.in_ok-h.ensures (records_keep k conf c.args.exit.now.members c.args.h.now within c.requires.kept)
