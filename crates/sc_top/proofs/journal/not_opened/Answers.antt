use Rattle.std.proofs.Common.{sym, subst, codes}
use Rattle.sc_book.specs.declared.fault.OpenFault.TheVariants as unopened
use Rattle.sc_top.specs.Sayings.{SaysFault, bad, damaged, disk}
use Rattle.sc_top.specs.declared.status.Status.TheVariants.{BadJournal, DiskFault}
use Rattle.sc_top.proofs.journal.not_opened.Goals as goal

pub returns-in-Disk : goal.returns-in-Disk
returns-in-Disk c = subst (λ f. SaysFault f DiskFault (codes "disk\n")) (sym c.in-Disk.is) disk

pub returns-in_ok-counted_line-in-Damaged : goal.returns-in_ok-counted_line-in-Damaged
returns-in_ok-counted_line-in-Damaged c =
    let text = c.in_ok-counted_line-in-Damaged.field-0 in
    let place = c.in-Damaged.place in
    subst (λ f. SaysFault f BadJournal text) (sym c.in-Damaged.is)
    (subst (λ t. SaysFault (unopened.Damaged place) BadJournal t) (sym c.in_ok-counted_line-in-Damaged.ensures) (damaged place))

pub returns-in_ok-counted_line-in-BadEntry : goal.returns-in_ok-counted_line-in-BadEntry
returns-in_ok-counted_line-in-BadEntry c =
    let text = c.in_ok-counted_line-in-BadEntry.field-0 in
    let number = c.in-BadEntry.number in
    subst (λ f. SaysFault f BadJournal text) (sym c.in-BadEntry.is)
    (subst (λ t. SaysFault (unopened.BadEntry number) BadJournal t) (sym c.in_ok-counted_line-in-BadEntry.ensures) (bad number))
