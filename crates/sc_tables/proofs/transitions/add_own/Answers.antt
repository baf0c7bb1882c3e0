use Rattle.std.proofs.Common.{◌≡◌, ◌++◌, ◌∷◌, [], Some, length, get_or}
use Rattle.std.proofs.Math.ListN.{set}
use Rattle.sc_tables.specs.Built.{IsAddedTo, IsWithin}
use Rattle.sc_tables.proofs.TransitionLists.{added-none, added-some, if_ok}
use Rattle.sc_tables.proofs.transitions.add_own.Goals as goal

pub returns-in-Some : goal.returns-in-Some
returns-in-Some c =
    let old = c.args.lists.now in
    let a = c.in-Some.state in
    let within : IsWithin (length old) (Some a) = rw c.in-Some.is at c.requires in
    let new = c.add_to.new.lists in
    let written = set old a (get_or old a [] ++ c.args.number ∷ []) in
    let then : new ≡ written → IsAddedTo old (Some a) c.args.number new = λ e. rw e (added-some old a c.args.number within) in
    rw c.in-Some.is (if_ok _ (new ≡ written) (IsAddedTo old (Some a) c.args.number new) c.add_to.ensures then)

pub returns-in-None : goal.returns-in-None
returns-in-None c = rw c.in-None.is (added-none c.args.lists.now c.args.number)
