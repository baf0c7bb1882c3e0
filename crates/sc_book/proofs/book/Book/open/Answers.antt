use Rattle.std.proofs.Common.{◌∙◌, inr, ℕ, List, length, ap, subst}
use Rattle.sc_dev.specs.Disks.{DiskOf}
use Rattle.sc_book.specs.Openings.{IsFirstBad, IsReplayed}
use Rattle.sc_book.proofs.OpenLemmas.{both_ways, err_both, err_more, no_place, none_bad, ok_both, ok_more, other_first, reads_as, stands_accepted, stands_same}
use Rattle.sc_book.proofs.book.Book.open.Goals as goal

pub returns-in-Ok-clause-reads : goal.returns-in-Ok-clause-reads
returns-in-Ok-clause-reads g c = λ told.
    let laws = g.met.D.Disk g.world.𝓛 g.world.𝓜 g.world.𝓡 ((λ s x. x), (λ x. x), (λ x. x), λ x. x) in
    let law = g.D.Disk.law in
    let o = c.in-Ok.ensures in
    let j = c.in-Ok.opened.journal in
    let left : law.may_leave j.disk (law.reads c.args.disk) = subst (λ (x : DiskOf). law.may_leave j.disk x) o.stays (laws.stands j.disk) in
    ok_both c.begin.result _ _ _
    (λ b first made. reads_as law laws.only_now j (law.reads c.args.disk) c.in-Ok.opened.first b.opened c.in-Ok.opened.bodies b.host
    (o.keeps told) o.settled left first made.0 made.1)
    c.begin.ensures.first c.begin.ensures.replayed

pub returns-in-Ok-clause-stands : goal.returns-in-Ok-clause-stands
returns-in-Ok-clause-stands g c = λ told n h st.
    let d = g.D.Disk.law.reads c.args.disk in
    let whole = c.in-Ok.ensures.whole told st.head st.bodies st.holds in
    both_ways c.begin.result _ _
    (ok_more c.begin.result _ _
    (λ b made. stands_same d n b.opened h b.host st
    (subst (λ (bs : List (List ℕ)). IsReplayed bs b.host) whole.1 made.0)
    (made.1 ∙ ap (λ (bs : List (List ℕ)). length bs) whole.1))
    c.begin.ensures.replayed)
    (err_both c.begin.result _ _ _
    (λ f other bad. no_place f.fault (λ at is. (other at is).1 (whole.0 ∙ st.is_base.first))
    (λ k is. none_bad st.bodies st.commands k st.spell (stands_accepted d n h st)
    (subst (λ (bs : List (List ℕ)). IsFirstBad bs k) whole.1 (bad k is).1)))
    c.begin.ensures.other c.begin.ensures.bad)

pub returns-in-Err-clause-stands : goal.returns-in-Err-clause-stands
returns-in-Err-clause-stands g c = λ told n h st.
    let whole = c.in-Err.ensures.whole told st.head st.bodies st.holds in
    no_place c.fault_of-fault.result (λ at is. whole at (c.fault_of-fault.ensures.damaged at is))
    (λ k is. c.fault_of-fault.ensures.bad k is)

pub returns-in-Ok-clause-damaged : goal.returns-in-Ok-clause-damaged
returns-in-Ok-clause-damaged g c = λ told.
    let laws = g.met.D.Disk g.world.𝓛 g.world.𝓜 g.world.𝓡 ((λ s x. x), (λ x. x), (λ x. x), λ x. x) in
    let law = g.D.Disk.law in
    let o = c.in-Ok.ensures in
    let j = c.in-Ok.opened.journal in
    let stands : law.may_leave j.disk (g.D.Disk.law.reads c.args.disk) = subst (λ (x : DiskOf). law.may_leave j.disk x) o.stays (laws.stands j.disk) in
    err_more c.begin.result _ _
    (λ f other at is. let found = other at is in
    inr (
      found.0,
      other_first law laws.only_now j (g.D.Disk.law.reads c.args.disk) _ c.in-Ok.opened.bodies (o.keeps told)
          o.settled stands found.1,
    ))
    c.begin.ensures.other

pub returns-in-Ok-clause-bad : goal.returns-in-Ok-clause-bad
returns-in-Ok-clause-bad g c = λ told.
    err_more c.begin.result _ _
    (λ f bad n is. record {
      bodies = c.in-Ok.opened.bodies;
      held = c.in-Ok.ensures.bodies told;
      first = (bad n is).1;
    })
    c.begin.ensures.bad

pub returns-in-Err-clause-fine : goal.returns-in-Err-clause-fine
returns-in-Err-clause-fine g c = λ other.
    ap g.D.Disk.law.faults c.into_disk.ensures ∙ c.in-Err.ensures.fine (λ is. other (c.fault_of-fault.ensures.from_disk is))
