use Rattle.sc_top.proofs.CrossingLemmas.{plan_send_at, plan_sync_at}
use Rattle.std.proofs.Common.{◌∙◌, ℕ, IfOk, refl, sym, ap, subst, rules, MutBor}
use Rattle.sc_dev.specs.Disks.{lent}
use Rattle.sc_report.specs.Report.{report}
use Rattle.sc_report.specs.declared.end.End.TheVariants as end
use Rattle.sc_top.specs.Journals.{disk_known}
use Rattle.sc_top.specs.Promise.{Shows, not_shown}
use Rattle.sc_top.specs.Sayings.{status_of, text_of}
use Rattle.sc_top.specs.declared.status.Status.TheVariants.{Done}
use Rattle.sc_top.proofs.JournalLemmas.{fails_of, if_ok_map, shows_of}
use Rattle.sc_top.proofs.journal.show.Goals as goal

pub returns-in-Ok-clause-ok : goal.returns-in-Ok-clause-ok
returns-in-Ok-clause-ok g c =
    let Lent = MutBor g.row.D.Denot in
    let laws = g.met.D.Disk g.world.𝓛 g.world.𝓜 g.world.𝓡 ((λ s x. x), (λ x. x), (λ x. x), λ x. x) in
    let law = lent g.D.Disk.law in
    let standing : (d : Lent) → law.may_leave d (law.reads d) = λ d. laws.stands d.now in
    let b = c.in-Ok.book in
    let done = c.finish-closed in
    let named = ap law.identity (c.into_disk.ensures ∙ c.left_by-left.ensures.disk ∙ done.ensures.disk) ∙ c.in-Ok.ensures.same in
    let t = c.left_by-left in
    let shown = shows_of law standing c.args.disk b c.in-Ok.ensures.opened c.in-Ok.ensures.images
    c.in-Ok.ensures.stands c.in-Ok.ensures.reads t.result.opened t.result.host.image t.result.history.entries (sym (t.ensures.opened ∙ done.ensures.opened))
    (sym (t.ensures.host ∙ done.ensures.host)) (sym (t.ensures.history ∙ done.ensures.history)) Done
    (report t.result.opened t.result.host.image t.result.history.entries end.Shown) refl refl in
    let P : g.row.D.Denot → Type 0 = λ x. Shows (disk_known g.D.Disk.law
    c.args.disk.now x) Done (report t.result.opened t.result.host.image t.result.history.entries end.Shown) in
    let moved : P c.into_disk.result.now =
    subst (λ (x : Lent). P x.now) (sym (c.into_disk.ensures ∙ t.ensures.disk ∙ done.ensures.disk)) shown in
    subst P (search (rules, named)) moved

pub returns-in-Err-clause-ok : goal.returns-in-Err-clause-ok
returns-in-Err-clause-ok g c =
    let Lent = MutBor g.row.D.Denot in
    let laws = g.met.D.Disk g.world.𝓛 g.world.𝓜 g.world.𝓡 ((λ s x. x), (λ x. x), (λ x. x), λ x. x) in
    let law = lent g.D.Disk.law in
    let standing : (d : Lent) → law.may_leave d (law.reads d) = λ d. laws.stands d.now in
    let f = c.in-Err.failed in
    let why = c.in-Err.ensures in
    let named = ap law.identity c.into_disk-in-Err.ensures ∙ why.same in
    let told = if_ok_map c.not_opened.result _ (λ s. Shows (disk_known law c.args.disk f.disk) (status_of s) (text_of s))
    (λ s is. not_shown (status_of s) (text_of s) (λ told. why.images) (fails_of (disk_known law c.args.disk f.disk) f.fault (status_of s)
    (text_of s) why.disk why.damaged why.bad is)) c.not_opened.ensures in
    let P : g.row.D.Denot → Type 0 = λ x. IfOk c.not_opened.result (λ s. Shows (disk_known g.D.Disk.law c.args.disk.now x) (status_of s) (text_of s)) in
    let moved : P c.into_disk-in-Err.result.now = subst (λ (x : Lent). P x.now) (sym c.into_disk-in-Err.ensures) told in
    subst P (search (rules, named)) moved

pub open-requires-send-E-Plan : goal.open-requires-send-E-Plan
open-requires-send-E-Plan g c κs = λ lives. plan_send_at 2 _

pub open-requires-sync-E-Plan : goal.open-requires-sync-E-Plan
open-requires-sync-E-Plan g c κs = λ lives. plan_sync_at 2 _

pub finish-closed-requires-send-E-Plan : goal.finish-closed-requires-send-E-Plan
finish-closed-requires-send-E-Plan g c κs = λ lives. plan_send_at 2 _

pub finish-closed-requires-sync-E-Plan : goal.finish-closed-requires-sync-E-Plan
finish-closed-requires-sync-E-Plan g c κs = λ lives. plan_sync_at 2 _

pub into_disk-requires-send-E-Plan : goal.into_disk-requires-send-E-Plan
into_disk-requires-send-E-Plan g c κs = λ lives. plan_send_at 2 _

pub into_disk-requires-sync-E-Plan : goal.into_disk-requires-sync-E-Plan
into_disk-requires-sync-E-Plan g c κs = λ lives. plan_sync_at 2 _

pub left_by-left-requires-send-E-Plan : goal.left_by-left-requires-send-E-Plan
left_by-left-requires-send-E-Plan g c κs = λ lives. plan_send_at 2 _

pub left_by-left-requires-sync-E-Plan : goal.left_by-left-requires-sync-E-Plan
left_by-left-requires-sync-E-Plan g c κs = λ lives. plan_sync_at 2 _
