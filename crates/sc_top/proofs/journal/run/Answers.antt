use Rattle.sc_top.proofs.CrossingLemmas.{plan_send_at, plan_sync_at}
use Rattle.std.proofs.Common.{◌∙◌, ℕ, IfOk, sym, ap, subst, rules, MutBor}
use Rattle.sc_dev.specs.Disks.{lent}
use Rattle.sc_top.specs.Journals.{disk_known}
use Rattle.sc_top.specs.Promise.{LeftBy, Runs, not_run}
use Rattle.sc_top.specs.Sayings.{account, status_of, text_of}
use Rattle.sc_top.proofs.EndLemmas.{left_of, runs_of}
use Rattle.sc_top.proofs.JournalLemmas.{fails_of, if_ok_map, on_err}
use Rattle.sc_top.proofs.journal.run.Goals as goal

pub returns-in-Ok-clause-ok : goal.returns-in-Ok-clause-ok
returns-in-Ok-clause-ok g c =
    let Lent = MutBor g.row.D.Denot in
    let laws = g.met.D.Disk g.world.𝓛 g.world.𝓜 g.world.𝓡 ((λ s x. x), (λ x. x), (λ x. x), λ x. x) in
    let law = lent g.D.Disk.law in
    let standing : (d : Lent) → law.may_leave d (law.reads d) = λ d. laws.stands d.now in
    let e = c.run_script-ended.ensures in
    let b = c.in-Ok.book in
    let done = c.run_script-ended.result in
    let named = ap law.identity (c.into_disk.ensures ∙ c.tell-said.ensures.disk ∙ sym e.disk) ∙ e.goes_on.same ∙ c.in-Ok.ensures.same in
    let told = if_ok_map c.tell-said.result _ (λ s. Runs (disk_known law c.args.disk e.book.journal.disk) (account c.args.form) c.args.script
    c.args.steps.workers c.args.steps.budget (status_of s) (text_of s)) (λ s is. runs_of law standing c.args.disk b c.in-Ok.ensures.opened
    c.args.script c.args.steps.budget c.requires.steps e.book e.goes_on c.in-Ok.ensures.fine (c.in-Ok.ensures.stands, c.in-Ok.ensures.reads) (account c.args.form)
    c.args.steps.workers done.fault e.how
    done.closed.opened done.closed.host.image done.closed.history.entries e.opened e.host e.history (status_of s) (text_of s) is)
    c.tell-said.ensures.told in
    let P : g.row.D.Denot → Type 0 = λ x. IfOk c.tell-said.result (λ s. Runs (disk_known g.D.Disk.law c.args.disk.now x) (account c.args.form) c.args.script c.args.steps.workers c.args.steps.budget (status_of s) (text_of s)) in
    let moved : P c.into_disk.result.now =
    subst (λ (x : Lent). P x.now) (e.disk ∙ sym (c.into_disk.ensures ∙ c.tell-said.ensures.disk)) told in
    subst P (search (rules, named)) moved

pub returns-in-Ok-clause-err : goal.returns-in-Ok-clause-err
returns-in-Ok-clause-err g c =
    let Lent = MutBor g.row.D.Denot in
    let laws = g.met.D.Disk g.world.𝓛 g.world.𝓜 g.world.𝓡 ((λ s x. x), (λ x. x), (λ x. x), λ x. x) in
    let law = lent g.D.Disk.law in
    let standing : (d : Lent) → law.may_leave d (law.reads d) = λ d. laws.stands d.now in
    let e = c.run_script-ended.ensures in
    let b = c.in-Ok.book in
    let done = c.run_script-ended.result in
    let named = ap law.identity (c.into_disk.ensures ∙ c.tell-said.ensures.disk ∙ sym e.disk) ∙ e.goes_on.same ∙ c.in-Ok.ensures.same in
    let left = left_of law standing c.args.disk b c.in-Ok.ensures.opened c.args.script c.args.steps.budget c.requires.steps
    e.book e.goes_on c.in-Ok.ensures.fine (c.in-Ok.ensures.stands, c.in-Ok.ensures.reads) c.args.steps.workers done.fault e.how in
    let P : g.row.D.Denot → Type 0 = λ x. LeftBy (disk_known g.D.Disk.law
    c.args.disk.now x) c.args.script c.args.steps.workers c.args.steps.budget in
    let moved : P c.into_disk.result.now = subst (λ (x : Lent). P x.now) (e.disk ∙ sym (c.into_disk.ensures ∙ c.tell-said.ensures.disk)) left in
    on_err c.tell-said.result _ (subst P (search (rules, named)) moved)

pub returns-in-Err-clause-ok : goal.returns-in-Err-clause-ok
returns-in-Err-clause-ok g c =
    let Lent = MutBor g.row.D.Denot in
    let laws = g.met.D.Disk g.world.𝓛 g.world.𝓜 g.world.𝓡 ((λ s x. x), (λ x. x), (λ x. x), λ x. x) in
    let law = lent g.D.Disk.law in
    let standing : (d : Lent) → law.may_leave d (law.reads d) = λ d. laws.stands d.now in
    let f = c.in-Err.failed in
    let why = c.in-Err.ensures in
    let named = ap law.identity c.into_disk-in-Err.ensures ∙ why.same in
    let told = if_ok_map c.not_opened.result _ (λ s. Runs (disk_known law c.args.disk f.disk) (account c.args.form) c.args.script c.args.steps.workers c.args.steps.budget
    (status_of s) (text_of s)) (λ s is. not_run (status_of s) (text_of s) (λ told. why.images) (fails_of (disk_known law c.args.disk f.disk)
    f.fault (status_of s) (text_of s) why.disk why.damaged why.bad is)) c.not_opened.ensures in
    let P : g.row.D.Denot → Type 0 = λ x. IfOk c.not_opened.result (λ s. Runs (disk_known g.D.Disk.law c.args.disk.now x) (account c.args.form) c.args.script c.args.steps.workers c.args.steps.budget (status_of s) (text_of s)) in
    let moved : P c.into_disk-in-Err.result.now = subst (λ (x : Lent). P x.now) (sym c.into_disk-in-Err.ensures) told in
    subst P (search (rules, named)) moved

pub open-requires-send-E-Plan : goal.open-requires-send-E-Plan
open-requires-send-E-Plan g c κs = λ lives. plan_send_at 2 _

pub open-requires-sync-E-Plan : goal.open-requires-sync-E-Plan
open-requires-sync-E-Plan g c κs = λ lives. plan_sync_at 2 _

pub run_script-ended-requires-send-E-Plan : goal.run_script-ended-requires-send-E-Plan
run_script-ended-requires-send-E-Plan g c κs = λ lives. plan_send_at 4 _

pub run_script-ended-requires-sync-E-Plan : goal.run_script-ended-requires-sync-E-Plan
run_script-ended-requires-sync-E-Plan g c κs = λ lives. plan_sync_at 4 _

pub into_disk-requires-send-E-Plan : goal.into_disk-requires-send-E-Plan
into_disk-requires-send-E-Plan g c κs = λ lives. plan_send_at 2 _

pub into_disk-requires-sync-E-Plan : goal.into_disk-requires-sync-E-Plan
into_disk-requires-sync-E-Plan g c κs = λ lives. plan_sync_at 2 _
