use Rattle.std.proofs.Common.{◌≡◌, ◌∙◌, Err, None, List, [], ◌∷◌, ◌++◌, true, false, length, length-append, refl, sym, ap, subst, arith}
use Rattle.sc_book.specs.Books.{BookOf, IsBook, first_head}
use Rattle.sc_book.specs.Confirming.{IsBodyOf}
use Rattle.sc_book.specs.Keeping.{book_of}
use Rattle.sc_book.specs.Receipts.{Acknowledges, IsAllOrMore}
use Rattle.sc_machine.specs.Accepted.{is_accepted}
use Rattle.sc_machine.specs.Commands.{answer}
use Rattle.sc_machine.specs.Histories.{Tells}
use Rattle.sc_core.specs.Installing.{installed}
use Rattle.sc_journal.specs.Stops.{LeavesOnly}
use Rattle.sc_types.specs.declared.history.Entry.{Entry}
use Rattle.sc_book.proofs.AnswerLemmas.{not_accepted, not_stored, same_on, stored}
use Rattle.sc_book.proofs.BodyLemmas.{accepted_fits}
use Rattle.sc_book.proofs.BookLemmas.{counted, during_none, during_store}
use Rattle.sc_machine.proofs.AcceptedLemmas.{refused_changes_nothing}
use Rattle.sc_book.proofs.book.Book.answer.Goals as goal
use Rattle.sc_book.proofs.book.Book.answer.Goals.{then-is_accepted+in_default, else-is_accepted}

pub prepare-requires-clause-room : goal.prepare-requires-clause-room
prepare-requires-clause-room g c =
    let laws = g.met.D.Disk g.world.𝓛 g.world.𝓜 g.world.𝓡 ((λ s x. x), (λ x. x), (λ x. x), λ x. x) in
    let law = g.D.Disk.law in
    let i = c.self.inside in
    let b : BookOf g.row.D.Denot = book_of i.host i.opened i.start i.log i.claims i.journal in
    let none : i.journal.doubt ≡ None = ap (λ (x : BookOf g.row.D.Denot). x.journal.doubt) c.self.view_is ∙ c.requires.settled in
    let count = counted law laws.only_now c.self.invariant.past b c.self.invariant.is in
    omega (arith, count, c.next_number-next.ensures.value, c.next_number-next.ensures.limit)

pub returns-in_err-prepared-clause-any_moment : goal.returns-in_err-prepared-clause-any_moment
returns-in_err-prepared-clause-any_moment g c = λ told past is.
    let laws = g.met.D.Disk g.world.𝓛 g.world.𝓜 g.world.𝓡 ((λ s x. x), (λ x. x), (λ x. x), λ x. x) in
    let law = g.D.Disk.law in
    let i = c.self.inside in
    let b : BookOf g.row.D.Denot = book_of i.host i.opened i.start i.log i.claims i.journal in
    let none : i.journal.doubt ≡ None = ap (λ (x : BookOf g.row.D.Denot). x.journal.doubt) c.self.view_is ∙ c.requires.settled in
    let now = subst (IsBook law past) (sym c.self.view_is) is in
    subst (λ (x : BookOf g.row.D.Denot). LeavesOnly law x.journal.disk i.journal.disk (IsAllOrMore past x c.args.command)) c.self.view_is
    (during_none law laws.only_now past b now told none c.args.command)

pub confirm-requires : goal.confirm-requires
confirm-requires g c = record {
  entry = λ accepted.
      accepted_fits c.self.invariant.past c.self.inside.log.history.entries c.self.inside.host.image c.args.command
      c.self.invariant.is.host
      (ap is_accepted (sym c.in_ok-prepared.ensures.answer.reply) ∙ accepted);
}

pub returns-in_err-receipt-clause-any_moment : goal.returns-in_err-receipt-clause-any_moment
returns-in_err-receipt-clause-any_moment g c = λ told past is.
    let laws = g.met.D.Disk g.world.𝓛 g.world.𝓜 g.world.𝓡 ((λ s x. x), (λ x. x), (λ x. x), λ x. x) in
    let law = g.D.Disk.law in
    let i = c.self.inside in
    let b : BookOf g.row.D.Denot = book_of i.host i.opened i.start i.log i.claims i.journal in
    let none : i.journal.doubt ≡ None = ap (λ (x : BookOf g.row.D.Denot). x.journal.doubt) c.self.view_is ∙ c.requires.settled in
    let now = subst (IsBook law past) (sym c.self.view_is) is in
    subst (λ (x : BookOf g.row.D.Denot). LeavesOnly law x.journal.disk i.journal.disk (IsAllOrMore past x c.args.command)) c.self.view_is
    (during_none law laws.only_now past b now told none c.args.command)

pub returns-in-Err-clause-kept : goal.returns-in-Err-clause-kept
returns-in-Err-clause-kept g c = λ past is.
    let laws = g.met.D.Disk g.world.𝓛 g.world.𝓜 g.world.𝓡 ((λ s x. x), (λ x. x), (λ x. x), λ x. x) in
    let law = g.D.Disk.law in
    let i = c.self.inside in
    let b : BookOf g.row.D.Denot = book_of i.host i.opened i.start i.log i.claims i.journal in
    let none : i.journal.doubt ≡ None = ap (λ (x : BookOf g.row.D.Denot). x.journal.doubt) c.self.view_is ∙ c.requires.settled in
    let now = subst (IsBook law past) (sym c.self.view_is) is in
    let p = c.in_ok-prepared.ensures.answer in
    let same = same_on i.log c.prepare.new.log c.confirm.new.log c.prepare.ensures.log c.in_ok-receipt.ensures.log in
    let accepted : is_accepted c.in_ok-prepared.prepared.reply ≡ true = sym c.is_accepted.ensures ∙ c.if-is_accepted.true in
    let granted : is_accepted (answer i.host.image c.args.command).reply ≡ true = ap is_accepted (sym p.reply) ∙ accepted in
    let body = subst (IsBodyOf c.args.command) (sym c.slice.ensures) (c.in_ok-receipt.ensures.body accepted) in
    let a = c.in-Err.ensures in
    let n = c.not_added.ensures in
    not_stored law laws.only_now past i.claims i.host c.prepare.new.host i.opened i.start i.log c.confirm.new.log c.not_added.new.log
    i.journal c.append.new.self c.args.who c.args.command c.slice.result.now c.not_added.result now c.prepare.ensures.image same
    n.history n.moments n.doubts n.some (λ is. a.untouched (ap Err (n.full is))) a.not_added.1.0 a.not_added.1.1 a.elapsed
    (λ bodies k. a.kept first_head bodies k) (λ bodies k. a.any_moment first_head bodies k) body granted

pub invariant_of-self-in-Err : goal.invariant_of-self-in-Err
invariant_of-self-in-Err g c = record {
  past = c.self.invariant.past;
  is = returns-in-Err-clause-kept g c c.self.invariant.past
      (subst (IsBook g.D.Disk.law c.self.invariant.past) c.self.view_is
      c.self.invariant.is);
}

pub returns-in-Err-clause-any_moment : goal.returns-in-Err-clause-any_moment
returns-in-Err-clause-any_moment g c = λ told past is.
    let laws = g.met.D.Disk g.world.𝓛 g.world.𝓜 g.world.𝓡 ((λ s x. x), (λ x. x), (λ x. x), λ x. x) in
    let law = g.D.Disk.law in
    let i = c.self.inside in
    let b : BookOf g.row.D.Denot = book_of i.host i.opened i.start i.log i.claims i.journal in
    let none : i.journal.doubt ≡ None = ap (λ (x : BookOf g.row.D.Denot). x.journal.doubt) c.self.view_is ∙ c.requires.settled in
    let now = subst (IsBook law past) (sym c.self.view_is) is in
    let p = c.in_ok-prepared.ensures.answer in
    let same = same_on i.log c.prepare.new.log c.confirm.new.log c.prepare.ensures.log c.in_ok-receipt.ensures.log in
    let accepted : is_accepted c.in_ok-prepared.prepared.reply ≡ true = sym c.is_accepted.ensures ∙ c.if-is_accepted.true in
    let granted : is_accepted (answer i.host.image c.args.command).reply ≡ true = ap is_accepted (sym p.reply) ∙ accepted in
    let body = subst (IsBodyOf c.args.command) (sym c.slice.ensures) (c.in_ok-receipt.ensures.body accepted) in
    let a = c.in-Err.ensures in
    let n = c.not_added.ensures in
    subst (λ (x : BookOf g.row.D.Denot). LeavesOnly law x.journal.disk c.append.new.self.disk (IsAllOrMore past x c.args.command)) c.self.view_is
    (during_store law laws.only_now past b now told c.append.new.self.disk c.slice.result.now c.args.command body.spells granted
    (λ bodies k. a.any_moment first_head bodies k))

pub returns-clause-kept : goal.returns-clause-kept
returns-clause-kept g c = λ past is.
    let laws = g.met.D.Disk g.world.𝓛 g.world.𝓜 g.world.𝓡 ((λ s x. x), (λ x. x), (λ x. x), λ x. x) in
    let law = g.D.Disk.law in
    let i = c.self.inside in
    let b : BookOf g.row.D.Denot = book_of i.host i.opened i.start i.log i.claims i.journal in
    let none : i.journal.doubt ≡ None = ap (λ (x : BookOf g.row.D.Denot). x.journal.doubt) c.self.view_is ∙ c.requires.settled in
    let now = subst (IsBook law past) (sym c.self.view_is) is in
    let p = c.in_ok-prepared.ensures.answer in
    let same = same_on i.log c.prepare.new.log c.confirm.new.log c.prepare.ensures.log c.in_ok-receipt.ensures.log in
    let it = c.entry_of.ensures in
    let e = c.entry_of.result in
    let command = ap (λ (x : Entry). x.command) it in
    elim c.if-is_accepted.branch [
      | then-is_accepted+in_default w ↦
          let accepted : is_accepted c.in_ok-prepared.prepared.reply ≡ true = sym c.is_accepted.ensures ∙ w.if-is_accepted.true in
          let granted : is_accepted (answer i.host.image c.args.command).reply ≡ true = ap is_accepted (sym p.reply) ∙ accepted in
          let body = subst (IsBodyOf c.args.command) (sym w.slice.ensures) (c.in_ok-receipt.ensures.body accepted) in
          let a = w.in_default.ensures in
          let n = w.install.ensures in
          let host : w.install.new.self.image ≡ (answer i.host.image c.args.command).host =
          n.image ∙ ap (λ h. installed c.in_ok-prepared.prepared.changes h) c.prepare.ensures.image ∙ p.host in
          let told : Tells e (answer i.host.image c.args.command) = record {
            reply = ap (λ (x : Entry). x.reply) it ∙ ap (λ x. x.reply) w.prepared-is ∙ n.reply ∙ p.reply;
            logs = ap (λ (x : Entry). x.logs) it ∙ ap (λ x. x.logs) w.prepared-is ∙ n.logs ∙ p.logs;
            sent = ap (λ (x : Entry). x.sent) it ∙ ap (λ x. x.sent) w.prepared-is ∙ n.sent ∙ p.sent;
          } in
          let history : c.enter.new.self.history.entries ≡ c.confirm.new.log.history.entries ++ e ∷ [] =
          c.enter.ensures.history ∙ ap (λ x. x.log.history.entries ++ e ∷ []) w.self-inside-is in
          let moments : c.enter.new.self.moments.items ≡ c.confirm.new.log.moments.items ++ c.moment-moment.result ∷ [] =
          c.enter.ensures.moments ∙ ap (λ x. x.log.moments.items ++ c.moment-moment.result ∷ []) w.self-inside-is in
          let doubts : c.enter.new.self.doubts.items ≡ c.confirm.new.log.doubts.items =
          c.enter.ensures.doubts ∙ ap (λ x. x.log.doubts.items) w.self-inside-is in
          let time = c.moment-moment.ensures ∙ ap (λ x. law.moment x.journal.disk) w.self-inside-is in
          subst (λ x. IsBook law past (book_of x.host x.opened x.start c.enter.new.self x.claims x.journal)) (sym w.self-inside-is)
          (stored law laws.only_now past i.claims i.host w.install.new.self i.opened i.start i.log c.confirm.new.log c.confirm.new.log
          c.enter.new.self i.journal w.append.new.self c.args.command e c.moment-moment.result w.slice.result.now now same
          (record { history = refl; moments = refl; doubts = refl }) host history moments time doubts command told a.added.1.1
          a.added.1.0 a.elapsed a.time (λ bodies k. a.acknowledged first_head bodies k)
          (λ bodies k. a.any_moment first_head bodies k) body granted)
      | else-is_accepted w ↦
          let denied : is_accepted (answer i.host.image c.args.command).reply ≡ false =
          ap is_accepted (sym p.reply) ∙ sym c.is_accepted.ensures ∙ w.if-is_accepted.false in
          let told : Tells e (answer i.host.image c.args.command) = record {
            reply = ap (λ (x : Entry). x.reply) it ∙ ap (λ x. x.reply) w.prepared-is ∙ p.reply;
            logs = ap (λ (x : Entry). x.logs) it ∙ ap (λ x. x.logs) w.prepared-is ∙ p.logs;
            sent = ap (λ (x : Entry). x.sent) it ∙ ap (λ x. x.sent) w.prepared-is ∙ p.sent;
          } in
          let history : c.enter.new.self.history.entries ≡ c.confirm.new.log.history.entries ++ e ∷ [] =
          c.enter.ensures.history ∙ ap (λ x. x.log.history.entries ++ e ∷ []) w.self-inside-is in
          let moments : c.enter.new.self.moments.items ≡ c.confirm.new.log.moments.items ++ c.moment-moment.result ∷ [] =
          c.enter.ensures.moments ∙ ap (λ x. x.log.moments.items ++ c.moment-moment.result ∷ []) w.self-inside-is in
          let doubts : c.enter.new.self.doubts.items ≡ c.confirm.new.log.doubts.items =
          c.enter.ensures.doubts ∙ ap (λ x. x.log.doubts.items) w.self-inside-is in
          let time = c.moment-moment.ensures ∙ ap (λ x. law.moment x.journal.disk) w.self-inside-is in
          subst (λ x. IsBook law past (book_of x.host x.opened x.start c.enter.new.self x.claims x.journal)) (sym w.self-inside-is)
          (not_accepted law laws.only_now past i.claims i.host c.prepare.new.host i.opened i.start i.log c.confirm.new.log
          c.enter.new.self i.journal c.args.command e c.moment-moment.result now same c.prepare.ensures.image history moments time
          doubts command told none denied)
    ]

pub invariant_of-self-2 : goal.invariant_of-self-2
invariant_of-self-2 g c = record {
  past = c.self.invariant.past;
  is = returns-clause-kept g c c.self.invariant.past (subst (IsBook g.D.Disk.law c.self.invariant.past) c.self.view_is
      c.self.invariant.is);
}

pub returns-clause-ok : goal.returns-clause-ok
returns-clause-ok g c =
    let laws = g.met.D.Disk g.world.𝓛 g.world.𝓜 g.world.𝓡 ((λ s x. x), (λ x. x), (λ x. x), λ x. x) in
    let law = g.D.Disk.law in
    let i = c.self.inside in
    let b : BookOf g.row.D.Denot = book_of i.host i.opened i.start i.log i.claims i.journal in
    let none : i.journal.doubt ≡ None = ap (λ (x : BookOf g.row.D.Denot). x.journal.doubt) c.self.view_is ∙ c.requires.settled in
    let p = c.in_ok-prepared.ensures.answer in
    let same = same_on i.log c.prepare.new.log c.confirm.new.log c.prepare.ensures.log c.in_ok-receipt.ensures.log in
    let it = c.entry_of.ensures in
    let e = c.entry_of.result in
    let command = ap (λ (x : Entry). x.command) it in
    let r = c.in_ok-receipt.ensures.receipt in
    let before = ap length c.prepare.ensures.log.history in
    let y = c.if-is_accepted.self-inside in
    elim c.if-is_accepted.branch [
      | then-is_accepted+in_default w ↦
          let accepted : is_accepted c.in_ok-prepared.prepared.reply ≡ true = sym c.is_accepted.ensures ∙ w.if-is_accepted.true in
          let granted : is_accepted (answer i.host.image c.args.command).reply ≡ true = ap is_accepted (sym p.reply) ∙ accepted in
          let body = subst (IsBodyOf c.args.command) (sym w.slice.ensures) (c.in_ok-receipt.ensures.body accepted) in
          let a = w.in_default.ensures in
          let n = w.install.ensures in
          let host : w.install.new.self.image ≡ (answer i.host.image c.args.command).host =
          n.image ∙ ap (λ h. installed c.in_ok-prepared.prepared.changes h) c.prepare.ensures.image ∙ p.host in
          let told : Tells e (answer i.host.image c.args.command) = record {
            reply = ap (λ (x : Entry). x.reply) it ∙ ap (λ x. x.reply) w.prepared-is ∙ n.reply ∙ p.reply;
            logs = ap (λ (x : Entry). x.logs) it ∙ ap (λ x. x.logs) w.prepared-is ∙ n.logs ∙ p.logs;
            sent = ap (λ (x : Entry). x.sent) it ∙ ap (λ x. x.sent) w.prepared-is ∙ n.sent ∙ p.sent;
          } in
          let history : c.enter.new.self.history.entries ≡ c.confirm.new.log.history.entries ++ e ∷ [] =
          c.enter.ensures.history ∙ ap (λ x. x.log.history.entries ++ e ∷ []) w.self-inside-is in
          let moments : c.enter.new.self.moments.items ≡ c.confirm.new.log.moments.items ++ c.moment-moment.result ∷ [] =
          c.enter.ensures.moments ∙ ap (λ x. x.log.moments.items ++ c.moment-moment.result ∷ []) w.self-inside-is in
          let doubts : c.enter.new.self.doubts.items ≡ c.confirm.new.log.doubts.items =
          c.enter.ensures.doubts ∙ ap (λ x. x.log.doubts.items) w.self-inside-is in
          let time = c.moment-moment.ensures ∙ ap (λ x. law.moment x.journal.disk) w.self-inside-is in
          let entries : c.enter.new.self.history.entries ≡ i.log.history.entries ++ e ∷ [] =
          history ∙ ap (λ (es : List Entry). es ++ e ∷ []) same.history in
          subst (λ (x : BookOf g.row.D.Denot). Acknowledges c.args.who c.args.command x
          (book_of y.host y.opened y.start c.enter.new.self y.claims y.journal) c.in_ok-receipt.receipt) c.self.view_is
          (record {
            entry = e;
            history = entries;
            who = ap (λ (x : Entry). x.who) it;
            command = command;
            told = told;
            host = ap (λ x. x.host.image) w.self-inside-is ∙ host;
            doubts = doubts ∙ same.doubts;
            number = omega (arith, r.number, before, ap length entries, length-append i.log.history.entries (e ∷ []));
            reply = r.reply ∙ p.reply ∙ sym told.reply;
            logs = r.logs ∙ p.logs ∙ sym told.logs;
            sent = r.sent ∙ p.sent ∙ sym told.sent;
          })
      | else-is_accepted w ↦
          let denied : is_accepted (answer i.host.image c.args.command).reply ≡ false =
          ap is_accepted (sym p.reply) ∙ sym c.is_accepted.ensures ∙ w.if-is_accepted.false in
          let told : Tells e (answer i.host.image c.args.command) = record {
            reply = ap (λ (x : Entry). x.reply) it ∙ ap (λ x. x.reply) w.prepared-is ∙ p.reply;
            logs = ap (λ (x : Entry). x.logs) it ∙ ap (λ x. x.logs) w.prepared-is ∙ p.logs;
            sent = ap (λ (x : Entry). x.sent) it ∙ ap (λ x. x.sent) w.prepared-is ∙ p.sent;
          } in
          let history : c.enter.new.self.history.entries ≡ c.confirm.new.log.history.entries ++ e ∷ [] =
          c.enter.ensures.history ∙ ap (λ x. x.log.history.entries ++ e ∷ []) w.self-inside-is in
          let moments : c.enter.new.self.moments.items ≡ c.confirm.new.log.moments.items ++ c.moment-moment.result ∷ [] =
          c.enter.ensures.moments ∙ ap (λ x. x.log.moments.items ++ c.moment-moment.result ∷ []) w.self-inside-is in
          let doubts : c.enter.new.self.doubts.items ≡ c.confirm.new.log.doubts.items =
          c.enter.ensures.doubts ∙ ap (λ x. x.log.doubts.items) w.self-inside-is in
          let time = c.moment-moment.ensures ∙ ap (λ x. law.moment x.journal.disk) w.self-inside-is in
          let entries : c.enter.new.self.history.entries ≡ i.log.history.entries ++ e ∷ [] =
          history ∙ ap (λ (es : List Entry). es ++ e ∷ []) same.history in
          subst (λ (x : BookOf g.row.D.Denot). Acknowledges c.args.who c.args.command x
          (book_of y.host y.opened y.start c.enter.new.self y.claims y.journal) c.in_ok-receipt.receipt) c.self.view_is
          (record {
            entry = e;
            history = entries;
            who = ap (λ (x : Entry). x.who) it;
            command = command;
            told = told;
            host = ap (λ x. x.host.image) w.self-inside-is ∙ c.prepare.ensures.image ∙ sym (refused_changes_nothing i.host.image c.args.command denied).host;
            doubts = doubts ∙ same.doubts;
            number = omega (arith, r.number, before, ap length entries, length-append i.log.history.entries (e ∷ []));
            reply = r.reply ∙ p.reply ∙ sym told.reply;
            logs = r.logs ∙ p.logs ∙ sym told.logs;
            sent = r.sent ∙ p.sent ∙ sym told.sent;
          })
    ]

pub returns-clause-any_moment : goal.returns-clause-any_moment
returns-clause-any_moment g c = λ told past is.
    let laws = g.met.D.Disk g.world.𝓛 g.world.𝓜 g.world.𝓡 ((λ s x. x), (λ x. x), (λ x. x), λ x. x) in
    let law = g.D.Disk.law in
    let i = c.self.inside in
    let b : BookOf g.row.D.Denot = book_of i.host i.opened i.start i.log i.claims i.journal in
    let none : i.journal.doubt ≡ None = ap (λ (x : BookOf g.row.D.Denot). x.journal.doubt) c.self.view_is ∙ c.requires.settled in
    let now = subst (IsBook law past) (sym c.self.view_is) is in
    let p = c.in_ok-prepared.ensures.answer in
    let same = same_on i.log c.prepare.new.log c.confirm.new.log c.prepare.ensures.log c.in_ok-receipt.ensures.log in
    elim c.if-is_accepted.branch [
      | then-is_accepted+in_default w ↦
          let accepted : is_accepted c.in_ok-prepared.prepared.reply ≡ true = sym c.is_accepted.ensures ∙ w.if-is_accepted.true in
          let granted : is_accepted (answer i.host.image c.args.command).reply ≡ true = ap is_accepted (sym p.reply) ∙ accepted in
          let body = subst (IsBodyOf c.args.command) (sym w.slice.ensures) (c.in_ok-receipt.ensures.body accepted) in
          let a = w.in_default.ensures in
          let n = w.install.ensures in
          let host : w.install.new.self.image ≡ (answer i.host.image c.args.command).host =
          n.image ∙ ap (λ h. installed c.in_ok-prepared.prepared.changes h) c.prepare.ensures.image ∙ p.host in
          subst (λ (x : BookOf g.row.D.Denot). LeavesOnly law x.journal.disk c.if-is_accepted.self-inside.journal.disk (IsAllOrMore past x c.args.command)) c.self.view_is
          (subst (λ x. LeavesOnly law b.journal.disk x.journal.disk (IsAllOrMore past b c.args.command)) (sym w.self-inside-is)
          (during_store law laws.only_now past b now told w.append.new.self.disk w.slice.result.now c.args.command body.spells granted
          (λ bodies k. a.any_moment first_head bodies k)))
      | else-is_accepted w ↦
          subst (λ (x : BookOf g.row.D.Denot). LeavesOnly law x.journal.disk c.if-is_accepted.self-inside.journal.disk (IsAllOrMore past x c.args.command)) c.self.view_is
          (subst (λ x. LeavesOnly law b.journal.disk x.journal.disk (IsAllOrMore past b c.args.command)) (sym w.self-inside-is)
          (during_none law laws.only_now past b now told none c.args.command))
    ]
