use Rattle.std.proofs.Common.{◌≡◌, ℕ, Bool, Option, None, Some, List, refl, sym, ap, subst}
use Rattle.sc_journal.specs.Journals.{JournalOf, Keeps, IsAsDoubted}
use Rattle.sc_journal.specs.JournalInside.{journal_inside, doubted, buffered_body}
use Rattle.sc_journal.specs.Stops.{LeavesOnly}
use Rattle.sc_journal.proofs.Kept.{doubted-images, kept-gate, kept-closed, moments-settle}
use Rattle.sc_journal.proofs.journal.Journal.settle.Goals as goal

pub returns-in_err-write_synced-clause-kept : goal.returns-in_err-write_synced-clause-kept
returns-in_err-write_synced-clause-kept g c = λ head bodies keeps.
    let laws = g.met.D.Disk g.world.𝓛 g.world.𝓜 g.world.𝓡 ((λ s x. x), (λ x. x), (λ x. x), λ x. x) in
    let law = g.D.Disk.law in
    let j = journal_inside c.self.inside in
    let kj = subst (λ (x : JournalOf g.row.D.Denot). Keeps law x head bodies) (sym c.self.view_is) keeps in
    let body = buffered_body c.self.inside.buffer.items in
    let some : j.doubt ≡ Some body = ap (λ (b : Bool). doubted b c.self.inside.buffer.items) c.if-self.true in
    let k : JournalOf g.row.D.Denot = record { disk = c.write_synced.new.disk; end = j.end; next = j.next; doubt = j.doubt } in
    kept-gate law head bodies j kj k j.disk body (doubted-images law head bodies j kj body some) some refl refl c.write_synced.ensures.images

pub returns-in_err-write_synced-clause-any_moment :
    goal.returns-in_err-write_synced-clause-any_moment
returns-in_err-write_synced-clause-any_moment g c = λ head bodies keeps.
    let laws = g.met.D.Disk g.world.𝓛 g.world.𝓜 g.world.𝓡 ((λ s x. x), (λ x. x), (λ x. x), λ x. x) in
    let law = g.D.Disk.law in
    let j = journal_inside c.self.inside in
    let kj = subst (λ (x : JournalOf g.row.D.Denot). Keeps law x head bodies) (sym c.self.view_is) keeps in
    let body = buffered_body c.self.inside.buffer.items in
    let some : j.doubt ≡ Some body = ap (λ (b : Bool). doubted b c.self.inside.buffer.items) c.if-self.true in
    let run = moments-settle law laws.only_now head bodies j kj body c.write_synced.new.disk some c.write_synced.ensures.passes in
    let P : Option (List ℕ) → Type 0 = λ d. LeavesOnly law j.disk c.write_synced.new.disk (IsAsDoubted d head bodies) in
    subst (λ (x : JournalOf g.row.D.Denot). LeavesOnly law x.disk c.write_synced.new.disk (IsAsDoubted x.doubt head bodies)) c.self.view_is (subst P (sym some) run)

pub returns-in_ok-write_synced-clause-kept : goal.returns-in_ok-write_synced-clause-kept
returns-in_ok-write_synced-clause-kept g c = λ head bodies keeps.
    let laws = g.met.D.Disk g.world.𝓛 g.world.𝓜 g.world.𝓡 ((λ s x. x), (λ x. x), (λ x. x), λ x. x) in
    let law = g.D.Disk.law in
    let j = journal_inside c.self.inside in
    let kj = subst (λ (x : JournalOf g.row.D.Denot). Keeps law x head bodies) (sym c.self.view_is) keeps in
    let body = buffered_body c.self.inside.buffer.items in
    let some : j.doubt ≡ Some body = ap (λ (b : Bool). doubted b c.self.inside.buffer.items) c.if-self.true in
    let k : JournalOf g.row.D.Denot = record { disk = c.write_synced.new.disk; end = j.end; next = j.next; doubt = None } in
    let done = c.in_ok-write_synced.ensures in
    kept-closed law head bodies j kj k body some (laws.stands j.disk) refl refl refl (done.outside kj.told) (done.written kj.told) (done.durable kj.told)

pub returns-in_ok-write_synced-clause-any_moment :
    goal.returns-in_ok-write_synced-clause-any_moment
returns-in_ok-write_synced-clause-any_moment g c = λ head bodies keeps.
    let laws = g.met.D.Disk g.world.𝓛 g.world.𝓜 g.world.𝓡 ((λ s x. x), (λ x. x), (λ x. x), λ x. x) in
    let law = g.D.Disk.law in
    let j = journal_inside c.self.inside in
    let kj = subst (λ (x : JournalOf g.row.D.Denot). Keeps law x head bodies) (sym c.self.view_is) keeps in
    let body = buffered_body c.self.inside.buffer.items in
    let some : j.doubt ≡ Some body = ap (λ (b : Bool). doubted b c.self.inside.buffer.items) c.if-self.true in
    let run = moments-settle law laws.only_now head bodies j kj body c.write_synced.new.disk some c.write_synced.ensures.passes in
    let P : Option (List ℕ) → Type 0 = λ d. LeavesOnly law j.disk c.write_synced.new.disk (IsAsDoubted d head bodies) in
    subst (λ (x : JournalOf g.row.D.Denot). LeavesOnly law x.disk c.write_synced.new.disk (IsAsDoubted x.doubt head bodies)) c.self.view_is (subst P (sym some) run)
