use Rattle.std.proofs.Common.{◌≡◌, ◌∙◌, ℕ, Bool, not, Some, ap, sym, subst}
use Rattle.sc_base.specs.Ascending.{contains, with_number}
use Rattle.sc_book.specs.Books.{BookOf, IsBook}
use Rattle.sc_book.specs.Claims.{IsPresent, TicketOf, unclaimed}
use Rattle.sc_book.specs.Keeping.{book_of}
use Rattle.sc_core.proofs.StaysLemmas.{stays_ready}
use Rattle.sc_types.specs.declared.host.HostImage.{HostImage}
use Rattle.sc_book.proofs.ClaimLemmas.{found_at, found_ready, found_within, is_claimed, none_taken, taken_input, ticket_has, ticket_present}
use Rattle.sc_book.proofs.book.Book.take.Goals as goal

pub turn_input-requires-clause-within : goal.turn_input-requires-clause-within
turn_input-requires-clause-within g c κs within =
    let i = c.self.inside in
    let b : BookOf g.row.D.Denot = book_of i.host i.opened i.start i.log i.claims i.journal in
    let first : unclaimed b ≡ Some c.args.place = subst (λ (x : BookOf g.row.D.Denot). unclaimed x ≡ Some c.args.place) (sym c.self.view_is) c.requires.first in
    found_within (λ place. not (contains b.claims place)) c.args.place b.host.sessions (sym first)

pub new-requires-clause-turn : goal.new-requires-clause-turn
new-requires-clause-turn g c κs within =
    let i = c.self.inside in
    let b : BookOf g.row.D.Denot = book_of i.host i.opened i.start i.log i.claims i.journal in
    let first : unclaimed b ≡ Some c.args.place = subst (λ (x : BookOf g.row.D.Denot). unclaimed x ≡ Some c.args.place) (sym c.self.view_is) c.requires.first in
    let test : ℕ → Bool = λ place. not (contains b.claims place) in
    let found = found_ready test 0 c.args.place b.host.sessions (sym first) in
    let there = found_at test c.args.place b.host.sessions found in
    let is = taken_input g.E.Engine.chart_of b.host c.args.place c.in_ok-input.input c.in-Some.input found.session
    c.in_ok-input.ensures.input c.in-Some.is there in
    ticket_has g.E.Engine.chart_of b.host c.args.place found.session c.in-Some.input is

pub invariant_of-self-in-Some : goal.invariant_of-self-in-Some
invariant_of-self-in-Some g c =
    let law = g.D.Disk.law in
    let i = c.self.inside in
    let b : BookOf g.row.D.Denot = book_of i.host i.opened i.start i.log i.claims i.journal in
    record {
      past = c.self.invariant.past;
      is = subst (λ (h : HostImage). IsBook law c.self.invariant.past (record b { host = h; claims = c.insert.new.self.places }))
          (sym c.in_ok-input.ensures.image)
          (is_claimed law c.self.invariant.past b c.insert.new.self.places c.self.invariant.is);
    }

pub unreachable-requires : goal.unreachable-requires
unreachable-requires g c =
    let i = c.self.inside in
    let b : BookOf g.row.D.Denot = book_of i.host i.opened i.start i.log i.claims i.journal in
    let first : unclaimed b ≡ Some c.args.place = subst (λ (x : BookOf g.row.D.Denot). unclaimed x ≡ Some c.args.place) (sym c.self.view_is) c.requires.first in
    let test : ℕ → Bool = λ place. not (contains b.claims place) in
    let found = found_ready test 0 c.args.place b.host.sessions (sym first) in
    let there = found_at test c.args.place b.host.sessions found in
    none_taken g.E.Engine.chart_of b.host c.args.place c.in_ok-input.input found.session c.in_ok-input.ensures.input c.in-None.is
    there found.ready

pub returns-clause-ok : goal.returns-clause-ok
returns-clause-ok g c =
    let i = c.self.inside in
    let b : BookOf g.row.D.Denot = book_of i.host i.opened i.start i.log i.claims i.journal in
    let first : unclaimed b ≡ Some c.args.place = subst (λ (x : BookOf g.row.D.Denot). unclaimed x ≡ Some c.args.place) (sym c.self.view_is) c.requires.first in
    let test : ℕ → Bool = λ place. not (contains b.claims place) in
    let found = found_ready test 0 c.args.place b.host.sessions (sym first) in
    let there = found_at test c.args.place b.host.sessions found in
    let is = taken_input g.E.Engine.chart_of b.host c.args.place c.in_ok-input.input c.in-Some.input found.session
    c.in_ok-input.ensures.input c.in-Some.is there in
    let present = ticket_present g.E.Engine.chart_of b.host c.args.place found.session c.in-Some.input there is in
    let same = sym c.new.ensures in
    record {
      first = c.requires.first ∙ ap (λ (t : TicketOf). Some t.place) same;
      within = c.requires.within;
      present = subst (λ (x : BookOf g.row.D.Denot). IsPresent x.host c.new.result) c.self.view_is
          (subst (IsPresent b.host) same present);
      claims = c.insert.ensures.places ∙ ap (with_number c.args.place) c.in_ok-reserve.ensures.places
          ∙ ap (λ (x : BookOf g.row.D.Denot). with_number c.args.place x.claims) c.self.view_is
          ∙ ap (λ (t : TicketOf). with_number t.place c.args.self.now.claims) same;
    }

pub returns-clause-kept : goal.returns-clause-kept
returns-clause-kept g c = λ past is.
    let law = g.D.Disk.law in
    let i = c.self.inside in
    let b : BookOf g.row.D.Denot = book_of i.host i.opened i.start i.log i.claims i.journal in
    subst (λ (h : HostImage). IsBook law past (record b { host = h; claims = c.insert.new.self.places }))
    (sym c.in_ok-input.ensures.image)
    (is_claimed law past b c.insert.new.self.places (subst (IsBook law past) (sym c.self.view_is) is))

pub returns-clause-stays : goal.returns-clause-stays
returns-clause-stays g c = λ host command. stays_ready host c.new.result.place command
