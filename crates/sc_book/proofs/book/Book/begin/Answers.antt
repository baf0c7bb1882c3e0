use Rattle.std.proofs.Common.{rules, ◌≡◌, Err, length, ap}
use Rattle.sc_book.proofs.OpenLemmas.{begun_as}
use Rattle.sc_book.proofs.book.Book.begin.Goals as goal

pub invariant_of-result : goal.invariant_of-result
invariant_of-result g c =
    let laws = g.met.D.Disk g.world.𝓛 g.world.𝓜 g.world.𝓡 ((λ s x. x), (λ x. x), (λ x. x), λ x. x) in
    let law = g.D.Disk.law in
    let bodies = c.args.opened.bodies in
    let r = c.in-Ok.ensures in
    let long : c.len-count.result ≡ length bodies = search rules in
    let first : c.args.opened.first ≡ 1 = r.first in
    let opened = begun_as law laws.only_now bodies c.in-Ok.host c.len-count.result c.moment-start.result
    c.args.opened.first c.new.result c.new-in-Ok.result c.args.opened.journal r.ok long c.moment-start.ensures
    c.new.ensures.history c.new.ensures.moments c.new.ensures.doubts c.new-in-Ok.ensures c.requires.settled first c.requires.next c.requires.keeps in
    record { past = opened.past; is = opened.book }

pub returns-in-Ok-clause-opened : goal.returns-in-Ok-clause-opened
returns-in-Ok-clause-opened g c =
    let laws = g.met.D.Disk g.world.𝓛 g.world.𝓜 g.world.𝓡 ((λ s x. x), (λ x. x), (λ x. x), λ x. x) in
    let law = g.D.Disk.law in
    let bodies = c.args.opened.bodies in
    let r = c.in-Ok.ensures in
    let long : c.len-count.result ≡ length bodies = search rules in
    let first : c.args.opened.first ≡ 1 = r.first in
    let opened = begun_as law laws.only_now bodies c.in-Ok.host c.len-count.result c.moment-start.result
    c.args.opened.first c.new.result c.new-in-Ok.result c.args.opened.journal r.ok long c.moment-start.ensures
    c.new.ensures.history c.new.ensures.moments c.new.ensures.doubts c.new-in-Ok.ensures c.requires.settled first c.requires.next c.requires.keeps in
    opened

pub returns-in-Err-clause-bad : goal.returns-in-Err-clause-bad
returns-in-Err-clause-bad g c = λ n is. c.in-Err.ensures.bad n (ap Err is)
