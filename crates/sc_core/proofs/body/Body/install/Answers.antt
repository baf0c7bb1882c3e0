use Rattle.std.proofs.Common.{◌++◌, ap, refl, sym, subst, ◌∙◌}
use Rattle.sc_core.specs.ChangeLists.{counted_of, first_of, taken_of}
use Rattle.sc_core.specs.Makings.{Installs}
use Rattle.sc_core.proofs.InstallLemmas.{both_installed, first_installed, none_installed, taken_installed}
use Rattle.sc_core.proofs.body.Body.install.Goals as goal

pub install_first-requires-clause-can : goal.install_first-requires-clause-can
install_first-requires-clause-can g c =
    let list = c.changes.inside in
    let whole = c.args.changes.now in
    let back = list.more ++ counted_of list.counted in
    let r = c.requires in
    let h = c.args.self.now in
    let is = ap (λ o. first_of o ++ (taken_of list.taken ++ back)) c.take.ensures.value ∙ c.changes.view_is in
    let l = none_installed whole (first_of c.take.result ++ (taken_of list.taken ++ back)) h is r.agrees r.can r.ready r.room in
    first_installed whole (taken_of list.taken ++ back) c.take.result h h l

pub install_taken-requires-clause-agrees : goal.install_taken-requires-clause-agrees
install_taken-requires-clause-agrees g c =
    let list = c.changes.inside in
    let whole = c.args.changes.now in
    let back = list.more ++ counted_of list.counted in
    let r = c.requires in
    let h = c.args.self.now in
    let is = ap (λ o. first_of o ++ (taken_of list.taken ++ back)) c.take.ensures.value ∙ c.changes.view_is in
    let l = none_installed whole (first_of c.take.result ++ (taken_of list.taken ++ back)) h is r.agrees r.can r.ready r.room in
    (c.install_first.ensures.installs whole (taken_of list.taken ++ back) h l).agrees

pub install_taken-requires-clause-can : goal.install_taken-requires-clause-can
install_taken-requires-clause-can g c =
    let list = c.changes.inside in
    let whole = c.args.changes.now in
    let back = list.more ++ counted_of list.counted in
    let r = c.requires in
    let h = c.args.self.now in
    let is = ap (λ o. first_of o ++ (taken_of list.taken ++ back)) c.take.ensures.value ∙ c.changes.view_is in
    let l = none_installed whole (first_of c.take.result ++ (taken_of list.taken ++ back)) h is r.agrees r.can r.ready r.room in
    let one = subst (λ o. Installs whole (taken_of o ++ back) h c.install_first.new.self) (sym c.take-2.ensures.value)
    (c.install_first.ensures.installs whole (taken_of list.taken ++ back) h l) in
    taken_installed whole back c.take-2.result h c.install_first.new.self one

pub install_more-requires-clause-agrees : goal.install_more-requires-clause-agrees
install_more-requires-clause-agrees g c =
    let list = c.changes.inside in
    let whole = c.args.changes.now in
    let r = c.requires in
    let h = c.args.self.now in
    let two = both_installed whole (list.more ++ counted_of list.counted) c.take.result list.first c.take-2.result list.taken h
    c.install_first.new.self c.install_taken.new.self c.take.ensures.value c.take-2.ensures.value c.changes.view_is
    (none_installed whole whole h refl r.agrees r.can r.ready r.room) c.install_first.ensures.installs c.install_taken.ensures.installs in
    two.agrees

pub install_more-requires-clause-can : goal.install_more-requires-clause-can
install_more-requires-clause-can g c =
    let list = c.changes.inside in
    let whole = c.args.changes.now in
    let r = c.requires in
    let h = c.args.self.now in
    let two = both_installed whole (list.more ++ counted_of list.counted) c.take.result list.first c.take-2.result list.taken h
    c.install_first.new.self c.install_taken.new.self c.take.ensures.value c.take-2.ensures.value c.changes.view_is
    (none_installed whole whole h refl r.agrees r.can r.ready r.room) c.install_first.ensures.installs c.install_taken.ensures.installs in
    two.can

pub install_more-requires-clause-ready : goal.install_more-requires-clause-ready
install_more-requires-clause-ready g c =
    let list = c.changes.inside in
    let whole = c.args.changes.now in
    let r = c.requires in
    let h = c.args.self.now in
    let two = both_installed whole (list.more ++ counted_of list.counted) c.take.result list.first c.take-2.result list.taken h
    c.install_first.new.self c.install_taken.new.self c.take.ensures.value c.take-2.ensures.value c.changes.view_is
    (none_installed whole whole h refl r.agrees r.can r.ready r.room) c.install_first.ensures.installs c.install_taken.ensures.installs in
    two.ready

pub install_more-requires-clause-room : goal.install_more-requires-clause-room
install_more-requires-clause-room g c =
    let list = c.changes.inside in
    let whole = c.args.changes.now in
    let r = c.requires in
    let h = c.args.self.now in
    let two = both_installed whole (list.more ++ counted_of list.counted) c.take.result list.first c.take-2.result list.taken h
    c.install_first.new.self c.install_taken.new.self c.take.ensures.value c.take-2.ensures.value c.changes.view_is
    (none_installed whole whole h refl r.agrees r.can r.ready r.room) c.install_first.ensures.installs c.install_taken.ensures.installs in
    two.room

pub returns-clause-image : goal.returns-clause-image
returns-clause-image g c =
    let list = c.changes.inside in
    let whole = c.args.changes.now in
    let r = c.requires in
    let h = c.args.self.now in
    let two = both_installed whole (list.more ++ counted_of list.counted) c.take.result list.first c.take-2.result list.taken h
    c.install_first.new.self c.install_taken.new.self c.take.ensures.value c.take-2.ensures.value c.changes.view_is
    (none_installed whole whole h refl r.agrees r.can r.ready r.room) c.install_first.ensures.installs c.install_taken.ensures.installs in
    c.install_more.ensures.image ∙ two.reaches

pub returns-clause-charts : goal.returns-clause-charts
returns-clause-charts g c =
    let list = c.changes.inside in
    let whole = c.args.changes.now in
    let r = c.requires in
    let h = c.args.self.now in
    let two = both_installed whole (list.more ++ counted_of list.counted) c.take.result list.first c.take-2.result list.taken h
    c.install_first.new.self c.install_taken.new.self c.take.ensures.value c.take-2.ensures.value c.changes.view_is
    (none_installed whole whole h refl r.agrees r.can r.ready r.room) c.install_first.ensures.installs c.install_taken.ensures.installs in
    c.install_more.ensures.charts ∙ two.charts
