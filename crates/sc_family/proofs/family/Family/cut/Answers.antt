use Rattle.std.proofs.Common.{sym}
use Rattle.std.proofs.Math.ListN.{length-set}
use Rattle.sc_family.proofs.LinkLemmas.{is_live-new, is_live-place, cut_off-new, cut_off-place, names-cut}
use Rattle.sc_family.proofs.family.Family.cut.Goals as goal

pub place_of-requires : goal.place_of-requires
place_of-requires c = rw c.as_slice.ensures.value c.self.invariant.0

pub invariant_of-self : goal.invariant_of-self
invariant_of-self c = rw (
  length-set,
  names-cut c.self.inside.links.items c.in-Some.place c.index_mut-link.result.now
      (sym c.index_mut-link.ensures.value),
) c.self.invariant

pub returns-in-None-clause-value : goal.returns-in-None-clause-value
returns-in-None-clause-value c =
    let new = rw c.as_slice.ensures.value at c.in-None.ensures.found in
    rw (← c.self.view_is) (sym (is_live-new c.args.child.now c.self.inside.links.items new))

pub returns-in-None-clause-links : goal.returns-in-None-clause-links
returns-in-None-clause-links c =
    let new = rw c.as_slice.ensures.value at c.in-None.ensures.found in
    rw (← c.self.view_is) (sym (cut_off-new c.args.child.now c.self.inside.links.items new))

pub returns-in-Some-clause-value : goal.returns-in-Some-clause-value
returns-in-Some-clause-value c =
    let found = rw c.as_slice.ensures.value at c.in-Some.ensures.found in
    rw (← c.self.view_is)
    (sym (is_live-place c.args.child.now c.self.inside.links.items c.in-Some.place c.index_mut-link.result.now
    c.self.invariant.0.chains.distinct found (sym c.index_mut-link.ensures.value)))

pub returns-in-Some-clause-links : goal.returns-in-Some-clause-links
returns-in-Some-clause-links c =
    let found = rw c.as_slice.ensures.value at c.in-Some.ensures.found in
    rw (← c.self.view_is)
    (sym (cut_off-place c.args.child.now c.self.inside.links.items c.in-Some.place c.index_mut-link.result.now
    c.self.invariant.0.chains.distinct found (sym c.index_mut-link.ensures.value)))
