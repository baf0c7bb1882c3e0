use Rattle.std.proofs.Common.{ap, sym, ◌∙◌}
use Rattle.std.specs.Option.{option_copied}
use Rattle.sc_family.proofs.LinkLemmas.{link_for-new, link_for-place}
use Rattle.sc_family.proofs.family.Family.link_of.Goals as goal

pub place_of-requires : goal.place_of-requires
place_of-requires c = rw c.as_slice.ensures.value c.self.invariant.0

pub returns-in_err-place : goal.returns-in_err-place
returns-in_err-place c =
    let new = rw c.as_slice.ensures.value at c.in_err-place.ensures.found in
    rw (← c.self.view_is)
    (ap option_copied c.from_residual.ensures ∙ sym (link_for-new c.args.child.now c.self.inside.links.items new))

pub returns : goal.returns
returns c =
    let found = rw c.as_slice.ensures.value at c.in_ok-place.ensures.found in
    rw (← c.self.view_is)
    (sym (link_for-place c.args.child.now c.self.inside.links.items c.in_ok-place.place c.index.result.now
    c.self.invariant.0.chains.distinct found (sym c.index.ensures)))
