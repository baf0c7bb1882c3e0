use Rattle.std.proofs.Common.{◌≡◌, ◌&&◌, false, true, not, is_some, length, nat_le, nat_lt, slice_get, sym, ◌∙◌}
use Rattle.sc_types.specs.declared.limits.TheConstants.{INVOKE_DEPTH_LIMIT}
use Rattle.sc_machine.specs.declared.limits.TheConstants.{CHILD_NAME_LIMIT}
use Rattle.sc_core.specs.Bodies.{image}
use Rattle.sc_machine.specs.Deliveries.{born, invoke, may_bear, unborn}
use Rattle.sc_core.specs.Drafts.{so_far, stepper}
use Rattle.sc_machine.specs.Hosts.{has_chart, session_place}
use Rattle.sc_core.proofs.DraftLemmas.{drafts_same, each_ok, sender_grown, sender_there}
use Rattle.sc_machine.proofs.FitLemmas.{both_hold}
use Rattle.sc_core.proofs.InvokeLemmas.{depth_at, invoke_born, invoke_unborn, next_of}
use Rattle.sc_machine.proofs.MoveLemmas.{none_there}
use Rattle.sc_core.proofs.body.Body.draft_invoke.Goals as goal

pub draft_birth-requires-clause-new : goal.draft_birth-requires-clause-new
draft_birth-requires-clause-new g c = λ h t sender.
    let old = c.args.draft.now in
    let before = image c.args.self.now in
    let after = c.args.after.now in
    let who = stepper after.session c.args.place in
    let w = c.args.invocation in
    let found = sender_there before c.args.place after h old t sender in
    let may : may_bear (so_far h old) t w.child w.chart ≡ true =
    sym (c.if-not-may_bear.ensures.may after c.args.place (so_far h old) t c.requires.there
    (sender_grown before c.args.place after h old t sender) (sender.draft.follows.charts ∙ sender.base.charts)
    (depth_at before c.args.place found.session t _ found.there found.is.depth c.depth_at-depth.ensures)) in
    none_there (session_place (so_far h old) w.child)
    (both_hold (has_chart (so_far h old) w.chart && nat_lt t.depth INVOKE_DEPTH_LIMIT && nat_le (length w.child) CHILD_NAME_LIMIT)
    (not (is_some (session_place (so_far h old) w.child))) may).1

pub returns-then-not-may_bear-clause-told : goal.returns-then-not-may_bear-clause-told
returns-then-not-may_bear-clause-told g c =
    let old = c.args.draft.now in
    let before = image c.args.self.now in
    let after = c.args.after.now in
    let who = stepper after.session c.args.place in
    let w = c.args.invocation in
    each_ok (λ told drafted h t sender.
    let found = sender_there before c.args.place after h old t sender in
    let may : may_bear (so_far h old) t w.child w.chart ≡ false =
    sym (c.if-not-may_bear.ensures.may after c.args.place (so_far h old) t c.requires.there
    (sender_grown before c.args.place after h old t sender) (sender.draft.follows.charts ∙ sender.base.charts)
    (depth_at before c.args.place found.session t _ found.there found.is.depth c.depth_at-depth.ensures)) in
    drafts_same who h old _ (unborn (so_far h old) c.args.place t w.invokeid w.child)
    (invoke (so_far h old) c.args.place t w.invokeid w.child w.chart w.pairs) told
    (invoke_unborn (so_far h old) c.args.place t w.invokeid w.child w.chart w.pairs may) (drafted h t sender))
    c.draft_unborn.result c.draft_unborn.ensures.told

pub returns-clause-told : goal.returns-clause-told
returns-clause-told g c =
    let old = c.args.draft.now in
    let before = image c.args.self.now in
    let after = c.args.after.now in
    let who = stepper after.session c.args.place in
    let w = c.args.invocation in
    each_ok (λ told drafted h t sender.
    let found = sender_there before c.args.place after h old t sender in
    let may : may_bear (so_far h old) t w.child w.chart ≡ true =
    sym (c.if-not-may_bear.ensures.may after c.args.place (so_far h old) t c.requires.there
    (sender_grown before c.args.place after h old t sender) (sender.draft.follows.charts ∙ sender.base.charts)
    (depth_at before c.args.place found.session t _ found.there found.is.depth c.depth_at-depth.ensures)) in
    drafts_same who h old _ (born (so_far h old) t w.invokeid w.child w.chart w.pairs)
    (invoke (so_far h old) c.args.place t w.invokeid w.child w.chart w.pairs) told
    (invoke_born (so_far h old) c.args.place t w.invokeid w.child w.chart w.pairs may) (drafted h t sender))
    c.draft_birth.result c.draft_birth.ensures.told

pub draft_birth-requires-clause-depth : goal.draft_birth-requires-clause-depth
draft_birth-requires-clause-depth g c =
    next_of (slice_get (image c.args.self.now).sessions c.args.place) c.depth_at-depth.result c.depth_at-depth.ensures
