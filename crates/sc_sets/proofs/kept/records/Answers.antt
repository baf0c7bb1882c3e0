use Rattle.std.proofs.Common.{◌≡◌, ◌+◌, ◌++◌, ◌∷◌, [], List, ℕ, filter, append-nil, ap, sym, ◌∙◌}
use Rattle.sc_sets.proofs.Members.{all_from, from_on, next_none, next_some}
use Rattle.sc_sets.proofs.RecordSets.{is_recorded, record_more, records_are}
use Rattle.sc_sets.proofs.kept.records.Goals as goal

pub loop-a-init : goal.loop-a-init
loop-a-init c =
    let test = is_recorded c.args.t.now c.is_deep-deep.result c.args.parent in
    ap (λ (xs : List ℕ). xs ++ filter test (from_on 0 c.args.conf.now.members)) c.new-states.ensures
    ∙ ap (filter test) (all_from c.args.conf.now.members)

pub loop-a-preserved : goal.loop-a-preserved
loop-a-preserved c =
    let test = is_recorded c.args.t.now c.is_deep-deep.result c.args.parent in
    let ms = c.args.conf.now.members in
    let here : from_on c.loop-a.from ms ≡ c.in-Some.a ∷ from_on (c.in-Some.a + 1) ms =
    next_some 0 c.args.conf.now.width c.loop-a.from c.in-Some.a ms c.in-Some.ensures.form c.in-Some.ensures.value c.in-Some.ensures.within.0 in
    record_more test c.is_recorded.result c.in-Some.a c.loop-a.states c.push_if.new.states (from_on (c.in-Some.a + 1) ms) c.is_recorded.ensures c.in_ok-push_if.ensures
    ∙ ap (λ xs. c.loop-a.states ++ filter test xs) (sym here) ∙ c.loop-a.invariant

pub returns : goal.returns
returns c =
    let test = is_recorded c.args.t.now c.is_deep-deep.result c.args.parent in
    let ms = c.args.conf.now.members in
    let none : from_on c.loop-a.from ms ≡ [] = next_none c.loop-a.from ms c.in_default.ensures.value in
    sym (append-nil c.loop-a.states) ∙ ap (λ xs. c.loop-a.states ++ filter test xs) (sym none) ∙ c.loop-a.invariant
    ∙ records_are c.args.t.now ms c.args.s c.args.parent c.is_deep-deep.result c.is_deep-deep.ensures c.requires.own
