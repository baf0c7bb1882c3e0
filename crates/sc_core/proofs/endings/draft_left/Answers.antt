use Rattle.std.proofs.Common.{◌≡◌, ◌+◌, ◌∷◌, length, ap, arith, rules, ◌∙◌}
use Rattle.std.specs.Vec.Iter.{into_iter_items}
use Rattle.sc_core.proofs.LoopLemmas.{left_drafted, left_last, left_next}
use Rattle.sc_core.proofs.TurnedLemmas.{no_items}
use Rattle.sc_core.proofs.endings.draft_left.Goals as goal

pub loop-child-init : goal.loop-child-init
loop-child-init g c =
    let items : into_iter_items c.into_iter-child-iterator.result ≡ c.args.children = search rules in
    record { len = search rules; drafts = ap (left_drafted c.args.draft.now) items }

pub loop-child-preserved : goal.loop-child-preserved
loop-child-preserved g c =
    let was = c.loop-child in
    let rest = into_iter_items c.next.new.self in
    let items : into_iter_items was.child-iterator ≡ c.in-Some.child ∷ rest = search rules in
    let count : length (into_iter_items was.child-iterator) ≡ length rest + 1 = ap length items ∙ omega arith in
    record {
      len = omega (arith, was.invariant.len, count, c.in-Some.ensures.steps.1);
      drafts = left_next was.draft c.push.new.self c.push-in-loop-child.new.self c.in-Some.child _ rest items c.in_ok-push.ensures.ok
          c.in_ok-push-2.ensures.ok ∙ was.invariant.drafts;
    }

pub returns : goal.returns
returns g c =
    let was = c.loop-child in
    left_last was.draft _ _ (no_items (into_iter_items was.child-iterator) (was.invariant.len ∙ c.in-None.ensures.steps.0))
    was.invariant.drafts
