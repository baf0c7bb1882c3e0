use Rattle.std.proofs.Common.{rules, ◌≡◌, nat_lt, None, [], ◌∷◌, ◌++◌, map, max, sym, ap, ◌∙◌}
use Rattle.std.proofs.lemmas.Result.{IfOk-weaker}
use Rattle.sc_types.specs.Expressions.{depth, deepest}
use Rattle.sc_expr.specs.Descent.{inside}
use Rattle.sc_expr.proofs.ClimbLemmas.{climbs_result, climbs_refused, climbs_push, climbs_too_deep, climbs_pop, climbs_end}
use Rattle.sc_expr.proofs.LevelLemmas.{postfix_result, index_unclosed, index_too_deep, deepest-push, list_made, list_too_deep, list_step}
use Rattle.sc_expr.proofs.reader.Reader.+descend.Goals as goal

pub loose-returns-in_err-operand-2 : goal.loose-returns-in_err-operand-2
loose-returns-in_err-operand-2 t c = record {
  value = search rules;
  refused = λ e. climbs_result c.args.room c.loop-op.closest c.loop-op.loosest c.args.self.now c.prefixed.new.self c.loop-op.self c.in_ok-operand.operand c.loop-op.operand
      c.loop-op.waiting None c.in_ok-operand.ensures.value c.loop-op.invariant.0
      (climbs_refused c.args.room c.loop-op.closest c.loop-op.loosest c.loop-op.waiting c.loop-op.operand c.in-Some.op c.loop-op.self c.loop-op.invariant.2
      (search rules) (search rules));
  shorter = search rules;
  shallow = search rules;
}

pub loose-loop-op-preserved-in-Some : goal.loose-loop-op-preserved-in-Some
loose-loop-op-preserved-in-Some t c = (
  climbs_push c.args.room c.loop-op.closest c.loop-op.loosest c.loop-op.waiting c.push.new.self c.loop-op.operand c.in_ok-operand-2.operand c.in-Some.op
      c.looseness-loosest.result c.loop-op.self c.prefixed-in-Some.new.self _ c.loop-op.invariant.2 (search rules) (search rules) (search rules) (search rules)
      c.loop-op.invariant.0,
  search rules,
  search rules,
)

pub loose-returns-in_err-operand-3 : goal.loose-returns-in_err-operand-3
loose-returns-in_err-operand-3 t c = record {
  value = search rules;
  refused = λ e. climbs_result c.args.room c.loop-op.closest c.loop-op.loosest c.args.self.now c.prefixed.new.self c.loop-op.self c.in_ok-operand.operand c.loop-op.operand
      c.loop-op.waiting None c.in_ok-operand.ensures.value c.loop-op.invariant.0
      (climbs_too_deep c.args.room c.loop-op.closest c.loop-op.loosest c.pop.new.self c.loop-op.waiting c.in-Some-pop.last c.loop-op.operand c.loop-op.self
      c.loop-op.invariant.2 (search rules) (search rules) (search rules));
  shorter = search rules;
  shallow = search rules;
}

pub loose-loop-op-preserved : goal.loose-loop-op-preserved
loose-loop-op-preserved t c = (
  climbs_pop c.args.room c.loop-op.closest c.loop-op.loosest c.pop.new.self c.loop-op.waiting c.in-Some-pop.last c.loop-op.operand c.in_ok-operand-3.operand
      c.closest_behind-closest.result c.loop-op.self _ c.loop-op.invariant.2 (search rules) (search rules) (search rules) (search rules) c.loop-op.invariant.0,
  search rules,
  search rules,
)

pub loose-returns-in_default-pop : goal.loose-returns-in_default-pop
loose-returns-in_default-pop t c = record {
  value = climbs_result c.args.room c.loop-op.closest c.loop-op.loosest c.args.self.now c.prefixed.new.self c.loop-op.self c.in_ok-operand.operand c.loop-op.operand
      c.loop-op.waiting _ c.in_ok-operand.ensures.value c.loop-op.invariant.0
      (climbs_end c.args.room c.loop-op.closest c.loop-op.loosest c.loop-op.waiting c.loop-op.operand c.loop-op.self c.loop-op.invariant.2 (search rules) (search rules));
  refused = λ e. absurd (cc);
  shorter = search rules;
  shallow = search rules;
}

pub postfix-returns-in_err-close_square : goal.postfix-returns-in_err-close_square
postfix-returns-in_err-close_square t c = record {
  value = search rules;
  refused = λ e. postfix_result (nat_lt 0 c.args.room) (inside c.args.room) c.args.self.now c.primary.new.self c.loop-alloc.self c.in_ok-list.list c.loop-alloc.list None c.in_ok-list.ensures.value c.loop-alloc.invariant.0
      (index_unclosed (inside c.args.room) c.loop-alloc.list c.in_ok-place.place c.loop-alloc.self c.inside.new.self c.loop-alloc.invariant.2
      (search rules) (search rules) (search rules));
  shorter = search rules;
  shallow = search rules;
}

pub postfix-returns-in_err-list-2 : goal.postfix-returns-in_err-list-2
postfix-returns-in_err-list-2 t c = record {
  value = search rules;
  refused = λ e. postfix_result (nat_lt 0 c.args.room) (inside c.args.room) c.args.self.now c.primary.new.self c.loop-alloc.self c.in_ok-list.list c.loop-alloc.list None c.in_ok-list.ensures.value c.loop-alloc.invariant.0
      (index_too_deep (inside c.args.room) c.loop-alloc.list c.in_ok-place.place c.loop-alloc.self c.inside.new.self c.close_square.new.self
      c.loop-alloc.invariant.2 (search rules) (search rules) (search rules) (search rules));
  shorter = search rules;
  shallow = search rules;
}

pub list-returns-then-not-branch : goal.list-returns-then-not-branch
list-returns-then-not-branch t c = record {
  value = IfOk-weaker c.limited.result _ _ (λ made fits.
      list_made c.args.room c.args.self.now c.loop-items.self c.inside.new.self c.goes_on.new.self c.loop-items.items c.push.new.self
      c.in_ok-item.item made (search rules) (search rules) c.loop-items.invariant.0 (search rules) (search rules) (search rules) fits)
      c.limited.ensures.value;
  refused = λ e. list_too_deep c.args.room c.args.self.now c.loop-items.self c.inside.new.self c.goes_on.new.self c.loop-items.items c.push.new.self
      c.in_ok-item.item (search rules) (search rules) c.loop-items.invariant.0 (search rules) (search rules) (search rules) (c.limited.ensures.refused e);
  shorter = search rules;
  shallow = c.limited.ensures.shallow;
}

pub list-loop-items-preserved : goal.list-loop-items-preserved
list-loop-items-preserved t c =
    let push : c.push.new.self ≡ c.loop-items.items ++ c.in_ok-item.item ∷ [] = search rules in
    let deeper : c.max-deepest.result ≡ max (depth c.in_ok-item.item) (deepest (map depth c.loop-items.items)) = search (rules, c.loop-items.invariant.1) in (
      list_step c.args.room c.args.self.now c.loop-items.self c.inside.new.self c.goes_on.new.self c.loop-items.items c.push.new.self
          c.in_ok-item.item c.loop-items.invariant.0 (search rules) (search rules) (search rules) push,
      deeper ∙ sym (ap (λ es. deepest (map depth es)) push ∙ deepest-push c.loop-items.items c.in_ok-item.item),
      search rules,
    )
