use Rattle.std.proofs.Common.{◌≡◌, ◌∷◌, ◌++◌, ◌∙◌, [], Some, ap, sym, arith, drop, length, length-append, length-drop}
use Rattle.std.proofs.lemmas.Grind.{common_steps}
use Rattle.std.proofs.lemmas.Result.{IfOk-weaker}
use Rattle.std.specs.Prelude.{option_and_then}
use Rattle.sc_types.specs.Values.{behind, due}
use Rattle.sc_types.specs.declared.token.Mark.TheVariants.{OpenSquare, CloseSquare}
use Rattle.sc_types.specs.declared.token.Token.TheVariants.{Mark as Sign}
use Rattle.sc_types.specs.declared.value.Value.TheVariants.{List as Listed}
use Rattle.sc_expr.proofs.NestedLemmas.{alone, an_item, behind_item, close_of, empty_list, next_none, next_some, none_closed, none_left, opens, opens_none}
use Rattle.sc_expr.proofs.literal.+literal.Goals as goal

pub further_items-loop-items-preserved : goal.further_items-loop-items-preserved
further_items-loop-items-preserved t c =
    let told = c.in_ok-goes_on.ensures.ok in
    let sep = told.0 ∙ ap Some c.if-branch.true in
    let pushed : c.push-in-loop-items.new.self ≡ c.loop-items.items ++ c.in_ok-next_value.field-0 ∷ [] = c.in_ok-push-2.ensures.ok in
    let moved : c.goes_on.new.lexer ≡ drop 1 c.loop-items.lexer = told.1 in (
      omega (arith, ap length pushed, length-append c.loop-items.items (c.in_ok-next_value.field-0 ∷ [])),
      (
        omega (arith, c.in_ok-next_value.ensures.shorter, ap length moved, length-drop 1 c.loop-items.lexer, c.loop-items.invariant.1.0),
        λ lists room.
            an_item c.loop-items.items c.push-in-loop-items.new.self lists c.loop-items.lexer c.goes_on.new.lexer c.next_value.new.lexer
            c.in_ok-next_value.field-0 sep told.1 (c.in_ok-next_value.ensures.ok (c.loop-items.items ∷ lists) room) c.in_ok-push-2.ensures.ok
            ∙ c.loop-items.invariant.1.1 lists room,
      ),
    )

pub list_from-returns-then-levels-eq0-clause-refused : goal.list_from-returns-then-levels-eq0-clause-refused
list_from-returns-then-levels-eq0-clause-refused t c =
    λ _ lists room. opens_none lists c.args.lexer.now (omega (arith, room, c.if-levels-eq0.true))

pub list_from-returns-then-is_close-clause-ok : goal.list_from-returns-then-is_close-clause-ok
list_from-returns-then-is_close-clause-ok t c =
    let next = next_some c.in_ok-next.field-0 c.in-Some.first c.args.lexer.now c.next.new.self c.in-Some.is c.in_ok-next.ensures.ok in
    let close = close_of c.in-Some.first (sym c.is_close.ensures ∙ c.if-is_close.true) in
    λ lists room.
    opens lists c.args.lexer.now (omega (arith, room, c.if-levels-eq0.false))
    ∙ ap (due ([] ∷ lists)) (next ∙ ap (λ u. u ∷ c.next.new.self) close) ∙ empty_list lists c.next.new.self
    ∙ ap (λ vs. behind (Listed vs) lists c.next.new.self) (sym c.new.ensures)

pub list_from-returns-in_err-first-in-Some-clause-refused : goal.list_from-returns-in_err-first-in-Some-clause-refused
list_from-returns-in_err-first-in-Some-clause-refused t c =
    let next = next_some c.in_ok-next.field-0 c.in-Some.first c.args.lexer.now c.next.new.self c.in-Some.is c.in_ok-next.ensures.ok in
    λ e lists room.
    opens lists c.args.lexer.now (omega (arith, room, c.if-levels-eq0.false))
    ∙ ap (due ([] ∷ lists)) next
    ∙ c.in_err-first-in-Some.ensures.refused (grind (arith, common_steps, e, c.from_residual-in_err-first-in-Some.ensures)) ([] ∷ lists)
    (omega (arith, room, c.if-levels-eq0.false))

pub list_from-returns-in-None-clause-refused : goal.list_from-returns-in-None-clause-refused
list_from-returns-in-None-clause-refused t c =
    let next = next_none c.in_ok-next.field-0 c.args.lexer.now c.next.new.self c.in-None.is c.in_ok-next.ensures.ok in
    λ _ lists room.
    opens lists c.args.lexer.now (omega (arith, room, c.if-levels-eq0.false))
    ∙ ap (due ([] ∷ lists)) next ∙ none_left ([] ∷ lists)

pub list_from-returns-in_ok-first-in-Some-clause-ok : goal.list_from-returns-in_ok-first-in-Some-clause-ok
list_from-returns-in_ok-first-in-Some-clause-ok t c =
    let next = next_some c.in_ok-next.field-0 c.in-Some.first c.args.lexer.now c.next.new.self c.in-Some.is c.in_ok-next.ensures.ok in
    IfOk-weaker c.further_items.result _ _
    (λ v is lists room.
    opens lists c.args.lexer.now (omega (arith, room, c.if-levels-eq0.false))
    ∙ ap (due ([] ∷ lists)) next
    ∙ c.in_ok-first-in-Some.ensures.ok ([] ∷ lists) (omega (arith, room, c.if-levels-eq0.false))
    ∙ behind_item c.in_ok-first-in-Some.first [] lists c.value_from.new.lexer
    ∙ is lists (omega (arith, room, c.if-levels-eq0.false)))
    c.further_items.ensures.ok

pub list_from-returns-in_ok-first-in-Some-clause-refused : goal.list_from-returns-in_ok-first-in-Some-clause-refused
list_from-returns-in_ok-first-in-Some-clause-refused t c =
    let next = next_some c.in_ok-next.field-0 c.in-Some.first c.args.lexer.now c.next.new.self c.in-Some.is c.in_ok-next.ensures.ok in
    λ e lists room.
    opens lists c.args.lexer.now (omega (arith, room, c.if-levels-eq0.false))
    ∙ ap (due ([] ∷ lists)) next
    ∙ c.in_ok-first-in-Some.ensures.ok ([] ∷ lists) (omega (arith, room, c.if-levels-eq0.false))
    ∙ behind_item c.in_ok-first-in-Some.first [] lists c.value_from.new.lexer
    ∙ c.further_items.ensures.refused e lists (omega (arith, room, c.if-levels-eq0.false))

pub next_value-returns-then-is_close-clause-refused : goal.next_value-returns-then-is_close-clause-refused
next_value-returns-then-is_close-clause-refused t c =
    let next = next_some c.in_ok-next.field-0 c.in-Some.first c.args.lexer.now c.next.new.self c.in-Some.is c.in_ok-next.ensures.ok in
    let close = close_of c.in-Some.first (sym c.is_close.ensures ∙ c.if-is_close.true) in
    λ _ lists item room. ap (due lists) (next ∙ ap (λ u. u ∷ c.next.new.self) close) ∙ none_closed lists c.next.new.self item

pub next_value-returns-in-None-clause-refused : goal.next_value-returns-in-None-clause-refused
next_value-returns-in-None-clause-refused t c =
    let next = next_none c.in_ok-next.field-0 c.args.lexer.now c.next.new.self c.in-None.is c.in_ok-next.ensures.ok in
    λ _ lists item room. ap (due lists) next ∙ none_left lists

pub value_from-returns-in-Some-clause-ok : goal.value_from-returns-in-Some-clause-ok
value_from-returns-in-Some-clause-ok t c =
    λ lists room.
    alone lists c.args.first c.args.lexer.now (sym c.is_open.ensures ∙ c.if-is_open.false) c.requires
    ∙ ap (option_and_then (λ v. behind v lists c.args.lexer.now)) (sym c.single.ensures ∙ c.in-Some.is)

pub value_from-returns-in-None-clause-refused : goal.value_from-returns-in-None-clause-refused
value_from-returns-in-None-clause-refused t c =
    λ _ lists room.
    alone lists c.args.first c.args.lexer.now (sym c.is_open.ensures ∙ c.if-is_open.false) c.requires
    ∙ ap (option_and_then (λ v. behind v lists c.args.lexer.now)) (sym c.single.ensures ∙ c.in-None.is)
