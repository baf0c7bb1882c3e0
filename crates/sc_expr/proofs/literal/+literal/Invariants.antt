use Rattle.std.proofs.Common.{◌≡◌, ◌≤◌, ◌<◌, ◌+◌, ◌*◌, ◌∷◌, [], suc, length}
use Rattle.sc_types.specs.Values.{Open}
use Rattle.sc_expr.specs.Literals.{after_items}
use Rattle.sc_expr.proofs.literal.+literal.Given as goal

abbrev pub decreases-further_items : goal.decreases-further_items
decreases-further_items l = 4 * l.levels + 3

abbrev pub decreases-next_value : goal.decreases-next_value
decreases-next_value l = 4 * l.levels + 2

abbrev pub decreases-value_from : goal.decreases-value_from
decreases-value_from l = 4 * l.levels + 1

abbrev pub decreases-list_from : goal.decreases-list_from
decreases-list_from l = 4 * l.levels

abbrev pub invariant-further_items-loop-items : goal.invariant-further_items-loop-items
invariant-further_items-loop-items l = (0 < length l.items) × ((length l.lexer ≤ length l.initial.lexer)
    × ((lists : Open) → suc (length lists) + l.fn.levels ≡ 8
    → after_items l.items lists l.lexer ≡ after_items (l.fn.first ∷ []) lists l.initial.lexer))

abbrev pub decreases-further_items-loop-items : goal.decreases-further_items-loop-items
decreases-further_items-loop-items l = length l.lexer
