use Rattle.std.proofs.Common.{◌≡◌, ◌+◌, ◌*◌, ◌≤◌, nat_lt, map, length, Some}
use Rattle.sc_types.specs.Expressions.{depth, deepest}
use Rattle.sc_expr.specs.Descent.{indexed_from, prefixed, postfix, all_prefixed, inside}
use Rattle.sc_expr.proofs.ClimbLemmas.{Climbs, rising}
use Rattle.sc_expr.proofs.LevelLemmas.{Keeps}
use Rattle.sc_expr.proofs.reader.Reader.+descend.Given as goal

-- fewer brackets may be opened inside brackets; with the same number the descent goes inwards
abbrev pub decreases-loose : goal.decreases-loose
decreases-loose l = 16 * l.room + 9

abbrev pub decreases-prefixed : goal.decreases-prefixed
decreases-prefixed l = 16 * l.room + 8

abbrev pub decreases-postfix : goal.decreases-postfix
decreases-postfix l = 16 * l.room + 7

abbrev pub decreases-primary : goal.decreases-primary
decreases-primary l = 16 * l.room + 6

abbrev pub decreases-named : goal.decreases-named
decreases-named l = 16 * l.room + 5

abbrev pub decreases-bracketed : goal.decreases-bracketed
decreases-bracketed l = 16 * l.room + 4

abbrev pub decreases-list : goal.decreases-list
decreases-list l = 16 * l.room + 4

abbrev pub decreases-inside : goal.decreases-inside
decreases-inside l = 16 * l.room + 1

-- what is still to be read makes of what was read what the whole does of the start

abbrev pub invariant-loose-loop-op : goal.invariant-loose-loop-op
invariant-loose-loop-op l =
    Climbs l.room l.waiting l.closest l.loosest l.operand l.self (rising l.room 2 6 (l.initial.operand, l.initial.self))
    × (length l.self ≤ length l.initial.self) × (depth l.operand ≤ 256)

abbrev pub decreases-loose-loop-op : goal.decreases-loose-loop-op
decreases-loose-loop-op l = 2 * length l.self + length l.waiting

abbrev pub invariant-postfix-loop-alloc : goal.invariant-postfix-loop-alloc
invariant-postfix-loop-alloc l =
    (indexed_from (inside l.room) l.list l.self ≡ indexed_from (inside l.room) l.initial.list l.initial.self)
    × (length l.self ≤ length l.initial.self) × (depth l.list ≤ 256)

abbrev pub decreases-postfix-loop-alloc : goal.decreases-postfix-loop-alloc
decreases-postfix-loop-alloc l = length l.self

abbrev pub invariant-prefixed-loop-prefix : goal.invariant-prefixed-loop-prefix
invariant-prefixed-loop-prefix l =
    (all_prefixed l.prefixes (prefixed (postfix (nat_lt 0 l.room) (inside l.room)) l.self) ≡ prefixed (postfix (nat_lt 0 l.room) (inside l.room)) l.initial.self)
    × (length l.self ≤ length l.initial.self)

abbrev pub decreases-prefixed-loop-prefix : goal.decreases-prefixed-loop-prefix
decreases-prefixed-loop-prefix l = length l.self

abbrev pub invariant-prefixed-loop-prefix-2 : goal.invariant-prefixed-loop-prefix-2
invariant-prefixed-loop-prefix-2 l =
    (all_prefixed l.prefixes (Some (l.operand, l.self)) ≡ all_prefixed l.initial.prefixes (Some (l.initial.operand, l.initial.self)))
    × (l.self ≡ l.initial.self) × (depth l.operand ≤ 256)

abbrev pub decreases-prefixed-loop-prefix-2 : goal.decreases-prefixed-loop-prefix-2
decreases-prefixed-loop-prefix-2 l = length l.prefixes

abbrev pub invariant-list-loop-items : goal.invariant-list-loop-items
invariant-list-loop-items l =
    Keeps l.room l.initial.self l.items l.self
    × (l.deepest ≡ deepest (map depth l.items)) × (l.deepest ≤ 256)

abbrev pub decreases-list-loop-items : goal.decreases-list-loop-items
decreases-list-loop-items l = length l.self
