use Rattle.std.proofs.Common.{◌≡◌, ◌+◌, ◌-◌, ◌*◌, drop, length}
use Rattle.sc_chart_json.specs.Trees.{items_view}
use Rattle.sc_chart_json.specs.Walking.{AreReading}
use Rattle.sc_chart_json.proofs.reader.+element.Given as goal

-- a child element stands one level deeper
abbrev pub decreases-read_element : goal.decreases-read_element
decreases-read_element l = 2 * (41 - length l.walk.now.path)

abbrev pub decreases-read_kids : goal.decreases-read_kids
decreases-read_kids l = 2 * (40 - length l.walk.now.path) + 1

abbrev pub invariant-read_kids-loop-value : goal.invariant-read_kids-loop-value
invariant-read_kids-loop-value l =
    AreReading l.profile l.initial.walk l.walk (items_view l.values) (items_view (drop l.value-index l.values)) l.value-index l.kids × (l.place ≡ l.value-index)
