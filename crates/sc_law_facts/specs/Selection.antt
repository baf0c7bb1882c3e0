-- Which transitions a microstep takes: stories of SCXML 3.12 and 3.13, and of Appendix D, selectTransitions and
-- removeConflictingTransitions.
use Rattle.std.specs.Prelude.{List, [], ◌∷◌}
use Rattle.sc_types.specs.declared.chart.Chart.{Chart}
use Rattle.sc_law_facts.specs.ChartWords.{◌&◌, atomic, chart, cond, event, mark, of_type, on, on_do, onexit, parallel, state, target, transition}
use Rattle.sc_law_facts.specs.Stories.{Story, story}
use Rattle.sc_law_facts.specs.TurnWords.{◌also◌, ◌then◌, begins, marks, platform, receives, rests, sees, stays}
use Rattle.sc_law_facts.specs.ValueWords.{datum}

abbrev two_regions : Chart
two_regions =
    let r1 = state "r1" (state "a" (on "e" "x")) in
    let r2 = state "r2" (state "b" (on "e f" "c") & atomic "c") in
    chart (parallel "p" (on "f" "x" & r1 & r2) & atomic "x")

-- 3.13: in both regions `e` enables a transition. They conflict, since the first leaves the parallel. Neither source is
-- below the other, so the one that was selected earlier, in document order, is kept.
abbrev pub earlier_is_kept : Story
earlier_is_kept = story two_regions (
    begins (rests "p r1 a r2 b")
    then receives "e" (rests "x"))

-- 3.13: `f` enables the parallel's transition for the region of `a`, and that of `b`, whose source is below: it takes
-- the other's place. Once `b` is left, `f` leads out of the parallel.
abbrev pub descendant_takes_over : Story
descendant_takes_over = story two_regions (
    begins (rests "p r1 a r2 b")
    then receives "f" (rests "p r1 a r2 c")
    then receives "f" (rests "x"))

-- Appendix D, selectTransitions: each atomic state asks its ancestors, so the condition of `s` is evaluated once for
-- each region. It has no value either time: both errors are told, the last of them is `_event` at the end, and `e`
-- enables nothing.
abbrev pub asked_by_each_region : Story
asked_by_each_region =
    let regions = state "r1" (atomic "a") & state "r2" (atomic "b") in
    let faulty = transition (cond (datum "nope") & event "e" & target "t") [] in
    let c = chart (state "s" (parallel "p" regions & faulty & on_do "error.execution" (mark "told")) & atomic "t") in
    story c (
    begins (rests "s p r1 a r2 b")
    then receives "e" (sees (platform "error.execution") also marks "told told"))

abbrev inside_and_out : Chart
inside_and_out =
    let internal = transition (event "i" & target "a" & of_type "internal") [] in
    chart (state "s" (onexit (mark "-s") & internal & on "x" "a" & atomic "a" & atomic "b"))

-- 3.13: an internal transition to a state below its source does not exit the source.
abbrev pub internal_stays_inside : Story
internal_stays_inside = story inside_and_out (
    begins (rests "s a")
    then receives "i" stays)

-- 3.13: an external one exits its source and enters it again.
abbrev pub external_leaves_its_source : Story
external_leaves_its_source = story inside_and_out (
    begins (rests "s a")
    then receives "x" (marks "-s"))

-- 3.12.1: a descriptor matches the names that begin with its tokens, so `done.invoke` matches `done.invoke.i`, and `a`
-- does not match `ab`. An event that matches nothing changes `_event` alone.
abbrev pub matched_by_tokens : Story
matched_by_tokens = story (chart (state "s" (on "a g done.invoke" "t") & atomic "t")) (
    begins (rests "s")
    then receives "ab" stays
    then receives "done.invoke.i" (rests "t"))

-- all of these
abbrev pub selection : List Story
selection = earlier_is_kept ∷ descendant_takes_over ∷ asked_by_each_region ∷ internal_stays_inside
    ∷ external_leaves_its_source ∷ matched_by_tokens ∷ []
