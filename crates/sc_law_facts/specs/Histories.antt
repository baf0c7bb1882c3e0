-- What a history stands for: stories of SCXML 3.10.
use Rattle.std.specs.Prelude.{List, [], ◌∷◌}
use Rattle.sc_types.specs.declared.chart.Chart.{Chart}
use Rattle.sc_law_facts.specs.ChartWords.{◌&◌, atomic, chart, deep_history, history, mark, on, onentry, onexit, parallel, state}
use Rattle.sc_law_facts.specs.Stories.{Story, story}
use Rattle.sc_law_facts.specs.TurnWords.{◌also◌, ◌then◌, begins, marks, receives, records, rests}

abbrev with_default : Chart
with_default =
    let s = state "s" (history "h" "b" (mark "default") & state "a" (on "e" "h" & on "out" "o") & atomic "b") in
    chart (state "o" (on "in" "h" & on "go" "a") & s)

-- Without a record a history stands for its default, whose content runs.
abbrev pub default_of_history : Story
default_of_history = story with_default (
    begins (rests "o")
    then receives "in" (rests "s b" also marks "default"))

-- With a record it stands for that, and no default content runs.
abbrev pub record_of_history : Story
record_of_history = story with_default (
    begins (rests "o")
    then receives "go" (rests "s a")
    then receives "out" (rests "o" also records "h" "a")
    then receives "in" (rests "s a"))

-- Taken from within its parent, which is not exited, it has no record and stands for its default. The content runs
-- where the parent is entered (Appendix D, enterStates), so not here.
abbrev pub default_from_within : Story
default_from_within = story with_default (
    begins (rests "o")
    then receives "go" (rests "s a")
    then receives "e" (rests "s b"))

abbrev two_histories : Chart
two_histories =
    let hs = history "hs" "r1 r2" [] in
    let hd = deep_history "hd" "a1 b1" in
    let r1 = state "r1" (state "a1" (on "e" "a2") & atomic "a2") in
    let r2 = state "r2" (atomic "b1" & atomic "b2") in
    chart (parallel "p" (hs & hd & on "out" "o" & r1 & r2) & state "o" (on "s" "hs" & on "d" "hd"))

-- A shallow history records the children of its parent, and they are entered by default.
abbrev pub shallow_record : Story
shallow_record = story two_histories (
    begins (rests "p r1 a1 r2 b1")
    then receives "e" (rests "p r1 a2 r2 b1")
    then receives "out" (rests "o" also records "hs" "r1 r2" also records "hd" "a2 b1")
    then receives "s" (rests "p r1 a1 r2 b1"))

-- A deep history records the atomic states, and these are entered.
abbrev pub deep_record : Story
deep_record = story two_histories (
    begins (rests "p r1 a1 r2 b1")
    then receives "e" (rests "p r1 a2 r2 b1")
    then receives "out" (rests "o" also records "hs" "r1 r2" also records "hd" "a2 b1")
    then receives "d" (rests "p r1 a2 r2 b1"))

abbrev recalled_from_within : Chart
recalled_from_within =
    let a = state "a" (on "e" "h" & onexit (mark "-a")) in
    let r = state "r" (onentry (mark "+r") & onexit (mark "-r") & a) in
    chart (parallel "p" (deep_history "h" "r" & on "g" "h" & r))

-- Appendix D, getTransitionDomain: the states that are exited go by what the history stands for before the exit. Here
-- that is its default, `r`, so all of the parallel is exited; the exit records `a`, which is what is entered.
abbrev pub domain_before_exit : Story
domain_before_exit = story recalled_from_within (
    begins (rests "p r a" also marks "+r")
    then receives "e" (records "h" "a" also marks "-a -r +r"))

-- 3.13: a transition of the parallel itself to its history exits the parallel, since only a compound source can stay.
abbrev pub parallel_recalls_itself : Story
parallel_recalls_itself = story recalled_from_within (
    begins (rests "p r a" also marks "+r")
    then receives "g" (records "h" "a" also marks "-a -r +r"))

-- all of these
abbrev pub histories : List Story
histories = default_of_history ∷ record_of_history ∷ default_from_within ∷ shallow_record ∷ deep_record
    ∷ domain_before_exit ∷ parallel_recalls_itself ∷ []
