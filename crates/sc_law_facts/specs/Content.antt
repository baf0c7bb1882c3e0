-- Data and executable content: stories of SCXML 4, 5.2 to 5.4 and 5.9.
use Rattle.std.specs.Prelude.{List, [], ◌∷◌, true, false}
use Rattle.sc_types.specs.declared.attribute.Attribute.TheVariants as attribute
use Rattle.sc_law_facts.specs.ChartWords.{◌&◌, assign, atomic, chart, chart_with, code, datamodel, foreach, log, log_as, mark, on, on_do, onentry, onexit, or_when, otherwise, plain, state, target, transition, event, unset_var, var, when, initially}
use Rattle.sc_law_facts.specs.Stories.{Story, story, story_with}
use Rattle.sc_law_facts.specs.TurnWords.{◌also◌, ◌then◌, begins, declares, is_cancelled, keeps, logs_as, marks, pair, platform, receives, rests, sees, sets}
use Rattle.sc_law_facts.specs.ValueWords.{◌less◌, ◌plus◌, ◌times◌, active, bool, boolean, datum, int, item, list, minus, negative, number, row, string, text}

-- 5.4: assignments by events.
abbrev pub counting : Story
counting =
    let inc = on_do "inc" (assign "n" (datum "n" plus int 1)) in
    story (chart (datamodel (var "n" (int 0)) & state "a" inc)) (
    begins (rests "a" also sets "n" (number 0))
    then receives "inc" (sets "n" (number 1))
    then receives "inc" (sets "n" (number 2)))

-- 3.12.2 and 4.1: a sum past the greatest number is a fault, which stops the rest of its block alone, and is told.
abbrev pub fault_stops_its_block : Story
fault_stops_its_block =
    let too_much = assign "y" (int 9223372036854775807 plus int 1) in
    let blocks = onentry (assign "x" (int 1) & too_much & assign "z" (int 3)) & onentry (mark "next") in
    let told = on_do "error.execution" (assign "n" (datum "n" plus int 1)) in
    let zeros = var "x" (int 0) & var "y" (int 0) & var "z" (int 0) & var "n" (int 0) in
    story (chart (datamodel zeros & state "a" (blocks & told))) (
    begins (rests "a" also sets "x" (number 1) also sets "y" (number 0) also sets "z" (number 0)
    also sets "n" (number 1) also sees (platform "error.execution") also marks "next"))

-- 4.3 to 4.5: the first branch whose condition holds runs, and none where there is no such one and no `<else>`. A state
-- is active while its `<onentry>` runs.
abbrev pub branches : Story
branches =
    let others = or_when (active "a") & mark "two" & or_when (bool true) & mark "three" in
    let first = when (bool false) (mark "one" & others) in
    let last = when (active "b") (mark "four" & otherwise & mark "five") in
    let none = when (active "b") (mark "six" & or_when (bool false) & mark "seven") in
    story (chart (state "a" (onentry (first & last & none)) & atomic "b")) (
    begins (rests "a" also marks "two five"))

-- 4.6: a loop over the empty list declares its names; one over no list does not; a name that is the platform's is a
-- fault after the item was declared.
abbrev pub loops_over_nothing : Story
loops_over_nothing =
    let item_of = plain attribute.Item in
    let index = plain attribute.Index in
    let over = code attribute.Array in
    let empty = foreach (over (row []) & index "k" & item_of "i") [] in
    let no_list = foreach (over (int 5) & item_of "j") [] in
    let reserved = foreach (over (row (int 1 ∷ [])) & index "_x" & item_of "q") [] in
    story (chart (state "a" (onentry empty & onentry no_list & onentry (reserved & mark "no")))) (
    begins (rests "a" also declares "i" also declares "k" also declares "q" also sees (platform "error.execution")))

-- 5.3: data that were passed take the place of `expr`, of two of a name the last one; one that is of no `<data>` of the
-- document is left out.
abbrev pub passed_data : Story
passed_data =
    let passed = pair "n" (number 3) & pair "zz" (number 1) & pair "n" (number 4) in
    story_with passed (chart (datamodel (var "n" (datum "nope") & var "m" (datum "n")) & atomic "a")) (
    begins (rests "a" also sets "n" (number 4) also sets "m" (number 4)))

-- 5.2 and 5.3: under early binding the data of all states are initialised at the start, in document order. A datum
-- whose `expr` has no value is unset: `t` looks at `l` too early, and `n` is too great. A transition of a state to
-- itself exits it before its content runs; a fault of the last `<onexit>` stays in the queue.
abbrev pub early_data : Story
early_data =
    let own = var "m" (minus (int 1)) & var "k" (int 9223372036854775807) & var "t" (item (datum "l") (int 0)) in
    let here = datamodel (var "l" (row (text "e" ∷ int 6 ∷ []))) in
    let blocks = onexit (log (datum "n" less int 7)) & onentry (mark "+here") & onexit (mark "-here") in
    let again = transition (event "g" & target "here") (log_as "l" (datum "l") & assign "l" (row [])) in
    let far = state "far" (datamodel (var "n" (datum "k" times datum "k") & var "b" (bool false))) in
    story (chart_with (initially "here") (datamodel own & far & state "here" (here & blocks & again))) (
    begins (rests "here" also sets "m" (negative 1) also sets "k" (number 9223372036854775807) also declares "t"
    also declares "n" also sets "b" (boolean false) also sets "l" (list (string "e" ∷ number 6 ∷ []))
    also sees (platform "error.execution") also marks "+here")
    then receives "g" (sets "l" (list []) also sees (platform "error.execution") also marks "-here"
    also logs_as "l" (list (string "e" ∷ number 6 ∷ [])) also marks "+here")
    then is_cancelled (keeps (platform "error.execution") also marks "-here"))

-- 5.3: under late binding those of a state are initialised when it is entered first, and it is active then. Before that
-- they are unset, as is a `<data>` without `expr`.
abbrev pub late_data : Story
late_data =
    let b = state "b" (datamodel (var "m" (active "b") & var "k" (active "a"))) in
    story (chart_with (plain attribute.Binding "late") (datamodel (unset_var "u") & state "a" (on "e" "b") & b)) (
    begins (rests "a" also declares "u" also declares "m" also declares "k")
    then receives "e" (rests "b" also sets "m" (boolean true) also sets "k" (boolean false)))

-- all of these
abbrev pub contents : List Story
contents = counting ∷ fault_stops_its_block ∷ branches ∷ loops_over_nothing ∷ passed_data ∷ early_data ∷ late_data ∷ []
