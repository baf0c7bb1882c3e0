-- The limit on the rounds of a turn, and how a session runs away: this host's own rule. A round takes eventless
-- transitions, an internal event, or the turn's external event.
use Rattle.std.specs.Prelude.{ℕ, List, [], ◌∷◌}
use Rattle.sc_types.specs.declared.chart.Chart.{Chart}
use Rattle.sc_law_facts.specs.ChartWords.{◌&◌, assign, chart_with, cond, datamodel, finalize, id, invoke, limit, log, mark, on_do, onexit, raise, src, state, transition, var}
use Rattle.sc_law_facts.specs.Stories.{Change, Story, story}
use Rattle.sc_law_facts.specs.TurnWords.{◌also◌, ◌then◌, begins, invokes, is_cancelled, keeps, logs_value, marks, outer, platform, raised, receives, rests, runs_away, sees, sets, takes, with_invokeid}
use Rattle.sc_law_facts.specs.ValueWords.{◌lt◌, ◌plus◌, datum, int, number}

-- a state that counts to that number by eventless transitions, with five rounds a turn
abbrev counts_to : ℕ → Chart
counts_to n =
    let step = log (datum "n") & assign "n" (datum "n" plus int 1) in
    let counting = transition (cond (datum "n" lt int n)) step in
    chart_with (limit "5") (datamodel (var "n" (int 0)) & state "a" (onexit (mark "-a") & counting))

abbrev counted : Change
counted = logs_value (number 0) also logs_value (number 1) also logs_value (number 2) also logs_value (number 3)
    also logs_value (number 4)

-- A run that comes to rest with its last round.
abbrev pub rests_within_its_limit : Story
rests_within_its_limit = story (counts_to 5) (
    begins (rests "a" also sets "n" (number 5) also counted)
    then is_cancelled (marks "-a"))

-- A run that needs one round more than its limit: it keeps what it did, and no `<onexit>` runs.
abbrev pub beyond_its_limit : Story
beyond_its_limit = story (counts_to 6) (
    begins (rests "a" also sets "n" (number 5) also counted also runs_away))

-- 5.9.1: a condition without a value is false, and its error is told. The next selection tells it again, and so it runs
-- away; the error of the last selection stays in the queue.
abbrev pub faulty_condition : Story
faulty_condition =
    let fault = sees (platform "error.execution") also keeps (platform "error.execution") in
    story (chart_with (limit "5") (state "a" (transition (cond (datum "nope")) (mark "no")))) (
    begins (rests "a" also fault also runs_away))

-- The same with a limit of one: the event of the one round is `_event`.
abbrev pub faulty_in_one_round : Story
faulty_in_one_round =
    let fault = sees (platform "error.execution") also keeps (platform "error.execution") in
    story (chart_with (limit "1") (state "a" (transition (cond (datum "nope")) []))) (
    begins (rests "a" also fault also runs_away))

-- An external event is a round: what it raises would be the second.
abbrev pub external_event_is_a_round : Story
external_event_is_a_round = story (chart_with (limit "1") (state "a" (on_do "e" (raise "x")))) (
    begins (rests "a")
    then receives "e" (keeps (raised "x") also runs_away))

-- It is one also where it enables nothing: the error of `<finalize>` would be the second.
abbrev pub idle_event_is_a_round : Story
idle_event_is_a_round =
    let faulty = finalize (assign "q" (int 1)) in
    let asked = invoke (id "i" & src "x") faulty in
    story (chart_with (limit "1") (state "a" (asked & on_do "x" []))) (
    begins (rests "a" also invokes "a" 0 "i" "s/1" "x" [])
    then takes (with_invokeid "i" (outer "z")) (keeps (platform "error.execution") also runs_away))

-- all of these
abbrev pub limits : List Story
limits = rests_within_its_limit ∷ beyond_its_limit ∷ faulty_condition ∷ faulty_in_one_round
    ∷ external_event_is_a_round ∷ idle_event_is_a_round ∷ []
