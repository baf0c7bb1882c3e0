-- A story is a chart with the turns that a session of it takes one after the other; a sum is an expression with its
-- value or fault. What is told was written from the SCXML Recommendation or computed by another program; that the
-- definitions give the same is what this crate proves.
use Rattle.std.specs.Prelude.{◌≡◌, ℕ, zero, suc, Bool, true, false, Some, List, [], ◌∷◌, Result, codes, flat_map, map, unwrap_or, ◌++◌}
use Rattle.sc_types.specs.Attributes.{text_at}
use Rattle.sc_types.specs.Elements.{is_numbered}
use Rattle.sc_types.specs.declared.attribute.Attribute.TheVariants as attribute
use Rattle.sc_types.specs.declared.chart.Chart.{Chart}
use Rattle.sc_types.specs.declared.chart.Node.{Node, out-Node}
use Rattle.sc_types.specs.declared.eval_fault.EvalFault.{EvalFault}
use Rattle.sc_types.specs.declared.expr.Expr.{Expr}
use Rattle.sc_types.specs.declared.session.Cue.{Cue}
use Rattle.sc_types.specs.declared.session.Cue.TheVariants.{Fresh, Resume, Cancel, External}
use Rattle.sc_types.specs.declared.session.How.TheVariants as how
use Rattle.sc_types.specs.declared.session.Phase.TheVariants as phase
use Rattle.sc_types.specs.declared.session.SessionState.{SessionState}
use Rattle.sc_types.specs.declared.value.Value.{Value}
use Rattle.sc_law.specs.Evaluation.{value}
use Rattle.sc_law.specs.Runs.{Env, fresh_state}
use Rattle.sc_law.specs.Turn.{TurnResult, turn}

-- the ids of states and histories in document order: a state's number is the place of its id
abbrev pub Names : Type 0
Names = List (List ℕ)

abbrev own_name : Bool → Node → Names
own_name true n = unwrap_or (text_at attribute.Id n) [] ∷ []
own_name false n = []

-- those of an element of at most so many levels
abbrev names_within : ℕ → Node → Names
names_within zero n = []
names_within (suc levels) n =
    own_name (is_numbered (out-Node n).tag) n ++ flat_map (names_within levels) (out-Node n).kids

abbrev names_of : Chart → Names
names_of c = names_within 8 c.root

-- what a turn changes, by the words of `TurnWords`
abbrev pub Change : Type 0
Change = Names → TurnResult → TurnResult

pub record Told : Type 0 where
  pub cue : Cue
  pub change : Change

pub record Story : Type 0 where
  pub chart : Chart
  pub start : SessionState
  pub turns : List Told

-- a story from the first turn of a session on, which was started with these data
abbrev pub story_with : List (List ℕ × Value) → Chart → List Told → Story
story_with params c turns = record { chart = c; start = fresh_state (codes "s") (codes "c") params; turns = turns }

abbrev pub story : Chart → List Told → Story
story = story_with []

abbrev unchanged : SessionState → TurnResult
unchanged s = record { after = s; effects = []; logs = [] }

abbrev running : SessionState
running = record (fresh_state (codes "s") (codes "c") []) { phase = phase.Running }

-- one of a session that was stepped before, and has come to this
abbrev pub story_from : Change → Chart → List Told → Story
story_from change c turns = record {
  chart = c;
  start = (change (names_of c) (unchanged running)).after;
  turns = turns;
}

-- what a turn gives where nothing is told of it: the session runs, or ends as the cue has it, and `_event` is the
-- event of the cue

abbrev cued : SessionState → Cue → SessionState
cued before Fresh = record before { phase = phase.Running }
cued before Resume = before
cued before Cancel = record before { phase = phase.Ended how.Cancelled; configuration = [] }
cued before (External e) = record before { bound = Some e }

abbrev told : Names → SessionState → Told → TurnResult
told names before t = t.change names (unchanged (cued before t.cue))

abbrev told_from : Names → SessionState → List Told → List TurnResult
told_from names before [] = []
told_from names before (t ∷ ts) = told names before t ∷ told_from names (told names before t).after ts

-- what the definitions give at each cue, the next one from the session as it is told to be left
abbrev given_from : Chart → Names → SessionState → List Told → List TurnResult
given_from c names before [] = []
given_from c names before (t ∷ ts) = turn c before t.cue ∷ given_from c names (told names before t).after ts

abbrev all_told : Story → List TurnResult
all_told s = told_from (names_of s.chart) s.start s.turns

abbrev all_given : Story → List TurnResult
all_given s = given_from s.chart (names_of s.chart) s.start s.turns

-- each turn of each story gives what is told of it
abbrev pub AreSo : List Story → Type 0
AreSo ss = map all_given ss ≡ map all_told ss

-- an expression, what it reads, and its value or fault
pub record Sum : Type 0 where
  pub expr : Expr
  pub env : Env
  pub result : Result Value EvalFault

abbrev pub AreRight : List Sum → Type 0
AreRight sums = map (λ (s : Sum). value s.expr s.env) sums ≡ map (λ (s : Sum). s.result) sums
