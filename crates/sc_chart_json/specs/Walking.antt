-- The walk of the reader over the elements: what it has found once it has passed some of them. Only contracts of
-- private functions cite this.
use Rattle.std.specs.Prelude.{ℕ, ◌≡◌, ◌<◌, ◌≤◌, ◌+◌, ◌-◌, Some, None, List, ◌++◌, length}
use Rattle.serde_json.specs.Data.{Data, Items}
use Rattle.sc_types.specs.ChartTexts.{Place, tag_at, kid_places, places, own_fault, states_at, first_fault, members_at, kid_trees, tree}
use Rattle.sc_types.specs.declared.chart.ChartFault.{ChartFault}
use Rattle.sc_types.specs.declared.chart.Node.{Node}
use Rattle.sc_types.specs.declared.profile.Profile.{Profile}
use Rattle.sc_expr.specs.Reading.{expr_of}
use Rattle.sc_types.specs.declared.limits.TheConstants.{LEVEL_LIMIT, STATE_LIMIT}
use Rattle.sc_chart_json.specs.declared.reader.Own.{Own}
use Rattle.sc_chart_json.specs.declared.reader.Walk.{Walk}

abbrev pub place : List ℕ → Data → Place
place path d = record { path = path; value = d }

-- the first fault, whatever stands behind these elements
abbrev pub Stops : Profile → ℕ → List Place → ChartFault → Type 0
Stops profile before ps f = (rest : List Place) → first_fault (expr_of profile) before (ps ++ rest) ≡ Some f

-- these elements have no fault, so that the first one is that of the elements behind them
abbrev pub Passes : Profile → ℕ → List Place → ℕ → Type 0
Passes profile before ps after =
    (rest : List Place) → first_fault (expr_of profile) before (ps ++ rest) ≡ first_fault (expr_of profile) after rest

-- how many levels an element at this path and those below it may have
abbrev pub levels_at : List ℕ → ℕ
levels_at path = LEVEL_LIMIT + 1 - length path

-- the element without its child elements was read
pub record IsOwn (profile : Profile) (old new : Walk) (d : Data) (own : Own) : Type 0 where
  pub none : own_fault (expr_of profile) old.states (place old.path d) ≡ None
  pub states : new.states ≡ old.states + states_at (place old.path d)
  pub tag : tag_at d ≡ Some own.tag
  pub members : own.members ≡ members_at (expr_of profile) own.tag d
  pub shallow : length old.path < LEVEL_LIMIT
  pub path : new.path ≡ old.path
  pub few : new.states ≤ STATE_LIMIT

-- the element was read with all below it
pub record IsRead (profile : Profile) (old new : Walk) (d : Data) (n : Node) : Type 0 where
  pub passes : Passes profile old.states (places (levels_at old.path) old.path d) new.states
  pub tree : n ≡ tree (expr_of profile) (levels_at old.path) d
  pub path : new.path ≡ old.path
  pub few : new.states ≤ STATE_LIMIT

-- the child elements of an element were read; it has one more level than they
pub record AreRead (profile : Profile) (old new : Walk) (ds : Items) (kids : List Node) : Type 0 where
  pub passes : Passes profile old.states (kid_places (places (LEVEL_LIMIT - length old.path)) old.path 0 ds) new.states
  pub trees : kids ≡ kid_trees (tree (expr_of profile) (LEVEL_LIMIT - length old.path)) ds
  pub path : new.path ≡ old.path
  pub few : new.states ≤ STATE_LIMIT

-- so far some of them were read, and these are the others
pub record AreReading (profile : Profile) (old new : Walk) (ds more : Items) (i : ℕ) (kids : List Node) : Type 0 where
  pub passes : (rest : List Place)
      → first_fault (expr_of profile) old.states
      (kid_places (places (LEVEL_LIMIT - length old.path)) old.path 0 ds ++ rest)
      ≡ first_fault (expr_of profile) new.states
      (kid_places (places (LEVEL_LIMIT - length old.path)) old.path i more ++ rest)
  pub trees : kids ++ kid_trees (tree (expr_of profile) (LEVEL_LIMIT - length old.path)) more
      ≡ kid_trees (tree (expr_of profile) (LEVEL_LIMIT - length old.path)) ds
  pub path : new.path ≡ old.path
  pub few : new.states ≤ STATE_LIMIT
