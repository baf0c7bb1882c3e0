-- An environment as the definitions see it. This host's own rule.
use Rattle.std.specs.Prelude.{List, [], ◌∷◌, ℕ, ◌<◌}
use Rattle.std.specs.Arc.{arc_value}
use Rattle.sc_law.specs.Runs.{Env as PlainEnv}
use Rattle.sc_eval.specs.declared.env.Env.{Env}

abbrev pub env_of : Env → PlainEnv
env_of e = record {
  values = e.values;
  configuration = e.configuration.members;
  ids = arc_value e.ids;
  bound = e.bound;
  session = e.session;
  chart_name = e.chart_name;
  profile = e.profile;
}

-- each of these ids names a state below the width
abbrev pub AreWithin : ℕ → List (List ℕ × ℕ) → Type 0
AreWithin width [] = Unit {0}
AreWithin width (row ∷ rows) = (row.1 < width) × AreWithin width rows

-- the ids of an environment name states that its configuration can have
pub record HasIds (e : Env) : Type 0 where
  pub within : AreWithin e.configuration.width (arc_value e.ids)
