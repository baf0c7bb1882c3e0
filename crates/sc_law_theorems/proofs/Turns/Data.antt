-- Data keep what content keeps, and at the start each datum of a legal chart is declared.
use Rattle.std.proofs.Common.{◌≡◌, ℕ, cond, Option, Some, None, Ok, Err, List, [], refl}
use Rattle.std.specs.Option.{option_map_or}
use Rattle.sc_base.specs.Folds.{each}
use Rattle.sc_types.specs.declared.attribute.Attribute.TheVariants as attribute
use Rattle.sc_types.specs.declared.chart.Chart.{Chart}
use Rattle.sc_types.specs.declared.chart.Node.{Node}
use Rattle.sc_types.specs.declared.expr.Expr.{Expr}
use Rattle.sc_types.specs.declared.value.Value.{Value}
use Rattle.sc_types.specs.Attributes.{code_at}
use Rattle.sc_law.specs.Nodes.{Path, element, is_root, parent}
use Rattle.sc_law.specs.Runs.{Env, Running, failed, with_env}
use Rattle.sc_law.specs.Evaluation.{Evaluated, last_pair, value}
use Rattle.sc_law.specs.Data.{begin_datum, data_paths, declare, declare_datum, first_data, initial_value, initialise, is_late, own_id, put, put_initial}
use Rattle.sc_law_theorems.proofs.Turns.Keeps.{Keeps, Moves, each-moves, env-declare, env-put, keeps-cond, keeps-env, keeps-failed, keeps-same, keeps-then}

put-moves : (name : List ℕ) (v : Option Value) (r : Running) → Keeps r (with_env (put name v r.env) r)
put-moves name v r = keeps-env r (put name v r.env) (env-put name v r.env)

put-initial : (name : List ℕ) (ev : Evaluated) (r : Running) → Keeps r (put_initial name ev r)
put-initial name (Ok v) r = put-moves name (Some v) r
put-initial name (Err fault) r =
    keeps-then r (failed [] r) (with_env (put name None r.env) (failed [] r)) (keeps-failed [] r)
    (put-moves name None (failed [] r))

initial-value : (n : Node) → Moves (initial_value n)
initial-value n r = by (code_at attribute.Expr n) where
  by : (o : Option Expr)
      → Keeps r (option_map_or (λ e. put_initial (own_id n) (value e r.env) r) o
      (with_env (put (own_id n) None r.env) r))
  by None = put-moves (own_id n) None r
  by (Some e) = put-initial (own_id n) (value e r.env) r

-- a datum gets its first value
pub initialise-moves : (params : List (List ℕ × Value)) (n : Node) → Moves (initialise params n)
initialise-moves params n r = by (last_pair (own_id n) params) where
  by : (o : Option Value)
      → Keeps r (option_map_or (λ v. with_env (put (own_id n) (Some v) r.env) r) o (initial_value n r))
  by None = initial-value n r
  by (Some v) = put-moves (own_id n) (Some v) r

-- a datum is declared
pub declare-moves : (n : Node) → Moves (declare_datum n)
declare-moves n r = by (declare (own_id n) r.env) refl where
  by : (o : Option Env) → declare (own_id n) r.env ≡ o → Keeps r (option_map_or (λ env. with_env env r) o r)
  by None e = keeps-same r
  by (Some env) e = keeps-env r env (env-declare (own_id n) r.env env e)

begin-moves : (c : Chart) (params : List (List ℕ × Value)) (path : Path) → Moves (begin_datum c params path)
begin-moves c params path r =
    keeps-cond (is_root (parent (parent path))) (initialise params (element c path))
    (cond (is_late c) (λ same. same) (initialise [] (element c path))) r
    (initialise-moves params (element c path) r)
    (keeps-cond (is_late c) (λ same. same) (initialise [] (element c path)) r (keeps-same r)
    (initialise-moves [] (element c path) r))

-- all data are declared, unset
abbrev pub declared_all : Chart → Running → Running
declared_all c r = each (λ path. declare_datum (element c path)) (data_paths c) r

declared-moves : (c : Chart) → Moves (declared_all c)
declared-moves c =
    each-moves (λ path. declare_datum (element c path)) (data_paths c) (λ path. declare-moves (element c path))

-- the data get their first values
pub begun-moves : (c : Chart) (params : List (List ℕ × Value)) → Moves (each (begin_datum c params) (data_paths c))
begun-moves c params = each-moves (begin_datum c params) (data_paths c) (begin-moves c params)

-- the data at the start of a session
pub first-moves : (c : Chart) (params : List (List ℕ × Value)) → Moves (first_data c params)
unfolding first_data
first-moves c params r =
    keeps-then r (declared_all c r) (each (begin_datum c params) (data_paths c) (declared_all c r))
    (declared-moves c r) (begun-moves c params (declared_all c r))
