-- What executable content leaves as it is.
use Rattle.std.proofs.Common.{◌≡◌, ℕ, ◌+◌, pos, Bool, true, false, cond, Option, Some, None, List, [], ◌∷◌, map, refl}
use Rattle.std.specs.List.{AllByRecursion as AllOf}
use Rattle.std.specs.Option.{option_map_or}
use Rattle.sc_types.specs.declared.attribute.Attribute.{Attribute}
use Rattle.sc_types.specs.declared.attribute.Attribute.TheVariants as attribute
use Rattle.sc_types.specs.declared.chart.Node.{Node, Node', Row_of-Node, end_of-Node, more_of-Node}
use Rattle.sc_types.specs.declared.chart.Tag.{Tag}
use Rattle.sc_types.specs.declared.chart.Tag.TheVariants as tag
use Rattle.sc_types.specs.declared.expr.Expr.{Expr}
use Rattle.sc_types.specs.declared.value.Value.{Value}
use Rattle.sc_types.specs.declared.value.Value.TheVariants.{Int, Text}
use Rattle.sc_types.specs.Attributes.{Members, code_in, text_in}
use Rattle.sc_law.specs.Nodes.{kids}
use Rattle.sc_law.specs.Runs.{Env, Running, failed, with_env}
use Rattle.sc_law.specs.Evaluation.{items_of, text_of, value}
use Rattle.sc_law.specs.Data.{declare}
use Rattle.sc_law.specs.Outcomes.{Outcome, done, faulty, holds, needs, on_done, write}
use Rattle.sc_law.specs.Content.{Branch, Part, assign, cancel, cancel_send, choice, cut, cut_at, declared, each_item, ended, exec, first_branch, for_each, is_else, log, over_items, part, parts, put_log, raise, run_block, run_blocks, run_element, run_parts, shown, text_or_none, with_name}
use Rattle.sc_law_theorems.proofs.Turns.Keeps.{Keeps, Moves, Stays, code-keeps, each-moves, env-declare, env-same, holds-keeps, keeps-env, keeps-failed, keeps-same, keeps-then, needs-code, needs-keeps, on-done, write-stays}
use Rattle.sc_law_theorems.proofs.Turns.Sending.{send-stays}

-- an element that keeps what content keeps
abbrev IsCalm : Part → Type 0
IsCalm p = Stays p.runs

abbrev AreCalm : List Branch → Type 0
AreCalm bs = AllOf (λ (b : Branch). AllOf IsCalm b.1) bs

-- ---- single elements

raise-stays : (m : Members) → Stays (raise m)
raise-stays m r = record { env = env-same r.env; entered = refl; invokes = refl; todo = refl }

put-log : (m : Members) (v : Value) → Stays (put_log m v)
put-log m v r = record { env = env-same r.env; entered = refl; invokes = refl; todo = refl }

log-stays : (m : Members) → Stays (log m)
log-stays m r = by (code_in attribute.Expr m) where
  by : (o : Option Expr)
      → Keeps r (option_map_or (λ e. needs (put_log m) (value e r.env) r) o (put_log m (Text []) r)).run
  by None = put-log m (Text []) r
  by (Some e) = needs-keeps (put_log m) (value e r.env) r (λ v. put-log m v r)

assign-stays : (m : Members) → Stays (assign m)
assign-stays m =
    needs-code attribute.Expr m (write (text_or_none attribute.Location m))
    (write-stays (text_or_none attribute.Location m))

cancel-send : (o : Option (List ℕ)) → Stays (cancel_send o)
cancel-send None r = keeps-same r
cancel-send (Some sendid) r = record { env = env-same r.env; entered = refl; invokes = refl; todo = refl }

cancel-stays : (m : Members) → Stays (cancel m)
cancel-stays m r = by (text_in attribute.SendId m) where
  by : (o : Option (List ℕ)) → Keeps r (option_map_or (λ sendid. cancel_send (Some sendid) r) o
      (option_map_or (λ e. needs (λ v. cancel_send (text_of v)) (value e r.env) r) (code_in attribute.SendIdExpr m)
      (faulty r))).run
  by None = code-keeps (λ v. cancel_send (text_of v)) (code_in attribute.SendIdExpr m) r
      (λ v. cancel-send (text_of v) r)
  by (Some sendid) = cancel-send (Some sendid) r

-- ---- lists of elements

parts-stay : (ps : List Part) → AllOf IsCalm ps → Stays (run_parts ps)
parts-stay [] calm r = keeps-same r
parts-stay (p ∷ ps) calm r = on-done (run_parts ps) r (p.runs r) (parts-stay ps calm.1) (calm.0 r)

-- what stands before the first `elseif` or `else`, and the branches
abbrev IsCalmCut : List Part × List Branch → Type 0
IsCalmCut rest = AllOf IsCalm rest.0 × AreCalm rest.1

cut-calm : (p : Part) (rest : List Part × List Branch) → IsCalm p → IsCalmCut rest → IsCalmCut (cut_at p rest)
cut-calm p rest calm all = by (is_else p.tag) where
  by : (v : Bool)
      → IsCalmCut (cond v ([], (code_in attribute.Cond p.members, rest.0) ∷ rest.1) (p ∷ rest.0, rest.1))
  by true = (tt, (all.0, all.1))
  by false = ((calm, all.0), all.1)

cut-parts : (ps : List Part) → AllOf IsCalm ps → IsCalmCut (cut ps)
cut-parts [] calm = (tt, tt)
cut-parts (p ∷ ps) calm = cut-calm p (cut ps) calm.0 (cut-parts ps calm.1)

branches-stay : (bs : List Branch) → AreCalm bs → Stays (first_branch bs)
branches-stay [] calm r = keeps-same r
branches-stay (b ∷ bs) calm r =
    keeps-then r (holds b.0 r).1 (first_branch (b ∷ bs) r).run (holds-keeps b.0 r)
    (by (holds b.0 r).0 (branches-stay bs calm.1)) where
      by : (v : Bool) → Stays (first_branch bs)
          → Keeps (holds b.0 r).1 ((cond v (run_parts b.1) (first_branch bs)) (holds b.0 r).1).run
      by true rest = parts-stay b.1 calm.0 (holds b.0 r).1
      by false rest = rest (holds b.0 r).1

choice-stays : (m : Members) (ps : List Part) → AllOf IsCalm ps → Stays (choice m ps)
choice-stays m ps calm =
    let rest = cut-parts ps calm in
    branches-stay ((code_in attribute.Cond m, (cut ps).0) ∷ (cut ps).1) (rest.0, rest.1)

-- ---- foreach

with-name : (f : List ℕ → Running → Outcome) (a : Attribute) (m : Members) → ((name : List ℕ) → Stays (f name))
    → Stays (with_name f a m)
with-name f a m h r = by (text_in a m) where
  by : (o : Option (List ℕ)) → Keeps r (option_map_or (λ name. f name r) o (done r)).run
  by None = keeps-same r
  by (Some name) = h name r

declared-stays : (name : List ℕ) → Stays (declared name)
declared-stays name r = by (declare name r.env) refl where
  by : (o : Option Env) → declare name r.env ≡ o
      → Keeps r (option_map_or (λ env. done (with_env env r)) o (faulty r)).run
  by None e = keeps-same r
  by (Some env) e = keeps-env r env (env-declare name r.env env e)

abbrev index_set : Members → ℕ → Running → Outcome
index_set m place r = with_name (λ name. write name (Int (pos place))) attribute.Index m r

abbrev item_set : Members → Value → Running → Outcome
item_set m v r = with_name (λ name. write name v) attribute.Item m r

items-stay : (m : Members) (ps : List Part) (place : ℕ) (vs : List Value) → AllOf IsCalm ps
    → Stays (each_item m ps place vs)
items-stay m ps place [] calm r = keeps-same r
items-stay m ps place (v ∷ vs) calm r =
    on-done (each_item m ps (place + 1) vs) r (on_done (run_parts ps) (on_done (index_set m place) (item_set m v r)))
    (items-stay m ps (place + 1) vs calm)
    (on-done (run_parts ps) r (on_done (index_set m place) (item_set m v r)) (parts-stay ps calm)
    (on-done (index_set m place) r (item_set m v r)
    (with-name (λ name. write name (Int (pos place))) attribute.Index m (λ name. write-stays name (Int (pos place))))
    (with-name (λ name. write name v) attribute.Item m (λ name. write-stays name v) r)))

over-items : (m : Members) (ps : List Part) (o : Option (List Value)) → AllOf IsCalm ps → Stays (over_items m ps o)
over-items m ps None calm r = keeps-same r
over-items m ps (Some items) calm r =
    on-done (each_item m ps 0 items) r
    (on_done (with_name declared attribute.Index m) (with_name declared attribute.Item m r))
    (items-stay m ps 0 items calm)
    (on-done (with_name declared attribute.Index m) r (with_name declared attribute.Item m r)
    (with-name declared attribute.Index m declared-stays) (with-name declared attribute.Item m declared-stays r))

for-each : (m : Members) (ps : List Part) → AllOf IsCalm ps → Stays (for_each m ps)
for-each m ps calm =
    needs-code attribute.Array m (λ v. over_items m ps (items_of v)) (λ v. over-items m ps (items_of v) calm)

-- ---- an element and those below it

element-stays : (t : Tag) (m : Members) (ps : List Part) → AllOf IsCalm ps → Stays (run_element t m ps)
element-stays tag.Raise m ps calm r = raise-stays m r
element-stays tag.If m ps calm r = choice-stays m ps calm r
element-stays tag.ForEach m ps calm r = for-each m ps calm r
element-stays tag.Log m ps calm r = log-stays m r
element-stays tag.Assign m ps calm r = assign-stays m r
element-stays tag.Send m ps calm r = send-stays m (map shown ps) r
element-stays tag.Cancel m ps calm r = cancel-stays m r
element-stays t m ps calm r = keeps-same r

mutual
  unfolding part

  part-calm : (n : Node) → IsCalm (part n)
  part-calm (Node' tag members shape row) = element-stays tag members (parts row) (parts-calm row)

  parts-calm : {m : _} (row : Row_of-Node m) → AllOf IsCalm (parts row)
  parts-calm end_of-Node = tt
  parts-calm (more_of-Node n rest) = (part-calm n, parts-calm rest)

all-calm : (ns : List Node) → AllOf IsCalm (map part ns)
all-calm [] = tt
all-calm (n ∷ ns) = (part-calm n, all-calm ns)

exec-stays : (ns : List Node) → Stays (exec ns)
unfolding exec
exec-stays ns r = parts-stay (map part ns) (all-calm ns) r

ended-keeps : (r : Running) (o : Outcome) → Keeps r o.run → Keeps r (ended o)
ended-keeps r o h = by o.fault where
  by : (fault : Option (List ℕ)) → Keeps r (option_map_or (λ sendid. failed sendid o.run) fault o.run)
  by None = h
  by (Some sendid) = keeps-then r o.run (failed sendid o.run) h (keeps-failed sendid o.run)

-- a block of content
pub block-moves : (ns : List Node) → Moves (run_block ns)
unfolding run_block
block-moves ns r = ended-keeps r (exec ns r) (exec-stays ns r)

-- blocks of content
pub blocks-move : (ns : List Node) → Moves (run_blocks ns)
blocks-move ns = each-moves (λ n. run_block (kids n)) ns (λ n. block-moves (kids n))
