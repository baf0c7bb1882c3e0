-- What evaluation and content leave as it is: the sets of states and the invokes; and no datum gets lost or stands
-- twice.
use Rattle.std.proofs.Common.{◌≡◌, ◌||◌, Bool, true, false, cond, not, Option, Some, None, Ok, Err, option_and_then, ℕ, List, [], ◌∷◌, ◌++◌, map, refl, ap, sym, subst, ◌∙◌}
use Rattle.std.specs.List.{IsDistinct}
use Rattle.std.specs.List.{AllByRecursion as AllOf, list_any}
use Rattle.std.specs.Option.{option_map_or}
use Rattle.std.specs.Result.{result_ok}
use Rattle.std.specs.Str.{bytes_eq}
use Rattle.std.proofs.lemmas.List.Folds.{list_any-append}
use Rattle.sc_base.specs.Folds.{each}
use Rattle.sc_types.specs.declared.attribute.Attribute.{Attribute}
use Rattle.sc_types.specs.declared.effect.Effect.{Effect}
use Rattle.sc_types.specs.declared.event.Event.{Event}
use Rattle.sc_types.specs.declared.expr.Expr.{Expr}
use Rattle.sc_types.specs.declared.value.Value.{Value}
use Rattle.sc_types.specs.Attributes.{Members, code_in}
use Rattle.sc_law.specs.Runs.{Env, Running, enqueue, failed, with_effect, with_env}
use Rattle.sc_law.specs.Evaluation.{Evaluated, is_pair_named, truth_of, value}
use Rattle.sc_law.specs.Data.{declare, is_declared, is_reserved, put, put_pair, set}
use Rattle.sc_law.specs.Outcomes.{Outcome, done, faulty, goes_on, holds, judged, needs, needs_code, on_done, write}
use Rattle.sc_law_theorems.proofs.Turns.Lists.{distinct-push, neither}

-- data in the order of their declaration
abbrev pub Values : Type 0
Values = List (List ℕ × Option Value)

-- their names
abbrev pub names_in : Values → List (List ℕ)
names_in values = map (λ (pair : List ℕ × Option Value). pair.0) values

-- an environment f after e: the states that are active stay, and so does each datum that is declared
pub record KeepsEnv (e f : Env) : Type 0 where
  pub configuration : f.configuration ≡ e.configuration
  pub distinct : IsDistinct bytes_eq (names_in e.values) → IsDistinct bytes_eq (names_in f.values)
  pub declared : (name : List ℕ) → list_any (is_pair_named name) e.values ≡ true
      → list_any (is_pair_named name) f.values ≡ true

-- a run q after r
pub record Keeps (r q : Running) : Type 0 where
  pub env : KeepsEnv r.env q.env
  pub entered : q.entered ≡ r.entered
  pub invokes : q.invokes ≡ r.invokes
  pub todo : q.todo ≡ r.todo

-- a step that keeps these
abbrev pub Moves : (Running → Running) → Type 0
Moves f = (r : Running) → Keeps r (f r)

-- an element that keeps these, also where it fails
abbrev pub Stays : (Running → Outcome) → Type 0
Stays f = (r : Running) → Keeps r (f r).run

-- ---- one step after another

-- no step
pub env-same : (e : Env) → KeepsEnv e e
env-same e = record { configuration = refl; distinct = λ d. d; declared = λ name h. h }

-- two steps
pub env-then : (e f g : Env) → KeepsEnv e f → KeepsEnv f g → KeepsEnv e g
env-then e f g h k = record {
  configuration = k.configuration ∙ h.configuration;
  distinct = λ d. k.distinct (h.distinct d);
  declared = λ name i. k.declared name (h.declared name i);
}

-- no step of a run
pub keeps-same : (r : Running) → Keeps r r
keeps-same r = record { env = env-same r.env; entered = refl; invokes = refl; todo = refl }

-- two steps of a run
pub keeps-then : (r q p : Running) → Keeps r q → Keeps q p → Keeps r p
keeps-then r q p h k = record {
  env = env-then r.env q.env p.env h.env k.env;
  entered = k.entered ∙ h.entered;
  invokes = k.invokes ∙ h.invokes;
  todo = k.todo ∙ h.todo;
}

-- one of two steps
pub keeps-cond : (v : Bool) (f g : Running → Running) (r : Running) → Keeps r (f r) → Keeps r (g r)
    → Keeps r ((cond v f g) r)
keeps-cond true f g r h k = h
keeps-cond false f g r h k = k

-- one of two outcomes
pub keeps-either : (v : Bool) (a b : Outcome) (r : Running) → Keeps r a.run → Keeps r b.run → Keeps r (cond v a b).run
keeps-either true a b r h k = h
keeps-either false a b r h k = k

-- a step for each item
pub each-moves : {A : Type 0} (step : A → Running → Running) (xs : List A) → ((x : A) → Moves (step x))
    → Moves (each step xs)
each-moves step [] h r = keeps-same r
each-moves step (x ∷ xs) h r =
    keeps-then r (step x r) (each step xs (step x r)) (h x r) (each-moves step xs h (step x r))

-- ---- queue, effects and values

-- an event joins the queue
pub keeps-enqueue : (e : Event) → Moves (enqueue e)
keeps-enqueue e r = record { env = env-same r.env; entered = refl; invokes = refl; todo = refl }

-- so does an error
pub keeps-failed : (sendid : List ℕ) → Moves (failed sendid)
keeps-failed sendid r = record { env = env-same r.env; entered = refl; invokes = refl; todo = refl }

-- an effect is asked for
pub keeps-effect : (effect : Effect) → Moves (with_effect effect)
keeps-effect effect r = record { env = env-same r.env; entered = refl; invokes = refl; todo = refl }

-- a new environment
pub keeps-env : (r : Running) (env : Env) → KeepsEnv r.env env → Keeps r (with_env env r)
keeps-env r env h = record { env = h; entered = refl; invokes = refl; todo = refl }

names-put : (name : List ℕ) (v : Option Value) (values : Values)
    → names_in (map (put_pair name v) values) ≡ names_in values
names-put name v [] = refl
names-put name v (pair ∷ values) = ap (λ ns. pair.0 ∷ ns) (names-put name v values)

any-put : (wanted name : List ℕ) (v : Option Value) (values : Values)
    → list_any (is_pair_named wanted) (map (put_pair name v) values) ≡ list_any (is_pair_named wanted) values
any-put wanted name v [] = refl
any-put wanted name v (pair ∷ values) = ap (λ w. bytes_eq pair.0 wanted || w) (any-put wanted name v values)

-- a datum that is there is changed in place
pub env-put : (name : List ℕ) (v : Option Value) (e : Env) → KeepsEnv e (put name v e)
env-put name v e = record {
  configuration = refl;
  distinct = λ d. subst (IsDistinct bytes_eq) (sym (names-put name v e.values)) d;
  declared = λ wanted h. any-put wanted name v e.values ∙ h;
}

-- an assignment
pub env-set : (name : List ℕ) (v : Value) (e f : Env) → set name v e ≡ Some f → KeepsEnv e f
unfolding set
env-set name v e f h = by (is_reserved name || not (is_declared name e)) h where
  by : (w : Bool) → cond w None (Some (put name (Some v) e)) ≡ Some f → KeepsEnv e f
  by true h = absurd (cc)
  by false h = (let same : put name (Some v) e ≡ f = cc in subst (KeepsEnv e) same (env-put name (Some v) e))

-- with a datum more, unset
abbrev pub with_name_unset : List ℕ → Env → Env
with_name_unset name e = record e { values = e.values ++ (name, None) ∷ [] }

names-push : (name : List ℕ) (values : Values) → names_in (values ++ (name, None) ∷ []) ≡ names_in values ++ name ∷ []
names-push name [] = refl
names-push name (pair ∷ values) = ap (λ ns. pair.0 ∷ ns) (names-push name values)

none-named : (name : List ℕ) (values : Values) → list_any (is_pair_named name) values ≡ false
    → AllOf (λ n. bytes_eq n name ≡ false) (names_in values)
none-named name [] h = tt
none-named name (pair ∷ values) h =
    let t = neither (bytes_eq pair.0 name) (list_any (is_pair_named name) values) h in (t.0, none-named name values t.1)

or-first : (v w : Bool) → v ≡ true → (v || w) ≡ true
or-first true w h = refl
or-first false w h = absurd (cc)

env-push : (name : List ℕ) (e : Env) → is_declared name e ≡ false → KeepsEnv e (with_name_unset name e)
env-push name e absent = record {
  configuration = refl;
  distinct = λ d. subst (IsDistinct bytes_eq) (sym (names-push name e.values))
      (distinct-push bytes_eq (names_in e.values) name d (none-named name e.values absent));
  declared = λ wanted h. list_any-append (is_pair_named wanted) e.values ((name, None) ∷ [])
      ∙ or-first (list_any (is_pair_named wanted) e.values)
      (list_any (is_pair_named {A = Option Value} wanted) ((name, None) ∷ [])) h;
}

-- a declaration
pub env-declare : (name : List ℕ) (e f : Env) → declare name e ≡ Some f → KeepsEnv e f
unfolding declare
env-declare name e f h = by (is_reserved name) (is_declared name e) refl h where
  by : (v w : Bool) → is_declared name e ≡ w → cond v None (cond w (Some e) (Some (with_name_unset name e))) ≡ Some f
      → KeepsEnv e f
  by true w new h = absurd (cc)
  by false true new h = (let same : e ≡ f = cc in subst (KeepsEnv e) same (env-same e))
  by false false new h = (let same : with_name_unset name e ≡ f = cc in subst (KeepsEnv e) same (env-push name e new))

-- ---- outcomes

-- what goes on where no fault came
pub on-done : (f : Running → Outcome) (r : Running) (o : Outcome) → Stays f → Keeps r o.run → Keeps r (on_done f o).run
on-done f r o stays h = by o.fault where
  by : (fault : Option (List ℕ)) → Keeps r (goes_on f fault o.run).run
  by None = keeps-then r o.run (f o.run).run h (stays o.run)
  by (Some sendid) = h

-- what goes on with a value
pub needs-keeps : (f : Value → Running → Outcome) (ev : Evaluated) (r : Running) → ((v : Value) → Keeps r (f v r).run)
    → Keeps r (needs f ev r).run
needs-keeps f (Ok v) r h = h v
needs-keeps f (Err fault) r h = keeps-same r

-- what goes on with the value of code
pub code-keeps : (f : Value → Running → Outcome) (o : Option Expr) (r : Running) → ((v : Value) → Keeps r (f v r).run)
    → Keeps r (option_map_or (λ e. needs f (value e r.env) r) o (faulty r)).run
code-keeps f None r h = keeps-same r
code-keeps f (Some e) r h = needs-keeps f (value e r.env) r h

-- an element with code
pub needs-code : (a : Attribute) (m : Members) (f : Value → Running → Outcome) → ((v : Value) → Stays (f v))
    → Stays (needs_code a m f)
needs-code a m f h r = code-keeps f (code_in a m) r (λ v. h v r)

-- a value is written
pub write-stays : (name : List ℕ) (v : Value) → Stays (write name v)
write-stays name v r = by (set name v r.env) refl where
  by : (o : Option Env) → set name v r.env ≡ o → Keeps r (option_map_or (λ env. done (with_env env r)) o (faulty r)).run
  by None e = keeps-same r
  by (Some env) e = keeps-env r env (env-set name v r.env env e)

judged-keeps : (b : Option Bool) (r : Running) → Keeps r (judged b r).1
judged-keeps None r = keeps-failed [] r
judged-keeps (Some b) r = keeps-same r

-- a condition puts at most an error into the queue
pub holds-keeps : (o : Option Expr) (r : Running) → Keeps r (holds o r).1
unfolding holds
holds-keeps None r = keeps-same r
holds-keeps (Some e) r = judged-keeps (option_and_then truth_of (result_ok (value e r.env))) r
