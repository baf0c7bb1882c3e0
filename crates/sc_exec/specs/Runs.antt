-- A session in the middle of a turn as the definitions see it, and how a program's answer tells an outcome. This host's
-- own rule.
use Rattle.std.specs.Prelude.{◌≡◌, Err, List, Ok, Result, ℕ}
use Rattle.sc_base.specs.declared.failure.Failure.{Failure}
use Rattle.sc_base.specs.declared.failure.Failure.TheVariants.{Fault, NoMemory}
use Rattle.sc_law.specs.Runs.{Running as PlainRunning}
use Rattle.sc_law.specs.Outcomes.{Outcome, done, stopped_at}
use Rattle.sc_eval.specs.Envs.{env_of}
use Rattle.sc_exec.specs.declared.running.Running.{Running}

abbrev pub running_of : Running → PlainRunning
running_of r = record {
  env = env_of r.env;
  entered = r.entered.members;
  internal = r.internal;
  invokes = r.invokes;
  sends = r.sends;
  born = r.born;
  todo = r.todo.members;
  effects = r.effects;
  logs = r.logs;
  stopped = r.stopped;
}

-- what content leaves as it is: the rows with their widths, and the ids
pub record KeepsRows (old new : Running) : Type 0 where
  pub configuration : new.env.configuration ≡ old.env.configuration
  pub ids : new.env.ids ≡ old.env.ids
  pub entered : new.entered ≡ old.entered
  pub todo : new.todo ≡ old.todo

-- the answer tells this outcome, or that the memory did not suffice
abbrev pub Does : Result (Unit {0}) (Failure (List ℕ)) → Running → Outcome → Type 0
Does (Ok u) r o = o ≡ done (running_of r)
Does (Err (Fault sendid)) r o = o ≡ stopped_at sendid (running_of r)
Does (Err NoMemory) r o = Unit {0}
