-- What content leaves as it is.
use Rattle.std.proofs.Common.{◌∙◌}
use Rattle.sc_eval.specs.Envs.{HasIds}
use Rattle.sc_exec.specs.Runs.{KeepsRows}
use Rattle.sc_exec.specs.declared.running.Running.{Running}

-- the ids still name states of the configuration's width
pub has_ids : (old new : Running) → HasIds old.env → KeepsRows old new → HasIds new.env
has_ids old new h kept = record { within = rw (kept.configuration, kept.ids) h.within }

-- nothing is changed by one step after another that changes nothing
pub kept_then : (a b c : Running) → KeepsRows a b → KeepsRows b c → KeepsRows a c
kept_then a b c h k = record {
  configuration = k.configuration ∙ h.configuration;
  ids = k.ids ∙ h.ids;
  entered = k.entered ∙ h.entered;
  todo = k.todo ∙ h.todo;
}

pub ruleset keeping = (has_ids, kept_then)
