-- A script has no steps of its own: those are the host's. This host's own rule.
use Rattle.std.specs.List.{AllByRecursion}
use Rattle.sc_types.specs.declared.command.Command.{Command}
use Rattle.sc_types.specs.declared.command.Command.TheVariants.{Step}
use Rattle.sc_script.specs.declared.script.Script.{Script}

abbrev pub IsNoStep : Command → Type 0
IsNoStep (Step session) = ⊥
IsNoStep c = Unit {0}

pub record HasNoStep (s : Script) : Type 0 where
  pub setup : AllByRecursion IsNoStep s.setup
  pub clients : AllByRecursion (AllByRecursion IsNoStep) s.clients
