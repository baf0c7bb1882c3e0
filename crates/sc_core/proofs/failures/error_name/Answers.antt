use Rattle.std.proofs.Common.{codes, refl}
use Rattle.sc_core.proofs.EventNames.{fixed_name}
use Rattle.sc_core.proofs.failures.error_name.Goals as goal

pub name_of-requires : goal.name_of-requires
name_of-requires c = record { name = fixed_name (codes "error.communication") refl refl refl }
