-- What an evaluation answers: this value or fault, or that memory is out. This host's own rule.
use Rattle.std.specs.Prelude.{◌≡◌, ◌≢◌, Err, Ok, Result}
use Rattle.sc_types.specs.declared.eval_fault.EvalFault.{EvalFault}
use Rattle.sc_types.specs.declared.eval_fault.EvalFault.TheVariants.{NoMemory}

abbrev pub Gives : {A : Type 0} → Result A EvalFault → Result A EvalFault → Type 0
Gives (Ok x) answer = answer ≡ Ok x
Gives (Err fault) answer = fault ≢ NoMemory → answer ≡ Err fault
