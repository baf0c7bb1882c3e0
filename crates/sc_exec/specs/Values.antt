-- The value that an element needs of one of its attributes. Only contracts of private functions cite this.
use Rattle.std.specs.Prelude.{◌≡◌, Err, List, None, Ok, Option, Result, [], option_and_then, Some, ℕ}
use Rattle.std.specs.Result.{result_ok}
use Rattle.sc_base.specs.declared.failure.Failure.{Failure}
use Rattle.sc_base.specs.declared.failure.Failure.TheVariants.{Fault, NoMemory}
use Rattle.sc_types.specs.Attributes.{Members, code_in}
use Rattle.sc_types.specs.declared.attribute.Attribute.{Attribute}
use Rattle.sc_types.specs.declared.value.Value.{Value}
use Rattle.sc_law.specs.Evaluation.{value}
use Rattle.sc_law.specs.Runs.{Env}

-- the value of an attribute that is an expression, where there is one
abbrev pub value_at : Attribute → Members → Env → Option Value
value_at a m env = option_and_then (λ e. result_ok (value e env)) (code_in a m)

-- the answer tells this value, or that there is none, or that the memory did not suffice
abbrev pub Finds : Result Value (Failure (List ℕ)) → Option Value → Type 0
Finds (Ok v) found = found ≡ Some v
Finds (Err (Fault sendid)) found = (sendid ≡ []) × (found ≡ None)
Finds (Err NoMemory) found = Unit {0}
