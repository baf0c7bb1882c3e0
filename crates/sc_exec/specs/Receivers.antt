-- Who receives an event. Only contracts of private functions cite this.
use Rattle.std.specs.Prelude.{List, Option, filter, ℕ}
use Rattle.std.specs.Str.{bytes_eq}
use Rattle.sc_types.specs.declared.session.Invoked.{Invoked}
use Rattle.sc_law.specs.Sending.{first_invoke}
use Rattle.sc_law.specs.Sending.{Receiver as PlainReceiver}
use Rattle.sc_law.specs.Sending.{Inside, Outside}
use Rattle.sc_exec.specs.declared.receiver.Receiver.{Receiver}
use Rattle.sc_exec.specs.declared.receiver.Receiver.TheVariants as program

-- a receiver as the definitions see it
abbrev pub receiver_as : Receiver → PlainReceiver
receiver_as program.Inside = Inside
receiver_as (program.Outside to) = Outside to

-- of the invokes with an id the first by state and place
abbrev pub first_of_id : List ℕ → List Invoked → Option Invoked
first_of_id id invokes = first_invoke (filter (λ (i : Invoked). bytes_eq i.invokeid id) invokes)
