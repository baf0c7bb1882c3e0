-- The script of the lines that were read and of those behind them. Only contracts of private functions and proofs cite
-- this.
use Rattle.std.specs.Prelude.{Ok, Err, List, [], ◌∷◌, ◌++◌}
use Rattle.sc_types.specs.declared.command.Command.{Command}
use Rattle.sc_script.specs.Scripts.{Spelled}
use Rattle.sc_script.specs.declared.reader.Reading.{Reading}
use Rattle.sc_script.specs.declared.script.Script.{Script}

-- the lists that were closed, the open one, and the script of the lines behind
abbrev pub joined : List (List Command) → List Command → Script → Script
joined [] current behind = record { setup = current ++ behind.setup; clients = behind.clients }
joined (setup ∷ clients) current behind =
    record { setup = setup; clients = clients ++ (current ++ behind.setup) ∷ behind.clients }

abbrev pub joins : Reading → Spelled → Spelled
joins reading (Err fault) = Err fault
joins reading (Ok behind) = Ok (joined reading.closed reading.current behind)
