use Rattle.std.proofs.Common.{◌≡◌, ◌+◌, ◌≤◌, suc, length, IsTrue}
use Rattle.std.specs.Str.{IsAscii}
use Rattle.sc_script.specs.Joined.{joins}
use Rattle.sc_script.specs.Lines.{lines}
use Rattle.sc_script.specs.Scripts.{script_from}
use Rattle.sc_script.proofs.reader.read_script.Given as goal

abbrev pub invariant-loop-rest : goal.invariant-loop-rest
invariant-loop-rest l = record {
  ascii : IsTrue l.ascii → IsAscii l.rest;
  within : l.number + length l.rest ≤ length l.text;
  script : joins l.reading (script_from (suc l.number) (length l.reading.closed) (lines l.rest))
      ≡ script_from 1 0 (lines l.text);
}

abbrev pub decreases-loop-rest : goal.decreases-loop-rest
decreases-loop-rest l = length l.rest
