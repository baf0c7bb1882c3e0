use Rattle.std.proofs.Common.{◌≡◌, ◌≤◌, ◌++◌, length}
use Rattle.sc_types.specs.Descriptors.{pieces}
use Rattle.sc_chart_json.proofs.pieces.pieces.Given as goal

abbrev pub invariant-loop-place : goal.invariant-loop-place
invariant-loop-place l = record {
  within : length l.rest ≤ length l.text;
  text : l.pieces ++ pieces l.rest ≡ pieces l.text;
}

abbrev pub decreases-loop-place : goal.decreases-loop-place
decreases-loop-place l = length l.rest
