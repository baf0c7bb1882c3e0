use Rattle.std.proofs.Common.{◌≡◌, ◌≤◌, length}
use Rattle.std.specs.List.{list_all}
use Rattle.sc_types.specs.Descriptors.{pieces}
use Rattle.sc_chart_json.specs.Pieces.{is_piece}
use Rattle.sc_chart_json.proofs.form.are_all_pieces.Given as goal

abbrev pub invariant-loop-place : goal.invariant-loop-place
invariant-loop-place l = record {
  within : length l.rest ≤ length l.text;
  same : list_all (is_piece l.form) (pieces l.rest) ≡ list_all (is_piece l.form) (pieces l.text);
}

abbrev pub decreases-loop-place : goal.decreases-loop-place
decreases-loop-place l = length l.rest
