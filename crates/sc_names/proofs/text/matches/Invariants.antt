use Rattle.std.proofs.Common.{◌≡◌, ℕ, ◌<◌, ◌≤◌, get_or, drop, false}
use Rattle.sc_types.specs.Descriptors.{is_white_space, matches}
use Rattle.sc_names.proofs.text.matches.Given as goal

abbrev pub invariant-loop-i : goal.invariant-loop-i
invariant-loop-i l = record {
  within : l.start ≤ l.i;
  solid : (k : ℕ) → l.start ≤ k → k < l.i → is_white_space (get_or l.list k 0) ≡ false;
  rest : matches (drop l.start l.list) l.name ≡ matches l.list l.name;
}
