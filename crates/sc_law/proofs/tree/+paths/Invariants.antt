use Rattle.std.proofs.Common.{◌≡◌, ◌++◌, drop, map}
use Rattle.sc_law.specs.Nodes.{elements_from}
use Rattle.sc_law.proofs.PathLemmas.{paths_of_kids}
use Rattle.sc_law.proofs.tree.+paths.Given as goal

abbrev pub invariant-loop-place : goal.invariant-loop-place
invariant-loop-place l = record {
  paths : l.out ++ paths_of_kids l.initial.path l.place (map elements_from (drop l.place l.kid-items))
      ≡ l.initial.out ++ paths_of_kids l.initial.path 0 (map elements_from l.kid-items);
  path : l.path ≡ l.initial.path;
}
