use Rattle.std.proofs.Common.{◌≡◌, ◌≤◌, ◌-◌, length, map, slice_range, drop, option_copied}
use Rattle.sc_types.specs.Attributes.{members_of}
use Rattle.sc_law.specs.Content.{choice, each_item, part, run_parts}
use Rattle.sc_law.specs.Nodes.{kids}
use Rattle.sc_eval.specs.Envs.{HasIds}
use Rattle.sc_exec.specs.Branches.{chosen}
use Rattle.sc_exec.specs.Runs.{running_of, KeepsRows}
use Rattle.sc_exec.proofs.content.+run.Given as goal

abbrev pub invariant-choice-loop-run : goal.invariant-choice-loop-run
invariant-choice-loop-run l = record {
  within : l.start ≤ length l.kids;
  steps : chosen (option_copied l.condition) (drop l.start l.kids) (running_of l.run)
      ≡ choice (members_of l.node) (map part (kids l.node)) (running_of l.fn.run);
  kept : KeepsRows l.fn.run l.run;
  ids : HasIds l.run.env;
}

abbrev pub decreases-choice-loop-run : goal.decreases-choice-loop-run
decreases-choice-loop-run l = length l.kids - l.start

abbrev pub invariant-each_item-loop-place : goal.invariant-each_item-loop-place
invariant-each_item-loop-place l = record {
  steps : each_item (members_of l.node) (map part (kids l.node)) l.place (drop l.place l.items) (running_of l.run)
      ≡ each_item (members_of l.node) (map part (kids l.node)) 0 l.items (running_of l.fn.run);
  kept : KeepsRows l.fn.run l.run;
  ids : HasIds l.run.env;
}

abbrev pub invariant-elements-loop-place : goal.invariant-elements-loop-place
invariant-elements-loop-place l = record {
  steps : run_parts (map part (slice_range l.nodes l.place l.to)) (running_of l.run)
      ≡ run_parts (map part (slice_range l.nodes l.from l.to)) (running_of l.fn.run);
  kept : KeepsRows l.fn.run l.run;
  ids : HasIds l.run.env;
}
