use Rattle.std.proofs.Common.{ap, ◌∙◌}
use Rattle.sc_bits.specs.Rows.{RowOf}
use Rattle.sc_types.specs.declared.chart.Tag.TheVariants as tag
use Rattle.sc_law.specs.Content.{run_blocks}
use Rattle.sc_law.specs.Data.{with_tag}
use Rattle.sc_exec.specs.Runs.{running_of}
use Rattle.sc_select.proofs.RunLemmas.{run_has_ids}
use Rattle.sc_micro.proofs.LeaveLemmas.{left-is}
use Rattle.sc_micro.proofs.leaving.leave.Goals as goal

pub run_tagged-requires : goal.run_tagged-requires
run_tagged-requires c = run_has_ids c.args.t.now c.args.run.now c.requires.run

pub returns-clause-ok : goal.returns-clause-ok
returns-clause-ok c =
    left-is c.args.t.now c.args.s (running_of c.args.run.now) (running_of c.run_tagged.new.run)
    (running_of c.cancel_invokes.new.run) c.take.new.self.members
    (c.in_ok-run_tagged.ensures.ok
    ∙ ap (λ ns. run_blocks (with_tag tag.OnExit ns) (running_of c.args.run.now)) c.kids_of.ensures)
    c.in_ok-cancel_invokes.ensures.ok (ap (λ (r : RowOf). r.members) c.take.ensures)
