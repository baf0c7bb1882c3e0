use Rattle.std.proofs.Common.{Option, option_map, unwrap_or, ap, ◌∙◌}
use Rattle.sc_types.specs.declared.event.Data.{Data}
use Rattle.sc_types.specs.declared.event.Data.TheVariants.{Absent}
use Rattle.sc_exec.specs.Runs.{running_of}
use Rattle.sc_select.proofs.RunLemmas.{run_has_ids}
use Rattle.sc_micro.specs.Blocks.{done_kids}
use Rattle.sc_micro.proofs.DoneLemmas.{done-data-is}
use Rattle.sc_micro.proofs.done.done_data.Goals as goal

pub payload-requires : goal.payload-requires
payload-requires c = run_has_ids c.args.t.now c.args.run.now c.requires.run

pub returns-in-Some-clause-ok : goal.returns-in-Some-clause-ok
returns-in-Some-clause-ok c =
    done-data-is c.args.t.now c.args.s (running_of c.args.run.now)
    (running_of c.payload.new.run) c.done_kids-kids.result.now
    c.in_ok-data.field-0 c.chart-chart.ensures.legal c.requires.s c.requires.done
    (c.done_kids-kids.ensures ∙ ap done_kids c.kids_of.ensures) c.in_ok-data.ensures.ok
    ∙ ap (λ (o : Option Data). unwrap_or (option_map (λ payload. (payload, running_of c.payload.new.run)) o)
    (Absent, running_of c.args.run.now))
    c.in-Some.is
