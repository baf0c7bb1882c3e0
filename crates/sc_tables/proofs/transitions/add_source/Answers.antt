use Rattle.std.proofs.Common.{◌≡◌, true, sym, ◌∙◌}
use Rattle.sc_law.specs.Legality.{is_transition}
use Rattle.sc_tables.proofs.Sources.{sources-more}
use Rattle.sc_tables.proofs.transitions.add_source.Goals as goal

pub returns-in_ok-push : goal.returns-in_ok-push
returns-in_ok-push c =
    let paths = c.args.states.now.paths in
    let is : is_transition c.args.chart.now c.args.path.now ≡ true = sym c.is_transition.ensures ∙ c.if-is_transition.true in
    rw (is, c.in_ok-push.ensures.ok) (record {
      follows = λ ts h. sources-more paths ts c.args.sources.now c.args.path.now c.source.result h c.source.ensures;
    })
