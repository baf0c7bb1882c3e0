use Rattle.std.proofs.Common.{true, ◌∙◌, ap}
use Rattle.std.specs.Option.{option_map_or}
use Rattle.sc_types.specs.ChartTexts.{are_known}
use Rattle.sc_chart_json.proofs.KeyLemmas.{are_known-members}
use Rattle.sc_chart_json.proofs.members.has_known_members.Goals as goal

pub returns-in-Some : goal.returns-in-Some
returns-in-Some c =
    c.are_known.ensures
    ∙ are_known-members c.args.tag c.in-Some.members.now
    ∙ ap (λ ms. option_map_or (are_known c.args.tag) ms true) c.in-Some.ensures
