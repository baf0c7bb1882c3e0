use Rattle.std.proofs.Common.{◌≡◌, ◌<◌, ℕ, List, [], get_or, length, ap, subst, sym, ◌∙◌}
use Rattle.std.proofs.lemmas.List.{get_or-map}
use Rattle.sc_types.specs.declared.chart.Chart.{Chart}
use Rattle.sc_types.specs.Attributes.{words_at}
use Rattle.sc_types.specs.declared.attribute.Attribute.TheVariants.{Target}
use Rattle.sc_law.specs.Transitions.{targets, transition, transition_paths}
use Rattle.sc_tables.proofs.Within.{named_within}
use Rattle.sc_tables.proofs.tables.Tables.targets.Goals as goal

pub returns-clause-within : goal.returns-clause-within
returns-clause-within c =
    let within = subst (λ (k : Chart). c.args.tr < length (transition_paths k)) (sym c.self.view_is) c.requires in
    let is : c.slice-2.result.now ≡ targets c.args.self.now c.args.tr =
    c.slice-2.ensures ∙ c.index-slice-tr.is
    ∙ ap (λ (ts : List (List ℕ)). get_or ts c.args.tr c.index-slice-tr.result) (c.slice.ensures ∙ c.self.invariant.transitions_are.targets)
    ∙ get_or-map _ (transition_paths _) c.args.tr [] _ within ∙ ap (λ (k : Chart). targets k c.args.tr) c.self.view_is in
    rw is (named_within c.args.self.now (words_at Target (transition c.args.self.now c.args.tr)))
