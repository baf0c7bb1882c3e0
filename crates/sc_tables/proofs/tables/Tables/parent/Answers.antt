use Rattle.std.proofs.Common.{◌≡◌, ◌<◌, Option, None, get_or, List, ℕ, unwrap_or, [], ◌∷◌, ap, subst, sym, ◌∙◌}
use Rattle.std.specs.Option.{option_map_or}
use Rattle.sc_types.specs.declared.chart.Chart.{Chart}
use Rattle.sc_law.specs.Tree.{ancestors, root, state_count}
use Rattle.sc_law.specs.Configurations.{parent_of}
use Rattle.sc_tables.proofs.LookUps.{parent-is}
use Rattle.sc_tables.proofs.Within.{ancestors_are}
use Rattle.sc_tables.proofs.tables.Tables.parent.Goals as goal

pub returns-clause-value : goal.returns-clause-value
returns-clause-value c =
    let within = subst (λ (k : Chart). c.args.s < state_count k) (sym c.self.view_is) c.requires in
    let there = parent-is _ c.self.inside.states c.args.s c.self.invariant.states_are within in
    ap (λ (os : List (Option ℕ)). unwrap_or (get_or os c.args.s None) (root c.args.self.now)) c.slice.ensures
    ∙ subst (λ (k : Chart). unwrap_or (get_or c.self.inside.states.parents c.args.s None) (root k) ≡ parent_of k c.args.s) c.self.view_is there

pub returns-clause-above : goal.returns-clause-above
returns-clause-above c =
    let within = subst (λ (k : Chart). c.args.s < state_count k) (sym c.self.view_is) c.requires in
    let there = ancestors_are _ c.self.inside.states c.args.s c.self.invariant.states_are within in
    subst (λ (k : Chart). ancestors k c.args.s ≡ option_map_or (λ p. p ∷ ancestors k p) (get_or c.self.inside.states.parents c.args.s None) []) c.self.view_is there
    ∙ ap (λ (os : List (Option ℕ)). option_map_or (λ p. p ∷ ancestors c.args.self.now p) (get_or os c.args.s None) []) (sym c.slice.ensures)
