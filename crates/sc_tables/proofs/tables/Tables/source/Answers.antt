use Rattle.std.proofs.Common.{◌≡◌, ◌<◌, Option, Some, None, get_or, List, ℕ, length, unwrap_or, ap, subst, sym, arith, ◌∙◌}
use Rattle.sc_types.specs.declared.chart.Chart.{Chart}
use Rattle.sc_law.specs.Tree.{root, state_count}
use Rattle.sc_law.specs.Transitions.{source, transition_paths}
use Rattle.sc_tables.proofs.LookUps.{source-is}
use Rattle.sc_tables.specs.Built.{IsWithin}
use Rattle.sc_tables.proofs.Sources.{source-at, sources-length}
use Rattle.sc_tables.proofs.tables.Tables.source.Goals as goal

pub bounds : goal.bounds
bounds c =
    let long = sources-length _ _ _ c.self.invariant.transitions_are.sources in
    let same = ap length c.slice.ensures in
    let within = subst (λ (k : Chart). c.args.tr < length (transition_paths k)) (sym c.self.view_is) c.requires in
    omega (arith, long, same, within)

pub returns-in-Some-clause-value : goal.returns-in-Some-clause-value
returns-in-Some-clause-value c =
    let within = subst (λ (k : Chart). c.args.tr < length (transition_paths k)) (sym c.self.view_is) c.requires in
    let there = subst (λ (k : Chart). source k c.args.tr ≡ unwrap_or (get_or c.self.inside.transitions.sources c.args.tr None) (root k)) c.self.view_is
    (source-is _ c.self.inside.transitions c.args.tr c.self.invariant.transitions_are within) in
    sym (there
    ∙ ap (λ (o : Option ℕ). unwrap_or o (root c.args.self.now)) (ap (λ (os : List (Option ℕ)). get_or os c.args.tr None) (sym c.slice.ensures) ∙ c.in-Some.is))

pub returns-in-None-clause-value : goal.returns-in-None-clause-value
returns-in-None-clause-value c =
    let within = subst (λ (k : Chart). c.args.tr < length (transition_paths k)) (sym c.self.view_is) c.requires in
    let there = subst (λ (k : Chart). source k c.args.tr ≡ unwrap_or (get_or c.self.inside.transitions.sources c.args.tr None) (root k)) c.self.view_is
    (source-is _ c.self.inside.transitions c.args.tr c.self.invariant.transitions_are within) in
    c.self.invariant.count_is ∙ ap root c.self.view_is ∙ sym (there
    ∙ ap (λ (o : Option ℕ). unwrap_or o (root c.args.self.now)) (ap (λ (os : List (Option ℕ)). get_or os c.args.tr None) (sym c.slice.ensures) ∙ c.in-None.is))

pub returns-in-Some-clause-within : goal.returns-in-Some-clause-within
returns-in-Some-clause-within c =
    let within = subst (λ (k : Chart). c.args.tr < length (transition_paths k)) (sym c.self.view_is) c.requires in
    let is = source-at _ _ c.self.inside.transitions.sources c.args.tr c.self.invariant.transitions_are.sources within in
    let found : get_or c.self.inside.transitions.sources c.args.tr None ≡ Some c.in-Some.state =
    ap (λ (os : List (Option ℕ)). get_or os c.args.tr None) (sym c.slice.ensures) ∙ c.in-Some.is in
    let less : IsWithin (state_count _) (Some c.in-Some.state) = rw found at is.within in
    let here = subst (λ (k : Chart). c.in-Some.state < state_count k) c.self.view_is less in
    omega (arith, here)

pub returns-in-None-clause-within : goal.returns-in-None-clause-within
returns-in-None-clause-within c =
    let count = c.self.invariant.count_is ∙ ap state_count c.self.view_is in
    omega (arith, count)
