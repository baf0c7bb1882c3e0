use Rattle.std.proofs.Common.{ℕ, List, option_and_then, ap, sym, ◌∙◌}
use Rattle.sc_law.specs.Sets.{some_states}
use Rattle.sc_sets.proofs.Stands.{each_value, value_within}
use Rattle.sc_sets.proofs.targets.value_of.Goals as goal

pub returns-clause-value : goal.returns-clause-value
returns-clause-value c =
    c.some_states.ensures ∙ ap some_states c.slice.ensures
    ∙ ap (option_and_then (λ (kept : ℕ × List ℕ). some_states kept.1)) c.in_ok-kept_of.ensures

pub returns-clause-within : goal.returns-clause-within
returns-clause-within c =
    each_value c.some_states.result _ (λ ss e. value_within c.args.t.now c.args.h.now c.args.s ss c.requires.kept (sym (returns-clause-value c) ∙ e))
