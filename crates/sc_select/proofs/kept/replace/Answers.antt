use Rattle.std.proofs.Common.{ℕ, ◌<◌, filter, length, not, ap, ◌∙◌}
use Rattle.sc_law.specs.Selection.{conflicts}
use Rattle.sc_law.specs.Transitions.{transition_paths}
use Rattle.sc_select.proofs.KeepLemmas.{kept-within}
use Rattle.sc_select.proofs.kept.replace.Goals as goal

pub exit_union-requires-clause-trs : goal.exit_union-requires-clause-trs
exit_union-requires-clause-trs c =
    kept-within (λ (u : ℕ). u < length (transition_paths c.args.t.now))
    (λ u. not (conflicts c.args.t.now c.args.h.now c.args.conf.now.members c.args.tr u)) c.args.kept.now
    c.in_ok-rest.rest c.slice-3.result.now c.args.tr
    c.requires.kept c.requires.tr (c.in_ok-rest.ensures.value
    ∙ ap (filter (λ u. not (conflicts c.args.t.now c.args.h.now c.args.conf.now.members c.args.tr u)))
    c.slice-2.ensures) (c.slice-3.ensures ∙ c.in_ok-push.ensures.ok)

pub returns-clause-within : goal.returns-clause-within
returns-clause-within c =
    kept-within (λ (u : ℕ). u < length (transition_paths c.args.t.now))
    (λ u. not (conflicts c.args.t.now c.args.h.now c.args.conf.now.members c.args.tr u)) c.args.kept.now
    c.in_ok-rest.rest c.push.new.self c.args.tr
    c.requires.kept c.requires.tr (c.in_ok-rest.ensures.value
    ∙ ap (filter (λ u. not (conflicts c.args.t.now c.args.h.now c.args.conf.now.members c.args.tr u)))
    c.slice-2.ensures) c.in_ok-push.ensures.ok
