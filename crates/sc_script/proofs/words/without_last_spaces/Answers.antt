use Rattle.std.proofs.Common.{◌≡◌, sym, ◌∙◌}
use Rattle.sc_script.specs.Lines.{without_last_spaces}
use Rattle.sc_script.proofs.SpaceLemmas.{drops_last, keeps_last, keeps_none}
use Rattle.sc_script.proofs.words.without_last_spaces.Goals as goal

pub loop-rest-preserved : goal.loop-rest-preserved
loop-rest-preserved c =
    let so_far : without_last_spaces c.loop-rest.rest.now ≡ without_last_spaces c.args.text.now =
    c.loop-rest.invariant in
    drops_last c.loop-rest.rest.now c.in-len1-up.len_at_least (sym c.is_space.ensures ∙ c.if-not-is_space.false)
    ∙ so_far

pub returns-then-not-is_space : goal.returns-then-not-is_space
returns-then-not-is_space c =
    let so_far : without_last_spaces c.loop-rest.rest.now ≡ without_last_spaces c.args.text.now =
    c.loop-rest.invariant in
    sym (keeps_last c.loop-rest.rest.now c.in-len1-up.len_at_least (sym c.is_space.ensures ∙ c.if-not-is_space.true))
    ∙ so_far

pub returns : goal.returns
returns c =
    let so_far : without_last_spaces c.loop-rest.rest.now ≡ without_last_spaces c.args.text.now =
    c.loop-rest.invariant in
    sym (keeps_none c.loop-rest.rest.now c.in_default.len_below) ∙ so_far
