use Rattle.std.proofs.Common.{◌+◌, ◌++◌, drop, ap, sym, ◌∙◌}
use Rattle.std.proofs.lemmas.List.{drop_more}
use Rattle.sc_law.specs.Sets.{effective_targets}
use Rattle.sc_sets.specs.Targets.{is_empty}
use Rattle.sc_sets.proofs.Stands.{some_empty}
use Rattle.sc_sets.proofs.targets.is_none.Goals as goal

pub returns-then-not-is_empty : goal.returns-then-not-is_empty
returns-then-not-is_empty c =
    let t = c.args.t.now in
    let h = c.args.h.now in
    let ss = c.args.targets.now in
    let i = c.loop-place.place in
    let rest = effective_targets t h (drop (i + 1) ss) in
    sym (c.loop-place.invariant ∙ ap (λ ds. is_empty (effective_targets t h ds)) (drop_more ss i 0 c.loop-place-test.true)
    ∙ ap (λ xs. is_empty (xs ++ rest)) (sym c.stands_for.ensures.value)
    ∙ some_empty c.stands_for.result.now rest (sym c.is_empty.ensures ∙ c.if-not-is_empty.true))
