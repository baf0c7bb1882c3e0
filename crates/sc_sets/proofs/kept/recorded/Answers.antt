use Rattle.std.proofs.Common.{◌++◌, filter_map, ap, sym, ◌∙◌}
use Rattle.std.proofs.lemmas.List.{append-nil, drop_all}
use Rattle.std.specs.List.{range_with_len}
use Rattle.sc_law.specs.Records.{kept_by}
use Rattle.sc_law.specs.Tree.{state_count}
use Rattle.sc_sets.proofs.KeptLists.{of-histories}
use Rattle.sc_sets.proofs.kept.recorded.Goals as goal

pub returns : goal.returns
returns c =
    let k = c.args.t.now in
    let conf = c.args.conf.now.members in
    let gone = c.args.exit.now.members in
    let f = kept_by k conf gone c.args.h.now in
    let none = drop_all c.loop-s.s-index c.histories-s-items.result.now c.loop-s-test.false in
    sym (append-nil c.loop-s.kept) ∙ sym (ap (λ ss. c.loop-s.kept ++ filter_map f ss) none) ∙ c.loop-s.invariant
    ∙ ap (filter_map f) c.histories-s-items.ensures.value ∙ of-histories k conf gone c.args.h.now (range_with_len 0 (state_count k))
