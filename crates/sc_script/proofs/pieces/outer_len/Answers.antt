use Rattle.std.proofs.Common.{◌≡◌, ◌+◌, drop, sym, ◌∙◌, arith}
use Rattle.sc_script.specs.Pairs.{start}
use Rattle.sc_script.specs.Pieces.{piece_len}
use Rattle.sc_script.proofs.PieceLemmas.{at_gap, past_byte, at_end}
use Rattle.sc_script.proofs.pieces.outer_len.Goals as goal

pub returns-then-is_gap : goal.returns-then-is_gap
returns-then-is_gap c =
    let so_far : c.loop-i.i + piece_len c.loop-i.place (drop c.loop-i.i c.args.text.now)
    ≡ piece_len start c.args.text.now = c.loop-i.invariant in
    let gap = sym c.is_gap.ensures ∙ c.if-is_gap.true in
    let none = at_gap c.loop-i.place c.args.text.now c.loop-i.i c.loop-i-test.true gap in
    omega arith

pub loop-i-preserved : goal.loop-i-preserved
loop-i-preserved c =
    let so_far : c.loop-i.i + piece_len c.loop-i.place (drop c.loop-i.i c.args.text.now)
    ≡ piece_len start c.args.text.now = c.loop-i.invariant in
    let one =
    past_byte c.loop-i.place c.next_place-place.result c.args.text.now c.loop-i.i c.next_place-place.ensures
    c.loop-i-test.true (sym c.is_gap.ensures ∙ c.if-is_gap.false) in
    let more : (c.loop-i.i + 1) + piece_len c.next_place-place.result (drop (c.loop-i.i + 1) c.args.text.now)
    ≡ piece_len start c.args.text.now = omega arith in
    more

pub returns : goal.returns
returns c =
    let so_far : c.loop-i.i + piece_len c.loop-i.place (drop c.loop-i.i c.args.text.now)
    ≡ piece_len start c.args.text.now = c.loop-i.invariant in
    let none = at_end c.loop-i.place c.args.text.now c.loop-i.i c.loop-i-test.false in
    omega arith
