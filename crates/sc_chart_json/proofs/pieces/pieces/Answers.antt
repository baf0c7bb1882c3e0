use Rattle.std.proofs.Common.{◌+◌, ◌++◌, ◌∙◌, sym, ap, arith, append_assoc, length-drop}
use Rattle.std.proofs.lemmas.List.{take_rest}
use Rattle.sc_chart_json.proofs.SplitLemmas.{pieces-first, pieces-only}
use Rattle.sc_chart_json.proofs.pieces.pieces.Goals as goal

pub loop-place-preserved : goal.loop-place-preserved
loop-place-preserved c =
    let rest = c.loop-place.rest.now in
    let place = c.in-Some.place in
    let first = pieces-first rest place (sym c.in-Some.ensures.value) in
    rw (take_rest rest (place + 1), c.in_ok-put_piece.ensures) record {
      within = omega (arith, length-drop (place + 1) rest);
      text = rw append_assoc (ap (λ ps. c.loop-place.pieces ++ ps) (sym first) ∙ c.loop-place.invariant.text);
    }

pub returns : goal.returns
returns c =
    c.in_ok-put_piece-2.ensures
    ∙ ap (λ ps. c.loop-place.pieces ++ ps) (sym (pieces-only c.loop-place.rest.now (sym c.in_default.ensures.value)))
    ∙ c.loop-place.invariant.text
