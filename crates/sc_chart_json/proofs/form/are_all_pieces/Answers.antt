use Rattle.std.proofs.Common.{◌≡◌, ◌+◌, ◌&&◌, true, false, take, drop, ◌∙◌, sym, ap, arith, length-drop}
use Rattle.std.proofs.lemmas.List.{take_rest}
use Rattle.std.specs.List.{list_all}
use Rattle.sc_types.specs.Descriptors.{pieces}
use Rattle.sc_chart_json.specs.Pieces.{kept, is_piece}
use Rattle.sc_chart_json.proofs.SplitLemmas.{all_pieces-first, pieces-only}
use Rattle.sc_chart_json.proofs.form.are_all_pieces.Goals as goal

pub returns-then-not-is_piece_or_empty : goal.returns-then-not-is_piece_or_empty
returns-then-not-is_piece_or_empty c =
    let test = is_piece c.args.form in
    let rest = c.loop-place.rest.now in
    let place = c.in-Some.place in
    let none : list_all test (kept (take place rest)) ≡ false = grind arith in
    sym (ap (λ v. v && list_all test (pieces (drop (place + 1) rest))) none)
    ∙ sym (all_pieces-first test rest place (sym c.in-Some.ensures.value)) ∙ c.loop-place.invariant.same

pub loop-place-preserved : goal.loop-place-preserved
loop-place-preserved c =
    let test = is_piece c.args.form in
    let rest = c.loop-place.rest.now in
    let place = c.in-Some.place in
    let all : list_all test (kept (take place rest)) ≡ true = grind arith in
    rw (take_rest rest (place + 1)) record {
      within = omega (arith, length-drop (place + 1) rest);
      same = sym (ap (λ v. v && list_all test (pieces (drop (place + 1) rest))) all)
          ∙ sym (all_pieces-first test rest place (sym c.in-Some.ensures.value)) ∙ c.loop-place.invariant.same;
    }

pub returns : goal.returns
returns c =
    c.is_piece_or_empty-2.ensures
    ∙ ap (λ ps. list_all (is_piece c.args.form) ps) (sym (pieces-only c.loop-place.rest.now (sym c.in_default.ensures.value)))
    ∙ c.loop-place.invariant.same
