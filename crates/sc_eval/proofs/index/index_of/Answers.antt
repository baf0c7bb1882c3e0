use Rattle.std.proofs.Common.{◌≡◌, ℕ, ◌+◌, List, Option, ◌∷◌, ◌++◌, [], length, take, ap, subst, sym, ◌∙◌, arith, length-take}
use Rattle.std.proofs.lemmas.List.{take_more}
use Rattle.sc_types.specs.declared.value.Value.{Value}
use Rattle.sc_eval.specs.Places.{IsIndex}
use Rattle.sc_eval.proofs.Tables.{index-push}
use Rattle.sc_eval.proofs.index.index_of.Goals as goal

pub loop-place-preserved : goal.loop-place-preserved
loop-place-preserved c =
    let more : take c.loop-place.place c.args.rows.now ++ c.index-rows-place.result ∷ [] ≡ take (c.loop-place.place + 1) c.args.rows.now =
    ap (λ row. take c.loop-place.place c.args.rows.now ++ row ∷ []) c.index-rows-place.is
    ∙ sym (take_more c.args.rows.now c.loop-place.place c.index-rows-place.result c.loop-place-test.true) in
    let len : c.loop-place.place ≡ length (take c.loop-place.place c.args.rows.now) = omega (arith, length-take c.loop-place.place c.args.rows.now) in
    subst (λ (rows : List (List ℕ × Option Value)). IsIndex c.put.new.self rows) more
    (index-push c.loop-place.places c.put.new.self (take c.loop-place.place c.args.rows.now) c.index-rows-place.result
    c.bytes.result.now c.loop-place.place (ap (λ row. row.0) c.index-rows-place.is ∙ sym c.bytes.ensures.value) len c.loop-place.invariant c.in_ok-put.ensures.ok)
