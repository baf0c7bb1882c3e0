use Rattle.std.proofs.Common.{rules, subst, ◌≡◌, ◌+◌, ◌∷◌, drop, ap, ◌∙◌, arith}
use Rattle.std.proofs.lemmas.List.{drop_more}
use Rattle.sc_chart_json.specs.Trees.{items_view}
use Rattle.sc_types.specs.ChartTexts.{kid_places, places}
use Rattle.std.proofs.Common.{◌-◌, length}
use Rattle.sc_chart_json.specs.Walking.{Stops, AreRead, AreReading}
use Rattle.sc_chart_json.proofs.WalkLemmas.{element_stops, element_read, kid_stops, kid_read, popped}
use Rattle.sc_chart_json.proofs.reader.+element.Goals as goal

pub read_element-returns-in_err-read_kids-clause-fault : goal.read_element-returns-in_err-read_kids-clause-fault
read_element-returns-in_err-read_kids-clause-fault t c f e =
    element_stops _ _ c.own.new.self _ c.in_ok-own.own f c.in_ok-own.ensures.ok
    (subst (λ ds. Stops c.args.profile c.own.new.self.states (kid_places (places (40 - length c.own.new.self.path)) c.own.new.self.path 0 ds) f) c.kids_at.ensures
    (c.in_err-read_kids.ensures.fault f (search rules)))

pub read_element-returns-clause-ok : goal.read_element-returns-clause-ok
read_element-returns-clause-ok t c =
    element_read _ _ c.own.new.self _ _ c.in_ok-own.own _ c.in_ok-own.ensures.ok
    (subst (λ ds. AreRead c.args.profile c.own.new.self c.read_kids.new.walk ds c.in_ok-read_kids.field-0) c.kids_at.ensures c.in_ok-read_kids.ensures.ok)

pub read_kids-returns-in_err-read_element-clause-fault : goal.read_kids-returns-in_err-read_element-clause-fault
read_kids-returns-in_err-read_element-clause-fault t c f e =
    let values = c.args.values.now in
    let i = c.loop-value.value-index in
    let these : drop i values ≡ c.value-item.result ∷ drop (i + 1) values = drop_more values i c.value-item.result (search rules) ∙ ap (λ v. v ∷ drop (i + 1) values) (search rules) in
    kid_stops _ _ c.loop-value.walk _ _ _ i c.loop-value.kids c.push.new.self f
    (subst (λ vs. AreReading c.args.profile c.args.walk.now c.loop-value.walk (items_view values) (items_view vs) i c.loop-value.kids) these c.loop-value.invariant.0)
    c.requires.shallow (search rules) (c.in_err-read_element.ensures.fault f (search rules))

pub read_kids-loop-value-preserved : goal.read_kids-loop-value-preserved
read_kids-loop-value-preserved t c =
    let values = c.args.values.now in
    let i = c.loop-value.value-index in
    let these : drop i values ≡ c.value-item.result ∷ drop (i + 1) values = drop_more values i c.value-item.result (search rules) ∙ ap (λ v. v ∷ drop (i + 1) values) (search rules) in
    let read = subst (λ vs. AreReading c.args.profile c.args.walk.now c.loop-value.walk (items_view values) (items_view vs) i c.loop-value.kids) these c.loop-value.invariant.0 in
    let added = kid_read _ _ c.loop-value.walk _ c.read_element.new.walk _ _ _ i c.loop-value.kids c.in_ok-read_element.field-0 read c.requires.shallow
    (search rules) (search rules) c.in_ok-read_element.ensures.ok (record { path = c.pop.new.self; states = c.read_element.new.walk.states }) (i + 1)
    (popped c.pop.result c.read_element.new.walk.path c.pop.new.self c.loop-value.walk.path i c.pop.ensures (search rules)) (search rules) (omega arith) in
    (subst (λ kids. AreReading c.args.profile c.args.walk.now (record { path = c.pop.new.self; states = c.read_element.new.walk.states }) (items_view values) (items_view (drop (i + 1) values)) (i + 1) kids) (search rules) added, search rules)
