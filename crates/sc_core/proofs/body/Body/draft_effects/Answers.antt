use Rattle.std.proofs.Common.{◌≡◌, ◌<◌, ◌∷◌, [], ◌+◌, List, length, subst, sym, ap, ◌∙◌, arith, rules}
use Rattle.std.specs.Vec.Iter.{into_iter_items}
use Rattle.sc_types.specs.declared.effect.Effect.{Effect}
use Rattle.sc_core.specs.Bodies.{image, session_image}
use Rattle.sc_machine.specs.Deliveries.{deliver_all}
use Rattle.sc_core.specs.Drafts.{stepper}
use Rattle.sc_core.proofs.SetLemmas.{map_long}
use Rattle.sc_core.proofs.TurnedLemmas.{DraftsOn, no_items, none_left, none_yet, one_on}
use Rattle.sc_core.proofs.body.Body.draft_effects.Goals as goal

pub loop-effect-init : goal.loop-effect-init
loop-effect-init g c =
    let items : into_iter_items c.into_iter-effect-iterator.result ≡ c.args.effects = search rules in
    record {
      len = search rules;
      numbers = omega (arith, ap length items, ap (λ d. d.events) c.new-draft.ensures);
      drafts = λ h base. subst
          (λ (xs : List Effect). DraftsOn (stepper c.args.after.now.session c.args.place) h c.args.place c.new-draft.result xs
          (deliver_all h c.args.place c.args.effects)) (sym items)
          (none_yet (image c.args.self.now) c.args.place c.args.after.now h c.new-draft.result c.args.effects base
          c.new-draft.ensures);
    }

pub draft_effect-requires-clause-number : goal.draft_effect-requires-clause-number
draft_effect-requires-clause-number g c =
    let items : into_iter_items c.loop-effect.effect-iterator ≡ c.in-Some.effect ∷ into_iter_items c.next.new.self
    = search rules in
    let count : length (into_iter_items c.loop-effect.effect-iterator) ≡ length (into_iter_items c.next.new.self) + 1
    = ap length items ∙ omega arith in
    omega (arith, c.loop-effect.invariant.numbers, count, c.requires.events)

pub loop-effect-preserved : goal.loop-effect-preserved
loop-effect-preserved g c =
    let was = c.loop-effect in
    let after = c.args.after.now in
    let rest = into_iter_items c.next.new.self in
    let items : into_iter_items was.effect-iterator ≡ c.in-Some.effect ∷ rest = search rules in
    let count : length (into_iter_items was.effect-iterator) ≡ length rest + 1 = ap length items ∙ omega arith in
    let long = map_long session_image c.args.self.now.sessions.items in
    let within : c.args.place < length (image c.args.self.now).sessions = omega (arith, c.requires.within, long) in
    record {
      len = omega (arith, was.invariant.len, count, c.in-Some.ensures.steps.1);
      numbers = omega (arith, was.invariant.numbers, count, c.in_ok-draft_effect.ensures.number);
      drafts = λ h base. one_on (image c.args.self.now) c.args.place after h was.draft _ c.in-Some.effect rest
          (deliver_all h c.args.place c.args.effects) base within c.in_ok-draft_effect.ensures.notes
          (subst (λ (xs : List Effect). DraftsOn (stepper after.session c.args.place) h c.args.place was.draft xs
          (deliver_all h c.args.place c.args.effects)) items (was.invariant.drafts h base));
    }

pub returns-clause-all : goal.returns-clause-all
returns-clause-all g c = λ h base.
    let was = c.loop-effect in
    let after = c.args.after.now in
    let items : into_iter_items was.effect-iterator ≡ [] =
    no_items (into_iter_items was.effect-iterator) (was.invariant.len ∙ c.in-None.ensures.steps.0) in
    none_left (stepper after.session c.args.place) h c.args.place was.draft (deliver_all h c.args.place c.args.effects)
    (subst (λ (xs : List Effect). DraftsOn (stepper after.session c.args.place) h c.args.place was.draft xs
    (deliver_all h c.args.place c.args.effects)) items (was.invariant.drafts h base))
