use Rattle.std.proofs.Common.{◌≡◌, List, ℕ, All, ◌<◌, [], ◌∷◌, flat_map, length, option_copied, ap, subst, sym, ◌∙◌}
use Rattle.std.specs.Option.{option_map_or}
use Rattle.sc_law.specs.Selection.{first_enabled}
use Rattle.sc_law.specs.Transitions.{transition_paths, transitions_of}
use Rattle.sc_law.specs.Tree.{ancestors, state_count}
use Rattle.sc_exec.proofs.Kept.{has_ids, kept_then}
use Rattle.sc_exec.specs.Runs.{running_of}
use Rattle.sc_select.proofs.EnabledLemmas.{below-both, found-later, found-own, own-within, some-has}
use Rattle.sc_select.proofs.enabled.first_enabled.Goals as goal

pub first_of-requires-clause-trs : goal.first_of-requires-clause-trs
first_of-requires-clause-trs c =
    subst (λ (ts : List ℕ). All (λ tr. tr < length (transition_paths c.args.t.now)) ts) (sym c.transitions.ensures)
    (own-within c.args.t.now c.in-Some.state)

pub returns-then-is_some-clause-ok : goal.returns-then-is_some-clause-ok
returns-then-is_some-clause-ok c =
    let k = c.args.t.now in
    let event = option_copied c.args.event in
    let own : first_enabled k event (transitions_of k c.in-Some.state) (running_of c.loop-next.run)
    ≡ (c.in_ok-found.found, running_of c.first_of.new.run) =
    ap (λ ts. first_enabled k event ts (running_of c.loop-next.run)) (sym c.transitions.ensures)
    ∙ c.in_ok-found.ensures.ok in
    sym c.loop-next.invariant.steps
    ∙ ap (λ o. first_enabled k event (flat_map (transitions_of k) (option_map_or (λ p. p ∷ ancestors k p) o []))
    (running_of c.loop-next.run)) c.in-Some.is
    ∙ found-own k event c.in-Some.state c.in_ok-found.found (running_of c.loop-next.run) (running_of c.first_of.new.run)
    (sym c.is_some.ensures ∙ c.if-is_some.true) own

pub loop-next-preserved : goal.loop-next-preserved
loop-next-preserved c =
    let k = c.args.t.now in
    let event = option_copied c.args.event in
    let own : first_enabled k event (transitions_of k c.in-Some.state) (running_of c.loop-next.run)
    ≡ (c.in_ok-found.found, running_of c.first_of.new.run) =
    ap (λ ts. first_enabled k event ts (running_of c.loop-next.run)) (sym c.transitions.ensures)
    ∙ c.in_ok-found.ensures.ok in
    let here = some-has c.loop-next.next c.in-Some.state (state_count k) c.in-Some.is c.loop-next.invariant.within in
    record {
      within = below-both c.parent-next.result c.in-Some.state (state_count k) c.parent-next.ensures.within here;
      steps =
          found-later k event c.in-Some.state c.parent-next.result c.in_ok-found.found (running_of c.loop-next.run)
          (running_of c.first_of.new.run)
          (sym c.is_some.ensures ∙ c.if-is_some.false) own c.parent-next.ensures.above
          ∙ ap (λ o. first_enabled k event (flat_map (transitions_of k) (option_map_or (λ p. p ∷ ancestors k p) o []))
          (running_of c.loop-next.run)) (sym c.in-Some.is)
          ∙ c.loop-next.invariant.steps;
      kept = kept_then c.args.run.now c.loop-next.run c.first_of.new.run c.loop-next.invariant.kept
          c.in_ok-found.ensures.kept;
      ids = has_ids c.loop-next.run c.first_of.new.run c.loop-next.invariant.ids c.in_ok-found.ensures.kept;
    }
