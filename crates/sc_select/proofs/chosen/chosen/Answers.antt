use Rattle.std.proofs.Common.{List, ℕ, ◌≡◌, ◌<◌, [], All, filter, length, option_copied, refl, ap, subst, sym, ◌∙◌}
use Rattle.std.proofs.lemmas.List.Elements.{All-nil}
use Rattle.sc_law.specs.Kinds.{is_atomic}
use Rattle.sc_law.specs.Selection.{chosen_from}
use Rattle.sc_law.specs.Transitions.{transition_paths}
use Rattle.sc_exec.proofs.Kept.{kept_then}
use Rattle.sc_exec.specs.Runs.{running_of}
use Rattle.sc_sets.proofs.Members.{all_from, from_on}
use Rattle.sc_select.proofs.ChoiceLemmas.{choice-end, choice-next}
use Rattle.sc_select.proofs.RunLemmas.{run_has_ids, run_kept}
use Rattle.sc_select.proofs.chosen.chosen.Goals as goal

pub loop-s-init : goal.loop-s-init
loop-s-init c =
    let k = c.args.t.now in
    let event = option_copied c.args.event in
    let ms = c.args.run.now.env.configuration.members in
    record {
      steps =
          ap (λ (xs : List ℕ). chosen_from k event xs (filter (is_atomic k) (from_on 0 ms))
          (running_of c.args.run.now)) c.new-chosen.ensures
          ∙ ap (λ ss. chosen_from k event [] (filter (is_atomic k) ss) (running_of c.args.run.now)) (all_from ms);
      within = subst (λ (ts : List ℕ). All (λ tr. tr < length (transition_paths k)) ts) (sym c.new-chosen.ensures)
          (All-nil (λ (tr : ℕ). tr < length (transition_paths k)));
      kept = record { configuration = refl; ids = refl; entered = refl; todo = refl };
      run = c.requires.run;
    }

pub add_choice-requires-clause-ids : goal.add_choice-requires-clause-ids
add_choice-requires-clause-ids c = run_has_ids c.args.t.now c.loop-s.run c.loop-s.invariant.run

pub loop-s-preserved : goal.loop-s-preserved
loop-s-preserved c =
    let k = c.args.t.now in
    let event = option_copied c.args.event in
    let conf : c.loop-s.run.env.configuration ≡ c.args.run.now.env.configuration =
    c.loop-s.invariant.kept.configuration in
    record {
      steps = choice-next k event c.loop-s.chosen c.add_choice.new.chosen c.args.run.now.env.configuration.members
          c.args.run.now.env.configuration.width
          c.loop-s.from c.in-Some.s (running_of c.loop-s.run) (running_of c.add_choice.new.run)
          (rw conf at c.in-Some.ensures.form)
          (rw conf at c.in-Some.ensures.value) c.in-Some.ensures.within.0 c.in_ok-add_choice.ensures.ok
          ∙ c.loop-s.invariant.steps;
      within = c.in_ok-add_choice.ensures.within;
      kept = kept_then c.args.run.now c.loop-s.run c.add_choice.new.run c.loop-s.invariant.kept
          c.in_ok-add_choice.ensures.kept;
      run = run_kept k c.loop-s.run c.add_choice.new.run c.loop-s.invariant.run c.in_ok-add_choice.ensures.kept;
    }

pub returns-clause-ok : goal.returns-clause-ok
returns-clause-ok c =
    let conf : c.loop-s.run.env.configuration ≡ c.args.run.now.env.configuration =
    c.loop-s.invariant.kept.configuration in
    sym c.loop-s.invariant.steps
    ∙ choice-end c.args.t.now (option_copied c.args.event) c.loop-s.chosen c.args.run.now.env.configuration.members
    c.loop-s.from
    (running_of c.loop-s.run) (rw conf at c.in_default.ensures.value)
