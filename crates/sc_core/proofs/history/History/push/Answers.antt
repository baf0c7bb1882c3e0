use Rattle.std.proofs.Common.{◌≡◌, ◌+◌, [], ◌∷◌, ◌++◌, ap, arith, refl}
use Rattle.sc_machine.specs.Accepted.{accepted_steps}
use Rattle.sc_core.specs.Keeping.{entries_of}
use Rattle.sc_core.proofs.KeptLemmas.{no_step_more, one_step_more}
use Rattle.sc_core.proofs.history.History.push.Goals as goal
use Rattle.sc_core.proofs.history.History.push.Goals.{else-is_accepted_step, then-is_accepted_step}

pub invariant_of-self : goal.invariant_of-self
invariant_of-self c =
    let h = c.if-is_accepted_step.self-inside in
    let before = entries_of h.store in
    let new : accepted_steps (entries_of c.push.new.self) ≡ accepted_steps (before ++ c.args.entry ∷ []) = ap accepted_steps c.push.ensures.entries in
    let old = c.self.invariant.steps in
    record {
      within = c.push.ensures.within;
      steps = elim c.if-is_accepted_step.branch [
        | then-is_accepted_step w ↦
            let more = one_step_more before c.args.entry (cc) in
            let same : accepted_steps before ≡ accepted_steps (entries_of c.self.inside.store) = rw (w.self-inside-is) refl in
            let steps : h.steps ≡ c.self.inside.steps + 1 = rw (w.self-inside-is) refl in
            omega (arith, new, old, more, same, steps)
        | else-is_accepted_step w ↦
            let more = no_step_more before c.args.entry (cc) in
            let same : accepted_steps before ≡ accepted_steps (entries_of c.self.inside.store) = rw (w.self-inside-is) refl in
            let steps : h.steps ≡ c.self.inside.steps = rw (w.self-inside-is) refl in
            omega (arith, new, old, more, same, steps)
      ];
    }
