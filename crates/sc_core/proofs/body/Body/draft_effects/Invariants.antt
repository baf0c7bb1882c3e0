use Rattle.std.proofs.Common.{◌≡◌, ◌+◌, ◌≤◌, length}
use Rattle.std.specs.Vec.Iter.{into_iter_items, into_iter_len}
use Rattle.sc_types.specs.declared.host.HostImage.{HostImage}
use Rattle.sc_core.specs.Bodies.{image}
use Rattle.sc_machine.specs.Deliveries.{deliver_all}
use Rattle.sc_core.specs.Drafts.{IsBase, stepper}
use Rattle.sc_core.proofs.TurnedLemmas.{DraftsOn}
use Rattle.sc_core.proofs.body.Body.draft_effects.Given as goal

abbrev pub invariant-loop-effect : goal.invariant-loop-effect
invariant-loop-effect g l = record {
  len : length (into_iter_items l.effect-iterator) ≡ into_iter_len l.effect-iterator;
  numbers : l.draft.events + length (into_iter_items l.effect-iterator) ≤ l.fn.self.events + length l.fn.effects;
  drafts : (h : HostImage) → IsBase (image l.self) l.place l.after h
      → DraftsOn (stepper l.after.session l.place) h l.place l.draft (into_iter_items l.effect-iterator)
      (deliver_all h l.place l.fn.effects);
}
