-- Changes that are made after others.
use Rattle.std.proofs.Common.{◌≡◌, ℕ, List, [], ◌∷◌, ◌++◌, refl}
use Rattle.sc_types.specs.declared.chart.Chart.{Chart}
use Rattle.sc_types.specs.declared.host.HostImage.{HostImage}
use Rattle.sc_core.specs.HostStates.{ArePlanned}
use Rattle.sc_core.specs.Installing.{CanApplyAll, HaveTargets, apply, installed}
use Rattle.sc_core.specs.declared.change.Change.{Change}
use Rattle.sc_core.specs.declared.change.Change.TheVariants.{Count, Advance, Install, Start, Bear, PutState, TakeFront, Queue, Tell, Flag, CutOff, DropInvoke, End, Delay, Undo, Lose}

-- they are made of the host machine that the others leave
pub installed_more : {P : Type 0} (cs ds : List (Change P)) (g : HostImage)
    → installed (cs ++ ds) g ≡ installed ds (installed cs g)
installed_more [] ds g = refl
installed_more (c ∷ cs) ds g = installed_more cs ds (apply c g)

-- they can be made of it
pub can_more : {P : Type 0} (cs ds : List (Change P)) (g : HostImage) → CanApplyAll g cs
    → CanApplyAll (installed cs g) ds → CanApplyAll g (cs ++ ds)
can_more [] ds g before after = after
can_more (c ∷ cs) ds g before after = (before.0, can_more cs ds (apply c g) before.1 after)

-- their targets are there
pub targets_more : {P : Type 0} (cs ds : List (Change P)) (n : ℕ) → HaveTargets n cs → HaveTargets n ds
    → HaveTargets n (cs ++ ds)
targets_more [] ds n before after = after
targets_more (c ∷ cs) ds n before after = (before.0, targets_more cs ds n before.1 after)

-- the charts that they install have plans
pub planned_more : {P : Type 0} (chart_of : P → Chart) (cs ds : List (Change P)) → ArePlanned chart_of cs
    → ArePlanned chart_of ds → ArePlanned chart_of (cs ++ ds)
planned_more f [] ds before after = after
planned_more f (Install name chart ∷ cs) ds before after = (before.0, planned_more f cs ds before.1 after)
planned_more f (Count ∷ cs) ds before after = planned_more f cs ds before after
planned_more f (Advance clock ∷ cs) ds before after = planned_more f cs ds before after
planned_more f (Start name session ∷ cs) ds before after = planned_more f cs ds before after
planned_more f (Bear invoker name session ∷ cs) ds before after = planned_more f cs ds before after
planned_more f (PutState place state ∷ cs) ds before after = planned_more f cs ds before after
planned_more f (TakeFront place ∷ cs) ds before after = planned_more f cs ds before after
planned_more f (Queue place e ∷ cs) ds before after = planned_more f cs ds before after
planned_more f (Tell place e ∷ cs) ds before after = planned_more f cs ds before after
planned_more f (Flag place ∷ cs) ds before after = planned_more f cs ds before after
planned_more f (CutOff place ∷ cs) ds before after = planned_more f cs ds before after
planned_more f (DropInvoke place child ∷ cs) ds before after = planned_more f cs ds before after
planned_more f (End place ∷ cs) ds before after = planned_more f cs ds before after
planned_more f (Delay send ∷ cs) ds before after = planned_more f cs ds before after
planned_more f (Undo session id ∷ cs) ds before after = planned_more f cs ds before after
planned_more f (Lose ∷ cs) ds before after = planned_more f cs ds before after
