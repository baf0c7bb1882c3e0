-- `Boxed<T>` as a container of the one value of a type that reaches itself through it, as `Expr` does through its
-- operands: seen from outside it is the value itself.
use mathlib.Core.Path.{refl}
use mathlib.Core.Former.{Former, this, const, pair, via}
use base.Stored.{gnil}
use base.Fml.{ftrue}
use denote.RattleType.{RattleType}
use denote.Memory.{part_of}
use denote.RawPtr.{Ptr}
use denote.Sharing.{nothing}
use denote.HoleLaws.{Alike}
use denote.HolePlaces.{Recodes, struct_places, laid, one_value}
use denote.Hole.Fix.{over}
use denote.Param.Weighed.{Weighed}
use denote.Model.Placed.{view_places}
use Rattle.std.specs.declared.boxed.Box.{Box}
use Rattle.std.specs.contracts.boxed.Box as box
use Rattle.std.specs.declared.alloc.Global.{Global}
use Rattle.std.specs.contracts.alloc.Global as heap
use Rattle.std.specs.contracts.impls.GlobalAllocator.TheImpl.{ghosts}
use Rattle.sc_base.specs.declared.boxed.Boxed.TheInside.{Inside}
use Rattle.sc_base.specs.declared.boxed.Boxed.TheView.{view, invariant}
use Rattle.sc_base.specs.contracts.boxed.Boxed as boxed
use Rattle.sc_base.specs.contracts.boxed.Boxed.TheInside as inside

-- what the type is, seen from outside: its value
abbrev pub the_former : Former {0} → Former {0}
the_former value = value

abbrev pub the_weighed : {value : Former {0}} → Weighed value → Weighed (the_former value)
the_weighed weight = weight

-- the one field, a `Box`: where it lies, what made it, and the value in it
abbrev field : Former {0}
field = via (pair (const (Ptr × Global)) this) Inside (λ X s. ((s.inner.ptr, s.inner.alloc), s.inner.value))
    (λ X v. record { inner = record { ptr = v.0.0; alloc = v.0.1; value = v.1 } }) (λ X s. refl) (λ X v. refl)

abbrev holding : {X Y : Type 0} → Box X Global → Y → Box Y Global
holding b value = record { ptr = b.ptr; alloc = b.alloc; value = value }

abbrev box_row : RattleType → RattleType
box_row R = box.the_row R heap.the_row ghosts

-- a change of the value's type changes nothing of how the box lies in memory
module _ (R S : RattleType) (h : R.Denot → S.Denot) where
  box_places : Alike R S h → Alike (box_row R) (box_row S) (λ b. holding b (h b.value))
  unfolding part_of
  box_places a = record {
    mir_same = λ i. (box_row (one_value R (a.mir_same i) (λ _. ftrue) (λ _ _. nothing) gnil)).mir;
    own_same = λ b i.
        (box_row (one_value R (a.mir_same i) (a.own_same b.value i) (a.shr_same b.value i) gnil)).own_val (holding b tt);
    shr_same = λ b i. (box_row (one_value R (a.mir_same i) (a.own_same b.value i) (a.shr_same b.value i) gnil)).shr_at
        (holding b tt);
  }

  pub the_places : Alike R S h → Alike (boxed.the_row R) (boxed.the_row S) ((the_former this).map R.Denot S.Denot h)
  the_places a = view_places field this view (λ X Y k u. refl) (λ X u. refl) R.Denot S.Denot h
      (boxed.the_row R).coded (boxed.the_row S).coded (invariant R.Denot) (invariant S.Denot)
      (λ u p q. refl) (λ u p q. refl) (λ u e. tt) (λ u e. tt) (over (inside.the_row R)) (over (inside.the_row S))
      (struct_places (inside.the_type R) (inside.the_type S) ((λ b. holding b (h b.value)), tt) _ (λ d. refl) refl
      (laid _ _ _ (box_places a), tt))

  pub the_codes_placed : Recodes R S h
      → Recodes (boxed.the_row R) (boxed.the_row S) ((the_former this).map R.Denot S.Denot h)
  the_codes_placed e d = e d
