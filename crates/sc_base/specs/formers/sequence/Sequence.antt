-- `Sequence<T>` as a container of the values of a type that reaches itself through it, as `Node` does through
-- its child elements: such a type is a list of its values, and every law of lists holds of it.
use mathlib.Core.Path.{◌≡◌, refl, sym}
use mathlib.Core.List.{List, []}
use mathlib.Core.Former.{Former, this, list, via, children}
use base.Stored.{code_map}
use denote.RattleType.{RattleType}
use denote.HoleLaws.{Alike}
use denote.HolePlaces.{Recodes, struct_places, laid}
use denote.Hole.Carrier.{listed, list-listed}
use denote.Hole.Fix.{over}
use denote.Param.Weighed.{Weighed, w_list}
use denote.Model.Placed.{view_places}
use Rattle.std.specs.formers.vec.Vec as vec
use Rattle.std.specs.declared.alloc.Global.{Global}
use Rattle.std.specs.contracts.alloc.Global as heap
use Rattle.std.specs.contracts.impls.GlobalAllocator.TheImpl.{ghosts}
use Rattle.sc_base.specs.declared.sequence.Sequence.TheInside.{Inside}
use Rattle.sc_base.specs.declared.sequence.Sequence.TheView.{view, invariant}
use Rattle.sc_base.specs.contracts.sequence.Sequence as sequence
use Rattle.sc_base.specs.contracts.sequence.Sequence.TheInside as inside

-- what the type is, seen from outside: a list
abbrev pub the_former : Former {0} → Former {0}
the_former item = list item

abbrev pub the_weighed : {item : Former {0}} → Weighed item → Weighed (the_former item)
the_weighed weight = w_list weight

pub the_empty : List ⊥
the_empty = []

abbrev pub the_items : (X : Type 0) → List X → List X
the_items X items = items

pub the_items_listed : (X : Type 0) (items : List X) → listed _ (children (the_former this) X items) ≡ the_items X items
the_items_listed X items = list-listed X items

-- the one field, a `Vec`, and the list that it holds
abbrev field : Former {0}
field =
    via (vec.the_former this Global) Inside (λ X s. s.items) (λ X v. record { items = v }) (λ X s. refl) (λ X v. refl)

-- a change of the items' type changes nothing of how the list lies in memory
module _ (R S : RattleType) (h : R.Denot → S.Denot) where
  pub the_places : Alike R S h
      → Alike (sequence.the_row R) (sequence.the_row S) ((the_former this).map R.Denot S.Denot h)
  the_places a = view_places field (list this) view (λ X Y k u. refl) (λ X u. refl) R.Denot S.Denot h
      (sequence.the_row R).coded (sequence.the_row S).coded (invariant R.Denot) (invariant S.Denot)
      (λ u p q. refl) (λ u p q. refl) (λ u e. tt) (λ u e. tt) (over (inside.the_row R)) (over (inside.the_row S))
      (struct_places (inside.the_type R) (inside.the_type S) (vec.mapped h, tt) _ (λ d. refl) refl
      (laid _ _ _ (vec.the_places heap.the_row ghosts R S h a), tt))

  pub the_codes_placed : Recodes R S h
      → Recodes (sequence.the_row R) (sequence.the_row S) ((the_former this).map R.Denot S.Denot h)
  the_codes_placed e items = sym (code_map R.coded.code S.coded.code h (λ x. sym (e x)) items)
