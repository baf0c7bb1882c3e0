-- What is prepared for a command is its answer.
use Rattle.std.proofs.Common.{Option, ◌≡◌, ℕ, ◌+◌, ◌^◌, ◌<◌, ◌||◌, suc, not, nat_lt, Bool, true, false, cond, is_some, Some, None, List, [], ◌∷◌, length, position, refl, arith, ap, subst, sym, ◌∙◌}
use Rattle.std.proofs.lemmas.Bool.Decides.{nat_tests}
use Rattle.std.specs.List.{list_any, position_or_len}
use Rattle.sc_types.specs.declared.command.Reply.{Reply}
use Rattle.sc_types.specs.declared.host.HostImage.{HostImage}
use Rattle.sc_machine.specs.Commands.{accepted}
use Rattle.sc_machine.specs.Hosts.{chart_place, has_chart, is_chart_named}
use Rattle.sc_core.specs.Installing.{AreRoomy, CanApply, CanApplyAll, HasTarget, HaveTargets, IsRoomy, apply, installed, new_rooms}
use Rattle.sc_core.specs.Preparing.{Prepares}
use Rattle.sc_core.specs.declared.change.Change.{Change}
use Rattle.sc_core.specs.declared.change.Change.TheVariants.{Count, Advance, Install, Start, Bear, PutState, TakeFront, Queue, Tell, Flag, CutOff, DropInvoke, End, Delay, Undo, Lose}
use Rattle.sc_core.specs.declared.prepared.Prepared.{Prepared}

same_less : (m n : ℕ) → nat_lt (1 + m) (suc n) ≡ nat_lt m n
same_less m n = grind (arith, nat_tests)

-- there is a place where one passes
pub some_position : {X : Type 0} (p : X → Bool) (xs : List X) → is_some (position p xs) ≡ list_any p xs
some_position {X = X} p xs = some (nat_lt (position_or_len p xs) (length xs)) ∙ any xs
  where
    some : (b : Bool) → is_some (cond b (Some (position_or_len p xs)) None) ≡ b
    some true = refl
    some false = refl

    any : (ys : List X) → nat_lt (position_or_len p ys) (length ys) ≡ list_any p ys
    any [] = refl
    any (y ∷ ys) = by (p y) (any ys)
      where
        by : (b : Bool) → nat_lt (position_or_len p ys) (length ys) ≡ list_any p ys
            → nat_lt (cond (not b) (1 + position_or_len p ys) 0) (suc (length ys)) ≡ (b || list_any p ys)
        by true h = grind (arith, nat_tests)
        by false h = same_less (position_or_len p ys) (length ys) ∙ h

-- a queue that gets an event is there
pub roomy_of : {P : Type 0} (g : HostImage) (count : ℕ) (rooms : List ℕ) (c : Change P) → CanApply g c
    → IsRoomy (length g.sessions) count rooms c
roomy_of g count rooms Count can = tt
roomy_of g count rooms (Advance clock) can = tt
roomy_of g count rooms (Install name chart) can = tt
roomy_of g count rooms (Start name session) can = tt
roomy_of g count rooms (Bear invoker name session) can = tt
roomy_of g count rooms (PutState place state) can = tt
roomy_of g count rooms (TakeFront place) can = tt
roomy_of g count rooms (Queue place e) can = λ past. absurd (omega (arith, can.0, past))
roomy_of g count rooms (Tell place e) can = tt
roomy_of g count rooms (Flag place) can = tt
roomy_of g count rooms (CutOff place) can = tt
roomy_of g count rooms (DropInvoke place child) can = tt
roomy_of g count rooms (End place) can = tt
roomy_of g count rooms (Delay send) can = tt
roomy_of g count rooms (Undo session id) can = tt
roomy_of g count rooms Lose can = tt

-- one change, and the command is counted
pub accepts : {P : Type 0} (g h : HostImage) (c : Change P) (reply : Reply) (p : Prepared P)
    → p.changes ≡ c ∷ Count ∷ [] → p.reply ≡ reply → p.logs ≡ [] → p.sent ≡ [] → CanApply g c
    → HasTarget (length g.sessions) c → apply c g ≡ h
    → h.commands + 1 < 2 ^ 64 → Prepares (accepted h reply [] []) g p
accepts g h c reply p changes replied logs sent can target is less = record {
  host = ap (λ cs. installed cs g) changes ∙ ap (λ (k : HostImage). record k { commands = k.commands + 1 }) is;
  reply = replied;
  logs = logs;
  sent = sent;
  can = subst (CanApplyAll g) (sym changes) (can, (subst (λ (k : HostImage). k.commands + 1 < 2 ^ 64) (sym is) less, tt));
  targets = subst (HaveTargets (length g.sessions)) (sym changes) (target, (tt, tt));
  roomy = subst (AreRoomy (length g.sessions)) (sym changes) (roomy_of g 2 (new_rooms (c ∷ Count ∷ [])) c can, (tt, tt));
}

-- a name of no chart has no place
pub no_chart : (g : HostImage) (name : List ℕ) → has_chart g name ≡ false → chart_place g name ≡ None
no_chart g name none = by (chart_place g name) (some_position (is_chart_named name) g.charts)
  where
    by : (o : Option ℕ) → is_some o ≡ has_chart g name → o ≡ None
    by None is = refl
    by (Some i) is = absurd (let no : true ≡ false = is ∙ none in cc)
