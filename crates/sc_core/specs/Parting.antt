-- The children that a session leaves behind as it ends, before anything changes. This host's own rule; only private
-- clauses cite these definitions.
use Rattle.std.specs.Prelude.{ℕ, ◌≡◌, ◌==◌, ◌&&◌, ◌++◌, Bool, false, not, if◌then◌else◌, Option, Some, None, option_and_then, List, [], ◌∷◌, filter, map, slice_get}
use Rattle.std.specs.List.{list_any}
use Rattle.std.specs.Option.{option_map_or}
use Rattle.sc_types.specs.declared.history.Delivery.{Delivery}
use Rattle.sc_types.specs.declared.history.Delivery.TheVariants.{Flagged}
use Rattle.sc_types.specs.declared.host.HostImage.{HostImage}
use Rattle.sc_types.specs.declared.host.InvokerImage.{InvokerImage}
use Rattle.sc_machine.specs.Hosts.{is_live}
use Rattle.sc_core.specs.Installing.{CanApplyAll, HaveTargets, installed}
use Rattle.sc_core.specs.Preparing.{InstallNone}
use Rattle.sc_core.specs.declared.change.Change.{Change}
use Rattle.sc_core.specs.declared.change.Change.TheVariants.{CutOff}
use Rattle.sc_machine.specs.Endings.{end_at}
use Rattle.sc_core.specs.declared.draft.Draft.{Draft}
use Rattle.sc_core.specs.declared.draft.Placed.{Placed}
use Rattle.sc_core.specs.declared.session.Session.{Session}

-- a change cuts the session at a place off from its invoker
abbrev pub cuts : {P : Type 0} → ℕ → Change P → Bool
cuts place (CutOff cut) = cut == place
cuts place c = false

abbrev pub is_cut_in : {P : Type 0} → List (Change P) → ℕ → Bool
is_cut_in cs place = list_any (cuts place) cs

abbrev pub is_cut : Option InvokerImage → Bool
is_cut o = option_map_or (λ (i : InvokerImage). i.cut) o false

-- the child at a place lives once the session at another has ended, and the changes leave it bound
abbrev pub is_left : {P : Type 0} → List (Change P) → ℕ → ℕ → Session → Bool
is_left cs place child s =
    not (child == place) && (is_live s.state.phase && (not (is_cut s.invoker) && not (is_cut_in cs child)))

abbrev pub left_if : {P : Type 0} → List (Change P) → ℕ → ℕ → Session → Option Placed
left_if cs place child s =
    if is_left cs place child s then Some (record { name = s.state.session; place = child }) else None

-- of the children at places those that are left behind

abbrev pub put_left : Option Placed → List Placed → List Placed
put_left None rest = rest
put_left (Some b) rest = b ∷ rest

abbrev pub old_left : {P : Type 0} → List Session → List (Change P) → ℕ → List ℕ → List Placed
old_left items cs place [] = []
old_left items cs place (child ∷ more) =
    put_left (option_and_then (left_if cs place child) (slice_get items child)) (old_left items cs place more)

-- of those that are born
abbrev pub new_left : {P : Type 0} → List (Change P) → List Placed → List Placed
new_left cs births = filter (λ (b : Placed). not (is_cut_in cs b.place)) births

abbrev pub cut_changes : {P : Type 0} → List Placed → List (Change P)
cut_changes left = map (λ (b : Placed). CutOff b.place) left

abbrev pub cut_told : List Placed → List Delivery
cut_told left = map (λ (b : Placed). Flagged b.name) left

-- changes that can be made of a host machine stand behind others, and lead to another
pub record Adds {P : Type 0} (h : HostImage) (old new : List (Change P)) (k : HostImage) : Type 0 where
  pub more : List (Change P)
  pub changes : new ≡ old ++ more
  pub can : CanApplyAll h more
  pub targets : (n : ℕ) → HaveTargets n more
  pub none : InstallNone more
  pub host : installed more h ≡ k

-- what goes with the end of the session at a place was drafted
pub record DraftsEnd {P : Type 0} (h : HostImage) (place : ℕ) (old new : Draft P) : Type 0 where
  pub adds : Adds h old.changes new.changes (end_at h place).host
  pub sent : new.sent ≡ old.sent ++ (end_at h place).sent
