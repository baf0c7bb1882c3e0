-- Changes whose sessions have more room than others. This host's own rule; only private clauses cite these definitions.
use Rattle.std.specs.Prelude.{ℕ, ◌≡◌, ◌≤◌, nat_le, Bool, false, List, [], ◌∷◌}
use Rattle.std.specs.List.{list_any}
use Rattle.sc_core.specs.declared.change.Change.{Change}
use Rattle.sc_core.specs.declared.change.Change.TheVariants.{Bear, Queue, Start}
use Rattle.sc_core.specs.declared.session.Session.{Session}

-- the same session, but for the room of its external queue
pub record IsRoomier (s w : Session) : Type 0 where
  pub spare : ℕ
  pub is : w ≡ record s { queued = record s.queued { spare = spare } }

-- the same change, but for the room of the session that it starts
pub data IsAlike {P : Type 0} (c d : Change P) : Type 0 where
  same : d ≡ c → IsAlike c d
  born : (invoker : ℕ) (name : List ℕ) (s w : Session) → c ≡ Bear invoker name s → d ≡ Bear invoker name w
      → IsRoomier s w → IsAlike c d
  started : (name : List ℕ) (s w : Session) → c ≡ Start name s → d ≡ Start name w → IsRoomier s w → IsAlike c d

abbrev pub AreAlike : {P : Type 0} → List (Change P) → List (Change P) → Type 0
AreAlike [] [] = Unit {0}
AreAlike [] (d ∷ ds) = ⊥
AreAlike (c ∷ cs) [] = ⊥
AreAlike (c ∷ cs) (d ∷ ds) = IsAlike c d × AreAlike cs ds

-- there is room for so many events in the session that a change starts
abbrev pub HasNewRoom : {P : Type 0} → ℕ → Change P → Type 0
HasNewRoom count (Bear invoker name session) = count ≤ session.queued.spare
HasNewRoom count (Start name session) = count ≤ session.queued.spare
HasNewRoom count c = Unit {0}

-- a change puts an event into the external queue of a session that stands at a place or behind it
abbrev pub is_past : {P : Type 0} → ℕ → Change P → Bool
is_past first (Queue place e) = nat_le first place
is_past first c = false

abbrev pub has_past : {P : Type 0} → ℕ → List (Change P) → Bool
has_past {P = P} first cs = list_any (λ (c : Change P). is_past first c) cs
