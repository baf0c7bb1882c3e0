-- What a journal has acknowledged, and what a stop may leave of it. This host's own rule.
use Rattle.std.specs.Prelude.{◌≡◌, ◌⊎◌, ℕ, ◌+◌, ◌^◌, ◌<◌, Option, None, Some, List, [], ◌∷◌, ◌++◌, length}
use Rattle.sc_dev.specs.Disks.{DiskLaw, DiskOf}
use Rattle.sc_journal.specs.Texts.{HeadOf, front, Holds, HoldsWith}

-- a journal: its disk, the place of its closed gate, the number of the next entry, and the body that a fault left in
-- doubt
pub record JournalOf (D : Type 0) : Type 0 where
  pub disk : D
  pub end : ℕ
  pub next : ℕ
  pub doubt : Option (List ℕ)

-- what an image has where this is in doubt: the bodies, and where an entry is in doubt, that too or not
abbrev pub StandsAt : Option (List ℕ) → HeadOf → List (List ℕ) → DiskOf → Type 0
StandsAt None head bodies c = Holds head bodies c.journal
StandsAt (Some body) head bodies c = HoldsWith head bodies body c.journal

-- The journal has acknowledged these bodies: every stop leaves them, with the one in doubt or without.
pub record Keeps {D : Type 0} (law : DiskLaw D) (j : JournalOf D) (head : HeadOf)
    (bodies : List (List ℕ)) : Type 0 where
  pub told : law.tells
  pub next : j.next ≡ head.first + length bodies
  pub end : j.end ≡ length (front head bodies)
  pub images : (c : DiskOf) → law.may_leave j.disk c → StandsAt j.doubt head bodies c

-- an image has these bodies, or these and one more
abbrev pub IsWithOrWithout : HeadOf → List (List ℕ) → List ℕ → DiskOf → Type 0
IsWithOrWithout head bodies body c = Holds head bodies c.journal ⊎ Holds head (bodies ++ body ∷ []) c.journal

-- an image has these bodies, or, where an entry is in doubt, these and that one
abbrev pub IsAsDoubted : Option (List ℕ) → HeadOf → List (List ℕ) → DiskOf → Type 0
IsAsDoubted None head bodies c = Holds head bodies c.journal
IsAsDoubted (Some body) head bodies c = IsWithOrWithout head bodies body c

-- an entry with a body of so many bytes would end past 2^40, its closed gate counted, or its number pass 2^48
abbrev pub IsFull : ℕ → ℕ → ℕ → Type 0
IsFull end next size = (2 ^ 40 < end + 6 + size) ⊎ (2 ^ 48 < next)
