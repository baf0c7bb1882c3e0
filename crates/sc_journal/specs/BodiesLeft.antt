-- The bodies of a text that are not read yet. Only private clauses cite these definitions.
use Rattle.std.specs.Prelude.{◌≡◌, ℕ, suc, ◌+◌, ◌^◌, ◌<◌, ◌≤◌, Result, Ok, Err, List, [], length, drop}
use Rattle.sc_journal.specs.Texts.{Holds, entries_from, front}

-- A text whose entries begin at 20, the first with this number: it holds so many, up to a closed gate at this place.
pub record HasEntries (text : List ℕ) (first count end : ℕ) : Type 0 where
  pub bodies : List (List ℕ)
  pub are : entries_from (length text) first 20 (drop 20 text) ≡ Ok bodies
  pub many : length bodies ≡ count
  pub last : first + length bodies ≤ 2 ^ 48 + 1
  pub holds : Holds (record { format = 1; first = first }) bodies text
  pub is_end : end ≡ length (front (record { format = 1; first = first }) bodies)
  pub within : end < length text

-- a text whose entries begin at 20, with this number, holds so many bodies
pub record HasBodies (text : List ℕ) (first count : ℕ) : Type 0 where
  pub bodies : List (List ℕ)
  pub are : entries_from (length text) first 20 (drop 20 text) ≡ Ok bodies
  pub many : length bodies ≡ count

abbrev pub listed : Result (List (List ℕ)) ℕ → List (List ℕ)
listed (Ok bodies) = bodies
listed (Err at) = []

-- so many of them from this place on, the first with this number
abbrev pub bodies_left : ℕ → ℕ → ℕ → List ℕ → List (List ℕ)
bodies_left left number at text = listed (entries_from (suc left) number at (drop at text))

pub record AreLeft (left number at : ℕ) (text : List ℕ) : Type 0 where
  pub bodies : List (List ℕ)
  pub are : entries_from (suc left) number at (drop at text) ≡ Ok bodies
  pub many : length bodies ≡ left
