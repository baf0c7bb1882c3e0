-- How a history keeps its entries. Only private clauses and proofs cite this. This host's own rule.
use Rattle.std.specs.Prelude.{ℕ, ◌≡◌, ◌<◌, ◌-◌, List, [], get_or, length, map, vec_capacity}
use Rattle.std.specs.List.{AllByRecursion}
use Rattle.std.proofs.Common.{min}
use Rattle.sc_types.specs.declared.command.Command.{Command}
use Rattle.sc_types.specs.declared.command.Command.TheVariants.{Post, Step}
use Rattle.sc_types.specs.declared.command.Reply.{Reply}
use Rattle.sc_types.specs.declared.command.Reply.TheVariants.{Posted, Stepped}
use Rattle.sc_types.specs.declared.history.Entry.{Entry}
use Rattle.sc_types.specs.declared.history.Who.TheVariants.{Worker}
use Rattle.sc_types.specs.declared.session.CueName.TheVariants.{Fresh}
use Rattle.sc_machine.specs.Accepted.{accepted_steps}
use Rattle.sc_core.specs.Showing.{posted_entry, stepped_entry}
use Rattle.sc_core.specs.declared.kept.Kept.{Kept}
use Rattle.sc_core.specs.declared.kept.Kept.TheVariants as kept
use Rattle.sc_core.specs.declared.kept.Store.{Store}

-- an entry that has a short form

abbrev pub IsPlain : Command → Reply → Type 0
IsPlain (Post session event pairs) (Posted number) = pairs ≡ []
IsPlain (Step session) (Stepped cue) = Unit {0}
IsPlain command reply = ⊥

pub record IsShort (e : Entry) : Type 0 where
  pub logs : e.logs ≡ []
  pub sent : e.sent ≡ []
  pub plain : IsPlain e.command e.reply

-- the entry that is kept so, beside these that are kept whole
abbrev pub entry_of : List Entry → Kept → Entry
entry_of whole (kept.Posted who session event number) = posted_entry who session event number
entry_of whole (kept.Stepped who session cue) = stepped_entry who session cue
entry_of whole (kept.Whole place) = get_or whole place (stepped_entry Worker [] Fresh)

-- one that is kept whole has its place among so many
abbrev pub IsWithin : ℕ → Kept → Type 0
IsWithin count (kept.Posted who session event number) = Unit {0}
IsWithin count (kept.Stepped who session cue) = Unit {0}
IsWithin count (kept.Whole place) = place < count

abbrev pub entries_of : Store → List Entry
entries_of s = map (entry_of s.whole.items) s.kept.items

abbrev pub AreWithin : Store → Type 0
AreWithin s = AllByRecursion (IsWithin (length s.whole.items)) s.kept.items

-- for how many more there is room
abbrev pub spare_of : Store → ℕ
spare_of s = min (vec_capacity s.kept - length s.kept.items) (vec_capacity s.whole - length s.whole.items)

-- a history's store, and how many of its entries are steps that were accepted
pub record IsKept (s : Store) (count : ℕ) : Type 0 where
  pub within : AreWithin s
  pub steps : count ≡ accepted_steps (entries_of s)
