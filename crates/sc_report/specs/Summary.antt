-- The summary of the run of a drawn script. This host's own rule.
use Rattle.std.specs.Prelude.{ℕ, ℤ, pos, ◌+ℤ◌, Bool, if◌then◌else◌, Option, Some, List, [], ◌∷◌, ◌++◌, length, decimal, codes}
use Rattle.std.specs.Fmt.{signed_decimal}
use Rattle.std.specs.List.{list_any}
use Rattle.std.specs.Str.{bytes_eq}
use Rattle.sc_types.specs.declared.history.Entry.{Entry}
use Rattle.sc_types.specs.declared.host.HostImage.{HostImage}
use Rattle.sc_types.specs.declared.host.SessionImage.{SessionImage}
use Rattle.sc_types.specs.declared.session.Phase.{Phase}
use Rattle.sc_types.specs.declared.session.Phase.TheVariants as phase
use Rattle.sc_types.specs.declared.value.Value.{Value}
use Rattle.sc_types.specs.declared.value.Value.TheVariants.{Int}
use Rattle.sc_machine.specs.Accepted.{accepted_steps}
use Rattle.sc_report.specs.declared.end.End.{End}
use Rattle.sc_report.specs.Lines.{line}
use Rattle.sc_report.specs.Report.{end_word}

-- the sessions of a drawn script
abbrev pub drawn_names : List (List ℕ)
drawn_names = codes "g0" ∷ codes "g1" ∷ codes "g2" ∷ codes "g3" ∷ codes "g4" ∷ codes "g5" ∷ codes "g6" ∷ codes "g7" ∷ []

abbrev pub is_drawn : List ℕ → Bool
is_drawn name = list_any (bytes_eq name) drawn_names

-- what is no integer counts nothing
abbrev pub integer_of : Option Value → ℤ
integer_of (Some (Int n)) = n
integer_of v = pos 0

-- the integer of the datum `n`
abbrev pub counted : List (List ℕ × Option Value) → ℤ
counted [] = pos 0
counted (d ∷ ds) = if bytes_eq d.0 (codes "n") then integer_of d.1 else counted ds

-- a session that has ended counts nothing
abbrev pub counted_live : Phase → List (List ℕ × Option Value) → ℤ
counted_live (phase.Ended how) values = pos 0
counted_live phase.Fresh values = counted values
counted_live phase.Running values = counted values

-- nor does one of another name
abbrev pub counted_of : SessionImage → ℤ
counted_of s = if is_drawn s.state.session then counted_live s.state.phase s.state.values else pos 0

abbrev pub total : List SessionImage → ℤ
total [] = pos 0
total (s ∷ ss) = counted_of s +ℤ total ss

-- the number that the script was drawn from, and how many commands it drew; how many entries the history has, how many
-- steps the host accepted, and what the sessions counted; and the word for how the run ended
abbrev pub summary : ℕ → ℕ → HostImage → List Entry → End → List ℕ
summary number size g history end =
    line (codes "gen " ++ decimal number ++ codes " " ++ decimal size)
    ++ line (codes "entries " ++ decimal (length history) ++ codes " steps " ++ decimal (accepted_steps history)
    ++ codes " sum " ++ signed_decimal (total g.sessions))
    ++ line (codes "end " ++ end_word end)
