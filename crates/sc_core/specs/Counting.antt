-- How many sends of a session have an id, as a step's changes go on. This host's own rule; only private clauses cite
-- these definitions.
use Rattle.std.specs.Prelude.{ℕ, ◌+◌, ◌&&◌, if◌then◌else◌, List}
use Rattle.std.specs.Str.{bytes_eq}
use Rattle.sc_types.specs.Sends.{is_send}
use Rattle.sc_core.specs.declared.change.Change.{Change}
use Rattle.sc_core.specs.declared.change.Change.TheVariants.{Delay, Undo}

-- after one change
abbrev pub count_after : {P : Type 0} → List ℕ → List ℕ → Change P → ℕ → ℕ
count_after session id (Delay send) n = if is_send session id send then n + 1 else n
count_after session id (Undo of undone) n = if bytes_eq of session && bytes_eq undone id then 0 else n
count_after session id c n = n
