-- How a turn is put into the host machine. This host's own rule; only private clauses cite these definitions.
use Rattle.std.specs.Prelude.{ℕ, List, [], ◌∷◌}
use Rattle.sc_types.specs.declared.session.Cue.{Cue}
use Rattle.sc_types.specs.declared.session.Cue.TheVariants.{External}
use Rattle.sc_types.specs.declared.session.SessionState.{SessionState}
use Rattle.sc_core.specs.declared.change.Change.{Change}
use Rattle.sc_core.specs.declared.change.Change.TheVariants.{PutState, TakeFront}

-- an external event leaves the queue as it becomes the cue
abbrev pub taken_front : {P : Type 0} → ℕ → Cue → List (Change P)
taken_front place (External e) = TakeFront place ∷ []
taken_front place cue = []

-- the state after the turn is put in
abbrev pub put_changes : {P : Type 0} → ℕ → Cue → SessionState → List (Change P)
put_changes place cue after = PutState place after ∷ taken_front place cue
