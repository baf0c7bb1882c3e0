-- What a turn keeps of a session.
use Rattle.std.proofs.Common.{◌≡◌, ◌-◌, Bool, true, false, refl}
use Rattle.sc_types.specs.declared.chart.Chart.{Chart}
use Rattle.sc_types.specs.declared.session.Cue.{Cue}
use Rattle.sc_types.specs.declared.session.Cue.TheVariants.{Cancel, External, Fresh, Resume}
use Rattle.sc_types.specs.declared.session.Phase.{Phase}
use Rattle.sc_types.specs.declared.session.Phase.TheVariants as phase
use Rattle.sc_types.specs.declared.session.SessionState.{SessionState}
use Rattle.sc_law.specs.Runs.{RunState}
use Rattle.sc_law.specs.Turn.{begin, external, finish, finish_rested, finish_settled, round_limit, settle, start, turn}

-- what a turn gives is the session with its name and its chart
pub record IsOf (before after : SessionState) : Type 0 where
  pub session : after.session ≡ before.session
  pub chart : after.chart ≡ before.chart

rested_of : (c : Chart) (before : SessionState) (stopped : Bool) (x : RunState) → IsOf before (finish_rested c before stopped x).after
rested_of c before true x = record { session = refl; chart = refl }
rested_of c before false x = record { session = refl; chart = refl }

settled_of : (c : Chart) (before : SessionState) (rested : Bool) (x : RunState) → IsOf before (finish_settled c before rested x).after
settled_of c before true x = rested_of c before x.running.stopped x
settled_of c before false x = record { session = refl; chart = refl }

finish_of : (c : Chart) (before : SessionState) (settled : Bool × RunState) → IsOf before (finish c before settled).after
finish_of c before settled = settled_of c before settled.0 settled.1

-- a turn keeps the session's name and its chart
pub turn-of : (c : Chart) (before : SessionState) (cue : Cue) → IsOf before (turn c before cue).after
unfolding turn
turn-of c before Fresh = finish_of c before (settle c (round_limit c) (start c before (begin c before)))
turn-of c before Resume = finish_of c before (settle c (round_limit c) (begin c before))
turn-of c before Cancel = record { session = refl; chart = refl }
turn-of c before (External e) = finish_of c before (settle c (round_limit c - 1) (external c e (begin c before)))

-- a session that was stepped runs or has ended
abbrev pub IsPast : Phase → Type 0
IsPast phase.Fresh = ⊥
IsPast phase.Running = Unit {0}
IsPast (phase.Ended how) = Unit {0}

rested_past : (c : Chart) (before : SessionState) (stopped : Bool) (x : RunState) → IsPast (finish_rested c before stopped x).after.phase
rested_past c before true x = tt
rested_past c before false x = tt

settled_past : (c : Chart) (before : SessionState) (rested : Bool) (x : RunState) → IsPast (finish_settled c before rested x).after.phase
settled_past c before true x = rested_past c before x.running.stopped x
settled_past c before false x = tt

finish_past : (c : Chart) (before : SessionState) (settled : Bool × RunState) → IsPast (finish c before settled).after.phase
finish_past c before settled = settled_past c before settled.0 settled.1

-- a turn leaves no session as one that was not stepped
pub turn-past : (c : Chart) (before : SessionState) (cue : Cue) → IsPast (turn c before cue).after.phase
unfolding turn
turn-past c before Fresh = finish_past c before (settle c (round_limit c) (start c before (begin c before)))
turn-past c before Resume = finish_past c before (settle c (round_limit c) (begin c before))
turn-past c before Cancel = tt
turn-past c before (External e) = finish_past c before (settle c (round_limit c - 1) (external c e (begin c before)))
