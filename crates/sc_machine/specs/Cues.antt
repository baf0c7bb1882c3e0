-- What a session's next turn begins with, and which sessions are ready. SCXML Appendix D, mainEventLoop; that a session
-- is cancelled before it takes external events, and that the ready session which was started first steps first, is this
-- host's own rule.
use Rattle.std.specs.Prelude.{ℕ, Bool, false, true, is_some, Option, Some, None, option_map, List, [], ◌∷◌, drop, find}
use Rattle.sc_types.specs.declared.event.Event.{Event}
use Rattle.sc_types.specs.declared.host.HostImage.{HostImage}
use Rattle.sc_types.specs.declared.host.SessionImage.{SessionImage}
use Rattle.sc_types.specs.declared.session.Cue.{Cue}
use Rattle.sc_types.specs.declared.session.Cue.TheVariants.{Fresh, Resume, Cancel, External}
use Rattle.sc_types.specs.declared.session.CueName.{CueName}
use Rattle.sc_types.specs.declared.session.CueName.TheVariants as cue_name
use Rattle.sc_types.specs.declared.session.Phase.{Phase}
use Rattle.sc_types.specs.declared.session.Phase.TheVariants as phase

-- the front of the external queue
abbrev pub queued_cue : List Event → Option Cue
queued_cue [] = None
queued_cue (e ∷ es) = Some (External e)

-- whether the session is to be cancelled comes before its external queue
abbrev pub outer_cue : Bool → List Event → Option Cue
outer_cue true queued = Some Cancel
outer_cue false queued = queued_cue queued

-- internal events come before both
abbrev pub waiting_cue : List Event → Bool → List Event → Option Cue
waiting_cue (e ∷ es) flagged queued = Some Resume
waiting_cue [] flagged queued = outer_cue flagged queued

-- a session's first turn comes before all, and an ended session has none
abbrev pub cue_in : Phase → List Event → Bool → List Event → Option Cue
cue_in phase.Fresh internal flagged queued = Some Fresh
cue_in phase.Running internal flagged queued = waiting_cue internal flagged queued
cue_in (phase.Ended how) internal flagged queued = None

abbrev pub cue_of : SessionImage → Option Cue
cue_of s = cue_in s.state.phase s.state.internal s.flagged s.queued

abbrev pub name_of : Cue → CueName
name_of Fresh = cue_name.Fresh
name_of Resume = cue_name.Resume
name_of Cancel = cue_name.Cancel
name_of (External e) = cue_name.External e.number

-- an external event leaves the queue as it becomes the cue
abbrev pub queue_left : Cue → List Event → List Event
queue_left (External e) queued = drop 1 queued
queue_left cue queued = queued

-- a session with a cue is ready
abbrev pub is_ready : SessionImage → Bool
is_ready s = is_some (cue_of s)

-- the name of the ready session that was started first
abbrev pub ready : HostImage → Option (List ℕ)
ready g = option_map (λ (s : SessionImage). s.state.session) (find is_ready g.sessions)
