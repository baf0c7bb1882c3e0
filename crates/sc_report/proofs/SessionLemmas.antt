-- What a report tells of sessions.
use Rattle.std.proofs.Common.{◌≡◌, ℕ, ◌+◌, ◌<◌, List, [], ◌∷◌, ◌++◌, Some, ap, refl, codes, length, slice_get, take, arith}
use Rattle.std.specs.List.{flat_map}
use Rattle.std.specs.Prelude.{get_or}
use Rattle.std.proofs.lemmas.Option.{slice_get-get_or}
use Rattle.sc_types.specs.declared.chart.Chart.{Chart}
use Rattle.sc_types.specs.declared.event.Event.{Event}
use Rattle.sc_types.specs.declared.session.Phase.{Phase}
use Rattle.sc_types.specs.declared.session.Phase.TheVariants as phase
use Rattle.sc_types.specs.declared.session.SessionState.{SessionState}
use Rattle.sc_types.specs.declared.host.HostImage.{HostImage}
use Rattle.sc_types.specs.declared.host.SessionImage.{SessionImage}
use Rattle.sc_report.specs.Outlets.{Puts, Seen}
use Rattle.sc_report.specs.Report.{phase_text, session_text, state_line}
use Rattle.sc_report.proofs.OutletLemmas.{puts_each}

told_alike : (c : Chart) (s : SessionState) (waiting : List Event) (queued : ℕ) (p : Phase)
    → phase_text c (record s { internal = waiting }) queued p ≡ phase_text c s queued p
told_alike c s waiting queued (phase.Ended how) = refl
told_alike c s waiting queued phase.Fresh = refl
told_alike c s waiting queued phase.Running = refl

-- The line of a session doesn't tell what waits in its internal queue.
pub told_without_internal : (c : Chart) (s : SessionState) (waiting : List Event) (queued : ℕ)
    → state_line c (record s { internal = waiting }) queued ≡ state_line c s queued
told_without_internal c s waiting queued =
    ap (λ text. s.session ++ codes " " ++ s.chart ++ codes " " ++ text) (told_alike c s waiting queued s.phase)

-- What is told of one session more was put.
pub puts_session : {p q r : Seen} (g : HostImage) (xs : List SessionImage) (i : ℕ) → i < length xs
    → Puts p q (flat_map (session_text g) (take i xs)) → ((s : SessionImage) → slice_get xs i ≡ Some s → Puts q r (session_text g s))
    → Puts p r (flat_map (session_text g) (take (i + 1) xs))
puts_session g [] i less h each = absurd (omega (arith, less))
puts_session g (x ∷ xs) i less h each =
    puts_each (session_text g) (x ∷ xs) i x less h (each (get_or (x ∷ xs) i x) (slice_get-get_or (x ∷ xs) i x less))
