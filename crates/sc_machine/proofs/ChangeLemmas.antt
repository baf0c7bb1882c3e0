-- What a command can do to a host: the host machine's answers, by cases.
use Rattle.std.proofs.Common.{◌≡◌, ◌≤◌, IsTrue, arith, ℕ, ◌+◌, Bool, true, false, not, Option, Some, None, Result, Ok, Err, is_some, List, [], ◌∷◌, ◌++◌, length, refl, if◌then◌else◌, nat_lt}
use Rattle.std.proofs.lemmas.Bool.Decides.{nat_tests}
use Rattle.sc_types.specs.declared.chart.Chart.{Chart}
use Rattle.sc_types.specs.declared.chart.ChartFault.{ChartFault}
use Rattle.sc_types.specs.declared.command.Command.{Command}
use Rattle.sc_types.specs.declared.command.Command.TheVariants.{Install, Start, Post, Tick, Cancel, Step}
use Rattle.sc_types.specs.declared.command.Refusal.{Refusal}
use Rattle.sc_types.specs.declared.command.Refusal.TheVariants as refusal
use Rattle.sc_types.specs.declared.command.Reply.TheVariants.{Installed, Started, Posted, Cancelled}
use Rattle.sc_types.specs.declared.host.HostImage.{HostImage}
use Rattle.sc_types.specs.declared.host.SessionImage.{SessionImage}
use Rattle.sc_types.specs.declared.limits.TheConstants.{CLOCK_LIMIT}
use Rattle.sc_types.specs.declared.session.Cue.{Cue}
use Rattle.sc_types.specs.declared.session.Phase.{Phase}
use Rattle.sc_types.specs.declared.session.Phase.TheVariants.{Fresh, Running, Ended}
use Rattle.sc_types.specs.declared.value.Value.{Value}
use Rattle.sc_law.specs.LegalCharts.{legal_chart_of}
use Rattle.sc_law.specs.Turn.{turn}
use Rattle.sc_machine.specs.Commands.{Answer, refused, accepted, advance, answer, cancel, cancel_to, fresh_session, has_slash, install_read, is_too_long, post_found, post_to, posted_event, step, step_cue, step_in, step_turn, weight_of}
use Rattle.sc_machine.specs.Cues.{cue_of}
use Rattle.sc_machine.specs.Deliveries.{queue}
use Rattle.sc_machine.specs.Hosts.{chart_named, has_chart, session_named, session_place, with_session}

-- a host with one chart more
abbrev pub with_chart : HostImage → List ℕ → List ℕ → HostImage
with_chart g name text = record g { charts = g.charts ++ record { name = name; text = text } ∷ [] }

-- a host with one session more, which has not stepped
abbrev pub with_fresh : HostImage → List ℕ → List ℕ → HostImage
with_fresh g session chart = record g { sessions = g.sessions ++ fresh_session session chart ∷ [] }

-- an answer refuses, or it does what its command says
pub data Change (g : HostImage) (c : Command) (a : Answer) : Type 0 where
  refuses : (why : Refusal) → a ≡ refused g why → Change g c a
  installs : (name text : List ℕ) (chart : Chart) → c ≡ Install name text → legal_chart_of text ≡ Ok chart
      → a ≡ accepted (with_chart g name text) Installed [] [] → Change g c a
  starts : (session chart : List ℕ) → c ≡ Start session chart → IsTrue (has_chart g chart)
      → session_place g session ≡ None → a ≡ accepted (with_fresh g session chart) Started [] [] → Change g c a
  posts : (session name : List ℕ) (pairs : List (List ℕ × Value)) (place : ℕ) (s : SessionImage)
      → c ≡ Post session name pairs → session_named g session ≡ Some (place, s)
      → a ≡ accepted (queue g place s (posted_event name pairs)) (Posted (g.events + 1)) [] [] → Change g c a
  ticks : (ticks now : ℕ) → c ≡ Tick ticks → now ≤ CLOCK_LIMIT → a ≡ advance g now → Change g c a
  cancels : (session : List ℕ) (place : ℕ) (s : SessionImage) → c ≡ Cancel session
      → session_named g session ≡ Some (place, s)
      → a ≡ accepted (with_session g place (record s { flagged = true })) Cancelled [] [] → Change g c a
  turns : (session : List ℕ) (place : ℕ) (s : SessionImage) (cue : Cue) → c ≡ Step session
      → session_named g session ≡ Some (place, s) → cue_of s ≡ Some cue
      → a ≡ step_turn g place s cue (turn (chart_named g s.state.chart) s.state cue) → Change g c a

install_change : (g : HostImage) (name text : List ℕ) (long taken : Bool) (o : Result Chart ChartFault)
    → legal_chart_of text ≡ o → Change g (Install name text)
    (if long then refused g (refusal.TooLong 2)
    else (if taken then refused g refusal.NameTaken else install_read g name text o))
install_change g name text true taken o e = refuses _ refl
install_change g name text false true o e = refuses _ refl
install_change g name text false false (Err fault) e = refuses _ refl
install_change g name text false false (Ok chart) e = installs name text chart refl e refl

start_change : (g : HostImage) (session chart : List ℕ) (long long_chart slash has : Bool) (o : Option ℕ)
    → has_chart g chart ≡ has → session_place g session ≡ o → Change g (Start session chart)
    (if long then refused g (refusal.TooLong 1) else (if long_chart then refused g (refusal.TooLong 2)
    else (if slash then refused g refusal.BadName else (if not has then refused g refusal.NoChart
    else (if is_some o then refused g refusal.NameTaken
    else accepted (with_fresh g session chart) Started [] [])))))
start_change g session chart true long_chart slash has o there e = refuses _ refl
start_change g session chart false true slash has o there e = refuses _ refl
start_change g session chart false false true has o there e = refuses _ refl
start_change g session chart false false false false o there e = refuses _ refl
start_change g session chart false false false true (Some place) there e = refuses _ refl
start_change g session chart false false false true None there e = starts session chart refl there e refl

post_in : (g : HostImage) (session name : List ℕ) (pairs : List (List ℕ × Value)) (place : ℕ) (s : SessionImage)
    → session_named g session ≡ Some (place, s) → (p : Phase)
    → Change g (Post session name pairs) (post_to g place s p (posted_event name pairs))
post_in g session name pairs place s found (Ended how) = refuses _ refl
post_in g session name pairs place s found Fresh = posts session name pairs place s refl found refl
post_in g session name pairs place s found Running = posts session name pairs place s refl found refl

post_change : (g : HostImage) (session name : List ℕ) (pairs : List (List ℕ × Value)) (long many heavy : Bool)
    (o : Option (ℕ × SessionImage)) → session_named g session ≡ o → Change g (Post session name pairs)
    (if long then refused g (refusal.TooLong 3) else (if many then refused g (refusal.TooLong 4)
    else (if heavy then refused g (refusal.TooLong 5) else post_found g o (posted_event name pairs))))
post_change g session name pairs true many heavy o e = refuses _ refl
post_change g session name pairs false true heavy o e = refuses _ refl
post_change g session name pairs false false true o e = refuses _ refl
post_change g session name pairs false false false None e = refuses _ refl
post_change g session name pairs false false false (Some (place, s)) e =
    post_in g session name pairs place s e s.state.phase

tick_change : (g : HostImage) (n : ℕ) (full : Bool) → nat_lt CLOCK_LIMIT (g.clock + n) ≡ full
    → Change g (Tick n) (if full then refused g refusal.ClockFull else advance g (g.clock + n))
tick_change g n true e = refuses _ refl
tick_change g n false e = ticks n (g.clock + n) refl (grind (arith, nat_tests)) refl

cancel_change : (g : HostImage) (session : List ℕ) (o : Option (ℕ × SessionImage)) → session_named g session ≡ o
    → Change g (Cancel session) (cancel g o)
cancel_change g session None e = refuses _ refl
cancel_change g session (Some (place, s)) e = by s.state.phase where
  by : (p : Phase) → Change g (Cancel session) (cancel_to g place s p)
  by (Ended how) = refuses _ refl
  by Fresh = cancels session place s refl e refl
  by Running = cancels session place s refl e refl

cue_change : (g : HostImage) (session : List ℕ) (place : ℕ) (s : SessionImage)
    → session_named g session ≡ Some (place, s) → (o : Option Cue) → cue_of s ≡ o
    → Change g (Step session) (step_cue g place s o)
cue_change g session place s found None e = refuses _ refl
cue_change g session place s found (Some cue) e = turns session place s cue refl found e refl

step_change : (g : HostImage) (session : List ℕ) (o : Option (ℕ × SessionImage)) → session_named g session ≡ o
    → Change g (Step session) (step g o)
step_change g session None e = refuses _ refl
step_change g session (Some (place, s)) e = by s.state.phase where
  by : (p : Phase) → Change g (Step session) (step_in g place s p)
  by (Ended how) = refuses _ refl
  by Fresh = cue_change g session place s e (cue_of s) refl
  by Running = cue_change g session place s e (cue_of s) refl

-- what the host answers is one of the changes
pub change_of : (g : HostImage) (c : Command) → Change g c (answer g c)
unfolding answer
change_of g (Install name text) =
    install_change g name text (is_too_long 64 name) (has_chart g name) (legal_chart_of text) refl
change_of g (Start session chart) =
    start_change g session chart (is_too_long 64 session) (is_too_long 64 chart) (has_slash session)
    (has_chart g chart) (session_place g session) refl refl
change_of g (Post session name pairs) =
    post_change g session name pairs (is_too_long 256 name) (nat_lt 64 (length pairs))
    (nat_lt 1_048_576 (weight_of pairs)) (session_named g session) refl
change_of g (Tick n) = tick_change g n (nat_lt 1_000_000_000_000_000 (g.clock + n)) refl
change_of g (Cancel session) = cancel_change g session (session_named g session) refl
change_of g (Step session) = step_change g session (session_named g session) refl
