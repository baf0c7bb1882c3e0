-- A session that is ready stays so until it steps.
use Rattle.std.proofs.Common.{◌≡◌, ◌≢◌, ℕ, ◌+◌, Bool, true, false, not, if◌then◌else◌, is_some, nat_lt, Option, Some, None, Result, Ok, Err, List, [], ◌∷◌, ◌++◌, length, filter, slice_get, refl, sym, ap, subst, ◌∙◌}
use Rattle.std.specs.Option.{option_map_or}
use Rattle.std.specs.Str.{bytes_eq}
use Rattle.std.proofs.lemmas.Slice.Eq.{bytes_eq-Decides}
use Rattle.sc_types.specs.declared.chart.Chart.{Chart}
use Rattle.sc_types.specs.declared.chart.ChartFault.{ChartFault}
use Rattle.sc_types.specs.declared.command.Command.{Command}
use Rattle.sc_types.specs.declared.command.Command.TheVariants.{Cancel, Install, Post, Start, Step, Tick}
use Rattle.sc_types.specs.declared.command.Refusal.TheVariants as refusal
use Rattle.sc_types.specs.declared.command.Reply.{Reply}
use Rattle.sc_types.specs.declared.command.Reply.TheVariants.{Started}
use Rattle.sc_types.specs.declared.event.Event.{Event}
use Rattle.sc_types.specs.declared.host.HostImage.{HostImage}
use Rattle.sc_types.specs.declared.host.SessionImage.{SessionImage}
use Rattle.sc_types.specs.declared.limits.TheConstants.{CLOCK_LIMIT, EVENT_NAME_LIMIT, NAME_LIMIT, PAIR_LIMIT, POST_WEIGHT_LIMIT}
use Rattle.sc_types.specs.declared.session.Cue.{Cue}
use Rattle.sc_types.specs.declared.session.Phase.{Phase}
use Rattle.sc_types.specs.declared.session.Phase.TheVariants as phase
use Rattle.sc_types.specs.declared.value.Value.{Value}
use Rattle.sc_law.specs.LegalCharts.{legal_chart_of}
use Rattle.sc_law.specs.Turn.{TurnResult, turn}
use Rattle.sc_machine.specs.Commands.{Answer, accepted, advance, answer, cancel, cancel_to, fresh_session, has_slash, install, install_read, is_too_long, post, post_found, post_to, posted_event, put_in, refused, start, step, step_cue, step_in, step_turn, tick, weight_of}
use Rattle.sc_machine.specs.Cues.{cue_of, is_ready}
use Rattle.sc_machine.specs.Deliveries.{deliver_all, fire_all, is_due, queue}
use Rattle.sc_machine.specs.Endings.{end_at}
use Rattle.sc_machine.specs.Hosts.{chart_named, has_chart, session_named, session_place, with_session}
use Rattle.sc_machine.specs.Waiting.{StaysReady, is_ready_at, is_step_of, name_at}
use Rattle.sc_machine.proofs.FoundLemmas.{is_at}
use Rattle.sc_core.proofs.NextLemmas.{answer_cancel, answer_install, answer_post, answer_start, answer_step, answer_tick}
use Rattle.sc_machine.proofs.WaitLemmas.{Goes, all_fire_go, all_go, end_goes, goes_both, goes_push, goes_put, goes_set, goes_still, queue_goes, ready_still, waits_flag}

-- where what waits for a session stays, it is ready still
pub ready_goes : (place : ℕ) (g h : HostImage) → Goes place g h → is_ready_at g place ≡ true → is_ready_at h place ≡ true
ready_goes place g h goes ready = by (slice_get g.sessions place) refl ready
  where
    by : (o : Option SessionImage) → slice_get g.sessions place ≡ o → option_map_or is_ready o false ≡ true
        → is_ready_at h place ≡ true
    by None at is = absurd (cc)
    by (Some s) at is =
        let next = goes s at in
        ap (λ o. option_map_or is_ready o false) next.1 ∙ ready_still s next.0 next.2 is

-- ---- each command but a step

install_goes : (place : ℕ) (g : HostImage) (name text : List ℕ) → Goes place g (install g name text).host
install_goes place g name text = long (is_too_long NAME_LIMIT name)
  where
    read : (r : Result Chart ChartFault) → Goes place g (install_read g name text r).host
    read (Err fault) = goes_still place g g refl
    read (Ok chart) = goes_still place g (install_read g name text (Ok chart)).host refl

    taken : (b : Bool)
        → Goes place g (if b then refused g refusal.NameTaken else install_read g name text (legal_chart_of text)).host
    taken true = goes_still place g g refl
    taken false = read (legal_chart_of text)

    long : (b : Bool) → Goes place g (if b then refused g (refusal.TooLong 2)
        else (if has_chart g name then refused g refusal.NameTaken
        else install_read g name text (legal_chart_of text))).host
    long true = goes_still place g g refl
    long false = taken (has_chart g name)

start_goes : (place : ℕ) (g : HostImage) (session chart : List ℕ) → Goes place g (start g session chart).host
start_goes place g session chart = one (is_too_long NAME_LIMIT session)
  where
    made : Answer
    made = accepted (record g { sessions = g.sessions ++ fresh_session session chart ∷ [] }) Started [] []

    five : (b : Bool) → Goes place g (if b then refused g refusal.NameTaken else made).host
    five true = goes_still place g g refl
    five false = goes_push place g made.host (fresh_session session chart) refl

    four : (b : Bool) → Goes place g (if b then refused g refusal.NoChart
        else (if is_some (session_place g session) then refused g refusal.NameTaken else made)).host
    four true = goes_still place g g refl
    four false = five (is_some (session_place g session))

    three : (b : Bool) → Goes place g (if b then refused g refusal.BadName
        else (if not (has_chart g chart) then refused g refusal.NoChart
        else (if is_some (session_place g session) then refused g refusal.NameTaken else made))).host
    three true = goes_still place g g refl
    three false = four (not (has_chart g chart))

    two : (b : Bool) → Goes place g (if b then refused g (refusal.TooLong 2)
        else (if has_slash session then refused g refusal.BadName
        else (if not (has_chart g chart) then refused g refusal.NoChart
        else (if is_some (session_place g session) then refused g refusal.NameTaken else made)))).host
    two true = goes_still place g g refl
    two false = three (has_slash session)

    one : (b : Bool) → Goes place g (if b then refused g (refusal.TooLong 1)
        else (if is_too_long NAME_LIMIT chart then refused g (refusal.TooLong 2)
        else (if has_slash session then refused g refusal.BadName
        else (if not (has_chart g chart) then refused g refusal.NoChart
        else (if is_some (session_place g session) then refused g refusal.NameTaken else made))))).host
    one true = goes_still place g g refl
    one false = two (is_too_long NAME_LIMIT chart)

found_post_goes : (place : ℕ) (g : HostImage) (session : List ℕ) (e : Event) (o : Option (ℕ × SessionImage))
    → session_named g session ≡ o → Goes place g (post_found g o e).host
found_post_goes place g session e None found = goes_still place g g refl
found_post_goes place g session e (Some (q, r)) found = by r.state.phase
  where
    queued : Goes place g (accepted (queue g q r e) Started [] []).host
    queued = goes_both place g (queue g q r e) (accepted (queue g q r e) Started [] []).host
        (queue_goes place g q r e (is_at g session q r found).there)
        (goes_still place (queue g q r e) (accepted (queue g q r e) Started [] []).host refl)

    by : (p : Phase) → Goes place g (post_to g q r p e).host
    by (phase.Ended how) = goes_still place g g refl
    by phase.Fresh = queued
    by phase.Running = queued

post_goes : (place : ℕ) (g : HostImage) (session name : List ℕ) (pairs : List (List ℕ × Value))
    → Goes place g (post g session name pairs).host
post_goes place g session name pairs = one (is_too_long EVENT_NAME_LIMIT name)
  where
    found : Answer
    found = post_found g (session_named g session) (posted_event name pairs)

    three : (b : Bool) → Goes place g (if b then refused g (refusal.TooLong 5) else found).host
    three true = goes_still place g g refl
    three false = found_post_goes place g session (posted_event name pairs) (session_named g session) refl

    two : (b : Bool) → Goes place g (if b then refused g (refusal.TooLong 4)
        else (if nat_lt POST_WEIGHT_LIMIT (weight_of pairs) then refused g (refusal.TooLong 5) else found)).host
    two true = goes_still place g g refl
    two false = three (nat_lt POST_WEIGHT_LIMIT (weight_of pairs))

    one : (b : Bool) → Goes place g (if b then refused g (refusal.TooLong 3)
        else (if nat_lt PAIR_LIMIT (length pairs) then refused g (refusal.TooLong 4)
        else (if nat_lt POST_WEIGHT_LIMIT (weight_of pairs) then refused g (refusal.TooLong 5) else found))).host
    one true = goes_still place g g refl
    one false = two (nat_lt PAIR_LIMIT (length pairs))

advance_goes : (place : ℕ) (g : HostImage) (now : ℕ) → Goes place g (advance g now).host
advance_goes place g now =
    let due = filter (is_due now) g.timers in
    let moved : HostImage = record g { clock = now; timers = filter (λ t. not (is_due now t)) g.timers } in
    let fired = (fire_all moved due).host in
    goes_both place g moved (advance g now).host (goes_still place g moved refl)
    (goes_both place moved fired (advance g now).host (all_fire_go place moved due)
    (goes_still place fired (advance g now).host refl))

tick_goes : (place : ℕ) (g : HostImage) (ticks : ℕ) → Goes place g (tick g ticks).host
tick_goes place g ticks = by (nat_lt CLOCK_LIMIT (g.clock + ticks))
  where
    by : (b : Bool) → Goes place g (if b then refused g refusal.ClockFull else advance g (g.clock + ticks)).host
    by true = goes_still place g g refl
    by false = advance_goes place g (g.clock + ticks)

cancel_goes : (place : ℕ) (g : HostImage) (session : List ℕ) (o : Option (ℕ × SessionImage))
    → session_named g session ≡ o → Goes place g (cancel g o).host
cancel_goes place g session None found = goes_still place g g refl
cancel_goes place g session (Some (q, r)) found = by r.state.phase
  where
    flagged : Goes place g (accepted (with_session g q (record r { flagged = true })) Started [] []).host
    flagged = goes_put place q g (accepted (with_session g q (record r { flagged = true })) Started [] []).host r
        (record r { flagged = true }) (is_at g session q r found).there (waits_flag r) refl

    by : (p : Phase) → Goes place g (cancel_to g q r p).host
    by (phase.Ended how) = goes_still place g g refl
    by phase.Fresh = flagged
    by phase.Running = flagged

-- ---- a step of another session

turn_goes : (place : ℕ) (g : HostImage) (q : ℕ) (s : SessionImage) (cue : Cue) (t : TurnResult) → place ≢ q
    → Goes place g (step_turn g q s cue t).host
turn_goes place g q s cue t other =
    let put = with_session g q (put_in s cue t) in
    let delivered = (deliver_all put q t.effects).host in
    let ended = (end_at delivered q).host in
    goes_both place g put (step_turn g q s cue t).host
    (goes_set place q g put (put_in s cue t) refl (λ is. absurd (other is)))
    (goes_both place put delivered (step_turn g q s cue t).host (all_go place put q t.effects)
    (goes_both place delivered ended (step_turn g q s cue t).host (end_goes place delivered q other)
    (goes_still place ended (step_turn g q s cue t).host refl)))

-- a step of the session itself is accepted
own_step : (place : ℕ) (g : HostImage) (session : List ℕ) (q : ℕ) (s : SessionImage) (cue : Cue) (reply : Reply)
    → session_named g session ≡ Some (q, s) → is_step_of (name_at g place) (Step session) reply ≡ false
    → reply ≡ (step_turn g q s cue (turn (chart_named g s.state.chart) s.state cue)).reply → place ≢ q
own_step place g session q s cue reply found not_own is same =
    let at = is_at g session q s found in
    let here : slice_get g.sessions place ≡ Some s = ap (slice_get g.sessions) same ∙ at.there in
    let name : name_at g place ≡ session =
    ap (λ o. option_map_or (λ (x : SessionImage). x.state.session) o []) here ∙ at.named in
    let yes : bytes_eq session (name_at g place) ≡ true = (bytes_eq-Decides session (name_at g place)).1 (sym name) in
    let no : bytes_eq session (name_at g place) ≡ false =
    subst (λ (r : Reply). is_step_of (name_at g place) (Step session) r ≡ false) is not_own in
    let never : true ≡ false = sym yes ∙ no in
    absurd (cc)

step_goes : (place : ℕ) (g : HostImage) (session : List ℕ) (o : Option (ℕ × SessionImage)) → session_named g session ≡ o
    → is_step_of (name_at g place) (Step session) (step g o).reply ≡ false → Goes place g (step g o).host
step_goes place g session None found not_own = goes_still place g g refl
step_goes place g session (Some (q, s)) found not_own = by s.state.phase not_own
  where
    cued : (c : Option Cue) → is_step_of (name_at g place) (Step session) (step_cue g q s c).reply ≡ false
        → Goes place g (step_cue g q s c).host
    cued None not_own = goes_still place g g refl
    cued (Some cue) not_own =
        turn_goes place g q s cue (turn (chart_named g s.state.chart) s.state cue)
        (own_step place g session q s cue (step_cue g q s (Some cue)).reply found not_own refl)

    by : (p : Phase) → is_step_of (name_at g place) (Step session) (step_in g q s p).reply ≡ false
        → Goes place g (step_in g q s p).host
    by (phase.Ended how) not_own = goes_still place g g refl
    by phase.Fresh not_own = cued (cue_of s) not_own
    by phase.Running not_own = cued (cue_of s) not_own

-- ---- each command

command_goes : (place : ℕ) (g : HostImage) (c : Command) → is_step_of (name_at g place) c (answer g c).reply ≡ false
    → Goes place g (answer g c).host
command_goes place g (Install name text) not_own =
    subst (λ (a : Answer). Goes place g a.host) (sym (answer_install g name text)) (install_goes place g name text)
command_goes place g (Start session chart) not_own =
    subst (λ (a : Answer). Goes place g a.host) (sym (answer_start g session chart)) (start_goes place g session chart)
command_goes place g (Post session name pairs) not_own =
    subst (λ (a : Answer). Goes place g a.host) (sym (answer_post g session name pairs)) (post_goes place g session name pairs)
command_goes place g (Tick ticks) not_own =
    subst (λ (a : Answer). Goes place g a.host) (sym (answer_tick g ticks)) (tick_goes place g ticks)
command_goes place g (Cancel session) not_own =
    subst (λ (a : Answer). Goes place g a.host) (sym (answer_cancel g session))
    (cancel_goes place g session (session_named g session) refl)
command_goes place g (Step session) not_own =
    let is = answer_step g session in
    subst (λ (a : Answer). Goes place g a.host) (sym is)
    (step_goes place g session (session_named g session) refl
    (subst (λ (a : Answer). is_step_of (name_at g place) (Step session) a.reply ≡ false) is not_own))

-- a session that is ready stays so until it steps
pub stays_ready : (g : HostImage) (place : ℕ) → StaysReady g place
stays_ready g place c ready not_own = ready_goes place g (answer g c).host (command_goes place g c not_own) ready
