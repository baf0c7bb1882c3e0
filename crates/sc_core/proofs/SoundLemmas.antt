-- What is always true of the host machine is true of it after each command.
use Rattle.std.proofs.Common.{length-append, ◌≡◌, ℕ, suc, ◌+◌, ◌-◌, ◌*◌, ◌^◌, ◌≤◌, ◌==◌, ◌&&◌, All, Bool, true, false, not, if◌then◌else◌, nat_lt, Option, Some, None, List, [], ◌∷◌, length, get_or, slice_get, refl, sym, ap, subst, ◌∙◌, arith}
use Rattle.std.specs.Option.{option_map_or}
use Rattle.std.proofs.lemmas.List.Elements.{All-cons, All-filter, All-head, All-push, All-set, All-tail}
use Rattle.sc_types.specs.Sends.{is_before, is_of, is_send, with_send}
use Rattle.sc_types.specs.declared.command.Command.{Command}
use Rattle.sc_types.specs.declared.effect.Effect.{Effect}
use Rattle.sc_types.specs.declared.effect.Effect.TheVariants.{CancelChild, CancelSend, Forward, Invoke, Send}
use Rattle.sc_types.specs.declared.event.Event.{Event}
use Rattle.sc_types.specs.declared.history.Delivery.TheVariants.{Dropped, Nothing, Timed}
use Rattle.sc_types.specs.declared.host.HostImage.{HostImage}
use Rattle.sc_types.specs.declared.host.InvokerImage.{InvokerImage}
use Rattle.sc_types.specs.declared.host.SessionImage.{SessionImage}
use Rattle.sc_types.specs.declared.host.TimerImage.{TimerImage}
use Rattle.sc_types.specs.declared.host.To.{To}
use Rattle.sc_types.specs.declared.limits.TheConstants.{CLOCK_LIMIT}
use Rattle.sc_types.specs.declared.session.Cue.{Cue}
use Rattle.sc_types.specs.declared.session.How.{How}
use Rattle.sc_types.specs.declared.session.Phase.{Phase}
use Rattle.sc_types.specs.declared.session.Phase.TheVariants as phase
use Rattle.sc_law.specs.Fitting.{Fits}
use Rattle.sc_law.specs.Turn.{turn}
use Rattle.sc_machine.specs.Commands.{Answer, advance, answer, fresh_session, posted_event, put_in, step_turn}
use Rattle.sc_machine.specs.Deliveries.{born, cancel_child, deliver, deliver_all, deliver_of, delay_send, due_time, fire, fire_all, hand_to, hears, may_bear, unborn, is_cut_from, is_due, left_as, live_child, next_send, queue, receiver_name, send_found, send_named, send_now, undo, unreachable, while_live}
use Rattle.sc_core.specs.Drafts.{AreNumbered}
use Rattle.sc_machine.specs.Endings.{cleared, end_at, end_event, end_in, one_delivery, tell_end, tell_invoker, with_children_left}
use Rattle.sc_machine.specs.FittingHosts.{FitsChart}
use Rattle.sc_machine.specs.Hosts.{chart_named, has_chart, is_live, is_running, session_named, with_session}
use Rattle.sc_core.specs.HostStates.{IsSound}
use Rattle.sc_core.specs.Preparing.{FitsOn, StepFits}
use Rattle.sc_machine.proofs.ChangeLemmas.{Change, cancels, change_of, installs, posts, refuses, starts, ticks, turns, with_chart, with_fresh}
use Rattle.sc_machine.proofs.FitLemmas.{fits-at, fits-more, fits-same, fresh-fits, live-runs}
use Rattle.sc_machine.proofs.FoundLemmas.{is_at}
use Rattle.sc_machine.proofs.MoveLemmas.{all_events, all_fire, all_move, commands_moves, due_in, end_events, end_moves, fire_events, fits_moved, fits_moves, puts, queues, same, ticked}
use Rattle.sc_machine.proofs.TurnLemmas.{turn-of, turn-past}

-- the clock stands, and the pending sends keep their numbers
pub record IsSteady (g h : HostImage) : Type 0 where
  pub clock : h.clock ≡ g.clock
  pub sends : AreNumbered g → AreNumbered h

stays : (g : HostImage) → IsSteady g g
stays g = record { clock = refl; sends = λ all. all }

-- one more pending send has a number as the others have
pub with_numbered : (n : ℕ) (t : TimerImage) (ts : List TimerImage) → t.number ≤ n
    → All (λ (s : TimerImage). s.number ≤ n) ts → All (λ (s : TimerImage). s.number ≤ n) (with_send t ts)
with_numbered n t [] own all = All-cons (λ (s : TimerImage). s.number ≤ n) t [] own all
with_numbered n t (s ∷ ss) own all =
    by (is_before t s) (with_numbered n t ss own (All-tail (λ (x : TimerImage). x.number ≤ n) s ss all)) where
      P : TimerImage → Type 0
      P x = x.number ≤ n

      by : (b : Bool) → All P (with_send t ss) → All P (if b then t ∷ s ∷ ss else s ∷ with_send t ss)
      by true rest = All-cons P t (s ∷ ss) own all
      by false rest = All-cons P s (with_send t ss) (All-head P s ss all) rest

-- and so it is after the number of the newest is counted
pub next_numbered : (g : HostImage) (t : TimerImage) → t.number ≤ g.delayed + 1 → AreNumbered g
    → AreNumbered (record g { delayed = g.delayed + 1; timers = with_send t g.timers })
next_numbered g t own all =
    with_numbered (g.delayed + 1) t g.timers own (λ i d l. omega (arith, all i d l))

unreachable_steady : (g : HostImage) (place : ℕ) (s : SessionImage) (e : Event) → IsSteady g (unreachable g place s e).host
unreachable_steady g place s e = by (is_running s.state.phase) where
  by : (runs : Bool) → IsSteady g (if runs then with_session g place (hears s e.sendid) else g)
  by true = record { clock = refl; sends = λ all. all }
  by false = stays g

found_steady : (g : HostImage) (place : ℕ) (s : SessionImage) (name : List ℕ) (e : Event)
    (o : Option (ℕ × SessionImage)) → IsSteady g (send_found g place s name e o).host
found_steady g place s name e None = unreachable_steady g place s e
found_steady g place s name e (Some found) = record { clock = refl; sends = λ all. all }

named_steady : (g : HostImage) (place : ℕ) (s : SessionImage) (e : Event) (o : Option (List ℕ))
    → IsSteady g (send_named g place s e o).host
named_steady g place s e None = unreachable_steady g place s e
named_steady g place s e (Some name) = by (is_cut_from s name) where
  by : (cut : Bool) → IsSteady g (if cut then left_as g Dropped
      else send_found g place s name e (while_live (session_named g name))).host
  by true = stays g
  by false = found_steady g place s name e (while_live (session_named g name))

send_steady : (g : HostImage) (place : ℕ) (s : SessionImage) (who : To) (e : Event) → IsSteady g (send_now g place s who e).host
send_steady g place s who e = named_steady g place s e (receiver_name s who)

delay_steady : (g : HostImage) (s : SessionImage) (who : To) (e : Event) (delay : ℕ)
    → IsSteady g (delay_send g s who e delay).host
delay_steady g s who e delay = by (is_live s.state.phase && nat_lt g.delayed (2 ^ 64 - 1)) where
  by : (b : Bool) → IsSteady g (if b
      then record {
        host = record g { delayed = g.delayed + 1; timers = with_send (next_send g s who e delay) g.timers };
        what = Timed (g.delayed + 1) (due_time g.clock delay);
      }
      else left_as g Dropped).host
  by true = record { clock = refl; sends = next_numbered g (next_send g s who e delay) (omega arith) }
  by false = stays g

undo_steady : (g : HostImage) (s : SessionImage) (id : List ℕ) → IsSteady g (undo g s id).host
undo_steady g s [] = stays g
undo_steady g s (b ∷ id) = record {
  clock = refl;
  sends = All-filter (λ (t : TimerImage). not (is_send s.state.session (b ∷ id) t)) (λ (t : TimerImage). t.number ≤ g.delayed)
      g.timers;
}

hand_steady : (g : HostImage) (name : List ℕ) (e : Event) (o : Option (ℕ × SessionImage))
    → IsSteady g (hand_to g name e o).host
hand_steady g name e None = stays g
hand_steady g name e (Some found) = record { clock = refl; sends = λ all. all }

effect_steady : (g : HostImage) (place : ℕ) (s : SessionImage) (effect : Effect)
    → IsSteady g (deliver_of g place s effect).host
effect_steady g place s (Send e who delay) = by (delay == 0) where
  by : (now : Bool) → IsSteady g (if now then send_now g place s who e else delay_send g s who e delay).host
  by true = send_steady g place s who e
  by false = delay_steady g s who e delay
effect_steady g place s (CancelSend id) = undo_steady g s id
effect_steady g place s (Invoke id child chart pairs) = by (may_bear g s child chart) where
  by : (may : Bool) → IsSteady g (if may then born g s id child chart pairs else unborn g place s id child).host
  by true = record { clock = refl; sends = λ all. all }
  by false = record { clock = refl; sends = λ all. all }
effect_steady g place s (CancelChild child) = by (live_child g s child) where
  by : (o : Option (ℕ × SessionImage)) → IsSteady g (cancel_child g child o).host
  by None = stays g
  by (Some found) = record { clock = refl; sends = λ all. all }
effect_steady g place s (Forward child e) = hand_steady g child e (while_live (session_named g child))

-- carrying out an effect is steady
pub deliver_steady : (g : HostImage) (place : ℕ) (effect : Effect) → IsSteady g (deliver g place effect).host
unfolding deliver
deliver_steady g place effect = by (slice_get g.sessions place) where
  by : (o : Option SessionImage)
      → IsSteady g (option_map_or (λ (s : SessionImage). deliver_of g place s effect) o (left_as g Nothing)).host
  by None = stays g
  by (Some s) = effect_steady g place s effect

and_steady : (g m h : HostImage) → IsSteady g m → IsSteady m h → IsSteady g h
and_steady g m h one more = record { clock = more.clock ∙ one.clock; sends = λ all. more.sends (one.sends all) }

all_steady : (g : HostImage) (place : ℕ) (effects : List Effect) → IsSteady g (deliver_all g place effects).host
all_steady g place [] = stays g
all_steady g place (effect ∷ effects) =
    let m = (deliver g place effect).host in
    and_steady g m (deliver_all m place effects).host (deliver_steady g place effect) (all_steady m place effects)

fire_steady : (g : HostImage) (t : TimerImage) → IsSteady g (fire g t).host
unfolding fire
fire_steady g t = by (session_named g t.session) where
  by : (o : Option (ℕ × SessionImage)) → IsSteady g
      (option_map_or (λ (found : ℕ × SessionImage). send_now g found.0 found.1 t.to t.event) o (left_as g Dropped)).host
  by None = stays g
  by (Some found) = send_steady g found.0 found.1 t.to t.event

fires_steady : (g : HostImage) (ts : List TimerImage) → IsSteady g (fire_all g ts).host
fires_steady g [] = stays g
fires_steady g (t ∷ ts) =
    let m = (fire g t).host in
    and_steady g m (fire_all m ts).host (fire_steady g t) (fires_steady m ts)

told_steady : (g : HostImage) (o : Option InvokerImage) (how : How) → IsSteady g (tell_end g o how).host
told_steady g None how = stays g
told_steady g (Some i) how = by (end_event i.invokeid how) where
  one : (e : Event) → IsSteady g (tell_invoker g i e).host
  one e = cut i.cut where
    cut : (b : Bool)
        → IsSteady g (if b then left_as g Dropped else hand_to g i.session e (while_live (session_named g i.session))).host
    cut true = stays g
    cut false = hand_steady g i.session e (while_live (session_named g i.session))

  by : (o : Option Event) → IsSteady g
      (option_map_or (λ (e : Event). one_delivery (tell_invoker g i e)) o (record { host = g; sent = [] })).host
  by None = stays g
  by (Some e) = one e

end_steady : (g : HostImage) (place : ℕ) → IsSteady g (end_at g place).host
unfolding end_at
end_steady g place = by (slice_get g.sessions place) where
  in_phase : (s : SessionImage) (p : Phase) → IsSteady g (end_in g place s p).host
  in_phase s (phase.Ended how) =
      let k = with_children_left (cleared g place s) s.state.session in
      and_steady g k (tell_end k s.invoker how).host (record {
        clock = refl;
        sends = All-filter (λ (t : TimerImage). not (is_of s.state.session t)) (λ (t : TimerImage). t.number ≤ g.delayed)
            g.timers;
      }) (told_steady k s.invoker how)
  in_phase s phase.Fresh = stays g
  in_phase s phase.Running = stays g

  by : (o : Option SessionImage) → IsSteady g
      (option_map_or (λ (s : SessionImage). end_in g place s s.state.phase) o (record { host = g; sent = [] })).host
  by None = stays g
  by (Some s) = in_phase s s.state.phase

-- as many things were sent as came due, and as the turn asked for

fired_many : (g : HostImage) (ts : List TimerImage) → length (fire_all g ts).sent ≡ length ts
fired_many g [] = refl
fired_many g (t ∷ ts) = ap suc (fired_many (fire g t).host ts)

delivered_many : (g : HostImage) (place : ℕ) (effects : List Effect) → length (deliver_all g place effects).sent ≡ length effects
delivered_many g place [] = refl
delivered_many g place (effect ∷ effects) = ap suc (delivered_many (deliver g place effect).host place effects)

-- the host with the command counted
counted : (h : HostImage) → All (FitsChart h) h.sessions → AreNumbered h → h.events ≤ (h.commands + 1) * 2 ^ 64
    → h.clock ≤ CLOCK_LIMIT → IsSound (record h { commands = h.commands + 1 })
counted h fits sends events clock = record {
  sessions = λ i d l. fits-same h (record h { commands = h.commands + 1 }) (get_or h.sessions i d) refl (fits i d l);
  sends = sends;
  events = events;
  clock = clock;
}

stepped_fits : (g : HostImage) (s : SessionImage) (cue : Cue) → FitsOn g s cue → FitsChart g s
    → FitsChart g (put_in s cue (turn (chart_named g s.state.chart) s.state cue))
stepped_fits g s cue on f =
    let k = chart_named g s.state.chart in
    let t = turn k s.state cue in
    let of = (turn-of k s.state cue).chart in
    record {
      chart = ap (has_chart g) of ∙ f.chart;
      fits = λ live. subst (λ name. Fits (chart_named g name) t.after) (sym of)
          (on.fits (live-runs t.after.phase (turn-past k s.state cue) live));
    }

-- the parts of a step: the state is put in, the effects are carried out, and then what goes with the session's end
turn_sound : (g : HostImage) (place : ℕ) (s : SessionImage) (cue : Cue) → IsSound g → slice_get g.sessions place ≡ Some s
    → FitsOn g s cue → length (step_turn g place s cue (turn (chart_named g s.state.chart) s.state cue)).sent ≤ 2 ^ 64 - 1
    → IsSound (step_turn g place s cue (turn (chart_named g s.state.chart) s.state cue)).host
turn_sound g place s cue sound there on few =
    let t = turn (chart_named g s.state.chart) s.state cue in
    let put = with_session g place (put_in s cue t) in
    let delivered = deliver_all put place t.effects in
    let m = delivered.host in
    let ended = end_at m place in
    let h = ended.host in
    let stepped : FitsChart put (put_in s cue t) =
    fits-same g put (put_in s cue t) refl (stepped_fits g s cue on (fits-at g place s sound.sessions there)) in
    let first : All (FitsChart put) put.sessions =
    All-set (FitsChart put) g.sessions place (put_in s cue t) stepped
    (λ i d l. fits-same g put (get_or g.sessions i d) refl (sound.sessions i d l)) in
    let moves = all_move put place t.effects in
    let last = end_moves m place in
    let steady = and_steady put m h (all_steady put place t.effects) (end_steady m place) in
    let commands : h.commands ≡ g.commands = commands_moves m h _ last ∙ commands_moves put m _ moves in
    let most = all_events put place t.effects in
    let more = end_events m place in
    let many = delivered_many put place t.effects in
    let both = length-append delivered.sent ended.sent in
    counted h (fits_moves m h _ last (fits_moves put m _ moves first)) (steady.sends sound.sends)
    (omega (arith, sound.events, commands, most, more, many, both, few)) (omega (arith, steady.clock, sound.clock))

-- sends that come due
tick_sound : (g : HostImage) (now : ℕ) → IsSound g → now ≤ CLOCK_LIMIT → length (due_in g now) ≤ 2 ^ 64 - 1
    → IsSound (advance g now).host
tick_sound g now sound within few =
    let m = ticked g now in
    let h = (fire_all m (due_in g now)).host in
    let moves = all_fire m (due_in g now) in
    let first : All (FitsChart m) m.sessions = λ i d l. fits-same g m (get_or g.sessions i d) refl (sound.sessions i d l) in
    let steady = fires_steady m (due_in g now) in
    let commands : h.commands ≡ g.commands = commands_moves m h _ moves in
    let most = fire_events m (due_in g now) in
    let left : AreNumbered m = All-filter (λ (t : TimerImage). not (is_due now t)) (λ (t : TimerImage). t.number ≤ g.delayed)
    g.timers sound.sends in
    counted h (fits_moves m h _ moves first) (steady.sends left) (omega (arith, sound.events, commands, most, few))
    (omega (arith, steady.clock, within))

kept : (g : HostImage) (c : Command) (a : Answer) → Change g c a → IsSound g → StepFits g c → length a.sent ≤ 2 ^ 64 - 1
    → IsSound a.host
kept g c a (refuses why is) sound fit few = subst (λ (x : Answer). IsSound x.host) (sym is) sound
kept g c a (installs name text chart command legal is) sound fit few =
    let h = with_chart g name text in
    subst (λ (x : Answer). IsSound x.host) (sym is)
    (counted h (λ i d l. fits-more g h _ (get_or g.sessions i d) refl (sound.sessions i d l)) sound.sends
    (omega (arith, sound.events)) sound.clock)
kept g c a (starts session chart command has new is) sound fit few =
    let h = with_fresh g session chart in
    subst (λ (x : Answer). IsSound x.host) (sym is)
    (counted h (All-push (FitsChart h) g.sessions (fresh_session session chart)
    (λ i d l. fits-same g h (get_or g.sessions i d) refl (sound.sessions i d l)) (fresh-fits h session chart has)) sound.sends
    (omega (arith, sound.events)) sound.clock)
kept g c a (posts session name pairs place s command found is) sound fit few =
    let e = posted_event name pairs in
    let h = queue g place s e in
    subst (λ (x : Answer). IsSound x.host) (sym is)
    (counted h (fits_moved g h _ (queues place s e (is_at g session place s found).there refl refl) sound.sessions) sound.sends
    (omega (arith, sound.events)) sound.clock)
kept g c a (ticks n now command within is) sound fit few =
    let sent = ap (λ (x : Answer). length x.sent) is in
    let many = fired_many (ticked g now) (due_in g now) in
    subst (λ (x : Answer). IsSound x.host) (sym is) (tick_sound g now sound within (omega (arith, few, sent, many)))
kept g c a (cancels session place s command found is) sound fit few =
    let put = record s { flagged = true } in
    let h = with_session g place put in
    subst (λ (x : Answer). IsSound x.host) (sym is)
    (counted h (fits_moved g h [] (puts place s put (is_at g session place s found).there refl (same refl)
    (λ f. record { chart = f.chart; fits = f.fits }) refl refl refl refl refl) sound.sessions) sound.sends
    (omega (arith, sound.events)) sound.clock)
kept g c a (turns session place s cue command found has is) sound fit few =
    let sent = ap (λ (x : Answer). length x.sent) is in
    subst (λ (x : Answer). IsSound x.host) (sym is)
    (turn_sound g place s cue sound (is_at g session place s found).there (fit session place s cue command found has)
    (omega (arith, few, sent)))

-- what is always true of the host machine is true after its answer
pub sound_answer : (g : HostImage) (c : Command) → IsSound g → StepFits g c → length (answer g c).sent ≤ 2 ^ 64 - 1
    → IsSound (answer g c).host
sound_answer g c sound fit few = kept g c (answer g c) (change_of g c) sound fit few
