-- What the host machine does to the sessions: each delivery is one move of a few kinds.
use Rattle.std.proofs.Common.{is_some, map, length-append, ◌≡◌, ℕ, ◌+◌, ◌==◌, ◌&&◌, Bool, true, false, Option, Some, None, if◌then◌else◌, List, [], ◌∷◌, ◌++◌, slice_get, slice_set, refl, sym, ap, subst, ◌∙◌, nat_le, nat_lt, ◌-◌, ◌^◌, filter, not, ◌≤◌, All, get_or, length, arith}
use Rattle.std.specs.List.{flat_map}
use Rattle.std.specs.Option.{option_map_or}
use Rattle.std.specs.Str.{bytes_eq}
use Rattle.std.proofs.lemmas.Bool.{leb-true}
use Rattle.std.proofs.lemmas.List.Elements.{All-map, All-push, All-set}
use Rattle.sc_types.specs.Sends.{with_send}
use Rattle.sc_types.specs.declared.effect.Effect.{Effect}
use Rattle.sc_types.specs.declared.effect.Effect.TheVariants.{Send, CancelSend, Invoke, CancelChild, Forward}
use Rattle.sc_types.specs.declared.event.Event.{Event}
use Rattle.sc_types.specs.declared.history.Delivery.{Delivery}
use Rattle.sc_types.specs.declared.history.Delivery.TheVariants.{Born, Dropped, Flagged, Nothing, Queued, Timed, Unborn, Undone, Unreachable}
use Rattle.sc_types.specs.declared.host.HostImage.{HostImage}
use Rattle.sc_types.specs.declared.host.InvokerImage.{InvokerImage}
use Rattle.sc_types.specs.declared.host.SessionImage.{SessionImage}
use Rattle.sc_types.specs.declared.limits.TheConstants.{INVOKE_DEPTH_LIMIT}
use Rattle.sc_types.specs.declared.session.How.{How}
use Rattle.sc_types.specs.declared.value.Value.{Value}
use Rattle.sc_law.specs.Fitting.{fresh}
use Rattle.sc_types.specs.declared.host.TimerImage.{TimerImage}
use Rattle.sc_types.specs.declared.host.To.{To}
use Rattle.sc_types.specs.declared.session.Phase.{Phase}
use Rattle.sc_types.specs.declared.session.Phase.TheVariants as phase
use Rattle.sc_machine.specs.declared.limits.TheConstants.{CHILD_NAME_LIMIT}
use Rattle.sc_machine.specs.Deliveries.{Delivered, born, cancel_child, child_session, cut_off, deliver, deliver_all, deliver_of, delay_send, due_time, fire, fire_all, hand_to, hears, invoke, may_bear, told, unborn, unborn_event, without_invoke, is_cut_from, is_due, left_as, next_send, queue, arriving, receiver_name, send_found, send_named, send_now, undo, unreachable, while_live}
use Rattle.sc_machine.specs.Endings.{cleared, end_at, end_event, end_in, end_with, is_left_by, one_delivery, tell_end, tell_invoker, with_children_left}
use Rattle.sc_machine.specs.Hosts.{has_chart, is_live, is_running, session_named, session_place, with_session}
use Rattle.sc_machine.specs.FittingHosts.{FitsChart}
use Rattle.sc_machine.proofs.FitLemmas.{both_hold, fits-at, fits-same, hears-fits, unborn-fits}
use Rattle.sc_machine.proofs.FoundLemmas.{is_at}

-- an event's number, and the session that it was given to
abbrev pub Gift : Type 0
Gift = ℕ × List ℕ

-- a queue that gets no event stays, or is emptied
pub data Keeps (old new : List Event) : Type 0 where
  same : new ≡ old → Keeps old new
  emptied : new ≡ [] → Keeps old new

-- a session that is cut off keeps its name and its waiting events, and fits its chart as before
pub record IsParted (g : HostImage) (s t : SessionImage) : Type 0 where
  pub named : t.state.session ≡ s.state.session
  pub queued : t.queued ≡ s.queued
  pub fits : FitsChart g s → FitsChart g t

-- One move: the sessions stay, one of them changes but for its name and its waiting events, one gets an event under the
-- next number, one is born, or some are cut off.
pub data Move (g h : HostImage) (given : List Gift) : Type 0 where
  still : h.sessions ≡ g.sessions → h.events ≡ g.events → h.charts ≡ g.charts → h.commands ≡ g.commands → given ≡ [] → Move g h given
  puts : (place : ℕ) (s put : SessionImage) → slice_get g.sessions place ≡ Some s
      → put.state.session ≡ s.state.session → Keeps s.queued put.queued → (FitsChart g s → FitsChart g put)
      → h.sessions ≡ slice_set g.sessions place put → h.events ≡ g.events → h.charts ≡ g.charts
      → h.commands ≡ g.commands → given ≡ [] → Move g h given
  queues : (place : ℕ) (s : SessionImage) (e : Event) → slice_get g.sessions place ≡ Some s
      → h ≡ queue g place s e → given ≡ (g.events + 1, s.state.session) ∷ [] → Move g h given
  bears : (s : SessionImage) → s.queued ≡ [] → session_place g s.state.session ≡ None
      → length s.state.session ≤ CHILD_NAME_LIMIT → FitsChart g s → h.sessions ≡ g.sessions ++ s ∷ []
      → h.events ≡ g.events → h.charts ≡ g.charts → h.commands ≡ g.commands → given ≡ [] → Move g h given
  parts : (f : SessionImage → SessionImage) → ((s : SessionImage) → IsParted g s (f s))
      → h.sessions ≡ map f g.sessions → h.events ≡ g.events → h.charts ≡ g.charts → h.commands ≡ g.commands
      → given ≡ [] → Move g h given

-- several moves in a row
pub data Moves : HostImage → HostImage → List Gift → Type 0 where
  ends : {g h : HostImage} {given : List Gift} → h ≡ g → given ≡ [] → Moves g h given
  goes : {g h : HostImage} {given : List Gift} (m : HostImage) (first rest : List Gift) → Move g m first
      → Moves m h rest → given ≡ first ++ rest → Moves g h given

-- what a delivery gave
abbrev pub given_in : Delivery → List Gift
given_in (Queued n session) = (n, session) ∷ []
given_in d = []

-- a delivery is a move
abbrev pub IsMove : HostImage → Delivered → Type 0
IsMove g d = Move g d.host (given_in d.what)

unreachable_moves : (g : HostImage) (place : ℕ) (s : SessionImage) (e : Event) → slice_get g.sessions place ≡ Some s
    → IsMove g (unreachable g place s e)
unreachable_moves g place s e there = by (is_running s.state.phase) refl where
  by : (runs : Bool) → is_running s.state.phase ≡ runs
      → Move g (if runs then with_session g place (hears s e.sendid) else g) []
  by true running = puts place s (hears s e.sendid) there refl (same refl) (hears-fits g s e.sendid running) refl refl refl refl refl
  by false running = still refl refl refl refl refl

-- there is none
pub none_there : (o : Option ℕ) → not (is_some o) ≡ true → o ≡ None
none_there None h = refl
none_there (Some n) h = absurd (cc)

-- what is found and lives was found
pub live_found : (o : Option (ℕ × SessionImage)) (found : ℕ × SessionImage) → while_live o ≡ Some found → o ≡ Some found
live_found None found h = absurd (cc)
live_found (Some other) found h = by (is_live other.1.state.phase) h where
  by : (live : Bool) → (if live then Some other else None) ≡ Some found → Some other ≡ Some found
  by true h = h
  by false h = absurd (cc)

found_moves : (g : HostImage) (place : ℕ) (s : SessionImage) (name : List ℕ) (e : Event)
    (o : Option (ℕ × SessionImage)) → slice_get g.sessions place ≡ Some s → while_live (session_named g name) ≡ o
    → IsMove g (send_found g place s name e o)
found_moves g place s name e None there found = unreachable_moves g place s e there
found_moves g place s name e (Some (p, r)) there found =
    let at = is_at g name p r (live_found (session_named g name) (p, r) found) in
    queues p r (arriving s name e) at.there refl (ap (λ n. (g.events + 1, n) ∷ []) (sym at.named))

named_moves : (g : HostImage) (place : ℕ) (s : SessionImage) (e : Event) (o : Option (List ℕ))
    → slice_get g.sessions place ≡ Some s → IsMove g (send_named g place s e o)
named_moves g place s e None there = unreachable_moves g place s e there
named_moves g place s e (Some name) there = by (is_cut_from s name) where
  by : (cut : Bool) → IsMove g (if cut then left_as g Dropped
      else send_found g place s name e (while_live (session_named g name)))
  by true = still refl refl refl refl refl
  by false = found_moves g place s name e (while_live (session_named g name)) there refl

-- an event that is sent now is a move
pub send_moves : (g : HostImage) (place : ℕ) (s : SessionImage) (who : To) (e : Event)
    → slice_get g.sessions place ≡ Some s → IsMove g (send_now g place s who e)
send_moves g place s who e there = named_moves g place s e (receiver_name s who) there

delay_moves : (g : HostImage) (s : SessionImage) (who : To) (e : Event) (delay : ℕ) → IsMove g (delay_send g s who e delay)
delay_moves g s who e delay = by (is_live s.state.phase && nat_lt g.delayed (2 ^ 64 - 1)) where
  by : (b : Bool) → IsMove g (if b
      then record {
        host = record g { delayed = g.delayed + 1; timers = with_send (next_send g s who e delay) g.timers };
        what = Timed (g.delayed + 1) (due_time g.clock delay);
      }
      else left_as g Dropped)
  by true = still refl refl refl refl refl
  by false = still refl refl refl refl refl

undo_moves : (g : HostImage) (s : SessionImage) (id : List ℕ) → IsMove g (undo g s id)
undo_moves g s [] = still refl refl refl refl refl
undo_moves g s (b ∷ id) = still refl refl refl refl refl

-- what a session is told leaves its name and its waiting events
told_same : (s : SessionImage) (e : Event) → ((told e s).state.session ≡ s.state.session) × ((told e s).queued ≡ s.queued)
told_same s e = by (is_running s.state.phase) where
  by : (runs : Bool)
      → ((if runs then record s { state = record s.state { internal = s.state.internal ++ e ∷ [] } } else s).state.session
      ≡ s.state.session)
      × ((if runs then record s { state = record s.state { internal = s.state.internal ++ e ∷ [] } } else s).queued ≡ s.queued)
  by true = (refl, refl)
  by false = (refl, refl)

unborn_moves : (g : HostImage) (place : ℕ) (s : SessionImage) (id child : List ℕ) → slice_get g.sessions place ≡ Some s
    → IsMove g (unborn g place s id child)
unborn_moves g place s id child there =
    let e = unborn_event id in
    let w = without_invoke child s in
    let kept = told_same w e in
    puts place s (told e w) there kept.0 (same kept.1) (unborn-fits g s id child) refl refl refl refl refl

invoke_moves : (g : HostImage) (place : ℕ) (s : SessionImage) (id child chart : List ℕ) (pairs : List (List ℕ × Value))
    → slice_get g.sessions place ≡ Some s → IsMove g (invoke g place s id child chart pairs)
invoke_moves g place s id child chart pairs there = by (may_bear g s child chart) refl where
  by : (may : Bool) → may_bear g s child chart ≡ may
      → IsMove g (if may then born g s id child chart pairs else unborn g place s id child)
  by true may =
      let fits = nat_le (length child) CHILD_NAME_LIMIT in
      let new =
      both_hold (has_chart g chart && nat_lt s.depth INVOKE_DEPTH_LIMIT && fits) (not (is_some (session_place g child))) may in
      let short = both_hold (has_chart g chart && nat_lt s.depth INVOKE_DEPTH_LIMIT) fits new.0 in
      let has = both_hold (has_chart g chart) (nat_lt s.depth INVOKE_DEPTH_LIMIT) short.0 in
      bears (child_session s id child chart pairs) refl (none_there (session_place g child) new.1)
      (leb-true (length child) CHILD_NAME_LIMIT short.1)
      (record { chart = has.0; fits = λ live. fresh refl }) refl refl refl refl refl
  by false may = unborn_moves g place s id child there

cancel_moves : (g : HostImage) (child : List ℕ) (o : Option (ℕ × SessionImage)) → while_live (session_named g child) ≡ o
    → IsMove g (cancel_child g child o)
cancel_moves g child None found = still refl refl refl refl refl
cancel_moves g child (Some (p, r)) found =
    let at = is_at g child p r (live_found (session_named g child) (p, r) found) in
    puts p r (cut_off r) at.there refl (same refl) (λ f. record { chart = f.chart; fits = f.fits }) refl refl refl refl refl

-- an event joins the queue of the session of a name
hand_moves : (g : HostImage) (name : List ℕ) (e : Event) (o : Option (ℕ × SessionImage))
    → while_live (session_named g name) ≡ o → IsMove g (hand_to g name e o)
hand_moves g name e None found = still refl refl refl refl refl
hand_moves g name e (Some (p, r)) found =
    let at = is_at g name p r (live_found (session_named g name) (p, r) found) in
    queues p r e at.there refl (ap (λ n. (g.events + 1, n) ∷ []) (sym at.named))

effect_moves : (g : HostImage) (place : ℕ) (s : SessionImage) (effect : Effect) → slice_get g.sessions place ≡ Some s
    → IsMove g (deliver_of g place s effect)
effect_moves g place s (Send e who delay) there = by (delay == 0) where
  by : (now : Bool) → IsMove g (if now then send_now g place s who e else delay_send g s who e delay)
  by true = send_moves g place s who e there
  by false = delay_moves g s who e delay
effect_moves g place s (CancelSend id) there = undo_moves g s id
effect_moves g place s (Invoke id child chart pairs) there = invoke_moves g place s id child chart pairs there
effect_moves g place s (CancelChild child) there = by (bytes_eq child s.state.session) where
  by : (own : Bool) → IsMove g (cancel_child g child (if own then None else while_live (session_named g child)))
  by true = still refl refl refl refl refl
  by false = cancel_moves g child (while_live (session_named g child)) refl
effect_moves g place s (Forward child e) there = hand_moves g child e (while_live (session_named g child)) refl

-- carrying out an effect is a move
pub deliver_moves : (g : HostImage) (place : ℕ) (effect : Effect) → IsMove g (deliver g place effect)
unfolding deliver
deliver_moves g place effect = by (slice_get g.sessions place) refl where
  by : (o : Option SessionImage) → slice_get g.sessions place ≡ o
      → IsMove g (option_map_or (λ (s : SessionImage). deliver_of g place s effect) o (left_as g Nothing))
  by None e = still refl refl refl refl refl
  by (Some s) e = effect_moves g place s effect e

one_gift : (d : Delivery) → length (given_in d) ≤ 1
one_gift (Queued n session) = omega arith
one_gift (Timed n due) = omega arith
one_gift Unreachable = omega arith
one_gift Dropped = omega arith
one_gift (Undone count) = omega arith
one_gift (Born child) = omega arith
one_gift Unborn = omega arith
one_gift (Flagged child) = omega arith
one_gift Nothing = omega arith

-- what several deliveries gave
abbrev pub gifts : List Delivery → List Gift
gifts sent = flat_map given_in sent

-- they gave no more than they are
gifts_few : (sent : List Delivery) → length (gifts sent) ≤ length sent
gifts_few [] = omega arith
gifts_few (d ∷ ds) =
    let both = length-append (given_in d) (gifts ds) in
    omega (arith, both, one_gift d, gifts_few ds)

-- carrying out effects is a row of moves
pub all_move : (g : HostImage) (place : ℕ) (effects : List Effect)
    → Moves g (deliver_all g place effects).host (gifts (deliver_all g place effects).sent)
all_move g place [] = ends refl refl
all_move g place (effect ∷ effects) =
    let first = deliver g place effect in
    goes first.host (given_in first.what) (gifts (deliver_all first.host place effects).sent)
    (deliver_moves g place effect) (all_move first.host place effects) refl

-- sending what came due is a move
pub fire_moves : (g : HostImage) (t : TimerImage) → IsMove g (fire g t)
unfolding fire
fire_moves g t = by (session_named g t.session) refl where
  by : (o : Option (ℕ × SessionImage)) → session_named g t.session ≡ o
      → IsMove g (option_map_or (λ (found : ℕ × SessionImage). send_now g found.0 found.1 t.to t.event) o (left_as g Dropped))
  by None e = still refl refl refl refl refl
  by (Some (place, s)) e = send_moves g place s t.to t.event (is_at g t.session place s e).there

-- sending all that came due is a row of moves
pub all_fire : (g : HostImage) (ts : List TimerImage) → Moves g (fire_all g ts).host (gifts (fire_all g ts).sent)
all_fire g [] = ends refl refl
all_fire g (t ∷ ts) =
    let first = fire g t in
    goes first.host (given_in first.what) (gifts (fire_all first.host ts).sent) (fire_moves g t) (all_fire first.host ts) refl

-- clearing a session that has ended is a move
-- children that are cut off were given nothing
gifts_cut : (xs : List SessionImage) (more : List Delivery)
    → gifts (map (λ (s : SessionImage). Flagged s.state.session) xs ++ more) ≡ gifts more
gifts_cut [] more = refl
gifts_cut (x ∷ xs) more = gifts_cut xs more

told_moves : (g : HostImage) (o : Option InvokerImage) (how : How)
    → Moves g (tell_end g o how).host (gifts (tell_end g o how).sent)
told_moves g None how = ends refl refl
told_moves g (Some i) how = by (end_event i.invokeid how) where
  one : (e : Event) → IsMove g (tell_invoker g i e)
  one e = cut i.cut where
    cut : (b : Bool) → IsMove g (if b then left_as g Dropped else hand_to g i.session e (while_live (session_named g i.session)))
    cut true = still refl refl refl refl refl
    cut false = hand_moves g i.session e (while_live (session_named g i.session)) refl

  by : (o : Option Event) → Moves g
      (option_map_or (λ (e : Event). one_delivery (tell_invoker g i e)) o (record { host = g; sent = [] })).host
      (gifts (option_map_or (λ (e : Event). one_delivery (tell_invoker g i e)) o (record { host = g; sent = [] })).sent)
  by None = ends refl refl
  by (Some e) =
      let d = tell_invoker g i e in
      goes d.host (given_in d.what) [] (one e) (ends refl refl) refl

-- a session that is cut off, or left as it is
left_parted : (g : HostImage) (name : List ℕ) (s : SessionImage) → IsParted g s (if is_left_by name s then cut_off s else s)
left_parted g name s = by (is_left_by name s) where
  by : (left : Bool) → IsParted g s (if left then cut_off s else s)
  by true = record { named = refl; queued = refl; fits = λ f. record { chart = f.chart; fits = f.fits } }
  by false = record { named = refl; queued = refl; fits = λ f. f }

over_moves : (g : HostImage) (place : ℕ) (s : SessionImage) (how : How) → slice_get g.sessions place ≡ Some s
    → Moves g (end_with (cleared g place s) s how).host (gifts (end_with (cleared g place s) s how).sent)
over_moves g place s how there =
    let c = cleared g place s in
    let name = s.state.session in
    let k = with_children_left c name in
    let told = tell_end k s.invoker how in
    let cut : Move c k [] = parts (λ s. if is_left_by name s then cut_off s else s) (left_parted c name) refl refl refl refl refl in
    goes c [] (gifts (end_with c s how).sent)
    (puts place s (record s { queued = [] }) there refl (emptied refl) (λ f. record { chart = f.chart; fits = f.fits }) refl
    refl refl refl refl)
    (goes k [] (gifts told.sent) cut (told_moves k s.invoker how) (gifts_cut (filter (is_left_by name) c.sessions) told.sent))
    refl

-- the end of a session is a row of moves
pub end_moves : (g : HostImage) (place : ℕ) → Moves g (end_at g place).host (gifts (end_at g place).sent)
unfolding end_at
end_moves g place = by (slice_get g.sessions place) refl where
  in_phase : (s : SessionImage) (p : Phase) → slice_get g.sessions place ≡ Some s
      → Moves g (end_in g place s p).host (gifts (end_in g place s p).sent)
  in_phase s (phase.Ended how) there = over_moves g place s how there
  in_phase s phase.Fresh there = ends refl refl
  in_phase s phase.Running there = ends refl refl

  by : (o : Option SessionImage) → slice_get g.sessions place ≡ o
      → Moves g (option_map_or (λ (s : SessionImage). end_in g place s s.state.phase) o (record { host = g; sent = [] })).host
      (gifts (option_map_or (λ (s : SessionImage). end_in g place s s.state.phase) o (record { host = g; sent = [] })).sent)
  by None e = ends refl refl
  by (Some s) e = in_phase s s.state.phase e

-- the host at a later moment, without the sends that come due by then
abbrev pub ticked : HostImage → ℕ → HostImage
ticked g now = record g { clock = now; timers = filter (λ t. not (is_due now t)) g.timers }

-- the sends that come due by then
abbrev pub due_in : HostImage → ℕ → List TimerImage
due_in g now = filter (is_due now) g.timers

-- where sessions fit their charts, they do after a move
pub fits_moved : (g h : HostImage) (given : List Gift) → Move g h given → All (FitsChart g) g.sessions
    → All (FitsChart h) h.sessions
fits_moved g h given (still sessions events charts commands is) all =
    subst (All (FitsChart h)) (sym sessions) (λ i d l. fits-same g h (get_or g.sessions i d) charts (all i d l))
fits_moved g h given (puts place s put there named kept fits sessions events charts commands is) all =
    subst (All (FitsChart h)) (sym sessions)
    (All-set (FitsChart h) g.sessions place put (fits-same g h put charts (fits (fits-at g place s all there)))
    (λ i d l. fits-same g h (get_or g.sessions i d) charts (all i d l)))
fits_moved g h given (queues place s e there is gift) all =
    let own = fits-at g place s all there in
    let q = queue g place s e in
    subst (λ (x : HostImage). All (FitsChart x) x.sessions) (sym is)
    (All-set (FitsChart q) g.sessions place _ (fits-same g q _ refl (record { chart = own.chart; fits = own.fits }))
    (λ i d l. fits-same g q (get_or g.sessions i d) refl (all i d l)))
fits_moved g h given (bears s queued new short fits sessions events charts commands is) all =
    subst (All (FitsChart h)) (sym sessions)
    (All-push (FitsChart h) g.sessions s (λ i d l. fits-same g h (get_or g.sessions i d) charts (all i d l))
    (fits-same g h s charts fits))
fits_moved g h given (parts f part sessions events charts commands is) all =
    subst (All (FitsChart h)) (sym sessions)
    (All-map (FitsChart h) f g.sessions (λ i d l. fits-same g h (f (get_or g.sessions i d)) charts
    ((part (get_or g.sessions i d)).fits (all i d l))))

-- and after several
pub fits_moves : (g h : HostImage) (given : List Gift) → Moves g h given → All (FitsChart g) g.sessions
    → All (FitsChart h) h.sessions
fits_moves g h given (ends unmoved is) all = subst (λ (x : HostImage). All (FitsChart x) x.sessions) (sym unmoved) all
fits_moves g h given (goes m front rest one others is) all =
    fits_moves m h rest others (fits_moved g m front one all)

-- a move changes no chart
pub charts_moved : (g h : HostImage) (given : List Gift) → Move g h given → h.charts ≡ g.charts
charts_moved g h given (still sessions events charts commands is) = charts
charts_moved g h given (puts place s put there named kept fits sessions events charts commands is) = charts
charts_moved g h given (bears s queued new short fits sessions events charts commands is) = charts
charts_moved g h given (parts f part sessions events charts commands is) = charts
charts_moved g h given (queues place s e there is gift) = ap (λ (x : HostImage). x.charts) is

-- nor do several
pub charts_moves : (g h : HostImage) (given : List Gift) → Moves g h given → h.charts ≡ g.charts
charts_moves g h given (ends unmoved is) = ap (λ (x : HostImage). x.charts) unmoved
charts_moves g h given (goes m front rest one others is) = charts_moves m h rest others ∙ charts_moved g m front one

-- a move gives out one number at most
pub events_moved : (g h : HostImage) (given : List Gift) → Move g h given → h.events ≤ g.events + 1
events_moved g h given (still sessions events charts commands is) = omega (arith, events)
events_moved g h given (puts place s put there named kept fits sessions events charts commands is) = omega (arith, events)
events_moved g h given (bears s queued new short fits sessions events charts commands is) = omega (arith, events)
events_moved g h given (parts f part sessions events charts commands is) = omega (arith, events)
events_moved g h given (queues place s e there is gift) = omega (arith, ap (λ (x : HostImage). x.events) is)

-- and as many as it tells
events_told : (g h : HostImage) (given : List Gift) → Move g h given → h.events ≤ g.events + length given
events_told g h given (still sessions events charts commands is) = omega (arith, events)
events_told g h given (puts place s put there named kept fits sessions events charts commands is) = omega (arith, events)
events_told g h given (bears s queued new short fits sessions events charts commands is) = omega (arith, events)
events_told g h given (parts f part sessions events charts commands is) = omega (arith, events)
events_told g h given (queues place s e there is gift) =
    omega (arith, ap (λ (x : HostImage). x.events) is, ap length gift)

-- a move leaves the count of commands
pub commands_moved : (g h : HostImage) (given : List Gift) → Move g h given → h.commands ≡ g.commands
commands_moved g h given (still sessions events charts commands is) = commands
commands_moved g h given (puts place s put there named kept fits sessions events charts commands is) = commands
commands_moved g h given (bears s queued new short fits sessions events charts commands is) = commands
commands_moved g h given (parts f part sessions events charts commands is) = commands
commands_moved g h given (queues place s e there is gift) = ap (λ (x : HostImage). x.commands) is

-- and so do several
pub commands_moves : (g h : HostImage) (given : List Gift) → Moves g h given → h.commands ≡ g.commands
commands_moves g h given (ends unmoved is) = ap (λ (x : HostImage). x.commands) unmoved
commands_moves g h given (goes m front rest one others is) =
    commands_moves m h rest others ∙ commands_moved g m front one

-- several moves give out no more numbers than they tell
pub events_moves : (g h : HostImage) (given : List Gift) → Moves g h given → h.events ≤ g.events + length given
events_moves g h given (ends unmoved is) = omega (arith, ap (λ (x : HostImage). x.events) unmoved)
events_moves g h given (goes m front rest one others is) =
    let long = ap length is ∙ length-append front rest in
    omega (arith, long, events_told g m front one, events_moves m h rest others)

-- the end of a session gives out one number at most
pub end_events : (g : HostImage) (place : ℕ) → (end_at g place).host.events ≤ g.events + length (end_at g place).sent
end_events g place =
    let told = gifts_few (end_at g place).sent in
    omega (arith, told, events_moves g (end_at g place).host _ (end_moves g place))

-- effects give out no more numbers than they are
pub all_events : (g : HostImage) (place : ℕ) (effects : List Effect)
    → (deliver_all g place effects).host.events ≤ g.events + length effects
all_events g place [] = omega arith
all_events g place (effect ∷ effects) =
    let d = deliver g place effect in
    let one = events_moved g d.host (given_in d.what) (deliver_moves g place effect) in
    omega (arith, one, all_events d.host place effects)

-- nor do sends that come due
pub fire_events : (g : HostImage) (ts : List TimerImage) → (fire_all g ts).host.events ≤ g.events + length ts
fire_events g [] = omega arith
fire_events g (t ∷ ts) =
    let d = fire g t in
    let one = events_moved g d.host (given_in d.what) (fire_moves g t) in
    omega (arith, one, fire_events d.host ts)
