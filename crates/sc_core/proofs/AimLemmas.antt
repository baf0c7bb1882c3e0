-- Where an event goes that a session sends, and that deliveries change nothing of that.
use Rattle.std.proofs.Common.{◌≡◌, ℕ, ◌+◌, ◌==◌, ◌&&◌, zero, suc, Bool, true, false, Option, Some, None, option_map, option_and_then, if◌then◌else◌, List, [], ◌∷◌, position, slice_get, slice_set, refl, arith, sym, ap, ◌∙◌}
use Rattle.std.proofs.Math.Seq.{map-set_same}
use Rattle.std.proofs.lemmas.Bool.Decides.{nat_tests}
use Rattle.std.proofs.lemmas.Option.{get_or_from_slice_get, slice_get-map}
use Rattle.std.specs.Option.{option_map_or}
use Rattle.std.specs.Str.{bytes_eq}
use Rattle.sc_types.specs.declared.event.Event.{Event}
use Rattle.sc_types.specs.declared.history.Delivery.TheVariants.{Dropped, Nothing, Queued}
use Rattle.sc_types.specs.declared.host.HostImage.{HostImage}
use Rattle.sc_types.specs.declared.host.InvokerImage.{InvokerImage}
use Rattle.sc_types.specs.declared.host.SessionImage.{SessionImage}
use Rattle.sc_types.specs.declared.host.TimerImage.{TimerImage}
use Rattle.sc_types.specs.declared.host.To.{To}
use Rattle.sc_types.specs.declared.host.To.TheVariants as to
use Rattle.sc_types.specs.declared.session.Phase.{Phase}
use Rattle.sc_types.specs.declared.session.SessionState.{SessionState}
use Rattle.sc_core.specs.Aims.{Outline, aim, aim_found, aim_named, carried, invokeid_for, outline, outlines, received}
use Rattle.sc_core.specs.Changes.{put_state, with_invokeid}
use Rattle.sc_machine.specs.Deliveries.{Delivered, arriving, fire, hears, is_cut_from, left_as, queue, receiver_name, send_found, send_named, send_now, unreachable, while_live}
use Rattle.sc_machine.specs.Hosts.{is_live, is_running, is_session_named, session_named, session_place, with_session}
use Rattle.sc_core.specs.declared.aims.Aim.{Aim}
use Rattle.sc_core.specs.declared.aims.Aim.TheVariants.{Reaches, Fails, Drops}
use Rattle.sc_core.proofs.BodyLemmas.{position_map}
use Rattle.sc_machine.proofs.FoundLemmas.{is_at}

-- ---- sending at an aim is sending

-- an event that was queued for a session of this name
abbrev queued_by : HostImage → ℕ → SessionImage → SessionImage → Event → List ℕ → Delivered
queued_by g p r s e name = record { host = queue g p r (arriving s name e); what = Queued (g.events + 1) name }

found_is_sent : (g : HostImage) (place : ℕ) (s : SessionImage) (name : List ℕ) (e : Event)
    (o : Option (ℕ × SessionImage)) → session_named g name ≡ o
    → send_found g place s name e (while_live o) ≡ carried g place s e (aim_found (while_live o))
found_is_sent g place s name e None found = refl
found_is_sent g place s name e (Some (p, r)) found = by (is_live r.state.phase)
  where
    by : (live : Bool) → send_found g place s name e (if live then Some (p, r) else None)
        ≡ carried g place s e (aim_found (if live then Some (p, r) else None))
    by false = refl
    by true =
        let at = is_at g name p r found in
        sym (ap (λ o. option_map_or (received g p s e) o (left_as g Nothing)) at.there
        ∙ ap (queued_by g p r s e) at.named)

named_is_sent : (g : HostImage) (place : ℕ) (s : SessionImage) (e : Event) (o : Option (List ℕ))
    → send_named g place s e o ≡ carried g place s e (aim_named g s o)
named_is_sent g place s e None = refl
named_is_sent g place s e (Some name) = by (is_cut_from s name)
  where
    by : (cut : Bool)
        → (if cut then left_as g Dropped else send_found g place s name e (while_live (session_named g name)))
        ≡ carried g place s e (if cut then Drops else aim_found (while_live (session_named g name)))
    by true = refl
    by false = found_is_sent g place s name e (session_named g name) refl

-- an event that is sent goes where it aims
pub carried_is_sent : (g : HostImage) (place : ℕ) (s : SessionImage) (who : To) (e : Event)
    → send_now g place s who e ≡ carried g place s e (aim g s who)
carried_is_sent g place s who e = named_is_sent g place s e (receiver_name s who)

-- the event bears the id of the invocation
pub arrives : (s : SessionImage) (name : List ℕ) (e : Event)
    → with_invokeid e (invokeid_for s.invoker name) ≡ arriving s name e
arrives s name e = by s.invoker
  where
    borne : InvokerImage → Event
    borne i = if bytes_eq i.session name then record e { invokeid = i.invokeid } else e

    by : (o : Option InvokerImage) → with_invokeid e (invokeid_for o name) ≡ option_map_or borne o e
    by None = refl
    by (Some i) = same (bytes_eq i.session name)
      where
        same : (b : Bool) → with_invokeid e (if b then Some i.invokeid else None)
            ≡ (if b then record e { invokeid = i.invokeid } else e)
        same true = refl
        same false = refl

-- ---- an aim depends on the outlines alone

live_found : (b : Bool) (found : ℕ × SessionImage)
    → aim_found (if b then Some found else None) ≡ (if b then Reaches found.0 else Fails)
live_found true found = refl
live_found false found = refl

-- the session at a place of a list, with the place
abbrev placed_in : List SessionImage → ℕ → Option (ℕ × SessionImage)
placed_in xs p = option_map {U = ℕ × SessionImage} (λ (s : SessionImage). (p, s)) (slice_get xs p)

abbrev found_in : List SessionImage → Option ℕ → Option (ℕ × SessionImage)
found_in xs o = option_and_then {U = ℕ × SessionImage} (placed_in xs) o

abbrev reached_in : Phase → ℕ → Aim
reached_in phase p = if is_live phase then Reaches p else Fails

abbrev outlined_at : List Outline → ℕ → Aim
outlined_at os p = option_map_or (λ (o : Outline). reached_in o.phase p) (slice_get os p) Fails

abbrev outlined : List Outline → List ℕ → Aim
outlined os name = option_map_or (outlined_at os) (position (λ (o : Outline). bytes_eq o.name name) os) Fails

aim_outlined : (g : HostImage) (name : List ℕ)
    → aim_found (while_live (session_named g name)) ≡ outlined (outlines g) name
aim_outlined g name =
    by (session_place g name)
    ∙ sym (ap (λ o. option_map_or (outlined_at (outlines g)) o Fails)
    (position_map (λ (o : Outline). bytes_eq o.name name) outline g.sessions))
  where
    at : (p : ℕ) (o : Option SessionImage)
        → aim_found (while_live (option_map {U = ℕ × SessionImage} (λ (s : SessionImage). (p, s)) o))
        ≡ option_map_or (λ (x : Outline). reached_in x.phase p) (option_map outline o) Fails
    at p None = refl
    at p (Some s) = live_found (is_live s.state.phase) (p, s)

    by : (o : Option ℕ)
        → aim_found (while_live (found_in g.sessions o)) ≡ option_map_or (outlined_at (outlines g)) o Fails
    by None = refl
    by (Some p) =
        at p (slice_get g.sessions p)
        ∙ sym (ap (λ o. option_map_or (λ (x : Outline). reached_in x.phase p) o Fails)
        (slice_get-map outline g.sessions p))

-- the name of a receiver is seen in the sender's outline
abbrev pub named_in : Outline → To → Option (List ℕ)
named_in o to.Own = Some o.name
named_in o to.Parent = option_map (λ (i : InvokerImage). i.session) o.invoker
named_in o (to.Child name) = Some name
named_in o (to.Session name) = Some name
named_in o to.Nowhere = None

receiver_in : (s : SessionImage) (who : To) → receiver_name s who ≡ named_in (outline s) who
receiver_in s to.Own = refl
receiver_in s to.Parent = refl
receiver_in s (to.Child name) = refl
receiver_in s (to.Session name) = refl
receiver_in s to.Nowhere = refl

abbrev cut_in : Outline → List ℕ → Bool
cut_in o name = option_map_or (λ (i : InvokerImage). i.cut && bytes_eq i.session name) o.invoker false

-- where an event goes, told from the outlines
abbrev pub aim_in : List Outline → Outline → Option (List ℕ) → Aim
aim_in os o None = Fails
aim_in os o (Some name) = if cut_in o name then Drops else outlined os name

named_outlined : (g : HostImage) (s : SessionImage) (o : Option (List ℕ))
    → aim_named g s o ≡ aim_in (outlines g) (outline s) o
named_outlined g s None = refl
named_outlined g s (Some name) = ap (λ aim. if is_cut_from s name then Drops else aim) (aim_outlined g name)

-- an aim is seen in the outlines
pub outlined_aim : (g : HostImage) (s : SessionImage) (who : To)
    → aim g s who ≡ aim_in (outlines g) (outline s) (named_in (outline s) who)
outlined_aim g s who =
    named_outlined g s (receiver_name s who) ∙ ap (aim_in (outlines g) (outline s)) (receiver_in s who)

-- where the outlines are the same, so is the aim
pub same_aim : (h g : HostImage) (t s : SessionImage) (who : To) → outlines h ≡ outlines g → outline t ≡ outline s
    → aim h t who ≡ aim g s who
same_aim h g t s who all one =
    outlined_aim h t who ∙ ap (λ os. aim_in os (outline t) (named_in (outline t) who)) all
    ∙ ap (λ o. aim_in (outlines g) o (named_in o who)) one ∙ sym (outlined_aim g s who)

-- ---- deliveries keep the outlines

-- a session is replaced by one of its outline
pub outlines_set : (g : HostImage) (place : ℕ) (s t : SessionImage) → slice_get g.sessions place ≡ Some s
    → outline t ≡ outline s → outlines (with_session g place t) ≡ outlines g
outlines_set g place s t there same =
    map-set_same outline g.sessions place t s
    (same ∙ ap outline (sym (get_or_from_slice_get g.sessions place s s there)))

-- an event joins an external queue
pub outlines_queue : (g : HostImage) (place : ℕ) (s : SessionImage) (e : Event) → slice_get g.sessions place ≡ Some s
    → outlines (queue g place s e) ≡ outlines g
outlines_queue g place s e there = outlines_set g place s _ there refl

outlines_unreachable : (g : HostImage) (place : ℕ) (s : SessionImage) (e : Event) → slice_get g.sessions place ≡ Some s
    → outlines (unreachable g place s e).host ≡ outlines g
outlines_unreachable g place s e there = by (is_running s.state.phase)
  where
    by : (runs : Bool) → outlines (if runs then with_session g place (hears s e.sendid) else g) ≡ outlines g
    by true = outlines_set g place s (hears s e.sendid) there refl
    by false = refl

-- an event is sent at an aim
pub outlines_carried : (g : HostImage) (place : ℕ) (s : SessionImage) (e : Event) (a : Aim)
    → slice_get g.sessions place ≡ Some s → outlines (carried g place s e a).host ≡ outlines g
outlines_carried g place s e Fails there = outlines_unreachable g place s e there
outlines_carried g place s e Drops there = refl
outlines_carried g place s e (Reaches p) there = by (slice_get g.sessions p) refl
  where
    by : (o : Option SessionImage) → slice_get g.sessions p ≡ o
        → outlines (option_map_or (received g p s e) o (left_as g Nothing)).host ≡ outlines g
    by None at = refl
    by (Some r) at = outlines_queue g p r (arriving s r.state.session e) at

pub outlines_sent : (g : HostImage) (place : ℕ) (s : SessionImage) (who : To) (e : Event)
    → slice_get g.sessions place ≡ Some s → outlines (send_now g place s who e).host ≡ outlines g
outlines_sent g place s who e there =
    ap (λ (d : Delivered). outlines d.host) (carried_is_sent g place s who e)
    ∙ outlines_carried g place s e (aim g s who) there

-- a send that came due is sent
pub outlines_fire : (g : HostImage) (t : TimerImage) → outlines (fire g t).host ≡ outlines g
unfolding fire
outlines_fire g t = by (session_named g t.session) refl
  where
    sent : ℕ × SessionImage → Delivered
    sent found = send_now g found.0 found.1 t.to t.event

    by : (o : Option (ℕ × SessionImage)) → session_named g t.session ≡ o
        → outlines (option_map_or sent o (left_as g Dropped)).host ≡ outlines g
    by None at = refl
    by (Some (place, s)) at = outlines_sent g place s t.to t.event (is_at g t.session place s at).there

-- ---- an aim once the sender's state is replaced

pub set_here : {X : Type 0} (xs : List X) (i : ℕ) (x y : X) → slice_get xs i ≡ Some x → slice_get (slice_set xs i y) i ≡ Some y
set_here [] i x y there = absurd cc
set_here (z ∷ zs) zero x y there = refl
set_here (z ∷ zs) (suc i) x y there = set_here zs i x y there

pub set_other : {X : Type 0} (xs : List X) (i j : ℕ) (y : X) → (j ≡ i → ⊥)
    → slice_get (slice_set xs i y) j ≡ slice_get xs j
set_other [] i j y differ = refl
set_other (x ∷ xs) zero zero y differ = absurd (differ refl)
set_other (x ∷ xs) zero (suc j) y differ = refl
set_other (x ∷ xs) (suc i) zero y differ = refl
set_other (x ∷ xs) (suc i) (suc j) y differ = set_other xs i j y (λ same. differ (ap suc same))

-- where an event goes to a session that was found, if the one at a place is in this phase
abbrev pub aim_seen : ℕ → Phase → Option (ℕ × SessionImage) → Aim
aim_seen place phase None = Fails
aim_seen place phase (Some found) = reached_in (if found.0 == place then phase else found.1.state.phase) found.0

-- a session with its place
abbrev at_place : ℕ → Option SessionImage → Option (ℕ × SessionImage)
at_place p o = option_map {U = ℕ × SessionImage} (λ (s : SessionImage). (p, s)) o

seen_here : (xs : List SessionImage) (place p : ℕ) (x y : SessionImage) → slice_get xs place ≡ Some x
    → (p == place) ≡ true
    → aim_found (while_live (placed_in (slice_set xs place y) p)) ≡ aim_seen place y.state.phase (placed_in xs p)
seen_here xs place p x y there same =
    let ys = slice_set xs place y in
    let is : place ≡ p = grind (arith, nat_tests, same) in
    let new : slice_get ys p ≡ Some y = ap (slice_get ys) (sym is) ∙ set_here xs place x y there in
    let old : slice_get xs p ≡ Some x = ap (slice_get xs) (sym is) ∙ there in
    ap (λ o. aim_found (while_live (at_place p o))) new ∙ live_found (is_live y.state.phase) (p, y)
    ∙ sym (ap (λ b. reached_in (if b then y.state.phase else x.state.phase) p) same)
    ∙ sym (ap (λ o. aim_seen place y.state.phase (at_place p o)) old)

seen_there : (xs : List SessionImage) (place p : ℕ) (y : SessionImage) → (p == place) ≡ false
    → aim_found (while_live (placed_in (slice_set xs place y) p)) ≡ aim_seen place y.state.phase (placed_in xs p)
seen_there xs place p y other =
    let differ : p ≡ place → ⊥ = λ same. grind (arith, nat_tests, other, same) in
    ap (λ o. aim_found (while_live (at_place p o))) (set_other xs place p y differ) ∙ by (slice_get xs p)
  where
    by : (o : Option SessionImage)
        → aim_found (while_live (at_place p o)) ≡ aim_seen place y.state.phase (at_place p o)
    by None = refl
    by (Some r) =
        live_found (is_live r.state.phase) (p, r)
        ∙ sym (ap (λ b. reached_in (if b then y.state.phase else r.state.phase) p) other)

aim_set : (g : HostImage) (place : ℕ) (x y : SessionImage) (name : List ℕ) → slice_get g.sessions place ≡ Some x
    → y.state.session ≡ x.state.session
    → aim_found (while_live (session_named (with_session g place y) name))
    ≡ aim_seen place y.state.phase (session_named g name)
aim_set g place x y name there named =
    ap (λ o. aim_found (while_live (found_in (slice_set xs place y) o))) placed ∙ by (session_place g name)
  where
    xs : List SessionImage
    xs = g.sessions

    name_in : SessionImage → List ℕ
    name_in s = s.state.session

    placed : position (is_session_named name) (slice_set xs place y) ≡ position (is_session_named name) xs
    placed =
        sym (position_map (λ n. bytes_eq n name) name_in (slice_set xs place y))
        ∙ ap (position (λ n. bytes_eq n name)) (map-set_same name_in xs place y x
        (named ∙ ap name_in (sym (get_or_from_slice_get xs place x x there))))
        ∙ position_map (λ n. bytes_eq n name) name_in xs

    at : (p : ℕ) (b : Bool) → (p == place) ≡ b
        → aim_found (while_live (placed_in (slice_set xs place y) p)) ≡ aim_seen place y.state.phase (placed_in xs p)
    at p true same = seen_here xs place p x y there same
    at p false other = seen_there xs place p y other

    by : (o : Option ℕ)
        → aim_found (while_live (found_in (slice_set xs place y) o)) ≡ aim_seen place y.state.phase (found_in xs o)
    by None = refl
    by (Some p) = at p (p == place) refl

-- once the state of the session at a place is this one, its phase decides of that session
pub aim_put : (g : HostImage) (place : ℕ) (state : SessionState) (name : List ℕ)
    → option_map (λ (s : SessionImage). s.state.session) (slice_get g.sessions place) ≡ Some state.session
    → aim_found (while_live (session_named (put_state g place state) name))
    ≡ aim_seen place state.phase (session_named g name)
aim_put g place state name there = by (slice_get g.sessions place) refl there
  where
    put : SessionImage → HostImage
    put s = with_session g place (record s { state = state })

    by : (o : Option SessionImage) → slice_get g.sessions place ≡ o
        → option_map (λ (s : SessionImage). s.state.session) o ≡ Some state.session
        → aim_found (while_live (session_named (put_state g place state) name))
        ≡ aim_seen place state.phase (session_named g name)
    by None at is = absurd cc
    by (Some x) at is =
        let named : x.state.session ≡ state.session = cc in
        ap (λ o. aim_found (while_live (session_named (option_map_or put o g) name))) at
        ∙ aim_set g place x (record x { state = state }) name at (sym named)

-- the session that was found is reached where it takes events
pub aim_put_found : (g : HostImage) (place : ℕ) (state : SessionState) (name : List ℕ) (found : ℕ × SessionImage)
    (takes : Bool)
    → option_map (λ (s : SessionImage). s.state.session) (slice_get g.sessions place) ≡ Some state.session
    → Some found ≡ session_named g name
    → takes ≡ is_live (if found.0 == place then state.phase else found.1.state.phase)
    → (if takes then Reaches found.0 else Fails) ≡ aim_found (while_live (session_named (put_state g place state) name))
aim_put_found g place state name found takes there is live =
    ap (λ b. if b then Reaches found.0 else Fails) live ∙ ap (aim_seen place state.phase) is
    ∙ sym (aim_put g place state name there)

-- where a session keeps its own state, its outline stays
pub outlines_put : (g : HostImage) (place : ℕ) (s : SessionImage) (state : SessionState)
    → slice_get g.sessions place ≡ Some s → outline (record s { state = state }) ≡ outline s
    → outlines (put_state g place state) ≡ outlines g
outlines_put g place s state there same =
    ap (λ o. outlines (option_map_or put o g)) there ∙ outlines_set g place s (record s { state = state }) there same
  where
    put : SessionImage → HostImage
    put x = with_session g place (record x { state = state })
