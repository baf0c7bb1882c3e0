-- What is prepared of the end of a session is what the host machine does.
use Rattle.std.proofs.Common.{◌≡◌, ℕ, ◌+◌, ◌^◌, ◌<◌, ◌++◌, true, false, Bool, Option, Some, None, option_map, if◌then◌else◌, List, [], ◌∷◌, append-nil, append_assoc, length, map, slice_get, slice_set, refl, arith, sym, ap, subst, ◌∙◌, zero, suc}
use Rattle.std.specs.Option.{option_map_or}
use Rattle.std.proofs.Math.Seq.{map-set_same}
use Rattle.std.proofs.lemmas.Option.{get_or_from_slice_get, same_Some, slice_get-map, slice_get_within}
use Rattle.std.proofs.lemmas.Slice.Eq.{bytes_eq-Decides}
use Rattle.sc_types.specs.declared.chart.Chart.{Chart}
use Rattle.sc_types.specs.declared.event.Event.{Event}
use Rattle.sc_types.specs.declared.history.Delivery.{Delivery}
use Rattle.sc_types.specs.declared.history.Delivery.TheVariants.{Dropped, Queued}
use Rattle.sc_types.specs.declared.host.HostImage.{HostImage}
use Rattle.sc_types.specs.declared.host.InvokerImage.{InvokerImage}
use Rattle.sc_types.specs.declared.host.SessionImage.{SessionImage}
use Rattle.sc_types.specs.declared.session.How.{How}
use Rattle.sc_types.specs.declared.session.Phase.{Phase}
use Rattle.sc_types.specs.declared.session.Phase.TheVariants as phase
use Rattle.sc_types.specs.declared.session.SessionState.{SessionState}
use Rattle.sc_core.specs.Births.{AreFrom, IsGrown, born_sight, sight, sights}
use Rattle.sc_core.specs.Bodies.{Agrees, children_of, image, inviter, session_image}
use Rattle.sc_core.specs.Changes.{clear_at, clear_in, numbered, put_state}
use Rattle.sc_machine.specs.Deliveries.{Delivered, DeliveredAll, cut_off, hand_to, left_as, queue, while_live}
use Rattle.sc_core.specs.Drafts.{IsSender, so_far, stepper}
use Rattle.sc_machine.specs.Endings.{cleared, end_at, end_event, end_in, end_with, is_left_by, one_delivery, tell_end, tell_invoker, with_children_left}
use Rattle.sc_machine.specs.Hosts.{is_live, session_named, with_session}
use Rattle.sc_core.specs.Installing.{CanApplyAll, installed}
use Rattle.sc_core.specs.HostStates.{ArePlanned}
use Rattle.sc_core.specs.Parting.{Adds, DraftsEnd, cut_changes, cut_told, is_cut_in, new_left, old_left}
use Rattle.sc_core.specs.declared.body.Body.{Body}
use Rattle.sc_core.specs.declared.change.Change.{Change}
use Rattle.sc_core.specs.declared.change.Change.TheVariants.{End, Queue}
use Rattle.sc_core.specs.declared.draft.Draft.{Draft}
use Rattle.sc_core.specs.declared.draft.Placed.{Placed}
use Rattle.sc_core.specs.declared.session.Session.{Session}
use Rattle.sc_core.proofs.AppendLemmas.{can_more, installed_more, targets_more}
use Rattle.sc_core.proofs.BirthLemmas.{grown_on, sights_set}
use Rattle.sc_core.proofs.DraftLemmas.{put_long, sender_grown, sender_there}
use Rattle.sc_core.proofs.LeftLemmas.{born_links, cut_where, left_is, links, links_after, put_front}
use Rattle.sc_core.proofs.PartLemmas.{all_parted, cut_targets, placed_where, told_where}
use Rattle.sc_core.proofs.SetLemmas.{clear_is, clear_over, map_long}

-- ---- changes behind others

-- none
pub adds_none : {P : Type 0} (h k : HostImage) (old : List (Change P)) → h ≡ k → Adds h old old k
adds_none h k old is = record {
  more = [];
  changes = sym (append-nil old);
  can = tt;
  targets = λ n. tt;
  none = λ chart_of. tt;
  host = is;
}

-- an event joins a queue
pub adds_queue : {P : Type 0} (h : HostImage) (old new : List (Change P)) (place : ℕ) (r : SessionImage) (e : Event)
    (n : ℕ) → new ≡ old ++ Queue place (numbered n e) ∷ [] → slice_get h.sessions place ≡ Some r → h.events + 1 < 2 ^ 128
    → n ≡ h.events + 1 → Adds h old new (queue h place r e)
adds_queue h old new place r e n made there number next = record {
  more = Queue place (numbered n e) ∷ [];
  changes = made;
  can = ((slice_get_within h.sessions place r there, number, next), tt);
  targets = λ n. (tt, tt);
  none = λ chart_of. tt;
  host = ap (λ o. option_map_or (λ (s : SessionImage). queue h place s e) o h) there;
}

planned_cuts : {P : Type 0} (chart_of : P → Chart) (left : List Placed) (more : List (Change P)) → ArePlanned chart_of more
    → ArePlanned chart_of (cut_changes left ++ more)
planned_cuts f [] more are = are
planned_cuts f (b ∷ bs) more are = planned_cuts f bs more are

-- ---- the end

-- the end of a session that goes on
pub end_goes : (h : HostImage) (place : ℕ) (t : SessionImage) → slice_get h.sessions place ≡ Some t
    → is_live t.state.phase ≡ true → end_at h place ≡ record { host = h; sent = [] }
unfolding end_at
end_goes h place t there live =
    ap (λ o. option_map_or (λ (s : SessionImage). end_in h place s s.state.phase) o (record { host = h; sent = [] })) there
    ∙ by t.state.phase live
  where
    by : (p : Phase) → is_live p ≡ true → end_in h place t p ≡ record { host = h; sent = [] }
    by phase.Fresh l = refl
    by phase.Running l = refl
    by (phase.Ended how) l = absurd cc

-- of one that has ended
pub end_ends : (h : HostImage) (place : ℕ) (t : SessionImage) (how : How) → slice_get h.sessions place ≡ Some t
    → t.state.phase ≡ phase.Ended how → end_at h place ≡ end_with (cleared h place t) t how
unfolding end_at
end_ends h place t how there ended =
    ap (λ o. option_map_or (λ (s : SessionImage). end_in h place s s.state.phase) o (record { host = h; sent = [] })) there
    ∙ ap (end_in h place t) ended

clear_ends : (h : HostImage) (place : ℕ) (t : SessionImage) → slice_get h.sessions place ≡ Some t
    → is_live t.state.phase ≡ false → clear_at h place ≡ cleared h place t
clear_ends h place t there over =
    clear_is h place ∙ ap (λ o. option_map_or (λ (s : SessionImage). clear_in h place s s.state.phase) o h) there
    ∙ clear_over h place t over

item_links : (items : List Session)
    → map (λ (s : SessionImage). s.invoker) (map session_image items) ≡ map (λ (x : Session). x.invoker) items
item_links [] = refl
item_links (x ∷ xs) = ap (λ os. x.invoker ∷ os) (item_links xs)

-- the children that were told before are those that are left behind
pub left_of : {P : Type 0} (h : Body P) (place : ℕ) (after : SessionState) (g : HostImage) (d : Draft P) (t : SessionImage)
    → IsSender (image h) place after g d t → is_live after.phase ≡ false
    → old_left h.sessions.items d.changes place (children_of after.session 0 (map inviter h.sessions.items))
    ++ new_left d.changes d.births
    ≡ placed_where (is_left_by t.state.session) 0 (cleared (so_far g d) place t).sessions
left_of {P = P} h place after g d t sender over =
    let before = image h in
    let items = h.sessions.items in
    let k = so_far g d in
    let w : SessionImage = record t { queued = [] } in
    let found = sender_there before place after g d t sender in
    let grown = sender_grown before place after g d t sender in
    let s = found.session in
    let put = record s { state = after } in
    let is_put : put_state before place after ≡ with_session before place put =
    ap (λ o. option_map_or (λ (x : SessionImage). with_session before place (record x { state = after })) o before) found.there in
    let seen : map sight (with_session k place w).sessions
    ≡ map sight (slice_set (map session_image items) place put) ++ map born_sight d.births =
    sights_set k place t w sender.there refl ∙ grown.sights
    ∙ ap (λ (x : HostImage). sights x ++ map born_sight d.births) is_put in
    let fronted = put_front items place s put found.there in
    let linked : links (with_session k place w) ≡ links k =
    map-set_same (λ (x : SessionImage). x.invoker) k.sessions place w t
    (ap (λ (x : SessionImage). x.invoker) (sym (get_or_from_slice_get k.sessions place t t sender.there))) in
    let long : length (put_state before place after).sessions ≡ length items =
    put_long before place after ∙ map_long session_image items in
    sym (left_is (stepper after.session place) d.changes items place (sight put) d.births (with_session k place w).sessions over
    (seen ∙ ap (λ os. os ++ map born_sight d.births) fronted)
    (linked ∙ links_after (stepper after.session place) d.changes g sender.draft.of_step sender.draft.can
    ∙ ap (λ os. cut_where (is_cut_in d.changes) 0 (os ++ born_links d.changes)) (sender.base.links ∙ item_links items))
    (subst (λ n. AreFrom n d.births) long grown.places) sender.draft.of_step
    ((bytes_eq-Decides after.session after.session).1 refl))
    ∙ ap (λ name. placed_where (is_left_by name) 0 (with_session k place w).sessions) (sym found.is.session)

-- the whole end
pub end_drafted : {P : Type 0} (h : HostImage) (place : ℕ) (t : SessionImage) (how : How) (old new : Draft P)
    (cut : List (Change P)) (left : List Placed) (sent : List Delivery) → slice_get h.sessions place ≡ Some t
    → t.state.phase ≡ phase.Ended how
    → left ≡ placed_where (is_left_by t.state.session) 0 (cleared h place t).sessions
    → cut ≡ (old.changes ++ End place ∷ []) ++ cut_changes left → sent ≡ old.sent ++ cut_told left
    → Adds (with_children_left (cleared h place t) t.state.session) cut new.changes
    (tell_end (with_children_left (cleared h place t) t.state.session) t.invoker how).host
    → new.sent ≡ sent ++ (tell_end (with_children_left (cleared h place t) t.state.session) t.invoker how).sent
    → DraftsEnd h place old new
end_drafted {P = P} h place t how old new cut left sent there ended is made told adds more_sent =
    let name = t.state.session in
    let k = cleared h place t in
    let q = is_left_by name in
    let m = with_children_left k name in
    let all = tell_end m t.invoker how in
    let over : is_live t.state.phase ≡ false = ap is_live ended in
    let whole : end_at h place ≡ end_with k t how = end_ends h place t how there ended in
    let parts = all_parted P q k in
    let cuts : List (Change P) = cut_changes left in
    let same : cut_changes {P = P} (placed_where q 0 k.sessions) ≡ cuts = ap (λ bs. cut_changes bs) (sym is) in
    let reaches : installed cuts k ≡ m = ap (λ cs. installed cs k) (sym same) ∙ parts.host in
    let can : CanApplyAll k cuts = subst (CanApplyAll k) same parts.can in
    let clears : clear_at h place ≡ k = clear_ends h place t there over in
    let first : CanApplyAll (clear_at h place) (cuts ++ adds.more) =
    subst (λ x. CanApplyAll x (cuts ++ adds.more)) (sym clears)
    (can_more cuts adds.more k can (subst (λ x. CanApplyAll x adds.more) (sym reaches) adds.can)) in
    record {
      adds = record {
        more = End place ∷ (cuts ++ adds.more);
        changes = adds.changes ∙ ap (λ cs. cs ++ adds.more) made
            ∙ append_assoc (old.changes ++ End place ∷ []) cuts adds.more
            ∙ append_assoc old.changes (End place ∷ []) (cuts ++ adds.more);
        can = (slice_get_within h.sessions place t there, first);
        targets = λ n. (tt, targets_more cuts adds.more n (cut_targets P n left) (adds.targets n));
        none = λ chart_of. planned_cuts chart_of left adds.more (adds.none chart_of);
        host = ap (installed (cuts ++ adds.more)) clears ∙ installed_more cuts adds.more k ∙ ap (installed adds.more) reaches
            ∙ adds.host ∙ sym (ap (λ (x : DeliveredAll). x.host) whole);
      };
      sent = more_sent ∙ ap (λ ds. ds ++ all.sent) told ∙ append_assoc old.sent (cut_told left) all.sent
          ∙ ap (λ ds. old.sent ++ (ds ++ all.sent)) (ap cut_told is ∙ told_where q 0 k.sessions)
          ∙ ap (λ (x : DeliveredAll). old.sent ++ x.sent) (sym whole);
    }

-- ---- the invoker is told

pub told_cut : {P : Type 0} (h : HostImage) (old : List (Change P)) (i : InvokerImage) (e : Event) → i.cut ≡ true
    → Adds h old old (tell_invoker h i e).host × (Dropped ≡ (tell_invoker h i e).what)
told_cut h old i e cut =
    let is : tell_invoker h i e ≡ left_as h Dropped =
    ap (λ b. if b then left_as h Dropped else hand_to h i.session e (while_live (session_named h i.session))) cut in
    (adds_none h (tell_invoker h i e).host old (sym (ap (λ (d : Delivered). d.host) is)), sym (ap (λ (d : Delivered). d.what) is))

pub told_none : {P : Type 0} (h : HostImage) (old : List (Change P)) (i : InvokerImage) (e : Event) → i.cut ≡ false
    → while_live (session_named h i.session) ≡ None
    → Adds h old old (tell_invoker h i e).host × (Dropped ≡ (tell_invoker h i e).what)
told_none h old i e cut none =
    let is : tell_invoker h i e ≡ left_as h Dropped =
    ap (λ b. if b then left_as h Dropped else hand_to h i.session e (while_live (session_named h i.session))) cut
    ∙ ap (hand_to h i.session e) none in
    (adds_none h (tell_invoker h i e).host old (sym (ap (λ (d : Delivered). d.host) is)), sym (ap (λ (d : Delivered). d.what) is))

pub told_queued : {P : Type 0} (h : HostImage) (old new : Draft P) (i : InvokerImage) (e : Event) (place : ℕ) (r : SessionImage)
    (told : Delivery) → i.cut ≡ false → while_live (session_named h i.session) ≡ Some (place, r)
    → slice_get h.sessions place ≡ Some r → old.events ≡ h.events → old.events + 1 < 2 ^ 128
    → new ≡ record old { changes = old.changes ++ Queue place (numbered (old.events + 1) e) ∷ []; events = old.events + 1 }
    → told ≡ Queued (old.events + 1) i.session
    → Adds h old.changes new.changes (tell_invoker h i e).host × (told ≡ (tell_invoker h i e).what)
told_queued {P = P} h old new i e place r told cut found there events number made what =
    let is : tell_invoker h i e ≡ hand_to h i.session e (Some (place, r)) =
    ap (λ b. if b then left_as h Dropped else hand_to h i.session e (while_live (session_named h i.session))) cut
    ∙ ap (hand_to h i.session e) found in
    let adds = adds_queue h old.changes new.changes place r e (old.events + 1) (ap (λ (d : Draft P). d.changes) made)
    there (omega (arith, events, number)) (ap (λ n. n + 1) events) in (
      subst (λ (d : Delivered). Adds h old.changes new.changes d.host) (sym is) adds,
      what ∙ ap (λ n. Queued (n + 1) i.session) events ∙ sym (ap (λ (d : Delivered). d.what) is),
    )

-- what is told of the end, and its delivery is noted

pub end_untold : {P : Type 0} (h : HostImage) (old : Draft P) (o : Option InvokerImage) (how : How)
    → tell_end h o how ≡ record { host = h; sent = [] }
    → Adds h old.changes old.changes (tell_end h o how).host × (old.sent ≡ old.sent ++ (tell_end h o how).sent)
end_untold h old o how is = (
  adds_none h (tell_end h o how).host old.changes (sym (ap (λ (d : DeliveredAll). d.host) is)),
  sym (append-nil old.sent) ∙ sym (ap (λ (d : DeliveredAll). old.sent ++ d.sent) is),
)

pub tells_none : (h : HostImage) (how : How) → tell_end h None how ≡ record { host = h; sent = [] }
tells_none h how = refl

pub tells_nothing : (h : HostImage) (i : InvokerImage) (how : How) → end_event i.invokeid how ≡ None
    → tell_end h (Some i) how ≡ record { host = h; sent = [] }
tells_nothing h i how none =
    ap (λ o. option_map_or (λ (e : Event). one_delivery (tell_invoker h i e)) o (record { host = h; sent = [] })) none

pub tells_event : (h : HostImage) (i : InvokerImage) (how : How) (e : Event) → end_event i.invokeid how ≡ Some e
    → tell_end h (Some i) how ≡ one_delivery (tell_invoker h i e)
tells_event h i how e some =
    ap (λ o. option_map_or (λ (x : Event). one_delivery (tell_invoker h i x)) o (record { host = h; sent = [] })) some

pub end_told : {P : Type 0} (h : HostImage) (old mid new : Draft P) (i : InvokerImage) (how : How) (e : Event) (told : Delivery)
    → end_event i.invokeid how ≡ Some e
    → Adds h old.changes mid.changes (tell_invoker h i e).host × (told ≡ (tell_invoker h i e).what)
    → mid.sent ≡ old.sent → new ≡ record mid { sent = mid.sent ++ told ∷ [] }
    → Adds h old.changes new.changes (tell_end h (Some i) how).host × (new.sent ≡ old.sent ++ (tell_end h (Some i) how).sent)
end_told {P = P} h old mid new i how e told some made sent is =
    let all = tells_event h i how e some in (
      subst (λ (cs : List (Change P)). Adds h old.changes cs (tell_end h (Some i) how).host) (sym (ap (λ (d : Draft P). d.changes) is))
          (subst (λ (d : DeliveredAll). Adds h old.changes mid.changes d.host) (sym all) made.0),
      ap (λ (d : Draft P). d.sent) is ∙ ap (λ ds. ds ++ told ∷ []) sent ∙ ap (λ w. old.sent ++ w ∷ []) made.1
          ∙ sym (ap (λ (d : DeliveredAll). old.sent ++ d.sent) all),
    )

-- who invoked a session, as the body has it
pub invoked_by : (g : HostImage) (place : ℕ) (s : SessionImage) (by : Option InvokerImage) → slice_get g.sessions place ≡ Some s
    → option_map (λ (x : SessionImage). x.invoker) (slice_get g.sessions place) ≡ Some by → s.invoker ≡ by
invoked_by g place s by there invoked =
    same_Some s.invoker by (sym (ap (λ o. option_map (λ (x : SessionImage). x.invoker) o) there) ∙ invoked)

-- nothing goes with the end of a session that goes on
pub end_none : {P : Type 0} (h : HostImage) (place : ℕ) (t : SessionImage) (old : Draft P) → slice_get h.sessions place ≡ Some t
    → is_live t.state.phase ≡ true → DraftsEnd h place old old
end_none h place t old there live =
    let is = end_goes h place t there live in
    record {
      adds = adds_none h (end_at h place).host old.changes (sym (ap (λ (d : DeliveredAll). d.host) is));
      sent = sym (append-nil old.sent) ∙ sym (ap (λ (d : DeliveredAll). old.sent ++ d.sent) is);
    }

-- ---- what the body says of children

-- the children of a session, by its name
pub children_are : {P : Type 0} (h : Body P) (place : ℕ) (s : Session) → Agrees h → slice_get h.sessions.items place ≡ Some s
    → s.children.items ≡ children_of s.state.session 0 (map inviter h.sessions.items)
children_are h place s agrees at =
    let items = h.sessions.items in
    let lists : Session → List ℕ = λ x. x.children.items in
    let named : Session → List ℕ = λ x. x.state.session in
    let f : List ℕ → List ℕ = λ name. children_of name 0 (map inviter items) in
    same_Some s.children.items (f s.state.session)
    (sym (slice_get-map lists items place ∙ ap (λ o. option_map lists o) at)
    ∙ ap (λ ls. slice_get ls place) agrees.family.each
    ∙ ap (λ ns. slice_get (map f ns) place) agrees.sessions
    ∙ slice_get-map f (map named items) place
    ∙ ap (λ o. option_map f o) (slice_get-map named items place ∙ ap (λ o. option_map named o) at))

-- children that are cut off look as before
parted_sights : (name : List ℕ) (ss : List SessionImage)
    → map sight (map (λ (s : SessionImage). if is_left_by name s then cut_off s else s) ss) ≡ map sight ss
parted_sights name [] = refl
parted_sights name (s ∷ ss) = ap (λ x. x ∷ map sight (map (λ (s : SessionImage). if is_left_by name s then cut_off s else s) ss)) (by (is_left_by name s))
    ∙ ap (λ xs. sight s ∷ xs) (parted_sights name ss)
  where
    by : (left : Bool) → sight (if left then cut_off s else s) ≡ sight s
    by true = refl
    by false = refl

-- the host machine of which the invoker is told
pub left_grown : (g h : HostImage) (place : ℕ) (t : SessionImage) (births : List Placed) → slice_get h.sessions place ≡ Some t
    → IsGrown g births h → IsGrown g births (with_children_left (cleared h place t) t.state.session)
left_grown g h place t births there grown =
    let w : SessionImage = record t { queued = [] } in
    grown_on g h (with_children_left (cleared h place t) t.state.session) births grown
    (parted_sights t.state.session (with_session h place w).sessions ∙ sights_set h place t w there refl)

-- the session that stands at a place of the body
pub body_at : (items : List Session) (place : ℕ) → place < length items
    → (s : Session) × (slice_get items place ≡ Some s)
body_at [] place l = absurd (omega (arith, l))
body_at (x ∷ xs) zero l = (x, refl)
body_at (x ∷ xs) (suc place) l = body_at xs place (omega (arith, l))
