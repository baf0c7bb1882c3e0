-- What is prepared of a step is the step.
use Rattle.std.proofs.Common.{append-nil, get_or, ◌≡◌, ℕ, ◌+◌, ◌^◌, ◌<◌, ◌++◌, zero, suc, Some, List, [], ◌∷◌, drop, length, option_map, slice_get, slice_set, refl, sym, ap, subst, ◌∙◌, arith, ◌≤◌, ◌-◌, length-append}
use Rattle.std.specs.List.{AllByRecursion}
use Rattle.std.specs.Option.{option_map_or}
use Rattle.std.proofs.lemmas.List.{append_assoc, length-set, map-set}
use Rattle.std.proofs.Math.Seq.{map-set_same}
use Rattle.std.proofs.lemmas.Option.{get_or_from_slice_get, slice_get-get_or, slice_get_within}
use Rattle.sc_types.specs.declared.chart.Chart.{Chart}
use Rattle.sc_types.specs.declared.effect.Effect.{Effect}
use Rattle.sc_types.specs.declared.history.LogLine.{LogLine}
use Rattle.sc_types.specs.declared.host.HostImage.{HostImage}
use Rattle.sc_types.specs.declared.host.SessionImage.{SessionImage}
use Rattle.sc_types.specs.declared.session.Cue.{Cue}
use Rattle.sc_types.specs.declared.session.Cue.TheVariants.{Cancel, External, Fresh, Resume}
use Rattle.sc_types.specs.declared.session.SessionState.{SessionState}
use Rattle.sc_law.specs.Turn.{TurnResult}
use Rattle.sc_core.specs.Births.{sight, sights}
use Rattle.sc_core.specs.Changes.{put_state, take_front}
use Rattle.sc_machine.specs.Commands.{fresh_session, put_in, step_turn}
use Rattle.sc_machine.specs.Deliveries.{DeliveredAll, deliver, deliver_all}
use Rattle.sc_machine.specs.Endings.{end_at}
use Rattle.sc_core.specs.Drafts.{AreNumbered, DraftsAll, IsBase, IsDraft, IsOfStep, IsSender, Notes, Stepper, own, so_far, stepper}
use Rattle.sc_machine.specs.Hosts.{with_session}
use Rattle.sc_core.specs.HostStates.{ArePlanned}
use Rattle.sc_core.specs.Installing.{AreRoomy, CanApplyAll, HaveTargets, IsRoomy, installed, new_rooms, room_at}
use Rattle.sc_core.specs.Newborns.{AreAlike}
use Rattle.sc_core.specs.Parting.{DraftsEnd}
use Rattle.sc_core.specs.Preparing.{InstallNone, Prepares}
use Rattle.sc_core.specs.Stepping.{put_changes}
use Rattle.sc_core.specs.declared.change.Change.{Change}
use Rattle.sc_core.specs.declared.change.Change.TheVariants.{Advance, Bear, Count, CutOff, Delay, DropInvoke, End, Flag, Install, Lose, PutState, Queue, Start, TakeFront, Tell, Undo}
use Rattle.sc_core.specs.declared.draft.Draft.{Draft}
use Rattle.sc_core.specs.declared.prepared.Prepared.{Prepared}
use Rattle.sc_core.proofs.AimLemmas.{set_here}
use Rattle.sc_core.proofs.AppendLemmas.{can_more, installed_more, planned_more, targets_more}
use Rattle.sc_core.proofs.BirthLemmas.{grown_long, sights_long}
use Rattle.sc_core.proofs.DraftLemmas.{put_long}
use Rattle.sc_machine.proofs.GivenLemmas.{all_both}
use Rattle.sc_machine.proofs.MoveLemmas.{commands_moves, end_moves}
use Rattle.sc_core.proofs.NewbornLemmas.{alike_count, all_alike, planned_alike}

-- ---- the state after the turn is put in

set_twice : {X : Type 0} (xs : List X) (i : ℕ) (x y : X) → slice_set (slice_set xs i x) i y ≡ slice_set xs i y
set_twice [] i x y = refl
set_twice (z ∷ zs) zero x y = refl
set_twice (z ∷ zs) (suc i) x y = ap (λ rest. z ∷ rest) (set_twice zs i x y)

put_is : (g : HostImage) (place : ℕ) (s : SessionImage) (after : SessionState) → slice_get g.sessions place ≡ Some s
    → put_state g place after ≡ with_session g place (record s { state = after })
put_is g place s after there =
    ap (λ o. option_map_or (λ (x : SessionImage). with_session g place (record x { state = after })) o g) there

front_is : (g : HostImage) (place : ℕ) (s w : SessionImage) → slice_get g.sessions place ≡ Some s
    → take_front (with_session g place w) place ≡ with_session g place (record w { queued = drop 1 w.queued })
front_is g place s w there =
    let k = with_session g place w in
    ap (λ o. option_map_or (λ (x : SessionImage). with_session k place (record x { queued = drop 1 x.queued })) o k)
    (set_here g.sessions place s w there)
    ∙ ap (λ ss. record g { sessions = ss }) (set_twice g.sessions place w (record w { queued = drop 1 w.queued }))

pub put_installed : (P : Type 0) (g : HostImage) (place : ℕ) (s : SessionImage) (cue : Cue) (t : TurnResult)
    → slice_get g.sessions place ≡ Some s
    → installed {P = P} (put_changes place cue t.after) g ≡ with_session g place (put_in s cue t)
put_installed P g place s Fresh t there = put_is g place s t.after there
put_installed P g place s Resume t there = put_is g place s t.after there
put_installed P g place s Cancel t there = put_is g place s t.after there
put_installed P g place s (External e) t there =
    ap (λ k. take_front k place) (put_is g place s t.after there)
    ∙ front_is g place s (record s { state = t.after }) there

put_can : (P : Type 0) (g : HostImage) (place : ℕ) (s : SessionImage) (cue : Cue) (after : SessionState)
    → slice_get g.sessions place ≡ Some s → after.session ≡ s.state.session → CanApplyAll {P = P} g (put_changes place cue after)
put_can P g place s cue after there named = by cue
  where
    within : place < length g.sessions
    within = slice_get_within g.sessions place s there

    name : option_map (λ (x : SessionImage). x.state.session) (slice_get g.sessions place) ≡ Some after.session
    name = ap (λ o. option_map (λ (x : SessionImage). x.state.session) o) there ∙ ap Some (sym named)

    long : length (put_state g place after).sessions ≡ length g.sessions
    long = ap (λ (k : HostImage). length k.sessions) (put_is g place s after there)
        ∙ length-set g.sessions place (record s { state = after })

    by : (c : Cue) → CanApplyAll {P = P} g (put_changes place c after)
    by Fresh = ((within, name), tt)
    by Resume = ((within, name), tt)
    by Cancel = ((within, name), tt)
    by (External e) = ((within, name), (omega (arith, within, long), tt))

put_targets : (P : Type 0) (n place : ℕ) (cue : Cue) (after : SessionState) → HaveTargets {P = P} n (put_changes place cue after)
put_targets P n place Fresh after = (tt, tt)
put_targets P n place Resume after = (tt, tt)
put_targets P n place Cancel after = (tt, tt)
put_targets P n place (External e) after = (tt, (tt, tt))

-- the host with the turn put in is one of which effects are drafted
pub put_base : (g : HostImage) (place : ℕ) (s : SessionImage) (cue : Cue) (t : TurnResult) → slice_get g.sessions place ≡ Some s
    → AreNumbered g → IsBase g place t.after (with_session g place (put_in s cue t))
put_base g place s cue t there numbers =
    let w = put_in s cue t in
    let same = sym (get_or_from_slice_get g.sessions place s s there) in
    record {
      sights = map-set sight g.sessions place w
          ∙ sym (ap sights (put_is g place s t.after there) ∙ map-set sight g.sessions place (record s { state = t.after }));
      links = map-set_same (λ (x : SessionImage). x.invoker) g.sessions place w s (ap (λ (x : SessionImage). x.invoker) same);
      own = ap (λ o. option_map own o) (set_here g.sessions place s w there) ∙ sym (ap (λ o. option_map own o) there);
      charts = refl;
      clock = refl;
      timers = refl;
      events = refl;
      delayed = refl;
      sends = numbers;
    }

-- ---- no chart is installed

none_put : {P : Type 0} (chart_of : P → Chart) (place : ℕ) (cue : Cue) (after : SessionState) (more : List (Change P))
    → ArePlanned chart_of more → ArePlanned chart_of (put_changes place cue after ++ more)
none_put chart_of place Fresh after more none = none
none_put chart_of place Resume after more none = none
none_put chart_of place Cancel after more none = none
none_put chart_of place (External e) after more none = none

pub none_of_step : {P : Type 0} (chart_of : P → Chart) (who : Stepper) (cs more : List (Change P))
    → AllByRecursion (IsOfStep who) cs → ArePlanned chart_of more → ArePlanned chart_of (cs ++ more)
none_of_step chart_of who [] more all none = none
none_of_step chart_of who (Queue place e ∷ cs) more all none = none_of_step chart_of who cs more all.1 none
none_of_step chart_of who (Tell place e ∷ cs) more all none = none_of_step chart_of who cs more all.1 none
none_of_step chart_of who (Delay send ∷ cs) more all none = none_of_step chart_of who cs more all.1 none
none_of_step chart_of who (Undo session id ∷ cs) more all none = none_of_step chart_of who cs more all.1 none
none_of_step chart_of who (Bear invoker n s ∷ cs) more all none = none_of_step chart_of who cs more all.1 none
none_of_step chart_of who (CutOff place ∷ cs) more all none = none_of_step chart_of who cs more all.1 none
none_of_step chart_of who (DropInvoke place child ∷ cs) more all none = none_of_step chart_of who cs more all.1 none
none_of_step chart_of who (Count ∷ cs) more all none = absurd all.0
none_of_step chart_of who (Advance clock ∷ cs) more all none = absurd all.0
none_of_step chart_of who (Install n chart ∷ cs) more all none = absurd all.0
none_of_step chart_of who (Start n s ∷ cs) more all none = absurd all.0
none_of_step chart_of who (PutState place state ∷ cs) more all none = absurd all.0
none_of_step chart_of who (TakeFront place ∷ cs) more all none = absurd all.0
none_of_step chart_of who (Flag place ∷ cs) more all none = absurd all.0
none_of_step chart_of who (End place ∷ cs) more all none = absurd all.0
none_of_step chart_of who (Lose ∷ cs) more all none = absurd all.0

-- ---- the whole step

-- the changes of a step
abbrev pub step_changes : {P : Type 0} → ℕ → Cue → SessionState → List (Change P) → List (Change P)
step_changes place cue after more = put_changes place cue after ++ (more ++ Count ∷ [])

-- the changes of a turn, which are made once its state is put in
pub record IsWhole {P : Type 0} (g b h : HostImage) (all : ℕ) (more : List (Change P)) : Type 0 where
  pub can : CanApplyAll b more
  pub targets : HaveTargets (length g.sessions) more
  pub none : InstallNone more
  pub host : installed more b ≡ h
  pub count : ℕ
  pub many : all ≤ count
  pub roomy : AllByRecursion (IsRoomy {P = P} (length g.sessions) count (new_rooms more)) more

-- they install no chart
pub step_none : {P : Type 0} (place : ℕ) (cue : Cue) (after : SessionState) (more : List (Change P)) → InstallNone more
    → InstallNone (step_changes place cue after more)
step_none place cue after more none = λ chart_of.
    none_put chart_of place cue after (more ++ Count ∷ []) (planned_more chart_of more (Count ∷ []) (none chart_of) tt)

put_rooms : (P : Type 0) (place : ℕ) (cue : Cue) (after : SessionState) (more : List (Change P))
    → new_rooms (put_changes place cue after ++ more) ≡ new_rooms more
put_rooms P place Fresh after more = refl
put_rooms P place Resume after more = refl
put_rooms P place Cancel after more = refl
put_rooms P place (External e) after more = refl

put_many : (P : Type 0) (place : ℕ) (cue : Cue) (after : SessionState) (more : List (Change P))
    → length (put_changes place cue after ++ more) ≤ length more + 2
put_many P place Fresh after more = omega arith
put_many P place Resume after more = omega arith
put_many P place Cancel after more = omega arith
put_many P place (External e) after more = omega arith

put_roomy : (P : Type 0) (n count : ℕ) (rooms : List ℕ) (place : ℕ) (cue : Cue) (after : SessionState)
    → AllByRecursion (IsRoomy {P = P} n count rooms) (put_changes place cue after)
put_roomy P n count rooms place Fresh after = (tt, tt)
put_roomy P n count rooms place Resume after = (tt, tt)
put_roomy P n count rooms place Cancel after = (tt, tt)
put_roomy P n count rooms place (External e) after = (tt, (tt, tt))

count_rooms : {P : Type 0} (more : List (Change P)) → new_rooms (more ++ Count ∷ []) ≡ new_rooms more
count_rooms [] = refl
count_rooms (Count ∷ cs) = count_rooms cs
count_rooms (Advance clock ∷ cs) = count_rooms cs
count_rooms (Install name chart ∷ cs) = count_rooms cs
count_rooms (Start name session ∷ cs) = ap (λ rs. session.queued.spare ∷ rs) (count_rooms cs)
count_rooms (Bear invoker name session ∷ cs) = ap (λ rs. session.queued.spare ∷ rs) (count_rooms cs)
count_rooms (PutState place state ∷ cs) = count_rooms cs
count_rooms (TakeFront place ∷ cs) = count_rooms cs
count_rooms (Queue place e ∷ cs) = count_rooms cs
count_rooms (Tell place e ∷ cs) = count_rooms cs
count_rooms (Flag place ∷ cs) = count_rooms cs
count_rooms (CutOff place ∷ cs) = count_rooms cs
count_rooms (DropInvoke place child ∷ cs) = count_rooms cs
count_rooms (End place ∷ cs) = count_rooms cs
count_rooms (Delay send ∷ cs) = count_rooms cs
count_rooms (Undo session id ∷ cs) = count_rooms cs
count_rooms (Lose ∷ cs) = count_rooms cs

less_roomy : {P : Type 0} (n count : ℕ) (rooms others : List ℕ) (c : Change P) (many : ℕ) → n ≤ count → others ≡ rooms
    → IsRoomy many count rooms c → IsRoomy many n others c
less_roomy n count rooms others Count many less same r = tt
less_roomy n count rooms others (Advance clock) many less same r = tt
less_roomy n count rooms others (Install name chart) many less same r = tt
less_roomy n count rooms others (Start name session) many less same r = tt
less_roomy n count rooms others (Bear invoker name session) many less same r = tt
less_roomy n count rooms others (PutState place state) many less same r = tt
less_roomy n count rooms others (TakeFront place) many less same r = tt
less_roomy n count rooms others (Queue place e) many less same r = λ past. let enough = r past in let alike = ap (λ rs. room_at rs (place - many)) same in omega (arith, less, enough, alike)
less_roomy n count rooms others (Tell place e) many less same r = tt
less_roomy n count rooms others (Flag place) many less same r = tt
less_roomy n count rooms others (CutOff place) many less same r = tt
less_roomy n count rooms others (DropInvoke place child) many less same r = tt
less_roomy n count rooms others (End place) many less same r = tt
less_roomy n count rooms others (Delay send) many less same r = tt
less_roomy n count rooms others (Undo session id) many less same r = tt
less_roomy n count rooms others Lose many less same r = tt

less_all : {P : Type 0} (n count many : ℕ) (rooms others : List ℕ) (cs : List (Change P)) → n ≤ count → others ≡ rooms
    → AllByRecursion (IsRoomy {P = P} many count rooms) cs → AllByRecursion (IsRoomy {P = P} many n others) cs
less_all n count many rooms others [] less same all = tt
less_all n count many rooms others (c ∷ cs) less same all =
    (less_roomy n count rooms others c many less same all.0, less_all n count many rooms others cs less same all.1)

-- three changes beside those of the effects and of the end, at most
pub step_long : {P : Type 0} (place : ℕ) (cue : Cue) (after : SessionState) (old more : List (Change P)) → AreAlike old more
    → length (step_changes place cue after more) ≤ length old + 3
step_long {P = P} place cue after old more alike =
    let long = length-append more (Count ∷ []) in
    omega (arith, put_many P place cue after (more ++ Count ∷ []), long, alike_count old more alike)

step_roomy : {P : Type 0} (g b h : HostImage) (place : ℕ) (cue : Cue) (after : SessionState) (more : List (Change P))
    → IsWhole g b h (length (step_changes place cue after more)) more
    → AreRoomy (length g.sessions) (step_changes place cue after more)
step_roomy {P = P} g b h place cue after more whole =
    let all = step_changes place cue after more in
    let n = length g.sessions in
    let rooms : new_rooms all ≡ new_rooms more = put_rooms P place cue after (more ++ Count ∷ []) ∙ count_rooms more in
    all_both (IsRoomy {P = P} n (length all) (new_rooms all)) (put_changes place cue after) (more ++ Count ∷ [])
    (put_roomy P n (length all) (new_rooms all) place cue after)
    (all_both (IsRoomy {P = P} n (length all) (new_rooms all)) more (Count ∷ [])
    (less_all (length all) whole.count n (new_rooms more) (new_rooms all) more whole.many rooms whole.roomy) (tt, tt))

-- they make the step
pub step_prepared : {P : Type 0} (g : HostImage) (place : ℕ) (s : SessionImage) (cue : Cue) (t : TurnResult)
    (more : List (Change P)) (ended : DeliveredAll) (p : Prepared P) → slice_get g.sessions place ≡ Some s
    → t.after.session ≡ s.state.session → g.commands + 1 < 2 ^ 64
    → ended ≡ end_at (deliver_all (with_session g place (put_in s cue t)) place t.effects).host place
    → ended.host.commands ≡ g.commands
    → IsWhole g (with_session g place (put_in s cue t)) ended.host (length (step_changes place cue t.after more)) more
    → p.changes ≡ step_changes place cue t.after more → p.reply ≡ (step_turn g place s cue t).reply → p.logs ≡ t.logs
    → p.sent ≡ (deliver_all (with_session g place (put_in s cue t)) place t.effects).sent ++ ended.sent
    → Prepares (step_turn g place s cue t) g p
step_prepared {P = P} g place s cue t more ended p there named commands is counted whole changes reply logs sent =
    let front : List (Change P) = put_changes place cue t.after in
    let back : List (Change P) = Count ∷ [] in
    let b = with_session g place (put_in s cue t) in
    let put : installed front g ≡ b = put_installed P g place s cue t there in
    let reached : installed (step_changes place cue t.after more) g ≡ installed back ended.host =
    installed_more front (more ++ back) g ∙ ap (installed (more ++ back)) put ∙ installed_more more back b
    ∙ ap (installed back) whole.host in
    let last : CanApplyAll {P = P} ended.host back = (omega (arith, counted, commands), tt) in
    record {
      host = ap (λ (cs : List (Change P)). installed cs g) changes ∙ reached
          ∙ ap (λ (all : DeliveredAll). record all.host { commands = all.host.commands + 1 }) is;
      reply = reply;
      logs = logs;
      sent = sent ∙ ap (λ (all : DeliveredAll). (deliver_all b place t.effects).sent ++ all.sent) is;
      can = subst (CanApplyAll g) (sym changes)
          (can_more front (more ++ back) g (put_can P g place s cue t.after there named)
          (subst (λ (k : HostImage). CanApplyAll k (more ++ back)) (sym put)
          (can_more more back b whole.can (subst (λ (k : HostImage). CanApplyAll {P = P} k back) (sym whole.host) last))));
      targets = subst (HaveTargets (length g.sessions)) (sym changes)
          (targets_more front (more ++ back) (length g.sessions) (put_targets P (length g.sessions) place cue t.after)
          (targets_more more back (length g.sessions) whole.targets (tt, tt)));
      roomy = subst (AreRoomy (length g.sessions)) (sym changes)
          (step_roomy g b ended.host place cue t.after more whole);
    }

-- ---- effects one after another

-- what is drafted so far, and what the other effects do, make what all do
pub record DraftsOn {P : Type 0} (who : Stepper) (g : HostImage) (place : ℕ) (d : Draft P) (rest : List Effect)
    (all : DeliveredAll) : Type 0 where
  pub draft : IsDraft who g d
  pub host : (deliver_all (so_far g d) place rest).host ≡ all.host
  pub sent : d.sent ++ (deliver_all (so_far g d) place rest).sent ≡ all.sent

-- before the first effect
pub none_yet : {P : Type 0} (before : HostImage) (place : ℕ) (after : SessionState) (g : HostImage) (d : Draft P)
    (effects : List Effect) → IsBase before place after g
    → d ≡ record { changes = []; sent = []; births = []; events = before.events; delayed = before.delayed }
    → DraftsOn (stepper after.session place) g place d effects (deliver_all g place effects)
none_yet {P = P} before place after g d effects base is =
    subst (λ (x : Draft P). DraftsOn (stepper after.session place) g place x effects (deliver_all g place effects)) (sym is) (record {
      draft = record {
        can = tt;
        targets = tt;
        of_step = tt;
        events = sym base.events;
        delayed = sym base.delayed;
        follows = record {
          grown = record { sights = sym (append-nil (sights g)); places = tt };
          own = refl;
          charts = refl;
          clock = refl;
          commands = refl;
          sends = base.sends;
        };
      };
      host = refl;
      sent = refl;
    })

-- the session that sends stands there
pub sender_at : {P : Type 0} (before : HostImage) (place : ℕ) (after : SessionState) (g : HostImage) (d : Draft P)
    → IsBase before place after g → IsDraft (stepper after.session place) g d → place < length before.sessions
    → (t : SessionImage) × IsSender before place after g d t
sender_at before place after g d base draft within =
    let long = grown_long g (so_far g d) d.births draft.follows.grown in
    let short = sights_long (put_state before place after) g base.sights in
    let less : place < length (so_far g d).sessions = omega (arith, within, long, short, put_long before place after) in
    let t = get_or (so_far g d).sessions place (fresh_session [] []) in (
      t,
      record {
        base = base;
        draft = draft;
        there = slice_get-get_or (so_far g d).sessions place (fresh_session [] []) less;
      },
    )

-- one effect more is drafted
pub one_on : {P : Type 0} (before : HostImage) (place : ℕ) (after : SessionState) (g : HostImage) (d new : Draft P) (e : Effect)
    (rest : List Effect) (all : DeliveredAll) → IsBase before place after g → place < length before.sessions
    → ((h : HostImage) (t : SessionImage) → IsSender before place after h d t
    → Notes (stepper after.session place) h d new (deliver (so_far h d) place e))
    → DraftsOn (stepper after.session place) g place d (e ∷ rest) all → DraftsOn (stepper after.session place) g place new rest all
one_on before place after g d new e rest all base within notes on =
    let sender = sender_at before place after g d base on.draft within in
    let n = notes g sender.0 sender.1 in
    let one = deliver (so_far g d) place e in
    record {
      draft = n.draft;
      host = ap (λ h. (deliver_all h place rest).host) n.host ∙ on.host;
      sent = ap (λ s. s ++ (deliver_all (so_far g new) place rest).sent) n.sent
          ∙ append_assoc d.sent (one.what ∷ []) (deliver_all (so_far g new) place rest).sent
          ∙ ap (λ h. d.sent ++ (one.what ∷ (deliver_all h place rest).sent)) n.host ∙ on.sent;
    }

-- a list of no length has no items
pub no_items : {X : Type 0} (xs : List X) → length xs ≡ 0 → xs ≡ []
no_items [] none = refl
no_items (x ∷ xs) none = absurd (omega (arith, none))

-- all are drafted
pub none_left : {P : Type 0} (who : Stepper) (g : HostImage) (place : ℕ) (d : Draft P) (all : DeliveredAll)
    → DraftsOn who g place d [] all → DraftsAll who g d all
none_left who g place d all on = record { draft = on.draft; host = on.host; sent = sym (append-nil d.sent) ∙ on.sent }

-- ---- the parts of a turn

-- what was drafted of a turn's parts was drafted of the turn
pub turn_drafted : {P : Type 0} (before : HostImage) (place : ℕ) (s : SessionImage) (cue : Cue) (d : Draft P)
    (r : SessionState × List Effect × List LogLine) (t : TurnResult) → r ≡ (t.after, t.effects, t.logs)
    → slice_get before.sessions place ≡ Some s → AreNumbered before
    → ((g : HostImage) → IsBase before place r.0 g → DraftsAll (stepper r.0.session place) g d (deliver_all g place r.1))
    → DraftsAll (stepper t.after.session place) (with_session before place (put_in s cue t)) d
    (deliver_all (with_session before place (put_in s cue t)) place t.effects)
turn_drafted before place s cue d r t is there numbers drafted =
    let g = with_session before place (put_in s cue t) in
    subst (λ (x : SessionState × List Effect × List LogLine). IsBase before place x.0 g
    → DraftsAll (stepper x.0.session place) g d (deliver_all g place x.1)) is (drafted g) (put_base before place s cue t there numbers)

-- the changes of the turn, once they have room
pub turn_whole : {P : Type 0} (before : HostImage) (place : ℕ) (s : SessionImage) (cue : Cue) (t : TurnResult) (d e : Draft P)
    (more : List (Change P)) (all count : ℕ) → slice_get before.sessions place ≡ Some s
    → DraftsAll (stepper t.after.session place) (with_session before place (put_in s cue t)) d
    (deliver_all (with_session before place (put_in s cue t)) place t.effects)
    → DraftsEnd (so_far (with_session before place (put_in s cue t)) d) place d e → AreAlike e.changes more
    → all ≤ count
    → ((g : HostImage) → length g.sessions ≡ length before.sessions → CanApplyAll g e.changes
    → AllByRecursion (IsRoomy {P = P} (length before.sessions) count (new_rooms more)) more)
    → IsWhole before (with_session before place (put_in s cue t))
    (end_at (deliver_all (with_session before place (put_in s cue t)) place t.effects).host place).host all more
turn_whole {P = P} before place s cue t d e more total count there drafted ends alike many roomy =
    let b = with_session before place (put_in s cue t) in
    let h = so_far b d in
    let all = deliver_all b place t.effects in
    let adds = ends.adds in
    let long = length-set before.sessions place (put_in s cue t) in
    let can : CanApplyAll b e.changes =
    subst (CanApplyAll b) (sym adds.changes) (can_more d.changes adds.more b drafted.draft.can adds.can) in
    let targets : HaveTargets (length before.sessions) e.changes =
    subst (HaveTargets (length before.sessions)) (sym adds.changes)
    (targets_more d.changes adds.more (length before.sessions)
    (subst (λ n. HaveTargets n d.changes) long drafted.draft.targets) (adds.targets (length before.sessions))) in
    let none : InstallNone e.changes = λ chart_of.
    subst (ArePlanned chart_of) (sym adds.changes)
    (none_of_step chart_of (stepper t.after.session place) d.changes adds.more drafted.draft.of_step (adds.none chart_of)) in
    let reaches : installed e.changes b ≡ (end_at all.host place).host =
    ap (λ cs. installed cs b) adds.changes ∙ installed_more d.changes adds.more b ∙ adds.host
    ∙ ap (λ (k : HostImage). (end_at k place).host) drafted.host in
    let same = all_alike e.changes more b alike in
    record {
      can = same.can can;
      targets = same.targets (length before.sessions) targets;
      none = λ chart_of. planned_alike chart_of e.changes more alike (none chart_of);
      host = same.host ∙ reaches;
      count = count;
      many = many;
      roomy = roomy b long can;
    }

-- what becomes of all that a turn asks for
pub turn_sent : {P : Type 0} (before : HostImage) (place : ℕ) (s : SessionImage) (cue : Cue) (t : TurnResult) (d e : Draft P)
    → DraftsAll (stepper t.after.session place) (with_session before place (put_in s cue t)) d
    (deliver_all (with_session before place (put_in s cue t)) place t.effects)
    → DraftsEnd (so_far (with_session before place (put_in s cue t)) d) place d e
    → e.sent ≡ (deliver_all (with_session before place (put_in s cue t)) place t.effects).sent
    ++ (end_at (deliver_all (with_session before place (put_in s cue t)) place t.effects).host place).sent
turn_sent before place s cue t d e drafted ends =
    let b = with_session before place (put_in s cue t) in
    let all = deliver_all b place t.effects in
    ends.sent ∙ ap (λ ds. ds ++ (end_at (so_far b d) place).sent) drafted.sent
    ∙ ap (λ (k : HostImage). all.sent ++ (end_at k place).sent) drafted.host

-- the turn counts no command
pub turn_counted : {P : Type 0} (before : HostImage) (place : ℕ) (s : SessionImage) (cue : Cue) (t : TurnResult) (d : Draft P)
    → DraftsAll (stepper t.after.session place) (with_session before place (put_in s cue t)) d
    (deliver_all (with_session before place (put_in s cue t)) place t.effects)
    → (end_at (deliver_all (with_session before place (put_in s cue t)) place t.effects).host place).host.commands ≡ before.commands
turn_counted before place s cue t d drafted =
    let b = with_session before place (put_in s cue t) in
    let k = (deliver_all b place t.effects).host in
    commands_moves k (end_at k place).host _ (end_moves k place)
    ∙ sym (ap (λ (x : HostImage). x.commands) drafted.host) ∙ drafted.draft.follows.commands
