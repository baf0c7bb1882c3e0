-- Each session has a name of its own, so that the session which is ready is the one that its name finds.
use Rattle.std.proofs.Common.{◌≡◌, ℕ, zero, suc, Bool, true, false, ◌||◌, cond, Option, Some, None, is_some, nat_lt, List, [], ◌∷◌, ◌++◌, length, find, slice_get, slice_set, position, option_map, option_and_then, lt-ltb, refl, sym, ap, subst, ◌∙◌, map}
use Rattle.std.specs.List.{list_any, position_or_len}
use Rattle.std.specs.Str.{bytes_eq}
use Rattle.std.proofs.lemmas.List.Folds.{find_at, list_any-append}
use Rattle.std.proofs.lemmas.Option.{slice_get_within, same_Some, none-some}
use Rattle.std.proofs.lemmas.Slice.Eq.{bytes_eq-Decides}
use Rattle.sc_types.specs.declared.command.Command.{Command}
use Rattle.sc_types.specs.declared.command.Command.TheVariants.{Step}
use Rattle.sc_types.specs.declared.command.Reply.TheVariants.{Stepped}
use Rattle.sc_types.specs.declared.host.HostImage.{HostImage}
use Rattle.sc_types.specs.declared.host.SessionImage.{SessionImage}
use Rattle.sc_types.specs.declared.session.Cue.{Cue}
use Rattle.sc_types.specs.declared.session.Phase.{Phase}
use Rattle.sc_types.specs.declared.session.Phase.TheVariants as phase
use Rattle.sc_law.specs.Turn.{turn}
use Rattle.sc_machine.specs.Commands.{Answer, answer, fresh_session, put_in, step, step_cue, step_in}
use Rattle.sc_machine.specs.Cues.{cue_in, cue_of, is_ready, name_of, ready}
use Rattle.sc_machine.specs.Deliveries.{deliver_all}
use Rattle.sc_machine.specs.Endings.{end_at}
use Rattle.sc_machine.specs.Hosts.{chart_named, is_session_named, session_named, with_session}
use Rattle.sc_machine.proofs.ChangeLemmas.{Change, cancels, installs, posts, refuses, starts, ticks, turns}
use Rattle.sc_machine.proofs.FoundLemmas.{is_at}
use Rattle.sc_machine.proofs.MoveLemmas.{Gift, Move, Moves, all_fire, all_move, due_in, end_moves, bears, ends, goes, parts, puts, queues, still, ticked}
use Rattle.sc_machine.proofs.TurnLemmas.{turn-of}

-- each session has a name of its own
abbrev pub AreDistinct : List SessionImage → Type 0
AreDistinct [] = Unit {0}
AreDistinct (s ∷ ss) = (list_any (is_session_named s.state.session) ss ≡ false) × AreDistinct ss

bytes_eq_comm : (a b : List ℕ) → bytes_eq a b ≡ false → bytes_eq b a ≡ false
bytes_eq_comm a b h = by_test (bytes_eq b a) refl where
  by_test : (t : Bool) → bytes_eq b a ≡ t → t ≡ false
  by_test false e = refl
  by_test true e = absurd (let same = (bytes_eq-Decides b a).0 e in let yes = (bytes_eq-Decides a b).1 (sym same) in cc)

any_set : (p : SessionImage → Bool) (xs : List SessionImage) (i : ℕ) (x y : SessionImage) → slice_get xs i ≡ Some x → p y ≡ p x → list_any p (slice_set xs i y) ≡ list_any p xs
any_set p [] i x y there same = refl
any_set p (z ∷ zs) zero x y there same = ap (λ b. b || list_any p zs) (same ∙ sym (ap p (same_Some z x there)))
any_set p (z ∷ zs) (suc i) x y there same = ap (λ b. p z || b) (any_set p zs i x y there same)

distinct_set : (xs : List SessionImage) (i : ℕ) (x y : SessionImage) → slice_get xs i ≡ Some x → y.state.session ≡ x.state.session → AreDistinct xs → AreDistinct (slice_set xs i y)
distinct_set [] i x y there same h = tt
distinct_set (z ∷ zs) zero x y there same h =
    (ap (λ n. list_any (is_session_named n) zs) (same ∙ sym (ap (λ (s : SessionImage). s.state.session) (same_Some z x there))) ∙ h.0, h.1)
distinct_set (z ∷ zs) (suc i) x y there same h =
    (any_set (is_session_named z.state.session) zs i x y there (ap (λ n. bytes_eq n z.state.session) same) ∙ h.0, distinct_set zs i x y there same h.1)

or_left : (a b : Bool) → (a || b) ≡ false → a ≡ false
or_left false b e = refl
or_left true b e = absurd (cc)

or_right : (a b : Bool) → (a || b) ≡ false → b ≡ false
or_right false b e = e
or_right true b e = absurd (cc)

distinct_push : (xs : List SessionImage) (y : SessionImage) → list_any (is_session_named y.state.session) xs ≡ false → AreDistinct xs → AreDistinct (xs ++ y ∷ [])
distinct_push [] y new h = (refl, tt)
distinct_push (x ∷ xs) y new h =
    let here : bytes_eq x.state.session y.state.session ≡ false = or_left _ _ new in
    let rest : list_any (is_session_named y.state.session) xs ≡ false = or_right _ _ new in
    let other = bytes_eq_comm x.state.session y.state.session here in (
      list_any-append (is_session_named x.state.session) xs (y ∷ []) ∙ ap (λ b. b || (bytes_eq y.state.session x.state.session || false)) h.0 ∙ ap (λ b. b || false) other,
      distinct_push xs y rest h.1,
    )

-- the session that is ready is the one that its name finds

-- what a search finds is the first item, or it is found behind it
pub data FoundIn (p : SessionImage → Bool) (x : SessionImage) (xs : List SessionImage) (s : SessionImage) : Type 0 where
  first : x ≡ s → FoundIn p x xs s
  later : find p xs ≡ Some s → FoundIn p x xs s

found_in : (p : SessionImage → Bool) (x : SessionImage) (xs : List SessionImage) (s : SessionImage) (t : Bool) → cond t (Some x) (find p xs) ≡ Some s → FoundIn p x xs s
found_in p x xs s true h = first (same_Some x s h)
found_in p x xs s false h = later h

named_not : (n : List ℕ) (s : SessionImage) (xs : List SessionImage) (p : SessionImage → Bool) → find p xs ≡ Some s → list_any (is_session_named n) xs ≡ false → bytes_eq s.state.session n ≡ false
named_not n s [] p found none = absurd (cc)
named_not n s (x ∷ xs) p found none =
    by_place (found_in p x xs s (p x) found) (λ behind. named_not n s xs p behind (or_right _ _ none)) where
      by_place : FoundIn p x xs s → (find p xs ≡ Some s → bytes_eq s.state.session n ≡ false) → bytes_eq s.state.session n ≡ false
      by_place (first same) others = ap (λ (y : SessionImage). bytes_eq y.state.session n) (sym same) ∙ or_left _ _ none
      by_place (later behind) others = others behind

-- what a search by name gives, by whether the first item has it
abbrev picked : SessionImage → List SessionImage → List ℕ → Bool → Option SessionImage
picked x xs n b = cond b (Some x) (find (is_session_named n) xs)

find_named : (p : SessionImage → Bool) (xs : List SessionImage) (s : SessionImage) → AreDistinct xs → find p xs ≡ Some s → find (is_session_named s.state.session) xs ≡ Some s
find_named p [] s distinct found = absurd (cc)
find_named p (x ∷ xs) s distinct found =
    by_place (found_in p x xs s (p x) found) (λ behind. find_named p xs s distinct.1 behind) where
      by_place : FoundIn p x xs s → (find p xs ≡ Some s → find (is_session_named s.state.session) xs ≡ Some s) → find (is_session_named s.state.session) (x ∷ xs) ≡ Some s
      by_place (first same) others =
          let named : bytes_eq x.state.session s.state.session ≡ true = (bytes_eq-Decides x.state.session s.state.session).1 (ap (λ (y : SessionImage). y.state.session) same) in
          ap (picked x xs s.state.session) named ∙ ap (λ (y : SessionImage). Some y) same
      by_place (later behind) others =
          let other = bytes_eq_comm s.state.session x.state.session (named_not x.state.session s xs p behind distinct.0) in
          ap (picked x xs s.state.session) other ∙ others behind

-- the place of a session, and its cue
pub record IsReadyAt (g : HostImage) (name : List ℕ) : Type 0 where
  pub place : ℕ
  pub session : SessionImage
  pub cue : Cue
  pub found : session_named g name ≡ Some (place, session)
  pub has : cue_of session ≡ Some cue

-- what a search finds passes its test
find_passes : (p : SessionImage → Bool) (xs : List SessionImage) (s : SessionImage) → find p xs ≡ Some s → p s ≡ true
find_passes p [] s found = absurd (cc)
find_passes p (x ∷ xs) s found = by_test (p x) refl (λ behind. find_passes p xs s behind) where
  by_test : (t : Bool) → p x ≡ t → (find p xs ≡ Some s → p s ≡ true) → p s ≡ true
  by_test true e others = ap p (sym (same_Some x s (sym (ap (λ b. cond b (Some x) (find p xs)) e) ∙ found))) ∙ e
  by_test false e others = others (sym (ap (λ b. cond b (Some x) (find p xs)) e) ∙ found)

-- a cue that is there
pub has_cue : (o : Option Cue) → is_some o ≡ true → (cue : Cue) × (o ≡ Some cue)
has_cue None h = absurd (cc)
has_cue (Some cue) h = (cue, refl)

ready_session : (g : HostImage) (name : List ℕ) (o : Option SessionImage) → find is_ready g.sessions ≡ o
    → option_map (λ (s : SessionImage). s.state.session) o ≡ Some name → (s : SessionImage) × (find is_ready g.sessions ≡ Some s) × (s.state.session ≡ name)
ready_session g name None e h = absurd (cc)
ready_session g name (Some s) e h = (s, e, same_Some s.state.session name h)

-- the session that a name finds, with its place
pub placed : (g : HostImage) (name : List ℕ) (s : SessionImage) → find (is_session_named name) g.sessions ≡ Some s
    → session_named g name ≡ Some (position_or_len (is_session_named name) g.sessions, s)
placed g name s found =
    let p = is_session_named name in
    let place = position_or_len p g.sessions in
    let at = sym (find_at p g.sessions) ∙ found in
    let below : nat_lt place (length g.sessions) ≡ true = lt-ltb place (length g.sessions) (slice_get_within g.sessions place s at) in
    ap (λ b. option_and_then {U = ℕ × SessionImage} (λ q. option_map (λ (x : SessionImage). (q, x)) (slice_get g.sessions q)) (cond b (Some place) None)) below
    ∙ ap (option_map {U = ℕ × SessionImage} (λ (x : SessionImage). (place, x))) at

-- a session that is ready stands at its place, with its cue
pub ready_at : (g : HostImage) (name : List ℕ) → AreDistinct g.sessions → ready g ≡ Some name → IsReadyAt g name
ready_at g name distinct ready_is =
    let r = ready_session g name (find is_ready g.sessions) refl ready_is in
    let by_name = subst (λ n. find (is_session_named n) g.sessions ≡ Some r.0) r.2 (find_named is_ready g.sessions r.0 distinct r.1) in
    let cue = has_cue (cue_of r.0) (find_passes is_ready g.sessions r.0 r.1) in
    record {
      place = position_or_len (is_session_named name) g.sessions;
      session = r.0;
      cue = cue.0;
      found = placed g name r.0 by_name;
      has = cue.1;
    }

-- what every command keeps

find_some : (p : SessionImage → Bool) (xs : List SessionImage) → list_any p xs ≡ true → (x : SessionImage) × (find p xs ≡ Some x)
find_some p [] h = absurd (cc)
find_some p (x ∷ xs) h = by_test (p x) h (find_some p xs) where
  by_test : (t : Bool) → (t || list_any p xs) ≡ true → (list_any p xs ≡ true → (y : SessionImage) × (find p xs ≡ Some y))
      → (y : SessionImage) × (cond t (Some x) (find p xs) ≡ Some y)
  by_test true e others = (x, refl)
  by_test false e others = others e

-- where no place has a name, no session has it
none_named : (n : List ℕ) (xs : List SessionImage) → position (is_session_named n) xs ≡ None → list_any (is_session_named n) xs ≡ false
none_named n xs h = by_test (list_any (is_session_named n) xs) refl where
  by_test : (t : Bool) → list_any (is_session_named n) xs ≡ t → t ≡ false
  by_test false e = refl
  by_test true e =
      let found = find_some (is_session_named n) xs e in
      let at = sym (find_at (is_session_named n) xs) ∙ found.1 in
      let below = lt-ltb _ _ (slice_get_within xs (position_or_len (is_session_named n) xs) found.0 at) in
      absurd (none-some (position_or_len (is_session_named n) xs) (sym h ∙ ap (λ b. cond b (Some (position_or_len (is_session_named n) xs)) None) below))

-- what moves keep

any_parted : (f : SessionImage → SessionImage) → ((s : SessionImage) → (f s).state.session ≡ s.state.session)
    → (name : List ℕ) (xs : List SessionImage)
    → list_any (is_session_named name) (map f xs) ≡ list_any (is_session_named name) xs
any_parted f named name [] = refl
any_parted f named name (x ∷ xs) =
    ap (λ n. bytes_eq n name || list_any (is_session_named name) (map f xs)) (named x)
    ∙ ap (λ b. bytes_eq x.state.session name || b) (any_parted f named name xs)

-- so do sessions that keep their names
distinct_parted : (f : SessionImage → SessionImage) → ((s : SessionImage) → (f s).state.session ≡ s.state.session)
    → (xs : List SessionImage) → AreDistinct xs → AreDistinct (map f xs)
distinct_parted f named [] h = tt
distinct_parted f named (x ∷ xs) h = (
  ap (λ n. list_any (is_session_named n) (map f xs)) (named x) ∙ any_parted f named x.state.session xs ∙ h.0,
  distinct_parted f named xs h.1,
)

-- a move leaves each session a name of its own
pub distinct_moved : (g h : HostImage) (given : List Gift) → Move g h given → AreDistinct g.sessions → AreDistinct h.sessions
distinct_moved g h given (still sessions events charts commands is) distinct = subst AreDistinct (sym sessions) distinct
distinct_moved g h given (puts place s put there named kept fits sessions events charts commands is) distinct =
    subst AreDistinct (sym sessions) (distinct_set g.sessions place s put there named distinct)
distinct_moved g h given (bears s queued new short fits sessions events charts commands is) distinct =
    subst AreDistinct (sym sessions) (distinct_push g.sessions s (none_named s.state.session g.sessions new) distinct)
distinct_moved g h given (parts f part sessions events charts commands is) distinct =
    subst AreDistinct (sym sessions) (distinct_parted f (λ s. (part s).named) g.sessions distinct)
distinct_moved g h given (queues place s e there is gift) distinct =
    subst (λ (x : HostImage). AreDistinct x.sessions) (sym is) (distinct_set g.sessions place s _ there refl distinct)

-- several moves do as well
pub distinct_moves : (g h : HostImage) (given : List Gift) → Moves g h given → AreDistinct g.sessions → AreDistinct h.sessions
distinct_moves g h given (ends unmoved is) distinct =
    subst (λ (x : HostImage). AreDistinct x.sessions) (sym unmoved) distinct
distinct_moves g h given (goes m front rest one others is) distinct =
    distinct_moves m h rest others (distinct_moved g m front one distinct)

-- an answer leaves each session a name of its own
pub distinct_kept : (g : HostImage) (c : Command) (a : Answer) → Change g c a → AreDistinct g.sessions
    → AreDistinct a.host.sessions
distinct_kept g c a (refuses why is) h = subst (λ (x : Answer). AreDistinct x.host.sessions) (sym is) h
distinct_kept g c a (installs name text chart command legal is) h =
    subst (λ (x : Answer). AreDistinct x.host.sessions) (sym is) h
distinct_kept g c a (starts session chart command has new is) h =
    subst (λ (x : Answer). AreDistinct x.host.sessions) (sym is)
    (distinct_push g.sessions (fresh_session session chart) (none_named session g.sessions new) h)
distinct_kept g c a (posts session name pairs place s command found is) h =
    subst (λ (x : Answer). AreDistinct x.host.sessions) (sym is)
    (distinct_set g.sessions place s _ (is_at g session place s found).there refl h)
distinct_kept g c a (ticks n now command within is) h =
    subst (λ (x : Answer). AreDistinct x.host.sessions) (sym is)
    (distinct_moves (ticked g now) _ _ (all_fire (ticked g now) (due_in g now)) h)
distinct_kept g c a (cancels session place s command found is) h =
    subst (λ (x : Answer). AreDistinct x.host.sessions) (sym is)
    (distinct_set g.sessions place s _ (is_at g session place s found).there refl h)
distinct_kept g c a (turns session place s cue command found has is) h =
    let t = turn (chart_named g s.state.chart) s.state cue in
    let put = put_in s cue t in
    let started = distinct_set g.sessions place s put (is_at g session place s found).there
    (turn-of (chart_named g s.state.chart) s.state cue).session h in
    let delivered = deliver_all (with_session g place put) place t.effects in
    let all = distinct_moves (with_session g place put) delivered.host _ (all_move (with_session g place put) place t.effects) started in
    subst (λ (x : Answer). AreDistinct x.host.sessions) (sym is)
    (distinct_moves delivered.host (end_at delivered.host place).host _ (end_moves delivered.host place) all)

-- the answer to a step of a session with a cue

in_has : (g : HostImage) (place : ℕ) (s : SessionImage) (cue : Cue) (p : Phase)
    → cue_in p s.state.internal s.flagged s.queued ≡ Some cue → s.state.phase ≡ p
    → step_in g place s p ≡ step_cue g place s (Some cue)
in_has g place s cue phase.Fresh h e =
    ap (step_cue g place s) (ap (λ q. cue_in q s.state.internal s.flagged s.queued) e ∙ h)
in_has g place s cue phase.Running h e =
    ap (step_cue g place s) (ap (λ q. cue_in q s.state.internal s.flagged s.queued) e ∙ h)
in_has g place s cue (phase.Ended how) h e = absurd (cc)

-- a session with a cue takes the turn of that cue
pub step_taken : (g : HostImage) (name : List ℕ) (place : ℕ) (s : SessionImage) (cue : Cue)
    → session_named g name ≡ Some (place, s) → cue_of s ≡ Some cue
    → step g (session_named g name) ≡ step_cue g place s (Some cue)
step_taken g name place s cue found has = ap (step g) found ∙ in_has g place s cue s.state.phase has refl

-- the ready session's step is accepted
pub ready_stepped : (g : HostImage) (name : List ℕ) → AreDistinct g.sessions → ready g ≡ Some name
    → (cue : Cue) × ((answer g (Step name)).reply ≡ Stepped (name_of cue))
unfolding answer
ready_stepped g name distinct ready_is =
    let r = ready_at g name distinct ready_is in
    (r.cue, ap (λ (x : Answer). x.reply) (step_taken g name r.place r.session r.cue r.found r.has))
