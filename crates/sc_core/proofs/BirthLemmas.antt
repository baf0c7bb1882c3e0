-- Where a session is found, in a host machine that has more sessions.
use Rattle.std.proofs.Common.{cond, ◌≡◌, ℕ, ◌+◌, ◌||◌, ◌==◌, suc, nat_lt, not, Bool, true, false, Option, Some, None, is_some, option_map, option_and_then, if◌then◌else◌, find, List, [], ◌∷◌, ◌++◌, append_assoc, length, map, position, slice_get, refl, arith, sym, ap, subst, ◌∙◌}
use Rattle.std.specs.List.{list_any, position_or_len}
use Rattle.std.specs.Option.{option_map_or}
use Rattle.std.specs.Str.{bytes_eq}
use Rattle.std.proofs.Math.Seq.{map-set_same}
use Rattle.std.proofs.lemmas.Bool.Decides.{nat_tests}
use Rattle.std.proofs.lemmas.List.Folds.{list_any-append}
use Rattle.std.proofs.lemmas.Option.{get_or_from_slice_get}
use Rattle.std.proofs.lemmas.Option.{none-some}
use Rattle.sc_types.specs.declared.host.HostImage.{HostImage}
use Rattle.sc_types.specs.declared.host.SessionImage.{SessionImage}
use Rattle.sc_types.specs.declared.session.SessionState.{SessionState}
use Rattle.sc_core.specs.Aims.{aim_found, outline, Outline}
use Rattle.sc_core.specs.Births.{AreFrom, IsGrown, Sight, birth_place, born_sight, sight, sights}
use Rattle.sc_core.specs.Changes.{put_state}
use Rattle.sc_machine.specs.Deliveries.{while_live}
use Rattle.sc_machine.specs.Hosts.{is_live, is_session_named, session_named, session_place, with_session}
use Rattle.sc_core.specs.declared.aims.Aim.{Aim}
use Rattle.sc_core.specs.declared.aims.Aim.TheVariants.{Reaches, Fails}
use Rattle.sc_core.specs.declared.draft.Placed.{Placed}
use Rattle.sc_core.proofs.AimLemmas.{aim_put_found}
use Rattle.sc_core.proofs.PrepareLemmas.{some_position}
use Rattle.sc_core.proofs.SetLemmas.{map_long}

-- ---- the session of a name, by what is seen of the sessions

abbrev pub place_of_found : Option (ℕ × SessionImage) → Option ℕ
place_of_found o = option_map (λ (found : ℕ × SessionImage). found.0) o

abbrev is_seen : List ℕ → Sight → Bool
is_seen name o = bytes_eq o.name name

-- the place of the first of a name, from a first place on, while it lives
abbrev seen_from : ℕ → List Sight → List ℕ → Option ℕ
seen_from n [] name = None
seen_from n (o ∷ os) name =
    if bytes_eq o.name name then (if is_live o.phase then Some n else None) else seen_from (n + 1) os name

abbrev placed_in : ℕ → List SessionImage → ℕ → Option ℕ
placed_in n ss p =
    place_of_found (while_live (option_map {U = ℕ × SessionImage} (λ (s : SessionImage). (n + p, s)) (slice_get ss p)))

-- a position in a list, as one goes through it
position_cons : {X : Type 0} (p : X → Bool) (x : X) (xs : List X)
    → position p (x ∷ xs) ≡ (if p x then Some 0 else option_map suc (position p xs))
position_cons {X = X} p x xs = by (p x) (nat_lt (position_or_len p xs) (length xs)) refl
  where
    by : (b c : Bool) → nat_lt (position_or_len p xs) (length xs) ≡ c
        → cond (nat_lt (cond (not b) (1 + position_or_len p xs) 0) (suc (length xs)))
        (Some (cond (not b) (1 + position_or_len p xs) 0)) None
        ≡ (if b then Some 0 else option_map suc (cond c (Some (position_or_len p xs)) None))
    by true c at =
        let yes : nat_lt 0 (suc (length xs)) ≡ true = grind (arith, nat_tests) in
        ap (λ v. cond v (Some 0) None) yes
    by false true at =
        let yes : nat_lt (1 + position_or_len p xs) (suc (length xs)) ≡ true = grind (arith, nat_tests, at) in
        let one : 1 + position_or_len p xs ≡ suc (position_or_len p xs) = omega arith in
        ap (λ v. cond v (Some (1 + position_or_len p xs)) None) yes ∙ ap Some one
    by false false at =
        let no : nat_lt (1 + position_or_len p xs) (suc (length xs)) ≡ false = grind (arith, nat_tests, at) in
        ap (λ v. cond v (Some (1 + position_or_len p xs)) None) no

found_from : (n : ℕ) (ss : List SessionImage) (name : List ℕ)
    → option_and_then (placed_in n ss) (position (is_session_named name) ss) ≡ seen_from n (map sight ss) name
found_from n [] name = refl
found_from n (s ∷ ss) name =
    ap (option_and_then (placed_in n (s ∷ ss))) (position_cons (is_session_named name) s ss)
    ∙ by (bytes_eq s.state.session name) (found_from (n + 1) ss name)
  where
    first : Option (ℕ × SessionImage)
    first = Some (n + 0, s)

    here : (b : Bool) → n + 0 ≡ n → place_of_found (if b then first else None) ≡ (if b then Some n else None)
    here true same = ap Some same
    here false same = refl

    later : (o : Option ℕ) → option_and_then (placed_in n (s ∷ ss)) (option_map suc o) ≡ option_and_then (placed_in (n + 1) ss) o
    later None = refl
    later (Some p) =
        let next : n + suc p ≡ (n + 1) + p = omega arith in
        ap (λ m. place_of_found (while_live (option_map {U = ℕ × SessionImage} (λ (x : SessionImage). (m, x)) (slice_get ss p)))) next

    by : (b : Bool)
        → option_and_then (placed_in (n + 1) ss) (position (is_session_named name) ss) ≡ seen_from (n + 1) (map sight ss) name
        → option_and_then (placed_in n (s ∷ ss))
        (if b then Some 0 else option_map suc (position (is_session_named name) ss))
        ≡ (if b then (if is_live s.state.phase then Some n else None) else seen_from (n + 1) (map sight ss) name)
    by true rest = here (is_live s.state.phase) (omega arith)
    by false rest = later (position (is_session_named name) ss) ∙ rest

-- the session of a name that lives is seen so
pub found_seen : (h : HostImage) (name : List ℕ)
    → place_of_found (while_live (session_named h name)) ≡ seen_from 0 (sights h) name
found_seen h name = by (session_place h name) ∙ found_from 0 h.sessions name
  where
    at : (p : ℕ) → 0 + p ≡ p → place_of_found (while_live (option_map {U = ℕ × SessionImage} (λ (s : SessionImage). (p, s)) (slice_get h.sessions p)))
        ≡ placed_in 0 h.sessions p
    at p same = sym (ap (λ m. place_of_found (while_live
        (option_map {U = ℕ × SessionImage} (λ (s : SessionImage). (m, s)) (slice_get h.sessions p)))) same)

    by : (o : Option ℕ) → place_of_found (while_live (option_and_then {U = ℕ × SessionImage}
        (λ p. option_map {U = ℕ × SessionImage} (λ (s : SessionImage). (p, s)) (slice_get h.sessions p)) o))
        ≡ option_and_then (placed_in 0 h.sessions) o
    by None = refl
    by (Some p) = at p (omega arith)

-- of two lists the first, where a session of the name is there
seen_both : (n : ℕ) (xs ys : List Sight) (name : List ℕ)
    → seen_from n (xs ++ ys) name
    ≡ (if list_any (is_seen name) xs then seen_from n xs name else seen_from (n + length xs) ys name)
seen_both n [] ys name = let same : n ≡ n + 0 = omega arith in ap (λ m. seen_from m ys name) same
seen_both n (x ∷ xs) ys name = by (bytes_eq x.name name) (seen_both (n + 1) xs ys name)
  where
    next : (n + 1) + length xs ≡ n + suc (length xs)
    next = omega arith

    by : (b : Bool) → seen_from (n + 1) (xs ++ ys) name
        ≡ (if list_any (is_seen name) xs then seen_from (n + 1) xs name else seen_from ((n + 1) + length xs) ys name)
        → (if b then (if is_live x.phase then Some n else None) else seen_from (n + 1) (xs ++ ys) name)
        ≡ (if b || list_any (is_seen name) xs
        then (if b then (if is_live x.phase then Some n else None) else seen_from (n + 1) xs name)
        else seen_from (n + suc (length xs)) ys name)
    by true rest = refl
    by false rest =
        rest
        ∙ ap (λ m. if list_any (is_seen name) xs then seen_from (n + 1) xs name else seen_from m ys name) next

-- those that are born live
seen_births : (n : ℕ) (bs : List Placed) (name : List ℕ) → AreFrom n bs
    → seen_from n (map born_sight bs) name ≡ birth_place bs name
seen_births n [] name from = refl
seen_births n (b ∷ bs) name from = by (bytes_eq b.name name) (seen_births (n + 1) bs name from.1)
  where
    by : (is : Bool) → seen_from (n + 1) (map born_sight bs) name ≡ birth_place bs name
        → (if is then Some n else seen_from (n + 1) (map born_sight bs) name)
        ≡ option_map (λ (x : Placed). x.place) (cond is (Some b) (find (λ (x : Placed). bytes_eq x.name name) bs))
    by true rest = ap Some (sym from.0)
    by false rest = rest

births_named : (bs : List Placed) (name : List ℕ)
    → list_any (is_seen name) (map born_sight bs) ≡ is_some (birth_place bs name)
births_named [] name = refl
births_named (b ∷ bs) name = by (bytes_eq b.name name) (births_named bs name)
  where
    by : (is : Bool) → list_any (is_seen name) (map born_sight bs) ≡ is_some (birth_place bs name)
        → (is || list_any (is_seen name) (map born_sight bs))
        ≡ is_some (option_map (λ (x : Placed). x.place) (cond is (Some b) (find (λ (x : Placed). bytes_eq x.name name) bs)))
    by true rest = refl
    by false rest = rest

-- ---- once a state is put in

-- it is put in under its name
names_put : (g : HostImage) (place : ℕ) (state : SessionState)
    → option_map (λ (s : SessionImage). s.state.session) (slice_get g.sessions place) ≡ Some state.session
    → (name : List ℕ) → list_any (is_seen name) (sights (put_state g place state)) ≡ list_any (is_session_named name) g.sessions
names_put g place state there name = by (slice_get g.sessions place) refl there
  where
    put : SessionImage → HostImage
    put s = with_session g place (record s { state = state })

    named : SessionImage → List ℕ
    named s = s.state.session

    seen : (ss : List SessionImage) → list_any (is_seen name) (map sight ss) ≡ list_any (λ n. bytes_eq n name) (map named ss)
    seen [] = refl
    seen (s ∷ ss) = ap (λ b. bytes_eq s.state.session name || b) (seen ss)

    called : (ss : List SessionImage) → list_any (λ n. bytes_eq n name) (map named ss) ≡ list_any (is_session_named name) ss
    called [] = refl
    called (s ∷ ss) = ap (λ b. bytes_eq s.state.session name || b) (called ss)

    by : (o : Option SessionImage) → slice_get g.sessions place ≡ o → option_map named o ≡ Some state.session
        → list_any (is_seen name) (sights (put_state g place state)) ≡ list_any (is_session_named name) g.sessions
    by None at is = absurd cc
    by (Some s) at is =
        let same : state.session ≡ s.state.session = cc in
        let w : SessionImage = record s { state = state } in
        ap (λ o. list_any (is_seen name) (sights (option_map_or put o g))) at
        ∙ seen (with_session g place w).sessions ∙ ap (list_any (λ n. bytes_eq n name))
        (map-set_same named g.sessions place w s
        (same ∙ ap named (sym (get_or_from_slice_get g.sessions place s s at))))
        ∙ called g.sessions

abbrev to_aim : Option ℕ → Aim
to_aim None = Fails
to_aim (Some p) = Reaches p

aims_to : (o : Option (ℕ × SessionImage)) → aim_found o ≡ to_aim (place_of_found o)
aims_to None = refl
aims_to (Some found) = refl

same_place : (a b : Option ℕ) → to_aim a ≡ to_aim b → a ≡ b
same_place None None is = refl
same_place None (Some q) is = absurd cc
same_place (Some p) None is = absurd cc
same_place (Some p) (Some q) is = let same : p ≡ q = cc in ap Some same

grown_seen : (g h : HostImage) (births : List Placed) (name : List ℕ) → IsGrown g births h
    → seen_from 0 (sights h) name
    ≡ (if list_any (is_seen name) (sights g) then seen_from 0 (sights g) name else birth_place births name)
grown_seen g h births name grown =
    let long : 0 + length (sights g) ≡ length g.sessions = omega (arith, map_long sight g.sessions) in
    ap (λ os. seen_from 0 os name) grown.sights ∙ seen_both 0 (sights g) (map born_sight births) name
    ∙ ap (λ n. if list_any (is_seen name) (sights g) then seen_from 0 (sights g) name else seen_from n (map born_sight births) name) long
    ∙ ap (λ o. if list_any (is_seen name) (sights g) then seen_from 0 (sights g) name else o)
    (seen_births (length g.sessions) births name grown.places)

place_there : (q : SessionImage → Bool) (ss : List SessionImage) (p : ℕ) → position q ss ≡ Some p
    → (s : SessionImage) × (slice_get ss p ≡ Some s)
place_there q [] p at = absurd cc
place_there q (s ∷ ss) p at =
    here (q s) (position q ss) (place_there q ss) refl (sym (position_cons q s ss) ∙ at)
  where
    here : (b : Bool) (o : Option ℕ) → ((r : ℕ) → position q ss ≡ Some r → (x : SessionImage) × (slice_get ss r ≡ Some x))
        → position q ss ≡ o → (if b then Some 0 else option_map suc o) ≡ Some p
        → (x : SessionImage) × (slice_get (s ∷ ss) p ≡ Some x)
    here true o rest there is = let same : 0 ≡ p = cc in (s, ap (slice_get (s ∷ ss)) (sym same))
    here false None rest there is = absurd cc
    here false (Some r) rest there is =
        let same : suc r ≡ p = cc in
        let found = rest r there in
        (found.0, ap (slice_get (s ∷ ss)) (sym same) ∙ found.1)

none_found : (g : HostImage) (name : List ℕ) → None ≡ session_named g name → list_any (is_session_named name) g.sessions ≡ false
none_found g name none = by (session_place g name) refl (some_position (is_session_named name) g.sessions)
  where
    by : (o : Option ℕ) → session_place g name ≡ o → is_some o ≡ list_any (is_session_named name) g.sessions
        → list_any (is_session_named name) g.sessions ≡ false
    by None at is = sym is
    by (Some p) at is =
        let there = place_there (is_session_named name) g.sessions p at in
        let found : session_named g name ≡ Some (p, there.0) =
        ap (λ x. option_and_then {U = ℕ × SessionImage} (λ q. option_map {U = ℕ × SessionImage}
        (λ (y : SessionImage). (q, y)) (slice_get g.sessions q)) x) at
        ∙ ap (option_map {U = ℕ × SessionImage} (λ (y : SessionImage). (p, y))) there.1 in
        absurd (none-some (p, there.0) (none ∙ found))

some_found : (g : HostImage) (name : List ℕ) (found : ℕ × SessionImage) → Some found ≡ session_named g name
    → list_any (is_session_named name) g.sessions ≡ true
some_found g name found is = by (session_place g name) refl (some_position (is_session_named name) g.sessions)
  where
    by : (o : Option ℕ) → session_place g name ≡ o → is_some o ≡ list_any (is_session_named name) g.sessions
        → list_any (is_session_named name) g.sessions ≡ true
    by (Some p) at some = sym some
    by None at some =
        absurd (none-some found (sym (is ∙ ap (λ x. option_and_then {U = ℕ × SessionImage} (λ q. option_map {U = ℕ × SessionImage}
        (λ (y : SessionImage). (q, y)) (slice_get g.sessions q)) x) at)))

-- where no session that is there has the name, those that are born are looked at
pub live_born : (g : HostImage) (place : ℕ) (state : SessionState) (name : List ℕ) (births : List Placed) (h : HostImage)
    → option_map (λ (s : SessionImage). s.state.session) (slice_get g.sessions place) ≡ Some state.session
    → None ≡ session_named g name → IsGrown (put_state g place state) births h
    → birth_place births name ≡ place_of_found (while_live (session_named h name))
live_born g place state name births h there none grown =
    let no : list_any (is_seen name) (sights (put_state g place state)) ≡ false =
    names_put g place state there name ∙ none_found g name none in
    sym (found_seen h name ∙ grown_seen (put_state g place state) h births name grown
    ∙ ap (λ b. if b then seen_from 0 (sights (put_state g place state)) name else birth_place births name) no)

-- the session that was found is the one, where it takes events
pub live_found_there : (g : HostImage) (place : ℕ) (state : SessionState) (name : List ℕ) (births : List Placed) (h : HostImage)
    (found : ℕ × SessionImage) (takes : Bool)
    → option_map (λ (s : SessionImage). s.state.session) (slice_get g.sessions place) ≡ Some state.session
    → Some found ≡ session_named g name
    → takes ≡ is_live (if found.0 == place then state.phase else found.1.state.phase)
    → IsGrown (put_state g place state) births h
    → (if takes then Some found.0 else None) ≡ place_of_found (while_live (session_named h name))
live_found_there g place state name births h found takes there is live grown =
    let k = put_state g place state in
    let yes : list_any (is_seen name) (sights k) ≡ true = names_put g place state there name ∙ some_found g name found is in
    let aimed : to_aim (if takes then Some found.0 else None) ≡ to_aim (place_of_found (while_live (session_named k name))) =
    aim_of takes ∙ aim_put_found g place state name found takes there is live ∙ aims_to (while_live (session_named k name)) in
    same_place (if takes then Some found.0 else None) (place_of_found (while_live (session_named k name))) aimed
    ∙ found_seen k name
    ∙ sym (found_seen h name ∙ grown_seen k h births name grown
    ∙ ap (λ b. if b then seen_from 0 (sights k) name else birth_place births name) yes)
  where
    aim_of : (b : Bool) → to_aim (if b then Some found.0 else None) ≡ (if b then Reaches found.0 else Fails)
    aim_of true = refl
    aim_of false = refl

-- a name is taken by a session that is there, or by one that is born
pub taken_is : (g : HostImage) (place : ℕ) (state : SessionState) (name : List ℕ) (births : List Placed) (h : HostImage)
    → option_map (λ (s : SessionImage). s.state.session) (slice_get g.sessions place) ≡ Some state.session
    → IsGrown (put_state g place state) births h
    → (is_some (session_place g name) || is_some (birth_place births name)) ≡ is_some (session_place h name)
taken_is g place state name births h there grown =
    let k = put_state g place state in
    ap (λ b. b || is_some (birth_place births name)) (some_position (is_session_named name) g.sessions
    ∙ sym (names_put g place state there name))
    ∙ ap (λ b. list_any (is_seen name) (sights k) || b) (sym (births_named births name))
    ∙ sym (list_any-append (is_seen name) (sights k) (map born_sight births))
    ∙ ap (list_any (is_seen name)) (sym grown.sights)
    ∙ seen h.sessions ∙ sym (some_position (is_session_named name) h.sessions)
  where
    seen : (ss : List SessionImage) → list_any (is_seen name) (map sight ss) ≡ list_any (is_session_named name) ss
    seen [] = refl
    seen (s ∷ ss) = ap (λ b. bytes_eq s.state.session name || b) (seen ss)

-- ---- what is seen of the sessions, as they change

sight_of : Outline → Sight
sight_of o = record { name = o.name; phase = o.phase }

sights_outlined : (ss : List SessionImage) → map sight ss ≡ map sight_of (map outline ss)
unfolding sight_of
sights_outlined [] = refl
sights_outlined (s ∷ ss) = ap (λ os. sight s ∷ os) (sights_outlined ss)

-- a session is replaced by one that looks like it
pub sights_set : (g : HostImage) (place : ℕ) (s t : SessionImage) → slice_get g.sessions place ≡ Some s → sight t ≡ sight s
    → sights (with_session g place t) ≡ sights g
sights_set g place s t there same =
    map-set_same sight g.sessions place t s (same ∙ ap sight (sym (get_or_from_slice_get g.sessions place s s there)))

-- what is seen the same has as many sessions
pub sights_long : (g h : HostImage) → sights h ≡ sights g → length h.sessions ≡ length g.sessions
sights_long g h same = sym (map_long sight h.sessions) ∙ ap length same ∙ map_long sight g.sessions

-- as many as are there, and as are born
pub grown_long : (g h : HostImage) (births : List Placed) → IsGrown g births h
    → length h.sessions ≡ length g.sessions + length births
grown_long g h births grown =
    sym (map_long sight h.sessions) ∙ ap length grown.sights ∙ both (sights g)
    ∙ ap (λ n. n + length births) (map_long sight g.sessions)
  where
    both : (xs : List Sight) → length (xs ++ map born_sight births) ≡ length xs + length births
    both [] = map_long born_sight births ∙ omega arith
    both (x ∷ xs) = let rest = both xs in omega (arith, rest)

-- nobody is born
pub grown_on : (g h k : HostImage) (births : List Placed) → IsGrown g births h → sights k ≡ sights h → IsGrown g births k
grown_on g h k births grown same = record { sights = same ∙ grown.sights; places = grown.places }

-- one is born
pub grown_more : (g h k : HostImage) (births : List Placed) (b : Placed) → IsGrown g births h
    → sights k ≡ sights h ++ born_sight b ∷ [] → b.place ≡ length h.sessions → IsGrown g (births ++ b ∷ []) k
grown_more g h k births b grown more at = record {
  sights = more ∙ ap (λ os. os ++ born_sight b ∷ []) grown.sights
      ∙ append_assoc (sights g) (map born_sight births) (born_sight b ∷ [])
      ∙ ap (λ os. sights g ++ os) (sym (map_push births));
  places = places_push (length g.sessions) births grown.places (at ∙ grown_long g h births grown);
}
  where
    map_push : (bs : List Placed) → map born_sight (bs ++ b ∷ []) ≡ map born_sight bs ++ born_sight b ∷ []
    map_push [] = refl
    map_push (x ∷ xs) = ap (λ rest. born_sight x ∷ rest) (map_push xs)

    places_push : (n : ℕ) (bs : List Placed) → AreFrom n bs → b.place ≡ n + length bs → AreFrom n (bs ++ b ∷ [])
    places_push n [] from is = (is ∙ omega arith, tt)
    places_push n (x ∷ xs) from is = (from.0, places_push (n + 1) xs from.1 (is ∙ omega arith))

-- the same of a host machine that looks the same
pub grown_from : (g k h : HostImage) (births : List Placed) → sights g ≡ sights k → IsGrown g births h → IsGrown k births h
grown_from g k h births same grown = record {
  sights = grown.sights ∙ ap (λ os. os ++ map born_sight births) same;
  places = subst (λ n. AreFrom n births) (sights_long k g same) grown.places;
}
