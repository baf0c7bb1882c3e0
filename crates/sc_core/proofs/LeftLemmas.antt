-- Which children a session leaves behind, told before anything changes.
use Rattle.std.proofs.Common.{cond, ◌≡◌, ℕ, ◌+◌, ◌<◌, ◌==◌, ◌&&◌, ◌||◌, ◌++◌, zero, suc, not, Bool, true, false, Option, Some, None, option_map, option_and_then, if◌then◌else◌, filter, List, [], ◌∷◌, length, map, slice_get, slice_set, refl, arith, sym, ap, ◌∙◌}
use Rattle.std.specs.List.{AllByRecursion}
use Rattle.std.specs.Option.{option_map_or}
use Rattle.std.specs.Str.{bytes_eq}
use Rattle.std.proofs.Math.Seq.{map-set_same}
use Rattle.std.proofs.lemmas.Bool.Decides.{nat_tests}
use Rattle.std.proofs.lemmas.List.{map-set}
use Rattle.std.proofs.lemmas.Option.{get_or_from_slice_get, slice_get-map, slice_get_within}
use Rattle.sc_types.specs.declared.event.Event.{Event}
use Rattle.sc_types.specs.declared.host.HostImage.{HostImage}
use Rattle.sc_types.specs.declared.host.InvokerImage.{InvokerImage}
use Rattle.sc_types.specs.declared.host.SessionImage.{SessionImage}
use Rattle.sc_core.specs.Births.{AreFrom, Sight, born_sight, sight}
use Rattle.sc_core.specs.Bodies.{children_of, inviter, is_invited, session_image}
use Rattle.sc_core.specs.Changes.{at_session, queue_at}
use Rattle.sc_machine.specs.Deliveries.{cut_off, queue, without_invoke}
use Rattle.sc_core.specs.Drafts.{IsOfStep, Stepper}
use Rattle.sc_machine.specs.Endings.{is_left_by}
use Rattle.sc_machine.specs.Hosts.{is_live, with_session}
use Rattle.sc_core.specs.Installing.{CanApply, CanApplyAll, apply, installed}
use Rattle.sc_core.specs.Parting.{is_cut, is_cut_in, left_if, new_left, old_left, put_left}
use Rattle.sc_core.specs.declared.change.Change.{Change}
use Rattle.sc_core.specs.declared.change.Change.TheVariants.{Advance, Bear, Count, CutOff, Delay, DropInvoke, End, Flag, Install, Lose, PutState, Queue, Start, TakeFront, Tell, Undo}
use Rattle.sc_core.specs.declared.draft.Placed.{Placed}
use Rattle.sc_core.specs.declared.session.Session.{Session}
use Rattle.sc_core.proofs.PartLemmas.{placed_where}

-- who invoked a session
abbrev pub Link : Type 0
Link = Option InvokerImage

abbrev pub links : HostImage → List Link
links g = map (λ (s : SessionImage). s.invoker) g.sessions

abbrev pub cut_link : Link → Link
cut_link o = option_map (λ (i : InvokerImage). record i { cut = true }) o

abbrev pub cut_if : Bool → Link → Link
cut_if b o = if b then cut_link o else o

abbrev pub cut_where : (ℕ → Bool) → ℕ → List Link → List Link
cut_where f from [] = []
cut_where f from (o ∷ os) = cut_if (f from) o ∷ cut_where f (from + 1) os

-- ---- the links that the changes of a step leave

abbrev pub born_links : {P : Type 0} → List (Change P) → List Link
born_links [] = []
born_links (Bear invoker name s ∷ cs) = s.invoker ∷ born_links cs
born_links (c ∷ cs) = born_links cs

at_links : (g : HostImage) (place : ℕ) (f : SessionImage → SessionImage)
    → ((s : SessionImage) → (f s).invoker ≡ s.invoker) → links (at_session g place f) ≡ links g
at_links g place f same = by (slice_get g.sessions place) refl
  where
    by : (o : Option SessionImage) → slice_get g.sessions place ≡ o
        → links (option_map_or (λ (s : SessionImage). with_session g place (f s)) o g) ≡ links g
    by None at = refl
    by (Some s) at = map-set_same (λ (x : SessionImage). x.invoker) g.sessions place (f s) s
        (same s ∙ ap (λ (x : SessionImage). x.invoker) (sym (get_or_from_slice_get g.sessions place s s at)))

queue_links : (g : HostImage) (place : ℕ) (e : Event) → links (queue_at g place e) ≡ links g
queue_links g place e = by (slice_get g.sessions place) refl
  where
    by : (o : Option SessionImage) → slice_get g.sessions place ≡ o
        → links (option_map_or (λ (s : SessionImage). queue g place s e) o g) ≡ links g
    by None at = refl
    by (Some s) at = map-set_same (λ (x : SessionImage). x.invoker) g.sessions place _ s
        (ap (λ (x : SessionImage). x.invoker) (sym (get_or_from_slice_get g.sessions place s s at)))

-- past the last place nothing is cut
cut_before : (q from : ℕ) (os : List Link) → q < from → cut_where (λ p. q == p) from os ≡ os
cut_before q from [] l = refl
cut_before q from (o ∷ os) l =
    let other : (q == from) ≡ false = grind (arith, nat_tests, l) in
    ap (λ b. cut_if b o ∷ cut_where (λ p. q == p) (from + 1) os) other
    ∙ ap (λ xs. o ∷ xs) (cut_before q (from + 1) os (omega (arith, l)))

cut_links : (g : HostImage) (place : ℕ)
    → links (at_session g place cut_off) ≡ cut_where (λ p. place == p) 0 (links g)
cut_links g place =
    by (slice_get g.sessions place) refl
  where
    -- where none stands at the place, none is cut
    none : (from : ℕ) (os : List Link) (p : ℕ) → slice_get os p ≡ None → cut_where (λ q. from + p == q) from os ≡ os
    none from [] p at = refl
    none from (o ∷ os) zero at = absurd cc
    none from (o ∷ os) (suc p) at =
        let other : (from + suc p == from) ≡ false = grind (arith, nat_tests) in
        let next : from + suc p ≡ (from + 1) + p = omega arith in
        ap (λ b. cut_if b o ∷ cut_where (λ q. from + suc p == q) (from + 1) os) other
        ∙ ap (λ n. o ∷ cut_where (λ q. n == q) (from + 1) os) next ∙ ap (λ all. o ∷ all) (none (from + 1) os p at)

    one : (from : ℕ) (os : List Link) (p : ℕ) (o : Link) → slice_get os p ≡ Some o
        → slice_set os p (cut_link o) ≡ cut_where (λ q. from + p == q) from os
    one from [] p o at = absurd cc
    one from (x ∷ xs) zero o at =
        let is : x ≡ o = cc in
        let here : (from + 0 == from) ≡ true = grind (arith, nat_tests) in
        let later : cut_where (λ q. from + 0 == q) (from + 1) xs ≡ xs = cut_before (from + 0) (from + 1) xs (omega arith) in
        ap (λ y. cut_link y ∷ xs) (sym is) ∙ ap (λ all. cut_link x ∷ all) (sym later)
        ∙ ap (λ b. cut_if b x ∷ cut_where (λ q. from + 0 == q) (from + 1) xs) (sym here)
    one from (x ∷ xs) (suc p) o at =
        let other : (from + suc p == from) ≡ false = grind (arith, nat_tests) in
        let next : from + suc p ≡ (from + 1) + p = omega arith in
        ap (λ all. x ∷ all) (one (from + 1) xs p o at)
        ∙ sym (ap (λ b. cut_if b x ∷ cut_where (λ q. from + suc p == q) (from + 1) xs) other
        ∙ ap (λ n. x ∷ cut_where (λ q. n == q) (from + 1) xs) next)

    start : 0 + place ≡ place
    start = omega arith

    linked : (p : ℕ) (s : Option SessionImage) → slice_get g.sessions p ≡ s
        → slice_get (links g) p ≡ option_map (λ (x : SessionImage). x.invoker) s
    linked p s at =
        slice_get-map (λ (x : SessionImage). x.invoker) g.sessions p ∙ ap (option_map (λ (x : SessionImage). x.invoker)) at

    by : (o : Option SessionImage) → slice_get g.sessions place ≡ o
        → links (option_map_or (λ (s : SessionImage). with_session g place (cut_off s)) o g)
        ≡ cut_where (λ p. place == p) 0 (links g)
    by None at =
        sym (none 0 (links g) place (linked place None at)) ∙ ap (λ n. cut_where (λ q. n == q) 0 (links g)) start
    by (Some s) at =
        map-set (λ (x : SessionImage). x.invoker) g.sessions place (cut_off s)
        ∙ one 0 (links g) place s.invoker (linked place (Some s) at)
        ∙ ap (λ n. cut_where (λ q. n == q) 0 (links g)) start

cut_again : (a b : Bool) (o : Link) → cut_if b (cut_if a o) ≡ cut_if (a || b) o
cut_again true true None = refl
cut_again true true (Some i) = refl
cut_again true false o = refl
cut_again false b o = refl

cut_twice : (f g : ℕ → Bool) (from : ℕ) (os : List Link)
    → cut_where g from (cut_where f from os) ≡ cut_where (λ p. f p || g p) from os
cut_twice f g from [] = refl
cut_twice f g from (o ∷ os) =
    ap (λ x. x ∷ cut_where g (from + 1) (cut_where f (from + 1) os)) (cut_again (f from) (g from) o)
    ∙ ap (λ xs. cut_if (f from || g from) o ∷ xs) (cut_twice f g (from + 1) os)

cut_none : (from : ℕ) (os : List Link) → cut_where (λ p. false) from os ≡ os
cut_none from [] = refl
cut_none from (o ∷ os) = ap (λ xs. o ∷ xs) (cut_none (from + 1) os)

cut_both : (f : ℕ → Bool) (from : ℕ) (xs ys : List Link)
    → cut_where f from (xs ++ ys) ≡ cut_where f from xs ++ cut_where f (from + length xs) ys
cut_both f from [] ys = let same : from ≡ from + 0 = omega arith in ap (λ n. cut_where f n ys) same
cut_both f from (x ∷ xs) ys =
    let next : (from + 1) + length xs ≡ from + suc (length xs) = omega arith in
    ap (λ all. cut_if (f from) x ∷ all) (cut_both f (from + 1) xs ys
    ∙ ap (λ n. cut_where f (from + 1) xs ++ cut_where f n ys) next)

append_one : {X : Type 0} (xs : List X) (y : X) (zs : List X) → (xs ++ y ∷ []) ++ zs ≡ xs ++ y ∷ zs
append_one [] y zs = refl
append_one (x ∷ xs) y zs = ap (λ all. x ∷ all) (append_one xs y zs)

map_push : {X Y : Type 0} (f : X → Y) (xs : List X) (y : X) → map f (xs ++ y ∷ []) ≡ map f xs ++ f y ∷ []
map_push f [] y = refl
map_push f (x ∷ xs) y = ap (λ rest. f x ∷ rest) (map_push f xs y)

map_long : {X Y : Type 0} (f : X → Y) (xs : List X) → length (map f xs) ≡ length xs
map_long f [] = refl
map_long f (x ∷ xs) = ap suc (map_long f xs)

-- what a change of a step does to the links
abbrev LinksOn : {P : Type 0} → HostImage → Change P → List (Change P) → Type 0
LinksOn g c cs =
    cut_where (is_cut_in cs) 0 (links (apply c g) ++ born_links cs)
    ≡ cut_where (is_cut_in (c ∷ cs)) 0 (links g ++ born_links (c ∷ cs))

links_on : {P : Type 0} (who : Stepper) (g : HostImage) (c : Change P) (cs : List (Change P)) → IsOfStep who c
    → CanApply g c → LinksOn g c cs
links_on who g (Queue place e) cs of can =
    ap (λ os. cut_where (is_cut_in cs) 0 (os ++ born_links cs)) (queue_links g place e)
links_on who g (Tell place e) cs of can =
    ap (λ os. cut_where (is_cut_in cs) 0 (os ++ born_links cs)) (at_links g place _ (λ s. refl))
links_on who g (Delay send) cs of can = refl
links_on who g (Undo session id) cs of can = refl
links_on who g (Bear invoker name s) cs of can =
    ap (cut_where (is_cut_in cs) 0)
    (ap (λ os. os ++ born_links cs) (map_push (λ (x : SessionImage). x.invoker) g.sessions (session_image s))
    ∙ append_one (links g) s.invoker (born_links cs))
links_on who g (CutOff place) cs of can =
    let long : 0 + length (links g) ≡ length (links g) = omega arith in
    let within : place < length (links g) = omega (arith, can, map_long (λ (x : SessionImage). x.invoker) g.sessions) in
    let same : cut_where (λ p. place == p) 0 (links g ++ born_links cs) ≡ cut_where (λ p. place == p) 0 (links g) ++ born_links cs =
    cut_both (λ p. place == p) 0 (links g) (born_links cs)
    ∙ ap (λ n. cut_where (λ p. place == p) 0 (links g) ++ cut_where (λ p. place == p) n (born_links cs)) long
    ∙ ap (λ os. cut_where (λ p. place == p) 0 (links g) ++ os) (cut_before place (length (links g)) (born_links cs) within) in
    ap (λ os. cut_where (is_cut_in cs) 0 (os ++ born_links cs)) (cut_links g place)
    ∙ ap (cut_where (is_cut_in cs) 0) (sym same) ∙ cut_twice (λ p. place == p) (is_cut_in cs) 0 (links g ++ born_links cs)
links_on who g (DropInvoke place child) cs of can =
    ap (λ os. cut_where (is_cut_in cs) 0 (os ++ born_links cs)) (at_links g place (without_invoke child) (λ s. refl))
links_on who g Count cs of can = absurd of
links_on who g (Advance clock) cs of can = absurd of
links_on who g (Install name chart) cs of can = absurd of
links_on who g (Start name s) cs of can = absurd of
links_on who g (PutState place state) cs of can = absurd of
links_on who g (TakeFront place) cs of can = absurd of
links_on who g (Flag place) cs of can = absurd of
links_on who g (End place) cs of can = absurd of
links_on who g Lose cs of can = absurd of

append_nil : {X : Type 0} (xs : List X) → xs ++ [] ≡ xs
append_nil [] = refl
append_nil (x ∷ xs) = ap (λ all. x ∷ all) (append_nil xs)

-- the links after the changes of a step
pub links_after : {P : Type 0} (who : Stepper) (cs : List (Change P)) (g : HostImage) → AllByRecursion (IsOfStep who) cs
    → CanApplyAll g cs → links (installed cs g) ≡ cut_where (is_cut_in cs) 0 (links g ++ born_links cs)
links_after who [] g all can = sym (cut_none 0 (links g ++ []) ∙ append_nil (links g))
links_after who (c ∷ cs) g all can =
    links_after who cs (apply c g) all.1 can.1 ∙ links_on who g c cs all.0 can.0

-- those of the sessions that are born are bound to the session
pub IsOwn : List ℕ → Link → Type 0
IsOwn name o = (id : List ℕ) × (o ≡ Some (record { session = name; invokeid = id; cut = false }))

born_own : {P : Type 0} (who : Stepper) (cs : List (Change P)) → AllByRecursion (IsOfStep who) cs
    → AllByRecursion (IsOwn who.name) (born_links cs)
unfolding IsOwn
born_own who [] all = tt
born_own who (Bear invoker name s ∷ cs) all = ((all.0.id, all.0.invoker), born_own who cs all.1)
born_own who (Queue place e ∷ cs) all = born_own who cs all.1
born_own who (Tell place e ∷ cs) all = born_own who cs all.1
born_own who (Delay send ∷ cs) all = born_own who cs all.1
born_own who (Undo session id ∷ cs) all = born_own who cs all.1
born_own who (CutOff place ∷ cs) all = born_own who cs all.1
born_own who (DropInvoke place child ∷ cs) all = born_own who cs all.1
born_own who (Count ∷ cs) all = absurd all.0
born_own who (Advance clock ∷ cs) all = absurd all.0
born_own who (Install name chart ∷ cs) all = absurd all.0
born_own who (Start name s ∷ cs) all = absurd all.0
born_own who (PutState place state ∷ cs) all = absurd all.0
born_own who (TakeFront place ∷ cs) all = absurd all.0
born_own who (Flag place ∷ cs) all = absurd all.0
born_own who (End place ∷ cs) all = absurd all.0
born_own who (Lose ∷ cs) all = absurd all.0

-- ---- who is left, by what is seen and linked

abbrev bound_in : List ℕ → Link → Bool
bound_in name o = option_map_or (λ (i : InvokerImage). bytes_eq i.session name && not i.cut) o false

abbrev left_in : List ℕ → Sight → Link → Bool
left_in name s o = is_live s.phase && bound_in name o

abbrev placed_in : List ℕ → ℕ → List Sight → List Link → List Placed
placed_in name from [] os = []
placed_in name from (s ∷ ss) [] = []
placed_in name from (s ∷ ss) (o ∷ os) =
    if left_in name s o then record { name = s.name; place = from } ∷ placed_in name (from + 1) ss os
    else placed_in name (from + 1) ss os

pub placed_seen : (name : List ℕ) (from : ℕ) (ss : List SessionImage)
    → placed_where (is_left_by name) from ss ≡ placed_in name from (map sight ss) (map (λ (s : SessionImage). s.invoker) ss)
placed_seen name from [] = refl
placed_seen name from (s ∷ ss) =
    ap (λ rest. if is_left_by name s then record { name = s.state.session; place = from } ∷ rest else rest)
    (placed_seen name (from + 1) ss)

placed_both : (name : List ℕ) (from : ℕ) (xs ys : List Sight) (os ps : List Link) → length os ≡ length xs
    → placed_in name from (xs ++ ys) (os ++ ps) ≡ placed_in name from xs os ++ placed_in name (from + length xs) ys ps
placed_both name from [] ys [] ps long = let same : from ≡ from + 0 = omega arith in ap (λ n. placed_in name n ys ps) same
placed_both name from [] ys (o ∷ os) ps long = absurd (omega (arith, long))
placed_both name from (x ∷ xs) ys [] ps long = absurd (omega (arith, long))
placed_both name from (x ∷ xs) ys (o ∷ os) ps long =
    let next : (from + 1) + length xs ≡ from + suc (length xs) = omega arith in
    let b : Placed = record { name = x.name; place = from } in
    ap (λ rest. if left_in name x o then b ∷ rest else rest)
    (placed_both name (from + 1) xs ys os ps (omega (arith, long))
    ∙ ap (λ n. placed_in name (from + 1) xs os ++ placed_in name n ys ps) next)
    ∙ by (left_in name x o) b (placed_in name (from + 1) xs os) (placed_in name (from + suc (length xs)) ys ps)
  where
    by : (v : Bool) (b : Placed) (front back : List Placed)
        → (if v then b ∷ (front ++ back) else front ++ back) ≡ (if v then b ∷ front else front) ++ back
    by true b front back = refl
    by false b front back = refl

-- those that are born
pub placed_born : (name : List ℕ) (f : ℕ → Bool) (from : ℕ) (bs : List Placed) (os : List Link) → AreFrom from bs
    → length os ≡ length bs → AllByRecursion (IsOwn name) os → bytes_eq name name ≡ true
    → placed_in name from (map born_sight bs) (cut_where f from os) ≡ filter (λ (b : Placed). not (f b.place)) bs
unfolding IsOwn
placed_born name f from [] os places long all own = refl
placed_born name f from (b ∷ bs) [] places long all own = absurd (omega (arith, long))
placed_born name f from (b ∷ bs) (o ∷ os) places long all own =
    let rest = placed_born name f (from + 1) bs os places.1 (omega (arith, long)) all.1 own in
    let more = placed_in name (from + 1) (map born_sight bs) (cut_where f (from + 1) os) in
    let one : Placed = record { name = b.name; place = from } in
    ap (λ x. if left_in name (born_sight b) (cut_if (f from) x) then one ∷ more else more) all.0.1
    ∙ ap (λ v. if v then one ∷ more else more) (test (f from))
    ∙ ap (λ ps. if not (f from) then one ∷ ps else ps) rest
    ∙ ap (λ n. cond (not (f n)) (record { name = b.name; place = n } ∷ filter (λ (x : Placed). not (f x.place)) bs)
    (filter (λ (x : Placed). not (f x.place)) bs)) (sym places.0)
  where
    no : (v : Bool) → (v && false) ≡ false
    no true = refl
    no false = refl

    test : (v : Bool) → left_in name (born_sight b)
        (cut_if v (Some (record { session = name; invokeid = all.0.0; cut = false }))) ≡ not v
    test true = no (bytes_eq name name)
    test false = ap (λ x. x && true) own

-- those that the host has

abbrev pub front : ℕ → Sight → ℕ → List Session → List Sight
front place a from [] = []
front place a from (x ∷ xs) = (if from == place then a else sight (session_image x)) ∷ front place a (from + 1) xs

-- either list has the session, or neither
same_left : (rest : List Placed) (b : Placed) (live e cut v : Bool)
    → (if live && (e && not (if v then true else cut)) then b ∷ rest else rest)
    ≡ (if e then put_left (if live && (not cut && not v) then Some b else None) rest else rest)
same_left rest b false true cut v = refl
same_left rest b false false cut v = refl
same_left rest b true false cut v = refl
same_left rest b true true true true = refl
same_left rest b true true true false = refl
same_left rest b true true false true = refl
same_left rest b true true false false = refl

bound_is : (name : List ℕ) (i : InvokerImage) (v : Bool)
    → bound_in name (cut_if v (Some i)) ≡ (bytes_eq i.session name && not (if v then true else i.cut))
bound_is name i true = refl
bound_is name i false = refl

never : (v : Bool) → (v && false) ≡ false
never true = refl
never false = refl

unlinked : (v : Bool) → cut_if v None ≡ None
unlinked true = refl
unlinked false = refl

one_left : {P : Type 0} (name : List ℕ) (cs : List (Change P)) (place : ℕ) (a : Sight) (from : ℕ) (x : Session)
    (rest : List Placed) → is_live a.phase ≡ false → (here : Bool) → (from == place) ≡ here → (o : Link) → x.invoker ≡ o
    → (if left_in name (if here then a else sight (session_image x)) (cut_if (is_cut_in cs from) o)
    then record { name = (if here then a else sight (session_image x)).name; place = from } ∷ rest else rest)
    ≡ (if is_invited name (option_map (λ (i : InvokerImage). i.session) o)
    then put_left (if not here && (is_live x.state.phase && (not (is_cut o) && not (is_cut_in cs from)))
    then Some (record { name = x.state.session; place = from }) else None) rest
    else rest)
one_left name cs place a from x rest over true at o is =
    ap (λ v. if v && bound_in name (cut_if (is_cut_in cs from) o) then record { name = a.name; place = from } ∷ rest else rest) over
    ∙ by (is_invited name (option_map (λ (i : InvokerImage). i.session) o))
  where
    by : (v : Bool) → rest ≡ (if v then rest else rest)
    by true = refl
    by false = refl
one_left name cs place a from x rest over false at None is =
    let b : Placed = record { name = x.state.session; place = from } in
    ap (λ l. if is_live x.state.phase && bound_in name l then b ∷ rest else rest) (unlinked (is_cut_in cs from))
    ∙ ap (λ v. if v then b ∷ rest else rest) (never (is_live x.state.phase))
one_left name cs place a from x rest over false at (Some i) is =
    let b : Placed = record { name = x.state.session; place = from } in
    ap (λ v. if is_live x.state.phase && v then b ∷ rest else rest) (bound_is name i (is_cut_in cs from))
    ∙ same_left rest b (is_live x.state.phase) (bytes_eq i.session name) i.cut (is_cut_in cs from)

left_more : {P : Type 0} (all : List Session) (cs : List (Change P)) (place from : ℕ) (b : Bool) (cs' : List ℕ)
    → old_left all cs place (if b then from ∷ cs' else cs')
    ≡ (if b then put_left (option_and_then (left_if cs place from) (slice_get all from)) (old_left all cs place cs')
    else old_left all cs place cs')
left_more all cs place from true cs' = refl
left_more all cs place from false cs' = refl

pub placed_front : {P : Type 0} (name : List ℕ) (cs : List (Change P)) (place : ℕ) (a : Sight) (all : List Session) (from : ℕ)
    (items : List Session) → is_live a.phase ≡ false
    → ((i : ℕ) (x : Session) → slice_get items i ≡ Some x → slice_get all (from + i) ≡ Some x)
    → placed_in name from (front place a from items)
    (cut_where (is_cut_in cs) from (map (λ (x : Session). x.invoker) items))
    ≡ old_left all cs place (children_of name from (map inviter items))
placed_front name cs place a all from [] over there = refl
placed_front {P = P} name cs place a all from (x ∷ xs) over there =
    let next : (i : ℕ) (y : Session) → slice_get xs i ≡ Some y → slice_get all ((from + 1) + i) ≡ Some y =
    λ i y at. let same : (from + 1) + i ≡ from + suc i = omega arith in ap (slice_get all) same ∙ there (suc i) y at in
    let rest = placed_front name cs place a all (from + 1) xs over next in
    let more = old_left all cs place (children_of name (from + 1) (map inviter xs)) in
    let start : from ≡ from + 0 = omega arith in
    let here : slice_get all from ≡ Some x = ap (slice_get all) start ∙ there 0 x refl in
    let s = if from == place then a else sight (session_image x) in
    ap (λ ps. if left_in name s (cut_if (is_cut_in cs from) x.invoker)
    then record { name = s.name; place = from } ∷ ps else ps) rest
    ∙ one_left name cs place a from x more over (from == place) refl x.invoker refl
    ∙ ap (λ o. if is_invited name (inviter x)
    then put_left (option_and_then (left_if cs place from) o) more else more) (sym here)
    ∙ sym (left_more all cs place from (is_invited name (inviter x)) (children_of name (from + 1) (map inviter xs)))

same_front : (place : ℕ) (a : Sight) (from : ℕ) (items : List Session) → place < from
    → map sight (map session_image items) ≡ front place a from items
same_front place a from [] l = refl
same_front place a from (x ∷ xs) l =
    let other : (from == place) ≡ false = grind (arith, nat_tests, l) in
    ap (λ rest. sight (session_image x) ∷ rest) (same_front place a (from + 1) xs (omega (arith, l)))
    ∙ ap (λ b. (if b then a else sight (session_image x)) ∷ front place a (from + 1) xs) (sym other)

set_front : (place p : ℕ) (a : Sight) (from : ℕ) (items : List Session) → place ≡ from + p → p < length items
    → slice_set (map sight (map session_image items)) p a ≡ front place a from items
set_front place p a from [] at l = absurd (omega (arith, l))
set_front place zero a from (x ∷ xs) at l =
    let here : (from == place) ≡ true = grind (arith, nat_tests, at) in
    ap (λ rest. a ∷ rest) (same_front place a (from + 1) xs (omega (arith, at)))
    ∙ ap (λ b. (if b then a else sight (session_image x)) ∷ front place a (from + 1) xs) (sym here)
set_front place (suc p) a from (x ∷ xs) at l =
    let other : (from == place) ≡ false = grind (arith, nat_tests, at) in
    ap (λ rest. sight (session_image x) ∷ rest) (set_front place p a (from + 1) xs (omega (arith, at)) (omega (arith, l)))
    ∙ ap (λ b. (if b then a else sight (session_image x)) ∷ front place a (from + 1) xs) (sym other)

-- what is seen once a state is put in
pub put_front : (items : List Session) (place : ℕ) (s w : SessionImage)
    → slice_get (map session_image items) place ≡ Some s
    → map sight (slice_set (map session_image items) place w) ≡ front place (sight w) 0 items
put_front items place s w there =
    let within = slice_get_within (map session_image items) place s there in
    map-set sight (map session_image items) place w
    ∙ set_front place place (sight w) 0 items (omega arith) (omega (arith, within, map_long session_image items))

cut_long : (f : ℕ → Bool) (from : ℕ) (os : List Link) → length (cut_where f from os) ≡ length os
cut_long f from [] = refl
cut_long f from (o ∷ os) = ap suc (cut_long f (from + 1) os)

front_long : (place : ℕ) (a : Sight) (from : ℕ) (items : List Session) → length (front place a from items) ≡ length items
front_long place a from [] = refl
front_long place a from (x ∷ xs) = ap suc (front_long place a (from + 1) xs)

both_long : {X : Type 0} (xs ys : List X) → length (xs ++ ys) ≡ length xs + length ys
both_long [] ys = omega arith
both_long (x ∷ xs) ys = let rest = both_long xs ys in omega (arith, rest)

-- the children that a session leaves behind
pub left_is : {P : Type 0} (who : Stepper) (cs : List (Change P)) (items : List Session) (place : ℕ) (a : Sight)
    (births : List Placed) (ss : List SessionImage) → is_live a.phase ≡ false
    → map sight ss ≡ front place a 0 items ++ map born_sight births
    → map (λ (s : SessionImage). s.invoker) ss
    ≡ cut_where (is_cut_in cs) 0 (map (λ (x : Session). x.invoker) items ++ born_links cs)
    → AreFrom (length items) births → AllByRecursion (IsOfStep who) cs → bytes_eq who.name who.name ≡ true
    → placed_where (is_left_by who.name) 0 ss
    ≡ old_left items cs place (children_of who.name 0 (map inviter items)) ++ new_left cs births
left_is {P = P} who cs items place a births ss over seen linked places of same =
    let f = is_cut_in cs in
    let own = map (λ (x : Session). x.invoker) items in
    let front_is = front place a 0 items in
    let start : 0 + length own ≡ length items = omega (arith, map_long (λ (x : Session). x.invoker) items) in
    let begin : 0 + length front_is ≡ length items = omega (arith, front_long place a 0 items) in
    let alike : length (cut_where f 0 own) ≡ length front_is =
    cut_long f 0 own ∙ map_long (λ (x : Session). x.invoker) items ∙ sym (front_long place a 0 items) in
    let many : length (born_links cs) ≡ length births =
    omega (
      arith,
      ap length seen,
      ap length linked,
      map_long sight ss,
      map_long (λ (s : SessionImage). s.invoker) ss,
      cut_long f 0 (own ++ born_links cs),
      both_long own (born_links cs),
      both_long front_is (map born_sight births),
      map_long born_sight births,
      front_long place a 0 items,
      map_long (λ (x : Session). x.invoker) items,
    ) in
    placed_seen who.name 0 ss
    ∙ ap (λ xs. placed_in who.name 0 xs (map (λ (s : SessionImage). s.invoker) ss)) seen
    ∙ ap (placed_in who.name 0 (front_is ++ map born_sight births)) (linked ∙ cut_both f 0 own (born_links cs)
    ∙ ap (λ n. cut_where f 0 own ++ cut_where f n (born_links cs)) start)
    ∙ placed_both who.name 0 front_is (map born_sight births) (cut_where f 0 own) (cut_where f (length items) (born_links cs)) alike
    ∙ ap (λ n. placed_in who.name 0 front_is (cut_where f 0 own)
    ++ placed_in who.name n (map born_sight births) (cut_where f (length items) (born_links cs))) begin
    ∙ ap (λ ps. placed_in who.name 0 front_is (cut_where f 0 own) ++ ps)
    (placed_born who.name f (length items) births (born_links cs) places many (born_own who cs of) same)
    ∙ ap (λ ps. ps ++ new_left cs births)
    (placed_front who.name cs place a items 0 items over (λ i x at. let none : 0 + i ≡ i = omega arith in ap (slice_get items) none ∙ at))
