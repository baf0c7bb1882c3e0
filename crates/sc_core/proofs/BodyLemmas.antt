-- The host's body and the host machine that it stands for.
use Rattle.std.proofs.Common.{cond, slice_set, ◌≡◌, ℕ, ◌+◌, ◌<◌, ◌≤◌, ◌==◌, ◌||◌, nat_lt, zero, suc, Bool, true, false, not, filter, None, Some, List, [], ◌∷◌, ◌++◌, length, is_some, map, position, refl, arith, ap, sym, ◌∙◌}
use Rattle.std.proofs.lemmas.Bool.Decides.{nat_tests}
use Rattle.std.specs.List.{position_or_len}
use Rattle.sc_types.specs.declared.event.Event.{Event}
use Rattle.sc_types.specs.declared.host.SessionImage.{SessionImage}
use Rattle.sc_base.specs.Ascending.{with_number}
use Rattle.sc_core.specs.Bodies.{cued, marked}
use Rattle.sc_machine.specs.Cues.{cue_in, is_ready, waiting_cue}
use Rattle.sc_types.specs.declared.session.Phase.{Phase}
use Rattle.sc_types.specs.declared.session.Phase.TheVariants as phase

positive : (n : ℕ) → nat_lt 0 (suc n) ≡ true
positive n = grind (arith, nat_tests)

any_cue : (es : List Event) (flagged : Bool) (z : Event) (zs : List Event) → is_some (waiting_cue es flagged (z ∷ zs)) ≡ true
any_cue (e ∷ es) flagged z zs = refl
any_cue [] true z zs = refl
any_cue [] false z zs = refl

any_flagged : (es : List Event) → is_some (waiting_cue es true []) ≡ true
any_flagged (e ∷ es) = refl
any_flagged [] = refl

any_front : (xs : List Event) (y : Event) (ys : List Event) → is_some (waiting_cue (xs ++ y ∷ ys) false []) ≡ true
any_front (x ∷ xs) y ys = refl
any_front [] y ys = refl

-- something waits where one of the parts of the internal queue, the flag or the external queue says so
pub waits_in : (xs ys : List Event) (flagged : Bool) (zs : List Event)
    → is_some (waiting_cue (xs ++ ys) flagged zs) ≡ (nat_lt 0 (length zs) || flagged || nat_lt 0 (length ys) || nat_lt 0 (length xs))
waits_in xs ys f (z ∷ zs) = rw (positive (length zs)) (any_cue (xs ++ ys) f z zs)
waits_in xs ys true [] = any_flagged (xs ++ ys)
waits_in xs (y ∷ ys) false [] = rw (positive (length ys)) (any_front xs y ys)
waits_in (x ∷ xs) [] false [] = rw (positive (length xs)) refl
waits_in [] [] false [] = refl

-- an event that joins others changes no cue
pub cued_on : (p : Phase) (es : List Event) (flagged : Bool) (zs more : List Event) → 0 < length zs
    → is_some (cue_in p es flagged (zs ++ more)) ≡ is_some (cue_in p es flagged zs)
cued_on p es f [] more some = absurd (omega (arith, some))
cued_on phase.Fresh es f (z ∷ zs) more some = refl
cued_on (phase.Ended how) es f (z ∷ zs) more some = refl
cued_on phase.Running (e ∷ es) f (z ∷ zs) more some = refl
cued_on phase.Running [] true (z ∷ zs) more some = refl
cued_on phase.Running [] false (z ∷ zs) more some = refl

-- the first index at which the test passes after f
pub position_map : {X Y : Type 0} (p : Y → Bool) (f : X → Y) (xs : List X) → position p (map f xs) ≡ position (λ x. p (f x)) xs
position_map {X = X} {Y = Y} p f xs = ap (λ n. cond (nat_lt n (length (map f xs))) (Some n) None) (at xs)
    ∙ ap (λ n. cond (nat_lt (position_or_len (λ x. p (f x)) xs) n) (Some (position_or_len (λ x. p (f x)) xs)) None) (long xs)
  where
    at : (ys : List X) → position_or_len p (map f ys) ≡ position_or_len (λ x. p (f x)) ys
    at [] = refl
    at (y ∷ ys) = ap (λ n. cond (not (p (f y))) (1 + n) 0) (at ys)

    long : (ys : List X) → length (map f ys) ≡ length ys
    long [] = refl
    long (y ∷ ys) = ap suc (long ys)

-- ---- the places of sessions with a cue

-- each place is past the first one
abbrev AreFrom : ℕ → List ℕ → Type 0
AreFrom from [] = Unit {0}
AreFrom from (p ∷ ps) = (from ≤ p) × AreFrom from ps

from_later : (k n : ℕ) (ps : List ℕ) → k ≤ n → AreFrom n ps → AreFrom k ps
from_later k n [] l h = h
from_later k n (p ∷ ps) l h = (omega (arith, h.0), from_later k n ps l h.1)

cued_from : (k : ℕ) (ss : List SessionImage) → AreFrom k (cued k ss)
cued_from k [] = tt
cued_from k (s ∷ ss) = by (is_ready s) (from_later k (k + 1) (cued (k + 1) ss) (omega arith) (cued_from (k + 1) ss))
  where
    by : (b : Bool) → AreFrom k (cued (k + 1) ss) → AreFrom k (cond b (k ∷ cued (k + 1) ss) (cued (k + 1) ss))
    by true h = (omega arith, h)
    by false h = h

-- a place before the others
with_first : (k : ℕ) (ps : List ℕ) → AreFrom (k + 1) ps → with_number k ps ≡ k ∷ ps
with_first k [] h = refl
with_first k (p ∷ ps) h =
    let e : (k == p) ≡ false = let l = h.0 in grind (arith, nat_tests, l) in
    let f : nat_lt k p ≡ true = let l = h.0 in grind (arith, nat_tests, l) in
    rw (e, f) refl

without_first : (k : ℕ) (ps : List ℕ) → AreFrom (k + 1) ps → filter (λ m. not (m == k)) ps ≡ ps
without_first k [] h = refl
without_first k (p ∷ ps) h =
    let e : (p == k) ≡ false = let l = h.0 in grind (arith, nat_tests, l) in
    rw e (ap (λ xs. p ∷ xs) (without_first k ps h.1))

same_number : (k : ℕ) → (k == k) ≡ true
same_number k = grind (arith, nat_tests)

-- a session's place is marked anew
mark_here : (k : ℕ) (w x : Bool) (ps : List ℕ) → AreFrom (k + 1) ps
    → cond w (k ∷ ps) ps ≡ marked w k (cond x (k ∷ ps) ps)
mark_here k true true ps h = rw (same_number k) refl
mark_here k true false ps h = sym (with_first k ps h)
mark_here k false true ps h = rw (same_number k) (sym (without_first k ps h))
mark_here k false false ps h = sym (without_first k ps h)

mark_later : (k n : ℕ) (w x : Bool) (ps : List ℕ) → k < n
    → marked w n (cond x (k ∷ ps) ps) ≡ cond x (k ∷ marked w n ps) (marked w n ps)
mark_later k n w false ps l = refl
mark_later k n true true ps l =
    let e : (n == k) ≡ false = grind (arith, nat_tests, l) in
    let f : nat_lt n k ≡ false = grind (arith, nat_tests, l) in
    rw (e, f) refl
mark_later k n false true ps l =
    let e : (k == n) ≡ false = grind (arith, nat_tests, l) in
    rw e refl

pub cued_set : (k i : ℕ) (ss : List SessionImage) (w : SessionImage) → i < length ss
    → cued k (slice_set ss i w) ≡ marked (is_ready w) (k + i) (cued k ss)
cued_set k i [] w l = absurd (omega arith)
cued_set k zero (x ∷ xs) w l =
    let n : k ≡ k + 0 = omega arith in
    mark_here k (is_ready w) (is_ready x) (cued (k + 1) xs) (cued_from (k + 1) xs)
    ∙ ap (λ m. marked (is_ready w) m (cued k (x ∷ xs))) n
cued_set k (suc i) (x ∷ xs) w l =
    let rest : cued (k + 1) (slice_set xs i w) ≡ marked (is_ready w) (k + suc i) (cued (k + 1) xs)
    = cued_set (k + 1) i xs w (omega (arith, l)) ∙ ap (λ n. marked (is_ready w) n (cued (k + 1) xs)) (omega arith) in
    ap (λ ps. cond (is_ready x) (k ∷ ps) ps) rest
    ∙ sym (mark_later k (k + suc i) (is_ready w) (is_ready x) (cued (k + 1) xs) (omega arith))

pub cued_push : (k : ℕ) (ss : List SessionImage) (w : SessionImage)
    → cued k (ss ++ w ∷ []) ≡ marked (is_ready w) (k + length ss) (cued k ss)
cued_push k [] w =
    let n : k ≡ k + 0 = omega arith in
    mark_here k (is_ready w) false [] tt ∙ ap (λ m. marked (is_ready w) m []) n
cued_push k (x ∷ xs) w =
    let rest : cued (k + 1) (xs ++ w ∷ []) ≡ marked (is_ready w) (k + suc (length xs)) (cued (k + 1) xs)
    = cued_push (k + 1) xs w ∙ ap (λ n. marked (is_ready w) n (cued (k + 1) xs)) (omega arith) in
    ap (λ ps. cond (is_ready x) (k ∷ ps) ps) rest
    ∙ sym (mark_later k (k + suc (length xs)) (is_ready w) (is_ready x) (cued (k + 1) xs) (omega arith))
