-- The sends of entries in due order, and what a send that is added or taken makes of them.
use Rattle.std.proofs.Common.{◌≡◌, ◌≢◌, ℕ, ◌+◌, ◌<◌, ◌≤◌, nat_lt, zero, suc, Bool, true, false, not, cond, Option, None, Some, filter, List, [], ◌∷◌, length, insert, remove, slice_get, take, drop, refl, arith, ap, sym, ◌∙◌, subst}
use Rattle.std.proofs.lemmas.Bool.Decides.{nat_tests}
use Rattle.std.proofs.lemmas.List.Sums.{sum_by-cons}
use Rattle.std.specs.Prelude.{All, count_by}
use Rattle.std.specs.List.{cons_option}
use Rattle.std.specs.Option.{option_map_or}
use Rattle.sc_ranks.specs.declared.entry.Entry.{Entry}
use Rattle.sc_ranks.specs.Ranks.{precedes, RanksBefore, IsRising, place_of}
use Rattle.sc_types.specs.declared.host.TimerImage.{TimerImage}
use Rattle.sc_types.specs.Sends.{is_before, with_send, IsBeforeAll, IsInDueOrder}
use Rattle.sc_timers.specs.Order.{sends_of, by_due, by_session, session_rank, IsOf, AreOf, one, passing, picked_at, AreBelow}
use Rattle.sc_timers.specs.Timers.{TimersOf}
use Rattle.sc_timers.proofs.EntryLemmas.{IsAway, AreOlder, away-vacant}

-- ---- the sends of entries

pub sends-cons : (at : ℕ → Option TimerImage) (e : Entry) (es : List Entry) (t : TimerImage) → at e.key ≡ Some t
    → sends_of at (e ∷ es) ≡ t ∷ sends_of at es
sends-cons at e es t h = ap (λ o. cons_option o (sends_of at es)) h

-- there are as many sends as entries
pub length-sends : (ranked : ℕ → TimerImage → Entry) (at : ℕ → Option TimerImage) (es : List Entry) → AreOf ranked at es
    → length (sends_of at es) ≡ length es
length-sends ranked at [] a = refl
length-sends ranked at (e ∷ es) a = ap length (sends-cons at e es a.0.send a.0.found)
    ∙ ap suc (length-sends ranked at es a.1)

-- the send at a place is the one under the key at that place
pub slice_get-sends : (ranked : ℕ → TimerImage → Entry) (at : ℕ → Option TimerImage) (es : List Entry) (i : ℕ)
    (e : Entry)
    → AreOf ranked at es → slice_get es i ≡ Some e → slice_get (sends_of at es) i ≡ at e.key
slice_get-sends ranked at [] i e a h = cc
slice_get-sends ranked at (x ∷ xs) zero e a h =
    let same : x ≡ e = cc in
    ap (λ ss. slice_get ss 0) (sends-cons at x xs a.0.send a.0.found) ∙ sym a.0.found
    ∙ ap (λ (z : Entry). at z.key) same
slice_get-sends ranked at (x ∷ xs) (suc i) e a h =
    ap (λ ss. slice_get ss (suc i)) (sends-cons at x xs a.0.send a.0.found) ∙ slice_get-sends ranked at xs i e a.1 h

-- past the entries there are no sends
pub slice_get-none : (ranked : ℕ → TimerImage → Entry) (at : ℕ → Option TimerImage) (es : List Entry) (i : ℕ)
    → AreOf ranked at es → slice_get es i ≡ None → slice_get (sends_of at es) i ≡ None
slice_get-none ranked at [] i a h = refl
slice_get-none ranked at (x ∷ xs) zero a h = cc
slice_get-none ranked at (x ∷ xs) (suc i) a h =
    ap (λ ss. slice_get ss (suc i)) (sends-cons at x xs a.0.send a.0.found) ∙ slice_get-none ranked at xs i a.1 h

-- a change under another key leaves the sends
pub sends-away : (at new_at : ℕ → Option TimerImage) (key : ℕ) (es : List Entry) → ((k : ℕ) → k ≢ key → new_at k ≡ at k)
    → IsAway key es → sends_of new_at es ≡ sends_of at es
sends-away at new_at key [] o n = refl
sends-away at new_at key (e ∷ es) o n =
    ap (λ p. cons_option p (sends_of new_at es)) (o e.key n.0)
    ∙ ap (λ ss. cons_option (at e.key) ss) (sends-away at new_at key es o n.1)

-- rising entries have sends in due order
before-sends : (at : ℕ → Option TimerImage) (e : Entry) (t : TimerImage) (es : List Entry) → e ≡ by_due e.key t
    → AreOf by_due at es → RanksBefore e es → IsBeforeAll t (sends_of at es)
before-sends at e t [] i a h = tt
before-sends at e t (x ∷ xs) i a h =
    let first : is_before t a.0.send ≡ true =
    subst (λ (z : Entry). precedes a.0.send.due a.0.send.number z ≡ true) i
    (subst (λ (z : Entry). precedes z.first z.number e ≡ true) a.0.is h.0) in
    subst (λ ss. IsBeforeAll t ss) (sym (sends-cons at x xs a.0.send a.0.found))
    (first, before-sends at e t xs i a.1 h.1)

pub due-order : (at : ℕ → Option TimerImage) (es : List Entry) → AreOf by_due at es → IsRising es
    → IsInDueOrder (sends_of at es)
due-order at [] a h = tt
due-order at (e ∷ es) a h =
    subst (λ ss. IsInDueOrder ss) (sym (sends-cons at e es a.0.send a.0.found))
    (before-sends at e a.0.send es a.0.is a.1 h.0, due-order at es a.1 h.1)

-- ---- a new send

newer-after : (s t : TimerImage) → s.number < t.number → is_before s t ≡ true → is_before t s ≡ false
newer-after s t h e = grind (arith, nat_tests)

newer-before : (s t : TimerImage) → s.number < t.number → is_before s t ≡ false → is_before t s ≡ true
newer-before s t h e = grind (arith, nat_tests)

place-yes : (f n : ℕ) (x : Entry) (xs : List Entry) → precedes f n x ≡ true
    → place_of f n (x ∷ xs) ≡ suc (place_of f n xs)
place-yes f n x xs e = rw e (omega arith)

place-no : (f n : ℕ) (x : Entry) (xs : List Entry) → precedes f n x ≡ false → place_of f n (x ∷ xs) ≡ 0
place-no f n x xs e = rw e refl

with-before : (t s : TimerImage) (ss : List TimerImage) → is_before t s ≡ true → with_send t (s ∷ ss) ≡ t ∷ s ∷ ss
with-before t s ss e = ap (λ v. cond v (t ∷ s ∷ ss) (s ∷ with_send t ss)) e

with-after : (t s : TimerImage) (ss : List TimerImage) → is_before t s ≡ false
    → with_send t (s ∷ ss) ≡ s ∷ with_send t ss
with-after t s ss e = ap (λ v. cond v (t ∷ s ∷ ss) (s ∷ with_send t ss)) e

-- a newer send whose entry is put in at its place is added in due order
pub sends-insert : (at : ℕ → Option TimerImage) (es : List Entry) (key : ℕ) (t : TimerImage) → AreOf by_due at es
    → at key ≡ Some t → AreOlder t.number es
    → sends_of at (insert es (place_of t.due t.number es) (by_due key t)) ≡ with_send t (sends_of at es)
sends-insert at [] key t a e o = sends-cons at (by_due key t) [] t e
sends-insert at (x ∷ xs) key t a e o = by (is_before s t) refl (sends-insert at xs key t a.1 e o.1)
  where
    s : TimerImage
    s = a.0.send

    older : s.number < t.number
    older = subst (λ (z : Entry). z.number < t.number) a.0.is o.0

    all : sends_of at (x ∷ xs) ≡ s ∷ sends_of at xs
    all = sends-cons at x xs s a.0.found

    by : (v : Bool) → is_before s t ≡ v
        → sends_of at (insert xs (place_of t.due t.number xs) (by_due key t)) ≡ with_send t (sends_of at xs)
        → sends_of at (insert (x ∷ xs) (place_of t.due t.number (x ∷ xs)) (by_due key t)) ≡ with_send t
        (sends_of at (x ∷ xs))
    by true v ih =
        let yes : precedes t.due t.number x ≡ true =
        subst (λ (z : Entry). precedes t.due t.number z ≡ true) (sym a.0.is) v in
        ap (λ p. sends_of at (insert (x ∷ xs) p (by_due key t))) (place-yes t.due t.number x xs yes)
        ∙ sends-cons at x (insert xs (place_of t.due t.number xs) (by_due key t)) s a.0.found
        ∙ ap (λ ss. s ∷ ss) ih ∙ sym (with-after t s (sends_of at xs) (newer-after s t older v))
        ∙ ap (with_send t) (sym all)
    by false v ih =
        let no : precedes t.due t.number x ≡ false =
        subst (λ (z : Entry). precedes t.due t.number z ≡ false) (sym a.0.is) v in
        ap (λ p. sends_of at (insert (x ∷ xs) p (by_due key t))) (place-no t.due t.number x xs no)
        ∙ sends-cons at (by_due key t) (x ∷ xs) t e ∙ ap (λ ss. t ∷ ss) all
        ∙ sym (with-before t s (sends_of at xs) (newer-before s t older v)) ∙ ap (with_send t) (sym all)

-- the entries of older sends are older
pub older-due : (at : ℕ → Option TimerImage) (n : ℕ) (es : List Entry) → AreOf by_due at es
    → All (λ (s : TimerImage). s.number < n) (sends_of at es) → AreOlder n es
older-due at n [] a h = tt
older-due at n (e ∷ es) a h =
    let all = subst (λ ss. All (λ (s : TimerImage). s.number < n) ss) (sends-cons at e es a.0.send a.0.found) h in (
      subst (λ (z : Entry). z.number < n) (sym a.0.is) (all 0 a.0.send (omega arith)),
      older-due at n es a.1 (λ k d b. all (suc k) d (omega (arith, b))),
    )

-- whether the key is that of a send whose number is not below
abbrev newer_at : ℕ → (ℕ → Option TimerImage) → ℕ → Bool
newer_at n at key = option_map_or (λ (s : TimerImage). not (nat_lt s.number n)) (at key) false

older-none : (at : ℕ → Option TimerImage) (n : ℕ) (es : List Entry) → AreOf by_due at es → AreOlder n es
    → passing (newer_at n at) es ≡ 0
older-none at n [] a o = refl
older-none at n (e ∷ es) a o =
    let older : a.0.send.number < n = subst (λ (z : Entry). z.number < n) a.0.is o.0 in
    let test : nat_lt a.0.send.number n ≡ true = grind (arith, nat_tests, older) in
    let no : newer_at n at e.key ≡ false =
    ap (λ p. option_map_or (λ (s : TimerImage). not (nat_lt s.number n)) p false) a.0.found ∙ ap not test in
    omega (arith, ap one no, older-none at n es a.1 o.1)

none-older : (at : ℕ → Option TimerImage) (n : ℕ) (es : List Entry) → AreOf by_session at es
    → passing (newer_at n at) es ≡ 0 → AreOlder n es
none-older at n [] a p = tt
none-older at n (e ∷ es) a p = by (nat_lt a.0.send.number n) refl (none-older at n es a.1 (omega (arith, p)))
  where
    by : (v : Bool) → nat_lt a.0.send.number n ≡ v → AreOlder n es → AreOlder n (e ∷ es)
    by true v rest =
        let older : a.0.send.number < n = grind (arith, nat_tests, v) in
        (subst (λ (z : Entry). z.number < n) (sym a.0.is) older, rest)
    by false v rest =
        let yes : newer_at n at e.key ≡ true =
        ap (λ q. option_map_or (λ (s : TimerImage). not (nat_lt s.number n)) q false) a.0.found ∙ ap not v in
        absurd (omega (arith, p, ap one yes))

-- so are those of the same sends by session
pub older-session : (at : ℕ → Option TimerImage) (n : ℕ) (due session : List Entry) → AreOf by_due at due
    → AreOf by_session at session → passing (newer_at n at) session ≡ passing (newer_at n at) due → AreOlder n due
    → AreOlder n session
older-session at n due session a b same o = none-older at n session b (same ∙ older-none at n due a o)

-- ---- a send is taken

-- the sends without the one at a place
pub sends-remove : (at new_at : ℕ → Option TimerImage) (es : List Entry) (i : ℕ) (e : Entry) → AreOf by_due at es
    → AreOf by_due new_at (remove es i) → slice_get es i ≡ Some e → ((k : ℕ) → k ≢ e.key → new_at k ≡ at k)
    → new_at e.key ≡ None → sends_of new_at (remove es i) ≡ remove (sends_of at es) i
sends-remove at new_at [] i e a b h o n = cc
sends-remove at new_at (x ∷ xs) zero e a b h o n =
    sends-away at new_at e.key xs o (away-vacant by_due new_at e.key xs b n)
    ∙ sym (ap (λ ss. remove ss 0) (sends-cons at x xs a.0.send a.0.found))
sends-remove at new_at (x ∷ xs) (suc i) e a b h o n =
    let far : x.key ≢ e.key =
    λ k. (let no : ◌≡◌ {A = Option TimerImage} None (Some b.0.send) = sym n ∙ ap new_at (sym k) ∙ b.0.found in cc) in
    sends-cons new_at x (remove xs i) a.0.send (o x.key far ∙ a.0.found)
    ∙ ap (λ ss. a.0.send ∷ ss) (sends-remove at new_at xs i e a.1 b.1 h o n)
    ∙ sym (ap (λ ss. remove ss (suc i)) (sends-cons at x xs a.0.send a.0.found))

-- ---- picked sends

-- a send that fails the test leaves with nothing of what passes
pub filter-remove : (test : TimerImage → Bool) (ss : List TimerImage) (i : ℕ) (t : TimerImage) → slice_get ss i ≡ Some t
    → test t ≡ false → filter test (remove ss i) ≡ filter test ss
filter-remove test [] i t h e = cc
filter-remove test (s ∷ ss) zero t h e =
    let same : s ≡ t = cc in
    ap (λ v. cond v (s ∷ filter test ss) (filter test ss)) (sym (ap test same ∙ e))
filter-remove test (s ∷ ss) (suc i) t h e = ap (λ xs. cond (test s) (s ∷ xs) xs) (filter-remove test ss i t h e)

count-cons : (test : TimerImage → Bool) (s : TimerImage) (ss : List TimerImage)
    → count_by test (s ∷ ss) ≡ one (test s) + count_by test ss
count-cons test s ss = sum_by-cons (λ x. cond (test x) 1 0) s ss ∙ ap (λ n. n + count_by test ss) (by (test s))
  where
    by : (v : Bool) → cond v 1 0 ≡ one v
    by true = refl
    by false = refl

-- a send that passes is one that passed
pub count-remove : (test : TimerImage → Bool) (ss : List TimerImage) (i : ℕ) (t : TimerImage) → slice_get ss i ≡ Some t
    → test t ≡ true → count_by test (remove ss i) + 1 ≡ count_by test ss
count-remove test [] i t h e = cc
count-remove test (s ∷ ss) zero t h e =
    let same : s ≡ t = cc in
    let yes : one (test s) ≡ 1 = ap one (ap test same ∙ e) in
    omega (arith, count-cons test s ss, yes)
count-remove test (s ∷ ss) (suc i) t h e =
    omega (arith, count-cons test s ss, count-cons test s (remove ss i), count-remove test ss i t h e)

-- a key is picked where its send is
pub test-at : (test : TimerImage → Bool) (at : ℕ → Option TimerImage) (key : ℕ) (t : TimerImage) → at key ≡ Some t
    → picked_at test at key ≡ test t
test-at test at key t e = ap (λ o. option_map_or test o false) e

-- as many keys are picked as sends
pub count-sends : (ranked : ℕ → TimerImage → Entry) (test : TimerImage → Bool) (at : ℕ → Option TimerImage)
    (es : List Entry) → AreOf ranked at es → passing (picked_at test at) es ≡ count_by test (sends_of at es)
count-sends ranked test at [] a = refl
count-sends ranked test at (e ∷ es) a =
    let first = ap one (test-at test at e.key a.0.send a.0.found) in
    let all = ap (count_by test) (sends-cons at e es a.0.send a.0.found) in
    omega (arith, first, all, count-cons test a.0.send (sends_of at es), count-sends ranked test at es a.1)

-- where none is picked, all are left
pub filter-none : (test : TimerImage → Bool) (ss : List TimerImage) → count_by test ss ≡ 0
    → filter (λ s. not (test s)) ss ≡ ss
filter-none test [] e = refl
filter-none test (s ∷ ss) e = by (test s) refl (filter-none test ss)
  where
    by : (v : Bool) → test s ≡ v → (count_by test ss ≡ 0 → filter (λ x. not (test x)) ss ≡ ss)
        → filter (λ x. not (test x)) (s ∷ ss) ≡ s ∷ ss
    by true v ih = absurd (omega (arith, e, count-cons test s ss, ap one v))
    by false v ih =
        ap (λ w. cond (not w) (s ∷ filter (λ x. not (test x)) ss) (filter (λ x. not (test x)) ss)) v
        ∙ ap (λ xs. s ∷ xs) (ih (omega (arith, e, count-cons test s ss)))

-- what is picked by fewer sends was picked by more
pub picked-fewer : (test : TimerImage → Bool) (at new_at : ℕ → Option TimerImage)
    → ((k : ℕ) (t : TimerImage) → new_at k ≡ Some t → at k ≡ Some t)
    → (k : ℕ) → picked_at test new_at k ≡ true → picked_at test at k ≡ true
picked-fewer test at new_at f k e = by (new_at k) refl
  where
    by : (o : Option TimerImage) → new_at k ≡ o → picked_at test at k ≡ true
    by None h = let no : picked_at test new_at k ≡ false = ap (λ o. option_map_or test o false) h in cc
    by (Some t) h = test-at test at k t (f k t h) ∙ sym (test-at test new_at k t h) ∙ e

-- ---- the sends of a session

-- the test passes only sends of this rank
abbrev pub IsOfRank : (TimerImage → Bool) → ℕ → Type 0
IsOfRank test rank = (t : TimerImage) → test t ≡ true → session_rank t.session ≡ rank

not_true : (v : Bool) → v ≢ true → v ≡ false
not_true true h = absurd (h refl)
not_true false h = refl

unpicked : (test : TimerImage → Bool) (rank : ℕ) (at : ℕ → Option TimerImage) (e : Entry) → IsOfRank test rank
    → IsOf by_session at e → e.first ≢ rank → picked_at test at e.key ≡ false
unpicked test rank at e f a n = not_true (picked_at test at e.key) (λ p.
    n (ap (λ (z : Entry). z.first) a.is ∙ f a.send (sym (test-at test at e.key a.send a.found) ∙ p)))

-- entries below the rank are none that are picked
pub none-below : (test : TimerImage → Bool) (rank : ℕ) (at : ℕ → Option TimerImage) (es : List Entry)
    → IsOfRank test rank
    → AreOf by_session at es → AreBelow rank es → passing (picked_at test at) es ≡ 0
none-below test rank at [] f a b = refl
none-below test rank at (e ∷ es) f a b =
    let no = unpicked test rank at e f a.0 (λ h. omega (arith, h, b.0)) in
    omega (arith, ap one no, none-below test rank at es f a.1 b.1)

-- before the place of a rank, the entries are below it
pub below-place : (rank : ℕ) (es : List Entry) → AreBelow rank (take (place_of rank 0 es) es)
below-place rank [] = tt
below-place rank (e ∷ es) = by (precedes rank 0 e) refl (below-place rank es)
  where
    by : (v : Bool) → precedes rank 0 e ≡ v → AreBelow rank (take (place_of rank 0 es) es)
        → AreBelow rank (take (place_of rank 0 (e ∷ es)) (e ∷ es))
    by true v ih =
        let first : e.first < rank = grind (arith, nat_tests, v) in
        subst (λ p. AreBelow rank (take p (e ∷ es))) (sym (place-yes rank 0 e es v)) (first, ih)
    by false v ih = subst (λ p. AreBelow rank (take p (e ∷ es))) (sym (place-no rank 0 e es v)) tt

-- and from it on they are not
none-behind : (test : TimerImage → Bool) (rank : ℕ) (at : ℕ → Option TimerImage) (e : Entry) (es : List Entry)
    → IsOfRank test rank → AreOf by_session at es → RanksBefore e es → rank < e.first
    → passing (picked_at test at) es ≡ 0
none-behind test rank at e [] f a b h = refl
none-behind test rank at e (x ∷ xs) f a b h =
    let later : e.first ≤ x.first = grind (arith, nat_tests, b.0) in
    let no = unpicked test rank at x f a.0 (λ s. omega (arith, h, s, later)) in
    omega (arith, ap one no, none-behind test rank at e xs f a.1 b.1 h)

pub none-after-place : (test : TimerImage → Bool) (rank : ℕ) (at : ℕ → Option TimerImage) (es : List Entry)
    → IsOfRank test rank → AreOf by_session at es → IsRising es
    → passing (picked_at test at) (drop (place_of (rank + 1) 0 es) es) ≡ 0
none-after-place test rank at [] f a h = refl
none-after-place test rank at (e ∷ es) f a h =
    by (precedes (rank + 1) 0 e) refl (none-after-place test rank at es f a.1 h.1)
  where
    by : (v : Bool) → precedes (rank + 1) 0 e ≡ v → passing (picked_at test at) (drop (place_of (rank + 1) 0 es) es) ≡ 0
        → passing (picked_at test at) (drop (place_of (rank + 1) 0 (e ∷ es)) (e ∷ es)) ≡ 0
    by true v ih = ap (λ p. passing (picked_at test at) (drop p (e ∷ es))) (place-yes (rank + 1) 0 e es v) ∙ ih
    by false v ih =
        let high : rank < e.first = grind (arith, nat_tests, v) in
        let no = unpicked test rank at e f a.0 (λ s. omega (arith, high, s)) in
        ap (λ p. passing (picked_at test at) (drop p (e ∷ es))) (place-no (rank + 1) 0 e es v)
        ∙ omega (arith, ap one no, none-behind test rank at e es f a.1 h.0 high)

-- ---- lists

-- what passes is before a place or from it on
pub passing-split : (test : ℕ → Bool) (es : List Entry) (p : ℕ)
    → passing test (take p es) + passing test (drop p es) ≡ passing test es
passing-split test [] zero = refl
passing-split test [] (suc p) = refl
passing-split test (e ∷ es) zero = omega arith
passing-split test (e ∷ es) (suc p) = omega (arith, passing-split test es p)

-- one more is looked at
pub passing-more : (test : ℕ → Bool) (es : List Entry) (p : ℕ) (e : Entry) → slice_get es p ≡ Some e
    → passing test (drop p es) ≡ one (test e.key) + passing test (drop (suc p) es)
passing-more test [] p e h = cc
passing-more test (x ∷ xs) zero e h = let same : x ≡ e =
    cc in ap (λ (z : Entry). one (test z.key) + passing test xs) same
passing-more test (x ∷ xs) (suc p) e h = passing-more test xs p e h

-- an entry that is taken out at a place leaves those before and those behind
pub take-remove : (es : List Entry) (p i : ℕ) → p ≤ i → take p (remove es i) ≡ take p es
take-remove es zero i h = refl
take-remove es (suc p) zero h = absurd (omega (arith, h))
take-remove [] (suc p) (suc i) h = refl
take-remove (e ∷ es) (suc p) (suc i) h = ap (λ xs. e ∷ xs) (take-remove es p i (omega (arith, h)))

pub drop-remove : (es : List Entry) (i : ℕ) (e : Entry) → slice_get es i ≡ Some e
    → drop i (remove es i) ≡ drop (suc i) es
drop-remove [] i e h = cc
drop-remove (x ∷ xs) zero e h = refl
drop-remove (x ∷ xs) (suc i) e h = drop-remove xs i e h

-- ---- the timers

abbrev timers : List TimerImage → ℕ → TimersOf
timers ss spare = record { sends = ss; spare = spare }

-- ---- the first send

before-due : (a b : TimerImage) → is_before a b ≡ true → a.due ≤ b.due
before-due a b h = grind (arith, nat_tests)

later_due : (now : ℕ) (t : TimerImage) (ss : List TimerImage) → IsBeforeAll t ss → now < t.due
    → All (λ (s : TimerImage). now < s.due) ss
later_due now t [] a h k d b = absurd (omega arith)
later_due now t (s ∷ ss) a h zero d b = (let first : t.due ≤ s.due = before-due t s a.0 in omega arith)
later_due now t (s ∷ ss) a h (suc k) d b = later_due now t ss a.1 h k d (omega arith)

-- where the first send is not due, none is
pub none-due : (now : ℕ) (t : TimerImage) (ss : List TimerImage) → IsInDueOrder ss → Some t ≡ slice_get ss 0
    → now < t.due → All (λ (s : TimerImage). now < s.due) ss
none-due now t [] o e h = cc
none-due now t (s ∷ ss) o e h = (let same : t ≡ s = cc in first (subst (λ (x : TimerImage). now < x.due) same h))
  where
    first : now < s.due → All (λ (x : TimerImage). now < x.due) (s ∷ ss)
    first h zero d b = h
    first h (suc k) d b = later_due now s ss o.0 h k d (omega arith)
