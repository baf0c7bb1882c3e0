-- Entries of sends, whatever they are ranked by: one is put in, taken out and found.
use Rattle.std.proofs.Common.{◌≡◌, ◌≢◌, ℕ, ◌+◌, ◌<◌, ◌≤◌, ◌==◌, zero, suc, Bool, true, false, Option, None, Some, List, [], ◌∷◌, insert, remove, slice_get, refl, arith, ap, sym, ◌∙◌, subst}
use Rattle.std.proofs.lemmas.Bool.Decides.{nat_tests}
use Rattle.sc_ranks.specs.declared.entry.Entry.{Entry}
use Rattle.sc_ranks.specs.Ranks.{precedes, RanksBefore, IsRising, place_of}
use Rattle.sc_types.specs.declared.host.TimerImage.{TimerImage}
use Rattle.sc_timers.specs.Order.{IsOf, AreOf, one, passing}

-- ---- ranks

irreflexive : (e : Entry) → precedes e.first e.number e ≡ false
irreflexive e = grind (arith, nat_tests)

transitive : (x y e : Entry) → precedes x.first x.number e ≡ true → precedes y.first y.number x ≡ true
    → precedes y.first y.number e ≡ true
transitive x y e a b = grind (arith, nat_tests)

-- of two ranks that differ, one comes before the other
total : (x e : Entry) → x.number < e.number → precedes e.first e.number x ≡ false → precedes x.first x.number e ≡ true
total x e h f = grind (arith, nat_tests)

place-yes : (f n : ℕ) (x : Entry) (xs : List Entry) → precedes f n x ≡ true
    → place_of f n (x ∷ xs) ≡ suc (place_of f n xs)
place-yes f n x xs e = rw e (omega arith)

place-no : (f n : ℕ) (x : Entry) (xs : List Entry) → precedes f n x ≡ false → place_of f n (x ∷ xs) ≡ 0
place-no f n x xs e = rw e refl

-- an entry that stands behind one ranks behind it
pub before-member : (x : Entry) (xs : List Entry) (i : ℕ) (e : Entry) → RanksBefore x xs → slice_get xs i ≡ Some e
    → precedes e.first e.number x ≡ true
before-member x [] i e h s = cc
before-member x (y ∷ ys) zero e h s = let same : y ≡ e =
    cc in subst (λ (z : Entry). precedes z.first z.number x ≡ true) same h.0
before-member x (y ∷ ys) (suc i) e h s = before-member x ys i e h.1 s

-- ---- keys

-- none of the entries has the key
abbrev pub IsAway : ℕ → List Entry → Type 0
IsAway key [] = Unit {0}
IsAway key (e ∷ es) = (e.key ≢ key) × IsAway key es

-- how many entries there are, of one more
pub passing-insert : (test : ℕ → Bool) (es : List Entry) (p : ℕ) (e : Entry)
    → passing test (insert es p e) ≡ one (test e.key) + passing test es
passing-insert test [] zero e = refl
passing-insert test [] (suc p) e = refl
passing-insert test (x ∷ xs) zero e = refl
passing-insert test (x ∷ xs) (suc p) e = omega (arith, passing-insert test xs p e)

-- and of one less
pub passing-remove : (test : ℕ → Bool) (es : List Entry) (i : ℕ) (e : Entry) → slice_get es i ≡ Some e
    → one (test e.key) + passing test (remove es i) ≡ passing test es
passing-remove test [] i e h = cc
passing-remove test (x ∷ xs) zero e h = let same : x ≡ e =
    cc in ap (λ (z : Entry). one (test z.key) + passing test xs) (sym same)
passing-remove test (x ∷ xs) (suc i) e h = omega (arith, passing-remove test xs i e h)

-- fewer keys pass a stronger test
pub passing-fewer : (test more : ℕ → Bool) (es : List Entry) → ((k : ℕ) → test k ≡ true → more k ≡ true)
    → passing test es ≤ passing more es
passing-fewer test more [] h = omega arith
passing-fewer test more (e ∷ es) h = by (test e.key) (more e.key) (h e.key) (passing-fewer test more es h)
  where
    by : (v w : Bool) → (v ≡ true → w ≡ true) → passing test es ≤ passing more es
        → one v + passing test es ≤ one w + passing more es
    by true true g r = omega (arith, r)
    by true false g r = (let no = g refl in cc)
    by false true g r = omega (arith, r)
    by false false g r = omega (arith, r)

-- where one passes, some do
pub passing-member : (test : ℕ → Bool) (es : List Entry) (i : ℕ) (e : Entry) → slice_get es i ≡ Some e
    → test e.key ≡ true
    → 0 < passing test es
passing-member test es i e h t =
    let yes : one (test e.key) ≡ 1 = ap one t in
    omega (arith, passing-remove test es i e h, yes)

module _ (ranked : ℕ → TimerImage → Entry) where
  -- one key has one entry
  same-entry : (at : ℕ → Option TimerImage) (x e : Entry) → IsOf ranked at x → IsOf ranked at e → x.key ≡ e.key → x ≡ e
  same-entry at x e a b k =
      let sends : ◌≡◌ {A = Option TimerImage} (Some a.send) (Some b.send) = sym a.found ∙ ap at k ∙ b.found in
      let same : a.send ≡ b.send = cc in
      a.is ∙ ap (λ i. ranked i a.send) k ∙ ap (ranked e.key) same ∙ sym b.is

  -- an entry of the list is that of a send
  pub of-member : (at : ℕ → Option TimerImage) (es : List Entry) (i : ℕ) (e : Entry) → AreOf ranked at es
      → slice_get es i ≡ Some e → IsOf ranked at e
  of-member at [] i e a h = cc
  of-member at (x ∷ xs) zero e a h = let same : x ≡ e = cc in subst (IsOf ranked at) same a.0
  of-member at (x ∷ xs) (suc i) e a h = of-member at xs i e a.1 h

  apart : (at : ℕ → Option TimerImage) (x e : Entry) → IsOf ranked at x → IsOf ranked at e
      → precedes e.first e.number x ≡ true → x.key ≢ e.key
  apart at x e a b h k =
      let same = same-entry at x e a b k in
      let no = irreflexive e in
      let yes : precedes e.first e.number e ≡ true = subst (λ (z : Entry). precedes e.first e.number z ≡ true) same h in
      cc

  -- in rising order, no other entry has the first one's key
  away-first : (at : ℕ → Option TimerImage) (e : Entry) (es : List Entry) → IsOf ranked at e → AreOf ranked at es
      → RanksBefore e es → IsAway e.key es
  away-first at e [] a b h = tt
  away-first at e (x ∷ xs) a b h = ((λ k. apart at e x a b.0 h.0 (sym k)), away-first at e xs a b.1 h.1)

  pub away-vacant : (at : ℕ → Option TimerImage) (key : ℕ) (es : List Entry) → AreOf ranked at es → at key ≡ None
      → IsAway key es
  away-vacant at key [] a h = tt
  away-vacant at key (e ∷ es) a h = (
    (λ k. let no : ◌≡◌ {A = Option TimerImage} None (Some a.0.send) = sym h ∙ ap at (sym k) ∙ a.0.found in cc),
    away-vacant at key es a.1 h,
  )

  of-other : (at new_at : ℕ → Option TimerImage) (key : ℕ) (e : Entry) → ((k : ℕ) → k ≢ key → new_at k ≡ at k)
      → e.key ≢ key → IsOf ranked at e → IsOf ranked new_at e
  of-other at new_at key e o n a = record { send = a.send; found = o e.key n ∙ a.found; is = a.is }

  -- a change under another key leaves the entries those of their sends
  pub of-away : (at new_at : ℕ → Option TimerImage) (key : ℕ) (es : List Entry) → ((k : ℕ) → k ≢ key → new_at k ≡ at k)
      → IsAway key es → AreOf ranked at es → AreOf ranked new_at es
  of-away at new_at key [] o n a = tt
  of-away at new_at key (e ∷ es) o n a = (of-other at new_at key e o n.0 a.0, of-away at new_at key es o n.1 a.1)

  -- ---- one more

  pub of-insert : (at : ℕ → Option TimerImage) (es : List Entry) (p : ℕ) (e : Entry) → IsOf ranked at e
      → AreOf ranked at es
      → AreOf ranked at (insert es p e)
  of-insert at [] zero e a b = (a, tt)
  of-insert at [] (suc p) e a b = (a, tt)
  of-insert at (x ∷ xs) zero e a b = (a, b)
  of-insert at (x ∷ xs) (suc p) e a b = (b.0, of-insert at xs p e a b.1)

  -- ---- one less

  pub of-remove : (at new_at : ℕ → Option TimerImage) (es : List Entry) (i : ℕ) (e : Entry) → AreOf ranked at es
      → IsRising es → slice_get es i ≡ Some e → ((k : ℕ) → k ≢ e.key → new_at k ≡ at k)
      → AreOf ranked new_at (remove es i)
  of-remove at new_at [] i e a h s o = cc
  of-remove at new_at (x ∷ xs) zero e a h s o =
      let same : x ≡ e = cc in
      let away = away-first at x xs a.0 a.1 h.0 in
      of-away at new_at x.key xs (λ k n. o k (λ f. n (f ∙ ap (λ (z : Entry). z.key) (sym same)))) away a.1
  of-remove at new_at (x ∷ xs) (suc i) e a h s o =
      let far = apart at x e a.0 (of-member at xs i e a.1 s) (before-member x xs i e h.0 s) in
      (of-other at new_at e.key x o far a.0, of-remove at new_at xs i e a.1 h.1 s o)

  -- ---- one is found

  -- the entry of a key that is there stands where its rank belongs
  pub found : (at : ℕ → Option TimerImage) (es : List Entry) (key : ℕ) (t : TimerImage) → AreOf ranked at es
      → IsRising es
      → at key ≡ Some t → 0 < passing (λ k. k == key) es
      → slice_get es (place_of (ranked key t).first (ranked key t).number es) ≡ Some (ranked key t)
  found at [] key t a h e p = absurd (omega (arith, p))
  found at (x ∷ xs) key t a h e p = by (x.key == key) refl (found at xs key t a.1 h.1 e)
    where
      r : Entry
      r = ranked key t

      by : (v : Bool) → (x.key == key) ≡ v
          → (0 < passing (λ k. k == key) xs → slice_get xs (place_of r.first r.number xs) ≡ Some r)
          → slice_get (x ∷ xs) (place_of r.first r.number (x ∷ xs)) ≡ Some r
      by true v ih =
          let k : x.key ≡ key = grind (arith, nat_tests) in
          let sends : ◌≡◌ {A = Option TimerImage} (Some a.0.send) (Some t) = sym a.0.found ∙ ap at k ∙ e in
          let send : a.0.send ≡ t = cc in
          let same : x ≡ r = a.0.is ∙ ap (λ i. ranked i a.0.send) k ∙ ap (ranked key) send in
          let no : precedes r.first r.number x ≡ false =
          subst (λ (z : Entry). precedes r.first r.number z ≡ false) (sym same) (irreflexive r) in
          ap (slice_get (x ∷ xs)) (place-no r.first r.number x xs no) ∙ ap (λ (z : Entry). Some z) same
      by false v ih =
          let none : one (x.key == key) ≡ 0 = ap one v in
          let there = ih (omega (arith, p, none)) in
          ap (slice_get (x ∷ xs)) (place-yes r.first r.number x xs
          (before-member x xs (place_of r.first r.number xs) r h.0 there))
          ∙ there

-- ---- rising

before-insert : (x e : Entry) (xs : List Entry) (p : ℕ) → RanksBefore x xs → precedes e.first e.number x ≡ true
    → RanksBefore x (insert xs p e)
before-insert x e [] zero h t = (t, tt)
before-insert x e [] (suc p) h t = (t, tt)
before-insert x e (y ∷ ys) zero h t = (t, h)
before-insert x e (y ∷ ys) (suc p) h t = (h.0, before-insert x e ys p h.1 t)

before-all : (e x : Entry) (xs : List Entry) → precedes x.first x.number e ≡ true → RanksBefore x xs → RanksBefore e xs
before-all e x [] t h = tt
before-all e x (y ∷ ys) t h = (transitive x y e t h.0, before-all e x ys t h.1)

-- the numbers of the entries are below this number
abbrev pub AreOlder : ℕ → List Entry → Type 0
AreOlder n [] = Unit {0}
AreOlder n (e ∷ es) = (e.number < n) × AreOlder n es

-- a newer entry that is put in at its place leaves them rising
pub rising-insert : (es : List Entry) (e : Entry) → IsRising es → AreOlder e.number es
    → IsRising (insert es (place_of e.first e.number es) e)
rising-insert [] e h o = (tt, tt)
rising-insert (x ∷ xs) e h o = by (precedes e.first e.number x) refl (rising-insert xs e h.1 o.1)
  where
    by : (v : Bool) → precedes e.first e.number x ≡ v → IsRising (insert xs (place_of e.first e.number xs) e)
        → IsRising (insert (x ∷ xs) (place_of e.first e.number (x ∷ xs)) e)
    by true t ih = rw (place-yes e.first e.number x xs t)
        (before-insert x e xs (place_of e.first e.number xs) h.0 t, ih)
    by false t ih =
        let first = total x e o.0 t in
        rw (place-no e.first e.number x xs t) ((first, before-all e x xs first h.0), h)

before-remove : (x : Entry) (xs : List Entry) (i : ℕ) → RanksBefore x xs → RanksBefore x (remove xs i)
before-remove x [] zero h = tt
before-remove x [] (suc i) h = tt
before-remove x (y ∷ ys) zero h = h.1
before-remove x (y ∷ ys) (suc i) h = (h.0, before-remove x ys i h.1)

pub rising-remove : (es : List Entry) (i : ℕ) → IsRising es → IsRising (remove es i)
rising-remove [] zero h = tt
rising-remove [] (suc i) h = tt
rising-remove (x ∷ xs) zero h = h.1
rising-remove (x ∷ xs) (suc i) h = (before-remove x xs i h.0, rising-remove xs i h.1)
