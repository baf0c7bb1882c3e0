-- Lists of numbers that rise, their members, and lists in which nothing stands twice.
use Rattle.std.proofs.Common.{◌≡◌, inl, inr, ℕ, ◌<◌, ◌==◌, ◌&&◌, ◌||◌, nat_lt, not, Bool, true, false, cond, List, [], ◌∷◌, ◌++◌, filter, reverse, refl, arith, ap, sym, subst, ◌∙◌}
use Rattle.std.specs.List.{IsDistinct}
use Rattle.std.specs.List.{AllByRecursion as AllOf, list_all}
use Rattle.std.proofs.lemmas.Bool.{cases_order}
use Rattle.std.proofs.lemmas.Bool.Decides.{nat_tests}
use Rattle.std.proofs.lemmas.List.{reverse-append}
use Rattle.std.proofs.lemmas.List.Folds.{list_any-append}
use Rattle.sc_base.specs.Ascending.{contains, with_number, without}
use Rattle.sc_law.specs.Fitting.{rises}
use Rattle.sc_sets.proofs.Union.Below.{all-of-true}
use Rattle.sc_sets.proofs.Union.Kept.{each-has}
use Rattle.sc_sets.proofs.Union.Numbers.{any-with, with-less, with-more, with-same}

-- ---- tests

pub both : (v w : Bool) → (v && w) ≡ true → (v ≡ true) × (w ≡ true)
both true w h = (refl, h)
both false w h = absurd (cc)

pub together : (v w : Bool) → v ≡ true → w ≡ true → (v && w) ≡ true
together true w h i = i
together false w h i = absurd (cc)

pub neither : (v w : Bool) → (v || w) ≡ false → (v ≡ false) × (w ≡ false)
neither true w h = absurd (cc)
neither false w h = (refl, h)

either-not : (v w : Bool) → v ≡ false → w ≡ false → (v || w) ≡ false
either-not true w h i = absurd (cc)
either-not false w h i = i

pub or-later : (v w : Bool) → w ≡ true → (v || w) ≡ true
or-later true w h = refl
or-later false w h = h

pub not-true : (v : Bool) → not v ≡ true → v ≡ false
not-true true h = absurd (cc)
not-true false h = refl

pub not-false : (v : Bool) → v ≡ false → not v ≡ true
not-false true h = absurd (cc)
not-false false h = refl

pub false-by : (v : Bool) → (v ≡ true → ⊥) → v ≡ false
false-by true h = absurd (h refl)
false-by false h = refl

and-false : (v : Bool) → (v && false) ≡ false
and-false true = refl
and-false false = refl

or-end : (v w : Bool) → (v || (w || false)) ≡ (w || v)
or-end true true = refl
or-end true false = refl
or-end false true = refl
or-end false false = refl

pub flip-false : (m n : ℕ) → (m == n) ≡ false → (n == m) ≡ false
flip-false m n h = grind (arith, nat_tests)

-- ---- what each item has

-- from each item to the test of all
pub true-of-all : {A : Type 0} (test : A → Bool) (xs : List A) → AllOf (λ x. test x ≡ true) xs → list_all test xs ≡ true
true-of-all test [] h = refl
true-of-all test (x ∷ xs) h = together (test x) (list_all test xs) h.0 (true-of-all test xs h.1)

-- with one item more
pub all-push : {A : Type 0} (P : A → Type 0) (xs : List A) (y : A) → AllOf P xs → P y → AllOf P (xs ++ y ∷ [])
all-push P [] y h i = (i, tt)
all-push P (x ∷ xs) y h i = (h.0, all-push P xs y h.1 i)

-- of the items that are kept
pub all-filter : {A : Type 0} (P : A → Type 0) (test : A → Bool) (xs : List A) → AllOf P xs → AllOf P (filter test xs)
all-filter P test [] h = tt
all-filter P test (x ∷ xs) h = by (test x) (all-filter P test xs h.1) where
  by : (v : Bool) → AllOf P (filter test xs) → AllOf P (cond v (x ∷ filter test xs) (filter test xs))
  by true rest = (h.0, rest)
  by false rest = rest

-- with a number more
all-with : (P : ℕ → Type 0) (n : ℕ) (xs : List ℕ) → P n → AllOf P xs → AllOf P (with_number n xs)
all-with P n [] h all = (h, tt)
all-with P n (x ∷ xs) h all = elim (cases_order n x) [
  | inl e ↦ subst (AllOf P) (sym (with-same n x xs e)) all
  | inr o ↦ elim o [
    | inl below ↦ subst (AllOf P) (sym (with-less n x xs below)) (h, all)
    | inr above ↦ subst (AllOf P) (sym (with-more n x xs above)) (all.0, all-with P n xs h all.1)
  ]
]

-- what follows from two facts on each item
pub all-two : {A : Type 0} (P Q R : A → Type 0) (xs : List A) → ((x : A) → P x → Q x → R x) → AllOf P xs → AllOf Q xs
    → AllOf R xs
all-two P Q R [] f h k = tt
all-two P Q R (x ∷ xs) f h k = (f x h.0 k.0, all-two P Q R xs f h.1 k.1)

-- what each member has, each item has
pub all-members : (P : ℕ → Type 0) (ss : List ℕ) → ((s : ℕ) → contains ss s ≡ true → P s) → AllOf P ss
all-members P [] h = tt
all-members P (s ∷ ss) h = (
  h s (let hit : (s == s) ≡ true = grind (arith, nat_tests) in ap (λ v. v || contains ss s) hit),
  all-members P ss (λ t i. h t (or-later (s == t) (contains ss t) i)),
)

-- ---- members

-- the members of a set with a number more
pub contains-with : (n : ℕ) (xs : List ℕ) (s : ℕ) → contains (with_number n xs) s ≡ ((n == s) || contains xs s)
contains-with n xs s = any-with (λ m. m == s) n xs

-- those that pass a test
contains-filter : (test : ℕ → Bool) (xs : List ℕ) (s : ℕ) → contains (filter test xs) s ≡ (contains xs s && test s)
contains-filter test [] s = refl
contains-filter test (x ∷ xs) s = first (test x) ∙ by (test x) (x == s) refl refl (contains-filter test xs s) where
  first : (v : Bool) → contains (cond v (x ∷ filter test xs) (filter test xs)) s
      ≡ cond v ((x == s) || contains (filter test xs) s) (contains (filter test xs) s)
  first true = refl
  first false = refl

  by : (v w : Bool) → test x ≡ v → (x == s) ≡ w → contains (filter test xs) s ≡ (contains xs s && test s)
      → cond v (w || contains (filter test xs) s) (contains (filter test xs) s) ≡ ((w || contains xs s) && test s)
  by true true e f rest = (let same : x ≡ s = grind (arith, nat_tests) in sym (subst (λ k. test k ≡ true) same e))
  by true false e f rest = rest
  by false true e f rest =
      (let same : x ≡ s = grind (arith, nat_tests) in
      let no : test s ≡ false = subst (λ k. test k ≡ false) same e in
      rest ∙ ap (λ v. contains xs s && v) no ∙ and-false (contains xs s) ∙ sym no)
  by false false e f rest = rest

-- those of a set without some
pub contains-without : (gone xs : List ℕ) (s : ℕ)
    → contains (without gone xs) s ≡ (contains xs s && not (contains gone s))
contains-without gone xs s = contains-filter (λ n. not (contains gone n)) xs s

-- those of a list in the other order
pub contains-reverse : (xs : List ℕ) (s : ℕ) → contains (reverse xs) s ≡ contains xs s
contains-reverse [] s = refl
contains-reverse (x ∷ xs) s =
    ap (λ l. contains l s) (reverse-append (x ∷ []) xs)
    ∙ list_any-append (λ m. m == s) (reverse xs) (x ∷ [])
    ∙ ap (λ v. v || ((x == s) || false)) (contains-reverse xs s)
    ∙ or-end (contains xs s) (x == s)

-- ---- lists that rise

-- a number is below each of these
abbrev IsUnder : ℕ → List ℕ → Type 0
IsUnder m ns = AllOf (λ n. m < n) ns

rises-cons : (m : ℕ) (ns : List ℕ) → IsUnder m ns → rises ns ≡ true → rises (m ∷ ns) ≡ true
rises-cons m [] h i = refl
rises-cons m (n ∷ ns) h i =
    let l = h.0 in
    let t : nat_lt m n ≡ true = grind (arith, nat_tests) in together (nat_lt m n) (rises (n ∷ ns)) t i

-- the rest of a list that rises
pub rises-tail : (m : ℕ) (ns : List ℕ) → rises (m ∷ ns) ≡ true → rises ns ≡ true
rises-tail m [] h = refl
rises-tail m (n ∷ ns) h = (both (nat_lt m n) (rises (n ∷ ns)) h).1

under-more : (k m : ℕ) (ns : List ℕ) → k < m → IsUnder m ns → IsUnder k ns
under-more k m [] l h = tt
under-more k m (n ∷ ns) l h = (omega (arith, h.0), under-more k m ns l h.1)

-- the first is below all others
pub rises-head : (m : ℕ) (ns : List ℕ) → rises (m ∷ ns) ≡ true → IsUnder m ns
rises-head m [] h = tt
rises-head m (n ∷ ns) h =
    let t = both (nat_lt m n) (rises (n ∷ ns)) h in
    let below : m < n = (let l = t.0 in grind (arith, nat_tests)) in
    (below, under-more m n ns below (rises-head n ns t.1))

-- a number that is below each of these is none of them
pub under-none : (m : ℕ) (ns : List ℕ) → IsUnder m ns → contains ns m ≡ false
under-none m [] h = refl
under-none m (n ∷ ns) h =
    let l = h.0 in
    let t : (n == m) ≡ false = grind (arith, nat_tests) in either-not (n == m) (contains ns m) t (under-none m ns h.1)

rises-with : (n : ℕ) (ms : List ℕ) → rises ms ≡ true → rises (with_number n ms) ≡ true
rises-with n [] h = refl
rises-with n (m ∷ ms) h = elim (cases_order n m) [
  | inl e ↦ subst (λ l. rises l ≡ true) (sym (with-same n m ms e)) h
  | inr o ↦ elim o [
    | inl below ↦ subst (λ l. rises l ≡ true) (sym (with-less n m ms below))
        (rises-cons n (m ∷ ms) (below, under-more n m ms below (rises-head m ms h)) h)
    | inr above ↦ subst (λ l. rises l ≡ true) (sym (with-more n m ms above))
        (rises-cons m (with_number n ms) (all-with (λ k. m < k) n ms above (rises-head m ms h))
        (rises-with n ms (rises-tail m ms h)))
  ]
]

rises-filter : (test : ℕ → Bool) (xs : List ℕ) → rises xs ≡ true → rises (filter test xs) ≡ true
rises-filter test [] h = refl
rises-filter test (x ∷ xs) h = by (test x) (rises-filter test xs (rises-tail x xs h)) where
  by : (v : Bool) → rises (filter test xs) ≡ true → rises (cond v (x ∷ filter test xs) (filter test xs)) ≡ true
  by true rest = rises-cons x (filter test xs) (all-filter (λ n. x < n) test xs (rises-head x xs h)) rest
  by false rest = rest

-- ---- lists that rise, whose members pass a test

-- a list that rises, whose members pass a test
abbrev pub is_set_of : (ℕ → Bool) → List ℕ → Bool
is_set_of test ss = rises ss && list_all test ss

-- with a member more
pub set-with : (test : ℕ → Bool) (s : ℕ) (ss : List ℕ) → is_set_of test ss ≡ true → test s ≡ true
    → is_set_of test (with_number s ss) ≡ true
set-with test s ss h i =
    let t = both (rises ss) (list_all test ss) h in
    together (rises (with_number s ss)) (list_all test (with_number s ss)) (rises-with s ss t.0)
    (true-of-all test (with_number s ss) (all-with (λ n. test n ≡ true) s ss i (all-of-true test ss t.1)))

-- with fewer members
pub set-filter : (test keep : ℕ → Bool) (ss : List ℕ) → is_set_of test ss ≡ true
    → is_set_of test (filter keep ss) ≡ true
set-filter test keep ss h =
    let t = both (rises ss) (list_all test ss) h in
    together (rises (filter keep ss)) (list_all test (filter keep ss)) (rises-filter keep ss t.0)
    (true-of-all test (filter keep ss) (all-filter (λ n. test n ≡ true) keep ss (all-of-true test ss t.1)))

-- what a member passes
set-member : (test : ℕ → Bool) (ss : List ℕ) (s : ℕ) → is_set_of test ss ≡ true → contains ss s ≡ true
    → test s ≡ true
set-member test ss s h i =
    let t = both (rises ss) (list_all test ss) h in
    each-has (λ n. test n ≡ true) s ss (all-of-true test ss t.1) i

-- by a test that its members pass too
pub set-test : (test other : ℕ → Bool) (ss : List ℕ) → ((s : ℕ) → contains ss s ≡ true → test s ≡ true → other s ≡ true)
    → is_set_of test ss ≡ true → is_set_of other ss ≡ true
set-test test other ss f h =
    let t = both (rises ss) (list_all test ss) h in
    together (rises ss) (list_all other ss) t.0
    (true-of-all other ss (all-members (λ n. other n ≡ true) ss (λ s i. f s i (set-member test ss s h i))))

-- ---- lists in which nothing stands twice

-- in the empty list nothing stands twice
pub distinct-none : {A : Type 0} (e : A → A → Bool) → IsDistinct e []
unfolding IsDistinct
distinct-none e = tt

-- with an item more that is none of those before
pub distinct-push : {A : Type 0} (e : A → A → Bool) (xs : List A) (y : A) → IsDistinct e xs
    → AllOf (λ x. e x y ≡ false) xs
    → IsDistinct e (xs ++ y ∷ [])
unfolding IsDistinct
distinct-push e [] y d h = (tt, tt)
distinct-push e (x ∷ xs) y d h = (all-push (λ z. e x z ≡ false) xs y d.0 h.0, distinct-push e xs y d.1 h.1)

distinct-kept : {A : Type 0} (e : A → A → Bool) (v : Bool) (x : A) (xs : List A) → AllOf (λ y. e x y ≡ false) xs
    → IsDistinct e xs
    → IsDistinct e (cond v (x ∷ xs) xs)
unfolding IsDistinct
distinct-kept e true x xs h d = (h, d)
distinct-kept e false x xs h d = d

-- with fewer items
pub distinct-filter : {A : Type 0} (e : A → A → Bool) (test : A → Bool) (xs : List A) → IsDistinct e xs
    → IsDistinct e (filter test xs)
unfolding IsDistinct
distinct-filter e test [] d = tt
distinct-filter e test (x ∷ xs) d =
    distinct-kept e (test x) x (filter test xs) (all-filter (λ y. e x y ≡ false) test xs d.0)
    (distinct-filter e test xs d.1)
