-- Members of lists, and lists with exactly one item that passes a test.
use Rattle.std.proofs.Common.{◌≡◌, ◌⊎◌, inl, inr, ℕ, ◌+◌, ◌<◌, ◌≤◌, ◌==◌, ◌&&◌, ◌||◌, not, zero, suc, Bool, true, false, cond, Some, List, [], ◌∷◌, ◌++◌, filter, length, get_or, slice_get, refl, arith, ap, sym, subst, ◌∙◌}
use Rattle.std.proofs.lemmas.Bool.Decides.{nat_tests}
use Rattle.std.specs.List.{AllByRecursion as AllOf, list_all, list_any}
use Rattle.sc_base.specs.Ascending.{contains, with_number}
use Rattle.sc_law.specs.Nodes.{Path}
use Rattle.sc_law.specs.Tree.{numbers_where}
use Rattle.sc_sets.proofs.Union.Below.{all-of-true}
use Rattle.sc_sets.proofs.Union.Kept.{each-has}
use Rattle.sc_sets.proofs.Union.Numbers.{any-with}

-- ---- members

-- a test holds where its second part does
pub or-right : (v w : Bool) → w ≡ true → (v || w) ≡ true
or-right true w h = refl
or-right false w h = h

-- one of two tests holds
pub or-cases : (v w : Bool) → (v || w) ≡ true → (v ≡ true) ⊎ (w ≡ true)
or-cases true w h = inl refl
or-cases false w h = inr h

-- two tests hold
pub and-both : (v w : Bool) → v ≡ true → w ≡ true → (v && w) ≡ true
and-both true w h i = i
and-both false w h i = absurd (cc)

-- what is so of all such holds of one that is such
pub or-right-of : (v w : Bool) → (not v || w) ≡ true → v ≡ true → w ≡ true
or-right-of true w h e = h
or-right-of false w h e = absurd (cc)

-- none of five tests holds where none of them does
pub first-of-five : (u v w x y : Bool) → (u || v || w || x || y) ≡ false → u ≡ false
first-of-five true v w x y h = absurd (cc)
first-of-five false v w x y h = refl

-- the first item is a member
pub has-first : (x : ℕ) (xs : List ℕ) → contains (x ∷ xs) x ≡ true
has-first x xs = let hit : (x == x) ≡ true = grind (arith, nat_tests) in ap (λ v. v || contains xs x) hit

-- and so are the members of the rest
pub has-later : (y x : ℕ) (xs : List ℕ) → contains xs x ≡ true → contains (y ∷ xs) x ≡ true
has-later y x xs h = or-right (y == x) (contains xs x) h

-- a member is the first item, or one of the rest
pub has-cases : (y x : ℕ) (xs : List ℕ) → contains (y ∷ xs) x ≡ true → (y ≡ x) ⊎ (contains xs x ≡ true)
has-cases y x xs h = elim (or-cases (y == x) (contains xs x) h) [
  | inl e ↦ inl (grind (arith, nat_tests))
  | inr later ↦ inr later
]

-- what each member has, each item has
pub all-by : (P : ℕ → Type 0) (xs : List ℕ) → ((x : ℕ) → contains xs x ≡ true → P x) → AllOf P xs
all-by P [] f = tt
all-by P (x ∷ xs) f = (f x (has-first x xs), all-by P xs (λ y h. f y (has-later x y xs h)))

-- a test that each member passes
pub list-all-by : (test : ℕ → Bool) (xs : List ℕ) → ((x : ℕ) → contains xs x ≡ true → test x ≡ true)
    → list_all test xs ≡ true
list-all-by test [] f = refl
list-all-by test (x ∷ xs) f =
    and-both (test x) (list_all test xs) (f x (has-first x xs)) (list-all-by test xs (λ y h. f y (has-later x y xs h)))

-- a test that all pass is passed by each member
pub list-all-has : (test : ℕ → Bool) (xs : List ℕ) (x : ℕ) → list_all test xs ≡ true → contains xs x ≡ true
    → test x ≡ true
list-all-has test xs x all h = each-has (λ y. test y ≡ true) x xs (all-of-true test xs all) h

-- some member passes
pub any-by : (test : ℕ → Bool) (xs : List ℕ) (x : ℕ) → contains xs x ≡ true → test x ≡ true → list_any test xs ≡ true
any-by test [] x h t = absurd (cc)
any-by test (y ∷ xs) x h t = elim (has-cases y x xs h) [
  | inl e ↦ ap (λ v. v || list_any test xs) (ap test e ∙ t)
  | inr later ↦ or-right (test y) (list_any test xs) (any-by test xs x later t)
]

-- and is found
pub any-some : (test : ℕ → Bool) (xs : List ℕ) → list_any test xs ≡ true
    → (x : ℕ) × ((contains xs x ≡ true) × (test x ≡ true))
any-some test [] h = absurd (cc)
any-some test (y ∷ xs) h = by (or-cases (test y) (list_any test xs) h) (any-some test xs) where
  by : ((test y ≡ true) ⊎ (list_any test xs ≡ true))
      → (list_any test xs ≡ true → (x : ℕ) × ((contains xs x ≡ true) × (test x ≡ true)))
      → (x : ℕ) × ((contains (y ∷ xs) x ≡ true) × (test x ≡ true))
  by (inl t) so = (y, (has-first y xs, t))
  by (inr later) so = let r = so later in (r.0, (has-later y r.0 xs r.1.0, r.1.1))

-- an item with a place passes
pub any-at : {A : Type 0} (test : A → Bool) (xs : List A) (k : ℕ) (x : A) → slice_get xs k ≡ Some x → test x ≡ true
    → list_any test xs ≡ true
any-at test [] k x at t = absurd (cc)
any-at test (y ∷ xs) zero x at t = let same : y ≡ x = cc in ap (λ v. v || list_any test xs) (ap test same ∙ t)
any-at test (y ∷ xs) (suc k) x at t = or-right (test y) (list_any test xs) (any-at test xs k x at t)

-- the members of a set with one number more
pub has-with : (n x : ℕ) (xs : List ℕ) → contains (with_number n xs) x ≡ ((n == x) || contains xs x)
has-with n x xs = any-with (λ m. m == x) n xs

-- the number that was added
pub has-added : (n : ℕ) (xs : List ℕ) → contains (with_number n xs) n ≡ true
has-added n xs = has-with n n xs ∙ has-first n xs

-- the members from before
pub has-more : (n x : ℕ) (xs : List ℕ) → contains xs x ≡ true → contains (with_number n xs) x ≡ true
has-more n x xs h = has-with n x xs ∙ has-later n x xs h

-- a member is the number that was added, or was one before
pub with-cases : (n x : ℕ) (xs : List ℕ) → contains (with_number n xs) x ≡ true → (x ≡ n) ⊎ (contains xs x ≡ true)
with-cases n x xs h = elim (has-cases n x xs (sym (has-with n x xs) ∙ h)) [ inl e ↦ inl (sym e) | inr old ↦ inr old ]

-- a member that passes is kept
pub filter-has : (test : ℕ → Bool) (x : ℕ) (xs : List ℕ) → contains xs x ≡ true → test x ≡ true
    → contains (filter test xs) x ≡ true
filter-has test x [] h t = absurd (cc)
filter-has test x (y ∷ xs) h t = by (test y) refl (has-cases y x xs h) (λ later. filter-has test x xs later t) where
  by : (v : Bool) → test y ≡ v → ((y ≡ x) ⊎ (contains xs x ≡ true))
      → (contains xs x ≡ true → contains (filter test xs) x ≡ true)
      → contains (cond v (y ∷ filter test xs) (filter test xs)) x ≡ true
  by true e (inl same) so = subst (λ k. contains (y ∷ filter test xs) k ≡ true) same (has-first y (filter test xs))
  by true e (inr later) so = has-later y x (filter test xs) (so later)
  by false e (inl same) so = absurd (let no : test x ≡ false = sym (ap test same) ∙ e in cc)
  by false e (inr later) so = so later

-- the members of two lists
pub has-front : (x : ℕ) (xs ys : List ℕ) → contains xs x ≡ true → contains (xs ++ ys) x ≡ true
has-front x [] ys h = absurd (cc)
has-front x (y ∷ xs) ys h = elim (has-cases y x xs h) [
  | inl e ↦ subst (λ k. contains (y ∷ xs ++ ys) k ≡ true) e (has-first y (xs ++ ys))
  | inr later ↦ has-later y x (xs ++ ys) (has-front x xs ys later)
]

-- from either
pub has-back : (x : ℕ) (xs ys : List ℕ) → contains ys x ≡ true → contains (xs ++ ys) x ≡ true
has-back x [] ys h = h
has-back x (y ∷ xs) ys h = has-later y x (xs ++ ys) (has-back x xs ys h)

-- and from nowhere else
pub append-cases : (x : ℕ) (xs ys : List ℕ) → contains (xs ++ ys) x ≡ true
    → (contains xs x ≡ true) ⊎ (contains ys x ≡ true)
append-cases x [] ys h = inr h
append-cases x (y ∷ xs) ys h = by (has-cases y x (xs ++ ys) h) (append-cases x xs ys) where
  by : ((y ≡ x) ⊎ (contains (xs ++ ys) x ≡ true))
      → (contains (xs ++ ys) x ≡ true → (contains xs x ≡ true) ⊎ (contains ys x ≡ true))
      → (contains (y ∷ xs) x ≡ true) ⊎ (contains ys x ≡ true)
  by (inl e) so = inl (subst (λ k. contains (y ∷ xs) k ≡ true) e (has-first y xs))
  by (inr later) so = elim (so later) [ inl front ↦ inl (has-later y x xs front) | inr back ↦ inr back ]

-- ---- ascending lists

-- each is above the one before it, and at least so much
abbrev pub Ascends : ℕ → List ℕ → Type 0
Ascends lo [] = Unit
Ascends lo (x ∷ xs) = (lo ≤ x) × Ascends (x + 1) xs

-- no member is less than the bound
pub ascends-least : (lo x : ℕ) (xs : List ℕ) → Ascends lo xs → contains xs x ≡ true → lo ≤ x
ascends-least lo x [] h is = absurd (cc)
ascends-least lo x (y ∷ xs) h is = by (has-cases y x xs is) (ascends-least (y + 1) x xs h.1) where
  by : ((y ≡ x) ⊎ (contains xs x ≡ true)) → (contains xs x ≡ true → y + 1 ≤ x) → lo ≤ x
  by (inl e) so = let l : lo ≤ y = h.0 in omega arith
  by (inr later) so = let l : lo ≤ y = h.0 in let m = so later in omega arith

-- a lower bound is one too
pub ascends-lower : (lo hi : ℕ) (xs : List ℕ) → lo ≤ hi → Ascends hi xs → Ascends lo xs
ascends-lower lo hi [] l h = tt
ascends-lower lo hi (x ∷ xs) l h = (let m : hi ≤ x = h.0 in omega arith, h.1)

-- part of an ascending list ascends
pub ascends-filter : (test : ℕ → Bool) (lo : ℕ) (xs : List ℕ) → Ascends lo xs → Ascends lo (filter test xs)
ascends-filter test lo [] h = tt
ascends-filter test lo (x ∷ xs) h = by (test x) (ascends-filter test (x + 1) xs h.1) where
  by : (v : Bool) → Ascends (x + 1) (filter test xs) → Ascends lo (cond v (x ∷ filter test xs) (filter test xs))
  by true rest = (h.0, rest)
  by false rest = ascends-lower lo (x + 1) (filter test xs) (let l : lo ≤ x = h.0 in omega arith) rest

-- the numbers of paths ascend
pub numbers-ascend : (test : Path → Bool) (s : ℕ) (ps : List Path) → Ascends s (numbers_where test s ps)
numbers-ascend test s [] = tt
numbers-ascend test s (p ∷ ps) = by (test p) (numbers-ascend test (s + 1) ps) where
  by : (v : Bool) → Ascends (s + 1) (numbers_where test (s + 1) ps)
      → Ascends s (cond v (s ∷ numbers_where test (s + 1) ps) (numbers_where test (s + 1) ps))
  by true rest = (omega arith, rest)
  by false rest = ascends-lower s (s + 1) (numbers_where test (s + 1) ps) (omega arith) rest

-- a number whose path passes is among those
pub numbers-have : (test : Path → Bool) (s k : ℕ) (ps : List Path) → k < length ps → test (get_or ps k []) ≡ true
    → contains (numbers_where test s ps) (s + k) ≡ true
numbers-have test s k [] l t = absurd (omega arith)
numbers-have test s zero (p ∷ ps) l t =
    let same : s ≡ s + 0 = omega arith in
    rw t (subst (λ n. contains (s ∷ numbers_where test (s + 1) ps) n ≡ true) same
    (has-first s (numbers_where test (s + 1) ps)))
numbers-have test s (suc k) (p ∷ ps) l t =
    by (test p) (numbers-have test (s + 1) k ps (omega arith) t) where
      same : (s + 1) + k ≡ s + suc k
      same = omega arith

      by : (v : Bool) → contains (numbers_where test (s + 1) ps) ((s + 1) + k) ≡ true
          → contains (cond v (s ∷ numbers_where test (s + 1) ps) (numbers_where test (s + 1) ps)) (s + suc k) ≡ true
      by true h =
          has-later s (s + suc k) (numbers_where test (s + 1) ps)
          (subst (λ n. contains (numbers_where test (s + 1) ps) n ≡ true) same h)
      by false h = subst (λ n. contains (numbers_where test (s + 1) ps) n ≡ true) same h

-- ---- exactly one

only-one : (ws : List ℕ) (y z : ℕ) → length ws ≡ 1 → contains ws y ≡ true → contains ws z ≡ true → y ≡ z
only-one [] y z one h i = absurd (cc)
only-one (w ∷ []) y z one h i = by (has-cases w y [] h) (has-cases w z [] i) where
  by : ((w ≡ y) ⊎ (contains [] y ≡ true)) → ((w ≡ z) ⊎ (contains [] z ≡ true)) → y ≡ z
  by (inl e) (inl f) = sym e ∙ f
  by (inl e) (inr f) = absurd (cc)
  by (inr e) f = absurd (cc)
only-one (w ∷ v ∷ ws) y z one h i = absurd (omega (arith, one))

-- where exactly one item passes, those that pass are the same
pub one-same : (test : ℕ → Bool) (xs : List ℕ) (y z : ℕ) → length (filter test xs) ≡ 1 → contains xs y ≡ true
    → test y ≡ true
    → contains xs z ≡ true → test z ≡ true → y ≡ z
one-same test xs y z one h t i u =
    only-one (filter test xs) y z one (filter-has test y xs h t) (filter-has test z xs i u)

none-pass : (test : ℕ → Bool) (xs : List ℕ) → ((x : ℕ) → contains xs x ≡ true → test x ≡ true → ⊥) → filter test xs ≡ []
none-pass test [] f = refl
none-pass test (x ∷ xs) f = by (test x) refl (none-pass test xs (λ y h t. f y (has-later x y xs h) t)) where
  by : (v : Bool) → test x ≡ v → filter test xs ≡ [] → cond v (x ∷ filter test xs) (filter test xs) ≡ []
  by true e rest = absurd (f x (has-first x xs) e)
  by false e rest = rest

-- some item of an ascending list passes, and all that pass are the same
pub one-passes : (test : ℕ → Bool) (lo : ℕ) (xs : List ℕ) (x : ℕ) → Ascends lo xs → contains xs x ≡ true → test x ≡ true
    → ((y : ℕ) → contains xs y ≡ true → test y ≡ true → y ≡ x) → length (filter test xs) ≡ 1
one-passes test lo [] x up h t only = absurd (cc)
one-passes test lo (z ∷ xs) x up h t only =
    by (test z) refl (has-cases z x xs h)
    (λ later. one-passes test (z + 1) xs x up.1 later t (λ y i u. only y (has-later z y xs i) u)) where
      none : test z ≡ true → (y : ℕ) → contains xs y ≡ true → test y ≡ true → ⊥
      none e y i u =
          let least = ascends-least (z + 1) y xs up.1 i in
          let one = only z (has-first z xs) e in
          let other = only y (has-later z y xs i) u in omega arith

      by : (v : Bool) → test z ≡ v → ((z ≡ x) ⊎ (contains xs x ≡ true))
          → (contains xs x ≡ true → length (filter test xs) ≡ 1)
          → length (cond v (z ∷ filter test xs) (filter test xs)) ≡ 1
      by true e same so = ap (λ (ys : List ℕ). length (z ∷ ys)) (none-pass test xs (none e))
      by false e (inl same) so = absurd (let yes : test z ≡ true = ap test same ∙ t in cc)
      by false e (inr later) so = so later

-- two tests that agree on the members keep the same
pub filter-equal : (f g : ℕ → Bool) (xs : List ℕ) → ((x : ℕ) → contains xs x ≡ true → f x ≡ g x)
    → filter f xs ≡ filter g xs
filter-equal f g [] same = refl
filter-equal f g (x ∷ xs) same =
    ap (λ v. cond v (x ∷ filter f xs) (filter f xs)) (same x (has-first x xs))
    ∙ ap (λ ys. cond (g x) (x ∷ ys) ys) (filter-equal f g xs (λ y h. same y (has-later x y xs h)))
