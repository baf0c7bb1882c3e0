-- Paths in document order, and those that lead on from others.
use Rattle.std.proofs.Common.{◌≡◌, ℕ, ◌+◌, ◌<◌, ◌≤◌, ◌==◌, ◌&&◌, nat_le, nat_lt, nat_eq, Bool, true, false, cond, List, [], ◌∷◌, ◌++◌, length, refl, arith, ap, ◌∙◌}
use Rattle.std.proofs.lemmas.Bool.Decides.{nat_tests}
use Rattle.std.specs.List.{starts_with}
use Rattle.sc_tables.specs.Preorder.{comes_before}

-- a path is another, or leads on from it
abbrev pub begins : List ℕ → List ℕ → Bool
begins [] q = true
begins (x ∷ p) [] = false
begins (x ∷ p) (y ∷ q) = nat_eq x y && begins p q

pub begins_is : (p q : List ℕ) → starts_with nat_eq q p ≡ begins p q
begins_is [] q = refl
begins_is (x ∷ p) [] = refl
begins_is (x ∷ p) (y ∷ q) = ap (λ b. nat_eq x y && b) (begins_is p q)

no_way : (x y z : ℕ) (u f : Bool) → x == y ≡ false → y == z ≡ f → x == z ≡ true → nat_lt x y ≡ true → cond f u (nat_lt y z) ≡ true → ⊥
no_way x y z u true d e g a b = grind (arith, nat_tests)
no_way x y z u false d e g a b = grind (arith, nat_tests)

-- what comes between a path and one that leads on from it leads on from it too
pub between : (p q r : List ℕ) → comes_before p q ≡ true → comes_before q r ≡ true → begins p r ≡ true → begins p q ≡ true
between [] q r a b h = refl
between (x ∷ p) [] r a b h = absurd (cc)
between (x ∷ p) (y ∷ q) [] a b h = absurd (cc)
between (x ∷ p) (y ∷ q) (z ∷ r) a b h = by (x == y) (y == z) (x == z) refl refl refl a b h (between p q r) where
  by : (e f g : Bool) → x == y ≡ e → y == z ≡ f → x == z ≡ g → cond e (comes_before p q) (nat_lt x y) ≡ true
      → cond f (comes_before q r) (nat_lt y z) ≡ true → (g && begins p r) ≡ true
      → (comes_before p q ≡ true → comes_before q r ≡ true → begins p r ≡ true → begins p q ≡ true) → (x == y && begins p q) ≡ true
  by true true true d e f a b h so = rw d (so a b h)
  by true false true d e f a b h so = absurd (grind (arith, nat_tests))
  by false f true d e g a b h so = absurd (no_way x y z (comes_before q r) f d e g a b)
  by e f false d g h a b i so = absurd (cc)

-- a later path is not one that an earlier path leads on from, nor the same
pub behind : (p q : List ℕ) → comes_before p q ≡ true → begins q p ≡ false
behind [] [] a = absurd (cc)
behind [] (y ∷ q) a = refl
behind (x ∷ p) [] a = absurd (cc)
behind (x ∷ p) (y ∷ q) a = by (x == y) (y == x) refl refl a (behind p q) where
  none : (v : Bool) → (v && false) ≡ false
  none true = refl
  none false = refl

  by : (e f : Bool) → x == y ≡ e → y == x ≡ f → cond e (comes_before p q) (nat_lt x y) ≡ true
      → (comes_before p q ≡ true → begins q p ≡ false) → (f && begins q p) ≡ false
  by true f d e a so = ap (λ v. f && v) (so a) ∙ none f
  by false true d e a so = absurd (grind (arith, nat_tests))
  by false false d e a so = refl

-- of two different paths that one leads on from, the longer leads on from the shorter
pub longer : (p q : List ℕ) → comes_before p q ≡ true → begins p q ≡ true → length p < length q
longer [] [] a b = absurd (cc)
longer [] (y ∷ q) a b = omega arith
longer (x ∷ p) [] a b = absurd (cc)
longer (x ∷ p) (y ∷ q) a b = by (x == y) a b (longer p q) where
  by : (e : Bool) → cond e (comes_before p q) (nat_lt x y) ≡ true → (e && begins p q) ≡ true
      → (comes_before p q ≡ true → begins p q ≡ true → length p < length q) → length (x ∷ p) < length (y ∷ q)
  by true a b so = let l : length p < length q = so a b in omega arith
  by false a b so = absurd (cc)

pub begins-same : (p : List ℕ) → begins p p ≡ true
begins-same [] = refl
begins-same (x ∷ p) = let e : nat_eq x x ≡ true = grind (arith, nat_tests) in rw e (begins-same p)

pub begins-trans : (p q r : List ℕ) → begins p q ≡ true → begins q r ≡ true → begins p r ≡ true
begins-trans [] q r a b = refl
begins-trans (x ∷ p) [] r a b = absurd (cc)
begins-trans (x ∷ p) (y ∷ q) [] a b = absurd (cc)
begins-trans (x ∷ p) (y ∷ q) (z ∷ r) a b = by (nat_eq x y) (nat_eq y z) refl refl a b (begins-trans p q r) where
  by : (e f : Bool) → nat_eq x y ≡ e → nat_eq y z ≡ f → (e && begins p q) ≡ true → (f && begins q r) ≡ true
      → (begins p q ≡ true → begins q r ≡ true → begins p r ≡ true) → (nat_eq x z && begins p r) ≡ true
  by true true d e a b so = let g : nat_eq x z ≡ true = grind (arith, nat_tests) in rw g (so a b)
  by false f d e a b so = absurd (cc)
  by true false d e a b so = absurd (cc)

-- both of two paths that a third leads on from: the shorter begins the longer
pub begins-fork : (p q r : List ℕ) → begins p r ≡ true → begins q r ≡ true → length p ≤ length q → begins p q ≡ true
begins-fork [] q r a b l = refl
begins-fork (x ∷ p) [] r a b l = absurd (omega arith)
begins-fork (x ∷ p) (y ∷ q) [] a b l = absurd (cc)
begins-fork (x ∷ p) (y ∷ q) (z ∷ r) a b l = by (nat_eq x z) (nat_eq y z) refl refl a b (λ a b. begins-fork p q r a b (omega arith)) where
  by : (e f : Bool) → nat_eq x z ≡ e → nat_eq y z ≡ f → (e && begins p r) ≡ true → (f && begins q r) ≡ true
      → (begins p r ≡ true → begins q r ≡ true → begins p q ≡ true) → (nat_eq x y && begins p q) ≡ true
  by true true d e a b so = let g : nat_eq x y ≡ true = grind (arith, nat_tests) in rw g (so a b)
  by false f d e a b so = absurd (cc)
  by true false d e a b so = absurd (cc)

-- the path leads to a child at this place or a later one, or on from there
abbrev pub under : List ℕ → ℕ → List ℕ → Bool
under [] k [] = false
under [] k (y ∷ q) = nat_le k y
under (x ∷ p) k [] = false
under (x ∷ p) k (y ∷ q) = nat_eq x y && under p k q

both : (e v w : Bool) → (v ≡ true → w ≡ true) → (e && v) ≡ true → (e && w) ≡ true
both true v w so h = so h
both false v w so h = h

both_or : (e v w u : Bool) → (v ≡ true → w ≡ true) → (e && v) ≡ true → cond e w u ≡ true
both_or true v w u so h = so h
both_or false v w u so h = absurd (cc)

pub under-begins : (p : List ℕ) (k : ℕ) (q : List ℕ) → under p k q ≡ true → begins p q ≡ true
under-begins [] k q h = refl
under-begins (x ∷ p) k [] h = absurd (cc)
under-begins (x ∷ p) k (y ∷ q) h = both (nat_eq x y) _ _ (under-begins p k q) h

pub under-before : (p : List ℕ) (k : ℕ) (q : List ℕ) → under p k q ≡ true → comes_before p q ≡ true
under-before [] k [] h = absurd (cc)
under-before [] k (y ∷ q) h = refl
under-before (x ∷ p) k [] h = absurd (cc)
under-before (x ∷ p) k (y ∷ q) h = both_or (x == y) _ _ (nat_lt x y) (under-before p k q) h

pub under-more : (p : List ℕ) (k : ℕ) (q : List ℕ) → under p (k + 1) q ≡ true → under p k q ≡ true
under-more [] k [] h = absurd (cc)
under-more [] k (y ∷ q) h = grind (arith, nat_tests)
under-more (x ∷ p) k [] h = absurd (cc)
under-more (x ∷ p) k (y ∷ q) h = both (nat_eq x y) _ _ (under-more p k q) h

pub under-kid : (p : List ℕ) (k : ℕ) (q : List ℕ) → begins (p ++ k ∷ []) q ≡ true → under p k q ≡ true
under-kid [] k [] h = absurd (cc)
under-kid [] k (y ∷ q) h = by (nat_eq k y) refl h where
  by : (e : Bool) → nat_eq k y ≡ e → (e && true) ≡ true → nat_le k y ≡ true
  by true d h = grind (arith, nat_tests)
  by false d h = absurd (cc)
under-kid (x ∷ p) k [] h = absurd (cc)
under-kid (x ∷ p) k (y ∷ q) h = both (nat_eq x y) _ _ (under-kid p k q) h

-- what is below one child comes before what is below a later one
pub kids-before : (p : List ℕ) (k : ℕ) (q r : List ℕ) → begins (p ++ k ∷ []) q ≡ true → under p (k + 1) r ≡ true → comes_before q r ≡ true
kids-before [] k [] r a b = absurd (cc)
kids-before [] k (y ∷ q) [] a b = absurd (cc)
kids-before [] k (y ∷ q) (z ∷ r) a b = by (nat_eq k y) (y == z) refl refl a where
  by : (e f : Bool) → nat_eq k y ≡ e → y == z ≡ f → (e && true) ≡ true → cond f (comes_before q r) (nat_lt y z) ≡ true
  by true true d e a = grind (arith, nat_tests)
  by true false d e a = grind (arith, nat_tests)
  by false f d e a = absurd (cc)
kids-before (x ∷ p) k [] r a b = absurd (cc)
kids-before (x ∷ p) k (y ∷ q) [] a b = absurd (cc)
kids-before (x ∷ p) k (y ∷ q) (z ∷ r) a b = by (nat_eq x y) (nat_eq x z) (y == z) refl refl refl a b (kids-before p k q r) where
  by : (e f g : Bool) → nat_eq x y ≡ e → nat_eq x z ≡ f → y == z ≡ g → (e && begins (p ++ k ∷ []) q) ≡ true
      → (f && under p (k + 1) r) ≡ true
      → (begins (p ++ k ∷ []) q ≡ true → under p (k + 1) r ≡ true → comes_before q r ≡ true)
      → cond g (comes_before q r) (nat_lt y z) ≡ true
  by true true true d e f a b so = so a b
  by true true false d e f a b so = absurd (grind (arith, nat_tests))
  by false f g d e h a b so = absurd (cc)
  by true false g d e h a b so = absurd (cc)
