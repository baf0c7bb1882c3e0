-- The numbers of the paths that pass a test.
use Rattle.std.proofs.Common.{◌≡◌, ℕ, ◌+◌, ◌<◌, ◌≤◌, ◌==◌, ◌&&◌, nat_lt, suc, Bool, true, false, cond, filter, List, [], ◌∷◌, ◌++◌, length, take, drop, get_or, refl, arith, ap, ap₂, sym, ◌∙◌, ◌-◌, length-take, length-drop, append-nil}
use Rattle.std.proofs.lemmas.Bool.Decides.{nat_tests}
use Rattle.std.proofs.lemmas.List.{take_more, take-append-drop, get_or-drop}
use Rattle.std.proofs.lemmas.List.Elements.{filter-append}
use Rattle.sc_base.specs.Ascending.{with_number}
use Rattle.sc_law.specs.Tree.{numbers_where}

abbrev pub Paths : Type 0
Paths = List (List ℕ)

-- a test passes none of these paths
pub record FailsAll (test : List ℕ → Bool) (ps : Paths) : Type 0 where
  pub each : (k : ℕ) → k < length ps → test (get_or ps k []) ≡ false

fails_later : (test : List ℕ → Bool) (p : List ℕ) (ps : Paths) → FailsAll test (p ∷ ps) → FailsAll test ps
fails_later test p ps h = record { each = λ k l. h.each (suc k) (omega arith) }

-- where no path passes there are no numbers
pub numbers-none : (test : List ℕ → Bool) (s : ℕ) (ps : Paths) → FailsAll test ps → numbers_where test s ps ≡ []
numbers-none test s [] h = refl
numbers-none test s (p ∷ ps) h = by (test p) (h.each 0 (omega arith)) (numbers-none test (s + 1) ps (fails_later test p ps h)) where
  by : (v : Bool) → v ≡ false → numbers_where test (s + 1) ps ≡ [] → cond v (s ∷ numbers_where test (s + 1) ps) (numbers_where test (s + 1) ps) ≡ []
  by true e h = absurd (cc)
  by false e h = h

-- the numbers of two lists of paths one behind the other
pub numbers-append : (test : List ℕ → Bool) (s : ℕ) (ps qs : Paths)
    → numbers_where test s (ps ++ qs) ≡ numbers_where test s ps ++ numbers_where test (s + length ps) qs
numbers-append test s [] qs = ap (λ n. numbers_where test n qs) (omega arith)
numbers-append test s (p ∷ ps) qs = by (test p) (numbers-append test (s + 1) ps qs) where
  there : numbers_where test (s + 1 + length ps) qs ≡ numbers_where test (s + length (p ∷ ps)) qs
  there = ap (λ n. numbers_where test n qs) (omega arith)

  by : (v : Bool) → numbers_where test (s + 1) (ps ++ qs) ≡ numbers_where test (s + 1) ps ++ numbers_where test (s + 1 + length ps) qs
      → cond v (s ∷ numbers_where test (s + 1) (ps ++ qs)) (numbers_where test (s + 1) (ps ++ qs))
      ≡ cond v (s ∷ numbers_where test (s + 1) ps) (numbers_where test (s + 1) ps) ++ numbers_where test (s + length (p ∷ ps)) qs
  by true h = ap (λ ns. s ∷ ns) (h ∙ ap (λ ns. numbers_where test (s + 1) ps ++ ns) there)
  by false h = h ∙ ap (λ ns. numbers_where test (s + 1) ps ++ ns) there

-- one path more
pub numbers-more : (test : List ℕ → Bool) (ps : Paths) (i : ℕ) → i < length ps
    → numbers_where test 0 (take (i + 1) ps) ≡ numbers_where test 0 (take i ps) ++ cond (test (get_or ps i [])) (i ∷ []) []
numbers-more test ps i l =
    let long : length (take i ps) ≡ i = simp length-take (omega arith) in
    let here : numbers_where test (0 + length (take i ps)) (get_or ps i [] ∷ []) ≡ cond (test (get_or ps i [])) (i ∷ []) [] =
    ap (λ n. numbers_where test n (get_or ps i [] ∷ [])) (omega (arith, long)) in
    ap (numbers_where test 0) (take_more ps i [] l) ∙ numbers-append test 0 (take i ps) (get_or ps i [] ∷ [])
    ∙ ap (λ ns. numbers_where test 0 (take i ps) ++ ns) here

-- from one number on no path passes
pub numbers-until : (test : List ℕ → Bool) (ps : Paths) (i : ℕ) → i ≤ length ps
    → ((k : ℕ) → i ≤ k → k < length ps → test (get_or ps k []) ≡ false) → numbers_where test 0 ps ≡ numbers_where test 0 (take i ps)
numbers-until test ps i l h =
    let rest : numbers_where test (0 + length (take i ps)) (drop i ps) ≡ [] = numbers-none test (0 + length (take i ps)) (drop i ps) (record { each = later }) in
    ap (numbers_where test 0) (sym (take-append-drop i ps)) ∙ numbers-append test 0 (take i ps) (drop i ps)
    ∙ ap (λ ns. numbers_where test 0 (take i ps) ++ ns) rest ∙ append-nil (numbers_where test 0 (take i ps))
  where
    later : (k : ℕ) → k < length (drop i ps) → test (get_or (drop i ps) k []) ≡ false
    later k m = let short : length (drop i ps) ≡ length ps - i = length-drop i ps in
        rw (get_or-drop i ps k []) (h (i + k) (omega arith) (omega (arith, short)))

-- tests that agree on each path have the same numbers
pub numbers-same : (f g : List ℕ → Bool) (s : ℕ) (ps : Paths) → ((k : ℕ) → k < length ps → f (get_or ps k []) ≡ g (get_or ps k []))
    → numbers_where f s ps ≡ numbers_where g s ps
numbers-same f g s [] h = refl
numbers-same f g s (p ∷ ps) h =
    ap₂ (λ (v : Bool) (ns : List ℕ). cond v (s ∷ ns) ns) (h 0 (omega arith)) (numbers-same f g (s + 1) ps (λ k l. h (suc k) (omega arith)))

-- all numbers are below this one
abbrev pub AreBelow : ℕ → List ℕ → Type 0
AreBelow n [] = Unit {0}
AreBelow n (m ∷ ms) = (m < n) × AreBelow n ms

pub numbers-below : (test : List ℕ → Bool) (s n : ℕ) (ps : Paths) → s + length ps ≤ n → AreBelow n (numbers_where test s ps)
numbers-below test s n [] l = tt
numbers-below test s n (p ∷ ps) l = by (test p) (numbers-below test (s + 1) n ps (omega arith)) where
  by : (v : Bool) → AreBelow n (numbers_where test (s + 1) ps) → AreBelow n (cond v (s ∷ numbers_where test (s + 1) ps) (numbers_where test (s + 1) ps))
  by true h = (omega arith, h)
  by false h = h

pub filter-below : (test : ℕ → Bool) (n : ℕ) (ms : List ℕ) → AreBelow n ms → AreBelow n (filter test ms)
filter-below test n [] h = tt
filter-below test n (m ∷ ms) h = by (test m) (filter-below test n ms h.1) where
  by : (v : Bool) → AreBelow n (filter test ms) → AreBelow n (cond v (m ∷ filter test ms) (filter test ms))
  by true k = (h.0, k)
  by false k = k

-- a number above all stands last
pub with_number-last : (n : ℕ) (ms : List ℕ) → AreBelow n ms → with_number n ms ≡ ms ++ n ∷ []
with_number-last n [] h = refl
with_number-last n (m ∷ ms) h =
    let b : m < n = h.0 in
    let e : (n == m) ≡ false = grind (arith, nat_tests) in
    let l : nat_lt n m ≡ false = grind (arith, nat_tests) in
    rw (e, l) (ap (λ ns. m ∷ ns) (with_number-last n ms h.1))

-- so does the number of one path more
pub numbers-add : (test : List ℕ → Bool) (ps : Paths) (i : ℕ) → i < length ps → test (get_or ps i []) ≡ true
    → with_number i (numbers_where test 0 (take i ps)) ≡ numbers_where test 0 (take (i + 1) ps)
numbers-add test ps i l h =
    with_number-last i (numbers_where test 0 (take i ps)) (numbers-below test 0 i (take i ps) (simp length-take (omega arith)))
    ∙ sym (numbers-more test ps i l ∙ ap (λ v. numbers_where test 0 (take i ps) ++ cond v (i ∷ []) []) h)

-- the same where some of the numbers are left out
pub kept-add : (keep : ℕ → Bool) (test : List ℕ → Bool) (ps : Paths) (i : ℕ) → i < length ps → test (get_or ps i []) ≡ true → keep i ≡ true
    → with_number i (filter keep (numbers_where test 0 (take i ps))) ≡ filter keep (numbers_where test 0 (take (i + 1) ps))
kept-add keep test ps i l h k =
    let old = numbers_where test 0 (take i ps) in
    with_number-last i (filter keep old) (filter-below keep i old (numbers-below test 0 i (take i ps) (simp length-take (omega arith))))
    ∙ sym (ap (filter keep) (numbers-more test ps i l ∙ ap (λ v. old ++ cond v (i ∷ []) []) h)
    ∙ filter-append keep old (i ∷ []) ∙ ap (λ v. filter keep old ++ cond v (i ∷ []) []) k)

pub kept-skip : (keep : ℕ → Bool) (test : List ℕ → Bool) (ps : Paths) (i : ℕ) → i < length ps → (test (get_or ps i []) && keep i) ≡ false
    → filter keep (numbers_where test 0 (take i ps)) ≡ filter keep (numbers_where test 0 (take (i + 1) ps))
kept-skip keep test ps i l h =
    sym (ap (filter keep) (numbers-more test ps i l) ∙ filter-append keep old (cond (test (get_or ps i [])) (i ∷ []) [])
    ∙ ap (λ ns. filter keep old ++ ns) (none (test (get_or ps i [])) (keep i) refl h) ∙ append-nil (filter keep old))
  where
    old : List ℕ
    old = numbers_where test 0 (take i ps)

    none : (v w : Bool) → keep i ≡ w → (v && w) ≡ false → filter keep (cond v (i ∷ []) []) ≡ []
    none true true e h = absurd (cc)
    none true false e h = ap (λ u. cond u (i ∷ []) []) e
    none false w e h = refl
