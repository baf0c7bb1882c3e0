-- Ascending lists.
use Rattle.std.proofs.Common.{◌≡◌, ℕ, ◌+◌, ◌<◌, ◌==◌, ◌&&◌, ◌++◌, nat_lt, Bool, true, false, List, [], ◌∷◌, drop, get_or, length, refl, arith, ap, sym, ◌∙◌, add-one, append_assoc, drop-cons}
use Rattle.std.proofs.lemmas.Bool.Decides.{nat_tests}
use Rattle.std.specs.List.{list_all}
use Rattle.sc_base.specs.Ascending.{with_number}
use Rattle.sc_law.specs.Fitting.{rises}

pub both : (u v : Bool) → (u && v) ≡ true → (u ≡ true) × (v ≡ true)
both true v h = (refl, h)
both false v h = absurd (cc)

-- the first is below each later one
pub first-below : (m : ℕ) (ms : List ℕ) (n : ℕ) (ns : List ℕ) → rises (m ∷ (ms ++ n ∷ ns)) ≡ true → m < n
first-below m [] n ns h =
    let t : nat_lt m n ≡ true = (both (nat_lt m n) (rises (n ∷ ns)) h).0 in grind (arith, nat_tests)
first-below m (k ∷ ms) n ns h =
    let parts = both (nat_lt m k) (rises (k ∷ (ms ++ n ∷ ns))) h in
    let t : nat_lt m k ≡ true = parts.0 in
    let less : m < k = grind (arith, nat_tests) in
    let more = first-below k ms n ns parts.1 in
    omega (arith, less, more)

-- what is behind the first rises
pub behind : (m : ℕ) (ms : List ℕ) → rises (m ∷ ms) ≡ true → rises ms ≡ true
behind m [] h = refl
behind m (n ∷ ns) h = (both (nat_lt m n) (rises (n ∷ ns)) h).1

-- a number that is above all is added behind them
pub added-last : (ms : List ℕ) (n : ℕ) (ns : List ℕ) → rises (ms ++ n ∷ ns) ≡ true → with_number n ms ≡ ms ++ n ∷ []
added-last [] n ns h = refl
added-last (m ∷ ms) n ns h =
    let less : m < n = first-below m ms n ns h in
    let other : (n == m) ≡ false = grind (arith, nat_tests) in
    let past : nat_lt n m ≡ false = grind (arith, nat_tests) in
    rw other (rw past (ap (λ ks. m ∷ ks) (added-last ms n ns (behind m (ms ++ n ∷ ns) h))))

-- the next of a rising list is added behind those before it
pub row-more : (ms ss : List ℕ) (i : ℕ) → rises ss ≡ true → i < length ss → ms ++ drop i ss ≡ ss
    → with_number (get_or ss i 0) ms ++ drop (i + 1) ss ≡ ss
row-more ms ss i up l e =
    let n = get_or ss i 0 in
    let here : drop i ss ≡ n ∷ drop (i + 1) ss = drop-cons ss i 0 l ∙ ap (λ k. n ∷ drop k ss) (sym (add-one i)) in
    let whole : ms ++ n ∷ drop (i + 1) ss ≡ ss = ap (λ xs. ms ++ xs) (sym here) ∙ e in
    ap (λ xs. xs ++ drop (i + 1) ss) (added-last ms n (drop (i + 1) ss) (ap rises whole ∙ up))
    ∙ append_assoc ms (n ∷ []) (drop (i + 1) ss) ∙ whole

-- what holds of each from a place on holds of each behind it
pub all-behind : (test : ℕ → Bool) (ss : List ℕ) (i : ℕ) → i < length ss → list_all test (drop i ss) ≡ true
    → list_all test (drop (i + 1) ss) ≡ true
all-behind test ss i l h =
    let here : drop i ss ≡ get_or ss i 0 ∷ drop (i + 1) ss =
    drop-cons ss i 0 l ∙ ap (λ k. get_or ss i 0 ∷ drop k ss) (sym (add-one i)) in
    (both (test (get_or ss i 0)) (list_all test (drop (i + 1) ss)) (ap (list_all test) (sym here) ∙ h)).1

-- a list of states rises
pub states-rise : (u v : Bool) → (u && v) ≡ true → u ≡ true
states-rise u v h = (both u v h).0
