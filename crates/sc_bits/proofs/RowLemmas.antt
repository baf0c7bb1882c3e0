-- What new words make of the members of a row.
use Rattle.std.proofs.Common.{◌≡◌, ℕ, ◌<◌, ◌≤◌, ◌==◌, ◌&&◌, ◌||◌, inl, inr, nat_le, Bool, true, false, not, filter, find, Option, None, Some, MatchOption, IfSome, List, [], refl, arith, ap, sym, ◌∙◌}
use Rattle.std.proofs.lemmas.Bool.{cases_lt}
use Rattle.std.proofs.lemmas.Bool.Decides.{nat_tests}
use Rattle.std.specs.Bool.{MatchBool}
use Rattle.std.specs.List.{list_any}
use Rattle.sc_base.specs.Ascending.{contains, with_number, joined}
use Rattle.sc_bits.specs.Rows.{RowOf}
use Rattle.sc_bits.specs.Words.{bit_of, numbers, Holds, IsNextBit}
use Rattle.sc_bits.proofs.NumberLemmas.{numbers-same, numbers-none, filter-numbers, has-numbers, with_number-numbers, joined-numbers, any-none, any-found, find-none, find-found}

abbrev pub members_of : ℕ → List ℕ → List ℕ
members_of width words = numbers (bit_of words) 0 width

abbrev pub as_row : ℕ → List ℕ → RowOf
as_row width ms = record { width = width; members = ms }

-- rows of one width with equal members are equal
pub same_row : (width : ℕ) (xs ys : List ℕ) → xs ≡ ys → as_row width xs ≡ as_row width ys
same_row width xs ys e = ap (as_row width) e

-- setting a bit adds its number to the members
pub members-set : (w n : ℕ) (old mid new : List ℕ) → n < w → mid ≡ old → ((k : ℕ) → bit_of new k ≡ (bit_of mid k || k == n))
    → members_of w new ≡ with_number n (members_of w old)
members-set w n old mid new l e h =
    numbers-same (bit_of new) (λ k. bit_of mid k || k == n) 0 w (λ k a b. h k)
    ∙ sym (with_number-numbers (bit_of mid) 0 w n (omega arith) (omega arith))
    ∙ ap (λ ws. with_number n (members_of w ws)) e

-- clearing a bit removes its number from the members
pub members-clear : (w n : ℕ) (old mid new : List ℕ) → mid ≡ old → ((k : ℕ) → bit_of new k ≡ (bit_of mid k && not (k == n)))
    → members_of w new ≡ filter (λ m. not (m == n)) (members_of w old)
members-clear w n old mid new e h =
    numbers-same (bit_of new) (λ k. bit_of mid k && not (k == n)) 0 w (λ k a b. h k)
    ∙ sym (filter-numbers (λ m. not (m == n)) (bit_of mid) 0 w)
    ∙ ap (λ ws. filter (λ m. not (m == n)) (members_of w ws)) e

-- without bits there are no members
pub members-none : (w : ℕ) (new : List ℕ) → ((k : ℕ) → bit_of new k ≡ false) → members_of w new ≡ []
members-none w new h = numbers-none (bit_of new) 0 w (λ k a b. h k)

-- the bits of either row give the members of either
pub members-join : (w v : ℕ) (old mid new other also : List ℕ) → w ≡ v → mid ≡ old → also ≡ other
    → ((k : ℕ) → bit_of new k ≡ (bit_of mid k || bit_of also k))
    → members_of w new ≡ joined (members_of w old) (members_of v other)
members-join w v old mid new other also g e f h =
    numbers-same (bit_of new) (λ k. bit_of mid k || bit_of also k) 0 w (λ k a b. h k)
    ∙ sym (joined-numbers (bit_of mid) (bit_of also) w)
    ∙ ap (λ ws. joined (members_of w ws) (members_of w also)) e ∙ ap (λ ws. joined (members_of w old) (members_of w ws)) f
    ∙ ap (λ u. joined (members_of w old) (members_of u other)) g

-- a number below the width is a member exactly where its bit is set
pub has-member : (w n : ℕ) (words : List ℕ) → n < w → contains (members_of w words) n ≡ bit_of words n
has-member w n words h = has-numbers (bit_of words) 0 w n (omega arith) (omega arith)

-- the bits of both rows give the members that the other row has
pub members-meet : (w v : ℕ) (old mid new other also : List ℕ) → w ≡ v → mid ≡ old → also ≡ other
    → ((k : ℕ) → bit_of new k ≡ (bit_of mid k && bit_of also k))
    → members_of w new ≡ filter (λ m. contains (members_of v other) m) (members_of w old)
members-meet w v old mid new other also g e f h =
    numbers-same (bit_of new) (λ k. bit_of mid k && contains (members_of w also) k) 0 w
    (λ k a b. h k ∙ ap (λ v. bit_of mid k && v) (sym (has-member w k also (omega arith))))
    ∙ sym (filter-numbers (λ m. contains (members_of w also) m) (bit_of mid) 0 w)
    ∙ ap (λ ws. filter (λ m. contains (members_of w also) m) (members_of w ws)) e
    ∙ ap (λ ws. filter (λ m. contains (members_of w ws) m) (members_of w old)) f
    ∙ ap (λ u. filter (λ m. contains (members_of u other) m) (members_of w old)) g

-- the bits that the other row lacks give the members that it lacks
pub members-minus : (w v : ℕ) (old mid new other also : List ℕ) → w ≡ v → mid ≡ old → also ≡ other
    → ((k : ℕ) → bit_of new k ≡ (bit_of mid k && not (bit_of also k)))
    → members_of w new ≡ filter (λ m. not (contains (members_of v other) m)) (members_of w old)
members-minus w v old mid new other also g e f h =
    numbers-same (bit_of new) (λ k. bit_of mid k && not (contains (members_of w also) k)) 0 w
    (λ k a b. h k ∙ ap (λ v. bit_of mid k && not v) (sym (has-member w k also (omega arith))))
    ∙ sym (filter-numbers (λ m. not (contains (members_of w also) m)) (bit_of mid) 0 w)
    ∙ ap (λ ws. filter (λ m. not (contains (members_of w also) m)) (members_of w ws)) e
    ∙ ap (λ ws. filter (λ m. not (contains (members_of w ws) m)) (members_of w old)) f
    ∙ ap (λ u. filter (λ m. not (contains (members_of u other) m)) (members_of w old)) g

-- a number past the width is no bit of both
common_within : (w : ℕ) (words : List ℕ) (v : Bool) (k : ℕ) → Holds w words → (bit_of words k && v) ≡ true → k < w
common_within w words v k h e = elim (cases_lt k w) [
  | inl l ↦ l
  | inr g ↦ (let no : (bit_of words k && v) ≡ false = ap (λ u. u && v) (h.within k g) in cc)
]

-- two rows have a common bit exactly where a member of the one is a member of the other
pub meets-members : (w v : ℕ) (words other : List ℕ) (result : Bool) → w ≡ v → Holds w words
    → MatchBool result ((k : ℕ) × ((bit_of words k && bit_of other k) ≡ true)) ((k : ℕ) → (bit_of words k && bit_of other k) ≡ false)
    → result ≡ list_any (λ m. contains (members_of v other) m) (members_of w words)
meets-members w v words other true g h (k, e) =
    let within : k < w = common_within w words (bit_of other k) k h e in
    sym (any-found (λ m. contains (members_of w other) m) (bit_of words) 0 w k (omega arith) (omega arith)
    (ap (λ v. bit_of words k && v) (has-member w k other within) ∙ e))
    ∙ ap (λ u. list_any (λ m. contains (members_of u other) m) (members_of w words)) g
meets-members w v words other false g h none =
    sym (any-none (λ m. contains (members_of w other) m) (bit_of words) 0 w
    (λ k a b. ap (λ v. bit_of words k && v) (has-member w k other (omega arith)) ∙ none k))
    ∙ ap (λ u. list_any (λ m. contains (members_of u other) m) (members_of w words)) g

le-true : (n k : ℕ) (v : Bool) → n ≤ k → v ≡ true → (v && nat_le n k) ≡ true
le-true n k true h e = grind (arith, nat_tests)
le-true n k false h e = cc

le-false : (n k : ℕ) (v : Bool) → (n ≤ k → v ≡ false) → (v && nat_le n k) ≡ false
le-false n k false h = refl
le-false n k true h = elim (cases_lt k n) [
  | inl l ↦ grind (arith, nat_tests)
  | inr g ↦ (let no : true ≡ false = h g in cc)
]

-- the first bit from a place on is the first member from that number on
pub next-member : (w n : ℕ) (words : List ℕ) (result : Option ℕ) → Holds w words
    → MatchOption result ((k : ℕ) → n ≤ k → bit_of words k ≡ false) (IsNextBit words n)
    → result ≡ find (λ m. nat_le n m) (members_of w words)
next-member w n words None h none = sym (find-none (λ m. nat_le n m) (bit_of words) 0 w (λ k a b. le-false n k (bit_of words k) (none k)))
next-member w n words (Some m) h i =
    let within : m < w = common_within w words true m h (ap (λ v. v && true) i.set) in
    sym (find-found (λ j. nat_le n j) (bit_of words) 0 w m (omega arith) (omega arith) (le-true n m (bit_of words m) i.later i.set)
    (λ k a b. le-false n k (bit_of words k) (λ l. i.first k l b)))

-- the member that is found is not below the place, and is below the width
pub next-within : (w n : ℕ) (words : List ℕ) (result : Option ℕ) → Holds w words
    → MatchOption result ((k : ℕ) → n ≤ k → bit_of words k ≡ false) (IsNextBit words n)
    → IfSome result (λ m. (n ≤ m) × (m < w))
next-within w n words None h none = tt
next-within w n words (Some m) h i = (i.later, common_within w words true m h (ap (λ v. v && true) i.set))
