-- Readers made of readers: one behind another, with a test, and many in a row.
use Rattle.std.proofs.Common.{◌≡◌, ℕ, zero, suc, ◌^◌, ◌<◌, Bool, true, cond, List, [], ◌∷◌, ◌++◌, length, Some, None, refl, sym, ap, subst, ◌∙◌, append_assoc}
use Rattle.std.specs.List.{flat_map, AllByRecursion}
use Rattle.std.proofs.lemmas.Option.{cond_some, same_Some}
use Rattle.sc_codec.specs.Reading.{Reader, ◌>>=◌, number_from, both, many_from, counted_from}
use Rattle.sc_codec.proofs.Fields.{IsBytes, Taken, Takes, Again, bind_some, taken_then, takes_number, again_number}
use Rattle.sc_frame.specs.Fields.{number_field}

-- ---- one thing behind another

-- what two readers take, one behind the other
pub takes_both : {A B : Type 0} {P : A → Type 0} {Q : B → Type 0} (read : Reader A) (other : Reader B)
    (field : A → List ℕ) (behind : B → List ℕ)
    → Takes read field P → Takes other behind Q
    → Takes (both read other) (λ p. field p.0 ++ behind p.1) (λ p. P p.0 × Q p.1)
takes_both {A} {B} {P} {Q} read other field behind first second = record {
  of = λ bytes x rest h e.
      let a = bind_some (read bytes) (λ a. other a.1 >>= λ b. Some ((a.0, b.0), b.1)) (x, rest) e in
      let b = bind_some (other a.0.1) (λ b. Some ((a.0.0, b.0), b.1)) (x, rest) a.2 in
      let t = first.of bytes a.0.0 a.0.1 h a.1 in
      let u = second.of a.0.1 b.0.0 b.0.1 t.0.left b.1 in
      let whole = taken_then bytes (field a.0.0) a.0.1 (behind b.0.0) b.0.1 t.0 u.0 in
      let found : (A × B) × List ℕ = ((a.0.0, b.0.0), b.0.1) in
      subst (λ (y : (A × B) × List ℕ). Taken bytes (field y.0.0 ++ behind y.0.1) y.1 × (P y.0.0 × Q y.0.1))
      (same_Some found (x, rest) b.2)
      (whole, (t.1, u.1));
}

-- two fields are read again, one behind the other
pub again_both : {A B : Type 0} {P : A → Type 0} {Q : B → Type 0} (read : Reader A) (other : Reader B)
    (field : A → List ℕ) (behind : B → List ℕ)
    → Again read field P → Again other behind Q
    → Again (both read other) (λ p. field p.0 ++ behind p.1) (λ p. P p.0 × Q p.1)
again_both read other field behind first second = record {
  of = λ x rest p.
      ap (both read other) (append_assoc (field x.0) (behind x.1) rest)
      ∙ rw (first.of x.0 (behind x.1 ++ rest) p.0, second.of x.1 rest p.1) refl;
}

-- ---- a test

-- a reader that takes what passes a test
abbrev pub tested : {A : Type 0} → (A → Bool) → Reader A → Reader A
tested test read bytes = read bytes >>= λ x. cond (test x.0) (Some x) None

-- what a reader with a test takes
pub takes_tested : {A : Type 0} {P : A → Type 0} (test : A → Bool) (read : Reader A) (field : A → List ℕ)
    → Takes read field P → Takes (tested test read) field (λ x. P x × (test x ≡ true))
takes_tested {A} {P} test read field reader = record {
  of = λ bytes x rest h e.
      let a = bind_some (read bytes) (λ y. cond (test y.0) (Some y) None) (x, rest) e in
      let g = cond_some (test a.0.0) a.0 (x, rest) a.2 in
      let t = reader.of bytes a.0.0 a.0.1 h a.1 in
      subst (λ (y : A × List ℕ). Taken bytes (field y.0) y.1 × (P y.0 × (test y.0 ≡ true))) g.1 (t.0, (t.1, g.0));
}

-- what passes the test is read again
pub again_tested : {A : Type 0} {P : A → Type 0} (test : A → Bool) (read : Reader A) (field : A → List ℕ)
    → Again read field P → Again (tested test read) field (λ x. P x × (test x ≡ true))
again_tested test read field reader = record { of = λ x rest p. rw (reader.of x rest p.0, p.1) refl }

-- ---- many in a row

many_takes : {A : Type 0} {P : A → Type 0} (read : Reader A) (field : A → List ℕ) → Takes read field P
    → (n : ℕ) (bytes : List ℕ) (xs : List A) (rest : List ℕ) → IsBytes bytes → many_from read n bytes ≡ Some (xs, rest)
    → Taken bytes (flat_map field xs) rest × ((length xs ≡ n) × AllByRecursion P xs)
unfolding many_from
many_takes {A} {P} read field reader zero bytes xs rest h e =
    let none : List A × List ℕ = ([], bytes) in
    subst (λ (y : List A × List ℕ). Taken bytes (flat_map field y.0) y.1 × ((length y.0 ≡ 0) × AllByRecursion P y.0))
    (same_Some none (xs, rest) e)
    (record { parts = refl; left = h }, (refl, tt))
many_takes {A} {P} read field reader (suc n) bytes xs rest h e =
    let a = bind_some (read bytes) (λ first. many_from read n first.1 >>= λ others. Some
    (first.0 ∷ others.0, others.1)) (xs, rest) e in
    let b = bind_some (many_from read n a.0.1) (λ others. Some (a.0.0 ∷ others.0, others.1)) (xs, rest) a.2 in
    let t = reader.of bytes a.0.0 a.0.1 h a.1 in
    let u = many_takes read field reader n a.0.1 b.0.0 b.0.1 t.0.left b.1 in
    let whole = taken_then bytes (field a.0.0) a.0.1 (flat_map field b.0.0) b.0.1 t.0 u.0 in
    let found : List A × List ℕ = (a.0.0 ∷ b.0.0, b.0.1) in
    subst (λ (y : List A × List ℕ). Taken bytes (flat_map field y.0) y.1
    × ((length y.0 ≡ suc n) × AllByRecursion P y.0)) (same_Some found (xs, rest) b.2)
    (whole, (ap suc u.1.0, (t.1, u.1.1)))

many_again : {A : Type 0} {P : A → Type 0} (read : Reader A) (field : A → List ℕ) → Again read field P
    → (xs : List A) (rest : List ℕ) → AllByRecursion P xs → many_from read (length xs) (flat_map field xs ++ rest)
    ≡ Some (xs, rest)
unfolding many_from
many_again read field reader [] rest p = refl
many_again read field reader (x ∷ xs) rest p =
    ap (many_from read (suc (length xs))) (append_assoc (field x) (flat_map field xs) rest)
    ∙ rw (reader.of x (flat_map field xs ++ rest) p.0, many_again read field reader xs rest p.1) refl

-- things behind their count
abbrev pub counted_field : {A : Type 0} → (A → List ℕ) → List A → List ℕ
counted_field field xs = number_field 2 (length xs) ++ flat_map field xs

-- what is taken of as many things as their count says
pub takes_counted : {A : Type 0} {P : A → Type 0} (read : Reader A) (field : A → List ℕ) → Takes read field P
    → Takes (counted_from read) (counted_field field) (λ xs. (length xs < 2 ^ 16) × AllByRecursion P xs)
takes_counted {A} {P} read field reader = record {
  of = λ bytes xs rest h e.
      let a = bind_some (number_from 2 bytes) (λ count. many_from read count.0 count.1) (xs, rest) e in
      let t = (takes_number 2).of bytes a.0.0 a.0.1 h a.1 in
      let u = many_takes read field reader a.0.0 a.0.1 xs rest t.0.left a.2 in
      let whole = taken_then bytes (number_field 2 a.0.0) a.0.1 (flat_map field xs) rest t.0 u.0 in
      let IsCount : ℕ → Type 0 = λ n. n < 2 ^ 16 in (
        subst (λ n. Taken bytes (number_field 2 n ++ flat_map field xs) rest) (sym u.1.0) whole,
        (subst IsCount (sym u.1.0) t.1, u.1.1),
      );
}

-- things after their count are read again
pub again_counted : {A : Type 0} {P : A → Type 0} (read : Reader A) (field : A → List ℕ) → Again read field P
    → Again (counted_from read) (counted_field field) (λ xs. (length xs < 2 ^ 16) × AllByRecursion P xs)
again_counted read field reader = record {
  of = λ xs rest p.
      ap (counted_from read) (append_assoc (number_field 2 (length xs)) (flat_map field xs) rest)
      ∙ rw ((again_number 2).of (length xs) (flat_map field xs ++ rest) p.0, many_again read field reader xs rest p.1)
      refl;
}
