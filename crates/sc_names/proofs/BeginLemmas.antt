-- The tokens of a descriptor are the first tokens of a name where its bytes begin the name and a token ends there.
use Rattle.std.proofs.Common.{◌≡◌, ℕ, ◌<◌, ◌&&◌, ◌==◌, Bool, true, false, nat_eq, List, [], ◌∷◌, length, refl, arith, cond, ap, sym, ◌∙◌}
use Rattle.std.proofs.Common.{drop}
use Rattle.std.proofs.lemmas.Bool.Decides.{nat_tests}
use Rattle.std.specs.List.{starts_with}
use Rattle.std.specs.Str.{bytes_eq}
use Rattle.sc_types.specs.Descriptors.{is_dot, grow_first, split_at, tokens}
use Rattle.sc_names.specs.Bytes.{is_token_end, begins}

grow_first-some : (b : ℕ) (ts : List (List ℕ)) → 0 < length (grow_first b ts)
grow_first-some b [] = omega arith
grow_first-some b (t ∷ ts) = omega arith

split_at-some : (test : ℕ → Bool) (xs : List ℕ) → 0 < length (split_at test xs)
split_at-some test [] = omega arith
split_at-some test (x ∷ xs) = by (test x)
  where
    by : (v : Bool) → 0 < length (cond v ([] ∷ split_at test xs) (grow_first x (split_at test xs)))
    by true = omega arith
    by false = grow_first-some x (split_at test xs)

&&-assoc : (a b c : Bool) → (a && b) && c ≡ a && (b && c)
&&-assoc true b c = refl
&&-assoc false b c = refl

starts_with-grow : (b c : ℕ) (ts us : List (List ℕ)) → 0 < length ts → 0 < length us
    → starts_with bytes_eq (grow_first c us) (grow_first b ts) ≡ b == c && starts_with bytes_eq us ts
starts_with-grow b c [] us h k = absurd (omega arith)
starts_with-grow b c (t ∷ ts) [] h k = absurd (omega arith)
starts_with-grow b c (t ∷ ts) (u ∷ us) h k =
    &&-assoc (b == c) (bytes_eq t u) (starts_with bytes_eq us ts)

-- a byte that is a dot, and one that is none
both_dots : (b c : ℕ) → is_dot b ≡ true → is_dot c ≡ true → b == c ≡ true
both_dots b c h k = grind (arith, nat_tests)

first_dot : (b c : ℕ) → is_dot b ≡ true → is_dot c ≡ false → b == c ≡ false
first_dot b c h k = grind (arith, nat_tests)

second_dot : (b c : ℕ) → is_dot b ≡ false → is_dot c ≡ true → b == c ≡ false
second_dot b c h k = grind (arith, nat_tests)

added : Bool → ℕ → List (List ℕ) → List (List ℕ)
added v b ts = cond v ([] ∷ ts) (grow_first b ts)

starts_with-added : (v w : Bool) (b c : ℕ) (ts us : List (List ℕ)) → is_dot b ≡ v → is_dot c ≡ w → 0 < length ts → 0 < length us
    → starts_with bytes_eq (added w c us) (added v b ts) ≡ b == c && starts_with bytes_eq us ts
unfolding added
starts_with-added true true b c ts us h k i j = rw (both_dots b c h k)
starts_with-added true false b c ts [] h k i j = absurd (omega arith)
starts_with-added true false b c ts (u ∷ us) h k i j = rw (first_dot b c h k)
starts_with-added false true b c [] us h k i j = absurd (omega arith)
starts_with-added false true b c (t ∷ ts) us h k i j = rw (second_dot b c h k)
starts_with-added false false b c ts us h k i j = starts_with-grow b c ts us i j

-- the tokens of a descriptor begin those of a name exactly where its bytes begin the name and a token ends there
pub starts_with_tokens : (piece name : List ℕ) → starts_with bytes_eq (tokens name) (tokens piece) ≡ begins piece name
unfolding added
starts_with_tokens [] [] = refl
starts_with_tokens [] (c ∷ name) = by (is_dot c) (split_at is_dot name) (split_at-some is_dot name)
  where
    by : (v : Bool) (us : List (List ℕ)) → 0 < length us → starts_with bytes_eq (added v c us) ([] ∷ []) ≡ v
    by true us h = refl
    by false [] h = absurd (omega arith)
    by false (u ∷ us) h = refl
starts_with_tokens (b ∷ piece) [] = by (is_dot b) (split_at is_dot piece) (split_at-some is_dot piece)
  where
    by : (v : Bool) (ts : List (List ℕ)) → 0 < length ts → starts_with bytes_eq ([] ∷ []) (added v b ts) ≡ false
    by true [] h = absurd (omega arith)
    by true (t ∷ ts) h = refl
    by false [] h = absurd (omega arith)
    by false (t ∷ ts) h = refl
starts_with_tokens (b ∷ piece) (c ∷ name) =
    starts_with-added (is_dot b) (is_dot c) b c (tokens piece) (tokens name) refl refl (split_at-some is_dot piece) (split_at-some is_dot name)
    ∙ ap (λ v. b == c && v) (starts_with_tokens piece name)
    ∙ sym (&&-assoc (b == c) (starts_with nat_eq name piece) (is_token_end (drop (length piece) name)))
