-- Texts of several words: what is joined of the pieces of a text has the same pieces.
use Rattle.std.proofs.Common.{◌≡◌, ℕ, zero, suc, ◌+◌, ◌-◌, ◌<◌, Bool, true, false, cond, not, if◌then◌else◌, ◌&&◌, nat_lt, List, [], ◌∷◌, ◌++◌, length, get_or, filter, slice_index, refl, sym, ap, ◌∙◌, arith, length-append}
use Rattle.std.proofs.lemmas.Bool.{and_parts, and_from, lt-ltb, ltb-true, true≢false, not_from_false}
use Rattle.std.proofs.lemmas.List.{get_or_append_left, get_or-append-add}
use Rattle.std.specs.List.{list_all, join_with_byte}
use Rattle.sc_types.specs.Descriptors.{is_white_space, grow_first, split_at, pieces}
use Rattle.sc_types.specs.Elements.{are_pieces}

abbrev is_black : ℕ → Bool
is_black b = not (is_white_space b)

abbrev is_some_piece : List ℕ → Bool
is_some_piece piece = nat_lt 0 (length piece)

-- something, without white space
abbrev is_solid : List ℕ → Bool
is_solid piece = is_some_piece piece && list_all is_black piece

-- ---- the pieces of a text are solid

grown_black : (b : ℕ) (parts : List (List ℕ)) → is_white_space b ≡ false → list_all (list_all is_black) parts ≡ true
    → list_all (list_all is_black) (grow_first b parts) ≡ true
grown_black b [] black all = and_from _ true (and_from _ true (not_from_false _ black) refl) refl
grown_black b (piece ∷ rest) black all =
    let both = and_parts (list_all is_black piece) _ all in
    and_from _ _ (and_from _ _ (not_from_false _ black) both.0) both.1

split_black : (text : List ℕ) → list_all (list_all is_black) (split_at is_white_space text) ≡ true
split_black [] = refl
split_black (b ∷ bs) = by (is_white_space b) refl (split_black bs)
  where
    by : (v : Bool) → is_white_space b ≡ v → list_all (list_all is_black) (split_at is_white_space bs) ≡ true
        → list_all (list_all is_black) (if v then [] ∷ split_at is_white_space bs else grow_first b (split_at is_white_space bs)) ≡ true
    by true h later = later
    by false h later = grown_black b (split_at is_white_space bs) h later

kept_solid : (parts : List (List ℕ)) → list_all (list_all is_black) parts ≡ true → list_all is_solid (filter is_some_piece parts) ≡ true
kept_solid [] all = refl
kept_solid (part ∷ parts) all =
    let both = and_parts (list_all is_black part) _ all in
    by (is_some_piece part) refl both.0 (kept_solid parts both.1)
  where
    by : (v : Bool) → is_some_piece part ≡ v → list_all is_black part ≡ true → list_all is_solid (filter is_some_piece parts) ≡ true
        → list_all is_solid (cond v (part ∷ filter is_some_piece parts) (filter is_some_piece parts)) ≡ true
    by true h black later = and_from _ _ (and_from _ _ h black) later
    by false h black later = later

-- each piece of a text has something in it, and no white space
pub pieces_solid : (text : List ℕ) → list_all is_solid (pieces text) ≡ true
pieces_solid text = kept_solid (split_at is_white_space text) (split_black text)

-- ---- the pieces of what is joined

split_before : (word rest : List ℕ) → list_all is_black word ≡ true
    → split_at is_white_space (word ++ 32 ∷ rest) ≡ word ∷ split_at is_white_space rest
split_before [] rest black = refl
split_before (b ∷ word) rest black =
    let both = and_parts (is_black b) _ black in
    by (is_white_space b) refl both.0 (split_before word rest both.1)
  where
    by : (v : Bool) → is_white_space b ≡ v → is_black b ≡ true → split_at is_white_space (word ++ 32 ∷ rest) ≡ word ∷ split_at is_white_space rest
        → (if v then [] ∷ split_at is_white_space (word ++ 32 ∷ rest) else grow_first b (split_at is_white_space (word ++ 32 ∷ rest))) ≡ (b ∷ word) ∷ split_at is_white_space rest
    by true h is later = absurd (true≢false (sym is ∙ ap not h))
    by false h is later = ap (grow_first b) later

split_last : (word : List ℕ) → list_all is_black word ≡ true → split_at is_white_space word ≡ word ∷ []
split_last [] black = refl
split_last (b ∷ word) black =
    let both = and_parts (is_black b) _ black in
    by (is_white_space b) refl both.0 (split_last word both.1)
  where
    by : (v : Bool) → is_white_space b ≡ v → is_black b ≡ true → split_at is_white_space word ≡ word ∷ []
        → (if v then [] ∷ split_at is_white_space word else grow_first b (split_at is_white_space word)) ≡ (b ∷ word) ∷ []
    by true h is later = absurd (true≢false (sym is ∙ ap not h))
    by false h is later = ap (grow_first b) later

keeps : (word : List ℕ) (rest more : List (List ℕ)) → is_some_piece word ≡ true → filter is_some_piece rest ≡ more
    → filter is_some_piece (word ∷ rest) ≡ word ∷ more
keeps word rest more some is = ap (λ v. cond v (word ∷ filter is_some_piece rest) (filter is_some_piece rest)) some ∙ ap (λ ps. word ∷ ps) is

joined_pieces : (words : List (List ℕ)) → list_all is_solid words ≡ true → pieces (join_with_byte 32 words) ≡ words
joined_pieces [] all = refl
joined_pieces (w ∷ []) all =
    let solid = and_parts _ _ (and_parts (is_solid w) true all).0 in
    ap (filter is_some_piece) (split_last w solid.1) ∙ keeps w [] [] solid.0 refl
joined_pieces (w ∷ v ∷ words) all =
    let both = and_parts (is_solid w) _ all in
    let solid = and_parts _ _ both.0 in
    ap (filter is_some_piece) (split_before w (join_with_byte 32 (v ∷ words)) solid.1)
    ∙ keeps w (split_at is_white_space (join_with_byte 32 (v ∷ words))) (v ∷ words) solid.0 (joined_pieces (v ∷ words) both.1)

-- the pieces of a text, joined by single spaces, are its pieces again
pub pieces_again : (text : List ℕ) → pieces (join_with_byte 32 (pieces text)) ≡ pieces text
pieces_again text = joined_pieces (pieces text) (pieces_solid text)

-- ---- no white space round what is joined

black_at : (word : List ℕ) (i : ℕ) → list_all is_black word ≡ true → i < length word → is_black (get_or word i 0) ≡ true
black_at [] i black within = absurd (omega arith)
black_at (b ∷ word) zero black within = (and_parts (is_black b) _ black).0
black_at (b ∷ word) (suc i) black within = black_at word i (and_parts (is_black b) _ black).1 (omega arith)

-- something, with no white space round it
record IsTight (text : List ℕ) : Type 0 where
  some : 0 < length text
  first : is_black (get_or text 0 0) ≡ true
  last : is_black (get_or text (length text - 1) 0) ≡ true

tight_word : (word : List ℕ) → is_solid word ≡ true → IsTight word
tight_word word solid =
    let both = and_parts (is_some_piece word) _ solid in
    let some : 0 < length word = ltb-true 0 (length word) both.0 in
    record { some = some; first = black_at word 0 both.1 some; last = black_at word (length word - 1) both.1 (omega arith) }

last_behind : (a b : List ℕ) → 0 < length b → get_or (a ++ b) (length (a ++ b) - 1) 0 ≡ get_or b (length b - 1) 0
last_behind a b some =
    let at : length (a ++ b) - 1 ≡ length a + (length b - 1) = omega (arith, length-append a b) in
    ap (λ i. get_or (a ++ b) i 0) at ∙ get_or-append-add a b (length b - 1) 0

tight_around : (a b : List ℕ) → IsTight a → IsTight b → IsTight (a ++ 32 ∷ b)
tight_around a b ha hb =
    record {
      some = omega (arith, ha.some, length-append a (32 ∷ b));
      first = ap is_black (get_or_append_left a (32 ∷ b) 0 0 ha.some) ∙ ha.first;
      last = ap is_black (last_behind a (32 ∷ b) (omega arith) ∙ last_behind (32 ∷ []) b hb.some) ∙ hb.last;
    }

tight_joined : (w : List ℕ) (words : List (List ℕ)) → list_all is_solid (w ∷ words) ≡ true → IsTight (join_with_byte 32 (w ∷ words))
tight_joined w [] all = tight_word w (and_parts (is_solid w) true all).0
tight_joined w (v ∷ words) all =
    let both = and_parts (is_solid w) _ all in
    tight_around w (join_with_byte 32 (v ∷ words)) (tight_word w both.0) (tight_joined v words both.1)

-- ---- a text of several words

grown_some : (b : ℕ) (parts : List (List ℕ)) → 0 < length (filter is_some_piece (grow_first b parts))
grown_some b [] = omega arith
grown_some b (piece ∷ rest) =
    let some : nat_lt 0 (suc (length piece)) ≡ true = lt-ltb 0 (suc (length piece)) (omega arith) in
    rw some (omega arith)

some_piece : (text : List ℕ) → 0 < length text → is_black (get_or text 0 0) ≡ true → 0 < length (pieces text)
some_piece [] some black = absurd (omega arith)
some_piece (b ∷ bs) some black = by (is_white_space b) refl
  where
    by : (v : Bool) → is_white_space b ≡ v
        → 0 < length (filter is_some_piece (if v then [] ∷ split_at is_white_space bs else grow_first b (split_at is_white_space bs)))
    by true h = absurd (true≢false (sym black ∙ ap not h))
    by false h = grown_some b (split_at is_white_space bs)

tight_again : (words : List (List ℕ)) → 0 < length words → list_all is_solid words ≡ true → IsTight (join_with_byte 32 words)
tight_again [] some all = absurd (omega arith)
tight_again (w ∷ words) some all = tight_joined w words all

-- what is joined passes each test of its pieces that the text passed
pub are_pieces_again : (test : List ℕ → Bool) (text : List ℕ) → are_pieces test text ≡ true → are_pieces test (join_with_byte 32 (pieces text)) ≡ true
unfolding are_pieces
are_pieces_again test text are =
    let first_three = and_parts _ (list_all test (pieces text)) are in
    let first_two = and_parts _ (is_black (slice_index text (length text - 1))) first_three.0 in
    let known = and_parts (nat_lt 0 (length text)) (is_black (slice_index text 0)) first_two.0 in
    let some : 0 < length (pieces text) = some_piece text (ltb-true 0 (length text) known.0) known.1 in
    let tight = tight_again (pieces text) some (pieces_solid text) in
    and_from _ _
    (and_from _ _ (and_from _ _ (lt-ltb 0 (length (join_with_byte 32 (pieces text))) tight.some) tight.first) tight.last)
    (ap (list_all test) (pieces_again text) ∙ first_three.1)
