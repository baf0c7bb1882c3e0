-- Rows that have names: where the first row of a name stands, and what putting a value there does.
use Rattle.std.proofs.Common.{◌≡◌, ℕ, zero, suc, ◌+◌, ◌<◌, nat_lt, not, Bool, false, true, cond, List, ◌∷◌, [], ◌++◌, length, map, take, set, get_or, Option, Some, None, option_map, is_some, find, ap, refl, arith, sym, ◌∙◌, ◌||◌, subst}
use Rattle.std.specs.Cmp.Lexicographic.{bytes_decides, nat_list_eq_equiv}
use Rattle.std.specs.List.{IsDistinct, AllByRecursion, list_any, position, position_or_len}
use Rattle.std.specs.Option.{option_or}
use Rattle.std.specs.Str.{bytes_eq}
use Rattle.std.proofs.lemmas.Bool.{lt-ltb, ltb-true}
use Rattle.std.proofs.lemmas.Grind.{common_steps}
use Rattle.std.proofs.lemmas.Map.Keys.{IsDistinct-head, IsDistinct-tail, IsDistinct-push}
use Rattle.sc_types.specs.declared.value.Value.{Value}
use Rattle.sc_law.specs.Data.{put_pair}
use Rattle.sc_law.specs.Evaluation.{is_pair_named}
use Rattle.sc_eval.specs.Envs.{AreWithin}
use Rattle.sc_eval.specs.Places.{first_place, names_of}

first_more : (b : Bool) (n long : ℕ) (o : Option ℕ) → cond (nat_lt n long) (Some n) None ≡ o
    → cond (nat_lt (cond (not b) (1 + n) 0) (suc long)) (Some (cond (not b) (1 + n) 0)) None
    ≡ cond b (Some 0) (option_map (λ place. suc place) o)
first_more true n long o e = ap (λ b. cond b (Some 0) None) (lt-ltb 0 (suc long) (omega arith))
first_more false n long o e = by (nat_lt n long) refl e where
  by : (less : Bool) → nat_lt n long ≡ less → cond less (Some n) None ≡ o
      → cond (nat_lt (1 + n) (suc long)) (Some (1 + n)) None ≡ option_map (λ place. suc place) o
  by true is e =
      let below = ltb-true n long is in
      let more : 1 + n ≡ suc n = omega arith in
      ap (λ b. cond b (Some (1 + n)) None) (lt-ltb (1 + n) (suc long) (omega arith))
      ∙ ap Some more ∙ ap (λ p. option_map (λ place. suc place) p) e
  by false is e = grind (arith, common_steps)

module _ {A : Type 0} where
  -- a search from the front finds the place of a name
  pub place_found : (name : List ℕ) (rows : List (List ℕ × A))
      → position (λ (row : List ℕ × A). bytes_eq row.0 name) rows ≡ first_place name rows
  place_found name [] = refl
  place_found name (r ∷ rs) =
      first_more (bytes_eq r.0 name) (position_or_len (λ (row : List ℕ × A). bytes_eq row.0 name) rs) (length rs)
      (first_place name rs) (place_found name rs)

  -- a name has a place exactly where some row has it
  pub is_some-first_place : (name : List ℕ) (rows : List (List ℕ × A))
      → is_some (first_place name rows) ≡ list_any (is_pair_named name) rows
  is_some-first_place name [] = refl
  is_some-first_place name (r ∷ rs) = by (bytes_eq r.0 name) (first_place name rs) (is_some-first_place name rs) where
    by : (b : Bool) (o : Option ℕ) → is_some o ≡ list_any (is_pair_named name) rs
        → is_some (cond b (Some 0) (option_map (λ place. suc place) o)) ≡ (b || list_any (is_pair_named name) rs)
    by true o e = refl
    by false None e = e
    by false (Some n) e = e

  -- the row at the place of a name is the first of that name
  pub find_at : (name : List ℕ) (rows : List (List ℕ × A)) (i : ℕ) (row : List ℕ × A)
      → first_place name rows ≡ Some i → row ≡ get_or rows i row → find (is_pair_named name) rows ≡ Some row
  find_at name [] i row e h = cc
  find_at name (r ∷ rs) i row e h =
      by (bytes_eq r.0 name) (first_place name rs) (λ i e h. find_at name rs i row e h) i e h where
        by : (b : Bool) (o : Option ℕ) → ((i : ℕ) → o ≡ Some i → row ≡ get_or rs i row → find (is_pair_named name) rs ≡ Some row) → (i : ℕ)
            → cond b (Some 0) (option_map (λ place. suc place) o) ≡ Some i → row ≡ get_or (r ∷ rs) i row
            → cond b (Some r) (find (is_pair_named name) rs) ≡ Some row
        by true o s zero e h = ap Some (sym h)
        by true o s (suc i) e h = let no : 0 ≡ suc i = cc in absurd (omega arith)
        by false None s i e h = cc
        by false (Some n) s zero e h = let no : suc n ≡ 0 = cc in absurd (omega arith)
        by false (Some n) s (suc i) e h =
            let same : suc n ≡ suc i = cc in
            let here : n ≡ i = omega arith in
            s i (ap Some here) h

  -- a place is one of the list
  pub place_within : (name : List ℕ) (rows : List (List ℕ × A)) (i : ℕ) → first_place name rows ≡ Some i → i < length rows
  place_within name [] i e = cc
  place_within name (r ∷ rs) i e = by (bytes_eq r.0 name) (first_place name rs) (λ i e. place_within name rs i e) i e where
    by : (b : Bool) (o : Option ℕ) → ((i : ℕ) → o ≡ Some i → i < length rs) → (i : ℕ)
        → cond b (Some 0) (option_map (λ place. suc place) o) ≡ Some i → i < length (r ∷ rs)
    by true o s i e = let here : 0 ≡ i = cc in omega arith
    by false None s i e = cc
    by false (Some n) s i e =
        let same : suc n ≡ i = cc in
        let below : n < length rs = s n refl in
        omega arith

  -- a name without a place is no row's
  pub find_none : (name : List ℕ) (rows : List (List ℕ × A)) → first_place name rows ≡ None → find (is_pair_named name) rows ≡ None
  find_none name [] e = refl
  find_none name (r ∷ rs) e = by (bytes_eq r.0 name) (first_place name rs) (λ e. find_none name rs e) e where
    by : (b : Bool) (o : Option ℕ) → (o ≡ None → find (is_pair_named name) rs ≡ None)
        → cond b (Some 0) (option_map (λ place. suc place) o) ≡ None → cond b (Some r) (find (is_pair_named name) rs) ≡ None
    by true o s e = cc
    by false None s e = s refl
    by false (Some n) s e = cc

  -- a row more
  pub first_place-push : (name : List ℕ) (rows : List (List ℕ × A)) (row : List ℕ × A)
      → first_place name (rows ++ row ∷ [])
      ≡ option_or (first_place name rows) (cond (bytes_eq row.0 name) (Some (length rows)) None)
  first_place-push name [] row = by (bytes_eq row.0 name) where
    by : (b : Bool) → cond {A = Option ℕ} b (Some 0) None ≡ option_or None (cond {A = Option ℕ} b (Some 0) None)
    by true = refl
    by false = refl
  first_place-push name (r ∷ rs) row = by (bytes_eq r.0 name) (first_place name rs) (bytes_eq row.0 name) (first_place-push name rs row) where
    by : (b : Bool) (o : Option ℕ) (new : Bool) → first_place name (rs ++ row ∷ []) ≡ option_or o (cond new (Some (length rs)) None)
        → cond b (Some 0) (option_map (λ place. suc place) (first_place name (rs ++ row ∷ [])))
        ≡ option_or (cond b (Some 0) (option_map (λ place. suc place) o)) (cond new (Some (length (r ∷ rs))) None)
    by true o new e = refl
    by false None true e = ap (λ p. option_map (λ place. suc place) p) e
    by false None false e = ap (λ p. option_map (λ place. suc place) p) e
    by false (Some n) new e = ap (λ p. option_map (λ place. suc place) p) e

  -- a name that no row has
  none_of : (name : List ℕ) (rows : List (List ℕ × A)) → AllByRecursion (λ other. bytes_eq name other ≡ false) (names_of rows)
      → first_place name rows ≡ None
  none_of name [] h = refl
  none_of name (r ∷ rs) h =
      ap (λ b. cond b (Some 0) (option_map (λ place. suc place) (first_place name rs))) (nat_list_eq_equiv.symm r.0 name ∙ h.0)
      ∙ ap (λ p. option_map (λ place. suc place) p) (none_of name rs h.1)

  all_at : (P : List ℕ → Type 0) (rows : List (List ℕ × A)) (i : ℕ) (row : List ℕ × A) → AllByRecursion P (names_of rows)
      → i < length rows → row ≡ get_or rows i row → P row.0
  all_at P [] i row h within e = absurd (omega arith)
  all_at P (r ∷ rs) zero row h within e = subst (λ (x : List ℕ × A). P x.0) (sym e) h.0
  all_at P (r ∷ rs) (suc i) row h within e = all_at P rs i row h.1 (omega arith) e

  -- where no name stands twice, the name of a row is none of those before
  pub fresh_at : (rows : List (List ℕ × A)) (i : ℕ) (row : List ℕ × A) → IsDistinct bytes_eq (names_of rows)
      → i < length rows → row ≡ get_or rows i row → first_place row.0 (take i rows) ≡ None
  fresh_at [] i row h within e = absurd (omega arith)
  fresh_at (r ∷ rs) zero row h within e = refl
  fresh_at (r ∷ rs) (suc i) row h within e =
      let apart : bytes_eq r.0 row.0 ≡ false = all_at (λ other. bytes_eq r.0 other ≡ false) rs i row (IsDistinct-head bytes_eq r.0 (names_of rs) h) (omega arith) e in
      ap (λ b. cond b (Some 0) (option_map (λ place. suc place) (first_place row.0 (take i rs)))) apart
      ∙ ap (λ p. option_map (λ place. suc place) p) (fresh_at rs i row (IsDistinct-tail bytes_eq r.0 (names_of rs) h) (omega arith) e)

  names-push : (rows : List (List ℕ × A)) (row : List ℕ × A) → names_of (rows ++ row ∷ []) ≡ names_of rows ++ row.0 ∷ []
  names-push [] row = refl
  names-push (r ∷ rs) row = ap (λ names. r.0 ∷ names) (names-push rs row)

  any_name : (name : List ℕ) (rows : List (List ℕ × A)) → list_any (bytes_eq name) (names_of rows) ≡ list_any (is_pair_named name) rows
  any_name name [] = refl
  any_name name (r ∷ rs) =
      ap (λ b. b || list_any (bytes_eq name) (names_of rs)) (nat_list_eq_equiv.symm name r.0)
      ∙ ap (λ b. bytes_eq r.0 name || b) (any_name name rs)

  -- no name stands twice after a row of a new name
  pub distinct-push : (rows : List (List ℕ × A)) (row : List ℕ × A) → IsDistinct bytes_eq (names_of rows)
      → list_any (is_pair_named row.0) rows ≡ false → IsDistinct bytes_eq (names_of (rows ++ row ∷ []))
  distinct-push rows row h new =
      subst (λ (names : List (List ℕ)). IsDistinct bytes_eq names) (sym (names-push rows row))
      (IsDistinct-push nat_list_eq_equiv (names_of rows) row.0 h (any_name row.0 rows ∙ new))

-- a value that is put where no row has the name changes nothing
pub put_none : (name : List ℕ) (v : Option Value) (rows : List (List ℕ × Option Value)) → first_place name rows ≡ None
    → map (put_pair name v) rows ≡ rows
put_none name v [] e = refl
put_none name v (r ∷ rs) e = by (bytes_eq r.0 name) (first_place name rs) (λ e. put_none name v rs e) e where
  by : (b : Bool) (o : Option ℕ) → (o ≡ None → map (put_pair name v) rs ≡ rs) → cond b (Some 0) (option_map (λ place. suc place) o) ≡ None
      → (r.0, cond b v r.1) ∷ map (put_pair name v) rs ≡ r ∷ rs
  by true o s e = cc
  by false None s e = ap (λ rest. r ∷ rest) (s refl)
  by false (Some n) s e = cc

-- a value that is put at the place of a name is put in each row of that name, since there is one
pub put_at : (name : List ℕ) (v : Option Value) (rows : List (List ℕ × Option Value)) (i : ℕ) (row : List ℕ × Option Value)
    → IsDistinct bytes_eq (names_of rows) → first_place name rows ≡ Some i → row ≡ get_or rows i row
    → set rows i (row.0, v) ≡ map (put_pair name v) rows
put_at name v [] i row d e h = cc
put_at name v (r ∷ rs) i row d e h =
    by (bytes_eq r.0 name) refl (first_place name rs)
    (λ i e h. put_at name v rs i row (IsDistinct-tail bytes_eq r.0 (names_of rs) d) e h) i e h where
      by : (b : Bool) → bytes_eq r.0 name ≡ b → (o : Option ℕ)
          → ((i : ℕ) → o ≡ Some i → row ≡ get_or rs i row → set rs i (row.0, v) ≡ map (put_pair name v) rs) → (i : ℕ)
          → cond b (Some 0) (option_map (λ place. suc place) o) ≡ Some i → row ≡ get_or (r ∷ rs) i row
          → set (r ∷ rs) i (row.0, v) ≡ (r.0, cond b v r.1) ∷ map (put_pair name v) rs
      by true same o s zero e h =
          let named : r.0 ≡ name = (bytes_decides r.0 name).0 same in
          let none : first_place name rs ≡ None =
          none_of name rs (subst (λ (n : List ℕ). AllByRecursion (λ other. bytes_eq n other ≡ false) (names_of rs)) named (IsDistinct-head bytes_eq r.0 (names_of rs) d)) in
          ap (λ (x : List ℕ × Option Value). (x.0, v) ∷ rs) h ∙ ap (λ (rest : List (List ℕ × Option Value)). (r.0, v) ∷ rest) (sym (put_none name v rs none))
      by true same o s (suc i) e h = let no : 0 ≡ suc i = cc in absurd (omega arith)
      by false same None s i e h = cc
      by false same (Some n) s zero e h = let no : suc n ≡ 0 = cc in absurd (omega arith)
      by false same (Some n) s (suc i) e h =
          let equal : suc n ≡ suc i = cc in
          let here : n ≡ i = omega arith in
          ap (λ rest. r ∷ rest) (s i (ap Some here) h)

-- a value that is put leaves the names
pub names-put : (name : List ℕ) (v : Option Value) (rows : List (List ℕ × Option Value))
    → names_of (map (put_pair name v) rows) ≡ names_of rows
names-put name v [] = refl
names-put name v (r ∷ rs) = ap (λ names. r.0 ∷ names) (names-put name v rs)

-- and their count
pub put_long : (name : List ℕ) (v : Option Value) (rows : List (List ℕ × Option Value))
    → length (map (put_pair name v) rows) ≡ length rows
put_long name v [] = refl
put_long name v (r ∷ rs) = ap (λ n. suc n) (put_long name v rs)

-- and the places
pub first_place-put : (other name : List ℕ) (v : Option Value) (rows : List (List ℕ × Option Value))
    → first_place other (map (put_pair name v) rows) ≡ first_place other rows
first_place-put other name v [] = refl
first_place-put other name v (r ∷ rs) =
    ap (λ p. cond (bytes_eq r.0 other) (Some 0) (option_map (λ place. suc place) p)) (first_place-put other name v rs)

-- no row, no name twice
pub distinct_none : IsDistinct {K = List ℕ} bytes_eq []
unfolding IsDistinct
distinct_none = tt

-- a number that an id has is within the width, where those of all ids are
pub within_found : (width : ℕ) (rows : List (List ℕ × ℕ)) (id : List ℕ) (n : ℕ) → AreWithin width rows
    → option_map (λ (row : List ℕ × ℕ). row.1) (find (is_pair_named id) rows) ≡ Some n → n < width
within_found width [] id n h e = cc
within_found width (r ∷ rs) id n h e = by (bytes_eq r.0 id) (λ e. within_found width rs id n h.1 e) e where
  by : (b : Bool) → (option_map (λ (row : List ℕ × ℕ). row.1) (find (is_pair_named id) rs) ≡ Some n → n < width)
      → option_map (λ (row : List ℕ × ℕ). row.1) (cond b (Some r) (find (is_pair_named id) rs)) ≡ Some n → n < width
  by true rest e = let same : r.1 ≡ n = cc in subst (λ (m : ℕ). m < width) same h.0
  by false rest e = rest e
