-- The chains of names of one hash: what a walk along one has seen, and what a new name makes of them.
use Rattle.std.proofs.Common.{◌≡◌, ◌≢◌, ℕ, ◌+◌, ◌-◌, ◌<◌, ◌≤◌, ◌==◌, inl, inr, nat_lt, Bool, true, false, cond, Option, None, Some, MatchOption, IfSome, slice_get, List, map, [], ◌∷◌, ◌++◌, length, get_or, refl, arith, ap, sym, ◌∙◌, subst, length-append}
use Rattle.std.proofs.Math.Seq.{get_or-append_seam}
use Rattle.std.proofs.lemmas.Bool.{cases_order, cases_lt}
use Rattle.std.proofs.lemmas.Bool.Decides.{nat_tests}
use Rattle.std.proofs.lemmas.List.{get_or-map, get_or_append_left, length-map}
use Rattle.std.proofs.lemmas.Option.{get_or_from_slice_get, slice_get_within}
use Rattle.std.specs.Borrow.{Bor}
use Rattle.std.specs.Option.{option_copied}
use Rattle.std.proofs.lemmas.List.Sums.{position_or_len_is, fails_before_first}
use Rattle.std.specs.Cmp.Lexicographic.{bytes_decides}
use Rattle.std.specs.List.{position_or_len}
use Rattle.std.specs.Str.{bytes_eq}
use Rattle.sc_rooms.specs.Chains.{hash_of, hashes_of, IsLast, IsChained, IsNew, IsPlaceOf, IsIndexed}
use Rattle.sc_rooms.specs.Rooms.{place_of, AreDistinct}

other-name : (names : List (List ℕ)) (name : List ℕ) (i : ℕ) → i < length names
    → get_or (hashes_of names) i 0 ≢ hash_of name → get_or names i [] ≢ name
other-name names name i h n = λ e. n (get_or-map hash_of names i [] 0 h ∙ ap hash_of e)

-- ---- the walk

-- a walk for a name has seen all names from `at` on
pub record Searches (names : List (List ℕ)) (name : List ℕ) (at : ℕ) : Type 0 where
  pub within : at ≤ length names
  pub later : (i : ℕ) → at ≤ i → i < length names → get_or names i [] ≢ name
  pub own : 0 < at → get_or (hashes_of names) (at - 1) 0 ≡ hash_of name

-- a search that begins at the last name of a hash has passed over no such name
pub search-starts : (names : List (List ℕ)) (name : List ℕ) (end : ℕ)
    → IsLast (hashes_of names) (length names) (hash_of name) end → Searches names name end
search-starts names name end l = record {
  within = l.within;
  later = λ i a b. other-name names name i b (l.later i a b);
  own = l.own;
}

-- a search goes on with the name before, where the one that it looked at is another
pub search-goes_on : (names : List (List ℕ)) (earlier : List ℕ) (name : List ℕ) (at : ℕ)
    → IsChained (hashes_of names) earlier → Searches names name at
    → 0 < at → get_or names (at - 1) [] ≢ name → Searches names name (get_or earlier (at - 1) 0)
search-goes_on names earlier name at c s positive n =
    let inside : at - 1 < length (hashes_of names) = omega (arith, length-map names hash_of, s.within) in
    let l = c.each (at - 1) inside in
    let hash : get_or (hashes_of names) (at - 1) 0 ≡ hash_of name = s.own positive in
    record {
      within = omega (arith, l.within, s.within);
      later = λ i a b. elim (cases_order i (at - 1)) [
        | inl e ↦ (λ f. n (ap (λ k. get_or names k []) (sym e) ∙ f))
        | inr o ↦ elim o [
          | inl x ↦ other-name names name i b (λ f. l.later i a x (f ∙ sym hash))
          | inr x ↦ s.later i (omega arith) b
        ]
      ];
      own = λ p. l.own p ∙ hash;
    }

-- where the test of an item's name is true, the item at its place has the name
pub name-true : {T : Type 0} (name_of : T → List ℕ) (items : List T) (name : List ℕ) (item : T) (i : ℕ)
    → i < length items → item ≡ get_or items i item → true ≡ bytes_eq (name_of item) name
    → get_or (map name_of items) i [] ≡ name
name-true name_of items name item i h e t =
    get_or-map name_of items i item [] h ∙ ap name_of (sym e) ∙ (bytes_decides (name_of item) name).0 (sym t)

-- where it is false, the item has another name
pub name-false : {T : Type 0} (name_of : T → List ℕ) (items : List T) (name : List ℕ) (item : T) (i : ℕ)
    → i < length items → item ≡ get_or items i item → false ≡ bytes_eq (name_of item) name
    → get_or (map name_of items) i [] ≢ name
name-false name_of items name item i h e t = λ f.
    let same : name_of item ≡ name = ap name_of e ∙ sym (get_or-map name_of items i item [] h) ∙ f in
    let yes : bytes_eq (name_of item) name ≡ true = (bytes_decides (name_of item) name).1 same in
    cc

-- ---- the place of a name

not_true : (v : Bool) → v ≢ true → v ≡ false
not_true true h = absurd (h refl)
not_true false h = refl

-- names that differ are not equal byte for byte
pub differs : (a b : List ℕ) → a ≢ b → bytes_eq a b ≡ false
differs a b h = not_true (bytes_eq a b) (λ e. h ((bytes_decides a b).0 e))

same_place : (names : List (List ℕ)) (n place : ℕ) → n ≡ place → place < length names
    → cond (nat_lt n (length names)) (Some n) None ≡ Some place
same_place names n place e h =
    let within : nat_lt n (length names) ≡ true = grind (arith, nat_tests, e, h) in
    rw (within, e) refl

no_place : (names : List (List ℕ)) (n : ℕ) → n ≡ length names → cond (nat_lt n (length names)) (Some n) None ≡ None
no_place names n e =
    let past : nat_lt n (length names) ≡ false = grind (arith, nat_tests, e) in
    rw past refl

-- a new name has no place
pub place_of-new : (name : List ℕ) (names : List (List ℕ)) → IsNew name names → place_of name names ≡ None
place_of-new name names h = no_place names (position_or_len (λ other. bytes_eq other name) names)
    (position_or_len_is (λ other. bytes_eq other name) names (length names) [] (omega arith)
    (λ k l. differs (get_or names k []) name (h k l)) (λ l. absurd (omega arith)))

-- where names are distinct, a name has one place
pub place_of-place : (name : List ℕ) (names : List (List ℕ)) (place : ℕ) → AreDistinct names
    → IsPlaceOf name names place → place_of name names ≡ Some place
place_of-place name names place d p = same_place names (position_or_len (λ other. bytes_eq other name) names) place
    (position_or_len_is (λ other. bytes_eq other name) names place [] (omega (arith, p.within))
    (λ k l. differs (get_or names k []) name (λ e. (
    let same : k ≡ place = d k place (omega (arith, p.within)) p.within (e ∙ sym p.named) in omega (arith, same))))
    (λ l. (bytes_decides (get_or names place []) name).1 p.named)) p.within

-- what a walk has found is the place of the name
pub place_of-found : (name : List ℕ) (names : List (List ℕ)) (result : Option ℕ) → AreDistinct names
    → MatchOption result (IsNew name names) (IsPlaceOf name names) → result ≡ place_of name names
place_of-found name names None d h = sym (place_of-new name names h)
place_of-found name names (Some place) d h = sym (place_of-place name names place d h)

-- the name at a place has that place
pub place_of-name : (names : List (List ℕ)) (place : ℕ) (name : Option (Bor (List ℕ))) → AreDistinct names
    → option_copied name ≡ slice_get names place → IfSome name (λ n. place_of n.now names ≡ Some place)
place_of-name names place None d e = tt
place_of-name names place (Some n) d e = place_of-place n.now names place d (record {
  within = slice_get_within names place n.now (sym e);
  named = get_or_from_slice_get names place n.now [] (sym e);
})

past : (names : List (List ℕ)) (n : ℕ) → cond (nat_lt n (length names)) (Some n) None ≡ None → length names ≤ n
past names n e = by (nat_lt n (length names)) refl e
  where
    by : (v : Bool) → nat_lt n (length names) ≡ v → cond v (Some n) None ≡ None → length names ≤ n
    by true f g = cc
    by false f g = grind (arith, nat_tests, f)

-- a name without a place is new
pub new-place_of : (name : List ℕ) (names : List (List ℕ)) → place_of name names ≡ None → IsNew name names
new-place_of name names e i h = λ f.
    let first = past names (position_or_len (λ other. bytes_eq other name) names) e in
    let no = fails_before_first (λ other. bytes_eq other name) names i [] (omega (arith, first)) in
    let yes : bytes_eq (get_or names i []) name ≡ true = (bytes_decides (get_or names i []) name).1 f in
    cc

-- ---- a new name

last-append : (hashes more : List ℕ) (limit hash at : ℕ) → limit ≤ length hashes → IsLast hashes limit hash at
    → IsLast (hashes ++ more) limit hash at
last-append hashes more limit hash at h l = record {
  within = l.within;
  later = λ i a b. (λ f. l.later i a b (sym (get_or_append_left hashes more 0 i (omega arith)) ∙ f));
  own = λ p. get_or_append_left hashes more 0 (at - 1) (omega (arith, l.within)) ∙ l.own p;
}

hashes-append : (names : List (List ℕ)) (name : List ℕ)
    → hashes_of (names ++ name ∷ []) ≡ hashes_of names ++ hash_of name ∷ []
hashes-append [] name = refl
hashes-append (x ∷ names) name = ap (λ hs. hash_of x ∷ hs) (hashes-append names name)

chained-append : (hashes earlier : List ℕ) (hash before : ℕ) → IsChained hashes earlier
    → IsLast hashes (length hashes) hash before
    → IsChained (hashes ++ hash ∷ []) (earlier ++ before ∷ [])
chained-append hashes earlier hash before c l = record {
  size = length-append earlier (before ∷ []) ∙ ap (λ n. n + 1) c.size ∙ sym (length-append hashes (hash ∷ []));
  each = λ j h. elim (cases_lt j (length hashes)) [
    | inl x ↦
        (let y : j < length earlier = omega (arith, c.size) in
        rw (get_or_append_left hashes (hash ∷ []) 0 j x, get_or_append_left earlier (before ∷ []) 0 j y)
        (last-append hashes (hash ∷ []) j (get_or hashes j 0) (get_or earlier j 0) (omega arith) (c.each j x)))
    | inr x ↦
        (let j_is : j ≡ length hashes = omega (arith, length-append hashes (hash ∷ [])) in
        let At : ℕ → Type 0 =
        λ k. IsLast (hashes ++ hash ∷ []) k (get_or (hashes ++ hash ∷ []) k 0) (get_or (earlier ++ before ∷ []) k 0) in
        let end_hash : get_or (hashes ++ hash ∷ []) (length hashes) 0 ≡ hash = get_or-append_seam hashes hash [] 0 in
        let end_before : get_or (earlier ++ before ∷ []) (length hashes) 0 ≡ before =
        ap (λ k. get_or (earlier ++ before ∷ []) k 0) (sym c.size) ∙ get_or-append_seam earlier before [] 0 in
        let last = last-append hashes (hash ∷ []) (length hashes) hash before (omega arith) l in
        subst At (sym j_is) (rw (end_hash, end_before) last))
  ];
}

-- the end of a chain after one more hash
end-append : (hashes : List ℕ) (hash h at : ℕ) → IsLast hashes (length hashes) h at
    → IsLast (hashes ++ hash ∷ []) (length hashes + 1) h (cond (h == hash) (length hashes + 1) at)
end-append hashes hash h at l = by (h == hash) refl
  where
    seam : get_or (hashes ++ hash ∷ []) (length hashes) 0 ≡ hash
    seam = get_or-append_seam hashes hash [] 0

    by : (v : Bool) → (h == hash) ≡ v
        → IsLast (hashes ++ hash ∷ []) (length hashes + 1) h (cond v (length hashes + 1) at)
    by true e =
        let same : h ≡ hash = grind (arith, nat_tests) in
        let place : length hashes + 1 - 1 ≡ length hashes = omega arith in
        record {
          within = omega arith;
          later = λ i a b. absurd (omega arith);
          own = λ p. ap (λ k. get_or (hashes ++ hash ∷ []) k 0) place ∙ seam ∙ sym same;
        }
    by false e =
        let other : h ≢ hash = grind (arith, nat_tests) in
        let kept = last-append hashes (hash ∷ []) (length hashes) h at (omega arith) l in
        record {
          within = omega (arith, l.within);
          later = λ i a b. elim (cases_lt i (length hashes)) [
            | inl x ↦ kept.later i a x
            | inr x ↦
                (let place : i ≡ length hashes = omega arith in
                λ f. other (sym f ∙ ap (λ k. get_or (hashes ++ hash ∷ []) k 0) place ∙ seam))
          ];
          own = kept.own;
        }

distinct-append : (names : List (List ℕ)) (name : List ℕ) → AreDistinct names
    → ((i : ℕ) → i < length names → get_or names i [] ≢ name)
    → AreDistinct (names ++ name ∷ [])
distinct-append names name d new i j a b f =
    let long = length-append names (name ∷ []) in
    elim (cases_lt i (length names)) [
      | inl x ↦ elim (cases_lt j (length names)) [
        | inl y ↦ d i j x y
            (sym (get_or_append_left names (name ∷ []) [] i x) ∙ f ∙ get_or_append_left names (name ∷ []) [] j y)
        | inr y ↦
            (let place : j ≡ length names = omega (arith, long) in
            let last = ap (λ k. get_or (names ++ name ∷ []) k []) place ∙ get_or-append_seam names name [] [] in
            absurd (new i x (sym (get_or_append_left names (name ∷ []) [] i x) ∙ f ∙ last)))
      ]
      | inr x ↦ elim (cases_lt j (length names)) [
        | inl y ↦
            (let place : i ≡ length names = omega (arith, long) in
            let last = ap (λ k. get_or (names ++ name ∷ []) k []) place ∙ get_or-append_seam names name [] [] in
            absurd (new j y (sym (get_or_append_left names (name ∷ []) [] j y) ∙ sym f ∙ last)))
        | inr y ↦ omega (arith, long)
      ]
    ]

-- a new name that is appended and entered as the last of its hash is indexed
pub indexed-add : (names : List (List ℕ)) (earlier : List ℕ) (ends_at new_ends : ℕ → ℕ) (name : List ℕ) (before : ℕ)
    → IsIndexed names earlier ends_at → IsNew name names → before ≡ ends_at (hash_of name)
    → ((h : ℕ) → new_ends h ≡ cond (h == hash_of name) (length names + 1) (ends_at h))
    → IsIndexed (names ++ name ∷ []) (earlier ++ before ∷ []) new_ends
indexed-add names earlier ends_at new_ends name before x new e ends =
    let hash = hash_of name in
    let count : length (hashes_of names) ≡ length names = length-map names hash_of in
    let Chained : List ℕ → Type 0 = λ hs. IsChained hs (earlier ++ before ∷ []) in
    let at_end : (h : ℕ) → IsLast (hashes_of names) (length (hashes_of names)) h (ends_at h) =
    λ h. (
    let Limit : ℕ → Type 0 = λ n. IsLast (hashes_of names) n h (ends_at h) in
    subst Limit (sym count) (x.ends h)) in
    let Before : ℕ → Type 0 = λ n. IsLast (hashes_of names) (length (hashes_of names)) hash n in
    record {
      chained = subst Chained (sym (hashes-append names name))
          (chained-append (hashes_of names) earlier hash before x.chained (subst Before (sym e) (at_end hash)));
      distinct = distinct-append names name x.distinct new;
      ends = λ h. (
          let Hashes : List ℕ → Type 0 = λ hs. IsLast hs (length (names ++ name ∷ [])) h (new_ends h) in
          let Limit : ℕ → Type 0 = λ n. IsLast (hashes_of names ++ hash ∷ []) n h (new_ends h) in
          let End : ℕ → Type 0 = λ n. IsLast (hashes_of names ++ hash ∷ []) (length (hashes_of names) + 1) h n in
          let limit : length (hashes_of names) + 1 ≡ length (names ++ name ∷ []) =
          ap (λ n. n + 1) count ∙ sym (length-append names (name ∷ [])) in
          let end : cond (h == hash) (length (hashes_of names) + 1) (ends_at h) ≡ new_ends h =
          ap (λ n. cond (h == hash) (n + 1) (ends_at h)) count ∙ sym (ends h) in
          subst Hashes (sym (hashes-append names name))
          (subst Limit limit (subst End end (end-append (hashes_of names) hash h (ends_at h) (at_end h)))));
    }
