-- The pieces of a text between white space.
use Rattle.std.proofs.Common.{◌≡◌, ℕ, ◌+◌, ◌-◌, ◌<◌, ◌≤◌, ◌&&◌, ◌||◌, inl, inr, suc, nat_lt, Bool, true, false, cond, filter, List, [], ◌∷◌, ◌++◌, length, take, drop, get_or, refl, arith, ap, sym, ◌∙◌, length-take, get_or-take, get_or-drop, drop-cons, take-append-drop, length-drop}
use Rattle.std.proofs.lemmas.List.{drop-drop, take_rest}
use Rattle.std.proofs.lemmas.Bool.{cases_lt}
use Rattle.std.specs.List.{list_any}
use Rattle.sc_types.specs.Descriptors.{is_white_space, grow_first, split_at, piece_matches, matches}

-- the text has no white space
abbrev pub IsSolid : List ℕ → Type 0
IsSolid xs = (k : ℕ) → k < length xs → is_white_space (get_or xs k 0) ≡ false

split_at-solid : (xs : List ℕ) → IsSolid xs → split_at is_white_space xs ≡ xs ∷ []
split_at-solid [] h = refl
split_at-solid (x ∷ xs) h =
    ap (λ v. cond v ([] ∷ split_at is_white_space xs) (grow_first x (split_at is_white_space xs))) (h 0 (omega arith))
    ∙ ap (grow_first x) (split_at-solid xs (λ k b. h (suc k) (omega arith)))

split_at-space : (xs : List ℕ) (w : ℕ) (ys : List ℕ) → IsSolid xs → is_white_space w ≡ true
    → split_at is_white_space (xs ++ w ∷ ys) ≡ xs ∷ split_at is_white_space ys
split_at-space [] w ys h e = ap (λ v. cond v ([] ∷ split_at is_white_space ys) (grow_first w (split_at is_white_space ys))) e
split_at-space (x ∷ xs) w ys h e =
    ap (λ v. cond v ([] ∷ split_at is_white_space (xs ++ w ∷ ys)) (grow_first x (split_at is_white_space (xs ++ w ∷ ys)))) (h 0 (omega arith))
    ∙ ap (grow_first x) (split_at-space xs w ys (λ k b. h (suc k) (omega arith)) e)

-- a piece that matches
abbrev pub hits : List ℕ → List ℕ → Bool
hits piece name = nat_lt 0 (length piece) && piece_matches piece name

any-first : (p q : List ℕ → Bool) (x : List ℕ) (xs : List (List ℕ)) → list_any p (filter q (x ∷ xs)) ≡ ((q x && p x) || list_any p (filter q xs))
any-first p q x xs = by (q x)
  where
    by : (v : Bool) → list_any p (cond v (x ∷ filter q xs) (filter q xs)) ≡ ((v && p x) || list_any p (filter q xs))
    by true = refl
    by false = refl

or-false : (v : Bool) → (v || false) ≡ v
or-false true = refl
or-false false = refl

matches-solid : (xs name : List ℕ) → IsSolid xs → matches xs name ≡ hits xs name
matches-solid xs name h =
    let p : List ℕ → Bool = λ x. piece_matches x name in
    let q : List ℕ → Bool = λ x. nat_lt 0 (length x) in
    ap (λ ps. list_any p (filter q ps)) (split_at-solid xs h) ∙ any-first p q xs [] ∙ or-false (hits xs name)

matches-space : (xs : List ℕ) (w : ℕ) (ys name : List ℕ) → IsSolid xs → is_white_space w ≡ true
    → matches (xs ++ w ∷ ys) name ≡ (hits xs name || matches ys name)
matches-space xs w ys name h e =
    let p : List ℕ → Bool = λ x. piece_matches x name in
    let q : List ℕ → Bool = λ x. nat_lt 0 (length x) in
    ap (λ ps. list_any p (filter q ps)) (split_at-space xs w ys h e) ∙ any-first p q xs (split_at is_white_space ys)

-- ---- the piece from one place of a list to another

abbrev pub SolidFrom : ℕ → ℕ → List ℕ → Type 0
SolidFrom start end list = (k : ℕ) → start ≤ k → k < end → is_white_space (get_or list k 0) ≡ false

solid-part : (start end : ℕ) (list : List ℕ) → SolidFrom start end list → end ≤ length list → IsSolid (take (end - start) (drop start list))
solid-part start end list h within k b =
    let short : k < end - start = omega (arith, length-take (end - start) (drop start list)) in
    let long : start + k < length list = omega (arith, length-take (end - start) (drop start list), length-drop start list) in
    ap is_white_space (get_or-take (end - start) (drop start list) k 0 short ∙ get_or-drop start list k 0)
    ∙ h (start + k) (omega arith) (omega arith)

-- without white space in the rest of the list, its match is that of the rest as one descriptor
pub matches-last : (start : ℕ) (list name : List ℕ) → SolidFrom start (length list) list
    → matches (drop start list) name ≡ hits (take (length list - start) (drop start list)) name
matches-last start list name h =
    ap (λ xs. matches xs name) (sym (take_rest list start))
    ∙ matches-solid (take (length list - start) (drop start list)) name (solid-part start (length list) list h (omega arith))

-- at white space the match of the list is that of the descriptor before it, or that of the rest
pub matches-next : (start end : ℕ) (list name : List ℕ) → start ≤ end → end < length list → SolidFrom start end list
    → is_white_space (get_or list end 0) ≡ true
    → matches (drop start list) name ≡ (hits (take (end - start) (drop start list)) name || matches (drop (end + 1) list) name)
matches-next start end list name order within h e =
    let piece = take (end - start) (drop start list) in
    let place : start + (end - start) ≡ end = omega arith in
    let rest : drop (end - start) (drop start list) ≡ get_or list end 0 ∷ drop (end + 1) list =
    drop-drop (end - start) start list ∙ ap (λ n. drop n list) place ∙ drop-cons list end 0 within ∙ ap (λ n. get_or list end 0 ∷ drop n list) (let same : suc end ≡ end + 1 = omega arith in same) in
    ap (λ xs. matches xs name) (sym (take-append-drop (end - start) (drop start list)) ∙ ap (λ xs. piece ++ xs) rest)
    ∙ matches-space piece (get_or list end 0) (drop (end + 1) list) name (solid-part start end list h (omega arith)) e

-- a disjunction whose first part is false is its second part
pub or-no : (v w x : Bool) → x ≡ (v || w) → v ≡ false → w ≡ x
or-no true w x e h = cc
or-no false w x e h = sym e

-- a disjunction whose first part is true is true
pub or-yes : (v w x : Bool) → x ≡ (v || w) → v ≡ true → true ≡ x
or-yes true w x e h = sym e
or-yes false w x e h = cc

-- a stretch without white space is longer by a byte that is none
pub solid-more : (start end : ℕ) (list : List ℕ) → SolidFrom start end list → is_white_space (get_or list end 0) ≡ false → SolidFrom start (end + 1) list
solid-more start end list h e k a b = elim (cases_lt k end) [
  | inl l ↦ h k a l
  | inr g ↦ (let same : k ≡ end = omega arith in ap (λ n. is_white_space (get_or list n 0)) same ∙ e)
]
