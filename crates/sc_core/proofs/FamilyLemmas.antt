-- The places of the children of each session.
use Rattle.std.proofs.Common.{cond, ◌≡◌, ℕ, ◌+◌, ◌||◌, zero, suc, Bool, true, false, Option, Some, None, option_map, if◌then◌else◌, List, [], ◌∷◌, ◌++◌, append-nil, length, map, slice_get, slice_set, refl, arith, sym, ap, subst, ◌∙◌}
use Rattle.std.specs.List.{list_any}
use Rattle.std.specs.Str.{bytes_eq}
use Rattle.std.proofs.lemmas.List.Folds.{list_any-append}
use Rattle.std.proofs.lemmas.Option.{get_or_from_slice_get, same_Some, slice_get-map, slice_get_within}
use Rattle.std.proofs.lemmas.Slice.Eq.{bytes_eq-Decides}
use Rattle.sc_rooms.specs.Rooms.{AreDistinct}
use Rattle.sc_core.specs.Bodies.{IsFamily, children_of, is_invited}

-- the lists of a family stay where nothing that they speak of changes
pub family_same : (names : List (List ℕ)) (inviters others : List (Option (List ℕ))) (lists more : List (List ℕ))
    → others ≡ inviters → more ≡ lists → IsFamily names inviters lists → IsFamily names others more
family_same names inviters others lists more same listed family =
    subst (λ os. IsFamily names os more) (sym same) (subst (IsFamily names inviters) (sym listed) family)

-- ---- one session more

children_push : (name : List ℕ) (from : ℕ) (os : List (Option (List ℕ))) (o : Option (List ℕ))
    → children_of name from (os ++ o ∷ [])
    ≡ children_of name from os ++ (if is_invited name o then (from + length os) ∷ [] else [])
children_push name from [] o =
    let n : from ≡ from + 0 = omega arith in
    ap (λ m. if is_invited name o then m ∷ [] else []) n
children_push name from (p ∷ ps) o =
    let next : (from + 1) + length ps ≡ from + suc (length ps) = omega arith in
    let rest = children_push name (from + 1) ps o
    ∙ ap (λ m. children_of name (from + 1) ps ++ (if is_invited name o then m ∷ [] else [])) next in
    ap (λ cs. cond (is_invited name p) (from ∷ cs) cs) rest
    ∙ by (is_invited name p) (children_of name (from + 1) ps) (if is_invited name o then (from + suc (length ps)) ∷ [] else [])
  where
    by : (b : Bool) (xs ys : List ℕ) → cond b (from ∷ (xs ++ ys)) (xs ++ ys) ≡ cond b (from ∷ xs) xs ++ ys
    by true xs ys = refl
    by false xs ys = refl

map_push : {X Y : Type 0} (f : X → Y) (xs : List X) (y : X) → map f (xs ++ y ∷ []) ≡ map f xs ++ f y ∷ []
map_push f [] y = refl
map_push f (x ∷ xs) y = ap (λ rest. f x ∷ rest) (map_push f xs y)

map_alike : {X Y : Type 0} (f g : X → Y) (xs : List X) → ((x : X) → f x ≡ g x) → map f xs ≡ map g xs
map_alike f g [] same = refl
map_alike f g (x ∷ xs) same = ap (λ y. y ∷ map f xs) (same x) ∙ ap (λ ys. g x ∷ ys) (map_alike f g xs same)

neither : (a b : Bool) → (a || b) ≡ false → (a ≡ false) × (b ≡ false)
neither true b h = absurd cc
neither false b h = (refl, h)

-- a name that is none of those of a longer list is none of those of its front
none_before : (name new : List ℕ) (names : List (List ℕ))
    → list_any (λ other. bytes_eq other name) (names ++ new ∷ []) ≡ false
    → list_any (λ other. bytes_eq other name) names ≡ false
none_before name new names none =
    (neither _ _ (sym (list_any-append (λ other. bytes_eq other name) names (new ∷ [])) ∙ none)).0

-- a session that nobody invoked
pub family_more : (names : List (List ℕ)) (inviters : List (Option (List ℕ))) (lists : List (List ℕ)) (new : List ℕ)
    → list_any (λ other. bytes_eq other new) names ≡ false → IsFamily names inviters lists
    → IsFamily (names ++ new ∷ []) (inviters ++ None ∷ []) (lists ++ [] ∷ [])
family_more names inviters lists new none family =
    let same : (name : List ℕ) → children_of name 0 (inviters ++ None ∷ []) ≡ children_of name 0 inviters =
    λ name. children_push name 0 inviters None ∙ append-nil (children_of name 0 inviters) in
    record {
      each = ap (λ ls. ls ++ [] ∷ []) family.each
          ∙ ap (λ cs. map (λ name. children_of name 0 inviters) names ++ cs ∷ []) (sym (family.strangers new none))
          ∙ sym (map_push (λ name. children_of name 0 inviters) names new)
          ∙ sym (map_alike (λ name. children_of name 0 (inviters ++ None ∷ [])) (λ name. children_of name 0 inviters)
          (names ++ new ∷ []) same);
      strangers = λ name stranger. same name ∙ family.strangers name (none_before name new names stranger);
    }

-- ---- one child more

-- of a list of results one changes
set_one : {X Y : Type 0} (f g : X → Y) (xs : List X) (p : ℕ) (x : X) (v : Y) → slice_get xs p ≡ Some x → f x ≡ v
    → ((i : ℕ) (y : X) → slice_get xs i ≡ Some y → (i ≡ p → ⊥) → f y ≡ g y) → slice_set (map g xs) p v ≡ map f xs
set_one f g [] p x v at own others = absurd cc
set_one f g (y ∷ ys) zero x v at own others =
    let is : y ≡ x = cc in
    ap (λ z. z ∷ map g ys) (sym own ∙ ap f (sym is))
    ∙ ap (λ zs. f y ∷ zs) (sym (map_others f g ys (λ i z there. others (suc i) z there (λ e. omega (arith, e)))))
  where
    map_others : {X Y : Type 0} (f g : X → Y) (xs : List X) → ((i : ℕ) (y : X) → slice_get xs i ≡ Some y → f y ≡ g y)
        → map f xs ≡ map g xs
    map_others f g [] same = refl
    map_others f g (z ∷ zs) same =
        ap (λ w. w ∷ map f zs) (same 0 z refl) ∙ ap (λ ws. g z ∷ ws) (map_others f g zs (λ i w there. same (suc i) w there))
set_one f g (y ∷ ys) (suc p) x v at own others =
    ap (λ z. z ∷ slice_set (map g ys) p v) (sym (others 0 y refl (λ e. omega (arith, e))))
    ∙ ap (λ zs. f y ∷ zs) (set_one f g ys p x v at own (λ i z there differ. others (suc i) z there (λ e. differ (omega (arith, e)))))

none_at : {X : Type 0} (q : X → Bool) (xs : List X) (p : ℕ) (x : X) → list_any q xs ≡ false → slice_get xs p ≡ Some x
    → q x ≡ false
none_at q [] p x none at = absurd cc
none_at q (y ∷ ys) zero x none at = let is : y ≡ x = cc in ap q (sym is) ∙ (neither _ _ none).0
none_at q (y ∷ ys) (suc p) x none at = none_at q ys p x (neither _ _ none).1 at

-- two places of one name are the same
one_place : (names : List (List ℕ)) (i j : ℕ) (a b : List ℕ) → AreDistinct names → slice_get names i ≡ Some a
    → slice_get names j ≡ Some b → a ≡ b → i ≡ j
one_place names i j a b distinct first second same =
    distinct i j (slice_get_within names i a first) (slice_get_within names j b second)
    (get_or_from_slice_get names i a [] first ∙ same ∙ sym (get_or_from_slice_get names j b [] second))

-- a session that the one at a place invoked
pub family_born : (names : List (List ℕ)) (inviters : List (Option (List ℕ))) (lists : List (List ℕ)) (new own : List ℕ)
    (place : ℕ) (children : List ℕ) → list_any (λ other. bytes_eq other new) names ≡ false → AreDistinct names
    → slice_get names place ≡ Some own → slice_get lists place ≡ Some children → IsFamily names inviters lists
    → IsFamily (names ++ new ∷ []) (inviters ++ Some own ∷ [])
    (slice_set lists place (children ++ length inviters ∷ []) ++ [] ∷ [])
family_born names inviters lists new own place children none distinct at listed family =
    let first : 0 + length inviters ≡ length inviters = omega arith in
    let g : List ℕ → List ℕ = λ name. children_of name 0 inviters in
    let f : List ℕ → List ℕ = λ name. children_of name 0 (inviters ++ Some own ∷ []) in
    let more : (name : List ℕ) → f name ≡ g name ++ (if bytes_eq own name then length inviters ∷ [] else []) =
    λ name. children_push name 0 inviters (Some own)
    ∙ ap (λ n. g name ++ (if bytes_eq own name then n ∷ [] else [])) first in
    let is : children ≡ g own =
    same_Some children (g own) (sym listed ∙ ap (λ ls. slice_get ls place) family.each ∙ slice_get-map g names place
    ∙ ap (λ o. option_map g o) at) in
    let mine : bytes_eq own own ≡ true = (bytes_eq-Decides own own).1 refl in
    let grown : f own ≡ children ++ length inviters ∷ [] =
    more own ∙ ap (λ b. g own ++ (if b then length inviters ∷ [] else [])) mine
    ∙ ap (λ cs. cs ++ length inviters ∷ []) (sym is) in
    let differs : (name : List ℕ) → bytes_eq own name ≡ false → f name ≡ g name =
    λ name other. more name ∙ ap (λ b. g name ++ (if b then length inviters ∷ [] else [])) other ∙ append-nil (g name) in
    let stranger : bytes_eq own new ≡ false = none_at (λ other. bytes_eq other new) names place own none at in
    record {
      each = ap (λ ls. slice_set ls place (children ++ length inviters ∷ []) ++ [] ∷ []) family.each
          ∙ ap (λ ls. ls ++ [] ∷ []) (set_one f g names place own (children ++ length inviters ∷ []) at grown
          (λ i name there other. differs name (apart i name there other (bytes_eq own name) refl)))
          ∙ ap (λ cs. map f names ++ cs ∷ []) (sym (differs new stranger ∙ family.strangers new none))
          ∙ sym (map_push f names new);
      strangers = λ name no. differs name (none_at (λ other. bytes_eq other name) names place own (none_before name new names no) at)
          ∙ family.strangers name (none_before name new names no);
    }
  where
    apart : (i : ℕ) (name : List ℕ) → slice_get names i ≡ Some name → (i ≡ place → ⊥) → (b : Bool) → bytes_eq own name ≡ b
        → b ≡ false
    apart i name there other false e = refl
    apart i name there other true e =
        absurd (other (one_place names i place name own distinct there at (sym ((bytes_eq-Decides own name).0 e))))
