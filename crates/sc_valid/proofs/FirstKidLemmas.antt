-- The place of the first child element of a tag: what it tells, and the table that keeps it.
use Rattle.std.proofs.Common.{◌≡◌, ℕ, ◌+◌, zero, suc, Bool, true, false, not, cond, ◌&&◌, ◌||◌, Option, Some, None, IfSome, List, [], ◌∷◌, length, position, is_some, nat_lt, take, refl, sym, ap, ◌∙◌, subst, arith}
use Rattle.std.proofs.lemmas.Bool.Decides.{nat_tests}
use Rattle.std.specs.BTreeMap.{UpdatesBy}
use Rattle.std.specs.Cmp.{eq_by_cmp_equiv}
use Rattle.std.specs.Cmp.Lexicographic.{slice_cmp, bytes_decides, nat_list_cmp_total}
use Rattle.std.specs.List.{list_any, position_or_len}
use Rattle.std.specs.Option.{option_map_or}
use Rattle.std.specs.Ordering.{nat_cmp}
use Rattle.sc_types.specs.declared.chart.Chart.{Chart}
use Rattle.sc_types.specs.declared.chart.Node.{Node}
use Rattle.sc_types.specs.declared.chart.Tag.{Tag}
use Rattle.sc_types.specs.declared.chart.Tag.TheVariants as tag
use Rattle.sc_law.specs.Nodes.{Path, element, is_same, is_tag, kids, parent, tag_of}
use Rattle.sc_law.specs.Legality.{has_earlier, own_place}
use Rattle.sc_valid.specs.FirstKids.{first_kid, place_of, AreRight, IsKept}
use Rattle.sc_valid.specs.declared.first_kids.FirstKids.{FirstKids}
use Rattle.sc_valid.proofs.PairLemmas.{and_false, second_true}
use Rattle.sc_valid.proofs.TableLemmas.{apart, others_kept}

none_below : (m : ℕ) → nat_lt m 0 ≡ false
none_below m = grind (arith, nat_tests)

next_both : (m n k : ℕ) → (nat_lt (1 + m) (suc n) && nat_lt (1 + m) (suc k)) ≡ (nat_lt m n && nat_lt m k)
next_both m n k = grind (arith, nat_tests)

at_once : (n k : ℕ) → (nat_lt 0 (suc n) && nat_lt 0 (suc k)) ≡ true
at_once n k = grind (arith, nat_tests)

before_here : {X : Type 0} (p : X → Bool) (xs : List X) (n : ℕ)
    → (nat_lt (position_or_len p xs) (length xs) && nat_lt (position_or_len p xs) n) ≡ list_any p (take n xs)
before_here p xs zero = ap (λ b. nat_lt (position_or_len p xs) (length xs) && b) (none_below (position_or_len p xs))
    ∙ and_false (nat_lt (position_or_len p xs) (length xs))
before_here p [] (suc n) = refl
before_here p (x ∷ xs) (suc n) = by (p x) (before_here p xs n) where
  by : (b : Bool) → (nat_lt (position_or_len p xs) (length xs) && nat_lt (position_or_len p xs) n) ≡ list_any p (take n xs)
      → (nat_lt (cond (not b) (1 + position_or_len p xs) 0) (suc (length xs)) && nat_lt (cond (not b) (1 + position_or_len p xs) 0) (suc n)) ≡ (b || list_any p (take n xs))
  by true h = at_once (length xs) n
  by false h = next_both (position_or_len p xs) (length xs) n ∙ h

-- one that passes stands before a place where the first that passes does
pub position_before : {X : Type 0} (p : X → Bool) (xs : List X) (n : ℕ)
    → option_map_or (λ place. nat_lt place n) (position p xs) false ≡ list_any p (take n xs)
position_before p xs n = by (nat_lt (position_or_len p xs) (length xs)) ∙ before_here p xs n where
  by : (b : Bool) → option_map_or (λ place. nat_lt place n) (cond b (Some (position_or_len p xs)) None) false ≡ (b && nat_lt (position_or_len p xs) n)
  by true = refl
  by false = refl

-- one passes where the first that passes has a place
pub position_any : {X : Type 0} (p : X → Bool) (xs : List X) → is_some (position p xs) ≡ list_any p xs
position_any p xs = some (nat_lt (position_or_len p xs) (length xs)) ∙ any xs where
  some : (b : Bool) → is_some (cond b (Some (position_or_len p xs)) None) ≡ b
  some true = refl
  some false = refl

  any : (ys : List _) → nat_lt (position_or_len p ys) (length ys) ≡ list_any p ys
  any [] = refl
  any (y ∷ ys) = by (p y) (any ys) where
    by : (b : Bool) → nat_lt (position_or_len p ys) (length ys) ≡ list_any p ys
        → nat_lt (cond (not b) (1 + position_or_len p ys) 0) (suc (length ys)) ≡ (b || list_any p ys)
    by true h = grind (arith, nat_tests)
    by false h = grind (arith, nat_tests)

-- an `else` stands before an element, where the first of its parent does
pub earlier_else : (c : Chart) (path above : Path) (o : Option ℕ) (n : ℕ) (r : Bool) → r ≡ option_map_or (λ place. nat_lt place n) o false
    → o ≡ first_kid tag.Else (element c above) → above ≡ parent path → n ≡ own_place path → r ≡ has_earlier tag.Else c path
earlier_else c path above o n r e f g h =
    e ∙ ap (λ o. option_map_or (λ place. nat_lt place n) o false) (f ∙ ap (λ p. first_kid tag.Else (element c p)) g)
    ∙ ap (λ n. option_map_or (λ place. nat_lt place n) (first_kid tag.Else (element c (parent path))) false) h
    ∙ position_before (λ kid. is_tag tag.Else (tag_of kid)) (kids (element c (parent path))) (own_place path)

-- a path that was put into the table
pub put_place : (f g : FirstKids) (path : Path) (place : Option ℕ)
    → UpdatesBy (λ x y. slice_cmp nat_cmp x.items y.items) (λ key. slice_cmp nat_cmp path key.items) f.places g.places (Some place)
    → IsKept f true path place g
put_place f g path place h = record { finds = λ other. by other (is_same path other) refl } where
  by : (other : Path) (b : Bool) → is_same path other ≡ b → place_of g other ≡ cond b (Some place) (place_of f other)
  by other true e = ap (place_of g) (sym ((bytes_decides path other).0 e)) ∙ h.1
  by other false e =
      others_kept _ _ f.places.entries g.places.entries h.3 _
      (λ x y. (eq_by_cmp_equiv nat_list_cmp_total).congr other x.items y.items) (λ key. apart path other key.items e)

-- a table stays right by what is kept of an element
pub still_right : (old new : FirstKids) (t : Tag) (c : Chart) (is_kind : Bool) (path : Path) (n : Node) → n ≡ element c path
    → AreRight old t c → IsKept old is_kind path (first_kid t n) new → AreRight new t c
still_right old new t c is_kind path n there right kept other = subst (λ o. IfSome o (λ place. place ≡ first_kid t (element c other)))
    (sym (kept.finds other)) (by (is_kind && is_same path other) refl) where
      by : (b : Bool) → (is_kind && is_same path other) ≡ b
          → IfSome (cond b (Some (first_kid t n)) (place_of old other)) (λ place. place ≡ first_kid t (element c other))
      by true e = ap (first_kid t) (there ∙ ap (element c) ((bytes_decides path other).0 (second_true is_kind (is_same path other) e)))
      by false e = right other
