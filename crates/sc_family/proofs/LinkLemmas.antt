-- The link of a child, and what a cut does, by the place of the child's name.
use Rattle.std.proofs.Common.{◌≡◌, ◌≢◌, ℕ, zero, suc, Bool, true, false, not, cond, None, Some, List, [], ◌∷◌, ◌++◌, get_or, refl, arith, ap, sym, ◌∙◌}
use Rattle.std.proofs.Math.ListN.{set}
use Rattle.std.specs.Cmp.Lexicographic.{bytes_decides}
use Rattle.std.specs.Option.{option_map_or}
use Rattle.sc_family.specs.declared.link.Link.{Link}
use Rattle.sc_family.specs.Links.{is_child, link_for, is_live, cut_off, names_of}
use Rattle.sc_rooms.specs.Chains.{IsNew, IsPlaceOf}
use Rattle.sc_rooms.specs.Rooms.{AreDistinct, place_of}
use Rattle.sc_rooms.proofs.ChainLemmas.{place_of-new}

-- ---- the link of a name

not_true : (v : Bool) → v ≢ true → v ≡ false
not_true true h = absurd (h refl)
not_true false h = refl

is_child-no : (name : List ℕ) (l : Link) → l.child ≢ name → is_child name l ≡ false
is_child-no name l h = not_true (is_child name l) (λ e. h ((bytes_decides l.child name).0 e))

is_child-yes : (name : List ℕ) (l : Link) → l.child ≡ name → is_child name l ≡ true
is_child-yes name l h = (bytes_decides l.child name).1 h

-- a new name has no link
pub link_for-new : (name : List ℕ) (links : List Link) → IsNew name (names_of links) → link_for name links ≡ None
link_for-new name [] h = refl
link_for-new name (l ∷ links) h =
    ap (λ v. cond v (Some l) (link_for name links)) (is_child-no name l (h 0 (omega arith)))
    ∙ link_for-new name links (λ i b. h (suc i) (omega arith))

cons_new : (name : List ℕ) (l : Link) (links : List Link) → l.child ≢ name → IsNew name (names_of links)
    → IsNew name (names_of (l ∷ links))
cons_new name l links a b zero h = a
cons_new name l links a b (suc i) h = b i (omega arith)

first_new : (name : List ℕ) (l : Link) (links : List Link) → link_for name (l ∷ links) ≡ None
    → (l.child ≢ name) × (link_for name links ≡ None)
first_new name l links e = by (is_child name l) refl e
  where
    by : (v : Bool) → is_child name l ≡ v → cond v (Some l) (link_for name links) ≡ None
        → (l.child ≢ name) × (link_for name links ≡ None)
    by true t f = cc
    by false t f = ((λ g. let yes = is_child-yes name l g in cc), f)

-- a name without a link is new
pub new-link_for : (name : List ℕ) (links : List Link) → link_for name links ≡ None → IsNew name (names_of links)
new-link_for name [] e = λ i h. absurd (omega arith)
new-link_for name (l ∷ links) e =
    let parts = first_new name l links e in
    cons_new name l links parts.0 (new-link_for name links parts.1)

-- nor is it a name of the index
pub unbound : (name : List ℕ) (links : List Link) → link_for name links ≡ None → place_of name (names_of links) ≡ None
unbound name links e = place_of-new name (names_of links) (new-link_for name links e)

-- ---- the first link and the rest

distinct_rest : (x : Link) (links : List Link) → AreDistinct (names_of (x ∷ links)) → AreDistinct (names_of links)
distinct_rest x links d =
    λ i j a b f. (let same : suc i ≡ suc j = d (suc i) (suc j) (omega arith) (omega arith) f in omega arith)

place_rest : (name : List ℕ) (x : Link) (links : List Link) (place : ℕ)
    → IsPlaceOf name (names_of (x ∷ links)) (suc place) → IsPlaceOf name (names_of links) place
place_rest name x links place p = record { within = omega (arith, p.within); named = p.named }

first_other : (name : List ℕ) (x : Link) (links : List Link) (place : ℕ) → AreDistinct (names_of (x ∷ links))
    → IsPlaceOf name (names_of (x ∷ links)) (suc place) → x.child ≢ name
first_other name x links place d p = λ f.
    let same : 0 ≡ suc place = d 0 (suc place) (omega arith) (omega (arith, p.within)) (f ∙ sym p.named) in
    omega arith

rest_new : (name : List ℕ) (x : Link) (links : List Link) → AreDistinct (names_of (x ∷ links)) → x.child ≡ name
    → IsNew name (names_of links)
rest_new name x links d e i h = λ f.
    let same : suc i ≡ 0 = d (suc i) 0 (omega (arith)) (omega arith) (f ∙ sym e) in
    omega arith

-- where names are distinct, the link at a name's place is the link of the name
pub link_for-place : (name : List ℕ) (links : List Link) (place : ℕ) (l : Link) → AreDistinct (names_of links)
    → IsPlaceOf name (names_of links) place
    → get_or links place l ≡ l → link_for name links ≡ Some l
link_for-place name [] place l d p e = absurd (omega (arith, p.within))
link_for-place name (x ∷ links) zero l d p e =
    ap (λ v. cond v (Some x) (link_for name links)) (is_child-yes name x p.named) ∙ ap (λ (y : Link). Some y) e
link_for-place name (x ∷ links) (suc place) l d p e =
    ap (λ v. cond v (Some x) (link_for name links)) (is_child-no name x (first_other name x links place d p))
    ∙ link_for-place name links place l (distinct_rest x links d) (place_rest name x links place p) e

-- ---- a cut

cut_link : Link → Link
cut_link l = record l { cut = true }

-- cutting off a new name changes nothing
pub cut_off-new : (name : List ℕ) (links : List Link) → IsNew name (names_of links) → cut_off name links ≡ links
unfolding cut_link
cut_off-new name [] h = refl
cut_off-new name (l ∷ links) h =
    ap (λ v. cond v (cut_link l) l ∷ cut_off name links) (is_child-no name l (h 0 (omega arith)))
    ∙ ap (λ ls. l ∷ ls) (cut_off-new name links (λ i b. h (suc i) (omega arith)))

-- where names are distinct, cutting off a name marks the link at its place
pub cut_off-place : (name : List ℕ) (links : List Link) (place : ℕ) (l : Link) → AreDistinct (names_of links)
    → IsPlaceOf name (names_of links) place
    → get_or links place l ≡ l → cut_off name links ≡ set links place (record l { cut = true })
unfolding cut_link
cut_off-place name [] place l d p e = absurd (omega (arith, p.within))
cut_off-place name (x ∷ links) zero l d p e =
    ap (λ v. cond v (cut_link x) x ∷ cut_off name links) (is_child-yes name x p.named)
    ∙ ap (λ y. cut_link y ∷ cut_off name links) e
    ∙ ap (λ ls. cut_link l ∷ ls) (cut_off-new name links (rest_new name x links d p.named))
cut_off-place name (x ∷ links) (suc place) l d p e =
    ap (λ v. cond v (cut_link x) x ∷ cut_off name links) (is_child-no name x (first_other name x links place d p))
    ∙ ap (λ ls. x ∷ ls) (cut_off-place name links place l (distinct_rest x links d) (place_rest name x links place p) e)

-- a new name is not live
pub is_live-new : (name : List ℕ) (links : List Link) → IsNew name (names_of links) → is_live name links ≡ false
is_live-new name links h = ap (λ o. option_map_or (λ (link : Link). not link.cut) o false) (link_for-new name links h)

-- where names are distinct, a name is live exactly where the link at its place is not cut
pub is_live-place : (name : List ℕ) (links : List Link) (place : ℕ) (l : Link) → AreDistinct (names_of links)
    → IsPlaceOf name (names_of links) place
    → get_or links place l ≡ l → is_live name links ≡ not l.cut
is_live-place name links place l d p e =
    ap (λ o. option_map_or (λ (link : Link). not link.cut) o false) (link_for-place name links place l d p e)

-- a cut leaves the names
pub names-cut : (links : List Link) (place : ℕ) (l : Link) → get_or links place l ≡ l
    → names_of (set links place (record l { cut = true })) ≡ names_of links
names-cut [] place l e = refl
names-cut (x ∷ links) zero l e = ap (λ n. n ∷ names_of links) (sym (ap (λ (y : Link). y.child) e))
names-cut (x ∷ links) (suc place) l e = ap (λ ns. x.child ∷ ns) (names-cut links place l e)

-- the names after one more link
pub names-append : (links : List Link) (l : Link) → names_of (links ++ l ∷ []) ≡ names_of links ++ l.child ∷ []
names-append [] l = refl
names-append (x ∷ links) l = ap (λ ns. x.child ∷ ns) (names-append links l)
