-- A table after an id was put into it.
use Rattle.std.proofs.Common.{◌≡◌, ℕ, Bool, true, false, cond, Option, Some, None, List, refl, sym, ap, ◌∙◌, find, take, get_or, length, ◌+◌, ◌<◌, ◌∷◌, ◌++◌, [], ◌&&◌, rules}
use Rattle.std.specs.BTreeMap.{UpdatesBy}
use Rattle.std.specs.Cmp.{eq_by_cmp_equiv}
use Rattle.std.specs.Cmp.Lexicographic.{slice_cmp, bytes_decides, nat_list_cmp_total, nat_list_eq_equiv}
use Rattle.std.specs.Map.{lookup, IsKeyTest, AreApart, KeepsOthers}
use Rattle.std.specs.Option.{option_or}
use Rattle.std.specs.Ordering.{is_eq, nat_cmp}
use Rattle.std.specs.Str.{bytes_eq}
use Rattle.std.proofs.lemmas.Map.Text.{is_eq-slice_cmp}
use Rattle.std.proofs.lemmas.List.{take_more}
use Rattle.std.proofs.lemmas.List.Folds.{find-append}
use Rattle.sc_types.specs.declared.attribute.Attribute.TheVariants as attribute
use Rattle.sc_types.specs.declared.chart.Chart.{Chart}
use Rattle.sc_types.specs.declared.chart.Node.{Node}
use Rattle.sc_types.specs.declared.chart.Tag.{Tag}
use Rattle.sc_types.specs.Attributes.{is_text_at}
use Rattle.sc_law.specs.Nodes.{Path, tag_of, element}
use Rattle.sc_valid.specs.Firsts.{first_of, IsPut, IsAdded, AreFirsts}
use Rattle.sc_valid.specs.declared.firsts.Firsts.{Firsts}

pub apart : (id other key : List ℕ) → bytes_eq id other ≡ false → is_eq (slice_cmp nat_cmp id key) ≡ true → is_eq (slice_cmp nat_cmp other key) ≡ false
apart id other key n y =
    is_eq-slice_cmp other key ∙ nat_list_eq_equiv.symm other key ∙ sym (nat_list_eq_equiv.congr id key other (sym (is_eq-slice_cmp id key) ∙ y)) ∙ n

module _ {K X : Type 0} (eq : K → K → Bool) (test : K → Bool) where
  pub others_kept : (old new : List (K × X)) → KeepsOthers eq test old new → (other : K → Bool) → IsKeyTest eq other → AreApart test other → lookup other new ≡ lookup other old
  unfolding KeepsOthers
  others_kept old new h = h

or_none : (o : Option Path) → o ≡ option_or o None
or_none None = refl
or_none (Some path) = refl

-- an id that had no path
pub put_new : (f g : Firsts) (id : List ℕ) (path : Path) → first_of f id ≡ None
    → UpdatesBy (λ x y. slice_cmp nat_cmp x.items y.items) (λ key. slice_cmp nat_cmp id key.items) f.paths g.paths (Some path) → IsPut f id path g
put_new f g id path absent h = record { finds = λ other. by other (bytes_eq id other) refl } where
  by : (other : List ℕ) (b : Bool) → bytes_eq id other ≡ b → first_of g other ≡ option_or (first_of f other) (cond b (Some path) None)
  by other true e =
      let same = (bytes_decides id other).0 e in
      ap (first_of g) (sym same) ∙ h.1
      ∙ ap (λ o. option_or o (Some path)) (sym (ap (first_of f) (sym same) ∙ absent))
  by other false e =
      others_kept _ _ f.paths.entries g.paths.entries h.3 _
      (λ x y. (eq_by_cmp_equiv nat_list_cmp_total).congr other x.items y.items) (λ key. apart id other key.items e)
      ∙ or_none (first_of f other)

-- an id whose path was put back
pub put_back : (f g h : Firsts) (id : List ℕ) (path first : Path) → first_of f id ≡ Some first
    → UpdatesBy (λ x y. slice_cmp nat_cmp x.items y.items) (λ key. slice_cmp nat_cmp id key.items) f.paths g.paths (Some path)
    → UpdatesBy (λ x y. slice_cmp nat_cmp x.items y.items) (λ key. slice_cmp nat_cmp id key.items) g.paths h.paths (Some first)
    → IsPut f id path h
put_back f g h id path first found put back = record { finds = λ other. by other (bytes_eq id other) refl } where
  by : (other : List ℕ) (b : Bool) → bytes_eq id other ≡ b → first_of h other ≡ option_or (first_of f other) (cond b (Some path) None)
  by other true e =
      let same = (bytes_decides id other).0 e in
      ap (first_of h) (sym same) ∙ back.1
      ∙ ap (λ o. option_or o (Some path)) (sym (ap (first_of f) (sym same) ∙ found))
  by other false e =
      others_kept _ _ g.paths.entries h.paths.entries back.3 _
      (λ x y. (eq_by_cmp_equiv nat_list_cmp_total).congr other x.items y.items) (λ key. apart id other key.items e)
      ∙ others_kept _ _ f.paths.entries g.paths.entries put.3 _
      (λ x y. (eq_by_cmp_equiv nat_list_cmp_total).congr other x.items y.items) (λ key. apart id other key.items e)
      ∙ or_none (first_of f other)

-- one element more
pub one_more : (old new : Firsts) (test : Tag → Bool) (c : Chart) (paths : List Path) (i : ℕ) (path : Path) (n : Node) (is_kind : Bool)
    → i < length paths → path ≡ get_or paths i path → n ≡ element c path → is_kind ≡ test (tag_of n)
    → AreFirsts old test c (take i paths) → IsAdded old is_kind n path new → AreFirsts new test c (take (i + 1) paths)
one_more old new test c paths i path n is_kind within is there kind are added = record { finds = by } where
  here : List ℕ → Path → Bool
  here id path = test (tag_of (element c path)) && is_text_at attribute.Id id (element c path)

  by : (id : List ℕ) → first_of new id ≡ find (here id) (take (i + 1) paths)
  by id =
      added.finds id
      ∙ ap (λ o. option_or o (cond (is_kind && is_text_at attribute.Id id n) (Some path) None)) (are.finds id)
      ∙ ap (λ b. option_or (find (here id) (take i paths)) (cond (b && is_text_at attribute.Id id n) (Some path) None)) kind
      ∙ ap (λ n. option_or (find (here id) (take i paths)) (cond (test (tag_of n) && is_text_at attribute.Id id n) (Some path) None)) there
      ∙ sym (find-append (here id) (take i paths) (path ∷ []))
      ∙ ap (find (here id)) (ap (λ x. take i paths ++ x ∷ []) is ∙ sym (take_more paths i path within))
