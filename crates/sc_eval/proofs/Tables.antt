-- A table of places after a name was put into it.
use Rattle.std.proofs.Common.{◌≡◌, ℕ, Bool, true, false, cond, Option, Some, None, List, refl, sym, ap, subst, ◌∙◌, ◌<◌, map, is_some, length, ◌∷◌, ◌++◌, [], rules}
use Rattle.std.specs.BTreeMap.{UpdatesBy}
use Rattle.std.specs.Cmp.{eq_by_cmp_equiv}
use Rattle.std.specs.Cmp.Lexicographic.{slice_cmp, bytes_decides, nat_list_cmp_total, nat_list_eq_equiv}
use Rattle.std.specs.Map.{lookup, IsKeyTest, AreApart, KeepsOthers}
use Rattle.std.specs.Option.{option_or}
use Rattle.std.specs.Ordering.{is_eq, nat_cmp}
use Rattle.std.specs.Str.{bytes_eq}
use Rattle.std.proofs.lemmas.Map.Text.{is_eq-slice_cmp}
use Rattle.sc_types.specs.declared.value.Value.{Value}
use Rattle.sc_law.specs.Data.{put_pair}
use Rattle.sc_eval.specs.Places.{place_of, first_place, IsPut, IsIndex, IsIndexed}
use Rattle.sc_eval.specs.declared.index.TheConstants.{FEW_ROWS}
use Rattle.sc_eval.specs.declared.places.Places.{Places}
use Rattle.sc_eval.proofs.Rows.{first_place-push, first_place-put, put_long}

apart : (id other key : List ℕ) → bytes_eq id other ≡ false → is_eq (slice_cmp nat_cmp id key) ≡ true → is_eq (slice_cmp nat_cmp other key) ≡ false
apart id other key n y =
    is_eq-slice_cmp other key ∙ nat_list_eq_equiv.symm other key ∙ sym (nat_list_eq_equiv.congr id key other (sym (is_eq-slice_cmp id key) ∙ y)) ∙ n

module _ {K X : Type 0} (eq : K → K → Bool) (test : K → Bool) where
  others_kept : (old new : List (K × X)) → KeepsOthers eq test old new → (other : K → Bool) → IsKeyTest eq other → AreApart test other → lookup other new ≡ lookup other old
  unfolding KeepsOthers
  others_kept old new h = h

none_left : (o : Option ℕ) → is_some o ≡ false → o ≡ None
none_left None e = refl
none_left (Some place) e = search rules

or_none : (o : Option ℕ) → o ≡ option_or o None
or_none None = refl
or_none (Some place) = refl

-- a name that had no place
pub put_new : (f g : Places) (name : List ℕ) (place : ℕ) → is_some (place_of f name) ≡ false
    → UpdatesBy (λ x y. slice_cmp nat_cmp x.items y.items) (λ key. slice_cmp nat_cmp name key.items) f.places g.places (Some place) → IsPut f name place g
put_new f g name place absent h = record { finds = λ other. by other (bytes_eq name other) refl } where
  by : (other : List ℕ) (b : Bool) → bytes_eq name other ≡ b → place_of g other ≡ option_or (place_of f other) (cond b (Some place) None)
  by other true e =
      let same = (bytes_decides name other).0 e in
      ap (place_of g) (sym same) ∙ h.1
      ∙ ap (λ o. option_or o (Some place)) (sym (ap (place_of f) (sym same) ∙ none_left (place_of f name) absent))
  by other false e =
      others_kept _ _ f.places.entries g.places.entries h.3 _
      (λ x y. (eq_by_cmp_equiv nat_list_cmp_total).congr other x.items y.items) (λ key. apart name other key.items e)
      ∙ or_none (place_of f other)

kept_some : (o : Option ℕ) (other : Option ℕ) → is_some o ≡ true → o ≡ option_or o other
kept_some (Some place) other e = refl
kept_some None other e = search rules

-- a name that has a place keeps it
pub put_again : (f : Places) (name : List ℕ) (place : ℕ) → is_some (place_of f name) ≡ true → IsPut f name place f
put_again f name place there = record { finds = λ other. by other (bytes_eq name other) refl } where
  by : (other : List ℕ) (b : Bool) → bytes_eq name other ≡ b → place_of f other ≡ option_or (place_of f other) (cond b (Some place) None)
  by other true e =
      kept_some (place_of f other) (Some place) (ap (λ n. is_some (place_of f n)) (sym ((bytes_decides name other).0 e)) ∙ there)
  by other false e = or_none (place_of f other)

module _ {A : Type 0} where
  -- a row more, whose name was put at its place
  pub index-push : (p q : Places) (rows : List (List ℕ × A)) (row : List ℕ × A) (name : List ℕ) (place : ℕ)
      → row.0 ≡ name → place ≡ length rows → IsIndex p rows → IsPut p name place q → IsIndex q (rows ++ row ∷ [])
  index-push p q rows row name place named there index put = record { finds = by } where
    by : (other : List ℕ) → place_of q other ≡ first_place other (rows ++ row ∷ [])
    by other =
        put.finds other
        ∙ ap (λ o. option_or o (cond (bytes_eq name other) (Some place) None)) (index.finds other)
        ∙ ap (λ n. option_or (first_place other rows) (cond (bytes_eq n other) (Some place) None)) (sym named)
        ∙ ap (λ n. option_or (first_place other rows) (cond (bytes_eq row.0 other) (Some n) None)) there
        ∙ sym (first_place-push other rows row)

-- a value in the place of another
pub indexed-put : (p : Places) (name : List ℕ) (v : Option Value) (rows : List (List ℕ × Option Value))
    → IsIndexed p rows → IsIndexed p (map (put_pair name v) rows)
indexed-put p name v rows indexed many =
    let index = indexed (subst (λ n. FEW_ROWS < n) (put_long name v rows) many) in
    record { finds = λ other. index.finds other ∙ sym (first_place-put other name v rows) }
