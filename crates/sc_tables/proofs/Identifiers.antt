-- A table of numbers after an id was put into it.
use Rattle.std.proofs.Common.{◌≡◌, ℕ, Bool, true, false, cond, Option, Some, None, List, refl, sym, ap, ◌∙◌, is_some, take, get_or, length, ◌+◌, ◌<◌, ◌∷◌, ◌++◌, [], arith, length-take, rules}
use Rattle.std.specs.BTreeMap.{UpdatesBy}
use Rattle.std.specs.Cmp.{eq_by_cmp_equiv}
use Rattle.std.specs.Cmp.Lexicographic.{slice_cmp, bytes_decides, nat_list_cmp_total, nat_list_eq_equiv}
use Rattle.std.specs.List.{position_from}
use Rattle.std.specs.Map.{lookup, IsKeyTest, AreApart, KeepsOthers}
use Rattle.std.specs.Option.{option_or}
use Rattle.std.specs.Ordering.{is_eq, nat_cmp}
use Rattle.std.specs.Str.{bytes_eq}
use Rattle.std.proofs.lemmas.Map.Text.{is_eq-slice_cmp}
use Rattle.std.proofs.lemmas.List.{take_more}
use Rattle.std.proofs.Math.Seq.{take-length}
use Rattle.std.proofs.lemmas.Iterator.Adapters.{position_from-zero}
use Rattle.sc_types.specs.declared.attribute.Attribute.TheVariants as attribute
use Rattle.sc_types.specs.declared.chart.Chart.{Chart}
use Rattle.sc_types.specs.declared.chart.Node.{Node}
use Rattle.sc_types.specs.Attributes.{is_text_at}
use Rattle.sc_law.specs.Nodes.{Path, element}
use Rattle.sc_law.specs.Tree.{state_named, state_paths}
use Rattle.sc_tables.specs.Ids.{number_of, IsPut, IsAdded, AreNumbers}
use Rattle.sc_tables.specs.declared.ids.Numbers.{Numbers}

apart : (id other key : List ℕ) → bytes_eq id other ≡ false → is_eq (slice_cmp nat_cmp id key) ≡ true → is_eq (slice_cmp nat_cmp other key) ≡ false
apart id other key n y =
    is_eq-slice_cmp other key ∙ nat_list_eq_equiv.symm other key ∙ sym (nat_list_eq_equiv.congr id key other (sym (is_eq-slice_cmp id key) ∙ y)) ∙ n

module _ {K X : Type 0} (eq : K → K → Bool) (test : K → Bool) where
  others_kept : (old new : List (K × X)) → KeepsOthers eq test old new → (other : K → Bool) → IsKeyTest eq other → AreApart test other → lookup other new ≡ lookup other old
  unfolding KeepsOthers
  others_kept old new h = h

none_left : (o : Option ℕ) → is_some o ≡ false → o ≡ None
none_left None e = refl
none_left (Some n) e = search rules

or_none : (o : Option ℕ) → o ≡ option_or o None
or_none None = refl
or_none (Some n) = refl

-- an id that had no number
pub put_new : (f g : Numbers) (id : List ℕ) (n : ℕ) → is_some (number_of f id) ≡ false
    → UpdatesBy (λ x y. slice_cmp nat_cmp x.items y.items) (λ key. slice_cmp nat_cmp id key.items) f.by_id g.by_id (Some n) → IsPut f id n g
put_new f g id n absent h = record { finds = λ other. by other (bytes_eq id other) refl } where
  by : (other : List ℕ) (b : Bool) → bytes_eq id other ≡ b → number_of g other ≡ option_or (number_of f other) (cond b (Some n) None)
  by other true e =
      let same = (bytes_decides id other).0 e in
      ap (number_of g) (sym same) ∙ h.1
      ∙ ap (λ o. option_or o (Some n)) (sym (ap (number_of f) (sym same) ∙ none_left (number_of f id) absent))
  by other false e =
      others_kept _ _ f.by_id.entries g.by_id.entries h.3 _
      (λ x y. (eq_by_cmp_equiv nat_list_cmp_total).congr other x.items y.items) (λ key. apart id other key.items e)
      ∙ or_none (number_of f other)

position-append : (test : Path → Bool) (n : ℕ) (ps : List Path) (p : Path)
    → position_from test n (ps ++ p ∷ []) ≡ option_or (position_from test n ps) (cond (test p) (Some (n + length ps)) None)
position-append test n [] p = ap (λ k. cond (test p) (Some k) None) (omega arith)
position-append test n (q ∷ ps) p = by (test q) (position-append test (n + 1) ps p) where
  there : cond (test p) (Some (n + 1 + length ps)) None ≡ cond (test p) (Some (n + length (q ∷ ps))) None
  there = ap (λ k. cond (test p) (Some k) None) (omega arith)

  by : (v : Bool) → position_from test (n + 1) (ps ++ p ∷ []) ≡ option_or (position_from test (n + 1) ps) (cond (test p) (Some (n + 1 + length ps)) None)
      → cond v (Some n) (position_from test (n + 1) (ps ++ p ∷ [])) ≡ option_or (cond v (Some n) (position_from test (n + 1) ps)) (cond (test p) (Some (n + length (q ∷ ps))) None)
  by true h = refl
  by false h = h ∙ ap (λ o. option_or (position_from test (n + 1) ps) o) there

-- one state more
pub one_more : (old new : Numbers) (c : Chart) (paths : List Path) (i : ℕ) (path : Path) (n : Node) → i < length paths
    → path ≡ get_or paths i path → n ≡ element c path → AreNumbers old c (take i paths) → IsAdded old n i new → AreNumbers new c (take (i + 1) paths)
one_more old new c paths i path n within is there are added = record { finds = by } where
  here : List ℕ → Path → Bool
  here id p = is_text_at attribute.Id id (element c p)

  by : (id : List ℕ) → number_of new id ≡ position_from (here id) 0 (take (i + 1) paths)
  by id =
      let long : 0 + length (take i paths) ≡ i = simp length-take (omega arith) in
      added.finds id
      ∙ ap (λ o. option_or o (cond (is_text_at attribute.Id id n) (Some i) None)) (are.finds id)
      ∙ ap (λ m. option_or (position_from (here id) 0 (take i paths)) (cond (is_text_at attribute.Id id m) (Some i) None)) there
      ∙ ap (λ k. option_or (position_from (here id) 0 (take i paths)) (cond (here id path) (Some k) None)) (sym long)
      ∙ sym (position-append (here id) 0 (take i paths) path)
      ∙ ap (position_from (here id) 0) (ap (λ x. take i paths ++ x ∷ []) is ∙ sym (take_more paths i path within))

-- among all states
pub all_numbers : (f : Numbers) (c : Chart) (paths : List Path) (i : ℕ) → paths ≡ state_paths c → length paths ≡ i → AreNumbers f c (take i paths)
    → (id : List ℕ) → number_of f id ≡ state_named c id
all_numbers f c paths i e l h id =
    let here = λ (p : Path). is_text_at attribute.Id id (element c p) in
    let all : take i paths ≡ paths = ap (λ n. take n paths) (sym l) ∙ take-length paths in
    h.finds id ∙ ap (position_from here 0) (all ∙ e) ∙ sym (position_from-zero here (state_paths c))
