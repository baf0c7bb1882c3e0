-- States by their ids: as numbers, and as paths.
use Rattle.std.proofs.Common.{◌≡◌, ℕ, ◌+◌, ◌<◌, ◌&&◌, suc, Bool, true, false, cond, Option, Some, None, List, [], ◌∷◌, length, filter, find, get_or, refl, arith, ap, sym, subst, ◌∙◌}
use Rattle.std.proofs.lemmas.Iterator.Adapters.{position_from-zero}
use Rattle.std.specs.List.{cons_option, position_from}
use Rattle.sc_types.specs.Attributes.{is_text_at}
use Rattle.sc_types.specs.Elements.{is_numbered}
use Rattle.sc_types.specs.declared.attribute.Attribute.TheVariants as attribute
use Rattle.sc_types.specs.declared.chart.Chart.{Chart}
use Rattle.sc_law.specs.Nodes.{Path, element, elements, tag_of}
use Rattle.sc_law.specs.Tree.{path_of, state_count, state_named, state_paths}
use Rattle.sc_law.specs.Configurations.{named}
use Rattle.sc_law.specs.Legality.{path_named, targets}
use Rattle.sc_tables.proofs.LookUps.{path-is}
use Rattle.std.specs.List.{AllByRecursion as AllOf}

-- a number is the place, from one on, of the first item that passes
abbrev pub IsFound : {A : Type 0} → (A → Bool) → A → List A → List A → ℕ → ℕ → Type 0
IsFound test d all xs n u = (k : ℕ) × ((u ≡ n + k) × ((k < length xs) × (find test all ≡ Some (get_or xs k d))))

-- the first that passes both tests is the first of those that pass the first test which passes the second
found-from : {A : Type 0} (f g : A → Bool) (d : A) (xs : List A) (n u : ℕ) → position_from g n (filter f xs) ≡ Some u
    → IsFound (λ x. f x && g x) d xs (filter f xs) n u
found-from f g d [] n u h = absurd (cc)
found-from f g d (x ∷ xs) n u h = by (f x) refl h (found-from f g d xs n u) (found-from f g d xs (n + 1) u) where
  on : (w : Bool) → cond w (Some n) (position_from g (n + 1) (filter f xs)) ≡ Some u
      → (position_from g (n + 1) (filter f xs) ≡ Some u → IsFound (λ y. f y && g y) d xs (filter f xs) (n + 1) u)
      → (k : ℕ) × ((u ≡ n + k) × ((k < length (x ∷ filter f xs)) × (cond w (Some x) (find (λ y. f y && g y) xs) ≡ Some (get_or (x ∷ filter f xs) k d))))
  on true at later = (0, ((let e : n ≡ u = cc in omega arith), (omega arith, refl)))
  on false at later = let is = later at in (suc is.0, (omega (arith, is.1.0), (omega (arith, is.1.1.0), is.1.1.1)))

  by : (v : Bool) → f x ≡ v → position_from g n (cond v (x ∷ filter f xs) (filter f xs)) ≡ Some u
      → (position_from g n (filter f xs) ≡ Some u → IsFound (λ y. f y && g y) d xs (filter f xs) n u)
      → (position_from g (n + 1) (filter f xs) ≡ Some u → IsFound (λ y. f y && g y) d xs (filter f xs) (n + 1) u)
      → (k : ℕ) × ((u ≡ n + k) × ((k < length (cond v (x ∷ filter f xs) (filter f xs))) × (cond (v && g x) (Some x) (find (λ y. f y && g y) xs) ≡ Some (get_or (cond v (x ∷ filter f xs) (filter f xs)) k d))))
  by false e at same later = same at
  by true e at same later = on (g x) at later

-- the state of an id, as a path
pub path-named : (c : Chart) (id : List ℕ) (u : ℕ) → state_named c id ≡ Some u
    → (u < state_count c) × (path_named c id ≡ Some (path_of c u))
path-named c id u h =
    let is = found-from (λ (p : Path). is_numbered (tag_of (element c p))) (λ (p : Path). is_text_at attribute.Id id (element c p)) [] (elements c) 0 u
    (sym (position_from-zero (λ (p : Path). is_text_at attribute.Id id (element c p)) (state_paths c)) ∙ h) in
    let e : is.0 ≡ u = omega (arith, is.1.0) in
    (omega (arith, is.1.1.0), is.1.1.1 ∙ ap (λ k. Some (get_or (state_paths c) k [])) e ∙ ap (λ p. Some p) (sym (path-is c u)))

-- what holds of the paths of some ids holds of the paths of their numbers
pub named-targets : (c : Chart) (P : Path → Type 0) (ids : List (List ℕ)) → AllOf P (targets c ids)
    → AllOf (λ u. (u < state_count c) × P (path_of c u)) (named c ids)
named-targets c P [] h = tt
named-targets c P (id ∷ ids) h = by (state_named c id) refl (named-targets c P ids) where
  on : (u : ℕ) → path_named c id ≡ Some (path_of c u) → AllOf P (path_of c u ∷ targets c ids)
  on u e = subst (λ (o : Option Path). AllOf P (cons_option o (targets c ids))) e h

  some : (o : Option Path) → AllOf P (cons_option o (targets c ids)) → AllOf P (targets c ids)
  some None h = h
  some (Some p) h = h.1

  by : (o : Option ℕ) → state_named c id ≡ o → (AllOf P (targets c ids) → AllOf (λ u. (u < state_count c) × P (path_of c u)) (named c ids))
      → AllOf (λ u. (u < state_count c) × P (path_of c u)) (cons_option o (named c ids))
  by None e rest = rest (some (path_named c id) h)
  by (Some u) e rest =
      let is = path-named c id u e in
      let all = on u is.1 in ((is.0, all.0), rest all.1)

-- where an item passes both tests, some of those that pass the first passes the second
some-from : {A : Type 0} (f g : A → Bool) (xs : List A) (n : ℕ) (x : A) → find (λ y. f y && g y) xs ≡ Some x
    → (u : ℕ) × (position_from g n (filter f xs) ≡ Some u)
some-from f g [] n x h = absurd (cc)
some-from f g (y ∷ xs) n x h = by (f y) (g y) refl refl h (some-from f g xs n x) (some-from f g xs (n + 1) x) where
  by : (v w : Bool) → f y ≡ v → g y ≡ w → cond (v && w) (Some y) (find (λ z. f z && g z) xs) ≡ Some x
      → (find (λ z. f z && g z) xs ≡ Some x → (u : ℕ) × (position_from g n (filter f xs) ≡ Some u))
      → (find (λ z. f z && g z) xs ≡ Some x → (u : ℕ) × (position_from g (n + 1) (filter f xs) ≡ Some u))
      → (u : ℕ) × (position_from g n (cond v (y ∷ filter f xs) (filter f xs)) ≡ Some u)
  by false w e i at same later = same at
  by true true e i at same later = (n, ap (λ b. cond b (Some n) (position_from g (n + 1) (filter f xs))) i)
  by true false e i at same later =
      let r = later at in (r.0, ap (λ b. cond b (Some n) (position_from g (n + 1) (filter f xs))) i ∙ r.1)

-- an id that has a path has a number
pub state-named : (c : Chart) (id : List ℕ) (p : Path) → path_named c id ≡ Some p → (u : ℕ) × (state_named c id ≡ Some u)
state-named c id p h =
    let r = some-from (λ (q : Path). is_numbered (tag_of (element c q))) (λ (q : Path). is_text_at attribute.Id id (element c q)) (elements c) 0 p h in
    (r.0, position_from-zero (λ (q : Path). is_text_at attribute.Id id (element c q)) (state_paths c) ∙ r.1)
