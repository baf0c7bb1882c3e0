-- The walk over the elements, step by step.
use Rattle.std.proofs.Common.{◌≡◌, ℕ, suc, ◌<◌, ◌≤◌, ◌+◌, ◌-◌, Option, Some, None, MatchOption, List, [], ◌∷◌, ◌++◌, length, append_assoc, append-nil, length-append, refl, sym, ap, ◌∙◌, arith}
use Rattle.std.proofs.lemmas.List.{same_from_push}
use Rattle.serde_json.specs.Data.{Data, Items, item}
use Rattle.sc_types.specs.declared.profile.Profile.{Profile}
use Rattle.sc_types.specs.ChartTexts.{Place, kid_places, places, own_fault, states_at, first_fault, kids_at, kid_trees, tree, node, value_fault, value_chart, profile_at}
use Rattle.sc_types.specs.declared.chart.ChartFault.{ChartFault}
use Rattle.sc_types.specs.declared.chart.Node.{Node}
use Rattle.sc_expr.specs.Reading.{expr_of}
use Rattle.sc_chart_json.specs.Walking.{place, Stops, levels_at, IsOwn, IsRead, AreRead, AreReading}
use Rattle.sc_chart_json.specs.declared.reader.Own.{Own}
use Rattle.sc_chart_json.specs.declared.reader.Walk.{Walk}

one_more : (n : ℕ) → n ≤ 40 → 41 - n ≡ suc (40 - n)
one_more n h = omega arith

-- an element and what stands below it
below : (path : List ℕ) (d : Data) → length path ≤ 40
    → places (levels_at path) path d ≡ place path d ∷ kid_places (places (40 - length path)) path 0 (kids_at d)
below path d h = rw (one_more (length path) h) refl

-- a fault of an element itself comes before those of all below it and behind it
pub own_stops : (profile : Profile) (before : ℕ) (path : List ℕ) (d : Data) (f : ChartFault) → length path ≤ 40 → own_fault (expr_of profile) before (place path d) ≡ Some f
    → Stops profile before (places (levels_at path) path d) f
own_stops profile before path d f h e rest = rw (below path d h, e) refl

passed : (profile : Profile) (before after : ℕ) (path : List ℕ) (d : Data) (rest : List Place) → length path ≤ 40 → own_fault (expr_of profile) before (place path d) ≡ None
    → after ≡ before + states_at (place path d)
    → first_fault (expr_of profile) before (places (levels_at path) path d ++ rest) ≡ first_fault (expr_of profile) after (kid_places (places (40 - length path)) path 0 (kids_at d) ++ rest)
passed profile before after path d rest h e n = rw (below path d h, e, n) refl

-- where the element itself has no fault, the first one of its child elements is the first of all
pub element_stops : (profile : Profile) (old mid : Walk) (d : Data) (own : Own) (f : ChartFault) → IsOwn profile old mid d own
    → Stops profile mid.states (kid_places (places (40 - length mid.path)) mid.path 0 (kids_at d)) f → Stops profile old.states (places (levels_at old.path) old.path d) f
element_stops profile old mid d own f is stops rest =
    passed profile old.states mid.states old.path d rest (omega (arith, is.shallow)) is.none is.states
    ∙ ap (λ path. first_fault (expr_of profile) mid.states (kid_places (places (40 - length path)) path 0 (kids_at d) ++ rest)) (sym is.path) ∙ stops rest

element_tree : (profile : Profile) (old mid : Walk) (d : Data) (own : Own) (kids : List Node) → IsOwn profile old mid d own
    → kids ≡ kid_trees (tree (expr_of profile) (40 - length mid.path)) (kids_at d) → node own.tag own.members kids ≡ tree (expr_of profile) (levels_at old.path) d
element_tree profile old mid d own kids is e =
    rw (one_more (length old.path) (omega (arith, is.shallow)), is.tag, is.members, e, is.path) refl

-- an element was read once it and its child elements were
pub element_read : (profile : Profile) (old mid new : Walk) (d : Data) (own : Own) (kids : List Node) → IsOwn profile old mid d own → AreRead profile mid new (kids_at d) kids
    → IsRead profile old new d (node own.tag own.members kids)
element_read profile old mid new d own kids is read = record {
  passes = λ rest. passed profile old.states mid.states old.path d rest (omega (arith, is.shallow)) is.none is.states
      ∙ ap (λ path. first_fault (expr_of profile) mid.states (kid_places (places (40 - length path)) path 0 (kids_at d) ++ rest)) (sym is.path) ∙ read.passes rest;
  tree = element_tree profile old mid d own kids is read.trees;
  path = read.path ∙ is.path;
  few = read.few;
}

-- a child element and those behind it

kid_levels : (p0 p : List ℕ) (i : ℕ) → p ≡ p0 ++ i ∷ [] → length p0 < 40 → levels_at p ≡ 40 - length p0
kid_levels p0 p i e h = ap levels_at e ∙ ap (λ n. 41 - n) (length-append p0 (i ∷ [])) ∙ one_fewer (length p0) h where
  one_fewer : (n : ℕ) → n < 40 → 41 - (n + 1) ≡ 40 - n
  one_fewer n h = omega arith

kid_first : (profile : Profile) (s : ℕ) (p0 p : List ℕ) (i : ℕ) (d : Data) (more : Items) (rest : List Place) → p ≡ p0 ++ i ∷ [] → length p0 < 40
    → first_fault (expr_of profile) s (kid_places (places (40 - length p0)) p0 i (item d more) ++ rest)
    ≡ first_fault (expr_of profile) s (places (levels_at p) p d ++ (kid_places (places (40 - length p0)) p0 (suc i) more ++ rest))
kid_first profile s p0 p i d more rest e h =
    ap (first_fault (expr_of profile) s) (append_assoc (places (40 - length p0) (p0 ++ i ∷ []) d) (kid_places (places (40 - length p0)) p0 (suc i) more) rest)
    ∙ rw (kid_levels p0 p i e h, e) refl

-- where the child elements before it have no fault, the first one of a child element is the first of all
pub kid_stops : (profile : Profile) (old now : Walk) (ds more : Items) (d : Data) (i : ℕ) (kids : List Node) (p : List ℕ) (f : ChartFault)
    → AreReading profile old now ds (item d more) i kids → length old.path < 40 → p ≡ now.path ++ i ∷ []
    → Stops profile now.states (places (levels_at p) p d) f → Stops profile old.states (kid_places (places (40 - length old.path)) old.path 0 ds) f
kid_stops profile old now ds more d i kids p f are h e stops rest =
    are.passes rest ∙ kid_first profile now.states old.path p i d more rest (e ∙ ap (λ path. path ++ i ∷ []) are.path) h ∙ stops _

-- one child element more was read
pub kid_read : (profile : Profile) (old now under new : Walk) (ds more : Items) (d : Data) (i : ℕ) (kids : List Node) (n : Node)
    → AreReading profile old now ds (item d more) i kids → length old.path < 40
    → under.path ≡ now.path ++ i ∷ [] → under.states ≡ now.states → IsRead profile under new d n
    → (popped : Walk) (j : ℕ) → popped.path ≡ now.path → popped.states ≡ new.states → j ≡ suc i
    → AreReading profile old popped ds more j (kids ++ n ∷ [])
kid_read profile old now under new ds more d i kids n are h pushed same read popped j back count next = record {
  passes = λ rest. are.passes rest ∙ kid_first profile now.states old.path under.path i d more rest (pushed ∙ ap (λ path. path ++ i ∷ []) are.path) h
      ∙ ap (λ s. first_fault (expr_of profile) s (places (levels_at under.path) under.path d ++ (kid_places (places (40 - length old.path)) old.path (suc i) more ++ rest))) (sym same)
      ∙ read.passes _ ∙ ap (λ s. first_fault (expr_of profile) s (kid_places (places (40 - length old.path)) old.path (suc i) more ++ rest)) (sym count)
      ∙ ap (λ k. first_fault (expr_of profile) popped.states (kid_places (places (40 - length old.path)) old.path k more ++ rest)) (sym next);
  trees = append_assoc kids (n ∷ []) _ ∙ ap (λ e. kids ++ e ∷ kid_trees (tree (expr_of profile) (40 - length old.path)) more)
      (read.tree ∙ ap (λ levels. tree (expr_of profile) levels d) (kid_levels old.path under.path i (pushed ∙ ap (λ path. path ++ i ∷ []) are.path) h)) ∙ are.trees;
  path = back ∙ are.path;
  few = rw count read.few;
}

no_push : (path : List ℕ) (k : ℕ) → ¬ ([] ≡ path ++ k ∷ [])
no_push path k e = absurd (omega (arith, ap length e, length-append path (k ∷ [])))

-- what was pushed is popped
pub popped : (result : Option ℕ) (old new path : List ℕ) (k : ℕ) → MatchOption result ((old ≡ []) × (new ≡ [])) (λ last. old ≡ new ++ last ∷ [])
    → old ≡ path ++ k ∷ [] → new ≡ path
popped None old new path k h e = absurd (no_push path k (sym h.0 ∙ e))
popped (Some last) old new path k h e = (same_from_push new path last k (sym h ∙ e)).0

-- the whole

whole : (profile : Profile) (ps : List Place) → first_fault (expr_of profile) 0 ps ≡ first_fault (expr_of profile) 0 (ps ++ [])
whole profile ps = ap (first_fault (expr_of profile) 0) (sym (append-nil ps))

-- the first fault of the root and all below it is that of the value
pub root_stops : (profile : Profile) (path : List ℕ) (d : Data) (f : ChartFault) → profile ≡ profile_at d → path ≡ []
    → Stops profile 0 (places (levels_at path) path d) f → value_fault expr_of d ≡ Some f
unfolding value_fault
root_stops profile path d f asked e stops =
    ap (λ p. first_fault (expr_of p) 0 (places 41 [] d)) (sym asked) ∙ whole profile (places 41 [] d)
    ∙ ap (λ path. first_fault (expr_of profile) 0 (places (levels_at path) path d ++ [])) (sym e) ∙ stops []

-- a root that was read has no fault, and its tree is the chart
pub root_read : (profile : Profile) (path : List ℕ) (new : Walk) (d : Data) (n : Node) → profile ≡ profile_at d → path ≡ []
    → IsRead profile (record { path = path; states = 0 }) new d n
    → (value_fault expr_of d ≡ None) × (record { root = n } ≡ value_chart expr_of d)
unfolding value_fault value_chart
root_read profile path new d n asked e read = (
  ap (λ p. first_fault (expr_of p) 0 (places 41 [] d)) (sym asked) ∙ whole profile (places 41 [] d)
      ∙ ap (λ path. first_fault (expr_of profile) 0 (places (levels_at path) path d ++ [])) (sym e) ∙ read.passes [],
  ap (λ n. record { root = n }) (read.tree ∙ ap (λ path. tree (expr_of profile) (levels_at path) d) e ∙ ap (λ p. tree (expr_of p) 41 d) asked),
)

pub ruleset walks = (own_stops, element_stops, element_read, kid_stops, kid_read, root_stops, root_read)
