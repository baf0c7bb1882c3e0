-- What `put` and the members of a node make of an object.
use Rattle.std.proofs.Common.{◌≡◌, ℕ, ◌≤◌, max, Bool, true, false, ◌||◌, if◌then◌else◌, Option, Some, None, option_map, List, [], ◌∷◌, filter_map, bytes_eq, refl, sym, ap, ◌∙◌, arith}
use Rattle.std.proofs.lemmas.Bool.{and_parts, and_from, or_from, or_parts, true≢false}
use Rattle.std.proofs.lemmas.Slice.Eq.{bytes_eq-Decides}
use Rattle.std.specs.Cmp.Lexicographic.{slice_cmp}
use Rattle.std.specs.List.{list_all}
use Rattle.std.specs.Ordering.{nat_cmp, match_ordering}
use Rattle.std.proofs.Common.{Ordering, Less, Equal, Greater, is_eq}
use Rattle.std.proofs.lemmas.Map.Text.{is_eq-slice_cmp}
use Rattle.serde_json.specs.Data.{Data, string, Members, no_members, member, put, depth, members_depth}
use Rattle.serde_json.specs.Find.{get_member}
use Rattle.serde_json.specs.Written.{has_float, members_have_float}
use Rattle.serde_json.proofs.Views.{get_member-put, get_member-put_other}
use Rattle.sc_types.specs.ChartTexts.{is_known, are_known}
use Rattle.sc_types.specs.Elements.{attribute_text}
use Rattle.sc_types.specs.PrintedCharts.{member_text, put_members}
use Rattle.sc_types.specs.declared.attribute.Attribute.{Attribute}
use Rattle.sc_types.specs.declared.chart.Member.{Member}
use Rattle.sc_types.specs.declared.chart.Tag.{Tag}
use Rattle.sc_chart_json.proofs.Printed.Tables.{same_attribute, is_in}

-- ---- one member

by_order : (P : Members → Type 0) (o : Ordering) (a b c : Members) → P a → P b → P c → P (match_ordering o a b c)
by_order P Less a b c ha hb hc = ha
by_order P Equal a b c ha hb hc = hb
by_order P Greater a b c ha hb hc = hc

-- a member with a known name leaves all names known
pub known-put : (tag : Tag) (k : List ℕ) (d : Data) (ms : Members) → is_known tag k ≡ true → are_known tag ms ≡ true → are_known tag (put k d ms) ≡ true
known-put tag k d no_members known all = and_from _ true known refl
known-put tag k d (member l e ms) known all =
    let both = and_parts (is_known tag l) _ all in
    by_order (λ ms. are_known tag ms ≡ true) (slice_cmp nat_cmp k l) _ _ _
    (and_from (is_known tag k) _ known all) all (and_from (is_known tag l) _ both.0 (known-put tag k d ms known both.1))

-- a member makes an object no deeper than the deeper of the two
pub depth-put : (k : List ℕ) (d : Data) (ms : Members) → members_depth (put k d ms) ≤ max (depth d) (members_depth ms)
depth-put k d no_members = omega arith
depth-put k d (member l e ms) =
    let later = depth-put k d ms in
    by_order (λ new. members_depth new ≤ max (depth d) (max (depth e) (members_depth ms))) (slice_cmp nat_cmp k l) _ _ _ (omega arith) (omega arith) (omega arith)

-- a member without a float leaves an object without one
pub float-put : (k : List ℕ) (d : Data) (ms : Members) → has_float d ≡ false → members_have_float ms ≡ false → members_have_float (put k d ms) ≡ false
float-put k d no_members none all = or_from _ false none refl
float-put k d (member l e ms) none all =
    let both = or_parts (has_float e) _ all in
    by_order (λ ms. members_have_float ms ≡ false) (slice_cmp nat_cmp k l) _ _ _
    (or_from (has_float d) _ none all) (or_from (has_float d) _ none both.1) (or_from (has_float e) _ both.0 (float-put k d ms none both.1))

-- an object of known names has nothing at a name that is not known
pub unknown_absent : (tag : Tag) (k : List ℕ) (ms : Members) → is_known tag k ≡ false → are_known tag ms ≡ true → get_member k ms ≡ None
unknown_absent tag k no_members unknown all = refl
unknown_absent tag k (member l e ms) unknown all =
    let both = and_parts (is_known tag l) _ all in
    by (slice_cmp nat_cmp k l) refl both.0 (unknown_absent tag k ms unknown both.1)
  where
    by : (o : Ordering) → slice_cmp nat_cmp k l ≡ o → is_known tag l ≡ true → get_member k ms ≡ None
        → match_ordering o (get_member k ms) (Some e) (get_member k ms) ≡ None
    by Less is known later = later
    by Greater is known later = later
    by Equal is known later =
        let same : k ≡ l = (bytes_eq-Decides k l).0 (sym (is_eq-slice_cmp k l) ∙ ap is_eq is) in
        absurd (true≢false (sym known ∙ ap (is_known tag) (sym same) ∙ unknown))

-- ---- the members of a node, which has so many of its attributes

-- an attribute as JSON: a string
abbrev pub value : Member → Data
value m = string (member_text m)

-- the attribute with its name, where it is kept
abbrev pub entry : (Attribute → Option Member) → Attribute → Option (List ℕ × Member)
entry kept a = option_map (λ m. (attribute_text a, m)) (kept a)

abbrev or : Option Data → Option Data → Option Data
or None later = later
or (Some d) later = Some d

abbrev found : Bool → Option Member → Option Data → Option Data
found inside kept given = if inside then or (option_map value kept) given else given

-- texts that the test tells apart are not equal
pub apart : (a b : List ℕ) → bytes_eq a b ≡ false → (a ≡ b → ⊥)
apart a b e same = true≢false (sym ((bytes_eq-Decides a b).1 same) ∙ e)

absent : (inside : Bool) (kept : Option Member) (given : Option Data) → kept ≡ None → found inside kept given ≡ given
absent true kept given none = ap (λ o. or (option_map value o) given) none
absent false kept given none = refl

present : (inside : Bool) (kept : Option Member) (given : Option Data) (m : Member) → kept ≡ Some m → given ≡ Some (value m) → found inside kept given ≡ Some (value m)
present true kept given m some is = ap (λ o. or (option_map value o) given) some
present false kept given m some is = is

module _ (kept : Attribute → Option Member) where
  -- one attribute more
  found_step : (a b : Attribute) (v : Bool) (o : Option Member) (rest : List (List ℕ × Member)) (row : List Attribute) (given : Members)
      → bytes_eq (attribute_text a) (attribute_text b) ≡ v → kept b ≡ o
      → ((given : Members) → get_member (attribute_text a) (put_members (filter_map (entry kept) row) given) ≡ found (is_in a row) (kept a) (get_member (attribute_text a) given))
      → get_member (attribute_text a) (put_members (filter_map (entry kept) (b ∷ row)) given) ≡ found (v || is_in a row) (kept a) (get_member (attribute_text a) given)
  found_step a b true None rest row given same none later =
      let here = ap kept (same_attribute a b same) ∙ none in
      rw none (later given ∙ absent (is_in a row) (kept a) _ here ∙ sym (absent true (kept a) _ here))
  found_step a b false None rest row given same none later = rw none (later given)
  found_step a b true (Some m) rest row given same some later =
      let here = ap kept (same_attribute a b same) ∙ some in
      let put_here = ap (λ name. get_member name (put (attribute_text b) (value m) given)) (ap attribute_text (same_attribute a b same)) ∙ get_member-put (attribute_text b) (value m) given in
      rw some (later (put (attribute_text b) (value m) given) ∙ present (is_in a row) (kept a) _ m here put_here ∙ sym (ap (λ o. or (option_map value o) (get_member (attribute_text a) given)) here))
  found_step a b false (Some m) rest row given same some later =
      rw some (later (put (attribute_text b) (value m) given)
      ∙ ap (found (is_in a row) (kept a)) (get_member-put_other (attribute_text a) (attribute_text b) (value m) given (apart _ _ same)))

  -- what an object has at the name of an attribute, once the members are put
  found_members : (a : Attribute) (row : List Attribute) (given : Members)
      → get_member (attribute_text a) (put_members (filter_map (entry kept) row) given) ≡ found (is_in a row) (kept a) (get_member (attribute_text a) given)
  found_members a [] given = refl
  found_members a (b ∷ row) given = found_step a b _ _ [] row given refl refl (found_members a row)

  or_nothing : (o : Option Data) → or o None ≡ o
  or_nothing None = refl
  or_nothing (Some d) = refl

  -- an object of these attributes has at the name of each one what was kept of it
  pub get_members : (a : Attribute) (row : List Attribute) → is_in a row ≡ true
      → get_member (attribute_text a) (put_members (filter_map (entry kept) row) no_members) ≡ option_map value (kept a)
  get_members a row inside = found_members a row no_members ∙ ap (λ v. found v (kept a) None) inside ∙ or_nothing (option_map value (kept a))

  -- no attribute has this name
  pub get_other : (name : List ℕ) → ((a : Attribute) → bytes_eq name (attribute_text a) ≡ false) → (row : List Attribute) (given : Members)
      → get_member name (put_members (filter_map (entry kept) row) given) ≡ get_member name given
  get_other name other [] given = refl
  get_other name other (b ∷ row) given = by (kept b) refl (get_other name other row)
    where
      by : (o : Option Member) → kept b ≡ o
          → ((given : Members) → get_member name (put_members (filter_map (entry kept) row) given) ≡ get_member name given)
          → get_member name (put_members (filter_map (entry kept) (b ∷ row)) given) ≡ get_member name given
      by None none later = rw none (later given)
      by (Some m) some later = rw some (later (put (attribute_text b) (value m) given) ∙ get_member-put_other name (attribute_text b) (value m) given (apart _ _ (other b)))

  -- attributes with known names leave all names known
  pub known_members : (tag : Tag) (row : List Attribute) (given : Members) → list_all (λ a. is_known tag (attribute_text a)) row ≡ true
      → are_known tag given ≡ true → are_known tag (put_members (filter_map (entry kept) row) given) ≡ true
  known_members tag [] given all known = known
  known_members tag (b ∷ row) given all known =
      let both = and_parts (is_known tag (attribute_text b)) _ all in
      by (kept b) refl both.0 (λ given. known_members tag row given both.1)
    where
      by : (o : Option Member) → kept b ≡ o → is_known tag (attribute_text b) ≡ true
          → ((given : Members) → are_known tag given ≡ true → are_known tag (put_members (filter_map (entry kept) row) given) ≡ true)
          → are_known tag (put_members (filter_map (entry kept) (b ∷ row)) given) ≡ true
      by None none is later = rw none (later given known)
      by (Some m) some is later = rw some (later (put (attribute_text b) (value m) given) (known-put tag (attribute_text b) (value m) given is known))
