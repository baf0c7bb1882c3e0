-- An element that is printed has the faults of what it was read from: none, where that had none.
use Rattle.std.proofs.Common.{◌≡◌, ℕ, Bool, true, false, ◌&&◌, ◌||◌, not, if◌then◌else◌, cond, nat_le, is_some, is_none, Option, Some, None, option_map, option_and_then, unwrap_or, List, [], ◌∷◌, length, find, filter_map, codes, bytes_eq, refl, sym, ap, ◌∙◌}
use Rattle.std.proofs.lemmas.Bool.{and_parts, and_from, or_right, true≢false, not_from_false}
use Rattle.std.specs.List.{list_all}
use Rattle.std.specs.Option.{option_map_or}
use Rattle.serde_json.specs.Data.{Data, string, array, object, Items, no_items, item, Members, no_members, put}
use Rattle.serde_json.specs.Find.{get, get_member, as_array, as_object}
use Rattle.serde_json.proofs.Views.{get_member-put, get_member-put_other}
use Rattle.sc_types.specs.ChartTexts.{Reading, text_at, tag_at, kids_at, fault, is_known, are_known, has_known_members, is_given, has_fit_kids, is_fit, has_one, has_fit_members, is_bad_code, bad_code, tagged_fault, own_fault, member_of, member_at, members_at}
use Rattle.sc_types.specs.Elements.{tag_text, tag_of, is_numbered, attribute_text, attributes, required, either, form_of}
use Rattle.sc_types.specs.PrintedCharts.{put_members, put_kids}
use Rattle.sc_types.specs.declared.attribute.Attribute.{Attribute}
use Rattle.sc_types.specs.declared.attribute.Attribute.TheVariants.{Values}
use Rattle.sc_types.specs.declared.attribute.Form.TheVariants as form
use Rattle.sc_types.specs.declared.chart.ChartFault.{ChartFault}
use Rattle.sc_types.specs.declared.chart.Member.{Member}
use Rattle.sc_types.specs.declared.chart.Tag.{Tag}
use Rattle.sc_chart_json.proofs.Printed.Forms.{ReadsPrinted, text_of, is_fit_value, is_bad_value, kept_of, IsStable, stable, fit_again, kept_again, good_again, given_again}
use Rattle.sc_chart_json.proofs.Printed.Objects.{value, entry, get_members, unknown_absent, get_other, known_members, known-put, apart}
use Rattle.sc_chart_json.proofs.Printed.Tables.{same_attribute, tag_again, not_tag, not_kids, kids_other, is_in, each_in, is_kept_in, required_kept, either_kept}

-- ---- lists

module _ {X : Type 0} where
  all_from : (p q : X → Bool) (xs : List X) → ((x : X) → p x ≡ true → q x ≡ true) → list_all p xs ≡ true → list_all q xs ≡ true
  all_from p q [] more all = refl
  all_from p q (x ∷ xs) more all =
      let both = and_parts (p x) _ all in
      and_from _ _ (more x both.0) (all_from p q xs more both.1)

  all_also : (p q : X → Bool) (xs : List X) → list_all p xs ≡ true → list_all q xs ≡ true → list_all (λ x. p x && q x) xs ≡ true
  all_also p q [] all also = refl
  all_also p q (x ∷ xs) all also =
      let both = and_parts (p x) _ all in
      let two = and_parts (q x) _ also in
      and_from _ _ (and_from _ _ both.0 two.0) (all_also p q xs both.1 two.1)

  none_found : (p : X → Bool) (xs : List X) → find p xs ≡ None → list_all (λ x. not (p x)) xs ≡ true
  none_found p [] none = refl
  none_found p (x ∷ xs) none = by (p x) refl none (none_found p xs)
    where
      by : (v : Bool) → p x ≡ v → cond v (Some x) (find p xs) ≡ None → (find p xs ≡ None → list_all (λ x. not (p x)) xs ≡ true)
          → (not (p x) && list_all (λ x. not (p x)) xs) ≡ true
      by true is none later = absurd (cc)
      by false is none later = and_from _ _ (not_from_false _ is) (later none)

  none_finds : (p : X → Bool) (xs : List X) → list_all (λ x. not (p x)) xs ≡ true → find p xs ≡ None
  none_finds p [] all = refl
  none_finds p (x ∷ xs) all =
      let both = and_parts (not (p x)) _ all in
      by (p x) refl both.0 (none_finds p xs both.1)
    where
      by : (v : Bool) → p x ≡ v → not (p x) ≡ true → find p xs ≡ None → cond v (Some x) (find p xs) ≡ None
      by true is other later = absurd (true≢false (sym other ∙ ap not is))
      by false is other later = later

  filter_map_alike : {Y : Type 0} (p : X → Bool) (f g : X → Option Y) (xs : List X) → ((x : X) → p x ≡ true → f x ≡ g x) → list_all p xs ≡ true
      → filter_map f xs ≡ filter_map g xs
  filter_map_alike p f g [] alike all = refl
  filter_map_alike p f g (x ∷ xs) alike all =
      let both = and_parts (p x) _ all in
      let here = alike x both.0 in
      let later = filter_map_alike p f g xs alike both.1 in
      rw (here, later)

-- what holds of a row holds of each attribute in it
at_row : (p : Attribute → Bool) (row : List Attribute) (a : Attribute) → list_all p row ≡ true → is_in a row ≡ true → p a ≡ true
at_row p [] a all inside = absurd (true≢false (sym inside))
at_row p (b ∷ row) a all inside =
    let both = and_parts (p b) _ all in
    by (bytes_eq (attribute_text a) (attribute_text b)) refl inside both.0 (at_row p row a both.1)
  where
    by : (v : Bool) → bytes_eq (attribute_text a) (attribute_text b) ≡ v → (v || is_in a row) ≡ true → p b ≡ true → (is_in a row ≡ true → p a ≡ true) → p a ≡ true
    by true same inside here later = ap p (same_attribute a b same) ∙ here
    by false same inside here later = later inside

not_true : (v : Bool) → not v ≡ true → v ≡ false
not_true true is = absurd (true≢false (sym is))
not_true false is = refl

-- ---- no fault

-- what it means that an element of a known tag has no fault
record IsClean (are_known are_fit : Bool) (bad : Option Attribute) (is_full : Bool) : Type 0 where
  known : are_known ≡ true
  fit : are_fit ≡ true
  good : bad ≡ None
  room : is_full ≡ false

module _ (f g h : ChartFault) (k : Attribute → ChartFault) where
  abbrev fault_by : Bool → Bool → Option Attribute → Bool → Option ChartFault
  fault_by known fit bad full =
      if not known then Some f else if not fit then Some g else option_map_or (λ a. Some (k a)) bad (if full then Some h else None)

  clean : (known fit : Bool) (bad : Option Attribute) (full : Bool) → fault_by known fit bad full ≡ None → IsClean known fit bad full
  clean false fit bad full none = absurd (cc)
  clean true false bad full none = absurd (cc)
  clean true true (Some a) full none = absurd (cc)
  clean true true None true none = absurd (cc)
  clean true true None false none = record { known = refl; fit = refl; good = refl; room = refl }

  no_fault : (known fit : Bool) (bad : Option Attribute) (full : Bool) → known ≡ true → fit ≡ true → bad ≡ None → full ≡ false
      → fault_by known fit bad full ≡ None
  no_fault known fit bad full is fits good room = rw (is, fits, good, room)

-- ---- a printed element

pair_out : {A B C : Type 0} (g : B → C) (h : A → Option B) (o : Option A) → option_and_then (λ x. option_map g (h x)) o ≡ option_map g (option_and_then h o)
pair_out g h None = refl
pair_out g h (Some x) = refl

abbrev kids_value : Items → Option Data
kids_value no_items = None
kids_value (item d ds) = Some (array (item d ds))

kids_value_at : (kids : Items) → unwrap_or (option_and_then as_array (kids_value kids)) no_items ≡ kids
kids_value_at no_items = refl
kids_value_at (item d ds) = refl

kids_value_fit : (kids : Items) → option_map_or (λ kids. is_some (as_array kids)) (kids_value kids) true ≡ true
kids_value_fit no_items = refl
kids_value_fit (item d ds) = refl

get_before_kids : (a : Attribute) (kids : Items) (ms : Members) → get_member (attribute_text a) (put_kids kids ms) ≡ get_member (attribute_text a) ms
get_before_kids a no_items ms = refl
get_before_kids a (item d ds) ms = get_member-put_other (attribute_text a) (codes "kids") (array (item d ds)) ms (apart _ _ (not_kids a))

get_kids : (kids : Items) (ms : Members) → get_member (codes "kids") ms ≡ None → get_member (codes "kids") (put_kids kids ms) ≡ kids_value kids
get_kids no_items ms none = none
get_kids (item d ds) ms none = get_member-put (codes "kids") (array (item d ds)) ms

known_kids : (tag : Tag) (kids : Items) (ms : Members) → are_known tag ms ≡ true → are_known tag (put_kids kids ms) ≡ true
known_kids tag no_items ms all = all
known_kids tag (item d ds) ms all = known-put tag (codes "kids") (array (item d ds)) ms refl all

module _ (code_of : Reading) (tag : Tag) (d : Data) (kids : Items) where
  abbrev kept : Attribute → Option Member
  kept a = kept_of code_of (form_of tag a) (get (attribute_text a) d)

  abbrev attributes_printed : Members
  attributes_printed = put_members (members_at code_of tag d) no_members

  -- what is printed of the element, where it has this tag and these child elements
  abbrev pub printed : Data
  printed = object (put (codes "tag") (string (tag_text tag)) (put_kids kids attributes_printed))

  member_entry : (e : Data) (a : Attribute) → member_at code_of tag e a ≡ option_map (λ m. (attribute_text a, m)) (kept_of code_of (form_of tag a) (get (attribute_text a) e))
  member_entry e a = pair_out (λ m. (attribute_text a, m)) (member_of code_of (form_of tag a)) (text_at (attribute_text a) e)

  entries : members_at code_of tag d ≡ filter_map (entry kept) (attributes tag)
  entries = filter_map_alike (λ a. is_in a (attributes tag)) _ _ (attributes tag) (λ a inside. member_entry d a) (each_in tag)

  get_attribute : (a : Attribute) → is_in a (attributes tag) ≡ true → get (attribute_text a) printed ≡ option_map value (kept a)
  get_attribute a inside =
      get_member-put_other (attribute_text a) (codes "tag") (string (tag_text tag)) (put_kids kids attributes_printed) (apart _ _ (not_tag a))
      ∙ get_before_kids a kids attributes_printed
      ∙ ap (λ ms. get_member (attribute_text a) (put_members ms no_members)) entries
      ∙ get_members kept a (attributes tag) inside

  profile_kept : (o : Option (List ℕ)) → text_of (option_map value (option_and_then (member_of code_of form.Profile) o)) ≡ o
  profile_kept None = refl
  profile_kept (Some text) = refl

  profile_inside : is_in Values (attributes tag) ≡ true → text_at (codes "values") printed ≡ text_at (codes "values") d
  profile_inside inside = ap text_of (get_attribute Values inside) ∙ profile_kept (text_at (codes "values") d)

  none_outside : (v : Data) → is_in Values (attributes tag) ≡ false → has_known_members tag v ≡ true → get (codes "values") v ≡ None
  none_outside (object ms) outside known = unknown_absent tag (codes "values") ms outside known
  none_outside v outside known = refl

  no_kids : get_member (codes "kids") attributes_printed ≡ None
  no_kids = ap (λ ms. get_member (codes "kids") (put_members ms no_members)) entries ∙ get_other kept (codes "kids") kids_other (attributes tag) no_members

  kids_printed : get (codes "kids") printed ≡ kids_value kids
  kids_printed =
      get_member-put_other (codes "kids") (codes "tag") (string (tag_text tag)) (put_kids kids attributes_printed) (apart _ _ refl)
      ∙ get_kids kids attributes_printed no_kids

  -- the child elements that were printed are those that are read
  pub kids_again : kids_at printed ≡ kids
  kids_again = ap (λ o. unwrap_or (option_and_then as_array o) no_items) kids_printed ∙ kids_value_at kids

  text_again : get (codes "tag") printed ≡ Some (string (tag_text tag))
  text_again = get_member-put (codes "tag") (string (tag_text tag)) (put_kids kids attributes_printed)

  -- the tag that was printed is the one that is read
  pub tag_printed : tag_at printed ≡ Some tag
  tag_printed = ap (λ o. option_and_then tag_of (text_of o)) text_again ∙ tag_again tag

  -- what was printed has a text at `tag`
  pub some_tag : is_none (text_at (codes "tag") printed) ≡ false
  some_tag = ap (λ o. is_none (text_of o)) text_again

  known_again : has_known_members tag printed ≡ true
  known_again =
      let known = ap (are_known tag) (ap (λ ms. put_members ms no_members) entries)
      ∙ known_members kept tag (attributes tag) no_members
      (all_from (λ a. is_in a (attributes tag)) (λ a. is_known tag (attribute_text a)) (attributes tag)
      (λ a inside. or_right (bytes_eq (attribute_text a) (codes "tag") || bytes_eq (attribute_text a) (codes "kids")) _ inside) (each_in tag)) refl in
      known-put tag (codes "tag") (string (tag_text tag)) (put_kids kids attributes_printed) refl (known_kids tag kids attributes_printed known)

  -- the text at `values` that was printed is that of the element, where all its members are known
  pub profile_again : has_known_members tag d ≡ true → text_at (codes "values") printed ≡ text_at (codes "values") d
  profile_again known = by (is_in Values (attributes tag)) refl
    where
      by : (v : Bool) → is_in Values (attributes tag) ≡ v → text_at (codes "values") printed ≡ text_at (codes "values") d
      by true inside = profile_inside inside
      by false outside = ap text_of (none_outside printed outside known_again ∙ sym (none_outside d outside known))

  module _ (again : ReadsPrinted code_of) (fit : list_all (is_fit tag d) (attributes tag) ≡ true) (none : bad_code code_of tag d ≡ None) where
    stable_at : (a : Attribute) → is_in a (attributes tag) ≡ true → IsStable code_of (form_of tag a) (kept a)
    stable_at a inside = stable code_of again (form_of tag a) (get (attribute_text a) d) (at_row (is_fit tag d) (attributes tag) a fit inside)

    fit_at : (a : Attribute) → is_in a (attributes tag) ≡ true → is_fit tag printed a ≡ true
    fit_at a inside =
        ap (is_fit_value (form_of tag a)) (get_attribute a inside)
        ∙ fit_again code_of (form_of tag a) (kept a) (stable_at a inside)

    bad_at : (a : Attribute) → is_in a (attributes tag) ≡ true → not (is_bad_code code_of tag printed a) ≡ true
    bad_at a inside =
        not_from_false _
        (ap (is_bad_value code_of (form_of tag a)) (get_attribute a inside)
        ∙ good_again code_of (form_of tag a) (kept a) (stable_at a inside))

    member_again : (a : Attribute) → is_in a (attributes tag) ≡ true → member_at code_of tag printed a ≡ member_at code_of tag d a
    member_again a inside =
        member_entry printed a
        ∙ ap (λ o. option_map (λ m. (attribute_text a, m)) (kept_of code_of (form_of tag a) o)) (get_attribute a inside)
        ∙ ap (option_map (λ m. (attribute_text a, m))) (kept_again code_of (form_of tag a) (kept a) (stable_at a inside))
        ∙ sym (member_entry d a)

    -- the attributes that were printed are read as they were kept
    pub members_again : members_at code_of tag printed ≡ members_at code_of tag d
    members_again = filter_map_alike (λ a. is_in a (attributes tag)) _ _ (attributes tag) member_again (each_in tag)

    good_at : (a : Attribute) → is_in a (attributes tag) ≡ true → is_bad_code code_of tag d a ≡ false
    good_at a inside = not_true _ (at_row (λ a. not (is_bad_code code_of tag d a)) (attributes tag) a (none_found (is_bad_code code_of tag d) (attributes tag) none) inside)

    given_at : (a : Attribute) → is_kept_in tag a ≡ true → is_given printed a ≡ is_given d a
    given_at a keeps =
        let both = and_parts (is_in a (attributes tag)) _ keeps in
        ap is_some (get_attribute a both.0)
        ∙ given_again code_of (form_of tag a) (get (attribute_text a) d) both.1 (at_row (is_fit tag d) (attributes tag) a fit both.0) (good_at a both.0)

    required_again : list_all (is_given d) (required tag) ≡ true → list_all (is_given printed) (required tag) ≡ true
    required_again all =
        all_from (λ a. is_kept_in tag a && is_given d a) (is_given printed) (required tag)
        (λ a both. let two = and_parts (is_kept_in tag a) _ both in given_at a two.0 ∙ two.1)
        (all_also (is_kept_in tag) (is_given d) (required tag) (required_kept tag) all)

    one_again : (o : Option (Attribute × Attribute)) → option_map_or (λ two. is_kept_in tag two.0 && is_kept_in tag two.1) o true ≡ true
        → option_map_or (has_one printed) o true ≡ option_map_or (has_one d) o true
    one_again None keeps = refl
    one_again (Some two) keeps =
        let both = and_parts (is_kept_in tag two.0) _ keeps in
        let first = given_at two.0 both.0 in
        let second = given_at two.1 both.1 in
        rw (first, second)

    fit_members : list_all (is_given d) (required tag) ≡ true → option_map_or (has_one d) (either tag) true ≡ true → has_fit_members tag printed ≡ true
    fit_members given one =
        and_from _ _
        (and_from _ _
        (and_from _ _ (ap (λ o. option_map_or (λ kids. is_some (as_array kids)) o true) kids_printed ∙ kids_value_fit kids)
        (all_from (λ a. is_in a (attributes tag)) (is_fit tag printed) (attributes tag) fit_at (each_in tag)))
        (required_again given))
        (one_again (either tag) (either_kept tag) ∙ one)

    good_members : bad_code code_of tag printed ≡ None
    good_members = none_finds (is_bad_code code_of tag printed) (attributes tag) (all_from (λ a. is_in a (attributes tag)) _ (attributes tag) bad_at (each_in tag))

-- ---- its faults

-- that a value with this tag has no fault, and the same members as another
pub record IsGood (code_of : Reading) (before : ℕ) (path : List ℕ) (tag : Tag) (d e : Data) : Type 0 where
  pub none : tagged_fault code_of before record { path = path; value = e } tag ≡ None
  pub members : members_at code_of tag e ≡ members_at code_of tag d

-- an element without a fault is printed without one, with the same attributes
pub tagged_again : (code_of : Reading) → ReadsPrinted code_of → (before : ℕ) (path : List ℕ) (tag : Tag) (d : Data) (kids : Items)
    → tagged_fault code_of before record { path = path; value = d } tag ≡ None
    → IsGood code_of before path tag d (printed code_of tag d kids)
tagged_again code_of again before path tag d kids none =
    let is = clean (fault 4 path []) (fault 5 path []) (fault 8 path []) (λ a. fault 6 path (attribute_text a))
    (has_known_members tag d) (has_fit_members tag d) (bad_code code_of tag d) (is_numbered tag && nat_le 4096 before) none in
    let three = and_parts _ (option_map_or (has_one d) (either tag) true) is.fit in
    let two = and_parts _ (list_all (is_given d) (required tag)) three.0 in
    let fit = (and_parts (has_fit_kids d) (list_all (is_fit tag d) (attributes tag)) two.0).1 in
    record {
      none = no_fault (fault 4 path []) (fault 5 path []) (fault 8 path []) (λ a. fault 6 path (attribute_text a))
          (has_known_members tag (printed code_of tag d kids)) (has_fit_members tag (printed code_of tag d kids))
          (bad_code code_of tag (printed code_of tag d kids)) (is_numbered tag && nat_le 4096 before)
          (known_again code_of tag d kids) (fit_members code_of tag d kids again fit is.good two.1 three.1)
          (good_members code_of tag d kids again fit is.good) is.room;
      members = members_again code_of tag d kids again fit is.good;
    }

-- an element without a fault has no unknown members
pub known_without_fault : (code_of : Reading) (before : ℕ) (path : List ℕ) (tag : Tag) (d : Data)
    → tagged_fault code_of before record { path = path; value = d } tag ≡ None → has_known_members tag d ≡ true
known_without_fault code_of before path tag d none =
    (clean (fault 4 path []) (fault 5 path []) (fault 8 path []) (λ a. fault 6 path (attribute_text a))
    (has_known_members tag d) (has_fit_members tag d) (bad_code code_of tag d) (is_numbered tag && nat_le 4096 before) none).known

-- the tag of an element without a fault
pub record HasTag (deep : Bool) (tag_there : Option Tag) (more : Tag → Option ChartFault) : Type 0 where
  pub shallow : deep ≡ false
  pub tag : Tag
  pub there : tag_there ≡ Some tag
  pub none : more tag ≡ None

has_tag : (no_text deep : Bool) (f g h : ChartFault) (o : Option Tag) (more : Tag → Option ChartFault)
    → (if no_text then Some f else if deep then Some g else option_map_or more o (Some h)) ≡ None → HasTag deep o more
has_tag true deep f g h o more none = absurd (cc)
has_tag false true f g h o more none = absurd (cc)
has_tag false false f g h None more none = absurd (cc)
has_tag false false f g h (Some t) more none = record { shallow = refl; tag = t; there = refl; none = none }

-- an element without a fault of its own has a known tag, and stands no deeper than the limit
pub tag_without_fault : (code_of : Reading) (before : ℕ) (path : List ℕ) (d : Data) → own_fault code_of before record { path = path; value = d } ≡ None
    → HasTag (nat_le 40 (length path)) (tag_at d) (tagged_fault code_of before record { path = path; value = d })
unfolding own_fault
tag_without_fault code_of before path d none =
    has_tag (is_none (text_at (codes "tag") d)) (nat_le 40 (length path)) _ _ _ (tag_at d) (tagged_fault code_of before record { path = path; value = d }) none

-- an element of a known tag that is not too deep has no more faults than those of its tag
pub no_own_fault : (code_of : Reading) (before : ℕ) (path : List ℕ) (tag : Tag) (d : Data) → is_none (text_at (codes "tag") d) ≡ false
    → nat_le 40 (length path) ≡ false → tag_at d ≡ Some tag → tagged_fault code_of before record { path = path; value = d } tag ≡ None
    → own_fault code_of before record { path = path; value = d } ≡ None
unfolding own_fault
no_own_fault code_of before path tag d text shallow there none = by (is_none (text_at (codes "tag") d)) (nat_le 40 (length path)) (tag_at d) text shallow there
  where
    by : (no_text deep : Bool) (o : Option Tag) → no_text ≡ false → deep ≡ false → o ≡ Some tag
        → (if no_text then Some (fault 2 path []) else if deep then Some (fault 7 path [])
        else option_map_or (tagged_fault code_of before record { path = path; value = d }) o (Some (fault 3 path []))) ≡ None
    by no_text deep o text shallow there = rw (text, shallow, there, none)
