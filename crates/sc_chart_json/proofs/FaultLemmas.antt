-- The faults of an element in their order.
use Rattle.std.proofs.Common.{◌≡◌, ℕ, ◌<◌, ◌≤◌, ◌+◌, Bool, true, false, nat_le, Option, Some, None, List, [], length, if◌then◌else◌, is_none, option_and_then, codes, refl, ap, ◌∙◌, arith}
use Rattle.std.proofs.lemmas.Bool.{le-leb, leb-true}
use Rattle.std.proofs.lemmas.Option.{none-some}
use Rattle.std.specs.Option.{option_map_or}
use Rattle.serde_json.specs.Data.{Data}
use Rattle.sc_types.specs.declared.profile.Profile.{Profile}
use Rattle.sc_types.specs.ChartTexts.{text_at, tag_at, fault, has_known_members, has_fit_members, bad_code, many_fault, tagged_fault, own_fault, states_at}
use Rattle.sc_types.specs.Elements.{tag_of, is_numbered, attribute_text}
use Rattle.sc_types.specs.declared.chart.ChartFault.{ChartFault}
use Rattle.sc_types.specs.declared.chart.Tag.{Tag}
use Rattle.sc_expr.specs.Reading.{expr_of}
use Rattle.sc_chart_json.specs.Walking.{place}

not_above : (n : ℕ) → n < 40 → nat_le 40 n ≡ false
not_above n less = no_truth (nat_le 40 n) (λ e. absurd (omega (arith, leb-true 40 n e))) where
  no_truth : (b : Bool) → ¬ (b ≡ true) → b ≡ false
  no_truth true n = absurd (n refl)
  no_truth false n = refl

has_text : (o : Option (List ℕ)) (t : Tag) → option_and_then tag_of o ≡ Some t → is_none o ≡ false
has_text None t e = absurd (none-some t e)
has_text (Some text) t e = refl

-- a value without a text at `tag` has fault 2
pub not_element : (profile : Profile) (before : ℕ) (path : List ℕ) (d : Data) (f : ChartFault) → text_at (codes "tag") d ≡ None
    → fault 2 path [] ≡ f → own_fault (expr_of profile) before (place path d) ≡ Some f
unfolding own_fault
not_element profile before path d f e is = rw e (ap Some is)

-- an element with 40 or more elements above it has fault 7, whatever its tag
pub too_deep : (profile : Profile) (before : ℕ) (path : List ℕ) (d : Data) (text : List ℕ) (f : ChartFault) → text_at (codes "tag") d ≡ Some text → 40 ≤ length path
    → fault 7 path [] ≡ f → own_fault (expr_of profile) before (place path d) ≡ Some f
unfolding own_fault
too_deep profile before path d text f e deep is = rw (e, le-leb 40 (length path) deep) (ap Some is)

-- an element whose `tag` names no element has fault 3
pub unknown_tag : (profile : Profile) (before : ℕ) (path : List ℕ) (d : Data) (text : List ℕ) (f : ChartFault) → text_at (codes "tag") d ≡ Some text → length path < 40
    → tag_of text ≡ None → fault 3 path [] ≡ f → own_fault (expr_of profile) before (place path d) ≡ Some f
unfolding own_fault
unknown_tag profile before path d text f e shallow none is = rw (e, not_above (length path) shallow, none) (ap Some is)

-- an element of a known tag
known_tag : (profile : Profile) (before : ℕ) (path : List ℕ) (d : Data) (t : Tag) → tag_at d ≡ Some t → length path < 40
    → own_fault (expr_of profile) before (place path d) ≡ tagged_fault (expr_of profile) before (place path d) t
unfolding own_fault
known_tag profile before path d t e shallow = rw (has_text (text_at (codes "tag") d) t e, not_above (length path) shallow, e) refl

-- an element of a known tag with a member that it may not have has fault 4
pub unknown_member : (profile : Profile) (before : ℕ) (path : List ℕ) (d : Data) (t : Tag) (f : ChartFault) → tag_at d ≡ Some t → length path < 40
    → has_known_members t d ≡ false → fault 4 path [] ≡ f → own_fault (expr_of profile) before (place path d) ≡ Some f
unknown_member profile before path d t f e shallow unknown is = known_tag profile before path d t e shallow ∙ rw unknown (ap Some is)

-- where each member may be there, one that is missing or has another form is fault 5
pub bad_member : (profile : Profile) (before : ℕ) (path : List ℕ) (d : Data) (t : Tag) (f : ChartFault) → tag_at d ≡ Some t → length path < 40
    → has_known_members t d ≡ true → has_fit_members t d ≡ false → fault 5 path [] ≡ f → own_fault (expr_of profile) before (place path d) ≡ Some f
bad_member profile before path d t f e shallow known bad is = known_tag profile before path d t e shallow ∙ rw (known, bad) (ap Some is)

-- where each member has its form, the first attribute by name that is no expression is fault 6
pub bad_expr : (profile : Profile) (before : ℕ) (path : List ℕ) (d : Data) (t : Tag) (f : ChartFault) → tag_at d ≡ Some t → length path < 40
    → has_known_members t d ≡ true → has_fit_members t d ≡ true
    → ((later : Option ChartFault) → option_map_or (λ a. Some (fault 6 path (attribute_text a))) (bad_code (expr_of profile) t d) later ≡ Some f)
    → own_fault (expr_of profile) before (place path d) ≡ Some f
bad_expr profile before path d t f e shallow known fit is = known_tag profile before path d t e shallow ∙ rw (known, fit) (is _)

-- where the element itself is right, a state too many is fault 8
pub too_many : (profile : Profile) (before : ℕ) (path : List ℕ) (d : Data) (t : Tag) (f : ChartFault) → tag_at d ≡ Some t → length path < 40
    → has_known_members t d ≡ true → has_fit_members t d ≡ true → bad_code (expr_of profile) t d ≡ None → many_fault before path t ≡ Some f
    → own_fault (expr_of profile) before (place path d) ≡ Some f
too_many profile before path d t f e shallow known fit good many = known_tag profile before path d t e shallow ∙ rw (known, fit, good) many

-- an element that passes each of the tests has no fault of its own
pub faultless : (profile : Profile) (before : ℕ) (path : List ℕ) (d : Data) (t : Tag) → tag_at d ≡ Some t → length path < 40
    → has_known_members t d ≡ true → has_fit_members t d ≡ true → bad_code (expr_of profile) t d ≡ None → many_fault before path t ≡ None
    → own_fault (expr_of profile) before (place path d) ≡ None
faultless profile before path d t e shallow known fit good few = known_tag profile before path d t e shallow ∙ rw (known, fit, good) few

-- the count of states rises by one exactly at a state
pub counted : (before : ℕ) (path : List ℕ) (d : Data) (t : Tag) (after : ℕ) → tag_at d ≡ Some t → after ≡ before + (if is_numbered t then 1 else 0)
    → after ≡ before + states_at (place path d)
counted before path d t after e is = rw e is

pub ruleset tag_faults = (not_element, too_deep, unknown_tag)

pub ruleset own_faults = (unknown_member, bad_member, bad_expr, too_many, faultless, counted)
