-- Which charts are legal, and the first fault of one that is not. Each fault is a test of the element at a path. SCXML
-- 3.2 to 3.14 and chapters 4 to 6 say what stands where; the numbers, the limits and what is marked so are this host's
-- own rule.
use Rattle.std.specs.Prelude.{ℕ, zero, suc, ◌-◌, ◌==◌, Bool, true, false, not, ◌&&◌, ◌||◌, nat_le, nat_lt, if◌then◌else◌, is_none, Option, None, Some, option_map, List, [], ◌∷◌, length, take, find, filter, slice_index, codes}
use Rattle.std.specs.List.{list_all, list_any, filter_map}
use Rattle.std.specs.Option.{option_map_or}
use Rattle.std.specs.Str.Parse.{digits_value}
use Rattle.sc_types.specs.ChartTexts.{fault}
use Rattle.sc_types.specs.Elements.{is_numbered}
use Rattle.sc_types.specs.declared.attribute.Attribute.{Attribute}
use Rattle.sc_types.specs.declared.attribute.Attribute.TheVariants as attribute
use Rattle.sc_types.specs.declared.chart.Chart.{Chart}
use Rattle.sc_types.specs.declared.chart.ChartFault.{ChartFault}
use Rattle.sc_types.specs.declared.chart.Member.{Member}
use Rattle.sc_types.specs.declared.chart.Node.{Node}
use Rattle.sc_types.specs.declared.chart.Tag.{Tag}
use Rattle.sc_types.specs.declared.chart.Tag.TheVariants as tag
use Rattle.sc_types.specs.declared.expr.Expr.{Expr}
use Rattle.sc_types.specs.declared.faults.TheConstants.{DOUBLE_ID, UNKNOWN_TARGET, BAD_INITIAL, BAD_HISTORY, BAD_TARGETS, EMPTY_TRANSITION, BAD_CHILD, BAD_LIMIT, BAD_SEND, BAD_INVOKE, BAD_DATA, EMPTY_FINALIZE}
use Rattle.sc_types.specs.declared.limits.TheConstants.{ROUND_LIMIT}
use Rattle.sc_types.specs.declared.expr.Expr.TheVariants.{Active}
use Rattle.sc_types.specs.Attributes.{given, has, words_at, text_at, is_text_at, code_of}
use Rattle.sc_law.specs.Nodes.{Path, elements, element, is_root, parent, is_same, kids, leads_on, tag_of, is_tag}
use Rattle.sc_law.specs.Tree.{has_states, is_atomic_element}

-- elements

-- the place of an element among the child elements of its parent
abbrev pub own_place : Path → ℕ
own_place path = slice_index path (length path - 1)

-- the child elements before it
abbrev pub earlier : Chart → Path → List Node
earlier c path = take (own_place path) (kids (element c (parent path)))

-- tags

abbrev pub is_state_or_parallel : Tag → Bool
is_state_or_parallel tag.State = true
is_state_or_parallel tag.Parallel = true
is_state_or_parallel t = false

abbrev pub has_kid : Tag → Node → Bool
has_kid t n = list_any (λ kid. is_tag t (tag_of kid)) (kids n)

-- ids

-- the first element that passes the test, among those with this text at an attribute
abbrev pub first_with : (Tag → Bool) → Attribute → Chart → List ℕ → Option Path
first_with test a c text =
    find (λ path. test (tag_of (element c path)) && is_text_at a text (element c path)) (elements c)

-- the path of a state or history by its id: the first one of that id
abbrev pub path_named : Chart → List ℕ → Option Path
path_named c id = first_with is_numbered attribute.Id c id

-- whether an earlier element that passes the test has the same text
abbrev pub is_repeated : (Tag → Bool) → Attribute → Chart → Path → Bool
is_repeated test a c path = test (tag_of (element c path))
    && option_map_or (λ text. option_map_or (λ first. not (is_same first path)) (first_with test a c text) false)
    (text_at a (element c path)) false

-- 20: the id of an earlier state
abbrev pub is_double_id : Chart → Path → Bool
is_double_id c path = is_repeated is_numbered attribute.Id c path

-- targets

-- the ids that an element names as targets
abbrev pub target_ids : Node → Tag → List (List ℕ)
target_ids n tag.Transition = words_at attribute.Target n
target_ids n tag.Scxml = words_at attribute.Initial n
target_ids n tag.State = words_at attribute.Initial n
target_ids n t = []

-- 21: a target that is no state's id
abbrev pub has_unknown_target : Chart → Path → Bool
has_unknown_target c path =
    list_any (λ id. is_none (path_named c id)) (target_ids (element c path) (tag_of (element c path)))

-- the targets that there are
abbrev pub targets : Chart → List (List ℕ) → List Path
targets c ids = filter_map (path_named c) ids

abbrev pub common : Path → Path → Path
common (a ∷ above) (b ∷ other) = if a == b then a ∷ common above other else []
common above other = []

-- a history counts as a child of its parent
abbrev pub is_history_of : Chart → Path → Path → Bool
is_history_of c above path = is_tag tag.History (tag_of (element c path)) && is_same (parent path) above

-- Two targets that can be active at once: neither is above the other, and they first meet in a parallel. That a
-- history of that parallel does not count is own.
abbrev pub are_orthogonal : Chart → Path → Path → Bool
are_orthogonal c a b = not (is_same a b) && not (leads_on a b) && not (leads_on b a)
    && is_tag tag.Parallel (tag_of (element c (common a b)))
    && not (is_history_of c (common a b) a) && not (is_history_of c (common a b) b)

abbrev pub all_orthogonal : Chart → List Path → Bool
all_orthogonal c [] = true
all_orthogonal c (path ∷ paths) = list_all (are_orthogonal c path) paths && all_orthogonal c paths

abbrev pub are_below : Path → List Path → Bool
are_below above paths = list_all (leads_on above) paths

-- default transitions

-- no text of a chart spells an empty list, but a chart may be made with one
abbrev pub names_none : Attribute → Node → Bool
names_none a n = length (words_at a n) == 0

-- a transition that only names targets
abbrev pub is_default : Node → Bool
is_default t = not (has attribute.Event t) && not (has attribute.Cond t) && not (names_none attribute.Target t)

abbrev pub only_default : List Node → Option (List (List ℕ))
only_default [] = None
only_default (t ∷ []) = if is_default t then Some (words_at attribute.Target t) else None
only_default (t ∷ s ∷ ts) = None

-- what the only transition of an `initial` or a history names
abbrev pub default_ids : Node → Option (List (List ℕ))
default_ids n = only_default (filter (λ kid. is_tag tag.Transition (tag_of kid)) (kids n))

-- 22: defaults of states

abbrev pub is_bad_member : Chart → Path → Node → Tag → Bool
is_bad_member c path n tag.Scxml =
    names_none attribute.Initial n || not (all_orthogonal c (targets c (words_at attribute.Initial n)))
is_bad_member c path n tag.State = names_none attribute.Initial n || not (has_states n) || has_kid tag.Initial n
    || not (are_below path (targets c (words_at attribute.Initial n)))
    || not (all_orthogonal c (targets c (words_at attribute.Initial n)))
is_bad_member c path n t = false

abbrev pub are_bad_defaults : Chart → Path → List Path → Bool
are_bad_defaults c path paths =
    not (is_root path) && (is_atomic_element (element c (parent path)) (tag_of (element c (parent path)))
    || is_state_or_parallel (tag_of (element c (parent path))) && not (are_below (parent path) paths))
    || not (all_orthogonal c paths)

abbrev pub is_bad_element : Chart → Path → Bool
is_bad_element c path =
    option_map_or (λ ids. are_bad_defaults c path (targets c ids)) (default_ids (element c path)) true

abbrev pub is_bad_initial : Chart → Path → Bool
is_bad_initial c path =
    is_root path && not (has_states (element c path))
    || has attribute.Initial (element c path) && is_bad_member c path (element c path) (tag_of (element c path))
    || is_tag tag.Initial (tag_of (element c path)) && is_bad_element c path

-- 23: defaults of histories

-- a shallow history's target is a child of its parent, a deep one's is anywhere below it
abbrev pub is_bad_recorded : Chart → Path → Path → Bool
is_bad_recorded c path target =
    is_tag tag.History (tag_of (element c target)) || is_root path || not (leads_on (parent path) target)
    || not (is_text_at attribute.Type (codes "deep") (element c path)) && not (is_same (parent target) (parent path))

abbrev pub are_bad_recorded : Chart → Path → List Path → Bool
are_bad_recorded c path paths = list_any (is_bad_recorded c path) paths || not (all_orthogonal c paths)

abbrev pub is_bad_history : Chart → Path → Bool
is_bad_history c path = is_tag tag.History (tag_of (element c path))
    && option_map_or (λ ids. are_bad_recorded c path (targets c ids)) (default_ids (element c path)) true

-- 24 and 25: the transitions of states and parallels

abbrev pub is_transition : Chart → Path → Bool
is_transition c path = is_tag tag.Transition (tag_of (element c path)) && not (is_root path)
    && is_state_or_parallel (tag_of (element c (parent path)))

abbrev pub has_bad_targets : Chart → Path → Bool
has_bad_targets c path =
    is_transition c path && not (all_orthogonal c (targets c (words_at attribute.Target (element c path))))

abbrev pub is_empty_transition : Chart → Path → Bool
is_empty_transition c path = is_transition c path && not (has attribute.Event (element c path))
    && not (has attribute.Cond (element c path)) && not (has attribute.Target (element c path))

-- 26: what stands where

abbrev pub is_content : Tag → Bool
is_content tag.Raise = true
is_content tag.If = true
is_content tag.ForEach = true
is_content tag.Log = true
is_content tag.Assign = true
is_content tag.Send = true
is_content tag.Cancel = true
is_content t = false

abbrev pub is_among : List Tag → Tag → Bool
is_among ts t = list_any (is_tag t) ts

-- the parent's tag, and the child's
abbrev pub may_hold : Tag → Tag → Bool
may_hold tag.Scxml t = is_among (tag.DataModel ∷ tag.State ∷ tag.Parallel ∷ tag.Final ∷ []) t
may_hold tag.State t =
    is_among (tag.DataModel ∷ tag.OnEntry ∷ tag.OnExit ∷ tag.Transition ∷ tag.Initial ∷ tag.State ∷ tag.Parallel
    ∷ tag.Final ∷ tag.History ∷ tag.Invoke ∷ []) t
may_hold tag.Parallel t =
    is_among (tag.DataModel ∷ tag.OnEntry ∷ tag.OnExit ∷ tag.Transition ∷ tag.State ∷ tag.Parallel ∷ tag.History
    ∷ tag.Invoke ∷ []) t
may_hold tag.Final t = is_among (tag.OnEntry ∷ tag.OnExit ∷ tag.DoneData ∷ []) t
may_hold tag.History t = is_tag tag.Transition t
may_hold tag.Initial t = is_tag tag.Transition t
may_hold tag.Transition t = is_content t
may_hold tag.OnEntry t = is_content t
may_hold tag.OnExit t = is_content t
may_hold tag.Finalize t = is_content t && not (is_among (tag.Raise ∷ tag.Send ∷ []) t)
may_hold tag.DataModel t = is_tag tag.DataItem t
may_hold tag.DoneData t = is_among (tag.Content ∷ tag.Param ∷ []) t
may_hold tag.Invoke t = is_among (tag.Param ∷ tag.Finalize ∷ []) t
may_hold tag.If t = is_content t || is_among (tag.ElseIf ∷ tag.Else ∷ []) t
may_hold tag.ForEach t = is_content t
may_hold tag.Send t = is_among (tag.Content ∷ tag.Param ∷ []) t
may_hold s t = false

-- of which at most one may stand in a parent
abbrev pub is_single : Tag → Tag → Bool
is_single tag.Scxml t = is_tag tag.DataModel t
is_single tag.State t = is_among (tag.DataModel ∷ tag.Initial ∷ []) t
is_single tag.Parallel t = is_tag tag.DataModel t
is_single tag.Final t = is_tag tag.DoneData t
is_single tag.DoneData t = is_tag tag.Content t
is_single tag.Invoke t = is_tag tag.Finalize t
is_single tag.Send t = is_tag tag.Content t
is_single s t = false

abbrev pub has_earlier : Tag → Chart → Path → Bool
has_earlier t c path = list_any (λ kid. is_tag t (tag_of kid)) (earlier c path)

-- a finalize stands somewhere above
abbrev pub is_in_finalize : Chart → ℕ → Path → Bool
is_in_finalize c zero path = false
is_in_finalize c (suc n) path = is_tag tag.Finalize (tag_of (element c (take n path))) || is_in_finalize c n path

abbrev pub is_bad_kid : Chart → Path → Tag → Tag → Bool
is_bad_kid c path above t =
    not (may_hold above t)
    || is_single above t && has_earlier t c path
    || is_tag tag.DoneData above && is_tag tag.Param t && has_kid tag.Content (element c (parent path))
    || is_among (tag.Raise ∷ tag.Send ∷ []) t && is_in_finalize c (length path) path
    || is_tag tag.If above && is_among (tag.ElseIf ∷ tag.Else ∷ []) t && has_earlier tag.Else c path

abbrev pub is_bad_child : Chart → Path → Bool
is_bad_child c path =
    if is_root path then not (is_tag tag.Scxml (tag_of (element c path)))
    else is_bad_kid c path (tag_of (element c (parent path))) (tag_of (element c path))

-- 27: the rounds that a turn may take
abbrev pub is_bad_limit : Chart → Path → Bool
is_bad_limit c path = is_root path
    && option_map_or (λ text. not (nat_le 1 (digits_value 10 text) && nat_le (digits_value 10 text) ROUND_LIMIT))
    (text_at attribute.Limit (element c path)) false

-- 28: one name for the event, one for the id and one for the delay; data in one way
abbrev pub is_bad_send_node : Node → Bool
is_bad_send_node n =
    (if has attribute.Event n then has attribute.EventExpr n else not (has attribute.EventExpr n))
    || has attribute.Id n && has attribute.IdLocation n
    || has attribute.Delay n && has attribute.DelayExpr n
    || has_kid tag.Content n && (has attribute.NameList n || has_kid tag.Param n)
    || (has attribute.Delay n || has attribute.DelayExpr n) && is_text_at attribute.Target (codes "#_internal") n

abbrev pub is_bad_send : Chart → Path → Bool
is_bad_send c path = is_tag tag.Send (tag_of (element c path)) && is_bad_send_node (element c path)

-- 29: one name for the id, which no earlier invoke has
abbrev pub is_bad_invoke : Chart → Path → Bool
is_bad_invoke c path = is_tag tag.Invoke (tag_of (element c path))
    && (has attribute.Id (element c path) && has attribute.IdLocation (element c path)
    || is_repeated (is_tag tag.Invoke) attribute.Id c path)

-- 30: data, and the null data model

abbrev pub is_null_model : Chart → Bool
is_null_model c = is_text_at attribute.DataModel (codes "null") c.root

-- `_` begins the names of the system
abbrev pub is_system_name : List ℕ → Bool
is_system_name text = slice_index text 0 == 95

abbrev pub is_bad_datum : Chart → Path → Bool
is_bad_datum c path = is_tag tag.DataItem (tag_of (element c path))
    && (option_map_or is_system_name (text_at attribute.Id (element c path)) false
    || is_repeated (is_tag tag.DataItem) attribute.Id c path)

abbrev pub is_active : Expr → Bool
is_active (Active id) = true
is_active e = false

abbrev pub is_test : Member → Bool
is_test m = option_map_or is_active (code_of m) false

-- what the null data model has not: data, and each condition but one `In`
abbrev pub needs_data : Node → Bool
needs_data n =
    is_among (tag.DataItem ∷ tag.Assign ∷ tag.ForEach ∷ tag.Param ∷ tag.Content ∷ []) (tag_of n)
    || list_any (λ a. has a n)
    (attribute.Expr ∷ attribute.EventExpr ∷ attribute.DelayExpr ∷ attribute.SendIdExpr ∷ attribute.NameList
    ∷ attribute.IdLocation ∷ [])
    || option_map_or (λ m. not (is_test m)) (given attribute.Cond n) false

abbrev pub is_bad_data : Chart → Path → Bool
is_bad_data c path = is_bad_datum c path || is_null_model c && needs_data (element c path)

-- 31
abbrev pub is_empty_finalize : Chart → Path → Bool
is_empty_finalize c path = is_tag tag.Finalize (tag_of (element c path)) && nat_lt (length (kids (element c path))) 1

-- the faults with their numbers
abbrev pub tests : List (ℕ × (Chart → Path → Bool))
tests = (DOUBLE_ID, is_double_id) ∷ (UNKNOWN_TARGET, has_unknown_target) ∷ (BAD_INITIAL, is_bad_initial)
    ∷ (BAD_HISTORY, is_bad_history) ∷ (BAD_TARGETS, has_bad_targets) ∷ (EMPTY_TRANSITION, is_empty_transition)
    ∷ (BAD_CHILD, is_bad_child) ∷ (BAD_LIMIT, is_bad_limit) ∷ (BAD_SEND, is_bad_send) ∷ (BAD_INVOKE, is_bad_invoke)
    ∷ (BAD_DATA, is_bad_data) ∷ (EMPTY_FINALIZE, is_empty_finalize) ∷ []

-- the smallest number at an element
abbrev pub number_at : Chart → Path → Option ℕ
number_at c path =
    option_map (λ (t : ℕ × (Chart → Path → Bool)). t.0) (find (λ (t : ℕ × (Chart → Path → Bool)). t.1 c path) tests)

abbrev pub fault_at : Chart → Path → Option ChartFault
fault_at c path = option_map (λ number. fault number path []) (number_at c path)

-- the fault of the first element that has one
abbrev pub first_fault : Chart → List Path → Option ChartFault
first_fault c [] = None
first_fault c (path ∷ paths) = option_map_or Some (fault_at c path) (first_fault c paths)

unfoldable pub legal_fault : Chart → Option ChartFault
legal_fault c = first_fault c (elements c)
