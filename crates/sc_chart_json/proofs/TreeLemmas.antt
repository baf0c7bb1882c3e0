-- A borrowed tree beside the data that it stands for.
use Rattle.std.proofs.Common.{◌≡◌, ◌||◌, Bool, true, false, Option, Some, None, Vec, Global, option_map, option_and_then, is_some, cond, List, [], ◌∷◌, Bor, refl, sym, ap, ◌∙◌, ℕ, bytes_eq, true≢false}
use Rattle.std.proofs.lemmas.Slice.Eq.{bytes_eq-Decides}
use Rattle.std.specs.Option.{option_map_or}
use Rattle.json.specs.Find as finds
use Rattle.json.specs.Json as json
use Rattle.json.specs.Value.{value_view, items_view as json_items, members_view as json_members}
use Rattle.json.specs.declared.value.Value.{Value, Array, Object}
use Rattle.json.proofs.Trees.{view-Array, view-Object}
use Rattle.serde_json.specs.Data.{Num, Data, null, number, array, object, Items, item, Members, no_members, put}
use Rattle.serde_json.specs.Find.{get, get_member, as_str, as_array, as_object}
use Rattle.serde_json.specs.Read.{number_of, of_json, of_items, of_members, read}
use Rattle.serde_json.proofs.Views.{get_member-put, get_member-put_other}
use Rattle.sc_chart_json.specs.Trees.{tree_of, data_of, data_of_items, data_of_members, view, items_view, put_members, has_number, have_number, members_have_number}

-- ---- what a text is read as

number_read : (o : Option Num) (d : Data) → option_map number o ≡ Some d → option_map_or number o null ≡ d
number_read None d e = absurd (cc)
number_read (Some n) d e = cc

array_read : (o : Option Items) (ds : Items) (d : Data) → ((xs : Items) → o ≡ Some xs → ds ≡ xs) → option_map array o ≡ Some d → array ds ≡ d
array_read None ds d h e = absurd (cc)
array_read (Some xs) ds d h e = let same = h xs refl in cc

object_read : (o : Option Members) (ms : Members) (d : Data) → ((xs : Members) → o ≡ Some xs → ms ≡ xs) → option_map object o ≡ Some d → object ms ≡ d
object_read None ms d h e = absurd (cc)
object_read (Some xs) ms d h e = let same = h xs refl in cc

item_read : (o : Option Data) (p : Option Items) (d : Data) (ds all : Items) → ((x : Data) → o ≡ Some x → d ≡ x) → ((xs : Items) → p ≡ Some xs → ds ≡ xs)
    → option_and_then (λ d. option_map (item d) p) o ≡ Some all → item d ds ≡ all
item_read None p d ds all one more e = absurd (cc)
item_read (Some x) None d ds all one more e = absurd (cc)
item_read (Some x) (Some xs) d ds all one more e = let first = one x refl in let rest = more xs refl in cc

member_read : (f : Data → Option Members) (o : Option Data) (d : Data) (ms : Members) → ((x : Data) → o ≡ Some x → d ≡ x) → option_and_then f o ≡ Some ms → f d ≡ Some ms
member_read f None d ms one e = absurd (cc)
member_read f (Some x) d ms one e = ap f (one x refl) ∙ e

mutual
  data_of-read : (j : json.Json) (d : Data) → of_json j ≡ Some d → data_of j ≡ d
  data_of-read json.null d e = cc
  data_of-read (json.boolean b) d e = cc
  data_of-read (json.number s) d e = number_read (number_of s) d e
  data_of-read (json.string s) d e = cc
  data_of-read (json.array js) d e = array_read (of_items js) (data_of_items js) d (items-read js) e
  data_of-read (json.object ms) d e = object_read (of_members ms no_members) (data_of_members ms no_members) d (members-read ms no_members) e

  items-read : (js : json.Items) (ds : Items) → of_items js ≡ Some ds → data_of_items js ≡ ds
  items-read json.no_items ds e = cc
  items-read (json.item j js) ds e = item_read (of_json j) (of_items js) (data_of j) (data_of_items js) ds (data_of-read j) (items-read js) e

  members-read : (ms : json.Members) (old new : Members) → of_members ms old ≡ Some new → data_of_members ms old ≡ new
  members-read json.no_members old new e = cc
  members-read (json.member k j ms) old new e =
      members-read ms (put k (data_of j) old) new (member_read (λ d. of_members ms (put k d old)) (of_json j) (data_of j) new (data_of-read j) e)

neither : (a b : Bool) → (a || b) ≡ false → (a ≡ false) × (b ≡ false)
neither true b e = absurd (true≢false e)
neither false b e = (refl, e)

mutual
  data_of-plain : (j : json.Json) → has_number j ≡ false → of_json j ≡ Some (data_of j)
  data_of-plain json.null e = refl
  data_of-plain (json.boolean b) e = refl
  data_of-plain (json.number s) e = absurd (true≢false e)
  data_of-plain (json.string s) e = refl
  data_of-plain (json.array js) e = ap (option_map array) (items-plain js e)
  data_of-plain (json.object ms) e = ap (option_map object) (members-plain ms no_members e)

  items-plain : (js : json.Items) → have_number js ≡ false → of_items js ≡ Some (data_of_items js)
  items-plain json.no_items e = refl
  items-plain (json.item j js) e =
      let both = neither (has_number j) (have_number js) e in
      ap (option_and_then (λ d. option_map (item d) (of_items js))) (data_of-plain j both.0) ∙ ap (option_map (item (data_of j))) (items-plain js both.1)

  members-plain : (ms : json.Members) (old : Members) → members_have_number ms ≡ false → of_members ms old ≡ Some (data_of_members ms old)
  members-plain json.no_members old e = refl
  members-plain (json.member k j ms) old e =
      let both = neither (has_number j) (members_have_number ms) e in
      ap (option_and_then (λ d. of_members ms (put k d old))) (data_of-plain j both.0) ∙ members-plain ms (put k (data_of j) old) both.1

-- a tree without a number is what is read
pub read_plain : (text : List ℕ) (v : Value Global) → has_number (value_view v) ≡ false → tree_of text ≡ Some (value_view v) → read text ≡ Some (view v)
unfolding view
read_plain text v plain e = ap (option_and_then of_json) e ∙ data_of-plain (value_view v) plain

found_read : (o : Option Data) (d : Data) → is_some o ≡ true → ((x : Data) → o ≡ Some x → d ≡ x) → o ≡ Some d
found_read None d e h = absurd (true≢false (sym e))
found_read (Some x) d e h = ap Some (sym (h x refl))

-- where anything is read, it is the tree
pub read_checked : (text : List ℕ) (v : Value Global) → is_some (read text) ≡ true → tree_of text ≡ Some (value_view v) → read text ≡ Some (view v)
unfolding view
read_checked text v some e =
    found_read (read text) (data_of (value_view v)) some (λ x is. data_of-read (value_view v) x (sym (ap (option_and_then of_json) e) ∙ is))

-- nothing is read where there is no tree
pub read_none : (text : List ℕ) → tree_of text ≡ None → read text ≡ None
read_none text e = ap (option_and_then of_json) e

-- ---- what is found in a value

abbrev or_found : Option Data → Option Data → Option Data
or_found None earlier = earlier
or_found (Some d) earlier = Some d

or_none : (o : Option Data) → or_found o None ≡ o
or_none None = refl
or_none (Some d) = refl

-- the one name that is put, and the others
get_put : (name k : List ℕ) (j : json.Json) (old : Members) (b : Bool) → bytes_eq k name ≡ b
    → get_member name (put k (data_of j) old) ≡ or_found (option_map data_of (cond b (Some j) None)) (get_member name old)
get_put name k j old true e =
    ap (λ n. get_member n (put k (data_of j) old)) (sym ((bytes_eq-Decides k name).0 e)) ∙ get_member-put k (data_of j) old
get_put name k j old false e =
    get_member-put_other name k (data_of j) old (λ same. absurd (true≢false (sym ((bytes_eq-Decides k name).1 (sym same)) ∙ e)))

later : (o : Option json.Json) (here : Option json.Json) (new old : Option Data) → new ≡ or_found (option_map data_of here) old
    → or_found (option_map data_of o) new ≡ or_found (option_map data_of (finds.later_or o here)) old
later None here new old e = e
later (Some j) here new old e = refl

get_members : (name : List ℕ) (ms : json.Members) (old : Members)
    → get_member name (data_of_members ms old) ≡ or_found (option_map data_of (finds.get_member name ms)) (get_member name old)
get_members name json.no_members old = refl
get_members name (json.member k j ms) old =
    get_members name ms (put k (data_of j) old)
    ∙ later (finds.get_member name ms) (cond (bytes_eq k name) (Some j) None) _ _ (get_put name k j old (bytes_eq k name) refl)

number_has_none : (name : List ℕ) (o : Option Num) → None ≡ get name (option_map_or number o null)
number_has_none name None = refl
number_has_none name (Some n) = refl

get-data_of : (name : List ℕ) (j : json.Json) → option_map data_of (finds.get name j) ≡ get name (data_of j)
get-data_of name json.null = refl
get-data_of name (json.boolean b) = refl
get-data_of name (json.number s) = number_has_none name (number_of s)
get-data_of name (json.string s) = refl
get-data_of name (json.array js) = refl
get-data_of name (json.object ms) = sym (get_members name ms no_members ∙ or_none _)

view_found : (r : Option (Bor (Value Global))) → option_map (λ v. view v.now) r ≡ option_map data_of (option_map (λ v. value_view v.now) r)
unfolding view
view_found None = refl
view_found (Some v) = refl

-- what is found in a tree stands for what is found in the data
pub get-view : (name : List ℕ) (r : Option (Bor (Value Global))) (v : Value Global) → option_map (λ v. value_view v.now) r ≡ finds.get name (value_view v)
    → option_map (λ v. view v.now) r ≡ get name (view v)
unfolding view
get-view name r v e = view_found r ∙ ap (option_map data_of) e ∙ get-data_of name (value_view v)

number_is_no_text : (o : Option Num) → None ≡ as_str (option_map_or number o null)
number_is_no_text None = refl
number_is_no_text (Some n) = refl

as_str-data_of : (j : json.Json) → finds.as_str j ≡ as_str (data_of j)
as_str-data_of json.null = refl
as_str-data_of (json.boolean b) = refl
as_str-data_of (json.number s) = number_is_no_text (number_of s)
as_str-data_of (json.string s) = refl
as_str-data_of (json.array js) = refl
as_str-data_of (json.object ms) = refl

-- a tree and its data are the same text
pub as_str-view : (v : Value Global) → finds.as_str (value_view v) ≡ as_str (view v)
unfolding view
as_str-view v = as_str-data_of (value_view v)

number_is_no_array : (o : Option Num) → None ≡ as_array (option_map_or number o null)
number_is_no_array None = refl
number_is_no_array (Some n) = refl

as_array-data_of : (j : json.Json) → option_map data_of_items (finds.as_array j) ≡ as_array (data_of j)
as_array-data_of json.null = refl
as_array-data_of (json.boolean b) = refl
as_array-data_of (json.number s) = number_is_no_array (number_of s)
as_array-data_of (json.string s) = refl
as_array-data_of (json.array js) = refl
as_array-data_of (json.object ms) = refl

items_view-data_of : (vs : List (Value Global)) → items_view vs ≡ data_of_items (json_items vs)
unfolding view
items_view-data_of [] = refl
items_view-data_of (v ∷ vs) = ap (item (data_of (value_view v))) (items_view-data_of vs)

items_found : (r : Option (Bor (Vec (Value Global) Global))) → option_map (λ vs. items_view vs.now.items) r ≡ option_map data_of_items (option_map (λ vs. json_items vs.now.items) r)
items_found None = refl
items_found (Some vs) = ap Some (items_view-data_of vs.now.items)

-- the items of a tree stand for those of its data
pub as_array-view : (r : Option (Bor (Vec (Value Global) Global))) (v : Value Global) → option_map (λ vs. json_items vs.now.items) r ≡ finds.as_array (value_view v)
    → option_map (λ vs. items_view vs.now.items) r ≡ as_array (view v)
unfolding view
as_array-view r v e = items_found r ∙ ap (option_map data_of_items) e ∙ as_array-data_of (value_view v)

-- the items of an array
pub in_array : (v : Value Global) (vs : Vec (Value Global) Global) → v ≡ Array vs → Some (items_view vs.items) ≡ as_array (view v)
unfolding view
in_array v vs e =
    ap Some (items_view-data_of vs.items) ∙ ap (λ j. as_array (data_of j)) (sym (ap value_view e ∙ view-Array vs))

number_is_no_object : (o : Option Num) → None ≡ as_object (option_map_or number o null)
number_is_no_object None = refl
number_is_no_object (Some n) = refl

as_object-data_of : (j : json.Json) → option_map (λ ms. data_of_members ms no_members) (finds.as_object j) ≡ as_object (data_of j)
as_object-data_of json.null = refl
as_object-data_of (json.boolean b) = refl
as_object-data_of (json.number s) = number_is_no_object (number_of s)
as_object-data_of (json.string s) = refl
as_object-data_of (json.array js) = refl
as_object-data_of (json.object ms) = refl

put_members-data_of : (ms : List (Bor (List ℕ) × Value Global)) (old : Members) → put_members ms old ≡ data_of_members (json_members ms) old
unfolding view
put_members-data_of [] old = refl
put_members-data_of (m ∷ ms) old = put_members-data_of ms (put m.0.now (data_of (value_view m.1)) old)

members_found : (r : Option (Bor (List (Bor (List ℕ) × Value Global))))
    → option_map (λ ms. put_members ms.now no_members) r ≡ option_map (λ ms. data_of_members ms no_members) (option_map (λ ms. json_members ms.now) r)
members_found None = refl
members_found (Some ms) = ap Some (put_members-data_of ms.now no_members)

-- the members of a tree, put one after another, are those of its data
pub as_object-view : (r : Option (Bor (List (Bor (List ℕ) × Value Global)))) (v : Value Global) → option_map (λ ms. json_members ms.now) r ≡ finds.as_object (value_view v)
    → option_map (λ ms. put_members ms.now no_members) r ≡ as_object (view v)
unfolding view
as_object-view r v e = members_found r ∙ ap (option_map (λ ms. data_of_members ms no_members)) e ∙ as_object-data_of (value_view v)

-- the members of an object
pub in_object : (v : Value Global) (ms : Vec (Bor (List ℕ) × Value Global) Global) → v ≡ Object ms → Some (put_members ms.items no_members) ≡ as_object (view v)
unfolding view
in_object v ms e =
    ap Some (put_members-data_of ms.items no_members) ∙ ap (λ j. as_object (data_of j)) (sym (ap value_view e ∙ view-Object ms))

pub ruleset reads = (read_plain, read_checked, read_none)

pub ruleset looks = (get-view, as_str-view, as_array-view, as_object-view)
