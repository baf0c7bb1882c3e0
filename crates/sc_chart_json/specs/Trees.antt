-- A tree that borrows from a text, as the data that `serde_json` reads from that text. Only contracts of private
-- functions cite this.
use Rattle.std.specs.Prelude.{ℕ, Bool, true, false, ◌||◌, Option, option_and_then, List, [], ◌∷◌, map}
use Rattle.std.specs.Borrow.{Bor}
use Rattle.std.specs.Option.{option_map_or}
use Rattle.std.specs.declared.alloc.Global.{Global}
use Rattle.json.specs.Json as json
use Rattle.json.specs.Lex.{tokens}
use Rattle.json.specs.Value.{value_view}
use Rattle.json.specs.declared.value.Value.{Value}
use Rattle.serde_json.specs.Data.{Data, null, boolean, number, string, array, object, Items, no_items, item, Members, no_members, put}
use Rattle.serde_json.specs.Read.{number_of, max_depth}
use Rattle.serde_json.specs.View.{items_of}

-- the tree of a text, before its numbers are read
abbrev pub tree_of : List ℕ → Option json.Json
tree_of text = option_and_then (λ p. json.if_last p.0 p.1) (json.value max_depth (tokens text))

-- a number that cannot be read stands for null
abbrev mutual
  pub data_of : json.Json → Data
  data_of json.null = null
  data_of (json.boolean b) = boolean b
  data_of (json.number s) = option_map_or number (number_of s) null
  data_of (json.string s) = string s
  data_of (json.array js) = array (data_of_items js)
  data_of (json.object ms) = object (data_of_members ms no_members)

  pub data_of_items : json.Items → Items
  data_of_items json.no_items = no_items
  data_of_items (json.item j js) = item (data_of j) (data_of_items js)

  pub data_of_members : json.Members → Members → Members
  data_of_members json.no_members found = found
  data_of_members (json.member k j ms) found = data_of_members ms (put k (data_of j) found)

unfoldable pub view : Value Global → Data
view v = data_of (value_view v)

abbrev pub items_view : List (Value Global) → Items
items_view vs = items_of (map view vs)

-- the members go in one after another, so the last value of a key stays
abbrev pub put_members : List (Bor (List ℕ) × Value Global) → Members → Members
put_members [] found = found
put_members (m ∷ ms) found = put_members ms (put m.0.now (view m.1) found)

-- whether a number stands anywhere in a tree
abbrev mutual
  pub has_number : json.Json → Bool
  has_number json.null = false
  has_number (json.boolean b) = false
  has_number (json.number s) = true
  has_number (json.string s) = false
  has_number (json.array js) = have_number js
  has_number (json.object ms) = members_have_number ms

  pub have_number : json.Items → Bool
  have_number json.no_items = false
  have_number (json.item j js) = has_number j || have_number js

  pub members_have_number : json.Members → Bool
  members_have_number json.no_members = false
  members_have_number (json.member k j ms) = has_number j || members_have_number ms
