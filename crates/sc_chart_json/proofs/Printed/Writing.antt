-- What the steps of printing leave, in the words of the definitions.
use Rattle.std.proofs.Common.{◌≡◌, ℕ, zero, suc, ◌+◌, ◌<◌, ◌≤◌, List, [], ◌∷◌, ◌++◌, length, take, get_or, map, append_assoc, codes, String, Global, string_bytes, string_cmp, refl, sym, ap, ◌∙◌, arith}
use Rattle.std.proofs.lemmas.List.{take_more}
use Rattle.std.specs.BTreeMap.{insert_entry}
use Rattle.std.specs.List.{join_with_byte}
use Rattle.serde_json.specs.Data.{array, Members, put}
use Rattle.serde_json.specs.View.{view, items_view, members_view}
use Rattle.serde_json.specs.declared.value.Value.{Value}
use Rattle.serde_json.proofs.Views.{Entry, members_view-insert_entry, view-Array, view-Object}
use Rattle.sc_types.specs.PrintedCharts.{put_kids, data_step, data_of}
use Rattle.sc_types.specs.declared.chart.Node.{Node, out-Node}
use Rattle.sc_types.specs.declared.chart.Node.TheFolds.{fold_out-Node}
use Rattle.serde_json.specs.Data.{Data}

-- child elements that there are stand in the object as an array
pub some_kids : (vs : List Value) (given : Members) → 0 < length vs → put (codes "kids") (array (items_view vs)) given ≡ put_kids (items_view vs) given
some_kids [] given some = absurd (omega arith)
some_kids (v ∷ vs) given some = refl

pub data_layer : (n : Node) → data_of n ≡ data_step record { tag = (out-Node n).tag; members = (out-Node n).members; kids = map data_of (out-Node n).kids }
unfolding data_of
data_layer n = fold_out-Node Data data_step n

pub ruleset layers = (data_layer, view-Object)

-- ---- words

join_push : (w : List ℕ) (ws : List (List ℕ)) (u : List ℕ) → join_with_byte 32 (w ∷ ws ++ u ∷ []) ≡ join_with_byte 32 (w ∷ ws) ++ 32 ∷ u
join_push w [] u = refl
join_push w (v ∷ ws) u = ap (λ text. w ++ 32 ∷ text) (join_push v ws u) ∙ sym (append_assoc w (32 ∷ join_with_byte 32 (v ∷ ws)) (32 ∷ u))

-- the first word
pub join_first : (ws : List (List ℕ)) (i : ℕ) (w : List ℕ) → w ≡ get_or ws i w → i < length ws → i ≤ 0
    → join_with_byte 32 (take (i + 1) ws) ≡ join_with_byte 32 (take i ws) ++ w
join_first [] i w is within low = absurd (omega arith)
join_first (v ∷ ws) zero w is within low = sym is
join_first (v ∷ ws) (suc i) w is within low = absurd (omega arith)

-- any other, behind a space
pub join_next : (ws : List (List ℕ)) (i : ℕ) (w : List ℕ) → w ≡ get_or ws i w → i < length ws → 0 < i
    → join_with_byte 32 (take (i + 1) ws) ≡ join_with_byte 32 (take i ws) ++ 32 ∷ w
join_next [] i w is within high = absurd (omega arith)
join_next (v ∷ ws) zero w is within high = absurd (omega arith)
join_next (v ∷ ws) (suc i) w is within high =
    ap (join_with_byte 32) (take_more (v ∷ ws) (suc i) w within)
    ∙ join_push v (take i ws) (get_or ws i w)
    ∙ ap (λ u. join_with_byte 32 (take (suc i) (v ∷ ws)) ++ 32 ∷ u) (sym is)

-- ---- members

-- an entry of the map is a member of the object, with the entry's value
pub inserted : (old new : List Entry) (k : String Global) (name : List ℕ) (v : Value) → new ≡ insert_entry string_cmp old k v → string_bytes k ≡ name
    → members_view new ≡ put name (view v) (members_view old)
inserted old new k name v is named =
    ap members_view is ∙ members_view-insert_entry old k v ∙ ap (λ name. put name (view v) (members_view old)) named
