-- The data of a send from its parts.
use Rattle.std.proofs.Common.{◌≡◌, ℕ, Bool, true, false, cond, List, ◌∷◌, [], ◌++◌, map, filter, Some, None, option_map, refl, ap, sym, ◌∙◌}
use Rattle.sc_types.specs.Attributes.{members_of}
use Rattle.sc_types.specs.declared.chart.Node.{Node}
use Rattle.sc_types.specs.declared.chart.Tag.TheVariants as tag
use Rattle.sc_types.specs.declared.event.Data.{Data}
use Rattle.sc_types.specs.declared.value.Value.{Value}
use Rattle.sc_law.specs.Nodes.{is_tag, tag_of}
use Rattle.sc_law.specs.Runs.{Running, pairs_data}
use Rattle.sc_law.specs.Sending.{Child, child_of, content_of, data_with, names_of, params_of, payload_from, with_child_tag}
use Rattle.sc_exec.specs.Children.{first_with}

-- the first child element of a tag stands first among those of the tag
data_from_content : (ns : List Node) (named : List (List ℕ × Value)) (got : List (List ℕ × Value) × Running) (n : Node)
    → first_with tag.Content ns ≡ Some n
    → data_with (with_child_tag tag.Content (map child_of ns)) named got ≡ content_of (members_of n) got.1
data_from_content [] named got n e = cc
data_from_content (k ∷ ks) named got n e = by (is_tag tag.Content (tag_of k)) e (λ e. data_from_content ks named got n e) where
  by : (b : Bool) → cond b (Some k) (first_with tag.Content ks) ≡ Some n
      → (first_with tag.Content ks ≡ Some n → data_with (with_child_tag tag.Content (map child_of ks)) named got ≡ content_of (members_of n) got.1)
      → data_with (map (λ (c : Child). c.1) (cond b (child_of k ∷ filter (λ (c : Child). is_tag tag.Content c.0) (map child_of ks)) (filter (λ (c : Child). is_tag tag.Content c.0) (map child_of ks)))) named got
      ≡ content_of (members_of n) got.1
  by true e rest = let same : k ≡ n = cc in ap (λ (x : Node). content_of (members_of x) got.1) same
  by false e rest = rest e

data_from_pairs : (ns : List Node) (named : List (List ℕ × Value)) (got : List (List ℕ × Value) × Running)
    → first_with tag.Content ns ≡ None
    → data_with (with_child_tag tag.Content (map child_of ns)) named got ≡ (pairs_data (named ++ got.0), got.1)
data_from_pairs [] named got e = refl
data_from_pairs (k ∷ ks) named got e = by (is_tag tag.Content (tag_of k)) e (λ e. data_from_pairs ks named got e) where
  by : (b : Bool) → cond b (Some k) (first_with tag.Content ks) ≡ None
      → (first_with tag.Content ks ≡ None → data_with (with_child_tag tag.Content (map child_of ks)) named got ≡ (pairs_data (named ++ got.0), got.1))
      → data_with (map (λ (c : Child). c.1) (cond b (child_of k ∷ filter (λ (c : Child). is_tag tag.Content c.0) (map child_of ks)) (filter (λ (c : Child). is_tag tag.Content c.0) (map child_of ks)))) named got
      ≡ (pairs_data (named ++ got.0), got.1)
  by true e rest = cc
  by false e rest = rest e

-- the data where there is content
pub payload_content : (names : List (List ℕ)) (ns : List Node) (r mid new : Running) (named given : List (List ℕ × Value)) (n : Node) (d : Data)
    → names_of names r.env ≡ Some named → (given, mid) ≡ params_of (map child_of ns) r → first_with tag.Content ns ≡ Some n
    → (d, new) ≡ content_of (members_of n) mid → payload_from names (map child_of ns) r ≡ Some (d, new)
payload_content names ns r mid new named given n d e p f h =
    ap (λ o. option_map (λ pairs. data_with (with_child_tag tag.Content (map child_of ns)) pairs (params_of (map child_of ns) r)) o) e
    ∙ ap Some (ap (λ got. data_with (with_child_tag tag.Content (map child_of ns)) named got) (sym p)
    ∙ data_from_content ns named (given, mid) n f ∙ sym h)

-- the data where there is none
pub payload_pairs : (names : List (List ℕ)) (ns : List Node) (r mid : Running) (named given : List (List ℕ × Value)) (d : Data)
    → names_of names r.env ≡ Some named → (given, mid) ≡ params_of (map child_of ns) r → first_with tag.Content ns ≡ None
    → d ≡ pairs_data (named ++ given) → payload_from names (map child_of ns) r ≡ Some (d, mid)
payload_pairs names ns r mid named given d e p f h =
    ap (λ o. option_map (λ pairs. data_with (with_child_tag tag.Content (map child_of ns)) pairs (params_of (map child_of ns) r)) o) e
    ∙ ap Some (ap (λ got. data_with (with_child_tag tag.Content (map child_of ns)) named got) (sym p)
    ∙ data_from_pairs ns named (given, mid) f ∙ ap (λ x. (x, mid)) (sym h))
