-- The tables of elements and attributes, row by row.
use Rattle.std.proofs.Common.{◌≡◌, ℕ, Bool, true, false, ◌&&◌, Option, Some, List, [], ◌∷◌, find, codes, bytes_eq, refl, sym, ap, ◌∙◌}
use Rattle.std.proofs.lemmas.Slice.Eq.{bytes_eq-Decides}
use Rattle.std.specs.List.{list_all, list_any}
use Rattle.std.specs.Option.{option_map_or}
use Rattle.sc_types.specs.Elements.{tag_text, tag_of, attribute_text, attributes, required, either, form_of}
use Rattle.sc_types.specs.declared.attribute.Attribute.{Attribute}
use Rattle.sc_types.specs.declared.attribute.Attribute.TheVariants as attribute
use Rattle.sc_types.specs.declared.attribute.Form.{Form}
use Rattle.sc_types.specs.declared.attribute.Form.TheVariants as form
use Rattle.sc_types.specs.declared.chart.Tag.{Tag}
use Rattle.sc_types.specs.declared.chart.Tag.TheVariants as tag

all_attributes : List Attribute
all_attributes = attribute.Array ∷ attribute.AutoForward ∷ attribute.Binding ∷ attribute.Cond ∷ attribute.DataModel ∷ attribute.Delay
    ∷ attribute.DelayExpr ∷ attribute.Event ∷ attribute.EventExpr ∷ attribute.Expr ∷ attribute.Id ∷ attribute.IdLocation ∷ attribute.Index
    ∷ attribute.Initial ∷ attribute.Item ∷ attribute.Label ∷ attribute.Limit ∷ attribute.Location ∷ attribute.Name ∷ attribute.NameList
    ∷ attribute.SendId ∷ attribute.SendIdExpr ∷ attribute.Src ∷ attribute.Target ∷ attribute.Type ∷ attribute.Values ∷ attribute.Version ∷ attribute.Xmlns ∷ []

-- the attribute of this name
attribute_of : List ℕ → Option Attribute
attribute_of text = find (λ a. bytes_eq (attribute_text a) text) all_attributes

named : (a : Attribute) → attribute_of (attribute_text a) ≡ Some a
unfolding attribute_of all_attributes
named attribute.Array = refl
named a = refl

some_same : (a b : Attribute) → Some a ≡ Some b → a ≡ b
some_same a b e = cc

-- no two have one name
pub same_attribute : (a b : Attribute) → bytes_eq (attribute_text a) (attribute_text b) ≡ true → a ≡ b
same_attribute a b same =
    some_same a b (sym (named a) ∙ ap attribute_of ((bytes_eq-Decides (attribute_text a) (attribute_text b)).0 same) ∙ named b)

-- the name of a tag is read as that tag
pub tag_again : (t : Tag) → tag_of (tag_text t) ≡ Some t
tag_again tag.Scxml = refl
tag_again t = refl

-- no attribute is named as what else an element has

-- no attribute is named `tag`
pub not_tag : (a : Attribute) → bytes_eq (attribute_text a) (codes "tag") ≡ false
not_tag attribute.Array = refl
not_tag a = refl

-- no attribute is named `kids`
pub not_kids : (a : Attribute) → bytes_eq (attribute_text a) (codes "kids") ≡ false
not_kids attribute.Array = refl
not_kids a = refl

-- `kids` is the name of no attribute
pub kids_other : (a : Attribute) → bytes_eq (codes "kids") (attribute_text a) ≡ false
kids_other attribute.Array = refl
kids_other a = refl

-- whether an attribute stands in a row
abbrev pub is_in : Attribute → List Attribute → Bool
is_in a row = list_any (λ b. bytes_eq (attribute_text a) (attribute_text b)) row

-- the attributes of an element stand in its row
pub each_in : (t : Tag) → list_all (λ a. is_in a (attributes t)) (attributes t) ≡ true
each_in tag.Scxml = refl
each_in t = refl

-- whether an attribute of the form is kept
abbrev pub is_kept : Form → Bool
is_kept form.Version = false
is_kept form.NameSpace = false
is_kept f = true

-- whether an element may have the attribute, and it is kept
abbrev pub is_kept_in : Tag → Attribute → Bool
is_kept_in t a = is_in a (attributes t) && is_kept (form_of t a)

-- what an element must have is kept
pub required_kept : (t : Tag) → list_all (is_kept_in t) (required t) ≡ true
required_kept tag.Scxml = refl
required_kept t = refl

-- both of two attributes of which an element has exactly one are kept
pub either_kept : (t : Tag) → option_map_or (λ two. is_kept_in t two.0 && is_kept_in t two.1) (either t) true ≡ true
either_kept tag.Scxml = refl
either_kept t = refl
