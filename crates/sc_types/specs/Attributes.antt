-- The attributes of an element of a chart. Each has one of three forms: a text as it was given, words, or an
-- expression. SCXML 3.2 to 3.14 and chapters 4 to 6 say which element has which; that they are kept so is this host's
-- own rule.
use Rattle.std.specs.Prelude.{ℕ, Bool, false, is_some, Option, None, Some, option_map, option_and_then, unwrap_or, List, [], find}
use Rattle.std.specs.Option.{option_map_or}
use Rattle.std.specs.Str.{bytes_eq}
use Rattle.sc_types.specs.Elements.{attribute_text}
use Rattle.sc_types.specs.Profiles.{profile_named}
use Rattle.sc_types.specs.declared.attribute.Attribute.{Attribute}
use Rattle.sc_types.specs.declared.attribute.Attribute.TheVariants.{Values}
use Rattle.sc_types.specs.declared.chart.Chart.{Chart}
use Rattle.sc_types.specs.declared.chart.Member.{Member}
use Rattle.sc_types.specs.declared.chart.Member.TheVariants.{Plain, Items, Code}
use Rattle.sc_types.specs.declared.chart.Node.{Node, out-Node}
use Rattle.sc_types.specs.declared.expr.Expr.{Expr}
use Rattle.sc_types.specs.declared.profile.Profile.{Profile}
use Rattle.sc_types.specs.declared.profile.Profile.TheVariants.{Flat}

-- attributes: of a list of attributes, and of an element

abbrev pub Members : Type 0
Members = List (List ℕ × Member)

abbrev pub members_of : Node → Members
members_of n = (out-Node n).members

abbrev pub member_in : List ℕ → Members → Option Member
member_in name ms =
    option_map (λ (m : List ℕ × Member). m.1) (find (λ (m : List ℕ × Member). bytes_eq m.0 name) ms)

abbrev pub member : List ℕ → Node → Option Member
member name n = member_in name (members_of n)

abbrev pub given : Attribute → Node → Option Member
given a n = member (attribute_text a) n

abbrev pub has : Attribute → Node → Bool
has a n = is_some (given a n)

-- the text, the words or the expression of an attribute of that form

abbrev pub plain_text : Member → Option (List ℕ)
plain_text (Plain text) = Some text
plain_text m = None

abbrev pub words_of : Member → List (List ℕ)
words_of (Items words) = words
words_of m = []

abbrev pub code_of : Member → Option Expr
code_of (Code code) = Some code
code_of m = None

abbrev pub text_in : Attribute → Members → Option (List ℕ)
text_in a ms = option_and_then plain_text (member_in (attribute_text a) ms)

abbrev pub words_in : Attribute → Members → List (List ℕ)
words_in a ms = option_map_or words_of (member_in (attribute_text a) ms) []

abbrev pub code_in : Attribute → Members → Option Expr
code_in a ms = option_and_then code_of (member_in (attribute_text a) ms)

abbrev pub text_at : Attribute → Node → Option (List ℕ)
text_at a n = text_in a (members_of n)

abbrev pub words_at : Attribute → Node → List (List ℕ)
words_at a n = words_in a (members_of n)

abbrev pub code_at : Attribute → Node → Option Expr
code_at a n = code_in a (members_of n)

abbrev pub is_text_at : Attribute → List ℕ → Node → Bool
is_text_at a text n = option_map_or (λ own. bytes_eq own text) (text_at a n) false

-- the profile of a chart: that which the root's `values` names
abbrev pub profile_of : Chart → Profile
profile_of c = unwrap_or (option_and_then profile_named (text_at Values c.root)) Flat
