-- The links of invoked sessions. This host's own rule; SCXML 6.4 speaks of one invoked session at a time.
use Rattle.std.specs.Prelude.{ℕ, Bool, true, false, not, if◌then◌else◌, Option, find, map, List}
use Rattle.std.specs.Option.{option_map_or}
use Rattle.std.specs.Str.{bytes_eq}
use Rattle.sc_family.specs.declared.link.Link.{Link}

-- a family as contracts see it: the links in the order in which they were bound, and for how many more there is room
pub record FamilyOf : Type 0 where
  pub links : List Link
  pub spare : ℕ

-- the names of the children, in the order of the links
abbrev pub names_of : List Link → List (List ℕ)
names_of links = map (λ (link : Link). link.child) links

-- whether a link is that of the child
abbrev pub is_child : List ℕ → Link → Bool
is_child child link = bytes_eq link.child child

-- the link of an invoked session
abbrev pub link_for : List ℕ → List Link → Option Link
link_for child links = find (is_child child) links

-- whether the session is bound and not cut
abbrev pub is_live : List ℕ → List Link → Bool
is_live child links = option_map_or (λ (link : Link). not link.cut) (link_for child links) false

-- the links after one was cut
abbrev pub cut_off : List ℕ → List Link → List Link
cut_off child links = map (λ (link : Link). if is_child child link then record link { cut = true } else link) links
