-- What a descriptor's tokens say of its bytes: see `starts_with_tokens` of proofs/BeginLemmas.antt.
use Rattle.std.specs.Prelude.{ℕ, ◌&&◌, Bool, true, nat_eq, List, [], ◌∷◌, length, drop}
use Rattle.std.specs.List.{starts_with}
use Rattle.sc_types.specs.Descriptors.{is_dot}

-- a token ends before this rest of a name
abbrev pub is_token_end : List ℕ → Bool
is_token_end [] = true
is_token_end (b ∷ bs) = is_dot b

-- the name begins with these bytes, and a token ends there
abbrev pub begins : List ℕ → List ℕ → Bool
begins piece name = starts_with nat_eq name piece && is_token_end (drop (length piece) name)
