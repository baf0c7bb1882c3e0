-- What a chart may choose of the language of values and expressions. SCXML 5.9 leaves the language to the data model:
-- this host's own rule.
use Rattle.std.specs.Prelude.{ℕ, Bool, ◌&&◌, nat_le, if◌then◌else◌, Option, None, Some, List, codes}
use Rattle.std.specs.Str.{bytes_eq}
use Rattle.sc_base.specs.declared.text.TheConstants.{TEXT_LIMIT, LONG_TEXT_LIMIT}
use Rattle.sc_types.specs.declared.profile.Profile.{Profile}
use Rattle.sc_types.specs.declared.profile.Profile.TheVariants.{Flat, Nested}
use Rattle.sc_types.specs.declared.profile.TheConstants.{PROFILE_COUNT}

-- the most bytes of a text that an expression writes or makes
abbrev pub text_limit : Profile → ℕ
text_limit Flat = TEXT_LIMIT
text_limit Nested = LONG_TEXT_LIMIT

-- the profile that the member `values` of a chart names
abbrev pub profile_named : List ℕ → Option Profile
profile_named text =
    if bytes_eq text (codes "1") then Some Flat
    else (if nat_le 2 PROFILE_COUNT && bytes_eq text (codes "2") then Some Nested else None)
