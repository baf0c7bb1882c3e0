-- A text that is read to its end.
use Rattle.std.proofs.Common.{◌≡◌, ℕ, false, Option, Some, None, List, [], ◌∷◌, option_and_then, refl, sym, ap, ◌∙◌}
use Rattle.std.proofs.lemmas.Option.{none-some}
use Rattle.std.specs.Prelude.{MatchOption}
use Rattle.sc_types.specs.declared.profile.Profile.{Profile}
use Rattle.sc_types.specs.Expressions.{IsExpr, IsExpression, IsReading}
use Rattle.sc_types.specs.Tokens.{tokens}
use Rattle.sc_types.specs.declared.expr.Expr.{Expr}
use Rattle.sc_types.specs.declared.token.Token.{Token}
use Rattle.sc_expr.specs.Descent.{loose_at, whole, expression_of}
use Rattle.sc_expr.specs.Reading.{expr_of}
use Rattle.sc_expr.proofs.Grammar.{reads_spelled, spelled_reads, one_tree}
use Rattle.sc_expr.proofs.LimitLemmas.{within_limits}

ends : (ts rest : List Token) (e : Expr) → loose_at 256 6 ts ≡ Some (e, rest) → rest ≡ [] → expression_of ts ≡ Some e
ends ts rest e read end = ap (option_and_then whole) (read ∙ ap (λ us. Some (e, us)) end)

-- an expression with nothing behind it is spelled by the text
pub whole_read : (profile : Profile) (text : List ℕ) (rest : List Token) (e : Expr) → loose_at 256 6 (tokens profile false text) ≡ Some (e, rest) → rest ≡ []
    → IsExpression profile text e
whole_read profile text rest e read end =
    let known = reads_spelled (tokens profile false text) e (ends (tokens profile false text) rest e read end) in
    record { spelled = known.0; shallow = known.1 }

-- an expression that was read is within the limits
pub whole_within : (profile : Profile) (text : List ℕ) (rest : List Token) (e : Expr) → loose_at 256 6 (tokens profile false text) ≡ Some (e, rest) → rest ≡ [] → IsExpr profile e
whole_within profile text rest e read end = within_limits profile text e (whole_read profile text rest e read end)

-- the text spells no other expression
pub whole_only : (profile : Profile) (text : List ℕ) (rest : List Token) (e : Expr) → loose_at 256 6 (tokens profile false text) ≡ Some (e, rest) → rest ≡ []
    → (other : Expr) → IsExpression profile text other → other ≡ e
whole_only profile text rest e read end other is =
    let known = whole_read profile text rest e read end in
    one_tree (tokens profile false text) other e is.spelled is.shallow known.spelled known.shallow

-- nothing else than what was read is spelled
refused : (profile : Profile) (text : List ℕ) (o : Option Expr) → expression_of (tokens profile false text) ≡ o → o ≡ None → (e : Expr) → ¬ IsExpression profile text e
refused profile text o read none e is = none-some e (sym (read ∙ none) ∙ spelled_reads (tokens profile false text) e is.spelled is.shallow)

-- a text of which no expression is read spells none
pub whole_refused : (profile : Profile) (text : List ℕ) → loose_at 256 6 (tokens profile false text) ≡ None → (e : Expr) → ¬ IsExpression profile text e
whole_refused profile text none e is = refused profile text _ (ap (option_and_then whole) none) refl e is

more_behind : (e : Expr) (rest : List Token) → ¬ (rest ≡ []) → whole (e, rest) ≡ None
more_behind e [] more = absurd (more refl)
more_behind e (t ∷ rest) more = refl

-- a text with more behind its expression spells none
pub whole_unended : (profile : Profile) (text : List ℕ) (rest : List Token) (read : Expr) → loose_at 256 6 (tokens profile false text) ≡ Some (read, rest) → ¬ (rest ≡ [])
    → (e : Expr) → ¬ IsExpression profile text e
whole_unended profile text rest read got more e is = refused profile text _ (ap (option_and_then whole) got) (more_behind read rest more) e is

-- an expression with nothing behind it is the value of the text
pub whole_value : (profile : Profile) (text : List ℕ) (rest : List Token) (e : Expr) → loose_at 256 6 (tokens profile false text) ≡ Some (e, rest) → rest ≡ [] → expr_of profile text ≡ Some e
unfolding expr_of
whole_value profile text rest e read end = ends (tokens profile false text) rest e read end

-- a text of which no expression is read has no value
pub whole_none : (profile : Profile) (text : List ℕ) → loose_at 256 6 (tokens profile false text) ≡ None → expr_of profile text ≡ None
unfolding expr_of
whole_none profile text none = ap (option_and_then whole) none

-- a text with more behind its expression has no value
pub whole_unended_none : (profile : Profile) (text : List ℕ) (rest : List Token) (read : Expr) → loose_at 256 6 (tokens profile false text) ≡ Some (read, rest) → ¬ (rest ≡ [])
    → expr_of profile text ≡ None
unfolding expr_of
whole_unended_none profile text rest read got more = ap (option_and_then whole) got ∙ more_behind read rest more

reading_of : (profile : Profile) (text : List ℕ) (o : Option Expr) → expression_of (tokens profile false text) ≡ o
    → MatchOption o ((e : Expr) → ¬ IsExpression profile text e) (IsExpression profile text)
reading_of profile text None read = λ e is. refused profile text None read refl e is
reading_of profile text (Some e) read =
    let known = reads_spelled (tokens profile false text) e read in
    record { spelled = known.0; shallow = known.1 }

-- what is read is what the grammar has
pub is_reading : IsReading expr_of
unfolding expr_of
is_reading profile text = reading_of profile text _ refl

pub ruleset wholes = (whole_read, whole_within, whole_only, whole_refused, whole_unended, whole_value, whole_none, whole_unended_none, is_reading)
