use Rattle.std.proofs.Common.{◌≡◌, length}
use Rattle.sc_types.specs.Tokens.{quoted}
use Rattle.sc_expr.proofs.QuoteLemmas.{after}
use Rattle.sc_expr.proofs.lexer.quoted.Given as goal

abbrev pub invariant-loop-rest : goal.invariant-loop-rest
invariant-loop-rest l = after l.content (quoted l.quote l.rest) ≡ quoted l.quote l.text

abbrev pub decreases-loop-rest : goal.decreases-loop-rest
decreases-loop-rest l = length l.rest
