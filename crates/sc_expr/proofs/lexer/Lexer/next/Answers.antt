use Rattle.std.proofs.Common.{◌∙◌, sym}
use Rattle.sc_expr.proofs.LexingLemmas.{at_end, at_token}
use Rattle.sc_expr.proofs.lexer.Lexer.next.Goals as goal

pub returns-then-is_empty-clause-ok : goal.returns-then-is_empty-clause-ok
returns-then-is_empty-clause-ok c =
    let e = at_end c.self.inside.profile c.self.inside.signed c.self.inside.rest.now c.without_white-text.result.now c.without_white-text.ensures (sym c.is_empty.ensures ∙ c.if-is_empty.true) in
    (sym c.self.view_is ∙ e.0, e.1)

pub returns-clause-ok : goal.returns-clause-ok
returns-clause-ok c =
    sym c.self.view_is
    ∙ at_token c.self.inside.profile c.self.inside.signed c.self.inside.rest.now c.without_white-text.result.now (c.in_ok-token.token, c.in_ok-token.behind.now) c.without_white-text.ensures
    (sym c.is_empty.ensures ∙ c.if-is_empty.false) c.in_ok-token.ensures
