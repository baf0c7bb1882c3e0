use Rattle.std.proofs.Common.{◌∙◌, sym}
use Rattle.std.proofs.lemmas.Result.{IfOk-weaker}
use Rattle.sc_expr.proofs.LexingLemmas.{first_quoted, first_run, first_negative, first_sign}
use Rattle.sc_expr.proofs.lexer.first_token.Goals as goal

pub returns-then-is_quote : goal.returns-then-is_quote
returns-then-is_quote c =
    IfOk-weaker c.read_quoted.result _ _ (λ r e. e ∙ first_quoted c.args.profile c.args.signed c.args.text.now (sym c.is_quote.ensures ∙ c.if-is_quote.true)) c.read_quoted.ensures

pub returns-then-is_word_byte : goal.returns-then-is_word_byte
returns-then-is_word_byte c =
    IfOk-weaker c.read_run.result _ _ (λ r e. e ∙ first_run c.args.profile c.args.signed c.args.text.now c.requires (sym c.is_quote.ensures ∙ c.if-is_quote.false) (sym c.is_word_byte.ensures ∙ c.if-is_word_byte.true)) c.read_run.ensures

pub returns-then-begins_negative : goal.returns-then-begins_negative
returns-then-begins_negative c =
    c.read_negative.ensures
    ∙ first_negative c.args.profile c.args.signed c.args.text.now (sym c.is_quote.ensures ∙ c.if-is_quote.false) (sym c.is_word_byte.ensures ∙ c.if-is_word_byte.false)
    (sym c.begins_negative.ensures ∙ c.if-begins_negative.true)

pub returns : goal.returns
returns c =
    c.read_sign.ensures
    ∙ first_sign c.args.profile c.args.signed c.args.text.now c.requires (sym c.is_quote.ensures ∙ c.if-is_quote.false) (sym c.is_word_byte.ensures ∙ c.if-is_word_byte.false)
    (sym c.begins_negative.ensures ∙ c.if-begins_negative.false)
