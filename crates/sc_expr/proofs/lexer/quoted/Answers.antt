use Rattle.std.proofs.Common.{◌∙◌, sym}
use Rattle.sc_expr.proofs.QuoteLemmas.{at_quote, at_last_escape, at_no_escape, at_escape, at_plain, at_control, at_end}
use Rattle.sc_expr.proofs.lexer.quoted.Goals as goal

pub returns-then-byte-quote : goal.returns-then-byte-quote
returns-then-byte-quote c = at_quote c.args.quote c.loop-rest.content c.loop-rest.rest.now c.args.text.now c.loop-rest.invariant c.in-len1-up.len_at_least c.if-byte-quote.true

pub returns-in_default-behind : goal.returns-in_default-behind
returns-in_default-behind c =
    at_last_escape c.args.quote c.loop-rest.content c.loop-rest.rest.now c.args.text.now c.loop-rest.invariant c.in-len1-up.len_at_least c.if-byte-quote.false c.in_default-behind.len_below

pub returns-in_default-escape : goal.returns-in_default-escape
returns-in_default-escape c =
    at_no_escape c.args.quote c.loop-rest.content c.loop-rest.rest.now c.args.text.now c.loop-rest.invariant c.in-len1-up.len_at_least c.if-byte-quote.false c.if-byte-eq92.true
    c.in-len1-up-behind.len_at_least c.in_default-escape.ensures

pub loop-rest-preserved-then-byte-eq92 : goal.loop-rest-preserved-then-byte-eq92
loop-rest-preserved-then-byte-eq92 c =
    at_escape c.args.quote c.in-Some.meant c.loop-rest.content c.push.new.self c.loop-rest.rest.now c.args.text.now c.loop-rest.invariant c.in-len1-up.len_at_least c.if-byte-quote.false
    c.if-byte-eq92.true c.in-len1-up-behind.len_at_least c.in-Some.ensures c.in_ok-push.ensures.ok

pub loop-rest-preserved : goal.loop-rest-preserved
loop-rest-preserved c =
    at_plain c.args.quote c.loop-rest.content c.push-then-is_plain_byte.new.self c.loop-rest.rest.now c.args.text.now c.loop-rest.invariant c.in-len1-up.len_at_least c.if-byte-quote.false
    c.if-byte-eq92.false (sym c.is_plain_byte.ensures ∙ c.if-is_plain_byte.true) c.in_ok-push-2.ensures.ok

pub returns-else-is_plain_byte : goal.returns-else-is_plain_byte
returns-else-is_plain_byte c =
    at_control c.args.quote c.loop-rest.content c.loop-rest.rest.now c.args.text.now c.loop-rest.invariant c.in-len1-up.len_at_least c.if-byte-quote.false c.if-byte-eq92.false
    (sym c.is_plain_byte.ensures ∙ c.if-is_plain_byte.false)

pub returns : goal.returns
returns c = at_end c.args.quote c.loop-rest.content c.loop-rest.rest.now c.args.text.now c.loop-rest.invariant c.in_default.len_below
