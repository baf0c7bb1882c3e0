use Rattle.std.proofs.Common.{sym, ◌∙◌}
use Rattle.sc_eval.proofs.Tables.{put_new, put_again}
use Rattle.sc_eval.proofs.places.Places.put.Goals as goal

pub returns-then-contains_key-clause-ok : goal.returns-then-contains_key-clause-ok
returns-then-contains_key-clause-ok c =
    put_again c.args.self.now c.args.name.now c.args.place (sym c.contains_key.ensures ∙ c.if-contains_key.true)

pub returns-clause-ok : goal.returns-clause-ok
returns-clause-ok c =
    put_new c.args.self.now _ c.args.name.now c.args.place (sym c.contains_key.ensures ∙ c.if-contains_key.false)
    (rw (sym c.in_ok-name.ensures.items) c.in_ok-insert.ensures.updates)
