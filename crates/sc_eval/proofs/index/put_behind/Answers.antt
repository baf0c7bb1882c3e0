use Rattle.std.proofs.Common.{refl}
use Rattle.sc_eval.proofs.Tables.{index-push}
use Rattle.sc_eval.proofs.index.put_behind.Goals as goal

pub returns-clause-ok : goal.returns-clause-ok
returns-clause-ok c = λ value.
    index-push c.args.places.now c.put.new.self c.args.rows.now (c.args.name.now, value) c.args.name.now _ refl refl
    c.requires c.in_ok-put.ensures.ok
