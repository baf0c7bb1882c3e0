use Rattle.std.proofs.Common.{sym, ◌∙◌}
use Rattle.sc_valid.proofs.TableLemmas.{put_back, put_new}
use Rattle.sc_valid.proofs.firsts.Firsts.put.Goals as goal

pub returns-in_ok-insert : goal.returns-in_ok-insert
returns-in_ok-insert c =
    put_back c.args.self.now (record { paths = c.insert.new.self }) _ c.args.id.now c.args.path.now c.in-Some.first
    (rw (sym c.in_ok-key.ensures.items) (sym c.in_ok-before.ensures.old ∙ c.in-Some.is))
    (rw (sym c.in_ok-key.ensures.items, sym c.in_ok-copy.ensures) c.in_ok-before.ensures.updates)
    (rw (sym c.in_ok-key-2.ensures.items) c.in_ok-insert.ensures.updates)

pub returns-in_default : goal.returns-in_default
returns-in_default c =
    put_new c.args.self.now _ c.args.id.now c.args.path.now
    (rw (sym c.in_ok-key.ensures.items) (sym c.in_ok-before.ensures.old ∙ c.in_default.is))
    (rw (sym c.in_ok-key.ensures.items, sym c.in_ok-copy.ensures) c.in_ok-before.ensures.updates)
