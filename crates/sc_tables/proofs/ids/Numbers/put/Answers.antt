use Rattle.std.proofs.Common.{sym, ◌∙◌}
use Rattle.sc_tables.proofs.Identifiers.{put_new}
use Rattle.sc_tables.proofs.ids.Numbers.put.Goals as goal

pub returns : goal.returns
returns c =
    put_new c.args.self.now _ c.args.id.now c.args.number (sym c.contains_key.ensures ∙ c.if-contains_key.false)
    (rw (sym c.in_ok-from_slice.ensures.items) c.in_ok-insert.ensures.updates)
