use Rattle.std.proofs.Common.{◌≡◌, length, sym, arith}
use Rattle.sc_eval.proofs.Tables.{index-push}
use Rattle.sc_eval.proofs.ids.Ids.add.Goals as goal

pub invariant_of-self-2 : goal.invariant_of-self-2
invariant_of-self-2 c =
    let len : c.len.result ≡ length c.self.inside.rows.items = omega arith in
    rw (c.push_reserved.ensures, c.in_ok-reserve.ensures.items)
    (index-push c.self.inside.places c.put.new.self c.self.inside.rows.items (c.args.id, c.args.state) c.slice.result.now
    c.len.result (sym c.slice.ensures) len c.self.invariant c.in_ok-put.ensures.ok)
