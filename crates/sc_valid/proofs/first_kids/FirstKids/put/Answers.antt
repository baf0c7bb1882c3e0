use Rattle.std.proofs.Common.{sym}
use Rattle.sc_valid.proofs.FirstKidLemmas.{put_place}
use Rattle.sc_valid.proofs.first_kids.FirstKids.put.Goals as goal

pub returns : goal.returns
returns c = put_place c.args.self.now _ c.args.path.now c.args.place (rw (sym c.in_ok-copy.ensures, sym c.into_vec.ensures) c.in_ok-insert.ensures.updates)
