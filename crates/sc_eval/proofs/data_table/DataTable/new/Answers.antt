use Rattle.std.proofs.Common.{arith}
use Rattle.sc_eval.proofs.Rows.{distinct_none}
use Rattle.sc_eval.proofs.data_table.DataTable.new.Goals as goal

pub invariant_of-result : goal.invariant_of-result
invariant_of-result c = rw c.new.ensures.items ((λ many. absurd (omega arith)), distinct_none)
