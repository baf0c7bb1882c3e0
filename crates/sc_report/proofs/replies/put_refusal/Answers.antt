use Rattle.std.proofs.Common.{sym}
use Rattle.sc_report.proofs.OutletLemmas.{puts_then}
use Rattle.sc_report.proofs.replies.put_refusal.Goals as goal

pub returns-in-BadChart : goal.returns-in-BadChart
returns-in-BadChart g c = rw (c.in-BadChart.is, sym c.get.ensures) (puts_then c.bytes.ensures c.put_fault.ensures)

pub returns-in-NameTaken : goal.returns-in-NameTaken
returns-in-NameTaken g c = rw c.in-NameTaken.is c.bytes-in-NameTaken.ensures

pub returns-in-NoChart : goal.returns-in-NoChart
returns-in-NoChart g c = rw c.in-NoChart.is c.bytes-in-NoChart.ensures

pub returns-in-TooLong : goal.returns-in-TooLong
returns-in-TooLong g c = rw c.in-TooLong.is c.counted.ensures
