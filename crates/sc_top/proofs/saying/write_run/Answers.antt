use Rattle.sc_top.proofs.CrossingLemmas.{plan_send_at, plan_sync_at}
use Rattle.sc_top.proofs.saying.write_run.Goals as goal

pub write_report-requires-send-E-Plan : goal.write_report-requires-send-E-Plan
write_report-requires-send-E-Plan g c κs = λ lives. plan_send_at 3 _

pub write_report-requires-sync-E-Plan : goal.write_report-requires-sync-E-Plan
write_report-requires-sync-E-Plan g c κs = λ lives. plan_sync_at 3 _

pub write_summary-requires-send-E-Plan : goal.write_summary-requires-send-E-Plan
write_summary-requires-send-E-Plan g c κs = λ lives. plan_send_at 3 _

pub write_summary-requires-sync-E-Plan : goal.write_summary-requires-sync-E-Plan
write_summary-requires-sync-E-Plan g c κs = λ lives. plan_sync_at 3 _
