use Rattle.sc_top.proofs.CrossingLemmas.{plan_send_at, plan_sync_at}
use Rattle.sc_turn.proofs.Crossing.{plan_given_send, plan_given_sync}
use Rattle.sc_top.proofs.journal.tell.Goals as goal

pub ready_session-requires-send-E-Plan : goal.ready_session-requires-send-E-Plan
ready_session-requires-send-E-Plan g c κs = plan_given_send _

pub ready_session-requires-sync-E-Plan : goal.ready_session-requires-sync-E-Plan
ready_session-requires-sync-E-Plan g c κs = plan_given_sync _

pub left_by-requires-send-E-Plan : goal.left_by-requires-send-E-Plan
left_by-requires-send-E-Plan g c κs = λ lives. plan_send_at 2 _

pub left_by-requires-sync-E-Plan : goal.left_by-requires-sync-E-Plan
left_by-requires-sync-E-Plan g c κs = λ lives. plan_sync_at 2 _
