-- That plans may cross threads, which whoever keeps plans for an engine has to know.
use denote.Exit.{no}
use denote.Param.{param, arg}
use denote.Param.Send.{IsSend, IsSync, sendable, param_send, param_sync, arg_send, arg_sync}
use mir.Syntax.{Ty}
use Rattle.std.proofs.Crossing.{crosses}
use Rattle.sc_base.proofs.boxed.Boxed.TheSendSync as boxed
use Rattle.sc_base.proofs.bytes.Bytes.TheSendSync as bytes
use Rattle.sc_base.proofs.sequence.Sequence.TheSendSync as sequence
use Rattle.sc_base.proofs.counted.Counted.TheSendSync as counted
use Rattle.sc_base.proofs.shared_bytes.SharedBytes.TheSendSync as shared_bytes
use Rattle.sc_base.proofs.text.PlainName.TheSendSync as plain_name
use Rattle.sc_types.proofs.expr.Expr.TheLaws.TheKnot.{send-Expr, sync-Expr}
use Rattle.sc_types.proofs.expr.EventField.TheSendSync as event_field
use Rattle.sc_types.proofs.expr.Op.TheSendSync as op
use Rattle.sc_types.proofs.chart.Node.TheLaws.TheKnot.{send-Node, sync-Node}
use Rattle.sc_types.proofs.chart.Tag.TheSendSync as tag
use Rattle.sc_bits.proofs.Crossing.{row_send, row_sync}
use Rattle.sc_eval.proofs.ids.Ids.TheSendSync as ids
use Rattle.sc_tables.proofs.states.States.TheSendSync as states
use Rattle.sc_tables.proofs.transitions.Transitions.TheSendSync as transitions
use Rattle.sc_turn.specs.contracts.plan.Plan as plan

-- What a plan is made of. Charts and expressions hold themselves, and for these it is what ties them.
ruleset parts = (
  send-Node,
  sync-Node,
  tag.the_field_send,
  tag.the_field_sync,
  send-Expr,
  sync-Expr,
  event_field.the_field_send,
  event_field.the_field_sync,
  op.the_field_send,
  op.the_field_sync,
  row_send,
  row_sync,
  ids.the_send,
  ids.the_sync,
  states.the_field_send,
  states.the_field_sync,
  transitions.the_field_send,
  transitions.the_field_sync,
  boxed.the_send,
  boxed.the_sync,
  bytes.the_send,
  bytes.the_sync,
  sequence.the_send,
  sequence.the_sync,
  counted.the_send,
  counted.the_sync,
  shared_bytes.the_send,
  shared_bytes.the_sync,
  plain_name.the_send,
  plain_name.the_sync,
)

-- A plan may be handed to another thread.
pub plan_send : IsSend plan.the_row
plan_send = search (parts, crosses, sendable) depth 30 fits 30000

-- Threads may share a plan.
pub plan_sync : IsSync plan.the_row
plan_sync = search (parts, crosses, sendable) depth 30 fits 30000

-- The same of a plan as the type argument behind an engine.
pub plan_given_send : (δ : Ty) → IsSend (param 1 (arg δ no plan.the_row))
plan_given_send δ = param_send 1 (arg δ no plan.the_row) (arg_send δ no plan.the_row plan_send)

pub plan_given_sync : (δ : Ty) → IsSync (param 1 (arg δ no plan.the_row))
plan_given_sync δ = param_sync 1 (arg δ no plan.the_row) (arg_sync δ no plan.the_row plan_sync)
