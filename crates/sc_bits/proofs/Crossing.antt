-- That rows may cross threads.
use denote.Param.Send.{IsSend, IsSync, sendable}
use Rattle.std.proofs.Crossing.{crosses}
use Rattle.arrayvec.proofs.array_vec.ArrayVec.TheSendSync as array_vec
use Rattle.smallvec.proofs.small_vec.SmallVec.TheSendSync as small_vec
use Rattle.smallvec.proofs.storage.Data.TheSendSync as store
use Rattle.sc_bits.proofs.row.Row.TheSendSync as own
use Rattle.sc_bits.specs.contracts.row.Row as row

ruleset parts = (
  own.the_send,
  own.the_sync,
  small_vec.the_send,
  small_vec.the_sync,
  store.the_field_send,
  store.the_field_sync,
  array_vec.the_send,
  array_vec.the_sync,
)

-- A row may be handed to another thread.
pub row_send : IsSend row.the_row
row_send = search (parts, crosses, sendable) depth 20 fits 30000

-- Threads may share a row.
pub row_sync : IsSync row.the_row
row_sync = search (parts, crosses, sendable) depth 20 fits 30000
