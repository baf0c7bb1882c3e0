-- A book behind a lock may be shared among threads: each type that it holds may be handed to another, from the inside out.
use denote.Builtin.{u64, usize}
use denote.Param.Send.{IsSend, IsSync, sendable, view_send}
use denote.Param.SendFields.{as_row_send, as_row_sync, declared_send, declared_sync, variants_send}
use denote.RattleType.{RattleType}
use denote.Ref.{NamedLft}
use denote.Struct.Field.{row_field}
use denote.Struct.Tuple.{TupleAt, type_at}
use mir.Syntax.{Sym}
use Rattle.std.proofs.Common.{[], ◌∷◌}
use Rattle.std.proofs.Crossing.{Arc-send, crosses}
use Rattle.std.specs.contracts.option.Option as option
use Rattle.std.specs.contracts.sync.Mutex as mutex
use Rattle.sc_base.proofs.boxed.Boxed.TheSendSync as boxed
use Rattle.sc_base.proofs.boxed_sequence.BoxedSequence.TheSendSync as boxed_sequence
use Rattle.sc_base.proofs.bytes.Bytes.TheSendSync as bytes
use Rattle.sc_base.proofs.queue.Queue.TheSendSync as queue
use Rattle.sc_base.proofs.remaining.Remaining.TheSendSync as remaining
use Rattle.sc_base.proofs.sequence.Sequence.TheSendSync as sequence
use Rattle.sc_base.proofs.shared.Shared.TheSendSync as shared
use Rattle.sc_base.proofs.shared_bytes.SharedBytes.TheSendSync as shared_bytes
use Rattle.sc_base.proofs.small_bytes.SmallBytes.TheSendSync as small_bytes
use Rattle.sc_base.proofs.text.Name.TheSendSync as name
use Rattle.sc_base.proofs.text.PlainName.TheSendSync as plain_name
use Rattle.sc_base.proofs.text.Word.TheSendSync as word
use Rattle.sc_types.proofs.chart.Node.TheLaws.TheKnot.{send-Node, sync-Node}
use Rattle.sc_types.proofs.event.Kind.TheSendSync as kind
use Rattle.sc_types.proofs.expr.Expr.TheLaws.TheKnot.{send-Expr, sync-Expr}
use Rattle.sc_types.proofs.history.Delivery.TheSendSync as delivery_parts
use Rattle.sc_types.proofs.history.Who.TheSendSync as who_parts
use Rattle.sc_types.proofs.host.ChartImage.TheSendSync as chart_image_parts
use Rattle.sc_types.proofs.host.InvokerImage.TheSendSync as invoker_image_parts
use Rattle.sc_types.proofs.host.To.TheSendSync as to
use Rattle.sc_types.proofs.session.Invoked.TheSendSync as invoked_parts
use Rattle.sc_types.proofs.value.Value.TheLaws.TheKnot.{send-Value, sync-Value}
use Rattle.sc_types.specs.contracts.chart.Chart as chart
use Rattle.sc_types.specs.contracts.command.Command as command
use Rattle.sc_types.specs.contracts.command.Reply as reply
use Rattle.sc_types.specs.contracts.event.Event as event
use Rattle.sc_types.specs.contracts.history.Delivery as delivery
use Rattle.sc_types.specs.contracts.history.Entry as entry
use Rattle.sc_types.specs.contracts.history.LogLine as log_line
use Rattle.sc_types.specs.contracts.history.Who as who
use Rattle.sc_types.specs.contracts.host.ChartImage as chart_image
use Rattle.sc_types.specs.contracts.host.InvokerImage as invoker_image
use Rattle.sc_types.specs.contracts.host.TimerImage as timer_image
use Rattle.sc_types.specs.contracts.session.Invoked as invoked
use Rattle.sc_types.specs.contracts.session.SessionState as state
use Rattle.sc_rooms.proofs.named.Named.TheSendSync as named
use Rattle.sc_rooms.proofs.places.Places.TheSendSync as places
use Rattle.sc_rooms.proofs.roomy_queue.RoomyQueue.TheSendSync as roomy_queue
use Rattle.sc_ranks.proofs.entry.Entry.TheSendSync as ranked
use Rattle.sc_ranks.proofs.node.Node.TheLaws.TheKnot.{send-Node as send-Ranked}
use Rattle.sc_ranks.specs.contracts.ranks.Ranks as ranks
use Rattle.sc_timers.specs.contracts.kept.Kept as kept
use Rattle.sc_timers.specs.contracts.timers.Timers as timers
use Rattle.sc_timers.specs.contracts.timers.Timers.TheInside as in_timers
use Rattle.sc_journal.proofs.journal.Journal.TheSendSync as journal
use Rattle.sc_law.specs.declared.engine.Engine as engine
use Rattle.sc_dev.specs.declared.disk.Disk as disk
use Rattle.sc_core.specs.contracts.body.Body as body
use Rattle.sc_core.specs.contracts.body.InstalledChart as installed
use Rattle.sc_core.specs.contracts.history.History as history
use Rattle.sc_core.specs.contracts.history.History.TheInside as in_history
use Rattle.sc_core.specs.contracts.host_state.HostState as host
use Rattle.sc_core.specs.contracts.host_state.HostState.TheInside as in_host
use Rattle.sc_core.specs.contracts.kept.Kept as short_entry
use Rattle.sc_core.specs.contracts.kept.Store as store
use Rattle.sc_core.specs.contracts.session.Session as session
use Rattle.sc_book.specs.contracts.book.Book as book
use Rattle.sc_book.specs.contracts.book.Book.TheInside as in_book
use Rattle.sc_book.specs.contracts.doubt.Doubt as doubt
use Rattle.sc_book.specs.contracts.fault.CallFault as fault
use Rattle.sc_book.specs.contracts.log.Log as log
use Rattle.sc_pool.specs.contracts.client.Client as client
use Rattle.sc_pool.specs.contracts.locked.Locked as locked
use Rattle.sc_pool.specs.contracts.locked.Locked.TheInside as in_locked
use Rattle.sc_pool.specs.declared.locked.Plan as plan

-- types of the host's base, and those that hold themselves
ruleset base = (
  boxed.the_send,
  boxed.the_sync,
  bytes.the_send,
  bytes.the_sync,
  name.the_send,
  name.the_sync,
  plain_name.the_send,
  plain_name.the_sync,
  queue.the_send,
  queue.the_sync,
  sequence.the_send,
  sequence.the_sync,
  shared.the_send,
  shared.the_sync,
  shared_bytes.the_send,
  shared_bytes.the_sync,
  small_bytes.the_send,
  small_bytes.the_sync,
  word.the_send,
  word.the_sync,
  send-Expr,
  send-Node,
  send-Value,
  sync-Expr,
  sync-Node,
  sync-Value,
)

option_send : (R : RattleType) → IsSend R → IsSend (option.the_row R)
option_send R s = variants_send (option.enum R) (tt, ((as_row_send (row_field R) s, tt), tt))

-- ---- plain values

command_send : IsSend command.the_row
command_send = search (base, crosses, sendable) depth 60 fits 60000

reply_send : IsSend reply.the_row
reply_send = search (base, crosses, sendable) depth 60 fits 60000

log_line_send : IsSend log_line.the_row
log_line_send = search (base, crosses, sendable) depth 60 fits 60000

event_send : IsSend event.the_row
event_send = search (kind.the_field_send, base, crosses, sendable) depth 60 fits 60000

event_sync : IsSync event.the_row
event_sync = search (kind.the_field_sync, base, crosses, sendable) depth 60 fits 60000

chart_send : IsSend chart.the_row
chart_send = search (base, crosses, sendable) depth 60 fits 60000

chart_sync : IsSync chart.the_row
chart_sync = search (base, crosses, sendable) depth 60 fits 60000

timer_image_send : IsSend timer_image.the_row
timer_image_send = search (to.the_field_send, base, crosses, sendable) depth 60 fits 60000

who_send : IsSend who.the_row
who_send = as_row_send who.the_field who_parts.the_field_send

delivery_send : IsSend delivery.the_row
delivery_send = as_row_send delivery.the_field delivery_parts.the_field_send

chart_image_send : IsSend chart_image.the_row
chart_image_send = as_row_send chart_image.the_field chart_image_parts.the_field_send

invoker_image_send : IsSend invoker_image.the_row
invoker_image_send = as_row_send invoker_image.the_field invoker_image_parts.the_field_send

invoked_send : IsSend invoked.the_row
invoked_send = as_row_send invoked.the_field invoked_parts.the_field_send

entry_send : IsSend entry.the_row
entry_send = declared_send entry.the_type
    (reply_send, (who_send, (command_send, (boxed_sequence.the_send _ log_line_send, (sequence.the_send _ delivery_send, tt)))))

ruleset small = (option_send, invoked_send, base, crosses, sendable)

state_send : IsSend state.the_row
state_send = declared_send state.the_type (
  word.the_send,
  (
    word.the_send,
    (
      search small depth 40 fits 60000,
      (
        search small depth 40 fits 60000,
        (
          search small depth 40 fits 60000,
          (
            search small depth 40 fits 60000,
            (
              search small depth 40 fits 60000,
              (
                queue.the_send _ event_send,
                (
                  sequence.the_send _ invoked_send,
                  (
                    option_send _ (shared.the_send _ event_send event_sync),
                    (search small depth 40 fits 60000, (search sendable, (search sendable, tt))),
                  ),
                ),
              ),
            ),
          ),
        ),
      ),
    ),
  ),
)

-- ---- the host

u64_send : IsSend u64
u64_send = search sendable

usize_send : IsSend usize
usize_send = search sendable

session_send : IsSend session.the_row
session_send = declared_send session.the_type (
  option_send _ invoker_image_send,
  (
    search sendable,
    (
      roomy_queue.the_send usize usize_send,
      (
        roomy_queue.the_send event.the_row event_send,
        (
          roomy_queue.the_send _ (shared.the_send _ event_send event_sync),
          (search sendable, (boxed.the_send _ state_send, tt)),
        ),
      ),
    ),
  ),
)

ranks_send : IsSend ranks.the_row
ranks_send = search (send-Ranked, ranked.the_field_send, crosses, sendable) depth 60 fits 60000

kept_send : IsSend kept.the_row
kept_send = declared_send kept.the_type
    (search (timer_image_send, crosses, sendable) depth 40 fits 60000, (ranks_send, (ranks_send, tt)))

timers_send : IsSend timers.the_row
timers_send = view_send _ _ _ _ _ (declared_send in_timers.the_type (kept_send, (search sendable, tt)))

module _ (P : RattleType) (send : IsSend P) (sync : IsSync P) where
  installed_send : IsSend (installed.the_row P)
  installed_send = declared_send (installed.the_type P)
      (chart_image_send, (Arc-send _ chart_send chart_sync, (Arc-send _ send sync, tt)))

  body_send : IsSend (body.the_row P)
  body_send = declared_send (body.the_type P) (
    search sendable,
    (
      search sendable,
      (
        search sendable,
        (
          search sendable,
          (
            named.the_send _ installed_send,
            (named.the_send _ session_send, (timers_send, (places.the_send, tt))),
          ),
        ),
      ),
    ),
  )

  host_send : (E : RattleType) (g : engine.Ghosts E.Denot P.Denot) → IsSend (host.the_row E P g)
  host_send E g = view_send _ _ _ _ _ (declared_send (in_host.the_type E P g) (body_send, (search (crosses, sendable), tt)))

-- ---- the book

short_entry_send : IsSend short_entry.the_row
short_entry_send = search (who_send, base, crosses, sendable) depth 60 fits 60000

store_send : IsSend store.the_row
store_send = declared_send store.the_type
    (search (short_entry_send, crosses, sendable) depth 20, (search (entry_send, crosses, sendable) depth 20, tt))

history_send : IsSend history.the_row
history_send = view_send _ _ _ _ _ (declared_send in_history.the_type (store_send, (search sendable, tt)))

doubt_send : IsSend doubt.the_row
doubt_send = declared_send doubt.the_type (who_send, (command_send, (search sendable, tt)))

log_send : IsSend log.the_row
log_send = declared_send log.the_type
    (history_send, (roomy_queue.the_send u64 u64_send, (roomy_queue.the_send doubt.the_row doubt_send, (bytes.the_send, tt))))

module _ (a : NamedLft) (E D P : RattleType) (g : engine.Ghosts E.Denot P.Denot) (d : disk.Ghosts D.Denot)
    (engine_sync : IsSync E) (disk_send : IsSend D) (plan_send : IsSend P) (plan_sync : IsSync P) where
  book_send : IsSend (book.the_row a E D P g d)
  book_send = view_send _ _ _ _ _ (declared_send (in_book.the_type a E D P g d) (
    search (engine_sync, sendable),
    (
      host_send P plan_send plan_sync E g,
      (
        search sendable,
        (search sendable, (log_send, (places.the_send, (journal.the_send D d disk_send, tt)))),
      ),
    ),
  ))

-- ---- what is behind the lock

client_send : IsSend client.the_row
client_send = declared_send client.the_type (search sendable, (remaining.the_send _ command_send, (search sendable, tt)))

fault_send : IsSend fault.the_row
fault_send = search sendable depth 20

mutex_sync : (T : RattleType) → IsSend T → IsSync (mutex.the_row T)
mutex_sync T send = search (send, crosses)

module _ (a : NamedLft) (E D J P : RattleType) (g : engine.Ghosts E.Denot P.Denot) (d : disk.Ghosts D.Denot)
    (j : plan.Ghosts J.Denot) (engine_sync : IsSync E) (disk_send : IsSend D)
    (plan_send : IsSend P) (plan_sync : IsSync P) where
  locked_send : IsSend (locked.the_row a E D J P g d j)
  locked_send = view_send _ _ _ _ _ (declared_send (in_locked.the_type a E D J P g d j) (
    book_send a E D P g d engine_sync disk_send plan_send plan_sync,
    (
      sequence.the_send _ client_send,
      (search sendable, (option_send _ fault_send, (search (crosses, sendable) depth 12, tt))),
    ),
  ))

  -- threads may share the lock
  pub lock_sync : IsSync (mutex.the_row (locked.the_row a E D J P g d j))
  lock_sync = mutex_sync (locked.the_row a E D J P g d j) locked_send

-- what the closure of a thread captures
pub five_sync : (ν : Sym) (A B C D E : RattleType) → IsSync A → IsSync B → IsSync C → IsSync D → IsSync E
    → IsSync (TupleAt ν (A ∷ B ∷ C ∷ D ∷ E ∷ []))
five_sync ν A B C D E a b c d e = declared_sync (type_at ν (A ∷ B ∷ C ∷ D ∷ E ∷ [])) (
  as_row_sync (row_field A) a,
  (
    as_row_sync (row_field B) b,
    (as_row_sync (row_field C) c, (as_row_sync (row_field D) d, (as_row_sync (row_field E) e, tt))),
  ),
)
