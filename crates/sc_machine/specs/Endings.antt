-- What happens at the end of a session (SCXML 6.4 and Appendix D, exitInterpreter). The order, and that a session which
-- was cancelled tells nobody, is this host's own rule.
use Rattle.std.specs.Prelude.{ℕ, ◌&&◌, ◌++◌, Bool, false, not, if◌then◌else◌, Option, Some, None, option_map, List, [], ◌∷◌, codes, filter, map, slice_get}
use Rattle.std.specs.Option.{option_map_or}
use Rattle.std.specs.Str.{bytes_eq}
use Rattle.sc_base.specs.Text.{is_name}
use Rattle.sc_types.specs.Sends.{is_of}
use Rattle.sc_types.specs.declared.event.Data.{Data}
use Rattle.sc_types.specs.declared.event.Data.TheVariants.{Absent}
use Rattle.sc_types.specs.declared.event.Event.{Event}
use Rattle.sc_types.specs.declared.event.Kind.TheVariants.{External}
use Rattle.sc_types.specs.declared.history.Delivery.{Delivery}
use Rattle.sc_types.specs.declared.history.Delivery.TheVariants.{Dropped, Flagged}
use Rattle.sc_types.specs.declared.host.HostImage.{HostImage}
use Rattle.sc_types.specs.declared.host.InvokerImage.{InvokerImage}
use Rattle.sc_types.specs.declared.host.SessionImage.{SessionImage}
use Rattle.sc_types.specs.declared.session.How.{How}
use Rattle.sc_types.specs.declared.session.How.TheVariants as how
use Rattle.sc_types.specs.declared.session.Phase.{Phase}
use Rattle.sc_types.specs.declared.session.Phase.TheVariants as phase
use Rattle.sc_law.specs.Runs.{platform_event}
use Rattle.sc_machine.specs.Deliveries.{Delivered, DeliveredAll, cut_off, hand_to, left_as, while_live}
use Rattle.sc_machine.specs.Hosts.{is_live, session_named, with_session}

-- a session that has ended loses its external queue and its pending sends
abbrev pub cleared : HostImage → ℕ → SessionImage → HostImage
cleared g place s =
    record (with_session g place (record s { queued = [] }))
    { timers = filter (λ t. not (is_of s.state.session t)) g.timers }

-- the session of this name invoked it, and the two are not cut off from one another
abbrev pub is_bound_to : List ℕ → SessionImage → Bool
is_bound_to name s = option_map_or (λ (i : InvokerImage). bytes_eq i.session name && not i.cut) s.invoker false

-- a child that lives and is not cut off
abbrev pub is_left_by : List ℕ → SessionImage → Bool
is_left_by name s = is_live s.state.phase && is_bound_to name s

-- 6.4: the children of the session of this name that live are cancelled, in order of start
abbrev pub with_children_left : HostImage → List ℕ → HostImage
with_children_left g name =
    record g { sessions = map (λ (s : SessionImage). if is_left_by name s then cut_off s else s) g.sessions }

abbrev pub left_children : HostImage → List ℕ → List Delivery
left_children g name = map (λ (s : SessionImage). Flagged s.state.session) (filter (is_left_by name) g.sessions)

-- the name of an event that a text is, where it is one
abbrev pub name_in : List ℕ → Option (List ℕ)
name_in text = if is_name text then Some text else None

-- 6.4: the event of this name with the data of the end
abbrev pub done_invoke : List ℕ → Data → List ℕ → Event
done_invoke id payload name = record (platform_event name [] payload) { kind = External; invokeid = id }

-- an invoked session ran away (this host's own rule)
abbrev pub runaway_event : List ℕ → Event
runaway_event id = record (platform_event (codes "error.platform.runaway") [] Absent) { invokeid = id }

-- what the invoker hears: `done.invoke.ID` after a final state, which is a name for the id of each invoke of a legal
-- chart; of a session that was cancelled nothing
abbrev pub end_event : List ℕ → How → Option Event
end_event id (how.Final payload) = option_map (done_invoke id payload) (name_in (codes "done.invoke." ++ id))
end_event id how.Cancelled = None
end_event id how.Runaway = Some (runaway_event id)

-- it reaches the invoker while that lives, unless the two are cut off
abbrev pub tell_invoker : HostImage → InvokerImage → Event → Delivered
tell_invoker g i e =
    if i.cut then left_as g Dropped else hand_to g i.session e (while_live (session_named g i.session))

abbrev pub one_delivery : Delivered → DeliveredAll
one_delivery d = record { host = d.host; sent = d.what ∷ [] }

abbrev pub tell_end : HostImage → Option InvokerImage → How → DeliveredAll
tell_end g None how = record { host = g; sent = [] }
tell_end g (Some i) how =
    option_map_or (λ (e : Event). one_delivery (tell_invoker g i e)) (end_event i.invokeid how)
    (record { host = g; sent = [] })

abbrev pub end_with : HostImage → SessionImage → How → DeliveredAll
end_with g s how =
    let told = tell_end (with_children_left g s.state.session) s.invoker how in
    record told { sent = left_children g s.state.session ++ told.sent }

-- nothing, while it goes on
abbrev pub end_in : HostImage → ℕ → SessionImage → Phase → DeliveredAll
end_in g place s (phase.Ended how) = end_with (cleared g place s) s how
end_in g place s p = record { host = g; sent = [] }

-- a session that has ended is cleared, its children are cancelled, and its invoker is told
unfoldable pub end_at : HostImage → ℕ → DeliveredAll
end_at g place =
    option_map_or (λ (s : SessionImage). end_in g place s s.state.phase) (slice_get g.sessions place)
    (record { host = g; sent = [] })
