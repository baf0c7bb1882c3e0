-- Words for turns, by which the stories are told: the cue of a turn with what it changes, and `also` and `then` to join
-- changes and turns. What is not told stays as it was.
use Rattle.std.specs.Prelude.{ℕ, ◌+◌, ◌==◌, not, Bool, true, false, ◌++◌, Option, Some, None, List, [], ◌∷◌, codes, filter, map, nat_lt}
use Rattle.std.specs.List.{position_or_len}
use Prim.Native.String.{String}
use Rattle.std.specs.Str.{bytes_eq}
use Rattle.sc_types.specs.declared.effect.Effect.{Effect}
use Rattle.sc_types.specs.declared.effect.Effect.TheVariants as effect
use Rattle.sc_types.specs.declared.event.Data.{Data}
use Rattle.sc_types.specs.declared.event.Data.TheVariants.{Absent}
use Rattle.sc_types.specs.declared.event.Event.{Event}
use Rattle.sc_types.specs.declared.event.Kind.{Kind}
use Rattle.sc_types.specs.declared.event.Kind.TheVariants as kind
use Rattle.sc_types.specs.declared.host.To.{To}
use Rattle.sc_types.specs.declared.session.Cue.{Cue}
use Rattle.sc_types.specs.declared.session.Cue.TheVariants.{Fresh, Resume, Cancel, External}
use Rattle.sc_types.specs.declared.session.How.TheVariants as how
use Rattle.sc_types.specs.declared.session.Phase.{Phase}
use Rattle.sc_types.specs.declared.session.Phase.TheVariants as phase
use Rattle.sc_types.specs.declared.session.SessionState.{SessionState}
use Rattle.sc_types.specs.declared.value.Value.{Value}
use Rattle.sc_types.specs.declared.value.Value.TheVariants as value
use Rattle.sc_types.specs.declared.history.LogLine.{LogLine}
use Rattle.sc_law.specs.Sets.{Histories}
use Rattle.sc_law_facts.specs.ChartWords.{words}
use Rattle.sc_law_facts.specs.Stories.{Change, Names, Told}

-- events

abbrev pub event_of : Kind → ℕ → String → Event
event_of k number name = record {
  number = number;
  name = codes name;
  kind = k;
  sendid = [];
  origin = [];
  origintype = [];
  invokeid = [];
  payload = Absent;
}

-- an event from outside, one that `<raise>` made, and one of the platform
abbrev pub outer : String → Event
outer = event_of kind.External 1

abbrev pub raised : String → Event
raised = event_of kind.Internal 0

abbrev pub platform : String → Event
platform = event_of kind.Platform 0

-- an event that a `<send>` of the session makes
abbrev pub sent : String → Event
sent name = record (event_of kind.External 0 name) {
  origin = codes "#_scxml_s";
  origintype = codes "http://www.w3.org/TR/scxml/#SCXMLEventProcessor";
}

abbrev pub with_sendid : String → Event → Event
with_sendid id e = record e { sendid = codes id }

-- of an event that comes from an invoked session
abbrev pub with_invokeid : String → Event → Event
with_invokeid id e = record e { invokeid = codes id }

abbrev pub with_data : Data → Event → Event
with_data d e = record e { payload = d }

abbrev pub pair : String → Value → List (List ℕ × Value)
pair name v = (codes name, v) ∷ []

-- turns

infixr 5 ◌then◌
abbrev pub ◌then◌ : List Told → List Told → List Told
ts then us = ts ++ us

abbrev pub cued_by : Cue → Change → List Told
cued_by cue change = record { cue = cue; change = change } ∷ []

-- the session's first turn
abbrev pub begins : Change → List Told
begins = cued_by Fresh

abbrev pub resumes : Change → List Told
resumes = cued_by Resume

abbrev pub is_cancelled : Change → List Told
is_cancelled = cued_by Cancel

abbrev pub takes : Event → Change → List Told
takes e = cued_by (External e)

abbrev pub receives : String → Change → List Told
receives name = takes (outer name)

-- changes

infixr 10 ◌also◌
abbrev pub ◌also◌ : Change → Change → Change
f also g = λ names r. g names (f names r)

abbrev pub stays : Change
stays names r = r

abbrev pub session : (SessionState → SessionState) → Change
session f names r = record r { after = f r.after }

abbrev place_of : Names → List ℕ → ℕ
place_of names name = position_or_len (bytes_eq name) names

-- the numbers of states, by their ids
abbrev numbers : Names → String → List ℕ
numbers names text = map (place_of names) (words text)

-- an ascending list with one more number, and with several

abbrev put_number : Bool → Bool → ℕ → ℕ → List ℕ → List ℕ → List ℕ
put_number true is_same n m ms put = m ∷ put
put_number false true n m ms put = m ∷ ms
put_number false false n m ms put = n ∷ m ∷ ms

abbrev with_number : ℕ → List ℕ → List ℕ
with_number n [] = n ∷ []
with_number n (m ∷ ms) = put_number (nat_lt m n) (m == n) n m ms (with_number n ms)

abbrev with_numbers : List ℕ → List ℕ → List ℕ
with_numbers [] ms = ms
with_numbers (n ∷ ns) ms = with_numbers ns (with_number n ms)

abbrev in_states : List ℕ → SessionState → SessionState
in_states ss s = record s { configuration = ss; entered = with_numbers ss s.entered }

-- the active states; each of them was entered at least once
abbrev pub rests : String → Change
rests states names = session (in_states (numbers names states)) names

-- states that were entered in this turn, and left
abbrev pub passes : String → Change
passes states names = session (λ s. record s { entered = with_numbers (numbers names states) s.entered }) names

abbrev put_row : Bool → Bool → ℕ × List ℕ → ℕ × List ℕ → Histories → Histories → Histories
put_row true is_same new old rest put = old ∷ put
put_row false true new old rest put = new ∷ rest
put_row false false new old rest put = new ∷ old ∷ rest

abbrev put_record : ℕ × List ℕ → Histories → Histories
put_record new [] = new ∷ []
put_record new (old ∷ rest) = put_row (nat_lt old.0 new.0) (old.0 == new.0) new old rest (put_record new rest)

-- what a history recorded
abbrev pub records : String → String → Change
records h states names = session
    (λ s. record s { histories = put_record (place_of names (codes h), numbers names states) s.histories }) names

-- `_event`, where it is not the event of the cue
abbrev pub sees : Event → Change
sees e = session (λ s. record s { bound = Some e })

-- an event that stands in the internal queue at the end
abbrev pub keeps : Event → Change
keeps e = session (λ s. record s { internal = s.internal ++ e ∷ [] })

abbrev pub empties_queue : Change
empties_queue = session (λ s. record s { internal = [] })

abbrev Values : Type 0
Values = List (List ℕ × Option Value)

abbrev put_first : Bool → List ℕ × Option Value → List ℕ × Option Value → Values → Values → Values
put_first true new old rest put = new ∷ rest
put_first false new old rest put = old ∷ put

abbrev put_datum : List ℕ × Option Value → Values → Values
put_datum new [] = new ∷ []
put_datum new (old ∷ rest) = put_first (bytes_eq old.0 new.0) new old rest (put_datum new rest)

abbrev put_values : String → Option Value → Change
put_values name v = session (λ s. record s { values = put_datum (codes name, v) s.values })

-- a datum that has a value now, and one that is declared and unset
abbrev pub sets : String → Value → Change
sets name v = put_values name (Some v)

abbrev pub declares : String → Change
declares name = put_values name None

abbrev in_phase : Phase → Change
in_phase p = session (λ s. record s { phase = p })

-- by a final under the root, with its data
abbrev pub ends : Data → Change
ends d = session (λ s. record s { phase = phase.Ended (how.Final d); configuration = [] })

abbrev pub runs_away : Change
runs_away = in_phase (phase.Ended how.Runaway)

-- what the host is to do, and what is logged

abbrev asks : Effect → Change
asks e names r = record r { effects = r.effects ++ e ∷ [] }

abbrev pub sends : Event → To → ℕ → Change
sends e to delay = asks (effect.Send e to delay)

abbrev pub cancels_send : String → Change
cancels_send id = asks (effect.CancelSend (codes id))

abbrev pub forwards : String → Event → Change
forwards child e = asks (effect.Forward (codes child) e)

-- an invoke by its state and its place among the state's elements, and what it starts: its id, the session, its chart
-- and what that is started with
abbrev pub invokes : String → ℕ → String → String → String → List (List ℕ × Value) → Change
invokes owner place id child src pairs =
    asks (effect.Invoke (codes id) (codes child) (codes src) pairs)
    also λ names. session (λ s. record s {
      invokes = s.invokes ++ record {
        state = place_of names (codes owner);
        place = place;
        invokeid = codes id;
        child = codes child;
      } ∷ [];
      born = s.born + 1;
    }) names

abbrev drop_child : List ℕ → SessionState → SessionState
drop_child child s = record s { invokes = filter (λ i. not (bytes_eq i.child child)) s.invokes }

abbrev pub cancels_child : String → Change
cancels_child child = asks (effect.CancelChild (codes child)) also session (drop_child (codes child))

abbrev pub logs_as : String → Value → Change
logs_as label v names r = record r { logs = r.logs ++ record { label = codes label; value = v } ∷ [] }

abbrev pub logs_value : Value → Change
logs_value = logs_as ""

abbrev pub logs : String → Change
logs text = logs_value (value.Text (codes text))

-- lines that have a label alone
abbrev put_marks : List (List ℕ) → List LogLine
put_marks labels = map (λ label. record { label = label; value = value.Text [] }) labels

abbrev pub marks : String → Change
marks labels names r = record r { logs = r.logs ++ put_marks (words labels) }
