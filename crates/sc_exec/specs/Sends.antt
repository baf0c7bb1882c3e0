-- What the parts of a send tell one another. Only contracts of private functions cite this.
use Rattle.std.specs.Prelude.{◌≡◌, ◌+◌, ◌++◌, List, Option, Some, [], codes, ℕ}
use Rattle.std.specs.Option.{option_map_or}
use Rattle.sc_base.specs.declared.failure.Failure.{Failure}
use Rattle.sc_base.specs.declared.failure.Failure.TheVariants.{Fault, NoMemory}
use Rattle.sc_types.specs.Attributes.{Members, words_in}
use Rattle.sc_types.specs.declared.attribute.Attribute.TheVariants as attribute
use Rattle.sc_types.specs.declared.event.Data.{Data}
use Rattle.sc_types.specs.declared.event.Event.{Event}
use Rattle.sc_types.specs.declared.event.Kind.TheVariants.{External}
use Rattle.sc_types.specs.declared.value.Value.TheVariants.{Text}
use Rattle.sc_law.specs.Content.{text_or_none}
use Rattle.sc_law.specs.Data.{set}
use Rattle.sc_law.specs.Outcomes.{Outcome}
use Rattle.sc_law.specs.Runs.{Env, Running}
use Rattle.sc_law.specs.Sending.{Child, Receiver, or_fault, payload_from, post, processor, send_delay, send_fault, send_with}
use Rattle.sc_exec.specs.Receivers.{receiver_as}
use Rattle.sc_exec.specs.declared.sending.Posted.{Posted}

-- a fault tells the `id` of the send
abbrev pub TellsId : Failure (List ℕ) → Members → Type 0
TellsId (Fault id) m = id ≡ text_or_none attribute.Id m
TellsId NoMemory m = Unit {0}

-- what becomes of a send of which the checks gave this, or nothing
abbrev pub sent_as : Members → Running → Option Posted → Outcome
sent_as m r found = option_map_or
    (λ (p : Posted). send_with m p.name (receiver_as p.receiver) p.delay p.payload r) found (send_fault m r)

-- what becomes of a send to one whom it names, of which the delay and the data are still to be found
abbrev pub sent_to : Members → List Child → List ℕ → Receiver → Running → Outcome
sent_to m ks name who r =
    or_fault m r (λ delay.
    or_fault m r (λ (got : Data × Running). send_with m name who delay got.0 got.1)
    (payload_from (words_in attribute.NameList m) ks r))
    (send_delay m r.env)

-- what becomes of a send that has this id, or for which none could be made
abbrev pub posted_with : Members → List ℕ → Receiver → ℕ → Data → Running → Option (List ℕ) → Outcome
posted_with m name who delay payload r id =
    option_map_or (λ (i : List ℕ). post i name who delay payload r) id (send_fault m r)

-- an id was written, and it was counted
pub record IsWritten (place id : List ℕ) (old new : Running) : Type 0 where
  pub env : Env
  pub set : set place (Text id) old.env ≡ Some env
  pub run : new ≡ record old { env = env; sends = old.sends + 1 }

-- the event of a send as its receiver gets it
abbrev pub sent_event : List ℕ → List ℕ → List ℕ → Data → Event
sent_event session sendid name payload = record {
  number = 0;
  name = name;
  kind = External;
  sendid = sendid;
  origin = codes "#_scxml_" ++ session;
  origintype = processor;
  invokeid = [];
  payload = payload;
}
