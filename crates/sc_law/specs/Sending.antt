-- What `<send>` makes of its attributes and child elements (SCXML 6.2 and 5.6 to 5.8, C.1), and the data of
-- `<donedata>` and `<invoke>`. The order of the checks is this host's own rule.
use Rattle.std.specs.Prelude.{Bool, Err, List, None, Ok, Option, Some, [], codes, decimal, drop, filter, if◌then◌else◌, length, map, nat_eq, nat_le, nat_lt, option_and_then, option_map, pos, true, unwrap_or, ℕ, ◌&&◌, ◌++◌, ◌+◌, ◌-◌, ◌==◌, ◌^◌, ◌||◌, ◌∷◌}
use Rattle.std.specs.List.{starts_with}
use Rattle.std.specs.Option.{option_map_or, option_or}
use Rattle.std.specs.Result.{result_ok}
use Rattle.std.specs.Str.{bytes_eq}
use Rattle.sc_types.specs.Delays.{delay_of}
use Rattle.sc_types.specs.Elements.{is_word_within}
use Rattle.sc_base.specs.Folds.{each}
use Rattle.sc_base.specs.Text.{is_word}
use Rattle.sc_types.specs.declared.attribute.Attribute.TheVariants as attribute
use Rattle.sc_types.specs.declared.chart.Node.{Node}
use Rattle.sc_types.specs.declared.chart.Tag.{Tag}
use Rattle.sc_types.specs.declared.chart.Tag.TheVariants as tag
use Rattle.sc_types.specs.declared.effect.Effect.TheVariants.{Send}
use Rattle.sc_types.specs.declared.event.Data.{Data}
use Rattle.sc_types.specs.declared.event.Data.TheVariants.{One}
use Rattle.sc_types.specs.declared.event.Kind.TheVariants.{Internal, External}
use Rattle.sc_types.specs.declared.host.To.{To}
use Rattle.sc_types.specs.declared.host.To.TheVariants as to
use Rattle.sc_types.specs.declared.session.Invoked.{Invoked}
use Rattle.sc_types.specs.declared.value.Value.{Value, out-Value}
use Rattle.sc_types.specs.declared.value.Value.TheOpen.{Value-F}
use Rattle.sc_types.specs.declared.value.Value.TheVariants.{Text}
use Rattle.sc_types.specs.Attributes.{Members, code_in, text_in, words_in, members_of}
use Rattle.sc_law.specs.Nodes.{kids, tag_of, is_tag}
use Rattle.sc_law.specs.Runs.{Env, Running, enqueue, failed, with_effect, pairs_data}
use Rattle.sc_law.specs.Evaluation.{Evaluated, datum, text_of, value}
use Rattle.sc_law.specs.Data.{set}
use Rattle.sc_law.specs.Outcomes.{Outcome, done, stopped_at}
use Rattle.sc_types.specs.declared.limits.TheConstants.{EVENT_NAME_LIMIT}

-- a child element: its tag and its attributes
abbrev pub Child : Type 0
Child = Tag × Members

abbrev pub PairsOf : Type 0
PairsOf = List (List ℕ × Value)

abbrev pub child_of : Node → Child
child_of n = (tag_of n, members_of n)

abbrev pub children_of : Node → List Child
children_of n = map child_of (kids n)

abbrev pub with_child_tag : Tag → List Child → List Members
with_child_tag t ks = map (λ (k : Child). k.1) (filter (λ (k : Child). is_tag t k.0) ks)

-- 6.2.1 and 6.4.1, `namelist`: nothing where one of the names has no value
abbrev pub names_of : List (List ℕ) → Env → Option PairsOf
names_of [] env = Some []
names_of (name ∷ names) env =
    option_and_then (λ v. option_map (λ pairs. (name, v) ∷ pairs) (names_of names env)) (result_ok (datum name env))

-- 5.7: a param without a value is left out, and the error is told
abbrev pub put_param : List ℕ → Evaluated → PairsOf × Running → PairsOf × Running
put_param name (Ok v) got = (got.0 ++ (name, v) ∷ [], got.1)
put_param name (Err fault) got = (got.0, failed [] got.1)

abbrev pub param_value : Members → Env → Evaluated
param_value m env =
    option_map_or (λ e. value e env) (code_in attribute.Expr m)
    (datum (unwrap_or (text_in attribute.Location m) []) env)

abbrev pub param : Members → PairsOf × Running → PairsOf × Running
param m got = put_param (unwrap_or (text_in attribute.Name m) []) (param_value m got.1.env) got

abbrev pub params_of : List Child → Running → PairsOf × Running
params_of ks r = each param (with_child_tag tag.Param ks) ([], r)

-- 5.6: content without a value is the empty text, and the error is told
abbrev pub content_data : Evaluated → Running → Data × Running
content_data (Ok v) r = (One v, r)
content_data (Err fault) r = (One (Text []), failed [] r)

abbrev pub content_of : Members → Running → Data × Running
content_of m r = option_map_or (λ e. content_data (value e r.env) r) (code_in attribute.Expr m) (One (Text []), r)

abbrev pub data_with : List Members → PairsOf → PairsOf × Running → Data × Running
data_with [] named_pairs got = (pairs_data (named_pairs ++ got.0), got.1)
data_with (m ∷ ms) named_pairs got = content_of m got.1

-- the data of an event, where each name of `namelist` has a value
abbrev pub payload_from : List (List ℕ) → List Child → Running → Option (Data × Running)
payload_from names ks r =
    option_map (λ pairs. data_with (with_child_tag tag.Content ks) pairs (params_of ks r)) (names_of names r.env)

-- who receives an event: the session's own internal queue, or whom the host knows
pub data Receiver : Type 0 where
  Inside : Receiver
  Outside : To → Receiver

abbrev pub is_earlier : Invoked → Invoked → Bool
is_earlier i j = nat_lt i.state j.state || i.state == j.state && nat_lt i.place j.place

-- C.1: of the invokes the one whose state and place come first, not the one that was started first
abbrev pub first_invoke : List Invoked → Option Invoked
first_invoke [] = None
first_invoke (i ∷ is) = Some (option_map_or (λ j. if is_earlier j i then j else i) (first_invoke is) i)

abbrev pub child_named : List ℕ → List Invoked → To
child_named id invokes = option_map_or (λ (i : Invoked). to.Child i.child)
    (first_invoke (filter (λ (i : Invoked). bytes_eq i.invokeid id) invokes)) to.Nowhere

abbrev pub begins_with : List ℕ → List ℕ → Bool
begins_with first text = starts_with nat_eq text first

-- C.1: the first of these forms that fits. `#_scxml_` with no word behind it is an id like any other; `#_` alone and
-- the empty target are of no form, and a fault.
abbrev pub receiver_of : List ℕ → Running → Option Receiver
receiver_of text r =
    if bytes_eq text (codes "#_internal") then Some Inside
    else if bytes_eq text (codes "#_parent") then Some (Outside to.Parent)
    else if begins_with (codes "#_scxml_") text && is_word (drop 8 text) then Some (Outside (to.Session (drop 8 text)))
    else if begins_with (codes "#_") text && nat_lt 2 (length text)
    then Some (Outside (child_named (drop 2 text) r.invokes))
    else None

abbrev pub receiver : Option (List ℕ) → Running → Option Receiver
receiver None r = Some (Outside to.Own)
receiver (Some text) r = receiver_of text r

-- a text that is a delay, or an integer of milliseconds
abbrev pub delay_in : Value-F Value → Option ℕ
delay_in (Value-F.Text text) = delay_of text
delay_in (Value-F.Int (pos n)) = if nat_le n 1_000_000_000_000 then Some n else None
delay_in v = None

-- 6.2.1: the delay in milliseconds
abbrev pub send_delay : Members → Env → Option ℕ
send_delay m env =
    option_map_or delay_of (text_in attribute.Delay m)
    (option_map_or (λ e. option_and_then (λ v. delay_in (out-Value v)) (result_ok (value e env)))
    (code_in attribute.DelayExpr m) (Some 0))

abbrev pub event_name : Value → Option (List ℕ)
event_name v = option_and_then (λ text. if is_word_within EVENT_NAME_LIMIT text then Some text else None) (text_of v)

abbrev pub send_name : Members → Env → Option (List ℕ)
send_name m env = option_or (text_in attribute.Event m)
    (option_and_then (λ e. option_and_then event_name (result_ok (value e env))) (code_in attribute.EventExpr m))

-- 6.2.4: the one type that there is
abbrev pub processor : List ℕ
processor = codes "http://www.w3.org/TR/scxml/#SCXMLEventProcessor"

abbrev pub is_send_type : List ℕ → Bool
is_send_type text = bytes_eq text processor || bytes_eq text (codes "scxml")

-- 6.2.3: a send that fails tells its `id` attribute, never an id that is made
abbrev pub send_fault : Members → Running → Outcome
send_fault m r = stopped_at (unwrap_or (text_in attribute.Id m) []) r

-- the event goes into the internal queue at once, or it is asked of the host
abbrev pub post : List ℕ → List ℕ → Receiver → ℕ → Data → Running → Outcome
post sendid name Inside delay payload r = done (enqueue (record {
  number = 0;
  name = name;
  kind = Internal;
  sendid = sendid;
  origin = [];
  origintype = [];
  invokeid = [];
  payload = payload;
}) r)
post sendid name (Outside who) delay payload r = done (with_effect (Send (record {
  number = 0;
  name = name;
  kind = External;
  sendid = sendid;
  origin = codes "#_scxml_" ++ r.env.session;
  origintype = processor;
  invokeid = [];
  payload = payload;
}) who delay) r)

-- the ids that a session makes: `send.1`, `send.2` and so on
abbrev pub made_id : Running → List ℕ
made_id r = codes "send." ++ decimal (r.sends + 1)

-- 6.2.1, `idlocation`: the write comes last, and only an id that was written is counted; at the count's last value
-- none is made
abbrev pub post_made : Members → List ℕ → List ℕ → Receiver → ℕ → Data → Running → Outcome
post_made m place name who delay payload r =
    if nat_lt r.sends (2 ^ 64 - 1)
    then option_map_or (λ env. post (made_id r) name who delay payload (record r { env = env; sends = r.sends + 1 }))
    (set place (Text (made_id r)) r.env) (send_fault m r)
    else send_fault m r

-- with an id that is made, or with the `id` attribute
abbrev pub send_with : Members → List ℕ → Receiver → ℕ → Data → Running → Outcome
send_with m name who delay payload r = option_map_or (λ place. post_made m place name who delay payload r)
    (text_in attribute.IdLocation m) (post (unwrap_or (text_in attribute.Id m) []) name who delay payload r)

-- goes on with what was found, and fails where there is nothing
abbrev pub or_fault : {A : Type 0} → Members → Running → (A → Outcome) → Option A → Outcome
or_fault m r f o = option_map_or f o (send_fault m r)

-- the event's name, the target, the delay, `namelist`, params and content, in this order; what a param that is left out
-- put into the queue stays though the send fails later
abbrev pub send_typed : Members → List Child → Running → Outcome
send_typed m ks r =
    or_fault m r (λ name.
    or_fault m r (λ who.
    or_fault m r (λ delay.
    or_fault m r (λ (got : Data × Running). send_with m name who delay got.0 got.1)
    (payload_from (words_in attribute.NameList m) ks r))
    (send_delay m r.env))
    (receiver (text_in attribute.Target m) r))
    (send_name m r.env)

-- 6.2: the type is looked at first
unfoldable pub send : Members → List Child → Running → Outcome
send m ks r = if option_map_or is_send_type (text_in attribute.Type m) true then send_typed m ks r else send_fault m r
