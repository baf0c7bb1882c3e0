-- What params, content and a send leave as it is.
use Rattle.std.proofs.Common.{◌≡◌, ℕ, ◌+◌, ◌-◌, ◌^◌, nat_lt, Bool, true, false, cond, Option, Some, None, option_map, Ok, Err, List, [], ◌∷◌, unwrap_or, refl, subst}
use Rattle.std.specs.Option.{option_map_or}
use Rattle.sc_base.specs.Folds.{each}
use Rattle.sc_types.specs.declared.attribute.Attribute.TheVariants as attribute
use Rattle.sc_types.specs.declared.chart.Tag.TheVariants as tag
use Rattle.sc_types.specs.declared.event.Data.{Data}
use Rattle.sc_types.specs.declared.expr.Expr.{Expr}
use Rattle.sc_types.specs.declared.value.Value.TheVariants.{Text}
use Rattle.sc_types.specs.declared.event.Data.TheVariants.{One}
use Rattle.sc_types.specs.Attributes.{Members, code_in, text_in, words_in}
use Rattle.sc_law.specs.Runs.{Env, Running}
use Rattle.sc_law.specs.Evaluation.{Evaluated, value}
use Rattle.sc_law.specs.Data.{set}
use Rattle.sc_law.specs.Outcomes.{Outcome}
use Rattle.sc_law.specs.Sending.{Child, Inside, Outside, PairsOf, Receiver, content_data, content_of, data_with, is_send_type, made_id, names_of, or_fault, param, param_value, params_of, payload_from, post, post_made, put_param, receiver, send, send_delay, send_fault, send_name, send_typed, send_with, with_child_tag}
use Rattle.sc_law_theorems.proofs.Turns.Keeps.{Keeps, KeepsEnv, Stays, env-same, env-set, keeps-either, keeps-failed, keeps-same, keeps-then}

-- ---- params and content

put-param : (name : List ℕ) (ev : Evaluated) (got : PairsOf × Running) → Keeps got.1 (put_param name ev got).1
put-param name (Ok v) got = keeps-same got.1
put-param name (Err fault) got = keeps-failed [] got.1

param-keeps : (m : Members) (got : PairsOf × Running) → Keeps got.1 (param m got).1
param-keeps m got = put-param (unwrap_or (text_in attribute.Name m) []) (param_value m got.1.env) got

each-param : (ms : List Members) (got : PairsOf × Running) → Keeps got.1 (each param ms got).1
each-param [] got = keeps-same got.1
each-param (m ∷ ms) got =
    keeps-then got.1 (param m got).1 (each param ms (param m got)).1 (param-keeps m got) (each-param ms (param m got))

-- params only tell errors
pub params-keep : (ks : List Child) (r : Running) → Keeps r (params_of ks r).1
params-keep ks r = each-param (with_child_tag tag.Param ks) ([], r)

content-data : (ev : Evaluated) (r : Running) → Keeps r (content_data ev r).1
content-data (Ok v) r = keeps-same r
content-data (Err fault) r = keeps-failed [] r

content-keeps : (m : Members) (r : Running) → Keeps r (content_of m r).1
content-keeps m r = by (code_in attribute.Expr m) where
  by : (o : Option Expr) → Keeps r (option_map_or (λ e. content_data (value e r.env) r) o (One (Text []), r)).1
  by None = keeps-same r
  by (Some e) = content-data (value e r.env) r

data-keeps : (ms : List Members) (pairs : PairsOf) (got : PairsOf × Running) → Keeps got.1 (data_with ms pairs got).1
data-keeps [] pairs got = keeps-same got.1
data-keeps (m ∷ ms) pairs got = content-keeps m got.1

-- so does the data of an event
pub payload-keeps : (names : List (List ℕ)) (ks : List Child) (r : Running) (got : Data × Running)
    → payload_from names ks r ≡ Some got
    → Keeps r got.1
payload-keeps names ks r got h = by (names_of names r.env) h where
  by : (o : Option PairsOf)
      → option_map (λ pairs. data_with (with_child_tag tag.Content ks) pairs (params_of ks r)) o ≡ Some got
      → Keeps r got.1
  by None h = absurd (cc)
  by (Some pairs) h =
      (let same : data_with (with_child_tag tag.Content ks) pairs (params_of ks r) ≡ got = cc in
      subst (λ (g : Data × Running). Keeps r g.1) same
      (keeps-then r (params_of ks r).1 (data_with (with_child_tag tag.Content ks) pairs (params_of ks r)).1
      (params-keep ks r) (data-keeps (with_child_tag tag.Content ks) pairs (params_of ks r))))

-- ---- sends

post-keeps : (sendid name : List ℕ) (who : Receiver) (delay : ℕ) (payload : Data) (r : Running)
    → Keeps r (post sendid name who delay payload r).run
post-keeps sendid name Inside delay payload r =
    record { env = env-same r.env; entered = refl; invokes = refl; todo = refl }
post-keeps sendid name (Outside to) delay payload r =
    record { env = env-same r.env; entered = refl; invokes = refl; todo = refl }

counted : (r : Running) (env : Env) → KeepsEnv r.env env → Keeps r (record r { env = env; sends = r.sends + 1 })
counted r env h = record { env = h; entered = refl; invokes = refl; todo = refl }

made-keeps : (m : Members) (place name : List ℕ) (who : Receiver) (delay : ℕ) (payload : Data) (r : Running) (v : Bool)
    → Keeps r (cond v
    (option_map_or (λ env. post (made_id r) name who delay payload (record r { env = env; sends = r.sends + 1 }))
    (set place (Text (made_id r)) r.env) (send_fault m r)) (send_fault m r)).run
made-keeps m place name who delay payload r false = keeps-same r
made-keeps m place name who delay payload r true = by (set place (Text (made_id r)) r.env) refl where
  by : (o : Option Env) → set place (Text (made_id r)) r.env ≡ o
      → Keeps r (option_map_or
      (λ env. post (made_id r) name who delay payload (record r { env = env; sends = r.sends + 1 })) o
      (send_fault m r)).run
  by None e = keeps-same r
  by (Some env) e =
      keeps-then r (record r { env = env; sends = r.sends + 1 })
      (post (made_id r) name who delay payload (record r { env = env; sends = r.sends + 1 })).run
      (counted r env (env-set place (Text (made_id r)) r.env env e))
      (post-keeps (made_id r) name who delay payload (record r { env = env; sends = r.sends + 1 }))

send-with : (m : Members) (name : List ℕ) (who : Receiver) (delay : ℕ) (payload : Data) (r : Running)
    → Keeps r (send_with m name who delay payload r).run
send-with m name who delay payload r = by (text_in attribute.IdLocation m) where
  by : (o : Option (List ℕ)) → Keeps r (option_map_or (λ place. post_made m place name who delay payload r) o
      (post (unwrap_or (text_in attribute.Id m) []) name who delay payload r)).run
  by None = post-keeps (unwrap_or (text_in attribute.Id m) []) name who delay payload r
  by (Some place) = made-keeps m place name who delay payload r (nat_lt r.sends (2 ^ 64 - 1))

abbrev with_payload : Members → List Child → Running → List ℕ → Receiver → ℕ → Outcome
with_payload m ks r name who delay =
    or_fault m r (λ (got : Data × Running). send_with m name who delay got.0 got.1)
    (payload_from (words_in attribute.NameList m) ks r)

payload-sent : (m : Members) (ks : List Child) (r : Running) (name : List ℕ) (who : Receiver) (delay : ℕ)
    → Keeps r (with_payload m ks r name who delay).run
payload-sent m ks r name who delay = by (payload_from (words_in attribute.NameList m) ks r) refl where
  by : (o : Option (Data × Running)) → payload_from (words_in attribute.NameList m) ks r ≡ o
      → Keeps r (option_map_or (λ (got : Data × Running). send_with m name who delay got.0 got.1) o
      (send_fault m r)).run
  by None e = keeps-same r
  by (Some got) e =
      keeps-then r got.1 (send_with m name who delay got.0 got.1).run
      (payload-keeps (words_in attribute.NameList m) ks r got e) (send-with m name who delay got.0 got.1)

delay-sent : (m : Members) (ks : List Child) (r : Running) (name : List ℕ) (who : Receiver) (o : Option ℕ)
    → Keeps r (or_fault m r (λ delay. with_payload m ks r name who delay) o).run
delay-sent m ks r name who None = keeps-same r
delay-sent m ks r name who (Some delay) = payload-sent m ks r name who delay

abbrev with_delay : Members → List Child → Running → List ℕ → Receiver → Outcome
with_delay m ks r name who = or_fault m r (λ delay. with_payload m ks r name who delay) (send_delay m r.env)

who-sent : (m : Members) (ks : List Child) (r : Running) (name : List ℕ) (o : Option Receiver)
    → Keeps r (or_fault m r (λ who. with_delay m ks r name who) o).run
who-sent m ks r name None = keeps-same r
who-sent m ks r name (Some who) = delay-sent m ks r name who (send_delay m r.env)

abbrev with_receiver : Members → List Child → Running → List ℕ → Outcome
with_receiver m ks r name = or_fault m r (λ who. with_delay m ks r name who) (receiver (text_in attribute.Target m) r)

name-sent : (m : Members) (ks : List Child) (r : Running) (o : Option (List ℕ))
    → Keeps r (or_fault m r (λ name. with_receiver m ks r name) o).run
name-sent m ks r None = keeps-same r
name-sent m ks r (Some name) = who-sent m ks r name (receiver (text_in attribute.Target m) r)

-- a send
pub send-stays : (m : Members) (ks : List Child) → Stays (send m ks)
unfolding send
send-stays m ks r =
    keeps-either (option_map_or is_send_type (text_in attribute.Type m) true) (send_typed m ks r) (send_fault m r) r
    (name-sent m ks r (send_name m r.env)) (keeps-same r)
