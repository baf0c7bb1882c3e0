-- The run of a script serves it.
use Rattle.std.proofs.Common.{◌≡◌, ℕ, zero, suc, ◌+◌, ◌<◌, ◌==◌, Bool, true, false, not, ◌&&◌, ◌||◌, cond, Some, List, [], ◌∷◌, ◌++◌, map, filter, slice_get, unwrap_or, append-nil, refl, sym, ap, ◌∙◌, arith, rules}
use Rattle.std.specs.List.{list_all, list_any}
use Rattle.std.proofs.lemmas.Bool.Decides.{nat_tests}
use Rattle.sc_types.specs.declared.command.Command.{Command}
use Rattle.sc_types.specs.declared.command.Command.TheVariants.{Step}
use Rattle.sc_types.specs.declared.history.Entry.{Entry}
use Rattle.sc_types.specs.declared.history.Who.{Who}
use Rattle.sc_types.specs.declared.history.Who.TheVariants.{Client, Worker}
use Rattle.sc_types.specs.declared.host.HostImage.{HostImage}
use Rattle.sc_script.specs.declared.script.Script.{Script}
use Rattle.sc_machine.specs.Accepted.{is_accepted_step}
use Rattle.sc_machine.specs.Commands.{answer}
use Rattle.sc_machine.specs.Cues.{ready}
use Rattle.sc_machine.proofs.NameLemmas.{AreDistinct, ready_stepped}
use Rattle.sc_pool.specs.Serving.{Serves, commands_of, is_later, is_of, is_served, is_setup, is_setup_first, list_of, served_by}
use Rattle.sc_top.specs.Run.{Enters, IsRun, Made, in_turn, of_client, of_clients}
use Rattle.sc_top.proofs.RunsLemmas.{First, RunsOn, distinct_after, first_entry, made, over_commands, stepped}

-- what the clients made, with their numbers, in order

abbrev made_by : Who → Command → List Made → List Made
made_by Worker c rest = rest
made_by (Client n) c rest = (n, c) ∷ rest

abbrev made_in : List Entry → List Made
made_in [] = []
made_in (e ∷ es) = made_by e.who e.command (made_in es)

-- the run makes each command of the script once and in order
made_of_run : (history : List Entry) (g : HostImage) (cs : List Made) (budget : ℕ) → IsRun g cs budget history
    → made_in history ≡ cs
made_of_run [] g cs budget h = sym (over_commands g cs budget h)
made_of_run (e ∷ es) g cs budget h =
    by_first (first_entry g cs budget e es h) (λ cs' budget'. made_of_run es (answer g e.command).host cs' budget') where
      by_first : First g cs budget e (RunsOn es)
          → ((cs' : List Made) (budget' : ℕ) → IsRun (answer g e.command).host cs' budget' es → made_in es ≡ cs')
          → made_in (e ∷ es) ≡ cs
      by_first (stepped name less is is_ready enters rest) others =
          ap (λ w. made_by w e.command (made_in es)) enters.who ∙ others cs less rest
      by_first (made c after is enters rest) others =
          ap (λ w. made_by w e.command (made_in es)) enters.who ∙ ap (λ x. (c.0, x) ∷ made_in es) enters.command
          ∙ ap (λ cs'. (c.0, c.1) ∷ cs') (others after budget rest) ∙ sym is

-- the commands of one client among them
abbrev commands_for : ℕ → List Made → List Command
commands_for n cs = map (λ (c : Made). c.1) (filter (λ (c : Made). n == c.0) cs)

abbrev cut_entries : ℕ → Entry → List Entry → Bool → List Command
cut_entries n e es b = map (λ (x : Entry). x.command)
    (cond b (e ∷ filter (λ (x : Entry). is_of (Client n) x.who) es) (filter (λ (x : Entry). is_of (Client n) x.who) es))

commands_made : (n : ℕ) (history : List Entry) → commands_of (Client n) history ≡ commands_for n (made_in history)
commands_made n [] = refl
commands_made n (e ∷ es) = by e.who refl (commands_made n es) where
  by_number : (m : ℕ) (b : Bool) → (n == m) ≡ b → commands_of (Client n) es ≡ commands_for n (made_in es)
      → cut_entries n e es b ≡ map (λ (c : Made). c.1) (cond b ((m, e.command) ∷ filter (λ (c : Made). n == c.0) (made_in es)) (filter (λ (c : Made). n == c.0) (made_in es)))
  by_number m true is rest = ap (λ cs. e.command ∷ cs) rest
  by_number m false is rest = rest

  by : (w : Who) → e.who ≡ w → commands_of (Client n) es ≡ commands_for n (made_in es)
      → commands_of (Client n) (e ∷ es) ≡ commands_for n (made_by e.who e.command (made_in es))
  by Worker is rest =
      ap (λ w. cut_entries n e es (is_of (Client n) w)) is ∙ rest
      ∙ sym (ap (λ w. commands_for n (made_by w e.command (made_in es))) is)
  by (Client m) is rest =
      ap (λ w. cut_entries n e es (is_of (Client n) w)) is ∙ by_number m (n == m) refl rest
      ∙ sym (ap (λ w. commands_for n (made_by w e.command (made_in es))) is)

-- the commands of a client in the order in which one thread makes them

for_append : (n : ℕ) (xs ys : List Made) → commands_for n (xs ++ ys) ≡ commands_for n xs ++ commands_for n ys
for_append n [] ys = refl
for_append n (x ∷ xs) ys = by (n == x.0) (for_append n xs ys) where
  with_first : List Made → Bool → List Command
  with_first rest b = map (λ (c : Made). c.1) (cond b (x ∷ filter (λ (c : Made). n == c.0) rest) (filter (λ (c : Made). n == c.0) rest))

  by : (b : Bool) → commands_for n (xs ++ ys) ≡ commands_for n xs ++ commands_for n ys
      → with_first (xs ++ ys) b ≡ with_first xs b ++ commands_for n ys
  by true rest = ap (λ cs. x.1 ∷ cs) rest
  by false rest = rest

for_own : (n : ℕ) (cs : List Command) → commands_for n (of_client n cs) ≡ cs
for_own n [] = refl
for_own n (c ∷ cs) =
    let same : (n == n) ≡ true = search (nat_tests, rules) in
    ap (λ b. map (λ (x : Made). x.1) (cond b ((n, c) ∷ filter (λ (x : Made). n == x.0) (of_client n cs)) (filter (λ (x : Made). n == x.0) (of_client n cs)))) same
    ∙ ap (λ xs. c ∷ xs) (for_own n cs)

for_other : (n m : ℕ) (cs : List Command) → (n == m) ≡ false → commands_for n (of_client m cs) ≡ []
for_other n m [] other = refl
for_other n m (c ∷ cs) other =
    ap (λ b. map (λ (x : Made). x.1) (cond b ((m, c) ∷ filter (λ (x : Made). n == x.0) (of_client m cs)) (filter (λ (x : Made). n == x.0) (of_client m cs)))) other
    ∙ for_other n m cs other

for_earlier : (n k : ℕ) (css : List (List Command)) → n < k → commands_for n (of_clients k css) ≡ []
for_earlier n k [] less = refl
for_earlier n k (cs ∷ more) less =
    let other : (n == k) ≡ false = grind (arith, nat_tests) in
    for_append n (of_client k cs) (of_clients (k + 1) more)
    ∙ ap (λ xs. xs ++ commands_for n (of_clients (k + 1) more)) (for_other n k cs other)
    ∙ for_earlier n (k + 1) more (omega arith)

for_later : (j k n : ℕ) (css : List (List Command)) → n ≡ k + j
    → commands_for n (of_clients k css) ≡ unwrap_or (slice_get css j) []
for_later zero k n [] is = refl
for_later (suc j) k n [] is = refl
for_later zero k n (cs ∷ more) is =
    let same : n ≡ k = omega (arith, is) in
    for_append n (of_client k cs) (of_clients (k + 1) more)
    ∙ ap (λ xs. xs ++ commands_for n (of_clients (k + 1) more)) (ap (λ m. commands_for m (of_client k cs)) same ∙ for_own k cs)
    ∙ ap (λ xs. cs ++ xs) (for_earlier n (k + 1) more (omega (arith, same))) ∙ append-nil cs
for_later (suc j) k n (cs ∷ more) is =
    let other : (n == k) ≡ false = grind (arith, nat_tests) in
    for_append n (of_client k cs) (of_clients (k + 1) more)
    ∙ ap (λ xs. xs ++ commands_for n (of_clients (k + 1) more)) (for_other n k cs other)
    ∙ for_later j (k + 1) n more (omega (arith, is))

for_script : (s : Script) (n : ℕ) → commands_for n (in_turn s) ≡ list_of s n
for_script s zero =
    for_append 0 (of_client 0 s.setup) (of_clients 1 s.clients)
    ∙ ap (λ xs. xs ++ commands_for 0 (of_clients 1 s.clients)) (for_own 0 s.setup)
    ∙ ap (λ xs. s.setup ++ xs) (for_earlier 0 1 s.clients (omega arith)) ∙ append-nil s.setup
for_script s (suc n) =
    let other : (suc n == 0) ≡ false = grind (arith, nat_tests) in
    for_append (suc n) (of_client 0 s.setup) (of_clients 1 s.clients)
    ∙ ap (λ xs. xs ++ commands_for (suc n) (of_clients 1 s.clients)) (for_other (suc n) 0 s.setup other)
    ∙ for_later n 1 (suc n) s.clients (omega arith)

-- the set-up comes first

abbrev is_zero : Made → Bool
is_zero c = 0 == c.0

abbrev is_first : List Made → Bool
is_first [] = true
is_first (c ∷ cs) = not (not (c.0 == 0) && list_any is_zero cs) && is_first cs

zero_made : (history : List Entry) → list_any is_setup history ≡ list_any is_zero (made_in history)
zero_made [] = refl
zero_made (e ∷ es) = by e.who refl (zero_made es) where
  by : (w : Who) → e.who ≡ w → list_any is_setup es ≡ list_any is_zero (made_in es) → list_any is_setup (e ∷ es) ≡ list_any is_zero (made_by e.who e.command (made_in es))
  by Worker is rest =
      ap (λ w. is_of (Client 0) w || list_any is_setup es) is ∙ rest
      ∙ sym (ap (λ w. list_any is_zero (made_by w e.command (made_in es))) is)
  by (Client m) is rest =
      ap (λ w. is_of (Client 0) w || list_any is_setup es) is ∙ ap (λ b. (0 == m) || b) rest
      ∙ sym (ap (λ w. list_any is_zero (made_by w e.command (made_in es))) is)

first_made : (history : List Entry) → is_setup_first history ≡ is_first (made_in history)
first_made [] = refl
first_made (e ∷ es) = by e.who refl (zero_made es) (first_made es) where
  by : (w : Who) → e.who ≡ w → list_any is_setup es ≡ list_any is_zero (made_in es)
      → is_setup_first es ≡ is_first (made_in es) → is_setup_first (e ∷ es) ≡ is_first (made_by e.who e.command (made_in es))
  by Worker is same rest =
      ap (λ w. not (is_later w && list_any is_setup es) && is_setup_first es) is ∙ rest
      ∙ sym (ap (λ w. is_first (made_by w e.command (made_in es))) is)
  by (Client m) is same rest =
      ap (λ w. not (is_later w && list_any is_setup es) && is_setup_first es) is
      ∙ ap (λ b. not (not (m == 0) && b) && is_setup_first es) same
      ∙ ap (λ b. not (not (m == 0) && list_any is_zero (made_in es)) && b) rest
      ∙ sym (ap (λ w. is_first (made_by w e.command (made_in es))) is)

and-false : (b : Bool) → (b && false) ≡ false
and-false true = refl
and-false false = refl

or_left : (a b : Bool) → (a || b) ≡ false → a ≡ false
or_left false b e = refl
or_left true b e = absurd (cc)

or_right : (a b : Bool) → (a || b) ≡ false → b ≡ false
or_right false b e = e
or_right true b e = absurd (cc)

none_first : (cs : List Made) → list_any is_zero cs ≡ false → is_first cs ≡ true
none_first [] none = refl
none_first (c ∷ cs) none =
    let rest = or_right (is_zero c) (list_any is_zero cs) none in
    ap (λ b. not (not (c.0 == 0) && b) && is_first cs) rest
    ∙ ap (λ b. not b && is_first cs) (and-false (not (c.0 == 0))) ∙ none_first cs rest

any-append : (xs ys : List Made) → list_any is_zero xs ≡ false → list_any is_zero ys ≡ false → list_any is_zero (xs ++ ys) ≡ false
any-append [] ys h k = k
any-append (x ∷ xs) ys h k =
    ap (λ b. b || list_any is_zero (xs ++ ys)) (or_left (is_zero x) (list_any is_zero xs) h)
    ∙ any-append xs ys (or_right (is_zero x) (list_any is_zero xs) h) k

client_not_zero : (n : ℕ) (cs : List Command) → 0 < n → list_any is_zero (of_client n cs) ≡ false
client_not_zero n [] some = refl
client_not_zero n (c ∷ cs) some =
    let other : (0 == n) ≡ false = grind (arith, nat_tests) in
    ap (λ b. b || list_any is_zero (of_client n cs)) other ∙ client_not_zero n cs some

clients_not_zero : (n : ℕ) (css : List (List Command)) → 0 < n → list_any is_zero (of_clients n css) ≡ false
clients_not_zero n [] some = refl
clients_not_zero n (cs ∷ more) some =
    any-append (of_client n cs) (of_clients (n + 1) more) (client_not_zero n cs some) (clients_not_zero (n + 1) more (omega arith))

setup_first : (cs : List Command) (rest : List Made) → is_first rest ≡ true → is_first (of_client 0 cs ++ rest) ≡ true
setup_first [] rest h = h
setup_first (c ∷ cs) rest h = setup_first cs rest h

-- workers make accepted steps

-- the step of the ready session is accepted
pub accepted_ready : (g : HostImage) (name : List ℕ) (e : Entry) → AreDistinct g.sessions → ready g ≡ Some name
    → Enters g Worker (Step name) e → is_accepted_step e.command e.reply ≡ true
accepted_ready g name e distinct is_ready enters =
    let stepped = ready_stepped g name distinct is_ready in
    ap (is_accepted_step e.command) enters.told.reply
    ∙ ap (λ c. is_accepted_step c (answer g c).reply) enters.command ∙ ap (is_accepted_step (Step name)) stepped.1

others_of_run : (history : List Entry) (g : HostImage) (cs : List Made) (budget : ℕ) → AreDistinct g.sessions
    → IsRun g cs budget history → list_all is_served history ≡ true
others_of_run [] g cs budget distinct h = refl
others_of_run (e ∷ es) g cs budget distinct h =
    by_first (first_entry g cs budget e es h) (λ cs' budget'. others_of_run es (answer g e.command).host cs' budget' (distinct_after g e distinct)) where
      by_first : First g cs budget e (RunsOn es)
          → ((cs' : List Made) (budget' : ℕ) → IsRun (answer g e.command).host cs' budget' es → list_all is_served es ≡ true)
          → list_all is_served (e ∷ es) ≡ true
      by_first (stepped name less is is_ready enters rest) others =
          let served : is_served e ≡ true =
          ap (λ w. served_by w e.command e.reply) enters.who ∙ accepted_ready g name e distinct is_ready enters in
          ap (λ b. b && list_all is_served es) served ∙ others cs less rest
      by_first (made c after is enters rest) others =
          let served : is_served e ≡ true = ap (λ w. served_by w e.command e.reply) enters.who in
          ap (λ b. b && list_all is_served es) served ∙ others after budget rest

-- the run of a script serves it
pub served_of_run : (history : List Entry) (g : HostImage) (s : Script) (budget : ℕ) → AreDistinct g.sessions
    → IsRun g (in_turn s) budget history → Serves s history
served_of_run history g s budget distinct run =
    let all = made_of_run history g (in_turn s) budget run in
    let later = none_first (of_clients 1 s.clients) (clients_not_zero 1 s.clients (omega arith)) in
    let first : is_setup_first history ≡ true =
    first_made history ∙ ap is_first all ∙ setup_first s.setup (of_clients 1 s.clients) later in
    let others : list_all is_served history ≡ true = others_of_run history g (in_turn s) budget distinct run in
    record {
      lists = λ n. commands_made n history ∙ ap (commands_for n) all ∙ for_script s n;
      setup = search rules;
      others = search rules;
    }
