-- The run of a script keeps the whole promise, and its first entries as much as they can.
use Rattle.std.proofs.Common.{◌≡◌, ◌≢◌, ℕ, zero, suc, ◌+◌, ◌≤◌, Bool, true, false, cond, None, List, [], ◌∷◌, ◌++◌, append-nil, refl, sym, ap, subst, ◌∙◌, arith}
use Rattle.std.specs.List.{AllByRecursion}
use Rattle.std.proofs.lemmas.List.Sums.{sum_by-cons}
use Rattle.sc_types.specs.declared.command.Command.{Command}
use Rattle.sc_types.specs.declared.command.Command.TheVariants.{Install, Start, Post, Tick, Cancel, Step}
use Rattle.sc_types.specs.declared.command.Reply.{Reply}
use Rattle.sc_types.specs.declared.history.Entry.{Entry}
use Rattle.sc_types.specs.declared.host.HostImage.{HostImage}
use Rattle.sc_script.specs.declared.script.Script.{Script}
use Rattle.sc_script.specs.Steps.{HasNoStep, IsNoStep}
use Rattle.sc_machine.specs.Commands.{answer}
use Rattle.sc_machine.specs.Cues.{ready}
use Rattle.sc_book.specs.Books.{opening}
use Rattle.sc_machine.specs.Accepted.{accepted_steps, after, is_accepted_step}
use Rattle.sc_machine.specs.Histories.{IsAtMostOnce, IsLegal, replay}
use Rattle.sc_machine.proofs.AcceptedLemmas.{legal_more, legal_parts}
use Rattle.sc_machine.proofs.ChangeLemmas.{change_of}
use Rattle.sc_machine.specs.Hosts.{empty_host}
use Rattle.sc_machine.proofs.GivenLemmas.{given_from}
use Rattle.sc_machine.proofs.NameLemmas.{AreDistinct, distinct_kept}
use Rattle.sc_machine.proofs.Once.{consumed_once}
use Rattle.sc_top.specs.Run.{IsFront, IsHistoryOf, IsRun, IsWholeHistoryOf, Made, entries_of, in_turn, of_client, of_clients}
use Rattle.sc_top.proofs.FrontLemmas.{served_in_part, steps_front}
use Rattle.sc_top.proofs.RunsLemmas.{First, RunsOn, distinct_after, first_entry, legal_of_run, made, over_ready, stepped}
use Rattle.sc_top.proofs.ServedLemmas.{accepted_ready, served_of_run}

abbrev NoStepMade : Made → Type 0
NoStepMade c = IsNoStep c.1

-- no more steps are taken than the budget has

no_step : (c : Command) (reply : Reply) → IsNoStep c → is_accepted_step c reply ≡ false
no_step (Step session) reply h = absurd h
no_step (Install name text) reply h = refl
no_step (Start session chart) reply h = refl
no_step (Post session name pairs) reply h = refl
no_step (Tick ticks) reply h = refl
no_step (Cancel session) reply h = refl

one_if : (b : Bool) → cond b 1 0 ≤ 1
one_if true = omega arith
one_if false = omega arith

-- the run of a script keeps within its budget of steps
pub within_of_run : (history : List Entry) (g : HostImage) (cs : List Made) (budget : ℕ) → AllByRecursion NoStepMade cs → IsRun g cs budget history → accepted_steps history ≤ budget
within_of_run [] g cs budget none h = omega arith
within_of_run (e ∷ es) g cs budget none h =
    by_first (first_entry g cs budget e es h) (within_of_run es (answer g e.command).host) where
      by_first : First g cs budget e (RunsOn es)
          → ((cs' : List Made) (budget' : ℕ) → AllByRecursion NoStepMade cs' → IsRun (answer g e.command).host cs' budget' es → accepted_steps es ≤ budget')
          → accepted_steps (e ∷ es) ≤ budget
      by_first (stepped name less is is_ready enters rest) others =
          let few = others cs less none rest in
          let first = sum_by-cons (λ (x : Entry). cond (is_accepted_step x.command x.reply) 1 0) e es in
          omega (arith, few, first, one_if (is_accepted_step e.command e.reply), is)
      by_first (made c after is enters rest) others =
          let all = subst (AllByRecursion NoStepMade) is none in
          let few = others after budget all.1 rest in
          let first = sum_by-cons (λ (x : Entry). cond (is_accepted_step x.command x.reply) 1 0) e es in
          let not : is_accepted_step e.command e.reply ≡ false = ap (λ x. is_accepted_step x e.reply) enters.command ∙ no_step c.1 e.reply all.0 in
          omega (arith, few, first, ap {B = ℕ} (λ b. cond b 1 0) not)

-- where a session is ready at the end, all steps were taken
pub spent_of_run : (history : List Entry) (g : HostImage) (cs : List Made) (budget : ℕ) → AreDistinct g.sessions
    → AllByRecursion NoStepMade cs → IsRun g cs budget history → ready (replay g history) ≢ None
    → accepted_steps history ≡ budget
spent_of_run [] g cs zero distinct none h is_ready = refl
spent_of_run [] g cs (suc less) distinct none h is_ready = absurd (is_ready (over_ready (ready g) cs h).0)
spent_of_run (e ∷ es) g cs budget distinct none h is_ready =
    by_first (first_entry g cs budget e es h) (λ cs' budget' none' run. spent_of_run es (answer g e.command).host cs' budget' (distinct_after g e distinct) none' run is_ready) where
      by_first : First g cs budget e (RunsOn es)
          → ((cs' : List Made) (budget' : ℕ) → AllByRecursion NoStepMade cs' → IsRun (answer g e.command).host cs' budget' es → accepted_steps es ≡ budget')
          → accepted_steps (e ∷ es) ≡ budget
      by_first (stepped name less is is_ready enters rest) others =
          let all = others cs less none rest in
          let first = sum_by-cons (λ (x : Entry). cond (is_accepted_step x.command x.reply) 1 0) e es in
          let one = accepted_ready g name e distinct is_ready enters in
          omega (arith, all, first, is, ap {B = ℕ} (λ b. cond b 1 0) one)
      by_first (made c after is enters rest) others =
          let lacking = subst (AllByRecursion NoStepMade) is none in
          let all = others after budget lacking.1 rest in
          let first = sum_by-cons (λ (x : Entry). cond (is_accepted_step x.command x.reply) 1 0) e es in
          let not : is_accepted_step e.command e.reply ≡ false = ap (λ x. is_accepted_step x e.reply) enters.command ∙ no_step c.1 e.reply lacking.0 in
          omega (arith, all, first, ap {B = ℕ} (λ b. cond b 1 0) not)

-- a script has no step of its own

own_steps : (n : ℕ) (cs : List Command) → AllByRecursion IsNoStep cs → AllByRecursion NoStepMade (of_client n cs)
own_steps n [] h = tt
own_steps n (c ∷ cs) h = (h.0, own_steps n cs h.1)

both_steps : (xs ys : List Made) → AllByRecursion NoStepMade xs → AllByRecursion NoStepMade ys
    → AllByRecursion NoStepMade (xs ++ ys)
both_steps [] ys h k = k
both_steps (x ∷ xs) ys h k = (h.0, both_steps xs ys h.1 k)

client_steps : (n : ℕ) (css : List (List Command)) → AllByRecursion (AllByRecursion IsNoStep) css
    → AllByRecursion NoStepMade (of_clients n css)
client_steps n [] h = tt
client_steps n (cs ∷ css) h =
    both_steps (of_client n cs) (of_clients (n + 1) css) (own_steps n cs h.0) (client_steps (n + 1) css h.1)

-- ---- the opening, and the commands before it

-- the names of sessions are distinct whatever was done
pub distinct_commands : (g : HostImage) (cs : List Command) → AreDistinct g.sessions → AreDistinct (after g cs).sessions
distinct_commands g [] distinct = distinct
distinct_commands g (c ∷ cs) distinct =
    distinct_commands (answer g c).host cs (distinct_kept g c (answer g c) (change_of g c) distinct)

-- the commands before the opening are a legal history too
pub entries_legal : (g : HostImage) (cs : List Command) → IsLegal g (entries_of g cs)
entries_legal g [] = tt
entries_legal g (c ∷ cs) = (record { reply = refl; logs = refl; sent = refl }, entries_legal (answer g c).host cs)

pub entries_replayed : (g : HostImage) (cs : List Command) → replay g (entries_of g cs) ≡ after g cs
entries_replayed g [] = refl
entries_replayed g (c ∷ cs) = entries_replayed (answer g c).host cs

-- so no event is consumed twice, those included that were given before
pub once_of : (past : List Command) (history : List Entry) → IsLegal (opening past) history
    → IsAtMostOnce (entries_of empty_host past ++ history)
once_of past history legal =
    let all = legal_more empty_host (entries_of empty_host past) history (entries_legal empty_host past)
    (subst (λ g. IsLegal g history) (sym (entries_replayed empty_host past)) legal) in
    record {
      once = consumed_once (entries_of empty_host past ++ history) all;
      given = given_from [] empty_host (entries_of empty_host past ++ history) all tt;
    }

-- ---- the promise

no_steps : (s : Script) → HasNoStep s → AllByRecursion NoStepMade (in_turn s)
no_steps s steps =
    both_steps (of_client 0 s.setup) (of_clients 1 s.clients) (own_steps 0 s.setup steps.setup)
    (client_steps 1 s.clients steps.clients)

-- the first entries of the run of a script
pub history_of_front : (past : List Command) (s : Script) (budget : ℕ) (history : List Entry) → HasNoStep s
    → IsFront (opening past) (in_turn s) budget history → IsHistoryOf past s 0 budget history
history_of_front past s budget history steps front =
    let g = opening past in
    let distinct = distinct_commands empty_host past tt in
    let legal = (legal_parts g history front.rest
    (legal_of_run (history ++ front.rest) g (in_turn s) budget front.run)).0 in
    let whole = within_of_run (history ++ front.rest) g (in_turn s) budget (no_steps s steps) front.run in
    let few = steps_front history front.rest in
    record {
      legal = legal;
      once = once_of past history legal;
      served = served_in_part s history front.rest (served_of_run (history ++ front.rest) g s budget distinct front.run);
      within = omega (arith, whole, few);
      run = λ _. front;
    }

-- the whole run of a script
pub history_of_run : (past : List Command) (s : Script) (budget : ℕ) (history : List Entry) → HasNoStep s
    → IsRun (opening past) (in_turn s) budget history → IsWholeHistoryOf past s 0 budget history
history_of_run past s budget history steps run =
    let g = opening past in
    let distinct = distinct_commands empty_host past tt in
    let front : IsFront g (in_turn s) budget history =
    record { rest = []; run = subst (IsRun g (in_turn s) budget) (sym (append-nil history)) run } in
    record {
      part = history_of_front past s budget history steps front;
      served = served_of_run history g s budget distinct run;
      spent = spent_of_run history g (in_turn s) budget distinct (no_steps s steps) run;
      run = λ _. run;
    }
