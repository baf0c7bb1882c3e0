-- Whose commands a history has, with one entry more.
use Rattle.std.proofs.Common.{◌≡◌, ℕ, zero, suc, ◌+◌, ◌==◌, Bool, true, false, ◌&&◌, cond, List, [], ◌∷◌, ◌++◌, map, filter, append-nil, refl, ap, ◌∙◌, subst, arith, rules}
use Rattle.std.specs.List.{list_all, AllByRecursion}
use Rattle.std.proofs.lemmas.List.Sums.{sum_by-append}
use Rattle.std.proofs.lemmas.Bool.Decides.{nat_tests}
use Rattle.sc_types.specs.declared.command.Command.{Command}
use Rattle.sc_types.specs.declared.command.Command.TheVariants as command
use Rattle.sc_types.specs.declared.command.Reply.{Reply}
use Rattle.sc_types.specs.declared.history.Entry.{Entry}
use Rattle.sc_types.specs.declared.history.Who.{Who}
use Rattle.sc_types.specs.declared.history.Who.TheVariants.{Client, Worker}
use Rattle.sc_script.specs.Steps.{IsNoStep}
use Rattle.sc_pool.specs.Plans.{script_of}
use Rattle.sc_machine.specs.Accepted.{accepted_steps, is_accepted_step}
use Rattle.sc_pool.specs.Serving.{commands_of, is_of, is_served}

abbrev pub with_first : Who → Entry → List Entry → Bool → List Command
with_first who e es b = map (λ (x : Entry). x.command)
    (cond b (e ∷ filter (λ (x : Entry). is_of who x.who) es) (filter (λ (x : Entry). is_of who x.who) es))

with_more : (who : Who) (e : Entry) (es more : List Entry) (b : Bool)
    → commands_of who (es ++ more) ≡ commands_of who es ++ commands_of who more
    → with_first who e (es ++ more) b ≡ with_first who e es b ++ commands_of who more
with_more who e es more true is = ap (λ cs. e.command ∷ cs) is
with_more who e es more false is = is

pub commands_of-append : (who : Who) (xs ys : List Entry) → commands_of who (xs ++ ys) ≡ commands_of who xs ++ commands_of who ys
commands_of-append who [] ys = refl
commands_of-append who (x ∷ xs) ys = with_more who x xs ys (is_of who x.who) (commands_of-append who xs ys)

-- one entry more of this caller
pub commands_of-own : (who : Who) (fresh : List Entry) (e : Entry) → is_of who e.who ≡ true
    → commands_of who (fresh ++ e ∷ []) ≡ commands_of who fresh ++ e.command ∷ []
commands_of-own who fresh e own =
    commands_of-append who fresh (e ∷ []) ∙ ap (λ b. commands_of who fresh ++ with_first who e [] b) own

-- and of another
pub commands_of-other : (who : Who) (fresh : List Entry) (e : Entry) → is_of who e.who ≡ false
    → commands_of who (fresh ++ e ∷ []) ≡ commands_of who fresh
commands_of-other who fresh e other =
    commands_of-append who fresh (e ∷ []) ∙ ap (λ b. commands_of who fresh ++ with_first who e [] b) other
    ∙ append-nil (commands_of who fresh)

-- a caller is itself, and no client of another number

pub same_client : (n : ℕ) (who : Who) → who ≡ Client n → is_of (Client n) who ≡ true
same_client n who is =
    let same : (n == n) ≡ true = search (nat_tests, rules) in
    ap (is_of (Client n)) is ∙ same

pub other_client : (m n : ℕ) (who : Who) → who ≡ Client n → (m ≡ n → ⊥) → is_of (Client m) who ≡ false
other_client m n who is differ =
    let other : (m == n) ≡ false = grind (arith, nat_tests, differ) in
    ap (is_of (Client m)) is ∙ other

pub no_client : (m : ℕ) (who : Who) → who ≡ Worker → is_of (Client m) who ≡ false
no_client m who is = ap (is_of (Client m)) is

and_more : (a b c d : Bool) → d ≡ (b && c) → (a && d) ≡ ((a && b) && c)
and_more true b c d e = e
and_more false b c d e = refl

pub all_served-append : (xs ys : List Entry) → list_all is_served (xs ++ ys) ≡ (list_all is_served xs && list_all is_served ys)
all_served-append [] ys = refl
all_served-append (x ∷ xs) ys =
    and_more (is_served x) (list_all is_served xs) (list_all is_served ys) (list_all is_served (xs ++ ys)) (all_served-append xs ys)

-- one served entry more
pub all_served-more : (fresh : List Entry) (e : Entry) → list_all is_served fresh ≡ true → is_served e ≡ true
    → list_all is_served (fresh ++ e ∷ []) ≡ true
all_served-more fresh e all one =
    all_served-append fresh (e ∷ []) ∙ ap (λ b. b && (is_served e && true)) all ∙ ap (λ b. b && true) one

abbrev one_if : Bool → ℕ
one_if b = cond b 1 0

pub steps-append : (xs ys : List Entry) → accepted_steps (xs ++ ys) ≡ accepted_steps xs + accepted_steps ys
steps-append xs ys = sum_by-append (λ (e : Entry). cond (is_accepted_step e.command e.reply) 1 0) xs ys

-- an accepted step more
pub steps-more : (xs : List Entry) (e : Entry) → is_accepted_step e.command e.reply ≡ true
    → accepted_steps (xs ++ e ∷ []) ≡ accepted_steps xs + 1
steps-more xs e is =
    let one : one_if (is_accepted_step e.command e.reply) ≡ 1 = ap one_if is in
    omega (arith, steps-append xs (e ∷ []), one)

-- an entry of no accepted step
pub steps-none : (xs : List Entry) (e : Entry) → is_accepted_step e.command e.reply ≡ false
    → accepted_steps (xs ++ e ∷ []) ≡ accepted_steps xs
steps-none xs e is =
    let none : one_if (is_accepted_step e.command e.reply) ≡ 0 = ap one_if is in
    omega (arith, steps-append xs (e ∷ []), none)

-- the commands of a list that has no step make none
pub no_step : (c : Command) (reply : Reply) → IsNoStep c → is_accepted_step c reply ≡ false
no_step (command.Install name chart) reply is = refl
no_step (command.Start session chart) reply is = refl
no_step (command.Post session event pairs) reply is = refl
no_step (command.Tick ticks) reply is = refl
no_step (command.Cancel session) reply is = refl
no_step (command.Step session) reply is = absurd is

all_at : (xs : List Command) (c : Command) (ys : List Command) → AllByRecursion IsNoStep (xs ++ c ∷ ys) → IsNoStep c
all_at [] c ys all = all.0
all_at (x ∷ xs) c ys all = all_at xs c ys all.1

pub no_step_in : (scripts : List (List Command)) (place : ℕ) → AllByRecursion (AllByRecursion IsNoStep) scripts
    → AllByRecursion IsNoStep (script_of scripts place)
no_step_in [] place all = tt
no_step_in (s ∷ ss) zero all = all.0
no_step_in (s ∷ ss) (suc place) all = no_step_in ss place all.1

-- the next command of a list without a step
pub no_step_next : (scripts : List (List Command)) (place : ℕ) (made rest : List Command) (c : Command) (reply : Reply)
    → AllByRecursion (AllByRecursion IsNoStep) scripts → script_of scripts place ≡ made ++ c ∷ rest
    → is_accepted_step c reply ≡ false
no_step_next scripts place made rest c reply all is =
    no_step c reply (all_at made c rest (subst (AllByRecursion IsNoStep) is (no_step_in scripts place all)))
