-- The first entries of a run: how a run goes on to its end, and what is promised of it as far as it came.
use Rattle.std.proofs.Common.{◌≡◌, ℕ, zero, suc, ◌+◌, ◌≤◌, Bool, true, false, not, ◌&&◌, ◌||◌, cond, Option, None, Some, List, [], ◌∷◌, ◌++◌, length, map, filter, append-nil, refl, sym, ap, ◌∙◌, arith, rules}
use Rattle.std.specs.List.{list_all, list_any}
use Rattle.std.proofs.lemmas.List.Sums.{sum_by-cons}
use Rattle.sc_types.specs.declared.command.Command.{Command}
use Rattle.sc_types.specs.declared.command.Command.TheVariants.{Step}
use Rattle.sc_types.specs.declared.history.Entry.{Entry}
use Rattle.sc_types.specs.declared.history.Who.{Who}
use Rattle.sc_types.specs.declared.history.Who.TheVariants.{Client, Worker}
use Rattle.sc_types.specs.declared.host.HostImage.{HostImage}
use Rattle.sc_script.specs.declared.script.Script.{Script}
use Rattle.sc_machine.specs.Accepted.{accepted_steps, is_accepted_step}
use Rattle.sc_machine.specs.Commands.{answer}
use Rattle.sc_machine.specs.Cues.{ready}
use Rattle.sc_pool.specs.Serving.{Serves, ServesInPart, commands_of, is_of, is_of_later, is_served, is_setup, is_setup_first}
use Rattle.sc_top.specs.Run.{IsFront, IsRun, Made, next, of_ready, of_script}
use Rattle.sc_top.proofs.RunLemmas.{entry_enters, entry_of, makes_on, steps_on}

-- ---- a run has an end

-- the run of the commands, to its end
pub record HasWhole (g : HostImage) (cs : List Made) (budget : ℕ) : Type 0 where
  pub entries : List Entry
  pub run : IsRun g cs budget entries

commands_whole : (g : HostImage) (cs : List Made) (budget : ℕ) → next g cs budget ≡ of_script cs
    → ((g' : HostImage) (cs' : List Made) → suc (length cs') ≤ length cs → HasWhole g' cs' budget) → HasWhole g cs budget
commands_whole g [] budget goes more = record { entries = []; run = goes }
commands_whole g (c ∷ cs) budget goes more =
    let e = entry_of g (Client c.0) c.1 in
    let w = more (answer g c.1).host cs (omega arith) in
    record {
      entries = e ∷ w.entries;
      run = makes_on g c cs budget e w.entries goes (entry_enters g (Client c.0) c.1) w.run;
    }

ready_whole : (g : HostImage) (cs : List Made) (b : ℕ) (o : Option (List ℕ)) → ready g ≡ o
    → ((g' : HostImage) (cs' : List Made) → suc (length cs') ≤ length cs → HasWhole g' cs' (suc b))
    → ((g' : HostImage) → HasWhole g' cs b) → HasWhole g cs (suc b)
ready_whole g cs b None none made stepped = commands_whole g cs (suc b) (ap (λ o. of_ready o cs) none) made
ready_whole g cs b (Some name) some made stepped =
    let e = entry_of g Worker (Step name) in
    let w = stepped (answer g (Step name)).host in
    record {
      entries = e ∷ w.entries;
      run = steps_on g cs b e w.entries name some (entry_enters g Worker (Step name)) w.run;
    }

-- each run comes to an end: a step takes from the budget, and a command from the script
pub whole_run : (n : ℕ) (g : HostImage) (cs : List Made) (budget : ℕ) → length cs + budget ≤ n → HasWhole g cs budget
whole_run zero g cs zero few = commands_whole g cs zero refl (λ g' cs' less. absurd (omega (arith, few, less)))
whole_run zero g cs (suc b) few = absurd (omega (arith, few))
whole_run (suc n) g cs zero few =
    commands_whole g cs zero refl (λ g' cs' less. whole_run n g' cs' zero (omega (arith, few, less)))
whole_run (suc n) g cs (suc b) few =
    ready_whole g cs b (ready g) refl (λ g' cs' less. whole_run n g' cs' (suc b) (omega (arith, few, less)))
    (λ g'. whole_run n g' cs b (omega (arith, few)))

-- what was reached is the first part of a run
pub front_of : (g h : HostImage) (cs left : List Made) (budget steps : ℕ) (history : List Entry)
    → ((rest : List Entry) → IsRun h left steps rest → IsRun g cs budget (history ++ rest)) → IsFront g cs budget history
front_of g h cs left budget steps history runs =
    let w = whole_run (length left + steps) h left steps (omega arith) in
    record { rest = w.entries; run = runs w.entries w.run }

-- ---- what the first entries of a history have of what all have

-- the commands of one caller, of two parts
pub commands-append : (w : Who) (es fs : List Entry) → commands_of w (es ++ fs) ≡ commands_of w es ++ commands_of w fs
commands-append w [] fs = refl
commands-append w (e ∷ es) fs = by (is_of w e.who) (commands-append w es fs) where
  with_first : List Entry → Bool → List Command
  with_first rest b = map (λ (x : Entry). x.command)
      (cond b (e ∷ filter (λ (x : Entry). is_of w x.who) rest) (filter (λ (x : Entry). is_of w x.who) rest))

  by : (b : Bool) → commands_of w (es ++ fs) ≡ commands_of w es ++ commands_of w fs
      → with_first (es ++ fs) b ≡ with_first es b ++ commands_of w fs
  by true rest = ap (λ cs. e.command ∷ cs) rest
  by false rest = rest

and_left : (a b : Bool) → (a && b) ≡ true → a ≡ true
and_left true b e = refl
and_left false b e = absurd (cc)

and_right : (a b : Bool) → (a && b) ≡ true → b ≡ true
and_right true b e = e
and_right false b e = absurd (cc)

both : (a b : Bool) → a ≡ true → b ≡ true → (a && b) ≡ true
both true b x y = y
both false b x y = absurd (cc)

or_none : (a b : Bool) → (a || b) ≡ false → b ≡ false
or_none false b e = e
or_none true b e = absurd (cc)

all_front : (p : Entry → Bool) (es fs : List Entry) → list_all p (es ++ fs) ≡ true → list_all p es ≡ true
all_front p [] fs h = refl
all_front p (e ∷ es) fs h =
    both (p e) (list_all p es) (and_left (p e) (list_all p (es ++ fs)) h)
    (all_front p es fs (and_right (p e) (list_all p (es ++ fs)) h))

any_behind : (p : Entry → Bool) (es fs : List Entry) → list_any p (es ++ fs) ≡ false → list_any p fs ≡ false
any_behind p [] fs h = h
any_behind p (e ∷ es) fs h = any_behind p es fs (or_none (p e) (list_any p (es ++ fs)) h)

none_front : (p : Entry → Bool) (es fs : List Entry) → list_any p (es ++ fs) ≡ false → list_any p es ≡ false
none_front p [] fs h = refl
none_front p (e ∷ es) fs h = by (p e) h (λ k. none_front p es fs k) where
  by : (b : Bool) → (b || list_any p (es ++ fs)) ≡ false → (list_any p (es ++ fs) ≡ false → list_any p es ≡ false)
      → (b || list_any p es) ≡ false
  by false k rest = rest k
  by true k rest = absurd (cc)

-- the entry of a later client, and whether the set-up has entries behind it
abbrev apart : Bool → Bool → Bool
apart later more = not (later && more)

apart_front : (later : Bool) (es fs : List Entry) → apart later (list_any is_setup (es ++ fs)) ≡ true
    → apart later (list_any is_setup es) ≡ true
apart_front false es fs h = refl
apart_front true es fs h = by (list_any is_setup (es ++ fs)) refl h where
  by : (b : Bool) → list_any is_setup (es ++ fs) ≡ b → not b ≡ true → not (list_any is_setup es) ≡ true
  by false is k = ap not (none_front is_setup es fs is)
  by true is k = absurd (cc)

setup_front : (es fs : List Entry) → is_setup_first (es ++ fs) ≡ true → is_setup_first es ≡ true
setup_front [] fs h = refl
setup_front (e ∷ es) fs h =
    both (apart (is_of_later e) (list_any is_setup es)) (is_setup_first es)
    (apart_front (is_of_later e) es fs (and_left _ (is_setup_first (es ++ fs)) h))
    (setup_front es fs (and_right (apart (is_of_later e) (list_any is_setup (es ++ fs))) _ h))

-- behind an entry of a later client the set-up has none
setup_done : (es fs : List Entry) → is_setup_first (es ++ fs) ≡ true → list_any is_of_later es ≡ true
    → list_any is_setup fs ≡ false
setup_done [] fs h later = absurd (cc)
setup_done (e ∷ es) fs h later =
    let more = and_right (apart (is_of_later e) (list_any is_setup (es ++ fs))) (is_setup_first (es ++ fs)) h in
    by (is_of_later e) (and_left _ (is_setup_first (es ++ fs)) h) later (λ l. setup_done es fs more l) where
      none : (b : Bool) → list_any is_setup (es ++ fs) ≡ b → not b ≡ true → list_any is_setup fs ≡ false
      none false is k = any_behind is_setup es fs is
      none true is k = absurd (cc)

      by : (b : Bool) → apart b (list_any is_setup (es ++ fs)) ≡ true → (b || list_any is_of_later es) ≡ true
          → (list_any is_of_later es ≡ true → list_any is_setup fs ≡ false) → list_any is_setup fs ≡ false
      by true k l rest = none (list_any is_setup (es ++ fs)) refl k
      by false k l rest = rest l

no_setup : (es : List Entry) → list_any is_setup es ≡ false → commands_of (Client 0) es ≡ []
no_setup [] h = refl
no_setup (e ∷ es) h = by (is_setup e) h (λ k. no_setup es k) where
  with_first : Bool → List Command
  with_first b = map (λ (x : Entry). x.command)
      (cond b (e ∷ filter (λ (x : Entry). is_of (Client 0) x.who) es) (filter (λ (x : Entry). is_of (Client 0) x.who) es))

  by : (b : Bool) → (b || list_any is_setup es) ≡ false → (list_any is_setup es ≡ false → commands_of (Client 0) es ≡ [])
      → with_first b ≡ []
  by false k rest = rest k
  by true k rest = absurd (cc)

-- the first entries of a history that serves a script serve it in part
pub served_in_part : (s : Script) (es fs : List Entry) → Serves s (es ++ fs) → ServesInPart s es
served_in_part s es fs h =
    let first : is_setup_first (es ++ fs) ≡ true = search (h.setup, rules) in
    let others : list_all is_served (es ++ fs) ≡ true = search (h.others, rules) in
    let setup : is_setup_first es ≡ true = setup_front es fs first in
    let served : list_all is_served es ≡ true = all_front is_served es fs others in
    record {
      lists = λ n. record {
        rest = commands_of (Client n) fs;
        whole = sym (h.lists n) ∙ commands-append (Client n) es fs;
      };
      setup_whole = λ later.
          let some : list_any is_of_later es ≡ true = search (later, rules) in
          sym (append-nil (commands_of (Client 0) es))
          ∙ ap (λ cs. commands_of (Client 0) es ++ cs) (sym (no_setup fs (setup_done es fs first some)))
          ∙ sym (commands-append (Client 0) es fs) ∙ h.lists 0;
      setup = search rules;
      others = search rules;
    }

-- the first entries have no more accepted steps than all
pub steps_front : (es fs : List Entry) → accepted_steps es ≤ accepted_steps (es ++ fs)
steps_front [] fs = omega arith
steps_front (e ∷ es) fs =
    let one = sum_by-cons (λ (x : Entry). cond (is_accepted_step x.command x.reply) 1 0) e es in
    let all = sum_by-cons (λ (x : Entry). cond (is_accepted_step x.command x.reply) 1 0) e (es ++ fs) in
    omega (arith, one, all, steps_front es fs)
