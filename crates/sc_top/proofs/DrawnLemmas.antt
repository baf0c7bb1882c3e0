-- Scripts that are drawn have no steps of their own.
use Rattle.std.proofs.Common.{ℕ, zero, suc, ◌/◌, ◌%◌, ◌^◌, ◌==◌, Bool, true, false, if◌then◌else◌, List, [], ◌∷◌, ◌++◌, codes}
use Rattle.std.specs.List.{AllByRecursion}
use Rattle.sc_types.specs.declared.command.Command.{Command}
use Rattle.sc_types.specs.declared.command.Command.TheVariants.{Post, Start, Tick}
use Rattle.sc_script.specs.Generated.{command_of, drawn_commands, generated, next_number, opening, session_name, starts}
use Rattle.sc_script.specs.Steps.{HasNoStep, IsNoStep}

by_test : (b : Bool) (name : List ℕ) → IsNoStep (if b then Tick 1 else Post name (codes "inc") [])
by_test true name = tt
by_test false name = tt

no_step : (x : ℕ) → IsNoStep (command_of x)
unfolding command_of
no_step x = by_test ((x / 2 ^ 33) % 10 == 0) (session_name ((x / 2 ^ 40) % 8))

none_drawn : (size x : ℕ) → AllByRecursion IsNoStep (drawn_commands size x)
none_drawn zero x = tt
none_drawn (suc size) x = (no_step (next_number x), none_drawn size (next_number x))

both : (xs ys : List Command) → AllByRecursion IsNoStep xs → AllByRecursion IsNoStep ys → AllByRecursion IsNoStep (xs ++ ys)
both [] ys all more = more
both (x ∷ xs) ys all more = (all.0, both xs ys all.1 more)

none_started : (count : ℕ) → AllByRecursion IsNoStep (starts count)
none_started zero = tt
none_started (suc count) = both (starts count) (Start (session_name count) (codes "n") ∷ []) (none_started count) (tt, tt)

-- a drawn script has no steps
pub no_step_drawn : (number size : ℕ) → HasNoStep (generated number size)
no_step_drawn number size = record {
  setup = both opening (drawn_commands size number) (tt, none_started 8) (none_drawn size number);
  clients = tt;
}
