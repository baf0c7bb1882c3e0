-- The numbers that the generator draws, and the commands that they stand for.
use Rattle.std.proofs.Common.{◌≡◌, ℕ, zero, suc, ◌+◌, ◌-◌, ◌<◌, ◌≤◌, List, [], ◌∷◌, ◌++◌, get_or, ap, sym, ◌∙◌, arith, append_assoc}
use Rattle.std.proofs.Math.Nat.{mod-add-mod}
use Rattle.std.proofs.lemmas.Bool.Decides.{nat_tests}
use Rattle.std.proofs.lemmas.Str.{IsUtf8-from_ascii}
use Rattle.sc_base.specs.Text.{IsWord}
use Rattle.sc_types.specs.declared.command.Command.{Command}
use Rattle.sc_script.specs.Generated.{next_number, session_name, command_of, drawn_commands}

pub ruleset wrapped = (mod-add-mod)

ascii_name : (place i : ℕ) → place < 8 → get_or (session_name place) i 0 < 128
ascii_name place zero h = omega arith
ascii_name place (suc zero) h = omega arith
ascii_name place (suc (suc i)) h = omega arith

-- the name of a session is a word
pub session_word : (place : ℕ) → place < 8 → IsWord (session_name place)
session_word place h = record {
  name = record {
    utf8 = IsUtf8-from_ascii (session_name place) (λ i. ascii_name place i h);
    some = omega arith;
    each = grind (arith, nat_tests);
  };
  no_hash = grind (arith, nat_tests);
}

-- the first of the commands that are still to be drawn
pub next_drawn : (size done x : ℕ) → done < size
    → drawn_commands (size - done) x ≡ command_of (next_number x) ∷ drawn_commands (size - (done + 1)) (next_number x)
next_drawn size done x h =
    let e : size - done ≡ suc (size - (done + 1)) = omega arith in
    ap (λ n. drawn_commands n x) e

drawn_onto : (setup : List Command) (size done x : ℕ) → done < size
    → (setup ++ command_of (next_number x) ∷ []) ++ drawn_commands (size - (done + 1)) (next_number x)
    ≡ setup ++ drawn_commands (size - done) x
drawn_onto setup size done x h =
    append_assoc setup (command_of (next_number x) ∷ []) (drawn_commands (size - (done + 1)) (next_number x))
    ∙ ap (λ cs. setup ++ cs) (sym (next_drawn size done x h))

-- what was drawn so far, with one command more, before what is still to be drawn
pub one_more : (setup setup' : List Command) (command : Command) (size done x y : ℕ) → done < size
    → y ≡ next_number x → command ≡ command_of y → setup' ≡ setup ++ command ∷ []
    → setup' ++ drawn_commands (size - (done + 1)) y ≡ setup ++ drawn_commands (size - done) x
one_more setup setup' command size done x y h drawn said longer =
    ap (λ cs. cs ++ drawn_commands (size - (done + 1)) y) longer
    ∙ ap (λ c. (setup ++ c ∷ []) ++ drawn_commands (size - (done + 1)) y) said
    ∙ ap (λ z. (setup ++ command_of z ∷ []) ++ drawn_commands (size - (done + 1)) z) drawn
    ∙ drawn_onto setup size done x h
