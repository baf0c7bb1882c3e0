-- The table of commands, as the program tells it to `clap`, and what `clap` says of words by it.
use Rattle.std.proofs.Common.{◌≡◌, ◌≢◌, true, List, [], refl, ap, ap₂, sym, subst, ◌∙◌, codes, inl, inr}
use Rattle.clap.specs.Words.{App, HasKind, Text, app_of, fault_of, is_simple, is_simple_and_free, kind_of, new_app, shape_of, subcommand_of, with_subcommand}
use Rattle.clap.specs.Simple.{app_of_fields}
use Rattle.clap.specs.declared.builder.command.Command.{Command}
use Rattle.clap.specs.declared.builder.command.Command.TheOpen.{Command-F}
use Rattle.clap.specs.declared.builder.command.Command.TheViews.{out-Command}
use Rattle.clap.specs.declared.error.Error.{Error}
use Rattle.clap.specs.declared.error.kind.ErrorKind.TheVariants.{OutOfMemory}
use Rattle.clap.proofs.OnLiterals.{clap_on_literals}
use Rattle.sc_words.specs.Commands.{IsCommand, IsLocal}
use Rattle.sc_words.specs.Table.{bare_app, chosen, faults, the_app}

-- ---- the table

module _ (a b c : Command) (unnamed : out-Command b ≡ record (out-Command a) { no_binary_name = true })
    (wanted : out-Command c ≡ record (out-Command b) { subcommand_required = true }) where
  settings : out-Command c ≡ record (out-Command a) { no_binary_name = true; subcommand_required = true }
  settings = wanted ∙ ap (λ (f : Command-F Command). record f { subcommand_required = true }) unnamed

  pub bare_is : app_of a ≡ new_app (codes "charthost") → IsLocal a → IsCommand bare_app c
  bare_is e l = record {
    app = ap app_of_fields settings
        ∙ ap (λ (t : App). record t { top = record t.top { no_binary_name = true; subcommand_required = true } }) e;
    local = ap (λ (f : Command-F Command). f.has_globals) settings ∙ l;
  }

-- a command with one more below it
pub joined_is : (top sub all : Command) (a b : App) → IsCommand (with_subcommand (app_of top) (shape_of sub)) all
    → app_of top ≡ a → app_of sub ≡ b → IsCommand (with_subcommand a b.top) all
joined_is top sub all a b h e f = record {
  app = h.app ∙ ap₂ with_subcommand e (ap (λ (t : App). t.top) f);
  local = h.local;
}

-- ---- the words

is_free : is_simple_and_free the_app ≡ true
unfolding clap_on_literals
is_free = refl

is_plain : is_simple the_app ≡ true
unfolding clap_on_literals
is_plain = refl

faults_of : (c : Command) (words : List Text) → app_of c ≡ the_app → faults words ≡ fault_of (app_of c) words
unfolding faults
faults_of c words e = ap (λ (a : App). fault_of a words) (sym e)

chosen_of : (c : Command) (words : List Text) → app_of c ≡ the_app → subcommand_of (app_of c) words ≡ chosen words
unfolding chosen
chosen_of c words e = ap (λ (a : App). subcommand_of a words) e

pub free_is : (c : Command) → app_of c ≡ the_app → is_simple_and_free (app_of c) ≡ true
free_is c e = ap is_simple_and_free e ∙ is_free

pub plain_is : (c : Command) → app_of c ≡ the_app → is_simple (app_of c) ≡ true
plain_is c e = ap is_simple e ∙ is_plain

-- words without a fault are taken
pub no_fault : (c : Command) (words : List Text) → app_of c ≡ the_app → fault_of (app_of c) words ≡ [] → faults words ≡ []
no_fault c words e none = faults_of c words e ∙ none

pub choice : (c : Command) (words : List Text) (o : _) → app_of c ≡ the_app → o ≡ subcommand_of (app_of c) words → o ≡ chosen words
choice c words o e h = h ∙ chosen_of c words e

-- words with an error other than for memory have a fault
pub has_fault : (c : Command) (words : List Text) (error : Error) → app_of c ≡ the_app
    → HasKind (fault_of (app_of c) words) error → kind_of error ≢ OutOfMemory → faults words ≢ []
has_fault c words error e h n none =
    elim (subst (λ ks. HasKind ks error) (sym (faults_of c words e) ∙ none) h) [ inl m ↦ n m | inr b ↦ b ]
