-- The body of a command that a host accepts is short enough for an entry of the journal.
use Rattle.std.proofs.Common.{◌≡◌, ◌≤◌, ◌+◌, ℕ, true, List, arith, length, subst, sym}
use Rattle.sc_book.specs.Books.{opening}
use Rattle.sc_book.specs.Confirming.{FitsEntry, has_fitting_values}
use Rattle.sc_codec.specs.Bodies.{IsEncodable, body_of, pairs_field}
use Rattle.sc_codec.proofs.Lengths.{length-cancel, length-install, length-post, length-start, length-step, length-tick, pairs_light}
use Rattle.sc_machine.specs.Accepted.{is_accepted}
use Rattle.sc_machine.specs.Commands.{answer, weight_of}
use Rattle.sc_types.specs.Values.{weight}
use Rattle.sc_machine.specs.Histories.{replay}
use Rattle.sc_machine.specs.Hosts.{empty_host}
use Rattle.sc_machine.proofs.LengthLemmas.{AreShort, IsWithinLimits, accepted_within, short_after, short_empty, short_replay}
use Rattle.sc_types.proofs.ValueLemmas.{weight-Bool, weight-Int, weight-List, weight-Text}
use Rattle.sc_types.specs.declared.command.Command.{Command}
use Rattle.sc_types.specs.declared.command.Command.TheVariants.{Cancel, Install, Post, Start, Step, Tick}
use Rattle.sc_types.specs.declared.history.Entry.{Entry}
use Rattle.sc_types.specs.declared.host.HostImage.{HostImage}
use Rattle.sc_types.specs.declared.value.Value.{Value}

-- the pairs of a post have no more bytes than 2 and what they weigh
pairs_short : (pairs : List (List ℕ × Value)) → length (pairs_field pairs) ≤ 2 + weight_of pairs
pairs_short pairs =
    pairs_light weight (λ b. omega (arith, weight-Bool b)) (λ n. omega (arith, weight-Int n))
    (λ text. omega (arith, weight-Text text)) (λ items. omega (arith, weight-List items)) pairs

-- a command within the limits of the host has a body, where its values have
within_encodable : (c : Command) → IsWithinLimits c → has_fitting_values c ≡ true → IsEncodable c
within_encodable (Install name text) within fits = (omega (arith, within.0), omega (arith, within.1))
within_encodable (Start session chart) within fits = (omega (arith, within.0), omega (arith, within.1))
within_encodable (Post session name pairs) within fits = (
  omega (arith, within.0),
  (omega (arith, within.1.0), record { count = omega (arith, within.1.1.0); values = fits }),
)
within_encodable (Tick ticks) within fits = tt
within_encodable (Cancel session) within fits = omega (arith, within)
within_encodable (Step session) within fits = omega (arith, within)

-- and the body is short
within_short : (c : Command) → IsWithinLimits c → length (body_of c) ≤ 2097152
within_short (Install name text) within = omega (arith, within.0, within.1, length-install name text)
within_short (Start session chart) within = omega (arith, within.0, within.1, length-start session chart)
within_short (Post session name pairs) within =
    omega (arith, within.0, within.1.0, within.1.1.1, length-post session name pairs, pairs_short pairs)
within_short (Tick ticks) within = omega (arith, length-tick ticks)
within_short (Cancel session) within = omega (arith, within, length-cancel session)
within_short (Step session) within = omega (arith, within, length-step session)

-- the host of a book accepts only commands with a body for an entry, where their values are within their limits
pub accepted_fits : (past : List Command) (history : List Entry) (g : HostImage) (c : Command)
    → g ≡ replay (opening past) history → is_accepted (answer g c).reply ≡ true → FitsEntry c
accepted_fits past history g c is granted =
    let kept = short_replay (opening past) history (short_after empty_host past short_empty) in
    let short = subst (λ (h : HostImage). AreShort h.sessions) (sym is) kept in
    let within = accepted_within g c short granted in
    record { encodable = within_encodable c within; most = within_short c within }
