-- What a whole turn computes with.
use Rattle.std.proofs.Common.{ℕ}
use Rattle.std.specs.Fmt.{digits}
use Rattle.std.specs.Str.{is_utf8, chars}
use lib.Utf8 as utf8
use Rattle.sc_types.specs.Delays.{delay_of}
use Rattle.sc_types.specs.Descriptors.{piece_matches}
use Rattle.sc_law.specs.Content.{exec, run_block}
use Rattle.sc_law.specs.Data.{set, declare, first_data}
use Rattle.sc_law.specs.Entering.{is_in_final, enter_state}
use Rattle.sc_law.specs.Entry.{down, entry, first_entry}
use Rattle.sc_law.specs.Invokes.{start_invokes, finalize}
use Rattle.sc_law.specs.Leaving.{leave, exit_states}
use Rattle.sc_law.specs.Microstep.{microstep}
use Rattle.sc_law.specs.Outcomes.{holds}
use Rattle.sc_law.specs.Records.{record_all}
use Rattle.sc_law.specs.Selection.{select}
use Rattle.sc_law.specs.Sending.{send}
use Rattle.sc_law.specs.Sets.{domain, exit_set}
use Rattle.sc_law.specs.Turn.{next, settle, turn}
use Rattle.sc_law_facts.proofs.Opened.{opened}

unfoldable pub turning : ℕ
unfolding opened digits is_utf8 chars utf8.encode delay_of piece_matches exec run_block set declare first_data is_in_final enter_state down entry first_entry start_invokes finalize leave exit_states microstep holds record_all select send domain exit_set next settle turn
turning = 0
