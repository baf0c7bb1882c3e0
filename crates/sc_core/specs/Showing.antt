-- How a history shows its entries. This host's own rule.
use Rattle.std.specs.Prelude.{ℕ, List, []}
use Rattle.sc_types.specs.declared.command.Command.TheVariants.{Post, Step}
use Rattle.sc_types.specs.declared.command.Reply.TheVariants.{Posted, Stepped}
use Rattle.sc_types.specs.declared.history.Entry.{Entry}
use Rattle.sc_types.specs.declared.history.Who.{Who}
use Rattle.sc_types.specs.declared.session.CueName.{CueName}
use Rattle.sc_core.specs.declared.kept.Shown.{Shown}
use Rattle.sc_core.specs.declared.kept.Shown.TheVariants as shown

-- the entry of a post without data
abbrev pub posted_entry : Who → List ℕ → List ℕ → ℕ → Entry
posted_entry who session event number = record {
  reply = Posted number;
  who = who;
  command = Post session event [];
  logs = [];
  sent = [];
}

-- the entry of a step that neither logs nor sends
abbrev pub stepped_entry : Who → List ℕ → CueName → Entry
stepped_entry who session cue = record {
  reply = Stepped cue;
  who = who;
  command = Step session;
  logs = [];
  sent = [];
}

-- the entry that is shown
abbrev pub shown_entry : Shown → Entry
shown_entry (shown.Posted who session event number) = posted_entry who session.now event.now number
shown_entry (shown.Stepped who session cue) = stepped_entry who session.now cue
shown_entry (shown.Whole entry) = entry.now
