-- What a command uses of the source and the disk. This host's own rule.
use Rattle.std.specs.Prelude.{ℕ, ◌+◌, Bool, false, true, Option, Some}
use Rattle.sc_types.specs.declared.limits.TheConstants.{CHART_TEXT_LIMIT, SCRIPT_TEXT_LIMIT}
use Rattle.sc_words.specs.declared.asked.Asked.{Asked}
use Rattle.sc_words.specs.declared.asked.Asked.TheVariants.{Init, Run, Show, Check, Gen}

-- how many bytes are read of the source, at most: one more than the text may have, so that one that is too long is seen
abbrev pub most_read : Option Asked → ℕ
most_read (Some (Run workers budget)) = SCRIPT_TEXT_LIMIT + 1
most_read (Some Check) = CHART_TEXT_LIMIT + 1
most_read asked = 0

-- whether the journal is used
abbrev pub uses_journal : Option Asked → Bool
uses_journal (Some Init) = true
uses_journal (Some (Run workers budget)) = true
uses_journal (Some Show) = true
uses_journal (Some (Gen number size)) = true
uses_journal asked = false
