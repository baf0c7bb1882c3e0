use Rattle.std.proofs.Common.{◌∙◌, ap}
use Rattle.sc_journal.specs.Texts.{has_open_header}
use Rattle.sc_journal.proofs.NewTexts.{header-front}
use Rattle.sc_journal.proofs.making.reads_open_header.Goals as goal

pub returns-clause-header : goal.returns-clause-header
returns-clause-header g c = λ told.
    c.has_open_header.ensures ∙ ap has_open_header (c.in_ok-count.ensures.bytes told) ∙ header-front (g.D.Disk.law.reads c.args.disk.now).journal
