use Rattle.sc_script.proofs.DrawnLemmas.{session_word}
use Rattle.sc_script.proofs.generator.session.Goals as goal

pub word-requires : goal.word-requires
word-requires c = session_word c.args.place c.requires
