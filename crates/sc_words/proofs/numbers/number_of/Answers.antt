use Rattle.std.proofs.Common.{◌∙◌}
use Rattle.sc_words.proofs.NumberLemmas.{parsed}
use Rattle.sc_words.proofs.numbers.number_of.Goals as goal

pub returns : goal.returns
returns c = c.ok.ensures.value ∙ parsed c.args.text.now c.parse.result c.parse.ensures.value.0
