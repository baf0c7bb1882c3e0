use Rattle.std.proofs.Common.{◌∙◌, ap, take}
use Rattle.sc_types.specs.Delays.{are_digits}
use Rattle.sc_expr.proofs.DelayLemmas.{digits_front}
use Rattle.sc_expr.proofs.delay.seconds.Goals as goal

pub seconds_of-requires : goal.seconds_of-requires
seconds_of-requires c = ap (λ n. are_digits (take n c.args.text.now)) c.digits_len-length.ensures ∙ digits_front c.args.text.now
