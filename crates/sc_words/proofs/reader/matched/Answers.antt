use Rattle.std.proofs.Common.{◌∙◌}
use Rattle.sc_words.proofs.TableLemmas.{choice, free_is, has_fault, no_fault, plain_is}
use Rattle.sc_words.proofs.reader.matched.Goals as goal

pub returns-in-Ok : goal.returns-in-Ok
returns-in-Ok c =
    let e = c.in_ok-table.ensures.app in (
      no_fault _ _ e (c.in-Ok.ensures.kinds (free_is _ e)),
      choice _ _ _ e (c.in-Ok.ensures.matches (plain_is _ e)).1,
    )

pub returns : goal.returns
returns c =
    let e = c.in_ok-table.ensures.app in
    has_fault _ _ c.in-Err.error e (c.in-Err.ensures.kinds (free_is _ e)) (λ m. c.in_default.not-OutOfMemory (c.kind.ensures ∙ m))
