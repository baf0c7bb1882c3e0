use Rattle.std.proofs.Common.{◌≡◌, ◌∙◌, Result, Ok, Err, sym, ap}
use Rattle.sc_journal.proofs.Held.{held-holds}
use Rattle.sc_journal.proofs.journal.Journal.open.Goals as goal

same : {A E : Type 0} (x y : A) → ◌≡◌ {A = Result A E} (Ok x) (Ok y) → x ≡ y
same x y e = cc

other : {A E : Type 0} (x : A) (y : E) → ◌≡◌ {A = Result A E} (Ok x) (Err y) → ⊥
other x y e = cc

pub returns-in-Ok-clause-whole : goal.returns-in-Ok-clause-whole
returns-in-Ok-clause-whole g c = λ told head bodies holds.
    let text = (g.D.Disk.law.reads c.args.disk).journal in
    let read = held-holds head bodies text holds in
    let first : c.in-Ok.loaded.found.first ≡ head.first = same _ _ (sym (c.in-Ok.ensures.first told) ∙ read.0) in
    let all : c.in-Ok.loaded.found.bodies ≡ bodies = same _ _ (sym (c.in-Ok.ensures.bodies told) ∙ read.1) in
    (c.opened.ensures.first ∙ first, c.opened.ensures.bodies ∙ all)

pub returns-in-Err-clause-whole : goal.returns-in-Err-clause-whole
returns-in-Err-clause-whole g c = λ told head bodies holds at e.
    let read = held-holds head bodies (g.D.Disk.law.reads c.args.disk).journal holds in
    other _ _ (sym read.1 ∙ c.in-Err.ensures.damaged told at (ap Err e))
