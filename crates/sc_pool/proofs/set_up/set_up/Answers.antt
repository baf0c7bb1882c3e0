use Rattle.std.proofs.Common.{◌≡◌, List, ◌∷◌, subst, rules}
use Rattle.std.proofs.lemmas.Result.{err_from_is_err_and}
use Rattle.sc_types.specs.declared.command.Command.{Command}
use Rattle.sc_pool.specs.SetUps.{MakesPart}
use Rattle.sc_pool.specs.Books.{seen_of}
use Rattle.sc_pool.proofs.SetUpLemmas.{cut_set_up, more_set_up, nothing_set_up}
use Rattle.sc_pool.proofs.set_up.set_up.Goals as goal

pub loop-command-init : goal.loop-command-init
loop-command-init g c =
    let seen = (seen_of g.D.Disk.law) c.args.book.now in
    let all : c.args.commands ≡ c.new-left.result = search rules in
    subst (λ (xs : List Command). MakesPart c.args.commands xs seen seen) all (nothing_set_up c.args.commands seen)

pub loop-command-preserved : goal.loop-command-preserved
loop-command-preserved g c =
    let seen = (seen_of g.D.Disk.law) in
    let first = c.in-Some.command in
    let rest = c.take_first.new.self in
    let here : c.loop-command.left ≡ first ∷ rest = c.in-Some.ensures in
    more_set_up c.args.commands first rest (seen c.args.book.now) (seen c.loop-command.book) (seen c.answer.new.book)
    (subst (λ (xs : List Command). MakesPart c.args.commands xs (seen c.args.book.now) (seen c.loop-command.book)) here
    c.loop-command.invariant)
    c.in_ok-answer.ensures.ok c.in_ok-answer.ensures.goes_on

pub returns-in_err-answer : goal.returns-in_err-answer
returns-in_err-answer g c =
    let p = err_from_is_err_and c.from_residual.result c.from_residual.ensures.1 in
    let seen = (seen_of g.D.Disk.law) in
    let first = c.in-Some.command in
    let rest = c.take_first.new.self in
    let here : c.loop-command.left ≡ first ∷ rest = c.in-Some.ensures in
    rw (p.1, p.2) (cut_set_up c.args.commands first rest c.in_err-answer.field-0.0 (seen c.args.book.now) (seen c.loop-command.book)
    (seen c.answer.new.book)
    (subst (λ (xs : List Command). MakesPart c.args.commands xs (seen c.args.book.now) (seen c.loop-command.book)) here
    c.loop-command.invariant)
    c.in_err-answer.ensures.err c.in_err-answer.ensures.goes_on)
