use Rattle.std.proofs.Common.{◌≡◌, Some, IfOk, OnErr, sym, subst, rules}
use Rattle.sc_dev.specs.Causes.{Rose}
use Rattle.sc_top.specs.Journals.{disk_known}
use Rattle.sc_top.specs.Promise.{Leaves, Says, initialised, known, other_words}
use Rattle.sc_top.specs.Sayings.{status_of, text_of}
use Rattle.sc_words.specs.declared.asked.Asked.TheVariants.{Check, Gen, Init, Show}
use Rattle.sc_top.proofs.SayingLemmas.{check_says, drawn_leaves, drawn_says, show_says}
use Rattle.sc_top.proofs.program.saying_of.Goals as goal

pub returns-in-None-clause-says : goal.returns-in-None-clause-says
returns-in-None-clause-says g c = other_words c.in-None.is

pub returns-in-Some-Init-clause-says : goal.returns-in-Some-Init-clause-says
returns-in-Some-Init-clause-says g c =
    let is : c.args.asked ≡ Some Init = search rules in
    initialised _ _ is c.init.ensures

pub returns-in-Some-Show-clause-says : goal.returns-in-Some-Show-clause-says
returns-in-Some-Show-clause-says g c =
    let is : c.args.asked ≡ Some Show = search rules in
    let faults = g.S.Source.faults c.args.source.now in
    let k = known (g.S.Source.left c.args.source.now) (Rose faults faults)
    (disk_known g.D.Disk.law c.args.disk.now c.show.new.disk) in
    subst (λ a. IfOk c.show.result (λ s. Says a k (status_of s) (text_of s))) (sym is) (show_says k c.show.result c.show.ensures.ok)

pub returns-in-Some-Check-clause-says : goal.returns-in-Some-Check-clause-says
returns-in-Some-Check-clause-says g c =
    let is : c.args.asked ≡ Some Check = search rules in
    let k = known (g.S.Source.left c.args.source.now)
    (Rose (g.S.Source.faults c.args.source.now) (g.S.Source.faults c.check.new.source))
    (disk_known g.D.Disk.law c.args.disk.now c.args.disk.now) in
    subst (λ a. IfOk c.check.result (λ s. Says a k (status_of s) (text_of s))) (sym is)
    (check_says k c.check.result c.check.ensures.says)

pub returns-in-Some-Gen-clause-says : goal.returns-in-Some-Gen-clause-says
returns-in-Some-Gen-clause-says g c =
    let number = c.in-Some-Gen.number in
    let size = c.in-Some-Gen.size in
    let is : c.args.asked ≡ Some (Gen number size) = search rules in
    let faults = g.S.Source.faults c.args.source.now in
    let k = known (g.S.Source.left c.args.source.now) (Rose faults faults)
    (disk_known g.D.Disk.law c.args.disk.now c.draw.new.disk) in
    subst (λ a. IfOk c.draw.result (λ s. Says a k (status_of s) (text_of s))) (sym is)
    (drawn_says number size k c.draw.result c.draw.ensures.ok)

pub returns-in-Some-Gen-clause-left : goal.returns-in-Some-Gen-clause-left
returns-in-Some-Gen-clause-left g c =
    let number = c.in-Some-Gen.number in
    let size = c.in-Some-Gen.size in
    let is : c.args.asked ≡ Some (Gen number size) = search rules in
    let faults = g.S.Source.faults c.args.source.now in
    let k = known (g.S.Source.left c.args.source.now) (Rose faults faults)
    (disk_known g.D.Disk.law c.args.disk.now c.draw.new.disk) in
    subst (λ a. OnErr c.draw.result (Leaves a k)) (sym is) (drawn_leaves number size k c.draw.result c.draw.ensures.err)
