use Rattle.std.proofs.Common.{◌++◌, ap}
use Rattle.sc_core.specs.ChangeLists.{taken_of}
use Rattle.sc_core.specs.declared.change.Change.TheVariants.{TakeFront}
use Rattle.sc_core.proofs.InstallLemmas.{one_installed}
use Rattle.sc_core.proofs.body.Body.install_taken.Goals as goal

pub returns-in-Some : goal.returns-in-Some
returns-in-Some g c = record {
  installs = λ whole rest h l.
      one_installed whole (taken_of c.args.taken ++ rest) (TakeFront c.in-Some.place) rest h c.args.self.now
      c.take_front.new.self (ap (λ o. taken_of o ++ rest) c.in-Some.is) l c.take_front.ensures.makes tt
      c.take_front.ensures.charts;
}
