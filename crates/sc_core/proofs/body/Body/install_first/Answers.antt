use Rattle.std.proofs.Common.{◌++◌, ap}
use Rattle.sc_core.specs.ChangeLists.{first_of}
use Rattle.sc_core.proofs.InstallLemmas.{one_installed}
use Rattle.sc_core.proofs.body.Body.install_first.Goals as goal

pub returns-in-Some : goal.returns-in-Some
returns-in-Some g c = record {
  installs = λ whole rest h l.
      one_installed whole (first_of c.args.first ++ rest) c.in-Some.change rest h c.args.self.now c.change.new.self
      (ap (λ o. first_of o ++ rest) c.in-Some.is) l c.change.ensures.makes c.change.ensures.newest c.change.ensures.charts;
}
