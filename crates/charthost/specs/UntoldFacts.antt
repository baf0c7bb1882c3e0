-- Facts on a disk that tells nothing: the laws of a disk hold of it. No clause cites them.
use Rattle.std.proofs.Common.{arith}
use Rattle.sc_dev.specs.Disks.{Fits}
use Rattle.charthost.specs.Untold.{untold}

pub fits_untold : Fits untold
fits_untold = record { journal = omega arith; slot_a = omega arith; slot_b = omega arith }
