-- The timers as contracts see them. This host's own rule.
use Rattle.std.specs.Prelude.{ℕ, List}
use Rattle.sc_types.specs.declared.host.TimerImage.{TimerImage}

-- the pending sends in due order, and for how many more there is room
pub record TimersOf : Type 0 where
  pub sends : List TimerImage
  pub spare : ℕ
