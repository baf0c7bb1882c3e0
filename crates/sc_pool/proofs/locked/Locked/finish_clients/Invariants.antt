use Rattle.std.specs.Prelude.{ℕ, ◌<◌, ◌≡◌, length, slice_get}
use Rattle.sc_pool.specs.Clients.{IsMade}
use Rattle.sc_pool.proofs.locked.Locked.finish_clients.Given as goal

abbrev pub invariant-loop-place : goal.invariant-loop-place
invariant-loop-place g l =
    ((other : ℕ) → other < l.place → IsMade (slice_get l.self.clients other)) × (length l.self.clients ≡ length l.fn.self.clients)
