use Rattle.std.proofs.Common.{◌≡◌, ◌++◌, drop, option_map}
use Rattle.sc_law.specs.Sending.{names_of}
use Rattle.sc_eval.specs.Envs.{env_of}
use Rattle.sc_exec.proofs.event_data.named_pairs.Given as goal

abbrev pub invariant-loop-name : goal.invariant-loop-name
invariant-loop-name l =
    option_map (λ rest. l.pairs ++ rest) (names_of (drop l.name-index l.names) (env_of l.env))
    ≡ names_of l.names (env_of l.env)
