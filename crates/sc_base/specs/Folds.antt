-- Steps over a list. This host's own rule, for "for each .. in" of SCXML Appendix D.
use Rattle.std.specs.Prelude.{List, [], ◌∷◌}

-- what a step makes of a state at each item, from the first on
abbrev pub each : {A S : Type 0} → (A → S → S) → List A → S → S
each step [] s = s
each step (x ∷ xs) s = each step xs (step x s)
