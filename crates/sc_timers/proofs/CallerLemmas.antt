-- For callers of `add`: the numbers of the pending sends stay below the next number.
use Rattle.std.proofs.Common.{ℕ, ◌<◌, ◌≤◌, zero, suc, Bool, true, false, cond, filter, List, [], ◌∷◌, arith}
use Rattle.std.specs.Prelude.{All}
use Rattle.sc_types.specs.declared.host.TimerImage.{TimerImage}
use Rattle.sc_types.specs.Sends.{is_before, with_send}

abbrev pub AreBelow : ℕ → List TimerImage → Type 0
AreBelow n ss = All (λ (s : TimerImage). s.number < n) ss

-- no sends have numbers below any number
pub below-none : (n : ℕ) → AreBelow n []
below-none n k d b = absurd (omega arith)

below-cons : (n : ℕ) (t : TimerImage) (ss : List TimerImage) → t.number < n → AreBelow n ss → AreBelow n (t ∷ ss)
below-cons n t ss h a zero d b = h
below-cons n t ss h a (suc k) d b = a k d (omega arith)

-- also what `take_due` leaves
pub below-rest : (n : ℕ) (t : TimerImage) (ss : List TimerImage) → AreBelow n (t ∷ ss) → AreBelow n ss
below-rest n t ss a k d b = a (suc k) d (omega arith)

-- a send whose number is below keeps the numbers below when it is added
pub below-with_send : (n : ℕ) (t : TimerImage) (ss : List TimerImage) → t.number < n → AreBelow n ss
    → AreBelow n (with_send t ss)
below-with_send n t [] h a = below-cons n t [] h a
below-with_send n t (s ∷ ss) h a = by (is_before t s) (below-with_send n t ss h (below-rest n s ss a))
  where
    by : (v : Bool) → AreBelow n (with_send t ss) → AreBelow n (cond v (t ∷ s ∷ ss) (s ∷ with_send t ss))
    by true rest = below-cons n t (s ∷ ss) h a
    by false rest = below-cons n s (with_send t ss) (a 0 s (omega arith)) rest

-- also what a cancel leaves
pub below-filter : (n : ℕ) (test : TimerImage → Bool) (ss : List TimerImage) → AreBelow n ss
    → AreBelow n (filter test ss)
below-filter n test [] a = a
below-filter n test (s ∷ ss) a = by (test s) (below-filter n test ss (below-rest n s ss a))
  where
    by : (v : Bool) → AreBelow n (filter test ss) → AreBelow n (cond v (s ∷ filter test ss) (filter test ss))
    by true rest = below-cons n s (filter test ss) (a 0 s (omega arith)) rest
    by false rest = rest
