-- Elements one after another.
use Rattle.std.proofs.Common.{◌≡◌, ℕ, suc, ◌+◌, ◌-◌, ◌<◌, ◌≤◌, List, ◌∷◌, map, take, drop, length, get_or, slice_range, Err, ap, ap₂, sym, ◌∙◌, arith, add-one, drop-cons}
use Rattle.sc_base.specs.declared.failure.Failure.{Failure}
use Rattle.sc_base.specs.declared.failure.Failure.TheVariants.{Fault, NoMemory}
use Rattle.sc_types.specs.declared.chart.Node.{Node}
use Rattle.sc_law.specs.Content.{part, run_parts}
use Rattle.sc_law.specs.Outcomes.{Outcome, on_done}
use Rattle.sc_law.specs.Runs.{Running as PlainRunning}
use Rattle.sc_exec.specs.Runs.{Does}
use Rattle.sc_exec.specs.declared.running.Running.{Running}

-- the elements of a range are its first, and those behind it
range_step : (nodes : List Node) (i j : ℕ) (n : Node) → i < j → j ≤ length nodes → n ≡ get_or nodes i n
    → slice_range nodes i j ≡ n ∷ slice_range nodes (i + 1) j
range_step nodes i j n below within is =
    let inside : i < length nodes = omega arith in
    let count : j - i ≡ suc (j - (i + 1)) = omega arith in
    ap₂ (λ (m : ℕ) (ns : List Node). take m ns) count (drop-cons nodes i n inside)
    ∙ ap₂ (λ (x : Node) (k : ℕ). x ∷ take (j - (i + 1)) (drop k nodes)) (sym is) (sym (add-one i))

-- what they do is what the first does, and then the others
pub step_parts : (nodes : List Node) (i j : ℕ) (n : Node) (r : PlainRunning) → i < j → j ≤ length nodes → n ≡ get_or nodes i n
    → run_parts (map part (slice_range nodes i j)) r
    ≡ on_done (run_parts (map part (slice_range nodes (i + 1) j))) ((part n).runs r)
step_parts nodes i j n r below within is = ap (λ (ns : List Node). run_parts (map part ns) r) (range_step nodes i j n below within is)

-- a fault goes past what would come behind it
pub fault_passes : (e : Failure (List ℕ)) (run : Running) (f : PlainRunning → Outcome) (o : Outcome) → Does (Err e) run o → Does (Err e) run (on_done f o)
fault_passes (Fault sendid) run f o h = ap (on_done f) h
fault_passes NoMemory run f o h = h
