-- The end of a session: all states are exited, and then a final under the root gives its data.
use Rattle.std.proofs.Common.{◌≡◌, ℕ, ◌==◌, ◌&&◌, Bool, true, false, cond, Some, None, Result, Ok, Err, IfOk, List, [], ◌∷◌, filter, find, refl, ap, sym, ◌∙◌}
use Rattle.sc_types.specs.declared.chart.Chart.{Chart}
use Rattle.sc_types.specs.declared.event.Data.TheVariants.{Absent}
use Rattle.sc_law.specs.Configurations.{parent_of}
use Rattle.sc_law.specs.Entering.{done_data}
use Rattle.sc_law.specs.Kinds.{is_final}
use Rattle.sc_law.specs.Leaving.{leave_all}
use Rattle.sc_law.specs.Runs.{Running}
use Rattle.sc_law.specs.Tree.{root}
use Rattle.sc_law.specs.Turn.{exit_all, final_data}

-- what follows of a value that a call gave
pub if_value : {X E : Type 0} (r : Result X E) (P Q : X → Type 0) → IfOk r P → ((x : X) → P x → Q x) → IfOk r Q
if_value (Ok x) P Q h f = f x h
if_value (Err e) P Q h f = tt

final-some : (c : Chart) (test : ℕ → Bool) (ss : List ℕ) (s : ℕ) (r : Running) → Some s ≡ find test ss
    → final_data c (filter test ss) r ≡ done_data c s r
final-some c test [] s r e = absurd (cc)
final-some c test (t ∷ ss) s r e = by (test t) e (final-some c test ss s r) where
  by : (v : Bool) → Some s ≡ cond v (Some t) (find test ss)
      → (Some s ≡ find test ss → final_data c (filter test ss) r ≡ done_data c s r)
      → final_data c (cond v (t ∷ filter test ss) (filter test ss)) r ≡ done_data c s r
  by true e so = let same : t ≡ s = cc in ap (λ n. done_data c n r) same
  by false e so = so e

final-none : (c : Chart) (test : ℕ → Bool) (ss : List ℕ) (r : Running) → None ≡ find test ss
    → final_data c (filter test ss) r ≡ (Absent, r)
final-none c test [] r e = refl
final-none c test (t ∷ ss) r e = by (test t) e (final-none c test ss r) where
  by : (v : Bool) → None ≡ cond v (Some t) (find test ss)
      → (None ≡ find test ss → final_data c (filter test ss) r ≡ (Absent, r))
      → final_data c (cond v (t ∷ filter test ss) (filter test ss)) r ≡ (Absent, r)
  by true e so = absurd (cc)
  by false e so = so e

abbrev pub is_top_final : Chart → ℕ → Bool
is_top_final c s = is_final c s && parent_of c s == root c

left-all : (c : Chart) (r left : Running) (ss : List ℕ) → ss ≡ r.env.configuration → left ≡ leave_all c ss r
    → exit_all c r ≡ final_data c (filter (is_top_final c) ss) left
left-all c r left ss e l =
    ap (λ ns. final_data c (filter (is_top_final c) ns) (leave_all c ns r)) (sym e)
    ∙ ap (final_data c (filter (is_top_final c) ss)) (sym l)

-- the first final under the root gives its data
pub ended-some : (c : Chart) (r left : Running) (ss : List ℕ) (s : ℕ) → ss ≡ r.env.configuration
    → left ≡ leave_all c ss r
    → Some s ≡ find (is_top_final c) ss → exit_all c r ≡ done_data c s left
ended-some c r left ss s e l f = left-all c r left ss e l ∙ final-some c (is_top_final c) ss s left f

-- without one there are none
pub ended-none : (c : Chart) (r left : Running) (ss : List ℕ) → ss ≡ r.env.configuration → left ≡ leave_all c ss r
    → None ≡ find (is_top_final c) ss → exit_all c r ≡ (Absent, left)
ended-none c r left ss e l f = left-all c r left ss e l ∙ final-none c (is_top_final c) ss left f
