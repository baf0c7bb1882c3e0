use Rattle.std.proofs.Common.{◌≡◌, ◌∙◌, ◌||◌, ℕ, suc, ◌-◌, false, take, arith, ap}
use Rattle.sc_types.specs.declared.chart.Chart.{Chart}
use Rattle.sc_types.specs.declared.chart.Tag.TheVariants as tag_name
use Rattle.sc_law.specs.Nodes.{Path, tag_of, element, is_tag}
use Rattle.sc_law.specs.Legality.{is_in_finalize}
use Rattle.sc_valid.proofs.index.ChartIndex.is_in_finalize.Goals as goal

-- where the next element above is no finalize, one stands above that element or none does
next_above : (c : Chart) (n m : ℕ) (path : Path) → n ≡ suc m → is_tag tag_name.Finalize (tag_of (element c (take m path))) ≡ false
    → is_in_finalize c n path ≡ is_in_finalize c m path
next_above c n m path count other = ap (λ k. is_in_finalize c k path) count ∙ ap (λ b. b || is_in_finalize c m path) other

pub loop-count-preserved : goal.loop-count-preserved
loop-count-preserved c =
    let next = next_above c.args.self.now c.loop-count.count (c.loop-count.count - 1) c.args.path.now (omega arith) cc in
    record { within = omega arith; above = cc }
