use Rattle.std.proofs.Common.{◌≡◌, None, Some, [], false, get_or, ap, sym, refl, arith, ◌∙◌}
use Rattle.std.proofs.lemmas.List.{get_or_read_under}
use Rattle.sc_law.specs.Nodes.{leads_on}
use Rattle.sc_tables.specs.Nearest.{path_at}
use Rattle.sc_tables.proofs.Above.{IsNext, next-parent}
use Rattle.sc_tables.proofs.nearest.nearest.Goals as goal

pub loop-next-preserved : goal.loop-next-preserved
loop-next-preserved c =
    let paths = c.args.paths.now in
    let n = c.in-Some.number in
    let h : IsNext paths c.args.count c.args.path.now (Some n) = rw c.in-Some.is at c.loop-next.invariant in
    let here : c.slice.result.now ≡ path_at paths n =
    c.slice.ensures ∙ get_or_read_under paths n _ _ [] c.index-paths-number.is (omega (arith, h.0, c.requires.placed.within)) refl in
    let fails : leads_on (path_at paths n) c.args.path.now ≡ false =
    ap (λ p. leads_on p c.args.path.now) (sym here) ∙ sym c.leads_on.ensures ∙ c.if-leads_on.false in
    next-parent paths c.args.count n c.args.path.now (get_or c.args.parents.now n None) c.requires.placed h.0 fails h.1
    (c.requires.parents.each n (omega (arith, h.0)))
