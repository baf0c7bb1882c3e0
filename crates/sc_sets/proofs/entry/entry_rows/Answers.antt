use Rattle.std.proofs.Common.{◌≡◌, [], drop, arith, ap, sym, subst, ◌∙◌}
use Rattle.std.proofs.Math.ListN.{drop_of_length-le}
use Rattle.sc_base.specs.Folds.{each}
use Rattle.sc_law.specs.Entry.{EntryTriple, entry, entry_of}
use Rattle.sc_sets.specs.Triples.{triple_of}
use Rattle.sc_law.specs.Sets.{Histories}
use Rattle.sc_sets.proofs.Union.Conditions.{AreTaken}
use Rattle.sc_sets.proofs.Union.Law.{union-law}
use Rattle.sc_sets.proofs.Union.Taken.{kept-taken}
use Rattle.sc_sets.proofs.entry.entry_rows.Goals as goal

-- src/entry.rt:43:1
pub returns-clause-union : goal.returns-clause-union
unfolding entry
returns-clause-union c configuration kept recorded =
    let over : drop c.loop-tr.tr-index c.args.trs.now ≡ [] = drop_of_length-le c.args.trs.now (omega (arith, c.loop-tr-test.false)) in
    let same : triple_of c.loop-tr.e ≡ entry c.args.t.now c.args.before.now c.args.h.now c.args.trs.now =
    sym (ap (λ ts. each (entry_of c.args.t.now c.args.before.now c.args.h.now) ts (triple_of c.loop-tr.e)) over) ∙ c.loop-tr.invariant.rest in
    let taken : AreTaken c.args.t.now c.args.before.now c.args.h.now c.args.trs.now =
    subst (λ (h : Histories). AreTaken c.args.t.now c.args.before.now h c.args.trs.now) (sym recorded)
    (kept-taken c.args.t.now c.args.before.now configuration c.args.trs.now kept) in
    ap (λ (x : EntryTriple). x.states) same ∙ union-law c.args.t.now c.args.before.now c.args.h.now c.args.trs.now taken
