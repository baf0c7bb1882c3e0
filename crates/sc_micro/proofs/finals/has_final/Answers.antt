use Rattle.std.proofs.Common.{ℕ, Bool, ◌&&◌, ap, sym, ◌∙◌}
use Rattle.std.specs.List.{list_any}
use Rattle.sc_base.specs.Ascending.{contains}
use Rattle.sc_bits.specs.Rows.{RowOf}
use Rattle.sc_law.specs.Kinds.{is_final}
use Rattle.sc_sets.proofs.Members.{all_from}
use Rattle.sc_micro.proofs.FinalLemmas.{any-end, any-here, any-next}
use Rattle.sc_micro.proofs.finals.has_final.Goals as goal

pub loop-child-init : goal.loop-child-init
loop-child-init c =
    ap (list_any (λ a. contains c.args.conf.now.members a && is_final c.args.t.now a))
    (all_from c.children-children.result.now.members)

pub returns-then-is_active_final : goal.returns-then-is_active_final
returns-then-is_active_final c =
    let test : ℕ → Bool = λ a. contains c.args.conf.now.members a && is_final c.args.t.now a in
    any-here test c.children-children.result.now.members c.children-children.result.now.width c.loop-child.from
    c.in-Some.child
    c.in-Some.ensures.form c.in-Some.ensures.value c.in-Some.ensures.within.0
    (sym c.is_active_final.ensures ∙ c.if-is_active_final.true)
    ∙ c.loop-child.invariant ∙ ap (λ (r : RowOf). list_any test r.members) c.children-children.ensures

pub loop-child-preserved : goal.loop-child-preserved
loop-child-preserved c =
    let test : ℕ → Bool = λ a. contains c.args.conf.now.members a && is_final c.args.t.now a in
    any-next test c.children-children.result.now.members c.children-children.result.now.width c.loop-child.from
    c.in-Some.child
    c.in-Some.ensures.form c.in-Some.ensures.value c.in-Some.ensures.within.0
    (sym c.is_active_final.ensures ∙ c.if-is_active_final.false)
    ∙ c.loop-child.invariant

pub returns : goal.returns
returns c =
    let test : ℕ → Bool = λ a. contains c.args.conf.now.members a && is_final c.args.t.now a in
    any-end test c.children-children.result.now.members c.loop-child.from c.in_default.ensures.value
    ∙ c.loop-child.invariant ∙ ap (λ (r : RowOf). list_any test r.members) c.children-children.ensures
