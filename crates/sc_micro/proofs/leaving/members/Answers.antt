use Rattle.std.proofs.Common.{List, ℕ, ◌<◌, ◌++◌, All, ap, arith, subst, sym, ◌∙◌}
use Rattle.std.proofs.lemmas.List.Elements.{All-nil, All-push, All-same}
use Rattle.sc_law.specs.Tree.{state_count}
use Rattle.sc_sets.proofs.Members.{all_from, from_on}
use Rattle.sc_micro.proofs.LeaveLemmas.{member-end, member-next}
use Rattle.sc_micro.proofs.leaving.members.Goals as goal

pub loop-member-init : goal.loop-member-init
loop-member-init c = record {
  rest = ap (λ (xs : List ℕ). xs ++ from_on 0 c.args.row.now.members) c.new-members.ensures
      ∙ all_from c.args.row.now.members;
  within = subst (λ (ms : List ℕ). All (λ m. m < state_count c.args.t.now) ms) (sym c.new-members.ensures)
      (All-nil (λ (m : ℕ). m < state_count c.args.t.now));
}

pub loop-member-preserved : goal.loop-member-preserved
loop-member-preserved c =
    let less : c.in-Some.member < state_count c.args.t.now = omega (arith, c.in-Some.ensures.within.1, c.requires) in
    record {
      rest = member-next c.loop-member.members c.push.new.self c.args.row.now.members c.args.row.now.width
          c.loop-member.from c.in-Some.member
          c.in-Some.ensures.form c.in-Some.ensures.value c.in-Some.ensures.within.0 c.in_ok-push.ensures.ok
          ∙ c.loop-member.invariant.rest;
      within = All-same (λ (m : ℕ). m < state_count c.args.t.now) c.push.new.self _ c.in_ok-push.ensures.ok
          (All-push (λ (m : ℕ). m < state_count c.args.t.now) c.loop-member.members c.in-Some.member
          c.loop-member.invariant.within less);
    }

pub returns-clause-value : goal.returns-clause-value
returns-clause-value c =
    sym (member-end c.loop-member.members c.args.row.now.members c.loop-member.from c.in_default.ensures.value)
    ∙ c.loop-member.invariant.rest
