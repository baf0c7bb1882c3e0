use Rattle.std.proofs.Common.{◌∙◌, sym, arith}
use Rattle.sc_names.proofs.PieceLemmas.{matches-last, matches-next, or-no, or-yes, solid-more}
use Rattle.sc_names.proofs.text.matches.Goals as goal
use Rattle.sc_names.proofs.text.matches.Goals.{then-is_white_space+else-is_match, else-is_white_space}

pub returns-then-is_match : goal.returns-then-is_match
returns-then-is_match c = or-yes _ _ _
    (sym c.loop-i.invariant.rest ∙ matches-next c.loop-i.start c.loop-i.i c.args.list.now c.args.name.now
    c.loop-i.invariant.within c.loop-i-test.true c.loop-i.invariant.solid (sym c.if-is_white_space.ensures))
    (sym c.if-is_match.ensures)

pub loop-i-preserved : goal.loop-i-preserved
loop-i-preserved c =
    elim c.if-is_white_space.branch [
      | then-is_white_space+else-is_match w ↦ rw w.start-is record {
        within = omega arith;
        solid = λ k a b. absurd (omega arith);
        rest = or-no _ _ _
            (sym c.loop-i.invariant.rest ∙ matches-next c.loop-i.start c.loop-i.i c.args.list.now c.args.name.now
            c.loop-i.invariant.within c.loop-i-test.true c.loop-i.invariant.solid (sym w.if-is_white_space.ensures))
            (sym w.if-is_match.ensures);
      }
      | else-is_white_space w ↦ rw w.start-is record {
        within = omega arith;
        solid = solid-more c.loop-i.start c.loop-i.i c.args.list.now c.loop-i.invariant.solid (sym w.if-is_white_space.ensures);
        rest = c.loop-i.invariant.rest;
      }
    ]

pub returns : goal.returns
returns c = c.is_match-2.ensures
    ∙ sym (matches-last c.loop-i.start c.args.list.now c.args.name.now (λ k a b. c.loop-i.invariant.solid k a (omega arith)))
    ∙ c.loop-i.invariant.rest
