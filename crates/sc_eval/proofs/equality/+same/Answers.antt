use Rattle.std.proofs.Common.{rules, sym}
use Rattle.sc_eval.proofs.Same.{same-Bool, same-Int, same-Text, same-List, same_lists-lengths}
use Rattle.sc_eval.proofs.equality.+same.Goals as goal

pub same_lists-returns-then-a-b : goal.same_lists-returns-then-a-b
same_lists-returns-then-a-b t c = sym (same_lists-lengths c.args.a.now c.args.b.now c.if-a-b.true)

pub same_value-returns-in-Bool-Bool : goal.same_value-returns-in-Bool-Bool
same_value-returns-in-Bool-Bool t c =
    rw (c.in-Bool-Bool.is-0, c.in-Bool-Bool.is-1) (sym (same-Bool c.in-Bool-Bool.a c.in-Bool-Bool.b))

pub same_value-returns-in-Int-Int : goal.same_value-returns-in-Int-Int
same_value-returns-in-Int-Int t c =
    rw (c.in-Int-Int.is-0, c.in-Int-Int.is-1, same-Int c.in-Int-Int.a c.in-Int-Int.b) (search rules)

pub same_value-returns-in-Text-Text : goal.same_value-returns-in-Text-Text
same_value-returns-in-Text-Text t c =
    rw (c.in-Text-Text.is-0, c.in-Text-Text.is-1, same-Text c.in-Text-Text.a c.in-Text-Text.b) (search rules)

pub same_value-returns-in-List-List : goal.same_value-returns-in-List-List
same_value-returns-in-List-List t c =
    rw (c.in-List-List.is-0, c.in-List-List.is-1, same-List c.in-List-List.a c.in-List-List.b) (search rules)
