use Rattle.std.proofs.Common.{◌+◌, ◌-◌, [], ◌∷◌, ◌++◌, length, get_or, drop, flat_map, refl, arith, length-append, length-drop, length-take}
use Rattle.std.proofs.lemmas.List.Elements.{All-push}
use Rattle.sc_frame.specs.Fields.{number_field}
use Rattle.sc_frame.proofs.FieldLemmas.{length-number_field}
use Rattle.sc_journal.specs.Texts.{HeadOf, IsBody, entry, header}
use Rattle.sc_journal.proofs.Reading.{begun, read-more, read-damaged, read-closed, length-entries, bytes-more, bytes-all}
use Rattle.sc_journal.proofs.text.walk.Goals as goal

pub returns-in_default-clause-damaged : goal.returns-in_default-clause-damaged
returns-in_default-clause-damaged c =
    let i = c.loop-at.invariant in
    read-damaged c.loop-at.number c.loop-at.at c.args.text.now i.bodies _ i.within i.few i.rest c.loop-at-test.true
    c.in_default.ensures.body

pub loop-at-init : goal.loop-at-init
loop-at-init c = begun c.args.text.now c.args.first c.requires.long c.requires.most

pub loop-at-preserved : goal.loop-at-preserved
loop-at-preserved c =
    let i = c.loop-at.invariant in
    let text = c.args.text.now in
    let at = c.loop-at.at in
    let body = c.in-Some.body.now in
    let new = i.bodies ++ body ∷ [] in
    let count = length-append i.bodies (body ∷ []) in
    let bytes = length-entries i.bodies body in
    let size = c.in-Some.ensures.size in
    let number = c.in-Some.ensures.number in
    let long = length-drop (at + 1) text in
    let part = length-take (length text - (at + 1)) (drop (at + 1) text) in
    record {
      bodies = new;
      within = omega (arith, size.1.1, long, part);
      few = omega (arith, i.few, count);
      end = omega (arith, i.end, bytes);
      counted = omega (arith, i.counted, count);
      last = omega (arith, number);
      read = bytes-more text at i.bodies body _ i.within c.loop-at-test.true refl c.in-Some.ensures.entry i.read;
      sizes = All-push IsBody i.bodies body i.sizes (size.0, size.1.0);
      rest = read-more c.loop-at.number at text i.bodies _ i.within i.few i.rest body c.loop-at-test.true c.in-Some.ensures.body;
    }

pub returns-clause-entries : goal.returns-clause-entries
returns-clause-entries c =
    let i = c.loop-at.invariant in
    let text = c.args.text.now in
    let head : HeadOf = record { format = 1; first = c.args.first } in
    let field = length-number_field 4 1 in
    let last = length-number_field 8 c.args.first in
    record {
      bodies = i.bodies;
      are = read-closed c.loop-at.number c.loop-at.at text i.bodies _ i.within i.few i.rest c.loop-at-test.false;
      many = omega (arith, i.counted);
      last = omega (arith, i.counted, i.last);
      holds = record {
        legal = record { format = refl; some = c.requires.some; first = c.requires.most; last = omega (arith, i.counted, i.last); sizes = i.sizes };
        gate = get_or text c.loop-at.at 0;
        rest = drop (c.loop-at.at + 1) text;
        whole = bytes-all head text c.loop-at.at i.bodies i.within c.requires.header i.read;
        closed = c.loop-at-test.false;
      };
      is_end = omega (
        arith,
        i.end,
        field,
        last,
        length-append (header head) (flat_map entry i.bodies),
        length-append (number_field 4 1) (number_field 8 c.args.first),
      );
      within = i.within;
    }
