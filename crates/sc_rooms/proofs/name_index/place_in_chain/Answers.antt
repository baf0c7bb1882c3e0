use Rattle.std.proofs.Common.{◌-◌, arith, map, length, ◌<◌}
use Rattle.std.proofs.lemmas.List.{length-map}
use Rattle.sc_rooms.proofs.ChainLemmas.{search-starts, search-goes_on, name-true, name-false}
use Rattle.sc_rooms.proofs.name_index.place_in_chain.Goals as goal

pub loop-at-init : goal.loop-at-init
loop-at-init g c =
    let names = map g.T.HasName.name c.args.items.now in
    search-starts names c.args.name.now c.args.end
    (rw (length-map c.args.items.now g.T.HasName.name) c.requires.end)

pub returns-then-is_name : goal.returns-then-is_name
returns-then-is_name g c =
    let place : c.loop-at.at - 1 < length c.args.items.now =
    omega (arith, c.loop-at.invariant.within, length-map c.args.items.now g.T.HasName.name, c.loop-at-test.true) in
    record {
      within = omega (arith, place, length-map c.args.items.now g.T.HasName.name);
      named = name-true g.T.HasName.name c.args.items.now c.args.name.now c.index-items-place.result
          (c.loop-at.at - 1) place c.index-items-place.is c.if-is_name.ensures;
    }

pub loop-at-preserved : goal.loop-at-preserved
loop-at-preserved g c =
    let place : c.loop-at.at - 1 < length c.args.items.now =
    omega (arith, c.loop-at.invariant.within, length-map c.args.items.now g.T.HasName.name, c.loop-at-test.true) in
    search-goes_on (map g.T.HasName.name c.args.items.now) c.args.earlier.now c.args.name.now c.loop-at.at
    c.requires.chained c.loop-at.invariant c.loop-at-test.true
    (name-false g.T.HasName.name c.args.items.now c.args.name.now c.index-items-place.result (c.loop-at.at - 1) place
    c.index-items-place.is c.if-is_name.ensures)
