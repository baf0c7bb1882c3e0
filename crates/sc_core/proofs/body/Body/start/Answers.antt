use Rattle.std.proofs.Common.{◌≡◌, None, ◌∷◌, ◌++◌, [], ap, sym, subst, arith, ◌∙◌}
use Rattle.sc_rooms.specs.Rooms.{place_of}
use Rattle.sc_core.specs.Bodies.{marked, session_image}
use Rattle.sc_machine.specs.Cues.{is_ready}
use Rattle.sc_core.proofs.SetLemmas.{newest_at, start_makes}
use Rattle.sc_core.proofs.body.Body.start.Goals as goal

pub returns-clause-makes : goal.returns-clause-makes
returns-clause-makes g c =
    let h = c.args.self.now in
    start_makes h c.args.session _ _ c.requires.agrees (record {
      names = c.add.ensures.names ∙ ap (λ n. h.sessions.names ++ n ∷ []) (sym c.requires.name);
      items = c.add.ensures.items;
      spare = omega (arith, c.add.ensures.spare);
      places = c.mark.ensures.places ∙ ap (λ b. marked b c.len.result h.ready.places) c.is_ready.ensures
          ∙ ap (λ n. marked (is_ready (session_image c.args.session)) n h.ready.places) c.len.ensures.items;
      ready_spare = c.mark.ensures.room;
    }) (subst (λ n. place_of n h.sessions.names ≡ None) (sym c.requires.name) c.requires.new) c.requires.invoker
    c.requires.children

pub returns-clause-newest : goal.returns-clause-newest
returns-clause-newest g c = newest_at _ c.args.self.now.sessions.items c.args.session c.add.ensures.items
