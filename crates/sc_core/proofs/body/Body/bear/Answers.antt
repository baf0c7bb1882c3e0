use Rattle.std.proofs.Common.{◌≡◌, ◌-◌, ◌∷◌, ◌++◌, [], None, option_map, slice_get, slice_set, ap, sym, subst, arith, ◌∙◌}
use Rattle.std.proofs.lemmas.List.{length-set}
use Rattle.std.proofs.lemmas.Option.{same_Some}
use Rattle.sc_rooms.specs.Rooms.{RoomyOf, place_of}
use Rattle.sc_types.specs.declared.host.SessionImage.{SessionImage}
use Rattle.sc_core.specs.Bodies.{marked, session_image}
use Rattle.sc_machine.specs.Cues.{is_ready}
use Rattle.sc_core.specs.declared.session.Session.{Session}
use Rattle.sc_core.proofs.SetLemmas.{bear_makes, image_at, newest_at}
use Rattle.sc_core.proofs.body.Body.bear.Goals as goal

pub returns-clause-makes : goal.returns-clause-makes
returns-clause-makes g c =
    let h = c.args.self.now in
    let place = c.args.invoker in
    let s = c.item_mut.result.now in
    let old = h.sessions.items in
    let at = c.item_mut.ensures.value in
    let child = c.requires.invoker in
    let named : child.0 ≡ s.state.session =
    same_Some child.0 s.state.session (sym child.2
    ∙ ap (λ o. option_map (λ (x : SessionImage). x.state.session) o) (image_at old place s at)) in
    let grown : Session = record s { children = c.push.new.self } in
    let long = length-set old place grown in
    bear_makes h c.args.session s grown place child.0 _ _ c.requires.agrees c.len-place.ensures.distinct at
    (ap (λ (q : RoomyOf _). record s { children = q }) (c.push.ensures
    ∙ ap (λ n. record { items = s.children.items ++ n ∷ []; spare = s.children.spare - 1 }) c.len-place.ensures.items)) (record {
      names = c.add.ensures.names ∙ ap (λ n. h.sessions.names ++ n ∷ []) (sym c.requires.name);
      items = c.add.ensures.items;
      spare = omega (arith, c.add.ensures.spare);
      places = c.mark.ensures.places ∙ ap (λ b. marked b c.len-place.result h.ready.places) c.is_ready.ensures
          ∙ ap (λ n. marked (is_ready (session_image c.args.session)) n h.ready.places) (c.len-place.ensures.items ∙ sym long);
      ready_spare = c.mark.ensures.room;
    }) (subst (λ n. place_of n h.sessions.names ≡ None) (sym c.requires.name) c.requires.new) child.1 named
    c.requires.children

pub returns-clause-newest : goal.returns-clause-newest
returns-clause-newest g c =
    let old = c.args.self.now.sessions.items in
    let grown : Session = record c.item_mut.result.now { children = c.push.new.self } in
    ap (λ n. slice_get c.add.new.self.items n) (sym (length-set old c.args.invoker grown))
    ∙ newest_at _ (slice_set old c.args.invoker grown) c.args.session c.add.ensures.items
