use Rattle.sc_rooms.proofs.places.Places.has.Goals as goal

pub returns : goal.returns
returns c = rw (← c.self.view_is) c.is_member.ensures
