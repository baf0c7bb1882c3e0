use Rattle.std.proofs.Common.{nat_le, ap, sym, slice_get, ◌∙◌}
use Rattle.std.proofs.lemmas.List.Folds.{find_at}
use Rattle.sc_rooms.proofs.places.Places.next.Goals as goal

pub returns-clause-value : goal.returns-clause-value
returns-clause-value c = rw (← c.self.view_is)
    (c.member_at.ensures ∙ ap (slice_get c.self.inside.places.items) c.rank.ensures.value
    ∙ sym (find_at (λ place. nat_le c.args.from place) c.self.inside.places.items))
