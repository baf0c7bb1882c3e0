use Rattle.std.proofs.Common.{nat_le, ap, sym, slice_get, ◌∙◌}
use Rattle.std.proofs.lemmas.List.Folds.{find_at}
use Rattle.sc_rooms.proofs.PlaceLemmas.{has-found, has-unfound}
use Rattle.sc_rooms.proofs.places.is_member.Goals as goal

pub returns-in-Some : goal.returns-in-Some
returns-in-Some c =
    let items = c.args.places.now.items in
    has-found c.args.place 0 items c.in-Some.member c.requires.ascending
    (find_at (λ member. nat_le c.args.place member) items ∙ ap (slice_get items) (sym c.requires.rank)
    ∙ sym c.member_at.ensures ∙ c.in-Some.is)

pub returns-in-None : goal.returns-in-None
returns-in-None c =
    let items = c.args.places.now.items in
    sym (has-unfound c.args.place items
    (find_at (λ member. nat_le c.args.place member) items ∙ ap (slice_get items) (sym c.requires.rank)
    ∙ sym c.member_at.ensures ∙ c.in-None.is))
