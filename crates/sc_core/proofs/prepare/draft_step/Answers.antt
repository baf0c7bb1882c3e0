use Rattle.std.proofs.Common.{Ok, subst}
use Rattle.sc_core.specs.Bodies.{image}
use Rattle.sc_core.specs.Preparing.{IsNext}
use Rattle.sc_core.proofs.DraftLemmas.{each_ok}
use Rattle.sc_machine.proofs.FoundLemmas.{is_at}
use Rattle.sc_core.proofs.NextLemmas.{found_fits, step_found}
use Rattle.sc_core.proofs.RoomLemmas.{on_ok}
use Rattle.sc_core.proofs.prepare.draft_step.Goals as goal

pub returns-in-Ok-clause-step : goal.returns-in-Ok-clause-step
returns-in-Ok-clause-step g c =
    let h = image c.args.body.now in
    let name = c.args.session.now in
    let next : IsNext h name (Ok (c.in-Ok.place, c.in-Ok.cue)) = subst (IsNext h name) c.in-Ok.is c.in_ok-place.ensures in
    each_ok (λ p prepared. step_found h name c.in-Ok.place next.0 c.in-Ok.cue p next.1 next.2
    (prepared next.0 (is_at h name c.in-Ok.place next.0 next.1).there)) c.draft_turn.result c.draft_turn.ensures.step

pub returns-in-Ok-clause-fits : goal.returns-in-Ok-clause-fits
returns-in-Ok-clause-fits g c =
    let h = image c.args.body.now in
    let name = c.args.session.now in
    let next : IsNext h name (Ok (c.in-Ok.place, c.in-Ok.cue)) = subst (IsNext h name) c.in-Ok.is c.in_ok-place.ensures in
    on_ok c.draft_turn.result _ _ c.draft_turn.ensures.fits (λ fits. found_fits h name c.in-Ok.place next.0 c.in-Ok.cue next.1
    next.2 (fits next.0 (is_at h name c.in-Ok.place next.0 next.1).there))
