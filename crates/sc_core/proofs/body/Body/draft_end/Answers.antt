use Rattle.std.proofs.Common.{ap, ◌∙◌}
use Rattle.sc_core.specs.Bodies.{image}
use Rattle.sc_core.specs.Drafts.{so_far}
use Rattle.sc_machine.specs.Hosts.{is_live}
use Rattle.sc_core.proofs.DraftLemmas.{sender_there}
use Rattle.sc_core.proofs.EndLemmas.{end_none}
use Rattle.sc_core.proofs.RoomLemmas.{on_ok}
use Rattle.sc_core.proofs.body.Body.draft_end.Goals as goal

pub returns-in-Ended : goal.returns-in-Ended
returns-in-Ended g c = on_ok c.draft_over.result _ _ c.draft_over.ensures (λ ends h t sender. ends h t sender c.in-Ended.is)

pub returns-in-Fresh : goal.returns-in-Fresh
returns-in-Fresh g c = λ h t sender.
    let found = sender_there (image c.args.self.now) c.args.place c.args.after.now h c.args.draft.now t sender in
    end_none (so_far h c.args.draft.now) c.args.place t c.args.draft.now sender.there
    (ap is_live (found.is.phase ∙ c.in-Fresh.is))

pub returns-in-Running : goal.returns-in-Running
returns-in-Running g c = λ h t sender.
    let found = sender_there (image c.args.self.now) c.args.place c.args.after.now h c.args.draft.now t sender in
    end_none (so_far h c.args.draft.now) c.args.place t c.args.draft.now sender.there
    (ap is_live (found.is.phase ∙ c.in-Running.is))
