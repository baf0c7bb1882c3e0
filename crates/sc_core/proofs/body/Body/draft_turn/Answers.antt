use Rattle.std.proofs.Common.{List, ◌≡◌, ◌∷◌, [], ◌++◌, ◌≤◌, option_map, length, refl, arith, sym, subst, ap, ◌∙◌}
use Rattle.std.proofs.lemmas.Option.{same_Some, slice_get_within}
use Rattle.sc_types.specs.declared.command.Reply.TheVariants.{Stepped}
use Rattle.std.specs.List.{AllByRecursion}
use Rattle.sc_types.specs.declared.effect.Effect.{Effect}
use Rattle.sc_types.specs.declared.history.LogLine.{LogLine}
use Rattle.sc_types.specs.declared.host.HostImage.{HostImage}
use Rattle.sc_types.specs.declared.host.SessionImage.{SessionImage}
use Rattle.sc_types.specs.declared.session.SessionState.{SessionState}
use Rattle.sc_law.specs.Turn.{TurnResult}
use Rattle.sc_core.specs.Bodies.{image, session_image}
use Rattle.sc_machine.specs.Commands.{put_in}
use Rattle.sc_core.specs.Drafts.{IsSender}
use Rattle.sc_core.specs.HostStates.{ArePlanned}
use Rattle.sc_core.specs.Installing.{CanApplyAll, IsRoomy, new_rooms}
use Rattle.sc_machine.specs.Hosts.{with_session}
use Rattle.sc_core.specs.Stepping.{put_changes}
use Rattle.sc_core.specs.declared.change.Change.TheVariants.{Count}
use Rattle.sc_core.proofs.DraftLemmas.{some_map}
use Rattle.sc_core.proofs.SetLemmas.{map_long}
use Rattle.sc_core.proofs.TurnedLemmas.{put_base, sender_at, step_changes, step_long, step_none, step_prepared, turn_counted, turn_drafted, turn_sent, turn_whole}
use Rattle.sc_core.proofs.body.Body.draft_turn.Goals as goal

pub returns-clause-step : goal.returns-clause-step
returns-clause-step g c = λ s there.
    let before = image c.args.self.now in
    let place = c.args.place in
    let cue = c.args.cue.now in
    let d = c.in_ok-draft.draft in
    let e = c.draft_end.new.draft in
    let t : TurnResult = c.args.given in
    let parts = c.into_parts-after.ensures in
    let named : t.after.session ≡ s.state.session =
    same_Some t.after.session s.state.session
    (sym c.requires.there ∙ ap (λ o. option_map (λ (x : SessionImage). x.state.session) o) there) in
    let seen : c.get.result.now ≡ t.after = c.get.ensures ∙ ap (λ x. x.0) parts in
    let again : c.get-2.result.now ≡ t.after = c.get-2.ensures ∙ ap (λ x. x.0) parts in
    let given : SessionState × List Effect × List LogLine =
    (c.get.result.now, c.into_parts-after.result.1, c.into_parts-after.result.2) in
    let given_is : given ≡ (t.after, t.effects, t.logs) = λ k. (seen k, (parts k).1, (parts k).2) in
    let drafted = turn_drafted before place s cue d given t given_is there c.requires.numbers
    c.in_ok-draft.ensures.all in
    let base = put_base before place s cue t there c.requires.numbers in
    let sender = sender_at before place t.after (with_session before place (put_in s cue t)) d base drafted.draft
    (slice_get_within before.sessions place s there) in
    let b = with_session before place (put_in s cue t) in
    let ends = c.in_ok-draft_end.ensures b sender.0
    (subst (λ (x : SessionState). IsSender before place x b d sender.0) (sym again) sender.1) in
    let first : c.len-2.result ≡ length before.sessions =
    c.len-2.ensures.items ∙ sym (map_long session_image c.args.self.now.sessions.items) in
    let roomy = subst (λ n. (h : HostImage) → length h.sessions ≡ n → CanApplyAll h e.changes
    → AllByRecursion (IsRoomy n c.in_ok-count.count (new_rooms c.in_ok-more.more)) c.in_ok-more.more) first
    c.in_ok-more.ensures.roomy in
    let more = c.in_ok-more.more in
    let changes = c.of_step.ensures ∙ ap (λ x. put_changes place cue x.0 ++ (more ++ Count ∷ [])) parts in
    let enough : length (step_changes place cue t.after more) ≤ c.in_ok-count.count =
    omega (
      arith,
      step_long place cue t.after e.changes more c.in_ok-more.ensures.alike,
      c.len.ensures,
      c.in_ok-count.ensures,
    ) in
    let whole = turn_whole before place s cue t d e more (length (step_changes place cue t.after more)) c.in_ok-count.count
    there drafted ends c.in_ok-more.ensures.alike enough roomy in
    step_prepared before place s cue t c.in_ok-more.more _ _ there named c.requires.commands refl
    (turn_counted before place s cue t d drafted) whole
    (changes) (ap Stepped c.name_of.ensures) (c.in_ok-new.ensures ∙ ap (λ x. x.2) parts) (turn_sent before place s cue t d e drafted ends)

pub returns-clause-none : goal.returns-clause-none
returns-clause-none g c = λ chart_of.
    let before = image c.args.self.now in
    let place = c.args.place in
    let cue = c.args.cue.now in
    let d = c.in_ok-draft.draft in
    let e = c.draft_end.new.draft in
    let t : TurnResult = c.args.given in
    let parts = c.into_parts-after.ensures in
    let found = some_map _ t.after.session c.requires.there in
    let s = found.0 in
    let there = found.1 in
    let seen : c.get.result.now ≡ t.after = c.get.ensures ∙ ap (λ x. x.0) parts in
    let again : c.get-2.result.now ≡ t.after = c.get-2.ensures ∙ ap (λ x. x.0) parts in
    let given : SessionState × List Effect × List LogLine =
    (c.get.result.now, c.into_parts-after.result.1, c.into_parts-after.result.2) in
    let given_is : given ≡ (t.after, t.effects, t.logs) = λ k. (seen k, (parts k).1, (parts k).2) in
    let drafted = turn_drafted before place s cue d given t given_is there c.requires.numbers
    c.in_ok-draft.ensures.all in
    let base = put_base before place s cue t there c.requires.numbers in
    let b = with_session before place (put_in s cue t) in
    let sender = sender_at before place t.after b d base drafted.draft (slice_get_within before.sessions place s there) in
    let ends = c.in_ok-draft_end.ensures b sender.0
    (subst (λ (x : SessionState). IsSender before place x b d sender.0) (sym again) sender.1) in
    let first : c.len-2.result ≡ length before.sessions =
    c.len-2.ensures.items ∙ sym (map_long session_image c.args.self.now.sessions.items) in
    let roomy = subst (λ n. (h : HostImage) → length h.sessions ≡ n → CanApplyAll h e.changes
    → AllByRecursion (IsRoomy n c.in_ok-count.count (new_rooms c.in_ok-more.more)) c.in_ok-more.more) first
    c.in_ok-more.ensures.roomy in
    let more = c.in_ok-more.more in
    let changes = c.of_step.ensures ∙ ap (λ x. put_changes place cue x.0 ++ (more ++ Count ∷ [])) parts in
    let enough : length (step_changes place cue t.after more) ≤ c.in_ok-count.count =
    omega (
      arith,
      step_long place cue t.after e.changes more c.in_ok-more.ensures.alike,
      c.len.ensures,
      c.in_ok-count.ensures,
    ) in
    let whole = turn_whole before place s cue t d e more (length (step_changes place cue t.after more)) c.in_ok-count.count
    there drafted ends c.in_ok-more.ensures.alike enough roomy in
    subst (ArePlanned chart_of) (sym (changes)) (step_none place cue t.after c.in_ok-more.more whole.none chart_of)
