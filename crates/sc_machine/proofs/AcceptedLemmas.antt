-- What a refusal leaves as it was, what an accepted command counts, and what the accepted commands of a history make alone.
use Rattle.std.proofs.Common.{◌≡◌, ◌≤◌, ◌+◌, ℕ, Bool, true, false, if◌then◌else◌, List, [], ◌∷◌, ◌++◌, length, refl, sym, ap, subst, ◌∙◌, arith}
use Rattle.sc_types.specs.declared.command.Command.{Command}
use Rattle.sc_types.specs.declared.command.Refusal.{Refusal}
use Rattle.sc_types.specs.declared.history.Entry.{Entry}
use Rattle.sc_types.specs.declared.host.HostImage.{HostImage}
use Rattle.sc_types.specs.declared.host.SessionImage.{SessionImage}
use Rattle.sc_types.specs.declared.session.Cue.{Cue}
use Rattle.sc_law.specs.Turn.{TurnResult, turn}
use Rattle.sc_machine.specs.Accepted.{AreAccepted, accepted_commands, after, is_accepted}
use Rattle.sc_machine.specs.Commands.{Answer, advance, answer, put_in, refused, step_turn}
use Rattle.sc_machine.specs.Deliveries.{deliver_all, fire_all}
use Rattle.sc_machine.specs.Endings.{end_at}
use Rattle.sc_machine.specs.Histories.{IsLegal, replay}
use Rattle.sc_machine.specs.Hosts.{chart_named, with_session}
use Rattle.sc_machine.proofs.ChangeLemmas.{Change, cancels, change_of, installs, posts, refuses, starts, ticks, turns}
use Rattle.sc_machine.proofs.MoveLemmas.{all_fire, all_move, commands_moves, due_in, end_moves, ticked}

-- ---- one command

-- what a refused command does to a host: nothing
pub record ChangesNothing (g : HostImage) (a : Answer) : Type 0 where
  pub host : a.host ≡ g
  pub logs : a.logs ≡ []
  pub sent : a.sent ≡ []

never : {T : Type 0} (b : Bool) → b ≡ true → b ≡ false → T
never b granted denied = absurd (let both : true ≡ false = sym granted ∙ denied in cc)

replied : (a b : Answer) → a ≡ b → is_accepted a.reply ≡ is_accepted b.reply
replied a b is = ap (λ (x : Answer). is_accepted x.reply) is

refused_in : (g : HostImage) (c : Command) (a : Answer) → Change g c a → is_accepted a.reply ≡ false
    → (why : Refusal) × (a ≡ refused g why)
refused_in g c a (refuses why is) denied = (why, is)
refused_in g c a (installs name text chart command legal is) denied = never (is_accepted a.reply) (replied a _ is) denied
refused_in g c a (starts session chart command has new is) denied = never (is_accepted a.reply) (replied a _ is) denied
refused_in g c a (posts session name pairs place s command found is) denied = never (is_accepted a.reply) (replied a _ is) denied
refused_in g c a (ticks n now command within is) denied = never (is_accepted a.reply) (replied a _ is) denied
refused_in g c a (cancels session place s command found is) denied = never (is_accepted a.reply) (replied a _ is) denied
refused_in g c a (turns session place s cue command found has is) denied = never (is_accepted a.reply) (replied a _ is) denied

-- a command that is not accepted is refused for some cause
pub refusal_of : (g : HostImage) (c : Command) → is_accepted (answer g c).reply ≡ false
    → (why : Refusal) × (answer g c ≡ refused g why)
refusal_of g c denied = refused_in g c (answer g c) (change_of g c) denied

-- a refused command changes nothing, and neither logs nor sends
pub refused_changes_nothing : (g : HostImage) (c : Command) → is_accepted (answer g c).reply ≡ false
    → ChangesNothing g (answer g c)
refused_changes_nothing g c denied =
    let refusal = refusal_of g c denied in
    subst (ChangesNothing g) (sym refusal.1) (record { host = refl; logs = refl; sent = refl })

-- a turn, and what goes with it, leaves the count but for the command itself
turn_counts : (g : HostImage) (place : ℕ) (s : SessionImage) (cue : Cue) (t : TurnResult)
    → (step_turn g place s cue t).host.commands ≡ g.commands + 1
turn_counts g place s cue t =
    let put = with_session g place (put_in s cue t) in
    let m = (deliver_all put place t.effects).host in
    ap (λ n. n + 1)
    (commands_moves m (end_at m place).host _ (end_moves m place) ∙ commands_moves put m _ (all_move put place t.effects))

-- and so do the sends that come due
tick_counts : (g : HostImage) (now : ℕ) → (advance g now).host.commands ≡ g.commands + 1
tick_counts g now =
    let m = ticked g now in
    ap (λ n. n + 1) (commands_moves m (fire_all m (due_in g now)).host _ (all_fire m (due_in g now)))

counted : (a b : Answer) → a ≡ b → a.host.commands ≡ b.host.commands
counted a b is = ap (λ (x : Answer). x.host.commands) is

counts_in : (g : HostImage) (c : Command) (a : Answer) → Change g c a → is_accepted a.reply ≡ true
    → a.host.commands ≡ g.commands + 1
counts_in g c a (refuses why is) granted = never (is_accepted a.reply) granted (replied a (refused g why) is)
counts_in g c a (installs name text chart command legal is) granted = counted a _ is
counts_in g c a (starts session chart command has new is) granted = counted a _ is
counts_in g c a (posts session name pairs place s command found is) granted = counted a _ is
counts_in g c a (ticks n now command within is) granted = counted a (advance g now) is ∙ tick_counts g now
counts_in g c a (cancels session place s command found is) granted = counted a _ is
counts_in g c a (turns session place s cue command found has is) granted =
    let t = turn (chart_named g s.state.chart) s.state cue in
    counted a (step_turn g place s cue t) is ∙ turn_counts g place s cue t

-- an accepted command is counted once
pub accepted_counts_one : (g : HostImage) (c : Command) → is_accepted (answer g c).reply ≡ true
    → (answer g c).host.commands ≡ g.commands + 1
accepted_counts_one g c granted = counts_in g c (answer g c) (change_of g c) granted

-- ---- lists of commands

-- more commands follow where the ones before end
pub after_append : (g : HostImage) (cs ds : List Command) → after g (cs ++ ds) ≡ after (after g cs) ds
after_append g [] ds = refl
after_append g (c ∷ cs) ds = after_append (answer g c).host cs ds

-- accepted commands may follow accepted ones
pub accepted_more : (g : HostImage) (cs ds : List Command) → AreAccepted g cs → AreAccepted (after g cs) ds
    → AreAccepted g (cs ++ ds)
accepted_more g [] ds are more = more
accepted_more g (c ∷ cs) ds are more = (are.0, accepted_more (answer g c).host cs ds are.1 more)

-- the first of accepted commands are accepted, and so are the rest behind them
pub accepted_parts : (g : HostImage) (cs ds : List Command) → AreAccepted g (cs ++ ds)
    → AreAccepted g cs × AreAccepted (after g cs) ds
accepted_parts g [] ds are = (tt, are)
accepted_parts g (c ∷ cs) ds are =
    let parts = accepted_parts (answer g c).host cs ds are.1 in ((are.0, parts.0), parts.1)

-- accepted commands are counted, each once
pub after_counts : (g : HostImage) (cs : List Command) → AreAccepted g cs
    → (after g cs).commands ≡ g.commands + length cs
after_counts g [] are = omega arith
after_counts g (c ∷ cs) are =
    let next = (answer g c).host in
    let rest : (after next cs).commands ≡ next.commands + length cs = after_counts next cs are.1 in
    let one : next.commands ≡ g.commands + 1 = accepted_counts_one g c are.0 in
    omega (arith, rest, one)

-- ---- the accepted commands of a history

-- those of two histories in a row
pub accepted_append : (es fs : List Entry)
    → accepted_commands (es ++ fs) ≡ accepted_commands es ++ accepted_commands fs
accepted_append [] fs = refl
accepted_append (e ∷ es) fs = by (is_accepted e.reply) (accepted_append es fs)
  where
    by : (b : Bool) → accepted_commands (es ++ fs) ≡ accepted_commands es ++ accepted_commands fs
        → (if b then e.command ∷ accepted_commands (es ++ fs) else accepted_commands (es ++ fs))
        ≡ (if b then e.command ∷ accepted_commands es else accepted_commands es) ++ accepted_commands fs
    by true rest = ap (λ cs. e.command ∷ cs) rest
    by false rest = rest

-- there are no more of them than entries
pub accepted_few : (es : List Entry) → length (accepted_commands es) ≤ length es
accepted_few [] = omega arith
accepted_few (e ∷ es) = by (is_accepted e.reply) (accepted_few es)
  where
    by : (b : Bool) → length (accepted_commands es) ≤ length es
        → length (if b then e.command ∷ accepted_commands es else accepted_commands es) ≤ length (e ∷ es)
    by true rest = omega (arith, rest)
    by false rest = omega (arith, rest)

-- ---- legal histories

-- a history goes on where the one before it ends
pub replay_append : (g : HostImage) (es fs : List Entry) → replay g (es ++ fs) ≡ replay (replay g es) fs
replay_append g [] fs = refl
replay_append g (e ∷ es) fs = replay_append (answer g e.command).host es fs

-- a legal history may follow a legal one
pub legal_more : (g : HostImage) (es fs : List Entry) → IsLegal g es → IsLegal (replay g es) fs → IsLegal g (es ++ fs)
legal_more g [] fs legal more = more
legal_more g (e ∷ es) fs legal more = (legal.0, legal_more (answer g e.command).host es fs legal.1 more)

-- the first entries of a legal history are one, and so are the rest behind them
pub legal_parts : (g : HostImage) (es fs : List Entry) → IsLegal g (es ++ fs) → IsLegal g es × IsLegal (replay g es) fs
legal_parts g [] fs legal = (tt, legal)
legal_parts g (e ∷ es) fs legal =
    let parts = legal_parts (answer g e.command).host es fs legal.1 in ((legal.0, parts.0), parts.1)

-- the accepted commands of a legal history are accepted, one by one
pub legal_accepted : (g : HostImage) (es : List Entry) → IsLegal g es → AreAccepted g (accepted_commands es)
legal_accepted g [] legal = tt
legal_accepted g (e ∷ es) legal = by (is_accepted e.reply) refl (legal_accepted (answer g e.command).host es legal.1)
  where
    by : (b : Bool) → is_accepted e.reply ≡ b → AreAccepted (answer g e.command).host (accepted_commands es)
        → AreAccepted g (if b then e.command ∷ accepted_commands es else accepted_commands es)
    by true is rest = (sym (ap is_accepted legal.0.reply) ∙ is, rest)
    by false is rest =
        subst (λ h. AreAccepted h (accepted_commands es))
        (refused_changes_nothing g e.command (sym (ap is_accepted legal.0.reply) ∙ is)).host rest

-- the host that a legal history leaves is the one that its accepted commands make alone
pub replay_is_after : (g : HostImage) (es : List Entry) → IsLegal g es → replay g es ≡ after g (accepted_commands es)
replay_is_after g [] legal = refl
replay_is_after g (e ∷ es) legal = by (is_accepted e.reply) refl (replay_is_after (answer g e.command).host es legal.1)
  where
    by : (b : Bool) → is_accepted e.reply ≡ b
        → replay (answer g e.command).host es ≡ after (answer g e.command).host (accepted_commands es)
        → replay (answer g e.command).host es
        ≡ after g (if b then e.command ∷ accepted_commands es else accepted_commands es)
    by true is rest = rest
    by false is rest =
        rest ∙ ap (λ h. after h (accepted_commands es))
        (refused_changes_nothing g e.command (sym (ap is_accepted legal.0.reply) ∙ is)).host

-- it counts them
pub replay_counts : (g : HostImage) (es : List Entry) → IsLegal g es
    → (replay g es).commands ≡ g.commands + length (accepted_commands es)
replay_counts g es legal =
    ap (λ (h : HostImage). h.commands) (replay_is_after g es legal)
    ∙ after_counts g (accepted_commands es) (legal_accepted g es legal)
