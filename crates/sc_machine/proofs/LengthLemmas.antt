-- The names of sessions are short, and so are the parts of each command that the host accepts.
use Rattle.std.proofs.Common.{◌≡◌, ◌≤◌, ℕ, All, Bool, true, false, Option, Some, None, Result, Ok, Err, if◌then◌else◌, nat_lt, List, [], ◌∷◌, arith, get_or, length, refl, slice_get, slice_set, sym, ap, subst}
use Rattle.std.specs.Option.{option_map_or}
use Rattle.std.proofs.lemmas.Bool.Decides.{nat_tests}
use Rattle.std.proofs.lemmas.List.Elements.{All-map, All-push, All-set}
use Rattle.std.proofs.lemmas.Option.{get_or_from_slice_get, slice_get_within}
use Rattle.sc_types.specs.ChartTexts.{fault_of}
use Rattle.sc_types.specs.declared.chart.Chart.{Chart}
use Rattle.sc_types.specs.declared.chart.ChartFault.{ChartFault}
use Rattle.sc_types.specs.declared.command.Command.{Command}
use Rattle.sc_types.specs.declared.command.Command.TheVariants.{Cancel, Install, Post, Start, Step, Tick}
use Rattle.sc_types.specs.declared.command.Refusal.TheVariants as refusal
use Rattle.sc_types.specs.declared.event.Event.{Event}
use Rattle.sc_types.specs.declared.history.Entry.{Entry}
use Rattle.sc_types.specs.declared.host.HostImage.{HostImage}
use Rattle.sc_types.specs.declared.host.SessionImage.{SessionImage}
use Rattle.sc_types.specs.declared.limits.TheConstants.{CHART_TEXT_LIMIT, EVENT_NAME_LIMIT, NAME_LIMIT, PAIR_LIMIT, POST_WEIGHT_LIMIT}
use Rattle.sc_types.specs.declared.value.Value.{Value}
use Rattle.sc_expr.specs.Reading.{expr_of}
use Rattle.sc_law.specs.LegalCharts.{legal_chart_of, legal_or_fault}
use Rattle.sc_law.specs.Turn.{turn}
use Rattle.sc_machine.specs.Accepted.{after, is_accepted}
use Rattle.sc_machine.specs.Commands.{Answer, answer, cancel, fresh_session, install_read, is_too_long, post_found, posted_event, put_in, refused, step, weight_of}
use Rattle.sc_machine.specs.Deliveries.{deliver_all}
use Rattle.sc_machine.specs.Endings.{end_at}
use Rattle.sc_machine.specs.Histories.{replay}
use Rattle.sc_machine.specs.Hosts.{chart_named, empty_host, has_chart, session_named, with_session}
use Rattle.sc_machine.specs.declared.limits.TheConstants.{CHILD_NAME_LIMIT}
use Rattle.sc_machine.proofs.ChangeLemmas.{Change, cancels, change_of, installs, posts, refuses, starts, ticks, turns}
use Rattle.sc_machine.proofs.FoundLemmas.{is_at}
use Rattle.sc_machine.proofs.MoveLemmas.{Gift, Move, Moves, all_fire, all_move, bears, due_in, end_moves, ends, goes, parts, puts, queues, still, ticked}
use Rattle.sc_machine.proofs.TurnLemmas.{turn-of}

-- the name of a session is no longer than that of a child may be
abbrev pub HasShortName : SessionImage → Type 0
HasShortName s = length s.state.session ≤ CHILD_NAME_LIMIT

-- and so is the name of each session
abbrev pub AreShort : List SessionImage → Type 0
AreShort ss = All HasShortName ss

short_at : (ss : List SessionImage) (i : ℕ) (s : SessionImage) → AreShort ss → slice_get ss i ≡ Some s → HasShortName s
short_at ss i s short there =
    subst HasShortName (get_or_from_slice_get ss i s s there) (short i s (slice_get_within ss i s there))

-- a name that finds a session is short
pub short_found : (g : HostImage) (name : List ℕ) (place : ℕ) (s : SessionImage) → AreShort g.sessions
    → session_named g name ≡ Some (place, s) → length name ≤ CHILD_NAME_LIMIT
short_found g name place s short found =
    let at = is_at g name place s found in
    subst (λ n. length n ≤ CHILD_NAME_LIMIT) at.named (short_at g.sessions place s short at.there)

-- ---- the parts of a command that is accepted

-- the parts of a command are within the limits that the host has for them
abbrev pub IsWithinLimits : Command → Type 0
IsWithinLimits (Install name text) = (length name ≤ NAME_LIMIT) × (length text ≤ CHART_TEXT_LIMIT)
IsWithinLimits (Start session chart) = (length session ≤ NAME_LIMIT) × (length chart ≤ NAME_LIMIT)
IsWithinLimits (Post session name pairs) =
    (length session ≤ CHILD_NAME_LIMIT)
    × ((length name ≤ EVENT_NAME_LIMIT) × ((length pairs ≤ PAIR_LIMIT) × (weight_of pairs ≤ POST_WEIGHT_LIMIT)))
IsWithinLimits (Tick n) = Unit {0}
IsWithinLimits (Cancel session) = length session ≤ CHILD_NAME_LIMIT
IsWithinLimits (Step session) = length session ≤ CHILD_NAME_LIMIT

not_over : (limit n : ℕ) → nat_lt limit n ≡ false → n ≤ limit
not_over limit n e = grind (arith, nat_tests)

not_first : (b : Bool) (x : ChartFault) (y : Option ChartFault) → (if b then Some x else y) ≡ None → b ≡ false
not_first false x y none = refl
not_first true x y none = absurd (cc)

no_fault : (text : List ℕ) → fault_of expr_of text ≡ None → length text ≤ CHART_TEXT_LIMIT
unfolding fault_of
no_fault text none =
    not_over CHART_TEXT_LIMIT (length text) (not_first (nat_lt CHART_TEXT_LIMIT (length text)) _ _ none)

spelled_short : (text : List ℕ) (f : Option ChartFault) (c k : Chart) → fault_of expr_of text ≡ f
    → legal_or_fault (option_map_or Err f (Ok c)) ≡ Ok k → length text ≤ CHART_TEXT_LIMIT
spelled_short text None c k none legal = no_fault text none
spelled_short text (Some fault) c k some legal = absurd (cc)

-- a text that spells a legal chart is not too long
pub legal_short : (text : List ℕ) (k : Chart) → legal_chart_of text ≡ Ok k → length text ≤ CHART_TEXT_LIMIT
legal_short text k legal = spelled_short text (fault_of expr_of text) _ k refl legal

install_within : (g : HostImage) (name text : List ℕ) (long taken : Bool) (o : Result Chart ChartFault)
    → is_too_long NAME_LIMIT name ≡ long → legal_chart_of text ≡ o
    → is_accepted (if long then refused g (refusal.TooLong 2)
    else (if taken then refused g refusal.NameTaken else install_read g name text o)).reply ≡ true
    → IsWithinLimits (Install name text)
install_within g name text true taken o fits spells ok = absurd (cc)
install_within g name text false true o fits spells ok = absurd (cc)
install_within g name text false false (Err fault) fits spells ok = absurd (cc)
install_within g name text false false (Ok chart) fits spells ok =
    (not_over NAME_LIMIT (length name) fits, legal_short text chart spells)

start_within : (session chart : List ℕ) (g : HostImage) (a : Answer) (long long_chart : Bool)
    → is_too_long NAME_LIMIT session ≡ long → is_too_long NAME_LIMIT chart ≡ long_chart
    → is_accepted (if long then refused g (refusal.TooLong 1)
    else (if long_chart then refused g (refusal.TooLong 2) else a)).reply ≡ true
    → IsWithinLimits (Start session chart)
start_within session chart g a true long_chart one two ok = absurd (cc)
start_within session chart g a false true one two ok = absurd (cc)
start_within session chart g a false false one two ok =
    (not_over NAME_LIMIT (length session) one, not_over NAME_LIMIT (length chart) two)

posted_within : (g : HostImage) (session : List ℕ) (e : Event) (o : Option (ℕ × SessionImage)) → AreShort g.sessions
    → session_named g session ≡ o → is_accepted (post_found g o e).reply ≡ true → length session ≤ CHILD_NAME_LIMIT
posted_within g session e None short found ok = absurd (cc)
posted_within g session e (Some (place, s)) short found ok = short_found g session place s short found

post_within : (g : HostImage) (session name : List ℕ) (pairs : List (List ℕ × Value)) (long many heavy : Bool)
    → AreShort g.sessions → is_too_long EVENT_NAME_LIMIT name ≡ long → nat_lt PAIR_LIMIT (length pairs) ≡ many
    → nat_lt POST_WEIGHT_LIMIT (weight_of pairs) ≡ heavy
    → is_accepted (if long then refused g (refusal.TooLong 3) else (if many then refused g (refusal.TooLong 4)
    else (if heavy then refused g (refusal.TooLong 5)
    else post_found g (session_named g session) (posted_event name pairs)))).reply ≡ true
    → IsWithinLimits (Post session name pairs)
post_within g session name pairs true many heavy short one two three ok = absurd (cc)
post_within g session name pairs false true heavy short one two three ok = absurd (cc)
post_within g session name pairs false false true short one two three ok = absurd (cc)
post_within g session name pairs false false false short one two three ok =
    let found = posted_within g session (posted_event name pairs) (session_named g session) short refl ok in
    let few = not_over PAIR_LIMIT (length pairs) two in
    let light = not_over POST_WEIGHT_LIMIT (weight_of pairs) three in
    (found, (not_over EVENT_NAME_LIMIT (length name) one, (few, light)))

cancel_within : (g : HostImage) (session : List ℕ) (o : Option (ℕ × SessionImage)) → AreShort g.sessions
    → session_named g session ≡ o → is_accepted (cancel g o).reply ≡ true → length session ≤ CHILD_NAME_LIMIT
cancel_within g session None short found ok = absurd (cc)
cancel_within g session (Some (place, s)) short found ok = short_found g session place s short found

step_within : (g : HostImage) (session : List ℕ) (o : Option (ℕ × SessionImage)) → AreShort g.sessions
    → session_named g session ≡ o → is_accepted (step g o).reply ≡ true → length session ≤ CHILD_NAME_LIMIT
step_within g session None short found ok = absurd (cc)
step_within g session (Some (place, s)) short found ok = short_found g session place s short found

-- the host accepts only commands whose parts are within its limits, where the names of its sessions are short
pub accepted_within : (g : HostImage) (c : Command) → AreShort g.sessions → is_accepted (answer g c).reply ≡ true
    → IsWithinLimits c
unfolding answer
accepted_within g (Install name text) short ok =
    install_within g name text (is_too_long 64 name) (has_chart g name) (legal_chart_of text) refl refl ok
accepted_within g (Start session chart) short ok =
    start_within session chart g _ (is_too_long 64 session) (is_too_long 64 chart) refl refl ok
accepted_within g (Post session name pairs) short ok =
    post_within g session name pairs (is_too_long 256 name) (nat_lt 64 (length pairs))
    (nat_lt 1_048_576 (weight_of pairs)) short refl refl refl ok
accepted_within g (Tick n) short ok = tt
accepted_within g (Cancel session) short ok = cancel_within g session (session_named g session) short refl ok
accepted_within g (Step session) short ok = step_within g session (session_named g session) short refl ok

-- ---- what every command keeps

-- a move leaves the names of the sessions short
pub short_moved : (g h : HostImage) (given : List Gift) → Move g h given → AreShort g.sessions → AreShort h.sessions
short_moved g h given (still sessions events charts commands is) short = subst AreShort (sym sessions) short
short_moved g h given (puts place s put there named kept fits sessions events charts commands is) short =
    let own : HasShortName put =
    subst (λ n. length n ≤ CHILD_NAME_LIMIT) (sym named) (short_at g.sessions place s short there) in
    subst AreShort (sym sessions) (All-set HasShortName g.sessions place put own short)
short_moved g h given (queues place s e there is gift) short =
    subst (λ (x : HostImage). AreShort x.sessions) (sym is)
    (All-set HasShortName g.sessions place _ (short_at g.sessions place s short there) short)
short_moved g h given (bears s queued new fits_name fits sessions events charts commands is) short =
    subst AreShort (sym sessions) (All-push HasShortName g.sessions s short fits_name)
short_moved g h given (parts f part sessions events charts commands is) short =
    subst AreShort (sym sessions)
    (All-map HasShortName f g.sessions
    (λ i d l. subst (λ n. length n ≤ CHILD_NAME_LIMIT) (sym (part (get_or g.sessions i d)).named) (short i d l)))

-- several moves do as well
pub short_moves : (g h : HostImage) (given : List Gift) → Moves g h given → AreShort g.sessions → AreShort h.sessions
short_moves g h given (ends unmoved is) short = subst (λ (x : HostImage). AreShort x.sessions) (sym unmoved) short
short_moves g h given (goes m front rest one others is) short =
    short_moves m h rest others (short_moved g m front one short)

-- where one session changes but for its name
short_put : (g : HostImage) (session : List ℕ) (place : ℕ) (s put : SessionImage)
    → session_named g session ≡ Some (place, s) → put.state.session ≡ s.state.session → AreShort g.sessions
    → AreShort (slice_set g.sessions place put)
short_put g session place s put found named short =
    let own : HasShortName put =
    subst (λ n. length n ≤ CHILD_NAME_LIMIT) (sym named)
    (short_at g.sessions place s short (is_at g session place s found).there) in
    All-set HasShortName g.sessions place put own short

short_in : (g : HostImage) (c : Command) (a : Answer) → Change g c a
    → (is_accepted a.reply ≡ true → IsWithinLimits c) → AreShort g.sessions → AreShort a.host.sessions
short_in g c a (refuses why is) within short = subst (λ (x : Answer). AreShort x.host.sessions) (sym is) short
short_in g c a (installs name text chart command legal is) within short =
    subst (λ (x : Answer). AreShort x.host.sessions) (sym is) short
short_in g c a (starts session chart command has new is) within short =
    let limits : IsWithinLimits (Start session chart) =
    subst IsWithinLimits command (within (ap (λ (x : Answer). is_accepted x.reply) is)) in
    subst (λ (x : Answer). AreShort x.host.sessions) (sym is)
    (All-push HasShortName g.sessions (fresh_session session chart) short (omega (arith, limits.0)))
short_in g c a (posts session name pairs place s command found is) within short =
    subst (λ (x : Answer). AreShort x.host.sessions) (sym is) (short_put g session place s _ found refl short)
short_in g c a (ticks n now command below is) within short =
    subst (λ (x : Answer). AreShort x.host.sessions) (sym is)
    (short_moves (ticked g now) _ _ (all_fire (ticked g now) (due_in g now)) short)
short_in g c a (cancels session place s command found is) within short =
    subst (λ (x : Answer). AreShort x.host.sessions) (sym is) (short_put g session place s _ found refl short)
short_in g c a (turns session place s cue command found has is) within short =
    let t = turn (chart_named g s.state.chart) s.state cue in
    let put = put_in s cue t in
    let h = with_session g place put in
    let named = (turn-of (chart_named g s.state.chart) s.state cue).session in
    let started = short_put g session place s put found named short in
    let delivered = deliver_all h place t.effects in
    let all = short_moves h delivered.host _ (all_move h place t.effects) started in
    subst (λ (x : Answer). AreShort x.host.sessions) (sym is)
    (short_moves delivered.host (end_at delivered.host place).host _ (end_moves delivered.host place) all)

-- an answer leaves the names of the sessions short
pub short_kept : (g : HostImage) (c : Command) → AreShort g.sessions → AreShort (answer g c).host.sessions
short_kept g c short = short_in g c (answer g c) (change_of g c) (accepted_within g c short) short

-- and so do commands, one by one
pub short_after : (g : HostImage) (cs : List Command) → AreShort g.sessions → AreShort (after g cs).sessions
short_after g [] short = short
short_after g (c ∷ cs) short = short_after (answer g c).host cs (short_kept g c short)

-- and a history
pub short_replay : (g : HostImage) (es : List Entry) → AreShort g.sessions → AreShort (replay g es).sessions
short_replay g [] short = short
short_replay g (e ∷ es) short = short_replay (answer g e.command).host es (short_kept g e.command short)

-- the empty host has no session whose name could be long
pub short_empty : AreShort empty_host.sessions
short_empty = λ i d below. absurd (omega (arith, below))
