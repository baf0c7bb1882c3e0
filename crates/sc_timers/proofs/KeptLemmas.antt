-- The sends that are kept in both orders, when one is added, taken or looked for.
use Rattle.std.proofs.Common.{◌≡◌, ◌≢◌, ℕ, ◌+◌, ◌<◌, ◌≤◌, ◌==◌, suc, Bool, true, false, not, cond, Option, None, Some, List, [], ◌∷◌, length, insert, remove, slice_get, refl, arith, ap, sym, ◌∙◌}
use Rattle.std.proofs.lemmas.Bool.Decides.{nat_tests}
use Rattle.std.specs.Prelude.{All}
use Rattle.sc_ranks.specs.declared.entry.Entry.{Entry}
use Rattle.sc_ranks.specs.Ranks.{precedes, place_of}
use Rattle.sc_types.specs.declared.host.TimerImage.{TimerImage}
use Rattle.sc_types.specs.Sends.{with_send}
use Rattle.sc_timers.specs.Order.{sends_of, by_due, by_session, session_rank, one, passing, AreKept, ArePair}
use Rattle.sc_timers.proofs.EntryLemmas.{away-vacant, of-away, of-insert, of-remove, found, passing-insert, passing-remove, passing-member, rising-insert, rising-remove}
use Rattle.sc_timers.proofs.SendLemmas.{sends-away, sends-insert, sends-remove, older-due, older-session}

-- the place of a rank is one of the list or its end
pub place-within : (f n : ℕ) (es : List Entry) → place_of f n es ≤ length es
place-within f n [] = omega arith
place-within f n (e ∷ es) = by (precedes f n e) (place-within f n es)
  where
    by : (v : Bool) → place_of f n es ≤ length es → cond (not (not v)) (1 + place_of f n es) 0 ≤ suc (length es)
    by true h = omega (arith, h)
    by false h = omega arith

pub record Added (at new_at : ℕ → Option TimerImage) (dues sessions : List Entry) (key : ℕ) (t : TimerImage) : Type 0
  where
    pub kept : AreKept new_at (insert dues (place_of t.due t.number dues) (by_due key t))
        (insert sessions (place_of (session_rank t.session) t.number sessions) (by_session key t))
    pub sends : sends_of new_at (insert dues (place_of t.due t.number dues) (by_due key t)) ≡ with_send t
        (sends_of at dues)

-- a newer send under a new key, put in at its places, is kept
pub added : (at new_at : ℕ → Option TimerImage) (dues sessions : List Entry) (key : ℕ) (t : TimerImage)
    → AreKept at dues sessions → at key ≡ None → new_at key ≡ Some t → ((k : ℕ) → k ≢ key → new_at k ≡ at k)
    → All (λ (s : TimerImage). s.number < t.number) (sends_of at dues) → Added at new_at dues sessions key t
added at new_at dues sessions key t kept none e o all =
    let older = older-due at t.number dues kept.due all in
    let older_sessions = older-session at t.number dues sessions kept.due kept.session (kept.same _) older in
    let away = away-vacant by_due at key dues kept.due none in
    let away_sessions = away-vacant by_session at key sessions kept.session none in
    let due = of-away by_due at new_at key dues o away kept.due in
    let session = of-away by_session at new_at key sessions o away_sessions kept.session in
    let i = place_of t.due t.number dues in
    let j = place_of (session_rank t.session) t.number sessions in
    record {
      kept = record {
        due = of-insert by_due new_at dues i (by_due key t) (record { send = t; found = e; is = refl }) due;
        due_rising = rising-insert dues (by_due key t) kept.due_rising older;
        session = of-insert by_session new_at sessions j (by_session key t) (record { send = t; found = e; is = refl })
            session;
        session_rising = rising-insert sessions (by_session key t) kept.session_rising older_sessions;
        same = λ test. passing-insert test sessions j (by_session key t) ∙ ap (λ n. one (test key) + n) (kept.same test)
            ∙ sym (passing-insert test dues i (by_due key t));
      };
      sends = sends-insert new_at dues key t due e older ∙ ap (with_send t) (sends-away at new_at key dues o away);
    }

pub record Taken (at new_at : ℕ → Option TimerImage) (dues sessions : List Entry) (i j : ℕ) : Type 0 where
  pub kept : AreKept new_at (remove dues i) (remove sessions j)
  pub sends : sends_of new_at (remove dues i) ≡ remove (sends_of at dues) i

-- what is left of the sends without one is kept
pub taken : (at new_at : ℕ → Option TimerImage) (dues sessions : List Entry) (i j : ℕ) (e f : Entry)
    → AreKept at dues sessions → slice_get dues i ≡ Some e → slice_get sessions j ≡ Some f → e.key ≡ f.key
    → new_at e.key ≡ None → ((k : ℕ) → k ≢ e.key → new_at k ≡ at k) → Taken at new_at dues sessions i j
taken at new_at dues sessions i j e f kept a b key none o =
    let due = of-remove by_due at new_at dues i e kept.due kept.due_rising a o in
    record {
      kept = record {
        due = due;
        due_rising = rising-remove dues i kept.due_rising;
        session = of-remove by_session at new_at sessions j f kept.session kept.session_rising b
            (λ k n. o k (λ s. n (s ∙ key)));
        session_rising = rising-remove sessions j kept.session_rising;
        same = λ test. omega (
          arith,
          passing-remove test sessions j f b,
          passing-remove test dues i e a,
          kept.same test,
          ap (λ k. one (test k)) key,
        );
      };
      sends = sends-remove at new_at dues i e kept.due due a o none;
    }

has-key : (es : List Entry) (i : ℕ) (e : Entry) → slice_get es i ≡ Some e → 0 < passing (λ k. k == e.key) es
has-key es i e h =
    let same : (e.key == e.key) ≡ true = grind (arith, nat_tests) in
    passing-member (λ k. k == e.key) es i e h same

-- where a send stands by due time, it is found by session
pub session-found : (at : ℕ → Option TimerImage) (dues sessions : List Entry) (i : ℕ) (e : Entry) (t : TimerImage)
    → AreKept at dues sessions → slice_get dues i ≡ Some e → at e.key ≡ Some t
    → ArePair dues sessions i (place_of (session_rank t.session) t.number sessions)
session-found at dues sessions i e t kept h s = record {
  first = e;
  second = by_session e.key t;
  at_first = h;
  at_second = found by_session at sessions e.key t kept.session kept.session_rising s
      (omega (arith, has-key dues i e h, kept.same (λ k. k == e.key)));
  key = refl;
}

-- where it stands by session, it is found by due time
pub due-found : (at : ℕ → Option TimerImage) (dues sessions : List Entry) (j : ℕ) (f : Entry) (t : TimerImage)
    → AreKept at dues sessions → slice_get sessions j ≡ Some f → at f.key ≡ Some t
    → ArePair dues sessions (place_of t.due t.number dues) j
due-found at dues sessions j f t kept h s = record {
  first = by_due f.key t;
  second = f;
  at_first = found by_due at dues f.key t kept.due kept.due_rising s
      (omega (arith, has-key sessions j f h, kept.same (λ k. k == f.key)));
  at_second = h;
  key = refl;
}
