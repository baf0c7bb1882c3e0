-- The walk along a session's sends, from the last to the first.
use Rattle.std.proofs.Common.{◌≡◌, ℕ, ◌+◌, ◌-◌, ◌<◌, ◌≤◌, ◌&&◌, zero, suc, Bool, true, false, not, Option, Some, filter, List, [], ◌∷◌, length, remove, slice_get, take, drop, refl, arith, ap, sym, ◌∙◌, subst}
use Rattle.std.proofs.lemmas.List.Filters.{length-filter_both}
use Rattle.std.proofs.lemmas.List.Sums.{length-filter}
use Rattle.std.specs.Cmp.Lexicographic.{bytes_decides}
use Rattle.std.specs.Prelude.{count_by}
use Rattle.sc_ranks.specs.declared.entry.Entry.{Entry}
use Rattle.sc_ranks.specs.Ranks.{place_of}
use Rattle.sc_types.specs.declared.host.TimerImage.{TimerImage}
use Rattle.sc_types.specs.Sends.{is_of}
use Rattle.sc_timers.specs.declared.timed.Pick.{Pick}
use Rattle.sc_timers.specs.Order.{picks, sends_of, session_rank, by_due, by_session, AreOf, one, passing, AreKept, ArePair, AreBelow, IsPicked, picked_at}
use Rattle.sc_timers.proofs.EntryLemmas.{passing-fewer}
use Rattle.sc_timers.proofs.KeptLemmas.{place-within}
use Rattle.sc_timers.proofs.SendLemmas.{IsOfRank, test-at, slice_get-sends, length-sends, filter-remove, count-sends, filter-none, picked-fewer, none-below, below-place, none-after-place, passing-split, passing-more, take-remove, drop-remove}

-- ---- picked sends

first-part : (a b : Bool) → (a && b) ≡ true → a ≡ true
first-part true b e = refl
first-part false b e = e

-- what is picked has the rank of its session
pub picks-rank : (p : Pick) (rank : ℕ) → rank ≡ session_rank p.session.now → IsOfRank (picks p) rank
picks-rank p rank e t h =
    let same = first-part (is_of p.session.now t) _ h in
    ap session_rank ((bytes_decides t.session p.session.now).0 same) ∙ sym e

below-take : (rank : ℕ) (es : List Entry) (p f : ℕ) → p ≤ f → AreBelow rank (take f es) → AreBelow rank (take p es)
below-take rank es zero f h b = tt
below-take rank es (suc p) zero h b = absurd (omega (arith, h))
below-take rank [] (suc p) (suc f) h b = tt
below-take rank (e ∷ es) (suc p) (suc f) h b = (b.0, below-take rank es p f (omega (arith, h)) b.1)

of-take : (ranked : ℕ → TimerImage → Entry) (at : ℕ → Option TimerImage) (es : List Entry) (p : ℕ) → AreOf ranked at es
    → AreOf ranked at (take p es)
of-take ranked at es zero a = tt
of-take ranked at [] (suc p) a = tt
of-take ranked at (e ∷ es) (suc p) a = (a.0, of-take ranked at es p a.1)

same_entry : (o : Option Entry) (a b : Entry) → o ≡ Some a → o ≡ Some b → a ≡ b
same_entry o a b h k = cc

length-remove : (es : List Entry) (i : ℕ) (e : Entry) → slice_get es i ≡ Some e → length (remove es i) + 1 ≡ length es
length-remove [] i e h = cc
length-remove (x ∷ xs) zero e h = omega arith
length-remove (x ∷ xs) (suc i) e h = omega (arith, length-remove xs i e h)

-- ---- the walk that counts

-- as many are picked as from the end of the walk on, where all before are below the rank
pub count-ends : (test : TimerImage → Bool) (rank : ℕ) (at : ℕ → Option TimerImage) (dues sessions : List Entry) (p : ℕ)
    → IsOfRank test rank → AreKept at dues sessions → p ≤ place_of rank 0 sessions
    → passing (picked_at test at) (drop p sessions) ≡ count_by test (sends_of at dues)
count-ends test rank at dues sessions p f kept h =
    let below = below-take rank sessions p (place_of rank 0 sessions) h (below-place rank sessions) in
    let none = none-below test rank at (take p sessions) f (of-take by_session at sessions p kept.session) below in
    omega (
      arith,
      none,
      passing-split (picked_at test at) sessions p,
      kept.same (picked_at test at),
      count-sends by_due
          test at dues kept.due,
    )

-- where one more was looked at, it is counted if it is picked
pub count-more : (v : Bool) (test : TimerImage → Bool) (at : ℕ → Option TimerImage) (sessions : List Entry) (p : ℕ)
    → IsPicked v test at sessions p
    → passing (picked_at test at) (drop p sessions) ≡ one v + passing (picked_at test at) (drop (suc p) sessions)
count-more v test at sessions p i =
    passing-more (picked_at test at) sessions p i.entry i.there
    ∙ ap (λ n. n + passing (picked_at test at) (drop (suc p) sessions)) (ap one i.picked)

-- ---- the walk that takes

-- from the place on no send is picked, those that were taken were, and the entries before the first are below the rank
pub record Sweeps (test : TimerImage → Bool) (rank first : ℕ) (at now_at : ℕ → Option TimerImage)
    (dues dues_now sessions_now : List Entry) (place : ℕ) : Type 0 where
  pub kept : AreKept now_at dues_now sessions_now
  pub sends : filter (λ s. not (test s)) (sends_of now_at dues_now) ≡ filter (λ s. not (test s)) (sends_of at dues)
  pub rest : passing (picked_at test now_at) (drop place sessions_now) ≡ 0
  pub front : AreBelow rank (take first sessions_now)
  pub within : place ≤ length sessions_now

pub sweep-starts : (test : TimerImage → Bool) (rank : ℕ) (at : ℕ → Option TimerImage) (dues sessions : List Entry)
    → IsOfRank test rank → AreKept at dues sessions
    → Sweeps test rank (place_of rank 0 sessions) at at dues dues sessions (place_of (rank + 1) 0 sessions)
sweep-starts test rank at dues sessions f kept = record {
  kept = kept;
  sends = refl;
  rest = none-after-place test rank at sessions f kept.session kept.session_rising;
  front = below-place rank sessions;
  within = place-within (rank + 1) 0 sessions;
}

-- a send that is not picked is passed over
pub sweep-passes : (test : TimerImage → Bool) (rank first : ℕ) (at now_at : ℕ → Option TimerImage)
    (dues dues_now sessions_now : List Entry) (place : ℕ)
    → Sweeps test rank first at now_at dues dues_now sessions_now place
    → 0 < place → IsPicked false test now_at sessions_now (place - 1)
    → Sweeps test rank first at now_at dues dues_now sessions_now (place - 1)
sweep-passes test rank first at now_at dues dues_now sessions_now place s h i =
    let next : suc (place - 1) ≡ place = omega (arith, h) in
    let rest = ap (λ n. passing (picked_at test now_at) (drop n sessions_now)) next ∙ s.rest in
    record {
      kept = s.kept;
      sends = s.sends;
      rest = omega (arith, count-more false test now_at sessions_now (place - 1) i, rest);
      front = s.front;
      within = omega (arith, s.within);
    }

-- a send that is picked is taken
pub sweep-takes : (test : TimerImage → Bool) (rank first : ℕ) (at now_at new_at : ℕ → Option TimerImage)
    (dues dues_now sessions_now dues_new sessions_new : List Entry) (place due : ℕ) (t : TimerImage)
    → Sweeps test rank first at now_at dues dues_now sessions_now place
    → first < place → IsPicked true test now_at sessions_now (place - 1) → ArePair dues_now sessions_now due (place - 1)
    → AreKept new_at dues_new sessions_new → slice_get (sends_of now_at dues_now) due ≡ Some t
    → sends_of new_at dues_new ≡ remove (sends_of now_at dues_now) due → sessions_new ≡ remove sessions_now (place - 1)
    → ((k : ℕ) (u : TimerImage) → new_at k ≡ Some u → now_at k ≡ Some u)
    → Sweeps test rank first at new_at dues dues_new sessions_new (place - 1)
sweep-takes test rank first at now_at new_at dues dues_now sessions_now dues_new sessions_new place due t s h i pair
    kept got sends sessions fewer =
    let next : suc (place - 1) ≡ place = omega (arith, h) in
    let old = ap (λ n. passing (picked_at test now_at) (drop n sessions_now)) next ∙ s.rest in
    let less = passing-fewer (picked_at test new_at) (picked_at test now_at) (drop (suc (place - 1)) sessions_now)
    (picked-fewer test now_at new_at fewer) in
    let left = ap (λ es. passing (picked_at test new_at) (drop (place - 1) es)) sessions
    ∙ ap (λ es. passing (picked_at test new_at) es) (drop-remove sessions_now (place - 1) i.entry i.there) in
    let found : now_at pair.first.key ≡ Some t =
    sym (slice_get-sends by_due now_at dues_now due pair.first s.kept.due pair.at_first) ∙ got in
    let key = pair.key ∙ ap (λ (e : Entry). e.key) (same_entry _ _ _ pair.at_second i.there) in
    let picked : test t ≡ true = sym (test-at test now_at pair.first.key t found) ∙ ap (picked_at test now_at) key
    ∙ i.picked in
    record {
      kept = kept;
      sends = ap (filter (λ x. not (test x))) sends
          ∙ filter-remove (λ x. not (test x)) (sends_of now_at dues_now) due t got (ap not picked) ∙ s.sends;
      rest = omega (arith, old, less, left);
      front = subst (λ es. AreBelow rank es)
          (sym (ap (take first) sessions ∙ take-remove sessions_now first (place - 1) (omega (arith, h)))) s.front;
      within = omega (arith, s.within, ap length sessions, length-remove sessions_now (place - 1) i.entry i.there);
    }

-- at the first entry of the rank, all that are picked are taken
pub sweep-ends : (test : TimerImage → Bool) (rank first : ℕ) (at now_at : ℕ → Option TimerImage)
    (dues dues_now sessions_now : List Entry) (place : ℕ) → IsOfRank test rank
    → Sweeps test rank first at now_at dues dues_now sessions_now place → place ≤ first
    → sends_of now_at dues_now ≡ filter (λ s. not (test s)) (sends_of at dues)
sweep-ends test rank first at now_at dues dues_now sessions_now place f s h =
    let below = below-take rank sessions_now place first h s.front in
    let none = none-below test rank now_at (take place sessions_now) f
    (of-take by_session now_at sessions_now place s.kept.session) below in
    let all : count_by test (sends_of now_at dues_now) ≡ 0 =
    omega (
      arith,
      none,
      s.rest,
      passing-split (picked_at test now_at) sessions_now place,
      s.kept.same
          (picked_at test now_at),
      count-sends by_due test now_at dues_now s.kept.due,
    ) in
    sym (filter-none test (sends_of now_at dues_now) all) ∙ s.sends

-- as many are gone as were picked
pub count-gone : (test : TimerImage → Bool) (at now_at : ℕ → Option TimerImage) (dues dues_now : List Entry)
    → AreOf by_due at dues → AreOf by_due now_at dues_now
    → sends_of now_at dues_now ≡ filter (λ s. not (test s)) (sends_of at dues)
    → length dues_now + count_by test (sends_of at dues) ≡ length dues
count-gone test at now_at dues dues_now a b e =
    omega (
      arith,
      length-sends by_due at dues a,
      length-sends by_due now_at dues_now b,
      ap length e,
      length-filter test (sends_of at dues),
      length-filter_both test (λ s. not (test s)) (λ s. refl) (sends_of at dues),
    )
