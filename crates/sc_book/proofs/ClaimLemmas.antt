-- Which session is claimed next, and that a book goes on as its claims change.
use Rattle.std.proofs.Common.{◌≡◌, ◌+◌, ◌-◌, ◌<◌, ◌≤◌, ℕ, suc, arith, Bool, true, false, not, cond, nat_le, Option, Some, None, is_some, List, [], ◌∷◌, find, length, slice_get, refl, sym, ap, subst, ◌∙◌}
use Rattle.std.proofs.lemmas.Bool.Decides.{nat_tests}
use Rattle.std.proofs.lemmas.Option.{same_Some, slice_get_within}
use Rattle.sc_base.specs.Ascending.{contains}
use Rattle.sc_book.specs.Books.{BookOf, IsBook}
use Rattle.sc_book.specs.Claims.{HasTurn, IsPresent}
use Rattle.sc_book.specs.Tickets.{ticket_of}
use Rattle.sc_core.specs.Bodies.{cued}
use Rattle.sc_machine.specs.Cues.{cue_of, is_ready}
use Rattle.sc_machine.specs.Hosts.{chart_named}
use Rattle.sc_core.specs.Inputs.{IsInput, IsInputAt, IsInputOf}
use Rattle.sc_core.specs.declared.inputs.TurnInput.{TurnInput}
use Rattle.sc_dev.specs.Disks.{DiskLaw, DiskOf}
use Rattle.sc_law.specs.Fitting.{Fits, HasCue}
use Rattle.sc_law.specs.Legality.{legal_fault}
use Rattle.sc_types.specs.declared.chart.Chart.{Chart}
use Rattle.sc_types.specs.declared.command.Command.{Command}
use Rattle.sc_types.specs.declared.host.HostImage.{HostImage}
use Rattle.sc_types.specs.declared.host.SessionImage.{SessionImage}

-- ---- the first place that is not claimed

-- each of these places that is below `from` is claimed
abbrev pub AreClaimed : List ℕ → ℕ → List ℕ → Type 0
AreClaimed claims from [] = Unit {0}
AreClaimed claims from (p ∷ ps) = (p < from → contains claims p ≡ true) × AreClaimed claims from ps

pub none_below : (claims places : List ℕ) → AreClaimed claims 0 places
none_below claims [] = tt
none_below claims (p ∷ ps) = (λ below. absurd (omega (arith, below)), none_below claims ps)

-- where no place is left, each is claimed
pub none_free : (claims places : List ℕ) (from : ℕ) → AreClaimed claims from places
    → None ≡ find (λ place. nat_le from place) places → find (λ place. not (contains claims place)) places ≡ None
none_free claims [] from are none = refl
none_free claims (p ∷ ps) from are none = by (none_free claims ps from are.1) (nat_le from p) refl none
  where
    by : (None ≡ find (λ place. nat_le from place) ps → find (λ place. not (contains claims place)) ps ≡ None)
        → (b : Bool) → nat_le from p ≡ b → None ≡ cond b (Some p) (find (λ place. nat_le from place) ps)
        → cond (not (contains claims p)) (Some p) (find (λ place. not (contains claims place)) ps) ≡ None
    by rest true at is = absurd cc
    by rest false at is =
        let below : p < from = grind (arith, nat_tests, at) in
        ap (λ b. cond (not b) (Some p) (find (λ place. not (contains claims place)) ps)) (are.0 below)
        ∙ rest is

-- the first place that is left is the first that is not claimed, where it is not claimed
pub first_free : (claims places : List ℕ) (from place : ℕ) → AreClaimed claims from places
    → Some place ≡ find (λ p. nat_le from p) places → contains claims place ≡ false
    → find (λ p. not (contains claims p)) places ≡ Some place
first_free claims [] from place are some not_claimed = absurd cc
first_free claims (p ∷ ps) from place are some not_claimed =
    by (λ is. first_free claims ps from place are.1 is not_claimed) (nat_le from p) refl some
  where
    by : (Some place ≡ find (λ q. nat_le from q) ps → find (λ q. not (contains claims q)) ps ≡ Some place)
        → (b : Bool) → nat_le from p ≡ b → Some place ≡ cond b (Some p) (find (λ q. nat_le from q) ps)
        → cond (not (contains claims p)) (Some p) (find (λ q. not (contains claims q)) ps) ≡ Some place
    by rest true at is =
        let same : place ≡ p = same_Some place p is in
        ap (λ b. cond (not b) (Some p) (find (λ q. not (contains claims q)) ps))
        (ap (contains claims) (sym same) ∙ not_claimed) ∙ ap Some (sym same)
    by rest false at is =
        let below : p < from = grind (arith, nat_tests, at) in
        ap (λ b. cond (not b) (Some p) (find (λ q. not (contains claims q)) ps)) (are.0 below)
        ∙ rest is

-- it is none of those that were looked at
pub found_least : (places : List ℕ) (from place : ℕ) → Some place ≡ find (λ p. nat_le from p) places → from ≤ place
found_least [] from place some = absurd cc
found_least (p ∷ ps) from place some = by (found_least ps from place) (nat_le from p) refl some
  where
    by : (Some place ≡ find (λ q. nat_le from q) ps → from ≤ place) → (b : Bool) → nat_le from p ≡ b
        → Some place ≡ cond b (Some p) (find (λ q. nat_le from q) ps) → from ≤ place
    by rest true at is =
        let same : place ≡ p = same_Some place p is in
        let least : from ≤ p = grind (arith, nat_tests, at) in
        omega (arith, same, least)
    by rest false at is = rest is

-- a number that is reached by none of two, where it is reached by both or none
pub not_reached : (n s r : ℕ) → (n ≤ s → n ≤ r) → r < n → s < n
not_reached n s r both less = by (nat_le n s) refl
  where
    by : (b : Bool) → nat_le n s ≡ b → s < n
    by true at =
        let reached : n ≤ s = grind (arith, nat_tests, at) in
        let other = both reached in
        absurd (omega (arith, other, less))
    by false at = grind (arith, nat_tests, at)

-- ---- the places of sessions with a cue ascend

-- each is no less than k
abbrev pub AreFrom : ℕ → List ℕ → Type 0
AreFrom k [] = Unit {0}
AreFrom k (p ∷ ps) = (k ≤ p) × AreFrom (p + 1) ps

from_less : (j k : ℕ) (ps : List ℕ) → j ≤ k → AreFrom k ps → AreFrom j ps
from_less j k [] less are = tt
from_less j k (p ∷ ps) less are = let first = are.0 in (omega (arith, less, first), are.1)

pub cued_from : (k : ℕ) (ss : List SessionImage) → AreFrom k (cued k ss)
cued_from k [] = tt
cued_from k (s ∷ ss) = by (is_ready s) (cued_from (k + 1) ss)
  where
    by : (b : Bool) → AreFrom (k + 1) (cued (k + 1) ss) → AreFrom k (cond b (k ∷ cued (k + 1) ss) (cued (k + 1) ss))
    by true rest = (omega arith, rest)
    by false rest = from_less k (k + 1) (cued (k + 1) ss) (omega arith) rest

-- a place past all that are looked at
claimed_past : (claims ps : List ℕ) (from k : ℕ) → from ≤ k → AreFrom k ps → AreClaimed claims from ps
claimed_past claims [] from k less are = tt
claimed_past claims (p ∷ ps) from k less are =
    let first = are.0 in
    (λ below. absurd (omega (arith, less, first, below)), claimed_past claims ps from (p + 1) (omega (arith, less, first)) are.1)

-- the first place that is left is claimed too
pub claimed_more : (claims places : List ℕ) (k from place : ℕ) → AreFrom k places → AreClaimed claims from places
    → Some place ≡ find (λ p. nat_le from p) places → contains claims place ≡ true → AreClaimed claims (place + 1) places
claimed_more claims [] k from place ascend are some claimed = tt
claimed_more claims (p ∷ ps) k from place ascend are some claimed =
    by (λ is. claimed_more claims ps (p + 1) from place ascend.1 are.1 is claimed) (nat_le from p) refl some
  where
    by : (Some place ≡ find (λ q. nat_le from q) ps → AreClaimed claims (place + 1) ps)
        → (b : Bool) → nat_le from p ≡ b → Some place ≡ cond b (Some p) (find (λ q. nat_le from q) ps)
        → AreClaimed claims (place + 1) (p ∷ ps)
    by rest true at is =
        let same : place ≡ p = same_Some place p is in (
          λ below. ap (contains claims) (sym same) ∙ claimed,
          subst (λ q. AreClaimed claims (q + 1) ps) (sym same) (claimed_past claims ps (p + 1) (p + 1) (omega arith) ascend.1),
        )
    by rest false at is =
        let below : p < from = grind (arith, nat_tests, at) in
        (λ later. are.0 below, rest is)

-- the session at a place, counted from k, has a cue
pub record IsFound (k place : ℕ) (ss : List SessionImage) : Type 0 where
  pub least : k ≤ place
  pub session : SessionImage
  pub there : slice_get ss (place - k) ≡ Some session
  pub ready : is_ready session ≡ true

-- a place that is found is that of a session with a cue
pub found_ready : (test : ℕ → Bool) (k place : ℕ) (ss : List SessionImage) → Some place ≡ find test (cued k ss)
    → IsFound k place ss
found_ready test k place [] some = absurd cc
found_ready test k place (s ∷ ss) some = by (found_ready test (k + 1) place ss) (is_ready s) refl some
  where
    later : IsFound (k + 1) place ss → IsFound k place (s ∷ ss)
    later found =
        let least = found.least in
        let next : place - k ≡ suc (place - (k + 1)) = omega (arith, least) in
        record {
          least = omega (arith, least);
          session = found.session;
          there = ap (slice_get (s ∷ ss)) next ∙ found.there;
          ready = found.ready;
        }

    here : (Some place ≡ find test (cued (k + 1) ss) → IsFound (k + 1) place ss) → (b : Bool) → test k ≡ b
        → is_ready s ≡ true → Some place ≡ cond b (Some k) (find test (cued (k + 1) ss)) → IsFound k place (s ∷ ss)
    here rest true at ready is =
        let same : place ≡ k = same_Some place k is in
        let first : place - k ≡ 0 = omega (arith, same) in
        record { least = omega (arith, same); session = s; there = ap (slice_get (s ∷ ss)) first; ready = ready }
    here rest false at ready is = later (rest is)

    by : (Some place ≡ find test (cued (k + 1) ss) → IsFound (k + 1) place ss) → (b : Bool) → is_ready s ≡ b
        → Some place ≡ find test (cond b (k ∷ cued (k + 1) ss) (cued (k + 1) ss)) → IsFound k place (s ∷ ss)
    by rest true ready is = here rest (test k) refl ready is
    by rest false idle is = later (rest is)

-- the same of a place that is counted from 0
pub found_at : (test : ℕ → Bool) (place : ℕ) (ss : List SessionImage) (found : IsFound 0 place ss)
    → slice_get ss place ≡ Some found.session
found_at test place ss found =
    let same : place ≡ place - 0 = omega arith in ap (slice_get ss) same ∙ found.there

-- and below their number
pub found_within : (test : ℕ → Bool) (place : ℕ) (ss : List SessionImage) → Some place ≡ find test (cued 0 ss) → place < length ss
found_within test place ss some =
    let found = found_ready test 0 place ss some in
    slice_get_within ss place found.session (found_at test place ss found)

-- ---- what is taken

-- what was given for the session at a place is what its turn is computed from
pub taken_input : {P : Type 0} (chart_of : P → Chart) (g : HostImage) (place : ℕ) (o : Option (TurnInput P)) (i : TurnInput P)
    (s : SessionImage) → IsInputAt chart_of g place o → o ≡ Some i → slice_get g.sessions place ≡ Some s
    → IsInput chart_of g s i
taken_input chart_of g place o i s given is there = subst (IsInputOf chart_of g s) is (given s there)

-- none is given for a session without a cue alone
pub none_taken : {P : Type 0} (chart_of : P → Chart) (g : HostImage) (place : ℕ) (o : Option (TurnInput P)) (s : SessionImage)
    → IsInputAt chart_of g place o → o ≡ None → slice_get g.sessions place ≡ Some s → is_ready s ≡ true → ⊥
none_taken chart_of g place o s given is there ready =
    let idle : cue_of s ≡ None = subst (IsInputOf chart_of g s) is (given s there) in
    let never : false ≡ true = ap (λ c. is_some c) (sym idle) ∙ ready in
    absurd (cc)

pub ticket_has : {P : Type 0} (chart_of : P → Chart) (g : HostImage) (place : ℕ) (s : SessionImage) (i : TurnInput P)
    → IsInput chart_of g s i → HasTurn (ticket_of chart_of place i)
ticket_has chart_of g place s i is = record {
  legal = ap legal_fault is.chart ∙ is.legal;
  fits = subst (λ k. Fits k i.before) (sym is.chart)
      (subst (λ b. Fits (chart_named g s.state.chart) b) (sym is.before) is.fits);
  cue = subst (λ b. HasCue b i.cue) (sym is.before) is.has;
}

pub ticket_present : {P : Type 0} (chart_of : P → Chart) (g : HostImage) (place : ℕ) (s : SessionImage) (i : TurnInput P)
    → slice_get g.sessions place ≡ Some s → IsInput chart_of g s i → IsPresent g (ticket_of chart_of place i)
ticket_present chart_of g place s i there is =
    record { session = s; there = there; chart = is.chart; before = is.before; cue = is.cue }

-- ---- a book goes on as its claims change

module _ {D : Type 0} (law : DiskLaw D) where
  pub is_claimed : (past : List Command) (b : BookOf D) (claims : List ℕ) → IsBook law past b
      → IsBook law past (record b { claims = claims })
  is_claimed past b claims is = record {
    opened = is.opened;
    past_accepted = is.past_accepted;
    legal = is.legal;
    host = is.host;
    next = is.next;
    stored = is.stored;
    doubt = λ body some. let last = is.doubt body some in record {
      doubt = last.doubt;
      one = last.one;
      last = last.last;
      spells = last.spells;
      accepted = last.accepted;
    };
    rise = is.rise;
    reached = is.reached;
    images = is.images;
  }
