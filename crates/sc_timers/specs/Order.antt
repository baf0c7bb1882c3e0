-- For proofs: how the sends are kept: in a slab, with their keys ranked twice, by due time and by session.
use Rattle.std.specs.Prelude.{◌≡◌, ℕ, ◌+◌, ◌*◌, ◌/◌, ◌^◌, ◌%◌, ◌<◌, bit_xor, fold, slice_get, Bool, true, false, Option, Some, List, [], ◌∷◌}
use Rattle.std.specs.Borrow.{Bor}
use Rattle.std.specs.List.{filter_map}
use Rattle.std.specs.Option.{option_map, option_map_or}
use Rattle.sc_ranks.specs.Ranks.{IsRising}
use Rattle.sc_ranks.specs.declared.entry.Entry.{Entry}
use Rattle.sc_types.specs.declared.host.TimerImage.{TimerImage}
use Rattle.sc_types.specs.Sends.{is_picked}
use Rattle.sc_timers.specs.declared.timed.Pick.{Pick}

-- whether a send is one of those that are picked
abbrev pub picks : Pick → TimerImage → Bool
picks p = is_picked p.session.now (option_map (λ (x : Bor (List ℕ)). x.now) p.id)

-- half of Fowler, Noll and Vo's hash 1a of a session's name: with 63 bits, the next rank fits 64
unfoldable pub session_rank : List ℕ → ℕ
session_rank name =
    fold (λ hash byte. bit_xor hash byte * 1099511628211 % 2 ^ 64) 14695981039346656037 name / 2

-- the entries of a send under a key
abbrev pub by_due : ℕ → TimerImage → Entry
by_due key s = record { first = s.due; number = s.number; key = key }

abbrev pub by_session : ℕ → TimerImage → Entry
by_session key s = record { first = session_rank s.session; number = s.number; key = key }

-- the sends of the entries
abbrev pub sends_of : (ℕ → Option TimerImage) → List Entry → List TimerImage
sends_of at es = filter_map (λ (e : Entry). at e.key) es

-- the entry is that of a send
pub record IsOf (ranked : ℕ → TimerImage → Entry) (at : ℕ → Option TimerImage) (e : Entry) : Type 0 where
  pub send : TimerImage
  pub found : at e.key ≡ Some send
  pub is : e ≡ ranked e.key send

abbrev pub AreOf : (ℕ → TimerImage → Entry) → (ℕ → Option TimerImage) → List Entry → Type 0
AreOf ranked at [] = Unit {0}
AreOf ranked at (e ∷ es) = IsOf ranked at e × AreOf ranked at es

abbrev pub one : Bool → ℕ
one true = 1
one false = 0

-- how many entries have keys that pass
abbrev pub passing : (ℕ → Bool) → List Entry → ℕ
passing test [] = 0
passing test (e ∷ es) = one (test e.key) + passing test es

-- the same sends stand in both orders
pub record AreKept (at : ℕ → Option TimerImage) (dues sessions : List Entry) : Type 0 where
  pub due : AreOf by_due at dues
  pub due_rising : IsRising dues
  pub session : AreOf by_session at sessions
  pub session_rising : IsRising sessions
  pub same : (test : ℕ → Bool) → passing test sessions ≡ passing test dues

-- the entries at these places are those of one send
pub record ArePair (dues sessions : List Entry) (i j : ℕ) : Type 0 where
  pub first : Entry
  pub second : Entry
  pub at_first : slice_get dues i ≡ Some first
  pub at_second : slice_get sessions j ≡ Some second
  pub key : first.key ≡ second.key

-- the first entries rank below
abbrev pub AreBelow : ℕ → List Entry → Type 0
AreBelow rank [] = Unit {0}
AreBelow rank (e ∷ es) = (e.first < rank) × AreBelow rank es

-- whether the key is that of a picked send
abbrev pub picked_at : (TimerImage → Bool) → (ℕ → Option TimerImage) → ℕ → Bool
picked_at test at key = option_map_or test (at key) false

-- whether the send is picked whose entry stands at the place
pub record IsPicked (v : Bool) (test : TimerImage → Bool) (at : ℕ → Option TimerImage) (sessions : List Entry) (j : ℕ)
    : Type 0 where
  pub entry : Entry
  pub there : slice_get sessions j ≡ Some entry
  pub picked : picked_at test at entry.key ≡ v
