-- Delayed sends in the order in which they come due. SCXML 6.2.4 speaks of the delay of one; the order among
-- several, by due time and then by number, is this host's own rule.
use Rattle.std.specs.Prelude.{◌≡◌, ℕ, Bool, true, ◌&&◌, ◌||◌, ◌==◌, nat_lt, if◌then◌else◌, Option, List, [], ◌∷◌}
use Rattle.std.specs.Option.{option_map_or}
use Rattle.std.specs.Str.{bytes_eq}
use Rattle.sc_types.specs.declared.host.TimerImage.{TimerImage}

-- a comes due before b
abbrev pub is_before : TimerImage → TimerImage → Bool
is_before a b = nat_lt a.due b.due || (a.due == b.due && nat_lt a.number b.number)

-- t in its place of a list in due order
abbrev pub with_send : TimerImage → List TimerImage → List TimerImage
with_send t [] = t ∷ []
with_send t (s ∷ ss) = if is_before t s then t ∷ s ∷ ss else s ∷ with_send t ss

-- t comes due before each of them
abbrev pub IsBeforeAll : TimerImage → List TimerImage → Type 0
IsBeforeAll t [] = Unit {0}
IsBeforeAll t (s ∷ ss) = (is_before t s ≡ true) × IsBeforeAll t ss

-- each comes due before all that stand after it
abbrev pub IsInDueOrder : List TimerImage → Type 0
IsInDueOrder [] = Unit {0}
IsInDueOrder (s ∷ ss) = IsBeforeAll s ss × IsInDueOrder ss

-- whether a send is of the session
abbrev pub is_of : List ℕ → TimerImage → Bool
is_of session s = bytes_eq s.session session

-- a send of the session, and of the id where one is given
abbrev pub is_picked : List ℕ → Option (List ℕ) → TimerImage → Bool
is_picked session id s = is_of session s && option_map_or (λ i. bytes_eq s.event.sendid i) id true

-- a send of the session with the id
abbrev pub is_send : List ℕ → List ℕ → TimerImage → Bool
is_send session id s = is_of session s && bytes_eq s.event.sendid id
