-- Ranked keys as contracts see them. This host's own rule.
use Rattle.std.specs.Prelude.{◌≡◌, ℕ, ◌==◌, ◌&&◌, ◌||◌, nat_lt, not, Bool, true, List, [], ◌∷◌}
use Rattle.std.specs.List.{position_or_len}
use Rattle.sc_ranks.specs.declared.entry.Entry.{Entry}

-- the entries in their order, and for how many more there is room
pub record RanksOf : Type 0 where
  pub entries : List Entry
  pub spare : ℕ

-- whether an entry ranks before this rank
abbrev pub precedes : ℕ → ℕ → Entry → Bool
precedes first number e = nat_lt e.first first || (e.first == first && nat_lt e.number number)

-- an entry ranks before each of them
abbrev pub RanksBefore : Entry → List Entry → Type 0
RanksBefore e [] = Unit {0}
RanksBefore e (x ∷ xs) = (precedes x.first x.number e ≡ true) × RanksBefore e xs

-- each entry ranks before all that stand after it
abbrev pub IsRising : List Entry → Type 0
IsRising [] = Unit {0}
IsRising (e ∷ es) = RanksBefore e es × IsRising es

-- the place of the first entry that does not rank before this rank, or the end
abbrev pub place_of : ℕ → ℕ → List Entry → ℕ
place_of first number es = position_or_len (λ e. not (precedes first number e)) es
