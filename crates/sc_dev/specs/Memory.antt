-- The sources and sinks that stand in memory. This host's own rule.
use Rattle.std.specs.Prelude.{ℕ, ◌-◌, ◌==◌, Bool, if◌then◌else◌, nat_lt, min, Option, None, Some, List, ◌++◌, length, take, drop}
use Rattle.std.specs.List.{list_any}
use Rattle.sc_dev.specs.Causes.{risen}

-- the calls of a device: how many were made, the numbers, from 1, of those that are to fail, and how many failed
pub record CallsOf : Type 0 where
  pub made : ℕ
  pub failing : List ℕ
  pub faults : ℕ

-- no call so far, and the numbers of those that fail
abbrev pub no_calls : List ℕ → CallsOf
no_calls failing = record { made = 0; failing = failing; faults = 0 }

-- whether the next call is to fail
abbrev pub is_next_failing : CallsOf → Bool
is_next_failing c = list_any (λ n. n == risen c.made) c.failing

-- after a call that went well
abbrev pub counted : CallsOf → CallsOf
counted c = record c { made = risen c.made }

-- after a call that failed
abbrev pub failed : CallsOf → CallsOf
failed c = record c { made = risen c.made; faults = risen c.faults }

-- a source: the bytes that are left, the most that one call hands over, and the calls
pub record SourceOf : Type 0 where
  pub left : List ℕ
  pub most : ℕ
  pub calls : CallsOf

-- how many bytes the next read hands over into so much room; none where it fails
abbrev pub read_count : SourceOf → ℕ → Option ℕ
read_count s room = if is_next_failing s.calls then None else Some (min (min room s.most) (length s.left))

-- the source after a read that gave so many bytes, or failed
abbrev pub after_read : SourceOf → Option ℕ → SourceOf
after_read s None = record s { calls = failed s.calls }
after_read s (Some n) = record s { left = drop n s.left; calls = counted s.calls }

-- a sink: the bytes taken, the room for them, the most that one call takes, and the calls
pub record SinkOf : Type 0 where
  pub taken : List ℕ
  pub room : ℕ
  pub most : ℕ
  pub calls : CallsOf

-- how many bytes of so long a piece the next write takes; none where it fails, as it does where no room is left
abbrev pub write_count : SinkOf → ℕ → Option ℕ
write_count s size = if is_next_failing s.calls then None
    else (if nat_lt (length s.taken) s.room then Some (min (min size s.most) (s.room - length s.taken)) else None)

-- the sink after a write of a piece of which it took so many bytes, or failed
abbrev pub after_write : SinkOf → List ℕ → Option ℕ → SinkOf
after_write s piece None = record s { calls = failed s.calls }
after_write s piece (Some n) = record s { taken = s.taken ++ take n piece; calls = counted s.calls }
