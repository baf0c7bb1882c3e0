-- What a sink that is written to in pieces has taken of a text. Only contracts of private functions cite this.
use Rattle.std.specs.Prelude.{ℕ, ◌≡◌, ◌≤◌, ◌++◌, Bool, true, false, Option, List, [], ◌∷◌}
use Rattle.std.specs.Io.KnownBytes.{Appends}
use Rattle.sc_dev.specs.Causes.{Rose}
use Rattle.sc_dev.specs.Transfer.{AppendsPart}
use Rattle.sc_report.specs.declared.outlet.Outlet.{Outlet}

-- which sink is written to, what it has taken, its count of faults, the bytes that wait, and whether it has failed
pub record Seen : Type 0 where
  pub name : ℕ
  pub taken : Option (List ℕ)
  pub faults : ℕ
  pub waiting : List ℕ
  pub failed : Bool

abbrev pub seen : {K : Type 0} → (K → Option (List ℕ)) → (K → ℕ) → Outlet K → Seen
seen taken faults o = record {
  name = o.sink.ghost_name;
  taken = taken o.sink.now;
  faults = faults o.sink.now;
  waiting = o.piece;
  failed = o.has_failed;
}

-- the sink has taken the text but for the bytes that wait
pub record Goes (start : Seen) (text : List ℕ) (now : Seen) : Type 0 where
  pub sent : List ℕ
  pub taken : Appends start.taken now.taken sent
  pub is : text ≡ sent ++ now.waiting

-- or it failed, and took a first part of the text
pub record Lost (start : Seen) (text : List ℕ) (now : Seen) : Type 0 where
  pub rose : Rose start.faults now.faults
  pub taken : AppendsPart start.taken now.taken text

abbrev pub Part : Bool → Seen → List ℕ → Seen → Type 0
Part false start text now = Goes start text now
Part true start text now = Lost start text now

-- what became of a text since the start
pub record HasPut (start : Seen) (text : List ℕ) (now : Seen) : Type 0 where
  pub later : start.faults ≤ now.faults
  pub part : Part now.failed start text now

-- whatever was put before, this text was put behind it
pub record Puts (old new : Seen) (text : List ℕ) : Type 0 where
  pub same : new.name ≡ old.name
  pub puts : (start : Seen) (before : List ℕ) → HasPut start before old → HasPut start (before ++ text) new

abbrev pub Writes : {K : Type 0} → (K → Option (List ℕ)) → (K → ℕ) → Outlet K → Outlet K → List ℕ → Type 0
Writes taken faults old new text = Puts (seen taken faults old) (seen taken faults new) text

-- texts one behind another
abbrev pub joined_to : List ℕ → List (List ℕ) → List ℕ
joined_to done [] = done
joined_to done (text ∷ texts) = joined_to (done ++ text) texts

abbrev pub joined : List (List ℕ) → List ℕ
joined [] = []
joined (text ∷ texts) = joined_to text texts
