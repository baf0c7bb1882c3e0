-- The default targets of an element with child states.
use Rattle.std.proofs.Common.{◌≡◌, ℕ, ◌||◌, Bool, true, false, cond, Some, None, Result, Ok, Err, IfOk, List, [], ◌∷◌, find, take, unwrap_or, refl, ap, sym, ◌∙◌}
use Rattle.std.specs.List.{list_any}
use Rattle.sc_types.specs.Attributes.{has}
use Rattle.sc_types.specs.declared.attribute.Attribute.TheVariants as attribute
use Rattle.sc_types.specs.declared.chart.Chart.{Chart}
use Rattle.sc_types.specs.declared.chart.Node.{Node}
use Rattle.sc_types.specs.declared.chart.Tag.TheVariants as tag
use Rattle.sc_law.specs.Nodes.{is_tag, kids, tag_of}
use Rattle.sc_law.specs.Legality.{default_ids}
use Rattle.sc_law.specs.Configurations.{children, initial_ids, named, state_defaults}

abbrev pub is_initial : Node → Bool
is_initial kid = is_tag tag.Initial (tag_of kid)

-- the first `initial` is the one that names the default
found : (ns : List Node) (k : Node) → Some k ≡ find is_initial ns → (initial_ids ns ≡ unwrap_or (default_ids k) []) × (list_any is_initial ns ≡ true)
found [] k h = absurd (cc)
found (n ∷ ns) k h = by (is_initial n) h (found ns k) where
  by : (v : Bool) → Some k ≡ cond v (Some n) (find is_initial ns)
      → (Some k ≡ find is_initial ns → (initial_ids ns ≡ unwrap_or (default_ids k) []) × (list_any is_initial ns ≡ true))
      → (cond v (unwrap_or (default_ids n) []) (initial_ids ns) ≡ unwrap_or (default_ids k) []) × ((v || list_any is_initial ns) ≡ true)
  by true h so = (ap (λ (m : Node). unwrap_or (default_ids m) []) (cc), refl)
  by false h so = so h

missing : (ns : List Node) → None ≡ find is_initial ns → list_any is_initial ns ≡ false
missing [] h = refl
missing (n ∷ ns) h = by (is_initial n) h (missing ns) where
  by : (v : Bool) → None ≡ cond v (Some n) (find is_initial ns) → (None ≡ find is_initial ns → list_any is_initial ns ≡ false)
      → (v || list_any is_initial ns) ≡ false
  by true h so = absurd (cc)
  by false h so = so h

pub by_element : (c : Chart) (n k : Node) (s : ℕ) (ids : List (List ℕ)) → has attribute.Initial n ≡ false → Some k ≡ find is_initial (kids n)
    → ids ≡ unwrap_or (default_ids k) [] → named c ids ≡ state_defaults c s n
by_element c n k s ids fails h e =
    let is = found (kids n) k h in
    rw fails (rw is.1 (ap (named c) (e ∙ sym is.0)))

pub by_first : (c : Chart) (n : Node) (s : ℕ) (ms : List ℕ) → has attribute.Initial n ≡ false → None ≡ find is_initial (kids n)
    → children c s ≡ ms → take 1 ms ≡ state_defaults c s n
by_first c n s ms fails h e =
    let no_one = missing (kids n) h in
    rw fails (rw no_one (ap (take 1) (sym e)))

-- what follows of a value that a call gave
pub if_gives : {X E : Type 0} (r : Result X E) (P Q : X → Type 0) → IfOk r P → ((x : X) → P x → Q x) → IfOk r Q
if_gives (Ok x) P Q h f = f x h
if_gives (Err e) P Q h f = tt
