-- Where an element that is no state stands among the states.
use Rattle.std.proofs.Common.{◌≡◌, ℕ, ◌+◌, ◌-◌, ◌<◌, ◌≤◌, ◌&&◌, not, Bool, true, false, cond, rules, All, List, [], ◌∷◌, ◌++◌, length, length-append, length-take, length-drop, take, drop, filter, get_or, refl, arith, ap, sym, ◌∙◌}
use Rattle.std.proofs.Math.ListN.{get_or-append}
use Rattle.std.proofs.lemmas.List.{drop_more, get_or-append_right, get_or-drop, get_or-take, take-append-drop}
use Rattle.std.proofs.lemmas.List.Elements.{All-filter, All-from_get_or, All-get_or, filter-append}
use Rattle.std.proofs.lemmas.List.Kept.{AllPairs-filter}
use Rattle.sc_types.specs.Elements.{is_numbered}
use Rattle.sc_types.specs.declared.chart.Chart.{Chart}
use Rattle.sc_types.specs.declared.chart.Tag.{Tag}
use Rattle.sc_types.specs.declared.chart.Tag.TheVariants as tag
use Rattle.sc_law.specs.Legality.{is_transition}
use Rattle.sc_law.specs.Nodes.{Path, element, elements, is_root, is_tag, tag_of}
use Rattle.sc_law.specs.Tree.{state_paths}
use Rattle.sc_tables.specs.Built.{IsPlacedIf, StandsBehind}
use Rattle.sc_tables.specs.Nearest.{path_at}
use Rattle.sc_tables.specs.Preorder.{IsPreorder, comes_before}
use Rattle.sc_tables.proofs.Elements.{elements_ordered}

abbrev pub is_state_path : Chart → Path → Bool
is_state_path c p = is_numbered (tag_of (element c p))

-- the states stand in document order
pub states_ordered : (c : Chart) → IsPreorder (state_paths c)
states_ordered c = record { pairs = AllPairs-filter (λ (p q : Path). comes_before p q ≡ true) (is_state_path c) (elements c) (elements_ordered c).pairs }

module _ (c : Chart) (i : ℕ) (l : i < length (elements c)) where
  here : Path
  here = path_at (elements c) i

  pub states_before : List Path
  states_before = filter (is_state_path c) (take i (elements c))

  states_after : List Path
  states_after = filter (is_state_path c) (drop (i + 1) (elements c))

  before_here : All (λ p. comes_before p here ≡ true) (take i (elements c))
  unfolding here
  before_here = All-from_get_or (λ (p : Path). comes_before p (path_at (elements c) i) ≡ true) (take i (elements c)) [] by where
    by : (k : ℕ) → k < length (take i (elements c)) → comes_before (get_or (take i (elements c)) k []) (path_at (elements c) i) ≡ true
    by k u = let long = length-take i (elements c) in let short : k < i = omega (arith, long) in
        rw (get_or-take i (elements c) k [] short) ((elements_ordered c).pairs k i [] short l)

  after_here : All (λ p. comes_before here p ≡ true) (drop (i + 1) (elements c))
  unfolding here
  after_here = All-from_get_or (λ (p : Path). comes_before (path_at (elements c) i) p ≡ true) (drop (i + 1) (elements c)) [] by where
    by : (k : ℕ) → k < length (drop (i + 1) (elements c)) → comes_before (path_at (elements c) i) (get_or (drop (i + 1) (elements c)) k []) ≡ true
    by k u = let long = length-drop (i + 1) (elements c) in
        rw (get_or-drop (i + 1) (elements c) k []) ((elements_ordered c).pairs i (i + 1 + k) [] (omega arith) (omega (arith, long)))

  parted : is_state_path c here ≡ false → state_paths c ≡ states_before ++ states_after
  unfolding here states_before states_after
  parted h =
      let f = is_state_path c in let es = elements c in
      ap (filter f) (sym (take-append-drop i es) ∙ ap (λ ds. take i es ++ ds) (drop_more es i [] l))
      ∙ filter-append f (take i es) (path_at es i ∷ drop (i + 1) es)
      ∙ ap (λ v. filter f (take i es) ++ cond v (path_at es i ∷ filter f (drop (i + 1) es)) (filter f (drop (i + 1) es))) h

  pub stands_behind : (paths : List Path) (path : Path) → paths ≡ state_paths c → path ≡ path_at (elements c) i → is_state_path c path ≡ false
      → 0 < length path → StandsBehind paths (length (filter (is_state_path c) (take i (elements c)))) path
  unfolding here states_before states_after
  stands_behind paths path e h none some = record {
    order = rw e (states_ordered c);
    within = omega (arith, ap length split, length-append states_before states_after);
    earlier = λ k u. rw (split, get_or-append states_before states_after [] k u, h) (All-get_or (λ (p : Path). comes_before p (path_at (elements c) i) ≡ true)
        states_before k [] u (All-filter (is_state_path c) (λ (p : Path). comes_before p (path_at (elements c) i) ≡ true) (take i (elements c)) before_here));
    later = λ k a u.
        let long = ap length split in
        let both = length-append states_before states_after in
        rw (split, get_or-append_right states_before states_after (length states_before) k [] refl a, h)
        (All-get_or (λ (p : Path). comes_before (path_at (elements c) i) p ≡ true) states_after (k - length states_before) [] (omega (arith, long, both))
        (All-filter (is_state_path c) (λ (p : Path). comes_before (path_at (elements c) i) p ≡ true) (drop (i + 1) (elements c)) after_here));
    some = some;
  } where
    split : paths ≡ states_before ++ states_after
    split = e ∙ parted (ap (is_state_path c) (sym h) ∙ none)

-- an element that is a transition
pub placed_if : (c : Chart) (i : ℕ) (paths : List Path) (path : Path) → i < length (elements c) → paths ≡ state_paths c
    → path ≡ path_at (elements c) i → IsPlacedIf (is_transition c path) paths (length (filter (is_state_path c) (take i (elements c)))) path
placed_if c i paths path l e h = record { behind = λ is. by is } where
  parts : (v w u : Bool) → (v && w && u) ≡ true → (v ≡ true) × (w ≡ true)
  parts true true u h = (refl, refl)
  parts true false u h = absurd (cc)
  parts false w u h = absurd (cc)

  not_numbered : (t : Tag) → is_tag tag.Transition t ≡ true → is_numbered t ≡ false
  not_numbered tag.Transition h = refl
  not_numbered t h = search rules

  some : (p : Path) → not (is_root p) ≡ true → 0 < length p
  some [] h = absurd (cc)
  some (x ∷ p) h = omega arith

  by : is_transition c path ≡ true → StandsBehind paths (length (filter (is_state_path c) (take i (elements c)))) path
  by is =
      let both = parts (is_tag tag.Transition (tag_of (element c path))) (not (is_root path)) _ is in
      stands_behind c i l paths path e h (not_numbered (tag_of (element c path)) both.0) (some path both.1)

-- how many states come before an element
pub states_before_le : (c : Chart) (i : ℕ) (paths : List Path) → paths ≡ state_paths c
    → length (filter (is_state_path c) (take i (elements c))) ≤ length paths
states_before_le c i paths e =
    let f = is_state_path c in
    let split : state_paths c ≡ filter f (take i (elements c)) ++ filter f (drop i (elements c)) =
    ap (filter f) (sym (take-append-drop i (elements c))) ∙ filter-append f (take i (elements c)) (drop i (elements c)) in
    let long = ap length (e ∙ split) in
    let both = length-append (filter f (take i (elements c))) (filter f (drop i (elements c))) in
    omega (arith, long, both)
