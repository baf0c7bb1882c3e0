-- What a legal chart has at each of its elements.
use Rattle.std.proofs.Common.{◌≡◌, ℕ, ◌+◌, ◌<◌, zero, suc, Bool, true, false, cond, Option, Some, None, option_map, option_and_then, unwrap_or, List, [], ◌∷◌, ◌++◌, append_assoc, append-nil, map, find, slice_get, refl, arith, ap, sym, subst}
use Rattle.std.specs.Option.{option_map_or}
use Rattle.sc_types.specs.ChartTexts.{fault}
use Rattle.sc_types.specs.Elements.{is_numbered}
use Rattle.sc_types.specs.declared.chart.Chart.{Chart}
use Rattle.sc_types.specs.declared.chart.ChartFault.{ChartFault}
use Rattle.sc_types.specs.declared.chart.Node.{Node}
use Rattle.sc_law.specs.Nodes.{Path, element, elements, elements_from, kids, node_at, tag_of}
use Rattle.sc_law.specs.Tree.{path_of, state_count}
use Rattle.sc_law.specs.Legality.{fault_at, first_fault, has_unknown_target, is_bad_history, is_bad_initial, legal_fault, number_at, tests}
use Rattle.sc_law.proofs.PathLemmas.{elements_from_node, paths_of_kids}
use Rattle.sc_tables.proofs.LegalRoots.{root_not_numbered}
use Rattle.sc_tables.proofs.LookUps.{numbered-at, path-is}
use Rattle.std.specs.List.{AllByRecursion as AllOf}

-- an element whose targets are known, and whose defaults are as they should be
pub record IsSound (c : Chart) (p : Path) : Type 0 where
  pub known : has_unknown_target c p ≡ false
  pub initial : is_bad_initial c p ≡ false
  pub history : is_bad_history c p ≡ false

-- each fails the test
abbrev FailEach : {A : Type 0} → (A → Bool) → List A → Type 0
FailEach test [] = Unit
FailEach test (x ∷ xs) = (test x ≡ false) × FailEach test xs

pub none-found : {A : Type 0} (test : A → Bool) (xs : List A) → find test xs ≡ None → FailEach test xs
none-found test [] h = tt
none-found test (x ∷ xs) h = by (test x) refl h (none-found test xs) where
  by : (v : Bool) → test x ≡ v → cond v (Some x) (find test xs) ≡ None → (find test xs ≡ None → FailEach test xs)
      → (test x ≡ false) × FailEach test xs
  by true e h so = absurd (cc)
  by false e h so = (e, so h)

pub no-number : (o : Option ℕ) (path : Path) → option_map (λ n. fault n path []) o ≡ None → o ≡ None
no-number None path h = refl
no-number (Some n) path h = absurd (cc)

pub no-test : (o : Option (ℕ × (Chart → Path → Bool))) → option_map (λ (t : ℕ × (Chart → Path → Bool)). t.0) o ≡ None → o ≡ None
no-test None h = refl
no-test (Some t) h = absurd (cc)

sound-at : (c : Chart) (p : Path) → fault_at c p ≡ None → IsSound c p
sound-at c p h =
    let number = no-number (number_at c p) p h in
    let each = none-found (λ (t : ℕ × (Chart → Path → Bool)). t.1 c p) tests (no-test _ number) in
    record { known = each.1.0; initial = each.1.1.0; history = each.1.1.1.0 }

pub none-first : (o later : Option ChartFault) → option_map_or Some o later ≡ None → (o ≡ None) × (later ≡ None)
none-first None later h = (refl, h)
none-first (Some f) later h = absurd (cc)

sound-all : (c : Chart) (ps : List Path) → first_fault c ps ≡ None → AllOf (IsSound c) ps
sound-all c [] h = tt
sound-all c (p ∷ ps) h =
    let both = none-first (fault_at c p) (first_fault c ps) h in (sound-at c p both.0, sound-all c ps both.1)

pub legal-sound : (c : Chart) → legal_fault c ≡ None → AllOf (IsSound c) (elements c)
unfolding legal_fault
legal-sound c legal = sound-all c (elements c) legal

-- ---- the elements of a tree

all-before : {A : Type 0} (P : A → Type 0) (xs ys : List A) → AllOf P (xs ++ ys) → AllOf P xs × AllOf P ys
all-before P [] ys h = (tt, h)
all-before P (x ∷ xs) ys h = let rest = all-before P xs ys h.1 in ((h.0, rest.0), rest.1)

all-kid : (P : Path → Type 0) (path : Path) (place k : ℕ) (ns : List Node) (n : Node) → slice_get ns k ≡ Some n
    → AllOf P (paths_of_kids path place (map elements_from ns)) → AllOf P (elements_from n (path ++ (place + k) ∷ []))
all-kid P path place k [] n is h = absurd (cc)
all-kid P path place zero (m ∷ ns) n is h =
    let parts = all-before P (elements_from m (path ++ place ∷ [])) (paths_of_kids path (place + 1) (map elements_from ns)) h in
    let same : m ≡ n = cc in
    subst (λ i. AllOf P (elements_from n (path ++ i ∷ []))) (omega arith) (subst (λ k. AllOf P (elements_from k (path ++ place ∷ []))) same parts.0)
all-kid P path place (suc k) (m ∷ ns) n is h =
    let parts = all-before P (elements_from m (path ++ place ∷ [])) (paths_of_kids path (place + 1) (map elements_from ns)) h in
    subst (λ i. AllOf P (elements_from n (path ++ i ∷ []))) (omega arith) (all-kid P path (place + 1) k ns n is parts.1)

-- what each element has, that at the end of any path has
pub element-has : (P : Path → Type 0) (n m : Node) (path q : Path) → node_at n q ≡ Some m → AllOf P (elements_from n path) → P (path ++ q)
element-has P n m path [] is h =
    subst P (sym (append-nil path)) (subst (AllOf P) (elements_from_node n path) h).0
element-has P n m path (k ∷ q) is h = by (slice_get (kids n) k) refl is (λ kid e at. element-has P kid m (path ++ k ∷ []) q at (below kid e)) where
  below : (kid : Node) → slice_get (kids n) k ≡ Some kid → AllOf P (elements_from kid (path ++ k ∷ []))
  below kid e = subst (λ i. AllOf P (elements_from kid (path ++ i ∷ []))) (omega arith)
      (all-kid P path 0 k (kids n) kid e (subst (AllOf P) (elements_from_node n path) h).1)

  by : (o : Option Node) → slice_get (kids n) k ≡ o → option_and_then (λ kid. node_at kid q) o ≡ Some m
      → ((kid : Node) → slice_get (kids n) k ≡ Some kid → node_at kid q ≡ Some m → P ((path ++ k ∷ []) ++ q)) → P (path ++ k ∷ q)
  by None e at go = absurd (cc)
  by (Some kid) e at go = subst P (append_assoc path (k ∷ []) q) (go kid e at)

-- ---- states

some-element : (c : Chart) (p : Path) (o : Option Node) → node_at c.root p ≡ o → legal_fault c ≡ None
    → is_numbered (tag_of (element c p)) ≡ true → (n : Node) × ((node_at c.root p ≡ Some n) × (element c p ≡ n))
some-element c p (Some n) e legal numbered = (n, (e, ap (λ (o : Option Node). unwrap_or o c.root) e))
some-element c p None e legal numbered =
    let root : element c p ≡ c.root = ap (λ (o : Option Node). unwrap_or o c.root) e in
    let no = root_not_numbered c legal in
    absurd (let yes : is_numbered (tag_of c.root) ≡ true = subst (λ (n : Node). is_numbered (tag_of n) ≡ true) root numbered in cc)

-- the path of a state of a legal chart leads to an element
pub state-node : (c : Chart) (s : ℕ) → legal_fault c ≡ None → s < state_count c
    → (n : Node) × ((node_at c.root (path_of c s) ≡ Some n) × (element c (path_of c s) ≡ n))
state-node c s legal l =
    some-element c (path_of c s) (node_at c.root (path_of c s)) refl legal
    (subst (λ p. is_numbered (tag_of (element c p)) ≡ true) (sym (path-is c s)) (numbered-at c s l))

-- each path of a legal chart has an element that is as it should be
pub legal-path : (c : Chart) (p : Path) (n : Node) → legal_fault c ≡ None → node_at c.root p ≡ Some n → IsSound c p
legal-path c p n legal is = element-has (IsSound c) c.root n [] p is (legal-sound c legal)

pub legal-state : (c : Chart) (s : ℕ) → legal_fault c ≡ None → s < state_count c → IsSound c (path_of c s)
legal-state c s legal l = let has = state-node c s legal l in legal-path c (path_of c s) has.0 legal has.1.0
