-- At the start of a session each datum of a legal chart is declared.
use Rattle.std.proofs.Common.{◌≡◌, ℕ, ◌&&◌, ◌||◌, Bool, true, false, cond, Option, Some, None, option_map, unwrap_or, List, [], ◌∷◌, find, map, refl, ◌∙◌}
use Rattle.std.specs.List.{AllByRecursion as AllOf, list_all, list_any}
use Rattle.std.specs.Option.{option_map_or}
use Rattle.std.specs.Str.{bytes_eq}
use Rattle.std.proofs.lemmas.List.Folds.{list_any-append}
use Rattle.std.proofs.lemmas.Slice.Eq.{bytes_eq-Decides}
use Rattle.sc_base.specs.Folds.{each}
use Rattle.sc_types.specs.ChartTexts.{fault}
use Rattle.sc_types.specs.declared.attribute.Attribute.TheVariants as attribute
use Rattle.sc_types.specs.declared.chart.Chart.{Chart}
use Rattle.sc_types.specs.declared.chart.ChartFault.{ChartFault}
use Rattle.sc_types.specs.declared.chart.Node.{Node}
use Rattle.sc_types.specs.declared.chart.Tag.TheVariants as tag
use Rattle.sc_types.specs.declared.value.Value.{Value}
use Rattle.sc_types.specs.Attributes.{text_at}
use Rattle.sc_law.specs.Nodes.{Path, element, elements, is_tag, tag_of}
use Rattle.sc_law.specs.Legality.{fault_at, first_fault, is_bad_data, is_null_model, is_repeated, is_system_name, legal_fault, needs_data, number_at, tests}
use Rattle.sc_law.specs.Runs.{Env, Running, with_env}
use Rattle.sc_law.specs.Evaluation.{is_pair_named}
use Rattle.sc_law.specs.Data.{begin_datum, data_paths, declare, declare_datum, first_data, is_declared, is_reserved, own_id}
use Rattle.sc_law.specs.Fitting.{data_elements, has_datum}
use Rattle.sc_sets.proofs.Union.Below.{all-of-filter}
use Rattle.sc_law_theorems.proofs.Turns.Data.{begun-moves, declare-moves, declared_all}
use Rattle.sc_law_theorems.proofs.Turns.FitsLists.{declared-keeps}
use Rattle.sc_law_theorems.proofs.Turns.Keeps.{each-moves, with_name_unset}
use Rattle.sc_law_theorems.proofs.Turns.Lists.{all-filter, all-two, true-of-all}

-- ---- names of data

fails-each : {A : Type 0} (test : A → Bool) (xs : List A) → find test xs ≡ None → AllOf (λ x. test x ≡ false) xs
fails-each test [] h = tt
fails-each test (x ∷ xs) h = by (test x) refl h (fails-each test xs) where
  by : (v : Bool) → test x ≡ v → cond v (Some x) (find test xs) ≡ None
      → (find test xs ≡ None → AllOf (λ y. test y ≡ false) xs)
      → (test x ≡ false) × AllOf (λ y. test y ≡ false) xs
  by true e h so = absurd (cc)
  by false e h so = (e, so h)

no-number : (o : Option ℕ) (path : Path) → option_map (λ n. fault n path []) o ≡ None → o ≡ None
no-number None path h = refl
no-number (Some n) path h = absurd (cc)

no-test : (o : Option (ℕ × (Chart → Path → Bool))) → option_map (λ (t : ℕ × (Chart → Path → Bool)). t.0) o ≡ None
    → o ≡ None
no-test None h = refl
no-test (Some t) h = absurd (cc)

data-at : (c : Chart) (p : Path) → fault_at c p ≡ None → is_bad_data c p ≡ false
data-at c p h =
    let number = no-number (number_at c p) p h in
    let each = fails-each (λ (t : ℕ × (Chart → Path → Bool)). t.1 c p) tests (no-test _ number) in
    each.1.1.1.1.1.1.1.1.1.1.0

none-first : (o later : Option ChartFault) → option_map_or Some o later ≡ None → (o ≡ None) × (later ≡ None)
none-first None later h = (refl, h)
none-first (Some f) later h = absurd (cc)

data-all : (c : Chart) (ps : List Path) → first_fault c ps ≡ None → AllOf (λ p. is_bad_data c p ≡ false) ps
data-all c [] h = tt
data-all c (p ∷ ps) h = let t = none-first (fault_at c p) (first_fault c ps) h in (data-at c p t.0, data-all c ps t.1)

data-legal : (c : Chart) → legal_fault c ≡ None → AllOf (λ p. is_bad_data c p ≡ false) (elements c)
unfolding legal_fault
data-legal c legal = data-all c (elements c) legal

-- no name that begins with `_`
plain-name : (o : Option (List ℕ)) → option_map_or is_system_name o false ≡ false → is_reserved (unwrap_or o []) ≡ false
plain-name None h = refl
plain-name (Some text) h = h

not-datum : (t u v w : Bool) → ((t && (u || v)) || w) ≡ false → t ≡ true → u ≡ false
not-datum true true v w h e = absurd (cc)
not-datum true false v w h e = refl
not-datum false u v w h e = absurd (cc)

plain-at : (c : Chart) (p : Path) → is_bad_data c p ≡ false → is_tag tag.DataItem (tag_of (element c p)) ≡ true
    → is_reserved (own_id (element c p)) ≡ false
plain-at c p h datum =
    plain-name (text_at attribute.Id (element c p))
    (not-datum (is_tag tag.DataItem (tag_of (element c p)))
    (option_map_or is_system_name (text_at attribute.Id (element c p)) false)
    (is_repeated (is_tag tag.DataItem) attribute.Id c p) (is_null_model c && needs_data (element c p)) h datum)

plain-names : (c : Chart) → legal_fault c ≡ None
    → AllOf (λ p. is_reserved (own_id (element c p)) ≡ false) (data_paths c)
plain-names c legal =
    all-two (λ p. is_bad_data c p ≡ false) (λ p. is_tag tag.DataItem (tag_of (element c p)) ≡ true)
    (λ p. is_reserved (own_id (element c p)) ≡ false) (data_paths c) (plain-at c)
    (all-filter (λ p. is_bad_data c p ≡ false) (λ path. is_tag tag.DataItem (tag_of (element c path))) (elements c)
    (data-legal c legal))
    (all-of-filter (λ path. is_tag tag.DataItem (tag_of (element c path))) (elements c))

-- ---- declarations

same-name : (name : List ℕ) → bytes_eq name name ≡ true
same-name name = (bytes_eq-Decides name name).1 refl

or-true : (v w : Bool) → w ≡ true → (v || (w || false)) ≡ true
or-true true w h = refl
or-true false true h = refl
or-true false false h = absurd (cc)

-- a name that was declared last is declared
unset-declared : (name : List ℕ) (e : Env) → is_declared name (with_name_unset name e) ≡ true
unset-declared name e =
    list_any-append (is_pair_named name) e.values ((name, None) ∷ [])
    ∙ or-true (list_any (is_pair_named name) e.values) (bytes_eq name name) (same-name name)

-- what a declaration gives
abbrev IsDeclaredIn : List ℕ → Option Env → Type 0
IsDeclaredIn name None = ⊥
IsDeclaredIn name (Some e) = is_declared name e ≡ true

declare-gives : (name : List ℕ) (e : Env) → is_reserved name ≡ false → IsDeclaredIn name (declare name e)
unfolding declare
declare-gives name e plain = by (is_reserved name) (is_declared name e) plain refl where
  by : (v w : Bool) → v ≡ false → is_declared name e ≡ w
      → IsDeclaredIn name (cond v None (cond w (Some e) (Some (with_name_unset name e))))
  by true w plain is = absurd (cc)
  by false true plain is = is
  by false false plain is = unset-declared name e

datum-declared : (n : Node) (r : Running) → is_reserved (own_id n) ≡ false
    → has_datum (declare_datum n r).env.values n ≡ true
datum-declared n r plain = by (declare (own_id n) r.env) (declare-gives (own_id n) r.env plain) where
  by : (o : Option Env) → IsDeclaredIn (own_id n) o
      → has_datum (option_map_or (λ env. with_env env r) o r).env.values n ≡ true
  by None h = absurd h
  by (Some e) h = h

-- one after another
each-declared : (c : Chart) (ps : List Path) (r : Running) → AllOf (λ p. is_reserved (own_id (element c p)) ≡ false) ps
    → AllOf (λ p. has_datum (each (λ path. declare_datum (element c path)) ps r).env.values (element c p) ≡ true) ps
each-declared c [] r plain = tt
each-declared c (p ∷ ps) r plain = (
  (each-moves (λ path. declare_datum (element c path)) ps (λ path. declare-moves (element c path))
      (declare_datum (element c p) r)).env.declared
      (own_id (element c p)) (datum-declared (element c p) r plain.0),
  each-declared c ps (declare_datum (element c p) r) plain.1,
)

all-map : (P : Node → Type 0) (f : Path → Node) (ps : List Path) → AllOf (λ p. P (f p)) ps → AllOf P (map f ps)
all-map P f [] h = tt
all-map P f (p ∷ ps) h = (h.0, all-map P f ps h.1)

all-declared : (c : Chart) (r : Running) → legal_fault c ≡ None
    → list_all (has_datum (declared_all c r).env.values) (data_elements c) ≡ true
all-declared c r legal =
    true-of-all (has_datum (declared_all c r).env.values) (data_elements c)
    (all-map (λ n. has_datum (declared_all c r).env.values n ≡ true) (element c) (data_paths c)
    (each-declared c (data_paths c) r (plain-names c legal)))

-- each datum of a legal chart is declared before the document is entered
pub first-declared : (c : Chart) (params : List (List ℕ × Value)) (r : Running) → legal_fault c ≡ None
    → list_all (has_datum (first_data c params r).env.values) (data_elements c) ≡ true
unfolding first_data
first-declared c params r legal =
    declared-keeps c (declared_all c r).env.values
    (each (begin_datum c params) (data_paths c) (declared_all c r)).env.values
    (begun-moves c params (declared_all c r)).env.declared (all-declared c r legal)
