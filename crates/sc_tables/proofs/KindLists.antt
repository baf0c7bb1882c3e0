-- The kinds of states as a list.
use Rattle.std.proofs.Common.{◌≡◌, ℕ, zero, suc, ◌+◌, ◌<◌, ◌≤◌, inl, inr, All, Bool, false, not, cond, Some, List, [], ◌∷◌, ◌++◌, length, length-append, filter, map, get_or, refl, arith, ap, ap₂, sym, ◌∙◌}
use Rattle.std.proofs.lemmas.List.Elements.{All-cons, All-filter, All-nil}
use Rattle.std.proofs.lemmas.List.FromFn.{filter_of_map_range_with_len_more}
use Rattle.std.specs.List.{range_with_len}
use Rattle.std.proofs.lemmas.Bool.{cases_lt}
use Rattle.std.proofs.Math.ListN.{get_or-append}
use Rattle.std.proofs.Math.Seq.{get_or-append_seam}
use Rattle.std.specs.Option.{option_map_or}
use Rattle.sc_types.specs.declared.chart.Chart.{Chart}
use Rattle.sc_types.specs.declared.state_kind.StateKind.{StateKind}
use Rattle.sc_types.specs.declared.state_kind.StateKind.TheVariants.{Atomic}
use Rattle.sc_law.specs.Kinds.{is_history, is_history_kind, kind_of}
use Rattle.sc_law.specs.Tree.{state_count}
use Rattle.sc_tables.specs.Blocks.{is_history_in}
use Rattle.sc_tables.specs.Built.{HasKinds}
use Rattle.sc_tables.proofs.Numbers.{AreBelow}

-- the kinds of the first states
pub record Kinds (c : Chart) (n : ℕ) (kinds : List StateKind) : Type 0 where
  pub size : length kinds ≡ n
  pub each : (s : ℕ) → s < n → Some (get_or kinds s Atomic) ≡ kind_of c s

-- one kind more
pub kinds-more : (c : Chart) (old new : List StateKind) (kind : StateKind) (n : ℕ) → length old ≡ n
    → ((s : ℕ) → s < n → Some (get_or old s Atomic) ≡ kind_of c s) → Some kind ≡ kind_of c n → new ≡ old ++ kind ∷ [] → Kinds c (n + 1) new
kinds-more c old new kind n size each here e = record {
  size = ap length e ∙ length-append old (kind ∷ []) ∙ omega (arith, size);
  each = λ s l. ap (λ (ks : List StateKind). Some (get_or ks s Atomic)) e ∙ at s l;
} where
  at : (s : ℕ) → s < n + 1 → Some (get_or (old ++ kind ∷ []) s Atomic) ≡ kind_of c s
  at s l = elim (cases_lt s n) [
    | inl below ↦ ap (λ (k : StateKind). Some k) (get_or-append old (kind ∷ []) Atomic s (omega (arith, size))) ∙ each s below
    | inr g ↦ (let same : s ≡ length old = omega (arith, size) in let same_n : n ≡ s = omega arith in
        ap (λ i. Some (get_or (old ++ kind ∷ []) i Atomic)) same ∙ ap (λ (k : StateKind). Some k) (get_or-append_seam old kind [] Atomic)
        ∙ here ∙ ap (kind_of c) same_n)
  ]

-- a state is a history by the list exactly where it is one
pub history-is : (c : Chart) (kinds : List StateKind) (s : ℕ) → HasKinds c kinds → s < state_count c → is_history_in kinds s ≡ is_history c s
history-is c kinds s has l = ap (λ o. option_map_or is_history_kind o false) (has.each s l)

pub kept-same : (c : Chart) (kinds : List StateKind) (ns : List ℕ) → HasKinds c kinds → AreBelow (state_count c) ns
    → filter (λ kid. not (is_history_in kinds kid)) ns ≡ filter (λ kid. not (is_history c kid)) ns
kept-same c kinds [] has h = refl
kept-same c kinds (n ∷ ns) has h =
    ap₂ (λ (v : Bool) (ms : List ℕ). cond v (n ∷ ms) ms) (ap not (history-is c kinds n has h.0)) (kept-same c kinds ns has h.1)

pub histories-same : (c : Chart) (kinds : List StateKind) (ns : List ℕ) → HasKinds c kinds → AreBelow (state_count c) ns
    → filter (is_history_in kinds) ns ≡ filter (is_history c) ns
histories-same c kinds [] has h = refl
histories-same c kinds (n ∷ ns) has h =
    ap₂ (λ (v : Bool) (ms : List ℕ). cond v (n ∷ ms) ms) (history-is c kinds n has h.0) (histories-same c kinds ns has h.1)

map-own : (ns : List ℕ) → map (λ (m : ℕ). m) ns ≡ ns
map-own [] = refl
map-own (n ∷ ns) = ap (λ ms. n ∷ ms) (map-own ns)

-- the numbers up to one more
pub filtered-more : (p : ℕ → Bool) (n : ℕ)
    → filter p (range_with_len 0 (n + 1)) ≡ filter p (range_with_len 0 n) ++ cond (p n) (n ∷ []) []
filtered-more p n =
    ap (filter p) (sym (map-own (range_with_len 0 (n + 1)))) ∙ filter_of_map_range_with_len_more p (λ k. k) 0 n n (omega arith)
    ∙ ap (λ ns. filter p ns ++ cond (p n) (n ∷ []) []) (map-own (range_with_len 0 n))

-- the first numbers are below their count
pub range-below : (count a n : ℕ) → a + n ≤ count → AreBelow count (range_with_len a n)
range-below count a zero l = tt
range-below count a (suc n) l = (omega arith, range-below count (a + 1) n (omega arith))

-- the histories by the list of kinds are those of the chart
pub histories_of : (c : Chart) (kinds : List StateKind) (n : ℕ) (hs : List ℕ) → HasKinds c kinds → n ≡ state_count c
    → hs ≡ filter (is_history_in kinds) (range_with_len 0 n) → hs ≡ filter (is_history c) (range_with_len 0 (state_count c))
histories_of c kinds n hs has e h =
    h ∙ ap (λ m. filter (is_history_in kinds) (range_with_len 0 m)) e
    ∙ histories-same c kinds (range_with_len 0 (state_count c)) has (range-below (state_count c) 0 (state_count c) (omega arith))

all-below : (n : ℕ) (ms : List ℕ) → AreBelow n ms → All (λ m. m < n) ms
all-below n [] h = All-nil (λ (m : ℕ). m < n)
all-below n (m ∷ ms) h = All-cons (λ (k : ℕ). k < n) m ms h.0 (all-below n ms h.1)

-- each history has a number of the chart
pub histories-within : (c : Chart) → All (λ s. s < state_count c) (filter (is_history c) (range_with_len 0 (state_count c)))
histories-within c =
    All-filter (is_history c) (λ (s : ℕ). s < state_count c) (range_with_len 0 (state_count c))
    (all-below (state_count c) (range_with_len 0 (state_count c)) (range-below (state_count c) 0 (state_count c) (omega arith)))
