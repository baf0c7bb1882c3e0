-- Steps over the members of a row, and over the invoke elements of a state.
use Rattle.std.proofs.Common.{◌≡◌, ℕ, ◌+◌, ◌≤◌, nat_le, Some, None, List, [], ◌∷◌, drop, filter, find, length, refl, ap, ap₂, sym, ◌∙◌}
use Rattle.std.proofs.lemmas.List.{drop_all}
use Rattle.std.specs.List.{enumerate_from}
use Rattle.sc_base.specs.Folds.{each}
use Rattle.sc_bits.specs.Rows.{IsAscending}
use Rattle.sc_types.specs.declared.chart.Node.{Node}
use Rattle.sc_types.specs.declared.chart.Tag.TheVariants as tag
use Rattle.sc_types.specs.declared.event.Event.{Event}
use Rattle.sc_types.specs.declared.session.Invoked.{Invoked}
use Rattle.sc_types.specs.declared.chart.Chart.{Chart}
use Rattle.sc_law.specs.Invokes.{finalize_at, finalize_in, finalized, forwarded, invokes_of, running_of as invokes_of_element}
use Rattle.sc_law.specs.Nodes.{is_tag, tag_of}
use Rattle.sc_law.specs.Runs.{Running}
use Rattle.sc_law.specs.Tree.{kids_of}
use Rattle.sc_sets.proofs.Members.{from_on, next_none, next_some}

-- the next member, and then those behind it
pub member-step : (step : ℕ → Running → Running) (w from s : ℕ) (ms ns : List ℕ) (r q : Running) → IsAscending 0 w ms
    → Some s ≡ find (λ m. nat_le from m) ms → from ≤ s → ns ≡ ms → step s r ≡ q
    → each step (from_on (s + 1) ns) q ≡ each step (from_on from ms) r
member-step step w from s ms ns r q form e l same h =
    ap₂ (λ (xs : List ℕ) (x : Running). each step (from_on (s + 1) xs) x) same (sym h)
    ∙ ap (λ xs. each step xs r) (sym (next_some 0 w from s ms form e l))

-- no member is left
pub member-end : (step : ℕ → Running → Running) (from : ℕ) (ms : List ℕ) (r : Running) → None ≡ find (λ m. nat_le from m) ms
    → each step (from_on from ms) r ≡ r
member-end step from ms r e = ap (λ xs. each step xs r) (next_none from ms e)

-- the invoke elements from a place on
abbrev pub invokes_on : ℕ → List Node → List (ℕ × Node)
invokes_on i ns = filter (λ (p : ℕ × Node). is_tag tag.Invoke (tag_of p.1)) (enumerate_from i (drop i ns))

-- the invoke elements of a state were gone through
pub all-invokes : (c : Chart) (s i : ℕ) (step : ℕ × Node → Running → Running) (ns : List Node) (r q : Running) → kids_of c s ≡ ns
    → each step (invokes_on i ns) q ≡ each step (invokes_on 0 ns) r → length ns ≤ i → each step (invokes_of c s) r ≡ q
all-invokes c s i step ns r q own rest l =
    ap (λ (xs : List Node). each step (filter (λ (p : ℕ × Node). is_tag tag.Invoke (tag_of p.1)) (enumerate_from 0 xs)) r) own
    ∙ sym rest
    ∙ ap (λ (xs : List Node). each step (filter (λ (p : ℕ × Node). is_tag tag.Invoke (tag_of p.1)) (enumerate_from i xs)) q)
    (drop_all i ns l)

each-same : {A : Type 0} (step : A → Running → Running) (xs : List A) (r : Running) → ((x : A) → step x r ≡ r) → each step xs r ≡ r
each-same step [] r h = refl
each-same step (x ∷ xs) r h = ap (each step xs) (h x) ∙ each-same step xs r h

at-none : (s : ℕ) (e : Event) (p : ℕ × Node) (r : Running) → r.invokes ≡ [] → finalize_at s e p r ≡ r
at-none s e p r h =
    ap (λ is. each (λ (i : Invoked) (q : Running). forwarded p.1 e i (finalized p.1 e i q)) (invokes_of_element s p.0 is) r) h

-- where no invoke runs an event does nothing to one
pub none-run : (c : Chart) (e : Event) (ss : List ℕ) (r : Running) → r.invokes ≡ [] → each (finalize_in c e) ss r ≡ r
none-run c e ss r h =
    each-same (finalize_in c e) ss r (λ s. each-same (finalize_at s e) (invokes_of c s) r (λ p. at-none s e p r h))
