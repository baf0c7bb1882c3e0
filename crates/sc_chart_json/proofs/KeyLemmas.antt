-- The members of an object, as they stand in a tree.
use Rattle.std.proofs.Common.{◌≡◌, ◌&&◌, ℕ, Bool, true, false, List, [], ◌∷◌, Bor, Global, nat_cmp, is_eq, Ordering, Less, Equal, Greater, refl, sym, ap, ◌∙◌}
use Rattle.std.proofs.lemmas.Map.Text.{is_eq-slice_cmp}
use Rattle.std.proofs.lemmas.Slice.Eq.{bytes_eq-Decides}
use Rattle.std.specs.Cmp.Lexicographic.{slice_cmp}
use Rattle.std.specs.List.{list_all}
use Rattle.std.specs.Ordering.{match_ordering}
use Rattle.json.specs.declared.value.Value.{Value}
use Rattle.serde_json.specs.Data.{Data, Members, no_members, member, put}
use Rattle.sc_types.specs.ChartTexts.{is_known, are_known}
use Rattle.sc_types.specs.declared.chart.Tag.{Tag}
use Rattle.sc_chart_json.specs.Trees.{view, put_members}

once : (a b : Bool) → a && b ≡ a && (a && b)
once true b = refl
once false b = refl

swapped : (a b c : Bool) → a && (b && c) ≡ b && (a && c)
swapped true b c = refl
swapped false true c = refl
swapped false false c = refl

regrouped : (a b c : Bool) → a && (b && c) ≡ (b && a) && c
regrouped true true c = refl
regrouped true false c = refl
regrouped false true c = refl
regrouped false false c = refl

with_true : (a : Bool) → a && true ≡ a
with_true true = refl
with_true false = refl

put_at : (tag : Tag) (o : Ordering) (k l : List ℕ) (d e : Data) (ms : Members) → slice_cmp nat_cmp k l ≡ o → are_known tag (put k d ms) ≡ is_known tag k && are_known tag ms
    → are_known tag (match_ordering o (member k d (member l e ms)) (member l d ms) (member l e (put k d ms))) ≡ is_known tag k && (is_known tag l && are_known tag ms)
put_at tag Less k l d e ms is more = refl
put_at tag Equal k l d e ms is more =
    let same : k ≡ l = (bytes_eq-Decides k l).0 (sym (is_eq-slice_cmp k l) ∙ ap is_eq is) in
    once (is_known tag l) (are_known tag ms) ∙ ap (λ n. is_known tag n && (is_known tag l && are_known tag ms)) (sym same)
put_at tag Greater k l d e ms is more = ap (λ v. is_known tag l && v) more ∙ swapped (is_known tag l) (is_known tag k) (are_known tag ms)

are_known-put : (tag : Tag) (k : List ℕ) (d : Data) (ms : Members) → are_known tag (put k d ms) ≡ is_known tag k && are_known tag ms
are_known-put tag k d no_members = refl
are_known-put tag k d (member l e ms) = put_at tag (slice_cmp nat_cmp k l) k l d e ms refl (are_known-put tag k d ms)

put_all : (tag : Tag) (ms : List (Bor (List ℕ) × Value Global)) (old : Members)
    → are_known tag (put_members ms old) ≡ list_all (λ m. is_known tag m.0.now) ms && are_known tag old
put_all tag [] old = refl
put_all tag (m ∷ ms) old =
    put_all tag ms (put m.0.now (view m.1) old)
    ∙ ap (λ v. list_all (λ m. is_known tag m.0.now) ms && v) (are_known-put tag m.0.now (view m.1) old)
    ∙ regrouped (list_all (λ m. is_known tag m.0.now) ms) (is_known tag m.0.now) (are_known tag old)

-- the names in a tree are known exactly where those of the object are
pub are_known-members : (tag : Tag) (ms : List (Bor (List ℕ) × Value Global)) → list_all (λ m. is_known tag m.0.now) ms ≡ are_known tag (put_members ms no_members)
are_known-members tag ms = sym (put_all tag ms no_members ∙ with_true _)
