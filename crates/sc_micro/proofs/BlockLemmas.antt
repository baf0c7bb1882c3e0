-- Blocks, one element after another.
use Rattle.std.proofs.Common.{◌≡◌, ℕ, ◌+◌, ◌<◌, ◌==◌, Bool, true, false, cond, List, ◌∷◌, [], ◌++◌, drop, filter, flat_map, length, get_or, refl, ap, ap₂, sym, ◌∙◌, add-one, drop-cons}
use Rattle.std.proofs.lemmas.List.{drop_more}
use Rattle.sc_types.specs.declared.chart.Chart.{Chart}
use Rattle.sc_types.specs.declared.chart.Node.{Node}
use Rattle.sc_types.specs.declared.chart.Tag.{Tag}
use Rattle.sc_law.specs.Configurations.{parent_of}
use Rattle.sc_law.specs.Content.{run_blocks}
use Rattle.sc_law.specs.Data.{with_tag}
use Rattle.sc_law.specs.Nodes.{is_tag, kids, tag_of}
use Rattle.sc_law.specs.Runs.{Running}
use Rattle.sc_law.specs.Tree.{kids_of}

blocks-append : (xs ys : List Node) (r : Running) → run_blocks (xs ++ ys) r ≡ run_blocks ys (run_blocks xs r)
blocks-append [] ys r = refl
blocks-append (x ∷ xs) ys r = blocks-append xs ys (run_blocks (x ∷ []) r)

parts-of : {A : Type 0} (f : A → List Node) (x : A) (xs : List A) (v : Bool)
    → flat_map f (cond v (x ∷ xs) xs) ≡ cond v (f x) [] ++ flat_map f xs
parts-of f x xs true = refl
parts-of f x xs false = refl

-- what stands in the elements of a tag from a place on
pub tagged-step : (t : Tag) (ns : List Node) (i : ℕ) (n : Node) (r : Running) → i < length ns → n ≡ get_or ns i n
    → run_blocks (flat_map kids (with_tag t (drop (i + 1) ns))) (run_blocks (cond (is_tag t (tag_of n)) (kids n) []) r)
    ≡ run_blocks (flat_map kids (with_tag t (drop i ns))) r
tagged-step t ns i n r within is =
    sym (ap (λ (ms : List Node). run_blocks (flat_map kids (with_tag t ms)) r)
    (drop-cons ns i n within ∙ ap₂ (λ (x : Node) (k : ℕ). x ∷ drop k ns) (sym is) (sym (add-one i)))
    ∙ ap (λ (ms : List Node). run_blocks ms r) (parts-of kids n (with_tag t (drop (i + 1) ns)) (is_tag t (tag_of n)))
    ∙ blocks-append (cond (is_tag t (tag_of n)) (kids n) []) (flat_map kids (with_tag t (drop (i + 1) ns))) r)

-- what stands in those of the noted histories from a place on that stand in a state
pub noted-step : (c : Chart) (noted : List ℕ) (i s : ℕ) (r : Running) → i < length noted
    → run_blocks (flat_map (kids_of c) (filter (λ h. parent_of c h == s) (drop (i + 1) noted)))
    (run_blocks (cond (parent_of c (get_or noted i 0) == s) (kids_of c (get_or noted i 0)) []) r)
    ≡ run_blocks (flat_map (kids_of c) (filter (λ h. parent_of c h == s) (drop i noted))) r
noted-step c noted i s r within =
    let h = get_or noted i 0 in
    let rest = filter (λ h. parent_of c h == s) (drop (i + 1) noted) in
    sym (ap (λ ns. run_blocks (flat_map (kids_of c) (filter (λ h. parent_of c h == s) ns)) r)
    (drop_more noted i 0 within)
    ∙ ap (λ (ms : List Node). run_blocks ms r) (parts-of (kids_of c) h rest (parent_of c h == s))
    ∙ blocks-append (cond (parent_of c h == s) (kids_of c h) []) (flat_map (kids_of c) rest) r)
