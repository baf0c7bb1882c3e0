-- Initial values, one data model after another.
use Rattle.std.proofs.Common.{◌≡◌, ℕ, ◌+◌, ◌<◌, Bool, true, false, cond, List, ◌∷◌, [], ◌++◌, drop, flat_map, length, get_or, refl, ap, ap₂, sym, ◌∙◌, add-one, drop-cons}
use Rattle.sc_base.specs.Folds.{each}
use Rattle.sc_types.specs.declared.chart.Node.{Node}
use Rattle.sc_types.specs.declared.chart.Tag.TheVariants as tag
use Rattle.sc_law.specs.Data.{initialise, with_tag}
use Rattle.sc_law.specs.Nodes.{is_tag, kids, tag_of}
use Rattle.sc_law.specs.Runs.{Running}
use Rattle.sc_exec.specs.Initial.{data_in, of_model}

each_append : {A S : Type 0} (step : A → S → S) (xs ys : List A) (s : S) → each step (xs ++ ys) s ≡ each step ys (each step xs s)
each_append step [] ys s = refl
each_append step (x ∷ xs) ys s = each_append step xs ys (step x s)

models : (n : Node) (ns : List Node) (b : Bool)
    → flat_map kids (cond b (n ∷ with_tag tag.DataModel ns) (with_tag tag.DataModel ns)) ≡ cond b (kids n) [] ++ data_in ns
models n ns true = refl
models n ns false = refl

-- the data of the elements from a place on are those of the element there, and those behind it
pub data_step : (ns : List Node) (i : ℕ) (n : Node) (r : Running) → i < length ns → n ≡ get_or ns i n
    → each (initialise []) (data_in (drop i ns)) r
    ≡ each (initialise []) (data_in (drop (i + 1) ns)) (each (initialise []) (of_model n) r)
data_step ns i n r within is =
    ap (λ (ms : List Node). each (initialise []) (data_in ms) r)
    (drop-cons ns i n within ∙ ap₂ (λ (x : Node) (k : ℕ). x ∷ drop k ns) (sym is) (sym (add-one i)))
    ∙ ap (λ (ms : List Node). each (initialise []) ms r) (models n (drop (i + 1) ns) (is_tag tag.DataModel (tag_of n)))
    ∙ each_append (initialise []) (of_model n) (data_in (drop (i + 1) ns)) r
