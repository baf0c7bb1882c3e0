-- How an invoke is started, one check after another.
use Rattle.std.proofs.Common.{◌≡◌, ℕ, ◌+◌, ◌++◌, true, cond, Option, Some, Ok, Err, List, [], ◌∷◌, map, refl, ap, sym, ◌∙◌}
use Rattle.std.specs.Option.{option_map_or}
use Rattle.sc_base.specs.Folds.{each}
use Rattle.sc_types.specs.Attributes.{Members, words_at}
use Rattle.sc_types.specs.declared.attribute.Attribute.TheVariants as attribute
use Rattle.sc_types.specs.declared.chart.Chart.{Chart}
use Rattle.sc_types.specs.declared.chart.Node.{Node}
use Rattle.sc_types.specs.declared.chart.Tag.TheVariants as tag
use Rattle.sc_law.specs.Evaluation.{Evaluated}
use Rattle.sc_law.specs.Invokes.{invoke_id, start_invoke, start_with, start_written}
use Rattle.sc_law.specs.Nodes.{kids}
use Rattle.sc_law.specs.Runs.{Running, failed}
use Rattle.sc_law.specs.Sending.{Child, PairsOf, child_of, children_of, names_of, param, params_of, put_param, with_child_tag}
use Rattle.sc_turn.specs.Starts.{may_start}

param-born : (name : List ℕ) (v : Evaluated) (got : PairsOf × Running) → (put_param name v got).1.born ≡ got.1.born
param-born name (Ok v) got = refl
param-born name (Err fault) got = refl

each-born : (ms : List Members) (got : PairsOf × Running) → (each param ms got).1.born ≡ got.1.born
each-born [] got = refl
each-born (m ∷ ms) got = each-born ms (param m got) ∙ param-born _ _ got

-- params start no session
pub params-born : (ks : List Child) (r q : Running) (pairs : PairsOf) → (pairs, q) ≡ params_of ks r → q.born ≡ r.born
params-born ks r q pairs h = ap (λ (got : PairsOf × Running). got.1.born) h ∙ each-born (with_child_tag tag.Param ks) ([], r)

-- the names have values, or nothing is started
abbrev after-names : Chart → ℕ → ℕ → Node → Running → Option PairsOf → Running
after-names c s place n r found =
    option_map_or (λ pairs. start_with c s place n pairs (params_of (children_of n) r)) found (failed [] r)

names-checked : (c : Chart) (s place : ℕ) (n : Node) (r : Running) (found : Option PairsOf) → may_start n r.born ≡ true
    → names_of (words_at attribute.NameList n) r.env ≡ found → start_invoke c s place n r ≡ after-names c s place n r found
names-checked c s place n r found may e =
    ap (λ v. cond v (after-names c s place n r (names_of (words_at attribute.NameList n) r.env)) (failed [] r)) may
    ∙ ap (after-names c s place n r) e

-- with the params, what is left is the write to `idlocation`
pub start-named : (c : Chart) (s place : ℕ) (n : Node) (r q z : Running) (named given : PairsOf) (ns : List Node)
    → may_start n r.born ≡ true → names_of (words_at attribute.NameList n) r.env ≡ Some named → ns ≡ kids n
    → (given, q) ≡ params_of (map child_of ns) r
    → start_written s place n (invoke_id c s n (r.born + 1)) (named ++ given) q ≡ z → start_invoke c s place n r ≡ z
start-named c s place n r q z named given ns may e own p w =
    let got : (given, q) ≡ params_of (children_of n) r = p ∙ ap (λ ks. params_of (map child_of ks) r) own in
    names-checked c s place n r (Some named) may e
    ∙ ap (λ (got : PairsOf × Running). start_with c s place n named got) (sym got)
    ∙ ap (λ k. start_written s place n (invoke_id c s n (k + 1)) (named ++ given) q) (params-born (children_of n) r q given got)
    ∙ w
