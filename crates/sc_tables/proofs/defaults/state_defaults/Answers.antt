use Rattle.std.proofs.Common.{◌≡◌, ℕ, List, Some, None, [], find, take, unwrap_or, ap, sym, ◌∙◌, rules}
use Rattle.sc_law.specs.Nodes.{kids}
use Rattle.sc_law.specs.Legality.{default_ids}
use Rattle.sc_law.specs.Configurations.{children, named, state_defaults}
use Rattle.sc_tables.proofs.DefaultTargets.{by_element, by_first, if_gives, is_initial}
use Rattle.sc_tables.proofs.defaults.state_defaults.Goals as goal

pub returns-in-Some : goal.returns-in-Some
returns-in-Some c =
    let fails = sym c.has.ensures ∙ c.if-has.false in
    let found : Some c.in-Some.initial.now ≡ find is_initial (kids c.args.node.now) = search rules in
    let ids : c.ids_or_none.result.now ≡ unwrap_or (default_ids c.in-Some.initial.now) [] = c.ids_or_none.ensures ∙ ap (λ o. unwrap_or o []) c.default_ids.ensures in
    let k = c.args.ids.now in
    let n = c.args.node.now in
    let row = c.args.row.now.members in
    if_gives _ (λ (ds : List ℕ). ds ≡ named k c.ids_or_none.result.now) (λ (ds : List ℕ). (s : ℕ) → children k s ≡ row → ds ≡ state_defaults k s n)
    c.named-in-Some.ensures (λ ds e s h. e ∙ by_element k n c.in-Some.initial.now s c.ids_or_none.result.now fails found ids)

pub returns-in-None : goal.returns-in-None
returns-in-None c =
    let fails = sym c.has.ensures ∙ c.if-has.false in
    let found : None ≡ find is_initial (kids c.args.node.now) = search rules in
    let k = c.args.ids.now in
    let n = c.args.node.now in
    let row = c.args.row.now.members in
    if_gives _ (λ (ds : List ℕ). ds ≡ take 1 row) (λ (ds : List ℕ). (s : ℕ) → children k s ≡ row → ds ≡ state_defaults k s n)
    c.first.ensures (λ ds e s h. e ∙ by_first k n s row fails found h)
