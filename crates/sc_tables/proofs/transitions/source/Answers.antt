use Rattle.std.proofs.Common.{◌≡◌, Bool, Some, None, true, false, [], sym, refl, arith, ◌∙◌}
use Rattle.std.proofs.lemmas.List.{get_or_read_under}
use Rattle.std.proofs.lemmas.Slice.Eq.{bytes_eq-Decides}
use Rattle.std.specs.Str.{bytes_eq}
use Rattle.sc_tables.specs.Nearest.{IsNearest, path_at}
use Rattle.sc_tables.proofs.Sources.{source-none, source-found, source-other}
use Rattle.sc_tables.proofs.transitions.source.Goals as goal

clash : (v : Bool) → v ≡ true → v ≡ false → ⊥
clash v t f = cc

pub returns-in_err-above : goal.returns-in_err-above
returns-in_err-above c =
    let none : IsNearest c.args.states.now.paths c.args.before c.args.path.now None = rw c.slice.ensures at c.in_err-above.ensures in
    rw c.from_residual.ensures (source-none c.args.states.now.paths c.args.before c.args.path.now c.requires.placed none)

pub returns-then-eq : goal.returns-then-eq
returns-then-eq c =
    let paths = c.args.states.now.paths in
    let a = c.in_ok-above.above in
    let near : IsNearest paths c.args.before c.args.path.now (Some a) = rw c.slice.ensures at c.in_ok-above.ensures in
    let same : c.parent.result.now ≡ c.slice-4.result.now = (bytes_eq-Decides c.parent.result.now c.slice-4.result.now).0 (sym c.eq.ensures ∙ c.if-eq.true) in
    let there : c.slice-4.result.now ≡ path_at paths a =
    c.slice-4.ensures ∙ get_or_read_under paths a _ _ [] (rw c.slice-3.ensures at c.index-slice-above.is) (omega (arith, near.0, c.requires.placed.within)) refl in
    source-found paths c.args.before a c.args.path.now c.requires.placed near.0 (sym c.parent.ensures ∙ same ∙ there)

pub returns-else-eq : goal.returns-else-eq
returns-else-eq c =
    let paths = c.args.states.now.paths in
    let a = c.in_ok-above.above in
    let near : IsNearest paths c.args.before c.args.path.now (Some a) = rw c.slice.ensures at c.in_ok-above.ensures in
    let there : c.slice-4.result.now ≡ path_at paths a =
    c.slice-4.ensures ∙ get_or_read_under paths a _ _ [] (rw c.slice-3.ensures at c.index-slice-above.is) (omega (arith, near.0, c.requires.placed.within)) refl in
    source-other paths c.args.before a c.args.path.now c.requires.placed near
    (λ e. (let same : bytes_eq c.parent.result.now c.slice-4.result.now ≡ true =
    (bytes_eq-Decides c.parent.result.now c.slice-4.result.now).1 (c.parent.ensures ∙ e ∙ sym there) in
    clash c.eq.result (c.eq.ensures ∙ same) c.if-eq.false))
