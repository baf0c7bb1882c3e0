-- The descent reads what the grammar spells: all of it, and nothing else.
use Rattle.std.proofs.Common.{◌≡◌, ◌≤◌, Some, List, [], ◌∷◌, refl, sym, ap, ◌∙◌, subst, append-nil, option_and_then}
use Rattle.std.proofs.lemmas.Option.{option_and_then_some, same_Some}
use Rattle.sc_types.specs.Expressions.{Spells, depth}
use Rattle.sc_types.specs.declared.expr.Expr.{Expr}
use Rattle.sc_types.specs.declared.token.Token.{Token}
use Rattle.sc_expr.specs.Descent.{whole, loose_at, expression_of}
use Rattle.sc_expr.proofs.GrammarComplete.{complete}
use Rattle.sc_expr.proofs.GrammarSound.{IsRead, sound}

-- nothing stands behind a whole expression
whole_reads : (ts rest : List Token) (a e : Expr) → loose_at 256 6 ts ≡ Some (a, rest) → whole (a, rest) ≡ Some e → Spells 256 6 e ts × (depth e ≤ 256)
whole_reads ts [] a e is h =
    let r : IsRead 256 6 ts (a, []) = sound 256 6 ts [] a is in
    subst (λ x. Spells 256 6 x ts × (depth x ≤ 256)) (same_Some a e h) (subst (λ us. Spells 256 6 a us) (sym (r.splits ∙ append-nil r.taken)) r.spelled, r.shallow)
whole_reads ts (t ∷ rest) a e is h = absurd (cc)

-- what is read is spelled
pub reads_spelled : (ts : List Token) (e : Expr) → expression_of ts ≡ Some e → Spells 256 6 e ts × (depth e ≤ 256)
reads_spelled ts e is = option_and_then_some whole (loose_at 256 6 ts) e is (λ r read end. whole_reads ts r.1 r.0 e read end)

-- what is spelled is read
pub spelled_reads : (ts : List Token) (e : Expr) → Spells 256 6 e ts → depth e ≤ 256 → expression_of ts ≡ Some e
spelled_reads ts e spelled shallow = ap (λ us. expression_of us) (sym (append-nil ts)) ∙ ap (option_and_then whole) (complete 256 6 e ts [] spelled shallow refl)

-- tokens spell one expression at most
pub one_tree : (ts : List Token) (a b : Expr) → Spells 256 6 a ts → depth a ≤ 256 → Spells 256 6 b ts → depth b ≤ 256 → a ≡ b
one_tree ts a b spelled shallow spelled' shallow' = same_Some a b (sym (spelled_reads ts a spelled shallow) ∙ spelled_reads ts b spelled' shallow')
