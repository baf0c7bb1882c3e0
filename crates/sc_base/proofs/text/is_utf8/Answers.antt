use Rattle.std.proofs.Common.{rules, ◌≡◌, Bool, true, false, sym, refl}
use Rattle.std.proofs.lemmas.Str.{IsUtf8-from_ascii, IsUtf8-from_is_utf8, is_utf8-from_IsUtf8}
use Rattle.sc_base.proofs.text.is_utf8.Goals as goal

pub returns-then-is_ascii-clause-value : goal.returns-then-is_ascii-clause-value
returns-then-is_ascii-clause-value c =
    sym (is_utf8-from_IsUtf8 _ (IsUtf8-from_ascii c.args.text.now (c.is_ascii.ensures c.if-is_ascii.true)))

pub returns-then-is_ascii-clause-form : goal.returns-then-is_ascii-clause-form
returns-then-is_ascii-clause-form c =
    let utf8 = IsUtf8-from_ascii c.args.text.now (c.is_ascii.ensures c.if-is_ascii.true) in (λ _. utf8, λ _. refl)

-- what is not true is false
not_true : (b : Bool) → ¬ (b ≡ true) → false ≡ b
not_true true n = absurd (n refl)
not_true false n = refl

pub returns-in-Ok-clause-value : goal.returns-in-Ok-clause-value
returns-in-Ok-clause-value c = sym (is_utf8-from_IsUtf8 _ (search rules))

pub returns-in-Err-clause-value : goal.returns-in-Err-clause-value
returns-in-Err-clause-value c = not_true _ λ e. let u = IsUtf8-from_is_utf8 _ e in search (rules, u)
