-- How the lists of a literal are read.
use Rattle.std.proofs.Common.{◌≡◌, ◌<◌, ◌≤◌, Bool, true, false, Some, None, List, [], ◌∷◌, ◌++◌, ℕ, refl, ap, sym, subst, ◌∙◌, arith, drop, length, nat_lt}
use Rattle.std.proofs.lemmas.Bool.{cond-false, cond-true, lt-ltb, le-ltb}
use Rattle.std.specs.Prelude.{MatchOption, Option, option_and_then}
use Rattle.sc_types.specs.Values.{Open, behind, due, single}
use Rattle.sc_types.specs.declared.token.Mark.TheVariants.{OpenSquare, CloseSquare, Comma}
use Rattle.sc_types.specs.declared.token.Token.{Token}
use Rattle.sc_types.specs.declared.token.Token.TheVariants.{Mark as Sign}
use Rattle.sc_types.specs.declared.value.Value.{Value}
use Rattle.sc_types.specs.declared.value.Value.TheVariants.{List as Listed}
use Rattle.sc_expr.specs.Literals.{HasItem, after_items, goes_on, is_close, is_open, separator}

-- what the lexer tells of the next token
abbrev Told : Option Token → List Token → List Token → Type 0
Told o old new = MatchOption o ((old ≡ []) × (new ≡ [])) (λ t. old ≡ t ∷ new)

-- a token that it gives stood in front
pub next_some : (o : Option Token) (t : Token) (old new : List Token) → o ≡ Some t → Told o old new → old ≡ t ∷ new
next_some o t old new e told = subst (λ q. Told q old new) e told

-- where it gives none, none was left
pub next_none : (o : Option Token) (old new : List Token) → o ≡ None → Told o old new → old ≡ []
next_none o old new e told = (subst (λ q. Told q old new) e told).0

-- a token that is no bracket stands for a value, or for none
pub alone : (lists : Open) (t : Token) (ts : List Token) → is_open t ≡ false → is_close t ≡ false
    → due lists (t ∷ ts) ≡ option_and_then (λ v. behind v lists ts) (single t)
unfolding due
alone lists (Sign OpenSquare) ts o c = absurd (cc)
alone lists (Sign CloseSquare) ts o c = absurd (cc)
alone lists (Sign m) ts o c = refl
alone lists t ts o c = refl

-- behind a comma a bracket closes nothing
pub none_closed : (lists : Open) (ts : List Token) → HasItem lists → due lists (Sign CloseSquare ∷ ts) ≡ None
unfolding due
none_closed [] ts h = refl
none_closed ([] ∷ lists) ts h = absurd (omega (arith, h))
none_closed ((v ∷ vs) ∷ lists) ts h = refl

-- where nothing is left, no value comes
pub none_left : (lists : Open) → due lists [] ≡ None
unfolding due
none_left lists = refl

pub close_of : (t : Token) → is_close t ≡ true → t ≡ Sign CloseSquare
close_of (Sign CloseSquare) h = refl
close_of (Sign m) h = absurd (cc)
close_of t h = absurd (cc)

-- a bracket opens a list where one more may be open
pub opens : (lists : Open) (ts : List Token) → length lists < 8 → due lists (Sign OpenSquare ∷ ts) ≡ due ([] ∷ lists) ts
unfolding due
opens lists ts h = cond-true (nat_lt (length lists) 8) (due ([] ∷ lists) ts) None (lt-ltb (length lists) 8 h)

-- and none where no more may
pub opens_none : (lists : Open) (ts : List Token) → 8 ≤ length lists → due lists (Sign OpenSquare ∷ ts) ≡ None
unfolding due
opens_none lists ts h = cond-false (nat_lt (length lists) 8) (due ([] ∷ lists) ts) None (le-ltb (length lists) 8 h)

-- a bracket right behind that of a list closes it
pub empty_list : (lists : Open) (ts : List Token) → due ([] ∷ lists) (Sign CloseSquare ∷ ts) ≡ behind (Listed []) lists ts
unfolding due
empty_list lists ts = refl

-- behind an item stand a comma and more, or the bracket
pub behind_item : (v : Value) (items : List Value) (lists : Open) (ts : List Token)
    → behind v (items ∷ lists) ts ≡ after_items (items ++ v ∷ []) lists ts
unfolding due
behind_item v items lists [] = refl
behind_item v items lists (Sign Comma ∷ ts) = refl
behind_item v items lists (Sign CloseSquare ∷ ts) = refl
behind_item v items lists (t ∷ ts) = refl

-- one item more was read
pub an_item : (items all : List Value) (lists : Open) (ts rest new : List Token) (v : Value) → separator ts ≡ Some true
    → rest ≡ drop 1 ts → due (items ∷ lists) rest ≡ behind v (items ∷ lists) new → all ≡ items ++ v ∷ []
    → after_items all lists new ≡ after_items items lists ts
an_item items all lists ts rest new v sep r is a =
    ap (λ (vs : List Value). after_items vs lists new) a ∙ sym (behind_item v items lists new) ∙ sym is
    ∙ ap (due (items ∷ lists)) r ∙ sym (ap (goes_on items lists ts) sep)

-- a comma without an item behind it is refused
pub no_item : (items : List Value) (lists : Open) (ts rest : List Token) → separator ts ≡ Some true → rest ≡ drop 1 ts
    → due (items ∷ lists) rest ≡ None → after_items items lists ts ≡ None
no_item items lists ts rest sep r none =
    ap (goes_on items lists ts) sep ∙ ap (due (items ∷ lists)) (sym r) ∙ none

-- a value with nothing behind it is that of all tokens
pub ended : (v : Value) (ts : List Token) → ts ≡ [] → behind v [] ts ≡ Some v
unfolding due
ended v ts e = ap (behind v []) e

-- with more behind it there is none
pub unended : (v : Value) (ts : List Token) → ¬ (ts ≡ []) → behind v [] ts ≡ None
unfolding due
unended v [] h = absurd (h refl)
unended v (t ∷ ts) h = refl
