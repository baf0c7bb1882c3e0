-- The names that events can have.
use Rattle.std.proofs.Common.{◌≡◌, Bool, true, false, if◌then◌else◌, List, ℕ, length, nat_lt, Some, None, refl, ap, arith}
use Rattle.std.proofs.lemmas.Bool.{and_parts, and_from, lt-ltb, ltb-true}
use Rattle.std.proofs.lemmas.Bool.Decides.{nat_tests}
use Rattle.std.proofs.lemmas.List.Sums.{AllPass-from_list_all}
use Rattle.std.proofs.lemmas.Str.{IsUtf8-from_ascii, IsUtf8-from_is_utf8, is_utf8-from_IsUtf8}
use Rattle.std.proofs.lemmas.Str.Ascii.{IsAscii-from_all}
use Rattle.std.specs.List.{list_all}
use Rattle.sc_base.specs.Text.{IsName, is_name, is_name_byte}
use Rattle.sc_machine.specs.Endings.{name_in}

-- a name passes the test
name_test : (text : List ℕ) → IsName text → is_name text ≡ true
name_test text n =
    and_from _ _ (and_from _ _ (lt-ltb 0 (length text) n.some) n.each) (is_utf8-from_IsUtf8 text n.utf8)

-- what passes the test is a name
pub name_of_test : (text : List ℕ) → is_name text ≡ true → IsName text
name_of_test text e =
    let all = and_parts _ _ e in
    let some = and_parts _ _ all.0 in
    record { utf8 = IsUtf8-from_is_utf8 text all.1; some = ltb-true 0 (length text) some.0; each = some.1 }

not_true : (b : Bool) → ¬ (b ≡ true) → b ≡ false
not_true true n = absurd (n refl)
not_true false n = refl

-- a text that is a name, and one that is none
pub named : (text : List ℕ) → IsName text → name_in text ≡ Some text
named text n = ap (λ b. if b then Some text else None) (name_test text n)

pub unnamed : (text : List ℕ) → ¬ IsName text → name_in text ≡ None
unnamed text n = ap (λ b. if b then Some text else None) (not_true (is_name text) (λ e. n (name_of_test text e)))

pub ruleset names = (named, unnamed)

-- a text of bytes of ASCII that are bytes of names
pub fixed_name : (text : List ℕ) → list_all (λ b. nat_lt b 128) text ≡ true → list_all is_name_byte text ≡ true
    → nat_lt 0 (length text) ≡ true → is_name text ≡ true
fixed_name text below each some =
    let ascii = IsAscii-from_all text (λ i d l.
    grind (arith, nat_tests, AllPass-from_list_all (λ b. nat_lt b 128) text below i d l)) in
    and_from _ _ (and_from _ _ some each) (is_utf8-from_IsUtf8 text (IsUtf8-from_ascii text ascii))
