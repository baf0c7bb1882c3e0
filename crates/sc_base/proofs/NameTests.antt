-- The forms of names as tests.
use Rattle.std.proofs.Common.{◌≡◌, Bool, true, false, List, ℕ, length, refl}
use Rattle.std.proofs.lemmas.Bool.{and_parts, and_from, lt-ltb, ltb-true, le-leb, leb-true}
use Rattle.std.proofs.lemmas.Str.{IsUtf8-from_is_utf8, is_utf8-from_IsUtf8}
use Rattle.sc_base.specs.Text.{IsWord, IsPlainName, is_word, is_plain_name}

-- a word passes the test
pub word_test : (text : List ℕ) → IsWord text → is_word text ≡ true
word_test text w =
    and_from _ _
    (and_from _ _ (and_from _ _ (lt-ltb 0 (length text) w.name.some) w.name.each)
    (is_utf8-from_IsUtf8 text w.name.utf8))
    w.no_hash

-- what passes the test is a word
pub word_of_test : (text : List ℕ) → is_word text ≡ true → IsWord text
word_of_test text e =
    let all = and_parts _ _ e in
    let name = and_parts _ _ all.0 in
    let some = and_parts _ _ name.0 in
    record {
      name = record { utf8 = IsUtf8-from_is_utf8 text name.1; some = ltb-true 0 (length text) some.0; each = some.1 };
      no_hash = all.1;
    }

not_true : (b : Bool) → ¬ (b ≡ true) → b ≡ false
not_true true n = absurd (n refl)
not_true false n = refl

-- what is no word fails the test
pub no_word : (text : List ℕ) → ¬ IsWord text → is_word text ≡ false
no_word text n = not_true (is_word text) (λ e. n (word_of_test text e))

-- a plain name passes the test
pub plain_test : (text : List ℕ) → IsPlainName text → is_plain_name text ≡ true
plain_test text p = and_from _ _ (and_from _ _ (and_from _ _ (le-leb (length text) 128 p.short) p.first) p.each)
    p.no_keyword

-- what passes the test is a plain name
pub plain_of_test : (text : List ℕ) → is_plain_name text ≡ true → IsPlainName text
plain_of_test text e =
    let all = and_parts _ _ e in
    let form = and_parts _ _ all.0 in
    let some = and_parts _ _ form.0 in
    record { short = leb-true (length text) 128 some.0; first = some.1; each = form.1; no_keyword = all.1 }

-- what is no plain name fails the test
pub no_plain : (text : List ℕ) → ¬ IsPlainName text → is_plain_name text ≡ false
no_plain text n = not_true (is_plain_name text) (λ e. n (plain_of_test text e))

pub ruleset word_tests = (word_test, no_word)

pub ruleset plain_tests = (plain_test, no_plain)
