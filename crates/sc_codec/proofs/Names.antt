-- Names: what is read is spelled so, and what is spelled so is read.
use Rattle.std.proofs.Common.{◌≡◌, ℕ, ◌≤◌, List, ◌++◌, length, Some, arith}
use Rattle.sc_base.specs.Text.{IsWord, IsPlainName, is_word, is_plain_name}
use Rattle.sc_codec.specs.Bodies.{name_field, IsShort}
use Rattle.sc_codec.specs.Reading.{sized_from, word_from, plain_name_from}
use Rattle.sc_codec.proofs.Fields.{IsBytes, Taken, Takes, Again, takes_sized, again_sized}
use Rattle.sc_base.proofs.NameTests.{word_test, word_of_test, plain_test, plain_of_test}
use Rattle.sc_codec.proofs.Steps.{takes_tested, again_tested}

word_takes : (bytes name rest : List ℕ) → IsBytes bytes → word_from bytes ≡ Some (name, rest)
    → Taken bytes (name_field name) rest × (IsShort name × IsWord name)
unfolding word_from
word_takes bytes name rest h e =
    let t = (takes_tested is_word (sized_from 2) name_field (takes_sized 2)).of bytes name rest h e in
    (t.0, (t.1.0, word_of_test name t.1.1))

word_again : (name rest : List ℕ) → IsShort name × IsWord name → word_from (name_field name ++ rest) ≡ Some (name, rest)
unfolding word_from
word_again name rest p = (again_tested is_word (sized_from 2) name_field (again_sized 2)).of name rest
    (p.0, word_test name p.1)

plain_takes : (bytes name rest : List ℕ) → IsBytes bytes → plain_name_from bytes ≡ Some (name, rest)
    → Taken bytes (name_field name) rest × IsPlainName name
unfolding plain_name_from
plain_takes bytes name rest h e =
    let t = (takes_tested is_plain_name (sized_from 2) name_field (takes_sized 2)).of bytes name rest h e in
    (t.0, plain_of_test name t.1.1)

plain_again : (name rest : List ℕ) → IsPlainName name → plain_name_from (name_field name ++ rest) ≡ Some (name, rest)
unfolding plain_name_from
plain_again name rest p =
    let short : length name ≤ 128 = p.short in
    (again_tested is_plain_name (sized_from 2) name_field (again_sized 2)).of name rest (omega arith, plain_test name p)

-- what is taken as a word
pub takes_word : Takes word_from name_field (λ name. IsShort name × IsWord name)
takes_word = record { of = word_takes }

-- a word is read again
pub again_word : Again word_from name_field (λ name. IsShort name × IsWord name)
again_word = record { of = word_again }

-- what is taken as a plain name
pub takes_plain : Takes plain_name_from name_field IsPlainName
takes_plain = record { of = plain_takes }

-- a plain name is read again
pub again_plain : Again plain_name_from name_field IsPlainName
again_plain = record { of = plain_again }
