-- How the entries of a text are read one after another.
use Rattle.std.proofs.Common.{◌≡◌, ◌≢◌, ℕ, suc, ◌+◌, ◌-◌, ◌^◌, ◌<◌, ◌≤◌, ◌==◌, cond, All, Option, None, Some, Result, Ok, Err, List, [], ◌∷◌, ◌++◌, length, get_or, take, drop, flat_map, refl, sym, ◌∙◌, ap, arith, append_assoc, length-append, take-append-drop}
use Rattle.std.proofs.lemmas.Bool.Decides.{nat_tests}
use Rattle.std.proofs.lemmas.List.Elements.{All-nil}
use Rattle.std.proofs.lemmas.List.{append-nil, take_rest, drop_more, drop-drop, flat_map_more}
use Rattle.sc_frame.specs.Fields.{number_field}
use Rattle.sc_frame.proofs.FieldLemmas.{length-number_field}
use Rattle.sc_journal.specs.Texts.{HeadOf, IsBody, header, entry, front, body_at, joined, with_body, entries_from}

-- these bodies in front of those
abbrev pub prefixed : List (List ℕ) → Result (List (List ℕ)) ℕ → Result (List (List ℕ)) ℕ
prefixed bodies (Ok more) = Ok (bodies ++ more)
prefixed bodies (Err place) = Err place

pub prefixed-joined : (bodies : List (List ℕ)) (body : List ℕ) (r : Result (List (List ℕ)) ℕ) → prefixed bodies (joined body r) ≡ prefixed (bodies ++ body ∷ []) r
prefixed-joined bodies body (Ok more) = ap Ok (sym (append_assoc bodies (body ∷ []) more))
prefixed-joined bodies body (Err place) = refl

pub prefixed-none : (r : Result (List (List ℕ)) ℕ) → prefixed [] r ≡ r
prefixed-none (Ok more) = refl
prefixed-none (Err place) = refl

open-gate : (gate : ℕ) (X : Type 0) (a b : X) → gate ≡ 1 → cond (gate == 1) a b ≡ a
open-gate gate X a b is = grind (arith, nat_tests)

shut-gate : (gate : ℕ) (X : Type 0) (a b : X) → gate ≢ 1 → cond (gate == 1) a b ≡ b
shut-gate gate X a b is = grind (arith, nat_tests)

at-gate : (steps number at : ℕ) (text : List ℕ) → at < length text
    → entries_from (suc steps) number at (drop at text) ≡ entries_from (suc steps) number at (get_or text at 0 ∷ drop (at + 1) text)
at-gate steps number at text l = ap (entries_from (suc steps) number at) (drop_more text at 0 l)

-- at an open gate with a whole entry
pub entries-step : (steps number at : ℕ) (text body : List ℕ) → at < length text → get_or text at 0 ≡ 1 → body_at number (drop (at + 1) text) ≡ Some body
    → entries_from (suc steps) number at (drop at text) ≡ joined body (entries_from steps (number + 1) (at + 5 + length body) (drop (at + 5 + length body) text))
entries-step steps number at text body l is some =
    let place : at + 1 + (4 + length body) ≡ at + 5 + length body = omega arith in
    at-gate steps number at text l
    ∙ open-gate (get_or text at 0) _ _ _ is
    ∙ ap (λ (o : Option (List ℕ)). with_body o at (λ b. entries_from steps (number + 1) (at + 5 + length b) (drop (4 + length b) (drop (at + 1) text)))) some
    ∙ ap (λ (t : List ℕ). joined body (entries_from steps (number + 1) (at + 5 + length body) t)) (drop-drop (4 + length body) (at + 1) text ∙ ap (λ (n : ℕ). drop n text) place)

-- with a damaged one
pub entries-damaged : (steps number at : ℕ) (text : List ℕ) → at < length text → get_or text at 0 ≡ 1 → body_at number (drop (at + 1) text) ≡ None
    → entries_from (suc steps) number at (drop at text) ≡ Err at
entries-damaged steps number at text l is none =
    at-gate steps number at text l ∙ open-gate (get_or text at 0) _ _ _ is
    ∙ ap (λ (o : Option (List ℕ)). with_body o at (λ b. entries_from steps (number + 1) (at + 5 + length b) (drop (4 + length b) (drop (at + 1) text)))) none

-- and at a closed one
pub entries-closed : (steps number at : ℕ) (text : List ℕ) → at < length text → get_or text at 0 ≢ 1 → entries_from (suc steps) number at (drop at text) ≡ Ok []
entries-closed steps number at text l shut = at-gate steps number at text l ∙ shut-gate (get_or text at 0) _ _ _ shut

-- the bytes of one entry more
pub length-entries : (bodies : List (List ℕ)) (body : List ℕ) → length (flat_map entry (bodies ++ body ∷ [])) ≡ length (flat_map entry bodies) + (5 + length body)
length-entries bodies body =
    let size : length (entry body) ≡ 5 + length body = omega (arith, length-append (number_field 4 (length body)) body, length-number_field 4 (length body)) in
    ap length (sym (flat_map_more entry [] bodies body)) ∙ length-append (flat_map entry bodies) (entry body) ∙ ap (λ (n : ℕ). length (flat_map entry bodies) + n) size

-- ---- the steps of the reader, which has read these bodies so far

module _ (number at : ℕ) (text : List ℕ) (bodies : List (List ℕ)) (all : Result (List (List ℕ)) ℕ) (within : at < length text) (few : length bodies + 20 ≤ at)
    (so_far : prefixed bodies (entries_from (length text - length bodies) number at (drop at text)) ≡ all) where
  one-more : length text - length bodies ≡ suc (length text - length bodies - 1)
  one-more = omega arith

  stepped : prefixed bodies (entries_from (suc (length text - length bodies - 1)) number at (drop at text)) ≡ all
  stepped = ap (λ (n : ℕ). prefixed bodies (entries_from n number at (drop at text))) (sym one-more) ∙ so_far

  -- a whole entry
  pub read-more : (body : List ℕ) → get_or text at 0 ≡ 1 → Some body ≡ body_at number (take (length text - (at + 1)) (drop (at + 1) text))
      → prefixed (bodies ++ body ∷ []) (entries_from (length text - length (bodies ++ body ∷ [])) (number + 1) (at + (5 + length body)) (drop (at + (5 + length body)) text)) ≡ all
  read-more body is some =
      let fewer : length text - length (bodies ++ body ∷ []) ≡ length text - length bodies - 1 = omega (arith, length-append bodies (body ∷ [])) in
      let place : at + (5 + length body) ≡ at + 5 + length body = omega arith in
      let here : body_at number (drop (at + 1) text) ≡ Some body = ap (body_at number) (sym (take_rest text (at + 1))) ∙ sym some in
      (λ i. prefixed (bodies ++ body ∷ []) (entries_from (fewer i) (number + 1) (place i) (drop (place i) text)))
      ∙ sym (prefixed-joined bodies body _)
      ∙ ap (prefixed bodies) (sym (entries-step (length text - length bodies - 1) number at text body within is here))
      ∙ stepped

  -- a damaged one
  pub read-damaged : get_or text at 0 ≡ 1 → None ≡ body_at number (take (length text - (at + 1)) (drop (at + 1) text)) → all ≡ Err at
  read-damaged is none =
      let here : body_at number (drop (at + 1) text) ≡ None = ap (body_at number) (sym (take_rest text (at + 1))) ∙ sym none in
      sym stepped ∙ ap (prefixed bodies) (entries-damaged (length text - length bodies - 1) number at text within is here)

  -- a closed gate
  pub read-closed : get_or text at 0 ≢ 1 → all ≡ Ok bodies
  read-closed shut =
      sym stepped ∙ ap (prefixed bodies) (entries-closed (length text - length bodies - 1) number at text within shut) ∙ ap Ok (append-nil bodies)

-- ---- the bytes that were read

-- the entries so far, and one more
pub bytes-more : (text : List ℕ) (at : ℕ) (bodies : List (List ℕ)) (body rest : List ℕ) → at < length text → get_or text at 0 ≡ 1
    → rest ≡ take (length text - (at + 1)) (drop (at + 1) text) → rest ≡ number_field 4 (length body) ++ (body ++ drop (4 + length body) rest)
    → drop 20 text ≡ flat_map entry bodies ++ drop at text → drop 20 text ≡ flat_map entry (bodies ++ body ∷ []) ++ drop (at + (5 + length body)) text
bytes-more text at bodies body rest within gate is form so_far =
    let place : at + 1 + (4 + length body) ≡ at + (5 + length body) = omega arith in
    let behind : drop (4 + length body) rest ≡ drop (at + (5 + length body)) text =
    ap (drop (4 + length body)) (is ∙ take_rest text (at + 1)) ∙ drop-drop (4 + length body) (at + 1) text ∙ ap (λ (n : ℕ). drop n text) place in
    let here : drop at text ≡ entry body ++ drop (at + (5 + length body)) text =
    drop_more text at 0 within ∙ ap (λ (g : ℕ). g ∷ drop (at + 1) text) gate ∙ ap (λ (l : List ℕ). 1 ∷ l) (sym (is ∙ take_rest text (at + 1)) ∙ form)
    ∙ ap (λ (l : List ℕ). 1 ∷ (number_field 4 (length body) ++ (body ++ l))) behind
    ∙ ap (λ (l : List ℕ). 1 ∷ l) (sym (append_assoc (number_field 4 (length body)) body (drop (at + (5 + length body)) text))) in
    so_far ∙ ap (λ (l : List ℕ). flat_map entry bodies ++ l) here
    ∙ sym (append_assoc (flat_map entry bodies) (entry body) (drop (at + (5 + length body)) text))
    ∙ ap (λ (l : List ℕ). l ++ drop (at + (5 + length body)) text) (flat_map_more entry [] bodies body)

-- all of them, behind their header
pub bytes-all : (head : HeadOf) (text : List ℕ) (at : ℕ) (bodies : List (List ℕ)) → at < length text → take 20 text ≡ header head
    → drop 20 text ≡ flat_map entry bodies ++ drop at text → text ≡ front head bodies ++ get_or text at 0 ∷ drop (at + 1) text
bytes-all head text at bodies within first rest =
    sym (take-append-drop 20 text) ∙ (λ i. first i ++ rest i)
    ∙ sym (append_assoc (header head) (flat_map entry bodies) (drop at text))
    ∙ ap (λ (l : List ℕ). front head bodies ++ l) (drop_more text at 0 within)

-- ---- what the reader has read so far, up to a place where an entry of this number may begin
pub record HasRead (text : List ℕ) (first at number : ℕ) : Type 0 where
  pub bodies : List (List ℕ)
  pub within : at < length text
  pub few : length bodies + 20 ≤ at
  pub end : at ≡ 20 + length (flat_map entry bodies)
  pub counted : number ≡ first + length bodies
  pub last : number ≤ 2 ^ 48 + 1
  pub read : drop 20 text ≡ flat_map entry bodies ++ drop at text
  pub sizes : All IsBody bodies
  pub rest : prefixed bodies (entries_from (length text - length bodies) number at (drop at text))
      ≡ entries_from (length text) first 20 (drop 20 text)

-- nothing yet
pub begun : (text : List ℕ) (first : ℕ) → 21 ≤ length text → first ≤ 2 ^ 48 → HasRead text first 20 first
begun text first long most = record {
  bodies = [];
  within = omega (arith, long);
  few = omega arith;
  end = omega arith;
  counted = omega arith;
  last = omega (arith, most);
  read = refl;
  sizes = All-nil IsBody;
  rest = prefixed-none (entries_from (length text - 0) first 20 (drop 20 text))
      ∙ (let whole : length text - 0 ≡ length text = omega arith in ap (λ n. entries_from n first 20 (drop 20 text)) whole);
}
