-- How the bodies of a text are taken out one after another.
use Rattle.std.proofs.Common.{◌≡◌, ◌∙◌, ℕ, zero, suc, ◌+◌, ◌-◌, ◌<◌, Bor, Bool, true, false, cond, Option, None, Some, Result, Ok, Err, List, [], ◌∷◌, length, take, drop, option_map, refl, sym, ap, subst, arith, length-drop}
use Rattle.std.proofs.lemmas.List.{drop-drop, take_rest}
use Rattle.std.specs.Option.{MatchOption}
use Rattle.sc_journal.specs.BodiesLeft.{AreLeft, HasBodies, bodies_left, listed}
use Rattle.sc_journal.specs.Texts.{body_at, joined, with_body, entries_from}

abbrev Bodies : Type 0
Bodies = List (List ℕ)

ok_same : (a b : Bodies) → ◌≡◌ {A = Result Bodies ℕ} (Ok a) (Ok b) → a ≡ b
ok_same a b e = cc

no_bodies : (at : ℕ) (bodies : Bodies) → ◌≡◌ {A = Result Bodies ℕ} (Err at) (Ok bodies) → ⊥
no_bodies at bodies e = cc

-- ---- fewer steps are enough

joined_fewer : (body : List ℕ) (x y : Result Bodies ℕ) (bodies : Bodies)
    → ((more : Bodies) → suc (length more) ≡ length bodies → x ≡ Ok more → y ≡ Ok more)
    → joined body x ≡ Ok bodies → joined body y ≡ Ok bodies
joined_fewer body (Ok more) y bodies step is =
    ap (joined body) (step more (ap length (ok_same (body ∷ more) bodies is)) refl) ∙ is
joined_fewer body (Err at) y bodies step is = absurd (no_bodies at bodies is)

gate_fewer : (gate : Bool) (found : Option (List ℕ)) (at : ℕ) (f h : List ℕ → Result Bodies ℕ) (bodies : Bodies)
    → ((body : List ℕ) (more : Bodies) → suc (length more) ≡ length bodies → f body ≡ Ok more → h body ≡ Ok more)
    → cond gate (with_body found at f) (Ok []) ≡ Ok bodies → cond gate (with_body found at h) (Ok []) ≡ Ok bodies
gate_fewer false found at f h bodies step is = is
gate_fewer true None at f h bodies step is = is
gate_fewer true (Some body) at f h bodies step is = joined_fewer body (f body) (h body) bodies (step body) is

fewer : (steps number at : ℕ) (text : List ℕ) (bodies : Bodies) (enough : ℕ) → length bodies < enough
    → entries_from steps number at text ≡ Ok bodies → entries_from enough number at text ≡ Ok bodies
fewer zero number at text bodies enough less is = absurd (no_bodies at bodies is)
fewer (suc steps) number at [] bodies enough less is = absurd (no_bodies at bodies is)
fewer (suc steps) number at (gate ∷ rest) bodies zero less is = absurd (omega arith)
fewer (suc steps) number at (gate ∷ rest) bodies (suc enough) less is =
    gate_fewer _ (body_at number rest) at _ _ bodies
    (λ body more long found. fewer steps (number + 1) (at + 5 + length body) (drop (4 + length body) rest) more enough
    (omega (arith, long)) found) is

pub left_of : (text : List ℕ) (first count : ℕ) → HasBodies text first count → AreLeft count first 20 text
left_of text first count h = record {
  bodies = h.bodies;
  are = fewer (length text) first 20 (drop 20 text) h.bodies (suc count) (omega (arith, h.many)) h.are;
  many = h.many;
}

pub all_left : (text : List ℕ) (first count : ℕ) → HasBodies text first count
    → entries_from (length text) first 20 (drop 20 text) ≡ Ok (bodies_left count first 20 text)
unfolding left_of
all_left text first count h = h.are ∙ ap Ok (sym (ap listed (left_of text first count h).are))

-- ---- the first of them

pub record IsNext (steps number at : ℕ) (text : List ℕ) (bodies : Bodies) : Type 0 where
  pub within : at < length text
  pub body : List ℕ
  pub is : body_at number (drop (at + 1) text) ≡ Some body
  pub more : Bodies
  pub whole : bodies ≡ body ∷ more
  pub rest : entries_from steps (number + 1) (at + 5 + length body) (drop (at + 5 + length body) text) ≡ Ok more

record Taken (found : Option (List ℕ)) (f : List ℕ → Result Bodies ℕ) (bodies : Bodies) : Type 0 where
  body : List ℕ
  is : found ≡ Some body
  more : Bodies
  whole : bodies ≡ body ∷ more
  rest : f body ≡ Ok more

joined_taken : (body : List ℕ) (x : Result Bodies ℕ) (f : List ℕ → Result Bodies ℕ) (bodies : Bodies) → f body ≡ x
    → joined body x ≡ Ok bodies → Taken (Some body) f bodies
joined_taken body (Ok more) f bodies found is = record {
  body = body;
  is = refl;
  more = more;
  whole = sym (ok_same (body ∷ more) bodies is);
  rest = found;
}
joined_taken body (Err at) f bodies found is = absurd (no_bodies at bodies is)

gate_taken : (gate : Bool) (found : Option (List ℕ)) (at : ℕ) (f : List ℕ → Result Bodies ℕ) (bodies : Bodies)
    → 0 < length bodies → cond gate (with_body found at f) (Ok []) ≡ Ok bodies → Taken found f bodies
gate_taken false found at f bodies some is =
    let none = ap length (ok_same [] bodies is) in absurd (omega (arith, some, none))
gate_taken true None at f bodies some is = absurd (no_bodies at bodies is)
gate_taken true (Some body) at f bodies some is = joined_taken body (f body) f bodies refl is

text_taken : (steps number at : ℕ) (text rest : List ℕ) (bodies : Bodies) → drop at text ≡ rest → 0 < length bodies
    → entries_from (suc steps) number at rest ≡ Ok bodies → IsNext steps number at text bodies
text_taken steps number at text [] bodies same some is = absurd (no_bodies at bodies is)
text_taken steps number at text (gate ∷ rest) bodies same some is =
    let t = gate_taken _ (body_at number rest) at
    (λ body. entries_from steps (number + 1) (at + 5 + length body) (drop (4 + length body) rest)) bodies some is in
    let long = ap length same in
    let size = length-drop at text in
    let next : drop (at + 1) text ≡ rest = sym (drop-drop 1 at text) ∙ ap (drop 1) same in
    let place : at + 1 + (4 + length t.body) ≡ at + 5 + length t.body = omega arith in
    let behind : drop (4 + length t.body) rest ≡ drop (at + 5 + length t.body) text =
    ap (drop (4 + length t.body)) (sym next) ∙ drop-drop (4 + length t.body) (at + 1) text ∙ ap (λ (n : ℕ). drop n text) place in
    record {
      within = omega (arith, long, size);
      body = t.body;
      is = ap (body_at number) next ∙ t.is;
      more = t.more;
      whole = t.whole;
      rest = subst (λ (r : List ℕ). entries_from steps (number + 1) (at + 5 + length t.body) r ≡ Ok t.more) behind t.rest;
    }

pub next_of : (left number at : ℕ) (text : List ℕ) (a : AreLeft left number at text) → 0 < left
    → IsNext left number at text a.bodies
next_of left number at text a some = text_taken left number at text (drop at text) a.bodies refl (omega (arith, some, a.many)) a.are

-- the bytes behind a gate, as the reader sees them
behind : (number at : ℕ) (text seen : List ℕ) (found : Option (List ℕ)) → seen ≡ text
    → found ≡ body_at number (take (length seen - (at + 1)) (drop (at + 1) seen)) → found ≡ body_at number (drop (at + 1) text)
behind number at text seen found same is =
    is ∙ ap (body_at number) (take_rest seen (at + 1)) ∙ ap (λ (t : List ℕ). body_at number (drop (at + 1) t)) same

some_same : (a b : List ℕ) → Some a ≡ Some b → a ≡ b
some_same a b e = cc

matched : (found : Option (Bor (List ℕ))) (body : List ℕ) (all : Bodies) (none : Type 0)
    → option_map (λ (b : Bor (List ℕ)). b.now) found ≡ Some body → all ≡ body ∷ drop 1 all
    → MatchOption found none (λ b. all ≡ b.now ∷ drop 1 all)
matched None body all none is whole = let bad : ◌≡◌ {A = Option (List ℕ)} None (Some body) = is in absurd (cc)
matched (Some b) body all none is whole =
    subst (λ (x : List ℕ). all ≡ x ∷ drop 1 all) (sym (some_same b.now body is)) whole

pub front_of : (left number at : ℕ) (text : List ℕ) (a : AreLeft left number at text) → 0 < left
    → (seen : List ℕ) → seen ≡ text → (found : Option (Bor (List ℕ))) → option_map (λ (b : Bor (List ℕ)). b.now) found
    ≡ body_at number (take (length seen - (at + 1)) (drop (at + 1) seen))
    → MatchOption found (bodies_left left number at text ≡ [])
    (λ b. bodies_left left number at text ≡ b.now ∷ drop 1 (bodies_left left number at text))
front_of left number at text a some seen same found is =
    let n = next_of left number at text a some in
    let all : bodies_left left number at text ≡ n.body ∷ n.more = ap listed a.are ∙ n.whole in
    matched found n.body (bodies_left left number at text) _ (behind number at text seen _ same is ∙ n.is)
    (all ∙ ap (λ (l : Bodies). n.body ∷ l) (sym (ap (drop 1) all)))

pub never_none : (left number at : ℕ) (text : List ℕ) (a : AreLeft left number at text) → 0 < left
    → (seen : List ℕ) → seen ≡ text → None ≡ body_at number (take (length seen - (at + 1)) (drop (at + 1) seen)) → ⊥
never_none left number at text a some seen same is =
    let n = next_of left number at text a some in
    let bad : ◌≡◌ {A = Option (List ℕ)} None (Some n.body) = behind number at text seen None same is ∙ n.is in cc

module _ (left number at : ℕ) (text : List ℕ) (a : AreLeft left number at text) (some : 0 < left) (body seen : List ℕ)
    (same : seen ≡ text) (is : Some body ≡ body_at number (take (length seen - (at + 1)) (drop (at + 1) seen))) where
  pub popped : AreLeft (left - 1) (number + 1) (at + (5 + length body)) text
  popped =
      let n = next_of left number at text a some in
      let one : n.body ≡ body = sym (some_same body n.body (behind number at text seen (Some body) same is ∙ n.is)) in
      let steps : left ≡ suc (left - 1) = omega (arith, some) in
      let place : at + 5 + length n.body ≡ at + (5 + length body) = omega (arith, ap length one) in
      record {
        bodies = n.more;
        are = (λ i. entries_from (sym steps i) (number + 1) (sym place i) (drop (sym place i) text)) ∙ n.rest;
        many = omega (arith, a.many, ap length n.whole);
      }

  pub popped_are : bodies_left (left - 1) (number + 1) (at + (5 + length body)) text ≡ drop 1 (bodies_left left number at text)
  unfolding popped next_of
  popped_are =
      let n = next_of left number at text a some in
      ap listed popped.are ∙ sym (ap (drop 1) (ap listed a.are ∙ n.whole))
