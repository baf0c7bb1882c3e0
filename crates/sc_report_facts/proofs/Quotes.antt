-- Where a quoted text ends.
use Rattle.std.proofs.Common.{◌≡◌, ℕ, ◌==◌, false, if◌then◌else◌, Option, Some, None, List, [], ◌∷◌, ◌++◌, drop, flat_map, refl, ap, sym, subst, ◌∙◌, inl, inr, append_assoc}
use Rattle.std.specs.Prelude.{option_map}
use Rattle.std.proofs.lemmas.Bool.{cases_eq, ne_eqb}
use Rattle.sc_types.specs.Values.{escaped, text_literal}
use Rattle.sc_report_facts.proofs.Cutting.{SameCut}

-- the byte that is written so behind a backslash
abbrev meant : ℕ → ℕ
meant b = if b == 110 then 10 else (if b == 116 then 9 else b)

abbrev before : ℕ → Option (List ℕ × List ℕ) → Option (List ℕ × List ℕ)
before b o = option_map (λ (q : List ℕ × List ℕ). (b ∷ q.0, q.1)) o

-- what stands up to the closing quote, and what stands behind it
abbrev read : List ℕ → Option (List ℕ × List ℕ)
read [] = None
read (b ∷ []) = if b == 39 then Some ([], []) else None
read (b ∷ c ∷ rest) =
    if b == 39 then Some ([], c ∷ rest)
    else (if b == 92 then before (meant c) (read rest) else before b (read (c ∷ rest)))

closes : (rest : List ℕ) → read (39 ∷ rest) ≡ Some ([], rest)
closes [] = refl
closes (b ∷ rest) = refl

goes_on : (b : ℕ) (rest : List ℕ) → b == 39 ≡ false → b == 92 ≡ false → read (b ∷ rest) ≡ before b (read rest)
goes_on b [] h k = rw h
goes_on b (c ∷ rest) h k = rw (h, k)

Reads : List ℕ → ℕ → Type 0
Reads rest b = read (escaped b ++ rest) ≡ before b (read rest)

unescaped : (b : ℕ) (rest : List ℕ) → Reads rest b
unfolding Reads
unescaped b rest = elim (cases_eq b 92) [
  | inl e ↦ subst (Reads rest) (sym e) refl
  | inr slash ↦ elim (cases_eq b 39) [
    | inl e ↦ subst (Reads rest) (sym e) refl
    | inr quote ↦ elim (cases_eq b 10) [
      | inl e ↦ subst (Reads rest) (sym e) refl
      | inr feed ↦ elim (cases_eq b 9) [
        | inl e ↦ subst (Reads rest) (sym e) refl
        | inr tab ↦ rw (ne_eqb b 92 slash, ne_eqb b 39 quote, ne_eqb b 10 feed, ne_eqb b 9 tab)
            (goes_on b rest (ne_eqb b 39 quote) (ne_eqb b 92 slash))
      ]
    ]
  ]
]

-- what is written of a text is read as the text
quoted : (text rest : List ℕ) → read (flat_map escaped text ++ 39 ∷ rest) ≡ Some (text, rest)
unfolding Reads
quoted [] rest = closes rest
quoted (b ∷ text) rest =
    ap read (append_assoc (escaped b) (flat_map escaped text) (39 ∷ rest))
    ∙ unescaped b (flat_map escaped text ++ 39 ∷ rest) ∙ ap (before b) (quoted text rest)

same_pair : (p q : List ℕ × List ℕ) → Some p ≡ Some q → p ≡ q
same_pair p q e = cc

escaped_cut : (x y r s : List ℕ) → flat_map escaped x ++ 39 ∷ r ≡ flat_map escaped y ++ 39 ∷ s → SameCut x y r s
escaped_cut x y r s e =
    let both = same_pair _ _ (sym (quoted x r) ∙ ap read e ∙ quoted y s) in
    record { front = ap (λ q. q.0) both; rest = ap (λ q. q.1) both }

-- a quoted text ends at its closing quote
pub text_cut : (x y r s : List ℕ) → text_literal x ++ r ≡ text_literal y ++ s → SameCut x y r s
text_cut x y r s e =
    escaped_cut x y r s (sym (append_assoc (flat_map escaped x) (39 ∷ []) r) ∙ ap (drop 1) e
    ∙ append_assoc (flat_map escaped y) (39 ∷ []) s)
