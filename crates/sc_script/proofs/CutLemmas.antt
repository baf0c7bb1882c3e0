-- The first line of a text.
use Rattle.std.proofs.Common.{◌≡◌, ℕ, suc, ◌+◌, ◌-◌, ◌<◌, ◌≤◌, Bool, true, false, cond, List, [], ◌∷◌, length, take, drop, refl, ap, sym, ◌∙◌, arith}
use Rattle.std.proofs.lemmas.List.{take_rest, take_all, drop_all}
use Rattle.std.specs.List.{prefix_len}
use Rattle.sc_types.specs.Descriptors.{grow_first}
use Rattle.sc_script.specs.Lines.{is_line_part, lines}

-- the first line of a text is what stands before the first line feed
pub first_line : (text : List ℕ) → 0 < length text
    → lines text ≡ take (prefix_len is_line_part text) text ∷ lines (drop (suc (prefix_len is_line_part text)) text)
unfolding lines
first_line [] h = absurd (omega arith)
first_line (b ∷ []) h = by (is_line_part b)
  where
    by : (v : Bool) → cond v ((b ∷ []) ∷ []) ([] ∷ [])
        ≡ take (cond v 1 0) (b ∷ []) ∷ lines (drop (suc (cond v 1 0)) (b ∷ []))
    by true = refl
    by false = refl
first_line (b ∷ c ∷ rest) h = by (is_line_part b) (first_line (c ∷ rest) (omega arith))
  where
    by : (v : Bool)
        → lines (c ∷ rest) ≡ take (prefix_len is_line_part (c ∷ rest)) (c ∷ rest)
        ∷ lines (drop (suc (prefix_len is_line_part (c ∷ rest))) (c ∷ rest))
        → cond v (grow_first b (lines (c ∷ rest))) ([] ∷ lines (c ∷ rest))
        ≡ take (cond v (1 + prefix_len is_line_part (c ∷ rest)) 0) (b ∷ c ∷ rest)
        ∷ lines (drop (suc (cond v (1 + prefix_len is_line_part (c ∷ rest)) 0)) (b ∷ c ∷ rest))
    by true k =
        let e : 1 + prefix_len is_line_part (c ∷ rest) ≡ suc (prefix_len is_line_part (c ∷ rest)) = omega arith in
        rw e (ap (grow_first b) k)
    by false k = refl

-- the first line ends where a line feed stands
pub cut_there : (text : List ℕ) (n : ℕ) → n ≡ prefix_len is_line_part text → n < length text
    → lines text ≡ take n text ∷ lines (take (length text - (n + 1)) (drop (n + 1) text))
cut_there text n e h =
    let next : suc n ≡ n + 1 = omega arith in
    first_line text (omega arith) ∙ ap (λ k. take k text ∷ lines (drop (suc k) text)) (sym e)
    ∙ ap (λ t. take n text ∷ lines t) (ap (λ k. drop k text) next ∙ sym (take_rest text (n + 1)))

-- a text without line feeds is one line
pub cut_nowhere : (text : List ℕ) (n : ℕ) → n ≡ prefix_len is_line_part text → 0 < length text → length text ≤ n
    → lines text ≡ text ∷ lines []
cut_nowhere text n e h k =
    let far : length text ≤ suc n = omega arith in
    first_line text h ∙ ap (λ k. take k text ∷ lines (drop (suc k) text)) (sym e)
    ∙ ap (λ t. t ∷ lines (drop (suc n) text)) (take_all n text k) ∙ ap (λ t. text ∷ lines t) (drop_all (suc n) text far)
