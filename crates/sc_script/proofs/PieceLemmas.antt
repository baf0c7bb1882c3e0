-- Pairs and the spaces between them.
use Rattle.std.proofs.Common.{◌≡◌, ℕ, suc, ◌+◌, ◌-◌, ◌<◌, ◌≤◌, ◌==◌, Bool, true, false, cond, List, [], ◌∷◌, length, take, drop, get_or, drop-cons, refl, ap, sym, ◌∙◌, arith}
use Rattle.std.proofs.lemmas.Bool.Decides.{nat_tests}
use Rattle.std.proofs.lemmas.List.{take_rest, take_all, drop_all}
use Rattle.std.specs.List.{prefix_len}
use Rattle.sc_types.specs.Descriptors.{grow_first}
use Rattle.sc_types.specs.Tokens.{is_quote}
use Rattle.sc_script.specs.Pairs.{is_gap, next_place, start, pieces}
use Rattle.sc_script.specs.Pieces.{is_inner, piece_len}
use Rattle.sc_script.specs.declared.pieces.Place.{Place}

-- the first piece of a text is what stands before the first gap
pub first_piece : (place : Place) (text : List ℕ) → 0 < length text
    → pieces place text ≡ take (piece_len place text) text ∷ pieces start (drop (suc (piece_len place text)) text)
unfolding pieces piece_len
first_piece place [] h = absurd (omega arith)
first_piece place (b ∷ []) h = by (is_gap place b)
  where
    by : (v : Bool) → cond v ([] ∷ []) ((b ∷ []) ∷ [])
        ≡ take (cond v 0 1) (b ∷ []) ∷ pieces start (drop (suc (cond v 0 1)) (b ∷ []))
    by true = refl
    by false = refl
first_piece place (b ∷ c ∷ rest) h = by (is_gap place b) (first_piece (next_place place b) (c ∷ rest) (omega arith))
  where
    by : (v : Bool)
        → pieces (next_place place b) (c ∷ rest) ≡ take (piece_len (next_place place b) (c ∷ rest)) (c ∷ rest)
        ∷ pieces start (drop (suc (piece_len (next_place place b) (c ∷ rest))) (c ∷ rest))
        → cond v ([] ∷ pieces start (c ∷ rest)) (grow_first b (pieces (next_place place b) (c ∷ rest)))
        ≡ take (cond v 0 (suc (piece_len (next_place place b) (c ∷ rest)))) (b ∷ c ∷ rest)
        ∷ pieces start (drop (suc (cond v 0 (suc (piece_len (next_place place b) (c ∷ rest))))) (b ∷ c ∷ rest))
    by true k = refl
    by false k = ap (grow_first b) k

-- a piece is no longer than the text
pub piece_len-le : (place : Place) (text : List ℕ) → piece_len place text ≤ length text
unfolding piece_len
piece_len-le place [] = omega arith
piece_len-le place (b ∷ rest) = by (is_gap place b) (piece_len-le (next_place place b) rest)
  where
    by : (v : Bool) → piece_len (next_place place b) rest ≤ length rest
        → cond v 0 (suc (piece_len (next_place place b) rest)) ≤ suc (length rest)
    by true k = omega arith
    by false k = omega arith

-- the first piece ends where a gap stands
pub cut_there : (text : List ℕ) (n : ℕ) → n ≡ piece_len start text → n < length text
    → pieces start text ≡ take n text ∷ pieces start (take (length text - (n + 1)) (drop (n + 1) text))
cut_there text n e h =
    let next : suc n ≡ n + 1 = omega arith in
    first_piece start text (omega arith) ∙ ap (λ k. take k text ∷ pieces start (drop (suc k) text)) (sym e)
    ∙ ap (λ t. take n text ∷ pieces start t) (ap (λ k. drop k text) next ∙ sym (take_rest text (n + 1)))

-- a text without gaps is one piece
pub cut_nowhere : (text : List ℕ) (n : ℕ) → n ≡ piece_len start text → 0 < length text → length text ≤ n
    → pieces start text ≡ text ∷ pieces start []
cut_nowhere text n e h k =
    let far : length text ≤ suc n = omega arith in
    first_piece start text h ∙ ap (λ k. take k text ∷ pieces start (drop (suc k) text)) (sym e)
    ∙ ap (λ t. t ∷ pieces start (drop (suc n) text)) (take_all n text k)
    ∙ ap (λ t. text ∷ pieces start t) (drop_all (suc n) text far)

-- ---- byte by byte

-- a gap ends a piece
pub at_gap : (place : Place) (text : List ℕ) (i : ℕ) → i < length text → is_gap place (get_or text i 0) ≡ true
    → piece_len place (drop i text) ≡ 0
unfolding piece_len
at_gap place text i h g = rw (drop-cons text i 0 h) (rw g)

-- another byte belongs to it
pub past_byte : (place next : Place) (text : List ℕ) (i : ℕ) → next ≡ next_place place (get_or text i 0)
    → i < length text
    → is_gap place (get_or text i 0) ≡ false → piece_len place (drop i text) ≡ suc (piece_len next (drop (i + 1) text))
unfolding piece_len
past_byte place next text i e h g =
    let behind : suc i ≡ i + 1 = omega arith in
    let same = ap (λ (p : Place). suc (piece_len p (drop (suc i) text))) (sym e) in
    rw (drop-cons text i 0 h) (rw g (same ∙ ap (λ k. suc (piece_len next (drop k text))) behind))

pub at_end : (place : Place) (text : List ℕ) (i : ℕ) → length text ≤ i → piece_len place (drop i text) ≡ 0
unfolding piece_len
at_end place text i h = ap (piece_len place) (drop_all i text h)

-- ---- bytes that change nothing

is_no_gap : (b : ℕ) → is_inner b ≡ true → is_gap start b ≡ false
is_no_gap b h = grind (arith, nat_tests)

opens_none : (b : ℕ) → is_inner b ≡ true → is_quote b ≡ false
opens_none b h = grind (arith, nat_tests)

opens_no_list : (b : ℕ) → is_inner b ≡ true → b == 91 ≡ false
opens_no_list b h = grind (arith, nat_tests)

stays : (b : ℕ) → is_inner b ≡ true → next_place start b ≡ start
stays b h = rw (opens_none b h) (rw (opens_no_list b h) refl)

-- what stands behind inner bytes decides where the piece ends
pub behind_inner : (text : List ℕ)
    → piece_len start text ≡ prefix_len is_inner text + piece_len start (drop (prefix_len is_inner text) text)
unfolding piece_len
behind_inner [] = refl
behind_inner (b ∷ rest) = by (is_inner b) refl (behind_inner rest)
  where
    by : (v : Bool) → is_inner b ≡ v
        → piece_len start rest ≡ prefix_len is_inner rest + piece_len start (drop (prefix_len is_inner rest) rest)
        → cond (is_gap start b) 0 (suc (piece_len (next_place start b) rest))
        ≡ cond v (1 + prefix_len is_inner rest) 0
        + piece_len start (drop (cond v (1 + prefix_len is_inner rest) 0) (b ∷ rest))
    by true e k =
        let next : 1 + prefix_len is_inner rest ≡ suc (prefix_len is_inner rest) = omega arith in
        let one : suc (piece_len start rest)
        ≡ suc (prefix_len is_inner rest) + piece_len start (drop (prefix_len is_inner rest) rest) = omega arith in
        rw (is_no_gap b e) (rw (stays b e) (rw next one))
    by false e k = omega arith

pub ruleset past_inner = (behind_inner)
