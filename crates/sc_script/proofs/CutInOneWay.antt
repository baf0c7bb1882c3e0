-- Pairs with a space between are cut in one way.
use Rattle.std.proofs.Common.{◌≡◌, ℕ, ◌<◌, List, [], ◌∷◌, ◌++◌, length, refl, ap, ◌∙◌, arith}
use Rattle.sc_types.specs.Descriptors.{grow_first}
use Rattle.sc_script.specs.OneWay.{IsCutInOneWay, IsUncut, spaced}
use Rattle.sc_script.specs.Pairs.{next_place, pieces, start}
use Rattle.sc_script.specs.declared.pieces.Place.{Place}

-- a space behind a whole text ends the piece
cut_behind : (place : Place) (text rest : List ℕ) → IsUncut place text
    → pieces place (text ++ 32 ∷ rest) ≡ text ∷ pieces start rest
unfolding pieces
cut_behind place [] rest h = ap (λ (p : Place). pieces p (32 ∷ rest)) h
cut_behind place (b ∷ text) rest h = rw h.0 (ap (grow_first b) (cut_behind (next_place place b) text rest h.1))

-- a whole text alone is one piece
one_piece : (place : Place) (text : List ℕ) → 0 < length text → IsUncut place text → pieces place text ≡ text ∷ []
unfolding pieces
one_piece place [] some h = absurd (omega arith)
one_piece place (b ∷ []) some h = rw h.0
one_piece place (b ∷ c ∷ text) some h =
    rw h.0 (ap (grow_first b) (one_piece (next_place place b) (c ∷ text) (omega arith) h.1))

no_piece : pieces start [] ≡ []
unfolding pieces
no_piece = refl

-- whole texts with a space between are cut into these texts
pub cut_in_one_way : IsCutInOneWay
unfolding IsCutInOneWay
cut_in_one_way [] h = no_piece
cut_in_one_way (text ∷ []) h = one_piece start text h.0.0 h.0.1
cut_in_one_way (text ∷ other ∷ texts) h =
    cut_behind start text (spaced (other ∷ texts)) h.0.1
    ∙ ap (λ (ts : List (List ℕ)). text ∷ ts) (cut_in_one_way (other ∷ texts) h.1)
