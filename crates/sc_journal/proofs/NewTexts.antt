-- What a new journal's text is.
use Rattle.std.proofs.Common.{◌≡◌, ◌∙◌, ℕ, min, nat_le, ◌&&◌, List, [], ◌∷◌, ◌++◌, length, take, drop, bytes_eq, refl, sym, ap, ap₂, subst, arith, length-take, take-append-drop}
use Rattle.std.proofs.lemmas.Bool.Decides.{nat_tests}
use Rattle.std.proofs.lemmas.List.{take-take}
use Rattle.std.proofs.lemmas.List.Elements.{All-nil}
use Rattle.sc_frame.specs.Fields.{number_field}
use Rattle.sc_dev.specs.Disks.{IsTorn}
use Rattle.sc_journal.specs.Texts.{mark, front, IsBody, Holds, has_open_header}
use Rattle.sc_journal.proofs.Gates.{written_gate}

-- the first 20 bytes tell whether a header is open
pub header-front : (text : List ℕ) → has_open_header (take 20 text) ≡ has_open_header text
header-front text =
    let long : nat_le 20 (length (take 20 text)) ≡ nat_le 20 (length text) = same-long (length (take 20 text)) (length text) (length-take 20 text) in
    let first : take 8 (take 20 text) ≡ take 8 text = take-take 8 20 text (omega arith) in
    ap₂ (λ a l. a && bytes_eq l (1 ∷ mark)) long first
  where
    same-long : (m n : ℕ) → m ≡ min 20 n → nat_le 20 m ≡ nat_le 20 n
    same-long m n is = grind (arith, nat_tests)

-- the header of a new journal behind its gate, a closed gate, and what stood there
abbrev fields : List ℕ
fields = 83 ∷ 67 ∷ 88 ∷ 72 ∷ 79 ∷ 83 ∷ 84 ∷ 0 ∷ 0 ∷ 0 ∷ 1 ∷ 0 ∷ 0 ∷ 0 ∷ 0 ∷ 0 ∷ 0 ∷ 0 ∷ 1 ∷ []

new-text : (rest : List ℕ) → 1 ∷ (fields ++ 0 ∷ rest) ≡ front (record { format = 1; first = 1 }) [] ++ 0 ∷ rest
unfolding number_field
new-text rest = refl

-- it holds no bodies once its gate is open
pub made-holds : (old new : List ℕ) → take 21 old ≡ 0 ∷ (fields ++ 0 ∷ []) → IsTorn 0 1 old new → take 1 new ≡ 1 ∷ []
    → Holds (record { format = 1; first = 1 }) [] new
made-holds old new is torn gate =
    let before : old ≡ 0 ∷ (fields ++ 0 ∷ drop 21 old) = sym (take-append-drop 21 old) ∙ ap (λ (l : List ℕ). l ++ drop 21 old) is in
    record {
      legal = record { format = refl; some = omega arith; first = omega arith; last = omega arith; sizes = All-nil IsBody };
      gate = 0;
      rest = drop 21 old;
      whole = written_gate [] 0 1 (fields ++ 0 ∷ drop 21 old) new (subst (λ (l : List ℕ). IsTorn 0 1 l new) before torn) gate ∙ new-text (drop 21 old);
      closed = omega arith;
    }
