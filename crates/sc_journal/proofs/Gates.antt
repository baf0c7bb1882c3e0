-- What a write behind a gate, and one of the gate, leave of a journal's text.
use Rattle.std.proofs.Common.{◌≡◌, ◌⊎◌, inl, inr, ℕ, ◌+◌, ◌^◌, ◌≤◌, min, All, List, [], ◌∷◌, ◌++◌, length, get_or, take, drop, flat_map, refl, sym, ◌∙◌, ap, subst, arith, append_assoc, length-append, take-append-drop}
use Rattle.std.proofs.lemmas.Bool.{cases_eq}
use Rattle.std.proofs.lemmas.List.{take_at, drop_at, drop_more, flat_map_more}
use Rattle.std.proofs.lemmas.List.Elements.{All-push, All-take}
use Rattle.sc_frame.specs.Fields.{number_field}
use Rattle.sc_dev.specs.Disks.{IsTorn}
use Rattle.sc_journal.specs.Texts.{HeadOf, header, entry, front, IsBody, IsLegal, Holds, HoldsWith}

-- a text that begins with these bytes and one more goes on behind them
split : (p : List ℕ) (g : ℕ) (c : List ℕ) → take (length p + 1) c ≡ p ++ g ∷ [] → c ≡ p ++ g ∷ drop (length p + 1) c
split p g c is = sym (take-append-drop (length p + 1) c) ∙ ap (λ (l : List ℕ). l ++ drop (length p + 1) c) is ∙ append_assoc p (g ∷ []) (drop (length p + 1) c)

long : (p : List ℕ) (g : ℕ) (rest : List ℕ) → length p + 1 ≤ length (p ++ g ∷ rest)
long p g rest = omega (arith, length-append p (g ∷ rest))

begins : (p : List ℕ) (g : ℕ) (rest : List ℕ) → take (length p + 1) (p ++ g ∷ rest) ≡ p ++ g ∷ []
begins p g rest =
    ap (λ (l : List ℕ). take (length p + 1) l) (sym (append_assoc p (g ∷ []) rest)) ∙ take_at (p ++ g ∷ []) rest (length p + 1) (length-append p (g ∷ []))

ends : (p : List ℕ) (g : ℕ) (rest : List ℕ) → drop (length p + 1) (p ++ g ∷ rest) ≡ rest
ends p g rest =
    ap (λ (l : List ℕ). drop (length p + 1) l) (sym (append_assoc p (g ∷ []) rest)) ∙ drop_at (p ++ g ∷ []) rest (length p + 1) (length-append p (g ∷ []))

-- behind the byte at p any write leaves it
torn_behind : (p : List ℕ) (g n : ℕ) (rest c : List ℕ) → IsTorn (length p + 1) n (p ++ g ∷ rest) c → c ≡ p ++ g ∷ drop (length p + 1) c
torn_behind p g n rest c torn =
    let place : min (length p + 1) (length (p ++ g ∷ rest)) ≡ length p + 1 = omega (arith, long p g rest) in
    split p g c (ap (λ (k : ℕ). take k c) (sym place) ∙ torn.before ∙ begins p g rest)

-- and a piece that stands there is what comes next
written_behind : (p : List ℕ) (g : ℕ) (rest piece c : List ℕ) → IsTorn (length p + 1) (length piece) (p ++ g ∷ rest) c
    → take (length piece) (drop (length p + 1) c) ≡ piece → c ≡ p ++ g ∷ (piece ++ drop (length piece) (drop (length p + 1) c))
written_behind p g rest piece c torn stands =
    torn_behind p g (length piece) rest c torn
    ∙ ap (λ (l : List ℕ). p ++ g ∷ l) (sym (take-append-drop (length piece) (drop (length p + 1) c)) ∙ ap (λ (l : List ℕ). l ++ drop (length piece) (drop (length p + 1) c)) stands)

-- a write of the byte at p leaves all else
torn_gate : (p : List ℕ) (g : ℕ) (rest c : List ℕ) → IsTorn (length p) 1 (p ++ g ∷ rest) c → c ≡ p ++ get_or c (length p) 0 ∷ rest
torn_gate p g rest c torn =
    let size = long p g rest in
    let place : min (length p) (length (p ++ g ∷ rest)) ≡ length p = omega (arith, size) in
    let first : take (length p) c ≡ p = ap (λ (k : ℕ). take k c) (sym place) ∙ torn.before ∙ take_at p (g ∷ rest) (length p) refl in
    let last : drop (length p) c ≡ get_or c (length p) 0 ∷ rest =
    drop_more c (length p) 0 (omega (arith, size, torn.no_shorter)) ∙ ap (λ (l : List ℕ). get_or c (length p) 0 ∷ l) (torn.after ∙ ends p g rest) in
    sym (take-append-drop (length p) c) ∙ ap (λ (l : List ℕ). l ++ drop (length p) c) first ∙ ap (λ (l : List ℕ). p ++ l) last

-- and is the byte that stands there
pub written_gate : (p : List ℕ) (g b : ℕ) (rest c : List ℕ) → IsTorn (length p) 1 (p ++ g ∷ rest) c → take 1 (drop (length p) c) ≡ b ∷ [] → c ≡ p ++ b ∷ rest
written_gate p g b rest c torn stands =
    let is = torn_gate p g rest c torn in
    let gate : get_or c (length p) 0 ∷ [] ≡ b ∷ [] =
    sym (ap (λ (l : List ℕ). take 1 (drop (length p) l)) is ∙ ap (λ (l : List ℕ). take 1 l) (drop_at p (get_or c (length p) 0 ∷ rest) (length p) refl)) ∙ stands in
    let byte : get_or c (length p) 0 ≡ b = ap (λ (l : List ℕ). get_or l 0 0) gate in
    is ∙ ap (λ (x : ℕ). p ++ x ∷ rest) byte

-- the entry behind the others
pub front-push : (head : HeadOf) (bodies : List (List ℕ)) (body rest : List ℕ)
    → front head (bodies ++ body ∷ []) ++ rest ≡ front head bodies ++ 1 ∷ (number_field 4 (length body) ++ (body ++ rest))
front-push head bodies body rest =
    ap (λ (l : List ℕ). (header head ++ l) ++ rest) (sym (flat_map_more entry [] bodies body))
    ∙ ap (λ (l : List ℕ). l ++ rest) (sym (append_assoc (header head) (flat_map entry bodies) (entry body)))
    ∙ append_assoc (front head bodies) (entry body) rest
    ∙ ap (λ (l : List ℕ). front head bodies ++ 1 ∷ l) (append_assoc (number_field 4 (length body)) body rest)

All-front : {X : Type 0} (P : X → Type 0) (xs : List X) (x : X) → All P (xs ++ x ∷ []) → All P xs
All-front P xs x all = subst (All P) (take_at xs (x ∷ []) (length xs) refl) (All-take P (length xs) (xs ++ x ∷ []) all)

-- fewer bodies are legal too
pub legal-front : (head : HeadOf) (bodies : List (List ℕ)) (body : List ℕ) → IsLegal head (bodies ++ body ∷ []) → IsLegal head bodies
legal-front head bodies body legal = record {
  format = legal.format;
  some = legal.some;
  first = legal.first;
  last = omega (arith, legal.last, length-append bodies (body ∷ []));
  sizes = All-front IsBody bodies body legal.sizes;
}

-- one more is, where there is room for its number
pub legal-push : (head : HeadOf) (bodies : List (List ℕ)) (body : List ℕ) → IsLegal head bodies → 1 ≤ length body → length body ≤ 2097152
    → head.first + length bodies ≤ 2 ^ 48 → IsLegal head (bodies ++ body ∷ [])
legal-push head bodies body legal some most number = record {
  format = legal.format;
  some = legal.some;
  first = legal.first;
  last = omega (arith, number, length-append bodies (body ∷ []));
  sizes = All-push IsBody bodies body legal.sizes (some, most);
}

module _ (head : HeadOf) (bodies : List (List ℕ)) (body : List ℕ) where
  -- a write behind the closed gate leaves the bodies
  pub holds-behind : (n : ℕ) (d c : List ℕ) → Holds head bodies d → IsTorn (length (front head bodies) + 1) n d c → Holds head bodies c
  holds-behind n d c h torn = record {
    legal = h.legal;
    gate = h.gate;
    rest = drop (length (front head bodies) + 1) c;
    whole = torn_behind (front head bodies) h.gate n h.rest c (subst (λ (t : List ℕ). IsTorn (length (front head bodies) + 1) n t c) h.whole torn);
    closed = h.closed;
  }

  -- and with the entry behind it, they are held with or without it
  pub holds-staged : (d c piece : List ℕ) → Holds head bodies d → IsLegal head (bodies ++ body ∷ []) → piece ≡ number_field 4 (length body) ++ (body ++ 0 ∷ [])
      → IsTorn (length (front head bodies) + 1) (length piece) d c → take (length piece) (drop (length (front head bodies) + 1) c) ≡ piece → HoldsWith head bodies body c
  holds-staged d c piece h legal is torn stands =
      let end = drop (length piece) (drop (length (front head bodies) + 1) c) in
      let regroup : piece ++ end ≡ number_field 4 (length body) ++ (body ++ 0 ∷ end) =
      ap (λ (l : List ℕ). l ++ end) is ∙ append_assoc (number_field 4 (length body)) (body ++ 0 ∷ []) end
      ∙ ap (λ (l : List ℕ). number_field 4 (length body) ++ l) (append_assoc body (0 ∷ []) end) in
      record {
        legal = legal;
        gate = h.gate;
        after = 0;
        rest = end;
        whole = written_behind (front head bodies) h.gate h.rest piece c (subst (λ (t : List ℕ). IsTorn (length (front head bodies) + 1) (length piece) t c) h.whole torn) stands
            ∙ ap (λ (l : List ℕ). front head bodies ++ h.gate ∷ l) regroup;
        closed = omega arith;
      }

  -- a write of the gate leaves that
  pub with-gate : (d c : List ℕ) → HoldsWith head bodies body d → IsTorn (length (front head bodies)) 1 d c → HoldsWith head bodies body c
  with-gate d c h torn = record {
    legal = h.legal;
    gate = get_or c (length (front head bodies)) 0;
    after = h.after;
    rest = h.rest;
    whole = torn_gate (front head bodies) h.gate _ c (subst (λ (t : List ℕ). IsTorn (length (front head bodies)) 1 t c) h.whole torn);
    closed = h.closed;
  }

  -- where it is open, the entry is one of them
  pub with-open : (d c : List ℕ) → HoldsWith head bodies body d → IsTorn (length (front head bodies)) 1 d c → take 1 (drop (length (front head bodies)) c) ≡ 1 ∷ []
      → Holds head (bodies ++ body ∷ []) c
  with-open d c h torn stands = record {
    legal = h.legal;
    gate = h.after;
    rest = h.rest;
    whole = written_gate (front head bodies) h.gate 1 _ c (subst (λ (t : List ℕ). IsTorn (length (front head bodies)) 1 t c) h.whole torn) stands
        ∙ sym (front-push head bodies body (h.after ∷ h.rest));
    closed = h.closed;
  }

  -- where it is closed, it is not
  pub with-closed : (d c : List ℕ) → HoldsWith head bodies body d → IsTorn (length (front head bodies)) 1 d c → take 1 (drop (length (front head bodies)) c) ≡ 0 ∷ []
      → Holds head bodies c
  with-closed d c h torn stands = record {
    legal = legal-front head bodies body h.legal;
    gate = 0;
    rest = number_field 4 (length body) ++ (body ++ h.after ∷ h.rest);
    whole = written_gate (front head bodies) h.gate 0 _ c (subst (λ (t : List ℕ). IsTorn (length (front head bodies)) 1 t c) h.whole torn) stands;
    closed = omega arith;
  }

  -- it is one of the two
  pub with-either : (c : List ℕ) → HoldsWith head bodies body c → Holds head bodies c ⊎ Holds head (bodies ++ body ∷ []) c
  with-either c h = elim (cases_eq h.gate 1) [
    | inl is ↦ inr (record {
      legal = h.legal;
      gate = h.after;
      rest = h.rest;
      whole = h.whole ∙ ap (λ (g : ℕ). front head bodies ++ g ∷ (number_field 4 (length body) ++ (body ++ h.after ∷ h.rest))) is
          ∙ sym (front-push head bodies body (h.after ∷ h.rest));
      closed = h.closed;
    })
    | inr shut ↦ inl (record {
      legal = legal-front head bodies body h.legal;
      gate = h.gate;
      rest = number_field 4 (length body) ++ (body ++ h.after ∷ h.rest);
      whole = h.whole;
      closed = shut;
    })
  ]
