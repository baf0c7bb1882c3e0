-- What each step of an entry leaves in every image of a disk.
use Rattle.std.proofs.Common.{◌≡◌, inl, ℕ, ◌+◌, List, [], ◌∷◌, ◌++◌, length, take, drop, sym, subst}
use Rattle.sc_frame.specs.Fields.{number_field}
use Rattle.sc_dev.specs.declared.disk.Part.TheVariants.{Journal}
use Rattle.sc_dev.specs.Disks.{DiskOf, IsTorn, Torn, Follows}
use Rattle.sc_journal.specs.Stops.{TornFrom}
use Rattle.sc_journal.specs.Texts.{HeadOf, front, IsLegal, Holds, HoldsWith}
use Rattle.sc_journal.specs.Journals.{IsWithOrWithout}
use Rattle.sc_journal.proofs.Gates.{holds-behind, holds-staged, with-gate, with-open, with-closed, with-either}

module _ (head : HeadOf) (bodies : List (List ℕ)) (body : List ℕ) (at : ℕ) where
  -- torn from an image that holds the bodies, behind their closed gate
  pub torn-behind : at ≡ length (front head bodies) → (n : ℕ) (d c : DiskOf) → Holds head bodies d.journal → Torn Journal (at + 1) n d c → Holds head bodies c.journal
  torn-behind is n d c h torn =
      holds-behind head bodies body n d.journal c.journal h (subst (λ (p : ℕ). IsTorn (p + 1) n d.journal c.journal) is torn.range)

  -- torn from one that holds them with the staged entry or without, at its gate
  pub torn-gate : at ≡ length (front head bodies) → (d c : DiskOf) → HoldsWith head bodies body d.journal → Torn Journal at 1 d c → HoldsWith head bodies body c.journal
  torn-gate is d c h torn = with-gate head bodies body d.journal c.journal h (subst (λ (p : ℕ). IsTorn p 1 d.journal c.journal) is torn.range)

  module _ (may_leave later : DiskOf → Type 0) where
    pub images-behind : at ≡ length (front head bodies) → (n : ℕ) → ((c : DiskOf) → may_leave c → Holds head bodies c.journal)
        → Follows (Torn Journal (at + 1) n) may_leave later → (c : DiskOf) → later c → Holds head bodies c.journal
    images-behind is n holds follows c left = let from = follows c left in torn-behind is n from.0 c (holds from.0 from.1) from.2

    pub images-gate : at ≡ length (front head bodies) → ((c : DiskOf) → may_leave c → HoldsWith head bodies body c.journal)
        → Follows (Torn Journal at 1) may_leave later → (c : DiskOf) → later c → HoldsWith head bodies body c.journal
    images-gate is holds follows c left = let from = follows c left in torn-gate is from.0 c (holds from.0 from.1) from.2

  -- what reads give is in every image
  module _ (reads now : DiskOf) (later : DiskOf → Type 0) (durable : (c : DiskOf) → later c → c.journal ≡ now.journal) where
    pub images-staged : at ≡ length (front head bodies) → (piece : List ℕ) → Holds head bodies reads.journal → IsLegal head (bodies ++ body ∷ [])
        → piece ≡ number_field 4 (length body) ++ (body ++ 0 ∷ []) → Torn Journal (at + 1) (length piece) reads now
        → take (length piece) (drop (at + 1) now.journal) ≡ piece → (c : DiskOf) → later c → HoldsWith head bodies body c.journal
    images-staged is piece holds legal form torn stands c left =
        let range = subst (λ (p : ℕ). IsTorn (p + 1) (length piece) reads.journal now.journal) is torn.range in
        let place = subst (λ (p : ℕ). take (length piece) (drop (p + 1) now.journal) ≡ piece) is stands in
        subst (HoldsWith head bodies body) (sym (durable c left)) (holds-staged head bodies body reads.journal now.journal piece holds legal form range place)

    pub images-open : at ≡ length (front head bodies) → HoldsWith head bodies body reads.journal → Torn Journal at 1 reads now
        → take 1 (drop at now.journal) ≡ 1 ∷ [] → (c : DiskOf) → later c → Holds head (bodies ++ body ∷ []) c.journal
    images-open is holds torn stands c left =
        let range = subst (λ (p : ℕ). IsTorn p 1 reads.journal now.journal) is torn.range in
        let place = subst (λ (p : ℕ). take 1 (drop p now.journal) ≡ 1 ∷ []) is stands in
        subst (Holds head (bodies ++ body ∷ [])) (sym (durable c left)) (with-open head bodies body reads.journal now.journal holds range place)

    pub images-closed : at ≡ length (front head bodies) → HoldsWith head bodies body reads.journal → Torn Journal at 1 reads now
        → take 1 (drop at now.journal) ≡ 0 ∷ [] → (c : DiskOf) → later c → Holds head bodies c.journal
    images-closed is holds torn stands c left =
        let range = subst (λ (p : ℕ). IsTorn p 1 reads.journal now.journal) is torn.range in
        let place = subst (λ (p : ℕ). take 1 (drop p now.journal) ≡ 0 ∷ []) is stands in
        subst (Holds head bodies) (sym (durable c left)) (with-closed head bodies body reads.journal now.journal holds range place)

  -- while the first write runs, and while the gate's does
  pub stage-moments : at ≡ length (front head bodies) → (n : ℕ) (may_leave : DiskOf → Type 0) → ((c : DiskOf) → may_leave c → Holds head bodies c.journal)
      → (c : DiskOf) → TornFrom may_leave Journal (at + 1) n c → IsWithOrWithout head bodies body c
  stage-moments is n may_leave holds c (d, left, torn) = inl (torn-behind is n d c (holds d left) torn)

  pub gate-moments : at ≡ length (front head bodies) → (may_leave : DiskOf → Type 0) → ((c : DiskOf) → may_leave c → HoldsWith head bodies body c.journal)
      → (c : DiskOf) → TornFrom may_leave Journal at 1 c → IsWithOrWithout head bodies body c
  gate-moments is may_leave holds c (d, left, torn) = with-either head bodies body c.journal (torn-gate is d c (holds d left) torn)
