-- What a journal keeps from one call to the next.
use Rattle.std.proofs.Common.{◌≡◌, inl, ℕ, ◌+◌, ◌-◌, ◌^◌, ◌<◌, ◌≤◌, Option, None, Some, Result, Ok, Err, List, [], ◌∷◌, ◌++◌, length, take, drop, refl, sym, ◌∙◌, ap, subst, arith, length-append}
use Rattle.std.specs.Result.{OnErr}
use Rattle.std.proofs.lemmas.List.{append-nil, take_at, drop_at}
use Rattle.sc_frame.specs.Fields.{number_field}
use Rattle.sc_frame.proofs.FieldLemmas.{length-number_field}
use Rattle.sc_dev.specs.declared.disk.Part.TheVariants.{Journal}
use Rattle.sc_dev.specs.Disks.{DiskLaw, DiskOf, Torn, Follows}
use Rattle.sc_journal.specs.Texts.{HeadOf, front, Holds, HoldsWith}
use Rattle.sc_journal.specs.Journals.{JournalOf, StandsAt, Keeps, IsWithOrWithout}
use Rattle.sc_journal.specs.JournalInside.{buffered_body}
use Rattle.sc_journal.specs.Stops.{LeavesOnly, Passes, TornFrom}
use Rattle.sc_journal.proofs.Gates.{front-push, legal-push, with-either}
use Rattle.sc_journal.proofs.Images.{images-behind, images-gate, images-staged, images-open, images-closed, stage-moments, gate-moments}
use Rattle.sc_journal.proofs.Runs.{started, goes_on}

-- what holds in any case holds where a call failed
pub on-err : {T E : Type 0} (r : Result T E) (X : Type 0) → X → OnErr r X
on-err (Ok t) X x = tt
on-err (Err e) X x = x

-- the end behind one entry more
pub length-push : (head : HeadOf) (bodies : List (List ℕ)) (body : List ℕ)
    → length (front head (bodies ++ body ∷ [])) ≡ length (front head bodies) + (5 + length body)
length-push head bodies body =
    let whole : front head (bodies ++ body ∷ []) ≡ front head bodies ++ 1 ∷ (number_field 4 (length body) ++ (body ++ [])) =
    sym (append-nil (front head (bodies ++ body ∷ []))) ∙ front-push head bodies body [] in
    let a = length-append (front head bodies) (1 ∷ (number_field 4 (length body) ++ (body ++ []))) in
    let b = length-append (number_field 4 (length body)) (body ++ []) in
    let c = length-append body [] in
    omega (arith, ap length whole, a, b, c, length-number_field 4 (length body))

-- the body that the buffer has
pub buffered : (buffer body : List ℕ) → buffer ≡ number_field 4 (length body) ++ (body ++ 0 ∷ []) → buffered_body buffer ≡ body
buffered buffer body is =
    let size = length-number_field 4 (length body) in
    let long : length buffer - 5 ≡ length body =
    omega (arith, ap length is, length-append (number_field 4 (length body)) (body ++ 0 ∷ []), length-append body (0 ∷ []), size) in
    (λ i. take (long i) (drop 4 (is i)))
    ∙ ap (λ (l : List ℕ). take (length body) l) (drop_at (number_field 4 (length body)) (body ++ 0 ∷ []) 4 size)
    ∙ take_at body (0 ∷ []) (length body) refl

module _ {D : Type 0} (law : DiskLaw D) where
  module _ (head : HeadOf) (bodies : List (List ℕ)) (j : JournalOf D) (keeps : Keeps law j head bodies) where
    -- where nothing is in doubt, every image holds the bodies
    pub settled-images : j.doubt ≡ None → (c : DiskOf) → law.may_leave j.disk c → Holds head bodies c.journal
    settled-images none c left = subst (λ (d : Option (List ℕ)). StandsAt d head bodies c) none (keeps.images c left)

    -- and where an entry is, with it or without
    pub doubted-images : (body : List ℕ) → j.doubt ≡ Some body → (c : DiskOf) → law.may_leave j.disk c → HoldsWith head bodies body c.journal
    doubted-images body some c left = subst (λ (d : Option (List ℕ)). StandsAt d head bodies c) some (keeps.images c left)

    settled-at : (k : JournalOf D) → k.doubt ≡ None → k.end ≡ j.end → k.next ≡ j.next → ((c : DiskOf) → law.may_leave k.disk c → Holds head bodies c.journal)
        → Keeps law k head bodies
    settled-at k none end next images = record {
      told = keeps.told;
      next = next ∙ keeps.next;
      end = end ∙ keeps.end;
      images = λ c left. subst (λ (d : Option (List ℕ)). StandsAt d head bodies c) (sym none) (images c left);
    }

    -- a write behind the closed gate
    pub kept-behind : (k : JournalOf D) (n : ℕ) → j.doubt ≡ None → k.doubt ≡ None → k.end ≡ j.end → k.next ≡ j.next
        → Follows (Torn Journal (j.end + 1) n) (law.may_leave j.disk) (law.may_leave k.disk) → Keeps law k head bodies
    kept-behind k n none still end next follows =
        settled-at k still end next (images-behind head bodies [] j.end (law.may_leave j.disk) (law.may_leave k.disk) keeps.end n (settled-images none) follows)

    -- after it, with its piece synced
    pub staged : (mid : D) (body piece : List ℕ) → law.may_leave j.disk (law.reads j.disk) → j.doubt ≡ None → 1 ≤ length body → length body ≤ 2097152 → j.next ≤ 2 ^ 48
        → piece ≡ number_field 4 (length body) ++ (body ++ 0 ∷ []) → Torn Journal (j.end + 1) (length piece) (law.reads j.disk) (law.reads mid)
        → take (length piece) (drop (j.end + 1) (law.reads mid).journal) ≡ piece → ((c : DiskOf) → law.may_leave mid c → c.journal ≡ (law.reads mid).journal)
        → (c : DiskOf) → law.may_leave mid c → HoldsWith head bodies body c.journal
    staged mid body piece stands none some most number is torn written durable =
        let now = settled-images none (law.reads j.disk) stands in
        images-staged head bodies body j.end (law.reads j.disk) (law.reads mid) (law.may_leave mid) durable keeps.end piece now
        (legal-push head bodies body now.legal some most (omega (arith, number, keeps.next))) is torn written

    -- a write of the gate
    pub kept-gate : (k : JournalOf D) (mid : D) (body : List ℕ) → ((c : DiskOf) → law.may_leave mid c → HoldsWith head bodies body c.journal)
        → k.doubt ≡ Some body → k.end ≡ j.end → k.next ≡ j.next → Follows (Torn Journal j.end 1) (law.may_leave mid) (law.may_leave k.disk)
        → Keeps law k head bodies
    kept-gate k mid body images some end next follows = record {
      told = keeps.told;
      next = next ∙ keeps.next;
      end = end ∙ keeps.end;
      images = λ c left. subst (λ (d : Option (List ℕ)). StandsAt d head bodies c) (sym some) (images-gate head bodies body j.end (law.may_leave mid) (law.may_leave k.disk) keeps.end images follows c left);
    }

    -- after it, open and synced
    pub kept-open : (k : JournalOf D) (mid : D) (body : List ℕ) → ((c : DiskOf) → law.may_leave mid c → HoldsWith head bodies body c.journal) → law.may_leave mid (law.reads mid)
        → k.doubt ≡ None → k.end ≡ j.end + (5 + length body) → k.next ≡ j.next + 1 → Torn Journal j.end 1 (law.reads mid) (law.reads k.disk)
        → take 1 (drop j.end (law.reads k.disk).journal) ≡ 1 ∷ [] → ((c : DiskOf) → law.may_leave k.disk c → c.journal ≡ (law.reads k.disk).journal)
        → Keeps law k head (bodies ++ body ∷ [])
    kept-open k mid body images stands none end next torn written durable = record {
      told = keeps.told;
      next = omega (arith, next, keeps.next, length-append bodies (body ∷ []));
      end = omega (arith, end, keeps.end, length-push head bodies body);
      images = λ c left. subst (λ (d : Option (List ℕ)). StandsAt d head (bodies ++ body ∷ []) c) (sym none)
          (images-open head bodies body j.end (law.reads mid) (law.reads k.disk) (law.may_leave k.disk) durable keeps.end (images (law.reads mid) stands) torn written c left);
    }

    -- or closed and synced
    pub kept-closed : (k : JournalOf D) (body : List ℕ) → j.doubt ≡ Some body → law.may_leave j.disk (law.reads j.disk)
        → k.doubt ≡ None → k.end ≡ j.end → k.next ≡ j.next → Torn Journal j.end 1 (law.reads j.disk) (law.reads k.disk)
        → take 1 (drop j.end (law.reads k.disk).journal) ≡ 0 ∷ [] → ((c : DiskOf) → law.may_leave k.disk c → c.journal ≡ (law.reads k.disk).journal)
        → Keeps law k head bodies
    kept-closed k body some stands none end next torn written durable =
        settled-at k none end next (images-closed head bodies body j.end (law.reads j.disk) (law.reads k.disk) (law.may_leave k.disk) durable keeps.end (doubted-images body some (law.reads j.disk) stands) torn written)

  module _ (only_now : (d : D) (c : DiskOf) → law.moment d < 2 ^ 64 - 1 → law.may_have_left d (law.moment d) c → law.may_leave d c) where
    module _ (head : HeadOf) (bodies : List (List ℕ)) (j : JournalOf D) (keeps : Keeps law j head bodies) (body : List ℕ) where
      -- while the first write runs, since the start
      pub moments-behind : (mid : D) (n : ℕ) → j.doubt ≡ None → Passes law j.disk mid (TornFrom (law.may_leave j.disk) Journal (j.end + 1) n)
          → LeavesOnly law j.disk mid (IsWithOrWithout head bodies body)
      moments-behind mid n none passes =
          let images = settled-images head bodies j keeps none in
          goes_on law j.disk j.disk mid (IsWithOrWithout head bodies body) _
          (started law j.disk (IsWithOrWithout head bodies body) (λ below c left. inl (images c (only_now j.disk c below left)))) passes
          (stage-moments head bodies body j.end keeps.end n (law.may_leave j.disk) images)

      -- and while that of the gate does
      pub moments-gate : (mid new : D) → LeavesOnly law j.disk mid (IsWithOrWithout head bodies body)
          → ((c : DiskOf) → law.may_leave mid c → HoldsWith head bodies body c.journal) → Passes law mid new (TornFrom (law.may_leave mid) Journal j.end 1)
          → LeavesOnly law j.disk new (IsWithOrWithout head bodies body)
      moments-gate mid new so_far images passes =
          goes_on law j.disk mid new (IsWithOrWithout head bodies body) _ so_far passes (gate-moments head bodies body j.end keeps.end (law.may_leave mid) images)

      -- and while it is closed again, where the entry was in doubt at the start
      pub moments-settle : (new : D) → j.doubt ≡ Some body → Passes law j.disk new (TornFrom (law.may_leave j.disk) Journal j.end 1)
          → LeavesOnly law j.disk new (IsWithOrWithout head bodies body)
      moments-settle new some passes =
          let images = doubted-images head bodies j keeps body some in
          moments-gate j.disk new
          (started law j.disk (IsWithOrWithout head bodies body) (λ below c left. with-either head bodies body c.journal (images c (only_now j.disk c below left))))
          images passes
