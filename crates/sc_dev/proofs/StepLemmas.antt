-- What a call of a disk in memory does to the images that a stop may leave.
use Rattle.std.proofs.Common.{◌≡◌, ◌⊎◌, inl, inr, ℕ, zero, suc, ◌≤◌, List, [], ◌∷◌, length, refl, sym, ◌∙◌, ap, subst, arith}
use Rattle.sc_dev.specs.declared.disk.Part.{Part}
use Rattle.sc_dev.specs.declared.disk.Part.TheVariants.{Journal, SlotA, SlotB}
use Rattle.sc_dev.specs.Causes.{risen}
use Rattle.sc_dev.specs.Disks.{DiskOf, Torn, Fits, Follows, Within}
use Rattle.sc_dev.specs.Histories.{Done, History, passed, wrote, lost, synced, bytes_after, LeavesAfter, read_bytes, MayLeave, furthest_in}
use Rattle.sc_dev.specs.MemDisks.{PartsOf, PartsFit, MemDiskOf, PartsLeave, MightHaveLeft, with_call, parts_read, parts_ago, calls_made, moment_of}
use Rattle.sc_dev.specs.MemDiskFacts.{leaves-read}
use Rattle.sc_dev.specs.Ranges.{length-put_over, torn-put_over}
use Rattle.sc_dev.specs.Steps.{Steps}

length-bytes : (first : List ℕ) (calls : List Done) → length (bytes_after first calls) ≤ furthest_in (length first) calls
length-bytes first [] = omega arith
length-bytes first (passed ∷ calls) = length-bytes first calls
length-bytes first (wrote at piece ∷ calls) = omega (arith, length-bytes first calls, length-put_over at piece (bytes_after first calls))
length-bytes first (lost at n ∷ calls) = omega (arith, length-bytes first calls)
length-bytes first (synced ∷ calls) = length-bytes first calls

-- an image ends where the part or a written range ended
pub length-image : (first : List ℕ) (calls : List Done) (c : List ℕ) → LeavesAfter first calls c → length c ≤ furthest_in (length first) calls
length-image first [] c is = omega (arith, ap length is)
length-image first (passed ∷ calls) c left = length-image first calls c left
length-image first (wrote at piece ∷ calls) c left = let rest = length-image first calls left.0 left.1 in omega (arith, rest, left.2.no_longer)
length-image first (lost at n ∷ calls) c left = let rest = length-image first calls left.0 left.1 in omega (arith, rest, left.2.no_longer)
length-image first (synced ∷ calls) c is = omega (arith, ap length is, length-bytes first calls)

pub images-fit : (p : PartsOf) → PartsFit p → (c : DiskOf) → PartsLeave p c → Fits c
images-fit p fit c left = record {
  journal = omega (arith, fit.limit, fit.journal, length-image p.journal.first p.journal.calls c.journal left.journal);
  slot_a = omega (arith, fit.limit, fit.slot_a, length-image p.slot_a.first p.slot_a.calls c.slot_a left.slot_a);
  slot_b = omega (arith, fit.limit, fit.slot_b, length-image p.slot_b.first p.slot_b.calls c.slot_b left.slot_b);
}

made-more : (part : Part) (call : Done) (p : PartsOf) → calls_made (with_call part call p) ≡ suc (calls_made p)
made-more Journal call p = refl
made-more SlotA call p = refl
made-more SlotB call p = refl

-- one call ago the parts were what they were before it
ago-more : (part : Part) (call : Done) (p : PartsOf) (k : ℕ) → parts_ago (suc k) (with_call part call p) ≡ parts_ago k p
ago-more Journal call p k = refl
ago-more SlotA call p k = refl
ago-more SlotB call p k = refl

-- a call within the room in calls
pub steps-call : (old new : MemDiskOf) (part : Part) (call : Done) → new.parts ≡ with_call part call old.parts → old.past ≡ 0 → new.past ≡ 0
    → PartsFit new.parts → Steps old new
steps-call old new part call is quiet still fit = record {
  time = record {
    later = omega (arith, more, still, quiet);
    rose = omega (arith, more);
    nothing_else = nothing_else;
    keeps = keeps;
  };
  fits = images-fit new.parts fit;
}
  where
    more : calls_made new.parts ≡ suc (calls_made old.parts)
    more = ap calls_made is ∙ made-more part call old.parts

    earlier : (k : ℕ) → parts_ago (suc k) new.parts ≡ parts_ago k old.parts
    earlier k = ap (parts_ago (suc k)) is ∙ ago-more part call old.parts k

    nothing_else : (t : ℕ) (c : DiskOf) → t ≤ moment_of old → MightHaveLeft new t c → MightHaveLeft old t c ⊎ PartsLeave new.parts c
    nothing_else t c le (inl now) = inr now.1
    nothing_else t c le (inr (zero, within, left)) = inr left
    nothing_else t c le (inr (suc k, within, left)) = inl (inr (k, omega (arith, within, more), subst (λ (p : PartsOf). PartsLeave p c) (earlier k) left))

    keeps : (t : ℕ) (c : DiskOf) → t ≤ moment_of old → MightHaveLeft old t c → MightHaveLeft new t c
    keeps t c le (inl now) = inr (1, omega (arith, le, more, quiet), subst (λ (p : PartsOf). PartsLeave p c) (sym (earlier 0)) now.1)
    keeps t c le (inr then) = inr (suc then.0, omega (arith, then.1, more), subst (λ (p : PartsOf). PartsLeave p c) (sym (earlier then.0)) then.2)

-- a call past it
pub steps-past : (old new : MemDiskOf) → new.parts ≡ old.parts → new.past ≡ risen old.past → PartsFit old.parts → Steps old new
steps-past old new is later fit = record {
  time = record {
    later = omega (arith, same, later);
    rose = omega (arith, same, later);
    nothing_else = nothing_else;
    keeps = keeps;
  };
  fits = λ c left. images-fit old.parts fit c (subst (λ (p : PartsOf). PartsLeave p c) is left);
}
  where
    same : calls_made new.parts ≡ calls_made old.parts
    same = ap calls_made is

    nothing_else : (t : ℕ) (c : DiskOf) → t ≤ moment_of old → MightHaveLeft new t c → MightHaveLeft old t c ⊎ PartsLeave new.parts c
    nothing_else t c le (inl now) = inr now.1
    nothing_else t c le (inr then) = inl (inr (then.0, omega (arith, then.1, same), subst (λ (p : PartsOf). PartsLeave (parts_ago then.0 p) c) is then.2))

    keeps : (t : ℕ) (c : DiskOf) → t ≤ moment_of old → MightHaveLeft old t c → MightHaveLeft new t c
    keeps t c le (inl now) = inl (omega (arith, le, same, later), subst (λ (p : PartsOf). PartsLeave p c) (sym is) now.1)
    keeps t c le (inr then) = inr (then.0, omega (arith, then.1, same), subst (λ (p : PartsOf). PartsLeave (parts_ago then.0 p) c) (sym is) then.2)

read-back : (h : History) (c : List ℕ) → c ≡ read_bytes h → MayLeave h c
read-back h c is = subst (MayLeave h) (sym is) (leaves-read h.first h.calls)

pub synced-leaves : (part : Part) (p : PartsOf) → Within (PartsLeave p) (PartsLeave (with_call part synced p))
synced-leaves Journal p c left = record { journal = read-back p.journal c.journal left.journal; slot_a = left.slot_a; slot_b = left.slot_b }
synced-leaves SlotA p c left = record { journal = left.journal; slot_a = read-back p.slot_a c.slot_a left.slot_a; slot_b = left.slot_b }
synced-leaves SlotB p c left = record { journal = left.journal; slot_a = left.slot_a; slot_b = read-back p.slot_b c.slot_b left.slot_b }

pub wrote-read : (part : Part) (at : ℕ) (piece : List ℕ) (p : PartsOf)
    → Torn part at (length piece) (parts_read p) (parts_read (with_call part (wrote at piece) p))
wrote-read Journal at piece p = record { others = refl; range = torn-put_over at piece (read_bytes p.journal) }
wrote-read SlotA at piece p = record { others = refl; range = torn-put_over at piece (read_bytes p.slot_a) }
wrote-read SlotB at piece p = record { others = refl; range = torn-put_over at piece (read_bytes p.slot_b) }

pub wrote-leaves : (part : Part) (at : ℕ) (piece : List ℕ) (p : PartsOf)
    → Follows (Torn part at (length piece)) (PartsLeave p) (PartsLeave (with_call part (wrote at piece) p))
wrote-leaves Journal at piece p c left = (record c { journal = left.journal.0 }, record { journal = left.journal.1; slot_a = left.slot_a; slot_b = left.slot_b }, record { others = refl; range = left.journal.2 })
wrote-leaves SlotA at piece p c left = (record c { slot_a = left.slot_a.0 }, record { journal = left.journal; slot_a = left.slot_a.1; slot_b = left.slot_b }, record { others = refl; range = left.slot_a.2 })
wrote-leaves SlotB at piece p c left = (record c { slot_b = left.slot_b.0 }, record { journal = left.journal; slot_a = left.slot_a; slot_b = left.slot_b.1 }, record { others = refl; range = left.slot_b.2 })

pub lost-leaves : (part : Part) (at n : ℕ) (p : PartsOf)
    → Follows (Torn part at n) (PartsLeave p) (PartsLeave (with_call part (lost at n) p))
lost-leaves Journal at n p c left = (record c { journal = left.journal.0 }, record { journal = left.journal.1; slot_a = left.slot_a; slot_b = left.slot_b }, record { others = refl; range = left.journal.2 })
lost-leaves SlotA at n p c left = (record c { slot_a = left.slot_a.0 }, record { journal = left.journal; slot_a = left.slot_a.1; slot_b = left.slot_b }, record { others = refl; range = left.slot_a.2 })
lost-leaves SlotB at n p c left = (record c { slot_b = left.slot_b.0 }, record { journal = left.journal; slot_a = left.slot_a; slot_b = left.slot_b.1 }, record { others = refl; range = left.slot_b.2 })
