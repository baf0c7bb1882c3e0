use Rattle.std.proofs.Common.{◌≡◌, ◌∙◌, ℕ, ◌+◌, ◌≤◌, List, [], ◌∷◌, ◌++◌, length, take, drop, reverse, rules, arith, length-append, refl, ap, ap₂, sym, subst, vec_len}
use Rattle.std.proofs.lemmas.List.{reverse-append}
use Rattle.std.proofs.lemmas.List.Elements.{All-append}
use Rattle.sc_dev.specs.declared.mem_part.Change.{Change}
use Rattle.sc_dev.specs.declared.mem_part.Range.{Range}
use Rattle.sc_dev.specs.declared.mem_part.Change.TheVariants.{Wrote}
use Rattle.sc_dev.specs.Histories.{History, wrote, after_call, put_over, read_bytes, pending, bytes_written, furthest}
use Rattle.sc_dev.specs.PartInside.{history_of}
use Rattle.sc_dev.specs.Parts.{PartOf}
use Rattle.sc_dev.specs.Ranges.{length-put_over}
use Rattle.sc_dev.proofs.Undone.{history-written}
use Rattle.sc_dev.proofs.mem_part.MemPart.write.Goals as goal

-- the history after the write, from what each step left
written : (at size before : ℕ) (piece bytes replaced new kept : List ℕ) (changes later : List Change)
    → new ≡ put_over at piece bytes → kept ≡ replaced ++ take (length piece) (drop at bytes)
    → later ≡ changes ++ Wrote at size before ∷ [] → size ≡ length piece → before ≡ length bytes
    → history_of new kept (reverse later) ≡ after_call (wrote at piece) (history_of bytes replaced (reverse changes))
written at size before piece bytes replaced new kept changes later a b e f g =
    let turned : reverse later ≡ Wrote at (length piece) (length bytes) ∷ reverse changes =
    ap reverse e ∙ reverse-append changes (Wrote at size before ∷ []) ∙ ap₂ (λ (m n : ℕ). Wrote at m n ∷ reverse changes) f g in
    (λ i. history_of (a i) (b i) (turned i)) ∙ history-written at piece bytes replaced (reverse changes)

-- that of this call
history : (c : goal.After-note-2) → history_of c.put_over.new.bytes.items c.keep.new.bytes.items (reverse c.note-2.new.items.items)
    ≡ after_call (wrote c.args.at c.args.piece.now) (history_of c.self.inside.bytes.items c.self.inside.replaced.items (reverse c.self.inside.changes.items))
history c =
    let replaced : c.keep.new.bytes.items ≡ c.self.inside.replaced.items ++ take (length c.args.piece.now) (drop c.args.at c.self.inside.bytes.items) = search rules in
    let before : c.len-before.result ≡ length c.self.inside.bytes.items = search rules in
    written c.args.at _ _ c.args.piece.now c.self.inside.bytes.items c.self.inside.replaced.items _ _ c.self.inside.changes.items _
    c.put_over.ensures.items replaced c.note-2.ensures.items refl before

pub returns : goal.returns
returns c = (λ i. record { history = history c i; rooms = c.self.inside.rooms }) ∙ ap (λ (p : PartOf). record p { history = after_call (wrote c.args.at c.args.piece.now) p.history }) c.self.view_is

pub invariant_of-self : goal.invariant_of-self
invariant_of-self c =
    let h = history c in
    let s = c.self.invariant in
    let rooms : c.self.inside.rooms.bytes ≡ c.args.self.now.rooms.bytes = ap (λ (p : PartOf). p.rooms.bytes) c.self.view_is in
    let room : c.args.at + length c.args.piece.now ≤ c.self.inside.rooms.bytes = omega (arith, rooms, c.requires.room) in
    let calls : vec_len c.note-2.new.items ≡ vec_len c.self.inside.changes + 1 = omega (arith, ap length c.note-2.ensures.items, length-append {A = Change}) in
    let ranges : vec_len c.note.new.items ≡ vec_len c.self.inside.pending + 1 = omega (arith, ap length c.note.ensures.items, length-append {A = Range}) in
    let kept : vec_len c.keep.new.bytes ≤ vec_len c.self.inside.replaced + length c.args.piece.now = omega (arith, ap length c.keep.ensures.items, length-append {A = ℕ}, c.range_of.ensures.size) in
    let Ends : Range → Type 0 = λ r. r.at + r.size ≤ c.self.inside.rooms.bytes in
    let long = length-put_over c.args.at c.args.piece.now c.self.inside.bytes.items in
    record {
      bytes = ap read_bytes h ∙ ap (put_over c.args.at c.args.piece.now) s.bytes ∙ sym c.put_over.ensures.items;
      count = ap (λ (k : History). length k.calls) h ∙ omega (arith, s.count, calls);
      pending = ap (λ (k : History). pending k.calls) h ∙ ap (λ (rs : List Range). rs ++ record { at = c.args.at; size = length c.args.piece.now } ∷ []) s.pending ∙ sym c.note.ensures.items;
      short = omega (arith, room, s.short, ap length c.put_over.ensures.items, long);
      within = let P : ℕ → Type 0 = λ n. n ≤ c.self.inside.rooms.bytes in subst P (sym (ap furthest h)) (omega (arith, room, s.within));
      replaced = let P : ℕ → Type 0 = λ n. vec_len c.keep.new.bytes ≤ n in subst P (sym (ap bytes_written h)) (omega (arith, s.replaced, kept));
      room = omega arith;
      written = omega arith;
      changes = omega arith;
      ranges = omega arith;
      ends = rw c.note.ensures.items (All-append Ends c.self.inside.pending.items (record { at = c.args.at; size = length c.args.piece.now } ∷ []) s.ends (search (rules, room)));
      few = omega (arith, calls, ranges);
    }
