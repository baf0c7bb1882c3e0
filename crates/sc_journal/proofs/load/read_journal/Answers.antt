use Rattle.std.proofs.Common.{◌≡◌, ◌∙◌, ℕ, ◌+◌, List, ◌++◌, length, take, drop, sym, ap, arith, length-append, length-take}
use Rattle.std.proofs.Math.Seq.{take-add}
use Rattle.std.proofs.lemmas.List.{take-append-le}
use Rattle.sc_journal.proofs.Runs.{passes-call}
use Rattle.sc_journal.proofs.load.read_journal.Goals as goal

-- a piece behind what was read
more : (whole text piece new : List ℕ) (n : ℕ) → text ≡ take (length text) whole → piece ≡ take n (drop (length text) whole) → length piece ≡ n
    → new ≡ text ++ piece → new ≡ take (length new) whole
more whole text piece new n so_far next long is =
    let size : length new ≡ length text + n = ap length is ∙ length-append text piece ∙ ap (λ (m : ℕ). length text + m) long in
    is ∙ (λ i. so_far i ++ next i) ∙ sym (take-add (length text) n whole) ∙ ap (λ (m : ℕ). take m whole) (sym size)

pub loop-buffer-preserved : goal.loop-buffer-preserved
loop-buffer-preserved g c =
    let i = c.loop-buffer.invariant in
    let e = c.in_ok-count.ensures in
    let into = c.read_at.new.into in
    let count = c.in_ok-count.count in
    let old_long = length-take c.min-room.result c.loop-buffer.buffer in
    let kept = c.read_at.auto.into in
    let asked : length (take c.min-room.result c.loop-buffer.buffer) ≡ count = omega (arith, e.bound.0, kept, old_long, c.if-count-room.false) in
    let long : length (take count into) ≡ count = sym e.bound.1 in
    let new : c.extend_from_slice.new.self.items ≡ c.loop-buffer.text.items ++ take count into =
    c.in_ok-extend_from_slice.ensures.items ∙ ap (λ (l : List ℕ). c.loop-buffer.text.items ++ l) (take-append-le count into (drop c.min-room.result c.loop-buffer.buffer) e.bound.0) in
    let at : c.len-in-loop-buffer-2.result ≡ length c.loop-buffer.text.items = omega arith in
    record {
      short = omega (arith, i.short, ap length new, length-append c.loop-buffer.text.items (take count into), long, asked, old_long);
      stays = e.stays ∙ i.stays;
      text = λ told.
          more (g.D.Disk.law.reads c.args.disk.now).journal c.loop-buffer.text.items (take count into) _ count (i.text told)
          (e.bytes told ∙ (λ k. take (asked k) (drop (at k) (i.stays k).journal))) long new;
      images = λ d left. i.images d (e.images d left);
      passes = passes-call g.D.Disk.law c.args.disk.now c.loop-buffer.disk c.read_at.new.self _ i.passes e.time (λ d left. i.images d (e.images d left));
      later = omega (arith, i.later, e.cause.later);
      fine = c.in_ok-count.ensures.fine ∙ i.fine;
      same = e.same ∙ i.same;
    }
