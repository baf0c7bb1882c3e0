use Rattle.std.proofs.Common.{◌≡◌, ◌+◌, [], ◌∷◌, ◌++◌, length, arith, length-append, rules}
use Rattle.std.specs.Vec.{vec_len}
use Rattle.sc_core.specs.declared.kept.Kept.TheVariants as kept
use Rattle.sc_core.proofs.KeptLemmas.{put_whole, within_behind, within_more}
use Rattle.sc_core.proofs.kept.Store.push.Goals as goal

pub returns-in-Ok-clause-within : goal.returns-in-Ok-clause-within
returns-in-Ok-clause-within c =
    let s = c.args.self.now in
    let n = length s.whole.items in
    rw c.put.ensures.items
    (within_behind n n s.kept.items c.in-Ok.kept (omega arith) c.requires.within
    (within_more 0 n c.in-Ok.kept (omega arith) (c.in-Ok.ensures.short []).1))

pub returns-in-Err-clause-entries : goal.returns-in-Err-clause-entries
returns-in-Err-clause-entries c =
    let s = c.args.self.now in
    let place : vec_len s.whole ≡ length s.whole.items = search rules in
    rw (c.put-in-Err.ensures.items, c.put-in-Err-2.ensures.items, c.len-place.ensures, c.in-Err.ensures.whole, place)
    (put_whole s.whole.items s.kept.items c.args.entry c.requires.within)

pub returns-in-Err-clause-within : goal.returns-in-Err-clause-within
returns-in-Err-clause-within c =
    let s = c.args.self.now in
    let n = length s.whole.items in
    let more : length (s.whole.items ++ c.in-Err.entry ∷ []) ≡ n + 1 = length-append s.whole.items (c.in-Err.entry ∷ []) in
    let place : vec_len s.whole ≡ n = search rules in
    rw (c.put-in-Err.ensures.items, c.put-in-Err-2.ensures.items, c.len-place.ensures, place)
    (within_behind n (length (s.whole.items ++ c.in-Err.entry ∷ [])) s.kept.items (kept.Whole n) (omega (arith, more)) c.requires.within
    (omega (arith, more)))
