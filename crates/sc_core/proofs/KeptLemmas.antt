-- What a history keeps of its entries.
use Rattle.std.proofs.Common.{◌≡◌, ℕ, Bool, true, false, cond, ◌+◌, ◌≤◌, List, [], ◌∷◌, ◌++◌, length, map, refl, ap, ◌∙◌, arith}
use Rattle.std.specs.List.{AllByRecursion}
use Rattle.std.proofs.lemmas.List.{get_or_append_left, map-append}
use Rattle.std.proofs.lemmas.List.Sums.{sum_by-append, sum_by-cons}
use Rattle.std.proofs.Math.Seq.{get_or-append_seam}
use Rattle.sc_types.specs.declared.history.Entry.{Entry}
use Rattle.sc_types.specs.declared.history.Who.TheVariants.{Worker}
use Rattle.sc_types.specs.declared.session.CueName.TheVariants.{Fresh}
use Rattle.sc_machine.specs.Accepted.{accepted_steps, is_accepted_step}
use Rattle.sc_core.specs.Keeping.{IsWithin, entry_of}
use Rattle.sc_core.specs.Showing.{stepped_entry}
use Rattle.sc_core.specs.declared.kept.Kept.{Kept}
use Rattle.sc_core.specs.declared.kept.Kept.TheVariants as kept

still_one : (whole : List Entry) (e : Entry) (k : Kept) → IsWithin (length whole) k
    → entry_of (whole ++ e ∷ []) k ≡ entry_of whole k
still_one whole e (kept.Posted who session event number) within = refl
still_one whole e (kept.Stepped who session cue) within = refl
still_one whole e (kept.Whole place) within = get_or_append_left whole (e ∷ []) (stepped_entry Worker [] Fresh) place within

-- entries are the same where one more is kept whole
pub still : (whole : List Entry) (e : Entry) (ks : List Kept) → AllByRecursion (IsWithin (length whole)) ks
    → map (entry_of (whole ++ e ∷ [])) ks ≡ map (entry_of whole) ks
still whole e [] are = refl
still whole e (k ∷ ks) are =
    ap (λ d. d ∷ map (entry_of (whole ++ e ∷ [])) ks) (still_one whole e k are.0)
    ∙ ap (λ es. entry_of whole k ∷ es) (still whole e ks are.1)

-- where more are kept whole, one has its place still
pub within_more : (n m : ℕ) (k : Kept) → n ≤ m → IsWithin n k → IsWithin m k
within_more n m (kept.Posted who session event number) most within = tt
within_more n m (kept.Stepped who session cue) most within = tt
within_more n m (kept.Whole place) most within = omega (arith, most, within)

-- where more are kept whole, and behind one more entry, all have their places still
pub within_behind : (n m : ℕ) (ks : List Kept) (k : Kept) → n ≤ m → AllByRecursion (IsWithin n) ks → IsWithin m k
    → AllByRecursion (IsWithin m) (ks ++ k ∷ [])
within_behind n m [] k most are one = (one, tt)
within_behind n m (j ∷ ks) k most are one = (within_more n m j most are.0, within_behind n m ks k most are.1 one)

-- an entry is added in its short form
pub put_short : (whole : List Entry) (ks : List Kept) (k : Kept) (e : Entry) → entry_of whole k ≡ e
    → map (entry_of whole) (ks ++ k ∷ []) ≡ map (entry_of whole) ks ++ e ∷ []
put_short whole ks k e is =
    map-append (entry_of whole) ks (k ∷ []) ∙ ap (λ d. map (entry_of whole) ks ++ d ∷ []) is

-- an entry is added whole
pub put_whole : (whole : List Entry) (ks : List Kept) (e : Entry) → AllByRecursion (IsWithin (length whole)) ks
    → map (entry_of (whole ++ e ∷ [])) (ks ++ kept.Whole (length whole) ∷ []) ≡ map (entry_of whole) ks ++ e ∷ []
put_whole whole ks e are =
    put_short (whole ++ e ∷ []) ks (kept.Whole (length whole)) e
    (get_or-append_seam whole e [] (stepped_entry Worker [] Fresh))
    ∙ ap (λ es. es ++ e ∷ []) (still whole e ks are)

-- an entry behind others is counted where it is a step that was accepted

behind : (es : List Entry) (e : Entry) (b : Bool) → is_accepted_step e.command e.reply ≡ b
    → accepted_steps (es ++ e ∷ []) ≡ accepted_steps es + cond b 1 0
behind es e b is =
    let f : Entry → ℕ = λ x. cond (is_accepted_step x.command x.reply) 1 0 in
    sum_by-append f es (e ∷ []) ∙ ap (λ n. accepted_steps es + n) (omega (arith, sum_by-cons f e []) ∙ ap (λ v. cond v 1 0) is)

pub one_step_more : (es : List Entry) (e : Entry) → is_accepted_step e.command e.reply ≡ true
    → accepted_steps (es ++ e ∷ []) ≡ accepted_steps es + 1
one_step_more es e is = behind es e true is

pub no_step_more : (es : List Entry) (e : Entry) → is_accepted_step e.command e.reply ≡ false
    → accepted_steps (es ++ e ∷ []) ≡ accepted_steps es
no_step_more es e is = behind es e false is ∙ omega arith
