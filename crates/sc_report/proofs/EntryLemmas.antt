-- What a report tells of entries.
use Rattle.std.proofs.Common.{◌≡◌, ℕ, ◌+◌, ◌<◌, List, [], ◌∷◌, ◌++◌, ap, sym, ◌∙◌, subst, append_assoc, append-nil, Some, get_or, length, slice_get, take, arith}
use Rattle.std.proofs.lemmas.List.{length-take-le, take_more}
use Rattle.std.proofs.lemmas.Option.{slice_get-get_or}
use Rattle.sc_types.specs.declared.history.Entry.{Entry}
use Rattle.sc_report.specs.Entries.{entries_text, entry_text}
use Rattle.sc_report.specs.Outlets.{Puts, Seen}
use Rattle.sc_report.proofs.OutletLemmas.{puts_then}

entries_behind : (n : ℕ) (es : List Entry) (e : Entry) → entries_text n (es ++ e ∷ []) ≡ entries_text n es ++ entry_text (n + length es) e
entries_behind n [] e = append-nil (entry_text n e) ∙ ap (λ m. entry_text m e) (omega arith)
entries_behind n (d ∷ es) e =
    ap (λ text. entry_text n d ++ text) (entries_behind (n + 1) es e)
    ∙ sym (append_assoc (entry_text n d) (entries_text (n + 1) es) (entry_text (n + 1 + length es) e))
    ∙ ap (λ m. entry_text n d ++ entries_text (n + 1) es ++ entry_text m e) (omega arith)

-- One entry more was put.
pub puts_entry : {p q r : Seen} (es : List Entry) (i : ℕ) → i < length es → Puts p q (entries_text 1 (take i es))
    → ((e : Entry) → slice_get es i ≡ Some e → Puts q r (entry_text (i + 1) e)) → Puts p r (entries_text 1 (take (i + 1) es))
puts_entry [] i less h each = absurd (omega (arith, less))
puts_entry {p} {q} {r} (d ∷ ds) i less h each =
    let es = d ∷ ds in
    let e = get_or es i d in
    let size : length (take i es) ≡ i = length-take-le i es (omega (arith, less)) in
    let more : entries_text 1 (take (i + 1) es) ≡ entries_text 1 (take i es) ++ entry_text (i + 1) e =
    ap (entries_text 1) (take_more es i d less) ∙ entries_behind 1 (take i es) e
    ∙ ap (λ m. entries_text 1 (take i es) ++ entry_text m e) (omega (arith, size)) in
    subst (Puts p r) (sym more) (puts_then h (each e (slice_get-get_or es i d less)))

-- the entry that is found is this one
pub same_entry : (a b : Entry) → Some a ≡ Some b → a ≡ b
same_entry a b is = cc
