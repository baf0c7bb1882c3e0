-- The report of a history tells the history.
use Rattle.std.proofs.Common.{◌≡◌, ℕ, ◌+◌, false, List, [], ◌∷◌, ◌++◌, get_or, drop, flat_map, length, refl, ap, ap₂, sym, subst, ◌∙◌, append_assoc, decimal, codes, arith}
use Rattle.std.proofs.lemmas.List.{append_cancel_left}
use Rattle.sc_base.specs.Text.{is_digit}
use Rattle.sc_types.specs.declared.history.Entry.{Entry}
use Rattle.sc_types.specs.declared.host.HostImage.{HostImage}
use Rattle.sc_machine.specs.Commands.{Answer, answer}
use Rattle.sc_machine.specs.Histories.{Tells, replay}
use Rattle.sc_report.specs.declared.end.End.{End}
use Rattle.sc_report.specs.declared.end.End.TheVariants as end
use Rattle.sc_report.specs.Entries.{who_text, reply_text, log_text, delivery_text, entries_text}
use Rattle.sc_report.specs.Lines.{command_text, line}
use Rattle.sc_report.specs.Report.{session_text, end_word, report}
use Rattle.sc_report_facts.specs.Histories.{IsHistory}
use Rattle.sc_report_facts.proofs.Cutting.{SameCut, cut}
use Rattle.sc_report_facts.proofs.Decimals.{Begins, decimal_begins, decimal_digits}
use Rattle.sc_report_facts.proofs.CommandLines.{line_cut}

-- ---- entries

-- what stands behind the line of a command in the text of its entry
abbrev told : Entry → List ℕ
told e = line (codes "= " ++ reply_text e.reply) ++ flat_map log_text e.logs ++ flat_map delivery_text e.sent

entry_split : (number who command reply logs sent later rest : List ℕ)
    → (((((((((number ++ 32 ∷ []) ++ who) ++ 32 ∷ []) ++ command) ++ 10 ∷ []) ++ reply) ++ logs) ++ sent) ++ later)
    ++ rest
    ≡ number ++ 32 ∷ (who ++ 32 ∷ (command ++ 10 ∷ (((reply ++ logs) ++ sent) ++ (later ++ rest))))
entry_split number who command reply logs sent later rest = simp append_assoc

first_split : (n : ℕ) (e : Entry) (es : List Entry) (rest : List ℕ)
    → entries_text n (e ∷ es) ++ rest
    ≡ decimal n
    ++ 32 ∷ (who_text e.who ++ 32 ∷ (command_text e.command ++ 10 ∷ (told e ++ (entries_text (n + 1) es ++ rest))))
first_split n e es rest =
    entry_split (decimal n) (who_text e.who) (command_text e.command) (line (codes "= " ++ reply_text e.reply))
    (flat_map log_text e.logs) (flat_map delivery_text e.sent) (entries_text (n + 1) es) rest

-- entries that tell what one host answers to one command are equal
same_entry : (e f : Entry) (a : Answer) → Tells e a → Tells f a → e.who ≡ f.who → e.command ≡ f.command → e ≡ f
same_entry e f a p q who command = λ i. record {
  who = who i;
  command = command i;
  reply = (p.reply ∙ sym q.reply) i;
  logs = (p.logs ∙ sym q.logs) i;
  sent = (p.sent ∙ sym q.sent) i;
}

no_letter : (n b : ℕ) (r s : List ℕ) → is_digit b ≡ false → b ∷ s ≡ decimal n ++ r → ⊥
no_letter n b r s h e = begins_not (decimal n) (decimal_begins n) e
  where
    begins_not : (ds : List ℕ) → Begins is_digit ds → b ∷ s ≡ ds ++ r → ⊥
    begins_not [] own e = own
    begins_not (d ∷ ds) own e = let same : b ≡ d = cc in cc (ap is_digit same, own, h)

rest_of : (g : HostImage) (e : Entry) (es : List Entry) → IsHistory g (e ∷ es) → IsHistory (answer g e.command).host es
rest_of g e es p = record { legal = p.legal.1; typed = p.typed.1; charts = p.charts.1 }

-- what stands behind the entries begins with an `s`, and an entry with a digit
entries_cut : (g : HostImage) (n : ℕ) (es fs : List Entry) (r s : List ℕ) → IsHistory g es → IsHistory g fs
    → entries_text n es ++ 115 ∷ r ≡ entries_text n fs ++ 115 ∷ s → SameCut es fs r s
entries_cut g n [] [] r s p q same = record { front = refl; rest = ap (drop 1) same }
entries_cut g n [] (f ∷ fs) r s p q same =
    absurd (no_letter n 115 _ r refl (same ∙ first_split n f fs (115 ∷ s)))
entries_cut g n (e ∷ es) [] r s p q same =
    absurd (no_letter n 115 _ s refl (sym same ∙ first_split n e es (115 ∷ r)))
entries_cut g n (e ∷ es) (f ∷ fs) r s p q same =
    let split = sym (first_split n e es (115 ∷ r)) ∙ same ∙ first_split n f fs (115 ∷ s) in
    let lines = ap (drop 1) (append_cancel_left (decimal n) _ _ split) in
    let first = line_cut e.who f.who e.command f.command _ _ p.typed.0.who q.typed.0.who p.typed.0.command
    q.typed.0.command p.charts.0 q.charts.0 lines in
    let tells = subst (λ c. Tells f (answer g c)) (sym first.command) q.legal.0 in
    let one = same_entry e f (answer g e.command) p.legal.0 tells first.who first.command in
    let behind = sym (ap (λ x. told x ++ (entries_text (n + 1) es ++ 115 ∷ r)) one) ∙ first.rest in
    let others = subst (λ c. IsHistory (answer g c).host fs) (sym first.command) (rest_of g f fs q) in
    let later = entries_cut (answer g e.command).host (n + 1) es fs r s (rest_of g e es p) others
    (append_cancel_left (told f) _ _ behind) in
    record { front = ap₂ (λ x xs. x ∷ xs) one later.front; rest = later.rest }

-- ---- reports

-- what stands behind the entries, up to the last line
abbrev state : HostImage → List ℕ
state g =
    line (codes "sessions " ++ decimal (length g.sessions)) ++ flat_map (session_text g) g.sessions
    ++ line (codes "clock " ++ decimal g.clock ++ codes " timers " ++ decimal (length g.timers))

last : End → List ℕ
last e = line (codes "end " ++ end_word e)

parts_split : (number entries sessions each clock last : List ℕ)
    → (((((number ++ 10 ∷ []) ++ entries) ++ sessions) ++ each) ++ clock) ++ last
    ≡ number ++ 10 ∷ (entries ++ (((sessions ++ each) ++ clock) ++ last))
parts_split number entries sessions each clock last = simp append_assoc

report_split : (opened : ℕ) (g : HostImage) (history : List Entry) (e : End)
    → drop 5 (report opened g history e) ≡ decimal opened ++ 10 ∷ (entries_text 1 history ++ (state g ++ last e))
unfolding last
report_split opened g history e =
    parts_split (decimal opened) (entries_text 1 history) (line (codes "sessions " ++ decimal (length g.sessions)))
    (flat_map (session_text g) g.sessions)
    (line (codes "clock " ++ decimal g.clock ++ codes " timers " ++ decimal (length g.timers))) (last e)

-- the first letter tells the words apart
abbrev letter : List ℕ → ℕ
letter text = get_or text 4 0

abbrev letter_of : End → ℕ
letter_of end.Quiet = 113
letter_of end.Budget = 98
letter_of end.Disk = 100
letter_of end.Full = 102
letter_of end.Shown = 115

letter_at : (e : End) → letter (last e) ≡ letter_of e
unfolding last
letter_at end.Quiet = refl
letter_at end.Budget = refl
letter_at end.Disk = refl
letter_at end.Full = refl
letter_at end.Shown = refl

same_letter : (e f : End) → letter_of e ≡ letter_of f → e ≡ f
same_letter end.Quiet end.Quiet h = refl
same_letter end.Budget end.Budget h = refl
same_letter end.Disk end.Disk h = refl
same_letter end.Full end.Full h = refl
same_letter end.Shown end.Shown h = refl
same_letter e f h = absurd (omega arith)

last_cut : (e f : End) → last e ≡ last f → e ≡ f
last_cut e f same = same_letter e f (sym (letter_at e) ∙ ap letter same ∙ letter_at f)

-- what two equal reports tell
pub record SameReport (h k : List Entry) (e f : End) : Type 0 where
  pub history : h ≡ k
  pub end : e ≡ f

-- a report tells its history, and how the run ended
pub report_tells : (g : HostImage) (opened other : ℕ) (h k : List Entry) (e f : End) → IsHistory g h → IsHistory g k
    → report opened (replay g h) h e ≡ report other (replay g k) k f → SameReport h k e f
report_tells g opened other h k e f p q same =
    let split = sym (report_split opened (replay g h) h e) ∙ ap (drop 5) same ∙ report_split other (replay g k) k f in
    let counts = cut is_digit (decimal opened) (decimal other) (10 ∷ _) (10 ∷ _) (decimal_digits opened)
    (decimal_digits other) refl refl split in
    let entries = entries_cut g 1 h k _ _ p q (ap (drop 1) counts.rest) in
    let states = sym (ap (λ es. drop 1 (state (replay g es)) ++ last e) entries.front) ∙ entries.rest in
    record { history = entries.front; end = last_cut e f (append_cancel_left (drop 1 (state (replay g k))) _ _ states) }
