-- The line of a command tells the command and who made it.
use Rattle.std.proofs.Common.{◌≡◌, ℕ, ◌+◌, ◌<◌, ◌^◌, ◌==◌, ◌||◌, true, not, List, [], ◌∷◌, ◌++◌, drop, get_or, flat_map, refl, ap, ap₂, sym, ◌∙◌, arith, append_assoc, decimal}
use Rattle.std.specs.List.{list_all, AllByRecursion}
use Rattle.sc_base.specs.Text.{IsWord, IsPlainName, is_name_byte, is_letter, is_digit}
use Rattle.sc_types.specs.Values.{value_text}
use Rattle.sc_types.specs.declared.command.Command.{Command}
use Rattle.sc_types.specs.declared.command.Command.TheVariants.{Install, Start, Post, Tick, Cancel, Step}
use Rattle.sc_types.specs.declared.history.Who.{Who}
use Rattle.sc_types.specs.declared.history.Who.TheVariants.{Client, Worker}
use Rattle.sc_types.specs.declared.value.Value.{Value}
use Rattle.sc_report.specs.Entries.{who_text}
use Rattle.sc_report.specs.Lines.{pair_text, command_text}
use Rattle.sc_report_facts.specs.Histories.{IsTypedPair, IsTypedCommand, IsTypedWho, IsOneLine}
use Rattle.sc_report_facts.proofs.Cutting.{Stops, SameCut, differ, cut}
use Rattle.sc_report_facts.proofs.Decimals.{decimal_cut}
use Rattle.sc_report_facts.proofs.ValueTexts.{value_cut}

-- a word ends where no byte of a name stands
word_cut : (x y r s : List ℕ) → IsWord x → IsWord y → Stops is_name_byte r → Stops is_name_byte s → x ++ r ≡ y ++ s
    → SameCut x y r s
word_cut x y r s p q ends stops e = cut is_name_byte x y r s p.name.each q.name.each ends stops e

plain_name_cut : (x y r s : List ℕ) → IsPlainName x → IsPlainName y → x ++ 61 ∷ r ≡ y ++ 61 ∷ s
    → SameCut x y (61 ∷ r) (61 ∷ s)
plain_name_cut x y r s p q e = cut (λ b. is_letter b || is_digit b) x y (61 ∷ r) (61 ∷ s) p.each q.each refl refl e

-- ---- pairs

abbrev Pair : Type 0
Pair = List ℕ × Value

abbrev pairs_text : List Pair → List ℕ
pairs_text pairs = flat_map pair_text pairs

pairs_stop : (pairs : List Pair) (r : List ℕ) → Stops is_digit (pairs_text pairs ++ 10 ∷ r)
pairs_stop [] r = refl
pairs_stop (p ∷ pairs) r = refl

pairs_end : (pairs : List Pair) (r : List ℕ) → Stops is_name_byte (pairs_text pairs ++ 10 ∷ r)
pairs_end [] r = refl
pairs_end (p ∷ pairs) r = refl

pair_split : (name value rest r : List ℕ)
    → (((name ++ 61 ∷ []) ++ value) ++ rest) ++ 10 ∷ r ≡ name ++ 61 ∷ (value ++ (rest ++ 10 ∷ r))
pair_split name value rest r = simp append_assoc

pairs_cut : (ps qs : List Pair) (r s : List ℕ) → AllByRecursion IsTypedPair ps → AllByRecursion IsTypedPair qs
    → pairs_text ps ++ 10 ∷ r ≡ pairs_text qs ++ 10 ∷ s → SameCut ps qs r s
pairs_cut [] [] r s p q e = record { front = refl; rest = ap (drop 1) e }
pairs_cut [] (b ∷ qs) r s p q e = absurd (differ e refl)
pairs_cut (a ∷ ps) [] r s p q e = absurd (differ e refl)
pairs_cut (a ∷ ps) (b ∷ qs) r s p q e =
    let split = sym (pair_split a.0 (value_text a.1) (pairs_text ps) r) ∙ ap (drop 1) e
    ∙ pair_split b.0 (value_text b.1) (pairs_text qs) s in
    let names = plain_name_cut a.0 b.0 _ _ p.0.name q.0.name split in
    let values = value_cut a.1 b.1 _ _ p.0.value q.0.value (pairs_stop ps r) (pairs_stop qs s)
    (ap (drop 1) names.rest) in
    let later = pairs_cut ps qs r s p.1 q.1 values.rest in
    record {
      front = ap₂ (λ x xs. x ∷ xs) (ap₂ (λ name value. (name, value)) names.front values.front) later.front;
      rest = later.rest;
    }

-- ---- commands

-- the first and the third letter together tell the six words apart
abbrev kind : List ℕ → ℕ
kind text = get_or text 0 0 + get_or text 2 0

abbrev kind_of : Command → ℕ
kind_of (Install name chart) = 196
kind_of (Start session chart) = 212
kind_of (Post session event pairs) = 227
kind_of (Tick ticks) = 215
kind_of (Cancel session) = 209
kind_of (Step session) = 216

kind_at : (c : Command) (rest : List ℕ) → kind (command_text c ++ rest) ≡ kind_of c
kind_at (Install name chart) rest = refl
kind_at (Start session chart) rest = refl
kind_at (Post session event pairs) rest = refl
kind_at (Tick ticks) rest = refl
kind_at (Cancel session) rest = refl
kind_at (Step session) rest = refl

-- two parts with a space between, at the end of a line
two_split : (first second r : List ℕ) → ((first ++ 32 ∷ []) ++ second) ++ 10 ∷ r ≡ first ++ 32 ∷ (second ++ 10 ∷ r)
two_split first second r = simp append_assoc

post_split : (session event pairs r : List ℕ)
    → (((session ++ 32 ∷ []) ++ event) ++ pairs) ++ 10 ∷ r ≡ session ++ 32 ∷ (event ++ (pairs ++ 10 ∷ r))
post_split session event pairs r = simp append_assoc

install_cut : (name chart other text r s : List ℕ) → IsWord name → IsWord other
    → list_all (λ b. not (b == 10)) chart ≡ true
    → list_all (λ b. not (b == 10)) text ≡ true
    → ((name ++ 32 ∷ []) ++ chart) ++ 10 ∷ r ≡ ((other ++ 32 ∷ []) ++ text) ++ 10 ∷ s
    → SameCut (Install name chart) (Install other text) r s
install_cut name chart other text r s p q one line e =
    let split = sym (two_split name chart r) ∙ e ∙ two_split other text s in
    let names = word_cut name other _ _ p q refl refl split in
    let charts = cut (λ b. not (b == 10)) chart text (10 ∷ r) (10 ∷ s) one line refl refl (ap (drop 1) names.rest) in
    record { front = ap₂ Install names.front charts.front; rest = ap (drop 1) charts.rest }

start_cut : (session chart other text r s : List ℕ) → IsWord session × IsWord chart → IsWord other × IsWord text
    → ((session ++ 32 ∷ []) ++ chart) ++ 10 ∷ r ≡ ((other ++ 32 ∷ []) ++ text) ++ 10 ∷ s
    → SameCut (Start session chart) (Start other text) r s
start_cut session chart other text r s p q e =
    let split = sym (two_split session chart r) ∙ e ∙ two_split other text s in
    let sessions = word_cut session other _ _ p.0 q.0 refl refl split in
    let charts = word_cut chart text (10 ∷ r) (10 ∷ s) p.1 q.1 refl refl (ap (drop 1) sessions.rest) in
    record { front = ap₂ Start sessions.front charts.front; rest = ap (drop 1) charts.rest }

post_cut : (session event other name r s : List ℕ) (ps qs : List Pair)
    → IsWord session × (IsWord event × AllByRecursion IsTypedPair ps)
    → IsWord other × (IsWord name × AllByRecursion IsTypedPair qs)
    → (((session ++ 32 ∷ []) ++ event) ++ pairs_text ps) ++ 10 ∷ r
    ≡ (((other ++ 32 ∷ []) ++ name) ++ pairs_text qs) ++ 10 ∷ s
    → SameCut (Post session event ps) (Post other name qs) r s
post_cut session event other name r s ps qs p q e =
    let split = sym (post_split session event (pairs_text ps) r) ∙ e ∙ post_split other name (pairs_text qs) s in
    let sessions = word_cut session other _ _ p.0 q.0 refl refl split in
    let events = word_cut event name _ _ p.1.0 q.1.0 (pairs_end ps r) (pairs_end qs s) (ap (drop 1) sessions.rest) in
    let pairs = pairs_cut ps qs r s p.1.1 q.1.1 events.rest in
    record { front = λ i. Post (sessions.front i) (events.front i) (pairs.front i); rest = pairs.rest }

one_cut : (make : List ℕ → Command) (x y r s : List ℕ) → IsWord x → IsWord y → x ++ 10 ∷ r ≡ y ++ 10 ∷ s
    → SameCut (make x) (make y) r s
one_cut make x y r s p q e =
    let names = word_cut x y (10 ∷ r) (10 ∷ s) p q refl refl e in
    record { front = ap make names.front; rest = ap (drop 1) names.rest }

tick_cut : (m n : ℕ) (r s : List ℕ) → m < 2 ^ 64 → n < 2 ^ 64 → decimal m ++ 10 ∷ r ≡ decimal n ++ 10 ∷ s
    → SameCut (Tick m) (Tick n) r s
tick_cut m n r s p q e =
    let ticks = decimal_cut m n (10 ∷ r) (10 ∷ s) p q refl refl e in
    record { front = ap Tick ticks.front; rest = ap (drop 1) ticks.rest }

command_cut : (c d : Command) (r s : List ℕ) → IsTypedCommand c → IsTypedCommand d → IsOneLine c → IsOneLine d
    → command_text c ++ 10 ∷ r ≡ command_text d ++ 10 ∷ s → SameCut c d r s
command_cut (Install name chart) (Install other text) r s p q one line e =
    install_cut name chart other text r s p q one line (ap (drop 6) e)
command_cut (Start session chart) (Start other text) r s p q one line e =
    start_cut session chart other text r s p q (ap (drop 6) e)
command_cut (Post session event ps) (Post other name qs) r s p q one line e =
    post_cut session event other name r s ps qs p q (ap (drop 5) e)
command_cut (Tick m) (Tick n) r s p q one line e = tick_cut m n r s p q (ap (drop 5) e)
command_cut (Cancel session) (Cancel other) r s p q one line e = one_cut Cancel session other r s p q (ap (drop 7) e)
command_cut (Step session) (Step other) r s p q one line e = one_cut Step session other r s p q (ap (drop 5) e)
command_cut c d r s p q one line e =
    let kinds : kind_of c ≡ kind_of d = sym (kind_at c (10 ∷ r)) ∙ ap kind e ∙ kind_at d (10 ∷ s) in
    absurd (omega arith)

-- ---- who made it

maker_cut : (w v : Who) (r s : List ℕ) → IsTypedWho w → IsTypedWho v → who_text w ++ 32 ∷ r ≡ who_text v ++ 32 ∷ s
    → SameCut w v r s
maker_cut (Client m) (Client n) r s p q e =
    let numbers = decimal_cut m n (32 ∷ r) (32 ∷ s) (omega arith) (omega arith) refl refl (ap (drop 1) e) in
    record { front = ap Client numbers.front; rest = ap (drop 1) numbers.rest }
maker_cut (Client m) Worker r s p q e = absurd (differ e refl)
maker_cut Worker (Client n) r s p q e = absurd (differ e refl)
maker_cut Worker Worker r s p q e = record { front = refl; rest = ap (drop 2) e }

-- what two equal lines say, and what stands behind them
pub record SameLine (w v : Who) (c d : Command) (r s : List ℕ) : Type 0 where
  pub who : w ≡ v
  pub command : c ≡ d
  pub rest : r ≡ s

-- a line tells who made which command
pub line_cut : (w v : Who) (c d : Command) (r s : List ℕ) → IsTypedWho w → IsTypedWho v → IsTypedCommand c
    → IsTypedCommand d → IsOneLine c → IsOneLine d
    → who_text w ++ 32 ∷ (command_text c ++ 10 ∷ r) ≡ who_text v ++ 32 ∷ (command_text d ++ 10 ∷ s)
    → SameLine w v c d r s
line_cut w v c d r s mw mv p q one line e =
    let makers = maker_cut w v _ _ mw mv e in
    let commands = command_cut c d r s p q one line makers.rest in
    record { who = makers.front; command = commands.front; rest = commands.rest }
