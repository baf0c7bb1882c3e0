-- Where the text of a value ends.
use Rattle.std.proofs.Common.{◌≡◌, ℕ, ◌==◌, ◌||◌, Bool, true, false, if◌then◌else◌, List, [], ◌∷◌, ◌++◌, map, drop, refl, ap, ap₂, sym, subst, ◌∙◌, arith, append_assoc, append-nil, decimal, negsuc, pos, codes, ℤ}
use Rattle.std.specs.Fmt.{signed_decimal}
use Rattle.std.specs.List.{list_all}
use Rattle.std.proofs.lemmas.Bool.{and_parts}
use Rattle.sc_base.specs.Text.{is_digit}
use Rattle.sc_types.specs.Values.{truth_text, joined, value_step, value_text}
use Rattle.sc_types.specs.declared.value.Value.{Value, out-Value}
use Rattle.sc_types.specs.declared.value.Value.TheFolds.{fold-roll-Value, ind-Value, map-Value}
use Rattle.sc_types.specs.declared.value.Value.TheOpen.{Value-F}
use Rattle.sc_types.specs.declared.value.Value.TheViews.{roll-Value, roll-out-Value}
use Rattle.sc_report_facts.specs.Histories.{ints_step, has_ints}
use Rattle.sc_report_facts.proofs.Cutting.{Stops, SameCut, differ}
use Rattle.sc_report_facts.proofs.Decimals.{Begins, decimal_begins, signed_cut}
use Rattle.sc_report_facts.proofs.Quotes.{text_cut}

-- ---- which kind of value a text writes, by its first byte; 4 where it closes a list

abbrev is_sign_or_digit : ℕ → Bool
is_sign_or_digit b = is_digit b || b == 45

abbrev kind : List ℕ → ℕ
kind [] = 5
kind (b ∷ rest) =
    if is_sign_or_digit b then 1 else (if b == 39 then 2 else (if b == 91 then 3 else (if b == 93 then 4 else 0)))

abbrev kind_of : {A : Type 0} → Value-F A → ℕ
kind_of (Value-F.Bool b) = 0
kind_of (Value-F.Int n) = 1
kind_of (Value-F.Text text) = 2
kind_of (Value-F.List items) = 3

digits_kind : (ds rest : List ℕ) → Begins is_digit ds → kind (ds ++ rest) ≡ 1
digits_kind [] rest h = absurd h
digits_kind (d ∷ ds) rest h = rw h

number_kind : (n : ℤ) (rest : List ℕ) → kind (signed_decimal n ++ rest) ≡ 1
number_kind (pos n) rest = digits_kind (decimal n) rest (decimal_begins n)
number_kind (negsuc n) rest = refl

kind_at : (x : Value-F (List ℕ)) (rest : List ℕ) → kind (value_step x ++ rest) ≡ kind_of x
kind_at (Value-F.Bool true) rest = refl
kind_at (Value-F.Bool false) rest = refl
kind_at (Value-F.Int n) rest = number_kind n rest
kind_at (Value-F.Text text) rest = refl
kind_at (Value-F.List items) rest = refl

same_kind : (x y : Value-F (List ℕ)) (r s : List ℕ) → value_step x ++ r ≡ value_step y ++ s → kind_of x ≡ kind_of y
same_kind x y r s e = sym (kind_at x r) ∙ ap kind e ∙ kind_at y s

-- ---- truth values

truth_cut : (a b : Bool) (r s : List ℕ) → truth_text a ++ r ≡ truth_text b ++ s → SameCut a b r s
truth_cut true true r s e = record { front = refl; rest = ap (drop 4) e }
truth_cut true false r s e = absurd (differ e refl)
truth_cut false true r s e = absurd (differ e refl)
truth_cut false false r s e = record { front = refl; rest = ap (drop 5) e }

-- ---- lists

-- a value whose text ends in one place, whatever stands behind it
Cuts : Value → Type 0
Cuts v = (w : Value) (r s : List ℕ) → has_ints v ≡ true → has_ints w ≡ true → Stops is_digit r → Stops is_digit s
    → value_text v ++ r ≡ value_text w ++ s → SameCut v w r s

abbrev Known : Type 0
Known = (v : Value) × Cuts v

abbrev values : List Known → List Value
values vs = map (λ (v : Known). v.0) vs

-- texts, each behind a comma
abbrev further : List (List ℕ) → List ℕ
further [] = []
further (text ∷ texts) = 44 ∷ text ++ further texts

joined_further : (text : List ℕ) (texts : List (List ℕ)) → joined (text ∷ texts) ≡ text ++ further texts
joined_further text [] = sym (append-nil text)
joined_further text (other ∷ texts) =
    append_assoc text (44 ∷ []) (joined (other ∷ texts)) ∙ ap (λ t. text ++ 44 ∷ t) (joined_further other texts)

further_stops : (texts : List (List ℕ)) (r : List ℕ) → Stops is_digit (further texts ++ 93 ∷ r)
further_stops [] r = refl
further_stops (text ∷ texts) r = refl

abbrev all : List Bool → Bool
all bs = list_all (λ b. b) bs

further_cut : (vs : List Known) (ws : List Value) (r s : List ℕ) → all (map has_ints (values vs)) ≡ true
    → all (map has_ints ws) ≡ true
    → further (map value_text (values vs)) ++ 93 ∷ r ≡ further (map value_text ws) ++ 93 ∷ s
    → SameCut (values vs) ws r s
unfolding Cuts
further_cut [] [] r s p q e = record { front = refl; rest = ap (drop 1) e }
further_cut [] (w ∷ ws) r s p q e = absurd (differ e refl)
further_cut (v ∷ vs) [] r s p q e = absurd (differ e refl)
further_cut (v ∷ vs) (w ∷ ws) r s p q e =
    let left = and_parts (has_ints v.0) (all (map has_ints (values vs))) p in
    let right = and_parts (has_ints w) (all (map has_ints ws)) q in
    let split = sym (append_assoc (value_text v.0) (further (map value_text (values vs))) (93 ∷ r)) ∙ ap (drop 1) e
    ∙ append_assoc (value_text w) (further (map value_text ws)) (93 ∷ s) in
    let first = v.1 w _ _ left.0 right.0 (further_stops (map value_text (values vs)) r)
    (further_stops (map value_text ws) s) split in
    let later = further_cut vs ws r s left.1 right.1 first.rest in
    record { front = ap₂ (λ x xs. x ∷ xs) first.front later.front; rest = later.rest }

text_at : (x : Value-F Value) → value_text (roll-Value x) ≡ value_step (map-Value Value (List ℕ) value_text x)
unfolding value_text
text_at x = fold-roll-Value (List ℕ) value_step x

value_kind : (v : Value) (rest : List ℕ) → kind (value_text v ++ rest) ≡ kind_of (out-Value v)
value_kind v rest =
    subst (λ w. kind (value_text w ++ rest) ≡ kind_of (out-Value v)) (roll-out-Value v)
    (ap (λ text. kind (text ++ rest)) (text_at (out-Value v))
    ∙ kind_at (map-Value Value (List ℕ) value_text (out-Value v)) rest ∙ mapped (out-Value v))
  where
    mapped : (x : Value-F Value) → kind_of (map-Value Value (List ℕ) value_text x) ≡ kind_of x
    mapped (Value-F.Bool b) = refl
    mapped (Value-F.Int n) = refl
    mapped (Value-F.Text text) = refl
    mapped (Value-F.List items) = refl

-- no value begins with the bracket that closes a list
no_close : (v : Value) (rest s : List ℕ) → 93 ∷ s ≡ value_text v ++ rest → ⊥
no_close v rest s e = low (out-Value v) (ap kind e ∙ value_kind v rest)
  where
    low : (x : Value-F Value) → 4 ≡ kind_of x → ⊥
    low (Value-F.Bool b) h = omega arith
    low (Value-F.Int n) h = omega arith
    low (Value-F.Text text) h = omega arith
    low (Value-F.List items) h = omega arith

inside : (v : Value) (vs : List Value) (r : List ℕ)
    → joined (map value_text (v ∷ vs)) ++ 93 ∷ r ≡ value_text v ++ (further (map value_text vs) ++ 93 ∷ r)
inside v vs r =
    ap (λ text. text ++ 93 ∷ r) (joined_further (value_text v) (map value_text vs))
    ∙ append_assoc (value_text v) (further (map value_text vs)) (93 ∷ r)

items_cut : (vs : List Known) (ws : List Value) (r s : List ℕ) → all (map has_ints (values vs)) ≡ true
    → all (map has_ints ws) ≡ true
    → joined (map value_text (values vs)) ++ 93 ∷ r ≡ joined (map value_text ws) ++ 93 ∷ s → SameCut (values vs) ws r s
unfolding Cuts
items_cut [] [] r s p q e = record { front = refl; rest = ap (drop 1) e }
items_cut [] (w ∷ ws) r s p q e = absurd (no_close w _ r (e ∙ inside w ws s))
items_cut (v ∷ vs) [] r s p q e = absurd (no_close v.0 _ s (sym e ∙ inside v.0 (values vs) r))
items_cut (v ∷ vs) (w ∷ ws) r s p q e =
    let left = and_parts (has_ints v.0) (all (map has_ints (values vs))) p in
    let right = and_parts (has_ints w) (all (map has_ints ws)) q in
    let split = sym (inside v.0 (values vs) r) ∙ e ∙ inside w ws s in
    let first = v.1 w _ _ left.0 right.0 (further_stops (map value_text (values vs)) r)
    (further_stops (map value_text ws) s) split in
    let later = further_cut vs ws r s left.1 right.1 first.rest in
    record { front = ap₂ (λ x xs. x ∷ xs) first.front later.front; rest = later.rest }

list_cut : (vs : List Known) (ws : List Value) (r s : List ℕ) → all (map has_ints (values vs)) ≡ true
    → all (map has_ints ws) ≡ true
    → (codes "[" ++ joined (map value_text (values vs)) ++ codes "]") ++ r
    ≡ (codes "[" ++ joined (map value_text ws) ++ codes "]") ++ s
    → SameCut (values vs) ws r s
list_cut vs ws r s p q e =
    items_cut vs ws r s p q
    (sym (append_assoc (joined (map value_text (values vs))) (93 ∷ []) r) ∙ ap (drop 1) e
    ∙ append_assoc (joined (map value_text ws)) (93 ∷ []) s)

-- ---- every value

abbrev shown : Value-F Value → Value-F (List ℕ)
shown x = map-Value Value (List ℕ) value_text x

abbrev bare : Value-F Known → Value-F Value
bare x = map-Value Known Value (λ v. v.0) x

abbrev sound : Value-F Value → Bool
sound x = ints_step (map-Value Value Bool has_ints x)

rolled : {A : Type 0} {a b : A} {r s : List ℕ} (make : A → Value) → SameCut a b r s → SameCut (make a) (make b) r s
rolled make same = record { front = ap make same.front; rest = same.rest }

layer_cut : (x : Value-F Known) (y : Value-F Value) (r s : List ℕ) → sound (bare x) ≡ true → sound y ≡ true
    → Stops is_digit r → Stops is_digit s
    → value_step (shown (bare x)) ++ r ≡ value_step (shown y) ++ s → SameCut (roll-Value (bare x)) (roll-Value y) r s
layer_cut (Value-F.Bool a) (Value-F.Bool b) r s p q ends stops e =
    rolled (λ c. roll-Value (Value-F.Bool c)) (truth_cut a b r s e)
layer_cut (Value-F.Int m) (Value-F.Int n) r s p q ends stops e =
    rolled (λ z. roll-Value (Value-F.Int z)) (signed_cut m n r s p q ends stops e)
layer_cut (Value-F.Text t) (Value-F.Text u) r s p q ends stops e =
    rolled (λ text. roll-Value (Value-F.Text text)) (text_cut t u r s e)
layer_cut (Value-F.List vs) (Value-F.List ws) r s p q ends stops e =
    rolled (λ items. roll-Value (Value-F.List items)) (list_cut vs ws r s p q e)
layer_cut x y r s p q ends stops e =
    let kinds = same_kind (shown (bare x)) (shown y) r s e in absurd (omega arith)

sound_at : (x : Value-F Value) → has_ints (roll-Value x) ≡ sound x
unfolding has_ints
sound_at x = fold-roll-Value Bool ints_step x

roll_cut : (x : Value-F Known) → Cuts (roll-Value (bare x))
unfolding Cuts
roll_cut x w r s p q ends stops e =
    let back = roll-out-Value w in
    let y = out-Value w in
    let fine : has_ints (roll-Value y) ≡ true = ap has_ints back ∙ q in
    let split = sym (ap (λ text. text ++ r) (text_at (bare x))) ∙ e ∙ ap (λ v. value_text v ++ s) (sym back)
    ∙ ap (λ text. text ++ s) (text_at y) in
    let same = layer_cut x y r s (sym (sound_at (bare x)) ∙ p) (sym (sound_at y) ∙ fine) ends stops split in
    record { front = same.front ∙ back; rest = same.rest }

every_cut : (v : Value) → Cuts v
every_cut = ind-Value Cuts (λ x y is. subst (λ z. Cuts (roll-Value z)) is (roll_cut y))

-- the text of a value ends in one place, and tells which value it is
pub value_cut : (v w : Value) (r s : List ℕ) → has_ints v ≡ true → has_ints w ≡ true → Stops is_digit r
    → Stops is_digit s
    → value_text v ++ r ≡ value_text w ++ s → SameCut v w r s
unfolding Cuts
value_cut = every_cut
