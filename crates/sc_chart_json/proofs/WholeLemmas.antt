-- A text as a whole: too large, no JSON, or the JSON value of an element.
use Rattle.std.proofs.Common.{◌≡◌, ℕ, ◌<◌, ◌≤◌, Bool, true, false, nat_lt, Option, Some, None, List, [], length, Ok, Err, if◌then◌else◌, refl, sym, ap, lt-ltb, arith}
use Rattle.std.proofs.lemmas.Str.{is_utf8-from_IsUtf8, IsUtf8-from_is_utf8}
use Rattle.std.proofs.lemmas.Bool.{ltb-true}
use Rattle.std.specs.Str.{IsUtf8, is_utf8}
use Rattle.serde_json.specs.Data.{Data}
use Rattle.serde_json.specs.Read.{read}
use Rattle.sc_types.specs.ChartTexts.{fault, value_fault, value_chart, fault_of, chart_of}
use Rattle.sc_types.specs.declared.chart.Chart.{Chart}
use Rattle.sc_types.specs.declared.chart.ChartFault.{ChartFault}
use Rattle.sc_expr.specs.Reading.{expr_of}

no_truth : (b : Bool) → ¬ (b ≡ true) → b ≡ false
no_truth true n = absurd (n refl)
no_truth false n = refl

short_enough : (n : ℕ) → n ≤ 1_048_576 → nat_lt 1_048_576 n ≡ false
short_enough n h = no_truth _ (λ e. absurd (omega (arith, ltb-true 1_048_576 n e)))

unread : (b : Bool) (r : Option Data) → (b ≡ true → r ≡ None) → (if b then r else None) ≡ None
unread true r h = h refl
unread false r h = refl

-- a text of more bytes than the limit has fault 9
pub too_large : (text : List ℕ) (f : ChartFault) → 1_048_576 < length text → fault 9 [] [] ≡ f → chart_of expr_of text ≡ Err f
unfolding fault_of
too_large text f h is = rw (lt-ltb 1_048_576 (length text) h) (ap Err is)

-- a text that is no JSON has fault 1
pub not_json : (text : List ℕ) (f : ChartFault) → length text ≤ 1_048_576 → (IsUtf8 text → read text ≡ None) → fault 1 [] [] ≡ f
    → chart_of expr_of text ≡ Err f
unfolding fault_of
not_json text f h none is =
    rw (short_enough (length text) h, unread (is_utf8 text) (read text) (λ e. none (IsUtf8-from_is_utf8 text e))) (ap Err is)

-- a text of a JSON value has the first fault of that value
pub faulty : (text : List ℕ) (d : Data) (f : ChartFault) → length text ≤ 1_048_576 → IsUtf8 text → read text ≡ Some d → value_fault expr_of d ≡ Some f
    → chart_of expr_of text ≡ Err f
unfolding fault_of
faulty text d f h utf8 e is = rw (short_enough (length text) h, is_utf8-from_IsUtf8 text utf8, e, is) refl

-- a text of a JSON value without a fault spells the chart of that value
pub spelled : (text : List ℕ) (d : Data) (c : Chart) → length text ≤ 1_048_576 → IsUtf8 text → read text ≡ Some d → value_fault expr_of d ≡ None
    → c ≡ value_chart expr_of d → chart_of expr_of text ≡ Ok c
unfolding fault_of
spelled text d c h utf8 e none is = rw (short_enough (length text) h, is_utf8-from_IsUtf8 text utf8, e, none) (ap Ok (sym is))

pub ruleset wholes = (too_large, not_json, faulty, spelled)
