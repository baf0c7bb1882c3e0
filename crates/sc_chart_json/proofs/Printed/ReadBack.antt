-- A chart that some text spells is read back from what is printed for it.
use Rattle.std.proofs.Common.{◌≡◌, ℕ, ◌≤◌, Bool, true, false, if◌then◌else◌, nat_lt, Option, Some, None, unwrap_or, Ok, Err, List, [], length, refl, sym, ap, ◌∙◌, subst, arith}
use Rattle.std.proofs.lemmas.Bool.{ltb-true}
use Rattle.std.proofs.lemmas.Str.{is_utf8-from_IsUtf8}
use Rattle.std.specs.Option.{option_map_or}
use Rattle.std.specs.Prelude.{MatchOption}
use Rattle.std.specs.Str.{IsUtf8, is_utf8}
use Rattle.serde_json.specs.Data.{Data, null, depth}
use Rattle.serde_json.specs.Read.{read}
use Rattle.serde_json.specs.Written.{compact_text}
use Rattle.sc_types.specs.ChartTexts.{Readings, fault, levels, places, first_fault, tree, profile_at, value_fault, json_of, fault_of, value_chart, chart_of}
use Rattle.sc_types.specs.Expressions.{expr_text, IsExpression}
use Rattle.sc_types.specs.PrintedCharts.{data_of, chart_text}
use Rattle.sc_types.specs.Tokens.{tokens}
use Rattle.sc_types.specs.declared.chart.Chart.{Chart}
use Rattle.sc_types.specs.declared.chart.ChartFault.{ChartFault}
use Rattle.sc_types.specs.declared.expr.Expr.{Expr}
use Rattle.sc_types.specs.declared.profile.Profile.{Profile}
use Rattle.sc_expr.specs.Reading.{expr_of}
use Rattle.sc_expr.proofs.Grammar.{spelled_reads}
use Rattle.sc_expr.proofs.LimitLemmas.{within_limits}
use Rattle.sc_expr.proofs.Printed.{printed_is_expression}
use Rattle.sc_expr.proofs.Whole.{is_reading}
use Rattle.sc_chart_json.proofs.Printed.Depths.{printed_shallow, no_float}
use Rattle.sc_chart_json.proofs.Printed.Forms.{ReadsPrinted}
use Rattle.sc_chart_json.proofs.Printed.Trees.{reprint, no_fault_again, tree_again, profile_printed}

-- ---- expressions

spelled_by : (profile : Profile) (text : List ℕ) (o : Option Expr) (e : Expr) → o ≡ Some e
    → MatchOption o ((e : Expr) → ¬ IsExpression profile text e) (IsExpression profile text) → IsExpression profile text e
spelled_by profile text None e is match = absurd (cc)
spelled_by profile text (Some x) e is match = let same : x ≡ e = cc in subst (IsExpression profile text) same match

expression_read : (profile : Profile) (text : List ℕ) (e : Expr) → IsExpression profile text e → expr_of profile text ≡ Some e
unfolding expr_of
expression_read profile text e is = spelled_reads (tokens profile false text) e is.spelled is.shallow

printed_read : (profile : Profile) → ReadsPrinted (expr_of profile)
printed_read profile text e read =
    let is = spelled_by profile text (expr_of profile text) e read (is_reading profile text) in
    expression_read profile (expr_text e) e (printed_is_expression profile e (within_limits profile text e is))

-- ---- what a text spells

record IsSpelled (code_of : Readings) (text : List ℕ) (c : Chart) : Type 0 where
  root : Data
  none : value_fault code_of root ≡ None
  same : c ≡ value_chart code_of root

ok_or_err : (o : Option ChartFault) (v c : Chart) → option_map_or Err o (Ok v) ≡ Ok c → (o ≡ None) × (c ≡ v)
ok_or_err None v c is = (refl, cc)
ok_or_err (Some f) v c is = absurd (cc)

read_without_fault : (code_of : Readings) (long : Bool) (f g : ChartFault) (o : Option Data)
    → (if long then Some f else option_map_or (value_fault code_of) o (Some g)) ≡ None → value_fault code_of (unwrap_or o null) ≡ None
read_without_fault code_of true f g o none = absurd (cc)
read_without_fault code_of false f g None none = absurd (cc)
read_without_fault code_of false f g (Some d) none = none

spelled : (code_of : Readings) (text : List ℕ) (c : Chart) → chart_of code_of text ≡ Ok c → IsSpelled code_of text c
unfolding fault_of
spelled code_of text c is =
    let both = ok_or_err (fault_of code_of text) (value_chart code_of (unwrap_or (json_of text) null)) c is in
    record {
      root = unwrap_or (json_of text) null;
      none = read_without_fault code_of (nat_lt 1_048_576 (length text)) _ _ (json_of text) both.0;
      same = both.1;
    }

-- ---- what is printed

read_utf8 : (text : List ℕ) (d : Data) → is_utf8 text ≡ true → read text ≡ Some d → json_of text ≡ Some d
read_utf8 text d utf8 is = ap (λ v. if v then read text else None) utf8 ∙ is

not_long : (n most : ℕ) → n ≤ most → nat_lt most n ≡ false
not_long n most short = by (nat_lt most n) refl
  where
    by : (v : Bool) → nat_lt most n ≡ v → v ≡ false
    by true long = absurd (omega (arith, ltb-true most n long))
    by false long = refl

spells : (code_of : Readings) (text : List ℕ) (d : Data) → length text ≤ 1_048_576 → json_of text ≡ Some d → value_fault code_of d ≡ None
    → chart_of code_of text ≡ Ok (value_chart code_of d)
unfolding fault_of
spells code_of text d short is none = by (nat_lt 1_048_576 (length text)) (json_of text) (not_long _ _ short) is
  where
    by : (long : Bool) (o : Option Data) → long ≡ false → o ≡ Some d
        → option_map_or Err (if long then Some (fault 9 [] []) else option_map_or (value_fault code_of) o (Some (fault 1 [] []))) (Ok (value_chart code_of (unwrap_or o null)))
        ≡ Ok (value_chart code_of d)
    by long o short is = rw (short, is, none)

module _ (code_of : Readings) (again : (profile : Profile) → ReadsPrinted (code_of profile)) where
  reads_back : (text t : List ℕ) (c : Chart) → chart_of code_of text ≡ Ok c → is_utf8 t ≡ true → read t ≡ Some (data_of c.root)
      → length t ≤ 1_048_576 → chart_of code_of t ≡ Ok c
  unfolding data_of value_chart value_fault
  reads_back text t c is utf8 reads short =
      let known = spelled code_of text c is in
      let profile = profile_at known.root in
      let e = reprint (code_of profile) 41 known.root in
      let printed : data_of c.root ≡ e = ap (λ (c : Chart). data_of c.root) known.same in
      let same : profile_at e ≡ profile = profile_printed (code_of profile) 40 known.root known.none in
      spells code_of t e short (read_utf8 t _ utf8 (reads ∙ ap Some printed))
      (ap (λ p. first_fault (code_of p) 0 (places levels [] e)) same ∙ no_fault_again (code_of profile) (again profile) 41 known.root known.none)
      ∙ ap (λ p. Ok record { root = tree (code_of p) levels e }) same
      ∙ ap (λ root. Ok record { root = root }) (tree_again (code_of profile) (again profile) 41 known.root known.none)
      ∙ ap Ok (sym known.same)

-- it nests no deeper than what is read
shallow_chart : (text : List ℕ) (c : Chart) → chart_of expr_of text ≡ Ok c → depth (data_of c.root) ≤ 127
unfolding data_of value_chart
shallow_chart text c is =
    let known = spelled expr_of text c is in
    let code_of = expr_of (profile_at known.root) in
    let printed : data_of c.root ≡ reprint code_of 41 known.root = ap (λ (c : Chart). data_of c.root) known.same in
    subst (λ d. depth d ≤ 127) (sym printed) (omega (arith, printed_shallow code_of 41 known.root))

chart_read_back : (text t : List ℕ) (c : Chart) → chart_of expr_of text ≡ Ok c → IsUtf8 t → (depth (data_of c.root) ≤ 127 → read t ≡ Some (data_of c.root))
    → length t ≤ 1_048_576 → chart_of expr_of t ≡ Ok c
chart_read_back text t c is utf8 reads short =
    reads_back expr_of printed_read text t c is (is_utf8-from_IsUtf8 t utf8) (reads (shallow_chart text c is)) short

-- where it is printed
pub printed_back : (text items printed : List ℕ) (c : Chart) → printed ≡ items → chart_of expr_of text ≡ Ok c
    → IsUtf8 items → (depth (data_of c.root) ≤ 127 → read items ≡ Some (data_of c.root))
    → length printed ≤ 1_048_576 → chart_of expr_of printed ≡ Ok c
printed_back text items printed c same is utf8 reads =
    let P : List ℕ → Type 0 = λ t. length t ≤ 1_048_576 → chart_of expr_of t ≡ Ok c in
    subst P (sym same) (chart_read_back text items c is utf8 reads)

-- the text of a chart is the compact text of its root as JSON
pub chart_text_data : (c : Chart) → compact_text (data_of c.root) ≡ chart_text c
unfolding chart_text
chart_text_data c = refl

pub ruleset printed_charts = (no_float, chart_text_data)
