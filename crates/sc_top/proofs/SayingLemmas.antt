-- From what was read, and what a journal came to, to what a status promises of what is said.
use Rattle.std.proofs.Common.{◌≡◌, ℕ, Option, Some, List, Result, Ok, Err, IfOk, OnErr, refl, sym, subst}
use Rattle.sc_law.specs.LegalCharts.{legal_chart_of}
use Rattle.sc_types.specs.declared.chart.Chart.{Chart}
use Rattle.sc_types.specs.declared.chart.ChartFault.{ChartFault}
use Rattle.sc_report.specs.Report.{report}
use Rattle.sc_report.specs.Summary.{summary}
use Rattle.sc_script.specs.Generated.{generated}
use Rattle.sc_script.specs.Scripts.{Spelled, script_of}
use Rattle.sc_script.specs.declared.script.Script.{Script}
use Rattle.sc_top.specs.Promise.{Checks, IsRead, Known, Leaves, LeavesScript, LeftBy, Runs, Says, SaysOfScript, Shows, faulty, legal, initialised, checked, left_run, spelled}
use Rattle.sc_top.specs.Promise as promise
use Rattle.sc_top.specs.Journals.{DiskKnown}
use Rattle.sc_top.specs.Sayings.{check_status, check_text, status_of, text_of}
use Rattle.sc_top.specs.declared.saying.Saying.{Saying}
use Rattle.sc_top.specs.declared.status.Status.{Status}
use Rattle.sc_top.specs.declared.status.Status.TheVariants as done
use Rattle.sc_words.specs.declared.asked.Asked.{Asked}
use Rattle.sc_words.specs.declared.asked.Asked.TheVariants.{Check, Gen, Run, Show}
use Rattle.sc_words.specs.declared.asked.TheConstants.{RUN_BUDGET}

-- what is said of a script that was read is what the promise says of a run
pub run_says : {E : Type 0} (workers budget : ℕ) (k : Known) (text : List ℕ) (r : Result Saying E)
    → IsRead (Some (Run workers budget)) k.source text
    → IfOk r (λ s. SaysOfScript k.disk workers budget (script_of text) (status_of s) (text_of s))
    → IfOk r (λ s. Says (Some (Run workers budget)) k (status_of s) (text_of s))
run_says workers budget k text (Ok s) told says = promise.run workers budget text (status_of s) (text_of s) refl told says
run_says workers budget k text (Err e) told says = tt

-- and what is left where memory was wanting
pub run_leaves : {E : Type 0} (workers budget : ℕ) (k : Known) (text : List ℕ) (r : Result Saying E)
    → IsRead (Some (Run workers budget)) k.source text → OnErr r (LeavesScript k.disk workers budget (script_of text))
    → OnErr r (Leaves (Some (Run workers budget)) k)
run_leaves workers budget k text (Ok s) told leaves = tt
run_leaves workers budget k text (Err e) told leaves = promise.left_script workers budget text refl told leaves

-- of a script that was drawn
pub drawn_says : {E : Type 0} (number size : ℕ) (k : Known) (r : Result Saying E)
    → IfOk r (λ s. Runs k.disk (λ opened. summary number size) (generated number size) 0 RUN_BUDGET (status_of s) (text_of s))
    → IfOk r (λ s. Says (Some (Gen number size)) k (status_of s) (text_of s))
drawn_says number size k (Ok s) runs = promise.drawn number size (status_of s) (text_of s) refl runs
drawn_says number size k (Err e) runs = tt

pub drawn_leaves : {E : Type 0} (number size : ℕ) (k : Known) (r : Result Saying E)
    → OnErr r (LeftBy k.disk (generated number size) 0 RUN_BUDGET) → OnErr r (Leaves (Some (Gen number size)) k)
drawn_leaves number size k (Ok s) left = tt
drawn_leaves number size k (Err e) left = promise.left_drawn number size refl left

-- what is shown
pub show_says : {E : Type 0} (k : Known) (r : Result Saying E) → IfOk r (λ s. Shows k.disk (status_of s) (text_of s))
    → IfOk r (λ s. Says (Some Show) k (status_of s) (text_of s))
show_says k (Ok s) shows = promise.tells (status_of s) (text_of s) refl shows
show_says k (Err e) shows = tt

-- what is said of a chart
pub check_says : {E : Type 0} (k : Known) (r : Result Saying E)
    → IfOk r (λ s. Checks k.source k.read_failed (status_of s) (text_of s))
    → IfOk r (λ s. Says (Some Check) k (status_of s) (text_of s))
check_says k (Ok s) checks = checked (status_of s) (text_of s) refl checks
check_says k (Err e) checks = tt

-- of a text that should spell a chart
chart_says : (source : Option (List ℕ)) (faulted : Type 0) (text : List ℕ) → IsRead (Some Check) source text
    → (status : Status) (said : List ℕ) (r : Result Chart ChartFault) → legal_chart_of text ≡ r
    → status ≡ check_status r → said ≡ check_text r → Checks source faulted status said
chart_says source faulted text told status said (Ok chart) read is_status is_said =
    subst (λ n. Checks source faulted n said) (sym is_status)
    (subst (λ t. Checks source faulted done.Done t) (sym is_said) (legal text chart told read))
chart_says source faulted text told status said (Err fault) read is_status is_said =
    subst (λ n. Checks source faulted n said) (sym is_status)
    (subst (λ t. Checks source faulted done.Faulty t) (sym is_said) (faulty text fault told read))

-- what is said of a chart that was read is what the promise says of a check
pub text_says : {E : Type 0} (source : Option (List ℕ)) (faulted : Type 0) (text : List ℕ) (r : Result Saying E)
    → IsRead (Some Check) source text → IfOk r (λ s. status_of s ≡ check_status (legal_chart_of text))
    → IfOk r (λ s. text_of s ≡ check_text (legal_chart_of text))
    → IfOk r (λ s. Checks source faulted (status_of s) (text_of s))
text_says source faulted text (Ok s) told is_status is_text =
    chart_says source faulted text told (status_of s) (text_of s) (legal_chart_of text) refl is_status is_text
text_says source faulted text (Err e) told is_status is_text = tt

-- what is known of a text where the source tells it is known of an equal one
pub told_text : (asked : Option Asked) (source : Option (List ℕ)) (a b : List ℕ) → a ≡ b → IsRead asked source a
    → IsRead asked source b
told_text asked source a b e = subst (IsRead asked source) e

-- of a text that spells a script

pub script_says : {E : Type 0} (k : DiskKnown) (workers budget : ℕ) (x : Spelled) (script : Script) (r : Result Saying E)
    → x ≡ Ok script → IfOk r (λ s. Runs k report script workers budget (status_of s) (text_of s))
    → IfOk r (λ s. SaysOfScript k workers budget x (status_of s) (text_of s))
script_says k workers budget x script (Ok s) is runs =
    subst (λ y. SaysOfScript k workers budget y (status_of s) (text_of s)) (sym is) (spelled script (status_of s) (text_of s) runs)
script_says k workers budget x script (Err e) is runs = tt

pub script_leaves : {E : Type 0} (k : DiskKnown) (workers budget : ℕ) (x : Spelled) (script : Script) (r : Result Saying E)
    → x ≡ Ok script → OnErr r (LeftBy k script workers budget) → OnErr r (LeavesScript k workers budget x)
script_leaves k workers budget x script (Ok s) is left = tt
script_leaves k workers budget x script (Err e) is left = subst (LeavesScript k workers budget) (sym is) (left_run script left)
