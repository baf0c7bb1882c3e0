-- What is told of a text that spells no script. This host's own rule.
use Rattle.std.specs.Prelude.{ℕ, List, ◌++◌, codes, decimal}
use Rattle.sc_script.specs.Causes.{cause_number}
use Rattle.sc_script.specs.declared.fault.ScriptFault.{ScriptFault}

-- the number of a line, and that of the first cause for which it says nothing
abbrev pub script_fault_text : ScriptFault → List ℕ
script_fault_text f = decimal f.line ++ codes " " ++ decimal (cause_number f.cause)
