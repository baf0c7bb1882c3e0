-- The numbers of the causes, as programs print them. This host's own rule.
use Rattle.std.specs.Prelude.{ℕ}
use Rattle.sc_script.specs.declared.fault.Cause.{Cause}
use Rattle.sc_script.specs.declared.fault.Cause.TheVariants.{NotUtf8, UnknownWord, Missing, Extra, BadWord, BadValue, BadNumber, TooManyClients, TooLarge}

abbrev pub cause_number : Cause → ℕ
cause_number NotUtf8 = 1
cause_number UnknownWord = 2
cause_number Missing = 3
cause_number Extra = 4
cause_number BadWord = 5
cause_number BadValue = 6
cause_number BadNumber = 7
cause_number TooManyClients = 8
cause_number TooLarge = 9
