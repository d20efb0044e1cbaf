-- What each tool writes for an input with a fault.
use Rattle.std.specs.Prelude.{ℕ, Bool, List, ◌++◌, length, codes, nat_lt}
use Rattle.fio_text.specs.LineFaults.{at_line}
use Rattle.fio_tool.specs.declared.reports.TheConstants.{MAX_INPUT}

-- whether an input has more octets than it may have
abbrev pub is_too_long : List ℕ → Bool
is_too_long input = nat_lt MAX_INPUT (length input)

-- the line for such an input
abbrev pub too_long_text : List ℕ
too_long_text = codes "input too long\n"

-- the line that reports a fault, by the number of its line and its text
abbrev pub line_fault_text : ℕ → List ℕ → List ℕ
line_fault_text number fault = at_line number (fault ++ codes "\n")
