-- The texts of faults in lines, with decimal numbers (own profile).
use Rattle.std.specs.Prelude.{ℕ, List, ◌++◌, codes, decimal}

-- the text of a fault, after the number of its line
abbrev pub at_line : ℕ → List ℕ → List ℕ
at_line line fault = codes "line " ++ (decimal line ++ (codes ": " ++ fault))

-- the text for a line that has no form known to its reader
abbrev pub bad_line_text : ℕ → List ℕ
bad_line_text line = at_line line (codes "bad line")
