-- What `show` writes for a text, in which each line that has content is octets in hexadecimal digits.
use Rattle.std.specs.Prelude.{ℕ, Bool, List, ◌&&◌, codes, not, if◌then◌else◌, Option, Some, None, Result, Ok, Err, is_ok}
use Rattle.std.specs.List.{flat_map, list_all}
use Rattle.fio_show.specs.FrameLines.{shown_frame}
use Rattle.fio_text.specs.Hexadecimal.{octets_in}
use Rattle.fio_text.specs.Lines.{lines_of, numbered}
use Rattle.fio_tool.specs.InputFaults.{is_too_long, too_long_text, line_fault_text}

-- the lines for the octets of a line, or why there are none
abbrev pub shown_octets : Option (List ℕ) → Result (List ℕ) (List ℕ)
shown_octets None = Err (codes "bad line")
shown_octets (Some octets) = shown_frame octets

-- the lines for one line of the input, or the text of its fault
abbrev pub shown_line : List ℕ → Result (List ℕ) (List ℕ)
shown_line line = shown_octets (octets_in line)

-- these lines, or one line that reports the fault of the line with this number
abbrev pub text_at : ℕ → Result (List ℕ) (List ℕ) → List ℕ
text_at number (Ok lines) = lines
text_at number (Err fault) = line_fault_text number fault

-- the text for a numbered line
abbrev pub line_text : ℕ × List ℕ → List ℕ
line_text line = text_at line.0 (shown_line line.1)

-- whether the octets of a line are a message
abbrev pub is_line_good : ℕ × List ℕ → Bool
is_line_good line = is_ok (shown_line line.1)

-- the text that `show` writes for an input
abbrev pub show_text : List ℕ → List ℕ
show_text input =
    if is_too_long input then too_long_text
    else flat_map line_text (numbered 1 (lines_of input))

-- whether `show` reports no fault
abbrev pub is_show_good : List ℕ → Bool
is_show_good input =
    not (is_too_long input) && list_all is_line_good (numbered 1 (lines_of input))
