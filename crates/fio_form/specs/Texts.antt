-- Octets that are characters or short hexadecimal numbers, by what each character does.
use Rattle.std.specs.Prelude.{ℕ, ◌+◌, ◌-◌, ◌*◌, ◌/◌, ◌%◌, ◌&&◌, ◌||◌, ◌==◌, nat_le, nat_lt, Bool, true, false, not, if◌then◌else◌}
use Rattle.fio_form.specs.Forms.{hex_value, is_decimal, is_hex}
use Rattle.fio_form.specs.declared.octets.Begun.{Begun}
use Rattle.fio_form.specs.declared.octets.Begun.TheVariants.{Nothing, Fixed, Short, Zero, Escape, HexEscape, OctalEscape, Lead, Cell, CellFirst, CellSecond, Sextets, Padding}
use Rattle.fio_form.specs.declared.octets.NextDigit.{NextDigit}
use Rattle.fio_form.specs.declared.octets.NextDigit.TheVariants.{More, Last, Emit, Stop}

-- whether a character is a letter or a digit
abbrev pub is_word : ℕ → Bool
is_word character = is_decimal character || ((nat_le 65 character && nat_le character 90) || (nat_le 97 character && nat_le character 122))

-- ---- A hexadecimal number without zeros before it

-- What this many digits are, of which the last two have this value: an octet if they are one or two, or eight from `ffffff80`
-- on; the beginning of one if they are one, or all are `f` but the seventh.
abbrev pub short_by : Bool → ℕ → ℕ → NextDigit
short_by longer value count =
    if not longer && (nat_lt count 3 || (count == 8 && nat_lt 127 value)) then Last value
    else if nat_lt count 8 && (count == 1 || (count == 7 || value == 255)) then More (Short value count)
    else Stop

-- an octet that is such a number, after one more character
abbrev pub next_short : Begun → ℕ → Bool → NextDigit
next_short (Short value count) character longer =
    if is_hex character then (if nat_lt 7 count then Stop else short_by longer ((16 * value + hex_value character) % 256) (count + 1)) else Stop
next_short other character longer = if is_hex character then short_by longer (hex_value character) 1 else Stop

-- ---- A character of a literal, or an escape

-- whether a character is an octal digit
abbrev pub is_octal : ℕ → Bool
is_octal character = nat_le 48 character && nat_le character 55

-- the octet of an escape of one letter: `n`, `r`, `t`, `b`, `f`, `v`, `a`, `e`; any other is itself
abbrev pub escaped : ℕ → ℕ
escaped letter =
    if letter == 110 then 10 else if letter == 114 then 13 else if letter == 116 then 9 else if letter == 98 then 8
    else if letter == 102 then 12 else if letter == 118 then 11 else if letter == 97 then 7 else if letter == 101 then 27 else letter

-- Whether a character makes the octet of an escape another one or none: a decimal digit after one octal digit, of which 8 and
-- 9 make it none; an octal digit after two.
abbrev pub text_longer : Begun → ℕ → Bool
text_longer Escape character = is_decimal character
text_longer (OctalEscape value left) character = is_octal character
text_longer HexEscape character = is_hex character
text_longer other character = false

-- an octet of which nothing is read, after one more character
abbrev pub next_plain : ℕ → ℕ → NextDigit
next_plain quote character =
    if character == quote then Stop
    else if character == 92 then More Escape
    else if character == 194 then More (Lead false)
    else if character == 195 then More (Lead true)
    else if nat_lt character 32 || nat_lt 126 character then Stop
    else Last character

-- what octal digits with this value are, of which this many more may come
abbrev pub octal_by : Bool → ℕ → ℕ → NextDigit
octal_by longer value left = if longer && (nat_lt value 32 && nat_lt 0 left) then More (OctalEscape value left) else Last value

-- an escape, after one more character
abbrev pub next_escape : ℕ → Bool → NextDigit
next_escape character longer =
    if character == 120 then More HexEscape
    else if character == 117 then More (Fixed 0 4)
    else if is_octal character then octal_by longer (character - 48) 2
    else if nat_le 32 character && nat_le character 126 then Last (escaped character)
    else Stop

-- a hexadecimal escape without a digit, after one more character
abbrev pub next_hex_escape : ℕ → Bool → NextDigit
next_hex_escape character longer =
    if is_hex character then (if longer then More (Fixed (hex_value character) 1) else Last (hex_value character)) else Stop

-- the first digit, with this value, of a hexadecimal number of at most two digits, after one more character
abbrev pub next_second : ℕ → ℕ → Bool → NextDigit
next_second value character longer =
    if is_hex character && (not longer && nat_le value 15) then Last (16 * value + hex_value character) else Stop

-- an octet that is a hexadecimal number after `0x`, or `0` alone, after one more character
abbrev pub next_prefixed : Begun → ℕ → Bool → NextDigit
next_prefixed Nothing character longer = if character == 48 then (if longer then More Zero else Last 0) else Stop
next_prefixed Zero character longer = if character == 120 then More HexEscape else Stop
next_prefixed HexEscape character longer = next_hex_escape character longer
next_prefixed (Fixed value left) character longer = next_second value character longer
next_prefixed other character longer = Stop

-- an octal escape with this value, of which this many digits may come, after one more character
abbrev pub next_octal : ℕ → ℕ → ℕ → Bool → NextDigit
next_octal value left character longer =
    if is_octal character && nat_lt 0 left
    then (if nat_lt 255 (8 * value + (character - 48)) then Stop else octal_by longer (8 * value + (character - 48)) (left - 1))
    else Stop

-- the first octet of a character above 127 in UTF-8, after one more character
abbrev pub next_lead : Bool → ℕ → NextDigit
next_lead upper character =
    if nat_le 128 character && nat_le character 191 then (if upper then Last (character + 64) else Last character) else Stop

-- ---- A cell of four columns

-- whether an escape of one letter is one of a cell
abbrev pub is_alphabetic : ℕ → Bool
is_alphabetic letter =
    letter == 97 || (letter == 98 || (letter == 102 || (letter == 110 || (letter == 114 || (letter == 116 || letter == 118)))))

-- what the three characters of a cell are after its blank
abbrev pub cell_by : ℕ → ℕ → ℕ → NextDigit
cell_by first second third =
    if first == 32 && (second == 32 && (nat_le 32 third && nat_le third 126)) then Last third
    else if first == 32 && second == 92 then (if third == 48 then Last 0 else if is_alphabetic third then Last (escaped third) else Stop)
    else if (nat_le 48 first && nat_le first 51) && (is_octal second && is_octal third)
    then Last (64 * (first - 48) + 8 * (second - 48) + (third - 48))
    else Stop

-- an octet that is a cell, after one more character
abbrev pub next_cell : Begun → ℕ → NextDigit
next_cell Nothing character = if character == 32 then More Cell else Stop
next_cell Cell character = More (CellFirst character)
next_cell (CellFirst first) character = More (CellSecond first character)
next_cell (CellSecond first second) character = cell_by first second character
next_cell other character = Stop

-- ---- Base64

-- the six bits of a character of base64; 64 for any other
abbrev pub sextet : ℕ → ℕ
sextet character =
    if nat_le 65 character && nat_le character 90 then character - 65
    else if nat_le 97 character && nat_le character 122 then character - 71
    else if nat_le 48 character && nat_le character 57 then character + 4
    else if character == 43 then 62
    else if character == 47 then 63
    else 64

-- the bits of this many characters that are no octet yet, after six more bits
abbrev pub sextet_by : ℕ → ℕ → ℕ → NextDigit
sextet_by value count bits =
    if count == 0 then More (Sextets bits 1)
    else if count == 1 then Emit ((64 * value + bits) / 16 % 256) (Sextets ((64 * value + bits) % 16) 2)
    else if count == 2 then Emit ((64 * value + bits) / 4 % 256) (Sextets ((64 * value + bits) % 4) 3)
    else Emit ((64 * value + bits) % 256) Nothing

-- octets of which this many characters have these bits, that are no octet yet, after one more character
abbrev pub sextets_by : ℕ → ℕ → ℕ → NextDigit
sextets_by value count character =
    if nat_lt (sextet character) 64 then sextet_by value count (sextet character)
    else if character == 61 && nat_le 2 count then More Padding
    else Stop

-- octets that are base64, after one more character
abbrev pub next_sextet : Begun → ℕ → NextDigit
next_sextet (Sextets value count) character = sextets_by value count character
next_sextet Padding character = Stop
next_sextet other character = sextets_by 0 0 character
