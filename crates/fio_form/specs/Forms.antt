-- What is a form, and the digits of its numbers.
use Rattle.std.specs.Prelude.{ℕ, ◌-◌, ◌&&◌, ◌||◌, ◌==◌, Bool, true, false, not, nat_le, if◌then◌else◌, List, [], ◌∷◌}
use Rattle.fio_form.specs.declared.form.Piece.{Piece}
use Rattle.fio_form.specs.declared.form.Piece.TheVariants.{Character, Decimal, Blanks, Padded, Quote}
use Rattle.fio_form.specs.declared.form.Digits.{Digits}
use Rattle.fio_form.specs.declared.form.Digits.TheVariants as digits
use Rattle.fio_form.specs.declared.form.Step.{Step}
use Rattle.fio_form.specs.declared.form.Step.TheVariants.{Octet, Mark, MaybeBlank}

-- whether a character is a decimal digit
abbrev pub is_decimal : ℕ → Bool
is_decimal character = nat_le 48 character && nat_le character 57

-- the value of a hexadecimal digit; 16 for any other character
abbrev pub hex_value : ℕ → ℕ
hex_value character =
    if nat_le 48 character && nat_le character 57 then character - 48
    else if nat_le 65 character && nat_le character 70 then character - 55
    else if nat_le 97 character && nat_le character 102 then character - 87
    else 16

-- whether a character is a hexadecimal digit
abbrev pub is_hex : ℕ → Bool
is_hex character = not (hex_value character == 16)

-- whether a character is a space or a tab
abbrev pub is_space_or_tab : ℕ → Bool
is_space_or_tab character = character == 32 || character == 9

-- whether a character is a quote
abbrev pub is_quotation : ℕ → Bool
is_quotation character = character == 34 || character == 39

-- whether a character can be one of several of a piece; of a padded number: after its blanks
abbrev pub is_part : Piece → ℕ → Bool
is_part (Character mark) character = false
is_part Decimal character = is_decimal character
is_part Blanks character = is_space_or_tab character
is_part Quote character = false
is_part _ character = is_hex character

-- whether an octet has a fixed number of digits
abbrev pub is_fixed : Digits → Bool
is_fixed digits.Pairs = true
is_fixed digits.Octal = true
is_fixed digits.Binary = true
is_fixed _ = false

-- whether there may be blanks before an octet, in its column
abbrev pub is_padded : Digits → Bool
is_padded digits.Columns = true
is_padded _ = false

-- whether octets are a text up to the quote before the first one
abbrev pub is_quoted : Digits → Bool
is_quoted (digits.Text quote) = quote == 0
is_quoted _ = false

-- whether a character is one more digit of an octet that has no fixed number of them
abbrev pub is_more : Digits → ℕ → Bool
is_more digits character = not (is_fixed digits) && is_decimal character

-- ---- The front

-- whether a piece is blanks
abbrev pub is_blanks : Piece → Bool
is_blanks Blanks = true
is_blanks _ = false

-- whether a piece is a number
abbrev pub is_numeric : Piece → Bool
is_numeric Quote = false
is_numeric (Character mark) = false
is_numeric Blanks = false
is_numeric _ = true

-- whether a piece ends where an octet begins: with a digit, or with a sign or a blank if it may have one
abbrev pub is_last : Digits → Piece → Bool
is_last digits piece = not (is_numeric piece) && not (is_padded digits && is_blanks piece)

-- Whether a piece ends where the next one begins: no character that the next one begins with can be part of it. After the
-- last piece an octet begins.
abbrev pub is_shut : Digits → Piece → List Piece → Bool
is_shut digits piece [] = is_last digits piece
is_shut digits piece (Character mark ∷ front) = not (is_part piece mark)
is_shut digits piece (Blanks ∷ front) = not (is_blanks piece)
is_shut digits piece (Padded ∷ front) = not (is_numeric piece) && not (is_blanks piece)
is_shut digits piece (Quote ∷ front) = true
is_shut digits piece _ = not (is_numeric piece)

-- whether each piece of a front ends where the next one begins
abbrev pub are_shut : Digits → List Piece → Bool
are_shut digits [] = true
are_shut digits (piece ∷ front) = is_shut digits piece front && are_shut digits front

-- ---- The cycle

-- whether steps begin with an octet
abbrev pub begins_with_octet : List Step → Bool
begins_with_octet (Octet ∷ steps) = true
begins_with_octet _ = false

-- whether what is between octets is the same each time: there is no blank that may be missing
abbrev pub are_certain : List Step → Bool
are_certain [] = true
are_certain (Octet ∷ steps) = are_certain steps
are_certain (Mark mark ∷ steps) = are_certain steps
are_certain (MaybeBlank ∷ steps) = false

-- whether there is a mark after each octet, of which the first one is no decimal digit; `inside`: a mark is above
abbrev pub are_apart : Bool → List Step → Bool
are_apart inside [] = inside
are_apart inside (Octet ∷ steps) = inside && are_apart false steps
are_apart inside (Mark mark ∷ steps) = (inside || not (is_decimal mark)) && are_apart true steps
are_apart inside (MaybeBlank ∷ steps) = false

-- whether octets can be distinguished: always, if each has a fixed number of digits
abbrev pub are_separate : Digits → List Step → Bool
are_separate digits cycle = is_fixed digits || are_apart true cycle

-- ---- The form

-- whether the texts of an octet are defined by themselves, and not only by what each character does
abbrev pub has_texts : Digits → Bool
has_texts digits.Short = false
has_texts digits.Prefixed = false
has_texts (digits.Text quote) = false
has_texts digits.Cells = false
has_texts digits.Sextets = false
has_texts _ = true

-- whether the lines of a form are defined by the texts of its octets and of what is between them
abbrev pub has_spelling : Digits → List Step → Bool
has_spelling digits cycle = has_texts digits && are_certain cycle

-- whether a text of such a form can be read in one way only
abbrev pub is_clear : List Piece → Digits → List Step → Bool
is_clear front digits cycle = are_shut digits front && are_separate digits cycle

-- whether a form may have this front, these digits and this cycle
abbrev pub is_form : List Piece → Digits → List Step → Bool
is_form front digits cycle = begins_with_octet cycle && (not (has_spelling digits cycle) || is_clear front digits cycle)
