-- The front of a line, and what is after it.
use Rattle.std.specs.Prelude.{ℕ, ◌+◌, ◌*◌, ◌%◌, ◌&&◌, ◌==◌, Bool, true, false, nat_le, nat_lt, ◌-◌, take, zero, suc, if◌then◌else◌, List, [], ◌∷◌, length, Option, Some, None, option_and_then}
use Rattle.std.specs.List.{list_any}
use Rattle.fio_form.specs.Forms.{hex_value, is_hex, is_numeric, is_part, is_quotation}
use Rattle.fio_form.specs.declared.form.Piece.{Piece}
use Rattle.fio_form.specs.declared.form.Piece.TheVariants.{Blanks, Character, Hexadecimal, Padded, Quote, Value}
use Rattle.fio_form.specs.declared.front.TheConstants.{VALUE_DIGITS}
use Rattle.fio_form.specs.declared.numbers.TheConstants.{NUMBER_DIGITS}

-- the characters of a piece that a text begins with
abbrev pub taken_parts : Piece → List ℕ → List ℕ
taken_parts piece [] = []
taken_parts piece (character ∷ text) = if is_part piece character then character ∷ taken_parts piece text else []

-- the text after the characters of a piece that it begins with
abbrev pub past : Piece → List ℕ → List ℕ
past piece [] = []
past piece (character ∷ text) = if is_part piece character then past piece text else character ∷ text

-- the text after those of a piece, and after the blanks before a padded number
abbrev pub past_piece : Piece → List ℕ → List ℕ
past_piece Padded text = past Hexadecimal (past Blanks text)
past_piece piece text = past piece text

-- the number that hexadecimal digits are, after a value
abbrev pub value_of : ℕ → List ℕ → ℕ
value_of value [] = value
value_of value (digit ∷ digits) = value_of (16 * value + hex_value digit % 16) digits

-- whether digits are those of one of the values
abbrev pub has_value : List ℕ → List ℕ → Bool
has_value values digits = nat_le (length digits) VALUE_DIGITS && list_any (λ value. value == value_of 0 digits) values

-- whether characters, of which there is at least one, are a piece
abbrev pub is_piece : List ℕ → Piece → List ℕ → Bool
is_piece values Value digits = has_value values digits
is_piece values other digits = true

-- the text after hexadecimal digits that it begins with
abbrev pub after_digits : List ℕ → Option (List ℕ)
after_digits [] = None
after_digits (character ∷ text) = if is_hex character then Some (past Hexadecimal text) else None

-- the text after a piece that it begins with
abbrev pub after_piece : List ℕ → Piece → List ℕ → Option (List ℕ)
after_piece values piece [] = None
after_piece values (Character mark) (character ∷ text) = if character == mark then Some text else None
after_piece values Padded (character ∷ text) = after_digits (past Blanks (character ∷ text))
after_piece values Quote (character ∷ text) = if is_quotation character then Some text else None
after_piece values piece (character ∷ text) =
    if is_part piece character && is_piece values piece (taken_parts piece (character ∷ text)) then Some (past piece (character ∷ text)) else None

-- the text after a front that it begins with
abbrev pub after_front : List ℕ → List Piece → List ℕ → Option (List ℕ)
after_front values [] text = Some text
after_front values (piece ∷ front) text = option_and_then (after_front values front) (after_piece values piece text)

-- ---- The numbers of a front

-- the number that digits are in a base, after a value, if all are digits of it
abbrev pub value_from : ℕ → ℕ → List ℕ → Option ℕ
value_from base value [] = Some value
value_from base value (digit ∷ digits) = if nat_lt (hex_value digit) base then value_from base (base * value + hex_value digit) digits else None

-- the number that one to twelve digits are in a base of at most 16
unfoldable pub number_of_digits : ℕ → List ℕ → Option ℕ
number_of_digits base [] = None
number_of_digits base (digit ∷ digits) =
    if nat_le (length (digit ∷ digits)) NUMBER_DIGITS && nat_le base 16 then value_from base 0 (digit ∷ digits) else None

-- the number that one to eight hexadecimal digits are
abbrev pub value_in : List ℕ → Option ℕ
value_in digits = if nat_le (length digits) VALUE_DIGITS then number_of_digits 16 digits else None

-- the text of a piece: the characters of a text up to those after it
abbrev pub text_before : List ℕ → List ℕ → List ℕ
text_before text rest = take (length text - length rest) text

-- the digits of a number of a front, by the text after a piece, if a text begins with it
abbrev pub digits_by : Bool → ℕ → Option (List ℕ) → (ℕ → List ℕ → Option (List ℕ)) → List ℕ → Option (List ℕ)
digits_by number count None more text = None
digits_by false count (Some rest) more text = more count rest
digits_by true zero (Some rest) more text = Some (past Blanks (text_before text rest))
digits_by true (suc count) (Some rest) more text = more count rest

-- the digits of a number of a front that a text begins with: of the first one for 0
unfoldable pub front_digits : List ℕ → List Piece → ℕ → List ℕ → Option (List ℕ)
front_digits values [] count text = None
front_digits values (piece ∷ front) count text = digits_by (is_numeric piece) count (after_piece values piece text) (front_digits values front) text
