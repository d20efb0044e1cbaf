-- Digits that go on after octets.
use Rattle.std.specs.Prelude.{ℕ, ◌+◌, ◌&&◌, ◌||◌, nat_lt, not, Bool, true, false, if◌then◌else◌, List, [], ◌∷◌, Option, Some, None, is_some}
use Rattle.fio_form.specs.declared.form.Digits.{Digits}
use Rattle.fio_form.specs.declared.form.Digits.TheVariants as digits
use Rattle.fio_form.specs.declared.form.LineForm.{LineForm}
use Rattle.fio_form.specs.declared.form.LineRows.{LineRows}
use Rattle.fio_form.specs.declared.form.LineRows.TheVariants as rows
use Rattle.fio_log.specs.Digits.{digit_of, is_letter}

-- how many digits an octet has in a notation, if that is always the same
abbrev pub width_of : Digits → Option ℕ
width_of digits.Pairs = Some 2
width_of digits.Octal = Some 3
width_of digits.Binary = Some 8
width_of _ = None

-- how many digits there are, with those that a text begins with, before a character that belongs to no word; none if its first
-- word has another character
abbrev pub digits_after : ℕ → List ℕ → Option ℕ
digits_after count [] = Some count
digits_after count (character ∷ text) =
    if not (is_letter character) then Some count
    else (if is_some (digit_of character) then digits_after (count + 1) text else None)

-- whether a message is one row
abbrev pub is_one : LineRows → Bool
is_one rows.One = true
is_one _ = false

-- whether this many digits are no octets of this width: too few, or more than a row has
abbrev pub are_odd : LineRows → ℕ → Option ℕ → Bool
are_odd rows width None = false
are_odd rows width (Some count) = nat_lt 0 count && (nat_lt count width || not (is_one rows))

-- whether they are, if octets have a width
abbrev pub are_odd_by : LineRows → Option ℕ → Option ℕ → Bool
are_odd_by rows None count = false
are_odd_by rows (Some width) count = are_odd rows width count

-- whether digits go on after octets with nothing between them: too few for one more octet, or, in a row of a dump, those of
-- another one
abbrev pub has_odd_digits : LineForm → List ℕ → Bool
has_odd_digits form tail = are_odd_by form.rows (width_of form.digits) (digits_after 0 tail)
