-- The octets that a text begins with, by what each character does.
use Rattle.std.specs.Prelude.{ℕ, ◌+◌, ◌-◌, ◌*◌, ◌||◌, ◌==◌, nat_le, nat_lt, Bool, true, false, if◌then◌else◌, List, [], ◌∷◌, ◌++◌, Option, Some, None}
use Rattle.fio_form.specs.Forms.{hex_value, is_decimal, is_more}
use Rattle.fio_form.specs.Texts.{is_word, next_cell, next_escape, next_hex_escape, next_lead, next_octal, next_plain, next_prefixed, next_sextet, next_short, text_longer}
use Rattle.fio_form.specs.declared.form.Digits.{Digits}
use Rattle.fio_form.specs.declared.form.Digits.TheVariants as digits
use Rattle.fio_form.specs.declared.form.Step.{Step}
use Rattle.fio_form.specs.declared.form.Step.TheVariants.{Octet, Mark, MaybeBlank}
use Rattle.fio_form.specs.declared.octets.Begun.{Begun}
use Rattle.fio_form.specs.declared.octets.Begun.TheVariants.{Nothing, Fixed, Number, Negative, Escape, HexEscape, OctalEscape, Lead}
use Rattle.fio_form.specs.declared.octets.NextDigit.{NextDigit}
use Rattle.fio_form.specs.declared.octets.NextDigit.TheVariants.{More, Last, Emit, Stop}

-- ---- A digit

-- whether a text goes on with a digit that makes the octet before it another one
abbrev pub makes_longer : Digits → List ℕ → Bool
makes_longer digits [] = false
makes_longer digits (character ∷ text) = is_more digits character

-- whether a character makes the octet that is begun before the one above it another one
abbrev pub goes_longer : Digits → Begun → ℕ → Bool
goes_longer digits.Short begun character = is_word character
goes_longer digits.Prefixed begun character = is_word character
goes_longer (digits.Text quote) begun character = text_longer begun character
goes_longer digits.Cells begun character = false
goes_longer digits.Sextets begun character = false
goes_longer digits begun character = is_more digits character

-- whether a text goes on with a character that makes the octet before it another one, of which so much was begun above that
abbrev pub longer_in : Digits → Begun → List ℕ → Bool
longer_in digits begun [] = false
longer_in digits begun (character ∷ text) = goes_longer digits begun character

-- the value of the digits that are read of an octet of a fixed number of them
abbrev pub fixed_value : Begun → ℕ
fixed_value (Fixed value left) = value
fixed_value other = 0

-- how many digits are left of this many
abbrev pub fixed_left : ℕ → Begun → ℕ
fixed_left width (Fixed value left) = left
fixed_left width other = width

-- an octet that has this many digits in a base, after one more character
abbrev pub next_fixed : ℕ → ℕ → Begun → ℕ → NextDigit
next_fixed base width begun character =
    if nat_le base (hex_value character) then Stop
    else if nat_lt 255 (base * fixed_value begun + hex_value character) then Stop
    else if nat_lt 1 (fixed_left width begun) then More (Fixed (base * fixed_value begun + hex_value character) (fixed_left width begun - 1))
    else Last (base * fixed_value begun + hex_value character)

-- the octet that two hexadecimal digits are
abbrev pub octet_of_pair : ℕ → ℕ → Option ℕ
octet_of_pair high low =
    if nat_le 16 (hex_value high) then None else if nat_le 16 (hex_value low) then None else Some (16 * hex_value high + hex_value low)

-- a decimal number with this value: it goes on with a digit or is an octet
abbrev pub number_by : Bool → ℕ → NextDigit
number_by longer value = if longer then More (Number value) else Last value

-- a decimal number with this value, after one more character
abbrev pub next_unsigned : ℕ → ℕ → Bool → NextDigit
next_unsigned value character longer =
    if is_decimal character then (if nat_lt 255 (10 * value + (character - 48)) then Stop else number_by longer (10 * value + (character - 48)))
    else Stop

-- a decimal number below 0, of this amount: it goes on with a digit or is an octet
abbrev pub negative_by : Bool → ℕ → NextDigit
negative_by longer value = if longer || value == 0 then More (Negative value) else Last (256 - value)

-- a decimal number below 0, after one more character
abbrev pub next_negative : ℕ → ℕ → Bool → NextDigit
next_negative value character longer =
    if is_decimal character then (if nat_lt 128 (10 * value + (character - 48)) then Stop else negative_by longer (10 * value + (character - 48)))
    else Stop

-- an octet that is a decimal number, after one more character
abbrev pub next_decimal : Begun → ℕ → Bool → NextDigit
next_decimal Nothing character longer = if character == 45 then More (Negative 0) else next_unsigned 0 character longer
next_decimal (Number value) character longer = next_unsigned value character longer
next_decimal (Negative value) character longer = next_negative value character longer
next_decimal other character longer = Stop

-- an octet that is a decimal number in a column, after one more character
abbrev pub next_column : Begun → ℕ → Bool → NextDigit
next_column Nothing character longer = if character == 32 then More Nothing else next_unsigned 0 character longer
next_column (Number value) character longer = next_unsigned value character longer
next_column other character longer = Stop

-- an octet that is a character of a literal or an escape, up to a quote, after one more character
abbrev pub next_text : ℕ → Begun → ℕ → Bool → NextDigit
next_text quote Nothing character longer = next_plain quote character
next_text quote Escape character longer = next_escape character longer
next_text quote HexEscape character longer = next_hex_escape character longer
next_text quote (OctalEscape value left) character longer = next_octal value left character longer
next_text quote (Lead upper) character longer = next_lead upper character
next_text quote (Fixed value left) character longer = next_fixed 16 4 (Fixed value left) character
next_text quote other character longer = Stop

-- an octet that is begun, after one more character; `longer`: a digit comes after that which makes the octet another one
abbrev pub next_in : Digits → Begun → ℕ → Bool → NextDigit
next_in digits.Pairs begun character longer = next_fixed 16 2 begun character
next_in digits.Octal begun character longer = next_fixed 8 3 begun character
next_in digits.Binary begun character longer = next_fixed 2 8 begun character
next_in digits.Decimal begun character longer = next_decimal begun character longer
next_in digits.Columns begun character longer = next_column begun character longer
next_in digits.Short begun character longer = next_short begun character longer
next_in digits.Prefixed begun character longer = next_prefixed begun character longer
next_in (digits.Text quote) begun character longer = next_text quote begun character longer
next_in digits.Cells begun character longer = next_cell begun character
next_in digits.Sextets begun character longer = next_sextet begun character

-- ---- The octets

-- whether a text begins with a space
abbrev pub begins_blank : List ℕ → Bool
begins_blank [] = false
begins_blank (character ∷ text) = character == 32

-- The steps that a text goes on with, of those that are left: a blank that may be missing is one if it is there. After the
-- last one the cycle begins again.
abbrev pub steps_at : List Step → List Step → List ℕ → List Step
steps_at cycle [] text = cycle
steps_at cycle (MaybeBlank ∷ steps) text = if begins_blank text then MaybeBlank ∷ steps else steps_at cycle steps text
steps_at cycle (Octet ∷ steps) text = Octet ∷ steps
steps_at cycle (Mark mark ∷ steps) text = Mark mark ∷ steps

-- what is read, by what an octet is after one more character
abbrev pub by_next : NextDigit → List ℕ → (Begun → List ℕ) → (ℕ → List ℕ) → (ℕ → Begun → List ℕ) → List ℕ
by_next (More begun) octets more last emit = more begun
by_next (Last value) octets more last emit = last value
by_next (Emit value begun) octets more last emit = emit value begun
by_next Stop octets more last emit = octets

-- The octets of a text, by the steps that are left of a cycle, the octet that is begun, and the octets before it. The run
-- ends where a character does not fit.
abbrev pub octets_from : Digits → List Step → List Step → Begun → List ℕ → List ℕ → List ℕ
octets_from digits cycle steps begun octets [] = octets
octets_from digits cycle [] begun octets (character ∷ text) = octets
octets_from digits cycle (Mark mark ∷ steps) begun octets (character ∷ text) =
    if character == mark then octets_from digits cycle (steps_at cycle steps text) Nothing octets text else octets
octets_from digits cycle (MaybeBlank ∷ steps) begun octets (character ∷ text) =
    if character == 32 then octets_from digits cycle (steps_at cycle steps text) Nothing octets text else octets
octets_from digits cycle (Octet ∷ steps) begun octets (character ∷ text) =
    by_next (next_in digits begun character (longer_in digits begun text)) octets
    (λ more. octets_from digits cycle (Octet ∷ steps) more octets text)
    (λ last. octets_from digits cycle (steps_at cycle steps text) Nothing (octets ++ last ∷ []) text)
    (λ last more. octets_from digits cycle (Octet ∷ steps) more (octets ++ last ∷ []) text)

-- the octets that a text begins with
abbrev pub run_in : Digits → List Step → List ℕ → List ℕ
run_in digits cycle text = octets_from digits cycle cycle Nothing [] text

-- the text after the octets of a text, by the text after those before
abbrev pub rest_from : Digits → List Step → List Step → Begun → List ℕ → List ℕ → List ℕ
rest_from digits cycle steps begun rest [] = rest
rest_from digits cycle [] begun rest (character ∷ text) = rest
rest_from digits cycle (Mark mark ∷ steps) begun rest (character ∷ text) =
    if character == mark then rest_from digits cycle (steps_at cycle steps text) Nothing rest text else rest
rest_from digits cycle (MaybeBlank ∷ steps) begun rest (character ∷ text) =
    if character == 32 then rest_from digits cycle (steps_at cycle steps text) Nothing rest text else rest
rest_from digits cycle (Octet ∷ steps) begun rest (character ∷ text) =
    by_next (next_in digits begun character (longer_in digits begun text)) rest
    (λ more. rest_from digits cycle (Octet ∷ steps) more rest text)
    (λ last. rest_from digits cycle (steps_at cycle steps text) Nothing text text)
    (λ last more. rest_from digits cycle (Octet ∷ steps) more text text)

-- the text after the octets that a text begins with
abbrev pub rest_in : Digits → List Step → List ℕ → List ℕ
rest_in digits cycle text = rest_from digits cycle cycle Nothing text text

-- ---- A text that ends within an octet

-- whether a text ends within an octet, by what its first character makes of it
abbrev pub by_open : NextDigit → (Begun → Bool) → Bool
by_open (More begun) more = more begun
by_open _ more = false

-- whether a text ends before the octet is whole that is begun
abbrev pub ends_open : Digits → Begun → List ℕ → Bool
ends_open digits begun [] = true
ends_open digits begun (character ∷ text) = by_open (next_in digits begun character (longer_in digits begun text)) (λ more. ends_open digits more text)
