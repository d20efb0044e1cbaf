-- Times in lines of logs: what each character does.
use Rattle.std.specs.Prelude.{ℕ, ◌+◌, ◌-◌, ◌*◌, ◌/◌, ◌%◌, ◌&&◌, ◌||◌, ◌==◌, Bool, true, false, not, nat_le, nat_lt, if◌then◌else◌, List, [], ◌∷◌, Option, Some, None, codes, length, drop, is_some, option_and_then, slice_index}
use Rattle.fio_log.specs.Digits.{digit_of, is_between, is_letter}
use Rattle.fio_log.specs.declared.time_forms.Number.{Number}
use Rattle.fio_log.specs.declared.clock.Moment.{Moment}
use Rattle.fio_log.specs.declared.clock.Time.{Time}
use Rattle.fio_log.specs.declared.time_forms.TimeRead.{TimeRead}
use Rattle.fio_log.specs.declared.parts.TimeKind.{TimeKind}
use Rattle.fio_log.specs.declared.parts.TimeKind.TheVariants as kinds
use Rattle.fio_log.specs.declared.parts.TimeParts.{TimeParts}

-- The forms of times: `Y` has four digits, `m` and `s` two, `M`, `D` and `h` one or two, `N` is the name of a month, `_` a gap,
-- `E` the seconds or milliseconds since 1970, `F` seconds with a fraction; other characters stand for themselves.
abbrev pub time_forms : List (List ℕ)
time_forms =
    codes "Y-M-D_h:m:s" ∷ codes "Y/M/D_h:m:s" ∷ codes "Y.M.D_h:m:s" ∷ codes "D.M.Y_h:m:s" ∷ codes "M/D/Y_h:m:s" ∷ codes "N_D_h:m:s"
    ∷ codes "h:m:s" ∷ codes "E" ∷ codes "F" ∷ []

-- ---- Parts

-- what a time has of which nothing is read
abbrev pub no_parts : TimeParts
no_parts = record { kind = kinds.Day; year = 1970; month = 0; day = 0; hour = 0; minute = 0; second = 0; microseconds = 0 }

-- nothing is read
abbrev pub none_read : TimeRead
none_read = record { parts = no_parts; count = 0 }

-- whether a character is a decimal digit
abbrev pub is_time_digit : ℕ → Bool
is_time_digit character = is_between 48 57 character

-- no digit
abbrev pub no_number : Number
no_number = record { value = 0; count = 0 }

-- the number that goes on with the digits of a text, at most this many, and no more than 17
abbrev pub time_number : ℕ → Number → List ℕ → Number
time_number most number [] = number
time_number most number (character ∷ text) =
    if nat_le most number.count || not (is_time_digit character) || nat_lt 1000000000000000 number.value then number
    else time_number most (record { value = 10 * number.value + (character - 48); count = number.count + 1 }) text

-- whether a character may be between date and time: a blank, a tab, or one of `T_,;-`
abbrev pub is_time_gap : ℕ → Bool
is_time_gap character =
    character == 32 || (character == 9 || (character == 84 || (character == 95 || (character == 44 || (character == 59 || character == 45)))))

-- how many characters of a gap there are
abbrev pub gap_from : ℕ → List ℕ → ℕ
gap_from count [] = count
gap_from count (character ∷ text) = if is_time_gap character then gap_from (count + 1) text else count

-- a letter of ASCII as a small one
abbrev pub small : ℕ → ℕ
small character = if is_between 65 90 character then character + 32 else character

-- the month that three small letters name; 0 for others
abbrev pub month_by : ℕ → ℕ → ℕ → ℕ
month_by a b c =
    if a == 106 && (b == 97 && c == 110) then 1
    else if a == 102 && (b == 101 && c == 98) then 2
    else if a == 109 && (b == 97 && c == 114) then 3
    else if a == 97 && (b == 112 && c == 114) then 4
    else if a == 109 && (b == 97 && c == 121) then 5
    else if a == 106 && (b == 117 && c == 110) then 6
    else if a == 106 && (b == 117 && c == 108) then 7
    else if a == 97 && (b == 117 && c == 103) then 8
    else if a == 115 && (b == 101 && c == 112) then 9
    else if a == 111 && (b == 99 && c == 116) then 10
    else if a == 110 && (b == 111 && c == 118) then 11
    else if a == 100 && (b == 101 && c == 99) then 12
    else 0

-- what a time counts from that has a day of a month: a day of 0 is no date
abbrev pub kind_of_day : ℕ → TimeKind
kind_of_day day = if day == 0 then kinds.Day else kinds.Date

-- a time with the number of a sign: `Y` is 89, `M` 77, `D` 68, `h` 104, `m` 109, `E` 69, `F` 70; a day or seconds since 1970 are a
-- date, seconds with a fraction count from a start
abbrev pub with_part : TimeParts → ℕ → ℕ → TimeParts
with_part parts sign value =
    if sign == 89 then record parts { year = value }
    else if sign == 77 then record parts { month = value }
    else if sign == 68 then record parts { day = value; kind = kind_of_day value }
    else if sign == 104 then record parts { hour = value }
    else if sign == 109 then record parts { minute = value }
    else if sign == 69 then record parts { second = value; kind = kinds.Date }
    else if sign == 70 then record parts { second = value; kind = kinds.Start }
    else record parts { second = value }

-- how many digits a sign allows: `E` is 69, `F` 70
abbrev pub most_digits : ℕ → ℕ
most_digits sign = if sign == 69 then 14 else if sign == 70 then 9 else if sign == 89 then 4 else 2

-- whether a text begins with a point and a digit
abbrev pub begins_fraction : List ℕ → Bool
begins_fraction text = slice_index text 0 == 46 && is_time_digit (slice_index text 1)

-- whether a number of this many digits is right for a sign, by its first digit and by what follows
abbrev pub has_right_digits : ℕ → ℕ → ℕ → List ℕ → Bool
has_right_digits sign count first below =
    if sign == 69 then (count == 10 || count == 13) && first == 49
    else if sign == 70 then nat_lt 0 count && begins_fraction below
    else if sign == 89 then count == 4
    else if sign == 109 || sign == 115 then count == 2
    else nat_lt 0 count

-- the part of a number; thirteen digits are milliseconds
abbrev pub part_of_number : TimeParts → ℕ → Number → List ℕ → Option TimeRead
part_of_number parts sign number text =
    if not (has_right_digits sign number.count (slice_index text 0) (drop number.count text)) then None
    else if number.count == 13
    then Some (record {
      parts = with_part (record parts { microseconds = number.value % 1000 * 1000 }) sign (number.value / 1000);
      count = 13;
    })
    else Some (record { parts = with_part parts sign number.value; count = number.count })

-- whether a sign of a form is one of a number
abbrev pub is_of_number : ℕ → Bool
is_of_number sign =
    sign == 69 || (sign == 70 || (sign == 89 || (sign == 77 || (sign == 68 || (sign == 104 || (sign == 109 || sign == 115))))))

-- the part of a gap of this many characters
abbrev pub part_of_gap : TimeParts → ℕ → Option TimeRead
part_of_gap parts count = if count == 0 then None else Some (record { parts = parts; count = count })

-- the part of the name of a month
abbrev pub part_of_name : TimeParts → ℕ → Option TimeRead
part_of_name parts month = if month == 0 then None else Some (record { parts = record parts { month = month }; count = 3 })

-- the month whose name a text begins with; 0 if there is none
abbrev pub month_of : List ℕ → ℕ
month_of text = month_by (small (slice_index text 0)) (small (slice_index text 1)) (small (slice_index text 2))

-- the part that a text begins with, by a sign of a form: `_` is 95, `N` 78
abbrev pub part_of : TimeParts → ℕ → List ℕ → Option TimeRead
part_of parts sign text =
    if sign == 95 then part_of_gap parts (gap_from 0 text)
    else if sign == 78 then part_of_name parts (month_of text)
    else if is_of_number sign then part_of_number parts sign (time_number (most_digits sign) no_number text) text
    else if length text == 0 || not (slice_index text 0 == sign) then None
    else Some (record { parts = parts; count = 1 })

-- the parts of a form that a text goes on with; `read` are those above
abbrev pub form_from : TimeRead → List ℕ → List ℕ → Option TimeRead
form_from read [] text = Some read
form_from read (sign ∷ form) text = option_and_then
    (λ part. form_from (record { parts = part.parts; count = read.count + part.count }) form text)
    (part_of read.parts sign (drop read.count text))

-- ---- What follows a form

-- the microseconds of a fraction of a second with this many digits, at most nine; those after the sixth do not count
abbrev pub microseconds_of : ℕ → ℕ → ℕ
microseconds_of fraction count =
    if count == 1 then 100000 * (fraction % 10)
    else if count == 2 then 10000 * (fraction % 100)
    else if count == 3 then 1000 * (fraction % 1000)
    else if count == 4 then 100 * (fraction % 10000)
    else if count == 5 then 10 * (fraction % 100000)
    else if count == 7 then fraction / 10
    else if count == 8 then fraction / 100
    else if count == 9 then fraction / 1000
    else fraction

-- a time with the fraction of a second that follows a sign: three digits if that is a colon; nine count of up to eighteen
abbrev pub with_fraction : TimeRead → ℕ → Number → List ℕ → TimeRead
with_fraction read sign number text =
    if number.count == 0 || sign == 58 && not (number.count == 3) then read
    else record {
      parts = record read.parts { microseconds = microseconds_of number.value number.count };
      count = read.count + (1 + number.count) + (time_number 9 no_number (drop (read.count + (1 + number.count)) text)).count;
    }

-- a time with the fraction of a second after it, if there is one: after a point, a comma or a colon
abbrev pub fraction_of : TimeRead → List ℕ → TimeRead
fraction_of read text =
    if slice_index text read.count == 46 || (slice_index text read.count == 44 || slice_index text read.count == 58)
    then with_fraction read (slice_index text read.count) (time_number 9 no_number (drop (read.count + 1) text)) text
    else read

-- whether a text begins with a unit of times shorter than seconds: `ms`, `us`, `ns`, or a micro sign and `s`
abbrev pub is_unit : List ℕ → Bool
is_unit text =
    (slice_index text 0 == 109 || (slice_index text 0 == 117 || slice_index text 0 == 110))
    && (slice_index text 1 == 115 && not (is_letter (slice_index text 2)))
    || ((slice_index text 0 == 194 && slice_index text 1 == 181 || slice_index text 0 == 206 && slice_index text 1 == 188)
    && (slice_index text 2 == 115 && not (is_letter (slice_index text 3))))

-- whether a text continues a word or a number with colons or points, or is a unit; `Z` continues nothing
abbrev pub goes_on_behind : List ℕ → Bool
goes_on_behind text =
    if slice_index text 0 == 90 then false
    else if slice_index text 0 == 58 then is_some (digit_of (slice_index text 1))
    else if slice_index text 0 == 46 then is_time_digit (slice_index text 1)
    else if slice_index text 0 == 32 then is_unit (drop 1 text)
    else is_letter (slice_index text 0)

-- how many blanks there are
abbrev pub blanks_from : ℕ → List ℕ → ℕ
blanks_from count [] = count
blanks_from count (character ∷ text) = if character == 32 then blanks_from (count + 1) text else count

-- a time that ends at a place with the hour of a half of the day
abbrev pub with_hour : TimeRead → ℕ → ℕ → TimeRead
with_hour read hour end = record { parts = record read.parts { hour = hour }; count = end }

-- a time with the `AM` or `PM` that a text at a place begins with
abbrev pub with_half : TimeRead → ℕ → List ℕ → TimeRead
with_half read place text =
    if not (small (slice_index text 1) == 109) || is_letter (slice_index text 2) then read
    else if small (slice_index text 0) == 97 then with_hour read (read.parts.hour % 12) (place + 2)
    else if small (slice_index text 0) == 112 then with_hour read (read.parts.hour % 12 + 12) (place + 2)
    else read

-- a time with the `AM` or `PM` after it, if there is one after blanks
abbrev pub half_of : TimeRead → List ℕ → TimeRead
half_of read text =
    with_half read (read.count + blanks_from 0 (drop read.count text)) (drop (read.count + blanks_from 0 (drop read.count text)) text)

-- whether parts can be those of a time
abbrev pub can_be : TimeParts → Bool
can_be parts =
    nat_lt parts.hour 24 && (nat_lt parts.minute 60 && (nat_lt parts.month 13 && (nat_lt parts.year 10000 && (nat_lt parts.day 100
    && (nat_lt parts.second 10000000000 && nat_lt parts.microseconds 10000000000)))))

-- a time whose parts can be those of one
abbrev pub possible : TimeRead → Option TimeRead
possible read = if can_be read.parts then Some read else None

-- what is read of a text with what comes after it, if nothing goes on there
abbrev pub whole : TimeRead → List ℕ → Option TimeRead
whole read text = if goes_on_behind (drop read.count text) then None else possible (half_of read text)

-- what is read of a form, if it is read, with what comes after it
abbrev pub fitting : Option TimeRead → List ℕ → Option TimeRead
fitting None text = None
fitting (Some read) text = whole (fraction_of read text) text

-- ---- The first time of a line

-- the first of two, if there is one
abbrev pub read_or : Option TimeRead → Option TimeRead → Option TimeRead
read_or None other = other
read_or (Some read) other = Some read

-- what a text begins with in the first of some forms that fits
abbrev pub first_form : List (List ℕ) → List ℕ → Option TimeRead
first_form [] text = None
first_form (form ∷ forms) text = read_or (fitting (form_from none_read form text) text) (first_form forms text)

-- whether a time may begin with this many digits and the character after them: ten or thirteen, or one of `-/.:` follows
abbrev pub may_begin_digits : ℕ → ℕ → Bool
may_begin_digits count next =
    count == 10 || (count == 13 || (next == 45 || (next == 47 || (next == 46 || next == 58))))

-- whether a time may begin with a letter: the first one of a month, in either case
abbrev pub may_begin_name : ℕ → Bool
may_begin_name letter =
    letter == 97 || (letter == 100 || (letter == 102 || (letter == 106 || (letter == 109 || (letter == 110 || (letter == 111 || letter == 115))))))

-- whether a text may begin with a time
abbrev pub may_begin : List ℕ → Bool
may_begin text =
    if is_time_digit (slice_index text 0)
    then may_begin_digits (time_number 14 no_number text).count (slice_index text (time_number 14 no_number text).count)
    else may_begin_name (small (slice_index text 0))

-- whether a time may begin after a character: not after a digit or letter, nor after one of `.:-/`
abbrev pub may_be_before : ℕ → Bool
may_be_before character =
    not (is_letter character) && not (character == 46 || (character == 58 || (character == 45 || character == 47)))

-- the time that a text begins with, if one may begin there
unfoldable pub time_at : Bool → List ℕ → Option TimeRead
time_at is_free text = if is_free && may_begin text then first_form time_forms text else None

-- a day that is counted in years that begin in March, so that the leap day is the last; from 1970 on
abbrev pub days_from_march : ℕ → ℕ → ℕ → ℕ
days_from_march year month day =
    year * 365 + (year / 4 - year / 100 + year / 400) + (month * 153 + 2) / 5 + day - 1 - 719468

-- the days since 1970 of a date; none without a date
abbrev pub days_of : TimeParts → ℕ
days_of parts =
    if parts.day == 0 then 0
    else if nat_lt parts.month 3 then days_from_march (parts.year - 1) (parts.month + 9) parts.day
    else days_from_march parts.year (parts.month - 3) parts.day

-- the microseconds of a time since what it counts from
unfoldable pub microseconds_in : TimeParts → ℕ
microseconds_in parts =
    (((days_of parts * 24 + parts.hour) * 60 + parts.minute) * 60 + parts.second) * 1000000 + parts.microseconds

-- the moment of a time
abbrev pub moment_in : TimeParts → Moment
moment_in parts = record { microseconds = microseconds_in parts; kind = parts.kind }

-- the time that is read from a place on
abbrev pub time_from : ℕ → TimeRead → Time
time_from start read = record { start = start; end = start + read.count; moment = moment_in read.parts }

-- a time, or else another one
abbrev pub time_or : Option TimeRead → ℕ → Option Time → Option Time
time_or None start other = other
time_or (Some read) start other = Some (time_from start read)

-- the first time of a text, from a place of a line on; it begins within the first 200 characters
abbrev pub first_time : Bool → ℕ → List ℕ → Option Time
first_time is_free start [] = None
first_time is_free start (character ∷ text) =
    if nat_le 200 start then None
    else time_or (time_at is_free (character ∷ text)) start (first_time (may_be_before character) (start + 1) text)

-- the first time of a line
abbrev pub first_time_of : List ℕ → Option Time
first_time_of line = first_time true 0 line
