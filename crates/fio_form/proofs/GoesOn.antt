-- A character that goes on with an octet does so at the end of a text too.
use Rattle.std.proofs.Common.{◌≡◌, ℕ, ◌+◌, ◌-◌, ◌*◌, Bool, true, false, refl, sym, ◌∙◌, inl, inr}
use Rattle.std.specs.Prelude.{◌==◌, ◌%◌, ◌&&◌, ◌||◌, nat_lt}
use Rattle.std.proofs.lemmas.Bool.{cases_Bool, false≢true}
use Rattle.fio_form.specs.Forms.{hex_value, is_decimal, is_hex}
use Rattle.fio_form.specs.Octets.{next_column, next_decimal, next_in, next_negative, next_text, next_unsigned}
use Rattle.fio_form.specs.Texts.{is_octal, next_escape, next_hex_escape, next_octal, next_prefixed, next_second, next_short, short_by}
use Rattle.fio_form.specs.declared.form.Digits.{Digits}
use Rattle.fio_form.specs.declared.form.Digits.TheVariants as digits
use Rattle.fio_form.specs.declared.octets.Begun.{Begun}
use Rattle.fio_form.specs.declared.octets.Begun.TheVariants.{Nothing, Fixed, Number, Negative, Short, Escape, HexEscape, OctalEscape}
use Rattle.fio_form.specs.declared.octets.NextDigit.{NextDigit}
use Rattle.fio_form.specs.declared.octets.NextDigit.TheVariants.{Stop}

-- whether a character is one of an octet
abbrev pub goes_on : NextDigit → Bool
goes_on Stop = false
goes_on _ = true

-- ---- Decimal numbers

number_same : (value x : ℕ) (longer : Bool) → goes_on (next_unsigned value x longer) ≡ goes_on (next_unsigned value x false)
number_same value x false = refl
number_same value x true = elim (cases_Bool (is_decimal x)) [
  | inr other ↦ rw other refl
  | inl digit ↦ elim (cases_Bool (nat_lt 255 (10 * value + (x - 48)))) [
    | inl many ↦ rw digit (rw many refl)
    | inr fits ↦ rw digit (rw fits refl)
  ]
]

negative_same : (value x : ℕ) (longer : Bool) → goes_on (next_negative value x longer) ≡ goes_on (next_negative value x false)
negative_same value x false = refl
negative_same value x true = elim (cases_Bool (is_decimal x)) [
  | inr other ↦ rw other refl
  | inl digit ↦ elim (cases_Bool (nat_lt 128 (10 * value + (x - 48)))) [
    | inl many ↦ rw digit (rw many refl)
    | inr fits ↦ elim (cases_Bool (10 * value + (x - 48) == 0)) [
      | inl zero ↦ rw digit (rw fits (rw zero refl))
      | inr some ↦ rw digit (rw fits (rw some refl))
    ]
  ]
]

decimal_same : (begun : Begun) (x : ℕ) (longer : Bool) → goes_on (next_decimal begun x longer) ≡ goes_on (next_decimal begun x false)
decimal_same Nothing x longer = elim (cases_Bool (x == 45)) [
  | inl sign ↦ rw sign refl
  | inr plain ↦ rw plain (number_same 0 x longer)
]
decimal_same (Number value) x longer = number_same value x longer
decimal_same (Negative value) x longer = negative_same value x longer
decimal_same begun x longer = refl

column_same : (begun : Begun) (x : ℕ) (longer : Bool) → goes_on (next_column begun x longer) ≡ goes_on (next_column begun x false)
column_same Nothing x longer = elim (cases_Bool (x == 32)) [
  | inl blank ↦ rw blank refl
  | inr plain ↦ rw plain (number_same 0 x longer)
]
column_same (Number value) x longer = number_same value x longer
column_same begun x longer = refl

-- ---- Escapes

escape_end : (x : ℕ) (longer : Bool) → goes_on (next_escape x longer) ≡ true → goes_on (next_escape x false) ≡ true
escape_end x longer on = elim (cases_Bool (x == 120)) [
  | inl hex ↦ rw hex refl
  | inr not_hex ↦ elim (cases_Bool (x == 117)) [
    | inl code ↦ rw not_hex (rw code refl)
    | inr not_code ↦ elim (cases_Bool (is_octal x)) [
      | inl octal ↦ rw not_hex (rw not_code (rw octal refl))
      | inr other ↦ (let there = rw (not_hex, not_code, other) at on in rw (not_hex, not_code, other) there)
    ]
  ]
]

hex_same : (x : ℕ) (longer : Bool) → goes_on (next_hex_escape x longer) ≡ goes_on (next_hex_escape x false)
hex_same x false = refl
hex_same x true = elim (cases_Bool (is_hex x)) [
  | inl hex ↦ rw hex refl
  | inr other ↦ rw other refl
]

octal_end : (value left x : ℕ) (longer : Bool) → goes_on (next_octal value left x longer) ≡ true → goes_on (next_octal value left x false) ≡ true
octal_end value left x longer on = elim (cases_Bool (is_octal x && nat_lt 0 left)) [
  | inr other ↦ (let there = rw other at on in rw other there)
  | inl octal ↦ elim (cases_Bool (nat_lt 255 (8 * value + (x - 48)))) [
    | inl many ↦ (let there = rw (octal, many) at on in rw (octal, many) there)
    | inr fits ↦ rw octal (rw fits refl)
  ]
]

text_end : (quote : ℕ) (begun : Begun) (x : ℕ) (longer : Bool) → goes_on (next_text quote begun x longer) ≡ true → goes_on (next_text quote begun x false) ≡ true
text_end quote Escape x longer on = escape_end x longer on
text_end quote HexEscape x longer on = sym (hex_same x longer) ∙ on
text_end quote (OctalEscape value left) x longer on = octal_end value left x longer on
text_end quote begun x longer on = on

-- ---- Short hexadecimal numbers

short_end : (longer : Bool) (value count : ℕ) → goes_on (short_by longer value count) ≡ true → goes_on (short_by false value count) ≡ true
short_end false value count on = on
short_end true value count on = elim (cases_Bool (nat_lt count 3 || (count == 8 && nat_lt 127 value))) [
  | inl short ↦ rw short refl
  | inr other ↦ rw other on
]

next_short_end : (begun : Begun) (x : ℕ) (longer : Bool) → goes_on (next_short begun x longer) ≡ true → goes_on (next_short begun x false) ≡ true
next_short_end (Short value count) x longer on = elim (cases_Bool (is_hex x)) [
  | inr other ↦ (let there = rw other at on in rw other there)
  | inl hex ↦ elim (cases_Bool (nat_lt 7 count)) [
    | inl many ↦ (let there = rw (hex, many) at on in rw (hex, many) there)
    | inr few ↦ (let there = rw (hex, few) at on in rw (hex, few) (short_end longer ((16 * value + hex_value x) % 256) (count + 1) there))
  ]
]
next_short_end begun x longer on = elim (cases_Bool (is_hex x)) [
  | inr other ↦ (let there = rw other at on in rw other there)
  | inl hex ↦ (let there = rw hex at on in rw hex (short_end longer (hex_value x) 1 there))
]

-- ---- Numbers with a prefix

second_end : (value x : ℕ) (longer : Bool) → goes_on (next_second value x longer) ≡ true → goes_on (next_second value x false) ≡ true
second_end value x false on = on
second_end value x true on = elim (cases_Bool (is_hex x)) [
  | inr other ↦ (let there = rw other at on in rw other there)
  | inl hex ↦ (let there = rw hex at on in absurd (false≢true there))
]

prefixed_end : (begun : Begun) (x : ℕ) (longer : Bool) → goes_on (next_prefixed begun x longer) ≡ true → goes_on (next_prefixed begun x false) ≡ true
prefixed_end Nothing x longer on = elim (cases_Bool (x == 48)) [
  | inl zero ↦ rw zero refl
  | inr other ↦ (let there = rw other at on in rw other there)
]
prefixed_end HexEscape x longer on = sym (hex_same x longer) ∙ on
prefixed_end (Fixed value left) x longer on = second_end value x longer on
prefixed_end begun x longer on = on

pub goes_on_end : (digits : Digits) (begun : Begun) (x : ℕ) (longer : Bool) → goes_on (next_in digits begun x longer) ≡ true → goes_on (next_in digits begun x false) ≡ true
goes_on_end digits.Decimal begun x longer on = sym (decimal_same begun x longer) ∙ on
goes_on_end digits.Columns begun x longer on = sym (column_same begun x longer) ∙ on
goes_on_end digits.Short begun x longer on = next_short_end begun x longer on
goes_on_end digits.Prefixed begun x longer on = prefixed_end begun x longer on
goes_on_end (digits.Text quote) begun x longer on = text_end quote begun x longer on
goes_on_end _ begun x longer on = on
