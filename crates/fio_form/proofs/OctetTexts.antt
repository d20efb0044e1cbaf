-- An octet that is written is the one that is read.
use Rattle.std.proofs.Common.{◌≡◌, ◌≢◌, ℕ, ◌+◌, ◌-◌, ◌*◌, ◌<◌, ◌≤◌, true, false, List, [], ◌∷◌, ◌++◌, length, refl, sym, ap, ◌∙◌, append_assoc, inl, inr, arith}
use Rattle.std.specs.Prelude.{not, nat_lt, ◌==◌, ◌⊎◌}
use Rattle.std.specs.List.{AllByRecursion}
use Rattle.std.proofs.lemmas.Bool.{and_parts, cases_Bool, eqb-true, false≢true}
use Rattle.std.proofs.lemmas.Bool.Decides.{nat_tests}
use Rattle.fio_form.specs.Forms.{has_texts, hex_value, is_blanks, is_decimal, is_fixed, is_hex, is_last, is_numeric, is_part}
use Rattle.fio_form.specs.Octets.{longer_in, makes_longer, next_in, next_negative, next_unsigned, octets_from, steps_at}
use Rattle.fio_form.specs.Writing.{BeginsOctet, IsDecimalText, IsFixedText, IsNegativeText, IsNumberText, IsOctetText, decimal_value, value_in_base}
use Rattle.fio_form.specs.declared.form.Digits.{Digits}
use Rattle.fio_form.specs.declared.form.Digits.TheVariants as digits
use Rattle.fio_form.specs.declared.form.Step.{Step}
use Rattle.fio_form.specs.declared.form.Step.TheVariants.{Octet}
use Rattle.fio_form.specs.declared.form.Piece.{Piece}
use Rattle.fio_form.specs.declared.form.Piece.TheVariants.{Character, Decimal, Blanks}
use Rattle.fio_form.specs.declared.octets.Begun.{Begun}
use Rattle.fio_form.specs.declared.octets.Begun.TheVariants.{Nothing, Number, Negative}
use Rattle.fio_form.proofs.Characters.{decimal_hex, digit_apart}
use Rattle.fio_form.proofs.Fronts.{begins_part, not_empty}
use Rattle.fio_form.proofs.FixedTexts.{IsFixedBy, fixed_or_not, fixed_read}
use Rattle.fio_form.proofs.NumberTexts.{AreDecimal, AreNegatives, AreNumbers, grows, negative_or_not, negative_read, number_or_not, number_read}
use Rattle.fio_form.proofs.OneOctet.{At, Missing, after_found, fold_one, go_between, go_on, read_one}

-- ---- What is written is read

fixed_one : (digits : Digits) (base width : ℕ) → IsFixedBy digits base width → ((value : ℕ) → value ≤ base * value) → 0 < width → (octet : ℕ) (text rest : List ℕ)
    → IsFixedText base width octet text → read_one digits Nothing (text ++ rest) ≡ At octet rest
fixed_one digits base width same up some octet text rest is =
    fixed_read digits base width same up Nothing text rest (omega (arith, some, is.0)) is.0 is.1 (omega (arith, is.2, is.3)) ∙ ap (λ o. At o rest) (sym is.2)

few : (most value : ℕ) → value ≤ most → nat_lt most value ≡ false
few most value small = grind (arith, nat_tests)

-- what a first digit does
abbrev IsFirst : Digits → Type 0
IsFirst digits = (x : ℕ) (text : List ℕ) → is_decimal x ≡ true → next_in digits Nothing x (longer_in digits Nothing text) ≡ next_unsigned 0 x (makes_longer digits text)

longer_decimal : (begun : Begun) (text : List ℕ) → longer_in digits.Decimal begun text ≡ makes_longer digits.Decimal text
longer_decimal begun [] = refl
longer_decimal begun (x ∷ text) = refl

longer_columns : (begun : Begun) (text : List ℕ) → longer_in digits.Columns begun text ≡ makes_longer digits.Columns text
longer_columns begun [] = refl
longer_columns begun (x ∷ text) = refl

decimal_numbers : AreNumbers digits.Decimal
decimal_numbers value x text = ap (next_unsigned value x) (longer_decimal (Number value) text)

column_numbers : AreNumbers digits.Columns
column_numbers value x text = ap (next_unsigned value x) (longer_columns (Number value) text)

decimal_negatives : AreNegatives digits.Decimal
decimal_negatives value x text = ap (next_negative value x) (longer_decimal (Negative value) text)

number_one : (digits : Digits) → IsFirst digits → AreNumbers digits → AreDecimal digits → (octet : ℕ) (text rest : List ℕ) → IsNumberText octet text → makes_longer digits rest ≡ false
    → read_one digits Nothing (text ++ rest) ≡ At octet rest
number_one digits first same decimal octet [] rest is apart = absurd (is.0.0 refl)
number_one digits first same decimal octet (d ∷ text) rest is apart =
    let more = grows (10 * 0 + (d - 48)) text in
    let small : decimal_value (10 * 0 + (d - 48)) text < 256 = omega (arith, is.1, is.2) in
    rw (first d (text ++ rest) is.0.1.0) (rw (is.0.1.0) (rw (few 255 (10 * 0 + (d - 48)) (omega (arith, more, small)))
    (number_read digits same decimal (10 * 0 + (d - 48)) text rest is.0.1.1 small apart ∙ ap (λ o. At o rest) (sym is.1))))

negative_one : (octet : ℕ) (text rest : List ℕ) → IsNegativeText octet text → makes_longer digits.Decimal rest ≡ false → read_one digits.Decimal (Negative 0) (text ++ rest) ≡ At octet rest
negative_one octet [] rest is apart = absurd (is.0.0 refl)
negative_one octet (d ∷ text) rest is apart =
    let more = grows (10 * 0 + (d - 48)) text in
    let small : decimal_value (10 * 0 + (d - 48)) text < 129 = is.3 in
    rw (is.0.1.0) (rw (few 128 (10 * 0 + (d - 48)) (omega (arith, more, small))) (rw (longer_decimal (Negative 0) (text ++ rest))
    (negative_read digits.Decimal decimal_negatives (λ x. refl) (10 * 0 + (d - 48)) text rest is.0.1.1 is.2 small apart ∙ ap (λ o. At o rest) (sym is.1))))

not_sign : (x : ℕ) → is_decimal x ≡ true → (x == 45) ≡ false
not_sign x digit = grind (arith, nat_tests)

not_blank : (x : ℕ) → is_decimal x ≡ true → (x == 32) ≡ false
not_blank x digit = grind (arith, nat_tests)

decimal_first : IsFirst digits.Decimal
decimal_first x text digit = rw (not_sign x digit) (ap (next_unsigned 0 x) (longer_decimal Nothing text))

column_first : IsFirst digits.Columns
column_first x text digit = rw (not_blank x digit) (ap (next_unsigned 0 x) (longer_columns Nothing text))

decimal_one : (octet : ℕ) (text rest : List ℕ) → IsDecimalText octet text → makes_longer digits.Decimal rest ≡ false → read_one digits.Decimal Nothing (text ++ rest) ≡ At octet rest
decimal_one octet [] rest is apart = absurd is
decimal_one octet (x ∷ text) rest is apart = elim is [
  | inl number ↦ number_one digits.Decimal decimal_first decimal_numbers (λ x. refl) octet (x ∷ text) rest number apart
  | inr negative ↦ rw (negative.0) (negative_one octet text rest negative.1 apart)
]

blanks_one : (octet : ℕ) (blanks number rest : List ℕ) → AllByRecursion (λ blank. blank ≡ 32) blanks → IsNumberText octet number → makes_longer digits.Columns rest ≡ false
    → read_one digits.Columns Nothing (blanks ++ (number ++ rest)) ≡ At octet rest
blanks_one octet [] number rest all is apart = number_one digits.Columns column_first column_numbers (λ x. refl) octet number rest is apart
blanks_one octet (blank ∷ blanks) number rest all is apart = rw (all.0) (blanks_one octet blanks number rest all.1 is apart)

pub octet_one : (digits : Digits) (octet : ℕ) (text rest : List ℕ) → IsOctetText digits octet text → makes_longer digits rest ≡ false
    → read_one digits Nothing (text ++ rest) ≡ At octet rest
octet_one digits.Pairs octet text rest is apart = fixed_one digits.Pairs 16 2 (λ begun x longer. refl) (λ value. omega arith) (omega arith) octet text rest is
octet_one digits.Octal octet text rest is apart = fixed_one digits.Octal 8 3 (λ begun x longer. refl) (λ value. omega arith) (omega arith) octet text rest is
octet_one digits.Binary octet text rest is apart = fixed_one digits.Binary 2 8 (λ begun x longer. refl) (λ value. omega arith) (omega arith) octet text rest is
octet_one digits.Decimal octet text rest is apart = decimal_one octet text rest is apart
octet_one digits.Columns octet text rest is apart =
    ap (λ t. read_one digits.Columns Nothing (t ++ rest)) is.whole
    ∙ (ap (read_one digits.Columns Nothing) (append_assoc is.blanks is.number rest) ∙ blanks_one octet is.blanks is.number rest is.all is.is apart)
octet_one _ octet text rest is apart = absurd is

pub octet_read : (digits : Digits) (cycle steps : List Step) (octet : ℕ) (text done rest : List ℕ) → IsOctetText digits octet text → makes_longer digits rest ≡ false
    → octets_from digits cycle (Octet ∷ steps) Nothing done (text ++ rest)
    ≡ octets_from digits cycle (steps_at cycle steps rest) Nothing (done ++ octet ∷ []) rest
octet_read digits cycle steps octet text done rest is apart =
    fold_one digits cycle steps Nothing done (text ++ rest)
    ∙ ap (λ found. after_found found done (go_on digits cycle steps done) (go_between digits cycle steps done)) (octet_one digits octet text rest is apart)

-- ---- What an octet begins with

hex_of : (base x : ℕ) → base ≤ 16 → nat_lt (hex_value x) base ≡ true → is_hex x ≡ true
hex_of base x most is = grind (arith, nat_tests)

fixed_begins : (base width octet : ℕ) → 0 < width → base ≤ 16 → (text rest : List ℕ) → IsFixedText base width octet text → (piece : Piece) → not (is_numeric piece) ≡ true
    → begins_part piece (text ++ rest) ≡ false
fixed_begins base width octet some most [] rest is piece none = absurd (omega (arith, some, is.0))
fixed_begins base width octet some most (x ∷ text) rest is piece none = digit_apart piece x none (hex_of base x most is.1.0)

number_begins : (octet : ℕ) (text rest : List ℕ) → IsNumberText octet text → (piece : Piece) → not (is_numeric piece) ≡ true → begins_part piece (text ++ rest) ≡ false
number_begins octet [] rest is piece none = absurd (is.0.0 refl)
number_begins octet (d ∷ text) rest is piece none = digit_apart piece d none (decimal_hex d is.0.1.0)

sign_apart : (piece : Piece) → not (is_numeric piece) ≡ true → is_part piece 45 ≡ false
sign_apart (Character mark) none = refl
sign_apart _ none = refl

decimal_begins : (octet : ℕ) (text rest : List ℕ) → IsDecimalText octet text → (piece : Piece) → not (is_numeric piece) ≡ true → begins_part piece (text ++ rest) ≡ false
decimal_begins octet [] rest is piece none = absurd is
decimal_begins octet (x ∷ text) rest is piece none = elim is [
  | inl number ↦ number_begins octet (x ∷ text) rest number piece none
  | inr negative ↦ rw (negative.0) (sign_apart piece none)
]

space_apart : (piece : Piece) → not (is_blanks piece) ≡ true → is_part piece 32 ≡ false
space_apart Blanks none = absurd (false≢true none)
space_apart _ none = refl

column_begins : (octet : ℕ) (blanks number rest : List ℕ) → AllByRecursion (λ blank. blank ≡ 32) blanks → IsNumberText octet number → (piece : Piece) → not (is_numeric piece) ≡ true → not (is_blanks piece) ≡ true
    → begins_part piece ((blanks ++ number) ++ rest) ≡ false
column_begins octet [] number rest all is piece none not_ = number_begins octet number rest is piece none
column_begins octet (blank ∷ blanks) number rest all is piece none not_ = rw (all.0) (space_apart piece not_)

pub octet_begins : (digits : Digits) (octet : ℕ) (text rest : List ℕ) → IsOctetText digits octet text → (piece : Piece) → is_last digits piece ≡ true
    → begins_part piece (text ++ rest) ≡ false
octet_begins digits.Pairs octet text rest is piece last = fixed_begins 16 2 octet (omega arith) (omega arith) text rest is piece (and_parts (not (is_numeric piece)) true last).0
octet_begins digits.Octal octet text rest is piece last = fixed_begins 8 3 octet (omega arith) (omega arith) text rest is piece (and_parts (not (is_numeric piece)) true last).0
octet_begins digits.Binary octet text rest is piece last = fixed_begins 2 8 octet (omega arith) (omega arith) text rest is piece (and_parts (not (is_numeric piece)) true last).0
octet_begins digits.Decimal octet text rest is piece last = decimal_begins octet text rest is piece (and_parts (not (is_numeric piece)) true last).0
octet_begins digits.Columns octet text rest is piece last =
    let parts = and_parts (not (is_numeric piece)) (not (is_blanks piece)) last in
    ap (λ t. begins_part piece (t ++ rest)) is.whole ∙ column_begins octet is.blanks is.number rest is.all is.is piece parts.0 parts.1
octet_begins _ octet text rest is piece last = absurd is

some_text : (text : List ℕ) → text ≢ [] → 0 < length text
some_text [] some = absurd (some refl)
some_text (x ∷ text) some = omega arith

pub octet_some : (digits : Digits) (octet : ℕ) (text : List ℕ) → IsOctetText digits octet text → 0 < length text
octet_some digits.Pairs octet text is = omega (arith, is.0)
octet_some digits.Octal octet text is = omega (arith, is.0)
octet_some digits.Binary octet text is = omega (arith, is.0)
octet_some digits.Decimal octet [] is = absurd is
octet_some digits.Decimal octet (x ∷ text) is = omega arith
octet_some digits.Columns octet text is = omega (arith, ap length is.whole, length_of is.blanks is.number, some_text is.number is.is.0.0)
  where
    length_of : (a b : List ℕ) → length b ≤ length (a ++ b)
    length_of [] b = omega arith
    length_of (x ∷ a) b = omega (arith, length_of a b)
octet_some _ octet text is = absurd is

-- ---- What is read is written

pub fixed_short : (digits : Digits) (text : List ℕ) → is_fixed digits ≡ true → makes_longer digits text ≡ false
fixed_short digits [] is = refl
fixed_short digits (x ∷ text) is = rw is refl

fixed_found : (digits : Digits) (base width : ℕ) → IsFixedBy digits base width → is_fixed digits ≡ true → 0 < width
    → ((octet : ℕ) (text : List ℕ) → IsFixedText base width octet text → IsOctetText digits octet text) → (text : List ℕ)
    → (read_one digits Nothing text ≡ Missing) ⊎ BeginsOctet digits [] text
fixed_found digits base width same fixed some is_text text = elim (fixed_or_not digits base width same Nothing text some) [
  | inl none ↦ inl none
  | inr one ↦ inr (record {
    octet = value_in_base base 0 one.written;
    written = one.written;
    rest = one.rest;
    is = is_text (value_in_base base 0 one.written) one.written (one.size, one.all, refl, one.small);
    apart = fixed_short digits one.rest fixed;
    whole = one.whole;
  })
]

digit_few : (x : ℕ) → is_decimal x ≡ true → 10 * 0 + (x - 48) < 10
digit_few x digit = grind (arith, nat_tests)

number_found : (digits : Digits) → IsFirst digits → AreNumbers digits → AreDecimal digits
    → ((octet d : ℕ) (text : List ℕ) → IsNumberText octet (d ∷ text) → IsOctetText digits octet (d ∷ text)) → (x : ℕ) (text : List ℕ) → is_decimal x ≡ true
    → (read_one digits Nothing (x ∷ text) ≡ Missing) ⊎ BeginsOctet digits [] (x ∷ text)
number_found digits first same decimal is_text x text digit =
    let fits = few 255 (10 * 0 + (x - 48)) (omega (arith, digit_few x digit)) in
    elim (number_or_not digits same decimal (10 * 0 + (x - 48)) text (omega (arith, digit_few x digit))) [
      | inl none ↦ inl (rw (first x text digit) (rw digit (rw fits none)))
      | inr one ↦ inr (record {
        octet = decimal_value 0 (x ∷ one.written);
        written = x ∷ one.written;
        rest = one.rest;
        is = is_text (decimal_value 0 (x ∷ one.written)) x one.written ((not_empty x one.written, (digit, one.all)), refl, one.small);
        apart = one.apart;
        whole = ap (λ t. x ∷ t) one.whole;
      })
    ]

negative_found : (sign : ℕ) (text : List ℕ) → sign ≡ 45 → (read_one digits.Decimal (Negative 0) text ≡ Missing) ⊎ BeginsOctet digits.Decimal [] (sign ∷ text)
negative_found sign [] same = inl refl
negative_found sign (x ∷ text) same = elim (cases_Bool (is_decimal x)) [
  | inr other ↦ inl (rw other refl)
  | inl digit ↦ (
      let fits = few 128 (10 * 0 + (x - 48)) (omega (arith, digit_few x digit)) in
      elim (negative_or_not digits.Decimal decimal_negatives (λ x. refl) (10 * 0 + (x - 48)) text (omega (arith, digit_few x digit))) [
        | inl none ↦ inl (rw digit (rw fits (rw (longer_decimal (Negative 0) text) none)))
        | inr one ↦ inr (record {
          octet = 256 - decimal_value 0 (x ∷ one.written);
          written = sign ∷ (x ∷ one.written);
          rest = one.rest;
          is = inr (same, ((not_empty x one.written, (digit, one.all)), refl, one.some, one.small));
          apart = one.apart;
          whole = ap (λ t. sign ∷ (x ∷ t)) one.whole;
        })
      ])
]

decimal_found : (text : List ℕ) → (read_one digits.Decimal Nothing text ≡ Missing) ⊎ BeginsOctet digits.Decimal [] text
decimal_found [] = inl refl
decimal_found (x ∷ text) = elim (cases_Bool (x == 45)) [
  | inl sign ↦ elim (negative_found x text (eqb-true x 45 sign)) [
    | inl none ↦ inl (rw sign none)
    | inr one ↦ inr one
  ]
  | inr plain ↦ elim (cases_Bool (is_decimal x)) [
    | inl digit ↦ number_found digits.Decimal decimal_first decimal_numbers (λ x. refl) (λ octet d text is. inl is) x text digit
    | inr other ↦ inl (rw plain (rw other refl))
  ]
]

column_found : (text : List ℕ) → (read_one digits.Columns Nothing text ≡ Missing) ⊎ BeginsOctet digits.Columns [] text
column_found [] = inl refl
column_found (x ∷ text) = elim (cases_Bool (x == 32)) [
  | inl blank ↦ elim (column_found text) [
    | inl none ↦ inl (rw blank none)
    | inr one ↦ inr (record {
      octet = one.octet;
      written = x ∷ one.written;
      rest = one.rest;
      is = record { blanks = x ∷ one.is.blanks; number = one.is.number; all = (eqb-true x 32 blank, one.is.all); is = one.is.is; whole = ap (λ t. x ∷ t) one.is.whole };
      apart = one.apart;
      whole = ap (λ t. x ∷ t) one.whole;
    })
  ]
  | inr plain ↦ elim (cases_Bool (is_decimal x)) [
    | inl digit ↦ number_found digits.Columns column_first column_numbers (λ x. refl)
        (λ octet d text is. record { blanks = []; number = d ∷ text; all = tt; is = is; whole = refl }) x text digit
    | inr other ↦ inl (rw plain (rw other refl))
  ]
]

pub octet_or_not : (digits : Digits) → has_texts digits ≡ true → (text : List ℕ) → (read_one digits Nothing text ≡ Missing) ⊎ BeginsOctet digits [] text
octet_or_not digits.Pairs has text = fixed_found digits.Pairs 16 2 (λ begun x longer. refl) refl (omega arith) (λ octet text is. is) text
octet_or_not digits.Octal has text = fixed_found digits.Octal 8 3 (λ begun x longer. refl) refl (omega arith) (λ octet text is. is) text
octet_or_not digits.Binary has text = fixed_found digits.Binary 2 8 (λ begun x longer. refl) refl (omega arith) (λ octet text is. is) text
octet_or_not digits.Decimal has text = decimal_found text
octet_or_not digits.Columns has text = column_found text
octet_or_not _ has text = absurd (false≢true has)
