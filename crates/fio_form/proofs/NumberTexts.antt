-- Octets that are decimal numbers: what is written is read.
use Rattle.std.proofs.Common.{◌≡◌, ◌<◌, ◌≤◌, ◌+◌, ◌-◌, ◌*◌, ℕ, true, false, List, [], ◌∷◌, ◌++◌, refl, ap, ◌∙◌, arith, inl, inr}
use Rattle.std.specs.Prelude.{◌==◌, ◌⊎◌, nat_lt}
use Rattle.std.specs.List.{AllByRecursion}
use Rattle.std.proofs.lemmas.Bool.{cases_Bool}
use Rattle.std.proofs.lemmas.Bool.Decides.{nat_tests}
use Rattle.fio_form.specs.Forms.{is_decimal, is_more}
use Rattle.fio_form.specs.Octets.{longer_in, makes_longer, negative_by, next_in, next_negative, next_unsigned, number_by}
use Rattle.fio_form.specs.Writing.{decimal_value}
use Rattle.fio_form.specs.declared.form.Digits.{Digits}
use Rattle.fio_form.specs.declared.octets.Begun.TheVariants.{Number, Negative}
use Rattle.fio_form.proofs.OneOctet.{Found, Missing, At, found_by, read_one}

pub grows : (value : ℕ) (text : List ℕ) → value ≤ decimal_value value text
grows value [] = omega arith
grows value (digit ∷ text) = omega (arith, grows (10 * value + (digit - 48)) text)

-- what characters do after a digit
abbrev pub AreNumbers : Digits → Type 0
AreNumbers digits = (value x : ℕ) (text : List ℕ) → next_in digits (Number value) x (longer_in digits (Number value) text) ≡ next_unsigned value x (makes_longer digits text)

abbrev pub AreNegatives : Digits → Type 0
AreNegatives digits = (value x : ℕ) (text : List ℕ) → next_in digits (Negative value) x (longer_in digits (Negative value) text) ≡ next_negative value x (makes_longer digits text)

abbrev pub AreDecimal : Digits → Type 0
AreDecimal digits = (x : ℕ) → is_more digits x ≡ is_decimal x

-- what is read after digits with this value
abbrev pub number_on : Digits → ℕ → List ℕ → Found
number_on digits value text = found_by (number_by (makes_longer digits text) value) text (λ more. read_one digits more text)

abbrev pub negative_on : Digits → ℕ → List ℕ → Found
negative_on digits value text = found_by (negative_by (makes_longer digits text) value) text (λ more. read_one digits more text)

few : (most value : ℕ) → value ≤ most → nat_lt most value ≡ false
few most value small = grind (arith, nat_tests)

pub number_read : (digits : Digits) → AreNumbers digits → AreDecimal digits → (value : ℕ) (text rest : List ℕ) → AllByRecursion (λ digit. is_decimal digit ≡ true) text
    → decimal_value value text < 256 → makes_longer digits rest ≡ false → number_on digits value (text ++ rest) ≡ At (decimal_value value text) rest
number_read digits same decimal value [] rest all small apart = rw apart refl
number_read digits same decimal value (d ∷ text) rest all small apart =
    let more = grows (10 * value + (d - 48)) text in
    rw (decimal d) (rw (all.0) (rw (same value d (text ++ rest)) (rw (all.0) (rw (few 255 (10 * value + (d - 48)) (omega (arith, more, small)))
    (number_read digits same decimal (10 * value + (d - 48)) text rest all.1 small apart)))))

pub negative_read : (digits : Digits) → AreNegatives digits → AreDecimal digits → (value : ℕ) (text rest : List ℕ) → AllByRecursion (λ digit. is_decimal digit ≡ true) text
    → 0 < decimal_value value text → decimal_value value text < 129 → makes_longer digits rest ≡ false → negative_on digits value (text ++ rest) ≡ At (256 - decimal_value value text) rest
negative_read digits same decimal value [] rest all some small apart =
    let not_zero : (value == 0) ≡ false = grind (arith, nat_tests) in
    rw apart (rw not_zero refl)
negative_read digits same decimal value (d ∷ text) rest all some small apart =
    let more = grows (10 * value + (d - 48)) text in
    rw (decimal d) (rw (all.0) (rw (same value d (text ++ rest)) (rw (all.0) (rw (few 128 (10 * value + (d - 48)) (omega (arith, more, small)))
    (negative_read digits same decimal (10 * value + (d - 48)) text rest all.1 some small apart)))))

-- ---- What is read is written

pub record NumberText (digits : Digits) (value : ℕ) (text : List ℕ) : Type 0 where
  pub written : List ℕ
  pub rest : List ℕ
  pub all : AllByRecursion (λ digit. is_decimal digit ≡ true) written
  pub small : decimal_value value written < 256
  pub apart : makes_longer digits rest ≡ false
  pub whole : text ≡ written ++ rest

is_few : (most value : ℕ) → nat_lt most value ≡ false → value ≤ most
is_few most value small = grind (arith, nat_tests)

pub number_or_not : (digits : Digits) → AreNumbers digits → AreDecimal digits → (value : ℕ) (text : List ℕ) → value < 256
    → (number_on digits value text ≡ Missing) ⊎ NumberText digits value text
number_or_not digits same decimal value [] small = inr (record { written = []; rest = []; all = tt; small = small; apart = refl; whole = refl })
number_or_not digits same decimal value (x ∷ text) small = elim (cases_Bool (is_decimal x)) [
  | inr other ↦ inr (record { written = []; rest = x ∷ text; all = tt; small = small; apart = decimal x ∙ other; whole = refl })
  | inl digit ↦ elim (cases_Bool (nat_lt 255 (10 * value + (x - 48)))) [
    | inl many ↦ inl (rw (decimal x) (rw digit (rw (same value x text) (rw digit (rw many refl)))))
    | inr fits ↦ (
        let next : 10 * value + (x - 48) < 256 = omega (arith, is_few 255 (10 * value + (x - 48)) fits) in
        elim (number_or_not digits same decimal (10 * value + (x - 48)) text next) [
          | inl none ↦ inl (rw (decimal x) (rw digit (rw (same value x text) (rw digit (rw fits none)))))
          | inr one ↦ inr (record { written = x ∷ one.written; rest = one.rest; all = (digit, one.all); small = one.small; apart = one.apart; whole = ap (λ t. x ∷ t) one.whole })
        ])
  ]
]

pub record NegativeText (digits : Digits) (value : ℕ) (text : List ℕ) : Type 0 where
  pub written : List ℕ
  pub rest : List ℕ
  pub all : AllByRecursion (λ digit. is_decimal digit ≡ true) written
  pub some : 0 < decimal_value value written
  pub small : decimal_value value written < 129
  pub apart : makes_longer digits rest ≡ false
  pub whole : text ≡ written ++ rest

above : (value : ℕ) → (value == 0) ≡ false → 0 < value
above value not_ = grind (arith, nat_tests)

pub negative_or_not : (digits : Digits) → AreNegatives digits → AreDecimal digits → (value : ℕ) (text : List ℕ) → value < 129
    → (negative_on digits value text ≡ Missing) ⊎ NegativeText digits value text
negative_or_not digits same decimal value [] small = elim (cases_Bool (value == 0)) [
  | inl zero ↦ inl (rw zero refl)
  | inr some ↦ inr (record { written = []; rest = []; all = tt; some = above value some; small = small; apart = refl; whole = refl })
]
negative_or_not digits same decimal value (x ∷ text) small = elim (cases_Bool (is_decimal x)) [
  | inr other ↦ elim (cases_Bool (value == 0)) [
    | inl zero ↦ inl (rw (decimal x) (rw other (rw zero (rw (same value x text) (rw other refl)))))
    | inr some ↦ inr (record { written = []; rest = x ∷ text; all = tt; some = above value some; small = small; apart = decimal x ∙ other; whole = refl })
  ]
  | inl digit ↦ elim (cases_Bool (nat_lt 128 (10 * value + (x - 48)))) [
    | inl many ↦ inl (rw (decimal x) (rw digit (rw (same value x text) (rw digit (rw many refl)))))
    | inr fits ↦ (
        let next : 10 * value + (x - 48) < 129 = omega (arith, is_few 128 (10 * value + (x - 48)) fits) in
        elim (negative_or_not digits same decimal (10 * value + (x - 48)) text next) [
          | inl none ↦ inl (rw (decimal x) (rw digit (rw (same value x text) (rw digit (rw fits none)))))
          | inr one ↦ inr (record { written = x ∷ one.written; rest = one.rest; all = (digit, one.all); some = one.some; small = one.small; apart = one.apart; whole = ap (λ t. x ∷ t) one.whole })
        ])
  ]
]
