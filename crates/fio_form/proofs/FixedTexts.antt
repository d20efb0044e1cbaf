-- Octets of a fixed number of digits: what is written is read.
use Rattle.std.proofs.Common.{◌≡◌, ◌<◌, ◌≤◌, ◌+◌, ◌-◌, ◌*◌, ℕ, Bool, true, false, List, [], ◌∷◌, ◌++◌, length, refl, sym, ap, arith, inl, inr}
use Rattle.std.specs.Prelude.{◌⊎◌, nat_le, nat_lt}
use Rattle.std.specs.List.{AllByRecursion}
use Rattle.std.proofs.lemmas.Bool.{cases_Bool}
use Rattle.std.proofs.lemmas.Bool.Decides.{nat_tests}
use Rattle.fio_form.specs.Forms.{hex_value}
use Rattle.fio_form.specs.Octets.{fixed_left, fixed_value, longer_in, next_fixed, next_in}
use Rattle.fio_form.specs.Writing.{value_in_base}
use Rattle.fio_form.specs.declared.form.Digits.{Digits}
use Rattle.fio_form.specs.declared.octets.Begun.{Begun}
use Rattle.fio_form.specs.declared.octets.Begun.TheVariants.{Fixed}
use Rattle.fio_form.proofs.OneOctet.{Missing, At, read_one}

-- what characters do, by base and width
abbrev pub IsFixedBy : Digits → ℕ → ℕ → Type 0
IsFixedBy digits base width = (begun : Begun) (x : ℕ) (longer : Bool) → next_in digits begun x longer ≡ next_fixed base width begun x

grows : (base : ℕ) → ((value : ℕ) → value ≤ base * value) → (value : ℕ) (text : List ℕ) → value ≤ value_in_base base value text
grows base up value [] = omega arith
grows base up value (digit ∷ text) = omega (arith, up value, grows base up (base * value + hex_value digit) text)

not_large : (base x : ℕ) → nat_lt (hex_value x) base ≡ true → nat_le base (hex_value x) ≡ false
not_large base x small = grind (arith, nat_tests)

not_many : (value : ℕ) → value < 256 → nat_lt 255 value ≡ false
not_many value small = grind (arith, nat_tests)

not_more : (left : ℕ) → left ≡ 1 → nat_lt 1 left ≡ false
not_more left one = grind (arith, nat_tests)

more_left : (left : ℕ) → 1 < left → nat_lt 1 left ≡ true
more_left left more = grind (arith, nat_tests)

pub fixed_read : (digits : Digits) (base width : ℕ) → IsFixedBy digits base width → ((value : ℕ) → value ≤ base * value) → (begun : Begun) (text rest : List ℕ)
    → 0 < length text → length text ≡ fixed_left width begun → AllByRecursion (λ digit. nat_lt (hex_value digit) base ≡ true) text
    → value_in_base base (fixed_value begun) text < 256 → read_one digits begun (text ++ rest) ≡ At (value_in_base base (fixed_value begun) text) rest
fixed_read digits base width same up begun [] rest some size all small = absurd (omega (arith, some))
fixed_read digits base width same up begun (x ∷ []) rest some size all small =
    rw (same begun x (longer_in digits begun rest)) (rw (not_large base x all.0) (rw (not_many (base * fixed_value begun + hex_value x) small) (rw (not_more (fixed_left width begun) (sym size)) refl)))
fixed_read digits base width same up begun (x ∷ (y ∷ text)) rest some size all small =
    let value = base * fixed_value begun + hex_value x in
    let most = grows base up value (y ∷ text) in
    let more : 1 < fixed_left width begun = omega (arith, size) in
    let then_ = fixed_read digits base width same up (Fixed value (fixed_left width begun - 1)) (y ∷ text) rest (omega arith) (omega (arith, size)) all.1 small in
    rw (same begun x (longer_in digits begun (y ∷ (text ++ rest)))) (rw (not_large base x all.0) (rw (not_many value (omega (arith, most, small))) (rw (more_left (fixed_left width begun) more) then_)))

-- ---- What is read is written

pub record FixedText (base value left : ℕ) (text : List ℕ) : Type 0 where
  pub written : List ℕ
  pub rest : List ℕ
  pub size : length written ≡ left
  pub all : AllByRecursion (λ digit. nat_lt (hex_value digit) base ≡ true) written
  pub small : value_in_base base value written < 256
  pub whole : text ≡ written ++ rest

is_digit : (base x : ℕ) → nat_le base (hex_value x) ≡ false → nat_lt (hex_value x) base ≡ true
is_digit base x fits = grind (arith, nat_tests)

is_few : (value : ℕ) → nat_lt 255 value ≡ false → value < 256
is_few value few = grind (arith, nat_tests)

one_left : (left : ℕ) → 0 < left → nat_lt 1 left ≡ false → 1 ≡ left
one_left left some last = grind (arith, nat_tests)

some_more : (left : ℕ) → nat_lt 1 left ≡ true → 1 < left
some_more left more = grind (arith, nat_tests)

pub fixed_or_not : (digits : Digits) (base width : ℕ) → IsFixedBy digits base width → (begun : Begun) (text : List ℕ) → 0 < fixed_left width begun
    → (read_one digits begun text ≡ Missing) ⊎ FixedText base (fixed_value begun) (fixed_left width begun) text
fixed_or_not digits base width same begun [] some = inl refl
fixed_or_not digits base width same begun (x ∷ text) some = elim (cases_Bool (nat_le base (hex_value x))) [
  | inl large ↦ inl (rw (same begun x (longer_in digits begun text)) (rw large refl))
  | inr fits ↦ elim (cases_Bool (nat_lt 255 (base * fixed_value begun + hex_value x))) [
    | inl many ↦ inl (rw (same begun x (longer_in digits begun text)) (rw fits (rw many refl)))
    | inr few ↦ elim (cases_Bool (nat_lt 1 (fixed_left width begun))) [
      | inr last ↦ inr (record {
        written = x ∷ [];
        rest = text;
        size = one_left (fixed_left width begun) some last;
        all = (is_digit base x fits, tt);
        small = is_few (base * fixed_value begun + hex_value x) few;
        whole = refl;
      })
      | inl more ↦ (
          let left = some_more (fixed_left width begun) more in
          elim (fixed_or_not digits base width same (Fixed (base * fixed_value begun + hex_value x) (fixed_left width begun - 1)) text (omega (arith, left))) [
            | inl none ↦ inl (rw (same begun x (longer_in digits begun text)) (rw fits (rw few (rw more none))))
            | inr one ↦ inr (record {
              written = x ∷ one.written;
              rest = one.rest;
              size = omega (arith, left, one.size);
              all = (is_digit base x fits, one.all);
              small = one.small;
              whole = ap (λ t. x ∷ t) one.whole;
            })
          ])
    ]
  ]
]
