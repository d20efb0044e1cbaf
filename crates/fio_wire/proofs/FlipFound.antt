-- One flipped bit on a line with bit stuffing is found, if it makes no six ones in a row.
use Rattle.std.proofs.Common.{◌≡◌, ◌≢◌, ℕ, zero, suc, ◌+◌, ◌*◌, ◌/◌, ◌%◌, ◌^◌, ◌<◌, List, [], ◌∷◌, ◌++◌, length, Bool, true, false, refl, sym, ap, ap₂, ◌∙◌, arith, inl, inr, subst}
use Rattle.std.specs.Prelude.{◌==◌, ◌||◌, not, if◌then◌else◌, nat_lt, fold, map}
use Rattle.std.specs.Int.Bits.{bit_xor, xor_zero_r}
use Rattle.std.proofs.lemmas.Bool.Decides.{nat_tests}
use Rattle.fio_wire.specs.Frames.{Damage, is_frame, is_checked, judged}
use Rattle.fio_wire.specs.declared.limits.TheConstants.{HELD_OCTETS}
use Rattle.fio_wire.specs.Detection.{low_bits, bits_of, damaged, flips}
use Rattle.fio_wire.specs.Bits.{Packing, none_packed, packed, with_value, said_in, destuffed, bit_stuffed, line_bits, HasNoSix}
use Rattle.fio_wire.specs.Laws.{AreOctets, Flips, IsDetectable, OneFlip}
use Rattle.fio_wire.proofs.BitLines.{octets_said, destuffed_again, stuffed_has_no_six}
use Rattle.fio_wire.proofs.OneFlip.{near, IsNear}
use Rattle.fio_wire.proofs.Division.{low_is, pow_next}
use Rattle.fio_wire.proofs.Sent.{Framed, found, framed, judged_damage, same_length}
use Rattle.fio_wire.proofs.Lengths.{length_line_bits}
use Rattle.fio_message.proofs.Bits.{bit_cases}

-- ---- Bits as numbers

abbrev number : Bool → ℕ
number bit = if bit then 1 else 0

abbrev numbers : List Bool → List ℕ
numbers bits = map number bits

number_back : (n : ℕ) → n < 2 → number (n == 1) ≡ n
number_back n h = bit_cases (λ n. number (n == 1) ≡ n) refl refl n h

low_numbers : (k n : ℕ) → numbers (map (λ bit. bit == 1) (low_bits k n)) ≡ low_bits k n
low_numbers zero n = refl
low_numbers (suc k) n = ap₂ (λ x y. x ∷ y) (number_back (n % 2) (low_is n)) (low_numbers k (n / 2))

numbers_both : (front back : List Bool) → numbers (front ++ back) ≡ numbers front ++ numbers back
numbers_both [] back = refl
numbers_both (b ∷ bs) back = ap (λ x. number b ∷ x) (numbers_both bs back)

line_numbers : (octets : List ℕ) → numbers (line_bits octets) ≡ bits_of octets
line_numbers [] = refl
line_numbers (o ∷ os) =
    numbers_both (map (λ bit. bit == 1) (low_bits 8 o)) (line_bits os) ∙ ap₂ ◌++◌ (low_numbers 8 o) (line_numbers os)

length_numbers : (bits : List Bool) → length (numbers bits) ≡ length bits
length_numbers [] = refl
length_numbers (b ∷ bs) = ap suc (length_numbers bs)

-- ---- The errors of one flip

abbrev no_errors : List Bool → List Bool
no_errors bits = map (λ bit. false) bits

none_damaged : (bits : List Bool) → damaged (numbers bits) (no_errors bits) ≡ numbers bits
none_damaged [] = refl
none_damaged (b ∷ bs) = ap₂ (λ x y. x ∷ y) (xor_zero_r (number b)) (none_damaged bs)

none_flipped : (bits : List Bool) → flips (no_errors bits) ≡ 0
none_flipped [] = refl
none_flipped (b ∷ bs) = none_flipped bs

length_none : (bits : List Bool) → length (no_errors bits) ≡ length bits
length_none [] = refl
length_none (b ∷ bs) = ap suc (length_none bs)

other_bit : (b c : Bool) → b ≢ c → bit_xor (number b) 1 ≡ number c
other_bit true true h = absurd (h refl)
other_bit true false h = refl
other_bit false true h = refl
other_bit false false h = absurd (h refl)

record OneError (bits others : List Bool) : Type 0 where
  errors : List Bool
  size : length errors ≡ length bits
  damage : damaged (numbers bits) errors ≡ numbers others
  one : flips errors ≡ 1

one_error : (bits others : List Bool) → OneFlip bits others → OneError bits others
one_error [] others flip = absurd flip
one_error (b ∷ bits) [] flip = absurd flip
one_error (b ∷ bits) (c ∷ others) (inl flip) = record {
  errors = true ∷ no_errors bits;
  size = ap suc (length_none bits);
  damage = ap₂ (λ x y. x ∷ y) (other_bit b c flip.0) (none_damaged bits ∙ ap numbers flip.1);
  one = ap (λ n. 1 + n) (none_flipped bits);
}
one_error (b ∷ bits) (c ∷ others) (inr flip) =
    let e : OneError bits others = one_error bits others flip.1 in
    record {
      errors = false ∷ e.errors;
      size = ap suc e.size;
      damage = ap₂ (λ x y. x ∷ y) (xor_zero_r (number b) ∙ ap number flip.0) e.damage;
      one = e.one;
    }

-- ---- Octets of bits

-- the number that bits make, the lowest first
abbrev number_of : List Bool → ℕ
number_of [] = 0
number_of (b ∷ bs) = number b + 2 * number_of bs

number_lt_two : (b : Bool) → number b < 2
number_lt_two true = omega arith
number_lt_two false = omega arith

number_is : (b : Bool) → (number b == 1) ≡ b
number_is true = refl
number_is false = refl

bits_again : (bits : List Bool) → map (λ bit. bit == 1) (low_bits (length bits) (number_of bits)) ≡ bits
bits_again [] = refl
bits_again (b ∷ bs) =
    let h : number b < 2 = number_lt_two b in
    let low : (number b + 2 * number_of bs) % 2 ≡ number b = omega (arith, h) in
    let high : (number b + 2 * number_of bs) / 2 ≡ number_of bs = omega (arith, h) in
    ap₂ (λ x y. x ∷ y) (ap (λ n. n == 1) low ∙ number_is b)
    (ap (λ n. map (λ bit. bit == 1) (low_bits (length bs) n)) high ∙ bits_again bs)

number_lt : (bits : List Bool) → number_of bits < 2 ^ length bits
number_lt [] = omega arith
number_lt (b ∷ bs) = omega (arith, number_lt bs, number_lt_two b, pow_next (length bs))

record Octets (bits : List Bool) : Type 0 where
  octets : List ℕ
  are : AreOctets octets
  spell : line_bits octets ≡ bits

octets_of : (k : ℕ) (bits : List Bool) → length bits ≡ 8 * k → Octets bits
octets_of zero [] h = record { octets = []; are = tt; spell = refl }
octets_of zero (b ∷ bs) h = absurd (omega (arith, h))
octets_of (suc k) (a ∷ b ∷ c ∷ d ∷ e ∷ f ∷ g ∷ i ∷ bits) h =
    let rest : Octets bits = octets_of k bits (omega (arith, h)) in
    let first : List Bool = a ∷ b ∷ c ∷ d ∷ e ∷ f ∷ g ∷ i ∷ [] in
    record {
      octets = number_of first ∷ rest.octets;
      are = (number_lt first, rest.are);
      spell = ap₂ ◌++◌ (bits_again first) rest.spell;
    }
octets_of (suc k) bits h = absurd (omega (arith, h))

-- ---- Bits that make no whole octets

value_count : (below room : Bool) (n : ℕ) (a b c : Packing) → (below ≡ true → a.count ≡ n) → (below ≡ false → n ≡ 0) → b.count ≡ 0 → c.count ≡ 0
    → (if below then a else (if room then b else c)).count ≡ n
value_count true room n a b c h k l m = h refl
value_count false true n a b c h k l m = l ∙ sym (k refl)
value_count false false n a b c h k l m = m ∙ sym (k refl)

count_on : (n : ℕ) → nat_lt n 7 ≡ true → n + 1 ≡ (n + 1) % 8
count_on n h = let l : n < 7 = grind (arith, nat_tests) in omega (arith, l)

count_over : (n : ℕ) → n < 8 → nat_lt n 7 ≡ false → (n + 1) % 8 ≡ 0
count_over n h k = let l : n ≡ 7 = grind (arith, nat_tests) in omega (arith, l)

with_value_count : (packing : Packing) (value : ℕ) → packing.count < 8 → (with_value packing value).count ≡ (packing.count + 1) % 8
with_value_count packing value h =
    value_count (nat_lt packing.count 7) (nat_lt (length packing.octets) HELD_OCTETS) ((packing.count + 1) % 8)
    (record { octets = packing.octets; value = value; count = packing.count + 1; is_long = packing.is_long })
    (record { octets = packing.octets ++ value ∷ []; value = 0; count = 0; is_long = packing.is_long })
    (record { octets = packing.octets; value = 0; count = 0; is_long = true })
    (count_on packing.count) (count_over packing.count h) refl refl

packed_count : (packing : Packing) (bits : List Bool) → packing.count < 8 → (fold packed packing bits).count ≡ (packing.count + length bits) % 8
packed_count packing [] h = omega (arith, h)
packed_count packing (b ∷ bits) h =
    let one : (packed packing b).count ≡ (packing.count + 1) % 8 = with_value_count packing (packing.value / 2 + (if b then 128 else 0)) h in
    packed_count (packed packing b) bits (omega (arith, one)) ∙ omega (arith, one)

partial_said : (part : List Bool) → length (destuffed 0 part) % 8 ≢ 0 → said_in part ≡ Damage ∷ []
partial_said part h =
    let packing : Packing = fold packed none_packed (destuffed 0 part) in
    let count : packing.count ≡ (0 + length (destuffed 0 part)) % 8 = packed_count none_packed (destuffed 0 part) (omega arith) in
    let more : packing.count ≢ 0 = λ e. h (omega (arith, count, e)) in
    let some : (packing.count == 0) ≡ false = grind (arith, nat_tests) in
    ap (λ t. judged (not t || packing.is_long) packing.octets) some

-- ---- One flip

length_flip : (bits others : List Bool) → OneFlip bits others → length others ≡ length bits
length_flip [] others flip = absurd flip
length_flip (b ∷ bits) [] flip = absurd flip
length_flip (b ∷ bits) (c ∷ others) (inl flip) = ap (λ x. suc (length x)) (sym flip.1)
length_flip (b ∷ bits) (c ∷ others) (inr flip) = ap suc (length_flip bits others flip.1)

turned_said : (octets : List ℕ) (part : List Bool) → AreOctets octets → is_frame octets ≡ true → OneFlip (line_bits octets) (destuffed 0 part) → said_in part ≡ Damage ∷ []
turned_said octets part all frame flip =
    let is : Framed octets = framed octets frame in
    let size : length (destuffed 0 part) ≡ 8 * length octets = length_flip (line_bits octets) (destuffed 0 part) flip ∙ length_line_bits octets in
    let got : Octets (destuffed 0 part) = octets_of (length octets) (destuffed 0 part) size in
    let e : OneError (line_bits octets) (destuffed 0 part) = one_error (line_bits octets) (destuffed 0 part) flip in
    let f : Flips e.errors octets got.octets = record {
      octets_sent = all;
      octets_got = got.are;
      size = e.size ∙ sym (length_numbers (line_bits octets)) ∙ ap length (line_numbers octets);
      bits = sym (line_numbers got.octets) ∙ ap numbers got.spell ∙ sym e.damage ∙ ap (λ x. damaged x e.errors) (line_numbers octets);
    } in
    let odd : IsDetectable e.errors = inl (omega (arith, e.one)) in
    let wrong : is_checked got.octets ≡ false = found e.errors octets got.octets f odd is.right in
    let same : length got.octets ≡ length octets = same_length e.errors octets got.octets f in
    octets_said got.octets part (omega (arith, same, is.most)) got.are (sym got.spell)
    ∙ judged_damage false got.octets (omega (arith, same, is.least)) wrong

-- One flipped bit of a frame on the line is found, if it makes no six ones in a row.
pub one_flip_is_found : (octets : List ℕ) (part : List Bool) → AreOctets octets → is_frame octets ≡ true
    → OneFlip (bit_stuffed 0 (line_bits octets)) part → HasNoSix 0 part → said_in part ≡ Damage ∷ []
one_flip_is_found octets part all frame flip free =
    let close : IsNear (destuffed 0 (bit_stuffed 0 (line_bits octets))) (destuffed 0 part) =
    near 0 (bit_stuffed 0 (line_bits octets)) part flip (stuffed_has_no_six 0 (line_bits octets) (omega arith)) free in
    let near_octets : IsNear (line_bits octets) (destuffed 0 part) =
    subst (λ x. IsNear x (destuffed 0 part)) (destuffed_again 0 (line_bits octets) (omega arith)) close in
    elim near_octets [
      | inl one ↦ turned_said octets part all frame one
      | inr other ↦ (elim other [
        | inl more ↦ partial_said part (λ e. omega (arith, more, e, length_line_bits octets))
        | inr fewer ↦ partial_said part (λ e. omega (arith, fewer, e, length_line_bits octets))
      ])
    ]
