-- What is sent is read again, and damage that the check finds is found.
use Rattle.std.proofs.Common.{◌≡◌, ◌≢◌, ℕ, zero, suc, ◌+◌, ◌-◌, ◌*◌, ◌/◌, ◌%◌, ◌^◌, ◌<◌, ◌≤◌, List, [], ◌∷◌, ◌++◌, length, Bool, true, false, refl, sym, ap, ap₂, ◌∙◌, arith, inl, inr}
use Rattle.std.specs.Prelude.{◌==◌, ◌&&◌, ◌||◌, nat_lt, if◌then◌else◌, fold, flat_map, ◌⊎◌}
use Rattle.std.specs.List.{AllByRecursion}
use Rattle.std.specs.Fn.{iterate}
use Rattle.std.specs.Int.Bits.{bit_xor, xor_self, xor_zero_r, xor_assoc}
use Rattle.std.proofs.lemmas.Bool.Decides.{nat_tests}
use Rattle.std.proofs.lemmas.Bool.{false≢true, and_parts}
use Rattle.std.proofs.lemmas.List.{append-nil, length-append, take_at}
use Rattle.std.proofs.lemmas.Nat.Bits.{same_from_bits_below, bit_at_xor, bit_at_not, bit_at_ones, bit_at-lt}
use Rattle.std.specs.Int.{bit_at, w16}
use Rattle.std.proofs.lemmas.Nat.{xor_lt}
use Rattle.std.proofs.lemmas.List.Sums.{fold-append}
use Rattle.fio_wire.specs.Checks.{divided, with_octet, frame_check_of}
use Rattle.fio_wire.specs.Detection.{register_after, low_bits, bits_of, damaged, flips, error_after}
use Rattle.fio_wire.specs.Laws.{AreOctets, CanSend, IsDetectable, Flips, Fate, Kept, Struck, part_between, IsFate, arrives}
use Rattle.fio_wire.proofs.Lines.{and_false, exact}
use Rattle.std.specs.Prelude.{map}
use Rattle.fio_wire.specs.Frames.{Frame, Damage, with_check, frame_of, is_frame, is_checked, judged, address_in, control_in, message_of_frame}
use Rattle.fio_wire.specs.Octets.{start, said_of, with_flags, stuffed, unstuffed, is_open, said_in, HasNoFlag}
use Rattle.fio_message.specs.declared.limits.TheConstants.{FRAME_OCTETS}
use Rattle.fio_wire.specs.declared.limits.TheConstants.{FLAG, ESCAPE, STUFFED, HELD_OCTETS, GOOD}
use Rattle.fio_wire.proofs.Division.{divided_xor, divided_pos, divided_lt, xor_cancel, pow_next, octet_is_bits, after_both, steps_are_bits, iterated_lt, found_if, odd_found, two_found, burst_found, octets_are_bits}
use Rattle.fio_message.proofs.Bits.{bit_cases}

-- ---- Stuffing

twice_stuffed : (o : ℕ) → bit_xor (bit_xor o STUFFED) STUFFED ≡ o
twice_stuffed o = xor_assoc o STUFFED STUFFED ∙ ap (bit_xor o) (xor_self STUFFED) ∙ xor_zero_r o

unstuffed_octet : (b : Bool) (o : ℕ) (rest : List ℕ) → (o == FLAG || o == ESCAPE) ≡ b
    → unstuffed false ((if b then ESCAPE ∷ bit_xor o STUFFED ∷ [] else o ∷ []) ++ rest) ≡ o ∷ unstuffed false rest
unstuffed_octet true o rest is = ap (λ x. x ∷ unstuffed false rest) (twice_stuffed o)
unstuffed_octet false o rest is =
    let plain : (o == ESCAPE) ≡ false = grind (arith, nat_tests) in
    ap (λ e. if e then unstuffed true rest else o ∷ unstuffed false rest) plain

open_octet : (b : Bool) (o : ℕ) (rest : List ℕ) → (o == FLAG || o == ESCAPE) ≡ b
    → is_open false ((if b then ESCAPE ∷ bit_xor o STUFFED ∷ [] else o ∷ []) ++ rest) ≡ is_open false rest
open_octet true o rest is = refl
open_octet false o rest is =
    let plain : (o == ESCAPE) ≡ false = grind (arith, nat_tests) in
    ap (λ e. is_open e rest) plain

-- what is stuffed is unstuffed again
pub unstuffed_again : (octets : List ℕ) → unstuffed false (stuffed octets) ≡ octets
unstuffed_again [] = refl
unstuffed_again (o ∷ os) = unstuffed_octet (o == FLAG || o == ESCAPE) o (stuffed os) refl ∙ ap (λ x. o ∷ x) (unstuffed_again os)

pub never_open : (octets : List ℕ) → is_open false (stuffed octets) ≡ false
never_open [] = refl
never_open (o ∷ os) = open_octet (o == FLAG || o == ESCAPE) o (stuffed os) refl ∙ never_open os

or_cases : (a b : Bool) → (a || b) ≡ true → (a ≡ true) ⊎ (b ≡ true)
or_cases true b h = inl refl
or_cases false b h = inr h

stuffed_free : (o : ℕ) → (o == FLAG || o == ESCAPE) ≡ true → bit_xor o STUFFED ≢ FLAG
stuffed_free o is e =
    elim (or_cases (o == FLAG) (o == ESCAPE) is) [
      | inl h ↦ (let at : o ≡ FLAG = grind (arith, nat_tests) in let two : bit_xor FLAG STUFFED ≡ FLAG = ap (λ x. bit_xor x STUFFED) (sym at) ∙ e in omega (arith, two))
      | inr h ↦ (let at : o ≡ ESCAPE = grind (arith, nat_tests) in let two : bit_xor ESCAPE STUFFED ≡ FLAG = ap (λ x. bit_xor x STUFFED) (sym at) ∙ e in omega (arith, two))
    ]

free_octet : (b : Bool) (o : ℕ) (rest : List ℕ) → (o == FLAG || o == ESCAPE) ≡ b → HasNoFlag rest
    → HasNoFlag ((if b then ESCAPE ∷ bit_xor o STUFFED ∷ [] else o ∷ []) ++ rest)
free_octet true o rest is h = (omega arith, (stuffed_free o is, h))
free_octet false o rest is h = (λ e. false≢true (grind (arith, nat_tests)), h)

-- nothing that is stuffed has a flag in it
pub free_of_flags : (octets : List ℕ) → HasNoFlag (stuffed octets)
free_of_flags [] = tt
free_of_flags (o ∷ os) = free_octet (o == FLAG || o == ESCAPE) o (stuffed os) refl (free_of_flags os)

-- a frame says itself
pub judged_frame : (octets : List ℕ) → is_frame octets ≡ true → judged false octets ≡ Frame octets ∷ []
judged_frame [] frame = absurd (false≢true frame)
judged_frame (o ∷ os) frame = ap (λ b. (if b then Frame (o ∷ os) else Damage) ∷ []) frame

-- a frame that comes whole is read
pub sent_is_read : (octets : List ℕ) → is_frame octets ≡ true → said_in (stuffed octets) ≡ Frame octets ∷ []
sent_is_read octets frame = ap₂ judged (never_open octets) (unstuffed_again octets) ∙ judged_frame octets frame

-- ---- The check

ones_are_good : iterate divided 16 (2 ^ 16 - 1) ≡ GOOD
unfolding divided
ones_are_good = refl

div_mod_256 : (c : ℕ) → c % 256 + 256 * (c / 256) ≡ c
div_mod_256 c = omega arith

-- the bits of a number by its octets
split_bits : (k m low high : ℕ) → low < 2 ^ k → low_bits k low ++ low_bits m high ≡ low_bits (k + m) (low + 2 ^ k * high)
split_bits zero m low high h =
    let count : m ≡ 0 + m = omega arith in
    let value : high ≡ low + 1 * high = omega (arith, h) in
    ap₂ low_bits count value
split_bits (suc k) m low high h =
    let count : suc (k + m) ≡ suc k + m = omega arith in
    let more : 2 ^ suc k * high ≡ 2 * (2 ^ k * high) = ap (λ x. x * high) (pow_next k) ∙ omega arith in
    let head : low % 2 ≡ (low + 2 ^ suc k * high) % 2 = omega (arith, more) in
    let tail : low / 2 + 2 ^ k * high ≡ (low + 2 ^ suc k * high) / 2 = omega (arith, more) in
    let below : low / 2 < 2 ^ k = omega (arith, h, pow_next k) in
    ap₂ (λ x y. x ∷ y) head (split_bits k m (low / 2) high below ∙ ap (low_bits (k + m)) tail)
    ∙ ap (λ n. low_bits n (low + 2 ^ suc k * high)) count

both_bits : (low high : ℕ) → low < 256 → low_bits 8 low ++ low_bits 8 high ≡ low_bits 16 (low + 256 * high)
both_bits low high h = split_bits 8 8 low high h

turned_bit : (x y : ℕ) → x < 2 → y ≡ 1 - x → (x + y) % 2 ≡ 1
turned_bit x y h e = ap (λ z. (x + z) % 2) e ∙ bit_cases (λ x. (x + (1 - x)) % 2 ≡ 1) refl refl x h

octet_lt : (r o : ℕ) → r < 2 ^ 16 → o < 256 → with_octet r o < 2 ^ 16
unfolding with_octet
octet_lt r o h ho = iterated_lt 8 (bit_xor r o) (xor_lt 16 r o h (omega (arith, ho)))

-- the register after two octets more is 16 steps from both together
two_more : (r low high : ℕ) → low < 256 → high < 256 → with_octet (with_octet r low) high ≡ iterate divided 16 (bit_xor r (low + 256 * high))
two_more r low high hl hh =
    octet_is_bits (with_octet r low) high hh ∙ ap (λ x. register_after x (low_bits 8 high)) (octet_is_bits r low hl)
    ∙ sym (after_both r (low_bits 8 low) (low_bits 8 high))
    ∙ ap (register_after r) (both_bits low high hl)
    ∙ sym (steps_are_bits 16 r (low + 256 * high) (omega arith))

-- a number and its complement
complement : (r : ℕ) → r < 2 ^ 16 → bit_xor r (2 ^ 16 - 1 - r) ≡ 2 ^ 16 - 1
complement r h = same_from_bits_below 16 (bit_xor r (2 ^ 16 - 1 - r)) (2 ^ 16 - 1) (xor_lt 16 r (2 ^ 16 - 1 - r) h (omega (arith, h))) (omega arith)
    (λ i within. bit_at_xor r (2 ^ 16 - 1 - r) i ∙ turned_bit (bit_at r i) (bit_at (2 ^ 16 - 1 - r) i) (bit_at-lt r i) (bit_at_not w16 r i h within) ∙ sym (bit_at_ones 16 i within))

register_lt : (r : ℕ) (octets : List ℕ) → r < 2 ^ 16 → AllByRecursion (λ octet. octet < 256) octets → fold with_octet r octets < 2 ^ 16
register_lt r [] h all = h
register_lt r (o ∷ os) h all = register_lt (with_octet r o) os (octet_lt r o h all.0) all.1

-- octets with their check have the right one
pub check_is_right : (octets : List ℕ) → AllByRecursion (λ octet. octet < 256) octets → fold with_octet (2 ^ 16 - 1) (with_check octets) ≡ GOOD
check_is_right octets all =
    let r : ℕ = fold with_octet (2 ^ 16 - 1) octets in
    let h : r < 2 ^ 16 = register_lt (2 ^ 16 - 1) octets (omega arith) all in
    let c : ℕ = 2 ^ 16 - 1 - r in
    fold-append with_octet (2 ^ 16 - 1) octets (c % 256 ∷ c / 256 ∷ [])
    ∙ two_more r (c % 256) (c / 256) (omega arith) (omega arith)
    ∙ ap (λ x. iterate divided 16 (bit_xor r x)) (div_mod_256 c)
    ∙ ap (iterate divided 16) (complement r h)
    ∙ ones_are_good

-- ---- Damage

-- What a frame is.
pub record Framed (octets : List ℕ) : Type 0 where
  pub least : 4 < length octets
  pub most : length octets ≤ HELD_OCTETS
  pub right : is_checked octets ≡ true

pub framed : (octets : List ℕ) → is_frame octets ≡ true → Framed octets
framed octets frame =
    let more : (nat_lt (length octets) (HELD_OCTETS + 1) && is_checked octets) ≡ true = (and_parts (nat_lt 4 (length octets)) (nat_lt (length octets) (HELD_OCTETS + 1) && is_checked octets) frame).1 in
    let low : nat_lt 4 (length octets) ≡ true = (and_parts (nat_lt 4 (length octets)) (nat_lt (length octets) (HELD_OCTETS + 1) && is_checked octets) frame).0 in
    let high : nat_lt (length octets) (HELD_OCTETS + 1) ≡ true = (and_parts (nat_lt (length octets) (HELD_OCTETS + 1)) (is_checked octets) more).0 in
    record {
      least = grind (arith, nat_tests);
      most = grind (arith, nat_tests);
      right = (and_parts (nat_lt (length octets) (HELD_OCTETS + 1)) (is_checked octets) more).1;
    }

register_of : (octets : List ℕ) → is_checked octets ≡ true → fold with_octet (2 ^ 16 - 1) octets ≡ GOOD
register_of octets h = grind (arith, nat_tests)

unchecked : (octets : List ℕ) → fold with_octet (2 ^ 16 - 1) octets ≢ GOOD → is_checked octets ≡ false
unchecked octets h = grind (arith, nat_tests)

-- the check of damaged octets is wrong
wrong_after : (sent got : List ℕ) (errors : List Bool) → AllByRecursion (λ octet. octet < 256) sent → AllByRecursion (λ octet. octet < 256) got
    → length errors ≡ length (bits_of sent) → bits_of got ≡ damaged (bits_of sent) errors
    → error_after 0 errors ≢ 0 → is_checked sent ≡ true → is_checked got ≡ false
wrong_after sent got errors all also size is more right =
    unchecked got (λ good. found_if (2 ^ 16 - 1) (bits_of sent) errors size more
    (ap (register_after (2 ^ 16 - 1)) (sym is) ∙ sym (octets_are_bits (2 ^ 16 - 1) got also) ∙ good
    ∙ sym (register_of sent right) ∙ octets_are_bits (2 ^ 16 - 1) sent all))

-- ---- One check

by_zero : (n : ℕ) → (0 < n → ⊥) → n ≡ 0
by_zero zero h = refl
by_zero (suc n) h = absurd (h (omega arith))

one_to_one : (a b : ℕ) → a < 2 ^ 16 → b < 2 ^ 16 → divided a ≡ divided b → a ≡ b
one_to_one a b ha hb e =
    let both : bit_xor a b < 2 ^ 16 = xor_lt 16 a b ha hb in
    let gone : divided (bit_xor a b) ≡ 0 = divided_xor a b ∙ ap (λ x. bit_xor x (divided b)) e ∙ xor_self (divided b) in
    let same : bit_xor a b ≡ 0 = by_zero (bit_xor a b) (λ p. omega (arith, divided_pos (bit_xor a b) both p, gone)) in
    sym (xor_zero_r a) ∙ ap (bit_xor a) (sym same) ∙ xor_cancel a b

many_to_many : (k a b : ℕ) → a < 2 ^ 16 → b < 2 ^ 16 → iterate divided k a ≡ iterate divided k b → a ≡ b
many_to_many zero a b ha hb e = e
many_to_many (suc k) a b ha hb e = one_to_one a b ha hb (many_to_many k (divided a) (divided b) (divided_lt a ha) (divided_lt b hb) e)

-- the right check is one number
only_check : (r c : ℕ) → r < 2 ^ 16 → c < 2 ^ 16 → iterate divided 16 (bit_xor r c) ≡ GOOD → c ≡ 2 ^ 16 - 1 - r
only_check r c hr hc good =
    let same : bit_xor r c ≡ 2 ^ 16 - 1 = many_to_many 16 (bit_xor r c) (2 ^ 16 - 1) (xor_lt 16 r c hr hc) (omega arith) (good ∙ sym ones_are_good) in
    sym (xor_cancel r c) ∙ ap (bit_xor r) (same ∙ sym (complement r hr)) ∙ xor_cancel r (2 ^ 16 - 1 - r)

all_front : (front back : List ℕ) → AllByRecursion (λ octet. octet < 256) (front ++ back) → AllByRecursion (λ octet. octet < 256) front
all_front [] back all = tt
all_front (o ∷ os) back all = (all.0, all_front os back all.1)

all_back : (front back : List ℕ) → AllByRecursion (λ octet. octet < 256) (front ++ back) → AllByRecursion (λ octet. octet < 256) back
all_back [] back all = all
all_back (o ∷ os) back all = all_back os back all.1

pub right_is_one : (front : List ℕ) (low high : ℕ) → AllByRecursion (λ octet. octet < 256) (front ++ low ∷ high ∷ [])
    → is_checked (front ++ low ∷ high ∷ []) ≡ true → front ++ low ∷ high ∷ [] ≡ with_check front
right_is_one front low high all right =
    let r : ℕ = fold with_octet (2 ^ 16 - 1) front in
    let h : r < 2 ^ 16 = register_lt (2 ^ 16 - 1) front (omega arith) (all_front front (low ∷ high ∷ []) all) in
    let two : AllByRecursion (λ octet. octet < 256) (low ∷ high ∷ []) = all_back front (low ∷ high ∷ []) all in
    let hl : low < 256 = two.0 in
    let hh : high < 256 = two.1.0 in
    let good : iterate divided 16 (bit_xor r (low + 256 * high)) ≡ GOOD =
    sym (two_more r low high hl hh) ∙ sym (fold-append with_octet (2 ^ 16 - 1) front (low ∷ high ∷ [])) ∙ register_of (front ++ low ∷ high ∷ []) right in
    let c : low + 256 * high ≡ 2 ^ 16 - 1 - r = only_check r (low + 256 * high) h (omega (arith, hl, hh)) good in
    let first : low ≡ (2 ^ 16 - 1 - r) % 256 = omega (arith, hl, c) in
    let second : high ≡ (2 ^ 16 - 1 - r) / 256 = omega (arith, hl, c) in
    ap₂ (λ x y. front ++ x ∷ y ∷ []) first second

-- ---- Laws

leaves : (errors : List Bool) → IsDetectable errors → error_after 0 errors ≢ 0
leaves errors (inl odd) = odd_found errors odd
leaves errors (inr (inl two)) = two_found errors two.1 two.0
leaves errors (inr (inr burst)) = burst_found errors burst

pub found : (errors : List Bool) (sent got : List ℕ) → Flips errors sent got → IsDetectable errors → is_checked sent ≡ true → is_checked got ≡ false
found errors sent got f kind right = wrong_after sent got errors f.octets_sent f.octets_got f.size f.bits (leaves errors kind) right

-- a message within its lengths makes a frame
pub frame_is : (address control : ℕ) (message : List ℕ) → CanSend address control message → is_frame (frame_of address control message) ≡ true
frame_is address control message can =
    let octets : List ℕ = address ∷ control ∷ message in
    let r : ℕ = frame_check_of octets in
    let long : length (with_check octets) ≡ length octets + 2 = length-append octets (r % 256 ∷ r / 256 ∷ []) in
    let good : fold with_octet (2 ^ 16 - 1) (with_check octets) ≡ GOOD = check_is_right octets can.octets in
    let low : 1 ≤ length message = can.least in
    let high : length message ≤ FRAME_OCTETS = can.most in
    let a : nat_lt 4 (length (with_check octets)) ≡ true = grind (arith, nat_tests) in
    let b : nat_lt (length (with_check octets)) (HELD_OCTETS + 1) ≡ true = grind (arith, nat_tests) in
    let c : (fold with_octet (2 ^ 16 - 1) (with_check octets) == GOOD) ≡ true = grind (arith, nat_tests) in
    ap₂ ◌&&◌ a (ap₂ ◌&&◌ b c)

pub sent_frame : (address control : ℕ) (message : List ℕ) → CanSend address control message
    → HasNoFlag (stuffed (frame_of address control message)) × (said_in (stuffed (frame_of address control message)) ≡ Frame (frame_of address control message) ∷ [])
sent_frame address control message can =
    (free_of_flags (frame_of address control message), sent_is_read (frame_of address control message) (frame_is address control message can))

-- a frame has its message, between header and check
pub message_again : (address control : ℕ) (message : List ℕ) → message_of_frame (frame_of address control message) ≡ message
message_again address control message =
    let r : ℕ = frame_check_of (address ∷ control ∷ message) in
    let count : length (frame_of address control message) - 4 ≡ length message = omega (arith, length-append message (r % 256 ∷ r / 256 ∷ [])) in
    take_at message (r % 256 ∷ r / 256 ∷ []) (length (frame_of address control message) - 4) (sym count)

pub frame_has : (address control : ℕ) (message : List ℕ)
    → (address_in (frame_of address control message) ≡ address) × ((control_in (frame_of address control message) ≡ control) × (message_of_frame (frame_of address control message) ≡ message))
frame_has address control message = (refl, (refl, message_again address control message))

pub length_bits : (octets : List ℕ) → length (bits_of octets) ≡ 8 * length octets
length_bits [] = refl
length_bits (o ∷ os) = length-append (low_bits 8 o) (bits_of os) ∙ omega (arith, length_bits os)

pub length_damaged : (bits : List ℕ) (errors : List Bool) → length (damaged bits errors) ≡ length bits
length_damaged [] errors = refl
length_damaged (b ∷ bs) [] = refl
length_damaged (b ∷ bs) (e ∷ es) = ap suc (length_damaged bs es)

pub judged_damage : (b : Bool) (octets : List ℕ) → 0 < length octets → is_checked octets ≡ false → judged b octets ≡ Damage ∷ []
judged_damage true octets long wrong = refl
judged_damage false [] long _ = absurd (omega (arith, long))
judged_damage false (o ∷ os) long wrong =
    ap (λ b. (if nat_lt 4 (length (o ∷ os)) && (nat_lt (length (o ∷ os)) (HELD_OCTETS + 1) && b) then Frame (o ∷ os) else Damage) ∷ []) wrong
    ∙ ap (λ b. (if nat_lt 4 (length (o ∷ os)) && b then Frame (o ∷ os) else Damage) ∷ []) (and_false (nat_lt (length (o ∷ os)) (HELD_OCTETS + 1)))
    ∙ ap (λ b. (if b then Frame (o ∷ os) else Damage) ∷ []) (and_false (nat_lt 4 (length (o ∷ os))))

-- what is checked has octets
pub some_octets : (octets : List ℕ) → is_checked octets ≡ true → 0 < length octets
some_octets [] right = absurd (false≢true right)
some_octets (o ∷ os) right = omega arith

pub same_length : (errors : List Bool) (sent got : List ℕ) → Flips errors sent got → length got ≡ length sent
same_length errors sent got f =
    omega (arith, length_bits sent, length_bits got, ap length f.bits, length_damaged (bits_of sent) errors)

fate_said : (fate : Fate) → IsFate fate → said_in (part_between fate) ≡ arrives fate ∷ []
fate_said (Kept octets) is = sent_is_read octets is
fate_said (Struck octets errors part) is =
    let f : Flips errors octets (unstuffed false part) = is.1.1.0 in
    let wrong : is_checked (unstuffed false part) ≡ false = found errors octets (unstuffed false part) f is.1.1.1 is.1.0 in
    let long : 0 < length (unstuffed false part) = omega (arith, some_octets octets is.1.0, same_length errors octets (unstuffed false part) f) in
    judged_damage (is_open false part) (unstuffed false part) long wrong

fate_free : (fate : Fate) → IsFate fate → HasNoFlag (part_between fate)
fate_free (Kept octets) is = free_of_flags octets
fate_free (Struck octets errors part) is = is.0

fates_free : (fates : List Fate) → AllByRecursion IsFate fates → AllByRecursion HasNoFlag (map part_between fates)
fates_free [] all = tt
fates_free (f ∷ fs) all = (fate_free f all.0, fates_free fs all.1)

fates_said : (fates : List Fate) → AllByRecursion IsFate fates → flat_map said_in (map part_between fates) ≡ map arrives fates
fates_said [] all = refl
fates_said (f ∷ fs) all = ap₂ ◌++◌ (fate_said f all.0) (fates_said fs all.1)

pub arrive : (fates : List Fate) → AllByRecursion IsFate fates → said_of start (FLAG ∷ with_flags (map part_between fates)) ≡ map arrives fates
arrive fates all =
    ap (λ x. said_of start (FLAG ∷ x)) (sym (append-nil (with_flags (map part_between fates))))
    ∙ exact [] (map part_between fates) [] tt (fates_free fates all) tt
    ∙ fates_said fates all

few_of : (n : ℕ) (errors : List Bool) → flips errors ≡ n → 1 ≤ n → n ≤ 3 → length errors < 32768 → IsDetectable errors
few_of zero errors is least most size = absurd (omega (arith, least))
few_of (suc (suc zero)) errors is least most size = inr (inl (is, size))
few_of (suc (suc (suc (suc n)))) errors is least most size = absurd (omega (arith, most))
few_of _ errors is least most size = inl (omega (arith, is))

pub few : (errors : List Bool) → 1 ≤ flips errors → flips errors ≤ 3 → length errors < 32768 → IsDetectable errors
few errors least most size = few_of (flips errors) errors refl least most size

both_octets : (front back : List ℕ) → AreOctets front → AreOctets back → AreOctets (front ++ back)
both_octets [] back h k = k
both_octets (o ∷ os) back h k = (h.0, both_octets os back h.1 k)

pub checked_octets : (octets : List ℕ) → AreOctets octets → AreOctets (with_check octets)
checked_octets octets all =
    let r : ℕ = frame_check_of octets in
    let small : r < 2 ^ 16 = omega arith in
    both_octets octets (r % 256 ∷ r / 256 ∷ []) all (omega arith, (omega (arith, small), tt))
